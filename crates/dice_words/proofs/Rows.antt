-- What the rows of a level hold if its parse passes: each argument that has one has a value that it
-- takes.
use Rattle.std.proofs.Common.{◌⊎◌, inl, inr, ⊎_elim, ◌≡◌, ◌∙◌, ◌&&◌, ◌||◌, ℕ, zero, suc, Bool, true, false, not, List, [], ◌∷◌, ◌++◌, length, drop, find, Option, Some, None, is_some, if◌then◌else◌, cond, nat_le, nat_lt, bytes_eq, encode_utf8, slice_get, chars, refl, sym, ap, subst, arith, ltb-true, option_map}
use Rattle.std.proofs.lemmas.Bool.{leb-true, or_right}
use Rattle.std.proofs.lemmas.Option.{same_Some}
use Rattle.std.proofs.lemmas.Slice.Eq.{bytes_eq-Decides}
use Rattle.std.specs.List.{AllByRecursion, fold, list_all, list_any}
use Rattle.std.specs.Option.{option_and_then, option_map_or}
use Rattle.clap.specs.Lexer.{long_of, short_of}
use Rattle.clap.specs.Values.{is_request, read_as}
use Rattle.clap.specs.Facts.{explicit_source, unwrap_or_range}
use Rattle.clap.specs.Walk.{Held, Names, Outcome, Row, Rule, Step, Text, Waiting, Walk, action_of, after_flag, after_step, arg_by_id, arg_by_index, arg_by_long, arg_by_short, at_row, attached_value, bundle_met, bundle_step, default_rows, done, finished, flag_met, has_row, is_empty, is_pending, long_met, long_or_other, more_values, most_values, nothing_held, one_of, option_met, option_word, plain, plain_word, positional_held, reacted, reading_by, refused, row_text, rows_after, settled, settled_rows, short_met, short_or_plain, subcommand_met, subcommand_or_other, takes_several, takes_values, to_positional, used, used_as, used_by_id, value, values_or_missing, waits, walk, walk_from, walked, walked_from, with_default, with_values, without, word_met}
use Rattle.clap.specs.Walk.{idle, option, positional, next, trailing, subcommand}
use Rattle.clap.specs.Simple.{Shape}
use Rattle.clap.specs.Takes.{action_passes, bundle_step_passes, default_passes, flag_word_passes, flags_pass, is_given, level_passes, long_passes, option_passes, other_passes, positional_passes, react_passes, settle_passes, short_passes, step_passes, turn_passes, use_passes, value_passes, values_pass, walk_passes, word_passes}
use Rattle.clap.specs.declared.builder.ArgAction.{ArgAction}
use Rattle.clap.specs.declared.builder.ArgAction.TheVariants.{Set, Append, SetTrue, SetFalse, Count}
use Rattle.clap.specs.declared.parser.matches.ValueSource.{ValueSource}
use Rattle.clap.specs.declared.parser.matches.ValueSource.TheVariants.{CommandLine, DefaultValue}
use Rattle.clap.proofs.SimpleLemmas.{is_nil}
use Rattle.clap.proofs.WalkLemmas.{both}
use Rattle.lists.proofs.Each.{all_append}

-- ---- lists

found_first : {X : Type 0} (b : Bool) (x y : X) (rest : Option X) → (if b then Some x else rest) ≡ Some y → (x ≡ y) ⊎ (rest ≡ Some y)
found_first true x y rest e = inl (same_Some x y e)
found_first false x y rest e = inr e

-- what holds of each holds of the one that is found
pub all_found : {X : Type 0} (P : X → Type 0) (test : X → Bool) (xs : List X) → AllByRecursion P xs → (y : X) → find test xs ≡ Some y → P y
all_found P test [] all y e = cc
all_found P test (x ∷ xs) all y e = ⊎_elim (λ h. subst P h all.0) (λ h. all_found P test xs all.1 y h) (found_first (test x) x y (find test xs) e)

has_some : (v : Text) (vs : List Text) → is_empty (v ∷ vs) ≡ true → ⊥
has_some v vs e = let bad : v ∷ vs ≡ [] = is_nil (v ∷ vs) e in cc

or_last : (a b : Bool) → (a ≡ true → ⊥) → (a || b) ≡ true → b ≡ true
or_last true b f e = absurd (f refl)
or_last false b f e = e

-- ---- the values of a use

-- the row has a value that the argument takes, and is read as the argument says
abbrev pub HasValue : Rule → Row → Type 0
HasValue a r = (v : Text) × (vs : List Text) × (r.values ≡ v ∷ vs) × (value_passes a v ≡ true) × (r.reading ≡ reading_by a)

-- so is a row of one of the arguments
abbrev pub IsRead : List Rule → Row → Type 0
IsRead c r = (a : Rule) → arg_by_id c r.id ≡ Some a → HasValue a r

abbrev pub AreRead : List Rule → List Row → Type 0
AreRead c = AllByRecursion (IsRead c)

-- a use that passes sets a value
abbrev pub sets_value : ArgAction → Rule → Bool
sets_value Set a = nat_lt 0 (unwrap_or_range a.range).start_inclusive
sets_value SetTrue a = not (is_empty a.missing)
sets_value SetFalse a = not (is_empty a.missing)
sets_value Append a = false
sets_value Count a = false
sets_value _ a = true

-- an argument that is the first of its id and sets a value
abbrev pub IsSetter : List Rule → Rule → Type 0
IsSetter c a = (arg_by_id c a.id ≡ Some a) × (sets_value (action_of a) a ≡ true)

abbrev pub AreSetters : List Rule → Type 0
AreSetters c = AllByRecursion (IsSetter c) c

has_first : (vs : List Text) → not (is_empty vs) ≡ true → (v : Text) × (ws : List Text) × (vs ≡ v ∷ ws)
has_first [] e = cc
has_first (v ∷ vs) e = (v, vs, refl)

use_has_first : (x : ArgAction) (again : Bool) (a : Rule) (vs : List Text) (rows : List Row) → sets_value x a ≡ true → nat_le (unwrap_or_range a.range).start_inclusive (length vs) ≡ true
    → action_passes x again a (values_or_missing a vs) rows ≡ true → (v : Text) × (ws : List Text) × (values_or_missing a vs ≡ v ∷ ws)
use_has_first x again a (v ∷ vs) rows f n e = (v, vs, refl)
use_has_first Set again a [] rows f n e = absurd (omega (arith, ltb-true _ _ f, leb-true _ _ n))
use_has_first SetTrue again a [] rows f n e = has_first a.missing f
use_has_first SetFalse again a [] rows f n e = has_first a.missing f
use_has_first _ again a [] rows f n e = cc

use_takes : (x : ArgAction) (again : Bool) (a : Rule) (vs : List Text) (rows : List Row) → sets_value x a ≡ true → action_passes x again a vs rows ≡ true → values_pass a vs ≡ true
use_takes Set again a vs rows f e = (both _ _ e).1
use_takes SetTrue again a vs rows f e = (both _ _ e).1
use_takes SetFalse again a vs rows f e = (both _ _ e).1
use_takes _ again a vs rows f e = cc

at_row_all : (P : Row → Type 0) (id : Text) (change : Row → List Row) (missing : List Row) → ((r : Row) → P r → AllByRecursion P (change r)) → AllByRecursion P missing
    → (rows : List Row) → AllByRecursion P rows → AllByRecursion P (at_row id change missing rows)
at_row_all P id change missing f m [] h = m
at_row_all P id change missing f m (r ∷ rs) h = go (bytes_eq r.id id) (at_row_all P id change missing f m rs h.1)
  where
    go : (b : Bool) → AllByRecursion P (at_row id change missing rs) → AllByRecursion P (cond b (change r ++ rs) (r ∷ at_row id change missing rs))
    go true later = all_append P (change r) rs (f r h.0) h.1
    go false later = (h.0, later)

module _ (c : List Rule) where
  more_read : (s : ValueSource) (ws : List Text) (r : Row) → IsRead c r → AreRead c (more_values s ws r)
  more_read s ws r h = (λ a e. ((h a e).0, (h a e).1 ++ ws, ap (λ l. l ++ ws) (h a e).2, (h a e).3, (h a e).4), tt)

  abbrev new_row : Rule → ValueSource → List Text → Row
  new_row a s vs = record { id = a.id; values = vs; count = None; source = Some s; reading = reading_by a }

  new_read : (a : Rule) (s : ValueSource) (v : Text) (ws : List Text) → arg_by_id c a.id ≡ Some a → value_passes a v ≡ true → IsRead c (new_row a s (v ∷ ws))
  new_read a s v ws known e b f = subst (λ x. HasValue x (new_row a s (v ∷ ws))) (same_Some a b (sym known ∙ f)) (v, ws, refl, e, refl)

  added_read : (a : Rule) (s : ValueSource) (v : Text) (ws : List Text) (rows : List Row) → arg_by_id c a.id ≡ Some a → value_passes a v ≡ true → AreRead c rows
      → AreRead c (with_values a.id (reading_by a) s (v ∷ ws) rows)
  added_read a s v ws rows known e h = at_row_all (IsRead c) a.id (more_values s (v ∷ ws)) (new_row a s (v ∷ ws) ∷ []) (more_read s (v ∷ ws)) (new_read a s v ws known e, tt) rows h

  without_read : (id : Text) (rows : List Row) → AreRead c rows → AreRead c (without id rows)
  without_read id rows h = at_row_all (IsRead c) id (λ _. []) [] (λ r g. tt) tt rows h

  used_as_read : (x : ArgAction) (again : Bool) (a : Rule) (v : Text) (ws : List Text) (rows : List Row) → arg_by_id c a.id ≡ Some a → sets_value x a ≡ true → value_passes a v ≡ true
      → action_passes x again a (v ∷ ws) rows ≡ true → AreRead c rows → AreRead c (used_as x a.id (reading_by a) (v ∷ ws) rows)
  used_as_read Set again a v ws rows known f e passes h = added_read a CommandLine v ws (without a.id rows) known e (without_read a.id rows h)
  used_as_read SetTrue again a v ws rows known f e passes h = added_read a CommandLine v ws (without a.id rows) known e (without_read a.id rows h)
  used_as_read SetFalse again a v ws rows known f e passes h = added_read a CommandLine v ws (without a.id rows) known e (without_read a.id rows h)
  used_as_read _ again a v ws rows known f e passes h = cc

-- ---- the walk

module _ (c : List Rule) (again : Bool) (all : AreSetters c) where
  setter : (test : Rule → Bool) (a : Rule) → find test c ≡ Some a → IsSetter c a
  setter test a e = all_found (IsSetter c) test c all a e

  used_read : (a : Rule) (vs : List Text) (rows : List Row) → IsSetter c a → use_passes again a vs rows ≡ true → AreRead c rows → AreRead c (used a vs rows)
  used_read a vs rows is e h =
      let n = both (nat_le (unwrap_or_range a.range).start_inclusive (length vs)) _ e in
      let m = both (nat_le (length vs) (most_values a)) _ n.1 in
      let f = use_has_first (action_of a) again a vs rows is.1 n.0 m.1 in
      let passes : action_passes (action_of a) again a (f.0 ∷ f.1) rows ≡ true = subst (λ l. action_passes (action_of a) again a l rows ≡ true) f.2 m.1 in
      let taken : (value_passes a f.0 ≡ true) × (values_pass a f.1 ≡ true) = both _ _ (use_takes (action_of a) again a (f.0 ∷ f.1) rows is.1 passes) in
      subst (λ l. AreRead c (used_as (action_of a) a.id (reading_by a) l rows)) (sym f.2) (used_as_read c (action_of a) again a f.0 f.1 rows is.0 is.1 taken.0 passes h)

  by_id_read : (o : Option Rule) (vs : List Text) (rows : List Row) → ((a : Rule) → o ≡ Some a → IsSetter c a) → option_map_or (λ a. use_passes again a vs rows) o true ≡ true
      → AreRead c rows → AreRead c (used_by_id o vs rows)
  by_id_read None vs rows is e h = h
  by_id_read (Some a) vs rows is e h = used_read a vs rows (is a refl) e h

  pending_read : (p : Option (Text × List Text)) (rows : List Row) → option_map_or (λ q. option_map_or (λ a. use_passes again a q.1 rows) (arg_by_id c q.0) true) p true ≡ true
      → AreRead c rows → AreRead c (settled_rows c p rows)
  pending_read None rows e h = h
  pending_read (Some p) rows e h = by_id_read (arg_by_id c p.0) p.1 rows (setter _) e h

  settled_read : (h : Held) → settle_passes c again h ≡ true → AreRead c h.rows → AreRead c (settled c h).rows
  settled_read h e r = pending_read h.pending h.rows e r

  reacted_read : (a : Rule) (vs : List Text) (h : Held) → IsSetter c a → react_passes c again a vs h ≡ true → AreRead c h.rows → AreRead c (reacted c a vs h).rows
  reacted_read a vs h is e r =
      let n = both (settle_passes c again h) _ e in
      used_read a vs (settled c h).rows is n.1 (settled_read h n.0 r)

  option_read : (a : Rule) (v : Option Text) (h : Held) → IsSetter c a → option_passes c again a v h ≡ true → AreRead c h.rows → AreRead c (option_met c a v h).0.rows
  option_read a (Some v) h is e r = reacted_read a (v ∷ []) h is e r
  option_read a None h is e r = settled_read h e r

  flag_read : (a : Rule) (v : Option Text) (h : Held) → IsSetter c a → (not (is_some v) && react_passes c again a [] h) ≡ true → AreRead c h.rows → AreRead c (flag_met c a v h).0.rows
  flag_read a (Some v) h is e r = r
  flag_read a None h is e r = reacted_read a [] h is e r

  long_read : (o : Option Rule) (v : Option Text) (h : Held) → ((a : Rule) → o ≡ Some a → IsSetter c a) → long_passes c again o v h ≡ true → AreRead c h.rows
      → AreRead c (long_met c o v h).0.rows
  long_read None v h is e r = r
  long_read (Some a) v h is e r = go (takes_values a) e
    where
      go : (b : Bool) → cond b (option_passes c again a v h) (not (is_some v) && react_passes c again a [] h) ≡ true → AreRead c (cond b (option_met c a v h) (flag_met c a v h)).0.rows
      go true f = option_read a v h (is a refl) f r
      go false f = flag_read a v h (is a refl) f r

  short_read : (o : Option Rule) (rest : Text) (h : Held) (after : Held → Held × Outcome) (passes : Held → Bool) → ((a : Rule) → o ≡ Some a → IsSetter c a)
      → ((k : Held) → passes k ≡ true → AreRead c k.rows → AreRead c (after k).0.rows) → short_passes c again o rest h passes ≡ true → AreRead c h.rows
      → AreRead c (short_met c o rest h after).0.rows
  short_read None rest h after passes is onward e r = r
  short_read (Some a) rest h after passes is onward e r = go (takes_values a) e
    where
      go : (b : Bool) → cond b (option_passes c again a (attached_value rest) h) (react_passes c again a [] h && passes (reacted c a [] h)) ≡ true
          → AreRead c (cond b (option_met c a (attached_value rest) h) (after (reacted c a [] h))).0.rows
      go true f = option_read a (attached_value rest) h (is a refl) f r
      go false f =
          let n = both (react_passes c again a [] h) _ f in
          onward (reacted c a [] h) n.1 (reacted_read a [] h (is a refl) n.0 r)

  step_read : (o : Option ℕ) (flags : Text) (skip : ℕ) (so_far : Outcome) (h : Held) (after : Text → ℕ → Outcome → Held → Held × Outcome) (passes : Text → ℕ → Held → Bool)
      → ((t : Text) (n : ℕ) (so : Outcome) (k : Held) → passes t n k ≡ true → AreRead c k.rows → AreRead c (after t n so k).0.rows)
      → bundle_step_passes c again o flags skip h passes ≡ true → AreRead c h.rows → AreRead c (bundle_step c o flags skip so_far h after).0.rows
  step_read None flags skip so_far h after passes onward e r = r
  step_read (Some x) flags zero so_far h after passes onward e r =
      let rest = drop (length (encode_utf8 x)) flags in
      short_read (arg_by_short c x) rest h (after rest 0 done) (passes rest 0) (setter _) (onward rest 0 done) e r
  step_read (Some x) flags (suc skip) so_far h after passes onward e r = onward (drop (length (encode_utf8 x)) flags) skip so_far h e r

  bundle_read : (k : ℕ) (flags : Text) (skip : ℕ) (so_far : Outcome) (h : Held) → flags_pass c again k flags skip h ≡ true → AreRead c h.rows
      → AreRead c (bundle_met c k flags skip so_far h).0.rows
  unfolding bundle_met flags_pass
  bundle_read zero flags skip so_far h e r = r
  bundle_read (suc k) flags skip so_far h e r =
      step_read (slice_get (chars flags) 0) flags skip so_far h (bundle_met c k) (flags_pass c again k) (λ t n so g f s. bundle_read k t n so g f s) e r

  option_word_read : (o : Option Rule) (id word : Text) (h : Held) → AreRead c h.rows → AreRead c (option_word o id word h).0.rows
  option_word_read None id word h r = r
  option_word_read (Some a) id word h r = r

  plain_read : (waiting : Waiting) (word : Text) (h : Held) → AreRead c h.rows → AreRead c (plain_word c waiting word h).0.rows
  plain_read (option id) word h r = option_word_read (arg_by_id c id) id word h r
  plain_read idle word h r = r
  plain_read positional word h r = r

  after_read : (waiting : Waiting) (word : Text) (h : Held) (out : Outcome) → AreRead c h.rows → AreRead c (after_flag c waiting word h out).0.rows
  after_read waiting word h done r = r
  after_read waiting word h (waits id) r = r
  after_read waiting word h plain r = plain_read waiting word h r
  after_read waiting word h refused r = plain_read waiting word h r

  short_word_read : (o : Option Text) (waiting : Waiting) (word : Text) (h : Held)
      → option_map_or (λ flags. flags_pass c again (length flags) flags h.skip (record h { skip = 0 })) o true ≡ true → AreRead c h.rows
      → AreRead c (short_or_plain c waiting word o h).0.rows
  short_word_read None waiting word h e r = plain_read waiting word h r
  short_word_read (Some flags) waiting word h e r =
      after_read waiting word _ _ (bundle_read (length flags) flags h.skip plain (record h { skip = 0 }) e r)

  flag_word_read : (o : Option (Text × Option Text)) (waiting : Waiting) (word : Text) (h : Held) → flag_word_passes c again o word h ≡ true → AreRead c h.rows
      → AreRead c (long_or_other c waiting word o h).0.rows
  flag_word_read (Some p) waiting word h e r = after_read waiting word _ _ (long_read (arg_by_long c p.0) p.1 h (setter _) e r)
  flag_word_read None waiting word h e r = short_word_read (short_of word) waiting word h e r

  positional_read : (a : Rule) (word : Text) (h : Held) → positional_passes c again a h ≡ true → AreRead c h.rows → AreRead c (positional_held c a word h).rows
  positional_read a word h e r = go (is_pending a h.pending && takes_several a) e
    where
      go : (b : Bool) → (b || settle_passes c again h) ≡ true → AreRead c (cond b h (settled c h)).rows
      go true f = r
      go false f = settled_read h f r

-- ---- a level

module _ (s : Shape) (all : AreSetters s.rules) where
  other_read : (met : Option Text) (waiting : Waiting) (position : ℕ) (word : Text) (h : Held) → other_passes s met word h ≡ true → AreRead s.rules h.rows
      → AreRead s.rules (subcommand_or_other s.rules met waiting position word h).0.rows
  other_read (Some name) waiting position word h e r = r
  other_read None waiting position word h e r = go (bytes_eq word (45 ∷ 45 ∷ [])) e
    where
      go : (b : Bool) → (b || flag_word_passes s.rules s.args_override_self (long_of word) word h) ≡ true
          → AreRead s.rules (cond b (h, trailing position) (long_or_other s.rules waiting word (long_of word) h)).0.rows
      go true f = r
      go false f = flag_word_read s.rules s.args_override_self all (long_of word) waiting word h f r

  word_read : (names : Names) (behind : Bool) (waiting : Waiting) (position : ℕ) (word : Text) (h : Held) → word_passes s names behind waiting word h ≡ true → AreRead s.rules h.rows
      → AreRead s.rules (word_met s.rules names behind waiting position word h).0.rows
  word_read names true waiting position word h e r = r
  word_read names false waiting position word h e r = other_read (subcommand_met names waiting word) waiting position word h e r

  place_read : (o : Option Rule) (word : Text) (w : Walk) (h : Held) → option_map_or (λ a. positional_passes s.rules s.args_override_self a h) o false ≡ true → AreRead s.rules h.rows
      → AreRead s.rules (to_positional s.rules o word w h).held.rows
  place_read None word w h e r = r
  place_read (Some a) word w h e r = positional_read s.rules s.args_override_self all a word h e r

  after_step_read : (word : Text) (w : Walk) (h : Held) (step : Step) → step_passes s w.position h step ≡ true → AreRead s.rules h.rows
      → AreRead s.rules (after_step s.rules word w h step).held.rows
  after_step_read word w h (next waiting) e r = r
  after_step_read word w h (trailing position) e r = r
  after_step_read word w h (subcommand name) e r = r
  after_step_read word w h value e r = place_read (arg_by_index s.rules w.position) word w h e r

  turn_read : (names : Names) (w : Walk) (word : Text) → turn_passes s names w word ≡ true → AreRead s.rules w.held.rows → AreRead s.rules (walked s.rules names w word).held.rows
  unfolding walked
  turn_read names w word e r = go w.stopped e
    where
      go : (o : Option (Text × List Text))
          → (is_some o || (word_passes s names w.is_trailing w.waiting word w.held && step_passes s w.position
          (word_met s.rules names w.is_trailing w.waiting w.position word w.held).0
          (word_met s.rules names w.is_trailing w.waiting w.position word w.held).1)) ≡ true
          → AreRead s.rules (walked_from s.rules names o w word).held.rows
      go (Some p) f = r
      go None f =
          let n = both (word_passes s names w.is_trailing w.waiting word w.held) _ f in
          after_step_read word w _ _ n.1 (word_read names w.is_trailing w.waiting w.position word w.held n.0 r)

  walk_read : (names : Names) (w : Walk) (words : List Text) → walk_passes s names w words ≡ true → AreRead s.rules w.held.rows
      → AreRead s.rules (fold (walked s.rules names) w words).held.rows
  unfolding walk_passes
  walk_read names w [] e r = r
  walk_read names w (word ∷ rest) e r =
      let n = both (turn_passes s names w word) _ e in
      walk_read names (walked s.rules names w word) rest n.1 (turn_read names w word n.0 r)

  default_rows_read : (a : Rule) (vs : List Text) (rows : List Row) → IsSetter s.rules a → (is_empty vs || (not (is_request (action_of a)) && values_pass a vs)) ≡ true → AreRead s.rules rows
      → AreRead s.rules (default_rows a.id (reading_by a) vs rows)
  default_rows_read a [] rows is e r = r
  default_rows_read a (v ∷ vs) rows is e r =
      let m : (not (is_request (action_of a)) && values_pass a (v ∷ vs)) ≡ true = or_last (is_empty (v ∷ vs)) _ (has_some v vs) e in
      let n : (value_passes a v ≡ true) × (values_pass a vs ≡ true) = both _ _ (both (not (is_request (action_of a))) _ m).1 in
      added_read s.rules a DefaultValue v vs rows is.0 n.0 r

  default_read : (a : Rule) (rows : List Row) → IsSetter s.rules a → default_passes a ≡ true → AreRead s.rules rows → AreRead s.rules (with_default rows a)
  default_read a rows is e r = go (has_row a.id rows)
    where
      go : (b : Bool) → AreRead s.rules (cond b rows (default_rows a.id (reading_by a) a.defaults rows))
      go true = r
      go false = default_rows_read a a.defaults rows is e r

  defaults_read : (rules : List Rule) (rows : List Row) → AllByRecursion (IsSetter s.rules) rules → list_all default_passes rules ≡ true → AreRead s.rules rows
      → AreRead s.rules (fold with_default rows rules)
  defaults_read [] rows are e r = r
  defaults_read (a ∷ rest) rows are e r =
      let n = both (default_passes a) _ e in
      defaults_read rest (with_default rows a) are.1 n.1 (default_read a rows are.0 n.0 r)

  -- the rows of a level that passes
  pub level_read : (words : List Text) → level_passes s [] nothing_held words false ≡ true → AreRead s.rules (rows_after s.rules [] words)
  level_read words e =
      let end = (walk s.rules [] nothing_held words).held in
      let n = both (walk_passes s [] (walk_from nothing_held) words) _ e in
      let m = both (settle_passes s.rules s.args_override_self end) _ n.1 in
      let d = both (list_all default_passes s.rules) _ m.1 in
      defaults_read s.rules (settled s.rules end).rows all d.0 (settled_read s.rules s.args_override_self all end m.0 (walk_read [] (walk_from nothing_held) words n.0 tt))

-- ---- which rows are there

or_both : (a b d : Bool) → (b ≡ true → d ≡ true) → (a || b) ≡ true → (a || d) ≡ true
or_both true b d f e = refl
or_both false b d f e = f e

row_kept : (id key : Text) (s : ValueSource) (vs : List Text) (missing : List Row) (rows : List Row) → has_row id rows ≡ true → has_row id (at_row key (more_values s vs) missing rows) ≡ true
row_kept id key s vs missing [] e = cc
row_kept id key s vs missing (r ∷ rs) e = go (bytes_eq r.id key) (row_kept id key s vs missing rs)
  where
    go : (b : Bool) → (has_row id rs ≡ true → has_row id (at_row key (more_values s vs) missing rs) ≡ true)
        → has_row id (cond b (more_values s vs r ++ rs) (r ∷ at_row key (more_values s vs) missing rs)) ≡ true
    go true f = e
    go false f = or_both (bytes_eq r.id id) _ _ f e

row_made : (s : ValueSource) (vs : List Text) (row : Row) (rows : List Row) → has_row row.id (at_row row.id (more_values s vs) (row ∷ []) rows) ≡ true
row_made s vs row [] = rw ((bytes_eq-Decides row.id row.id).1 refl) refl
row_made s vs row (r ∷ rs) = go (bytes_eq r.id row.id) refl (row_made s vs row rs)
  where
    go : (b : Bool) → bytes_eq r.id row.id ≡ b → has_row row.id (at_row row.id (more_values s vs) (row ∷ []) rs) ≡ true
        → has_row row.id (cond b (more_values s vs r ++ rs) (r ∷ at_row row.id (more_values s vs) (row ∷ []) rs)) ≡ true
    go true e f = rw e refl
    go false e f = or_right (bytes_eq r.id row.id) _ f

default_rows_kept : (id : Text) (a : Rule) (vs : List Text) (rows : List Row) → has_row id rows ≡ true → has_row id (default_rows a.id (reading_by a) vs rows) ≡ true
default_rows_kept id a [] rows e = e
default_rows_kept id a (v ∷ vs) rows e = row_kept id a.id DefaultValue (v ∷ vs) _ rows e

default_kept : (id : Text) (a : Rule) (rows : List Row) → has_row id rows ≡ true → has_row id (with_default rows a) ≡ true
default_kept id a rows e = go (has_row a.id rows)
  where
    go : (b : Bool) → has_row id (cond b rows (default_rows a.id (reading_by a) a.defaults rows)) ≡ true
    go true = e
    go false = default_rows_kept id a a.defaults rows e

default_made : (a : Rule) (rows : List Row) → not (is_empty a.defaults) ≡ true → has_row a.id (with_default rows a) ≡ true
default_made a rows e = go (has_row a.id rows) refl
  where
    made : (vs : List Text) → not (is_empty vs) ≡ true → has_row a.id (default_rows a.id (reading_by a) vs rows) ≡ true
    made [] f = cc
    made (v ∷ vs) f = row_made DefaultValue (v ∷ vs) (record { id = a.id; values = v ∷ vs; count = None; source = Some DefaultValue; reading = reading_by a }) rows

    go : (b : Bool) → has_row a.id rows ≡ b → has_row a.id (cond b rows (default_rows a.id (reading_by a) a.defaults rows)) ≡ true
    go true f = f
    go false f = made a.defaults e

defaults_kept : (id : Text) (rules : List Rule) (rows : List Row) → has_row id rows ≡ true → has_row id (fold with_default rows rules) ≡ true
defaults_kept id [] rows e = e
defaults_kept id (a ∷ rest) rows e = defaults_kept id rest (with_default rows a) (default_kept id a rows e)

-- an argument of the list
abbrev pub Among : Rule → List Rule → Type 0
Among a [] = ⊥
Among a (b ∷ rest) = (b ≡ a) ⊎ Among a rest

-- an argument with a default has a row
pub default_there : (a : Rule) (rules : List Rule) (rows : List Row) → Among a rules → not (is_empty a.defaults) ≡ true → has_row a.id (fold with_default rows rules) ≡ true
default_there a [] rows among e = absurd among
default_there a (b ∷ rest) rows among e =
    ⊎_elim (λ same. defaults_kept a.id rest (with_default rows b) (subst (λ x. has_row a.id (with_default rows x) ≡ true) (sym same) (default_made a rows e)))
    (λ later. default_there a rest (with_default rows b) later e) among

given_there : (id : Text) (rows : List Row) → is_given id rows ≡ true → has_row id rows ≡ true
given_there id [] e = cc
given_there id (r ∷ rs) e = go (bytes_eq r.id id) (given_there id rs) e
  where
    go : (b : Bool) → (is_given id rs ≡ true → has_row id rs ≡ true) → option_map_or (λ x. explicit_source x.source) (cond b (Some r) (find (λ x. bytes_eq x.id id) rs)) false ≡ true
        → (b || has_row id rs) ≡ true
    go true f h = refl
    go false f h = f h

wanted_given : (wanted given : Bool) → wanted ≡ true → (not wanted || given) ≡ true → given ≡ true
wanted_given true given w e = e
wanted_given false given w e = cc

all_given : (rows : List Row) (a : Rule) (rules : List Rule) → Among a rules → a.required ≡ true → list_all (λ x. not x.required || is_given x.id rows) rules ≡ true → is_given a.id rows ≡ true
all_given rows a [] among wanted e = absurd among
all_given rows a (b ∷ rest) among wanted e =
    let n = both (not b.required || is_given b.id rows) _ e in
    ⊎_elim (λ same. subst (λ x. is_given x.id rows ≡ true) same (wanted_given b.required _ (ap (λ (x : Rule). x.required) same ∙ wanted) n.0)) (λ later. all_given rows a rest later wanted n.1) among

never_both : (b : Bool) → (b && false) ≡ true → ⊥
never_both true e = cc
never_both false e = cc

-- an argument that is required has a row if the level passes
pub required_there : (s : Shape) (words : List Text) (a : Rule) → Among a s.rules → a.required ≡ true → level_passes s [] nothing_held words false ≡ true
    → has_row a.id (rows_after s.rules [] words) ≡ true
required_there s words a among wanted e =
    let end = (walk s.rules [] nothing_held words).held in
    let rows = finished s.rules end in
    let n = both (walk_passes s [] (walk_from nothing_held) words) _ e in
    let m = both (settle_passes s.rules s.args_override_self end) _ n.1 in
    let d = both (list_all default_passes s.rules) _ m.1 in
    let h = both (not s.arg_required_else_help || (false || list_any (λ r. explicit_source r.source) rows)) _ d.1 in
    let k = both (not s.subcommand_required || false) _ h.1 in
    let f = both (list_all (λ x. x.is_free) s.rules) _ k.1 in
    given_there a.id rows (all_given rows a s.rules among wanted (or_last (s.subcommand_negates_reqs && false) _ (never_both s.subcommand_negates_reqs) f.1))

-- the value of an argument that has a row
pub value_there : (c : List Rule) (a : Rule) (rows : List Row) → arg_by_id c a.id ≡ Some a → AreRead c rows → has_row a.id rows ≡ true
    → (v : Text) × (one_of a.id rows ≡ Some (read_as (reading_by a) v)) × (value_passes a v ≡ true)
value_there c a [] known r e = cc
value_there c a (x ∷ xs) known r e = go (bytes_eq x.id a.id) refl (value_there c a xs known r.1) e
  where
    go : (b : Bool) → bytes_eq x.id a.id ≡ b
        → (has_row a.id xs ≡ true → (v : Text) × (one_of a.id xs ≡ Some (read_as (reading_by a) v)) × (value_passes a v ≡ true))
        → (b || has_row a.id xs) ≡ true
        → (v : Text) × (option_and_then row_text (cond b (Some x) (find (λ y. bytes_eq y.id a.id) xs)) ≡ Some (read_as (reading_by a) v)) × (value_passes a v ≡ true)
    go true same later h =
        let is : x.id ≡ a.id = (bytes_eq-Decides x.id a.id).0 same in
        let has : HasValue a x = r.0 a (subst (λ t. arg_by_id c t ≡ Some a) (sym is) known) in
        (has.0, ap (λ l. option_map (read_as x.reading) (slice_get l 0)) has.2 ∙ ap (λ how. Some (read_as how has.0)) has.4, has.3)
    go false same later h = later h
