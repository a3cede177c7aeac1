-- If a parse of a simple command has no fault, the command takes the words.
use Rattle.std.proofs.Common.{◌⊎◌, inl, inr, ⊎_elim, ◌≡◌, ◌==◌, ◌&&◌, ◌||◌, ℕ, zero, suc, Bool, true, false, not, List, [], ◌∷◌, length, drop, find, Option, Some, None, is_some, if◌then◌else◌, nat_le, nat_lt, bytes_eq, codes, encode_utf8, slice_get, chars, refl, subst, arith}
use Rattle.std.proofs.lemmas.Grind.{common_steps}
use Rattle.std.proofs.lemmas.Option.{same_Some}
use Rattle.std.specs.List.{list_all, list_any}
use Rattle.std.specs.Option.{option_map_or}
use Rattle.clap.specs.Lexer.{long_of, short_of}
use Rattle.clap.specs.Facts.{explicit_source, parser_of_value, unwrap_or_range}
use Rattle.clap.specs.Kinds.{Kinds, check_kinds, or_else, range_kinds, value_kinds}
use Rattle.clap.specs.Walk.{Held, Names, Row, Rule, Step, Text, Waiting, Walk, action_of, answers_to, arg_by_id, arg_by_index, arg_by_long, arg_by_short, attached_value, finished, has_row, is_pending, most_values, nothing_held, reacted, settled, subcommand_met, subcommand, trailing, value, takes_several, takes_values, values_or_missing, walk, walk_from, walked, word_met}
use Rattle.clap.specs.Simple.{App, Shape, entered, label_of, names_of}
use Rattle.clap.specs.Takes.{value_passes, values_pass, count_passes, set_passes, action_passes, use_passes, settle_passes, react_passes, option_passes, long_passes, short_passes, bundle_step_passes, flags_pass, flag_word_passes, other_passes, word_passes, positional_passes, step_passes, turn_passes, walk_passes, default_passes, is_given, is_valid, level_passes, entered_passes, built_takes}
use Rattle.clap.specs.Faults.{values_fault, count_fault, repeat_fault, set_fault, action_fault, use_fault, settle_fault, react_fault, option_fault, long_fault, short_fault, bundle_step_fault, flags_fault, flag_word_fault, other_fault, word_fault, positional_fault, stray_fault, step_fault, turn_fault, walk_fault, check_fault, defaults_fault, level_fault, entered_fault, built_fault}
use Rattle.clap.specs.declared.builder.ArgAction.{ArgAction}
use Rattle.clap.specs.declared.builder.ArgAction.TheVariants.{Set, Append, SetTrue, SetFalse, Count, Help, HelpShort, HelpLong, Version}
use Rattle.clap.specs.declared.error.ErrorKind.{ErrorKind}
use Rattle.std.proofs.lemmas.Bool.{and_from}

-- ---- tests and lists of kinds

first_none : (a b : Kinds) → or_else a b ≡ [] → a ≡ []
first_none [] b e = refl
first_none (k ∷ ks) b e = e

then_none : (a b : Kinds) → or_else a b ≡ [] → b ≡ []
then_none [] b e = e
then_none (k ∷ ks) b e = cc

where_none : (b : Bool) (k : ErrorKind) → (if b then [] else k ∷ []) ≡ [] → b ≡ true
where_none true k e = refl
where_none false k e = cc

unless_none : (b : Bool) (k : ErrorKind) → (if b then k ∷ [] else []) ≡ [] → b ≡ false
unless_none true k e = cc
unless_none false k e = refl

-- a step that may be left out: no fault there, so it passes
module _ {A : Type 0} where
  each_passes : (o : Option A) (f : A → Kinds) (p : A → Bool) → ((x : A) → f x ≡ [] → p x ≡ true) → option_map_or f o [] ≡ [] → option_map_or p o true ≡ true
  each_passes None f p h e = refl
  each_passes (Some x) f p h e = h x e

-- ---- one use of an argument

values_clean : (a : Rule) (vs : List Text) → values_fault a vs ≡ [] → values_pass a vs ≡ true
values_clean a [] e = refl
values_clean a (v ∷ vs) e =
    and_from (value_passes a v) (values_pass a vs) (where_none _ _ (first_none (value_kinds a.ignore_case (parser_of_value a.parser) v) (values_fault a vs) e))
    (values_clean a vs (then_none (value_kinds a.ignore_case (parser_of_value a.parser) v) (values_fault a vs) e))

count_clean : (a : Rule) (vs : List Text) (rows : List Row) → count_fault a vs rows ≡ [] → count_passes a vs rows ≡ true
count_clean a [] rows e = where_none _ _ e
count_clean a (v ∷ vs) rows e = values_clean a (v ∷ vs) e

may_repeat : (has again : Bool) (k : ErrorKind) → (if has && not again then k ∷ [] else []) ≡ [] → (not has || again) ≡ true
may_repeat false again k e = refl
may_repeat true true k e = refl
may_repeat true false k e = cc

set_clean : (again : Bool) (a : Rule) (vs : List Text) (rows : List Row) → set_fault again a vs rows ≡ [] → set_passes again a vs rows ≡ true
set_clean again a vs rows e = and_from (not (has_row a.id rows) || again) (values_pass a vs) (may_repeat (has_row a.id rows) again _ (first_none (repeat_fault again a.id rows) (values_fault a vs) e))
    (values_clean a vs (then_none (repeat_fault again a.id rows) (values_fault a vs) e))

action_clean : (x : ArgAction) (again : Bool) (a : Rule) (vs : List Text) (rows : List Row) → action_fault x again a vs rows ≡ [] → action_passes x again a vs rows ≡ true
action_clean Set again a vs rows e = set_clean again a vs rows e
action_clean SetTrue again a vs rows e = set_clean again a vs rows e
action_clean SetFalse again a vs rows e = set_clean again a vs rows e
action_clean Append again a vs rows e = values_clean a vs e
action_clean Count again a vs rows e = count_clean a vs rows e
action_clean Help again a vs rows e = cc
action_clean HelpShort again a vs rows e = cc
action_clean HelpLong again a vs rows e = cc
action_clean Version again a vs rows e = cc

-- n values lie within the range that is wanted
range_tests : (none one same fewer more : Bool) (j k l m : ErrorKind)
    → (if none then j ∷ [] else (if one then (if same then [] else k ∷ []) else (if fewer then l ∷ [] else (if more then m ∷ [] else [])))) ≡ []
    → ((one ≡ true) × (same ≡ true)) ⊎ ((fewer ≡ false) × (more ≡ false))
range_tests true one same fewer more j k l m e = cc
range_tests false true true fewer more j k l m e = inl (refl, refl)
range_tests false true false fewer more j k l m e = cc
range_tests false false same true more j k l m e = cc
range_tests false false same false true j k l m e = cc
range_tests false false same false false j k l m e = inr (refl, refl)

within_one : (least most n : ℕ) → (least == most) ≡ true → (least == n) ≡ true → (nat_le least n ≡ true) × (nat_le n most ≡ true)
within_one least most n p q = (grind (arith, common_steps), grind (arith, common_steps))

within_both : (least most n : ℕ) → nat_lt n least ≡ false → nat_lt most n ≡ false → (nat_le least n ≡ true) × (nat_le n most ≡ true)
within_both least most n p q = (grind (arith, common_steps), grind (arith, common_steps))

range_clean : (least most n : ℕ) → range_kinds least most n ≡ [] → (nat_le least n ≡ true) × (nat_le n most ≡ true)
range_clean least most n e = ⊎_elim (λ h. within_one least most n h.0 h.1) (λ h. within_both least most n h.0 h.1)
    (range_tests (nat_lt 0 least && n == 0) (least == most) (least == n) (nat_lt n least) (nat_lt most n) _ _ _ _ e)

use_clean : (again : Bool) (a : Rule) (vs : List Text) (rows : List Row) → use_fault again a vs rows ≡ [] → use_passes again a vs rows ≡ true
use_clean again a vs rows e =
    let least = (unwrap_or_range a.range).start_inclusive in
    let range = range_kinds least (most_values a) (length vs) in
    let action = action_fault (action_of a) again a (values_or_missing a vs) rows in
    let within = range_clean least (most_values a) (length vs) (first_none range action e) in
    and_from (nat_le least (length vs)) _ within.0 (and_from (nat_le (length vs) (most_values a)) _ within.1
    (action_clean (action_of a) again a (values_or_missing a vs) rows (then_none range action e)))

-- ---- the walk

settle_clean : (c : List Rule) (again : Bool) (h : Held) → settle_fault c again h ≡ [] → settle_passes c again h ≡ true
settle_clean c again h e = each_passes h.pending _ _ (λ p f. each_passes (arg_by_id c p.0) _ _ (λ a g. use_clean again a p.1 h.rows g) f) e

react_clean : (c : List Rule) (again : Bool) (a : Rule) (vs : List Text) (h : Held) → react_fault c again a vs h ≡ [] → react_passes c again a vs h ≡ true
react_clean c again a vs h e =
    let settle = settle_fault c again h in
    let use_ = use_fault again a vs (settled c h).rows in
    and_from (settle_passes c again h) _ (settle_clean c again h (first_none settle use_ e)) (use_clean again a vs (settled c h).rows (then_none settle use_ e))

option_clean : (c : List Rule) (again : Bool) (a : Rule) (v : Option Text) (h : Held) → option_fault c again a v h ≡ [] → option_passes c again a v h ≡ true
option_clean c again a (Some v) h e = react_clean c again a (v ∷ []) h e
option_clean c again a None h e = settle_clean c again h e

-- by a test: one of two steps
either_clean : (b : Bool) (f g : Kinds) (p q : Bool) → (f ≡ [] → p ≡ true) → (g ≡ [] → q ≡ true) → (if b then f else g) ≡ [] → (if b then p else q) ≡ true
either_clean true f g p q hf hg e = hf e
either_clean false f g p q hf hg e = hg e

-- unless a test holds, which is a fault
flag_clean : (b : Bool) (k : ErrorKind) (f : Kinds) (p : Bool) → (f ≡ [] → p ≡ true) → (if b then k ∷ [] else f) ≡ [] → (not b && p) ≡ true
flag_clean true k f p h e = cc
flag_clean false k f p h e = h e

-- if a test holds nothing is asked
open_clean : (b : Bool) (f : Kinds) (p : Bool) → (f ≡ [] → p ≡ true) → (if b then [] else f) ≡ [] → (b || p) ≡ true
open_clean true f p h e = refl
open_clean false f p h e = h e

long_clean : (c : List Rule) (again : Bool) (found : Option Rule) (v : Option Text) (h : Held) → long_fault c again found v h ≡ [] → long_passes c again found v h ≡ true
long_clean c again None v h e = cc
long_clean c again (Some a) v h e = either_clean (takes_values a) (option_fault c again a v h) _ (option_passes c again a v h) _ (option_clean c again a v h)
    (flag_clean (is_some v) _ (react_fault c again a [] h) (react_passes c again a [] h) (react_clean c again a [] h)) e

short_clean : (c : List Rule) (again : Bool) (found : Option Rule) (rest : Text) (h : Held) (next : Held → Kinds) (passes : Held → Bool) → ((g : Held) → next g ≡ [] → passes g ≡ true)
    → short_fault c again found rest h next ≡ [] → short_passes c again found rest h passes ≡ true
short_clean c again None rest h next passes go e = cc
short_clean c again (Some a) rest h next passes go e =
    let react = react_fault c again a [] h in
    let after = next (reacted c a [] h) in
    either_clean (takes_values a) (option_fault c again a (attached_value rest) h) (or_else react after) (option_passes c again a (attached_value rest) h) _
    (option_clean c again a (attached_value rest) h)
    (λ f. and_from (react_passes c again a [] h) _ (react_clean c again a [] h (first_none react after f)) (go (reacted c a [] h) (then_none react after f))) e

bundle_clean : (c : List Rule) (again : Bool) (x : Option ℕ) (flags : Text) (skip : ℕ) (h : Held) (next : Text → ℕ → Held → Kinds) (passes : Text → ℕ → Held → Bool)
    → ((t : Text) (n : ℕ) (g : Held) → next t n g ≡ [] → passes t n g ≡ true) → bundle_step_fault c again x flags skip h next ≡ [] → bundle_step_passes c again x flags skip h passes ≡ true
bundle_clean c again None flags skip h next passes go e = refl
bundle_clean c again (Some x) flags zero h next passes go e =
    let rest = drop (length (encode_utf8 x)) flags in
    short_clean c again (arg_by_short c x) rest h (next rest 0) (passes rest 0) (go rest 0) e
bundle_clean c again (Some x) flags (suc skip) h next passes go e = go (drop (length (encode_utf8 x)) flags) skip h e

flags_clean : (c : List Rule) (again : Bool) (k : ℕ) (flags : Text) (skip : ℕ) (h : Held) → flags_fault c again k flags skip h ≡ [] → flags_pass c again k flags skip h ≡ true
unfolding flags_fault flags_pass
flags_clean c again zero flags skip h e = refl
flags_clean c again (suc k) flags skip h e = bundle_clean c again (slice_get (chars flags) 0) flags skip h (flags_fault c again k) (flags_pass c again k) (flags_clean c again k) e

flag_word_clean : (c : List Rule) (again : Bool) (long : Option (Text × Option Text)) (word : Text) (h : Held) → flag_word_fault c again long word h ≡ [] → flag_word_passes c again long word h ≡ true
flag_word_clean c again (Some p) word h e = long_clean c again (arg_by_long c p.0) p.1 h e
flag_word_clean c again None word h e = each_passes (short_of word) _ _ (λ flags f. flags_clean c again (length flags) flags h.skip (record h { skip = 0 }) f) e

help_clean : (is_help disabled : Bool) (k l : ErrorKind) → (if is_help && not disabled then k ∷ l ∷ [] else []) ≡ [] → (not is_help || disabled) ≡ true
help_clean false disabled k l e = refl
help_clean true true k l e = refl
help_clean true false k l e = cc

other_clean : (s : Shape) (met : Option Text) (word : Text) (h : Held) → other_fault s met word h ≡ [] → other_passes s met word h ≡ true
other_clean s (Some name) word h e = help_clean (bytes_eq name (codes "help")) s.disable_help_subcommand _ _ e
other_clean s None word h e = open_clean (bytes_eq word (45 ∷ 45 ∷ [])) (flag_word_fault s.rules s.args_override_self (long_of word) word h) (flag_word_passes s.rules s.args_override_self (long_of word) word h)
    (flag_word_clean s.rules s.args_override_self (long_of word) word h) e

word_clean : (s : Shape) (names : Names) (behind : Bool) (waiting : Waiting) (word : Text) (h : Held) → word_fault s names behind waiting word h ≡ [] → word_passes s names behind waiting word h ≡ true
word_clean s names behind waiting word h e = open_clean behind (other_fault s (subcommand_met names waiting word) word h) (other_passes s (subcommand_met names waiting word) word h)
    (other_clean s (subcommand_met names waiting word) word h) e

positional_clean : (c : List Rule) (again : Bool) (a : Rule) (h : Held) → positional_fault c again a h ≡ [] → positional_passes c again a h ≡ true
positional_clean c again a h e = open_clean (is_pending a h.pending && takes_several a) (settle_fault c again h) (settle_passes c again h) (settle_clean c again h) e

stray_faults : (leaf : Bool) (k l m : ErrorKind) → (if leaf then k ∷ [] else l ∷ m ∷ []) ≡ [] → ⊥
stray_faults true k l m e = cc
stray_faults false k l m e = cc

place_clean : (s : Shape) (o : Option Rule) (h : Held) → option_map_or (λ a. positional_fault s.rules s.args_override_self a h) o (stray_fault s) ≡ []
    → option_map_or (λ a. positional_passes s.rules s.args_override_self a h) o false ≡ true
place_clean s None h e = absurd (stray_faults s.is_leaf _ _ _ e)
place_clean s (Some a) h e = positional_clean s.rules s.args_override_self a h e

step_clean : (s : Shape) (position : ℕ) (h : Held) (step : Step) → step_fault s position h step ≡ [] → step_passes s position h step ≡ true
step_clean s position h value e = place_clean s (arg_by_index s.rules position) h e
step_clean s position h (subcommand name) e = refl
step_clean s position h (trailing at) e = refl
step_clean s position h _ e = refl

turn_clean : (s : Shape) (names : Names) (w : Walk) (word : Text) → turn_fault s names w word ≡ [] → turn_passes s names w word ≡ true
turn_clean s names w word e =
    let met = word_met s.rules names w.is_trailing w.waiting w.position word w.held in
    let named = word_fault s names w.is_trailing w.waiting word w.held in
    let stepped = step_fault s w.position met.0 met.1 in
    open_clean (is_some w.stopped) (or_else named stepped) (word_passes s names w.is_trailing w.waiting word w.held && step_passes s w.position met.0 met.1)
    (λ f. and_from (word_passes s names w.is_trailing w.waiting word w.held) _ (word_clean s names w.is_trailing w.waiting word w.held (first_none named stepped f))
    (step_clean s w.position met.0 met.1 (then_none named stepped f))) e

walk_clean : (s : Shape) (names : Names) (w : Walk) (words : List Text) → walk_fault s names w words ≡ [] → walk_passes s names w words ≡ true
unfolding walk_fault walk_passes
walk_clean s names w [] e = refl
walk_clean s names w (word ∷ rest) e =
    let here = turn_fault s names w word in
    let after = walk_fault s names (walked s.rules names w word) rest in
    and_from (turn_passes s names w word) _ (turn_clean s names w word (first_none here after e)) (walk_clean s names (walked s.rules names w word) rest (then_none here after e))

-- ---- after the walk

or_first : (a b : Bool) → (a || b) ≡ false → a ≡ false
or_first true b e = e
or_first false b e = refl

or_second : (a b : Bool) → (a || b) ≡ false → b ≡ false
or_second true b e = cc
or_second false b e = e

not_missing : (required given : Bool) → (required && not given) ≡ false → (not required || given) ≡ true
not_missing false given e = refl
not_missing true true e = refl
not_missing true false e = cc

none_missing : (rows : List Row) (rules : List Rule) → list_any (λ a. a.required && not (is_given a.id rows)) rules ≡ false → list_all (λ a. not a.required || is_given a.id rows) rules ≡ true
none_missing rows [] e = refl
none_missing rows (a ∷ rest) e =
    let here = a.required && not (is_given a.id rows) in
    let after = list_any (λ x. x.required && not (is_given x.id rows)) rest in
    and_from (not a.required || is_given a.id rows) _ (not_missing a.required (is_given a.id rows) (or_first here after e)) (none_missing rows rest (or_second here after e))

check_tests : (help sub arg : Bool) → check_kinds help sub arg ≡ [] → (help ≡ false) × (sub ≡ false) × (arg ≡ false)
check_tests true sub arg e = cc
check_tests false true arg e = cc
check_tests false false true e = cc
check_tests false false false e = (refl, refl, refl)

help_unwanted : (has wants given : Bool) → (not has && (wants && not given)) ≡ false → (not wants || (has || given)) ≡ true
help_unwanted has false given e = refl
help_unwanted true true given e = refl
help_unwanted false true true e = refl
help_unwanted false true false e = cc

subcommand_there : (has wants : Bool) → (not has && wants) ≡ false → (not wants || has) ≡ true
subcommand_there has false e = refl
subcommand_there true true e = refl
subcommand_there false true e = cc

arguments_there : (free missing present : Bool) → (not free && missing) ≡ false → (missing ≡ false → present ≡ true) → (free || present) ≡ true
arguments_there true missing present e p = refl
arguments_there false missing present e p = p e

valid_tests : (has wants_help given wants_sub free negates missing present : Bool) → (not has && (wants_help && not given)) ≡ false → (not has && wants_sub) ≡ false → free ≡ true
    → (not (negates && has) && missing) ≡ false → (missing ≡ false → present ≡ true)
    → ((not wants_help || (has || given)) && ((not wants_sub || has) && (free && ((negates && has) || present)))) ≡ true
valid_tests has wants_help given wants_sub free negates missing present h s f a p =
    and_from (not wants_help || (has || given)) _ (help_unwanted has wants_help given h) (and_from (not wants_sub || has) _ (subcommand_there has wants_sub s)
    (and_from free _ f (arguments_there (negates && has) missing present a p)))

valid_clean : (s : Shape) (rows : List Row) (has : Bool) → list_all (λ a. a.is_free) s.rules ≡ true → check_fault s rows has ≡ [] → is_valid s rows has ≡ true
valid_clean s rows has free e =
    let t = check_tests _ _ _ e in
    valid_tests has s.arg_required_else_help (list_any (λ r. explicit_source r.source) rows) s.subcommand_required _ s.subcommand_negates_reqs (list_any (λ a. a.required && not (is_given a.id rows)) s.rules) _
    t.0 t.1 free t.2 (none_missing rows s.rules)

-- the settings of one level: no argument has a rule on another, and each default passes
abbrev pub IsSound : Shape → Type 0
IsSound s = (list_all (λ a. a.is_free) s.rules ≡ true) × (list_all default_passes s.rules ≡ true)

abbrev pub AllSound : List Shape → Type 0
AllSound [] = Unit {0}
AllSound (s ∷ rest) = IsSound s × AllSound rest

level_clean : (s : Shape) (names : Names) (h : Held) (words : List Text) (has : Bool) (below : Kinds) → IsSound s → level_fault s names h words has below ≡ []
    → (level_passes s names h words has ≡ true) × (below ≡ [])
level_clean s names h words has below sound e =
    let end = (walk s.rules names h words).held in
    let walking = walk_fault s names (walk_from h) words in
    let settling = settle_fault s.rules s.args_override_self end in
    let filling = defaults_fault (settled s.rules end).rows s.rules in
    let checking = check_fault s (finished s.rules end) has in
    let e1 = then_none walking (or_else below (or_else settling (or_else filling checking))) e in
    let e2 = then_none below (or_else settling (or_else filling checking)) e1 in (
      and_from (walk_passes s names (walk_from h) words) _ (walk_clean s names (walk_from h) words (first_none walking _ e))
          (and_from (settle_passes s.rules s.args_override_self end) _ (settle_clean s.rules s.args_override_self end (first_none settling _ e2))
          (and_from (list_all default_passes s.rules) _ sound.1 (valid_clean s (finished s.rules end) has sound.0 (then_none filling checking (then_none settling _ e2))))),
      first_none below _ e1,
    )

found_clean : (subs : List Shape) (o : Option Shape) (words : List Text) → ((s : Shape) → o ≡ Some s → IsSound s) → option_map_or (λ s. level_fault s [] nothing_held words false []) o [] ≡ []
    → option_map_or (λ s. level_passes s [] nothing_held words false) o true ≡ true
found_clean subs None words sound e = refl
found_clean subs (Some s) words sound e = (level_clean s [] nothing_held words false [] (sound s refl) e).0

found_first : (b : Bool) (x s : Shape) (rest : Option Shape) → (if b then Some x else rest) ≡ Some s → (Some x ≡ Some s) ⊎ (rest ≡ Some s)
found_first true x s rest e = inl e
found_first false x s rest e = inr e

all_found : (subs : List Shape) (p : Shape → Bool) → AllSound subs → (s : Shape) → find p subs ≡ Some s → IsSound s
all_found [] p all s e = cc
all_found (x ∷ xs) p all s e = ⊎_elim (λ h. subst IsSound (same_Some x s h) all.0) (λ h. all_found xs p all.1 s h) (found_first (p x) x s (find p xs) e)

entered_clean : (a : App) (stop : Option (Text × List Text)) → AllSound a.subs → entered_fault a stop ≡ [] → entered_passes a stop ≡ true
entered_clean a stop sound e = each_passes stop _ _ (λ p f. found_clean a.subs (find (λ s. answers_to p.0 (label_of s)) a.subs) p.1 (all_found a.subs _ sound) f) e

pub built_clean : (a : App) (h : Held) (words : List Text) → IsSound a.top → AllSound a.subs → built_fault a h words ≡ [] → built_takes a h words ≡ true
built_clean a h words top subs e =
    let stop = (walk a.top.rules (names_of a) h words).stopped in
    let l = level_clean a.top (names_of a) h words (is_some (entered a stop)) (entered_fault a stop) top e in
    and_from (entered_passes a stop) _ (entered_clean a stop subs l.1) l.0

-- ---- a subcommand that is required is there

first_true : (a b : Bool) → (a && b) ≡ true → a ≡ true
first_true true b e = refl
first_true false b e = e

then_true : (a b : Bool) → (a && b) ≡ true → b ≡ true
then_true true b e = e
then_true false b e = cc

required_there : (wants has : Bool) → wants ≡ true → (not wants || has) ≡ true → has ≡ true
required_there true has w e = e
required_there false has w e = cc

level_has : (s : Shape) (names : Names) (h : Held) (words : List Text) (has : Bool) → s.subcommand_required ≡ true → level_passes s names h words has ≡ true → has ≡ true
level_has s names h words has wants e =
    let end = (walk s.rules names h words).held in
    let e1 = then_true (walk_passes s names (walk_from h) words) _ e in
    let e2 = then_true (settle_passes s.rules s.args_override_self end) _ e1 in
    let e3 = then_true (list_all default_passes s.rules) _ e2 in
    let given = list_any (λ r. explicit_source r.source) (finished s.rules end) in
    let e4 = then_true (not s.arg_required_else_help || (has || given)) _ e3 in
    required_there s.subcommand_required has wants (first_true (not s.subcommand_required || has) _ e4)

pub built_has : (a : App) (h : Held) (words : List Text) → a.top.subcommand_required ≡ true → built_takes a h words ≡ true → is_some (entered a (walk a.top.rules (names_of a) h words).stopped) ≡ true
built_has a h words wants e =
    let stop = (walk a.top.rules (names_of a) h words).stopped in
    level_has a.top (names_of a) h words (is_some (entered a stop)) wants (then_true (entered_passes a stop) _ e)
