-- What the words of `dice` ask for.
use Rattle.std.proofs.Common.{Result, Ok, Err, IsErrAnd, IsSomeAnd, IfOk, ◌↔◌, ◌≡◌, ◌∙◌, ◌≤◌, ◌<◌, ◌^◌, ◌||◌, inl, inr, bytes_eq, Bool, ℕ, true, false, List, [], Option, Some, None, is_some, option_map, find, codes, pos, refl, sym, ap, subst}
use Rattle.std.specs.List.{AllByRecursion}
use Rattle.std.specs.Option.{ok_or, option_map_or}
use Rattle.std.specs.Str.Parse.{ExplainsUnsignedError, HasUnsignedDigitsIfOk, ParsesUnsigned}
use Rattle.std.specs.declared.num.ParseIntError.{ParseIntError}
use Rattle.std.proofs.lemmas.Slice.Eq.{bytes_eq-Decides}
use Rattle.clap.specs.Values.{bool_text, read_as, reading_of}
use Rattle.clap.specs.ValueTests.{accepts}
use Rattle.clap.specs.Facts.{parser_of_value}
use Rattle.clap.specs.declared.builder.value_parser.Reading.TheVariants as reading
use Rattle.clap.specs.Words.{App, HasMatchesOf, Row, Rule, Text, built, is_simple, one_text, rows_of, ReadsOne, subcommand_of, subcommand_rows_of, takes, without_minus}
use Rattle.clap.specs.Walk.{arg_by_id, has_row, nothing_held, reading_by, rows_after, settled, walk, answers_to}
use Rattle.clap.specs.Simple.{argument_words, Shape, built_leaf, entered, filled, inherited, label_of, names_of, rows_at, with_index}
use Rattle.clap.specs.Takes.{entered_passes, level_passes}
use Rattle.clap.specs.Faults.{fault_of, is_simple_and_free}
use Rattle.clap.specs.declared.ArgMatches.{ArgMatches}
use Rattle.clap.specs.declared.builder.value_parser.ValueParser.TheVariants as parser
use Rattle.clap.specs.declared.parser.matches.Found.{Found}
use Rattle.clap.proofs.CallerReads.{signed_reads}
use Rattle.clap.proofs.OnLiterals.{clap_on_literals}
use Rattle.clap.proofs.ValueTestLemmas.{accepts-Accepts}
use Rattle.clap.proofs.WalkLemmas.{both, one_text-rows}
use Rattle.dice_words.specs.Accepted.{bulk, dice, run, targets, trace, workers, number_in, number_of, Asks, HasNumber, IsAccepted, IsComplete, IsOf, IsWithin, SaysFlag}
use Rattle.dice_words.specs.declared.words.Command.{Command}
use Rattle.dice_words.specs.declared.words.WordsFail.{WordsFail}
use Rattle.dice_words.specs.declared.words.WordsFail.TheVariants.{NoMemory, Refused}
use Rattle.dice_words.proofs.Accepting.{built_clean, built_has, AllSound, IsSound}
use Rattle.dice_words.proofs.Rows.{all_found, default_there, level_read, required_there, value_there, AreRead, AreSetters}

pub simple : is_simple dice ≡ true
unfolding clap_on_literals
simple = refl

pub simple_and_free : is_simple_and_free dice ≡ true
unfolding clap_on_literals
simple_and_free = refl

top_sound : IsSound (built dice).top
unfolding clap_on_literals
top_sound = (refl, refl)

subs_sound : AllSound (built dice).subs
unfolding clap_on_literals
subs_sound = ((refl, refl), ((refl, refl), tt))

abbrev run_built : Shape
run_built = built_leaf (inherited (built dice).top run.top)

abbrev bulk_built : Shape
bulk_built = built_leaf (inherited (built dice).top bulk.top)

pub no_fault : (words : List Text) → fault_of dice words ≡ [] → IsAccepted words
no_fault words e = built_clean (built dice) nothing_held (argument_words dice words) top_sound subs_sound e

-- ---- what a subcommand has

-- the arguments as they are built
abbrev workers_built : ℕ → Rule
workers_built i = with_index i (filled workers)

abbrev trace_built : Rule
trace_built = with_index 1 (filled trace)

abbrev targets_built : Rule
targets_built = with_index 1 (filled targets)

run_setters : AreSetters run_built.rules
unfolding clap_on_literals
run_setters = ((refl, refl), ((refl, refl), ((refl, refl), tt)))

bulk_setters : AreSetters bulk_built.rules
unfolding clap_on_literals
bulk_setters = ((refl, refl), ((refl, refl), ((refl, refl), tt)))

flag_text : (t : Text) → (bytes_eq t (codes "true") || bytes_eq t (codes "false")) ≡ true → (flag : Bool) × (t ≡ bool_text flag)
flag_text t e = go (bytes_eq t (codes "true")) refl e
  where
    go : (b : Bool) → bytes_eq t (codes "true") ≡ b → (b || bytes_eq t (codes "false")) ≡ true → (flag : Bool) × (t ≡ bool_text flag)
    go true same f = (true, (bytes_eq-Decides t (codes "true")).0 same)
    go false same f = (false, (bytes_eq-Decides t (codes "false")).0 f)

-- an argument of numbers that has a row has a number
number_has : (c : List Rule) (a : Rule) (low high : ℕ) (rows : List Row) → arg_by_id c a.id ≡ Some a → a.parser ≡ Some (parser.Signed (pos low) (pos high)) → AreRead c rows → has_row a.id rows ≡ true
    → HasNumber a.id low high rows
number_has c a low high rows known is read there =
    let v = value_there c a rows known read there in
    let reads : reading_by a ≡ reading.WithoutMinus = ap (λ p. reading_of (parser_of_value p)) is in
    let passes : accepts a.ignore_case (parser.Signed (pos low) (pos high)) v.0 ≡ true = subst (λ p. accepts a.ignore_case (parser_of_value p) v.0 ≡ true) is v.2 in
    (v.0, v.1 ∙ ap (λ how. Some (read_as how v.0)) reads, accepts-Accepts a.ignore_case (parser.Signed (pos low) (pos high)) v.0 passes)

flag_has : (c : List Rule) (a : Rule) (rows : List Row) → arg_by_id c a.id ≡ Some a → a.parser ≡ Some parser.Bool → AreRead c rows → has_row a.id rows ≡ true → (flag : Bool) × SaysFlag a.id rows flag
flag_has c a rows known is read there =
    let v = value_there c a rows known read there in
    let reads : reading_by a ≡ reading.AsWritten = ap (λ p. reading_of (parser_of_value p)) is in
    let flag = flag_text v.0 (subst (λ p. accepts a.ignore_case (parser_of_value p) v.0 ≡ true) is v.2) in
    (flag.0, v.1 ∙ (ap (λ how. Some (read_as how v.0)) reads ∙ ap Some flag.1))

run_has : (words : List Text) → level_passes run_built [] nothing_held words false ≡ true → IsComplete (rows_at run_built words)
run_has words e =
    let c = run_built.rules in
    let used = (settled c (walk c [] nothing_held words).held).rows in
    let rows = rows_after c [] words in
    let read = level_read run_built run_setters words e in
    inl (
      refl,
      (
        number_has c (workers_built 1) 0 64 rows run_setters.0.0 refl read (default_there (workers_built 1) c used (inl refl) refl),
        flag_has c trace_built rows run_setters.1.0.0 refl read (default_there trace_built c used (inr (inl refl)) refl),
      ),
    )

bulk_has : (words : List Text) → level_passes bulk_built [] nothing_held words false ≡ true → IsComplete (rows_at bulk_built words)
bulk_has words e =
    let c = bulk_built.rules in
    let used = (settled c (walk c [] nothing_held words).held).rows in
    let rows = rows_after c [] words in
    let read = level_read bulk_built bulk_setters words e in
    inr (
      refl,
      (
        number_has c targets_built 1 10000 rows bulk_setters.0.0 refl read (required_there bulk_built words targets_built (inl refl) refl e),
        number_has c (workers_built 2) 0 64 rows bulk_setters.1.0.0 refl read (default_there (workers_built 2) c used (inr (inl refl)) refl),
      ),
    )

entered_is : (P : Text × List Row → Type 0) (a : App) (stop : Option (Text × List Text))
    → AllByRecursion (λ s. (words : List Text) → level_passes s [] nothing_held words false ≡ true → P (rows_at s words)) a.subs
    → is_some (entered a stop) ≡ true → entered_passes a stop ≡ true → IsSomeAnd (entered a stop) P
entered_is P a None all some e = cc
entered_is P a (Some p) all some e = go (find (λ s. answers_to p.0 (label_of s)) a.subs) (all_found _ _ a.subs all) some e
  where
    go : (o : Option Shape) → ((s : Shape) → o ≡ Some s → (words : List Text) → level_passes s [] nothing_held words false ≡ true → P (rows_at s words))
        → is_some (option_map (λ s. rows_at s p.1) o) ≡ true → option_map_or (λ s. level_passes s [] nothing_held p.1 false) o true ≡ true
        → IsSomeAnd (option_map (λ s. rows_at s p.1) o) P
    go None is h f = cc
    go (Some s) is h f = is s refl p.1 f

pub accepted_complete : (words : List Text) → IsAccepted words → IsSomeAnd (subcommand_of dice words) IsComplete
accepted_complete words e =
    let a = built dice in
    let stop = (walk a.top.rules (names_of a) nothing_held (argument_words dice words)).stopped in
    entered_is IsComplete a stop (run_has, (bulk_has, tt)) (built_has a nothing_held (argument_words dice words) refl e) (both (entered_passes a stop) _ e).0

-- ---- of the command that the code makes, which is `dice`

pub when_accepted : {P : Type 0} (a : App) (words : List Text) → a ≡ dice → (takes a words ≡ true → P) → IsAccepted words → P
when_accepted a words e h accepted = h (ap (λ b. takes b words) e ∙ accepted)

pub accepted_when : (a : App) (words : List Text) → a ≡ dice → (is_simple_and_free a ≡ true → fault_of a words ≡ []) → IsAccepted words
accepted_when a words e h = no_fault words (ap (λ b. fault_of b words) (sym e) ∙ h (ap is_simple_and_free e ∙ simple_and_free))

rows_met : (a : App) (words : List Text) (m : ArgMatches) → a ≡ dice → HasMatchesOf a words m → subcommand_rows_of m ≡ subcommand_of dice words
rows_met a words m e h = (h (ap is_simple e ∙ simple)).1 ∙ ap (λ b. subcommand_of b words) e

pub complete_met : (a : App) (words : List Text) (m : ArgMatches) → a ≡ dice → HasMatchesOf a words m → IsAccepted words → IsSomeAnd (subcommand_rows_of m) IsComplete
complete_met a words m e h accepted = subst (λ o. IsSomeAnd o IsComplete) (sym (rows_met a words m e h)) (accepted_complete words accepted)

pub not_memory : {T K : Type 0} (r : Result T WordsFail) → r ≡ Err Refused → IsErrAnd r (λ f. (f ≡ NoMemory) ↔ K) → K → ⊥
not_memory (Ok x) e h k = cc
not_memory (Err f) e h k = let g : f ≡ NoMemory = h.1 k in cc

pub asks_met : (a : App) (words : List Text) (m : ArgMatches) (o : Option Command) (r : Result Command WordsFail) → a ≡ dice → HasMatchesOf a words m → r ≡ ok_or o Refused
    → IsSomeAnd o (λ x. IsSomeAnd (subcommand_rows_of m) (IsOf x) × IsWithin x) → IfOk r (λ x. Asks words x × IsWithin x)
asks_met a words m None r e h is asked = absurd asked
asks_met a words m (Some x) r e h is asked =
    subst (λ q. IfOk q (λ y. Asks words y × IsWithin y)) (sym is) (subst (λ q. IsSomeAnd q (IsOf x)) (rows_met a words m e h) asked.0, asked.1)

pub never_refused : (P : Command → Type 0) (o : Option Command) (r : Result Command WordsFail) → r ≡ ok_or o Refused → IsSomeAnd o P → r ≡ Err Refused → ⊥
never_refused P None r is asked refused = absurd asked
never_refused P (Some x) r is asked refused = cc

pub ok_always : {T E P : Type 0} (r : Result T E) → P → IfOk r (λ _. P)
ok_always (Ok x) p = p
ok_always (Err e) p = tt

-- ---- the numbers that are read

-- what reading a number by its type gives
abbrev pub Reads : Text → Result ℕ ParseIntError → Type 0
Reads bs r = ParsesUnsigned 32 10 bs r × ExplainsUnsignedError 10 bs r × HasUnsignedDigitsIfOk bs r

-- the number of an argument, as it is read from the text
pub number_read : (id : Text) (low high : ℕ) (f : Found) (r : Option ℕ) → HasNumber id low high (rows_of f) → ((t : List ℕ) → one_text f id ≡ Some t → ReadsOne Reads t r) → high < 2 ^ 32
    → (n : ℕ) × (r ≡ Some n) × (number_in id (rows_of f) ≡ Some n) × (low ≤ n) × (n ≤ high)
number_read id low high f r has reads fits =
    let read : ReadsOne Reads (without_minus has.0) r = reads (without_minus has.0) (one_text-rows f id ∙ has.1) in
    let got = signed_reads ParseIntError Reads 32 low high has.0 r read (λ u x g. g.0) fits has.2 in
    let parsed : Reads (without_minus has.0) (Ok got.0) = subst (ReadsOne Reads (without_minus has.0)) got.1 read in
    (got.0, got.1, ap (option_map number_of) has.1 ∙ ap Some (sym parsed.0.1), got.2, got.3)

-- the value of a flag, as it is read from the text
pub flag_read : (id : Text) (f : Found) (r : Bool) → ((flag : Bool) × SaysFlag id (rows_of f) flag) → (one_text f id ≡ Some (codes "true") → r ≡ true) → (one_text f id ≡ Some (codes "false") → r ≡ false)
    → SaysFlag id (rows_of f) r
flag_read id f r has on off = go has.0 has.1
  where
    go : (flag : Bool) → SaysFlag id (rows_of f) flag → SaysFlag id (rows_of f) r
    go true says = says ∙ ap (λ b. Some (bool_text b)) (sym (on (one_text-rows f id ∙ says)))
    go false says = says ∙ ap (λ b. Some (bool_text b)) (sym (off (one_text-rows f id ∙ says)))
