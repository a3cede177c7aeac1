-- The command line of `dice` in the terms of `clap`: the command, the words that it takes, and
-- which command they ask for.
use Rattle.std.specs.Prelude.{◌≡◌, ◌⊎◌, ◌≤◌, Bool, true, ℕ, List, [], ◌∷◌, Option, Some, codes, pos, option_map, IsSomeAnd}
use Rattle.std.specs.Str.Parse.{digits_value, without_leading_plus}
use Rattle.clap.specs.Words.{App, IsSignedIn, Row, Rule, Text, new_app, new_rule, one_of, subcommand_of, takes, with_rule, with_subcommand, without_minus}
use Rattle.clap.specs.Values.{bool_text}
use Rattle.clap.specs.declared.builder.action.ArgAction.TheVariants.{SetTrue}
use Rattle.clap.specs.declared.builder.value_parser.ValueParser.TheVariants as parser
use Rattle.dice_words.specs.declared.words.Command.{Command}
use Rattle.dice_words.specs.declared.words.Command.TheVariants.{Run, Bulk}

-- `--workers W`, a number from 0 to 64, which is 4 if it is left out
abbrev pub workers : Rule
workers = record (new_rule (codes "workers")) {
  long = Some (codes "workers");
  value_names = 1;
  defaults = codes "4" ∷ [];
  parser = Some (parser.Signed (pos 0) (pos 64));
}

-- `--trace`, a flag
abbrev pub trace : Rule
trace = record (new_rule (codes "trace")) { long = Some (codes "trace"); action = Some SetTrue }

-- `N`, a number from 1 to 10,000, which must be given
abbrev pub targets : Rule
targets = record (new_rule (codes "targets")) { value_names = 1; parser = Some (parser.Signed (pos 1) (pos 10000)); required = true }

-- `dice run`
abbrev pub run : App
run = with_rule (with_rule (new_app (codes "run")) workers) trace

-- `dice bulk`
abbrev pub bulk : App
bulk = with_rule (with_rule (new_app (codes "bulk")) targets) workers

-- `dice`, which does nothing without a subcommand, and whose only help is `--help`
abbrev pub dice_alone : App
dice_alone = record (new_app (codes "dice")) {
  top = record (new_app (codes "dice")).top { subcommand_required = true; disable_help_subcommand = true };
}

-- the whole command line
abbrev pub dice : App
dice = with_subcommand (with_subcommand dice_alone run.top) bulk.top

-- the words, of which the first is the program's name, are those that `clap` takes
abbrev pub IsAccepted : List Text → Type 0
IsAccepted words = takes dice words ≡ true

-- the number that a text of decimal digits stands for, with or without a plus before them
abbrev pub number_of : Text → ℕ
number_of text = digits_value 10 (without_leading_plus text)

-- the number that an argument was given, or else its default
abbrev pub number_in : Text → List Row → Option ℕ
number_in id rows = option_map number_of (one_of id rows)

-- a flag was given if `flag` is true, and was left out if it is false
abbrev pub SaysFlag : Text → List Row → Bool → Type 0
SaysFlag id rows flag = one_of id rows ≡ Some (bool_text flag)

-- a subcommand, by its name, and its arguments are those of this command
abbrev pub IsOf : Command → Text × List Row → Type 0
IsOf (Run workers trace) met = (met.0 ≡ codes "run") × (number_in (codes "workers") met.1 ≡ Some workers) × SaysFlag (codes "trace") met.1 trace
IsOf (Bulk targets workers) met = (met.0 ≡ codes "bulk") × (number_in (codes "targets") met.1 ≡ Some targets) × (number_in (codes "workers") met.1 ≡ Some workers)

-- the numbers of a command lie in their ranges
abbrev pub IsWithin : Command → Type 0
IsWithin (Run workers _) = workers ≤ 64
IsWithin (Bulk targets workers) = (1 ≤ targets) × (targets ≤ 10000) × (workers ≤ 64)

-- an argument has a number from low to high
abbrev pub HasNumber : Text → ℕ → ℕ → List Row → Type 0
HasNumber id low high rows = (t : Text) × (one_of id rows ≡ Some (without_minus t)) × IsSignedIn (pos low) (pos high) t

-- the arguments of `run` have what their rules want
abbrev pub HasRun : List Row → Type 0
HasRun rows = HasNumber (codes "workers") 0 64 rows × ((flag : Bool) × SaysFlag (codes "trace") rows flag)

-- the arguments of `bulk` have what their rules want
abbrev pub HasBulk : List Row → Type 0
HasBulk rows = HasNumber (codes "targets") 1 10000 rows × HasNumber (codes "workers") 0 64 rows

-- the subcommand is one of the two, and its arguments have what their rules want
abbrev pub IsComplete : Text × List Row → Type 0
IsComplete met = ((met.0 ≡ codes "run") × HasRun met.1) ⊎ ((met.0 ≡ codes "bulk") × HasBulk met.1)

-- the words ask for this command
abbrev pub Asks : List Text → Command → Type 0
Asks words command = IsSomeAnd (subcommand_of dice words) (IsOf command)
