-- A small universe, and a journal over it: a file changes in its comment alone, so what is made of
-- its target is kept.
use Rattle.std.specs.Prelude.{◌≡◌, ℕ, Bool, true, false, List, [], ◌∷◌, ◌++◌}
use Rattle.dice_key.specs.Meaning.{Meaning, Answered, Step, Asks, Ends}
use Rattle.dice_key.specs.declared.universe.Kind.{Kind}
use Rattle.dice_key.specs.declared.universe.Kind.TheVariants.{Injected, Computed, Projection}
use Rattle.journal.specs.declared.event.Told.{Told}
use Rattle.journal.specs.declared.event.Told.TheVariants.{Commit, Open, Close, Ask, Start, Keep, End}
use Rattle.journal.specs.declared.event.Reason.{Reason}
use Rattle.journal.specs.declared.event.Reason.TheVariants.{New, Differs}

-- a file is set from outside; a package is what the file holds; a rule is a part of it; an action
-- is made of the rule; a digest is a part of the action
pub data Key : Type 0 where
  File : Key
  Package : Key
  Rule : Key
  Action : Key
  Digest : Key

-- what a file holds: its target and its comment, each a number; the other values have no comment
pub record Held : Type 0 where
  pub target : ℕ
  pub comment : ℕ

abbrev pub same_key : Key → Key → Bool
same_key File File = true
same_key Package Package = true
same_key Rule Rule = true
same_key Action Action = true
same_key Digest Digest = true
same_key x y = false

abbrev pub kind_of : Key → Kind
kind_of File = Injected
kind_of Package = Computed
kind_of Rule = Projection
kind_of Action = Computed
kind_of Digest = Projection

-- what a key asks, and what it makes of the answer
abbrev pub asked_by : Key → Key
asked_by File = File
asked_by Package = File
asked_by Rule = Package
asked_by Action = Rule
asked_by Digest = Action

abbrev pub made_of : Key → Held → Held
made_of File x = x
made_of Package x = x
made_of Rule x = record { target = x.target; comment = 0 }
made_of Action x = x
made_of Digest x = x

abbrev pub of_first : Key → List Held → Step Key Held
of_first k [] = Ends (record { target = 0; comment = 0 })
of_first k (x ∷ xs) = Ends (made_of k x)

abbrev pub next_move : Key → List (Answered Key Held) → ℕ → Step Key Held
next_move k [] v = Asks (asked_by k ∷ [])
next_move k (b ∷ bs) v = of_first k b.values

abbrev pub small : Meaning Key Held
small = record {
  kind = kind_of;
  absent = λ k. record { target = 0; comment = 0 };
  next = next_move;
  is_transient = λ x. false;
  most = λ k. 1;
  base = asked_by;
  project = made_of;
  text = λ k short. [];
}

abbrev pub file_with : ℕ → List (Key × Held)
file_with n = (File, record { target = 7; comment = n }) ∷ []

-- the digest is asked for at version 1, and all is computed
abbrev pub first_version : List (Told Key Held)
first_version =
    Commit 0 (file_with 1) ∷ Open 0 1 ∷ Ask 0 1 Digest ∷ Start 1 Digest New ∷ Start 1 Action New ∷ Start 1 Rule New ∷ Start 1 Package New
    ∷ End 1 Package ∷ End 1 Rule ∷ End 1 Action ∷ End 1 Digest ∷ []

-- the comment changes, and the digest is asked for at version 2
abbrev pub second_begins : List (Told Key Held)
second_begins = Commit 0 (file_with 2) ∷ Open 0 2 ∷ Ask 0 12 Digest ∷ []

-- the rule comes to its old value, so action and digest are kept
abbrev pub second_version : Reason Key → List (Told Key Held)
second_version cause =
    Start 2 Package cause ∷ End 2 Package ∷ Start 2 Rule (Differs 1 Package) ∷ End 2 Rule ∷ Keep 2 Action 1 ∷ Keep 2 Digest 1
    ∷ Close 0 1 ∷ Close 0 12 ∷ []

-- the journal, with this cause for the second start of the package
abbrev pub worked : Reason Key → List (Told Key Held)
worked cause = first_version ++ second_begins ++ second_version cause
