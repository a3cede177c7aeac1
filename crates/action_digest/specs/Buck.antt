-- The universe of Buck targets: what each key is computed from, and what its value is.
use Rattle.std.specs.Prelude.{ℕ, Bool, true, false, List, [], ◌∷◌, ◌++◌, codes, Option, Some, None, Result, Ok, Err}
use Rattle.sha2.specs.Sha256.{sha256}
use Rattle.buck_label.specs.Labels.{package_of, target_of, target_file_of, printed_package}
use Rattle.target_file.specs.Targets.{Target, Located, target_named}
use Rattle.target_file.specs.declared.action.Action.{Action}
use Rattle.target_file.specs.Contents.{Contents, Holds, Fails, contents}
use Rattle.dice_key.specs.Meaning.{Meaning, Answered, Step, Asks, Ends, answered_with}
use Rattle.dice_key.specs.declared.universe.Kind.{Kind}
use Rattle.dice_key.specs.declared.universe.Kind.TheVariants as kind
use Rattle.action_digest.specs.declared.key.Key.{Key}
use Rattle.action_digest.specs.declared.key.Key.TheVariants as key
use Rattle.action_digest.specs.declared.value.Value.{Value}
use Rattle.action_digest.specs.declared.value.Value.TheVariants as value
use Rattle.action_digest.specs.declared.fault.Fault.{Fault}
use Rattle.action_digest.specs.declared.fault.Fault.TheVariants.{NoPackage, BadFile, NoTarget}
use Rattle.action_digest.specs.declared.value.ActionText.{ActionText}
use Rattle.action_digest.specs.Actions.{nothing, source_in, asked_by, action_of}

abbrev pub kind_of : Key → Kind
kind_of (key.Source p) = kind.Injected
kind_of (key.Package p) = kind.Computed
kind_of (key.Rule l) = kind.Projection
kind_of (key.Action l) = kind.Computed
kind_of (key.Digest l) = kind.Projection

-- the one key that a key asks first: of a package its target file, of a rule its package, of an
-- action its rule, of a digest its action
abbrev pub base_of : Key → Key
base_of (key.Source p) = key.Source p
base_of (key.Package p) = key.Source (target_file_of p)
base_of (key.Rule l) = key.Package (package_of l)
base_of (key.Action l) = key.Rule l
base_of (key.Digest l) = key.Action l

-- what an answer says of a package, a rule and an action
abbrev pub package_in : Option Value → Result (List Located) Fault
package_in (Some (value.Package r)) = r
package_in _ = Err nothing

abbrev pub rule_in : Option Value → Result Target Fault
rule_in (Some (value.Rule r)) = r
rule_in _ = Err nothing

abbrev pub action_in : Option Value → Result ActionText Fault
action_in (Some (value.Action r)) = r
action_in _ = Err nothing

-- the targets of a package, by the bytes of its target file: the file that they are, otherwise the
-- fault; if there is no file there is no package
abbrev pub file_by : List ℕ → Contents → Result (List Located) Fault
file_by p (Holds f) = Ok f
file_by p (Fails l) = Err (BadFile (target_file_of p) l)

abbrev pub package_by : List ℕ → Option (List ℕ) → Result (List Located) Fault
package_by p (Some bytes) = file_by p (contents bytes)
package_by p None = Err (NoPackage p)

-- the target of a label, by the targets of its package
abbrev pub found_by : List ℕ → Option Target → Result Target Fault
found_by l (Some t) = Ok t
found_by l None = Err (NoTarget l)

abbrev pub rule_by : List ℕ → Result (List Located) Fault → Result Target Fault
rule_by l (Ok f) = found_by l (target_named (target_of l) f)
rule_by l (Err e) = Err e

-- the digest of an action, by its text
abbrev pub digest_by : Result ActionText Fault → Result (List ℕ) Fault
digest_by (Ok a) = Ok (sha256 a.text)
digest_by (Err e) = Err e

-- the value of a package, a rule and a digest, by the answer for its base
abbrev pub package_value : List ℕ → Option Value → Value
package_value p x = value.Package (package_by p (source_in x))

abbrev pub rule_value : List ℕ → Option Value → Value
rule_value l x = value.Rule (rule_by l (package_in x))

abbrev pub digest_value : Option Value → Value
digest_value x = value.Digest (digest_by (action_in x))

abbrev pub first_of : List Value → Option Value
first_of [] = None
first_of (x ∷ xs) = Some x

-- an action at version v, when it is known which keys it asks: it asks them in one batch, unless
-- there are none
abbrev pub with_asked : ℕ → Action → List Key → List (Answered Key Value) → Step Key Value
with_asked v a [] A = Ends (value.Action (action_of v a [] []))
with_asked v a (k ∷ ks) [] = Asks (k ∷ ks)
with_asked v a (k ∷ ks) (b ∷ A) = Ends (value.Action (action_of v a (k ∷ ks) b.values))

-- an action after its rule was answered
abbrev pub with_rule : ℕ → List ℕ → Result Target Fault → List (Answered Key Value) → Step Key Value
with_rule v l (Ok t) A = with_asked v t.action (asked_by (package_of l) t.action) A
with_rule v l (Err e) A = Ends (value.Action (Err e))

-- the next move: a source is never run; each other key asks its base, and is done with what the
-- answer makes of it; but an action then asks what its target wants, and is done with the text
abbrev pub buck_next : Key → List (Answered Key Value) → ℕ → Step Key Value
buck_next (key.Source p) A v = Ends (value.Source None)
buck_next (key.Package p) [] v = Asks (key.Source (target_file_of p) ∷ [])
buck_next (key.Package p) (a ∷ A) v = Ends (package_value p (first_of a.values))
buck_next (key.Rule l) [] v = Asks (key.Package (package_of l) ∷ [])
buck_next (key.Rule l) (a ∷ A) v = Ends (rule_value l (first_of a.values))
buck_next (key.Action l) [] v = Asks (key.Rule l ∷ [])
buck_next (key.Action l) (a ∷ A) v = with_rule v l (rule_in (first_of a.values)) A
buck_next (key.Digest l) [] v = Asks (key.Action l ∷ [])
buck_next (key.Digest l) (a ∷ A) v = Ends (digest_value (first_of a.values))

-- the value of a rule and a digest, by the value of its base; of another key nothing is said
abbrev pub projected : Key → Value → Value
projected (key.Source p) x = value.Source None
projected (key.Package p) x = value.Source None
projected (key.Rule l) x = rule_value l (Some x)
projected (key.Action l) x = value.Source None
projected (key.Digest l) x = digest_value (Some x)

-- the value of a source that was never set: no file; of the other kinds, which are never set, the
-- fault that there is nothing
abbrev pub absent_of : Key → Value
absent_of (key.Source p) = value.Source None
absent_of (key.Package p) = value.Package (Err nothing)
absent_of (key.Rule l) = value.Rule (Err nothing)
absent_of (key.Action l) = value.Action (Err nothing)
absent_of (key.Digest l) = value.Digest (Err nothing)

abbrev pub most_of : Key → ℕ
most_of (key.Source p) = 0
most_of (key.Package p) = 1
most_of (key.Rule l) = 1
most_of (key.Action l) = 2
most_of (key.Digest l) = 1

-- how a key prints
abbrev pub short_text : Key → List ℕ
short_text (key.Source p) = p
short_text (key.Package p) = printed_package p
short_text (key.Rule l) = l
short_text (key.Action l) = l
short_text (key.Digest l) = l

abbrev pub key_word : Key → List ℕ
key_word (key.Source p) = codes "source "
key_word (key.Package p) = codes "package "
key_word (key.Rule l) = codes "rule "
key_word (key.Action l) = codes "action "
key_word (key.Digest l) = codes "digest "

abbrev pub key_text : Key → Bool → List ℕ
key_text k true = short_text k
key_text k false = key_word k ++ short_text k

-- a value that is not to be used again at later versions: an action's text that holds its version
abbrev pub is_transient_value : Value → Bool
is_transient_value (value.Source o) = false
is_transient_value (value.Package r) = false
is_transient_value (value.Rule r) = false
is_transient_value (value.Action (Ok a)) = a.holds_version
is_transient_value (value.Action (Err e)) = false
is_transient_value (value.Digest r) = false

abbrev pub buck : Meaning Key Value
buck = record {
  kind = kind_of;
  absent = absent_of;
  next = buck_next;
  is_transient = is_transient_value;
  most = most_of;
  base = base_of;
  project = projected;
  text = key_text;
}

-- the batches that a run was answered, by the answers to its first and to its second batch
abbrev pub answered_so_far : Key → ℕ → Option (List Value) → Option (List Value) → List (Answered Key Value)
answered_so_far k v None ys = []
answered_so_far k v (Some xs) None = answered_with (buck_next k [] v) [] xs
answered_so_far k v (Some xs) (Some ys) = answered_with (buck_next k (answered_with (buck_next k [] v) [] xs) v) (answered_with (buck_next k [] v) [] xs) ys

-- what was answered after the rule, by the answers to the second batch; its keys do not matter
abbrev pub second_batch : Option (List Value) → List (Answered Key Value)
second_batch None = []
second_batch (Some xs) = record { keys = []; values = xs } ∷ []

-- the keys of the second batch, by the answers to the first
abbrev pub asked_with : List ℕ → Result Target Fault → List Key
asked_with l (Ok t) = asked_by (package_of l) t.action
asked_with l (Err e) = []

abbrev pub asked_second : Key → Option (List Value) → List Key
asked_second (key.Action l) (Some xs) = asked_with l (rule_in (first_of xs))
asked_second _ _ = []
