-- Keys and values that are equal are the same.
use Rattle.std.specs.Prelude.{◌≡◌, Bool, nat_eq}
use Rattle.std.proofs.Common.{ap, ◌∙◌}
use Rattle.std.proofs.Math.Bool.{beq}
use Rattle.std.specs.Cmp.Lexicographic.{pointwise}
use Rattle.target_file.specs.Targets.{same_target, same_file}
use Rattle.target_file.specs.Laws.{same_targets, same_files}
use Rattle.dice_key.specs.Lawful.{SameKeys, AreSame}
use Rattle.dice_key.specs.Same.{same_number, same_bool, same_text, same_option, same_result, tied_texts}
use Rattle.action_digest.specs.contracts.key.KeyPartialEq.TheImpl as key_eq
use Rattle.action_digest.specs.contracts.key.KeyOrd.TheImpl as key_ord
use Rattle.action_digest.specs.contracts.value.ValuePartialEq.TheImpl as value_eq
use Rattle.action_digest.specs.contracts.value.ActionTextPartialEq.TheImpl as action_eq
use Rattle.action_digest.specs.contracts.fault.FaultPartialEq.TheImpl as fault_eq
use Rattle.action_digest.specs.declared.key.Key.{Key}
use Rattle.action_digest.specs.declared.key.Key.TheVariants as key
use Rattle.action_digest.specs.declared.value.Value.{Value}
use Rattle.action_digest.specs.declared.value.Value.TheVariants as value
use Rattle.action_digest.specs.declared.fault.Fault.TheVariants.{NoPackage, BadFile, NoTarget, NoSource}
use Rattle.std.proofs.lemmas.Bool.{and_parts}

-- how keys and values are compared
abbrev pub key_equal : Key → Key → Bool
key_equal = key_eq.ghosts.eq

abbrev pub value_equal : Value → Value → Bool
value_equal = value_eq.ghosts.eq

pub keys_same : SameKeys key_ord.ghosts.cmp
keys_same (key.Source p) (key.Source q) h = ap key.Source (tied_texts p q h)
keys_same (key.Package p) (key.Package q) h = ap key.Package (tied_texts p q h)
keys_same (key.Rule p) (key.Rule q) h = ap key.Rule (tied_texts p q h)
keys_same (key.Action p) (key.Action q) h = ap key.Action (tied_texts p q h)
keys_same (key.Digest p) (key.Digest q) h = ap key.Digest (tied_texts p q h)
keys_same x y h = cc

faults_equal : AreSame fault_eq.ghosts.eq
faults_equal (NoPackage p) (NoPackage q) h = ap NoPackage (same_text p q h)
faults_equal (BadFile p m) (BadFile q n) h =
    let b = and_parts (pointwise nat_eq p q) (nat_eq m n) h in
    ap (λ x. BadFile x m) (same_text p q b.0) ∙ ap (BadFile q) (same_number m n b.1)
faults_equal (NoTarget l) (NoTarget k) h = ap NoTarget (same_text l k h)
faults_equal (NoSource p) (NoSource q) h = ap NoSource (same_text p q h)
faults_equal x y h = cc

actions_equal : AreSame action_eq.ghosts.eq
actions_equal x y h =
    let b = and_parts (pointwise nat_eq x.text y.text) (beq x.holds_version y.holds_version) h in
    let e : x.text ≡ y.text = same_text x.text y.text b.0 in
    let f : x.holds_version ≡ y.holds_version = same_bool x.holds_version y.holds_version b.1 in
    λ i. record { text = e i; holds_version = f i }

pub values_equal : AreSame value_equal
values_equal (value.Source a) (value.Source b) h = ap value.Source (same_option (pointwise nat_eq) same_text a b h)
values_equal (value.Package a) (value.Package b) h = ap value.Package (same_result same_file fault_eq.ghosts.eq same_files faults_equal a b h)
values_equal (value.Rule a) (value.Rule b) h = ap value.Rule (same_result same_target fault_eq.ghosts.eq same_targets faults_equal a b h)
values_equal (value.Action a) (value.Action b) h = ap value.Action (same_result action_eq.ghosts.eq fault_eq.ghosts.eq actions_equal faults_equal a b h)
values_equal (value.Digest a) (value.Digest b) h = ap value.Digest (same_result (pointwise nat_eq) fault_eq.ghosts.eq same_text faults_equal a b h)
values_equal x y h = cc
