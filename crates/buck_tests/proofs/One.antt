-- One changed source is a commit.
use Rattle.std.proofs.Common.{◌≡◌, ℕ, List, [], ◌∷◌, refl, sym, subst, arith}
use Rattle.dice_model.specs.Log.{IsCommit}
use Rattle.action_digest.specs.declared.key.Key.{Key}
use Rattle.action_digest.specs.declared.key.Key.TheVariants as key
use Rattle.action_digest.specs.declared.value.Value.{Value}
use Rattle.action_digest.specs.Buck.{buck}

pub one_source : (p : List ℕ) (x : Value) (c : List (Key × Value)) → c ≡ (key.Source p, x) ∷ [] → IsCommit buck c
one_source p x c e = subst (IsCommit buck) (sym e) (record { some = omega arith; injected = (refl, tt); distinct = ((λ h. h), tt) })
