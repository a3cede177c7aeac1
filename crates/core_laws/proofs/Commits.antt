-- A commit leaves all versions as they were: each of them is made by earlier commits.
use Rattle.std.proofs.Common.{ℕ, Bool, List, [], ◌∷◌, Option, refl, arith}
use Rattle.dice_key.specs.Lawful.{IsEquality, IsLawful}
use Rattle.dice_key.specs.Meaning.{Meaning}
use Rattle.task_share.specs.Asked.{Asked}
use Rattle.journal.specs.declared.event.Told.{Told}
use Rattle.journal.specs.declared.event.Told.TheVariants.{Commit}
use Rattle.core_laws.specs.Tasks.{Task}
use Rattle.core_laws.specs.Stands.{VersionStands, IsAtRest}
use Rattle.core_laws.proofs.Frames.{Carries, version_stays, rest_stays, same_promises}

module _ {K V : Type 0} (eq : K → K → Bool) (R : List (Told K V)) (v by : ℕ) (c : List (K × V)) where
  carries : Carries eq R (Commit by c ∷ R) v
  carries = record { later = c ∷ []; commits = refl; longer = omega arith; counts = λ h. h; decides = λ k. refl; asks = λ k h. h; runs = λ k. refl; loses = λ k h. h; bases = λ b k h. h }

module _ {K V : Type 0} (eq : K → K → Bool) (equality : IsEquality eq) (m : Meaning K V) (law : IsLawful m) (R : List (Told K V)) (v : ℕ) where
  -- a version stands if it stood before
  pub committed : (W : List K) (s : Asked K) (ts : K → Option (Task K V)) (by : ℕ) (c : List (K × V)) → VersionStands eq m R v W s ts → VersionStands eq m (Commit by c ∷ R) v W s ts
  committed W s ts by c h = version_stays eq m R (Commit by c ∷ R) v (carries eq R v by c) s ts (same_promises eq m R (Commit by c ∷ R) v (record { lives = λ i. refl; opens = λ i a l. refl }) W s ts h) W h

  -- a version at rest is at rest
  pub committed_rests : (s : Asked K) (ts : K → Option (Task K V)) (by : ℕ) (c : List (K × V)) → IsAtRest eq m R v s ts → IsAtRest eq m (Commit by c ∷ R) v s ts
  committed_rests s ts by c h = rest_stays eq m R (Commit by c ∷ R) v (carries eq R v by c) s ts (same_promises eq m R (Commit by c ∷ R) v (record { lives = λ i. refl; opens = λ i a l. refl }) [] s ts h.stands) (λ z. z) h
