-- What is told of the tasks of one version leaves all other versions as they were.
use Rattle.std.proofs.Common.{◌≡◌, ◌≤◌, ℕ, suc, Bool, false, eqb, List, [], ◌∷◌, length, Option, refl, sym, ◌∙◌, arith, append-nil}
use Rattle.dice_key.specs.Lawful.{IsEquality, IsLawful}
use Rattle.dice_key.specs.Meaning.{Meaning}
use Rattle.task_share.specs.Asked.{Asked}
use Rattle.journal.specs.declared.event.Told.{Told}
use Rattle.journal.specs.declared.event.Told.TheVariants.{Start, Keep, End, Cyclic, Drop, Lost}
use Rattle.journal.specs.Events.{open_count, commits_of}
use Rattle.core_laws.specs.Tasks.{Task}
use Rattle.core_laws.specs.Stands.{VersionStands, IsAtRest}
use Rattle.journal.proofs.Indices.{base_more}
use Rattle.core_laws.proofs.Frames.{Carries, SameLive, version_stays, rest_stays, same_promises}

-- the event is one of a task, at another version
abbrev pub IsElsewhere : {K V : Type 0} → ℕ → Told K V → Type 0
IsElsewhere v (Start w q c) = eqb w v ≡ false
IsElsewhere v (Keep w q b) = eqb w v ≡ false
IsElsewhere v (End w q) = eqb w v ≡ false
IsElsewhere v (Cyclic w q) = eqb w v ≡ false
IsElsewhere v (Drop w q) = eqb w v ≡ false
IsElsewhere v (Lost w q) = eqb w v ≡ false
IsElsewhere v _ = ⊥

module _ {K V : Type 0} (eq : K → K → Bool) (R : List (Told K V)) (v : ℕ) where
  longer : length R ≤ suc (length R)
  longer = omega arith

  carries : (e : Told K V) → IsElsewhere v e → Carries eq R (e ∷ R) v
  carries (Start w q c) n = record { later = []; commits = sym (append-nil (commits_of R)); longer = longer; counts = λ h. h; decides = λ k. refl; asks = λ k h. h; runs = λ k. rw n refl; loses = λ k h. h; bases = λ b k h. base_more eq R b k (Start w q c) h }
  carries (Keep w q b) n = record { later = []; commits = sym (append-nil (commits_of R)); longer = longer; counts = λ h. h; decides = λ k. rw n refl; asks = λ k h. h; runs = λ k. refl; loses = λ k h. h; bases = λ b k h. base_more eq R b k (Keep w q b) h }
  carries (End w q) n = record { later = []; commits = sym (append-nil (commits_of R)); longer = longer; counts = λ h. h; decides = λ k. rw n refl; asks = λ k h. h; runs = λ k. rw n refl; loses = λ k h. h; bases = λ b k h. base_more eq R b k (End w q) h }
  carries (Cyclic w q) n = record { later = []; commits = sym (append-nil (commits_of R)); longer = longer; counts = λ h. h; decides = λ k. rw n refl; asks = λ k h. h; runs = λ k. rw n refl; loses = λ k h. h; bases = λ b k h. h }
  carries (Drop w q) n = record { later = []; commits = sym (append-nil (commits_of R)); longer = longer; counts = λ h. h; decides = λ k. refl; asks = λ k h. h; runs = λ k. rw n refl; loses = λ k h. h; bases = λ b k h. h }
  carries (Lost w q) n = record { later = []; commits = sym (append-nil (commits_of R)); longer = longer; counts = λ h. h; decides = λ k. refl; asks = λ k h. h; runs = λ k. rw n refl; loses = λ k h. rw n h; bases = λ b k h. h }
  carries _ n = absurd n

  same_live : (e : Told K V) → IsElsewhere v e → SameLive R (e ∷ R) v
  same_live (Start w q c) n = record { lives = λ i. refl; opens = λ i a h. refl }
  same_live (Keep w q b) n = record { lives = λ i. refl; opens = λ i a h. refl }
  same_live (End w q) n = record { lives = λ i. refl; opens = λ i a h. refl }
  same_live (Cyclic w q) n = record { lives = λ i. refl; opens = λ i a h. refl }
  same_live (Drop w q) n = record { lives = λ i. refl; opens = λ i a h. refl }
  same_live (Lost w q) n = record { lives = λ i. refl; opens = λ i a h. refl }
  same_live _ n = absurd n

  same_count : (e : Told K V) → IsElsewhere v e → open_count (e ∷ R) v ≡ open_count R v
  same_count (Start w q c) n = refl
  same_count (Keep w q b) n = refl
  same_count (End w q) n = refl
  same_count (Cyclic w q) n = refl
  same_count (Drop w q) n = refl
  same_count (Lost w q) n = refl
  same_count _ n = absurd n

module _ {K V : Type 0} (eq : K → K → Bool) (equality : IsEquality eq) (m : Meaning K V) (law : IsLawful m) (R : List (Told K V)) (v : ℕ) where
  -- a version stands if it stood before
  pub elsewhere : (W : List K) (s : Asked K) (ts : K → Option (Task K V)) (e : Told K V) → VersionStands eq m R v W s ts → IsElsewhere v e → VersionStands eq m (e ∷ R) v W s ts
  elsewhere W s ts e h n = version_stays eq m R (e ∷ R) v (carries eq R v e n) s ts (same_promises eq m R (e ∷ R) v (same_live eq R v e n) W s ts h) W h

  -- a version at rest is at rest
  pub elsewhere_rests : (s : Asked K) (ts : K → Option (Task K V)) (e : Told K V) → IsAtRest eq m R v s ts → IsElsewhere v e → IsAtRest eq m (e ∷ R) v s ts
  elsewhere_rests s ts e h n = rest_stays eq m R (e ∷ R) v (carries eq R v e n) s ts (same_promises eq m R (e ∷ R) v (same_live eq R v e n) [] s ts h.stands) (λ z. sym (same_count eq R v e n) ∙ z) h
