-- The laws of a universe.
use Rattle.std.specs.Prelude.{◌≡◌, ◌≤◌, ℕ, Bool, true, false, List, [], ◌∷◌, length}
use Rattle.std.specs.Arc.{arc_value}
use Rattle.std.specs.declared.cmp.Ordering.{Ordering}
use Rattle.std.specs.declared.cmp.Ordering.TheVariants.{Equal}
use Rattle.dice_key.specs.Meaning.{Meaning, Answered, Step, Asks, Ends}
use Rattle.dice_key.specs.declared.universe.Kind.TheVariants.{Projection}
use Rattle.dice_key.specs.declared.batch.Move.{Move}
use Rattle.dice_key.specs.declared.batch.Move.TheVariants.{Ask, Done}

-- what a move of the code says
abbrev pub step_of : {K V : Type 0} → Move K V → Step K V
step_of (Ask ks) = Asks ks
step_of (Done x) = Ends (arc_value x)

abbrev pub IsStep : {K V : Type 0} → Move K V → Step K V → Type 0
IsStep m s = step_of m ≡ s

-- keys that compare equal are the same
abbrev pub SameKeys : {K : Type 0} → (K → K → Ordering) → Type 0
SameKeys {K} cmp = (x y : K) → cmp x y ≡ Equal → x ≡ y

-- things that are equal are the same
abbrev pub AreSame : {X : Type 0} → (X → X → Bool) → Type 0
AreSame {X} eq = (x y : X) → eq x y ≡ true → x ≡ y

-- things are equal exactly if they are the same
pub record IsEquality {X : Type 0} (eq : X → X → Bool) : Type 0 where
  pub same : AreSame eq
  pub itself : (x : X) → eq x x ≡ true

-- the moves of a universe end, depend on the version only in a transient end, and those of a
-- projection are its base and `project`
pub record IsLawful {K V : Type 0} (m : Meaning K V) : Type 0 where
  pub ends : (k : K) (A : List (Answered K V)) (v : ℕ) → m.most k ≤ length A → (x : V) × (m.next k A v ≡ Ends x)
  pub asks_alike : (k : K) (A : List (Answered K V)) (v w : ℕ) (ks : List K) → m.next k A v ≡ Asks ks → m.next k A w ≡ Asks ks
  pub ends_alike : (k : K) (A : List (Answered K V)) (v w : ℕ) (x : V) → m.next k A v ≡ Ends x → m.is_transient x ≡ false → m.next k A w ≡ Ends x
  pub asks_base : (k : K) (v : ℕ) → m.kind k ≡ Projection → m.next k [] v ≡ Asks (m.base k ∷ [])
  pub projects : (k : K) (v : ℕ) (ks : List K) (x : V) → m.kind k ≡ Projection → m.next k (record { keys = m.base k ∷ []; values = x ∷ [] } ∷ []) v ≡ Ends (m.project k x)
  pub projected_lasts : (k : K) (x : V) → m.kind k ≡ Projection → m.is_transient (m.project k x) ≡ false
