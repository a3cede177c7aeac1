-- The laws of the tiny universe, each by cases on the key.
use Rattle.std.specs.Prelude.{◌≡◌, ◌≤◌, ◌%◌, ◌^◌, ◌+◌, ℕ, false, List, [], ◌∷◌, length, refl}
use Rattle.std.proofs.Common.{arith}
use Rattle.dice_key.specs.Meaning.{Answered, Step, Asks, Ends}
use Rattle.dice_key.specs.Lawful.{IsLawful}
use Rattle.dice_key.specs.declared.universe.Kind.TheVariants.{Projection}
use Rattle.tiny_universe.specs.declared.place.Place.{Place}
use Rattle.tiny_universe.specs.declared.place.Place.TheVariants.{Cell, Follow, Parity, Sum, Clock, Ring}
use Rattle.tiny_universe.specs.declared.place.Value.{Value}
use Rattle.tiny_universe.specs.declared.place.Value.TheVariants.{Number, Reading}
use Rattle.tiny_universe.specs.Tiny.{tiny, next_move, most_of, kind_of, is_reading, first_in, second_in}

-- a run ends after as many batches as it may ask
ends : (k : Place) (A : List (Answered Place Value)) (v : ℕ) → most_of k ≤ length A → (x : Value) × (next_move k A v ≡ Ends x)
ends (Cell n) A v h = (Number 0, refl)
ends (Follow n) [] v h = absurd (omega arith)
ends (Follow n) (a ∷ []) v h = absurd (omega arith)
ends (Follow n) (a ∷ b ∷ A) v h = (Number (first_in b.values), refl)
ends (Parity n) [] v h = absurd (omega arith)
ends (Parity n) (a ∷ A) v h = (Number (first_in a.values % 2), refl)
ends (Sum n l) [] v h = absurd (omega arith)
ends (Sum n l) (a ∷ A) v h = (Number ((first_in a.values + second_in a.values) % 2 ^ 64), refl)
ends Clock A v h = (Reading v, refl)
ends (Ring b) [] v h = absurd (omega arith)
ends (Ring b) (a ∷ A) v h = (Number (first_in a.values), refl)

-- only the clock looks at the version
asks_alike : (k : Place) (A : List (Answered Place Value)) (v w : ℕ) (ks : List Place) → next_move k A v ≡ Asks ks → next_move k A w ≡ Asks ks
asks_alike (Cell n) A v w ks e = e
asks_alike (Follow n) [] v w ks e = e
asks_alike (Follow n) (a ∷ []) v w ks e = e
asks_alike (Follow n) (a ∷ b ∷ A) v w ks e = e
asks_alike (Parity n) [] v w ks e = e
asks_alike (Parity n) (a ∷ A) v w ks e = e
asks_alike (Sum n l) [] v w ks e = e
asks_alike (Sum n l) (a ∷ A) v w ks e = e
asks_alike Clock A v w ks e = cc
asks_alike (Ring b) [] v w ks e = e
asks_alike (Ring b) (a ∷ A) v w ks e = e

-- and what it shows is transient
abbrev the_end : Value → Step Place Value
the_end x = Ends x

read_once : (v : ℕ) (x : Value) → the_end (Reading v) ≡ the_end x → is_reading x ≡ false → ⊥
read_once v (Number y) e h = cc
read_once v (Reading y) e h = cc

ends_alike : (k : Place) (A : List (Answered Place Value)) (v w : ℕ) (x : Value) → next_move k A v ≡ Ends x → is_reading x ≡ false → next_move k A w ≡ Ends x
ends_alike (Cell n) A v w x e h = e
ends_alike (Follow n) [] v w x e h = e
ends_alike (Follow n) (a ∷ []) v w x e h = e
ends_alike (Follow n) (a ∷ b ∷ A) v w x e h = e
ends_alike (Parity n) [] v w x e h = e
ends_alike (Parity n) (a ∷ A) v w x e h = e
ends_alike (Sum n l) [] v w x e h = e
ends_alike (Sum n l) (a ∷ A) v w x e h = e
ends_alike Clock A v w x e h = absurd (read_once v x e h)
ends_alike (Ring b) [] v w x e h = e
ends_alike (Ring b) (a ∷ A) v w x e h = e

-- a parity is the one projection
asks_base : (k : Place) (v : ℕ) → kind_of k ≡ Projection → next_move k [] v ≡ Asks (tiny.base k ∷ [])
asks_base (Cell n) v e = cc
asks_base (Follow n) v e = cc
asks_base (Parity n) v e = refl
asks_base (Sum a b) v e = cc
asks_base Clock v e = cc
asks_base (Ring b) v e = cc

projects : (k : Place) (v : ℕ) (x : Value) → kind_of k ≡ Projection → next_move k (record { keys = tiny.base k ∷ []; values = x ∷ [] } ∷ []) v ≡ Ends (tiny.project k x)
projects (Cell n) v x e = cc
projects (Follow n) v x e = cc
projects (Parity n) v x e = refl
projects (Sum a b) v x e = cc
projects Clock v x e = cc
projects (Ring b) v x e = cc

pub tiny_is_lawful : IsLawful tiny
tiny_is_lawful = record {
  ends = ends;
  asks_alike = asks_alike;
  ends_alike = ends_alike;
  asks_base = asks_base;
  projects = λ k v ks x e. projects k v x e;
  projected_lasts = λ k x e. refl;
}
