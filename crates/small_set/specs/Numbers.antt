-- What contracts see of a `NumberSet`.
use Rattle.std.specs.Prelude.{◌≡◌, ℕ, Bool, cond, nat_eq, List}
use Rattle.std.specs.List.{list_any}

-- the numbers, and how many more fit with no allocation
pub record Numbers : Type 0 where
  pub keys : List ℕ
  pub room : ℕ

-- ms has the number n or not, as b tells, and of the others those that ns has
abbrev pub Changes : List ℕ → List ℕ → ℕ → Bool → Type 0
Changes ns ms n b = (q : ℕ) → list_any (nat_eq q) ms ≡ cond (nat_eq n q) b (list_any (nat_eq q) ns)
