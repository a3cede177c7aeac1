-- What becomes of a table whose task is lent to be changed.
use Rattle.std.specs.Prelude.{◌≡◌, ℕ, Bool, List, Option, Some, cond, OnSome}
use Rattle.std.specs.Option.{option_map}
use Rattle.std.specs.Borrow.{LendsSo}
use Rattle.task_share.specs.Seen.{Share, task_at, is_live, waits_at, KeepsAsks, KeepsRoom}
use Rattle.task_share.specs.Numbers.{key_at, KeepsNumbers}
use Rattle.task_share.specs.contracts.table.Table.{the_row}
use base.Fml.{Fml}
use denote.RattleType.{RattleType}
use denote.Ref.{MutBor}

-- the task of k is t, ended or not as before, and all else stays
pub record WritesTask {K T : Type 0} (eq : K → K → Bool) (k : K) (ps qs : List (K × Share K T)) (t : T) : Type 0 where
  pub tasks : (q : K) → task_at eq qs q ≡ cond (eq k q) (option_map (λ _. t) (task_at eq ps q)) (task_at eq ps q)
  pub live : (q : K) → is_live eq qs q ≡ is_live eq ps q
  pub asks : KeepsAsks eq ps qs
  pub waits : (q : K) → waits_at eq qs q ≡ waits_at eq ps q
  pub room : KeepsRoom eq ps qs

-- the table that s points to has the last task that was written through r, and is as before if r is `None`
abbrev pub LendsTask : (K T : RattleType) (eq : K.Denot → K.Denot → Bool) → (K.Denot → List (List ℕ)) → MutBor (List (K.Denot × Share K.Denot T.Denot)) → K.Denot → Option (MutBor T.Denot) → Fml
LendsTask K T eq hash_input s k r = LendsSo (the_row K T (record {}) (record { eq = eq }) (record { hash_input = hash_input })) T s r (λ qs t. OnSome r (WritesTask eq k s.now qs t)) (λ qs. qs ≡ s.now)

-- the same of the task of the key of the number n, and all keys keep their numbers
abbrev pub LendsNumbered : (K T : RattleType) (eq : K.Denot → K.Denot → Bool) → (K.Denot → List (List ℕ)) → MutBor (List (K.Denot × Share K.Denot T.Denot)) → ℕ → Option (MutBor T.Denot) → Fml
LendsNumbered K T eq hash_input s n r = LendsSo (the_row K T (record {}) (record { eq = eq }) (record { hash_input = hash_input })) T s r (λ qs t. OnSome r (((k : K.Denot) → key_at s.now n ≡ Some k → WritesTask eq k s.now qs t) × KeepsNumbers s.now qs)) (λ qs. qs ≡ s.now)
