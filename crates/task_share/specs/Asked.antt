-- Tasks and who asks for them, and what the cascade drops.
use Rattle.std.specs.Prelude.{◌≡◌, ℕ, Bool, true, false, not, ◌&&◌, nat_eq, List, [], ◌∷◌}
use Rattle.lists.specs.Lists.{Has}

-- who asks for a task: a promise by its number, or another task by its key
pub data By (K : Type 0) : Type 0 where
  Promised : ℕ → By K
  Tasked : K → By K

-- whether the two are one asker
abbrev pub is_by : {K : Type 0} → (K → K → Bool) → By K → By K → Bool
is_by eq (Promised m) (Promised n) = nat_eq m n
is_by eq (Promised m) (Tasked j) = false
is_by eq (Tasked i) (Promised n) = false
is_by eq (Tasked i) (Tasked j) = eq i j

-- which keys have a task that has not ended, and who asks for which key
pub record Asked (K : Type 0) : Type 0 where
  pub live : K → Bool
  pub asks : K → By K → Bool

module _ {K : Type 0} (s : Asked K) where
  -- a chain of asks leads from a promise to the key
  pub data Held : K → Type 0 where
    by_promise : {k : K} (n : ℕ) → s.asks k (Promised n) ≡ true → Held k
    by_task : {k j : K} → s.asks k (Tasked j) ≡ true → Held j → Held k

  -- zero or more asks lead from one task to another
  pub data Leads : K → K → Type 0 where
    stays : {k : K} → Leads k k
    asks_on : {k i j : K} → s.asks i (Tasked k) ≡ true → Leads i j → Leads k j

  -- the asks of tasks form no cycle
  abbrev pub HasNoCycle : Type 0
  HasNoCycle = (k i : K) → s.asks i (Tasked k) ≡ true → Leads i k → ⊥

  -- each asking task is in the table and has not ended
  abbrev pub AskersLive : Type 0
  AskersLive = (i k : K) → s.asks i (Tasked k) ≡ true → s.live k ≡ true

  -- each task that has not ended has an asker
  abbrev pub IsDone : Type 0
  IsDone = (k : K) → s.live k ≡ true → (a : By K) × (s.asks k a ≡ true)

-- a task that has not ended and has no asker is taken out, and its own asks are withdrawn
pub record Takes {K : Type 0} (eq : K → K → Bool) (s : Asked K) (k : K) (t : Asked K) : Type 0 where
  pub taken : s.live k ≡ true
  pub unasked : (a : By K) → s.asks k a ≡ false
  pub live : (q : K) → t.live q ≡ (s.live q && not (eq k q))
  pub asks : (q : K) (a : By K) → t.asks q a ≡ (s.asks q a && not (is_by eq (Tasked k) a))

-- the same tasks and askers
pub record IsSame {K : Type 0} (s t : Asked K) : Type 0 where
  pub live : (q : K) → t.live q ≡ s.live q
  pub asks : (q : K) (a : By K) → t.asks q a ≡ s.asks q a

-- these tasks are taken out one after the other
abbrev pub Cascade : {K : Type 0} → (K → K → Bool) → Asked K → List K → Asked K → Type 0
Cascade eq s [] t = IsSame s t
Cascade {K} eq s (k ∷ ks) t = (u : Asked K) × Takes eq s k u × Cascade eq u ks t

-- a task waits for the key that it asks for
pub record WaitOf (K : Type 0) : Type 0 where
  pub key : K
  pub asker : K

-- what the cascade from s to t drops: just the tasks that have not ended and that no promise holds; the held ones stay
pub record DropsUnheld {K : Type 0} (s : Asked K) (ks : List K) (t : Asked K) : Type 0 where
  pub dropped : (q : K) → Has ks q → (s.live q ≡ true) × (Held s q → ⊥)
  pub unheld : (q : K) → s.live q ≡ true → (Held s q → ⊥) → Has ks q
  pub held : (q : K) → s.live q ≡ true → Held s q → t.live q ≡ true
