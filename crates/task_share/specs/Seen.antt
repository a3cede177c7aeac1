-- A table as its users see it: a list of keys with what is kept at each, read by key.
use Rattle.std.specs.Prelude.{◌≡◌, ◌≤◌, ◌+◌, ◌||◌, ℕ, Bool, true, false, cond, nat_eq, List, [], length, Option, Some, None, option_and_then, is_some}
use Rattle.std.specs.Map.{lookup, values_of}
use Rattle.std.specs.List.{list_any, sum_by}
use Rattle.task_share.specs.Asked.{By, Promised, Tasked, Asked}

-- what is kept at a key: its task, if there is one, and whether it is there and has not ended; the promises and the tasks that ask for the key, the
-- keys that its task waits for, and how many more of each there is room for; the key itself, if it is not among the candidates and was
-- not taken out with its task
pub record Share (K T : Type 0) : Type 0 where
  pub task : Option T
  pub live : Bool
  pub promises : List ℕ
  pub askers : List K
  pub waits : List K
  pub promise_room : ℕ
  pub asker_room : ℕ
  pub wait_room : ℕ
  pub name : Option K

-- what a test says of a thing that may not be there
abbrev pub is_for : {X : Type 0} → (X → Bool) → Option X → Bool
is_for f None = false
is_for f (Some x) = f x

abbrev pub list_for : {X Y : Type 0} → (X → List Y) → Option X → List Y
list_for f None = []
list_for f (Some x) = f x

abbrev pub number_for : {X : Type 0} → (X → ℕ) → Option X → ℕ
number_for f None = 0
number_for f (Some x) = f x

-- there is a task, and it has not ended
abbrev pub has_live : {K T : Type 0} → Share K T → Bool
has_live p = p.live

-- a task may be put there: there is one, or the key for it
abbrev pub takes_task : {K T : Type 0} → Share K T → Bool
takes_task p = is_some p.task || is_some p.name

-- a number of what there is room for, if a task may be put
abbrev pub room_in : {K T : Type 0} → (Share K T → ℕ) → Share K T → ℕ
room_in f p = cond (takes_task p) (f p) 0

-- whether this asker is among those of the key
abbrev pub has_by : {K T : Type 0} → (K → K → Bool) → Share K T → By K → Bool
has_by eq p (Promised n) = list_any (nat_eq n) p.promises
has_by eq p (Tasked j) = list_any (eq j) p.askers

-- how many asks of tasks there are
abbrev pub ask_count : {K T : Type 0} → List (K × Share K T) → ℕ
ask_count {K} {T} ps = sum_by (λ (p : Share K T). length p.askers) (values_of ps)

abbrev pub one_if : Bool → ℕ
one_if true = 1
one_if false = 0

-- how many tasks have not ended
abbrev pub live_count : {K T : Type 0} → List (K × Share K T) → ℕ
live_count {K} {T} ps = sum_by (λ (p : Share K T). one_if p.live) (values_of ps)

module _ {K T : Type 0} (eq : K → K → Bool) where
  -- the task of a key, ended or not
  abbrev pub task_at : List (K × Share K T) → K → Option T
  task_at ps k = option_and_then (λ p. p.task) (lookup (eq k) ps)

  -- the key has a task that has not ended
  abbrev pub is_live : List (K × Share K T) → K → Bool
  is_live ps k = is_for has_live (lookup (eq k) ps)

  -- the asker asks for the key
  abbrev pub asks : List (K × Share K T) → K → By K → Bool
  asks ps k a = is_for (λ p. has_by eq p a) (lookup (eq k) ps)

  -- the keys that the task of a key waits for
  abbrev pub waits_at : List (K × Share K T) → K → List K
  waits_at ps k = list_for (λ p. p.waits) (lookup (eq k) ps)

  -- the waits of tasks are just their asks
  abbrev pub IsMirrored : List (K × Share K T) → Type 0
  IsMirrored ps = (d k : K) → asks ps d (Tasked k) ≡ list_any (eq d) (waits_at ps k)

  -- which keys have a task that has not ended, and who asks for which key
  abbrev pub asked_of : List (K × Share K T) → Asked K
  asked_of ps = record { live = is_live ps; asks = asks ps }

  -- there is a place for a task of the key
  abbrev pub has_place : List (K × Share K T) → K → Bool
  has_place ps k = is_for takes_task (lookup (eq k) ps)

  -- how many more promises may ask for the key without memory, how many more tasks, and how many more keys its task may wait for
  abbrev pub promise_room : List (K × Share K T) → K → ℕ
  promise_room ps k = number_for (room_in (λ p. p.promise_room)) (lookup (eq k) ps)

  abbrev pub asker_room : List (K × Share K T) → K → ℕ
  asker_room ps k = number_for (room_in (λ p. p.asker_room)) (lookup (eq k) ps)

  abbrev pub wait_room : List (K × Share K T) → K → ℕ
  wait_room ps k = number_for (room_in (λ p. p.wait_room)) (lookup (eq k) ps)

  -- the tasks, and which of them have ended, are as before
  pub record KeepsTasks (ps qs : List (K × Share K T)) : Type 0 where
    pub tasks : (q : K) → task_at qs q ≡ task_at ps q
    pub live : (q : K) → is_live qs q ≡ is_live ps q
    pub count : live_count qs ≡ live_count ps

  -- the askers are as before, and with them the waits
  abbrev pub KeepsAsks : List (K × Share K T) → List (K × Share K T) → Type 0
  KeepsAsks ps qs = (q : K) (a : By K) → asks qs q a ≡ asks ps q a

  -- the room made ahead is still there, and there are no more asks of tasks
  pub record KeepsRoom (ps qs : List (K × Share K T)) : Type 0 where
    pub places : (q : K) → has_place ps q ≡ true → has_place qs q ≡ true
    pub promises : (q : K) → promise_room ps q ≤ promise_room qs q
    pub askers : (q : K) → asker_room ps q ≤ asker_room qs q
    pub waits : (q : K) → wait_room ps q ≤ wait_room qs q
    pub count : ask_count qs ≤ ask_count ps

  -- the room made ahead is still there, but for that of one key, and there are no more asks of tasks
  pub record KeepsOtherRoom (k : K) (ps qs : List (K × Share K T)) : Type 0 where
    pub places : (q : K) → eq k q ≡ false → has_place ps q ≡ true → has_place qs q ≡ true
    pub promises : (q : K) → eq k q ≡ false → promise_room ps q ≤ promise_room qs q
    pub askers : (q : K) → eq k q ≡ false → asker_room ps q ≤ asker_room qs q
    pub waits : (q : K) → eq k q ≡ false → wait_room ps q ≤ wait_room qs q
    pub count : ask_count qs ≤ ask_count ps

  -- of the room made ahead at most this was used: m q for promises, n q for asking tasks and l q for waits of each key q
  pub record UsesRoomOf (m n l : K → ℕ) (ps qs : List (K × Share K T)) : Type 0 where
    pub places : (q : K) → has_place ps q ≡ true → has_place qs q ≡ true
    pub promises : (q : K) → promise_room ps q ≤ promise_room qs q + m q
    pub askers : (q : K) → asker_room ps q ≤ asker_room qs q + n q
    pub waits : (q : K) → wait_room ps q ≤ wait_room qs q + l q
