-- What a table keeps of its candidates, and what becomes of one place.
use Rattle.std.specs.Prelude.{◌≡◌, ◌≤◌, ◌<◌, ◌+◌, ℕ, Bool, true, false, not, cond, ◌&&◌, ◌||◌, eqb, List, [], length, map, Option, Some, None, is_some, slice_get}
use Rattle.std.specs.Arc.{arc_value}
use Rattle.std.specs.Map.{lookup, keys_of, values_of}
use Rattle.std.specs.List.{list_any, sum_by, IsDistinct}
use Rattle.std.specs.Option.{option_map}
use Rattle.std.specs.declared.sync.Arc.{Arc}
use Rattle.task_share.specs.Asked.{By, Tasked, is_by}
pub use Rattle.task_share.specs.Seen.{IsMirrored}
use Rattle.task_share.specs.Seen.{Share, takes_task, number_for, has_live, has_by, asks, waits_at, ask_count, one_if, live_count, KeepsTasks, KeepsAsks, KeepsRoom}
use Rattle.task_share.specs.declared.place.Place.{Place}
use Rattle.lists.specs.Lists.{Has}

-- a place without its pointers
abbrev pub share_of : {K T : Type 0} → Place K T → Share K T
share_of p = record {
  task = p.task;
  live = p.live;
  promises = p.promises.keys;
  askers = map arc_value (values_of p.askers.entries);
  waits = map arc_value (values_of p.waits.entries);
  promise_room = p.promises.room;
  asker_room = p.askers.room;
  wait_room = p.waits.room;
  name = option_map arc_value p.name;
}

abbrev pub entry_of : {K A T : Type 0} → Arc K A × Place K T → K × Share K T
entry_of e = (arc_value e.0, share_of e.1)

-- the places of a table
abbrev pub shares_of : {K A T : Type 0} → List (Arc K A × Place K T) → List (K × Share K T)
shares_of es = map entry_of es

-- the keys of a table, in the order of their numbers
abbrev pub names_of : {K A T : Type 0} → List (Arc K A × Place K T) → List K
names_of es = map (λ e. arc_value e.0) es

-- each of these keys stands by its number
abbrev pub AreNumbered : {K A : Type 0} → List K → List (ℕ × Arc K A) → Type 0
AreNumbered {K} {A} names xs = (x : ℕ × Arc K A) → Has xs x → slice_get names x.0 ≡ Some (arc_value x.1)

-- each key has one place, and those who ask and what is waited for stand by their numbers
pub record IsLinked {K A T : Type 0} (eq : K → K → Bool) (es : List (Arc K A × Place K T)) : Type 0 where
  pub distinct : IsDistinct (λ a b. eq (arc_value a) (arc_value b)) (keys_of es)
  pub askers : (e : Arc K A × Place K T) → Has es e → AreNumbered (names_of es) e.1.askers.entries
  pub waits : (e : Arc K A × Place K T) → Has es e → AreNumbered (names_of es) e.1.waits.entries

-- the task has not ended, and nobody asks for it
abbrev pub is_idle : {K T : Type 0} → Share K T → Bool
is_idle p = has_live p && (eqb (length p.promises) 0 && eqb (length p.askers) 0)

-- a place whose task is idle gives its key away, to the candidates
abbrev pub settled : {K T : Type 0} → Share K T → Share K T
settled p = record p { name = cond (is_idle p) None p.name }

abbrev pub released : {K T : Type 0} → Share K T → Option K
released p = cond (is_idle p) p.name None

-- how many keys a place may still give away
abbrev pub kept_name : {K T : Type 0} → Share K T → ℕ
kept_name p = one_if (is_some p.name || not (is_some p.task))

-- a place with a task has its key, or the key is among the candidates, as that of an idle task is; a task that has not ended is there
pub record IsNamed {K T : Type 0} (cs : List K) (k : K) (p : Share K T) : Type 0 where
  pub idle : is_idle p ≡ true → p.name ≡ None
  pub listed : p.name ≡ None → is_some p.task ≡ true → Has cs k
  pub named : (n : K) → p.name ≡ Some n → n ≡ k
  pub runs : p.live ≡ true → is_some p.task ≡ true

-- each place is named, and there is room for all keys among the candidates
pub record IsListed {K T : Type 0} (eq : K → K → Bool) (ps : List (K × Share K T)) (cs : List K) (room : ℕ) : Type 0 where
  pub each : (k : K) (p : Share K T) → lookup (eq k) ps ≡ Some p → IsNamed cs k p
  pub fits : sum_by kept_name (values_of ps) + length cs ≤ room

-- what a table keeps
pub record IsWhole {K T : Type 0} (eq : K → K → Bool) (ps : List (K × Share K T)) (cs : List K) (room : ℕ) : Type 0 where
  pub listed : IsListed eq ps cs room
  pub mirrored : IsMirrored eq ps

-- a place without a task and without an asker
pub record IsVacant {K T : Type 0} (p : Share K T) : Type 0 where
  pub task : p.task ≡ None
  pub live : p.live ≡ false
  pub promises : p.promises ≡ []
  pub askers : p.askers ≡ []
  pub waits : p.waits ≡ []

-- what was at a key and is there now are in R, or nothing is there
abbrev pub AreIn : {X : Type 0} → (X → X → Type 0) → Option X → Option X → Type 0
AreIn R None None = Unit {0}
AreIn R None (Some y) = ⊥
AreIn R (Some x) None = ⊥
AreIn R (Some x) (Some y) = R x y

-- the place of k changed by R, and no other; so a sum over all places changes by what it has of that place
pub record IsChanged {K T : Type 0} (eq : K → K → Bool) (k : K) (R : Share K T → Share K T → Type 0) (ps qs : List (K × Share K T)) : Type 0 where
  pub here : AreIn R (lookup (eq k) ps) (lookup (eq k) qs)
  pub others : (q : K) → eq k q ≡ false → lookup (eq q) qs ≡ lookup (eq q) ps
  pub sums : (f : Share K T → ℕ) → sum_by f (values_of qs) + number_for f (lookup (eq k) ps) ≡ sum_by f (values_of ps) + number_for f (lookup (eq k) qs)

-- the room of a place: m promises, n askers and l waits were used of it at most, and at most n tasks more ask
pub record UsesRoom {K T : Type 0} (m n l : ℕ) (p r : Share K T) : Type 0 where
  pub promises : p.promise_room ≤ r.promise_room + m
  pub askers : p.asker_room ≤ r.asker_room + n
  pub waits : p.wait_room ≤ r.wait_room + l
  pub count : length r.askers ≤ length p.askers + n
  pub stays : takes_task p ≡ true → takes_task r ≡ true

-- the task of a place changes by t, whether it has not ended by e, its askers by A and its waits by W
pub record Turns {K T : Type 0} (eq : K → K → Bool) (t : Option T → Option T) (e : Bool → Bool) (A : By K → Bool → Bool) (W : K → Bool → Bool) (p r : Share K T) : Type 0 where
  pub task : r.task ≡ t p.task
  pub live : r.live ≡ e p.live
  pub asks : (a : By K) → has_by eq r a ≡ A a (has_by eq p a)
  pub waits : (d : K) → list_any (eq d) r.waits ≡ W d (list_any (eq d) p.waits)

-- the place of a number changed by R, and no other; all numbers stay
pub record IsChangedAt {K A T : Type 0} (eq : K → K → Bool) (n : ℕ) (R : Share K T → Share K T → Type 0) (es fs : List (Arc K A × Place K T)) : Type 0 where
  pub names : names_of fs ≡ names_of es
  pub linked : IsLinked eq fs
  pub changed : (k : K) → slice_get (names_of es) n ≡ Some k → IsChanged eq k R (shares_of es) (shares_of fs)

-- the asker a comes to those of a place, or leaves them
abbrev pub Joined : {K T : Type 0} → (K → K → Bool) → By K → Share K T → Share K T → Type 0
Joined eq a p r = Turns eq (λ t. t) (λ e. e) (λ x b. b || is_by eq a x) (λ d b. b) p r

abbrev pub Left : {K T : Type 0} → (K → K → Bool) → By K → Share K T → Share K T → Type 0
Left eq a p r = Turns eq (λ t. t) (λ e. e) (λ x b. b && not (is_by eq a x)) (λ d b. b) p r

-- the place stays, but for its room and its key
abbrev pub Stays : {K T : Type 0} → (K → K → Bool) → Share K T → Share K T → Type 0
Stays eq p r = Turns eq (λ t. t) (λ e. e) (λ x b. b) (λ d b. b) p r

-- what is kept of the candidates stays, whatever they are
abbrev pub KeepsListed : {K T : Type 0} → (K → K → Bool) → List (K × Share K T) → List (K × Share K T) → Type 0
KeepsListed {K} eq ps qs = (cs : List K) (room : ℕ) → IsListed eq ps cs room → IsListed eq qs cs room

-- tasks, askers and waits are as before, and the room made ahead is still there
pub record IsKept {K T : Type 0} (eq : K → K → Bool) (ps qs : List (K × Share K T)) : Type 0 where
  pub tasks : KeepsTasks eq ps qs
  pub asks : KeepsAsks eq ps qs
  pub waits : (k d : K) → list_any (eq d) (waits_at eq qs k) ≡ list_any (eq d) (waits_at eq ps k)
  pub room : KeepsRoom eq ps qs

-- k asks no more for what it waited for, which was `from`
pub record Withdraws {K T : Type 0} (eq : K → K → Bool) (k : K) (from : List K) (ps qs : List (K × Share K T)) : Type 0 where
  pub tasks : KeepsTasks eq ps qs
  pub asks : (q : K) (a : By K) → asks eq qs q a ≡ (asks eq ps q a && not (is_by eq (Tasked k) a && list_any (eq q) from))
  pub waits : (i d : K) → list_any (eq d) (waits_at eq qs i) ≡ list_any (eq d) (waits_at eq ps i)
  pub room : KeepsRoom eq ps qs

-- some of what k waits for was left, and `rest` is to come
pub record Withdrawing {K T : Type 0} (eq : K → K → Bool) (k : K) (all rest : List K) (ps qs : List (K × Share K T)) : Type 0 where
  pub done : List K
  pub split : (q : K) → list_any (eq q) all ≡ (list_any (eq q) rest || list_any (eq q) done)
  pub gone : Withdraws eq k done ps qs

-- the place p of k, whose task is idle, is emptied
pub record IsTaken {K T : Type 0} (eq : K → K → Bool) (k : K) (p : Share K T) (ps qs : List (K × Share K T)) : Type 0 where
  pub there : lookup (eq k) ps ≡ Some p
  pub idle : is_idle p ≡ true
  pub left : Share K T
  pub vacant : IsVacant left
  pub gone : (q : K) → lookup (eq q) qs ≡ cond (eq k q) (Some left) (lookup (eq q) ps)
  pub count : ask_count qs ≤ ask_count ps
  pub fewer : live_count qs < live_count ps

-- the task t of k was idle, and is taken out with what it waits for, after keys went back to their places
pub record IsPopped {K T : Type 0} (eq : K → K → Bool) (k : K) (t : T) (waits : List K) (ps qs : List (K × Share K T)) : Type 0 where
  pub mid : List (K × Share K T)
  pub kept : IsKept eq ps mid
  pub place : Share K T
  pub taken : IsTaken eq k place mid qs
  pub task : place.task ≡ Some t
  pub waited : waits ≡ place.waits

-- each task that has not ended is there
abbrev pub AllRun : {K T : Type 0} → (K → K → Bool) → List (K × Share K T) → Type 0
AllRun {K} {T} eq ps = (k : K) (p : Share K T) → lookup (eq k) ps ≡ Some p → p.live ≡ true → is_some p.task ≡ true

-- no task is idle
abbrev pub NoneIdle : {K T : Type 0} → (K → K → Bool) → List (K × Share K T) → Type 0
NoneIdle {K} {T} eq ps = (k : K) (p : Share K T) → lookup (eq k) ps ≡ Some p → is_idle p ≡ false
