-- What a poll says, by what stands between calls.
use Rattle.std.proofs.Common.{◌≡◌, ◌≢◌, ◌<◌, ℕ, Bool, true, false, cond, nat_eq, List, [], length, Option, Some, None, refl, sym, ap, ◌∙◌, subst, arith}
use Rattle.std.specs.Option.{option_map}
use Rattle.dice_key.specs.Meaning.{Meaning}
use Rattle.dice_key.specs.Lawful.{IsEquality, IsLawful}
use Rattle.dice_key.specs.declared.universe.Kind.{Kind}
use Rattle.dice_key.specs.declared.universe.Kind.TheVariants.{Injected, Computed, Projection}
use Rattle.dice_model.specs.Log.{input}
use Rattle.dice_model.specs.Eval.{HasValue}
use Rattle.dice_model.proofs.Inputs.{injected_value}
use Rattle.task_share.specs.Asked.{Promised}
use Rattle.task_share.specs.Seen.{task_at, is_live, asks}
use Rattle.std.proofs.lemmas.Bool.{eqb-true}
use Rattle.injected.specs.Seen.{cell_at}
use Rattle.journal.specs.Events.{Asking, commits_of, decided, open_count, opened_at, live_at, lost_in_epoch}
use Rattle.core_laws.specs.Tasks.{Standing, Works, Ended, WithValue, WithCycle, WithNothing, Task, is_going, goes_on}
use Rattle.journal.specs.Law.{CycleStands}
use Rattle.core_laws.specs.Stands.{IsStanding, TaskStands}
use Rattle.journal.proofs.Indices.{opened_counts}
use Rattle.core_laws.proofs.StepsRests.{quiet_all}
use Rattle.dice_tasks.specs.Hands.{desk_of}
use Rattle.dice_tasks.specs.Helds.{Held, task_of}
use Rattle.dice_core.specs.Sessions.{owed}
use Rattle.version_epoch.specs.Standings.{open_count_of}
use Rattle.dice_core.specs.Cores.{CoreSeen, Came, ToValue, ToCycle, ToNothing, Pending, Absent, decision_of, past_of, table_at, comes_to, held_to, injected_to, held_in, world_of, poll_of, CoreStands}
use Rattle.dice_core.proofs.CoreLemmas.{task_there}

module _ {K V : Type 0} where
  -- what a key that is not injected has come to is what its task has
  pub by_task : (i : Kind) (n : ℕ) (x : V) (o : Came K V) → i ≢ Injected → injected_to i n x o ≡ o
  by_task Injected n x o h = absurd (h refl)
  by_task Computed n x o h = refl
  by_task Projection n x o h = refl

  -- otherwise it is either its value or what its task has come to
  by_kind : (P : Came K V → Type 0) (i : Kind) (n : ℕ) (x : V) (o : Came K V) → (i ≡ Injected → P (ToValue x)) → P o → P (injected_to i n x o)
  by_kind P Injected n x o h p = by_test (nat_eq n 0)
    where
      by_test : (b : Bool) → P (cond b o (ToValue x))
      by_test true = p
      by_test false = h refl
  by_kind P Computed n x o h p = p
  by_kind P Projection n x o h p = p

  -- and if a transaction is open, an injected key has its value
  not_absent : (i : Kind) (n : ℕ) (x : V) (o : Came K V) → 0 < n → (i ≢ Injected → o ≢ Absent) → injected_to i n x o ≢ Absent
  not_absent Injected n x o l h = by_test (nat_eq n 0) refl
    where
      by_test : (b : Bool) → nat_eq n 0 ≡ b → cond b o (ToValue x) ≢ Absent
      by_test true e z = (let w : n ≡ 0 = eqb-true n 0 e in let y : ⊥ = omega arith in y)
      by_test false e z = (let y : ToValue x ≡ Absent = z in cc)
  not_absent Computed n x o l h = h (λ e. (let y : Computed ≡ Injected = e in cc))
  not_absent Projection n x o l h = h (λ e. (let y : Projection ≡ Injected = e in cc))

module _ {K V : Type 0} (eq : K → K → Bool) (equality : IsEquality eq) (m : Meaning K V) (law : IsLawful m) (c : CoreSeen K V) (st : CoreStands eq m c) (v : ℕ) (k : K) where
  -- what stands of a task
  stood : (h : Held K V) → held_in eq c v k ≡ Some h → TaskStands eq m (past_of c) v k (task_of h)
  stood h e = (st.rests.each v).stands.each k (task_of h) (task_there (task_at eq (table_at c.tables v) k) h e)

  -- a task that has come to this tells so
  abbrev TellsValue : Came K V → Type 0
  TellsValue o = (x : V) → o ≡ ToValue x → HasValue eq m (commits_of (past_of c)) v k x

  abbrev TellsCycle : Came K V → Type 0
  TellsCycle o = (p : List K) → o ≡ ToCycle p → CycleStands eq m (commits_of (past_of c)) v k p

  abbrev TellsLost : Came K V → Type 0
  TellsLost o = o ≡ ToNothing → lost_in_epoch eq (past_of c) v k ≡ true

  tells_value : TellsValue (held_to (held_in eq c v k))
  tells_value = by_held (held_in eq c v k) refl
    where
      by_standing : (s : Standing K V) → IsStanding eq m (past_of c) v k s → TellsValue (comes_to s)
      by_standing (Works w p A) t = λ x e. (let y : Pending ≡ ToValue x = e in cc)
      by_standing (Ended (WithValue z)) t = λ x e. subst (λ y. HasValue eq m (commits_of (past_of c)) v k y) (let y : ToValue z ≡ ToValue x = e in cc) t.0
      by_standing (Ended (WithCycle p)) t = λ x e. (let y : ToCycle p ≡ ToValue x = e in cc)
      by_standing (Ended WithNothing) t = λ x e. (let y : ToNothing ≡ ToValue x = e in cc)

      by_held : (o : Option (Held K V)) → held_in eq c v k ≡ o → TellsValue (held_to o)
      by_held None e = λ x i. (let y : Absent ≡ ToValue x = i in cc)
      by_held (Some h) e = by_standing h.standing (stood h e).standing

  tells_cycle : TellsCycle (held_to (held_in eq c v k))
  tells_cycle = by_held (held_in eq c v k) refl
    where
      by_standing : (s : Standing K V) → IsStanding eq m (past_of c) v k s → TellsCycle (comes_to s)
      by_standing (Works w p A) t = λ x e. (let y : Pending ≡ ToCycle x = e in cc)
      by_standing (Ended (WithValue z)) t = λ x e. (let y : ToValue z ≡ ToCycle x = e in cc)
      by_standing (Ended (WithCycle p)) t = λ x e. subst (λ y. CycleStands eq m (commits_of (past_of c)) v k y) (let y : ToCycle p ≡ ToCycle x = e in cc) t.0
      by_standing (Ended WithNothing) t = λ x e. (let y : ToNothing ≡ ToCycle x = e in cc)

      by_held : (o : Option (Held K V)) → held_in eq c v k ≡ o → TellsCycle (held_to o)
      by_held None e = λ x i. (let y : Absent ≡ ToCycle x = i in cc)
      by_held (Some h) e = by_standing h.standing (stood h e).standing

  tells_lost : TellsLost (held_to (held_in eq c v k))
  tells_lost = by_held (held_in eq c v k) refl
    where
      by_standing : (s : Standing K V) → IsStanding eq m (past_of c) v k s → TellsLost (comes_to s)
      by_standing (Works w p A) t = λ e. (let y : Pending ≡ ToNothing = e in cc)
      by_standing (Ended (WithValue z)) t = λ e. (let y : ToValue z ≡ ToNothing = e in cc)
      by_standing (Ended (WithCycle p)) t = λ e. (let y : ToCycle p ≡ ToNothing = e in cc)
      by_standing (Ended WithNothing) t = λ e. t.0

      by_held : (o : Option (Held K V)) → held_in eq c v k ≡ o → TellsLost (held_to o)
      by_held None e = λ i. (let y : Absent ≡ ToNothing = i in cc)
      by_held (Some h) e = by_standing h.standing (stood h e).standing

  -- how the journal decided it
  decides : 0 < open_count (past_of c) v → decided eq (past_of c) v k ≡ decision_of (held_to (held_in eq c v k))
  decides some = by_held (held_in eq c v k) refl
    where
      by_standing : (s : Standing K V) → IsStanding eq m (past_of c) v k s → decided eq (past_of c) v k ≡ decision_of (comes_to s)
      by_standing (Works w p A) t = t.undecided
      by_standing (Ended (WithValue z)) t = t.1
      by_standing (Ended (WithCycle p)) t = t.1
      by_standing (Ended WithNothing) t = t.1

      by_held : (o : Option (Held K V)) → held_in eq c v k ≡ o → decided eq (past_of c) v k ≡ decision_of (held_to o)
      by_held None e = (st.rests.each v).stands.fresh k (ap (option_map task_of) e) some
      by_held (Some h) e = by_standing h.standing (stood h e).standing

  -- if nothing is ready and nothing out, no task is at work
  settles : c.desk.ready ≡ [] → c.desk.out ≡ [] → held_to (held_in eq c v k) ≢ Pending
  settles ready out = by_held (held_in eq c v k) refl
    where
      idle : is_live eq (table_at c.tables v) k ≡ false
      idle = quiet_all eq equality m law (past_of c) (world_of eq c.tables) (desk_of c.desk) (owed c.sessions) st.rests ready (ap length out) v k

      going : (h : Held K V) → held_in eq c v k ≡ Some h → goes_on h.standing ≡ false
      going h e = ap is_going (sym (task_there (task_at eq (table_at c.tables v) k) h e)) ∙ (sym ((st.rests.each v).stands.live k) ∙ idle)

      by_standing : (s : Standing K V) → goes_on s ≡ false → comes_to {K = K} {V = V} s ≢ Pending
      by_standing (Works w p A) g = λ e. (let y : true ≡ false = g in cc)
      by_standing (Ended (WithValue z)) g = λ e. (let y : ToValue z ≡ Pending = e in cc)
      by_standing (Ended (WithCycle p)) g = λ e. (let y : ToCycle p ≡ Pending = e in cc)
      by_standing (Ended WithNothing) g = λ e. (let y : ToNothing ≡ Pending = e in cc)

      by_held : (o : Option (Held K V)) → held_in eq c v k ≡ o → held_to o ≢ Pending
      by_held None e = λ i. (let y : Absent ≡ Pending = i in cc)
      by_held (Some h) e = by_standing h.standing (going h e)

  -- who is promised has a task
  tasked : (i : ℕ) (a : Asking K) → live_at (past_of c) i ≡ Some a → opened_at (past_of c) v a.opened ≡ true → a.key ≡ k → m.kind k ≢ Injected → held_to (held_in eq c v k) ≢ Absent
  tasked i a live at same computed = by_held (held_in eq c v k) refl
    where
      there : (t : Task K V) × (option_map task_of (held_in eq c v k) ≡ Some t)
      there = (st.rests.each v).tasked k (Promised i) (subst (λ z. asks eq (table_at c.tables v) z (Promised i) ≡ true) same ((st.rests.each v).stands.promises i a live at (λ e. computed (ap m.kind (sym same) ∙ e))))

      by_standing : (s : Standing K V) → comes_to {K = K} {V = V} s ≢ Absent
      by_standing (Works w p A) e = (let y : Pending ≡ Absent = e in cc)
      by_standing (Ended (WithValue z)) e = (let y : ToValue z ≡ Absent = e in cc)
      by_standing (Ended (WithCycle p)) e = (let y : ToCycle p ≡ Absent = e in cc)
      by_standing (Ended WithNothing) e = (let y : ToNothing ≡ Absent = e in cc)

      by_held : (o : Option (Held K V)) → held_in eq c v k ≡ o → held_to o ≢ Absent
      by_held None e = absurd (let y : None ≡ Some there.0 = ap (option_map task_of) (sym e) ∙ there.1 in (let z : ⊥ = cc in z))
      by_held (Some h) e = by_standing h.standing

  -- the value of an injected key
  module _ (inputs : (w : ℕ) (j : K) → cell_at eq m c.cells w j ≡ input eq m (commits_of (past_of c)) w j) where
    set_value : m.kind k ≡ Injected → TellsValue (ToValue (cell_at eq m c.cells v k))
    set_value i x e = subst (λ y. HasValue eq m (commits_of (past_of c)) v k y) (sym (inputs v k) ∙ (let y : ToValue (cell_at eq m c.cells v k) ≡ ToValue x = e in cc)) (injected_value eq m (commits_of (past_of c)) v k i)

    pub poll_value : TellsValue (poll_of eq m c v k)
    poll_value = by_kind TellsValue (m.kind k) (open_count_of c.sessions.epochs v) (cell_at eq m c.cells v k) (held_to (held_in eq c v k)) set_value tells_value

  pub poll_cycle : TellsCycle (poll_of eq m c v k)
  poll_cycle = by_kind TellsCycle (m.kind k) (open_count_of c.sessions.epochs v) (cell_at eq m c.cells v k) (held_to (held_in eq c v k)) (λ i p e. (let y : ToValue (cell_at eq m c.cells v k) ≡ ToCycle p = e in cc)) tells_cycle

  pub poll_lost : TellsLost (poll_of eq m c v k)
  poll_lost = by_kind TellsLost (m.kind k) (open_count_of c.sessions.epochs v) (cell_at eq m c.cells v k) (held_to (held_in eq c v k)) (λ i e. (let y : ToValue (cell_at eq m c.cells v k) ≡ ToNothing = e in cc)) tells_lost

  pub poll_decided : 0 < open_count (past_of c) v → m.kind k ≢ Injected → decided eq (past_of c) v k ≡ decision_of (poll_of eq m c v k)
  poll_decided some computed = decides some ∙ ap decision_of (sym (by_task (m.kind k) (open_count_of c.sessions.epochs v) (cell_at eq m c.cells v k) (held_to (held_in eq c v k)) computed))

  pub poll_quiet : c.desk.ready ≡ [] → c.desk.out ≡ [] → poll_of eq m c v k ≢ Pending
  poll_quiet ready out = by_kind (λ o. o ≢ Pending) (m.kind k) (open_count_of c.sessions.epochs v) (cell_at eq m c.cells v k) (held_to (held_in eq c v k)) (λ i e. (let y : ToValue (cell_at eq m c.cells v k) ≡ Pending = e in cc)) (settles ready out)

  pub poll_asked : (i : ℕ) (a : Asking K) → live_at (past_of c) i ≡ Some a → opened_at (past_of c) v a.opened ≡ true → a.key ≡ k → poll_of eq m c v k ≢ Absent
  poll_asked i a live at same = not_absent (m.kind k) (open_count_of c.sessions.epochs v) (cell_at eq m c.cells v k) (held_to (held_in eq c v k))
      (subst (λ n. 0 < n) (sym (st.sessions.counts v)) (opened_counts eq m (past_of c) v a.opened st.rests.lawful at)) (tasked i a live at same)
