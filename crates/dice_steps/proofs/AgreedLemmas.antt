-- A check goes on without a comparison if the one key that it asks has the same value at its base.
use Rattle.std.proofs.Common.{◌≡◌, inl, inr, ◌≤◌, ℕ, Bool, true, List, [], ◌∷◌, ◌++◌, length, reverse, Option, Some, refl, sym, ap, ◌∙◌, subst, append_assoc}
use Rattle.std.specs.List.{AllZip}
use Rattle.std.specs.Option.{option_map}
use Rattle.std.proofs.lemmas.Option.{same_Some, none-some}
use Rattle.dice_key.specs.Lawful.{IsEquality, IsLawful}
use Rattle.dice_key.specs.Meaning.{Meaning, Answered}
use Rattle.dice_model.specs.Asks.{Goes}
use Rattle.dice_model.specs.Eval.{HasValue}
use Rattle.dice_model.proofs.EvalLaws.{one_value}
use Rattle.dice_model.proofs.Traces.{zip_map}
use Rattle.dice_jobs.specs.Jobs.{Assigned, Agrees, AreOfTrace, answered_more}
use Rattle.task_share.specs.Seen.{Share, task_at, asked_of, KeepsTasks}
use Rattle.injected.specs.Seen.{Seen}
use Rattle.injected.proofs.LogLemmas.{log_inputs}
use Rattle.journal.specs.declared.event.Told.{Told}
use Rattle.journal.specs.Events.{commits_of}
use Rattle.versioned_graph.specs.Entries.{Kept, Stored, entry_at}
use Rattle.core_laws.specs.Tasks.{IsOut, IsWaiting, batch_of, value_of}
use Rattle.core_laws.specs.Stands.{WorkStands, AsksNext, VersionStands}
use Rattle.core_laws.specs.Desk.{World}
use Rattle.dice_tasks.specs.Helds.{Held, task_of, held_of}
use Rattle.dice_tasks.specs.Hands.{DeskSeen, tasks_of}
use Rattle.dice_tasks.specs.Entries.{EntriesStand}
use Rattle.dice_steps.specs.Agreements.{HoldsAtBase, HoldsAtBoth, AllAgreeIfKept}
use Rattle.dice_steps.specs.AtHand.{AtHand}
use Rattle.dice_steps.specs.Plans.{IsAtHand}
use Rattle.dice_steps.specs.Wokens.{IsAnswer}
use Rattle.dice_steps.proofs.BatchLemmas.{stood, at_hand_true}
use Rattle.dice_steps.proofs.PartLemmas.{at_hand_same}
use Rattle.lists.specs.Lists.{Has}

-- a row of one key has one value
one_of : {K V : Type 0} (P : K → V → Type 0) (k : K) (ys : List V) → AllZip P (k ∷ []) ys → (y : V) × (ys ≡ y ∷ []) × P k y
one_of P k [] z = absurd z
one_of P k (y ∷ []) z = (y, refl, z.0)
one_of P k (y ∷ x ∷ ys) z = absurd z.1

module _ {K V : Type 0} (eq : K → K → Bool) (m : Meaning K V) where
  -- the answers to a batch that a key goes through
  answers_at : (C : List (List (K × V))) (b : ℕ) (k : K) (acc A later : List (Answered K V)) (c : Answered K V) → Goes eq m C b k acc (A ++ c ∷ later) → AllZip (HasValue eq m C b) c.keys c.values
  answers_at C b k acc [] later c g = g.1
  answers_at C b k acc (a ∷ A) later c g = answers_at C b k (acc ++ a ∷ []) A later c g.2

  module _ (R : List (Told K V)) (es : List (K × Stored K V)) (entries : EntriesStand eq m R es) (v : ℕ) (k : K) (a : Assigned K V) (ks : List K) (stands : WorkStands eq m R v k a.work a.answered) (next : AsksNext eq m v k a.work a.answered (IsWaiting ks)) (e : Kept K V) (h : HoldsAtBase e a ks) (known : entry_at eq es h.key ≡ Some e) where
    -- the trace's answer to the key is the entry's value
    pub entry_agrees : (y : V) → y ≡ e.value → Agrees (answered_more a ks (y ∷ []))
    entry_agrees y is =
        let w = subst (λ W. WorkStands eq m R v k W a.answered) h.checks.work stands in
        let n = subst (λ W. AsksNext eq m v k W a.answered (IsWaiting ks)) h.checks.work next in
        let zip = answers_at (commits_of R) h.base k [] a.answered n.later n.batch (subst (λ T. Goes eq m (commits_of R) h.base k [] T) n.trace_is w.0.traced.goes) in
        let one = one_of (HasValue eq m (commits_of R) h.base) h.key n.batch.values (subst (λ js. AllZip (HasValue eq m (commits_of R) h.base) js n.batch.values) (n.keys_are ∙ h.checks.alone) zip) in
        let kept = (entries.entries_true h.key e known).0.holds h.base h.holds w.0.within in
        let same : one.0 ≡ y = one_value eq m (commits_of R) h.base h.key one.0 e.value one.2 kept ∙ sym is in
        let batch : n.batch ≡ record { keys = ks; values = y ∷ [] } = λ i. record { keys = n.keys_are i; values = (one.1 ∙ ap (λ z. z ∷ []) same) i } in
        subst (λ W. AreOfTrace W (a.answered ++ record { keys = ks; values = y ∷ [] } ∷ [])) (sym h.checks.work)
        (n.later, n.trace_is ∙ (ap (λ (c : Answered K V). a.answered ++ c ∷ n.later) batch ∙ sym (append_assoc a.answered (record { keys = ks; values = y ∷ [] } ∷ []) n.later)))

    -- if the entry has this version too, so is the key's value here
    pub here_agrees : v ≤ length (commits_of R) → e.ranges v ≡ true → (ys : List V) → AllZip (HasValue eq m (commits_of R) v) ks ys → Agrees (answered_more a ks ys)
    here_agrees within now ys zip =
        let one = one_of (HasValue eq m (commits_of R) v) h.key ys (subst (λ js. AllZip (HasValue eq m (commits_of R) v) js ys) h.checks.alone zip) in
        let kept = (entries.entries_true h.key e known).0.holds v now within in
        subst (λ zs. Agrees (answered_more a ks zs)) (sym one.1) (entry_agrees one.0 (one_value eq m (commits_of R) v h.key one.0 e.value one.2 kept))

  module _ (R : List (Told K V)) (es : List (K × Stored K V)) (entries : EntriesStand eq m R es) (v : ℕ) (W : List K) (ps : List (K × Share K (Held K V))) (stands : VersionStands eq m R v W (asked_of eq ps) (tasks_of eq ps)) (cells : Seen K V) (k : K) (x : V) (own : Assigned K V) (out : task_at eq ps k ≡ Some (held_of own IsOut)) where
    -- the answer to the key whose task ends with x is x
    answer_is : (y : V) → IsAnswer eq m cells v k x ps k y → y ≡ x
    answer_is y (inl i) = absurd ((stands.each k (task_of (held_of own IsOut)) (ap (option_map task_of) out)).computed i.0)
    answer_is y (inr (inl i)) = i.1
    answer_is y (inr (inr i)) = absurd (none-some y (sym (ap (λ (z : Option (Held K V)). value_of (option_map task_of z)) out) ∙ i))

    pub all_agree : AllAgreeIfKept eq m cells v k x ps es
    all_agree j on w e ys held keeps at zip =
        let t = stands.each j (task_of (held_of w.job (IsWaiting w.keys))) (ap (option_map task_of) held) in
        let b = stands.waiting k j on in
        let keys : b.0 ≡ w.keys = same_Some b.0 w.keys (sym b.1 ∙ ap (λ (z : Option (Held K V)). batch_of (option_map task_of z)) held) in
        let key : at.key ≡ k = only (subst (λ js. Has js k) (keys ∙ at.checks.alone) b.2) in
        let one = one_of (IsAnswer eq m cells v k x ps) at.key ys (subst (λ js. AllZip (IsAnswer eq m cells v k x ps) js ys) at.checks.alone zip) in
        let y : one.0 ≡ x = answer_is one.0 (subst (λ q. IsAnswer eq m cells v k x ps q one.0) key one.2) in
        subst (λ zs. Agrees (answered_more w.job w.keys zs)) (sym one.1)
        (entry_agrees R es entries v j w.job w.keys t.standing.work t.standing.asks e at (subst (λ q. entry_at eq es q ≡ Some e) (sym key) keeps.known) one.0 (y ∙ sym keeps.value))
      where
        only : {q : K} → Has (q ∷ []) k → q ≡ k
        only (inl i) = i
        only (inr n) = absurd n

  -- the same of a batch whose keys have values at hand in a table with the same tasks
  pub at_hand_agrees : IsEquality eq → IsLawful m → (v : ℕ) (w : World K V) (owed : ℕ) (a : Assigned K V) (ks : List K) (ps qs : List (K × Share K (Held K V))) (d : DeskSeen K V) (es : List (K × Stored K V)) (s : Seen K V) → AtHand eq m v w owed ps d es s → task_at eq ps a.name.key ≡ Some (held_of a IsOut)
      → AsksNext eq m v a.name.key a.work a.answered (IsWaiting ks) → KeepsTasks eq ps qs → (ys : List V) → AllZip (IsAtHand eq m v qs es s) ks ys → HoldsAtBoth eq es v a ks → Agrees (answered_more a ks ys)
  at_hand_agrees equality law v w owed a ks ps qs d es s hand out next tasks ys zip both =
      let C = commits_of (reverse d.events) in
      let t = stood eq equality m law v w owed ps d hand.working a ks out in
      here_agrees (reverse d.events) es hand.entries v a.name.key a ks t.standing.work next both.entry both.at_base both.known t.within both.now ys
      (zip_map (IsAtHand eq m v qs es s) (HasValue eq m C v) ks ys (λ q x i h. at_hand_true eq equality m law v w owed ps d hand.working es s t.within hand.entries (log_inputs eq m C s hand.cells.are) q x (at_hand_same eq ps qs tasks m v es s q x h)) zip)
