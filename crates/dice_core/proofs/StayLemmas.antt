-- Those that still ask are answered as before if tasks go that nobody asks for; so they are if a job is lost, except those that waited for it.
use Rattle.std.proofs.Common.{◌≡◌, ◌≢◌, ◌<◌, ◌+◌, ◌-◌, ◌&&◌, ◌||◌, ◌++◌, ◌⊎◌, inl, inr, ℕ, zero, suc, Bool, true, false, cond, nat_eq, eqb, eq-eqb, List, [], ◌∷◌, length, map, reverse, Some, None, refl, sym, ap, ◌∙◌, subst, append_assoc, arith}
use Rattle.std.specs.List.{list_any}
use Rattle.std.proofs.lemmas.Bool.{eqb-true}
use Rattle.dice_key.specs.Meaning.{Meaning}
use Rattle.dice_key.specs.Lawful.{IsEquality, IsLawful}
use Rattle.dice_key.specs.declared.universe.Kind.{Kind}
use Rattle.dice_key.specs.declared.universe.Kind.TheVariants.{Injected, Computed, Projection}
use Rattle.dice_key.proofs.KeySets.{has_or_not}
use Rattle.task_share.specs.Asked.{Tasked, Leads, stays, asks_on, HasNoCycle}
use Rattle.task_share.specs.Seen.{Share, task_at, asks, asked_of}
use Rattle.task_share.proofs.Leads.{leads_more}
use Rattle.injected.specs.Seen.{cell_at}
use Rattle.journal.specs.declared.event.Told.{Told}
use Rattle.journal.specs.declared.event.Told.TheVariants.{Close, Leave, Drop}
use Rattle.journal.specs.Events.{Asking, one_if, open_count, opened_at, live_at}
use Rattle.core_laws.specs.Tasks.{Outcome, WithNothing}
use Rattle.journal.proofs.Indices.{opened_counts}
use Rattle.version_epoch.specs.Standings.{open_count_of}
use Rattle.dice_jobs.specs.Jobs.{Name}
use Rattle.dice_tasks.specs.Endings.{GivesUpAll}
use Rattle.dice_tasks.specs.Helds.{Held, held_ended}
use Rattle.dice_tasks.proofs.EndsLemmas.{back_more}
use Rattle.dice_core.specs.Cores.{CoreSeen, Came, ToValue, ToNothing, events_of, past_of, table_at, held_to, injected_to, held_in, poll_of, PutsTable, DropsThese, CoreStands}
use Rattle.dice_core.specs.Staying.{AnswersStay, LosesWaitersOnly}
use Rattle.dice_core.proofs.CoreLemmas.{table_put}
use Rattle.dice_core.proofs.EventLemmas.{count_works, all_works, all_drops}
use Rattle.dice_core.proofs.PollLemmas.{by_task, poll_asked}
use Rattle.lists.proofs.Distinct.{few}
use Rattle.lists.proofs.Members.{has_map, has_mapped}
use Rattle.lists.specs.Lists.{AreDistinct, Has}

-- ---- polls

module _ {K V : Type 0} where
  -- if a transaction is open an injected key has its value
  its_value : (n : ℕ) (x : V) (o : Came K V) → 0 < n → injected_to Injected n x o ≡ ToValue x
  its_value n x o l = by_test (nat_eq n 0) refl
    where
      by_test : (b : Bool) → nat_eq n 0 ≡ b → cond b o (ToValue x) ≡ ToValue x
      by_test true e = absurd (let w : n ≡ 0 = eqb-true n 0 e in let y : ⊥ = omega arith in y)
      by_test false e = refl

  -- a key has come to the same if its cell and its task have
  same_poll : (j : Kind) (n l : ℕ) (x y : V) (o p : Came K V) → 0 < n → 0 < l → x ≡ y → (j ≢ Injected → o ≡ p) → injected_to j n x o ≡ injected_to j l y p
  same_poll Injected n l x y o p a b e h = its_value n x o a ∙ (ap ToValue e ∙ sym (its_value l y p b))
  same_poll Computed n l x y o p a b e h = h (λ i. (let z : Computed ≡ Injected = i in cc))
  same_poll Projection n l x y o p a b e h = h (λ i. (let z : Projection ≡ Injected = i in cc))

  -- no other event of a leaving changes how many transactions are open
  count_after : (J : List (Told K V)) (x : Told K V) (w : ℕ) (ks : List K) (u : ℕ) → open_count (reverse (J ++ (x ∷ map (Drop w) ks))) u ≡ open_count (x ∷ reverse J) u
  count_after J x w ks u =
      count_works w (J ++ x ∷ []) (J ++ (x ∷ map (Drop w) ks)) u (map (Drop w) ks, sym (append_assoc J (x ∷ []) (map (Drop w) ks)), all_works w (map (Drop w) ks) (all_drops V w ks))
      ∙ ap (λ R. open_count R u) (back_more J x)

below : (n k : ℕ) → 0 < n - k → 0 < n
below n k l = omega arith

module _ {K V : Type 0} (eq : K → K → Bool) (equality : IsEquality eq) (m : Meaning K V) (law : IsLawful m) (c d : CoreSeen K V) (sc : CoreStands eq m c) (sd : CoreStands eq m d) (cells : d.cells ≡ c.cells) where
  module _ (i v : ℕ) (a : Asking K) (live : live_at (past_of d) i ≡ Some a) (at : opened_at (past_of d) v a.opened ≡ true) where
    opens : 0 < open_count (past_of d) v
    opens = opened_counts eq m (past_of d) v a.opened sd.rests.lawful at

    -- a live ask of a key that is not injected has a task
    has_task : m.kind a.key ≢ Injected → held_in eq d v a.key ≡ None → ⊥
    has_task computed e = poll_asked eq equality m law d sd v a.key i a live at refl (by_task (m.kind a.key) (open_count_of d.sessions.epochs v) (cell_at eq m d.cells v a.key) (held_to (held_in eq d v a.key)) computed ∙ ap held_to e)

    same_where : 0 < open_count (past_of c) v → (m.kind a.key ≢ Injected → held_in eq d v a.key ≡ held_in eq c v a.key) → poll_of eq m d v a.key ≡ poll_of eq m c v a.key
    same_where some h = same_poll (m.kind a.key) (open_count_of d.sessions.epochs v) (open_count_of c.sessions.epochs v) (cell_at eq m d.cells v a.key) (cell_at eq m c.cells v a.key) (held_to (held_in eq d v a.key)) (held_to (held_in eq c v a.key))
        (subst (λ n. 0 < n) (sym (sd.sessions.counts v)) opens) (subst (λ n. 0 < n) (sym (sc.sessions.counts v)) some) (ap (λ s. cell_at eq m s v a.key) cells) (λ n. ap held_to (h n))

    -- and so it was not dropped
    not_dropped : (w : ℕ) (all : Bool) (ks : List K) → DropsThese eq w all ks c.tables d.tables → m.kind a.key ≢ Injected → held_in eq d v a.key ≡ held_in eq c v a.key
    not_dropped w all ks drops computed = by_test (nat_eq w v && (all || list_any (eq a.key) ks)) (drops.tasks v a.key)
      where
        by_test : (b : Bool) → held_in eq d v a.key ≡ cond b None (held_in eq c v a.key) → held_in eq d v a.key ≡ held_in eq c v a.key
        by_test true e = absurd (has_task computed e)
        by_test false e = e

  -- after an ask was left
  pub left_alone : (w by ask : ℕ) (ks : List K) → events_of d ≡ events_of c ++ (Leave by ask ∷ map (Drop w) ks) → DropsThese eq w false ks c.tables d.tables → AnswersStay eq m c d
  left_alone w by ask ks told drops i v a live at =
      let n : open_count (past_of d) v ≡ open_count (past_of c) v = ap (λ J. open_count (reverse J) v) told ∙ count_after (events_of c) (Leave by ask) w ks v in
      same_where i v a live at (subst (λ n. 0 < n) n (opens i v a live at)) (not_dropped i v a live at w false ks drops)

  -- after a transaction was closed
  pub closed_alone : (w by t : ℕ) (all : Bool) (ks : List K) → events_of d ≡ events_of c ++ (Close by t ∷ map (Drop w) ks) → DropsThese eq w all ks c.tables d.tables → AnswersStay eq m c d
  closed_alone w by t all ks told drops i v a live at =
      let n : open_count (past_of d) v ≡ open_count (past_of c) v - one_if (opened_at (past_of c) v t) = ap (λ J. open_count (reverse J) v) told ∙ count_after (events_of c) (Close by t) w ks v in
      same_where i v a live at (below (open_count (past_of c) v) (one_if (opened_at (past_of c) v t)) (subst (λ n. 0 < n) n (opens i v a live at))) (not_dropped i v a live at w all ks drops)

-- ---- tasks that are lost

module _ {K V : Type 0} (eq : K → K → Bool) (equality : IsEquality eq) (ps : List (K × Share K (Held K V))) (free : HasNoCycle (asked_of eq ps)) (k : K) (es : List (K × Outcome K V))
    (asked : (p : K × Outcome K V) → Has es p → (p.0 ≡ k) ⊎ ((q : K × Outcome K V) × Has es q × (asks eq ps q.0 (Tasked p.0) ≡ true))) where
  abbrev keys : List K
  keys = map (λ (p : K × Outcome K V). p.0) es

  rises : (n : ℕ) (p : K × Outcome K V) (path : List K) → Has es p → ((e : K) → Has (p.0 ∷ path) e → Leads (asked_of eq ps) e p.0) → ((e : K) → Has (p.0 ∷ path) e → Has keys e) → AreDistinct (p.0 ∷ path) → length keys < length (p.0 ∷ path) + n → Leads (asked_of eq ps) p.0 k
  rises zero p path h l v d room = absurd (let z = few (p.0 ∷ path) keys d v in omega arith)
  rises (suc n) p path h l v d room = elim (asked p h) as (λ _. Leads (asked_of eq ps) p.0 k) [
    | inl same ↦ subst (Leads (asked_of eq ps) p.0) same stays
    | inr w ↦ elim (has_or_not eq equality (p.0 ∷ path) w.0.0) as (λ _. Leads (asked_of eq ps) p.0 k) [
      | inl found ↦ absurd (free p.0 w.0.0 w.2 (l w.0.0 found))
      | inr fresh ↦ asks_on w.2 (rises n w.0 (p.0 ∷ path) w.1
          (λ x g. elim g as (λ _. Leads (asked_of eq ps) x w.0.0) [ inl i ↦ subst (λ y. Leads (asked_of eq ps) y w.0.0) i stays | inr b ↦ leads_more (asked_of eq ps) x p.0 w.0.0 (l x b) w.2 ])
          (λ x g. elim g as (λ _. Has keys x) [ inl i ↦ subst (Has keys) i (has_map (λ (q : K × Outcome K V). q.0) es w.0 w.1) | inr b ↦ v x b ])
          (fresh, d) (let z : length (w.0.0 ∷ p.0 ∷ path) ≡ suc (length (p.0 ∷ path)) = refl in omega arith))
    ]
  ]

  -- each of these tasks waits for that of k
  pub waited : (p : K × Outcome K V) → Has es p → Leads (asked_of eq ps) p.0 k
  waited p h = rises (length keys) p [] h
      (λ e g. elim g as (λ _. Leads (asked_of eq ps) e p.0) [ inl i ↦ subst (λ y. Leads (asked_of eq ps) y p.0) i stays | inr b ↦ absurd b ])
      (λ e g. elim g as (λ _. Has keys e) [ inl i ↦ subst (Has keys) i (has_map (λ (q : K × Outcome K V). q.0) es p h) | inr b ↦ absurd b ])
      ((λ b. b), tt) (let z : length (p.0 ∷ []) ≡ 1 = refl in omega arith)

module _ {K V : Type 0} (eq : K → K → Bool) (equality : IsEquality eq) (m : Meaning K V) (law : IsLawful m) (c d : CoreSeen K V) (sc : CoreStands eq m c) (sd : CoreStands eq m d) (cells : d.cells ≡ c.cells) (sessions : d.sessions ≡ c.sessions)
    (n : Name K) (qs : List (K × Share K (Held K V))) (put : PutsTable n.version qs c.tables d.tables) (g : GivesUpAll eq n.version None n.key (table_at c.tables n.version) qs c.desk d.desk) where
  module _ (i v : ℕ) (a : Asking K) (live : live_at (past_of d) i ≡ Some a) (at : opened_at (past_of d) v a.opened ≡ true) where
    abbrev Stays : Type 0
    Stays = poll_of eq m d v a.key ≡ poll_of eq m c v a.key

    abbrev IsLost : Type 0
    IsLost = (v ≡ n.version) × Leads (asked_of eq (table_at c.tables v)) a.key n.key × (poll_of eq m d v a.key ≡ ToNothing)

    open_before : 0 < open_count (past_of c) v
    open_before = subst (λ l. 0 < l) (sym (sd.sessions.counts v) ∙ (ap (λ s. open_count_of s.epochs v) sessions ∙ sc.sessions.counts v)) (opens eq equality m law c d sc sd cells i v a live at)

    stay : (m.kind a.key ≢ Injected → held_in eq d v a.key ≡ held_in eq c v a.key) → Stays
    stay = same_where eq equality m law c d sc sd cells i v a live at open_before

    module _ (computed : m.kind a.key ≢ Injected) (same : v ≡ n.version) where
      table : table_at d.tables v ≡ qs
      table = table_put c.tables d.tables n.version qs put v ∙ ap (λ b. cond b qs (table_at c.tables v)) (ap (eqb v) (sym same) ∙ itself v)
        where
          itself : (u : ℕ) → eqb u u ≡ true
          itself u = eq-eqb u u refl

      by_end : (o : Has (map (λ (p : K × Outcome K V). p.0) g.ends) a.key ⊎ (Has (map (λ (p : K × Outcome K V). p.0) g.ends) a.key → ⊥)) → task_at eq qs a.key ≡ task_at eq g.tasks a.key → Stays ⊎ IsLost
      by_end (inl h) e =
          let p = has_mapped (λ (p : K × Outcome K V). p.0) g.ends a.key h in
          let r = g.ended.ended p.0 p.1 in
          let now : held_in eq d v a.key ≡ Some (held_ended r.0.name WithNothing) = ap (λ x. task_at eq x a.key) table ∙ (e ∙ (ap (task_at eq g.tasks) (sym p.2) ∙ (r.3 ∙ ap (λ o. Some (held_ended r.0.name o)) (g.ended.comes p.0 p.1)))) in
          inr (
            same,
            subst (λ u. Leads (asked_of eq (table_at c.tables u)) a.key n.key) (sym same) (subst (λ q. Leads (asked_of eq (table_at c.tables n.version)) q n.key) p.2 (waited eq equality (table_at c.tables n.version) (sc.rests.each n.version).stands.no_cycle n.key g.ends g.ended.asked p.0 p.1)),
            by_task (m.kind a.key) (open_count_of d.sessions.epochs v) (cell_at eq m d.cells v a.key) (held_to (held_in eq d v a.key)) computed ∙ ap held_to now,
          )
      by_end (inr none) e = inl (stay (λ _. ap (λ x. task_at eq x a.key) table ∙ (e ∙ (g.ended.others a.key (λ p h i. none (subst (Has (map (λ (p : K × Outcome K V). p.0) g.ends)) i (has_map (λ (p : K × Outcome K V). p.0) g.ends p h))) ∙ ap (λ u. task_at eq (table_at c.tables u) a.key) (sym same)))))

      by_drop : (b : Bool) → task_at eq qs a.key ≡ cond b None (task_at eq g.tasks a.key) → Stays ⊎ IsLost
      by_drop true e = absurd (has_task eq equality m law c d sc sd cells i v a live at computed (ap (λ x. task_at eq x a.key) table ∙ e))
      by_drop false e = by_end (has_or_not eq equality (map (λ (p : K × Outcome K V). p.0) g.ends) a.key) e

    by_version : (b : Bool) → eqb v n.version ≡ b → m.kind a.key ≢ Injected → Stays ⊎ IsLost
    by_version true e computed = let same = eqb-true v n.version e in by_drop computed same (list_any (eq a.key) g.drops) (g.dropped.tasks a.key)
    by_version false e computed = inl (stay (λ _. ap (λ x. task_at eq x a.key) (table_put c.tables d.tables n.version qs put v ∙ ap (λ b. cond b qs (table_at c.tables v)) e)))

    by_kind : (j : Kind) → m.kind a.key ≡ j → Stays ⊎ IsLost
    by_kind Injected e = inl (stay (λ computed. absurd (computed e)))
    by_kind Computed e = by_version (eqb v n.version) refl (λ i. (let z : Computed ≡ Injected = sym e ∙ i in cc))
    by_kind Projection e = by_version (eqb v n.version) refl (λ i. (let z : Projection ≡ Injected = sym e ∙ i in cc))

  -- after a job was lost
  pub loses_waiters_only : LosesWaitersOnly eq m n c d
  loses_waiters_only i v a live at = by_kind i v a live at (m.kind a.key) refl
