-- A transaction that is closed, and a step that is given, over all versions.
use Rattle.std.proofs.Common.{◌≡◌, ◌<◌, ◌-◌, ◌&&◌, ℕ, zero, suc, Bool, true, false, cond, nat_eq, List, [], reverse, Option, Some, None, Result, Ok, Err, unwrap_or, refl, sym, ap, ◌∙◌, subst, arith}
use Rattle.std.specs.Prelude.{OnOk, IfOk, IfSome, IfNone}
use Rattle.std.specs.Map.{lookup}
use Rattle.std.specs.Option.{option_map}
use Rattle.std.specs.List.{list_any}
use Rattle.std.proofs.lemmas.Bool.{eqb-true}
use Rattle.dice_key.specs.Meaning.{Meaning}
use Rattle.dice_key.specs.Lawful.{IsEquality, IsLawful}
use Rattle.task_share.specs.Seen.{Share, task_at, is_live}
use Rattle.injected.specs.Seen.{Seen}
use Rattle.journal.specs.declared.event.Told.{Told}
use Rattle.journal.specs.Events.{Opened, open_at, open_count}
use Rattle.version_epoch.specs.Standings.{open_count_of}
use Rattle.versioned_graph.specs.Entries.{Stored}
use Rattle.dice_jobs.specs.Jobs.{Stepped}
use Rattle.dice_steps.specs.AtHand.{AtHand}
use Rattle.dice_core.specs.Askings.{DropsAfter}
use Rattle.dice_core.specs.Closings.{LeftHand}
use Rattle.dice_core.specs.Givings.{Gives}
use Rattle.dice_tasks.specs.Hands.{DeskSeen}
use Rattle.dice_tasks.specs.Helds.{Held}
use Rattle.dice_core.specs.Sessions.{SessionSeen, SessionsSeen, opened_of, session_at, owed, SessionsStand}
use Rattle.dice_core.specs.Cores.{table_at, has_table, world_of, core_of, PutsTable, Turned, DropsThese, CoreStands, WorksOn}
use Rattle.dice_core.proofs.CoreLemmas.{in_hand, put_back_so}
use Rattle.dice_core.proofs.CloseLemmas.{hand_of_left, thrown_away_so}
use Rattle.dice_core.proofs.TurnLemmas.{opened_some}

-- a table that is taken away after it was put
pub put_away : {K V : Type 0} (ts us ws : List (ℕ × List (K × Share K (Held K V)))) (v : ℕ) (qs : List (K × Share K (Held K V))) → PutsTable v qs ts us → ((u : ℕ) → lookup (nat_eq u) ws ≡ cond (nat_eq v u) None (lookup (nat_eq u) us)) → (u : ℕ) → lookup (nat_eq u) ws ≡ cond (nat_eq v u) None (lookup (nat_eq u) ts)
put_away ts us ws v qs put gone u = gone u ∙ by_test (nat_eq v u) (put u)
  where
    by_test : (b : Bool) → lookup (nat_eq u) us ≡ cond b (Some qs) (lookup (nat_eq u) ts) → cond b None (lookup (nat_eq u) us) ≡ cond b None (lookup (nat_eq u) ts)
    by_test true e = refl
    by_test false e = e

module _ {K V : Type 0} (eq : K → K → Bool) (v : ℕ) (ts us : List (ℕ × List (K × Share K (Held K V)))) where
  -- what becomes of one table, and of all others nothing
  pub drops_put : (qs : List (K × Share K (Held K V))) (gone : K → Bool) → PutsTable v qs ts us → ((q : K) → task_at eq qs q ≡ cond (gone q) None (task_at eq (table_at ts v) q)) → (u : ℕ) (q : K) → task_at eq (table_at us u) q ≡ cond (nat_eq v u && gone q) None (task_at eq (table_at ts u) q)
  drops_put qs gone put tasks u q = by_test (nat_eq v u) refl (put u)
    where
      by_test : (b : Bool) → nat_eq v u ≡ b → lookup (nat_eq u) us ≡ cond b (Some qs) (lookup (nat_eq u) ts) → task_at eq (table_at us u) q ≡ cond (b && gone q) None (task_at eq (table_at ts u) q)
      by_test true i e = ap (λ (o : Option (List (K × Share K (Held K V)))). task_at eq (unwrap_or o []) q) e ∙ subst (λ z. task_at eq qs q ≡ cond (gone q) None (task_at eq (table_at ts z) q)) (eqb-true v u i) (tasks q)
      by_test false i e = ap (λ (o : Option (List (K × Share K (Held K V)))). task_at eq (unwrap_or o []) q) e

  -- an ask was left, or a transaction closed beside another one
  pub drops_some : (all : Bool) (ks : List K) (before : List (Told K V)) (ps qs : List (K × Share K (Held K V))) (d e : DeskSeen K V) → all ≡ false → table_at ts v ≡ ps → PutsTable v qs ts us → DropsAfter eq v before ks ps qs d e → DropsThese eq v all ks ts us
  drops_some all ks before ps qs d e off found put drops = subst (λ b. DropsThese eq v b ks ts us) (sym off) (record {
    distinct = drops.distinct;
    at_work = λ q h. ap (λ x. is_live eq x q) found ∙ drops.at_work q h;
    tasks = drops_put qs (λ q. list_any (eq q) ks) put (λ q. drops.tasks q ∙ ap (λ x. cond (list_any (eq q) ks) None (task_at eq x q)) (sym found));
  })

  -- the last transaction was closed: the table went
  pub drops_all : (all : Bool) (ks : List K) (before : List (Told K V)) (ps qs : List (K × Share K (Held K V))) (d e : DeskSeen K V) → all ≡ true → table_at ts v ≡ ps → DropsAfter eq v before ks ps qs d e → ((u : ℕ) → lookup (nat_eq u) us ≡ cond (nat_eq v u) None (lookup (nat_eq u) ts)) → DropsThese eq v all ks ts us
  drops_all all ks before ps qs d e on found drops gone = subst (λ b. DropsThese eq v b ks ts us) (sym on) (record {
    distinct = drops.distinct;
    at_work = λ q h. ap (λ x. is_live eq x q) found ∙ drops.at_work q h;
    tasks = λ u q. by_test u q (nat_eq v u) (gone u);
  })
    where
      by_test : (u : ℕ) (q : K) (b : Bool) → lookup (nat_eq u) us ≡ cond b None (lookup (nat_eq u) ts) → task_at eq (table_at us u) q ≡ cond (b && true) None (task_at eq (table_at ts u) q)
      by_test u q true e = ap (λ (o : Option (List (K × Share K (Held K V)))). task_at eq (unwrap_or o []) q) e
      by_test u q false e = ap (λ (o : Option (List (K × Share K (Held K V)))). task_at eq (unwrap_or o []) q) e

-- whether no transaction is open any more, by the count that was looked at
pub open_test : (n k l : ℕ) → n ≡ k → k ≡ l → (n ≡ 0 → ⊥) → nat_eq l 0 ≡ false
open_test n k l i j some = by_test (nat_eq l 0) refl
  where
    by_test : (b : Bool) → nat_eq l 0 ≡ b → b ≡ false
    by_test true e = absurd (some (i ∙ (j ∙ eqb-true l 0 e)))
    by_test false e = refl

module _ {K V : Type 0} (eq : K → K → Bool) (equality : IsEquality eq) (m : Meaning K V) (law : IsLawful m) (d : DeskSeen K V) (ts us : List (ℕ × List (K × Share K (Held K V)))) (es : List (K × Stored K V)) (s : Seen K V) (x y : SessionsSeen K) (st : CoreStands eq m (core_of d ts es s x)) (v t : ℕ) (o : Opened) (op : open_at (reverse d.events) t ≡ Some o) (at : o.version ≡ v)
    (ps qs : List (K × Share K (Held K V))) (found : table_at ts v ≡ ps) (put : PutsTable v qs ts us) (e : DeskSeen K V) (stands : SessionsStand (reverse e.events) y) (counts : (u : ℕ) → open_count (reverse e.events) u ≡ cond (nat_eq v u) (open_count (reverse d.events) u - 1) (open_count (reverse d.events) u)) where
  tabled : (u : ℕ) → 0 < open_count (reverse e.events) u → has_table ts u ≡ true
  tabled u l = st.tabled u (by_test (nat_eq v u) (counts u) l)
    where
      by_test : (b : Bool) → open_count (reverse e.events) u ≡ cond b (open_count (reverse d.events) u - 1) (open_count (reverse d.events) u) → 0 < open_count (reverse e.events) u → 0 < open_count (reverse d.events) u
      by_test true i k = omega arith
      by_test false i k = omega arith

  module _ (left : LeftHand eq m v (world_of eq ts) (owed y) qs e es s) where
    -- another transaction is open at the version
    pub closed_on : (n : ℕ) → n ≡ open_count_of y.epochs v → (n ≡ 0 → ⊥) → CoreStands eq m (core_of e us es s y)
    closed_on n is some = put_back_so eq equality m law (core_of d ts es s x) st v us qs e es s y put
        (hand_of_left eq m v (world_of eq ts) (owed y) qs e es s left (by_number n refl)) stands tabled
      where
        by_number : (k : ℕ) → n ≡ k → 0 < open_count (reverse e.events) v
        by_number zero i = absurd (some i)
        by_number (suc k) i = let c = stands.counts v in omega arith

    -- none is: the table goes
    pub closed_away : (ws : List (ℕ × List (K × Share K (Held K V)))) → ((u : ℕ) → lookup (nat_eq u) ws ≡ cond (nat_eq v u) None (lookup (nat_eq u) us)) → (n : ℕ) → n ≡ open_count_of y.epochs v → n ≡ 0 → CoreStands eq m (core_of e ws es s y)
    closed_away ws gone n is none = thrown_away_so eq equality m law (core_of d ts es s x) st v ws qs e es s y (put_away ts us ws v qs put gone) left (sym (stands.counts v) ∙ (sym is ∙ none)) stands tabled

-- a transaction that was found is open
pub closing_at : {K V : Type 0} (R : List (Told K V)) (x : SessionsSeen K) (t v : ℕ) (z : SessionSeen) → SessionsStand R x → session_at x t ≡ Some z → v ≡ z.version → open_at R t ≡ Some (record { by = z.by; version = v })
closing_at R x t v z st known at = sym (st.transactions t) ∙ (ap (option_map opened_of) known ∙ ap (λ n. Some (record { by = z.by; version = n })) (sym at))

-- its version is in hand
pub closing_hand : {K V : Type 0} (eq : K → K → Bool) → IsEquality eq → (m : Meaning K V) → IsLawful m → (d : DeskSeen K V) (ts : List (ℕ × List (K × Share K (Held K V)))) (es : List (K × Stored K V)) (s : Seen K V) (x : SessionsSeen K) → CoreStands eq m (core_of d ts es s x) → (v t : ℕ) (o : Opened) → open_at (reverse d.events) t ≡ Some o → o.version ≡ v
    → (ps : List (K × Share K (Held K V))) → table_at ts v ≡ ps → (n : ℕ) → n ≡ owed x → AtHand eq m v (world_of eq ts) n ps d es s
closing_hand eq equality m law d ts es s x st v t o op at ps found n owes = subst (λ a. AtHand eq m v (world_of eq ts) n a d es s) found (subst (λ k. AtHand eq m v (world_of eq ts) k (table_at ts v) d es s) (sym owes) (in_hand eq equality m law (core_of d ts es s x) st v (opened_some eq equality m law d ts es s x st v t o op at)))

-- ---- results of steps

pub given_taken : {G E S : Type 0} (r : Result G E) (f : G → Option S) (A B : Type 0) → IfOk r (λ g. IfNone (f g) A) → (A → B) → IfOk r (λ g. IfNone (f g) B)
given_taken (Err e) f A B h k = tt
given_taken {G} {E} {S} (Ok g) f A B h k = by_stale (f g) h
  where
    by_stale : (o : Option S) → IfNone o A → IfNone o B
    by_stale None i = k i
    by_stale (Some s) i = tt

pub given_stale : {G E S : Type 0} (r : Result G E) (f : G → Option S) (P : S → Type 0) → IfOk r (λ g. IfSome (f g) (λ s. ⊥)) → IfOk r (λ g. IfSome (f g) P)
given_stale (Err e) f P h = tt
given_stale {G} {E} {S} (Ok g) f P h = by_stale (f g) h
  where
    by_stale : (o : Option S) → IfSome o (λ s. ⊥) → IfSome o P
    by_stale None i = tt
    by_stale (Some s) i = absurd i

pub given_ok : {G E S : Type 0} (r : Result G E) (f : G → Option S) (A : Type 0) → IfOk r (λ g. IfNone (f g) A) → IfOk r (λ g. IfSome (f g) (λ s. ⊥)) → OnOk r A
given_ok (Err e) f A h k = tt
given_ok {G} {E} {S} (Ok g) f A h k = by_stale (f g) h k
  where
    by_stale : (o : Option S) → IfNone o A → IfSome o (λ s. ⊥) → A
    by_stale None i j = i
    by_stale (Some s) i j = absurd j

-- a step that was taken up
pub gives_turned : {K V : Type 0} (eq : K → K → Bool) (m : Meaning K V) (v : ℕ) (s : Stepped K V) (d e : DeskSeen K V) (ts us : List (ℕ × List (K × Share K (Held K V)))) (ps qs : List (K × Share K (Held K V))) → table_at ts v ≡ ps → PutsTable v qs ts us → Gives eq v s ps qs d e → Turned eq m v ts us (λ a b. Gives eq v s a b d e)
gives_turned eq m v s d e ts us ps qs found put gives = record { tasks = qs; put = put; turned = subst (λ a. Gives eq v s a qs d e) (sym found) gives }

pub gives_works : {K V : Type 0} (eq : K → K → Bool) (v : ℕ) (s : Stepped K V) (ps qs : List (K × Share K (Held K V))) (d e : DeskSeen K V) → Gives eq v s ps qs d e → WorksOn v d.events e.events
gives_works eq v s ps qs d e g = (g.events, g.told, g.works)
