-- Idle tasks: what gives a key back to its place, takes a task out, and withdraws its asks.
use Rattle.std.proofs.Common.{◌≡◌, ◌≤◌, ◌+◌, inl, inr, ℕ, suc, Bool, true, false, not, cond, ◌&&◌, ◌||◌, List, [], ◌∷◌, ◌++◌, length, map, Option, Some, None, is_some, nat_eq, refl, sym, ap, ◌∙◌, subst, arith, slice_get}
use Rattle.std.specs.Prelude.{option_and_then, MatchOption}
use Rattle.std.specs.Arc.{arc_value}
use Rattle.std.specs.Map.{lookup, set_value, values_of}
use Rattle.std.specs.List.{list_any, sum_by}
use Rattle.std.specs.Option.{option_map, option_to_list}
use Rattle.std.specs.declared.sync.Arc.{Arc}
use Rattle.std.proofs.lemmas.Option.{same_Some, none-some}
use Rattle.std.proofs.lemmas.List.{length-append, map-append}
use Rattle.std.proofs.lemmas.List.Folds.{list_any-append}
use Rattle.std.proofs.lemmas.List.Sums.{sum_by-cons}
use Rattle.std.proofs.lemmas.Map.Entries.{sum_by-set_value}
use Rattle.indexmap.specs.IndexMap.{set_value_at}
use Rattle.dice_key.specs.Lawful.{IsEquality}
use Rattle.task_share.specs.Asked.{By, Promised, Tasked, is_by}
use Rattle.task_share.specs.Seen.{Share, takes_task, room_in, is_for, list_for, number_for, has_by, has_live, has_place, asks, waits_at, ask_count, one_if, live_count}
use Rattle.task_share.specs.Listed.{share_of, shares_of, names_of, IsLinked, is_idle, kept_name, IsNamed, IsListed, KeepsListed, IsChanged, Left, UsesRoom, Withdraws, Withdrawing, NoneIdle, IsKept, IsPopped, IsTaken, IsVacant, AllRun}
use Rattle.task_share.specs.declared.place.Place.{Place}
use Rattle.task_share.proofs.PlaceLemmas.{lookup_shares, IsWritten, changed_written}
use Rattle.task_share.proofs.NumberLemmas.{written_at, key_named, linked_set}
use Rattle.task_share.proofs.TurnLemmas.{tasks_kept, room_kept, asks_turned, waits_turned, same_cond, tasks_on, room_on, room_itself, kept_on}
use Rattle.lists.proofs.Members.{has_last}
use Rattle.lists.specs.Lists.{Has}
use Rattle.std.proofs.lemmas.Bool.{and_parts, cases_Bool}

pub or_true : (b : Bool) → (b || true) ≡ true
or_true true = refl
or_true false = refl

name_counts : {K T : Type 0} (p : Share K T) → kept_name p ≤ 1
name_counts p = by_bool (is_some p.name || not (is_some p.task))
  where
    by_bool : (b : Bool) → one_if b ≤ 1
    by_bool true = omega arith
    by_bool false = omega arith

pub names_count : {K T : Type 0} (ps : List (K × Share K T)) → sum_by kept_name (values_of ps) ≤ length ps
names_count [] = omega arith
names_count (p ∷ ps) = let l : length (p ∷ ps) ≡ suc (length ps) = refl in let a = name_counts p.1 in let b = names_count ps in let d = sum_by-cons kept_name p.1 (values_of ps) in omega arith

module _ {K T : Type 0} (eq : K → K → Bool) (law : IsEquality eq) where
  -- a candidate whose key has no place is no loss
  pub dropped_listed : (ps : List (K × Share K T)) (cs : List K) (k : K) (room : ℕ) → lookup (eq k) ps ≡ None → IsListed eq ps (cs ++ k ∷ []) room → IsListed eq ps cs room
  dropped_listed ps cs k room none l = record {
    each = λ q p e. (let z = l.each q p e in record {
      idle = z.idle;
      named = z.named;
      runs = z.runs;
      listed = λ n t. elim (has_last cs k q (z.listed n t)) as (λ _. Has cs q) [ inl h ↦ h | inr s ↦ absurd (none-some p (sym (subst (λ x. lookup (eq x) ps ≡ None) s none) ∙ e)) ];
    });
    fits = (let a = l.fits in let b = length-append cs (k ∷ []) in omega arith);
  }

  -- a candidate that is not idle goes back to its place
  pub back_listed : (ps qs : List (K × Share K T)) (cs : List K) (k : K) (h : Share K T) (room : ℕ) → lookup (eq k) ps ≡ Some h → is_idle h ≡ false → qs ≡ set_value (eq k) ps (record h { name = Some k }) → lookup (eq k) qs ≡ Some (record h { name = Some k })
      → ((q : K) → eq k q ≡ false → lookup (eq q) qs ≡ lookup (eq q) ps) → IsListed eq ps (cs ++ k ∷ []) room → IsListed eq qs cs room
  back_listed ps qs cs k h room known busy set here others l = record {
    each = λ q p e. elim (cases_Bool (eq k q)) as (λ _. IsNamed cs q p) [
      | inl t ↦ (let s : k ≡ q = law.same k q t in
          subst (λ x. IsNamed cs x p) s (subst (λ (r : Share K T). IsNamed cs k r) (same_Some (record h { name = Some k }) p (sym here ∙ subst (λ x. lookup (eq x) qs ≡ Some p) (sym s) e)) at_key))
      | inr t ↦ (let z = l.each q p (sym (others q t) ∙ e) in record {
        idle = z.idle;
        named = z.named;
        runs = z.runs;
        listed = λ n u. elim (has_last cs k q (z.listed n u)) as (λ _. Has cs q) [ inl i ↦ i | inr s ↦ absurd (let a : eq k q ≡ true = subst (λ x. eq k x ≡ true) s (law.itself k) in let b : true ≡ false = sym a ∙ t in cc) ];
      })
    ];
    fits = (let a = sum_by-set_value kept_name (eq k) ps h (record h { name = Some k }) known in
        let b : sum_by kept_name (values_of qs) ≡ sum_by kept_name (values_of (set_value (eq k) ps (record h { name = Some k }))) = ap (λ xs. sum_by kept_name (values_of xs)) set in
        let d = length-append cs (k ∷ []) in
        let i : length (cs ++ k ∷ []) ≡ length cs + 1 = d in
        let f = l.fits in
        let n : kept_name (record h { name = Some k }) ≡ 1 = refl in
        omega arith);
  }
    where
      was_runs : h.live ≡ true → is_some h.task ≡ true
      was_runs = (l.each k h known).runs

      at_key : IsNamed cs k (record h { name = Some k })
      at_key = record { idle = λ e. absurd (let f : true ≡ false = sym e ∙ busy in cc); listed = λ e _. cc; named = λ n e. sym (same_Some k n e); runs = was_runs }

  -- a place that had neither task nor key, and has the key
  pub named_listed : (ps qs : List (K × Share K T)) (k n : K) (h : Share K T) → n ≡ k → lookup (eq k) ps ≡ Some h → takes_task h ≡ false → qs ≡ set_value (eq k) ps (record h { name = Some n }) → lookup (eq k) qs ≡ Some (record h { name = Some n })
      → ((q : K) → eq k q ≡ false → lookup (eq q) qs ≡ lookup (eq q) ps) → KeepsListed eq ps qs
  named_listed ps qs k n h is known free set here others cs room l = record {
    each = λ q p e. elim (cases_Bool (eq k q)) as (λ _. IsNamed cs q p) [
      | inl t ↦ (let s : k ≡ q = law.same k q t in
          subst (λ x. IsNamed cs x p) s (subst (λ (r : Share K T). IsNamed cs k r) (same_Some (record h { name = Some n }) p (sym here ∙ subst (λ x. lookup (eq x) qs ≡ Some p) (sym s) e)) at_key))
      | inr t ↦ l.each q p (sym (others q t) ∙ e)
    ];
    fits = (let a = sum_by-set_value kept_name (eq k) ps h (record h { name = Some n }) known in
        let b : sum_by kept_name (values_of qs) ≡ sum_by kept_name (values_of (set_value (eq k) ps (record h { name = Some n }))) = ap (λ xs. sum_by kept_name (values_of xs)) set in
        let f = l.fits in
        let m : kept_name (record h { name = Some n }) ≡ 1 = refl in
        let o : kept_name h ≡ 1 = by_bools (is_some h.task) (is_some h.name) free in
        omega arith);
  }
    where
      by_bools : (a b : Bool) → (a || b) ≡ false → one_if (b || not a) ≡ 1
      by_bools false false e = refl
      by_bools false true e = refl
      by_bools true b e = cc

      no_task : is_some h.task ≡ true → ⊥
      no_task t = let f : true ≡ false = sym (ap (λ b. b || is_some h.name) t) ∙ free in cc

      at_key : IsNamed cs k (record h { name = Some n })
      at_key = record { idle = λ e. absurd (no_task ((l.each k h known).runs (and_parts h.live _ e).0)); listed = λ e _. cc; named = λ m e. sym (same_Some n m e) ∙ is; runs = (l.each k h known).runs }

  -- a place that is emptied, whose key was a candidate
  pub taken_listed : (ps qs : List (K × Share K T)) (cs : List K) (k : K) (left : Share K T) (room : ℕ) → IsVacant left → left.name ≡ None → ((q : K) → lookup (eq q) qs ≡ cond (eq k q) (Some left) (lookup (eq q) ps)) → sum_by kept_name (values_of qs) ≤ sum_by kept_name (values_of ps) + 1 → IsListed eq ps (cs ++ k ∷ []) room → IsListed eq qs cs room
  taken_listed ps qs cs k left room vacant nameless gone more l = record {
    each = λ q p e. by_test q p (eq k q) refl (sym (gone q) ∙ e);
    fits = (let a = l.fits in let b = length-append cs (k ∷ []) in omega arith);
  }
    where
      at_left : (q : K) → IsNamed cs q left
      at_left q = record {
        idle = λ _. nameless;
        listed = λ _ i. absurd (let f : true ≡ false = sym i ∙ ap is_some vacant.task in cc);
        named = λ n i. absurd (none-some n (sym nameless ∙ i));
        runs = λ i. absurd (let f : true ≡ false = sym i ∙ vacant.live in cc);
      }

      by_test : (q : K) (p : Share K T) (b : Bool) → eq k q ≡ b → cond b (Some left) (lookup (eq q) ps) ≡ Some p → IsNamed cs q p
      by_test q p true t e = subst (IsNamed cs q) (same_Some left p e) (at_left q)
      by_test q p false t e = let z = l.each q p e in record {
        idle = z.idle;
        named = z.named;
        runs = z.runs;
        listed = λ n u. elim (has_last cs k q (z.listed n u)) as (λ _. Has cs q) [ inl i ↦ i | inr s ↦ absurd (let a : eq k q ≡ true = subst (λ x. eq k x ≡ true) s (law.itself k) in let b : true ≡ false = sym a ∙ t in cc) ];
      }

  -- if no candidate is left, no task is idle
  pub none_idle : (ps : List (K × Share K T)) (room : ℕ) → IsListed eq ps [] room → NoneIdle eq ps
  none_idle ps room l k p e = by_test (is_idle p) refl
    where
      by_test : (b : Bool) → is_idle p ≡ b → b ≡ false
      by_test true i = let z = l.each k p e in absurd (z.listed (z.idle i) (z.runs (and_parts p.live _ i).0))
      by_test false i = refl

  -- if one place has changed
  pub gone_so : (ps qs : List (K × Share K T)) (k : K) (left : Share K T) → IsChanged eq k (λ p r. Unit {0}) ps qs → lookup (eq k) qs ≡ Some left → (q : K) → lookup (eq q) qs ≡ cond (eq k q) (Some left) (lookup (eq q) ps)
  gone_so ps qs k left c here q = by_test (eq k q) refl
    where
      by_test : (b : Bool) → eq k q ≡ b → lookup (eq q) qs ≡ cond b (Some left) (lookup (eq q) ps)
      by_test true t = subst (λ x. lookup (eq x) qs ≡ Some left) (law.same k q t) here
      by_test false t = c.others q t

  -- what an emptied place leaves of all places
  pub taken_out : (ps qs : List (K × Share K T)) (k : K) (h left : Share K T) → IsChanged eq k (λ p r. Unit {0}) ps qs → lookup (eq k) ps ≡ Some h → lookup (eq k) qs ≡ Some left → is_idle h ≡ true → IsVacant left → IsTaken eq k h ps qs
  taken_out ps qs k h left c known here idle vacant = record {
    there = known;
    idle = idle;
    left = left;
    vacant = vacant;
    gone = gone_so ps qs k left c here;
    count = (let s = c.sums (λ (p : Share K T). length p.askers) in
        let a : number_for (λ (p : Share K T). length p.askers) (lookup (eq k) qs) ≡ 0 = ap (number_for (λ (p : Share K T). length p.askers)) here ∙ ap length vacant.askers in
        omega arith);
    fewer = (let s = c.sums (λ (p : Share K T). one_if p.live) in
        let a : number_for (λ (p : Share K T). one_if p.live) (lookup (eq k) qs) ≡ 0 = ap (number_for (λ (p : Share K T). one_if p.live)) here ∙ ap one_if vacant.live in
        let b : number_for (λ (p : Share K T). one_if p.live) (lookup (eq k) ps) ≡ 1 = ap (number_for (λ (p : Share K T). one_if p.live)) known ∙ ap one_if (and_parts h.live _ idle).0 in
        omega arith);
  }

  pub kept_more : (ps qs : List (K × Share K T)) (k : K) (left : Share K T) → IsChanged eq k (λ p r. Unit {0}) ps qs → lookup (eq k) qs ≡ Some left → sum_by kept_name (values_of qs) ≤ sum_by kept_name (values_of ps) + 1
  kept_more ps qs k left c here = let s = c.sums kept_name in let a : number_for kept_name (lookup (eq k) qs) ≡ kept_name left = ap (number_for kept_name) here in let b = name_counts left in omega arith

  -- nothing was withdrawn yet
  pub withdraws_none : (k : K) (ps : List (K × Share K T)) → Withdraws eq k [] ps ps
  withdraws_none k ps = record { tasks = record { tasks = λ q. refl; live = λ q. refl; count = refl }; asks = λ q a. by_bools (asks eq ps q a) (is_by eq (Tasked k) a); waits = λ i d. refl; room = room_itself eq ps }
    where
      by_bools : (x b : Bool) → x ≡ (x && not (b && false))
      by_bools true true = refl
      by_bools true false = refl
      by_bools false true = refl
      by_bools false false = refl

  -- one more key is left
  pub withdraws_more : (k d : K) (done : List K) (ps qs rs : List (K × Share K T)) → Withdraws eq k done ps qs → IsChanged eq d (λ p r. Left eq (Tasked k) p r × UsesRoom 0 0 0 p r) qs rs → Withdraws eq k (d ∷ done) ps rs
  withdraws_more k d done ps qs rs w c = record {
    tasks = tasks_on eq ps qs rs w.tasks (tasks_kept eq law qs rs d _ c (λ p r i. (i.0.task, i.0.live)));
    asks = λ q a. asks_turned eq law qs rs d _ c (λ t. t) (λ e. e) (λ x b. b && not (is_by eq (Tasked k) x)) (λ d b. b) (λ p r i. i.0) a (λ n. refl) q
        ∙ (ap (λ b. cond (eq d q) (b && not (is_by eq (Tasked k) a)) b) (w.asks q a) ∙ by_tests (asks eq ps q a) (is_by eq (Tasked k) a) (list_any (eq q) done) (eq d q) (eq q d) (same_test d q));
    waits = λ i x. waits_turned eq law qs rs d _ c (λ t. t) (λ e. e) (λ x b. b && not (is_by eq (Tasked k) x)) (λ d b. b) (λ p r i. i.0) x (λ n. refl) i ∙ (same_cond (eq d i) (list_any (eq x) (waits_at eq qs i)) ∙ w.waits i x);
    room = room_on eq ps qs rs w.room (room_kept eq law qs rs d _ c (λ p r i. i.1));
  }
    where
      same_test : (x y : K) → eq x y ≡ eq y x
      same_test x y = by_test (eq x y) (eq y x) refl refl
        where
          by_test : (b c : Bool) → eq x y ≡ b → eq y x ≡ c → b ≡ c
          by_test true true e f = refl
          by_test false false e f = refl
          by_test true false e f = absurd (let s = law.same x y e in let z : eq y x ≡ true = subst (λ q. eq y q ≡ true) (sym s) (law.itself y) in let w : true ≡ false = sym z ∙ f in cc)
          by_test false true e f = absurd (let s = law.same y x f in let z : eq x y ≡ true = subst (λ q. eq x q ≡ true) (sym s) (law.itself x) in let w : true ≡ false = sym z ∙ e in cc)

      by_tests : (x b l t u : Bool) → t ≡ u → cond t ((x && not (b && l)) && not b) (x && not (b && l)) ≡ (x && not (b && (u || l)))
      by_tests x b l t u e = rw e (by_cases x b l u)
        where
          by_cases : (x b l u : Bool) → cond u ((x && not (b && l)) && not b) (x && not (b && l)) ≡ (x && not (b && (u || l)))
          by_cases true true true true = refl
          by_cases true true true false = refl
          by_cases true true false true = refl
          by_cases true true false false = refl
          by_cases true false true true = refl
          by_cases true false true false = refl
          by_cases true false false true = refl
          by_cases true false false false = refl
          by_cases false true true true = refl
          by_cases false true true false = refl
          by_cases false true false true = refl
          by_cases false true false false = refl
          by_cases false false true true = refl
          by_cases false false true false = refl
          by_cases false false false true = refl
          by_cases false false false false = refl

-- the last of what is waited for
pub popped_entry : {K A : Type 0} (old new : List (ℕ × Arc K A)) (r : Option (ℕ × Arc K A)) (x : ℕ × Arc K A) → old ≡ new ++ option_to_list r → r ≡ Some x → old ≡ new ++ x ∷ []
popped_entry old new r x e f = e ∙ ap (λ o. new ++ option_to_list o) f

pub popped_value : {K A : Type 0} (old new : List (ℕ × Arc K A)) (x : ℕ × Arc K A) → old ≡ new ++ x ∷ [] → map arc_value (values_of old) ≡ map arc_value (values_of new) ++ arc_value x.1 ∷ []
popped_value {K} {A} old new x e = ap (λ xs. map arc_value (values_of xs)) e ∙ by_list new
  where
    by_list : (xs : List (ℕ × Arc K A)) → map arc_value (values_of (xs ++ x ∷ [])) ≡ map arc_value (values_of xs) ++ arc_value x.1 ∷ []
    by_list [] = refl
    by_list (y ∷ ys) = ap (λ ks. arc_value y.1 ∷ ks) (by_list ys)

-- the last candidate
pub popped : {K A : Type 0} (old new : List (Arc K A)) (r : Option (Arc K A)) (k : Arc K A) → old ≡ new ++ option_to_list r → r ≡ Some k → map arc_value old ≡ map arc_value new ++ arc_value k ∷ []
popped old new r k e f = ap (map arc_value) (e ∙ ap (λ o. new ++ option_to_list o) f) ∙ map-append arc_value new (k ∷ [])

module _ {K T : Type 0} (eq : K → K → Bool) (law : IsEquality eq) where
  pub withdrawing_more : (k d : K) (all rest more : List K) (ps qs rs : List (K × Share K T)) → Withdrawing eq k all rest ps qs → rest ≡ more ++ d ∷ [] → IsChanged eq d (λ p r. Left eq (Tasked k) p r × UsesRoom 0 0 0 p r) qs rs → Withdrawing eq k all more ps rs
  withdrawing_more k d all rest more ps qs rs w e c = record {
    done = d ∷ w.done;
    split = λ q. w.split q ∙ (ap (λ xs. list_any (eq q) xs || list_any (eq q) w.done) e ∙ (ap (λ b. b || list_any (eq q) w.done) (list_any-append (eq q) more (d ∷ [])) ∙ by_tests (list_any (eq q) more) (eq q d) (list_any (eq q) w.done)));
    gone = withdraws_more eq law k d w.done ps qs rs w.gone c;
  }
    where
      by_tests : (a b c : Bool) → ((a || (b || false)) || c) ≡ (a || (b || c))
      by_tests true b c = refl
      by_tests false true c = refl
      by_tests false false c = refl

  pub withdrawing_done : (k : K) (all : List K) (ps qs : List (K × Share K T)) → Withdrawing eq k all [] ps qs → Withdraws eq k all ps qs
  withdrawing_done k all ps qs w = record {
    tasks = w.gone.tasks;
    waits = w.gone.waits;
    room = w.gone.room;
    asks = λ q a. w.gone.asks q a ∙ ap (λ b. asks eq ps q a && not (is_by eq (Tasked k) a && b)) (sym (w.split q));
  }

  pub withdrawing_none : (k : K) (all : List K) (ps : List (K × Share K T)) → Withdrawing eq k all all ps ps
  withdrawing_none k all ps = record { done = []; split = λ q. by_bool (list_any (eq q) all); gone = withdraws_none eq law k ps }
    where
      by_bool : (b : Bool) → b ≡ (b || false)
      by_bool true = refl
      by_bool false = refl

pub popped_on : {K T : Type 0} (eq : K → K → Bool) (ps qs rs : List (K × Share K T)) (k : K) (t : T) (waits : List K) → IsKept eq ps qs → IsPopped eq k t waits qs rs → IsPopped eq k t waits ps rs
popped_on eq ps qs rs k t waits a p = record { mid = p.mid; kept = kept_on eq ps qs p.mid a p.kept; place = p.place; taken = p.taken; task = p.task; waited = p.waited }

module _ {K T : Type 0} (eq : K → K → Bool) (law : IsEquality eq) where
  pub room_grown : (ps : List (K × Share K T)) (cs : List K) (room more : ℕ) → room ≤ more → IsListed eq ps cs room → IsListed eq ps cs more
  room_grown ps cs room more le l = record { each = l.each; fits = (let a = l.fits in omega arith) }

  -- a vacant place for a key that had none
  module _ (ps qs : List (K × Share K T)) (k : K) (v : Share K T) (none : lookup (eq k) ps ≡ None) (put : (q : K) → lookup (eq q) qs ≡ cond (eq k q) (Some v) (lookup (eq q) ps)) (vacant : IsVacant v) (named : v.name ≡ Some k) where
    at_key : lookup (eq k) qs ≡ Some v
    at_key = put k ∙ ap (λ b. cond b (Some v) (lookup (eq k) ps)) (law.itself k)

    pub vacant_placed : has_place eq qs k ≡ true
    vacant_placed = ap (is_for takes_task) at_key ∙ takes
      where
        takes : takes_task v ≡ true
        takes = rw (vacant.task, named) refl

    pub vacant_listed : (cs : List K) (room more : ℕ) → IsListed eq ps cs room → sum_by kept_name (values_of qs) ≤ sum_by kept_name (values_of ps) + 1 → length ps + 1 + length cs ≤ more → IsListed eq qs cs more
    vacant_listed cs room more l sum fits = record {
      each = λ q p e. by_test q p (eq k q) refl (sym (put q) ∙ e);
      fits = (let a = names_count ps in omega arith);
    }
      where
        by_test : (q : K) (p : Share K T) (b : Bool) → eq k q ≡ b → cond b (Some v) (lookup (eq q) ps) ≡ Some p → IsNamed cs q p
        by_test q p true t e = subst (λ x. IsNamed cs x p) (law.same k q t) (subst (λ (r : Share K T). IsNamed cs k r) (same_Some v p e) (record {
          idle = λ i. absurd (let a = (and_parts v.live _ i).0 in let f : true ≡ false = sym a ∙ vacant.live in cc);
          runs = λ i. absurd (let f : true ≡ false = sym i ∙ vacant.live in cc);
          listed = λ n _. absurd (none-some k (sym n ∙ named));
          named = λ n f. sym (same_Some k n (sym named ∙ f));
        }))
        by_test q p false t e = l.each q p e

    -- what is read of a vacant place is what is read of none
    by_place : {X : Type 0} (f : Option (Share K T) → X) → f (Some v) ≡ f None → (q : K) → f (lookup (eq q) qs) ≡ f (lookup (eq q) ps)
    by_place {X} f s q = by_test (eq k q) refl (ap f (put q))
      where
        by_test : (b : Bool) → eq k q ≡ b → f (lookup (eq q) qs) ≡ f (cond b (Some v) (lookup (eq q) ps)) → f (lookup (eq q) qs) ≡ f (lookup (eq q) ps)
        by_test true t e = e ∙ (s ∙ sym (ap f (subst (λ x. lookup (eq x) ps ≡ None) (law.same k q t) none)))
        by_test false t e = e

    less_place : (f : Share K T → ℕ) (q : K) → number_for f (lookup (eq q) ps) ≤ number_for f (lookup (eq q) qs)
    less_place f q = by_test (eq k q) refl (put q)
      where
        by_test : (b : Bool) → eq k q ≡ b → lookup (eq q) qs ≡ cond b (Some v) (lookup (eq q) ps) → number_for f (lookup (eq q) ps) ≤ number_for f (lookup (eq q) qs)
        by_test true t e = let n : number_for f (lookup (eq q) ps) ≡ 0 = ap (number_for f) (subst (λ x. lookup (eq x) ps ≡ None) (law.same k q t) none) in omega arith
        by_test false t e = let n : number_for f (lookup (eq q) qs) ≡ number_for f (lookup (eq q) ps) = ap (number_for f) e in omega arith

    no_asker : (a : By K) → has_by eq v a ≡ false
    no_asker (Promised n) = ap (list_any (nat_eq n)) vacant.promises
    no_asker (Tasked j) = ap (list_any (eq j)) vacant.askers

    pub vacant_kept : ask_count qs ≤ ask_count ps → live_count qs ≡ live_count ps → IsKept eq ps qs
    vacant_kept less same = record {
      tasks = record { tasks = by_place (option_and_then (λ (p : Share K T). p.task)) vacant.task; live = by_place (is_for has_live) vacant.live; count = same };
      asks = λ q a. by_place (is_for (λ p. has_by eq p a)) (no_asker a) q;
      waits = λ i d. by_place (λ o. list_any (eq d) (list_for (λ (p : Share K T). p.waits) o)) (ap (list_any (eq d)) vacant.waits) i;
      room = record {
        places = λ q h. by_test q (eq k q) refl (put q) h;
        promises = less_place (room_in (λ p. p.promise_room));
        askers = less_place (room_in (λ p. p.asker_room));
        waits = less_place (room_in (λ p. p.wait_room));
        count = less;
      };
    }
      where
        by_test : (q : K) (b : Bool) → eq k q ≡ b → lookup (eq q) qs ≡ cond b (Some v) (lookup (eq q) ps) → has_place eq ps q ≡ true → has_place eq qs q ≡ true
        by_test q true t e h = absurd (let f : true ≡ false = sym h ∙ ap (is_for takes_task) (subst (λ x. lookup (eq x) ps ≡ None) (law.same k q t) none) in cc)
        by_test q false t e h = ap (is_for takes_task) e ∙ h

  -- the places after an entry more
  pub put_at : {A : Type 0} (key : Arc K A) (v : Place K T) (es fs : List (Arc K A × Place K T)) → ((q : Arc K A) → lookup (λ a. eq (arc_value q) (arc_value a)) fs ≡ cond (eq (arc_value key) (arc_value q)) (Some v) (lookup (λ a. eq (arc_value q) (arc_value a)) es))
      → (q : K) → lookup (eq q) (shares_of fs) ≡ cond (eq (arc_value key) q) (Some (share_of v)) (lookup (eq q) (shares_of es))
  put_at {A} key v es fs upd q =
      lookup_shares (eq q) fs ∙ (ap (option_map share_of) (upd other) ∙ (by_test (eq (arc_value key) q) (lookup (λ a. eq q (arc_value a)) es) ∙ ap (cond (eq (arc_value key) q) (Some (share_of v))) (sym (lookup_shares (eq q) es))))
    where
      other : Arc K A
      other = record { ptr = key.ptr; value = q }

      by_test : (b : Bool) (o : Option (Place K T)) → option_map share_of (cond b (Some v) o) ≡ cond b (Some (share_of v)) (option_map share_of o)
      by_test true o = refl
      by_test false o = refl

  put_sum : {A : Type 0} (f : Share K T → ℕ) (key : Arc K A) (v : Place K T) (es : List (Arc K A × Place K T)) → sum_by f (values_of (shares_of (es ++ (key, v) ∷ []))) ≡ sum_by f (values_of (shares_of es)) + f (share_of v)
  put_sum f key v [] = let a = sum_by-cons f (share_of v) [] in omega arith
  put_sum f key v (e ∷ es) = let a = sum_by-cons f (share_of e.1) (values_of (shares_of es)) in let b = sum_by-cons f (share_of e.1) (values_of (shares_of (es ++ (key, v) ∷ []))) in let d = put_sum f key v es in omega arith

  -- a vacant place adds no ask and no task
  pub put_count : {A : Type 0} (key : Arc K A) (v : Place K T) (es fs : List (Arc K A × Place K T)) → fs ≡ es ++ (key, v) ∷ [] → (share_of v).askers ≡ [] → ask_count (shares_of fs) ≤ ask_count (shares_of es)
  put_count key v es fs e n =
      let a = put_sum (λ (p : Share K T). length p.askers) key v es in
      let b : ask_count (shares_of fs) ≡ ask_count (shares_of (es ++ (key, v) ∷ [])) = ap (λ xs. ask_count (shares_of xs)) e in
      let d : length (share_of v).askers ≡ 0 = ap length n in
      omega arith

  pub put_live : {A : Type 0} (key : Arc K A) (v : Place K T) (es fs : List (Arc K A × Place K T)) → fs ≡ es ++ (key, v) ∷ [] → (share_of v).live ≡ false → live_count (shares_of fs) ≡ live_count (shares_of es)
  put_live key v es fs e n =
      let a = put_sum (λ (p : Share K T). one_if p.live) key v es in
      let b : live_count (shares_of fs) ≡ live_count (shares_of (es ++ (key, v) ∷ [])) = ap (λ xs. live_count (shares_of xs)) e in
      let d : one_if (share_of v).live ≡ 0 = ap one_if n in
      omega arith

  pub put_more : {A : Type 0} (key : Arc K A) (v : Place K T) (es fs : List (Arc K A × Place K T)) → fs ≡ es ++ (key, v) ∷ [] → sum_by kept_name (values_of (shares_of fs)) ≤ sum_by kept_name (values_of (shares_of es)) + 1
  put_more key v es fs e =
      let a = put_sum kept_name key v es in
      let b : sum_by kept_name (values_of (shares_of fs)) ≡ sum_by kept_name (values_of (shares_of (es ++ (key, v) ∷ []))) = ap (λ xs. sum_by kept_name (values_of (shares_of xs))) e in
      let d = name_counts (share_of v) in
      omega arith

pub still_some : {X Y : Type 0} (f : X → Y) (o : Option X) → is_some (option_map f o) ≡ is_some o
still_some f None = refl
still_some f (Some x) = refl

pub at_none : {X : Type 0} {P : Type 0} (Q : X → Type 0) (o : Option X) → o ≡ None → MatchOption o P Q → P
at_none Q None e p = p
at_none Q (Some x) e p = cc

-- a table's tasks that have not ended are there
pub all_run : {K T : Type 0} (eq : K → K → Bool) (ps : List (K × Share K T)) (cs : List K) (room : ℕ) → IsListed eq ps cs room → AllRun eq ps
all_run eq ps cs room l k p e = (l.each k p e).runs

-- the place of a number was emptied: its key is k, which was a candidate, and its task was idle
pub record IsEmptied {K A T : Type 0} (eq : K → K → Bool) (k : K) (p : Share K T) (es fs : List (Arc K A × Place K T)) : Type 0 where
  pub linked : IsLinked eq fs
  pub listed : (cs : List K) (room : ℕ) → IsListed eq (shares_of es) (cs ++ k ∷ []) room → IsListed eq (shares_of fs) cs room
  pub taken : IsTaken eq k p (shares_of es) (shares_of fs)

pub emptied_at : {K A T : Type 0} (eq : K → K → Bool) → IsEquality eq → (es : List (Arc K A × Place K T)) (n : ℕ) (a : Arc K A) (k : K) (h w : Place K T) → IsLinked eq es → slice_get es n ≡ Some (a, h) → slice_get (names_of es) n ≡ Some k
    → is_idle (share_of h) ≡ true → IsVacant (share_of w) → w.name ≡ None → w.askers.entries ≡ [] → w.waits.entries ≡ [] → IsEmptied eq k (share_of h) es (set_value_at es n w)
emptied_at {K} {A} {T} eq law es n a k h w l g named idle vacant nameless none nothing = subst (λ x. IsEmptied eq x (share_of h) es fs) (same_Some (arc_value a) k (sym (key_named eq law es n a h g) ∙ named)) (record {
  linked = linked_set eq (λ b. eq (arc_value a) (arc_value b)) es fs h w l i.set i.known (λ _ x y. absurd (subst (λ xs. Has xs x) none y)) (λ _ x y. absurd (subst (λ xs. Has xs x) nothing y));
  listed = λ cs room m. taken_listed eq law (shares_of es) (shares_of fs) cs (arc_value a) (share_of w) room vacant (ap (option_map arc_value) nameless) (gone_so eq law (shares_of es) (shares_of fs) (arc_value a) (share_of w) d now) (kept_more eq law (shares_of es) (shares_of fs) (arc_value a) (share_of w) d now) m;
  taken = taken_out eq law (shares_of es) (shares_of fs) (arc_value a) (share_of h) (share_of w) d (lookup_shares (eq (arc_value a)) es ∙ ap (option_map share_of) i.known) now idle vacant;
})
  where
    fs : List (Arc K A × Place K T)
    fs = set_value_at es n w

    i : IsWritten eq a es fs h w
    i = written_at eq law es fs n a h w l.distinct g refl

    d : IsChanged eq (arc_value a) (λ p r. Unit {0}) (shares_of es) (shares_of fs)
    d = changed_written eq law a es fs h w (λ p r. Unit {0}) i tt

    now : lookup (eq (arc_value a)) (shares_of fs) ≡ Some (share_of w)
    now = lookup_shares (eq (arc_value a)) fs ∙ ap (option_map share_of) i.here
