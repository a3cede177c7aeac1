-- The cascade drops exactly the tasks that no promise holds.
use Rattle.std.proofs.Common.{◌≡◌, ◌<◌, ◌+◌, ◌⊎◌, inl, inr, ℕ, zero, suc, Bool, true, false, not, cond, ◌&&◌, List, [], ◌∷◌, length, Some, refl, sym, ap, ◌∙◌, subst, arith}
use Rattle.std.specs.Map.{lookup, keys_of}
use Rattle.dice_key.specs.Lawful.{IsEquality}
use Rattle.dice_key.proofs.KeySets.{same_or_not, has_or_not}
use Rattle.task_share.specs.Asked.{By, Promised, Tasked, is_by, Asked, Held, by_promise, by_task, Leads, stays, asks_on, HasNoCycle, AskersLive, IsDone, Takes, IsSame, Cascade, DropsUnheld}
use Rattle.task_share.specs.Seen.{Share, is_for, has_live, is_live, asked_of}
use Rattle.lists.proofs.Distinct.{few}
use Rattle.lists.specs.Lists.{AreDistinct, Has}
use Rattle.std.proofs.lemmas.Bool.{and_parts, cases_Bool}

module _ {K : Type 0} where
  has_asker : (s : Asked K) (k : K) → Held s k → (a : By K) × (s.asks k a ≡ true)
  has_asker s k (by_promise n e) = (Promised n, e)
  has_asker s k (by_task {j = j} e h) = (Tasked j, e)

  module _ (eq : K → K → Bool) (law : IsEquality eq) where
    module _ (s t : Asked K) (k : K) (p : Takes eq s k t) where
      fewer : (q : K) (a : By K) → t.asks q a ≡ true → s.asks q a ≡ true
      fewer q a e = (and_parts (s.asks q a) _ (sym (p.asks q a) ∙ e)).0

      others : (q : K) (a : By K) → s.asks q a ≡ true → (a ≡ Tasked k → ⊥) → t.asks q a ≡ true
      others q a e n = p.asks q a ∙ (ap (λ b. b && not (is_by eq (Tasked k) a)) e ∙ ap not (by_asker a n))
        where
          by_asker : (a : By K) → (a ≡ Tasked k → ⊥) → is_by eq (Tasked k) a ≡ false
          by_asker (Promised n) m = refl
          by_asker (Tasked j) m = elim (cases_Bool (eq k j)) as (λ _. eq k j ≡ false) [ inl h ↦ absurd (m (ap Tasked (sym (law.same k j h)))) | inr h ↦ h ]

      withdrawn : (q : K) → t.asks q (Tasked k) ≡ true → ⊥
      withdrawn q e = let b = (and_parts (s.asks q (Tasked k)) _ (sym (p.asks q (Tasked k)) ∙ e)).1 in let f : not (eq k k) ≡ false = ap not (law.itself k) in let c : true ≡ false = sym b ∙ f in cc

      lives : (q : K) → (q ≡ k → ⊥) → t.live q ≡ s.live q
      lives q n = p.live q ∙ elim (cases_Bool (eq k q)) as (λ _. (s.live q && not (eq k q)) ≡ s.live q) [
        | inl h ↦ absurd (n (sym (law.same k q h)))
        | inr h ↦ ap (λ b. s.live q && not b) h ∙ and_true (s.live q)
      ]
        where
          and_true : (b : Bool) → (b && true) ≡ b
          and_true true = refl
          and_true false = refl

      -- what is held stays held
      held_on : (q : K) → Held s q → Held t q
      held_on q (by_promise n e) = by_promise n (others q (Promised n) e (λ h. cc))
      held_on q (by_task {j = j} e h) =
          by_task (others q (Tasked j) e (λ g. let i : j ≡ k = tasked_same j k g in let a = has_asker s j h in let z : s.asks k a.0 ≡ true = subst (λ x. s.asks x a.0 ≡ true) i a.1 in let f : true ≡ false = sym z ∙ p.unasked a.0 in cc)) (held_on j h)
        where
          tasked_same : (i j : K) → Tasked i ≡ Tasked j → i ≡ j
          tasked_same i j g = cc

      held_back : (q : K) → Held t q → Held s q
      held_back q (by_promise n e) = by_promise n (fewer q (Promised n) e)
      held_back q (by_task {j = j} e h) = by_task (fewer q (Tasked j) e) (held_back j h)

      leads_back : (a b : K) → Leads t a b → Leads s a b
      leads_back a b stays = stays
      leads_back a b (asks_on {i = i} e h) = asks_on (fewer i (Tasked a) e) (leads_back i b h)

      no_cycle_on : HasNoCycle s → HasNoCycle t
      no_cycle_on h a i e l = h a i (fewer i (Tasked a) e) (leads_back i a l)

      askers_on : AskersLive s → AskersLive t
      askers_on h i j e = elim (same_or_not eq law j k) as (λ _. t.live j ≡ true) [
        | inl q ↦ absurd (withdrawn i (subst (λ x. t.asks i (Tasked x) ≡ true) q e))
        | inr n ↦ lives j n ∙ h i j (fewer i (Tasked j) e)
      ]

      live_on : (q : K) → t.live q ≡ true → s.live q ≡ true
      live_on q e = (and_parts (s.live q) _ (sym (p.live q) ∙ e)).0

    -- if nothing is left to drop, each task that lives is held
    climbs : (s : Asked K) (all : List K) → ((q : K) → s.live q ≡ true → Has all q) → HasNoCycle s → AskersLive s → IsDone s
        → (n : ℕ) (q : K) (path : List K) → ((e : K) → Has (q ∷ path) e → Leads s q e) → ((e : K) → Has (q ∷ path) e → s.live e ≡ true) → AreDistinct (q ∷ path) → length all < length (q ∷ path) + n → Held s q
    climbs s all fin free living done zero q path l v d room = absurd (let z = few (q ∷ path) all d (λ e h. fin e (v e h)) in omega arith)
    climbs s all fin free living done (suc n) q path l v d room = let a = done q (v q (inl refl)) in by_asker (λ j p2. climbs s all fin free living done n j p2) a.0 a.1
      where
        by_asker : ((j : K) (p2 : List K) → ((e : K) → Has (j ∷ p2) e → Leads s j e) → ((e : K) → Has (j ∷ p2) e → s.live e ≡ true) → AreDistinct (j ∷ p2) → length all < length (j ∷ p2) + n → Held s j) → (a : By K) → s.asks q a ≡ true → Held s q
        by_asker again (Promised p) e = by_promise p e
        by_asker again (Tasked j) e = elim (has_or_not eq law (q ∷ path) j) as (λ _. Held s q) [
          | inl found ↦ absurd (free j q e (l j found))
          | inr fresh ↦ by_task e (again j (q ∷ path)
              (λ x h. elim h as (λ _. Leads s j x) [ inl i ↦ subst (Leads s j) i stays | inr g ↦ asks_on e (l x g) ])
              (λ x h. elim h as (λ _. s.live x ≡ true) [ inl i ↦ subst (λ y. s.live y ≡ true) i (living q j e) | inr g ↦ v x g ])
              (fresh, d) (let z : length (j ∷ q ∷ path) ≡ suc (length (q ∷ path)) = refl in omega arith))
        ]

    held_same : (s t : Asked K) → IsSame s t → (q : K) → Held t q → Held s q
    held_same s t m q (by_promise n e) = by_promise n (sym (m.asks q (Promised n)) ∙ e)
    held_same s t m q (by_task {j = j} e h) = by_task (sym (m.asks q (Tasked j)) ∙ e) (held_same s t m j h)

    drops : (s : Asked K) (ks : List K) (t : Asked K) (all : List K) → ((q : K) → s.live q ≡ true → Has all q) → HasNoCycle s → AskersLive s → Cascade eq s ks t → IsDone t
        → (q : K) → (Has ks q → (s.live q ≡ true) × (Held s q → ⊥)) × (s.live q ≡ true → (Has ks q → ⊥) → Held s q × (t.live q ≡ true))
    drops s [] t all fin free living c done q = (
      λ h. absurd h,
      λ v n. (
        climbs s all fin free living (λ k v. (let a = done k (c.live k ∙ v) in (a.0, sym (c.asks k a.0) ∙ a.1))) (length all) q [] (λ e g. elim g as (λ _. Leads s q e) [ inl i ↦ subst (Leads s q) i stays | inr b ↦ absurd b ])
            (λ e g. elim g as (λ _. s.live e ≡ true) [ inl i ↦ subst (λ y. s.live y ≡ true) i v | inr b ↦ absurd b ]) ((λ b. b), tt) (omega arith),
        c.live q ∙ v,
      ),
    )
    drops s (k ∷ ks) t all fin free living c done q =
        let u = c.0 in
        let p = c.1 in
        let r = drops u ks t all (λ x e. fin x (live_on s u k p x e)) (no_cycle_on s u k p free) (askers_on s u k p living) c.2 done q in (
          λ h. elim h as (λ _. (s.live q ≡ true) × (Held s q → ⊥)) [
            | inl i ↦ (subst (λ x. s.live x ≡ true) i p.taken, λ g. let a = has_asker s q g in let z : s.asks k a.0 ≡ true = subst (λ x. s.asks x a.0 ≡ true) (sym i) a.1 in let f : true ≡ false = sym z ∙ p.unasked a.0 in cc)
            | inr g ↦ (live_on s u k p q (r.0 g).0, λ w. (r.0 g).1 (held_on s u k p q w))
          ],
          λ v n. (let w = r.1 (lives s u k p q (λ e. n (inl (sym e))) ∙ v) (λ g. n (inr g)) in (held_back s u k p q w.0, w.1)),
        )

    key_there : {T : Type 0} (ps : List (K × Share K T)) (q : K) → is_for has_live (lookup (eq q) ps) ≡ true → Has (keys_of ps) q
    key_there [] q e = cc
    key_there (p ∷ ps) q e = by_test (eq q p.0) refl e (key_there ps q)
      where
        by_test : (b : Bool) → eq q p.0 ≡ b → is_for has_live (cond b (Some p.1) (lookup (eq q) ps)) ≡ true → (is_for has_live (lookup (eq q) ps) ≡ true → Has (keys_of ps) q) → (p.0 ≡ q) ⊎ Has (keys_of ps) q
        by_test true t e again = inl (sym (law.same q p.0 t))
        by_test false t e again = inr (again e)

    -- the cascade drops exactly the tasks that have not ended and that no promise holds
    pub drops_all : {T : Type 0} (ps : List (K × Share K T)) (ks : List K) (t : Asked K) → HasNoCycle (asked_of eq ps) → AskersLive (asked_of eq ps) → Cascade eq (asked_of eq ps) ks t → IsDone t → DropsUnheld (asked_of eq ps) ks t
    drops_all ps ks t free living c done = record {
      dropped = λ q. (r q).0;
      unheld = λ q v n. elim (has_or_not eq law ks q) as (λ _. Has ks q) [ inl h ↦ h | inr m ↦ absurd (n ((r q).1 v m).0) ];
      held = λ q v h. elim (has_or_not eq law ks q) as (λ _. t.live q ≡ true) [ inl g ↦ absurd (((r q).0 g).1 h) | inr m ↦ ((r q).1 v m).1 ];
    }
      where
        r : (q : K) → (Has ks q → (is_live eq ps q ≡ true) × (Held (asked_of eq ps) q → ⊥)) × (is_live eq ps q ≡ true → (Has ks q → ⊥) → Held (asked_of eq ps) q × (t.live q ≡ true))
        r = drops (asked_of eq ps) ks t (keys_of ps) (key_there ps) free living c done
