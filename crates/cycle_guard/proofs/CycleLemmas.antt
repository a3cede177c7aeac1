-- What one more wait, or fewer asks, make of cycles.
use Rattle.std.proofs.Common.{◌≡◌, ◌⊎◌, inl, inr, Bool, true, false, ◌&&◌, ◌||◌, refl, sym, ◌∙◌, subst}
use Rattle.dice_key.specs.Lawful.{IsEquality}
use Rattle.task_share.specs.Asked.{Asked, By, Tasked, is_by, Leads, stays, asks_on, HasNoCycle}
use Rattle.task_share.proofs.Leads.{leads_after, leads_fewer, leads_more}

one_of : (x b c : Bool) → (x || (b && c)) ≡ true → (x ≡ true) ⊎ ((b ≡ true) × (c ≡ true))
one_of true b c e = inl refl
one_of false true c e = inr (refl, e)
one_of false false c e = cc

module _ {K : Type 0} where
  pub fewer_asks : (s t : Asked K) → HasNoCycle s → ((q : K) (a : By K) → t.asks q a ≡ true → s.asks q a ≡ true) → HasNoCycle t
  fewer_asks s t free f k i e l = free k i (f i (Tasked k) e) (leads_fewer s t f i k l)

  -- the asks of tasks are as before, but that k may ask for i too
  record IsOneMore (s t : Asked K) (k i : K) : Type 0 where
    only : (q a : K) → t.asks q (Tasked a) ≡ true → (s.asks q (Tasked a) ≡ true) ⊎ ((q ≡ i) × (a ≡ k))

  leads_split : (s t : Asked K) (k i : K) → IsOneMore s t k i → (a b : K) → Leads t a b → Leads s a b ⊎ (Leads s a k × Leads s i b)
  leads_split s t k i o a b stays = inl stays
  leads_split s t k i o a b (asks_on {i = c} e l) =
      elim (leads_split s t k i o c b l) as (λ _. Leads s a b ⊎ (Leads s a k × Leads s i b)) [
        | inl p ↦ elim (o.only c a e) as (λ _. Leads s a b ⊎ (Leads s a k × Leads s i b)) [
          | inl q ↦ inl (asks_on q p)
          | inr q ↦ inr (subst (Leads s a) q.1 stays, subst (λ x. Leads s x b) q.0 p)
        ]
        | inr p ↦ elim (o.only c a e) as (λ _. Leads s a b ⊎ (Leads s a k × Leads s i b)) [
          | inl q ↦ inr (asks_on q p.0, p.1)
          | inr q ↦ inr (subst (Leads s a) q.1 stays, p.1)
        ]
      ]

  wait_closes_none : (s t : Asked K) (k i : K) → IsOneMore s t k i → HasNoCycle s → (Leads s i k → ⊥) → HasNoCycle t
  wait_closes_none s t k i o free n a b e l =
      elim (leads_split s t k i o b a l) as (λ _. ⊥) [
        | inl p ↦ elim (o.only b a e) as (λ _. ⊥) [ inl q ↦ free a b q p | inr q ↦ n (subst (λ x. Leads s i x) q.1 (subst (λ x. Leads s x a) q.0 p)) ]
        | inr p ↦ elim (o.only b a e) as (λ _. ⊥) [ inl q ↦ n (leads_after s i b k (leads_more s i a b p.1 q) p.0) | inr q ↦ n (subst (λ x. Leads s x k) q.0 p.0) ]
      ]

  pub more_waits : (eq : K → K → Bool) → IsEquality eq → (s t : Asked K) (from to : K) → HasNoCycle s → (Leads s to from → ⊥) → ((q : K) (a : By K) → t.asks q a ≡ (s.asks q a || (eq to q && is_by eq (Tasked from) a))) → HasNoCycle t
  more_waits eq law s t from to free none asks = wait_closes_none s t from to (record {
    only = λ q a e. elim (one_of (s.asks q (Tasked a)) (eq to q) (eq from a) (sym (asks q (Tasked a)) ∙ e)) as (λ _. (s.asks q (Tasked a) ≡ true) ⊎ ((q ≡ to) × (a ≡ from))) [
      | inl h ↦ inl h
      | inr h ↦ inr (sym (law.same to q h.0), sym (law.same from a h.1))
    ];
  }) free none
