-- Answers that follow a trace: those that are as they were make up its beginning.
use Rattle.std.proofs.Common.{◌≡◌, ℕ, Bool, List, [], ◌∷◌, ◌++◌, length, refl, subst, append_assoc, append-nil, arith, sym}
use Rattle.std.specs.List.{AllZip}
use Rattle.std.proofs.lemmas.Slice.Zip.{AllZip-long}
use Rattle.dice_key.specs.Meaning.{Meaning, Answered, Asks}
use Rattle.dice_key.specs.Lawful.{IsLawful}
use Rattle.dice_model.specs.Eval.{HasValue}
use Rattle.dice_model.specs.Asks.{AllTrue, Goes}
use Rattle.dice_model.proofs.Finite.{goes_last}
use Rattle.dep_recorder.specs.Checks.{values_of}
use Rattle.dice_jobs.specs.Jobs.{AsksThese}
use Rattle.dice_jobs.specs.Truths.{Follows}

module _ {K V : Type 0} where
  one_batch : (a b : Answered K V) → a.keys ≡ b.keys → a.values ≡ b.values → a ≡ b
  one_batch a b p q = λ i. record { keys = p i; values = q i }

  -- answers with the keys of a trace, and the values of its first batches, are those batches
  pub same_front : (before rest A : List (Answered K V)) → Follows (before ++ rest) A → values_of A ≡ values_of before → A ≡ before
  same_front [] rest [] f e = refl
  same_front [] rest (a ∷ A) f e = cc
  same_front (b ∷ bs) rest [] f e = cc
  same_front (b ∷ bs) rest (a ∷ A) f e =
      let v : a.values ≡ b.values = cc in
      let w : values_of A ≡ values_of bs = cc in
      let s : a ≡ b = one_batch a b f.0 v in
      let r : A ≡ bs = same_front bs rest A f.1 w in
      λ i. s i ∷ r i

  -- likewise with one batch more, whose values may be others
  pub changed_front : (before after A : List (Answered K V)) (b : Answered K V) (ys : List V) → Follows (before ++ b ∷ after) A → values_of A ≡ values_of before ++ ys ∷ [] → A ≡ before ++ record { keys = b.keys; values = ys } ∷ []
  changed_front [] after [] b ys f e = cc
  changed_front [] after (a ∷ []) b ys f e =
      let v : a.values ≡ ys = cc in
      let s : a ≡ record { keys = b.keys; values = ys } = one_batch a (record { keys = b.keys; values = ys }) f.0 v in
      λ i. s i ∷ []
  changed_front [] after (a ∷ c ∷ A) b ys f e = cc
  changed_front (c ∷ cs) after [] b ys f e = cc
  changed_front (c ∷ cs) after (a ∷ A) b ys f e =
      let v : a.values ≡ c.values = cc in
      let w : values_of A ≡ values_of cs ++ ys ∷ [] = cc in
      let s : a ≡ c = one_batch a c f.0 v in
      let r : A ≡ cs ++ record { keys = b.keys; values = ys } ∷ [] = changed_front cs after A b ys f.1 w in
      λ i. s i ∷ r i

  -- the next batch of a trace, answered, follows it too
  pub follows_next : (before after : List (Answered K V)) (b : Answered K V) (ys : List V) → Follows (before ++ b ∷ after) (before ++ record { keys = b.keys; values = ys } ∷ [])
  follows_next [] after b ys = (refl, tt)
  follows_next (c ∷ cs) after b ys = (refl, follows_next cs after b ys)

module _ {K V : Type 0} (R : K → V → Type 0) where
  pub true_last : (A : List (Answered K V)) (b : Answered K V) → AllTrue R A → AllZip R b.keys b.values → AllTrue R (A ++ b ∷ [])
  true_last [] b t z = (z, tt)
  true_last (a ∷ A) b t z = (t.0, true_last A b t.1 z)

  pub true_front : (A rest : List (Answered K V)) → AllTrue R (A ++ rest) → AllTrue R A
  true_front [] rest t = tt
  true_front (a ∷ A) rest t = (t.0, true_front A rest t.1)

  pub true_end : (A : List (Answered K V)) (b : Answered K V) → AllTrue R (A ++ b ∷ []) → AllZip R b.keys b.values
  true_end [] b t = t.0
  true_end (a ∷ A) b t = true_end A b t.1

  -- rows that are parted at one place
  pub zip_front : (ks ls : List K) (xs ys : List V) (d : K) (y : V) → length ks ≡ length xs → AllZip R (ks ++ d ∷ ls) (xs ++ y ∷ ys) → AllZip R ks xs × R d y
  zip_front [] ls [] ys d y e z = (tt, z.0)
  zip_front [] ls (x ∷ xs) ys d y e z = absurd (omega arith)
  zip_front (k ∷ ks) ls [] ys d y e z = absurd (omega arith)
  zip_front (k ∷ ks) ls (x ∷ xs) ys d y e z =
      let n : length ks ≡ length xs = omega arith in
      let r = zip_front ks ls xs ys d y n z.1 in
      ((z.0, r.0), r.1)

module _ {K V : Type 0} (eq : K → K → Bool) (m : Meaning K V) (law : IsLawful m) (C : List (List (K × V))) (w v : ℕ) (k : K) where
  -- what k asks at w it asks at v, as long as the answers are the values there
  pub goes_here : (acc before rest : List (Answered K V)) → Goes eq m C w k acc (before ++ rest) → AllTrue (HasValue eq m C v) before → Goes eq m C v k acc before
  goes_here acc [] rest g t = tt
  goes_here acc (b ∷ bs) rest g t = (law.asks_alike k acc w v b.keys g.0, t.0, goes_here (acc ++ b ∷ []) bs rest g.2 t.1)

  pub asks_here : (acc before after : List (Answered K V)) (b : Answered K V) → Goes eq m C w k acc (before ++ b ∷ after) → m.next k (acc ++ before) v ≡ Asks b.keys
  asks_here acc [] after b g = rw append-nil (law.asks_alike k acc w v b.keys g.0)
  asks_here acc (c ∷ cs) after b g = subst (λ A. m.next k A v ≡ Asks b.keys) (append_assoc acc (c ∷ []) cs) (asks_here (acc ++ c ∷ []) cs after b g.2)

  -- a trace of k at w whose batches are answered as they were, up to one that has other values at v: k asks these at v
  pub goes_changed : (before after : List (Answered K V)) (b : Answered K V) (ys : List V) → Goes eq m C w k [] (before ++ b ∷ after) → AllTrue (HasValue eq m C v) (before ++ record { keys = b.keys; values = ys } ∷ []) → Goes eq m C v k [] (before ++ record { keys = b.keys; values = ys } ∷ [])
  goes_changed before after b ys g t =
      let l : Answered K V = record { keys = b.keys; values = ys } in
      goes_last eq m law C v k [] before l (goes_here [] before (b ∷ after) g (true_front (HasValue eq m C v) before (l ∷ []) t)) (asks_here [] before after b g) (true_end (HasValue eq m C v) before l t)

module _ {K V : Type 0} (eq : K → K → Bool) (m : Meaning K V) (C : List (List (K × V))) (v : ℕ) (k : K) where
  asked_there : (acc before after : List (Answered K V)) (b : Answered K V) → Goes eq m C v k acc (before ++ b ∷ after) → (m.next k (acc ++ before) v ≡ Asks b.keys) × (length b.values ≡ length b.keys)
  asked_there acc [] after b g = (subst (λ A. m.next k A v ≡ Asks b.keys) (sym (append-nil acc)) g.0, AllZip-long (HasValue eq m C v) b.keys b.values g.1)
  asked_there acc (c ∷ cs) after b g = let r = asked_there (acc ++ c ∷ []) cs after b g.2 in (subst (λ A. m.next k A v ≡ Asks b.keys) (append_assoc acc (c ∷ []) cs) r.0, r.1)

  -- what k goes through at v are batches that it asks, with a value for each key
  pub asks_these : (A : List (Answered K V)) → Goes eq m C v k [] A → AsksThese m k v A
  asks_these A g before after b e = asked_there [] before after b (subst (λ B. Goes eq m C v k [] B) e g)
