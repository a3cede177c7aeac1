-- What a check finds, as it is kept.
use Rattle.std.proofs.Common.{◌≡◌, ◌≢◌, ◌≤◌, ◌<◌, ◌+◌, ℕ, zero, suc, Bool, true, false, cond, List, [], ◌∷◌, ◌++◌, length, map, take, drop, get_or, Option, Some, None, refl, sym, ap, ◌∙◌, subst, arith, append-nil}
use Rattle.std.specs.Prelude.{IfSome}
use Rattle.std.specs.Option.{option_map}
use Rattle.std.specs.Arc.{arc_value}
use Rattle.std.specs.declared.sync.Arc.{Arc}
use Rattle.dep_recorder.specs.Recordings.{keys_in, values_in, answered_in}
use Rattle.std.proofs.lemmas.Option.{same_Some, none-some}
use Rattle.std.proofs.lemmas.List.{take-append-drop, map-append, length-map, length-take-le, drop_all, take_all}
use Rattle.dice_key.specs.Meaning.{Answered}
use Rattle.dice_key.specs.Lawful.{IsEquality}
use Rattle.dep_recorder.specs.Checks.{Finding, Wants, IsSame, HasChanged, finding, first_change, change_or, values_of, IsFirstChange, IsNextBatch, IsNext, Checked, IsWantingOf, fed_so_far, changed_at, HasChange}

pub take_one : {X : Type 0} (n : ℕ) (xs : List X) (x : X) (rest : List X) → drop n xs ≡ x ∷ rest → take (n + 1) xs ≡ take n xs ++ x ∷ []
take_one n xs x rest e = let s : n + 1 ≡ suc n = omega arith in subst (λ k. take k xs ≡ take n xs ++ x ∷ []) (sym s) (one n xs e)
  where
    one : (m : ℕ) (ys : List _) → drop m ys ≡ x ∷ rest → take (suc m) ys ≡ take m ys ++ x ∷ []
    one zero [] e = cc
    one zero (y ∷ ys) e = ap (λ zs. take 1 zs) e
    one (suc m) [] e = cc
    one (suc m) (y ∷ ys) e = ap (λ zs. y ∷ zs) (one m ys e)

drop_less : {X : Type 0} (n : ℕ) (xs : List X) (x : X) (rest : List X) → drop n xs ≡ x ∷ rest → n < length xs
drop_less zero [] x rest e = cc
drop_less zero (y ∷ ys) x rest e = omega arith
drop_less (suc n) [] x rest e = cc
drop_less (suc n) (y ∷ ys) x rest e = let h = drop_less n ys x rest e in omega arith

module _ {K V : Type 0} where
  -- what stands at a place
  pub heads_at : (i : ℕ) (ks : List K) (xs ys : List V) → i < length ks → length xs ≡ length ks → length ys ≡ length ks → (k : K) × (x y : V) × (changed_at i ks xs ys ≡ Some (k, x, y))
  heads_at i [] xs ys h p q = absurd (omega arith)
  heads_at i (k ∷ ks) [] ys h p q = absurd (omega arith)
  heads_at i (k ∷ ks) (x ∷ xs) [] h p q = absurd (omega arith)
  heads_at zero (k ∷ ks) (x ∷ xs) (y ∷ ys) h p q = (k, x, y, refl)
  heads_at (suc i) (k ∷ ks) (x ∷ xs) (y ∷ ys) h p q = heads_at i ks xs ys (omega arith) (omega arith) (omega arith)

  pub heads_got : {A B : Type 0} (i : ℕ) (ps : List (Arc K A × Arc V B)) (ns : List (Arc V B)) (p : Arc K A × Arc V B) (n : Arc V B) → i < length ps → i < length ns → p ≡ get_or ps i p → n ≡ get_or ns i n
      → changed_at i (keys_in ps) (values_in ps) (map arc_value ns) ≡ Some (arc_value p.0, arc_value p.1, arc_value n)
  heads_got i [] ns p n h l e f = absurd (omega arith)
  heads_got i (q ∷ qs) [] p n h l e f = absurd (omega arith)
  heads_got zero (q ∷ qs) (r ∷ rs) p n h l e f = λ j. Some (arc_value (sym e j).0, arc_value (sym e j).1, arc_value (sym f j))
  heads_got (suc i) (q ∷ qs) (r ∷ rs) p n h l e f = heads_got i qs rs p n (omega arith) (omega arith) e f

module _ {K V : Type 0} (eq : V → V → Bool) (law : IsEquality eq) where
  -- answers that are the same have no change
  pub no_change : (ks : List K) (xs : List V) → first_change eq ks xs xs ≡ None
  no_change [] xs = refl
  no_change (k ∷ ks) [] = refl
  no_change (k ∷ ks) (x ∷ xs) = rw (law.itself x, no_change ks xs) refl

  -- and those without one are the same
  pub same_answers : (ks : List K) (xs ys : List V) → length ks ≡ length xs → length xs ≡ length ys → first_change eq ks xs ys ≡ None → xs ≡ ys
  same_answers [] [] [] p q e = refl
  same_answers [] [] (y ∷ ys) p q e = absurd (omega arith)
  same_answers [] (x ∷ xs) ys p q e = absurd (omega arith)
  same_answers (k ∷ ks) [] ys p q e = absurd (omega arith)
  same_answers (k ∷ ks) (x ∷ xs) [] p q e = absurd (omega arith)
  same_answers (k ∷ ks) (x ∷ xs) (y ∷ ys) p q e = by_test (λ f. same_answers ks xs ys (omega arith) (omega arith) f) (eq x y) refl e
    where
      by_test : (first_change eq ks xs ys ≡ None → xs ≡ ys) → (b : Bool) → eq x y ≡ b → cond b (first_change eq ks xs ys) (Some (k, x, y)) ≡ None → x ∷ xs ≡ y ∷ ys
      by_test again true t f =
          let h = law.same x y t in
          let r = again f in
          λ i. h i ∷ r i
      by_test again false t f = absurd (none-some _ (sym f))

  -- what was fed and is as it was leads to what is left
  pub finding_on : (n : ℕ) (T : List (Answered K V)) (more : List (List V)) → finding eq T (values_of (take n T) ++ more) ≡ finding eq (drop n T) more
  finding_on zero T more = refl
  finding_on (suc n) [] more = refl
  finding_on (suc n) (b ∷ bs) more = rw no_change (finding_on n bs more)

  -- the parts of the first change
  record Parts (ks : List K) (xs ys : List V) (d : K) (x y : V) : Type 0 where
    keys_before : List K
    keys_after : List K
    same : List V
    was_after : List V
    now_after : List V
    keys_are : ks ≡ keys_before ++ d ∷ keys_after
    values_are : xs ≡ same ++ x ∷ was_after
    answers_are : ys ≡ same ++ y ∷ now_after
    counted : length keys_before ≡ length same
    changed : x ≢ y

  change_parts : (ks : List K) (xs ys : List V) (d : K) (x y : V) → first_change eq ks xs ys ≡ Some (d, x, y) → Parts ks xs ys d x y
  change_parts [] xs ys d x y e = absurd (none-some _ e)
  change_parts (k ∷ ks) [] ys d x y e = absurd (none-some _ e)
  change_parts (k ∷ ks) (a ∷ as') [] d x y e = absurd (none-some _ e)
  change_parts (k ∷ ks) (a ∷ as') (b ∷ bs) d x y e = by_test (λ f. change_parts ks as' bs d x y f) (eq a b) refl e
    where
      at_head : eq a b ≡ false → ◌≡◌ {A = K × V × V} (k, a, b) (d, x, y) → Parts (k ∷ ks) (a ∷ as') (b ∷ bs) d x y
      at_head t h = record {
        keys_before = [];
        keys_after = ks;
        same = [];
        was_after = as';
        now_after = bs;
        keys_are = λ i. (h i).0 ∷ ks;
        values_are = λ i. (h i).1 ∷ as';
        answers_are = λ i. (h i).2 ∷ bs;
        counted = refl;
        changed = λ p. (let q : a ≡ b = (λ i. (h i).1) ∙ (p ∙ (λ i. (sym h i).2)) in let z : false ≡ true = sym t ∙ (ap (λ c. eq c b) q ∙ law.itself b) in cc);
      }

      in_tail : eq a b ≡ true → Parts ks as' bs d x y → Parts (k ∷ ks) (a ∷ as') (b ∷ bs) d x y
      in_tail t r = record {
        keys_before = k ∷ r.keys_before;
        keys_after = r.keys_after;
        same = a ∷ r.same;
        was_after = r.was_after;
        now_after = r.now_after;
        keys_are = ap (λ zs. k ∷ zs) r.keys_are;
        values_are = ap (λ zs. a ∷ zs) r.values_are;
        answers_are = (λ i. sym (law.same a b t) i ∷ r.answers_are i);
        counted = ap suc r.counted;
        changed = r.changed;
      }

      by_test : (first_change eq ks as' bs ≡ Some (d, x, y) → Parts ks as' bs d x y) → (c : Bool) → eq a b ≡ c → cond c (first_change eq ks as' bs) (Some (k, a, b)) ≡ Some (d, x, y) → Parts (k ∷ ks) (a ∷ as') (b ∷ bs) d x y
      by_test again true t f = in_tail t (again f)
      by_test again false t f = at_head t (same_Some _ _ f)

  -- a check that has found a change
  pub change_found : (n i : ℕ) (T : List (Answered K V)) (b : Answered K V) (rest : List (Answered K V)) (ys : List V) (d : K) (x y : V) → drop n T ≡ b ∷ rest → HasChange eq (drop n T) ys i → changed_at i b.keys b.values ys ≡ Some (d, x, y)
      → (finding eq T (fed_so_far T n (Some ys)) ≡ HasChanged d x y) × IsFirstChange T (fed_so_far T n (Some ys)) d x y
  change_found n i T b rest ys d x y e h c =
      let g : HasChange eq (b ∷ rest) ys i = subst (λ bs. HasChange eq bs ys i) e h in
      let f : first_change eq b.keys b.values ys ≡ Some (d, x, y) = g.3 ∙ c in
      let p = change_parts b.keys b.values ys d x y f in (
        finding_on n T (ys ∷ []) ∙ (ap (λ bs. finding eq bs (ys ∷ [])) e ∙ ap (change_or eq (finding eq rest [])) f),
        record {
          before = take n T;
          batch = b;
          after = rest;
          trace_is = sym (take-append-drop n T) ∙ ap (λ bs. take n T ++ bs) e;
          answers = ys;
          fed_is = refl;
          keys_before = p.keys_before;
          keys_after = p.keys_after;
          same = p.same;
          was_after = p.was_after;
          now_after = p.now_after;
          keys_are = p.keys_are;
          values_are = p.values_are;
          answers_are = p.answers_are;
          counted = p.counted;
          changed = p.changed;
        },
      )

  -- a check that wants a batch
  pub batch_wanted : (n : ℕ) (T : List (Answered K V)) (b : Answered K V) (rest : List (Answered K V)) → drop n T ≡ b ∷ rest → (finding eq T (fed_so_far T n None) ≡ Wants b.keys) × IsNext T (fed_so_far T n None) b
  batch_wanted n T b rest e = (
    finding_on n T [] ∙ ap (λ bs. finding eq bs []) e,
    (
      record {
        before = take n T;
        batch = b;
        after = rest;
        trace_is = sym (take-append-drop n T) ∙ ap (λ bs. take n T ++ bs) e;
        fed_is = append-nil (values_of (take n T));
        keys_are = refl;
      },
      refl,
    ),
  )

  -- a check that was fed all
  pub all_same : (n : ℕ) (T : List (Answered K V)) → length T ≤ n → (finding eq T (fed_so_far T n None) ≡ IsSame) × (fed_so_far T n None ≡ values_of T)
  all_same n T h = (
    finding_on n T [] ∙ ap (λ bs. finding eq bs []) (drop_all n T h),
    append-nil (values_of (take n T)) ∙ ap values_of (take_all n T h),
  )

  -- one more that is as it was
  pub same_fed : (n : ℕ) (T : List (Answered K V)) (b : Answered K V) (rest : List (Answered K V)) (ys : List V) → drop n T ≡ b ∷ rest → length b.keys ≡ length b.values → length ys ≡ length b.keys → first_change eq b.keys b.values ys ≡ None
      → fed_so_far T (n + 1) None ≡ fed_so_far T n None ++ ys ∷ []
  same_fed n T b rest ys e h l f =
      let s : b.values ≡ ys = same_answers b.keys b.values ys h (omega arith) f in
      append-nil (values_of (take (n + 1) T)) ∙ (ap values_of (take_one n T b rest e) ∙ (map-append (λ b. b.values) (take n T) (b ∷ []) ∙ (λ i. sym (append-nil (values_of (take n T))) i ++ s i ∷ [])))

  -- a check that wants a batch
  pub record Wanting {D : Type 0} (T : List (Answered K V)) (n l : ℕ) (change : Option D) : Type 0 where
    pub none : change ≡ None
    pub batch : Answered K V
    pub rest : List (Answered K V)
    pub is : drop n T ≡ batch ∷ rest
    pub less : n < length T
    pub counted : l ≡ length batch.keys

  pub wanting : {D : Type 0} (f : D → List V) (at : D → ℕ) (T : List (Answered K V)) (n l : ℕ) (change : Option D) (s : Checked K V) → record { trace = T; fed = fed_so_far T n (option_map f change) } ≡ s
      → IfSome change (λ d. HasChange eq (drop n T) (f d) (at d)) → IsWantingOf l (finding eq s.trace s.fed) → Wanting T n l change
  wanting {D} f at T n l change s v h w = by_change change refl h (subst (λ (c : Checked K V). IsWantingOf l (finding eq c.trace c.fed)) (sym v) w)
    where
      by_rest : (bs : List (Answered K V)) → drop n T ≡ bs → change ≡ None → IsWantingOf l (finding eq bs []) → Wanting T n l change
      by_rest [] e c w = absurd w
      by_rest (b ∷ bs) e c w = record { none = c; batch = b; rest = bs; is = e; less = drop_less n T b bs e; counted = w }

      has_changed : (bs : List (Answered K V)) (ys : List V) (i : ℕ) → HasChange eq bs ys i → IsWantingOf l (finding eq bs (ys ∷ [])) → ⊥
      has_changed [] ys i h w = h
      has_changed (b ∷ bs) ys i h w =
          let d = heads_at i b.keys b.values ys h.0 h.1 h.2 in
          let e : finding eq (b ∷ bs) (ys ∷ []) ≡ HasChanged d.0 d.1 d.2 = ap (change_or eq (finding eq bs [])) (h.3 ∙ d.3) in
          subst (IsWantingOf l) e w

      by_change : (o : Option D) → change ≡ o → IfSome o (λ d. HasChange eq (drop n T) (f d) (at d)) → IsWantingOf l (finding eq T (fed_so_far T n (option_map f o))) → Wanting T n l change
      by_change None c h w = by_rest (drop n T) refl c (subst (IsWantingOf l) (finding_on n T []) w)
      by_change (Some d) c h w = absurd (has_changed (drop n T) (f d) (at d) h (subst (IsWantingOf l) (finding_on n T (f d ∷ [])) w))

  pub has_change : {A B : Type 0} (T : List (Answered K V)) (n i : ℕ) (ps : List (Arc K A × Arc V B)) (rest : List (Answered K V)) (ns : List (Arc V B)) (ys : List V) → drop n T ≡ answered_in ps ∷ rest → map arc_value ns ≡ ys → length ps ≡ length ns
      → i < length ps → first_change eq (keys_in ps) (values_in ps) (map arc_value ns) ≡ changed_at i (keys_in ps) (values_in ps) (map arc_value ns) → HasChange eq (drop n T) ys i
  has_change {A} {B} T n i ps rest ns ys e v l h f =
      let a = length-map ps (λ (p : Arc K A × Arc V B). arc_value p.0) in
      let b = length-map ps (λ (p : Arc K A × Arc V B). arc_value p.1) in
      let c = length-map ns arc_value in
      subst (λ bs. HasChange eq bs ys i) (sym e) (subst (λ zs. HasChange eq (answered_in ps ∷ rest) zs i) v (omega arith, omega arith, omega arith, f))

  pub as_many : {A B D : Type 0} (T : List (Answered K V)) (n l : ℕ) (change : Option D) (ps : List (Arc K A × Arc V B)) (rest : List (Answered K V)) → Wanting T n l change → drop n T ≡ answered_in ps ∷ rest → length ps ≡ l
  as_many T n l change ps rest w e =
      let h : w.batch ∷ w.rest ≡ answered_in ps ∷ rest = sym w.is ∙ e in
      let b : w.batch ≡ answered_in ps = cc in
      let k = ap (λ a. length a.keys) b in
      let m = length-map ps (λ p. arc_value p.0) in
      let c = w.counted in
      omega arith

  -- what was fed, with one more
  pub fed_more : {D : Type 0} (f : D → List V) (T : List (Answered K V)) (n : ℕ) (change : Option D) (s : Checked K V) (ys : List V) → record { trace = T; fed = fed_so_far T n (option_map f change) } ≡ s → change ≡ None
      → ◌≡◌ {A = Checked K V} (record { trace = T; fed = fed_so_far T n (Some ys) }) (record { trace = s.trace; fed = s.fed ++ ys ∷ [] })
  fed_more f T n change s ys v c =
      let u : ◌≡◌ {A = Checked K V} (record { trace = T; fed = fed_so_far T n None }) s = (λ i. record { trace = T; fed = fed_so_far T n (option_map f (sym c i)) }) ∙ v in
      (λ i. record { trace = T; fed = sym (append-nil (values_of (take n T))) i ++ ys ∷ [] }) ∙ (λ i. record { trace = (u i).trace; fed = (u i).fed ++ ys ∷ [] })

  pub fed_next : {A B D : Type 0} (f : D → List V) (T : List (Answered K V)) (n : ℕ) (change : Option D) (s : Checked K V) (ps : List (Arc K A × Arc V B)) (rest : List (Answered K V)) (ns : List (Arc V B)) (ys : List V)
      → record { trace = T; fed = fed_so_far T n (option_map f change) } ≡ s → change ≡ None → drop n T ≡ answered_in ps ∷ rest → map arc_value ns ≡ ys → length ps ≡ length ns → first_change eq (keys_in ps) (values_in ps) (map arc_value ns) ≡ None
      → ◌≡◌ {A = Checked K V} (record { trace = T; fed = fed_so_far T (n + 1) (option_map f change) }) (record { trace = s.trace; fed = s.fed ++ ys ∷ [] })
  fed_next {A} {B} f T n change s ps rest ns ys v c e y l h =
      let u : ◌≡◌ {A = Checked K V} (record { trace = T; fed = fed_so_far T n None }) s = (λ i. record { trace = T; fed = fed_so_far T n (option_map f (sym c i)) }) ∙ v in
      let a = length-map ps (λ (p : Arc K A × Arc V B). arc_value p.0) in
      let b = length-map ps (λ (p : Arc K A × Arc V B). arc_value p.1) in
      let d = length-map ns arc_value in
      let q = ap length y in
      let k : length (keys_in ps) ≡ length (values_in ps) = omega arith in
      let m : length ys ≡ length (keys_in ps) = omega arith in
      let z = same_fed n T (answered_in ps) rest ys e k m (subst (λ zs. first_change eq (keys_in ps) (values_in ps) zs ≡ None) y h) in
      (λ i. record { trace = T; fed = fed_so_far T (n + 1) (option_map f (c i)) }) ∙ ((λ i. record { trace = T; fed = z i }) ∙ (λ i. record { trace = (u i).trace; fed = (u i).fed ++ ys ∷ [] }))

  -- what was fed, with the trace's own answers to one batch more
  pub fed_own : {D : Type 0} (f : D → List V) (T : List (Answered K V)) (n : ℕ) (change : Option D) (s : Checked K V) → record { trace = T; fed = fed_so_far T n (option_map f change) } ≡ s → change ≡ None → n ≤ length T
      → ◌≡◌ {A = Checked K V} (record { trace = T; fed = fed_so_far T (n + 1) (option_map f change) }) (record { trace = s.trace; fed = values_of (take (length s.fed + 1) s.trace) })
  fed_own f T n change s v c within =
      let u : ◌≡◌ {A = Checked K V} (record { trace = T; fed = fed_so_far T n None }) s = (λ i. record { trace = T; fed = fed_so_far T n (option_map f (sym c i)) }) ∙ v in
      let l : n ≡ length (fed_so_far T n None) = sym (ap length (append-nil (values_of (take n T))) ∙ (length-map (take n T) (λ b. b.values) ∙ length-take-le n T within)) in
      (λ i. record { trace = T; fed = fed_so_far T (n + 1) (option_map f (c i)) })
      ∙ ((λ i. record { trace = T; fed = append-nil (values_of (take (n + 1) T)) i }) ∙ ((λ i. record { trace = T; fed = values_of (take (l i + 1) T) }) ∙ (λ i. record { trace = (u i).trace; fed = values_of (take (length (u i).fed + 1) (u i).trace) })))

-- the loop's return
pub change_here : {K V A B : Type 0} (eq : V → V → Bool) (i : ℕ) (ps : List (Arc K A × Arc V B)) (ns : List (Arc V B)) (p : Arc K A × Arc V B) (n : Arc V B) → i < length ps → i < length ns → p ≡ get_or ps i p → n ≡ get_or ns i n → eq (arc_value p.1) (arc_value n) ≡ false
    → first_change eq (keys_in (drop i ps)) (values_in (drop i ps)) (map arc_value (drop i ns)) ≡ changed_at i (keys_in ps) (values_in ps) (map arc_value ns)
change_here eq i [] ns p n h l e f t = absurd (omega arith)
change_here eq i (q ∷ qs) [] p n h l e f t = absurd (omega arith)
change_here eq zero (q ∷ qs) (r ∷ rs) p n h l e f t =
    let d : eq (arc_value q.1) (arc_value r) ≡ false = (λ j. eq (arc_value (sym e j).1) (arc_value (sym f j))) ∙ t in
    rw d refl
change_here eq (suc i) (q ∷ qs) (r ∷ rs) p n h l e f t = change_here eq i qs rs p n (omega arith) (omega arith) e f t

-- a key whose answers are the same is no change
pub change_past : {K V A B : Type 0} (eq : V → V → Bool) (i : ℕ) (ps : List (Arc K A × Arc V B)) (ns : List (Arc V B)) (p : Arc K A × Arc V B) (n : Arc V B) → i < length ps → i < length ns → p ≡ get_or ps i p → n ≡ get_or ns i n → eq (arc_value p.1) (arc_value n) ≡ true
    → first_change eq (keys_in (drop i ps)) (values_in (drop i ps)) (map arc_value (drop i ns)) ≡ first_change eq (keys_in (drop (i + 1) ps)) (values_in (drop (i + 1) ps)) (map arc_value (drop (i + 1) ns))
change_past {K} {V} {A} {B} eq i ps ns p n l m e f t =
    let s : suc i ≡ i + 1 = omega arith in
    past i ps ns l m e f ∙ (λ j. first_change eq (keys_in (drop (s j) ps)) (values_in (drop (s j) ps)) (map arc_value (drop (s j) ns)))
  where
    past : (i : ℕ) (qs : List (Arc K A × Arc V B)) (rs : List (Arc V B)) → i < length qs → i < length rs → p ≡ get_or qs i p → n ≡ get_or rs i n
        → first_change eq (keys_in (drop i qs)) (values_in (drop i qs)) (map arc_value (drop i rs)) ≡ first_change eq (keys_in (drop (suc i) qs)) (values_in (drop (suc i) qs)) (map arc_value (drop (suc i) rs))
    past i [] rs h l e f = absurd (omega arith)
    past i (q ∷ qs) [] h l e f = absurd (omega arith)
    past zero (q ∷ qs) (r ∷ rs) h l e f =
        let d : eq (arc_value q.1) (arc_value r) ≡ true = (λ j. eq (arc_value (sym e j).1) (arc_value (sym f j))) ∙ t in
        rw d refl
    past (suc i) (q ∷ qs) (r ∷ rs) h l e f = past i qs rs (omega arith) (omega arith) e f

module _ {K V : Type 0} (eq : V → V → Bool) (law : IsEquality eq) {D : Type 0} (f : D → List V) (T : List (Answered K V)) (n : ℕ) (change : Option D) (s : Checked K V) (view : record { trace = T; fed = fed_so_far T n (option_map f change) } ≡ s) where
  without : change ≡ None → ◌≡◌ {A = Checked K V} (record { trace = T; fed = fed_so_far T n None }) s
  without c = (λ i. record { trace = T; fed = fed_so_far T n (option_map f (sym c i)) }) ∙ view

  pub seen_wanted : change ≡ None → (b : Answered K V) (rest : List (Answered K V)) → drop n T ≡ b ∷ rest → (Wants b.keys ≡ finding eq s.trace s.fed) × ((ks : List K) → 0 < length b.keys → ◌≡◌ {A = Finding K V} (Wants b.keys) (Wants ks) → (0 < length ks) × IsNextBatch s.trace s.fed ks) × IsNext s.trace s.fed b
  seen_wanted c b rest e =
      let r = subst (λ (t : Checked K V). (finding eq t.trace t.fed ≡ Wants b.keys) × IsNext t.trace t.fed b) (without c) (batch_wanted eq law n T b rest e) in
      (sym r.0, λ ks h p. (let q : b.keys ≡ ks = cc in (subst (λ zs. 0 < length zs) q h, subst (IsNextBatch s.trace s.fed) q r.1.0)), r.1)

  pub seen_same : change ≡ None → length T ≤ n → (IsSame ≡ finding eq s.trace s.fed) × (s.fed ≡ values_of s.trace)
  seen_same c h =
      let r = subst (λ (t : Checked K V). (finding eq t.trace t.fed ≡ IsSame) × (t.fed ≡ values_of t.trace)) (without c) (all_same eq law n T h) in
      (sym r.0, r.1)

  pub seen_change : (d : D) (i : ℕ) (b : Answered K V) (rest : List (Answered K V)) (k : K) (x y : V) → change ≡ Some d → drop n T ≡ b ∷ rest → HasChange eq (drop n T) (f d) i → changed_at i b.keys b.values (f d) ≡ Some (k, x, y)
      → (HasChanged k x y ≡ finding eq s.trace s.fed) × ((k' : K) (x' y' : V) → HasChanged k x y ≡ HasChanged k' x' y' → IsFirstChange s.trace s.fed k' x' y')
  seen_change d i b rest k x y c e h a =
      let u : ◌≡◌ {A = Checked K V} (record { trace = T; fed = fed_so_far T n (Some (f d)) }) s = (λ j. record { trace = T; fed = fed_so_far T n (option_map f (sym c j)) }) ∙ view in
      let r = subst (λ (t : Checked K V). (finding eq t.trace t.fed ≡ HasChanged k x y) × IsFirstChange t.trace t.fed k x y) u (change_found eq law n i T b rest (f d) k x y e h a) in
      (sym r.0, λ k' x' y' p. (let q : k ≡ k' = cc in let q' : x ≡ x' = cc in let q'' : y ≡ y' = cc in transport3 k' x' y' q q' q'' r.1))
    where
      transport3 : (k' : K) (x' y' : V) → k ≡ k' → x ≡ x' → y ≡ y' → IsFirstChange s.trace s.fed k x y → IsFirstChange s.trace s.fed k' x' y'
      transport3 k' x' y' p q r h = subst (λ z. IsFirstChange s.trace s.fed k' x' z) r (subst (λ z. IsFirstChange s.trace s.fed k' z y) q (subst (λ z. IsFirstChange s.trace s.fed z x y) p h))

pub change_within : {K V A B : Type 0} (eq : V → V → Bool) (T : List (Answered K V)) (n i : ℕ) (ys : List V) (ps : List (Arc K A × Arc V B)) (rest : List (Answered K V)) (ns : List (Arc V B)) → drop n T ≡ answered_in ps ∷ rest → map arc_value ns ≡ ys → HasChange eq (drop n T) ys i → (i < length ps) × (i < length ns)
change_within {K} {V} {A} {B} eq T n i ys ps rest ns e v h =
    let g : HasChange eq (answered_in ps ∷ rest) ys i = subst (λ bs. HasChange eq bs ys i) e h in
    let a = length-map ps (λ (p : Arc K A × Arc V B). arc_value p.0) in
    let d = length-map ns arc_value in
    let q = ap length v in
    let b = g.0 in
    let c = g.2 in
    (omega arith, omega arith)

not_equal : {V : Type 0} (eq : V → V → Bool) (law : IsEquality eq) (x y : V) → x ≢ y → eq x y ≡ false
not_equal eq law x y n = by_test (eq x y) refl
  where
    by_test : (b : Bool) → eq x y ≡ b → b ≡ false
    by_test true e = absurd (n (law.same x y e))
    by_test false e = refl

module _ {K V : Type 0} (eq : V → V → Bool) (law : IsEquality eq) where
  finding_front : (A S : List (Answered K V)) (more : List (List V)) → finding eq (A ++ S) (values_of A ++ more) ≡ finding eq S more
  finding_front [] S more = refl
  finding_front (b ∷ bs) S more = rw (no_change eq law) (finding_front bs S more)

  pub finds_same : (T : List (Answered K V)) → finding eq T (values_of T) ≡ IsSame
  finds_same [] = refl
  finds_same (b ∷ bs) = rw (no_change eq law) (finds_same bs)

  pub finds_next : (A B : List (Answered K V)) (b : Answered K V) → finding eq (A ++ b ∷ B) (values_of A) ≡ Wants b.keys
  finds_next A B b = subst (λ fed. finding eq (A ++ b ∷ B) fed ≡ Wants b.keys) (append-nil (values_of A)) (finding_front A (b ∷ B) [])

  change_at : (ks more : List K) (same xs ys : List V) (d : K) (x y : V) → length ks ≡ length same → x ≢ y → first_change eq (ks ++ d ∷ more) (same ++ x ∷ xs) (same ++ y ∷ ys) ≡ Some (d, x, y)
  change_at [] more [] xs ys d x y l n = rw (not_equal eq law x y n) refl
  change_at [] more (z ∷ zs) xs ys d x y l n = absurd (omega arith)
  change_at (k ∷ ks) more [] xs ys d x y l n = absurd (omega arith)
  change_at (k ∷ ks) more (z ∷ zs) xs ys d x y l n = rw (law.itself z) (change_at ks more zs xs ys d x y (omega arith) n)

  pub finds_change : (T : List (Answered K V)) (fed : List (List V)) (d : K) (x y : V) → IsFirstChange T fed d x y → finding eq T fed ≡ HasChanged d x y
  finds_change T fed d x y c =
      let f : first_change eq c.batch.keys c.batch.values c.answers ≡ Some (d, x, y) = (λ i. first_change eq (c.keys_are i) (c.values_are i) (c.answers_are i)) ∙ change_at c.keys_before c.keys_after c.same c.was_after c.now_after d x y c.counted c.changed in
      (λ i. finding eq (c.trace_is i) (c.fed_is i)) ∙ (finding_front c.before (c.batch ∷ c.after) (c.answers ∷ []) ∙ ap (change_or eq (finding eq c.after [])) f)

-- a check has one finding
pub changed_wants_not : {K V : Type 0} {d : K} {x y : V} {ks : List K} → ◌≡◌ {A = Finding K V} (HasChanged d x y) (Wants ks) → ⊥
changed_wants_not p = cc

pub changed_is_not_same : {K V : Type 0} {d : K} {x y : V} → ◌≡◌ {A = Finding K V} (HasChanged d x y) IsSame → ⊥
changed_is_not_same p = cc

pub wants_is_not_same : {K V : Type 0} {ks : List K} → ◌≡◌ {A = Finding K V} (Wants ks) IsSame → ⊥
wants_is_not_same p = cc

pub wants_is_no_change : {K V : Type 0} {d : K} {x y : V} {ks : List K} → ◌≡◌ {A = Finding K V} (Wants ks) (HasChanged d x y) → ⊥
wants_is_no_change p = cc

pub same_wants_not : {K V : Type 0} {ks : List K} → ◌≡◌ {A = Finding K V} IsSame (Wants ks) → ⊥
same_wants_not p = cc

pub same_is_no_change : {K V : Type 0} {d : K} {x y : V} → ◌≡◌ {A = Finding K V} IsSame (HasChanged d x y) → ⊥
same_is_no_change p = cc
