-- What the words on asks in an epoch, and on running keys, say.
use Rattle.std.proofs.Common.{◌≡◌, ◌≢◌, ◌⊎◌, ◌<◌, ◌+◌, ℕ, suc, Bool, true, false, cond, not, ◌&&◌, ◌||◌, eqb, List, [], ◌∷◌, ◌++◌, length, Option, Some, None, inl, inr, refl, sym, ap, ◌∙◌, subst, arith}
use Rattle.std.proofs.lemmas.Bool.{both_ways, eqb-true, eq-eqb, ne_eqb, and_from, and_parts, or_left, or_right, or_cases, not-true}
use Rattle.std.proofs.lemmas.Option.{same_Some, none-some}
use Rattle.dice_key.specs.Lawful.{IsEquality}
use Rattle.dice_key.specs.Meaning.{Meaning}
use Rattle.dice_key.specs.declared.universe.Kind.TheVariants.{Injected}
use Rattle.journal.specs.declared.event.Told.{Told}
use Rattle.journal.specs.declared.event.Told.TheVariants.{Commit, Open, Close, Ask, Leave, Start, Keep, End, Cyclic, Drop, Lost}
use Rattle.journal.specs.declared.event.Reason.{Reason}
use Rattle.journal.specs.Events.{Opened, is_for, names_by, begins, open_at, opened_at, asked_in_epoch, is_running}
use Rattle.journal.specs.Law.{IsAllowed, IsLawfulBack}
use Rattle.journal.specs.Words.{event_at, begins_epoch, epoch_of, IsAskedAmong, RunsByWords, IsOfTask}
use Rattle.journal.proofs.Indices.{opened_below}
use Rattle.journal.proofs.WordsEpochs.{among, open_event, itself, alike, not_named}
use Rattle.lists.specs.Lists.{Has}

module _ {K : Type 0} (eq : K → K → Bool) (equality : IsEquality eq) where
  -- an event of another version or key is not this one
  unlike : (w v : ℕ) (q k : K) → names_by eq w q v k ≡ false → (w ≡ v) × (q ≡ k) → ⊥
  unlike w v q k n p = let z : true ≡ false = sym (itself eq equality v k) ∙ subst (λ y. names_by eq v y v k ≡ false) p.1 (subst (λ x. names_by eq x q v k ≡ false) p.0 n) in cc

module _ {K V : Type 0} where
  ask_same : (x : Told K V) (c s d t : ℕ) (q k : K) → x ≡ Ask c s q → x ≡ Ask d t k → (s ≡ t) × (q ≡ k)
  ask_same x c s d t q k e f = (cc, cc)

  open_same : (x : Told K V) (c w d v : ℕ) → x ≡ Open c w → x ≡ Open d v → w ≡ v
  open_same x c w d v e f = cc

module _ {K V : Type 0} (eq : K → K → Bool) (equality : IsEquality eq) where
  -- one more event, which no index reached yet
  asked_later : (x : Told K V) (R E : List (Told K V)) (v : ℕ) (k : K) → (a : IsAskedAmong R E v k) → a.opened < length R → IsAskedAmong (x ∷ R) (x ∷ E) v k
  asked_later x R E v k a l = record { by = a.by; opened = a.opened; asked = inr a.asked; opener = a.opener; opening = rw (ne_eqb (length R) a.opened (λ i. (omega arith))) a.opening }

  event_below : (R : List (Told K V)) (t : ℕ) (e : Told K V) → event_at R t ≡ Some e → t < length R
  event_below [] t e h = absurd (none-some e h)
  event_below (x ∷ R) t e h = by_index (eqb (length R) t) refl h (λ g. event_below R t e g)
    where
      by_index : (b : Bool) → eqb (length R) t ≡ b → cond b (Some x) (event_at R t) ≡ Some e → (event_at R t ≡ Some e → t < length R) → t < suc (length R)
      by_index true i q again = let z = eqb-true (length R) t i in omega arith
      by_index false i q again = let z = again q in omega arith

  more_asked : (x : Told K V) (R E : List (Told K V)) (v : ℕ) (k : K) → IsAskedAmong R E v k → IsAskedAmong (x ∷ R) (x ∷ E) v k
  more_asked x R E v k a = asked_later x R E v k a (event_below R a.opened (Open a.opener v) a.opening)

  pub asked_says : (R : List (Told K V)) (v : ℕ) (k : K) → asked_in_epoch eq R v k ≡ true → IsAskedAmong R (epoch_of R v) v k
  asked_says [] v k e = cc
  asked_says (Open c w ∷ R) v k e = by_begin (begins R w v) e (λ h. asked_says R v k h)
    where
      by_begin : (b : Bool) → cond b false (asked_in_epoch eq R v k) ≡ true → (asked_in_epoch eq R v k ≡ true → IsAskedAmong R (epoch_of R v) v k) → IsAskedAmong (Open c w ∷ R) (Open c w ∷ cond b [] (epoch_of R v)) v k
      by_begin true q again = cc
      by_begin false q again = more_asked (Open c w) R (epoch_of R v) v k (again q)
  asked_says (Ask c s q ∷ R) v k e = elim (or_cases (opened_at R v s && eq k q) (asked_in_epoch eq R v k) e) [
    | inl h ↦ let p = and_parts (opened_at R v s) (eq k q) h in now (open_at R s) refl p.0 (sym (equality.same k q p.1))
    | inr h ↦ more_asked (Ask c s q) R (epoch_of R v) v k (asked_says R v k h)
  ]
    where
      now : (o : Option Opened) → open_at R s ≡ o → is_for (λ o. eqb o.version v) (open_at R s) ≡ true → q ≡ k → IsAskedAmong (Ask c s q ∷ R) (Ask c s q ∷ epoch_of R v) v k
      now None f h i = let z : false ≡ true = sym (ap (is_for (λ (o : Opened). eqb o.version v)) f) ∙ h in cc
      now (Some o) f h i =
          let z : eqb o.version v ≡ true = sym (ap (is_for (λ (o : Opened). eqb o.version v)) f) ∙ h in
          let at : event_at R s ≡ Some (Open o.by v) = open_event R s o f ∙ ap (λ x. Some (Open o.by x)) (eqb-true o.version v z) in
          let l = opened_below R s o f in
          record { by = c; opened = s; asked = inl (ap (Ask c s) i); opener = o.by; opening = rw (ne_eqb (length R) s (λ i. (omega arith))) at }
  asked_says (Commit c d ∷ R) v k h = more_asked (Commit c d) R (epoch_of R v) v k (asked_says R v k h)
  asked_says (Close c s ∷ R) v k h = more_asked (Close c s) R (epoch_of R v) v k (asked_says R v k h)
  asked_says (Leave c a ∷ R) v k h = more_asked (Leave c a) R (epoch_of R v) v k (asked_says R v k h)
  asked_says (Start w q c ∷ R) v k h = more_asked (Start w q c) R (epoch_of R v) v k (asked_says R v k h)
  asked_says (Keep w q b ∷ R) v k h = more_asked (Keep w q b) R (epoch_of R v) v k (asked_says R v k h)
  asked_says (End w q ∷ R) v k h = more_asked (End w q) R (epoch_of R v) v k (asked_says R v k h)
  asked_says (Cyclic w q ∷ R) v k h = more_asked (Cyclic w q) R (epoch_of R v) v k (asked_says R v k h)
  asked_says (Drop w q ∷ R) v k h = more_asked (Drop w q) R (epoch_of R v) v k (asked_says R v k h)
  asked_says (Lost w q ∷ R) v k h = more_asked (Lost w q) R (epoch_of R v) v k (asked_says R v k h)

  module _ (m : Meaning K V) where
    -- a transaction in which a key was asked for is named by an index before the journal's end
    ask_below : (R : List (Told K V)) (by t : ℕ) (k : K) → IsLawfulBack eq m R → Has R (Ask by t k) → t < length R
    ask_below [] by t k l h = elim h [ ]
    ask_below (x ∷ R) by t k l (inl e) = let a = subst (λ y. IsLawfulBack eq m (y ∷ R)) e l in let b = opened_below R t a.0.0 a.0.1 in omega arith
    ask_below (x ∷ R) by t k l (inr h) = let b = ask_below R by t k l.1 h in omega arith

    -- the opening of a transaction that an earlier ask names stands before one more event
    opening_before : (x : Told K V) (R : List (Told K V)) (t o v : ℕ) → t < length R → event_at (x ∷ R) t ≡ Some (Open o v) → event_at R t ≡ Some (Open o v)
    opening_before x R t o v l h = by_index (eqb (length R) t) refl h
      where
        by_index : (b : Bool) → eqb (length R) t ≡ b → cond b (Some x) (event_at R t) ≡ Some (Open o v) → event_at R t ≡ Some (Open o v)
        by_index true i q = absurd (let z = eqb-true (length R) t i in omega arith)
        by_index false i q = q

    -- an ask of another event than the newest one was asked for before
    asked_before : (x : Told K V) (R : List (Told K V)) (v : ℕ) (k : K) → IsLawfulBack eq m R → (a : IsAskedAmong (x ∷ R) (epoch_of (x ∷ R) v) v k) → Has (epoch_of R v) (Ask a.by a.opened k) → IsAskedAmong R (epoch_of R v) v k
    asked_before x R v k l a h =
        let b = ask_below R a.by a.opened k l (among R v (Ask a.by a.opened k) h) in
        record { by = a.by; opened = a.opened; asked = h; opener = a.opener; opening = opening_before x R a.opened a.opener v b a.opening }

    pub asked_found : (R : List (Told K V)) (v : ℕ) (k : K) → IsLawfulBack eq m R → IsAskedAmong R (epoch_of R v) v k → asked_in_epoch eq R v k ≡ true
    asked_found [] v k l a = elim (a.asked) [ ]
    asked_found (Open c w ∷ R) v k l a = by_begin (begins R w v) a.asked (λ h. asked_found R v k l.1 (asked_before (Open c w) R v k l.1 a h))
      where
        by_begin : (b : Bool) → Has (Open c w ∷ cond b [] (epoch_of R v)) (Ask a.by a.opened k) → (Has (epoch_of R v) (Ask a.by a.opened k) → asked_in_epoch eq R v k ≡ true) → cond b false (asked_in_epoch eq R v k) ≡ true
        by_begin true g again = elim g [ inl e ↦ cc | inr i ↦ elim i [ ] ]
        by_begin false g again = elim g [ inl e ↦ cc | inr i ↦ again i ]
    asked_found (Ask c s q ∷ R) v k l a = elim (a.asked) [
      | inl e ↦ or_left (opened_at R v s && eq k q) (asked_in_epoch eq R v k) (and_from (opened_at R v s) (eq k q) (here (Ask c s q) refl e) (subst (λ y. eq k y ≡ true) (sym (ask_same (Ask c s q) c s a.by a.opened q k refl e).1) (equality.itself k)))
      | inr h ↦ or_right (opened_at R v s && eq k q) (asked_in_epoch eq R v k) (asked_found R v k l.1 (asked_before (Ask c s q) R v k l.1 a h))
    ]
      where
        here : (x : Told K V) → x ≡ Ask c s q → x ≡ Ask a.by a.opened k → opened_at R v s ≡ true
        here x i e =
            let o = l.0.0 in
            let f = l.0.1 in
            let b = opened_below R s o f in
            let there : event_at R s ≡ Some (Open a.opener v) = opening_before (Ask c s q) R s a.opener v b (subst (λ t. event_at (Ask c s q ∷ R) t ≡ Some (Open a.opener v)) (sym (ask_same x c s a.by a.opened q k i e).0) a.opening) in
            let version = open_same (Open o.by o.version) o.by o.version a.opener v refl (same_Some _ _ (sym (open_event R s o f) ∙ there)) in
            ap (is_for (λ (o : Opened). eqb o.version v)) f ∙ eq-eqb o.version v version
    asked_found (Commit c d ∷ R) v k l h = elim (h.asked) [ inl e ↦ cc | inr g ↦ asked_found R v k l.1 (asked_before (Commit c d) R v k l.1 h g) ]
    asked_found (Close c s ∷ R) v k l h = elim (h.asked) [ inl e ↦ cc | inr g ↦ asked_found R v k l.1 (asked_before (Close c s) R v k l.1 h g) ]
    asked_found (Leave c a ∷ R) v k l h = elim (h.asked) [ inl e ↦ cc | inr g ↦ asked_found R v k l.1 (asked_before (Leave c a) R v k l.1 h g) ]
    asked_found (Start w q c ∷ R) v k l h = elim (h.asked) [ inl e ↦ cc | inr g ↦ asked_found R v k l.1 (asked_before (Start w q c) R v k l.1 h g) ]
    asked_found (Keep w q b ∷ R) v k l h = elim (h.asked) [ inl e ↦ cc | inr g ↦ asked_found R v k l.1 (asked_before (Keep w q b) R v k l.1 h g) ]
    asked_found (End w q ∷ R) v k l h = elim (h.asked) [ inl e ↦ cc | inr g ↦ asked_found R v k l.1 (asked_before (End w q) R v k l.1 h g) ]
    asked_found (Cyclic w q ∷ R) v k l h = elim (h.asked) [ inl e ↦ cc | inr g ↦ asked_found R v k l.1 (asked_before (Cyclic w q) R v k l.1 h g) ]
    asked_found (Drop w q ∷ R) v k l h = elim (h.asked) [ inl e ↦ cc | inr g ↦ asked_found R v k l.1 (asked_before (Drop w q) R v k l.1 h g) ]
    asked_found (Lost w q ∷ R) v k l h = elim (h.asked) [ inl e ↦ cc | inr g ↦ asked_found R v k l.1 (asked_before (Lost w q) R v k l.1 h g) ]

  -- a run that no later event ends
  goes_on : (x : Told K V) (R : List (Told K V)) (v : ℕ) (k : K) → (x ≡ End v k → ⊥) → (x ≡ Cyclic v k → ⊥) → (x ≡ Drop v k → ⊥) → (x ≡ Lost v k → ⊥) → RunsByWords R v k → RunsByWords (x ∷ R) v k
  goes_on x R v k e c d l w = record {
    cause = w.cause;
    later = x ∷ w.later;
    before = w.before;
    all = ap (λ y. x ∷ y) w.all;
    not_ended = λ h. elim h [ inl i ↦ e i | inr g ↦ w.not_ended g ];
    not_cyclic = λ h. elim h [ inl i ↦ c i | inr g ↦ w.not_cyclic g ];
    not_dropped = λ h. elim h [ inl i ↦ d i | inr g ↦ w.not_dropped g ];
    not_lost = λ h. elim h [ inl i ↦ l i | inr g ↦ w.not_lost g ];
  }

  pub runs_says : (R : List (Told K V)) (v : ℕ) (k : K) → is_running eq R v k ≡ true → RunsByWords R v k
  runs_says [] v k e = cc
  runs_says (Start w q c ∷ R) v k e = elim (or_cases (names_by eq w q v k) (is_running eq R v k) e) [
    | inl h ↦ record { cause = c; later = []; before = R; all = ap (λ x. x ∷ R) (alike eq equality (λ x y. Start x y c) w v q k h); not_ended = λ i. elim i [ ]; not_cyclic = λ i. elim i [ ]; not_dropped = λ i. elim i [ ]; not_lost = λ i. elim i [ ] }
    | inr h ↦ goes_on (Start w q c) R v k (λ i. cc) (λ i. cc) (λ i. cc) (λ i. cc) (runs_says R v k h)
  ]
  runs_says (End w q ∷ R) v k e = let p = and_parts (not (names_by eq w q v k)) (is_running eq R v k) e in goes_on (End w q) R v k (λ i. unlike eq equality w v q k (not-true (names_by eq w q v k) p.0) (cc, cc)) (λ i. cc) (λ i. cc) (λ i. cc) (runs_says R v k p.1)
  runs_says (Cyclic w q ∷ R) v k e = let p = and_parts (not (names_by eq w q v k)) (is_running eq R v k) e in goes_on (Cyclic w q) R v k (λ i. cc) (λ i. unlike eq equality w v q k (not-true (names_by eq w q v k) p.0) (cc, cc)) (λ i. cc) (λ i. cc) (runs_says R v k p.1)
  runs_says (Drop w q ∷ R) v k e = let p = and_parts (not (names_by eq w q v k)) (is_running eq R v k) e in goes_on (Drop w q) R v k (λ i. cc) (λ i. cc) (λ i. unlike eq equality w v q k (not-true (names_by eq w q v k) p.0) (cc, cc)) (λ i. cc) (runs_says R v k p.1)
  runs_says (Lost w q ∷ R) v k e = let p = and_parts (not (names_by eq w q v k)) (is_running eq R v k) e in goes_on (Lost w q) R v k (λ i. cc) (λ i. cc) (λ i. cc) (λ i. unlike eq equality w v q k (not-true (names_by eq w q v k) p.0) (cc, cc)) (runs_says R v k p.1)
  runs_says (Commit c d ∷ R) v k h = goes_on (Commit c d) R v k (λ i. cc) (λ i. cc) (λ i. cc) (λ i. cc) (runs_says R v k h)
  runs_says (Open c w ∷ R) v k h = goes_on (Open c w) R v k (λ i. cc) (λ i. cc) (λ i. cc) (λ i. cc) (runs_says R v k h)
  runs_says (Close c s ∷ R) v k h = goes_on (Close c s) R v k (λ i. cc) (λ i. cc) (λ i. cc) (λ i. cc) (runs_says R v k h)
  runs_says (Ask c s q ∷ R) v k h = goes_on (Ask c s q) R v k (λ i. cc) (λ i. cc) (λ i. cc) (λ i. cc) (runs_says R v k h)
  runs_says (Leave c a ∷ R) v k h = goes_on (Leave c a) R v k (λ i. cc) (λ i. cc) (λ i. cc) (λ i. cc) (runs_says R v k h)
  runs_says (Keep w q b ∷ R) v k h = goes_on (Keep w q b) R v k (λ i. cc) (λ i. cc) (λ i. cc) (λ i. cc) (runs_says R v k h)

  runs_found : (later before : List (Told K V)) (v : ℕ) (k : K) (c : Reason K) → (Has later (End v k) → ⊥) → (Has later (Cyclic v k) → ⊥) → (Has later (Drop v k) → ⊥) → (Has later (Lost v k) → ⊥) → is_running eq (later ++ Start v k c ∷ before) v k ≡ true
  runs_found [] before v k c e y d l = or_left (names_by eq v k v k) (is_running eq before v k) (itself eq equality v k)
  runs_found (Start w q b ∷ later) before v k c e y d l = or_right (names_by eq w q v k) (is_running eq (later ++ Start v k c ∷ before) v k) (runs_found later before v k c (λ h. e (inr h)) (λ h. y (inr h)) (λ h. d (inr h)) (λ h. l (inr h)))
  runs_found (End w q ∷ later) before v k c e y d l = and_from (not (names_by eq w q v k)) (is_running eq (later ++ Start v k c ∷ before) v k) (ap not (not_named eq equality End w v q k (λ i. e (inl i)))) (runs_found later before v k c (λ h. e (inr h)) (λ h. y (inr h)) (λ h. d (inr h)) (λ h. l (inr h)))
  runs_found (Cyclic w q ∷ later) before v k c e y d l = and_from (not (names_by eq w q v k)) (is_running eq (later ++ Start v k c ∷ before) v k) (ap not (not_named eq equality Cyclic w v q k (λ i. y (inl i)))) (runs_found later before v k c (λ h. e (inr h)) (λ h. y (inr h)) (λ h. d (inr h)) (λ h. l (inr h)))
  runs_found (Drop w q ∷ later) before v k c e y d l = and_from (not (names_by eq w q v k)) (is_running eq (later ++ Start v k c ∷ before) v k) (ap not (not_named eq equality Drop w v q k (λ i. d (inl i)))) (runs_found later before v k c (λ h. e (inr h)) (λ h. y (inr h)) (λ h. d (inr h)) (λ h. l (inr h)))
  runs_found (Lost w q ∷ later) before v k c e y d l = and_from (not (names_by eq w q v k)) (is_running eq (later ++ Start v k c ∷ before) v k) (ap not (not_named eq equality Lost w v q k (λ i. l (inl i)))) (runs_found later before v k c (λ h. e (inr h)) (λ h. y (inr h)) (λ h. d (inr h)) (λ h. l (inr h)))
  runs_found (Commit o p ∷ later) before v k c e y d l = runs_found later before v k c (λ h. e (inr h)) (λ h. y (inr h)) (λ h. d (inr h)) (λ h. l (inr h))
  runs_found (Open o w ∷ later) before v k c e y d l = runs_found later before v k c (λ h. e (inr h)) (λ h. y (inr h)) (λ h. d (inr h)) (λ h. l (inr h))
  runs_found (Close o s ∷ later) before v k c e y d l = runs_found later before v k c (λ h. e (inr h)) (λ h. y (inr h)) (λ h. d (inr h)) (λ h. l (inr h))
  runs_found (Ask o s q ∷ later) before v k c e y d l = runs_found later before v k c (λ h. e (inr h)) (λ h. y (inr h)) (λ h. d (inr h)) (λ h. l (inr h))
  runs_found (Leave o a ∷ later) before v k c e y d l = runs_found later before v k c (λ h. e (inr h)) (λ h. y (inr h)) (λ h. d (inr h)) (λ h. l (inr h))
  runs_found (Keep w q b ∷ later) before v k c e y d l = runs_found later before v k c (λ h. e (inr h)) (λ h. y (inr h)) (λ h. d (inr h)) (λ h. l (inr h))

  pub runs_by_words : (R : List (Told K V)) (v : ℕ) (k : K) → RunsByWords R v k → is_running eq R v k ≡ true
  runs_by_words R v k w = subst (λ S. is_running eq S v k ≡ true) (sym w.all) (runs_found w.later w.before v k w.cause w.not_ended w.not_cyclic w.not_dropped w.not_lost)

module _ {K V : Type 0} (eq : K → K → Bool) (m : Meaning K V) where
  -- the key of an allowed event of a task is not injected
  not_of_injected : (R : List (Told K V)) (e : Told K V) (k : K) → IsAllowed eq m R e → IsOfTask k e → m.kind k ≢ Injected
  not_of_injected R (Start w q c) k a i = subst (λ x. m.kind x ≢ Injected) i a.3
  not_of_injected R (Keep w q b) k a i = subst (λ x. m.kind x ≢ Injected) i a.3
  not_of_injected R (End w q) k a i = subst (λ x. m.kind x ≢ Injected) i a.4
  not_of_injected R (Cyclic w q) k a i = subst (λ x. m.kind x ≢ Injected) i a.3
  not_of_injected R (Lost w q) k a i = subst (λ x. m.kind x ≢ Injected) i a.2
  not_of_injected R (Drop w q) k a i = subst (λ x. m.kind x ≢ Injected) i a.1
  not_of_injected R (Commit by c) k a i = absurd i
  not_of_injected R (Open by w) k a i = absurd i
  not_of_injected R (Close by t) k a i = absurd i
  not_of_injected R (Ask by t q) k a i = absurd i
  not_of_injected R (Leave by j) k a i = absurd i

  pub none_of_injected : (R : List (Told K V)) (e : Told K V) (k : K) → IsLawfulBack eq m R → Has R e → IsOfTask k e → m.kind k ≢ Injected
  none_of_injected [] e k l h i = elim h [ ]
  none_of_injected (x ∷ R) e k l (inl f) i = not_of_injected R e k (subst (IsAllowed eq m R) f l.0) i
  none_of_injected (x ∷ R) e k l (inr h) i = none_of_injected R e k l.1 h i
