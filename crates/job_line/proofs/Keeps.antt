-- Each step keeps the rule of the line.
use Rattle.std.proofs.Common.{◌≡◌, ◌≢◌, inl, inr, ℕ, zero, suc, ◌<◌, Bool, true, false, if◌then◌else◌, nat_le, List, [], ◌∷◌, ◌++◌, length, set, drop, Some, refl, sym, ap, ◌∙◌, subst, ⊎_elim, arith, eq-eqb, ne_eqb, le-leb, true≢false, append_assoc, append-nil, length-append, zero-le, ◌==◌}
use Rattle.std.proofs.lemmas.List.{drop-append-le}
use Rattle.std.specs.Prelude.{slice_get}
use mathlib.Core.List.{IsPrefix}
use mathlib.Core.Option.{some, some-ne-none, some-injective}
use lib.ListN.{get_elem?}
use Rattle.crossbeam_queue.specs.Fifo.{Pushes, Pops, Forks, Merges, Learns}
use Rattle.crossbeam_queue.proofs.Lists.{at_set, at_snoc, set_again}
use Rattle.lists.specs.Lists.{AreDistinct}
use Rattle.lists.proofs.Members.{has_either}
use Rattle.lists.proofs.Distinct.{distinct_both}
use Rattle.job_line.specs.declared.view.View.{View}
use Rattle.job_line.specs.Ends.{longer}
use Rattle.job_line.specs.Rule.{Owns, viewed, first_view, no_view, Fits, Lined, pushed, popped, looked, child_view, joined_view, met_view, met_all}

-- the takers once the place t is given to id
abbrev given : (ℕ → ℕ) → ℕ → ℕ → ℕ → ℕ
given taker t id p = if p == t then id else taker p

given_here : (taker : ℕ → ℕ) (t id : ℕ) → given taker t id t ≡ id
given_here taker t id = ap (λ (b : Bool). if b then id else taker t) (eq-eqb t t refl)

given_else : (taker : ℕ → ℕ) (t id p : ℕ) → p ≢ t → given taker t id p ≡ taker p
given_else taker t id p e = ap (λ (b : Bool). if b then id else taker p) (ne_eqb p t e)

-- the places that were taken stay with their passes, when the next one is taken
owns_still : (taker : ℕ → ℕ) (taken who id : ℕ) (ps : List ℕ) → Owns taker taken id ps → Owns (given taker taken who) (suc taken) id ps
owns_still taker taken who id ps o p h = let l = (o p h).1 in (given_else taker taken who p (λ e. omega arith) ∙ (o p h).0, omega arith)

owns_next : (taker : ℕ → ℕ) (taken id : ℕ) (ps : List ℕ) → Owns taker taken id ps → Owns (given taker taken id) (suc taken) id (taken ∷ ps)
owns_next taker taken id ps o p (inl e) = (subst (λ (q : ℕ). given taker taken id q ≡ id) e (given_here taker taken id), omega arith)
owns_next taker taken id ps o p (inr h) = owns_still taker taken id id ps o p h

-- the takers once id took in the pass `other`
abbrev moved : (ℕ → ℕ) → ℕ → ℕ → ℕ → ℕ
moved taker other id p = if taker p == other then id else taker p

moved_hit : (taker : ℕ → ℕ) (other id p : ℕ) → taker p ≡ other → moved taker other id p ≡ id
moved_hit taker other id p e = ap (λ (b : Bool). if b then id else taker p) (eq-eqb (taker p) other e)

moved_miss : (taker : ℕ → ℕ) (other id p : ℕ) → taker p ≢ other → moved taker other id p ≡ taker p
moved_miss taker other id p e = ap (λ (b : Bool). if b then id else taker p) (ne_eqb (taker p) other e)

owns_apart : (taker : ℕ → ℕ) (taken other id j : ℕ) (ps : List ℕ) → j ≢ other → Owns taker taken j ps → Owns (moved taker other id) taken j ps
owns_apart taker taken other id j ps apart o p h = (moved_miss taker other id p (λ e. apart (sym (o p h).0 ∙ e)) ∙ (o p h).0, (o p h).1)

owns_both : (taker : ℕ → ℕ) (taken other id : ℕ) (ps qs : List ℕ) → id ≢ other → Owns taker taken id ps → Owns taker taken other qs → Owns (moved taker other id) taken id (ps ++ qs)
owns_both taker taken other id ps qs apart o q p h =
    elim (has_either ps qs p h) as (λ _. (moved taker other id p ≡ id) × (p < taken)) [
      | inl a ↦ owns_apart taker taken other id id ps apart o p a
      | inr b ↦ (moved_hit taker other id p (q p b).0, (q p b).1)
    ]

module _ {J : Type 0} where
  seats_set : (K : ℕ → View J → Type 0) (vs : List (View J)) (me : ℕ) (w : View J) → K me w → ((j : ℕ) (u : View J) → j ≢ me → get_elem? vs j ≡ some u → K j u)
      → (j : ℕ) (u : View J) → get_elem? (set vs me w) j ≡ some u → K j u
  seats_set K vs me w mine others j u e =
      ⊎_elim (λ (t : (j ≡ me) × (w ≡ u)). subst (λ (x : ℕ × View J). K x.0 x.1) (λ i. (sym t.0 i, t.1 i)) mine)
      (λ (t : (j ≢ me) × (get_elem? vs j ≡ some u)). others j u t.0 t.1) (at_set vs me j w u e)

  next_of : (n : ℕ) (xs ys : List J) (x : J) → drop n xs ≡ x ∷ ys → (n < length xs) × (slice_get xs n ≡ Some x) × (drop (suc n) xs ≡ ys)
  next_of zero [] ys x e = absurd (cc)
  next_of (suc n) [] ys x e = absurd (cc)
  next_of zero (z ∷ xs) ys x e = (omega arith, ap (λ (l : List J). slice_get l 0) e, ap (λ (l : List J). drop 1 l) e)
  next_of (suc n) (z ∷ xs) ys x e = let t = next_of n xs ys x e in let l = t.0 in (omega arith, t.1, t.2)

  whole : (xs : List J) → IsPrefix xs xs
  whole xs = ([], append-nil xs)

  further : (seen xs ys : List J) → IsPrefix seen xs → IsPrefix seen (xs ++ ys)
  further seen xs ys s = (s.0 ++ ys, sym (append_assoc seen s.0 ys) ∙ ap (λ (l : List J). l ++ ys) s.1)

  pub begins : Lined {J = J} [] (first_view ∷ [])
  begins = record { putter = 0; puts = []; taken = 0; taker = λ _. 0; within = zero-le; left = refl; each = one }
    where
      one : (id : ℕ) (v : View J) → get_elem? (first_view ∷ []) id ≡ some v → Fits 0 [] 0 (λ _. 0) id v
      one zero v e = subst (Fits 0 [] 0 (λ _. 0) 0) (some-injective _ _ e) (record { whole = λ _. (refl, refl); begins = ([], refl); own = λ p h. absurd h; apart = tt; met = ([], refl) })
      one (suc id) v e = absurd (some-ne-none v (sym e))

  pub pushes : (id : ℕ) (v : View J) (job : J) → v.putter ≡ true → (n : ℕ) → Pushes Lined n id v job (pushed v job)
  pushes id v job may n items views room h at =
      let w : View J = viewed v.putter (v.seen ++ job ∷ []) v.places in
      let mine = h.each id v at in
      let all : v.seen ≡ h.puts = (mine.whole may).1 in
      let within = h.within in (
        w,
        record {
          putter = h.putter;
          puts = h.puts ++ job ∷ [];
          taken = h.taken;
          taker = h.taker;
          within = omega (arith, length-append h.puts (job ∷ []));
          left = drop-append-le h.taken h.puts (job ∷ []) within ∙ ap (λ (l : List J). l ++ job ∷ []) h.left;
          each = seats_set (Fits h.putter (h.puts ++ job ∷ []) h.taken h.taker) views id w
              (record { whole = λ _. ((mine.whole may).0, ap (λ (l : List J). l ++ job ∷ []) all); begins = subst (λ (l : List J). IsPrefix (v.seen ++ job ∷ []) (l ++ job ∷ [])) all (whole (v.seen ++ job ∷ [])); own = mine.own; apart = mine.apart; met = (h.puts ++ job ∷ [], refl) })
              (λ j u other e. let f = h.each j u e in record {
                whole = λ p. absurd (other ((f.whole p).0 ∙ sym (mine.whole may).0));
                begins = further u.seen h.puts (job ∷ []) f.begins;
                own = f.own;
                apart = f.apart;
                met = further u.met h.puts (job ∷ []) f.met;
              });
        },
        (refl, refl, refl),
      )

  pub pops : (id : ℕ) (v : View J) → Pops Lined id v (popped v)
  pops id v job items views h at =
      let mine = h.each id v at in
      let next = next_of h.taken h.puts items job h.left in
      let in_list = next.0 in
      let w : View J = viewed v.putter h.puts (h.taken ∷ v.places) in
      let apart : AreDistinct w.places = ((λ p. let l = (mine.own h.taken p).1 in absurd (omega arith)), mine.apart) in (
        w,
        record {
          putter = h.putter;
          puts = h.puts;
          taken = suc h.taken;
          taker = given h.taker h.taken id;
          within = omega arith;
          left = next.2;
          each = seats_set (Fits h.putter h.puts (suc h.taken) (given h.taker h.taken id)) views id w
              (record { whole = λ p. ((mine.whole p).0, refl); begins = whole h.puts; own = owns_next h.taker h.taken id v.places mine.own; apart = apart; met = (h.puts, refl) })
              (λ j u other e. let f = h.each j u e in record { whole = f.whole; begins = f.begins; own = owns_still h.taker h.taken id j u.places f.own; apart = f.apart; met = f.met });
        },
        (refl, record { place = h.taken; job_there = next.1; begins = mine.begins; first = λ p q. (mine.own p q).1; gained = refl; apart = apart }),
      )

  pub looks : (id : ℕ) (v : View J) → Learns Lined id v (looked v)
  looks id v items views h at = let mine = h.each id v at in
      record { puts = h.puts; taken = h.taken; within = h.within; left = h.left; begins = mine.begins; below = λ p q. (mine.own p q).1; apart = mine.apart }

  pub forks : (id : ℕ) (v : View J) → Forks Lined id v v (child_view v)
  forks id v items views h at =
      let mine = h.each id v at in
      let child : (j : ℕ) → Fits h.putter h.puts h.taken h.taker j (child_view v) =
      λ j. record { whole = λ p. absurd (true≢false (sym p)); begins = mine.begins; own = λ p q. absurd q; apart = tt; met = (h.puts, refl) } in
      record {
        putter = h.putter;
        puts = h.puts;
        taken = h.taken;
        taker = h.taker;
        within = h.within;
        left = h.left;
        each = λ j u e. ⊎_elim (λ was. h.each j u (subst (λ (l : List (View J)). get_elem? l j ≡ some u) (set_again views id v at) was))
            (λ (is : child_view v ≡ u). subst (Fits h.putter h.puts h.taken h.taker j) is (child j)) (at_snoc (set views id v) (child_view v) u j e);
      }

  longer_one : (P : List J → Type 0) (xs ys : List J) → P xs → P ys → P (longer xs ys)
  longer_one P xs ys p q = go (nat_le (length ys) (length xs))
    where
      go : (b : Bool) → P (if b then xs else ys)
      go true = p
      go false = q

  -- the whole list is the longer one
  whole_stays : (xs ys all : List J) → xs ≡ all → IsPrefix ys all → longer xs ys ≡ all
  whole_stays xs ys all is s =
      let same : length xs ≡ length all = ap length is in
      let sum : length (ys ++ s.0) ≡ length all = ap length s.1 in
      ap (λ (b : Bool). if b then xs else ys) (le-leb (length ys) (length xs) (omega (arith, length-append ys s.0))) ∙ is

  pub merges : (id : ℕ) (v : View J) (other : ℕ) (u : View J) → u.putter ≡ false → Merges Lined id v other u (joined_view v u) no_view
  merges id v other u takes items views h at apart there =
      let w : View J = joined_view v u in
      let mine = h.each id v at in
      let was : get_elem? views other ≡ some u =
      ⊎_elim (λ (t : (other ≡ id) × (w ≡ u)). absurd (apart t.0)) (λ (t : (other ≢ id) × (get_elem? views other ≡ some u)). t.1) (at_set views id other w u there) in
      let theirs = h.each other u was in
      let two : id ≢ other = λ e. apart (sym e) in
      let K : ℕ → View J → Type 0 = Fits h.putter h.puts h.taken (moved h.taker other id) in
      let both : K id w = record {
        whole = λ p. ((mine.whole p).0, whole_stays v.seen u.seen h.puts (mine.whole p).1 theirs.begins);
        begins = longer_one (λ l. IsPrefix l h.puts) v.seen u.seen mine.begins theirs.begins;
        own = owns_both h.taker h.taken other id v.places u.places two mine.own theirs.own;
        apart = distinct_both v.places u.places mine.apart theirs.apart (λ p a b. two (sym (mine.own p a).0 ∙ (theirs.own p b).0));
        met = (h.puts, refl);
      } in
      record {
        putter = h.putter;
        puts = h.puts;
        taken = h.taken;
        taker = moved h.taker other id;
        within = h.within;
        left = h.left;
        each = seats_set K (set views id w) other no_view
            (record { whole = λ p. absurd (true≢false (sym p)); begins = (h.puts, refl); own = λ p q. absurd q; apart = tt; met = (h.puts, refl) })
            (λ j y a e. seats_set (λ i z. i ≢ other → K i z) views id w (λ _. both)
            (λ i z b e' c. let f = h.each i z e' in record { whole = f.whole; begins = f.begins; own = owns_apart h.taker h.taken other id i z.places c f.own; apart = f.apart; met = f.met }) j y e a);
      }

  -- an end meets a pass
  pub meets : (id : ℕ) (v : View J) (other : ℕ) (u : View J) → Merges Lined id v other u (met_view v u) no_view
  meets id v other u items views h at apart there =
      let w : View J = met_view v u in
      let mine = h.each id v at in
      let was : get_elem? views other ≡ some u =
      ⊎_elim (λ (t : (other ≡ id) × (w ≡ u)). absurd (apart t.0)) (λ (t : (other ≢ id) × (get_elem? views other ≡ some u)). t.1) (at_set views id other w u there) in
      let theirs = h.each other u was in
      let K : ℕ → View J → Type 0 = Fits h.putter h.puts h.taken h.taker in
      let both : K id w = record { whole = mine.whole; begins = mine.begins; own = mine.own; apart = mine.apart; met = theirs.begins } in
      record {
        putter = h.putter;
        puts = h.puts;
        taken = h.taken;
        taker = h.taker;
        within = h.within;
        left = h.left;
        each = seats_set K (set views id w) other no_view
            (record { whole = λ p. absurd (true≢false (sym p)); begins = (h.puts, refl); own = λ p q. absurd q; apart = tt; met = (h.puts, refl) })
            (λ j y a e. seats_set K views id w both (λ i z b e'. h.each i z e') j y e);
      }

  pub knows_met : (id : ℕ) (v : View J) → Learns Lined id v (met_all v)
  knows_met id v items views h at = let mine = h.each id v at in
      λ p. subst (IsPrefix v.met) (sym (mine.whole p).1) mine.met
