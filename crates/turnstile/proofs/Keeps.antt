-- Each step keeps the rule.
use Rattle.std.proofs.Common.{◌≡◌, ◌≢◌, ℕ, zero, suc, ◌+◌, ◌-◌, ◌%◌, ◌^◌, ◌<◌, ◌≤◌, max, Bool, true, false, cond, eqb, leb, List, [], ◌∷◌, ◌++◌, length, get_or, set, Option, Some, None, refl, sym, ap, ◌∙◌, subst, subst₂, inl, inr, ⊎_elim, arith, eq-eqb, ne_eqb, true≢false, append-nil, le_refl, le_trans, le_of_lt, lt_of_not-le, le-leb, zero-le}
use Rattle.std.proofs.Math.Nat.{mod-add-mod}
use mathlib.Core.Logic.{dite}
use mathlib.Core.Option as core
use native.Mathlib.Decide.{ℕ_discrete, dec_le}
use lib.ListN.{get_elem?}
use Rattle.atomic_table.specs.Table.{State, step, keeps, takes, gives, put_back, rest, Allows, Splits, Joins, opening}
use Rattle.atomic_table.proofs.Lists.{at_set, at_longer, set_here, set_else, set_again, one_turn}
use Rattle.turnstile.specs.declared.view.View.{View}
use Rattle.turnstile.specs.declared.view.Note.{Note}
use Rattle.turnstile.specs.declared.view.Stage.{Stage}
use Rattle.turnstile.specs.declared.view.Stage.TheVariants.{Away, Waits, Serves, Raises, Empties, Spent}
use Rattle.turnstile.specs.Events.{StartsWith, events_by, AllBelow, AllOwn, Grows, longer}
use Rattle.turnstile.specs.Seats.{NotedIn}
use Rattle.turnstile.specs.Rule.{HasTicket, World, Knows, Stands, IsNoted, Sits, Fits, slot_of, Turns, parent_view, child_view, joined_view, view_note, spent_view, first_view}
use Rattle.turnstile.specs.Steps.{Seated, waiting, serving, back, Agrees, drawn, LookedFor, looked, left, raised, checked, emptied, in_hand}
use Rattle.turnstile.proofs.Holes.{few}
use Rattle.turnstile.proofs.Events.{events_by-append, none_of, below-append, whole, still_begins as grown, each_map, each_both, between, nested, none_before, once_joined}
use Rattle.turnstile.proofs.Seats.{inside, one_view, seats_set, snoc_here}

-- what `owner` is once the ticket t is given to id
abbrev given : (ℕ → ℕ) → ℕ → ℕ → ℕ → ℕ
given owner t id x = cond (eqb x t) id (owner x)

given_here : (owner : ℕ → ℕ) (t id x : ℕ) → x ≡ t → given owner t id x ≡ id
given_here owner t id x e = ap (λ (b : Bool). cond b id (owner x)) (eq-eqb x t e)

given_else : (owner : ℕ → ℕ) (t id x : ℕ) → x ≢ t → given owner t id x ≡ owner x
given_else owner t id x e = ap (λ (b : Bool). cond b id (owner x)) (ne_eqb x t e)

abbrev is_spent : Stage → Bool
is_spent Spent = true
is_spent _ = false

living : (st : Stage) → is_spent st ≡ false → st ≡ Spent → ⊥
living st alive e = true≢false (sym (ap is_spent e) ∙ alive)

ticket_lives : (st : Stage) (t : ℕ) → HasTicket st t → st ≡ Spent → ⊥
ticket_lives st t has e = subst (λ (x : Stage). HasTicket x t) e has

one_ticket : (st : Stage) (t x : ℕ) → HasTicket st t → HasTicket st x → t ≡ x
one_ticket Away t x a b = absurd a
one_ticket (Waits y) t x a b = sym a ∙ b
one_ticket (Serves y) t x a b = sym a ∙ b
one_ticket Raises t x a b = absurd a
one_ticket (Empties y) t x a b = sym a ∙ b
one_ticket Spent t x a b = absurd a

not_true : (b : Bool) → (b ≡ true → ⊥) → b ≡ false
not_true true n = absurd (n refl)
not_true false n = refl

abbrev waited : Stage → ℕ
waited (Waits t) = t
waited (Serves t) = t
waited _ = 0

module _ {S E : Type 0} (list : S → List E) (by : E → Option ℕ) (version : List E → ℕ) (mark : S → ℕ × ℕ) (writers : ℕ) (m : ℕ × ℕ) where
  abbrev V : Type 0
  V = View E

  abbrev St : Type 0
  St = State (Option S) V

  abbrev Rule : St → Type 0
  Rule = Turns list by version mark writers m

  abbrev SitsIn : World E → ℕ → V → Type 0
  SitsIn = Sits by version writers m

  abbrev FitsIn : World E → ℕ → V → Type 0
  FitsIn = Fits by version writers m

  abbrev KnowsIn : World E → ℕ → List E → Stage → Type 0
  KnowsIn = Knows by version writers m

  abbrev StandsIn : World E → ℕ → ℕ → ℕ → List E → Type 0
  StandsIn = Stands by version writers m

  alive : (w : World E) (id : ℕ) (v : V) → (v.stage ≡ Spent → ⊥) → FitsIn w id v → SitsIn w id v
  alive w id v not f = ⊎_elim (λ e. absurd (not e)) (λ t. t) f

  -- a seat whose view stays sits in another world
  sits_on : (w w' : World E) (id : ℕ) (v : V) → (KnowsIn w id v.seen v.stage → KnowsIn w' id v.seen v.stage) → ((xs : List E) → StartsWith w.tale xs → StartsWith w'.tale xs)
      → ((kind n : ℕ) (es : List E) → StandsIn w id kind n es → StandsIn w' id kind n es) → w.shown ≤ w'.shown → FitsIn w id v → FitsIn w' id v
  sits_on w w' id v knows prefix stands shown f = ⊎_elim (λ e. inl e)
      (λ (t : SitsIn w id v). inr record {
        knows = knows t.knows;
        prefix = prefix v.seen t.prefix;
        own = stands 0 v.number v.mine t.own;
        mine = t.mine;
        spare = λ n a b. stands 1 n [] (t.spare n a b);
        noted = each_map by (IsNoted by version writers m w id) (IsNoted by version writers m w' id) (λ x q. (stands 2 x.number x.mine q.0, prefix x.seen q.1, prefix x.theirs q.2)) v.ended t.noted;
        once = t.once;
        floor = le_trans t.floor shown;
        same_writers = t.same_writers;
        same_mark = t.same_mark;
      }) f

  -- a ticket is in the hands of one seat, and there are no more seats than 2^32
  few_tickets : (s : St) (r : Rule s) → r.w.next ≤ r.w.serving + 2 ^ 32
  few_tickets s r =
      let w = r.w in
      let n : ℕ = w.next - w.serving in
      let order = r.order in
      let held : (k : ℕ) → k < n → (v : V) × (get_elem? s.views (w.owner (w.serving + k)) ≡ core.some v) × HasTicket v.stage (w.serving + k) =
      λ k l. r.tickets (w.serving + k) (omega arith) (omega arith) in
      let sits : (k : ℕ) (l : k < n) → SitsIn w (w.owner (w.serving + k)) (held k l).0 =
      λ k l. alive w (w.owner (w.serving + k)) (held k l).0 (ticket_lives (held k l).0.stage (w.serving + k) (held k l).2) (r.seats (w.owner (w.serving + k)) (held k l).0 (held k l).1) in
      let f : ℕ → ℕ = λ k. number_at (get_elem? s.views (w.owner (w.serving + k))) in
      let is : (k : ℕ) (l : k < n) → f k ≡ (held k l).0.number = λ k l. ap number_at (held k l).1 in
      let l = few n (2 ^ 32) f
      (λ k l. subst (λ (z : ℕ). z < 2 ^ 32) (sym (is k l)) (sits k l).own.2)
      (λ j k lj lk e.
      let same_seat : w.owner (w.serving + j) ≡ w.owner (w.serving + k) = sym (sits j lj).own.0 ∙ (ap w.keeper (sym (is j lj) ∙ (e ∙ is k lk)) ∙ (sits k lk).own.0) in
      let same = one_view s.views (w.owner (w.serving + j)) (w.owner (w.serving + k)) (held j lj).0 (held k lk).0 same_seat (held j lj).1 (held k lk).1 in
      let x : w.serving + j ≡ w.serving + k = one_ticket (held j lj).0.stage (w.serving + j) (w.serving + k) (held j lj).2 (subst (λ (u : V). HasTicket u.stage (w.serving + k)) (sym same) (held k lk).2) in
      omega arith) in
      omega arith
    where
      number_at : core.Option V → ℕ
      number_at (core.some v) = v.number
      number_at core.none = 0

  -- who holds the tickets, among these views
  abbrev Held : World E → List V → Type 0
  Held w vs = (x : ℕ) → w.serving ≤ x → x < w.next → (y : V) × (get_elem? vs (w.owner x) ≡ core.some y) × HasTicket y.stage x

  -- the tickets once the seat id changes its view to one that has the same ticket
  keeps_ticket : (w : World E) (vs : List V) (id : ℕ) (v u : V) → Held w vs → get_elem? vs id ≡ core.some v → ((x : ℕ) → HasTicket v.stage x → HasTicket u.stage x) → Held w (set vs id u)
  keeps_ticket w vs id v u held at has x low high =
      let q = held x low high in
      dite (ℕ_discrete (w.owner x) id)
      (λ e. let same = one_view vs (w.owner x) id q.0 v e q.1 at in
      (u, ap (get_elem? (set vs id u)) e ∙ set_here vs id u (inside vs id v at), has x (subst (λ (y : V). HasTicket y.stage x) same q.2)))
      (λ other. (q.0, set_else vs id (w.owner x) u other ∙ q.1, q.2))

  -- a seat that is away takes a ticket
  pub draws : (slots id : ℕ) (me : Seated S E) → me.0.stage ≡ Away → Allows Rule slots id me 0 (λ n. (n + 1) % 2 ^ 64) (drawn (step slots 0 1 0 core.none) me)
  draws slots id me away s r wide at small =
      let v : V = me.0 in
      let w = r.w in
      let t : ℕ = w.next in
      let u : V = waiting v t in
      let order = r.order in
      let mine = alive w id v (living v.stage (ap is_spent away)) (r.seats id v at) in
      let known = subst (λ (st : Stage). KnowsIn w id v.seen st) away mine.knows in
      let w' : World E = record w { next = t + 1; owner = given w.owner t id } in (
        u,
        keeps,
        tt,
        record {
          w = w';
          state = r.state;
          words = ap (λ (ws : List ℕ). set ws 0 ((get_or ws 0 0 + 1) % 2 ^ 64)) r.words ∙ ap (λ (n : ℕ). n ∷ w.serving % 2 ^ 64 ∷ w.shown ∷ []) (mod-add-mod t (2 ^ 64) 1);
          homes = r.homes;
          at_home = r.at_home;
          marked = r.marked;
          order = omega arith;
          busy = λ o. let b = r.busy o in omega arith;
          tickets = λ x low high. dite (ℕ_discrete x t)
              (λ e. (u, ap (get_elem? (set s.views id u)) (given_here w.owner t id x e) ∙ set_here s.views id u (inside s.views id v at), sym e))
              (λ not. let h = keeps_ticket w s.views id v u r.tickets at (λ y has. absurd (subst (λ (st : Stage). HasTicket st y) away has)) x low (omega arith) in
              (h.0, ap (get_elem? (set s.views id u)) (given_else w.owner t id x not) ∙ h.1, h.2));
          seats = seats_set (FitsIn w') s.views id u
              (inr record {
                knows = (order, omega arith, given_here w.owner t id t refl, (λ o. r.busy o), known);
                prefix = mine.prefix;
                own = mine.own;
                mine = mine.mine;
                spare = mine.spare;
                noted = mine.noted;
                once = mine.once;
                floor = mine.floor;
                same_writers = mine.same_writers;
                same_mark = mine.same_mark;
              })
              (λ j y other e. sits_on w w' j y (knows_more w t id j y.seen refl y.stage) (λ xs p. p) (λ k n es p. p) (le_refl w.shown) (r.seats j y e));
          below = r.below;
          current = r.current;
        },
        (t, ap (λ (ws : List ℕ). get_or ws 0 0) r.words, refl),
      )
    where
      knows_more : (w : World E) (t id j : ℕ) (seen : List E) → w.next ≡ t → (st : Stage) → KnowsIn w j seen st → KnowsIn (record w { next = t + 1; owner = given w.owner t id }) j seen st
      knows_more w t id j seen is Away k = k
      knows_more w t id j seen is (Waits x) k = let l = k.1 in (k.0, omega arith, given_else w.owner t id x (λ e. omega arith) ∙ k.2, k.3, k.4)
      knows_more w t id j seen is (Serves x) k = let l = k.1 in (k.0, omega arith, given_else w.owner t id x (λ e. omega arith) ∙ k.2, k.3, k.4, k.5)
      knows_more w t id j seen is Raises k = tt
      knows_more w t id j seen is (Empties x) k = let l = k.1 in (k.0, omega arith, given_else w.owner t id x (λ e. omega arith) ∙ k.2, k.3, k.4)
      knows_more w t id j seen is Spent k = k

  -- a seat that waits looks which ticket is served, and takes the state if it is its own
  pub looks : (slots id : ℕ) (me : Seated S E) (t : ℕ) → me.0.stage ≡ Waits t → Allows Rule slots id me 1 (λ n. n) (looked list by version mark (step slots 1 0 0 core.none) me)
  looks slots id me t is s r wide at small =
      let v : V = me.0 in
      let w = r.w in
      let mine = alive w id v (living v.stage (ap is_spent is)) (r.seats id v at) in
      let k = subst (λ (st : Stage). KnowsIn w id v.seen st) is mine.knows in
      let word : get_or s.words 1 0 ≡ w.serving % 2 ^ 64 = ap (λ (ws : List ℕ). get_or ws 1 0) r.words in
      let low : w.serving ≤ t = k.0 in
      let high : t < w.next = k.1 in
      let bound = few_tickets s r in
      let words : set s.words 1 (get_or s.words 1 0) ≡ w.next % 2 ^ 64 ∷ w.serving % 2 ^ 64 ∷ w.shown ∷ [] = ap (λ (ws : List ℕ). set ws 1 (get_or ws 1 0)) r.words in
      dite (ℕ_discrete (w.serving % 2 ^ 64) (t % 2 ^ 64))
      (λ e.
      let same : w.serving ≡ t = one_turn w.serving t (2 ^ 64) low (omega arith) e in
      let off : w.out ≡ false = not_true w.out (λ o. let l = k.3 o in absurd (omega arith)) in
      let home = r.at_home off in
      let u : V = serving v t (list r.state) in
      let w' : World E = record w { out = true; over = false } in
      let own : events_by by v.number (list r.state) ≡ v.mine = subst (λ (l : List E). events_by by v.number l ≡ v.mine) (sym home) mine.own.3 in (
        u,
        takes 0 (Some r.state),
        ap (λ (hs : List (core.Option (Option S))). get_elem? hs 0) (r.homes ∙ ap (λ (b : Bool). slot_of b w.over r.state ∷ []) off),
        record {
          w = w';
          state = r.state;
          words = words;
          homes = ap (λ (hs : List (core.Option (Option S))). set hs 0 core.none) r.homes;
          at_home = λ o. absurd (true≢false o);
          marked = λ o. absurd (true≢false o);
          order = r.order;
          busy = λ _. omega arith;
          tickets = keeps_ticket w s.views id v u r.tickets at (λ x has. subst (λ (st : Stage). HasTicket st x) is has);
          seats = seats_set (FitsIn w') s.views id u
              (inr record {
                knows = (sym same, high, k.2, refl, refl, home);
                prefix = ([], sym home ∙ sym (append-nil (list r.state)));
                own = mine.own;
                mine = own;
                spare = mine.spare;
                noted = mine.noted;
                once = mine.once;
                floor = mine.floor;
                same_writers = mine.same_writers;
                same_mark = mine.same_mark;
              })
              (λ j y other a. sits_on w w' j y (knows_out w t id j y.seen same k.2 off other y.stage) (λ xs p. p) (λ kind n es p. p) (le_refl w.shown) (r.seats j y a));
          below = r.below;
          current = r.current;
        },
        λ t' is'. subst (λ (z : ℕ). LookedFor list by version mark z me (get_or s.words 1 0) (u, (0, Some r.state) ∷ me.1)) (ap waited (sym is ∙ is')) (
          (λ _. (
            r.state,
            refl,
            (
              subst (λ (l : List E). StartsWith l v.seen) (sym home) mine.prefix,
              subst₂ (λ (n : ℕ) (l : List E). AllBelow by n l) (sym mine.same_writers) (sym home) r.below,
              own,
              each_map by (IsNoted by version writers m w id) (NotedIn by (list r.state)) (λ x q. subst (λ (l : List E). NotedIn by l x) (sym home) (q.1, q.2, q.0.3)) v.ended mine.noted,
              le_trans mine.floor (subst (λ (l : List E). w.shown ≤ version l) (sym home) r.current),
            ),
            r.marked off ∙ sym mine.same_mark,
          )),
          λ miss. absurd (miss (word ∙ e)),
        ),
      ))
      (λ miss. (
        v,
        keeps,
        tt,
        subst (λ (vs : List V). Rule record { words = set s.words 1 (get_or s.words 1 0); homes = s.homes; views = vs }) (sym (set_again s.views id v at))
            record {
              w = w;
              state = r.state;
              words = words;
              homes = r.homes;
              at_home = r.at_home;
              marked = r.marked;
              order = r.order;
              busy = r.busy;
              tickets = r.tickets;
              seats = r.seats;
              below = r.below;
              current = r.current;
            },
        λ t' is'. subst (λ (z : ℕ). LookedFor list by version mark z me (get_or s.words 1 0) me) (ap waited (sym is ∙ is'))
            ((λ hit. absurd (miss (sym word ∙ hit))), λ _. refl),
      ))
    where
      knows_out : (w : World E) (t id j : ℕ) (seen : List E) → w.serving ≡ t → w.owner t ≡ id → w.out ≡ false → j ≢ id → (st : Stage)
          → KnowsIn w j seen st → KnowsIn (record w { out = true; over = false }) j seen st
      knows_out w t id j seen same mine off other Away k = k
      knows_out w t id j seen same mine off other (Waits x) k =
          let l = k.0 in (k.0, k.1, k.2, (λ _. dite (ℕ_discrete x w.serving) (λ e. absurd (other (sym k.2 ∙ (ap w.owner (e ∙ same) ∙ mine)))) (λ n. omega arith)), k.4)
      knows_out w t id j seen same mine off other (Serves x) k = absurd (true≢false (sym k.3 ∙ off))
      knows_out w t id j seen same mine off other Raises k = tt
      knows_out w t id j seen same mine off other (Empties x) k = absurd (true≢false (sym k.3 ∙ off))
      knows_out w t id j seen same mine off other Spent k = k

  apart_kinds : (w : World E) (n m a b : ℕ) → w.kind n ≡ a → w.kind m ≡ b → a ≢ b → n ≢ m
  apart_kinds w n m a b x y other e = other (sym x ∙ (ap w.kind e ∙ y))

  -- a seat in its turn gives the state back
  pub leaves : (law : (xs ys : List E) → version xs ≤ version (xs ++ ys)) (tally : S → ℕ × ℕ × ℕ) (slots id : ℕ) (me : Seated S E) (t : ℕ) (x : S) → me.0.stage ≡ Serves t → me.1 ≡ in_hand x → mark x ≡ me.0.mark → Grows by me.0.number me.0.writers me.0.seen (list x) → Allows Rule slots id me 1 (λ n. (n + 1) % 2 ^ 64) (left list by tally (step slots 1 1 0 core.none) me)
  leaves law tally slots id me t x is has kept grows s r wide at small =
      let v : V = me.0 in
      let w = r.w in
      let mine = alive w id v (living v.stage (ap is_spent is)) (r.seats id v at) in
      let k = subst (λ (st : Stage). KnowsIn w id v.seen st) is mine.knows in
      let now : t ≡ w.serving = k.0 in
      let high : t < w.next = k.1 in
      let seen : v.seen ≡ w.tale = k.5 in
      let owner : w.owner w.serving ≡ id = ap w.owner (sym now) ∙ k.2 in
      let es : List E = grows.0 in
      let longer_by : list x ≡ w.tale ++ es = grows.1 ∙ ap (λ (l : List E). l ++ es) seen in
      let w' : World E = record w { serving = w.serving + 1; out = false; tale = list x } in
      let u : V = back by v (list x) (tally x) in
      let still : (n : ℕ) (fs : List E) → n ≢ v.number → events_by by n w.tale ≡ fs → events_by by n (list x) ≡ fs =
      λ n fs apart e. ap (events_by by n) longer_by ∙ (events_by-append by n w.tale es ∙ (ap (λ (l : List E). events_by by n w.tale ++ l) (none_of by n v.number v.writers es apart grows.2) ∙ (append-nil (events_by by n w.tale) ∙ e))) in
      let prefix : (xs : List E) → StartsWith w.tale xs → StartsWith (list x) xs = λ xs p. grown by w.tale (list x) es xs longer_by p in
      let noted_apart : (z : Note E) → w.kind z.number ≡ 2 → z.number ≢ v.number = λ z noted. apart_kinds w z.number v.number 2 0 noted mine.own.1 (λ e. omega arith) in
      let below : AllBelow by writers (list x) = subst (AllBelow by writers) (sym longer_by) (below-append by writers v.number w.tale es r.below (subst (λ (n : ℕ). AllOwn by v.number n es) mine.same_writers grows.2)) in (
        u,
        gives,
        tt,
        record {
          w = w';
          state = x;
          words = ap (λ (ws : List ℕ). set ws 1 ((get_or ws 1 0 + 1) % 2 ^ 64)) r.words ∙ ap (λ (n : ℕ). w.next % 2 ^ 64 ∷ n ∷ w.shown ∷ []) (mod-add-mod w.serving (2 ^ 64) 1);
          homes = ap (put_back s.homes) has ∙ ap (λ (hs : List (core.Option (Option S))). set hs 0 (core.some (Some x))) r.homes;
          at_home = λ _. refl;
          marked = λ _. kept ∙ mine.same_mark;
          order = omega arith;
          busy = λ o. absurd (true≢false (sym o));
          tickets = λ y l h. let q = r.tickets y (omega arith) h in
              let other : w.owner y ≢ id = λ e. let z : t ≡ y = subst (λ (st : Stage). HasTicket st y) is (subst (λ (u : V). HasTicket u.stage y) (one_view s.views (w.owner y) id q.0 v e q.1 at) q.2) in omega arith in
              (q.0, set_else s.views id (w.owner y) u other ∙ q.1, q.2);
          seats = seats_set (FitsIn w') s.views id u
              (inr record {
                knows = tt;
                prefix = whole by (list x);
                own = (mine.own.0, mine.own.1, mine.own.2, refl);
                mine = refl;
                spare = λ n a b. let q = mine.spare n a b in (q.0, q.1, q.2, still n [] (apart_kinds w n v.number 1 0 q.1 mine.own.1 (λ e. omega arith)) q.3);
                noted = each_map by (IsNoted by version writers m w id) (IsNoted by version writers m w' id)
                    (λ y q. ((q.0.0, q.0.1, q.0.2, still y.number y.mine (noted_apart y q.0.1) q.0.3), prefix y.seen q.1, prefix y.theirs q.2)) v.ended mine.noted;
                once = mine.once;
                floor = mine.floor;
                same_writers = mine.same_writers;
                same_mark = mine.same_mark;
              })
              (λ j y other a. sits_on w w' j y (knows_next w id j (list x) y.seen owner k.3 other y.stage) prefix
              (λ kind n fs q. (q.0, q.1, q.2, still n fs (λ e. other (sym q.0 ∙ (ap w.keeper e ∙ mine.own.0))) q.3)) (le_refl w.shown) (r.seats j y a));
          below = below;
          current = le_trans r.current (subst (λ (l : List E). version w.tale ≤ version l) (sym longer_by) (law w.tale es));
        },
        λ y has'. let same = one_held x y (sym has ∙ has') in (
          subst (λ (hand : List (ℕ × Option S)). (back by v (list x) (tally x), rest hand) ≡ nothing v (back by v (list y) (tally y))) (sym has)
              (ap (λ (z : S). nothing v (back by v (list z) (tally z))) same),
          subst (λ (z : S). Agrees by v (list z)) same (
            subst (λ (n : ℕ). AllBelow by n (list x)) (sym mine.same_writers) below,
            each_map by (IsNoted by version writers m w id) (NotedIn by (list x))
                (λ z q. (prefix z.seen q.1, prefix z.theirs q.2, still z.number z.mine (noted_apart z q.0.1) q.0.3)) v.ended mine.noted,
          ),
        ),
      )
    where
      knows_next : (w : World E) (id j : ℕ) (tale seen : List E) → w.owner w.serving ≡ id → w.out ≡ true → j ≢ id → (st : Stage)
          → KnowsIn w j seen st → KnowsIn (record w { serving = w.serving + 1; out = false; tale = tale }) j seen st
      knows_next w id j tale seen owner on other Away k = k
      knows_next w id j tale seen owner on other (Waits y) k = let l = k.3 on in (omega arith, k.1, k.2, (λ o. absurd (true≢false (sym o))), k.4)
      knows_next w id j tale seen owner on other (Serves y) k = absurd (other (sym k.2 ∙ (ap w.owner k.0 ∙ owner)))
      knows_next w id j tale seen owner on other Raises k = tt
      knows_next w id j tale seen owner on other (Empties y) k = absurd (other (sym k.2 ∙ (ap w.owner k.0 ∙ owner)))
      knows_next w id j tale seen owner on other Spent k = k

      nothing : V → V → Seated S E
      nothing v w = (w, [])

      held : List (ℕ × Option S) → S → S
      held ((_, Some y) ∷ _) d = y
      held _ d = d

      one_held : (x y : S) → in_hand x ≡ in_hand y → x ≡ y
      one_held x y e = ap (λ (l : List (ℕ × Option S)). held l x) e

  no_ticket : (st : Stage) (to : Stage) → ((x : ℕ) → HasTicket to x → ⊥) → st ≡ to → (x : ℕ) → HasTicket st x → ⊥
  no_ticket st to none e x has = none x (subst (λ (z : Stage). HasTicket z x) e has)

  -- the version is shown, and the turn is over
  pub raises : (law : (xs ys : List E) → version xs ≤ version (xs ++ ys)) (slots id : ℕ) (me : Seated S E) (k : ℕ) → me.0.stage ≡ Raises → k ≡ version me.0.seen
      → Allows Rule slots id me 2 (λ n. max n k) (raised version (step slots 2 k 0 core.none) me)
  raises law slots id me k is same s r wide at small =
      let v : V = me.0 in
      let w = r.w in
      let mine = alive w id v (living v.stage (ap is_spent is)) (r.seats id v at) in
      let top : ℕ = max w.shown k in
      let up : w.shown ≤ top = omega arith in
      let own : version v.seen ≤ top = omega arith in
      let w' : World E = record w { shown = top } in
      let u : V = record v { stage = Away; floor = top } in
      let known : version v.seen ≤ version w.tale = subst (λ (l : List E). version v.seen ≤ version l) (sym mine.prefix.1) (law v.seen mine.prefix.0) in
      let current = r.current in
      let floor = mine.floor in (
        u,
        keeps,
        tt,
        record {
          w = w';
          state = r.state;
          words = ap (λ (ws : List ℕ). set ws 2 (max (get_or ws 2 0) k)) r.words;
          homes = r.homes;
          at_home = r.at_home;
          marked = r.marked;
          order = r.order;
          busy = r.busy;
          tickets = keeps_ticket w s.views id v u r.tickets at (λ x has. absurd (no_ticket v.stage Raises (λ y h. h) is x has));
          seats = seats_set (FitsIn w') s.views id u
              (inr record {
                knows = own;
                prefix = mine.prefix;
                own = mine.own;
                mine = mine.mine;
                spare = mine.spare;
                noted = mine.noted;
                once = mine.once;
                floor = le_refl top;
                same_writers = mine.same_writers;
                same_mark = mine.same_mark;
              })
              (λ j y other a. sits_on w w' j y (knows_up w top j y.seen up y.stage) (λ xs p. p) (λ kind n es p. p) up (r.seats j y a));
          below = r.below;
          current = omega arith;
        },
        (top, refl, omega arith, own),
      )
    where
      knows_up : (w : World E) (top j : ℕ) (seen : List E) → w.shown ≤ top → (st : Stage) → KnowsIn w j seen st → KnowsIn (record w { shown = top }) j seen st
      knows_up w top j seen up Away k = le_trans k up
      knows_up w top j seen up (Waits x) k = (k.0, k.1, k.2, k.3, le_trans k.4 up)
      knows_up w top j seen up (Serves x) k = k
      knows_up w top j seen up Raises k = tt
      knows_up w top j seen up (Empties x) k = k
      knows_up w top j seen up Spent k = k

  -- a seat that is away looks at the version
  pub checks : (slots id : ℕ) (me : Seated S E) → me.0.stage ≡ Away → Allows Rule slots id me 2 (λ n. n) (checked version (step slots 2 0 0 core.none) me)
  checks slots id me is s r wide at small =
      let v : V = me.0 in
      let w = r.w in
      let mine = alive w id v (living v.stage (ap is_spent is)) (r.seats id v at) in
      let n : ℕ = get_or s.words 2 0 in
      let word : n ≡ w.shown = ap (λ (ws : List ℕ). get_or ws 2 0) r.words in
      let known = subst (λ (st : Stage). KnowsIn w id v.seen st) is mine.knows in
      let u : V = record v { floor = n } in (
        u,
        keeps,
        tt,
        record {
          w = w;
          state = r.state;
          words = ap (λ (ws : List ℕ). set ws 2 (get_or ws 2 0)) r.words;
          homes = r.homes;
          at_home = r.at_home;
          marked = r.marked;
          order = r.order;
          busy = r.busy;
          tickets = keeps_ticket w s.views id v u r.tickets at (λ x has. has);
          seats = seats_set (FitsIn w) s.views id u
              (inr record {
                knows = mine.knows;
                prefix = mine.prefix;
                own = mine.own;
                mine = mine.mine;
                spare = mine.spare;
                noted = mine.noted;
                once = mine.once;
                floor = subst (λ (z : ℕ). z ≤ w.shown) (sym word) (le_refl w.shown);
                same_writers = mine.same_writers;
                same_mark = mine.same_mark;
              })
              (λ j y other a. r.seats j y a);
          below = r.below;
          current = r.current;
        },
        (refl, subst (λ (z : ℕ). v.floor ≤ z) (sym word) mine.floor, λ _. subst (λ (z : ℕ). version v.seen ≤ z) (sym word) known),
      )

  -- a seat in its turn gives the slot back with nothing in it
  pub empties : (slots id : ℕ) (me : Seated S E) (t : ℕ) → me.0.stage ≡ Serves t → me.1 ≡ (0, None) ∷ [] → Allows Rule slots id me 1 (λ n. n) (emptied (step slots 1 0 0 core.none) me)
  empties slots id me t is has s r wide at small =
      let v : V = me.0 in
      let w = r.w in
      let mine = alive w id v (living v.stage (ap is_spent is)) (r.seats id v at) in
      let k = subst (λ (st : Stage). KnowsIn w id v.seen st) is mine.knows in
      let w' : World E = record w { out = true; over = true } in
      let u : V = record v { stage = Empties t } in (
        u,
        gives,
        tt,
        record {
          w = w';
          state = r.state;
          words = ap (λ (ws : List ℕ). set ws 1 (get_or ws 1 0)) r.words;
          homes = ap (put_back s.homes) has ∙ ap (λ (hs : List (core.Option (Option S))). set hs 0 (core.some None)) r.homes;
          at_home = λ o. absurd (true≢false o);
          marked = λ o. absurd (true≢false o);
          order = r.order;
          busy = λ _. r.busy k.3;
          tickets = keeps_ticket w s.views id v u r.tickets at (λ x q. subst (λ (st : Stage). HasTicket st x) is q);
          seats = seats_set (FitsIn w') s.views id u
              (inr record {
                knows = (k.0, k.1, k.2, refl, refl);
                prefix = mine.prefix;
                own = mine.own;
                mine = mine.mine;
                spare = mine.spare;
                noted = mine.noted;
                once = mine.once;
                floor = mine.floor;
                same_writers = mine.same_writers;
                same_mark = mine.same_mark;
              })
              (λ j y other a. sits_on w w' j y (knows_over w id j y.seen (ap w.owner (sym k.0) ∙ k.2) k.3 other y.stage) (λ xs p. p) (λ kind n es p. p) (le_refl w.shown) (r.seats j y a));
          below = r.below;
          current = r.current;
        },
        λ t' is'. subst (λ (hand : List (ℕ × Option S)). at_end u (rest hand) ≡ at_end (record v { stage = Empties t' }) []) (sym has)
            (ap (λ (z : ℕ). at_end (record v { stage = Empties z }) []) (ap waited (sym is ∙ is'))),
      )
    where
      at_end : V → List (ℕ × Option S) → Seated S E
      at_end v l = (v, l)

      knows_over : (w : World E) (id j : ℕ) (seen : List E) → w.owner w.serving ≡ id → w.out ≡ true → j ≢ id → (st : Stage) → KnowsIn w j seen st → KnowsIn (record w { out = true; over = true }) j seen st
      knows_over w id j seen owner on other Away k = k
      knows_over w id j seen owner on other (Waits x) k = (k.0, k.1, k.2, (λ _. k.3 on), k.4)
      knows_over w id j seen owner on other (Serves x) k = absurd (other (sym k.2 ∙ (ap w.owner k.0 ∙ owner)))
      knows_over w id j seen owner on other Raises k = tt
      knows_over w id j seen owner on other (Empties x) k = absurd (other (sym k.2 ∙ (ap w.owner k.0 ∙ owner)))
      knows_over w id j seen owner on other Spent k = k

  same_knows : (w : World E) (id : ℕ) (seen : List E) (keeper kind : ℕ → ℕ) (st : Stage) → KnowsIn w id seen st → KnowsIn (record w { keeper = keeper; kind = kind }) id seen st
  same_knows w id seen keeper kind Away k = k
  same_knows w id seen keeper kind (Waits x) k = k
  same_knows w id seen keeper kind (Serves x) k = k
  same_knows w id seen keeper kind Raises k = k
  same_knows w id seen keeper kind (Empties x) k = k
  same_knows w id seen keeper kind Spent k = k

  -- a new seat takes the least spare number
  pub splits : (id : ℕ) (v : V) → v.stage ≡ Away → v.spare_start < v.spare_end → Splits Rule id v (parent_view v) (child_view v)
  splits id v is room s r at =
      let w = r.w in
      let mine = alive w id v (living v.stage (ap is_spent is)) (r.seats id v at) in
      let known = subst (λ (st : Stage). KnowsIn w id v.seen st) is mine.knows in
      let vs : List V = set s.views id (parent_view v) in
      let new : ℕ = length vs in
      let n : ℕ = v.spare_start in
      let spare = mine.spare n (le_refl n) room in
      let w' : World E = record w { keeper = given w.keeper n new; kind = given w.kind n 0 } in
      let stands : (j kind m : ℕ) (es : List E) → m ≢ n → StandsIn w j kind m es → StandsIn w' j kind m es =
      λ j kind m es other q. (given_else w.keeper n new m other ∙ q.0, given_else w.kind n 0 m other ∙ q.1, q.2, q.3) in
      let held = keeps_ticket w s.views id v (parent_view v) r.tickets at (λ x has. has) in record {
        w = w';
        state = r.state;
        words = r.words;
        homes = r.homes;
        at_home = r.at_home;
        marked = r.marked;
        order = r.order;
        busy = r.busy;
        tickets = λ x low high. let q = held x low high in (q.0, at_longer vs (child_view v ∷ []) (w.owner x) q.0 q.1, q.2);
        seats = λ j u e. ⊎_elim
            (seats_set (FitsIn w') s.views id (parent_view v)
            (inr record {
              knows = mine.knows;
              prefix = mine.prefix;
              own = stands id 0 v.number v.mine (apart_kinds w v.number n 0 1 mine.own.1 spare.1 (λ e. omega arith)) mine.own;
              mine = mine.mine;
              spare = λ m a b. stands id 1 m [] (λ e. omega arith) (mine.spare m (omega arith) b);
              noted = each_map by (IsNoted by version writers m w id) (IsNoted by version writers m w' id) (λ y q. (stands id 2 y.number y.mine (apart_kinds w y.number n 2 1 q.0.1 spare.1 (λ e. omega arith)) q.0, q.1, q.2)) v.ended mine.noted;
              once = mine.once;
              floor = mine.floor;
              same_writers = mine.same_writers;
              same_mark = mine.same_mark;
            })
            (λ i y other a. sits_on w w' i y (λ k. same_knows w i y.seen (given w.keeper n new) (given w.kind n 0) y.stage k) (λ xs p. p) (λ kind m es q. stands i kind m es (λ e. other (sym q.0 ∙ (ap w.keeper e ∙ spare.0))) q) (le_refl w.shown) (r.seats i y a)) j u)
            (λ (t : (j ≡ new) × (child_view v ≡ u)). subst₂ (FitsIn w') (sym t.0) t.1 (inr record {
              knows = known;
              prefix = mine.prefix;
              own = (given_here w.keeper n new n refl, given_here w.kind n 0 n refl, spare.2, spare.3);
              mine = none_before by n w.tale v.seen mine.prefix spare.3;
              spare = λ m a b. absurd (omega arith);
              noted = tt;
              once = tt;
              floor = mine.floor;
              same_writers = mine.same_writers;
              same_mark = mine.same_mark;
            }))
            (snoc_here vs (child_view v) u j e);
        below = r.below;
        current = r.current;
      }

  longer_one : (P : List E → Type 0) (xs ys : List E) → P xs → P ys → P (longer xs ys)
  longer_one P xs ys p q = go (leb (length ys) (length xs))
    where
      go : (b : Bool) → P (cond b xs ys)
      go true = p
      go false = q

  longer_case : (P : List E → Type 0) (xs ys : List E) → P xs → (length xs ≤ length ys → P ys) → P (longer xs ys)
  longer_case P xs ys p q = dite (dec_le (length ys) (length xs))
      (λ l. subst (λ (b : Bool). P (cond b xs ys)) (sym (le-leb (length ys) (length xs) l)) p)
      (λ l. longer_one P xs ys p (q (le_of_lt (lt_of_not-le l))))

  abbrev moved : (ℕ → ℕ) → (ℕ → ℕ) → ℕ → ℕ → ℕ → ℕ
  moved keeper f other x n = cond (eqb (keeper n) other) x (f n)

  moved_hit : (keeper f : ℕ → ℕ) (other x n : ℕ) → keeper n ≡ other → moved keeper f other x n ≡ x
  moved_hit keeper f other x n e = ap (λ (b : Bool). cond b x (f n)) (eq-eqb (keeper n) other e)

  moved_miss : (keeper f : ℕ → ℕ) (other x n : ℕ) → keeper n ≢ other → moved keeper f other x n ≡ f n
  moved_miss keeper f other x n e = ap (λ (b : Bool). cond b x (f n)) (ne_eqb (keeper n) other e)

  -- a seat takes in another one
  pub joins : (id : ℕ) (v : V) (other : ℕ) (u : V) → v.stage ≡ Away → u.stage ≡ Away → Joins Rule id v other u (joined_view v u) spent_view
  joins id v other u is is' s r at apart there =
      let w = r.w in
      let both : V = joined_view v u in
      let vs : List V = set s.views id both in
      let was : get_elem? s.views other ≡ core.some u = ⊎_elim (λ (t : (other ≡ id) × (both ≡ u)). absurd (apart t.0)) (λ (t : (other ≢ id) × (get_elem? s.views other ≡ core.some u)). t.1) (at_set s.views id other both u there) in
      let mine = alive w id v (living v.stage (ap is_spent is)) (r.seats id v at) in
      let theirs = alive w other u (living u.stage (ap is_spent is')) (r.seats other u was) in
      let k = subst (λ (st : Stage). KnowsIn w id v.seen st) is mine.knows in
      let k' = subst (λ (st : Stage). KnowsIn w other u.seen st) is' theirs.knows in
      let keeper : ℕ → ℕ = moved w.keeper w.keeper other id in
      let kind : ℕ → ℕ = moved w.keeper w.kind other 2 in
      let w' : World E = record w { keeper = keeper; kind = kind } in
      let stays : (j kd n : ℕ) (es : List E) → j ≢ other → StandsIn w j kd n es → StandsIn w' j kd n es =
      λ j kd n es a q. (moved_miss w.keeper w.keeper other id n (λ e. a (sym q.0 ∙ e)) ∙ q.0, moved_miss w.keeper w.kind other 2 n (λ e. a (sym q.0 ∙ e)) ∙ q.1, q.2, q.3) in
      let comes : (kd n : ℕ) (es : List E) → StandsIn w other kd n es → StandsIn w' id 2 n es =
      λ kd n es q. (moved_hit w.keeper w.keeper other id n q.0, moved_hit w.keeper w.kind other 2 n q.0, q.2, q.3) in
      let two : id ≢ other = λ e. apart (sym e) in
      let floor = mine.floor in
      let floor' = theirs.floor in
      let held = keeps_ticket w s.views id v both r.tickets at (λ x has. has) in record {
        w = w';
        state = r.state;
        words = r.words;
        homes = r.homes;
        at_home = r.at_home;
        marked = r.marked;
        order = r.order;
        busy = r.busy;
        tickets = keeps_ticket w vs other u spent_view held there (λ x has. absurd (no_ticket u.stage Away (λ y h. h) is' x has));
        seats = seats_set (FitsIn w') vs other spent_view (inl refl)
            (λ j y a e.
            seats_set (λ i z. i ≢ other → FitsIn w' i z) s.views id both
            (λ _. inr record {
              knows = subst (λ (st : Stage). KnowsIn w' id both.seen st) (sym is) (longer_one (λ (l : List E). version l ≤ w.shown) v.seen u.seen k k');
              prefix = longer_one (StartsWith w.tale) v.seen u.seen mine.prefix theirs.prefix;
              own = stays id 0 v.number v.mine two mine.own;
              mine = longer_case (λ (l : List E). events_by by v.number l ≡ v.mine) v.seen u.seen mine.mine
                  (λ l. between by v.number v.seen u.seen w.tale v.mine (nested by w.tale v.seen u.seen mine.prefix theirs.prefix l) theirs.prefix mine.mine mine.own.3);
              spare = λ n x y. stays id 1 n [] two (mine.spare n x y);
              noted = (
                (comes 0 u.number u.mine theirs.own, mine.prefix, theirs.prefix),
                each_both by (IsNoted by version writers m w' id) v.ended u.ended
                    (each_map by (IsNoted by version writers m w id) (IsNoted by version writers m w' id) (λ x q. (stays id 2 x.number x.mine two q.0, q.1, q.2)) v.ended mine.noted)
                    (each_map by (IsNoted by version writers m w other) (IsNoted by version writers m w' id) (λ x q. (comes 2 x.number x.mine q.0, q.1, q.2)) u.ended theirs.noted),
              );
              once = once_joined by (IsNoted by version writers m w id) (IsNoted by version writers m w other) (view_note v u) v.ended u.ended
                  (λ x y a b e. two (sym a.0.0 ∙ (ap w.keeper e ∙ b.0.0)))
                  (λ x a e. two (sym (sym theirs.own.0 ∙ (ap w.keeper e ∙ a.0.0))))
                  (λ y b. apart_kinds w u.number y.number 0 2 theirs.own.1 b.0.1 (λ e. omega arith)) mine.noted theirs.noted mine.once theirs.once;
              floor = omega arith;
              same_writers = mine.same_writers;
              same_mark = mine.same_mark;
            })
            (λ i z b e' c. sits_on w w' i z (same_knows w i z.seen keeper kind z.stage) (λ xs p. p) (λ kd n es q. stays i kd n es c q) (le_refl w.shown) (r.seats i z e')) j y e a);
        below = r.below;
        current = r.current;
      }

  pub begins : (x : S) (k : ℕ) → list x ≡ [] → k ≡ version (list x) → m ≡ mark x → Rule (opening (0 ∷ 0 ∷ k ∷ []) (Some x ∷ []) (first_view writers m))
  begins x k empty same is =
      let w : World E = record { next = 0; serving = 0; shown = k; out = false; over = false; owner = λ _. 0; tale = []; keeper = λ _. 0; kind = λ n. cond (eqb n 0) 0 1 } in
      let here : version [] ≡ k = ap version (sym empty) ∙ sym same in record {
        w = w;
        state = x;
        words = refl;
        homes = refl;
        at_home = λ _. empty;
        marked = λ _. sym is;
        order = le_refl 0;
        busy = λ o. absurd (true≢false (sym o));
        tickets = λ t l h. absurd (omega arith);
        seats = one w here refl refl refl refl;
        below = tt;
        current = omega arith;
      }
    where
      one : (w : World E) → version [] ≡ w.shown → w.tale ≡ [] → w.keeper ≡ (λ _. 0) → w.kind ≡ (λ n. cond (eqb n 0) 0 1) → w.out ≡ false → (id : ℕ) (v : V) → get_elem? (first_view writers m ∷ []) id ≡ core.some v → FitsIn w id v
      one w shown tale keeper kind out zero v e = subst (FitsIn w 0) (core.some-injective _ _ e) (inr record {
        knows = omega arith;
        prefix = ([], tale);
        own = (ap (λ (f : ℕ → ℕ). f 0) keeper, ap (λ (f : ℕ → ℕ). f 0) kind, omega arith, ap (events_by by 0) tale);
        mine = refl;
        spare = λ n l h. (ap (λ (f : ℕ → ℕ). f n) keeper, ap (λ (f : ℕ → ℕ). f n) kind ∙ ap (λ (b : Bool). cond b 0 1) (ne_eqb n 0 (λ z. omega arith)), h, ap (events_by by n) tale);
        noted = tt;
        once = tt;
        floor = zero-le;
        same_writers = refl;
        same_mark = refl;
      })
      one w shown tale keeper kind out (suc id) v e = absurd (core.some-ne-none v (sym e))

  -- once the state was taken out for good, the slot has nothing
  pub nothing_left : (s : St) (r : Rule s) (id : ℕ) (v : V) (t : ℕ) → get_elem? s.views id ≡ core.some v → v.stage ≡ Empties t → s.homes ≡ core.some None ∷ []
  nothing_left s r id v t at is =
      let w = r.w in
      let mine = alive w id v (living v.stage (ap is_spent is)) (r.seats id v at) in
      let k = subst (λ (st : Stage). KnowsIn w id v.seen st) is mine.knows in
      r.homes ∙ (λ i. slot_of (k.3 i) (k.4 i) r.state ∷ [])
