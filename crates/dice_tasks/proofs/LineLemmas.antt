-- Ready tasks in another order.
use Rattle.std.proofs.Common.{◌≡◌, ℕ, ◌<◌, ◌≤◌, List, [], ◌∷◌, ◌++◌, length, map, take, drop, set, get_or, refl, sym, ap, ◌∙◌, subst, arith}
use Rattle.std.specs.List.{swap}
use Rattle.std.proofs.lemmas.List.{drop-set-lt}
use Rattle.std.proofs.lemmas.List.Edits.{swap_is, length-swap}
use Rattle.std.proofs.lemmas.List.Sorted.{IsPermutation-swap}
use Rattle.dice_tasks.specs.declared.shelf.ReadyTask.{ReadyTask}
use Rattle.dice_tasks.specs.Hands.{DeskSeen, Stays}
use Rattle.dice_tasks.specs.Orders.{Reorders, IsReordered}
use Rattle.dice_tasks.specs.Shelves.{place_of, ready_of, out_of, IsLaid}
use Rattle.dice_tasks.proofs.Desks.{count_ready}
use Rattle.dice_tasks.proofs.Lists.{Same, same_front}
use Rattle.dice_tasks.proofs.Parts.{parts, same_places}
use Rattle.lists.proofs.Distinct.{distinct_left}
use Rattle.lists.specs.Lists.{AreDistinct}

module _ {X : Type 0} where
  stays_none : (xs : List X) → AreDistinct xs → Stays xs xs
  stays_none xs d = record { kept = λ x h. h; only = λ x h. h; distinct = d }

  stays_more : (xs ys zs : List X) → Stays xs ys → Stays ys zs → Stays xs zs
  stays_more xs ys zs s t = record { kept = λ x h. t.kept x (s.kept x h); only = λ x h. s.only x (t.only x h); distinct = t.distinct }

module _ {X Y : Type 0} (f : X → Y) where
  -- two of the first n are exchanged
  exchanged_at : (xs : List X) (n a b : ℕ) (d : X) → a < n → b < n → n ≤ length xs → AreDistinct (map f xs) → AreDistinct (map f (swap xs a b)) → Stays (map f (take n xs)) (map f (take n (swap xs a b))) × (drop n (swap xs a b) ≡ drop n xs)
  exchanged_at xs n a b d l m e u v =
      let y : X = get_or xs b d in
      let p : X = get_or xs a d in
      let ys : List X = swap xs a b in
      let is : set (set xs a y) b p ≡ ys = swap_is xs a b d (omega arith) (omega arith) in
      let rest : drop n ys ≡ drop n xs = ap (drop n) (sym is) ∙ drop-set-lt n (set xs a y) b p m ∙ drop-set-lt n xs a y l in
      let same : Same (map f xs) (map f ys) = same_places f xs ys (IsPermutation-swap xs ys a b (omega arith) (omega arith) refl) in
      let A : List Y = map f (take n xs) in
      let D : List Y = map f (take n ys) in
      let B : List Y = map f (drop n xs) in
      let whole : D ++ B ≡ map f ys = ap (λ z. D ++ map f z) (sym rest) ∙ parts f n ys in
      let w : AreDistinct (D ++ B) = subst AreDistinct (sym whole) v in
      let s : Same A D = same_front A D B (subst AreDistinct (sym (parts f n xs)) u) w (rw (parts f n xs, whole) same) in
      (record { kept = s.there; only = s.back; distinct = distinct_left D B w }, rest)

  pub exchanged : (xs : List X) (n a b : ℕ) → a < n → b < n → n ≤ length xs → AreDistinct (map f xs) → AreDistinct (map f (swap xs a b)) → Stays (map f (take n xs)) (map f (take n (swap xs a b))) × (drop n (swap xs a b) ≡ drop n xs)
  exchanged [] n a b l m e u v = absurd (omega arith)
  exchanged (x ∷ xs) n a b l m e u v = exchanged_at (x ∷ xs) n a b x l m e u v

module _ {K : Type 0} where
  -- two ready tasks were exchanged
  pub exchanged_is : (n : ℕ) (ks ls : List (ReadyTask K)) (a b room more : ℕ) → IsLaid n ks → a < n → b < n → ls ≡ swap ks a b → AreDistinct (map place_of ls) → room ≤ more → IsReordered n ks ls room more
  exchanged_is n ks ls a b room more laid l m is v r =
      let e = exchanged place_of ks n a b l m laid.bound laid.distinct (subst (λ z. AreDistinct (map place_of z)) is v) in
      let c : length ls ≡ length ks = ap length is ∙ length-swap ks a b in
      let bound = laid.bound in
      let small = laid.small in
      record {
        ready = subst (λ z. Stays (ready_of n ks) (ready_of n z)) (sym is) e.0;
        out = ap (map place_of) (ap (drop n) is ∙ e.1);
        laid = record { bound = omega arith; distinct = v; small = omega arith };
        room = r;
      }

  -- nothing was moved
  pub in_order : (n : ℕ) (ks : List (ReadyTask K)) (room : ℕ) → IsLaid n ks → IsReordered n ks ks room room
  in_order n ks room laid = record {
    ready = stays_none (ready_of n ks) (distinct_left (ready_of n ks) (out_of n ks) (subst AreDistinct (sym (parts place_of n ks)) laid.distinct));
    out = refl;
    laid = laid;
    room = omega arith;
  }

  -- one order after another
  pub reordered_more : (n : ℕ) (ks ls ms : List (ReadyTask K)) (a b c : ℕ) → IsReordered n ks ls a b → IsReordered n ls ms b c → IsReordered n ks ms a c
  reordered_more n ks ls ms a b c p q = record {
    ready = stays_more (ready_of n ks) (ready_of n ls) (ready_of n ms) p.ready q.ready;
    out = q.out ∙ p.out;
    laid = q.laid;
    room = (let x = p.room in let y = q.room in omega arith);
  }

module _ {K V : Type 0} where
  -- the desk whose ready tasks stand in another order
  pub reorders : (n : ℕ) (ks ls : List (ReadyTask K)) (room more : ℕ) (w d : DeskSeen K V) → w ≡ d → IsLaid n ks → w.ready ≡ ready_of n ks → w.out ≡ out_of n ks → IsReordered n ks ls room more → Reorders d (record w { ready = ready_of n ls; out = out_of n ls })
  reorders n ks ls room more w d v laid wr wo r =
      let dr : d.ready ≡ ready_of n ks = sym (ap (λ (z : DeskSeen K V). z.ready) v) ∙ wr in
      let q : out_of n ls ≡ d.out = r.out ∙ sym wo ∙ ap (λ (z : DeskSeen K V). z.out) v in
      record {
        ready = subst (λ z. Stays z (ready_of n ls)) (sym dr) r.ready;
        count = count_ready n ls r.laid.bound ∙ sym (ap length dr ∙ count_ready n ks laid.bound);
        rest = λ i. record (v i) { ready = ready_of n ls; out = q i };
      }

  -- the desk, if nothing was moved
  pub reorders_none : (n : ℕ) (ks : List (ReadyTask K)) (w d : DeskSeen K V) → w ≡ d → IsLaid n ks → w.ready ≡ ready_of n ks → Reorders d d
  reorders_none n ks w d v laid wr = record {
    ready = subst (λ z. Stays z z) (sym (sym (ap (λ (z : DeskSeen K V). z.ready) v) ∙ wr)) (in_order n ks 0 laid).ready;
    count = refl;
    rest = refl;
  }
