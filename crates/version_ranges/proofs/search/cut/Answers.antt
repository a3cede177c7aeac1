-- The last range that begins below the end is cut there.
use Rattle.std.proofs.Common.{◌≡◌, ◌≤◌, ◌-◌, ◌<◌, ◌∙◌, ◌&&◌, ap, sym, subst, refl, Bool, true, false, ltb, None, Some, ℕ, List, length, get_or, set, take, arith}
use Rattle.std.proofs.lemmas.Bool.{lt-ltb, not_from_false, and_from}
use Rattle.std.proofs.lemmas.List.{get_or-take, set-get_or}
use Rattle.version_ranges.specs.declared.half_open.Range.{Range}
use Rattle.version_ranges.specs.Members.{is_before, contains}
use Rattle.version_ranges.specs.Order.{IsSeparate}
use Rattle.version_ranges.proofs.Searches.{cut_none, cut_separate_at, cut_members_at, has_at}
use Rattle.version_ranges.proofs.search.cut.Goals as goal

-- the first k ranges are those that begin below the end, and m stands for the last of them, l, up to the end
module _ (rs : List Range) (end k : ℕ) (l m : Range) (s : IsSeparate rs) (h : 0 < k) (t : k ≤ length rs) (below : (d : Range) → 0 < k → (get_or rs (k - 1) d).from < end)
    (others : (d : Range) → k < length rs → end ≤ (get_or rs k d).from) (e : l ≡ get_or (take k rs) (k - 1) l) (q : m.from ≡ l.from) (f : (w : ℕ) → is_before w m.to ≡ (is_before w l.to && ltb w end)) where
  here : l ≡ get_or rs (k - 1) l
  here = e ∙ get_or-take k rs (k - 1) l (omega arith)

  kept_separate : IsSeparate (set (take k rs) (k - 1) m)
  kept_separate =
      let has : is_before l.from l.to ≡ true = subst (λ (r : Range). is_before r.from r.to ≡ true) (sym here) (has_at rs s (k - 1) l (omega arith)) in
      let low : l.from < end = subst (λ (r : Range). r.from < end) (sym here) (below l h) in
      let whole : is_before l.from m.to ≡ true = f l.from ∙ and_from (is_before l.from l.to) (ltb l.from end) has (lt-ltb l.from end low) in
      cut_separate_at rs s k l m h t (q ∙ ap (λ (r : Range). r.from) here) (subst (λ v. is_before v m.to ≡ true) (sym q) whole)

  kept_members : (w : ℕ) → contains (set (take k rs) (k - 1) m) w ≡ (contains rs w && ltb w end)
  kept_members = cut_members_at rs s k l m end h t (below l h) (others l) (q ∙ ap (λ (r : Range). r.from) here) (λ w. f w ∙ ap (λ (r : Range). is_before w r.to && ltb w end) here)

-- nothing is cut from a range that ends by the end
uncut : (a b : Bool) → (a ≡ true → b ≡ true) → a ≡ (a && b)
uncut true b f = sym (f refl)
uncut false b f = refl

shorter : (a b : Bool) → (b ≡ true → a ≡ true) → b ≡ (a && b)
shorter true b f = refl
shorter false true f = sym (f refl)
shorter false false f = refl

-- writing the element that is there changes nothing
same_set : (rs : List Range) (i : ℕ) (l : Range) → l ≡ get_or rs i l → set rs i l ≡ rs
same_set rs i l e = ap (set rs i) e ∙ set-get_or rs i l

-- the same over what a call lent of the list, and what a call left of it
module _ (rs lent kept : List Range) (end k : ℕ) (l m : Range) (s : IsSeparate rs) (h : 0 < k) (bound : k ≤ length lent) (below : (d : Range) → 0 < k → (get_or lent (k - 1) d).from < end)
    (others : (d : Range) → k < length lent → end ≤ (get_or lent k d).from) (same : lent ≡ rs) (left : kept ≡ take k rs) (e : l ≡ get_or kept (k - 1) l) (q : m.from ≡ l.from) (f : (w : ℕ) → is_before w m.to ≡ (is_before w l.to && ltb w end)) where
  low : (d : Range) → 0 < k → (get_or rs (k - 1) d).from < end
  low = subst (λ xs. (d : Range) → 0 < k → (get_or xs (k - 1) d).from < end) same below

  high : (d : Range) → k < length rs → end ≤ (get_or rs k d).from
  high = subst (λ xs. (d : Range) → k < length xs → end ≤ (get_or xs k d).from) same others

  within : k ≤ length rs
  within = subst (λ xs. k ≤ length xs) same bound

  last : l ≡ get_or (take k rs) (k - 1) l
  last = subst (λ xs. l ≡ get_or xs (k - 1) l) left e

  cut_separate : IsSeparate (set kept (k - 1) m)
  cut_separate = subst (λ xs. IsSeparate (set xs (k - 1) m)) (sym left) (kept_separate rs end k l m s h within low high last q f)

  cut_members : (w : ℕ) → contains (set kept (k - 1) m) w ≡ (contains rs w && ltb w end)
  cut_members = subst (λ xs. (w : ℕ) → contains (set xs (k - 1) m) w ≡ (contains rs w && ltb w end)) (sym left) (kept_members rs end k l m s h within low high last q f)

pub returns-then-begun-eq0-clause-members : goal.returns-then-begun-eq0-clause-members
returns-then-begun-eq0-clause-members c = λ w.
    let rs = c.args.ranges.now.items in
    let k : c.begun_below-begun.result ≡ 0 = omega arith in
    let high : 0 < length rs → c.args.end ≤ (get_or rs 0 record { from = 0; to = None }).from = λ h. subst (λ n. c.args.end ≤ (get_or rs n record { from = 0; to = None }).from) k (subst (λ xs. c.begun_below-begun.result < length xs → c.args.end ≤ (get_or xs c.begun_below-begun.result record { from = 0; to = None }).from) c.deref.ensures.value (c.begun_below-begun.ensures.others record { from = 0; to = None }) (omega arith)) in
    ap (λ xs. contains xs w) (c.truncate.ensures.items ∙ ap (λ n. take n rs) k) ∙ cut_none rs c.requires w c.args.end record { from = 0; to = None } high

pub returns-then-ends_by-clause-separate : goal.returns-then-ends_by-clause-separate
returns-then-ends_by-clause-separate c =
    let l = c.index-last.result.now in
    subst IsSeparate (same_set c.truncate.new.self.items (c.begun_below-begun.result - 1) l c.index-last.ensures)
    (cut_separate c.args.ranges.now.items c.deref.result.now c.truncate.new.self.items c.args.end c.begun_below-begun.result l l c.requires (omega arith) c.begun_below-begun.ensures.bound c.begun_below-begun.ensures.below c.begun_below-begun.ensures.others c.deref.ensures.value c.truncate.ensures.items c.index-last.ensures refl (λ w. uncut (is_before w l.to) (ltb w c.args.end) (c.ends_by.ensures.yes c.if-ends_by.true w)))

pub returns-then-ends_by-clause-members : goal.returns-then-ends_by-clause-members
returns-then-ends_by-clause-members c =
    let l = c.index-last.result.now in
    subst (λ xs. (w : ℕ) → contains xs w ≡ (contains c.args.ranges.now.items w && ltb w c.args.end)) (same_set c.truncate.new.self.items (c.begun_below-begun.result - 1) l c.index-last.ensures)
    (cut_members c.args.ranges.now.items c.deref.result.now c.truncate.new.self.items c.args.end c.begun_below-begun.result l l c.requires (omega arith) c.begun_below-begun.ensures.bound c.begun_below-begun.ensures.below c.begun_below-begun.ensures.others c.deref.ensures.value c.truncate.ensures.items c.index-last.ensures refl (λ w. uncut (is_before w l.to) (ltb w c.args.end) (c.ends_by.ensures.yes c.if-ends_by.true w)))

pub returns-clause-separate : goal.returns-clause-separate
returns-clause-separate c =
    let l = c.index-last.result.now in
    cut_separate c.args.ranges.now.items c.deref.result.now c.truncate.new.self.items c.args.end c.begun_below-begun.result l record { from = l.from; to = Some c.args.end } c.requires (omega arith) c.begun_below-begun.ensures.bound c.begun_below-begun.ensures.below c.begun_below-begun.ensures.others c.deref.ensures.value c.truncate.ensures.items c.index-last.ensures refl (λ w. shorter (is_before w l.to) (ltb w c.args.end) (c.ends_by.ensures.no (not_from_false _ c.if-ends_by.false) w))

pub returns-clause-members : goal.returns-clause-members
returns-clause-members c =
    let l = c.index-last.result.now in
    cut_members c.args.ranges.now.items c.deref.result.now c.truncate.new.self.items c.args.end c.begun_below-begun.result l record { from = l.from; to = Some c.args.end } c.requires (omega arith) c.begun_below-begun.ensures.bound c.begun_below-begun.ensures.below c.begun_below-begun.ensures.others c.deref.ensures.value c.truncate.ensures.items c.index-last.ensures refl (λ w. shorter (is_before w l.to) (ltb w c.args.end) (c.ends_by.ensures.no (not_from_false _ c.if-ends_by.false) w))
