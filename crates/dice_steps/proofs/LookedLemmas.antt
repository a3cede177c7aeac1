-- The parts of a batch are made one after the other: which tasks are made, by what look-ups say, and what becomes of the entries.
use Rattle.std.proofs.Common.{◌≡◌, inl, inr, ℕ, Bool, false, cond, List, [], ◌∷◌, ◌++◌, map, Option, Some, None, refl, sym, ap, ◌∙◌, subst, append_assoc}
use Rattle.std.specs.Option.{option_map}
use Rattle.std.proofs.lemmas.List.{append-nil}
use Rattle.dice_key.specs.Meaning.{Meaning}
use Rattle.dice_key.specs.Lawful.{IsEquality}
use Rattle.task_share.specs.Seen.{Share, task_at}
use Rattle.journal.specs.declared.event.Told.TheVariants.{Start}
use Rattle.versioned_graph.specs.Entries.{Stored, entry_at, seen_at}
use Rattle.versioned_graph.specs.Looks.{look}
use Rattle.core_laws.proofs.Shapes.{same_or_other, not_both}
use Rattle.dice_tasks.specs.CyclePaths.{path_with}
use Rattle.dice_tasks.specs.Helds.{Held}
use Rattle.dice_tasks.specs.Hands.{DeskSeen}
use Rattle.dice_tasks.specs.Makings.{IsFree, HasTask, IsMaking, IsMade, MakesAlone, task_by, told_by, entry_by}
use Rattle.dice_tasks.specs.declared.making.Making.{Making}
use Rattle.dice_tasks.specs.declared.making.Making.TheVariants.{Join, Match, Run, Check}
use Rattle.dice_tasks.proofs.MakeFrames.{making_on}
use Rattle.dice_steps.specs.Orders.{IsBefore}
use Rattle.dice_steps.specs.Plans.{key_in, is_awaited, IsPart}
use Rattle.dice_steps.specs.Taken.{says, told_of}
use Rattle.dice_steps.specs.Batches.{AreMakable, MakesParted}
use Rattle.dice_steps.specs.declared.plan.Part.{Part}
use Rattle.dice_steps.proofs.OrderLemmas.{before_more, before_end}
use Rattle.dice_steps.proofs.PartLemmas.{map_last}
use Rattle.lists.proofs.Distinct.{apart, distinct_left}
use Rattle.lists.proofs.Members.{has_end, has_last, has_map, has_more}
use Rattle.lists.specs.Lists.{AreDistinct, Has}

-- a key that has a task is not free
has_free : {K V : Type 0} (o : Option (Held K V)) → HasTask o → IsFree o → ⊥
has_free None t f = t
has_free (Some h) t f = t f

-- what is told goes by the entries of these keys alone
pub told_same : {K V : Type 0} (eq : K → K → Bool) (m : Meaning K V) (v : ℕ) (es fs : List (K × Stored K V)) (made : List K) → ((q : K) → Has made q → entry_at eq fs q ≡ entry_at eq es q) → told_of eq m v fs made ≡ told_of eq m v es made
told_same eq m v es fs [] h = refl
told_same eq m v es fs (q ∷ made) h = ap (λ o. told_by v q (look m.is_transient o v) ++ told_of eq m v fs made) (h q (inl refl)) ∙ ap (λ xs. told_by v q (says eq m v es q) ++ xs) (told_same eq m v es fs made (λ j i. h j (inr i)))

module _ {U K V R : Type 0} (eq : K → K → Bool) (m : Meaning K V) (v born : ℕ) where
  pub parted_none : (ps : List (K × Share K (Held K V))) (d : DeskSeen K V) (es : List (K × Stored K V)) → MakesParted {U = U} {R = R} eq m v born [] ps d es ps d es
  parted_none ps d es = record {
    made = [];
    distinct = tt;
    of_part = λ q h. absurd h;
    free = λ q h. absurd h;
    all = λ p h f. h;
    order = λ j q h. absurd h;
    these = record { tasks = λ q h. absurd h; told = sym (append-nil d.events); entries = λ q h. absurd h; other_entries = λ q n. refl; edges = λ j q. refl };
    others = λ q n. refl;
  }

  pub parted_end : (xs : List (Part U K V R)) → xs ≡ [] → (ps : List (K × Share K (Held K V))) (d : DeskSeen K V) (es : List (K × Stored K V)) → MakesParted eq m v born xs ps d es ps d es
  parted_end xs none ps d es = subst (λ (z : List (Part U K V R)). MakesParted eq m v born z ps d es ps d es) (sym none) (parted_none ps d es)

module _ {U K V R : Type 0} (eq : K → K → Bool) (equality : IsEquality eq) (m : Meaning K V) (v born : ℕ) (rest : List (Part U K V R)) (p : Part U K V R) (ps qs : List (K × Share K (Held K V))) (d e : DeskSeen K V) (es fs : List (K × Stored K V))
    (made : IsMade eq v (key_in p) ps d es p.making qs e fs) (alone : MakesAlone eq v (key_in p) ps d es qs e fs) (may : AreMakable eq m v born (rest ++ p ∷ []) ps es) where
  abbrev k : K
  k = key_in p

  part : IsPart eq m v born ps es p
  part = may.each p (has_end rest p)

  other_key : (x : Part U K V R) → Has rest x → eq k (key_in x) ≡ false
  other_key x h = elim (same_or_other eq equality k (key_in x)) as (λ _. eq k (key_in x) ≡ false) [
    | inl i ↦ absurd (apart (map key_in rest) (k ∷ []) (key_in x) (subst AreDistinct (map_last key_in rest p) may.distinct) (has_map key_in rest x h) (inl i))
    | inr n ↦ n
  ]

  -- the others are still to be made
  pub makable_next : AreMakable eq m v born rest qs fs
  makable_next = record {
    each = λ x i. (let b = may.each x (has_more rest p x i) in let o = other_key x i in record {
      computed = b.computed;
      whole = ap path_with (alone.tasks (key_in x) o) ∙ b.whole;
      making = making_on eq m v k (key_in x) o ps qs d e es fs alone born x.making b.making;
      own = b.own;
      awaited = b.awaited ∙ by_making (key_in x) o x.making;
    });
    distinct = distinct_left (map key_in rest) (k ∷ []) (subst AreDistinct (map_last key_in rest p) may.distinct);
  }
    where
      by_making : (q : K) → eq k q ≡ false → (x : Making U K V R) → is_awaited eq ps q x ≡ is_awaited eq qs q x
      by_making q o Join = sym (alone.lives q o)
      by_making q o (Match event base task) = refl
      by_making q o (Run event cause ready task) = refl
      by_making q o (Check ready task) = refl

  module _ (rs : List (K × Share K (Held K V))) (f : DeskSeen K V) (gs : List (K × Stored K V)) (h : MakesParted eq m v born rest qs e fs rs f gs) where
    later : (q : K) → Has h.made q → eq k q ≡ false
    later q i = let r = h.of_part q i in subst (λ z. eq k z ≡ false) r.2 (other_key r.0 r.1)

    not_made : Has h.made k → ⊥
    not_made i = not_both (equality.itself k) (later k i)

    not_here : (q : K) → (Has (k ∷ h.made) q → ⊥) → eq k q ≡ false
    not_here q n = elim (same_or_other eq equality k q) as (λ _. eq k q ≡ false) [ inl j ↦ absurd (n (inl j)) | inr o ↦ o ]

    -- a task was made of this one first
    makes_one : (t : Held K V) → IsFree (task_at eq ps k) → ((q : K) → task_at eq qs q ≡ cond (eq k q) (Some t) (task_at eq ps q)) → t ≡ task_by v k born (says eq m v es k) → entry_at eq fs k ≡ entry_by v (says eq m v es k) (entry_at eq es k)
        → e.events ≡ d.events ++ told_by v k (says eq m v es k) → MakesParted eq m v born (rest ++ p ∷ []) ps d es rs f gs
    makes_one t free put is entry told = record {
      made = k ∷ h.made;
      distinct = (not_made, h.distinct);
      of_part = λ q i. elim i as (λ _. (x : Part U K V R) × Has (rest ++ p ∷ []) x × (key_in x ≡ q)) [ inl j ↦ (p, has_end rest p, j) | inr j ↦ (let r = h.of_part q j in (r.0, has_more rest p r.0 r.1, r.2)) ];
      free = λ q i. elim i as (λ _. IsFree (task_at eq ps q)) [ inl j ↦ subst (λ z. IsFree (task_at eq ps z)) j free | inr j ↦ subst IsFree (alone.tasks q (later q j)) (h.free q j) ];
      order = λ j q i. subst (λ z. IsBefore z q j) (sym (map_last key_in rest p)) (elim i as (λ _. IsBefore (map key_in rest ++ k ∷ []) q j) [
        | inl o ↦ (let r = h.of_part q o.1 in subst (λ z. IsBefore (map key_in rest ++ k ∷ []) q z) o.0 (before_end (map key_in rest) k q (subst (Has (map key_in rest)) r.2 (has_map key_in rest r.0 r.1))))
        | inr o ↦ before_more (map key_in rest) k q j (h.order j q o)
      ]);
      all = λ x i g. elim (has_last rest p x i) as (λ _. Has (k ∷ h.made) (key_in x)) [ inl o ↦ inr (h.all x o (subst IsFree (sym (alone.tasks (key_in x) (other_key x o))) g)) | inr s ↦ inl (ap key_in s) ];
      these = record {
        tasks = λ q i. elim i as (λ _. task_at eq rs q ≡ Some (task_by v q born (says eq m v es q))) [
          | inl j ↦ subst (λ z. task_at eq rs z ≡ Some (task_by v z born (says eq m v es z))) j (h.others k not_made ∙ ((put k ∙ ap (λ b. cond b (Some t) (task_at eq ps k)) (equality.itself k)) ∙ ap Some is))
          | inr j ↦ h.these.tasks q j ∙ ap (λ o. Some (task_by v q born (look m.is_transient o v))) (alone.entries q (later q j))
        ];
        told = h.these.told ∙ (ap (λ xs. e.events ++ xs) (told_same eq m v es fs h.made (λ q i. alone.entries q (later q i))) ∙ (ap (λ xs. xs ++ told_of eq m v es h.made) told ∙ append_assoc d.events (told_by v k (says eq m v es k)) (told_of eq m v es h.made)));
        entries = λ q i. elim i as (λ _. entry_at eq gs q ≡ entry_by v (says eq m v es q) (entry_at eq es q)) [
          | inl j ↦ subst (λ z. entry_at eq gs z ≡ entry_by v (says eq m v es z) (entry_at eq es z)) j (h.these.other_entries k not_made ∙ entry)
          | inr j ↦ h.these.entries q j ∙ ap (λ o. entry_by v (look m.is_transient o v) o) (alone.entries q (later q j))
        ];
        other_entries = λ q n. h.these.other_entries q (λ i. n (inr i)) ∙ alone.entries q (not_here q n);
        edges = λ j q. h.these.edges j q ∙ alone.edges j q;
      };
      others = λ q n. h.others q (λ i. n (inr i)) ∙ alone.tasks q (not_here q n);
    }

    -- or there was one
    joins_one : HasTask (task_at eq ps k) → MakesParted eq m v born rest ps d es rs f gs → MakesParted eq m v born (rest ++ p ∷ []) ps d es rs f gs
    joins_one has w = record {
      made = w.made;
      distinct = w.distinct;
      of_part = λ q i. (let r = w.of_part q i in (r.0, has_more rest p r.0 r.1, r.2));
      free = w.free;
      order = λ j q i. subst (λ z. IsBefore z q j) (sym (map_last key_in rest p)) (before_more (map key_in rest) k q j (w.order j q i));
      all = λ x i g. elim (has_last rest p x i) as (λ _. Has w.made (key_in x)) [ inl o ↦ w.all x o g | inr s ↦ absurd (has_free (task_at eq ps k) has (subst (λ (z : Part U K V R). IsFree (task_at eq ps (key_in z))) (sym s) g)) ];
      these = w.these;
      others = w.others;
    }

    pub parted_more : MakesParted eq m v born (rest ++ p ∷ []) ps d es rs f gs
    parted_more = by_making p.making part.making made
      where
        by_making : (x : Making U K V R) → IsMaking eq m v k born ps es x → IsMade eq v k ps d es x qs e fs → MakesParted eq m v born (rest ++ p ∷ []) ps d es rs f gs
        by_making Join i r = joins_one i
            (subst (λ (z : List (K × Share K (Held K V))). MakesParted eq m v born rest z d es rs f gs) r.0
            (subst (λ (z : DeskSeen K V). MakesParted eq m v born rest qs z es rs f gs) r.1
            (subst (λ (z : List (K × Stored K V)). MakesParted eq m v born rest qs e z rs f gs) r.2 h)))
        by_making (Match event base task) i r = makes_one task i.0 r.0.tasks (i.1.2 ∙ ap (task_by v k born) (sym i.1.1))
            (r.2 k ∙ (ap (λ b. cond b (option_map (seen_at v) (entry_at eq es k)) (entry_at eq es k)) (equality.itself k) ∙ ap (λ o. entry_by v o (entry_at eq es k)) (sym i.1.1)))
            (ap (λ (z : DeskSeen K V). z.events) r.1 ∙ ap (λ o. d.events ++ told_by v k o) (sym i.1.1))
        by_making (Run event cause ready task) i r = makes_one task i.0 r.0.tasks (i.1.3 ∙ ap (task_by v k born) (sym i.1.1))
            (ap (λ z. entry_at eq z k) r.2 ∙ ap (λ o. entry_by v o (entry_at eq es k)) (sym i.1.1))
            (r.1.rest.events ∙ (ap (λ y. d.events ++ Start v k y ∷ []) i.1.2 ∙ ap (λ o. d.events ++ told_by v k o) (sym i.1.1)))
        by_making (Check ready task) i r = makes_one task i.0 r.0.tasks (i.1.4 ∙ ap (task_by v k born) (sym i.1.3))
            (ap (λ z. entry_at eq z k) r.2 ∙ ap (λ o. entry_by v o (entry_at eq es k)) (sym i.1.3))
            (r.1.rest.events ∙ (sym (append-nil d.events) ∙ ap (λ o. d.events ++ told_by v k o) (sym i.1.3)))

module _ {U K V R : Type 0} (eq : K → K → Bool) (equality : IsEquality eq) (m : Meaning K V) (v born : ℕ) (xs rest : List (Part U K V R)) (p : Part U K V R) (split : xs ≡ rest ++ p ∷ []) (ps qs : List (K × Share K (Held K V))) (d e : DeskSeen K V) (es fs : List (K × Stored K V))
    (made : IsMade eq v (key_in p) ps d es p.making qs e fs) (alone : MakesAlone eq v (key_in p) ps d es qs e fs) (may : AreMakable eq m v born xs ps es) where
  split_may : AreMakable eq m v born (rest ++ p ∷ []) ps es
  split_may = subst (λ (z : List (Part U K V R)). AreMakable eq m v born z ps es) split may

  pub next_makable : AreMakable eq m v born rest qs fs
  next_makable = makable_next eq equality m v born rest p ps qs d e es fs made alone split_may

  pub next_parted : (rs : List (K × Share K (Held K V))) (f : DeskSeen K V) (gs : List (K × Stored K V)) → MakesParted eq m v born rest qs e fs rs f gs → MakesParted eq m v born xs ps d es rs f gs
  next_parted rs f gs h = subst (λ (z : List (Part U K V R)). MakesParted eq m v born z ps d es rs f gs) (sym split) (parted_more eq equality m v born rest p ps qs d e es fs made alone split_may rs f gs h)
