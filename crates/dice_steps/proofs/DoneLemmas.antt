-- What has become of a batch once it was taken up, as contracts say it.
use Rattle.std.proofs.Common.{◌≡◌, ◌≢◌, inl, inr, ℕ, Bool, true, false, cond, ◌&&◌, ◌||◌, List, [], ◌∷◌, length, map, reverse, Option, Some, None, refl, sym, ap, ◌∙◌, subst}
use Rattle.std.specs.List.{AllZip, list_any}
use Rattle.std.specs.Option.{option_map}
use Rattle.std.proofs.lemmas.Option.{none-some}
use Rattle.dice_key.specs.Meaning.{Meaning}
use Rattle.dice_key.specs.Lawful.{IsLawful, IsEquality}
use Rattle.dice_key.specs.declared.universe.Kind.TheVariants.{Injected}
use Rattle.dice_jobs.specs.Jobs.{Assigned, Waits, answered_more}
use Rattle.task_share.specs.Asked.{By, Tasked, WaitOf, is_by}
use Rattle.task_share.specs.Seen.{Share, task_at, is_live, asks, asked_of}
use Rattle.injected.specs.Seen.{Seen}
use Rattle.versioned_graph.specs.Entries.{Stored}
use Rattle.core_laws.specs.Tasks.{IsReady, IsOut, IsWaiting, Ended, WithValue, WithNothing, value_of}
use Rattle.core_laws.specs.Stands.{VersionStands}
use Rattle.core_laws.specs.Desk.{World}
use Rattle.core_laws.proofs.Shapes.{same_or_other}
use Rattle.core_laws.proofs.Turns.{stands_here}
use Rattle.dice_tasks.specs.Helds.{Held, Ahead, task_of, held_of, works}
use Rattle.dice_tasks.specs.Hands.{DeskSeen, desk_of, Working, tasks_of}
use Rattle.dice_tasks.specs.Makings.{IsFree, IsMaking, task_by}
use Rattle.dice_tasks.specs.Waitings.{ParksJob, ReturnsJob, waits_so}
use Rattle.dice_tasks.specs.declared.making.Making.{Making}
use Rattle.dice_tasks.specs.declared.making.Making.TheVariants.{Join, Match, Run, Check}
use Rattle.dice_tasks.proofs.WaitLemmas.{key_there, wait_of}
use Rattle.dice_steps.specs.AtHand.{AtHand}
use Rattle.dice_steps.specs.Orders.{AreLastFirst}
use Rattle.dice_steps.specs.Plans.{key_in, wait_for, waits_of, is_awaited, AreParts, IsAtHand, IsRoomy, GoesOnSo, WaitsSo}
use Rattle.dice_steps.specs.Taken.{MakesTasks, WaitsFor, IsAnswerTo, GoesOnWith}
use Rattle.dice_steps.specs.Batches.{AreMakable, MakesParted, MakesParts}
use Rattle.dice_steps.specs.declared.plan.Part.{Part}
use Rattle.dice_steps.proofs.BatchLemmas.{ended_so}
use Rattle.dice_steps.proofs.MakesLemmas.{value_there}
use Rattle.dice_steps.proofs.PartLemmas.{there_waits, wait_there}
use Rattle.lists.proofs.Members.{has_map}
use Rattle.lists.specs.Lists.{Has}

or_and : (x y t : Bool) → ((x && t) || (y && t)) ≡ ((x || y) && t)
or_and true true true = refl
or_and true true false = refl
or_and true false true = refl
or_and true false false = refl
or_and false y t = refl

-- the waits of one task, by their keys
waits_are : {K : Type 0} (eq : K → K → Bool) (k q : K) (b : By K) (ws : List (WaitOf K)) → ((x : WaitOf K) → Has ws x → x.asker ≡ k) → waits_so eq ws q b ≡ (list_any (λ j. eq j q) (map (λ (x : WaitOf K). x.key) ws) && is_by eq (Tasked k) b)
waits_are {K} eq k q b [] own = refl
waits_are {K} eq k q b (x ∷ ws) own =
    ap (λ j. (eq x.key q && is_by eq (Tasked j) b) || waits_so eq ws q b) (own x (inl refl))
    ∙ (ap (λ z. (eq x.key q && is_by eq (Tasked k) b) || z) (waits_are eq k q b ws (λ y h. own y (inr h)))
    ∙ or_and (eq x.key q) (list_any (λ j. eq j q) (map (λ (x : WaitOf K). x.key) ws)) (is_by eq (Tasked k) b))

-- two lists place by place, if the first has its elements among others
zip_among : {A B : Type 0} (P Q : A → B → Type 0) (all : List A) → ((x : A) (y : B) → Has all x → P x y → Q x y) → (xs : List A) (ys : List B) → ((x : A) → Has xs x → Has all x) → AllZip P xs ys → AllZip Q xs ys
zip_among P Q all f [] [] h z = tt
zip_among P Q all f [] (b ∷ ys) h z = absurd z
zip_among P Q all f (a ∷ xs) [] h z = absurd z
zip_among P Q all f (a ∷ xs) (b ∷ ys) h z = (f a b (h a (inl refl)) z.0, zip_among P Q all f xs ys (λ x i. h x (inr i)) z.1)

-- a task that has a value was not given up
valued_not_free : {K V : Type 0} (o : Option (Held K V)) (x : V) → value_of (option_map task_of o) ≡ Some x → IsFree o → ⊥
valued_not_free o x e f =
    let h = ended_so o x e in
    let g : h.0.standing ≡ Ended WithNothing = subst IsFree h.1 f in
    let z : Ended (WithValue x) ≡ Ended WithNothing = sym h.2 ∙ g in
    cc

module _ {U K V R : Type 0} (eq : K → K → Bool) (equality : IsEquality eq) (m : Meaning K V) (law : IsLawful m) (v : ℕ) (w : World K V) (owed : ℕ) (a : Assigned K V) (ks : List K) (xs : List (Part U K V R)) (ps qs rs : List (K × Share K (Held K V))) (d e f : DeskSeen K V) (es fs : List (K × Stored K V)) (s : Seen K V)
    (hand : AtHand eq m v w owed ps d es s) (out : task_at eq ps a.name.key ≡ Some (held_of a IsOut)) (parts : AreParts {U = U} {R = R} eq m v (length d.events) ps es a.name.key ks xs) (order : AreLastFirst ks (map key_in xs)) (makes : MakesParts eq xs v ps d qs e) (parted : MakesParted eq m v (length d.events) xs ps d es qs e fs) where
  free_out : IsFree (task_at eq ps a.name.key) → ⊥
  free_out g = let z : works a IsOut ≡ Ended WithNothing = subst IsFree out g in cc

  own_not : (q : K) → Has parted.made q → eq a.name.key q ≡ false
  own_not q i = elim (same_or_other eq equality a.name.key q) as (λ _. eq a.name.key q ≡ false) [ inl j ↦ absurd (free_out (subst (λ z. IsFree (task_at eq ps z)) (sym j) (parted.free q i))) | inr n ↦ n ]

  module _ (g : Held K V) (turned : (q : K) → task_at eq rs q ≡ cond (eq a.name.key q) (Some g) (task_at eq qs q)) (told : f.events ≡ e.events) where
    -- a key of another task
    turned_other : (q : K) → eq a.name.key q ≡ false → task_at eq rs q ≡ task_at eq qs q
    turned_other q n = turned q ∙ ap (λ c. cond c (Some g) (task_at eq qs q)) n

    pub tasks_made : MakesTasks eq m v a ks s ps d es rs f fs
    tasks_made = record {
      made = parted.made;
      distinct = parted.distinct;
      needed = λ q i. (let r = parted.of_part q i in record {
        among = subst (Has ks) r.2 (parts.among r.0 r.1);
        computed = subst (λ z. m.kind z ≢ Injected) r.2 (parts.each r.0 r.1).computed;
        free = parted.free q i;
      });
      all = λ q n. elim (parts.all q n.among) as (λ _. Has parted.made q) [
        | inl i ↦ absurd (n.computed i)
        | inr r ↦ subst (Has parted.made) r.2 (parted.all r.0 r.1 (subst (λ z. IsFree (task_at eq ps z)) (sym r.2) n.free))
      ];
      order = λ j q i. order j q (parted.order j q i);
      these = record {
        tasks = λ q i. turned_other q (own_not q i) ∙ parted.these.tasks q i;
        told = told ∙ parted.these.told;
        entries = parted.these.entries;
        other_entries = parted.these.other_entries;
        edges = parted.these.edges;
      };
      others = λ q n miss. turned_other q n ∙ parted.others q miss;
    }

  -- ---- the task waits

  module _ (ws : List (WaitOf K)) (waits : ws ≡ waits_of a.name.key xs) (some : (x : WaitOf K) × Has ws x) (p : Waits K V) (job : p.job ≡ a) (keys : p.keys ≡ ks) (to : ParksJob eq v a.name.key p ws qs rs e f) (work : Working eq m v [] w owed rs f) where
    here_then : VersionStands eq m (reverse f.events) v [] (asked_of eq rs) (tasks_of eq rs)
    here_then = stands_here eq equality m (reverse f.events) v [] (asked_of eq rs) (tasks_of eq rs) w (desk_of f) owed work.stand

    waited_part : (q : K) → Has (map (λ (x : WaitOf K). x.key) ws) q → (y : Part U K V R) × Has xs y × (y.awaited ≡ true) × (key_in y ≡ q)
    waited_part q h =
        let x = wait_of ws q h in
        let r = there_waits a.name.key xs x.0 (subst (λ z. Has z x.0) waits x.1) in
        (r.0, r.1, r.2, sym (ap (λ (z : WaitOf K). z.key) r.3) ∙ x.2)

    pub waits_for : WaitsFor eq m v a ks s ps d es rs f fs
    waits_for = record {
      held = to.tasks a.name.key ∙ (ap (λ c. cond c (Some (held_of p.job (IsWaiting p.keys))) (task_at eq qs a.name.key)) (equality.itself a.name.key) ∙ (λ i. Some (held_of (job i) (IsWaiting (keys i)))));
      awaited = map (λ (x : WaitOf K). x.key) ws;
      some = (some.0.key, has_map (λ (x : WaitOf K). x.key) ws some.0 some.1);
      each = λ q h. (let y = waited_part q h in record {
        among = subst (Has ks) y.3 (parts.among y.0 y.1);
        computed = subst (λ z. m.kind z ≢ Injected) y.3 (parts.each y.0 y.1).computed;
        going = sym (here_then.live q) ∙ (to.live q ∙ subst (λ z. is_live eq qs z ≡ true) y.3 (makes.awaited y.0 y.1 ∙ y.2));
      });
      all = λ q n. elim (parts.all q n.among) as (λ _. Has (map (λ (x : WaitOf K). x.key) ws) q) [
        | inl i ↦ absurd (n.computed i)
        | inr r ↦ (let on : r.0.awaited ≡ true = sym (makes.awaited r.0 r.1) ∙ subst (λ z. is_live eq qs z ≡ true) (sym r.2) (sym (to.live q) ∙ (here_then.live q ∙ n.going)) in
            subst (Has (map (λ (x : WaitOf K). x.key) ws)) r.2 (key_there ws (wait_for a.name.key r.0) (subst (λ z. Has z (wait_for a.name.key r.0)) (sym waits) (wait_there a.name.key xs r.0 r.1 on))))
      ];
      asks = λ q b. to.asks q b ∙ (ap (λ z. z || waits_so eq ws q b) (makes.asks q b) ∙ ap (λ z. asks eq ps q b || z) (waits_are eq a.name.key q b ws own_wait));
    }
      where
        own_wait : (x : WaitOf K) → Has ws x → x.asker ≡ a.name.key
        own_wait x h = let r = there_waits a.name.key xs x (subst (λ z. Has z x) waits h) in ap (λ (z : WaitOf K). z.asker) r.3

  -- ---- or it goes on

  module _ (n : Ahead K V) (known : (p : Part U K V R) → Has xs p → p.awaited ≡ false) (job : n.job ≡ answered_more a ks n.values) (answers : AllZip (IsAtHand eq m v ps es s) ks n.values) (back : ReturnsJob eq v a.name.key a n.job qs rs e f) where
    here_first : VersionStands eq m (reverse d.events) v [] (asked_of eq ps) (tasks_of eq ps)
    here_first = stands_here eq equality m (reverse d.events) v [] (asked_of eq ps) (tasks_of eq ps) w (desk_of d) owed hand.working.stand

    goes_other : (q : K) → eq a.name.key q ≡ false → task_at eq rs q ≡ task_at eq qs q
    goes_other q o = back.table.tasks q ∙ ap (λ c. cond c (Some (held_of n.job IsReady)) (task_at eq qs q)) o

    -- a part that is not waited for, and whose key has no value, has a key for which a task is made
    part_free : (p : Part U K V R) → Has xs p → value_of (tasks_of eq ps (key_in p)) ≡ None → IsFree (task_at eq ps (key_in p))
    part_free p h none = by_making p.making (parts.each p h).awaited (parts.each p h).making
      where
        by_making : (x : Making U K V R) → p.awaited ≡ is_awaited eq ps (key_in p) x → IsMaking eq m v (key_in p) (length d.events) ps es x → IsFree (task_at eq ps (key_in p))
        by_making Join t i = absurd (let r = value_there (task_at eq ps (key_in p)) i (sym (here_first.live (key_in p)) ∙ (sym t ∙ known p h)) (parts.each p h).whole in none-some r.0 (sym none ∙ r.1))
        by_making (Match event base task) t i = i.0
        by_making (Run event cause ready task) t i = i.0
        by_making (Check ready task) t i = i.0

    answer_to : (q : K) (x : V) → Has ks q → IsAtHand eq m v ps es s q x → IsAnswerTo eq m v a ks s ps d es rs f fs q x
    answer_to q x h (inl i) = inl i
    answer_to q x h (inr (inl i)) = inr (ap (λ (o : Option (Held K V)). value_of (option_map task_of o)) (goes_other q other ∙ parted.others q (λ j. valued_not_free (task_at eq ps q) x i (parted.free q j))) ∙ i)
      where
        none_out : value_of (option_map task_of (Some (held_of a IsOut))) ≡ Some x → ⊥
        none_out z = none-some x z

        other : eq a.name.key q ≡ false
        other = elim (same_or_other eq equality a.name.key q) as (λ _. eq a.name.key q ≡ false) [
          | inl j ↦ absurd (none_out (sym (ap (λ (o : Option (Held K V)). value_of (option_map task_of o)) out) ∙ subst (λ z. value_of (tasks_of eq ps z) ≡ Some x) (sym j) i))
          | inr o ↦ o
        ]
    answer_to q x h (inr (inr i)) = elim (parts.all q h) as (λ _. IsAnswerTo eq m v a ks s ps d es rs f fs q x) [
      | inl j ↦ absurd (i.2 j)
      | inr r ↦ inr (made_value (subst (Has parted.made) r.2 (parted.all r.0 r.1 (part_free r.0 r.1 (subst (λ z. value_of (tasks_of eq ps z) ≡ None) (sym r.2) i.3)))))
    ]
      where
        made_value : Has parted.made q → value_of (tasks_of eq rs q) ≡ Some x
        made_value j = ap (λ (o : Option (Held K V)). value_of (option_map task_of o)) (goes_other q (own_not q j) ∙ (parted.these.tasks q j ∙ ap (λ o. Some (task_by v q (length d.events) o)) i.1))

    pub goes_on_with : GoesOnWith eq m v a ks s ps d es rs f fs
    goes_on_with = record {
      values = n.values;
      held = back.table.tasks a.name.key ∙ (ap (λ c. cond c (Some (held_of n.job IsReady)) (task_at eq qs a.name.key)) (equality.itself a.name.key) ∙ ap (λ (z : Assigned K V). Some (held_of z IsReady)) job);
      answers = zip_among (IsAtHand eq m v ps es s) (IsAnswerTo eq m v a ks s ps d es rs f fs) ks answer_to ks n.values (λ x h. h) answers;
      asks = λ q b. back.table.asks q b ∙ makes.asks q b;
    }

-- ---- the whole, by the names in the code

module _ {U K V R : Type 0} (eq : K → K → Bool) (equality : IsEquality eq) (m : Meaning K V) (law : IsLawful m) (v : ℕ) (k : K) (a : Assigned K V) (own : a.name.key ≡ k) (ks : List K) (xs : List (Part U K V R)) (w : World K V) (owed : ℕ) (ps : List (K × Share K (Held K V))) (d : DeskSeen K V) (es : List (K × Stored K V)) (s : Seen K V)
    (hand : AtHand eq m v w owed ps d es s) (out : task_at eq ps k ≡ Some (held_of a IsOut)) (roomy : IsRoomy eq m v owed a ks ps d es s xs) (qs rs : List (K × Share K (Held K V))) (e f : DeskSeen K V) (fs : List (K × Stored K V)) (makes : MakesParts eq xs v ps d qs e)
    (looked : (born : ℕ) → AreMakable eq m v born xs ps es → MakesParted eq m v born xs ps d es qs e fs) where
  out_own : task_at eq ps a.name.key ≡ Some (held_of a IsOut)
  out_own = subst (λ z. task_at eq ps z ≡ Some (held_of a IsOut)) (sym own) out

  all_parted : MakesParted eq m v (length d.events) xs ps d es qs e fs
  all_parted = looked (length d.events) (record { each = roomy.parts.each; distinct = roomy.parts.distinct })

  pub goes_done : (n : Ahead K V) → GoesOnSo eq m v owed a ks ps d es s xs n → ReturnsJob eq v k a n.job qs rs e f → MakesTasks eq m v a ks s ps d es rs f fs × GoesOnWith eq m v a ks s ps d es rs f fs
  goes_done n plan back0 =
      let back = subst (λ z. ReturnsJob eq v z a n.job qs rs e f) (sym own) back0 in (
        tasks_made eq equality m law v w owed a ks xs ps qs rs d e f es fs s hand out_own roomy.parts roomy.order makes all_parted (held_of n.job IsReady) back.table.tasks back.desk.rest.events,
        goes_on_with eq equality m law v w owed a ks xs ps qs rs d e f es fs s hand out_own roomy.parts roomy.order makes all_parted n plan.known plan.job plan.answers back,
      )

  pub waits_done : (ws : List (WaitOf K)) → WaitsSo eq m v owed a ks ps d es s xs ws → (p : Waits K V) → p.job ≡ a → p.keys ≡ ks → ParksJob eq v k p ws qs rs e f → Working eq m v [] w owed rs f → MakesTasks eq m v a ks s ps d es rs f fs × WaitsFor eq m v a ks s ps d es rs f fs
  waits_done ws plan p job keys to0 work =
      let to = subst (λ z. ParksJob eq v z p ws qs rs e f) (sym own) to0 in (
        tasks_made eq equality m law v w owed a ks xs ps qs rs d e f es fs s hand out_own roomy.parts roomy.order makes all_parted (held_of p.job (IsWaiting p.keys)) to.tasks to.desk.rest.events,
        waits_for eq equality m law v w owed a ks xs ps qs rs d e f es fs s hand out_own roomy.parts roomy.order makes all_parted ws plan.waits plan.some p job keys to work,
      )
