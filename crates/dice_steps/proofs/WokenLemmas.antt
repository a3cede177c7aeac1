-- Who waits for one key alone, and that they may be woken when its task has ended with a value.
use Rattle.std.proofs.Common.{◌≡◌, ◌<◌, ◌≤◌, ◌+◌, ◌⊎◌, inl, inr, ℕ, suc, Bool, true, false, cond, not, ◌&&◌, ◌||◌, List, [], ◌∷◌, ◌++◌, length, map, take, drop, get_or, slice_get, Option, Some, None, refl, sym, ap, ◌∙◌, subst, drop-cons}
use Rattle.std.proofs.lemmas.Option.{same_Some, none-some, slice_get-map, slice_get-get_or}
use Rattle.std.proofs.lemmas.List.{take-append-drop, map-append, length-map, take_more, take_all}
use Rattle.std.specs.List.{list_any, AllByRecursion, AllZip}
use Rattle.std.specs.Option.{option_map}
use Rattle.dice_key.specs.Lawful.{IsEquality}
use Rattle.dice_key.specs.Meaning.{Meaning}
use Rattle.dice_key.proofs.KeySets.{any_has, has_any}
use Rattle.dice_model.specs.Eval.{HasValue}
use Rattle.dice_model.proofs.Inputs.{injected_value}
use Rattle.dice_model.proofs.Traces.{zip_map}
use Rattle.dice_jobs.specs.Jobs.{Assigned, Waits, Computes, Checks}
use Rattle.task_share.specs.Asked.{By, Tasked, is_by}
use Rattle.task_share.specs.Seen.{Share, task_at, asks, asked_of}
use Rattle.injected.specs.Seen.{Seen}
use Rattle.injected.proofs.LogLemmas.{log_inputs}
use Rattle.journal.specs.declared.event.Told.{Told}
use Rattle.journal.specs.Events.{commits_of}
use Rattle.core_laws.specs.Tasks.{IsReady, IsOut, IsWaiting, WithValue, Standing, Works, Ended, batch_of, value_of, waits_for}
use Rattle.core_laws.specs.Stands.{VersionStands}
use Rattle.core_laws.proofs.Answered.{ended_value}
use Rattle.core_laws.proofs.Shapes.{same_or_other, other_way}
use Rattle.dice_tasks.specs.Helds.{Held, Ahead, FollowsOn, task_of, held_of, held_ended}
use Rattle.dice_tasks.specs.Hands.{DeskSeen, tasks_of}
use Rattle.dice_tasks.specs.Endings.{EndsTask}
use Rattle.dice_steps.specs.Cells.{CellsStand}
use Rattle.dice_tasks.specs.Waitings.{Wakes, MayWake}
use Rattle.dice_steps.specs.Wokens.{AsksAlone, AsksMore, HasAnswer, IsAnswer, WaitsAlone, HasAnswers, IsAnswered, AreWoken}
use Rattle.lists.proofs.Distinct.{apart, distinct_end}
use Rattle.lists.proofs.Each.{all_end, zip_end}
use Rattle.lists.proofs.Members.{has_end, has_last, has_more, has_right}
use Rattle.lists.specs.Lists.{AreDistinct, Has}
use Rattle.std.proofs.lemmas.Bool.{and_parts}

-- ---- lists

module _ {X Y : Type 0} (f : X → Y) (xs : List X) (i : ℕ) (x : X) (within : i < length xs) (is : x ≡ get_or xs i x) where
  -- the first of a list with one more
  pub first_more : map f (take (i + 1) xs) ≡ map f (take i xs) ++ f x ∷ []
  first_more = ap (map f) (take_more xs i x within ∙ ap (λ z. take i xs ++ z ∷ []) (sym is)) ∙ map-append f (take i xs) (x ∷ [])

  split : map f xs ≡ map f (take i xs) ++ f x ∷ map f (drop (suc i) xs)
  split = ap (map f) (sym (take-append-drop i xs) ∙ ap (λ z. take i xs ++ z) (drop-cons xs i x within ∙ ap (λ z. z ∷ drop (suc i) xs) (sym is))) ∙ map-append f (take i xs) (x ∷ drop (suc i) xs)

  pub among : Has (map f xs) (f x)
  among = subst (λ z. Has z (f x)) (sym split) (has_right (map f (take i xs)) (f x ∷ map f (drop (suc i) xs)) (f x) (inl refl))

  -- it is none of the first
  pub is_new : AreDistinct (map f xs) → Has (map f (take i xs)) (f x) → ⊥
  is_new d h = apart (map f (take i xs)) (f x ∷ map f (drop (suc i) xs)) (f x) (subst AreDistinct split d) h (inl refl)

-- two lists side by side, of numbers and of what they are the numbers of: as many, and one of each
module _ {N A K : Type 0} (f : N → Option K) (g : A → K) (ns : List N) (ks : List A) (named : map f ns ≡ map Some (map g ks)) where
  pub as_many : length ns ≡ length ks
  as_many = sym (length-map ns f) ∙ (ap length named ∙ (length-map (map g ks) Some ∙ length-map ks g))

  pub named_at : (i : ℕ) (n : N) (k : A) → i < length ns → i < length ks → n ≡ get_or ns i n → k ≡ get_or ks i k → f n ≡ Some (g k)
  named_at i n k within among is there =
      let a : slice_get (map f ns) i ≡ Some (f n) = slice_get-map f ns i ∙ ap (option_map f) (slice_get-get_or ns i n within ∙ ap Some (sym is)) in
      let b : slice_get (map g ks) i ≡ Some (g k) = slice_get-map g ks i ∙ ap (option_map g) (slice_get-get_or ks i k among ∙ ap Some (sym there)) in
      let c : slice_get (map Some (map g ks)) i ≡ Some (Some (g k)) = slice_get-map Some (map g ks) i ∙ ap (option_map Some) b in
      same_Some (f n) (Some (g k)) (sym a ∙ (ap (λ os. slice_get os i) named ∙ c))

-- one answer more
pub zip_next : {A B X : Type 0} (R : A → B → Type 0) (f : X → A) (xs : List X) (i : ℕ) (x : X) (ys zs : List B) (y : B) → i < length xs → x ≡ get_or xs i x → AllZip R (map f (take i xs)) ys → R (f x) y → zs ≡ ys ++ y ∷ [] → AllZip R (map f (take (i + 1) xs)) zs
zip_next R f xs i x ys zs y within is z r e = subst (AllZip R (map f (take (i + 1) xs))) (sym e) (subst (λ us. AllZip R us (ys ++ y ∷ [])) (sym (first_more f xs i x within is)) (zip_end R (map f (take i xs)) ys (f x) y z r))

-- all of a list
pub all_taken : {X Y : Type 0} (f : X → Y) (xs : List X) (i : ℕ) → length xs ≤ i → map f (take i xs) ≡ map f xs
all_taken f xs i l = ap (map f) (take_all i xs l)

-- ---- whether a task asks for one key alone

module _ {K : Type 0} (eq : K → K → Bool) (equality : IsEquality eq) where
  -- if each of these is k, nothing else is among them
  only_this : (k : K) (ws : List K) → AllByRecursion (λ x. x ≡ k) ws → (q : K) → list_any (eq q) ws ≡ true → eq k q ≡ true
  only_this k [] a q e = let c : false ≡ true = e in cc
  only_this k (w ∷ ws) a q e = by_test (only_this k ws a.1 q) (eq q w) refl e
    where
      by_test : (list_any (eq q) ws ≡ true → eq k q ≡ true) → (b : Bool) → eq q w ≡ b → (b || list_any (eq q) ws) ≡ true → eq k q ≡ true
      by_test again true i f = subst (λ z. eq k z ≡ true) (sym (equality.same q w i ∙ a.0)) (equality.itself k)
      by_test again false i f = again f

module _ {K V : Type 0} (eq : K → K → Bool) (equality : IsEquality eq) (k : K) (ps : List (K × Share K (Held K V))) where
  pub alone_of : (j : K) (ws : List K) → ((q : K) → asks eq ps q (Tasked j) ≡ list_any (eq q) ws) → AllByRecursion (λ x. x ≡ k) ws → AsksAlone eq k ps j
  alone_of j ws mirrored all q on = only_this eq equality k ws all q (sym (mirrored q) ∙ on)

  pub more_of : (j q : K) (ws : List K) → ((q : K) → asks eq ps q (Tasked j) ≡ list_any (eq q) ws) → Has ws q → eq q k ≡ false → AsksMore eq k ps j
  more_of j q ws mirrored h n = (q, other_way eq equality q k n, mirrored q ∙ has_any eq equality ws q h)

-- each of the first is k, with one more
pub all_same_more : {X K : Type 0} (f : X → K) (k : K) (xs : List X) (i : ℕ) (x : X) → i < length xs → x ≡ get_or xs i x → AllByRecursion (λ z. z ≡ k) (map f (take i xs)) → f x ≡ k → AllByRecursion (λ z. z ≡ k) (map f (take (i + 1) xs))
all_same_more f k xs i x within is all e = subst (AllByRecursion (λ z. z ≡ k)) (sym (first_more f xs i x within is)) (all_end (λ z. z ≡ k) (map f (take i xs)) (f x) all e)

-- ---- who is woken

module _ {K V : Type 0} (eq : K → K → Bool) (m : Meaning K V) (cells : Seen K V) (v : ℕ) (k : K) (x : V) (ps : List (K × Share K (Held K V))) where
  -- the same of the askers that were looked at so far
  pub record SoFar (done : List K) (ys : List (Wakes K V)) : Type 0 where
    pub version : (y : Wakes K V) → Has ys y → y.place.0 ≡ v
    pub only : (y : Wakes K V) → Has ys y → AsksAlone eq k ps y.place.1
    pub answered : (y : Wakes K V) → Has ys y → IsAnswered eq m cells v k x ps y.place.1 y.ahead
    pub within : (y : Wakes K V) → Has ys y → Has done y.place.1
    pub distinct : AreDistinct (map (λ (y : Wakes K V). y.place.1) ys)
    pub others : (j : K) → Has done j → ((y : Wakes K V) × Has ys y × (y.place.1 ≡ j)) ⊎ AsksMore eq k ps j

  pub none_so_far : (done : List K) (ys : List (Wakes K V)) → done ≡ [] → ys ≡ [] → SoFar done ys
  none_so_far done ys d e = subst (λ z. SoFar z ys) (sym d) (subst (SoFar []) (sym e) (record {
    version = λ y h. absurd h;
    only = λ y h. absurd h;
    answered = λ y h. absurd h;
    within = λ y h. absurd h;
    distinct = tt;
    others = λ j h. absurd h;
  }))

  module _ (done : List K) (ys : List (Wakes K V)) (so : SoFar done ys) where
    -- one that asks for another key too
    pub other_more : (j : K) (all : List K) → all ≡ done ++ j ∷ [] → AsksMore eq k ps j → SoFar all ys
    other_more j all e more = subst (λ z. SoFar z ys) (sym e) (record {
      version = so.version;
      only = so.only;
      answered = so.answered;
      within = λ y h. has_more done j y.place.1 (so.within y h);
      distinct = so.distinct;
      others = λ i h. elim (has_last done j i h) as (λ _. ((y : Wakes K V) × Has ys y × (y.place.1 ≡ i)) ⊎ AsksMore eq k ps i) [
        | inl o ↦ so.others i o
        | inr q ↦ inr (subst (AsksMore eq k ps) q more)
      ];
    })

    -- one that is woken
    pub woken_more : (j : K) (all : List K) (y : Wakes K V) (zs : List (Wakes K V)) → all ≡ done ++ j ∷ [] → zs ≡ ys ++ y ∷ [] → (Has done j → ⊥) → y.place ≡ (v, j) → AsksAlone eq k ps j → IsAnswered eq m cells v k x ps j y.ahead → SoFar all zs
    woken_more j all y zs d e new is alone answered = subst (λ z. SoFar z zs) (sym d) (subst (SoFar (done ++ j ∷ [])) (sym e) (record {
      version = λ z h. elim (has_last ys y z h) as (λ _. z.place.0 ≡ v) [ inl o ↦ so.version z o | inr q ↦ subst (λ (a : Wakes K V). a.place.0 ≡ v) q (ap (λ (p : ℕ × K). p.0) is) ];
      only = λ z h. elim (has_last ys y z h) as (λ _. AsksAlone eq k ps z.place.1) [ inl o ↦ so.only z o | inr q ↦ subst (λ (a : Wakes K V). AsksAlone eq k ps a.place.1) q (subst (AsksAlone eq k ps) (sym key) alone) ];
      answered = λ z h. elim (has_last ys y z h) as (λ _. IsAnswered eq m cells v k x ps z.place.1 z.ahead) [ inl o ↦ so.answered z o | inr q ↦ subst (λ (a : Wakes K V). IsAnswered eq m cells v k x ps a.place.1 a.ahead) q (subst (λ a. IsAnswered eq m cells v k x ps a y.ahead) (sym key) answered) ];
      within = λ z h. elim (has_last ys y z h) as (λ _. Has (done ++ j ∷ []) z.place.1) [ inl o ↦ has_more done j z.place.1 (so.within z o) | inr q ↦ subst (λ (a : Wakes K V). Has (done ++ j ∷ []) a.place.1) q (subst (Has (done ++ j ∷ [])) (sym key) (has_end done j)) ];
      distinct = subst AreDistinct (sym (map-append (λ (z : Wakes K V). z.place.1) ys (y ∷ []))) (distinct_end (map (λ (z : Wakes K V). z.place.1) ys) y.place.1 so.distinct (λ h. new (subst (Has done) key (there ys so.within y.place.1 h))));
      others = λ i h. elim (has_last done j i h) as (λ _. ((z : Wakes K V) × Has (ys ++ y ∷ []) z × (z.place.1 ≡ i)) ⊎ AsksMore eq k ps i) [
        | inl o ↦ elim (so.others i o) as (λ _. ((z : Wakes K V) × Has (ys ++ y ∷ []) z × (z.place.1 ≡ i)) ⊎ AsksMore eq k ps i) [ inl r ↦ inl (r.0, has_more ys y r.0 r.1, r.2) | inr r ↦ inr r ]
        | inr q ↦ inl (y, has_end ys y, key ∙ q)
      ];
    }))
      where
        key : y.place.1 ≡ j
        key = ap (λ (p : ℕ × K). p.1) is

        there : (zs : List (Wakes K V)) → ((z : Wakes K V) → Has zs z → Has done z.place.1) → (i : K) → Has (map (λ (z : Wakes K V). z.place.1) zs) i → Has done i
        there [] f i h = absurd h
        there (z ∷ zs) f i (inl q) = subst (Has done) q (f z (inl refl))
        there (z ∷ zs) f i (inr h) = there zs (λ a l. f a (inr l)) i h

  -- all were looked at
  pub all_woken : IsEquality eq → (askers : List K) (ys : List (Wakes K V)) → ((j : K) → list_any (eq j) askers ≡ asks eq ps k (Tasked j)) → SoFar askers ys → AreWoken eq m cells v k x ps ys
  all_woken equality askers ys are so = record {
    version = so.version;
    asking = λ y h. sym (are y.place.1) ∙ has_any eq equality askers y.place.1 (so.within y h);
    only = so.only;
    answered = so.answered;
    distinct = so.distinct;
    others = λ j on. so.others j (any_has eq equality askers j (are j ∙ on));
  }

-- ---- each that waits for one key alone has answers to its batch

module _ {K V : Type 0} where
  -- a task that waits does so with a job
  pub waits_of : (h : Held K V) (ks : List K) → waits_for h.standing ≡ Some ks → (a : Assigned K V) × (h ≡ held_of a (IsWaiting ks))
  waits_of h ks e = by_standing h.standing refl e
    where
      by_standing : (s : Standing K V) → h.standing ≡ s → waits_for s ≡ Some ks → (a : Assigned K V) × (h ≡ held_of a (IsWaiting ks))
      by_standing (Works Computes (IsWaiting ls) A) i f = (record { name = h.name; answered = A; work = Computes }, ap (λ s. record { name = h.name; standing = s }) (i ∙ ap (λ z. Works Computes (IsWaiting z) A) (same_Some ls ks f)))
      by_standing (Works (Checks x T b) (IsWaiting ls) A) i f = (record { name = h.name; answered = A; work = Checks x T b }, ap (λ s. record { name = h.name; standing = s }) (i ∙ ap (λ z. Works (Checks x T b) (IsWaiting z) A) (same_Some ls ks f)))
      by_standing (Works w IsReady A) i f = absurd (none-some ks f)
      by_standing (Works w IsOut A) i f = absurd (none-some ks f)
      by_standing (Ended o) i f = absurd (none-some ks f)

  -- what it goes on with, if all is answered
  pub answered_so : (eq : K → K → Bool) (m : Meaning K V) (cells : Seen K V) (v : ℕ) (k : K) (x : V) (ps : List (K × Share K (Held K V))) (j : K) (h : Held K V) (w : Waits K V) (n : Ahead K V) (ys : List V) → task_at eq ps j ≡ Some h → h ≡ held_of w.job (IsWaiting w.keys) → FollowsOn h n → n.values ≡ ys
      → AllZip (IsAnswer eq m cells v k x ps) w.keys ys → IsAnswered eq m cells v k x ps j n
  answered_so eq m cells v k x ps j h w n ys was is f values z = record {
    held = h;
    was = was;
    follows = f;
    answers = subst (λ ks. AllZip (IsAnswer eq m cells v k x ps) ks n.values) (same_Some w.keys f.waits.keys (sym (ap (λ (z : Held K V). waits_for z.standing) is) ∙ ap (λ (z : Held K V). waits_for z.standing) f.held)) (subst (AllZip (IsAnswer eq m cells v k x ps) w.keys) (sym values) z);
  }

module _ {K V : Type 0} (eq : K → K → Bool) (equality : IsEquality eq) (m : Meaning K V) (R : List (Told K V)) (v : ℕ) (W : List K) (ps : List (K × Share K (Held K V))) (stands : VersionStands eq m R v W (asked_of eq ps) (tasks_of eq ps)) where
  pub has_answers : (k : K) → HasAnswers eq m k ps
  has_answers k j on alone = by_task (task_at eq ps j) refl b.1
    where
      b : (ks : List K) × (batch_of (tasks_of eq ps j) ≡ Some ks) × Has ks k
      b = stands.waiting k j on

      answers : (q : K) → Has b.0 q → HasAnswer eq m k ps q
      answers q h = elim (stands.batch j b.0 b.1 q h) as (λ _. HasAnswer eq m k ps q) [
        | inl i ↦ inl i
        | inr r ↦ elim r as (λ _. HasAnswer eq m k ps q) [ inl a ↦ inr (inl (sym (equality.same k q (alone q a)))) | inr y ↦ inr (inr y) ]
      ]

      by_task : (o : Option (Held K V)) → task_at eq ps j ≡ o → batch_of (option_map task_of o) ≡ Some b.0 → WaitsAlone eq m k ps j
      by_task None i e = absurd (none-some b.0 e)
      by_task (Some h) i e = let w = waits_of h b.0 e in record { waits = record { job = w.0; keys = b.0 }; held = i ∙ ap Some w.1; answers = answers }

  -- ---- and so they may be woken

  module _ (k : K) (h : Held K V) (x : V) (qs : List (K × Share K (Held K V))) (d e : DeskSeen K V) (ends : EndsTask eq v k h (WithValue x) ps qs d e) (idle : waits_for h.standing ≡ None) (cells : Seen K V) where
    -- the task that ends is none of those that wait
    not_waiting : (j : K) (g : Held K V) (n : Ahead K V) → task_at eq ps j ≡ Some g → FollowsOn g n → eq k j ≡ false
    not_waiting j g n was follows = elim (same_or_other eq equality k j) as (λ _. eq k j ≡ false) [
      | inl q ↦ absurd (clash q)
      | inr o ↦ o
    ]
      where
        clash : k ≡ j → ⊥
        clash q =
            let same : h ≡ g = same_Some h g (sym ends.was ∙ (ap (task_at eq ps) q ∙ was)) in
            none-some follows.waits.keys (sym idle ∙ (ap (λ (z : Held K V). waits_for z.standing) same ∙ ap (λ (z : Held K V). waits_for z.standing) follows.held))

    pub answer_true : CellsStand eq R cells → HasValue eq m (commits_of R) v k x → (q : K) (y : V) → IsAnswer eq m cells v k x ps q y → HasValue eq m (commits_of R) v q y
    answer_true stood here q y a = elim a as (λ _. HasValue eq m (commits_of R) v q y) [
      | inl i ↦ subst (HasValue eq m (commits_of R) v q) (sym (i.1 ∙ log_inputs eq m (commits_of R) cells stood.are v q)) (injected_value eq m (commits_of R) v q i.0)
      | inr r ↦ elim r as (λ _. HasValue eq m (commits_of R) v q y) [
        | inl i ↦ subst (λ z. HasValue eq m (commits_of R) v z y) (sym i.0) (subst (HasValue eq m (commits_of R) v k) (sym i.1) here)
        | inr i ↦ ended_value eq m R v W (asked_of eq ps) (tasks_of eq ps) stands q y i
      ]
    ]

    pub may_wake : (S : List (Told K V)) (ys : List (Wakes K V)) → commits_of S ≡ commits_of R → CellsStand eq R cells → HasValue eq m (commits_of R) v k x → AreWoken eq m cells v k x ps ys → MayWake eq m S v k ys qs
    may_wake S ys commits stood here woken = record {
      each = λ y i. (let a = woken.answered y i in record {
        version = woken.version y i;
        held = a.held;
        was = ends.tasks y.place.1 ∙ (ap (λ c. cond c (Some (held_ended h.name (WithValue x))) (task_at eq ps y.place.1)) (not_waiting y.place.1 a.held y.ahead a.was a.follows) ∙ a.was);
        follows = a.follows;
        only = λ q on. woken.only y i q (before q (Tasked y.place.1) on);
        truly = subst (λ z. AllZip (HasValue eq m z y.place.0) a.follows.waits.keys y.ahead.values) (sym commits) (subst (λ z. AllZip (HasValue eq m (commits_of R) z) a.follows.waits.keys y.ahead.values) (sym (woken.version y i))
            (zip_map (IsAnswer eq m cells v k x ps) (HasValue eq m (commits_of R) v) a.follows.waits.keys y.ahead.values (λ q z b r. answer_true stood here q z r) a.answers));
      });
      distinct = woken.distinct;
      others = λ j on. elim (woken.others j (before k (Tasked j) on)) as (λ _. ((y : Wakes K V) × Has ys y × (y.place.1 ≡ j)) ⊎ ((q : K) × (eq k q ≡ false) × (asks eq qs q (Tasked j) ≡ true))) [
        | inl y ↦ inl y
        | inr r ↦ inr (r.0, r.1, ends.asks r.0 (Tasked j) ∙ both (asks eq ps r.0 (Tasked j)) (not (eq k j)) r.2 (and_parts (asks eq ps k (Tasked j)) (not (eq k j)) (sym (ends.asks k (Tasked j)) ∙ on)).1)
      ];
      value = (x, ap (λ (z : Option (Held K V)). value_of (option_map task_of z)) (ends.tasks k ∙ ap (λ c. cond c (Some (held_ended h.name (WithValue x))) (task_at eq ps k)) (equality.itself k)));
    }
      where
        both : (a b : Bool) → a ≡ true → b ≡ true → (a && b) ≡ true
        both true b p q = q
        both false b p q = p

        before : (q : K) (a : By K) → asks eq qs q a ≡ true → asks eq ps q a ≡ true
        before q a on = (and_parts (asks eq ps q a) (not (is_by eq (Tasked k) a)) (sym (ends.asks q a) ∙ on)).0
