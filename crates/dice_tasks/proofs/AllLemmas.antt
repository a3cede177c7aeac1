-- Which tasks end if one is given up, and all that ask for it.
use Rattle.std.proofs.Common.{◌≡◌, ◌⊎◌, inl, inr, ◌+◌, ◌-◌, ℕ, Bool, true, false, cond, not, ◌&&◌, List, [], ◌∷◌, ◌++◌, map, Option, Some, refl, sym, ap, ◌∙◌, subst, arith, append_assoc}
use Rattle.std.proofs.lemmas.List.{map-append}
use Rattle.dice_key.specs.Lawful.{IsEquality}
use Rattle.task_share.specs.Asked.{By, Promised, Tasked, is_by}
use Rattle.task_share.specs.Seen.{Share, task_at, is_live, asks}
use Rattle.journal.specs.declared.event.Told.{Told}
use Rattle.core_laws.specs.Tasks.{Outcome, goes_on}
use Rattle.core_laws.proofs.Shapes.{not_both}
use Rattle.dice_tasks.specs.Helds.{Held, held_ended}
use Rattle.dice_tasks.specs.Hands.{DeskSeen, with_event, with_ended, with_told_next}
use Rattle.dice_tasks.specs.Endings.{EndsTask, ListsEnd, ComesOf, told_end, EndsAsker, HasTold, EndsTasks, EndWithAskers}
use Rattle.dice_tasks.proofs.EndsLemmas.{quits_keeps}
use Rattle.dice_tasks.proofs.CascadeLemmas.{quits_room}
use Rattle.dice_tasks.proofs.TellLemmas.{told_events, told_ended}
use Rattle.lists.proofs.Distinct.{distinct_end}
use Rattle.lists.proofs.Members.{has_end, has_last, has_more}
use Rattle.lists.specs.Lists.{AreDistinct, Has}
use Rattle.std.proofs.lemmas.Bool.{and_parts}

module _ {K V : Type 0} (eq : K → K → Bool) (equality : IsEquality eq) (v : ℕ) where
  lists_events : (k : K) (h : Held K V) (o : Outcome K V) (x : Told K V) (ps qs : List (K × Share K (Held K V))) (d e : DeskSeen K V) → ListsEnd eq v k h o x ps qs d e → e.events ≡ d.events ++ x ∷ []
  lists_events k h o x ps qs d e l = ap (λ (y : DeskSeen K V). y.events) l.desk ∙ told_events eq v k h o x ps qs d l.mid l.tells

  -- the room that was made ahead is still there
  lists_rooms : (k : K) (h : Held K V) (o : Outcome K V) (x : Told K V) (ps qs : List (K × Share K (Held K V))) (d e : DeskSeen K V) → ListsEnd eq v k h o x ps qs d e → (e.ready_room ≡ d.ready_room) × (e.live_room ≡ d.live_room)
  lists_rooms k h o x ps qs d e l =
      let t = l.tells in
      let left = t.ends.left in
      let same : e ≡ with_told_next (with_event (with_ended left) x) k = l.desk ∙ ap (λ (y : DeskSeen K V). with_told_next y k) (t.desk ∙ ap (λ (y : DeskSeen K V). with_event y x) t.ends.desk) in
      let a : e.live_room ≡ (left.live_room + 1) - 1 = ap (λ (y : DeskSeen K V). y.live_room) same in
      let b = (quits_keeps h.standing (v, k) d left t.ends.quits).live_room in
      (ap (λ (y : DeskSeen K V). y.ready_room) same ∙ quits_room h.standing (v, k) d left t.ends.quits, omega arith)

  -- at the key whose task ends
  ends_here : (k : K) (h : Held K V) (o : Outcome K V) (ps qs : List (K × Share K (Held K V))) (d e : DeskSeen K V) → EndsTask eq v k h o ps qs d e → task_at eq qs k ≡ Some (held_ended h.name o)
  ends_here k h o ps qs d e ends = ends.tasks k ∙ ap (λ b. cond b (Some (held_ended h.name o)) (task_at eq ps k)) (equality.itself k)

  -- and at another key
  ends_there : (k : K) (h : Held K V) (o : Outcome K V) (ps qs : List (K × Share K (Held K V))) (d e : DeskSeen K V) → EndsTask eq v k h o ps qs d e → (q : K) → (k ≡ q → ⊥) → task_at eq qs q ≡ task_at eq ps q
  ends_there k h o ps qs d e ends q n = ends.tasks q ∙ by_test (eq k q) refl
    where
      by_test : (b : Bool) → eq k q ≡ b → cond b (Some (held_ended h.name o)) (task_at eq ps q) ≡ task_at eq ps q
      by_test true i = absurd (n (equality.same k q i))
      by_test false i = refl

  ends_fewer : (k : K) (h : Held K V) (o : Outcome K V) (ps qs : List (K × Share K (Held K V))) (d e : DeskSeen K V) → EndsTask eq v k h o ps qs d e → (q : K) (a : By K) → asks eq qs q a ≡ true → asks eq ps q a ≡ true
  ends_fewer k h o ps qs d e ends q a i = (and_parts (asks eq ps q a) (not (is_by eq (Tasked k) a)) (sym (ends.asks q a) ∙ i)).0

  ends_promises : (k : K) (h : Held K V) (o : Outcome K V) (ps qs : List (K × Share K (Held K V))) (d e : DeskSeen K V) → EndsTask eq v k h o ps qs d e → (q : K) (n : ℕ) → asks eq qs q (Promised n) ≡ asks eq ps q (Promised n)
  ends_promises k h o ps qs d e ends q n = ends.asks q (Promised n) ∙ and_true (asks eq ps q (Promised n))
    where
      and_true : (b : Bool) → (b && true) ≡ b
      and_true true = refl
      and_true false = refl

  -- it is at work no more, and no other comes to be
  ends_idle : (k : K) (h : Held K V) (o : Outcome K V) (ps qs : List (K × Share K (Held K V))) (d e : DeskSeen K V) → EndsTask eq v k h o ps qs d e → is_live eq qs k ≡ false
  ends_idle k h o ps qs d e ends = ends.live k ∙ (ap (λ b. is_live eq ps k && not b) (equality.itself k) ∙ and_false (is_live eq ps k))
    where
      and_false : (b : Bool) → (b && false) ≡ false
      and_false true = refl
      and_false false = refl

  ends_off : (k : K) (h : Held K V) (o : Outcome K V) (ps qs : List (K × Share K (Held K V))) (d e : DeskSeen K V) → EndsTask eq v k h o ps qs d e → (q : K) → is_live eq ps q ≡ false → is_live eq qs q ≡ false
  ends_off k h o ps qs d e ends q off = ends.live q ∙ ap (λ b. b && not (eq k q)) off

  -- whoever asks asks on, but for this one
  ends_stays : (k : K) (h : Held K V) (o : Outcome K V) (ps qs : List (K × Share K (Held K V))) (d e : DeskSeen K V) → EndsTask eq v k h o ps qs d e → (q j : K) → asks eq ps q (Tasked j) ≡ true → (asks eq qs q (Tasked j) ≡ true) ⊎ (k ≡ j)
  ends_stays k h o ps qs d e ends q j on = by_test (eq k j) refl
    where
      by_test : (b : Bool) → eq k j ≡ b → (asks eq qs q (Tasked j) ≡ true) ⊎ (k ≡ j)
      by_test true i = inr (equality.same k j i)
      by_test false i = inl (ends.asks q (Tasked j) ∙ (ap (λ b. b && not (eq k j)) on ∙ ap not i))

  -- a key of those that ended
  key_ended : (es : List (K × Outcome K V)) (q : K) → Has (map (λ (p : K × Outcome K V). p.0) es) q → (p : K × Outcome K V) × Has es p × (p.0 ≡ q)
  key_ended [] q h = absurd h
  key_ended (p ∷ es) q (inl i) = (p, inl refl, i)
  key_ended (p ∷ es) q (inr h) = let r = key_ended es q h in (r.0, inr r.1, r.2)

  module _ (path : Option (List K)) where
    -- the first ends
    pub all_first : (k : K) (h : Held K V) (o : Outcome K V) (ps qs : List (K × Share K (Held K V))) (d e : DeskSeen K V) → ComesOf path o → ListsEnd eq v k h o (told_end v k o) ps qs d e → EndsTasks eq v path k ((k, o) ∷ []) ps qs d e
    all_first k h o ps qs d e comes l = record {
      events = lists_events k h o (told_end v k o) ps qs d e l;
      first = (o, inl refl);
      comes = λ p i. elim i as (λ _. ComesOf path p.1) [ inl j ↦ subst (λ (z : K × Outcome K V). ComesOf path z.1) j comes | inr n ↦ absurd n ];
      asked = λ p i. elim i as (λ _. (p.0 ≡ k) ⊎ ((q : K × Outcome K V) × Has ((k, o) ∷ []) q × (asks eq ps q.0 (Tasked p.0) ≡ true))) [ inl j ↦ inl (ap (λ (z : K × Outcome K V). z.0) (sym j)) | inr n ↦ absurd n ];
      ended = λ p i. elim i as (λ _. (g : Held K V) × (task_at eq ps p.0 ≡ Some g) × (goes_on g.standing ≡ true) × (task_at eq qs p.0 ≡ Some (held_ended g.name p.1))) [
        | inl j ↦ subst (λ (z : K × Outcome K V). (g : Held K V) × (task_at eq ps z.0 ≡ Some g) × (goes_on g.standing ≡ true) × (task_at eq qs z.0 ≡ Some (held_ended g.name z.1))) j (h, l.tells.ends.was, l.tells.ends.going, ends_here k h o ps qs d l.tells.mid l.tells.ends)
        | inr n ↦ absurd n
      ];
      others = λ q n. ends_there k h o ps qs d l.tells.mid l.tells.ends q (n (k, o) (inl refl));
      fewer = ends_fewer k h o ps qs d l.tells.mid l.tells.ends;
      promises = ends_promises k h o ps qs d l.tells.mid l.tells.ends;
      stays = λ q j on. elim (ends_stays k h o ps qs d l.tells.mid l.tells.ends q j on) as (λ _. (asks eq qs q (Tasked j) ≡ true) ⊎ ((r : Outcome K V) × Has {X = K × Outcome K V} ((k, o) ∷ []) (j, r))) [ inl i ↦ inl i | inr i ↦ inr (o, inl (λ z. (i z, o))) ];
      distinct = ((λ b. b), tt);
      idle = λ p i. elim i as (λ _. is_live eq qs p.0 ≡ false) [ inl j ↦ subst (λ (z : K × Outcome K V). is_live eq qs z.0 ≡ false) j (ends_idle k h o ps qs d l.tells.mid l.tells.ends) | inr n ↦ absurd n ];
      ready_room = (lists_rooms k h o (told_end v k o) ps qs d e l).0;
      live_room = (let r = (lists_rooms k h o (told_end v k o) ps qs d e l).1 in omega arith);
    }

    module _ (k : K) (es : List (K × Outcome K V)) (ps qs rs : List (K × Share K (Held K V))) (d e f : DeskSeen K V) (all : EndsTasks eq v path k es ps qs d e) where
      -- one that asked for one of these ends; a key on the list is one of these
      pub all_more : (a : EndsAsker eq v path qs rs e f) → ((o : Outcome K V) × Has es (a.key, o)) → EndsTasks eq v path k (es ++ (a.asker, a.came) ∷ []) ps rs d f
      all_more a there = record {
        events = lists_events a.asker a.held a.came (told_end v a.asker a.came) qs rs e f a.ends ∙ (ap (λ xs. xs ++ told_end v a.asker a.came ∷ []) all.events ∙ (append_assoc d.events (map tell es) (told_end v a.asker a.came ∷ []) ∙ ap (λ xs. d.events ++ xs) (sym (map-append tell es ((a.asker, a.came) ∷ [])))));
        first = (all.first.0, has_more es (a.asker, a.came) (k, all.first.0) all.first.1);
        comes = λ p i. elim (has_last es (a.asker, a.came) p i) as (λ _. ComesOf path p.1) [ inl j ↦ all.comes p j | inr j ↦ subst (λ (z : K × Outcome K V). ComesOf path z.1) j a.comes ];
        asked = λ p i. elim (has_last es (a.asker, a.came) p i) as (λ _. (p.0 ≡ k) ⊎ ((q : K × Outcome K V) × Has (es ++ (a.asker, a.came) ∷ []) q × (asks eq ps q.0 (Tasked p.0) ≡ true))) [
          | inl j ↦ elim (all.asked p j) as (λ _. (p.0 ≡ k) ⊎ ((q : K × Outcome K V) × Has (es ++ (a.asker, a.came) ∷ []) q × (asks eq ps q.0 (Tasked p.0) ≡ true))) [ inl s ↦ inl s | inr w ↦ inr (w.0, has_more es (a.asker, a.came) w.0 w.1, w.2) ]
          | inr j ↦ inr ((a.key, there.0), has_more es (a.asker, a.came) (a.key, there.0) there.1, subst (λ (z : K × Outcome K V). asks eq ps a.key (Tasked z.0) ≡ true) j (all.fewer a.key (Tasked a.asker) a.asks))
        ];
        ended = λ p i. elim (has_last es (a.asker, a.came) p i) as (λ _. (g : Held K V) × (task_at eq ps p.0 ≡ Some g) × (goes_on g.standing ≡ true) × (task_at eq rs p.0 ≡ Some (held_ended g.name p.1))) [
          | inl j ↦ (let w = all.ended p j in (w.0, w.1, w.2, ends_there a.asker a.held a.came qs rs e a.ends.tells.mid a.ends.tells.ends p.0 (λ s. new p j (sym s)) ∙ w.3))
          | inr j ↦ subst (λ (z : K × Outcome K V). (g : Held K V) × (task_at eq ps z.0 ≡ Some g) × (goes_on g.standing ≡ true) × (task_at eq rs z.0 ≡ Some (held_ended g.name z.1))) j
              (a.held, sym (all.others a.asker new) ∙ a.ends.tells.ends.was, a.ends.tells.ends.going, ends_here a.asker a.held a.came qs rs e a.ends.tells.mid a.ends.tells.ends)
        ];
        others = λ q n. ends_there a.asker a.held a.came qs rs e a.ends.tells.mid a.ends.tells.ends q (n (a.asker, a.came) (has_end es (a.asker, a.came))) ∙ all.others q (λ p i. n p (has_more es (a.asker, a.came) p i));
        fewer = λ q b i. all.fewer q b (ends_fewer a.asker a.held a.came qs rs e a.ends.tells.mid a.ends.tells.ends q b i);
        promises = λ q n. ends_promises a.asker a.held a.came qs rs e a.ends.tells.mid a.ends.tells.ends q n ∙ all.promises q n;
        stays = λ q j on. elim (all.stays q j on) as (λ _. (asks eq rs q (Tasked j) ≡ true) ⊎ ((o : Outcome K V) × Has (es ++ (a.asker, a.came) ∷ []) (j, o))) [
          | inl i ↦ elim (ends_stays a.asker a.held a.came qs rs e a.ends.tells.mid a.ends.tells.ends q j i) as (λ _. (asks eq rs q (Tasked j) ≡ true) ⊎ ((o : Outcome K V) × Has (es ++ (a.asker, a.came) ∷ []) (j, o))) [ inl s ↦ inl s | inr s ↦ inr (a.came, subst (λ z. Has (es ++ (a.asker, a.came) ∷ []) (z, a.came)) s (has_end es (a.asker, a.came))) ]
          | inr w ↦ inr (w.0, has_more es (a.asker, a.came) (j, w.0) w.1)
        ];
        distinct = subst AreDistinct (sym (map-append (λ (p : K × Outcome K V). p.0) es ((a.asker, a.came) ∷ [])))
            (distinct_end (map (λ (p : K × Outcome K V). p.0) es) a.asker all.distinct (λ h. (let r = key_ended es a.asker h in new r.0 r.1 r.2)));
        idle = λ p i. elim (has_last es (a.asker, a.came) p i) as (λ _. is_live eq rs p.0 ≡ false) [
          | inl j ↦ ends_off a.asker a.held a.came qs rs e a.ends.tells.mid a.ends.tells.ends p.0 (all.idle p j)
          | inr j ↦ subst (λ (z : K × Outcome K V). is_live eq rs z.0 ≡ false) j (ends_idle a.asker a.held a.came qs rs e a.ends.tells.mid a.ends.tells.ends)
        ];
        ready_room = (lists_rooms a.asker a.held a.came (told_end v a.asker a.came) qs rs e f a.ends).0 ∙ all.ready_room;
        live_room = (let r = (lists_rooms a.asker a.held a.came (told_end v a.asker a.came) qs rs e f a.ends).1 in let s = all.live_room in omega arith);
      }
        where
          tell : K × Outcome K V → Told K V
          tell p = told_end v p.0 p.1

          -- it is none of those that have ended
          new : (p : K × Outcome K V) → Has es p → p.0 ≡ a.asker → ⊥
          new p i s =
              let w = all.ended p i in
              let x : Some (held_ended w.0.name p.1) ≡ Some a.held = sym w.3 ∙ (ap (task_at eq qs) s ∙ a.ends.tells.ends.was) in
              let y : held_ended w.0.name p.1 ≡ a.held = cc in
              let z : false ≡ true = ap (λ (u : Held K V). goes_on u.standing) y ∙ a.ends.tells.ends.going in
              cc

      -- a key is taken off the list
      pub all_told : HasTold eq qs rs e f → EndsTasks eq v path k es ps rs d f
      all_told t = record {
        events = ap (λ (y : DeskSeen K V). y.events) (sym t.desk) ∙ all.events;
        first = all.first;
        comes = all.comes;
        asked = all.asked;
        ended = λ p i. (let w = all.ended p i in (w.0, w.1, w.2, t.tasks.tasks p.0 ∙ w.3));
        others = λ q n. t.tasks.tasks q ∙ all.others q n;
        fewer = λ q a i. all.fewer q a (sym (t.asks q a) ∙ i);
        promises = λ q n. t.asks q (Promised n) ∙ all.promises q n;
        stays = λ q j on. elim (all.stays q j on) as (λ _. (asks eq rs q (Tasked j) ≡ true) ⊎ ((o : Outcome K V) × Has es (j, o))) [ inl i ↦ inl (t.asks q (Tasked j) ∙ i) | inr w ↦ inr w ];
        distinct = all.distinct;
        idle = λ p i. t.tasks.live p.0 ∙ all.idle p i;
        ready_room = ap (λ (y : DeskSeen K V). y.ready_room) (sym t.desk) ∙ all.ready_room;
        live_room = (let r : e.live_room ≡ f.live_room - 1 = ap (λ (y : DeskSeen K V). y.live_room) t.desk in let s = all.live_room in omega arith);
      }

      -- what is on the list then is among these
      pub listed_more : (a : EndsAsker eq v path qs rs e f) → ((q : K) → Has e.ended q → (o : Outcome K V) × Has es (q, o)) → (q : K) → Has f.ended q → (o : Outcome K V) × Has (es ++ (a.asker, a.came) ∷ []) (q, o)
      listed_more a among q i = elim (has_last e.ended a.asker q (subst (λ xs. Has xs q) ended i)) as (λ _. (o : Outcome K V) × Has (es ++ (a.asker, a.came) ∷ []) (q, o)) [
        | inl j ↦ (let w = among q j in (w.0, has_more es (a.asker, a.came) (q, w.0) w.1))
        | inr j ↦ (a.came, subst (λ z. Has (es ++ (a.asker, a.came) ∷ []) (z, a.came)) j (has_end es (a.asker, a.came)))
      ]
        where
          ended : f.ended ≡ e.ended ++ a.asker ∷ []
          ended = ap (λ (y : DeskSeen K V). y.ended) a.ends.desk ∙ ap (λ xs. xs ++ a.asker ∷ []) (told_ended eq v a.asker a.held a.came (told_end v a.asker a.came) qs rs e a.ends.mid a.ends.tells)

      pub listed_told : HasTold eq qs rs e f → ((q : K) → Has e.ended q → (o : Outcome K V) × Has es (q, o)) → (q : K) → Has f.ended q → (o : Outcome K V) × Has es (q, o)
      listed_told t among q i = among q (subst (λ xs. Has xs q) (ap (λ (y : DeskSeen K V). y.ended) (sym t.desk)) (has_more f.ended t.key q i))

      -- of each of these the askers are still to be told, or there are none
      abbrev pub AreTold : List (K × Outcome K V) → List (K × Share K (Held K V)) → DeskSeen K V → Type 0
      AreTold xs ts g = (q : K) (o : Outcome K V) → Has xs (q, o) → Has g.ended q ⊎ ((j : K) → asks eq ts q (Tasked j) ≡ false)

      pub untold_more : (a : EndsAsker eq v path qs rs e f) → AreTold es qs e → AreTold (es ++ (a.asker, a.came) ∷ []) rs f
      untold_more a told q o i = elim (has_last es (a.asker, a.came) (q, o) i) as (λ _. Has f.ended q ⊎ ((j : K) → asks eq rs q (Tasked j) ≡ false)) [
        | inl h ↦ elim (told q o h) as (λ _. Has f.ended q ⊎ ((j : K) → asks eq rs q (Tasked j) ≡ false)) [
          | inl l ↦ inl (subst (λ xs. Has xs q) (sym ended) (has_more e.ended a.asker q l))
          | inr n ↦ inr (λ j. a.ends.tells.ends.asks q (Tasked j) ∙ ap (λ b. b && not (eq a.asker j)) (n j))
        ]
        | inr h ↦ inl (subst (λ xs. Has xs q) (sym ended) (subst (λ z. Has (e.ended ++ a.asker ∷ []) z) (ap (λ (z : K × Outcome K V). z.0) h) (has_end e.ended a.asker)))
      ]
        where
          ended : f.ended ≡ e.ended ++ a.asker ∷ []
          ended = ap (λ (y : DeskSeen K V). y.ended) a.ends.desk ∙ ap (λ xs. xs ++ a.asker ∷ []) (told_ended eq v a.asker a.held a.came (told_end v a.asker a.came) qs rs e a.ends.mid a.ends.tells)

      pub untold_told : (t : HasTold eq qs rs e f) → AreTold es qs e → AreTold es rs f
      untold_told t told q o i = elim (told q o i) as (λ _. Has f.ended q ⊎ ((j : K) → asks eq rs q (Tasked j) ≡ false)) [
        | inl l ↦ elim (has_last f.ended t.key q (subst (λ xs. Has xs q) (ap (λ (y : DeskSeen K V). y.ended) t.desk) l)) as (λ _. Has f.ended q ⊎ ((j : K) → asks eq rs q (Tasked j) ≡ false)) [
          | inl h ↦ inl h
          | inr h ↦ inr (λ j. t.asks q (Tasked j) ∙ subst (λ z. asks eq qs z (Tasked j) ≡ false) h (t.none j))
        ]
        | inr n ↦ inr (λ j. t.asks q (Tasked j) ∙ n j)
      ]

      -- if nobody is still to be told, all that asked for one of these are among them
      pub with_askers : AreTold es qs e → e.ended ≡ [] → EndWithAskers eq es ps
      with_askers told none q j o i on = elim (all.stays q j on) as (λ _. (r : Outcome K V) × Has es (j, r)) [
        | inl s ↦ elim (told q o i) as (λ _. (r : Outcome K V) × Has es (j, r)) [
          | inl l ↦ absurd (subst (λ xs. Has xs q) none l)
          | inr n ↦ absurd (not_both s (n j))
        ]
        | inr w ↦ w
      ]

    -- the first on the list
    pub listed_first : (k : K) (h : Held K V) (o : Outcome K V) (ps qs : List (K × Share K (Held K V))) (d e : DeskSeen K V) → ListsEnd eq v k h o (told_end v k o) ps qs d e → d.ended ≡ [] → (q : K) → Has e.ended q → (r : Outcome K V) × Has {X = K × Outcome K V} ((k, o) ∷ []) (q, r)
    listed_first k h o ps qs d e l none q i = elim (has_last [] k q (subst (λ xs. Has xs q) ended i)) as (λ _. (r : Outcome K V) × Has {X = K × Outcome K V} ((k, o) ∷ []) (q, r)) [
      | inl j ↦ absurd j
      | inr j ↦ (o, inl (λ z. (j z, o)))
    ]
      where
        ended : e.ended ≡ [] ++ k ∷ []
        ended = ap (λ (y : DeskSeen K V). y.ended) l.desk ∙ (ap (λ xs. xs ++ k ∷ []) (told_ended eq v k h o (told_end v k o) ps qs d l.mid l.tells) ∙ ap (λ xs. xs ++ k ∷ []) none)

    pub untold_first : (k : K) (h : Held K V) (o : Outcome K V) (ps qs : List (K × Share K (Held K V))) (d e : DeskSeen K V) → ListsEnd eq v k h o (told_end v k o) ps qs d e → (q : K) (r : Outcome K V) → Has {X = K × Outcome K V} ((k, o) ∷ []) (q, r) → Has e.ended q ⊎ ((j : K) → asks eq qs q (Tasked j) ≡ false)
    untold_first k h o ps qs d e l q r i = elim i as (λ _. Has e.ended q ⊎ ((j : K) → asks eq qs q (Tasked j) ≡ false)) [
      | inl j ↦ inl (subst (λ xs. Has xs q) (sym ended) (subst (λ z. Has (d.ended ++ k ∷ []) z) (ap (λ (z : K × Outcome K V). z.0) j) (has_end d.ended k)))
      | inr n ↦ absurd n
    ]
      where
        ended : e.ended ≡ d.ended ++ k ∷ []
        ended = ap (λ (y : DeskSeen K V). y.ended) l.desk ∙ ap (λ xs. xs ++ k ∷ []) (told_ended eq v k h o (told_end v k o) ps qs d l.mid l.tells)
