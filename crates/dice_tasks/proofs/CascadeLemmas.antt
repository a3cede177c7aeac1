-- One task after the other is dropped.
use Rattle.std.proofs.Common.{◌≡◌, ◌<◌, ◌+◌, ◌-◌, ℕ, Bool, true, false, cond, not, ◌&&◌, ◌||◌, List, [], ◌∷◌, ◌++◌, map, Option, None, refl, sym, ap, ◌∙◌, subst, arith, append_assoc}
use Rattle.std.proofs.lemmas.List.{map-append, append-nil}
use Rattle.std.specs.List.{list_any}
use Rattle.dice_key.specs.Lawful.{IsEquality}
use Rattle.task_share.specs.Asked.{Tasked, Asked, is_by, Takes, IsSame, IsDone, Cascade}
use Rattle.task_share.specs.Seen.{Share, task_at, asked_of, KeepsTasks, KeepsAsks}
use Rattle.journal.specs.declared.event.Told.TheVariants.{Drop}
use Rattle.core_laws.specs.Tasks.{IsReady, IsOut, IsWaiting, Standing, Works, Ended}
use Rattle.core_laws.proofs.Shapes.{other_way}
use Rattle.dice_tasks.specs.Helds.{Held}
use Rattle.dice_tasks.specs.Hands.{DeskSeen, KeepsDesk}
use Rattle.dice_tasks.specs.Endings.{Quits, Knows, DropsTask, DropsTasks}
use Rattle.dice_tasks.proofs.EndsLemmas.{quits_keeps}

module _ {K : Type 0} (eq : K → K → Bool) where
  same_self : (s : Asked K) → IsSame s s
  same_self s = record { live = λ q. refl; asks = λ q a. refl }

  same_on : (s t u : Asked K) → IsSame s t → IsSame t u → IsSame s u
  same_on s t u p q = record { live = λ k. q.live k ∙ p.live k; asks = λ k a. q.asks k a ∙ p.asks k a }

  takes_after : (s t u : Asked K) (k : K) → IsSame s t → Takes eq t k u → Takes eq s k u
  takes_after s t u k p h = record {
    taken = sym (p.live k) ∙ h.taken;
    unasked = λ a. sym (p.asks k a) ∙ h.unasked a;
    live = λ q. h.live q ∙ ap (λ b. b && not (eq k q)) (p.live q);
    asks = λ q a. h.asks q a ∙ ap (λ b. b && not (is_by eq (Tasked k) a)) (p.asks q a);
  }

  -- one more is taken out
  pub cascade_more : (ks : List K) (s t u : Asked K) (k : K) → Cascade eq s ks t → Takes eq t k u → Cascade eq s (ks ++ k ∷ []) u
  cascade_more [] s t u k c h = (u, takes_after s t u k c h, same_self u)
  cascade_more (x ∷ ks) s t u k c h = (c.0, c.1, cascade_more ks c.0 t u k c.2 h)

  pub cascade_same : (ks : List K) (s t u : Asked K) → Cascade eq s ks t → IsSame t u → Cascade eq s ks u
  cascade_same [] s t u c h = same_on s t u c h
  cascade_same (x ∷ ks) s t u c h = (c.0, c.1, cascade_same ks c.0 t u c.2 h)

  -- whether a key is one of these or this one
  in_more : IsEquality eq → (k q : K) (ks : List K) → list_any (eq q) (ks ++ k ∷ []) ≡ (eq k q || list_any (eq q) ks)
  in_more equality k q [] = either (eq k q) refl
    where
      either : (b : Bool) → eq k q ≡ b → (eq q k || false) ≡ (eq k q || false)
      either true e = let i : k ≡ q = equality.same k q e in subst (λ z. (eq z k || false) ≡ (eq k z || false)) i refl
      either false e = ap (λ b. b || false) (other_way eq equality k q e ∙ sym e)
  in_more equality k q (x ∷ ks) = ap (λ b. eq q x || b) (in_more equality k q ks) ∙ turned (eq q x) (eq k q) (list_any (eq q) ks)
    where
      turned : (a b c : Bool) → (a || (b || c)) ≡ (b || (a || c))
      turned true true c = refl
      turned true false c = refl
      turned false true c = refl
      turned false false c = refl

module _ {K V : Type 0} where
  -- the room for tasks that become ready is as before
  pub quits_room : (s : Standing K V) (p : ℕ × K) (d e : DeskSeen K V) → Quits s p d e → e.ready_room ≡ d.ready_room
  quits_room (Works w IsReady A) p d e q = q.room
  quits_room (Works w IsOut A) p d e q = q.room
  quits_room (Works w (IsWaiting ks) A) p d e q = ap (λ (x : DeskSeen K V). x.ready_room) q
  quits_room (Ended o) p d e q = ap (λ (x : DeskSeen K V). x.ready_room) q

module _ {K V : Type 0} (eq : K → K → Bool) (v : ℕ) where
  -- nothing is dropped yet
  pub drops_none : (ps : List (K × Share K (Held K V))) (d : DeskSeen K V) → DropsTasks eq v [] ps ps d d
  drops_none ps d = record { cascade = same_self eq (asked_of eq ps); tasks = λ q. refl; events = sym (append-nil d.events); ended = refl; ready_room = refl; live_room = omega arith }

  module _ (ps qs rs : List (K × Share K (Held K V))) (d e f : DeskSeen K V) (ks : List K) (all : DropsTasks eq v ks ps qs d e) where
    -- one more is dropped
    pub drops_more : IsEquality eq → (k : K) (h : Held K V) → DropsTask eq v k h qs rs e f → DropsTasks eq v (ks ++ k ∷ []) ps rs d f
    drops_more equality k h one = record {
      cascade = cascade_more eq ks (asked_of eq ps) (asked_of eq qs) (asked_of eq rs) k all.cascade one.takes;
      tasks = λ q. one.tasks q ∙ (ap (λ x. cond (eq k q) None x) (all.tasks q) ∙ (once (eq k q) (list_any (eq q) ks) (task_at eq ps q) ∙ ap (λ b. cond b None (task_at eq ps q)) (sym (in_more eq equality k q ks))));
      events = ap (λ (x : DeskSeen K V). x.events) one.desk ∙ (ap (λ es. es ++ Drop v k ∷ []) (keeps.events ∙ all.events) ∙ (append_assoc d.events (map (Drop v) ks) (Drop v k ∷ []) ∙ ap (λ es. d.events ++ es) (sym (map-append (Drop v) ks (k ∷ [])))));
      ended = ap (λ (x : DeskSeen K V). x.ended) one.desk ∙ (keeps.ended ∙ all.ended);
      ready_room = ap (λ (x : DeskSeen K V). x.ready_room) one.desk ∙ (quits_room h.standing (v, k) e one.left one.quits ∙ all.ready_room);
      live_room = (let a : f.live_room ≡ one.left.live_room + 1 = ap (λ (x : DeskSeen K V). x.live_room) one.desk in let b = keeps.live_room in let c = all.live_room in omega arith);
    }
      where
        keeps : KeepsDesk e one.left
        keeps = quits_keeps h.standing (v, k) e one.left one.quits

        once : (a b : Bool) (x : Option (Held K V)) → cond a None (cond b None x) ≡ cond (a || b) None x
        once true b x = refl
        once false b x = refl

    -- then no more
    pub drops_same : KeepsTasks eq qs rs → KeepsAsks eq qs rs → f ≡ e → DropsTasks eq v ks ps rs d f
    drops_same t a i = subst (λ (x : DeskSeen K V). DropsTasks eq v ks ps rs d x) (sym i) (record {
      cascade = cascade_same eq ks (asked_of eq ps) (asked_of eq qs) (asked_of eq rs) all.cascade (record { live = t.live; asks = a });
      tasks = λ q. t.tasks q ∙ all.tasks q;
      events = all.events;
      ended = all.ended;
      ready_room = all.ready_room;
      live_room = all.live_room;
    })

  -- fewer are at work then
  pub drops_fewer : (k : K) (h : Held K V) (ps qs : List (K × Share K (Held K V))) (d e : DeskSeen K V) → Knows eq v ps d → DropsTask eq v k h ps qs d e → e.live < d.live
  drops_fewer k h ps qs d e known one =
      let keeps = quits_keeps h.standing (v, k) d one.left one.quits in
      let a : e.live ≡ one.left.live - 1 = ap (λ (x : DeskSeen K V). x.live) one.desk in
      let b = keeps.live in
      let c = known.live k one.takes.taken in
      omega arith

  pub done_same : (ps qs : List (K × Share K (Held K V))) → KeepsTasks eq ps qs → KeepsAsks eq ps qs → IsDone (asked_of eq ps) → IsDone (asked_of eq qs)
  done_same ps qs t a done k l = let r = done k (sym (t.live k) ∙ l) in (r.0, a k r.0 ∙ r.1)
