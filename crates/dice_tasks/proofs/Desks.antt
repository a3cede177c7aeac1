-- What the calls on a desk do to what contracts see of it.
use Rattle.std.proofs.Common.{◌≡◌, ℕ, ◌+◌, ◌-◌, ◌<◌, ◌≤◌, List, [], ◌∷◌, ◌++◌, length, map, take, drop, get_or, slice_get, Option, Some, None, Bor, inl, inr, sym, ap, ◌∙◌, subst, arith, length-drop}
use Rattle.std.specs.Prelude.{IfSome, IfNone}
use Rattle.std.specs.Option.{option_copied, option_map}
use Rattle.std.proofs.lemmas.Option.{slice_get-map}
use Rattle.std.proofs.lemmas.List.{length-map, length-take-le, take_more, map-append}
use Rattle.core_laws.specs.Desk.{Loses}
use Rattle.dice_tasks.specs.declared.shelf.ReadyTask.{ReadyTask}
use Rattle.dice_tasks.specs.Hands.{DeskSeen, place_at, Gains, Stays, Takes, Unreadies}
use Rattle.dice_tasks.specs.Shelves.{place_of, ready_of, out_of, IsLaid}
use Rattle.dice_tasks.proofs.Laid.{found_at}
use Rattle.dice_tasks.proofs.Parts.{goes_out, parts}
use Rattle.lists.proofs.Members.{has_either}
use Rattle.lists.specs.Lists.{AreDistinct, Has}

module _ {K : Type 0} where
  -- so many are ready
  pub count_ready : (n : ℕ) (ks : List (ReadyTask K)) → n ≤ length ks → length (ready_of n ks) ≡ n
  count_ready n ks b = length-map (take n ks) place_of ∙ length-take-le n ks b

  -- and so many are out
  pub count_out : (n : ℕ) (ks : List (ReadyTask K)) → length (out_of n ks) ≡ length ks - n
  count_out n ks = length-map (drop n ks) place_of ∙ length-drop n ks

  -- the last of the ready tasks
  pub last_ready : (n : ℕ) (ks : List (ReadyTask K)) (x : ReadyTask K) → 0 < n → slice_get ks (n - 1) ≡ Some x → ready_of n ks ≡ ready_of (n - 1) ks ++ place_of x ∷ []
  last_ready n ks x b e =
      let a = found_at place_of ks (n - 1) x e in
      let m : n - 1 + 1 ≡ n = omega arith in
      ap (λ i. ready_of i ks) (sym m) ∙ (ap (map place_of) (take_more ks (n - 1) x a.0 ∙ ap (λ z. take (n - 1) ks ++ z ∷ []) (sym a.1)) ∙ map-append place_of (take (n - 1) ks) (x ∷ []))

  -- the last of the ready tasks goes out
  pub goes_first : (n : ℕ) (ks : List (ReadyTask K)) → n < length ks → AreDistinct (map place_of ks) → (p : ℕ × K) × (ready_of (n + 1) ks ≡ ready_of n ks ++ p ∷ []) × Gains p (out_of (n + 1) ks) (out_of n ks)
  goes_first n [] l u = absurd (omega (arith, l))
  goes_first n (k ∷ ks) l u = let g = goes_out place_of (k ∷ ks) n k l u in (place_of (get_or (k ∷ ks) n k), g.0, g.1)

has_some : {X : Type 0} (xs : List X) (x : X) → Has xs x → 0 < length xs
has_some [] x h = absurd h
has_some (y ∷ xs) x h = omega arith

module _ {K V : Type 0} where
  -- the desk after the last of the ready tasks was taken
  pub taken_is : (n : ℕ) (ks : List (ReadyTask K)) (w d : DeskSeen K V) → w ≡ d → IsLaid n ks → w.ready ≡ ready_of n ks → w.out ≡ out_of n ks → 0 < length d.ready → (p : ℕ × K) × Takes p d (record w { ready = ready_of (n - 1) ks; out = out_of (n - 1) ks })
  taken_is n ks w d v l wr wo b =
      let dr : d.ready ≡ ready_of n ks = sym (ap (λ (z : DeskSeen K V). z.ready) v) ∙ wr in
      let dq : d.out ≡ out_of n ks = sym (ap (λ (z : DeskSeen K V). z.out) v) ∙ wo in
      let c : length d.ready ≡ n = ap length dr ∙ count_ready n ks l.bound in
      let h : n ≤ length ks = l.bound in
      let m : n - 1 + 1 ≡ n = omega (arith, c, b) in
      let g = goes_first (n - 1) ks (omega (arith, c, b, h)) l.distinct in (
        g.0,
        record {
          ready = dr ∙ (ap (λ i. ready_of i ks) (sym m) ∙ g.1);
          out = subst (λ (z : List (ℕ × K)). Gains g.0 z (out_of (n - 1) ks)) (sym (dq ∙ ap (λ i. out_of i ks) (sym m))) g.2;
          count = omega (arith, count_out (n - 1) ks, ap length dq ∙ count_out n ks, h, c, b);
          room = ap (λ (z : DeskSeen K V). z.ready_room) v;
          rest = record { events = ap (λ (z : DeskSeen K V). z.events) v; live = ap (λ (z : DeskSeen K V). z.live) v; ended = ap (λ (z : DeskSeen K V). z.ended) v; spare = ap (λ (z : DeskSeen K V). z.spare) v; live_room = ap (λ (z : DeskSeen K V). z.live_room) v };
        },
      )

  -- the task that is to be taken next
  pub next_is : (n : ℕ) (ks : List (ReadyTask K)) (w d : DeskSeen K V) → w ≡ d → w.ready ≡ ready_of n ks → (o : Option (Bor (ReadyTask K))) → option_copied o ≡ slice_get ks (n - 1) → 0 < n → IfSome o (λ r. (ps : List (ℕ × K)) × (d.ready ≡ ps ++ place_of r.now ∷ []))
  next_is n ks w d v wr None e b = tt
  next_is n ks w d v wr (Some r) e b = (ready_of (n - 1) ks, sym (ap (λ (z : DeskSeen K V). z.ready) v) ∙ (wr ∙ last_ready n ks r.now b (sym e)))

  -- what is neither ready nor out has no place
  pub has_no_place : (n : ℕ) (ks : List (ReadyTask K)) (w d : DeskSeen K V) (p : ℕ × K) → w ≡ d → w.ready ≡ ready_of n ks → w.out ≡ out_of n ks → (Has d.ready p → ⊥) → (Has d.out p → ⊥) → Has (map place_of ks) p → ⊥
  has_no_place n ks w d p v wr wo a b h =
      let dr : ready_of n ks ≡ d.ready = sym wr ∙ ap (λ (z : DeskSeen K V). z.ready) v in
      let dq : out_of n ks ≡ d.out = sym wo ∙ ap (λ (z : DeskSeen K V). z.out) v in
      elim (has_either (ready_of n ks) (out_of n ks) p (subst (λ (l : List (ℕ × K)). Has l p) (sym (parts place_of n ks)) h)) [
        | inl x ↦ a (subst (λ (l : List (ℕ × K)). Has l p) dr x)
        | inr y ↦ b (subst (λ (l : List (ℕ × K)). Has l p) dq y)
      ]

  -- if a task is ready, some are
  pub some_ready : (n : ℕ) (ks : List (ReadyTask K)) (w d : DeskSeen K V) (p : ℕ × K) → w ≡ d → IsLaid n ks → w.ready ≡ ready_of n ks → Has d.ready p → (0 < n) × (n - 1 < length ks) × Has (ready_of (n - 1 + 1) ks) p
  some_ready n ks w d p v l wr h =
      let there : Has (ready_of n ks) p = subst (λ (z : List (ℕ × K)). Has z p) (sym (ap (λ (z : DeskSeen K V). z.ready) v) ∙ wr) h in
      let some = has_some (ready_of n ks) p there in
      let count = count_ready n ks l.bound in
      let bound : n ≤ length ks = l.bound in
      let b : 0 < n = omega (arith, some, count) in
      let m : n ≡ n - 1 + 1 = omega (arith, b) in
      (b, omega (arith, b, bound), subst (λ (i : ℕ). Has (ready_of i ks) p) m there)

  -- the desk after a ready task has ended
  pub unreadied_is : (n : ℕ) (ks ls : List (ReadyTask K)) (w d : DeskSeen K V) (p : ℕ × K) → w ≡ d → IsLaid n ks → w.ready ≡ ready_of n ks → w.out ≡ out_of n ks → Has d.ready p → Loses p (ready_of (n - 1 + 1) ks) (ready_of (n - 1) ls) → Stays (out_of (n - 1 + 1) ks) (out_of (n - 1) ls) → length ls + 1 ≡ length ks → Unreadies p d (record w { ready = ready_of (n - 1) ls; out = out_of (n - 1) ls })
  unreadied_is n ks ls w d p v l wr wo h a b c =
      let s = some_ready n ks w d p v l wr h in
      let bound : n ≤ length ks = l.bound in
      let m : n - 1 + 1 ≡ n = omega (arith, s.0) in
      let dr : ready_of n ks ≡ d.ready = sym wr ∙ ap (λ (z : DeskSeen K V). z.ready) v in
      let dq : out_of n ks ≡ d.out = sym wo ∙ ap (λ (z : DeskSeen K V). z.out) v in
      record {
        ready = subst (λ (z : List (ℕ × K)). Loses p z (ready_of (n - 1) ls)) (ap (λ i. ready_of i ks) m ∙ dr) a;
        out = subst (λ (z : List (ℕ × K)). Stays z (out_of (n - 1) ls)) (ap (λ i. out_of i ks) m ∙ dq) b;
        count = omega (arith, count_out (n - 1) ls, ap length (sym dq) ∙ count_out n ks, c, s.0, bound);
        room = ap (λ (z : DeskSeen K V). z.ready_room) v;
        rest = record { events = ap (λ (z : DeskSeen K V). z.events) v; live = ap (λ (z : DeskSeen K V). z.live) v; ended = ap (λ (z : DeskSeen K V). z.ended) v; spare = ap (λ (z : DeskSeen K V). z.spare) v; live_room = ap (λ (z : DeskSeen K V). z.live_room) v };
      }

module _ {K V : Type 0} where
  -- the tasks by their numbers
  pub places_are : (n : ℕ) (ks : List (ReadyTask K)) (w d : DeskSeen K V) → w ≡ d → w.ready ≡ ready_of n ks → w.out ≡ out_of n ks → d.ready ++ d.out ≡ map place_of ks
  places_are n ks w d v wr wo = ap (λ (z : DeskSeen K V). z.ready ++ z.out) (sym v) ∙ (ap (λ z. z ++ w.out) wr ∙ (ap (λ z. ready_of n ks ++ z) wo ∙ parts place_of n ks))

  pub place_is : (n : ℕ) (ks : List (ReadyTask K)) (w d : DeskSeen K V) → w ≡ d → w.ready ≡ ready_of n ks → w.out ≡ out_of n ks → (i : ℕ) → place_at d i ≡ option_map place_of (slice_get ks i)
  place_is n ks w d v wr wo i = ap (λ z. slice_get z i) (places_are n ks w d v wr wo) ∙ slice_get-map place_of ks i

  -- the number that was found
  pub index_is : (n : ℕ) (ks : List (ReadyTask K)) (w d : DeskSeen K V) → w ≡ d → w.ready ≡ ready_of n ks → w.out ≡ out_of n ks → (p : ℕ × K) (o : Option ℕ) → IfSome o (λ i. (x : ReadyTask K) × (slice_get ks i ≡ Some x) × (place_of x ≡ p)) → IfSome o (λ i. place_at d i ≡ Some p)
  index_is n ks w d v wr wo p None h = tt
  index_is n ks w d v wr wo p (Some i) h = place_is n ks w d v wr wo i ∙ (ap (option_map place_of) h.1 ∙ ap Some h.2)

  pub index_is_none : (n : ℕ) (ks : List (ReadyTask K)) (w d : DeskSeen K V) → w ≡ d → w.ready ≡ ready_of n ks → w.out ≡ out_of n ks → (p : ℕ × K) (o : Option ℕ) → IfNone o (Has (map place_of ks) p → ⊥) → IfNone o (Has (d.ready ++ d.out) p → ⊥)
  index_is_none n ks w d v wr wo p None h = λ q. h (subst (λ z. Has z p) (places_are n ks w d v wr wo) q)
  index_is_none n ks w d v wr wo p (Some i) h = tt
