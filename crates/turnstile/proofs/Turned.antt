-- What a turn comes to, for a caller that enters as the seat s, makes ys of the list xs that it finds, and leaves as the seat u. In its turn the seat is t.
use Rattle.std.proofs.Common.{◌≡◌, ℕ, Bool, if◌then◌else◌, List, [], ◌∷◌, ◌++◌, Option, Some, refl, sym, ap, ◌∙◌, subst, eq-eqb, append-nil}
use Rattle.turnstile.specs.Events.{StartsWith, has_number, events_by, Grows}
use Rattle.turnstile.specs.Seats.{SeatView, in_turn, IsAfterTurn}
use Rattle.turnstile.proofs.Events.{events_by-append, still_begins}

module _ {E : Type 0} (by : E → Option ℕ) where
  -- `leave` may be called
  pub may_leave : (s t : SeatView E) (xs ys : List E) → t ≡ in_turn s xs → Grows by s.number s.writers xs ys → Grows by t.number t.writers t.seen ys
  may_leave s t xs ys is grows = subst (λ (z : SeatView E). Grows by z.number z.writers z.seen ys) (sym is) grows

  -- the new seen begins with the old one
  pub has_seen : (s u : SeatView E) (n writers : ℕ) (xs ys : List E) → StartsWith xs s.seen → Grows by n writers xs ys → u.seen ≡ ys → StartsWith u.seen s.seen
  has_seen s u n writers xs ys begins grows is = still_begins by xs u.seen grows.0 s.seen (is ∙ grows.1) begins

  same_number : (s t u : SeatView E) (xs : List E) → t ≡ in_turn s xs → IsAfterTurn t u → u.number ≡ s.number
  same_number s t u xs is after = ap (λ (z : SeatView E). z.number) after ∙ ap (λ (z : SeatView E). z.number) is

  -- `mine` grows by the events es of the turn that tell the seat's number
  pub has_made : (s t u : SeatView E) (xs ys es : List E) → t ≡ in_turn s xs → events_by by s.number xs ≡ s.mine → IsAfterTurn t u → ys ≡ xs ++ es → u.seen ≡ ys → u.mine ≡ events_by by u.number u.seen
      → u.mine ≡ s.mine ++ events_by by s.number es
  has_made s t u xs ys es is mine after grows seen now =
      now ∙ (ap (λ (n : ℕ). events_by by n u.seen) (same_number s t u xs is after)
      ∙ (ap (events_by by s.number) (seen ∙ grows)
      ∙ (events_by-append by s.number xs es ∙ ap (λ (l : List E). l ++ events_by by s.number es) mine)))

  -- one event of its own
  pub has_made_one : (s t u : SeatView E) (xs ys : List E) (e : E) → t ≡ in_turn s xs → events_by by s.number xs ≡ s.mine → IsAfterTurn t u → ys ≡ xs ++ e ∷ [] → u.seen ≡ ys → u.mine ≡ events_by by u.number u.seen
      → by e ≡ Some s.number → u.mine ≡ s.mine ++ e ∷ []
  has_made_one s t u xs ys e is mine after grows seen now own =
      has_made s t u xs ys (e ∷ []) is mine after grows seen now
      ∙ ap (λ (b : Bool). s.mine ++ (if b then e ∷ [] else [])) (ap (has_number s.number) own ∙ eq-eqb s.number s.number refl)

  -- and none
  pub has_made_none : (s t u : SeatView E) (xs ys : List E) → t ≡ in_turn s xs → events_by by s.number xs ≡ s.mine → IsAfterTurn t u → ys ≡ xs → u.seen ≡ ys → u.mine ≡ events_by by u.number u.seen → u.mine ≡ s.mine
  has_made_none s t u xs ys is mine after same seen now =
      has_made s t u xs ys [] is mine after (same ∙ sym (append-nil xs)) seen now ∙ append-nil s.mine
