-- Turns after one another, and promises that are polled in turn.
use Rattle.std.proofs.Common.{◌≡◌, ◌≢◌, ◌⊎◌, inl, inr, ℕ, List, [], ◌∷◌, ◌++◌, take, drop, refl, sym, ap, ◌∙◌, subst, arith, append-nil}
use Rattle.std.proofs.lemmas.List.{take-append-drop}
use Rattle.std.specs.Arc.{arc_value}
use Rattle.dice_engine.specs.Seats.{EngineId}
use Rattle.dice_key.specs.declared.universe.Kind.TheVariants.{Injected}
use Rattle.journal.specs.declared.event.Told.TheVariants.{Open, Ask}
use Rattle.journal.specs.Tell.{event_by}
use Rattle.turnstile.specs.Events.{events_by}
use Rattle.action_digest.specs.Buck.{buck}
use Rattle.script_trace.specs.Events.{Events, IsDecidedIn}
use Rattle.action_digest.specs.declared.key.Key.{Key}
use Rattle.dice_run.specs.Seats.{Place, IsOurs, Goes, Opens, Asks}
use Rattle.dice_run.specs.Looking.{Pledge, IsLive, AreLive, WasDecided, WereDecided}
use Rattle.dice_run.proofs.Seating.{onward, still_open, seen_longer, open_below, begins_on, begins_itself}
use Rattle.dice_run.proofs.Viewing.{live_on}
use Rattle.dice_run.proofs.Recorded.{take_longer, decided_on, decided_live}
use Rattle.lists.specs.Lists.{Has}
use Rattle.lists.proofs.Members.{has_middle}

-- ---- turns after one another

pub goes_none : (id : EngineId) (s : Place) → IsOurs id s → Goes id s s []
goes_none id s o = record { ours = o; number = refl; begins = begins_itself s.seen; mine = sym (append-nil s.mine) }

pub goes_on : (id : EngineId) (s m u : Place) (own : Events) → Goes id s m own → Goes id m u [] → Goes id s u own
goes_on id s m u own a b = record {
  ours = b.ours;
  number = b.number ∙ a.number;
  begins = begins_on s.seen m.seen u.seen b.begins a.begins;
  mine = b.mine ∙ (append-nil m.mine ∙ a.mine);
}

pub goes_first : (id : EngineId) (s m u : Place) (own : Events) → Goes id s m [] → Goes id m u own → Goes id s u own
goes_first id s m u own a b = record {
  ours = b.ours;
  number = b.number ∙ a.number;
  begins = begins_on s.seen m.seen u.seen b.begins a.begins;
  mine = b.mine ∙ ap (λ (J : Events). J ++ own) (a.mine ∙ append-nil s.mine);
}

-- a transaction was opened, and then nothing was added
pub opens_on : (id : EngineId) (s m u : Place) (opened version : ℕ) → Opens id s m opened version → Goes id m u [] → Opens id s u opened version
opens_on id s m u opened version a b = record {
  goes = goes_on id s m u (Open 0 version ∷ []) a.goes b;
  newest = a.newest;
  has = still_open m u [] (onward id m u [] b) opened version tt a.has;
  new = a.new;
  before = ap (λ (J : Events). events_by event_by 0 (take opened J)) b.begins.1
      ∙ (ap (events_by event_by 0) (take_longer opened m.seen b.begins.0 (let l = open_below m opened version a.has in omega arith)) ∙ a.before);
}

-- nothing was added, and then a key was asked for
pub asks_after : (id : EngineId) (s m u : Place) (ask opened version : ℕ) (k : Key) → Goes id s m [] → Asks id m u ask opened version k → Asks id s u ask opened version k
asks_after id s m u ask opened version k a b = record {
  goes = goes_first id s m u (Ask 0 opened k ∷ []) a b.goes;
  has = b.has;
  new = (let l = seen_longer s m [] (onward id s m [] a) in let n = b.new in omega arith);
  before = b.before ∙ (a.mine ∙ append-nil s.mine);
}

-- ---- promises that are waited for in turn

-- the one at hand is among them
at_hand : (xs rest : List Pledge) (i : ℕ) (x : Pledge) → drop i xs ≡ x ∷ rest → Has xs x
at_hand xs rest i x e = subst (λ l. Has l x) (take-append-drop i xs) (subst (λ r. Has (take i xs ++ r) x) (sym e) (has_middle (take i xs) rest x))

-- and still live
pub live_still : (id : EngineId) (s m : Place) (xs rest : List Pledge) (i : ℕ) (x : Pledge) → Goes id s m [] → AreLive s xs → drop i xs ≡ x ∷ rest → IsLive m x
live_still id s m xs rest i x g live e = live_on s m [] x (onward id s m [] g) tt tt (live x (at_hand xs rest i x e))

-- those of the rest apart
abbrev pub DecidedBut : Events → List Pledge → List Pledge → Type 0
DecidedBut J rest xs = (x : Pledge) → Has xs x → Has rest x ⊎ (buck.kind (arc_value x.key) ≢ Injected → WasDecided J x.opened x.version (arc_value x.key))

pub decided_first : (J : Events) (xs : List Pledge) → DecidedBut J xs xs
decided_first J xs x h = inl h

pub decided_next : (id : EngineId) (s u : Place) (x : Pledge) (rest xs : List Pledge) → Goes id s u [] → IsLive s x → (buck.kind (arc_value x.key) ≢ Injected → IsDecidedIn u.seen x.version (arc_value x.key))
    → DecidedBut s.seen (x ∷ rest) xs → DecidedBut u.seen rest xs
decided_next id s u x rest xs g l d b y h = elim (b y h) as (λ _. Has rest y ⊎ (buck.kind (arc_value y.key) ≢ Injected → WasDecided u.seen y.opened y.version (arc_value y.key))) [
  | inl (inl e) ↦ inr (subst (λ (z : Pledge). buck.kind (arc_value z.key) ≢ Injected → WasDecided u.seen z.opened z.version (arc_value z.key)) e
      (λ n. decided_live id u x g.ours (live_on s u [] x (onward id s u [] g) tt tt l) (d n)))
  | inl (inr i) ↦ inl i
  | inr w ↦ inr (λ n. decided_on s.seen u.seen y.opened y.version (arc_value y.key) g.begins (w n))
]

pub decided_all : (J : Events) (xs : List Pledge) → DecidedBut J [] xs → WereDecided J xs
decided_all J xs b x h n = elim (b x h) as (λ _. WasDecided J x.opened x.version (arc_value x.key)) [ inl i ↦ absurd i | inr w ↦ w n ]
