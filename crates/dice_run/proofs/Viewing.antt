-- What the driver sees without a turn, from one step to the next.
use Rattle.std.proofs.Common.{◌≡◌, ◌≤◌, ◌⊎◌, inl, inr, ℕ, List, [], ◌∷◌, ◌++◌, length, Option, Some, refl, sym, ap, ◌∙◌, subst, arith}
use Rattle.std.specs.Option.{ForSome}
use Rattle.std.specs.Arc.{arc_value}
use Rattle.journal.specs.Events.{NotClosed, NotLeft}
use Rattle.turnstile.specs.Events.{StartsWith}
use Rattle.shelf.specs.Ends.{ReaderView}
use Rattle.dice_engine.proofs.Callers.{closed_both}
use Rattle.action_digest.specs.declared.key.Key.{Key}
use Rattle.action_digest.specs.declared.value.Value.{Value}
use Rattle.script_trace.specs.Events.{Events}
use Rattle.dice_run.specs.Seats.{Place}
use Rattle.dice_run.specs.Looking.{Pledge, SeesWith, Sees, IsLive}
use Rattle.dice_run.specs.Driving.{pledge_of, Looks}
use Rattle.dice_run.specs.declared.driver.Driver.{Driver}
use Rattle.dice_run.specs.declared.outlook.Outlook.{Outlook}
use Rattle.dice_run.proofs.Seating.{Onward, still_asks, ask_below, begins_on}
use Rattle.lists.proofs.Members.{has_last}
use Rattle.lists.specs.Lists.{Has}

for_some : {X : Type 0} (o : Option X) (P Q : X → Type 0) → ((x : X) → P x → Q x) → ForSome o P → ForSome o Q
for_some o P Q f p = λ x e. f x (p x e)

-- what was seen is seen by a seat that has seen more
pub sees_on : (s u : Place) (o : Outlook) → StartsWith u.seen s.seen → Sees s o → Sees u o
sees_on s u o b = for_some o.reader _ _ (λ r f open_.
    let w = f open_ in
    record { journal = w.journal; begins = begins_on w.journal s.seen u.seen b w.begins; newest = w.newest; rows = w.rows })

-- a promise stays live
pub live_on : (s u : Place) (own : Events) (x : Pledge) → Onward s u own → NotLeft x.ask own → NotClosed x.opened own → IsLive s x → IsLive u x
live_on s u own x o n c l = record {
  asks = still_asks s u own o x.ask x.opened x.version (arc_value x.key) n l.asks;
  open_ = subst (NotClosed x.opened) (sym o.mine) (closed_both x.opened s.mine own l.open_ c);
}

-- the promises that are still to be polled are as before
module _ (d e : Driver) (own : Events) (o : Onward d.seat e.seat own) (l : Looks d) where
  pub looks_on : Sees e.seat e.outlook → e.outlook.unpolled.items ≡ d.outlook.unpolled.items → ((x : Pledge) → Has d.outlook.unpolled.items x → NotLeft x.ask own × NotClosed x.opened own)
      → ((q : List ℕ) (y : Pledge) → pledge_of e q ≡ Some y → (pledge_of d q ≡ Some y) ⊎ (length d.seat.seen ≤ y.ask)) → Looks e
  looks_on sees same free pledges = record {
    sees = sees;
    live = λ x h. (let g = was x h in let f = free x g in live_on d.seat e.seat own x o f.0 f.1 (l.live x g));
    apart = λ x q y h p s. elim (pledges q y p) as (λ _. ⊥) [
      | inl b ↦ l.apart x q y (was x h) b s
      | inr n ↦ (let a = ask_below d.seat x.ask x.opened x.version (arc_value x.key) (l.live x (was x h)).asks in omega arith)
    ];
  }
    where
      was : (x : Pledge) → Has e.outlook.unpolled.items x → Has d.outlook.unpolled.items x
      was x h = subst (λ xs. Has xs x) same h

  pub looks_same : e.outlook ≡ d.outlook → ((x : Pledge) → Has d.outlook.unpolled.items x → NotLeft x.ask own × NotClosed x.opened own)
      → ((q : List ℕ) (y : Pledge) → pledge_of e q ≡ Some y → (pledge_of d q ≡ Some y) ⊎ (length d.seat.seen ≤ y.ask)) → Looks e
  looks_same same free pledges =
      looks_on (subst (Sees e.seat) (sym same) (sees_on d.seat e.seat d.outlook o.begins l.sees)) (ap (λ (x : Outlook). x.unpolled.items) same) free pledges

  -- one more is still to be polled
  pub looks_more : (x : Pledge) → own ≡ [] → Sees e.seat e.outlook → e.outlook.unpolled.items ≡ d.outlook.unpolled.items ++ x ∷ [] → IsLive d.seat x
      → ((q : List ℕ) (y : Pledge) → pledge_of e q ≡ Some y → (pledge_of d q ≡ Some y) × (x.ask ≡ y.ask → ⊥)) → Looks e
  looks_more x none sees more live pledges = record {
    sees = sees;
    live = λ y h. elim (was y h) as (λ _. IsLive e.seat y) [
      | inl g ↦ still y (l.live y g)
      | inr i ↦ subst (IsLive e.seat) i (still x live)
    ];
    apart = λ y q z h p s. elim (was y h) as (λ _. ⊥) [
      | inl g ↦ l.apart y q z g (pledges q z p).0 s
      | inr i ↦ (pledges q z p).1 (ap (λ (w : Pledge). w.ask) i ∙ s)
    ];
  }
    where
      was : (y : Pledge) → Has e.outlook.unpolled.items y → Has d.outlook.unpolled.items y ⊎ (x ≡ y)
      was y h = has_last d.outlook.unpolled.items x y (subst (λ xs. Has xs y) more h)

      still : (y : Pledge) → IsLive d.seat y → IsLive e.seat y
      still y k = live_on d.seat e.seat [] y (subst (Onward d.seat e.seat) none o) tt tt k

-- nothing is still to be polled
pub looks_none : (d : Driver) → Sees d.seat d.outlook → d.outlook.unpolled.items ≡ [] → Looks d
looks_none d sees none = record {
  sees = sees;
  live = λ x h. absurd (subst (λ xs. Has xs x) none h);
  apart = λ x q y h p s. subst (λ xs. Has xs x) none h;
}

-- a reader that was told nothing yet
pub sees_first : (s : Place) (r : ReaderView Key Value) → SeesWith s 0 r
sees_first s r = record {
  journal = [];
  begins = (s.seen, refl);
  newest = (omega arith);
  rows = record { told = []; has = refl; begins = (r.seen, refl) };
}
