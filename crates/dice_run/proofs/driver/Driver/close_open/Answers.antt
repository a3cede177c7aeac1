use Rattle.std.proofs.Common.{◌≡◌, ◌∙◌, true, false, ℕ, List, Option, Some, None, inl, inr, is_some, refl, ap}
use Rattle.dice_run.specs.Driving.{transaction_of}
use Rattle.dice_run.proofs.driver.Driver.close_open.Goals as goal

some_of : {X : Type 0} (o : Option X) → true ≡ is_some o → (x : X) × (o ≡ Some x)
some_of (Some x) e = (x, refl)
some_of None e = (let z : true ≡ false = e in cc)

none_of : {X : Type 0} (o : Option X) → false ≡ is_some o → o ≡ None
none_of (Some x) e = (let z : false ≡ true = e in cc)
none_of None e = refl

pub close-requires-clause-open : goal.close-requires-clause-open
close-requires-clause-open g c =
    let x = some_of (transaction_of c.args.self.now c.args.name.now) (c.if-contains_key.ensures ∙ ap (λ (t : List ℕ). is_some (transaction_of c.args.self.now t)) c.as_text.ensures) in
    record { transaction = x.0; held = x.1; has = c.requires.open x.0 x.1 }

pub returns-then-contains_key : goal.returns-then-contains_key
returns-then-contains_key g c = inr c.close.ensures

pub returns-else-contains_key : goal.returns-else-contains_key
returns-else-contains_key g c =
    inl (none_of (transaction_of c.args.self.now c.args.name.now) (c.if-contains_key.ensures ∙ ap (λ (t : List ℕ). is_some (transaction_of c.args.self.now t)) c.as_text.ensures), refl)
