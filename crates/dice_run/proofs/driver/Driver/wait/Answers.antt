use Rattle.std.proofs.Common.{◌≡◌, ◌∙◌, Bool, true, false, cond, Option, Some, refl, sym, ap}
use Rattle.std.proofs.lemmas.Result.{on_ok_weaker}
use Rattle.std.specs.Option.{option_map}
use Rattle.std.specs.HashMap.{get}
use Rattle.std.specs.Str.{bytes_eq}
use Rattle.std.specs.Cmp.Lexicographic.{pointwise}
use Rattle.std.proofs.Common.{nat_eq}
use Rattle.std.specs.Arc.{arc_value}
use Rattle.dice_run.specs.Seats.{log_in}
use Rattle.dice_run.specs.Driving.{is_told}
use Rattle.dice_run.proofs.driver.Driver.wait.Goals as goal

map_if : {X Y : Type 0} (f : X → Y) (b : Bool) (x : X) (o : Option X) → option_map f (cond b (Some x) o) ≡ cond b (Some (f x)) (option_map f o)
map_if f true x o = refl
map_if f false x o = refl

pub come-requires-clause-live : goal.come-requires-clause-live
come-requires-clause-live g c κs within = c.requires.open c.in-Some.promise (sym c.take.ensures.value ∙ c.in-Some.is)

pub returns-clause-did : goal.returns-clause-did
returns-clause-did g c = on_ok_weaker c.note.result
    (λ noted.
    let p = c.in-Some.promise in
    let did = c.in_ok-came.ensures.did in
    is_told p c.in_ok-answer.answer.items (sym c.take.ensures.value ∙ c.in-Some.is) did.goes
    (c.in_ok-answer.ensures (log_in c.args.self.now.seat) p.version (arc_value p.key) c.in_ok-came.ensures.came)
    did.known
    did.sees
    (λ n. ap (λ v. get (pointwise nat_eq) v n) did.promises ∙ c.take.ensures.rest n)
    (λ n. ap (option_map (λ v. v.items)) (noted n) ∙ (map_if (λ v. v.items) (bytes_eq c.args.name.now n) c.in_ok-answer.answer (get (pointwise nat_eq) c.come.new.self.answers n)
    ∙ ap (λ v. cond (bytes_eq c.args.name.now n) (Some c.in_ok-answer.answer.items) (option_map (λ w. w.items) (get (pointwise nat_eq) v n))) did.answers))
    did.transactions did.gathered did.newest)
    c.note.ensures
