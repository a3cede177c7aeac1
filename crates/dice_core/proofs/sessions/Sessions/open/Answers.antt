use Rattle.std.proofs.Common.{◌≡◌, ◌<◌, ◌+◌, ℕ, nat_eq, cond, length, None, refl, ap, ◌∙◌, subst, arith}
use Rattle.std.specs.Map.{lookup}
use Rattle.std.specs.HashMap.{spare}
use Rattle.dice_core.specs.Sessions.{SessionsSeen, opened_in, transaction_at, Opens}
use Rattle.dice_core.proofs.SessionLemmas.{done, grown, unopened, opens_made, opens_stand}
use Rattle.dice_core.proofs.sessions.Sessions.open.Goals as goal

pub returns-clause-ok : goal.returns-clause-ok
returns-clause-ok g c =
    let n = c.args.index in
    let ts = c.self.inside.transactions.entries in
    let ms = c.reserve.new.self.entries in
    let us = c.insert.new.self.entries in
    let room : 0 < spare c.reserve.new.self = omega (arith, c.in_ok-reserve.ensures.ok) in
    let same : (q : ℕ) → lookup (nat_eq q) ms ≡ lookup (nat_eq q) ts = c.in_ok-reserve.ensures.entries.2 in
    let kept : length ms ≡ length ts = c.in_ok-reserve.ensures.entries.1 in
    let fresh : opened_in ts n ≡ None = ap (λ (v : SessionsSeen g.row.U-Key.Denot). transaction_at v n) c.self.view_is ∙ c.requires.fresh in
    let put = done c.insert.result (spare c.reserve.new.self) _ c.insert.ensures.updates c.insert.ensures.succeeds room in
    let none : lookup (nat_eq n) ms ≡ None = same n ∙ unopened ts n fresh in
    let more : length us ≡ length ms + 1 = grown c.insert.result (lookup (nat_eq n) ms) (spare c.reserve.new.self) (length us) (length ms) c.insert.ensures.old c.insert.ensures.len c.insert.ensures.succeeds room none in
    let u : SessionsSeen g.row.U-Key.Denot = record { transactions = us; asks = c.self.inside.asks.entries; epochs = c.open.new.self; room = spare c.self.inside.asks } in
    let P : SessionsSeen g.row.U-Key.Denot → Type 0 = λ v. Opens n c.args.by c.args.version v u in
    subst P c.self.view_is (opens_made n c.args.by c.args.version ts us c.self.inside.asks.entries c.self.inside.epochs c.open.new.self (spare c.self.inside.asks) _ refl c.new.ensures.empty (λ q. put.0 q ∙ ap (cond (nat_eq n q) _) (same q)) (more ∙ ap (λ l. l + 1) kept) c.in-Ok.ensures.count c.in-Ok.ensures.epoch)

pub returns-clause-stands : goal.returns-clause-stands
returns-clause-stands g c R st e = opens_stand R c.args.index c.args.by c.args.version c.args.self.now _ (returns-clause-ok g c) st e
