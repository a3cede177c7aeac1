use Rattle.std.proofs.Common.{rules, ◌≡◌, ◌<◌, ◌-◌, ℕ, nat_eq, cond, Some, sym, ap, ◌∙◌, subst, arith}
use Rattle.std.proofs.lemmas.Grind.{common_steps}
use Rattle.std.specs.Map.{lookup}
use Rattle.std.specs.HashMap.{spare}
use Rattle.std.specs.Option.{option_map}
use Rattle.version_epoch.specs.Standings.{open_count_of}
use Rattle.dice_core.specs.Sessions.{SessionSeen, SessionsSeen, opened_of, transaction_at, Closes}
use Rattle.dice_core.proofs.SessionLemmas.{closes_made, closes_closing}
use Rattle.dice_core.proofs.sessions.Sessions.close.Goals as goal

pub close-requires : goal.close-requires
close-requires g c =
    let x = c.in_ok-session.session in
    let known : lookup (nat_eq c.args.tx) c.self.inside.transactions.entries ≡ Some x = sym c.in_ok-session.ensures.value in
    let there : transaction_at c.args.self.now c.args.tx ≡ Some (opened_of x) = ap (λ (v : SessionsSeen g.row.U-Key.Denot). transaction_at v c.args.tx) (sym c.self.view_is) ∙ ap (option_map opened_of) known in
    let h : 0 < open_count_of c.args.self.now.epochs x.version = c.requires (opened_of x) there in
    let P : SessionsSeen g.row.U-Key.Denot → Type 0 = λ v. 0 < open_count_of v.epochs x.version in
    let Q : ℕ → Type 0 = λ n. 0 < open_count_of c.self.inside.epochs n in
    subst Q (ap (λ (s : SessionSeen). s.version) (sym c.session.view_is)) (subst P (sym c.self.view_is) h)

pub returns-clause-result : goal.returns-clause-result
returns-clause-result g c = first_of (search rules, grind (arith, common_steps))

pub returns-clause-some : goal.returns-clause-some
returns-clause-some g c =
    let version : c.session.inside.version ≡ c.in_ok-session.session.version = ap (λ (s : SessionSeen). s.version) c.session.view_is in
    let ts = c.self.inside.transactions.entries in
    let u : SessionsSeen g.row.U-Key.Denot = record { transactions = c.remove.new.self.entries; asks = c.self.inside.asks.entries; epochs = c.close.new.self; room = spare c.self.inside.asks } in
    let P : SessionsSeen g.row.U-Key.Denot → Type 0 = λ v. Closes c.args.tx c.in_ok-session.session.version v u in
    subst P c.self.view_is (closes_made c.args.tx c.in_ok-session.session.version ts c.remove.new.self.entries c.self.inside.asks.entries c.self.inside.epochs c.close.new.self (spare c.self.inside.asks) c.in_ok-session.ensures.updates.0 c.in_ok-session.ensures.len (λ w. c.close.ensures.count w ∙ ap (λ n. cond (nat_eq w n) (open_count_of c.self.inside.epochs w - 1) (open_count_of c.self.inside.epochs w)) version) c.close.ensures.epoch)

pub returns-clause-stands : goal.returns-clause-stands
returns-clause-stands g c R by st = closes_closing R by c.args.tx _ c.args.self.now _ (sym (returns-clause-result g c)) (returns-clause-some g c) st
