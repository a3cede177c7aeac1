use Rattle.std.proofs.Common.{◌≡◌, true, ◌∙◌, ◌++◌, ◌∷◌, [], List, ℕ, Some, sym, ap, subst, rules}
use Rattle.script.specs.Order.{Fits}
use Rattle.script.specs.declared.line.Line.{Line}
use Rattle.script.specs.declared.line.Line.TheVariants as line
use Rattle.action_digest.specs.declared.key.Key.TheVariants as key
use Rattle.action_digest.specs.declared.value.Value.TheVariants as value
use Rattle.std.specs.Arc.{arc_value}
use Rattle.dice_run.specs.Driving.{Steps, DidAsk}
use Rattle.dice_run.proofs.Changing.{distinct_sources}
use Rattle.dice_run.proofs.Steps.{put_steps, drop_steps, commit_stands, open_stands, ask_steps, action_steps, wait_stands, cancel_stands, close_stands, confirm_stands, after_confirming, has_transaction, may_wait, may_cancel}
use Rattle.dice_run.specs.Recording.{RecordsStep}
use Rattle.dice_run.proofs.Recorded.{put_records, drop_records, commit_records, open_records, ask_records, action_records, wait_records, cancel_records, close_records, records_confirmed}
use Rattle.dice_run.proofs.Steps.{version_is}
use Rattle.dice_run.proofs.driver.Driver.line.Goals as goal

pub commit-requires-clause-sources : goal.commit-requires-clause-sources
commit-requires-clause-sources g c = distinct_sources c.args.self.now.gathered c.requires.plan.gathered c.requires.stands.gathered c.requires.stands.distinct

pub ask-requires-clause-open : goal.ask-requires-clause-open
ask-requires-clause-open g c κs within =
    let f = subst (Fits c.requires.past) c.in-Ask.is c.requires.fits in
    has_transaction c.args.engine.now c.args.self.now c.requires.plan c.requires.past c.requires.stands c.in-Ask.request.transaction f.opened

pub ask-requires-in-Action-clause-open : goal.ask-requires-in-Action-clause-open
ask-requires-in-Action-clause-open g c κs within =
    let f = subst (Fits c.requires.past) c.in-Action.is c.requires.fits in
    has_transaction c.args.engine.now c.args.self.now c.requires.plan c.requires.past c.requires.stands c.in-Action.request.transaction f.opened

pub wait-requires-clause-open : goal.wait-requires-clause-open
wait-requires-clause-open g c κs within =
    let f = subst (Fits c.requires.past) c.in-Wait.is c.requires.fits in
    may_wait c.args.engine.now c.args.self.now c.requires.plan c.requires.past c.requires.stands c.in-Wait.name f.0 f.1

pub cancel-requires-clause-open : goal.cancel-requires-clause-open
cancel-requires-clause-open g c =
    may_cancel c.args.engine.now c.args.self.now c.requires.plan c.requires.past c.requires.stands c.in-Cancel.name (subst (Fits c.requires.past) c.in-Cancel.is c.requires.fits)

pub wait-requires-clause-sees : goal.wait-requires-clause-sees
wait-requires-clause-sees g c κs within = c.requires.stands.looks.sees

pub confirm-requires-clause-live : goal.confirm-requires-clause-live
confirm-requires-clause-live g c κs within = c.requires.stands.looks.live

pub close-requires-clause-open : goal.close-requires-clause-open
close-requires-clause-open g c =
    let m = confirm_stands c.args.engine.now c.args.self.now c.confirm.new.self c.requires.plan c.requires.past c.requires.stands c.in_ok-confirm-in-Close.ensures.did in
    has_transaction c.args.engine.now c.confirm.new.self c.requires.plan c.requires.past m c.in-Close.name (subst (Fits c.requires.past) c.in-Close.is c.requires.fits)

pub returns-in_ok-gather-in-Put-clause-stands : goal.returns-in_ok-gather-in-Put-clause-stands
returns-in_ok-gather-in-Put-clause-stands g c ends p past m f =
    let d = c.args.self.now in
    let e = c.in_ok-gather-in-Put.ensures in
    let fits = subst (Fits past) c.in-Put.is f in
    let b : c.in_ok-try_clone-in-Put.field-0 ≡ c.in-Put.bytes = search rules in
    let held : c.new-contents.result ≡ c.in-Put.bytes = c.new-contents.ensures ∙ b in
    let eg = e.gathered ∙ ap (λ (x : List ℕ). d.gathered ++ (key.Source c.in-Put.path, value.Source (Some x)) ∷ []) held in
    subst (λ (l : Line). Steps c.args.engine.now ends p past l d c.gather.new.self) (sym c.in-Put.is)
    (put_steps c.args.engine.now ends d c.gather.new.self p past c.in-Put.path c.in-Put.bytes m fits.1 e.seat eg e.names e.newest)

pub returns-in_ok-gather-in-Drop-clause-stands : goal.returns-in_ok-gather-in-Drop-clause-stands
returns-in_ok-gather-in-Drop-clause-stands g c ends p past m f =
    let e = c.in_ok-gather-in-Drop.ensures in
    let fits = subst (Fits past) c.in-Drop.is f in
    subst (λ (l : Line). Steps c.args.engine.now ends p past l c.args.self.now c.gather-in-Drop.new.self) (sym c.in-Drop.is)
    (drop_steps c.args.engine.now ends c.args.self.now c.gather-in-Drop.new.self p past c.in-Drop.path m fits.1 e.seat e.gathered e.names e.newest)

pub returns-in_ok-commit-in-Commit-clause-stands : goal.returns-in_ok-commit-in-Commit-clause-stands
returns-in_ok-commit-in-Commit-clause-stands g c ends p past m f =
    let e = c.in_ok-commit-in-Commit.ensures in
    subst (λ (l : Line). Steps c.args.engine.now ends p past l c.args.self.now c.commit.new.self) (sym c.in-Commit.is)
    (commit_stands c.args.engine.now ends c.args.self.now c.commit.new.self p past m e.seat e.gathered e.names e.newest)

pub returns-in_ok-open-in-Open-clause-stands : goal.returns-in_ok-open-in-Open-clause-stands
returns-in_ok-open-in-Open-clause-stands g c ends p past m f =
    let fits = subst (Fits past) c.in-Open.is f in
    subst (λ (l : Line). Steps c.args.engine.now ends p past l c.args.self.now c.open.new.self) (sym c.in-Open.is)
    (open_stands c.args.engine.now ends c.args.self.now c.open.new.self p past c.in-Open.name m fits.1 c.in_ok-open-in-Open.ensures.did)

pub returns-in_ok-ask-in-Ask-clause-stands : goal.returns-in_ok-ask-in-Ask-clause-stands
returns-in_ok-ask-in-Ask-clause-stands g c ends p past m f =
    let fits = subst (Fits past) c.in-Ask.is f in
    subst (λ (l : Line). Steps c.args.engine.now ends p past l c.args.self.now c.ask.new.self) (sym c.in-Ask.is)
    (ask_steps c.args.engine.now ends c.args.self.now c.ask.new.self p past c.in-Ask.request m fits
    (let b : arc_value c.in_ok-key-in-Ask.key ≡ key.Digest c.in-Ask.request.label = search rules in subst (λ k. DidAsk c.args.engine.now c.in-Ask.request k c.args.self.now c.ask.new.self) b c.in_ok-ask-in-Ask.ensures.did))

pub returns-in_ok-ask-in-Action-clause-stands : goal.returns-in_ok-ask-in-Action-clause-stands
returns-in_ok-ask-in-Action-clause-stands g c ends p past m f =
    let fits = subst (Fits past) c.in-Action.is f in
    subst (λ (l : Line). Steps c.args.engine.now ends p past l c.args.self.now c.ask-in-Action.new.self) (sym c.in-Action.is)
    (action_steps c.args.engine.now ends c.args.self.now c.ask-in-Action.new.self p past c.in-Action.request m fits
    (let b : arc_value c.in_ok-key-in-Action.key ≡ key.Action c.in-Action.request.label = search rules in subst (λ k. DidAsk c.args.engine.now c.in-Action.request k c.args.self.now c.ask-in-Action.new.self) b c.in_ok-ask-in-Action.ensures.did))

pub returns-in_ok-wait-in-Wait-clause-stands : goal.returns-in_ok-wait-in-Wait-clause-stands
returns-in_ok-wait-in-Wait-clause-stands g c ends p past m f =
    let fits = subst (Fits past) c.in-Wait.is f in
    subst (λ (l : Line). Steps c.args.engine.now ends p past l c.args.self.now c.wait.new.self) (sym c.in-Wait.is)
    (wait_stands c.args.engine.now ends c.args.self.now c.wait.new.self p past c.in-Wait.name m fits.0 fits.1 c.in_ok-wait-in-Wait.ensures.did)

pub returns-in-Cancel-clause-stands : goal.returns-in-Cancel-clause-stands
returns-in-Cancel-clause-stands g c ends p past m f =
    let fits = subst (Fits past) c.in-Cancel.is f in
    subst (λ (l : Line). Steps c.args.engine.now ends p past l c.args.self.now c.cancel.new.self) (sym c.in-Cancel.is)
    (cancel_stands c.args.engine.now ends c.args.self.now c.cancel.new.self p past c.in-Cancel.name m fits c.cancel.ensures)

pub returns-in_ok-confirm-in-Close-clause-stands : goal.returns-in_ok-confirm-in-Close-clause-stands
returns-in_ok-confirm-in-Close-clause-stands g c ends p past m f =
    let d = c.args.self.now in
    let b = c.confirm.new.self in
    let x = c.in_ok-confirm-in-Close.ensures.did in
    subst (λ (l : Line). Steps c.args.engine.now ends p past l d c.close.new.self) (sym c.in-Close.is)
    (after_confirming c.args.engine.now ends d b c.close.new.self p past (line.Close c.in-Close.name) x
    (close_stands c.args.engine.now ends b c.close.new.self p past c.in-Close.name (confirm_stands c.args.engine.now d b p past m x) x.unpolled c.close.ensures))

pub returns-in_ok-gather-in-Put-clause-records : goal.returns-in_ok-gather-in-Put-clause-records
returns-in_ok-gather-in-Put-clause-records g c p past m f =
    let e = c.in_ok-gather-in-Put.ensures in
    subst (λ (l : Line). RecordsStep p past l c.args.self.now c.gather.new.self) (sym c.in-Put.is)
    (put_records p past c.in-Put.path c.in-Put.bytes c.args.self.now c.gather.new.self e.seat e.names)

pub returns-in_ok-gather-in-Drop-clause-records : goal.returns-in_ok-gather-in-Drop-clause-records
returns-in_ok-gather-in-Drop-clause-records g c p past m f =
    let e = c.in_ok-gather-in-Drop.ensures in
    subst (λ (l : Line). RecordsStep p past l c.args.self.now c.gather-in-Drop.new.self) (sym c.in-Drop.is)
    (drop_records p past c.in-Drop.path c.args.self.now c.gather-in-Drop.new.self e.seat e.names)

pub returns-in_ok-commit-in-Commit-clause-records : goal.returns-in_ok-commit-in-Commit-clause-records
returns-in_ok-commit-in-Commit-clause-records g c p past m f =
    let e = c.in_ok-commit-in-Commit.ensures in
    subst (λ (l : Line). RecordsStep p past l c.args.self.now c.commit.new.self) (sym c.in-Commit.is)
    (commit_records c.args.engine.now p past c.args.self.now c.commit.new.self m e.seat e.names)

pub returns-in_ok-open-in-Open-clause-records : goal.returns-in_ok-open-in-Open-clause-records
returns-in_ok-open-in-Open-clause-records g c p past m f =
    let d = c.args.self.now in
    let e = c.open.new.self in
    let fits = subst (Fits past) c.in-Open.is f in
    let did = c.in_ok-open-in-Open.ensures.did in
    subst (λ (l : Line). RecordsStep p past l d e) (sym c.in-Open.is)
    (open_records c.args.engine.now d e p past c.in-Open.name m fits.1 did 0 (version_is c.args.engine.now (λ q. true) d e p past c.in-Open.name m fits.1 did))

pub returns-in_ok-ask-in-Ask-clause-records : goal.returns-in_ok-ask-in-Ask-clause-records
returns-in_ok-ask-in-Ask-clause-records g c p past m f =
    let fits = subst (Fits past) c.in-Ask.is f in
    subst (λ (l : Line). RecordsStep p past l c.args.self.now c.ask.new.self) (sym c.in-Ask.is)
    (ask_records c.args.engine.now p past c.in-Ask.request c.args.self.now c.ask.new.self m fits
    (let b : arc_value c.in_ok-key-in-Ask.key ≡ key.Digest c.in-Ask.request.label = search rules in subst (λ k. DidAsk c.args.engine.now c.in-Ask.request k c.args.self.now c.ask.new.self) b c.in_ok-ask-in-Ask.ensures.did))

pub returns-in_ok-ask-in-Action-clause-records : goal.returns-in_ok-ask-in-Action-clause-records
returns-in_ok-ask-in-Action-clause-records g c p past m f =
    let fits = subst (Fits past) c.in-Action.is f in
    subst (λ (l : Line). RecordsStep p past l c.args.self.now c.ask-in-Action.new.self) (sym c.in-Action.is)
    (action_records c.args.engine.now p past c.in-Action.request c.args.self.now c.ask-in-Action.new.self m fits
    (let b : arc_value c.in_ok-key-in-Action.key ≡ key.Action c.in-Action.request.label = search rules in subst (λ k. DidAsk c.args.engine.now c.in-Action.request k c.args.self.now c.ask-in-Action.new.self) b c.in_ok-ask-in-Action.ensures.did))

pub returns-in_ok-wait-in-Wait-clause-records : goal.returns-in_ok-wait-in-Wait-clause-records
returns-in_ok-wait-in-Wait-clause-records g c p past m f =
    let fits = subst (Fits past) c.in-Wait.is f in
    subst (λ (l : Line). RecordsStep p past l c.args.self.now c.wait.new.self) (sym c.in-Wait.is)
    (wait_records c.args.engine.now c.args.self.now c.wait.new.self p past c.in-Wait.name m fits.1 c.in_ok-wait-in-Wait.ensures.did)

pub returns-in-Cancel-clause-records : goal.returns-in-Cancel-clause-records
returns-in-Cancel-clause-records g c p past m f =
    subst (λ (l : Line). RecordsStep p past l c.args.self.now c.cancel.new.self) (sym c.in-Cancel.is)
    (cancel_records c.args.engine.now c.args.self.now c.cancel.new.self p past c.in-Cancel.name m c.cancel.ensures)

pub returns-in_ok-confirm-in-Close-clause-records : goal.returns-in_ok-confirm-in-Close-clause-records
returns-in_ok-confirm-in-Close-clause-records g c p past m f =
    let d = c.args.self.now in
    let b = c.confirm.new.self in
    let x = c.in_ok-confirm-in-Close.ensures.did in
    subst (λ (l : Line). RecordsStep p past l d c.close.new.self) (sym c.in-Close.is)
    (λ ls rest r. close_records c.args.engine.now b c.close.new.self p past c.in-Close.name c.close.ensures ls rest
    (records_confirmed c.args.engine.now ls (line.Close c.in-Close.name ∷ rest) d b p past m x r))
