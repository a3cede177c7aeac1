use Rattle.std.proofs.Common.{map, IfOk}
use Rattle.std.proofs.lemmas.Result.{IfOk-weaker}
use Rattle.dice_words.specs.Accepted.{Asks, IsWithin}
use Rattle.dice_words.proofs.Commands.{accepted_when, asks_met, complete_met, never_refused, not_memory, ok_always, when_accepted}
use Rattle.dice_words.proofs.words.read_words.Goals as goal

pub returns-in_err-matches-clause-refused : goal.returns-in_err-matches-clause-refused
returns-in_err-matches-clause-refused c refused accepted =
    not_memory _ refused c.from_residual-in_err-matches.ensures.1 (when_accepted _ (map (λ w. w.now) c.args.words.now) c.in_ok-command_line.ensures c.in_err-matches.ensures.passes accepted)

pub returns-clause-accepted : goal.returns-clause-accepted
returns-clause-accepted c = ok_always c.ok_or.result (accepted_when _ (map (λ w. w.now) c.args.words.now) c.in_ok-command_line.ensures c.in_ok-matches.ensures.kinds)

both : (c : goal.Joined-matches) → IfOk c.ok_or.result (λ x. Asks (map (λ w. w.now) c.args.words.now) x × IsWithin x)
both c =
    let words = map (λ w. w.now) c.args.words.now in
    let complete = complete_met _ words c.in_ok-matches.matches c.in_ok-command_line.ensures c.in_ok-matches.ensures.matches
    (accepted_when _ words c.in_ok-command_line.ensures c.in_ok-matches.ensures.kinds) in
    asks_met _ words c.in_ok-matches.matches c.asked.result c.ok_or.result c.in_ok-command_line.ensures c.in_ok-matches.ensures.matches c.ok_or.ensures.value (c.asked.ensures complete)

pub returns-clause-named : goal.returns-clause-named
returns-clause-named c = IfOk-weaker c.ok_or.result _ _ (λ x h. h.0) (both c)

pub returns-clause-within : goal.returns-clause-within
returns-clause-within c = IfOk-weaker c.ok_or.result _ _ (λ x h. h.1) (both c)

pub returns-clause-refused : goal.returns-clause-refused
returns-clause-refused c refused accepted =
    let words = map (λ w. w.now) c.args.words.now in
    let complete = complete_met _ words c.in_ok-matches.matches c.in_ok-command_line.ensures c.in_ok-matches.ensures.matches accepted in
    never_refused _ c.asked.result c.ok_or.result c.ok_or.ensures.value (c.asked.ensures complete) refused
