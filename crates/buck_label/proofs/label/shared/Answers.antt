use Rattle.std.proofs.Common.{◌∙◌, sym, ap, subst, refl, List, ℕ}
use Rattle.buck_label.specs.Labels.{IsName, printed, last_from}
use Rattle.buck_label.proofs.LabelLemmas.{in_full, for_short, short_name}
use Rattle.buck_label.proofs.label.shared.Goals as goal

pub invariant_of-result : goal.invariant_of-result
invariant_of-result c =
    let h = c.in-Some.home.now in
    let t = c.in-Some.field-0-1.now in
    let l = in_full h t c.args.rest.now c.args.text.now c.requires.text c.in-Some.ensures.some.0 c.in-Some.ensures.some.1 c.requires.label in
    (record { home = h; target = t }, l.0, c.in_ok-text-in-Some.ensures ∙ l.1, refl)

pub returns-in_ok-text-in-Some : goal.returns-in_ok-text-in-Some
returns-in_ok-text-in-Some c =
    let h = c.in-Some.home.now in
    let t = c.in-Some.field-0-1.now in
    let l = in_full h t c.args.rest.now c.args.text.now c.requires.text c.in-Some.ensures.some.0 c.in-Some.ensures.some.1 c.requires.label in
    (record { home = h; target = t }, l.2, c.in_ok-text-in-Some.ensures ∙ l.1)

pub label_of-requires : goal.label_of-requires
label_of-requires c =
    let h = c.args.rest.now in
    let l = for_short h c.args.text.now c.requires.text c.in-None.ensures.none c.requires.label in
    subst (λ (t : List ℕ). IsName (record { home = h; target = t })) (sym c.last.ensures) (short_name h l.0)

pub returns-in_ok-label_of-in-None : goal.returns-in_ok-label_of-in-None
returns-in_ok-label_of-in-None c =
    let h = c.args.rest.now in
    let l = for_short h c.args.text.now c.requires.text c.in-None.ensures.none c.requires.label in
    (record { home = h; target = last_from h h }, l.1, c.in_ok-label_of-in-None.ensures ∙ ap (λ (t : List ℕ). printed (record { home = h; target = t })) c.last.ensures)
