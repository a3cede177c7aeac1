use Rattle.std.proofs.Common.{rules, ◌≡◌, ◌++◌, true, false, cond, map, Some, None, refl, sym, ap, ◌∙◌, append-nil}
use Rattle.std.proofs.lemmas.List.{map-append}
use Rattle.std.specs.Arc.{arc_value}
use Rattle.std.specs.Option.{option_map, option_to_list}
use Rattle.task_share.specs.Listed.{share_of, is_idle, released}
use Rattle.task_share.proofs.place.settle.Goals as goal

pub returns-in-Some-clause-place : goal.returns-in-Some-clause-place
returns-in-Some-clause-place g c =
    let p = share_of c.args.place.now in
    let idle : is_idle p ≡ true = sym c.is_unasked.ensures ∙ c.if-is_unasked.true in
    ap (λ n. record p { name = option_map arc_value n }) c.take.ensures.after ∙ ap (λ b. record p { name = cond b None p.name }) (sym idle)

pub returns-in-Some-clause-candidates : goal.returns-in-Some-clause-candidates
returns-in-Some-clause-candidates g c =
    let p = share_of c.args.place.now in
    let idle : is_idle p ≡ true = sym c.is_unasked.ensures ∙ c.if-is_unasked.true in
    let e : released p ≡ Some (arc_value c.in-Some.name) = ap (λ b. cond b p.name None) idle ∙ ap (option_map arc_value) (sym c.take.ensures.value ∙ c.in-Some.is) in
    rw e (search (rules, map-append))

pub returns-in_default : goal.returns-in_default
returns-in_default g c =
    let p = share_of c.args.place.now in
    let idle : is_idle p ≡ true = sym c.is_unasked.ensures ∙ c.if-is_unasked.true in
    let e : None ≡ released p = sym (ap (λ b. cond b p.name None) idle ∙ ap (option_map arc_value) (sym c.take.ensures.value ∙ c.in_default.is)) in
    let old = map arc_value c.args.candidates.now.items in
    record {
      place = ap (λ n. record p { name = option_map arc_value n }) c.take.ensures.after ∙ ap (λ b. record p { name = cond b None p.name }) (sym idle);
      candidates = sym (append-nil old) ∙ ap (λ o. old ++ option_to_list o) e;
      room = refl;
      askers = refl;
      waits = refl;
    }

pub returns-else-is_unasked : goal.returns-else-is_unasked
returns-else-is_unasked g c =
    let p = share_of c.args.place.now in
    let busy : is_idle p ≡ false = sym c.is_unasked.ensures ∙ c.if-is_unasked.false in
    let old = map arc_value c.args.candidates.now.items in
    record {
      place = ap (λ b. record p { name = cond b None p.name }) (sym busy);
      candidates = sym (append-nil old) ∙ ap (λ b. old ++ option_to_list (cond b p.name None)) (sym busy);
      room = refl;
      askers = refl;
      waits = refl;
    }
