use Rattle.std.proofs.Common.{◌≡◌, ◌∙◌, ◌∷◌, [], List, ap, sym, subst, length, map, arith}
use Rattle.std.specs.List.{AllByRecursion}
use Rattle.std.specs.Vec.Iter.{into_iter_items}
use Rattle.target_file.specs.declared.call.Call.{Call}
use Rattle.target_file.specs.Files.{IsFine}
use Rattle.target_file.specs.Seen.{call_of}
use Rattle.target_file.proofs.Finding.{pushed, all_done}
use Rattle.target_file.proofs.locating.located_all.Goals as goal
use Rattle.std.proofs.lemmas.List.{nil_from_length}

pub add_located-requires : goal.add_located-requires
add_located-requires c =
    let at = c.loop-call in
    let steps : into_iter_items at.call-iterator ≡ c.in-Some.call ∷ into_iter_items c.next.new.self = c.in-Some.ensures.steps.0 in
    let f : AllByRecursion IsFine (map call_of (c.in-Some.call ∷ into_iter_items c.next.new.self)) = subst (λ (r : List Call). AllByRecursion IsFine (map call_of r)) steps at.invariant.fine in
    f.0

pub loop-call-preserved : goal.loop-call-preserved
loop-call-preserved c =
    let at = c.loop-call in
    let x = c.in-Some.call in
    let steps : into_iter_items at.call-iterator ≡ x ∷ into_iter_items c.next.new.self = c.in-Some.ensures.steps.0 in
    let f : AllByRecursion IsFine (map call_of (x ∷ into_iter_items c.next.new.self)) = subst (λ (r : List Call). AllByRecursion IsFine (map call_of r)) steps at.invariant.fine in record {
      fine = f.1;
      so_far = pushed _ at.targets.items c.add_located.new.targets.items x (into_iter_items at.call-iterator) (into_iter_items c.next.new.self) at.invariant.so_far steps c.in_ok-add_located.ensures;
      count = let was = at.invariant.count in let gone = c.in-Some.ensures.steps.1 in let short = ap length steps in omega arith;
    }

pub returns : goal.returns
returns c =
    let at = c.loop-call in
    let empty : into_iter_items at.call-iterator ≡ [] = nil_from_length _ (sym at.invariant.count ∙ c.in-None.ensures.steps.0) in
    all_done at.targets.items (into_iter_items at.call-iterator) _ c.args.calls.items at.invariant.so_far empty c.into_iter-call-iterator.ensures.into_iter_gives.0
