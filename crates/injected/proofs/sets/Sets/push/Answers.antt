-- The number that the value has, or gets, names it.
use Rattle.std.proofs.Common.{◌≡◌, ◌-◌, ◌<◌, ◌++◌, ◌∷◌, [], ◌∙◌, true, cond, ap, sym, subst, length, slice_get, Some, arith}
use Rattle.std.specs.Arc.{arc_value}
use Rattle.std.specs.List.{list_any}
use Rattle.std.specs.declared.sync.Arc.{Arc}
use Rattle.std.proofs.lemmas.Result.{IfOk-at_ok}
use Rattle.injected.specs.Numbers.{sets_of, equal_at, AllNumbered}
use Rattle.injected.proofs.Numbered.{all_push, pushed, values_stay}
use Rattle.injected.proofs.sets.Sets.push.Goals as goal

pub invariant_of-self : goal.invariant_of-self
invariant_of-self g c =
    let xs = c.self.inside.values.keys in
    let zs = c.insert_full.new.self.keys in
    let ss = c.self.inside.sets.items in
    let n = c.unwrap-number.result.0 in
    let b = list_any (λ (k : Arc g.row.V.Denot _). equal_at g.V.PartialEq.eq c.args.value k) xs in
    let keys : zs ≡ cond b xs (xs ++ c.args.value ∷ []) = IfOk-at_ok (λ r. zs ≡ cond b xs (xs ++ c.args.value ∷ [])) c.unwrap-number.ensures c.insert_full.ensures.keys in
    let within : n < length zs = IfOk-at_ok (λ r. r.0 < length zs) c.unwrap-number.ensures c.insert_full.ensures.within in
    let items : c.push.new.self.items ≡ ss ++ (c.args.version, n) ∷ [] = rw c.unwrap.ensures at c.push.ensures.items in
    record {
      named = subst (AllNumbered (length zs)) (sym items) (all_push (length xs) (length zs) ss (c.args.version, n) (values_stay b xs zs c.args.value keys) c.self.invariant.named within);
      distinct = c.insert_full.ensures.unique;
      sets_fit = omega (arith, rw c.unwrap.ensures at c.push.ensures.len);
      values_fit = omega arith;
    }

pub returns-clause-sets : goal.returns-clause-sets
returns-clause-sets g c =
    let eq = g.V.PartialEq.eq in
    let xs = c.self.inside.values.keys in
    let zs = c.insert_full.new.self.keys in
    let ss = c.self.inside.sets.items in
    let n = c.unwrap-number.result.0 in
    let b = list_any (λ (k : Arc g.row.V.Denot _). equal_at eq c.args.value k) xs in
    let keys : zs ≡ cond b xs (xs ++ c.args.value ∷ []) = IfOk-at_ok (λ r. zs ≡ cond b xs (xs ++ c.args.value ∷ [])) c.unwrap-number.ensures c.insert_full.ensures.keys in
    let items : c.push.new.self.items ≡ ss ++ (c.args.version, n) ∷ [] = rw c.unwrap.ensures at c.push.ensures.items in
    let stored : (k : Arc g.row.V.Denot _) × (slice_get zs n ≡ Some k) × (equal_at eq c.args.value k ≡ true) = IfOk-at_ok (λ r. (k : Arc g.row.V.Denot _) × (slice_get zs r.0 ≡ Some k) × (equal_at eq c.args.value k ≡ true)) c.unwrap-number.ensures c.insert_full.ensures.stored in
    ap (sets_of zs) items ∙ (pushed eq c.requires.laws.same b xs zs c.args.value stored.0 ss (c.args.version, n) c.self.invariant.named keys stored.1 stored.2 ∙ ap (λ s. s.sets ++ (c.args.version, arc_value c.args.value) ∷ []) c.self.view_is)

pub returns-clause-used : goal.returns-clause-used
returns-clause-used g c = ap (λ s. s.room - 1) c.self.view_is
