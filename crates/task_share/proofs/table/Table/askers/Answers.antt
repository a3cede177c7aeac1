use Rattle.std.proofs.Common.{◌≡◌, false, nat_eq, List, map, Some, sym, ap, ◌∙◌, subst}
use Rattle.std.specs.Arc.{arc_value}
use Rattle.std.specs.List.{list_any}
use Rattle.std.specs.Option.{option_copied, option_map}
use Rattle.task_share.specs.Asked.{Promised, Tasked}
use Rattle.task_share.specs.Seen.{Share, is_for, has_by, asks}
use Rattle.task_share.specs.Listed.{share_of, shares_of, names_of}
use Rattle.task_share.specs.Numbers.{key_at}
use Rattle.task_share.proofs.PlaceLemmas.{lookup_shares}
use Rattle.task_share.proofs.TableLemmas.{distinct_numbers}
use Rattle.task_share.proofs.NumberLemmas.{numbered_keys, entry_found, numbers_apart, same_number}
use Rattle.lists.specs.Lists.{AreDistinct}
use Rattle.task_share.proofs.table.Table.askers.Goals as goal

pub returns-in-Some-clause-promises : goal.returns-in-Some-clause-promises
returns-in-Some-clause-promises g c = λ n.
    subst (λ (ps : List (g.row.K.Denot × Share g.row.K.Denot g.row.T.Denot)). list_any (nat_eq n) c.as_slice.result.now ≡ asks g.K.PartialEq.eq ps (arc_value c.args.key.now) (Promised n)) c.self.view_is
    (ap (list_any (nat_eq n)) c.as_slice.ensures.keys ∙ sym (ap (is_for (λ (p : Share g.row.K.Denot g.row.T.Denot). has_by g.K.PartialEq.eq p (Promised n))) (lookup_shares (g.K.PartialEq.eq (arc_value c.args.key.now)) c.self.inside.places.entries ∙ ap (option_map share_of) (sym c.get.ensures.value ∙ ap option_copied c.in-Some.is))))

pub returns-in-Some-clause-tasks : goal.returns-in-Some-clause-tasks
returns-in-Some-clause-tasks g c = λ j.
    subst (λ (ps : List (g.row.K.Denot × Share g.row.K.Denot g.row.T.Denot)). list_any (g.K.PartialEq.eq j) (map arc_value c.values.result.now) ≡ asks g.K.PartialEq.eq ps (arc_value c.args.key.now) (Tasked j)) c.self.view_is
    (ap (λ ks. list_any (g.K.PartialEq.eq j) (map arc_value ks)) c.values.ensures ∙ sym (ap (is_for (λ (p : Share g.row.K.Denot g.row.T.Denot). has_by g.K.PartialEq.eq p (Tasked j))) (lookup_shares (g.K.PartialEq.eq (arc_value c.args.key.now)) c.self.inside.places.entries ∙ ap (option_map share_of) (sym c.get.ensures.value ∙ ap option_copied c.in-Some.is))))

pub returns-in-None-clause-promises : goal.returns-in-None-clause-promises
returns-in-None-clause-promises g c = λ n.
    subst (λ (ps : List (g.row.K.Denot × Share g.row.K.Denot g.row.T.Denot)). false ≡ asks g.K.PartialEq.eq ps (arc_value c.args.key.now) (Promised n)) c.self.view_is
    (sym (ap (is_for (λ (p : Share g.row.K.Denot g.row.T.Denot). has_by g.K.PartialEq.eq p (Promised n))) (lookup_shares (g.K.PartialEq.eq (arc_value c.args.key.now)) c.self.inside.places.entries ∙ ap (option_map share_of) (sym c.get.ensures.value ∙ ap option_copied c.in-None.is))))

pub returns-in-None-clause-tasks : goal.returns-in-None-clause-tasks
returns-in-None-clause-tasks g c = λ j.
    subst (λ (ps : List (g.row.K.Denot × Share g.row.K.Denot g.row.T.Denot)). false ≡ asks g.K.PartialEq.eq ps (arc_value c.args.key.now) (Tasked j)) c.self.view_is
    (sym (ap (is_for (λ (p : Share g.row.K.Denot g.row.T.Denot). has_by g.K.PartialEq.eq p (Tasked j))) (lookup_shares (g.K.PartialEq.eq (arc_value c.args.key.now)) c.self.inside.places.entries ∙ ap (option_map share_of) (sym c.get.ensures.value ∙ ap option_copied c.in-None.is))))

pub returns-in-Some-clause-distinct_promises : goal.returns-in-Some-clause-distinct_promises
returns-in-Some-clause-distinct_promises g c = subst AreDistinct (sym c.as_slice.ensures.keys) (distinct_numbers _ c.as_slice.ensures.distinct)

pub returns-in-Some-clause-numbers : goal.returns-in-Some-clause-numbers
returns-in-Some-clause-numbers g c =
    subst (λ (ps : List (g.row.K.Denot × Share g.row.K.Denot g.row.T.Denot)). map (key_at ps) c.numbers.result.now ≡ map Some (map arc_value c.values.result.now)) c.self.view_is
    ((let h = c.in-Some.place.now in
    let f = entry_found (λ a. g.K.PartialEq.eq (arc_value c.args.key.now) (arc_value a)) c.self.inside.places.entries h (sym c.get.ensures.value ∙ ap option_copied c.in-Some.is) in
    ap (map (key_at (shares_of c.self.inside.places.entries))) c.numbers.ensures.numbers ∙ (numbered_keys c.self.inside.places.entries h.askers.entries (c.self.invariant.2.askers (f.0, h) f.1) ∙ ap (λ vs. map Some (map arc_value vs)) (sym c.values.ensures))))

pub returns-in-Some-clause-distinct : goal.returns-in-Some-clause-distinct
returns-in-Some-clause-distinct g c =
    let eq = g.K.PartialEq.eq in
    let h = c.in-Some.place.now in
    let f = entry_found (λ a. eq (arc_value c.args.key.now) (arc_value a)) c.self.inside.places.entries h (sym c.get.ensures.value ∙ ap option_copied c.in-Some.is) in
    subst (λ ks. AreDistinct (map arc_value ks)) (sym c.values.ensures) (numbers_apart eq c.self.invariant.0 (names_of c.self.inside.places.entries) (same_number eq c.self.invariant.0 c.self.inside.places.entries c.self.invariant.2.distinct) h.askers.entries (c.self.invariant.2.askers (f.0, h) f.1) c.numbers.ensures.distinct)
