use Rattle.std.proofs.Common.{◌≡◌, is_some, map, Some, None, true, false, sym, ap, ◌∙◌, subst, slice_get}
use Rattle.std.specs.Arc.{arc_value}
use Rattle.std.specs.Map.{lookup, values_of}
use Rattle.std.specs.Option.{option_map}
use Rattle.task_share.specs.Seen.{has_live, is_for}
use Rattle.task_share.specs.Listed.{share_of, shares_of, names_of, is_idle, AreNumbered, IsVacant}
use Rattle.task_share.specs.declared.place.Place.{Place}
use Rattle.task_share.proofs.PlaceLemmas.{lookup_shares}
use Rattle.task_share.proofs.TurnLemmas.{kept_itself}
use Rattle.task_share.proofs.NumberLemmas.{entry_of_value, found_number, has_at, names_at_set, share_at}
use Rattle.task_share.proofs.IdleLemmas.{dropped_listed, emptied_at}
use Rattle.task_share.proofs.idle.take_idle.Goals as goal
use Rattle.lists.proofs.Options.{is_missing}
use Rattle.std.proofs.lemmas.Bool.{and_parts}

pub returns-in_default-clause-listed : goal.returns-in_default-clause-listed
returns-in_default-clause-listed g c = λ cs room l.
    let eq = g.K.PartialEq.eq in
    let k = arc_value c.args.key in
    let es = c.args.places.now.entries in
    let missing : lookup (λ a. eq k (arc_value a)) es ≡ None = is_missing _ (sym c.get_index_of.ensures.found ∙ ap is_some c.in_default.is) in
    dropped_listed eq c.requires.equality (shares_of es) cs k room (lookup_shares (eq k) es ∙ ap (option_map share_of) missing) l

pub give_back-requires-clause-named : goal.give_back-requires-clause-named
give_back-requires-clause-named g c = found_number g.K.PartialEq.eq c.requires.equality c.args.places.now.entries c.args.key c.in-Some.at c.in-Some.ensures.index

pub give_back-requires-clause-busy : goal.give_back-requires-clause-busy
give_back-requires-clause-busy g c =
    sym (c.is_idle_at.ensures (arc_value c.args.key) (found_number g.K.PartialEq.eq c.requires.equality c.args.places.now.entries c.args.key c.in-Some.at c.in-Some.ensures.index)) ∙ c.if-not-is_idle_at.true

pub unreachable-requires-in_default-into_task : goal.unreachable-requires-in_default-into_task
unreachable-requires-in_default-into_task g c =
    let eq = g.K.PartialEq.eq in
    let law = c.requires.equality in
    let k = arc_value c.args.key in
    let es = c.args.places.now.entries in
    let h = c.in-Some-get_index_mut.place.now in
    let named : slice_get (names_of es) c.in-Some.at ≡ Some k = found_number eq law es c.args.key c.in-Some.at c.in-Some.ensures.index in
    let e = entry_of_value es c.in-Some.at h c.in-Some-get_index_mut.ensures.value in
    let found = share_at eq law es c.in-Some.at e.0 h k c.requires.linked.distinct e.1 named in
    let idle : is_idle (share_of h) ≡ true = sym (ap (is_for is_idle) found) ∙ (sym (c.is_idle_at.ensures k named) ∙ c.if-not-is_idle_at.false) in
    let t = c.requires.runs k (share_of h) found (and_parts (has_live (share_of h)) _ idle).0 in
    let n : is_some h.task ≡ false = ap is_some (sym (ap (λ (p : Place g.row.K.Denot g.row.T.Denot). p.task) c.replace-taken.ensures.value) ∙ c.in_default-into_task.ensures.none) in
    let f : true ≡ false = sym t ∙ n in
    cc

pub returns : goal.returns
returns g c =
    let eq = g.K.PartialEq.eq in
    let law = c.requires.equality in
    let k = arc_value c.args.key in
    let es = c.args.places.now.entries in
    let at = c.in-Some.at in
    let h = c.in-Some-get_index_mut.place.now in
    let w : Place g.row.K.Denot g.row.T.Denot = c.replace-taken.new.dest in
    let named : slice_get (names_of es) at ≡ Some k = found_number eq law es c.args.key at c.in-Some.ensures.index in
    let e = entry_of_value es at h c.in-Some-get_index_mut.ensures.value in
    let idle : is_idle (share_of h) ≡ true = sym (ap (is_for is_idle) (share_at eq law es at e.0 h k c.requires.linked.distinct e.1 named)) ∙ (sym (c.is_idle_at.ensures k named) ∙ c.if-not-is_idle_at.false) in
    let vacant : IsVacant (share_of w) = subst (λ (p : Place g.row.K.Denot g.row.T.Denot). IsVacant (share_of p)) (sym c.replace-taken.ensures.after) c.vacant-empty.ensures.vacant in
    let r = emptied_at eq law es at e.0 k h w c.requires.linked e.1 named idle vacant
    (ap (λ (p : Place g.row.K.Denot g.row.T.Denot). p.name) c.replace-taken.ensures.after ∙ c.vacant-empty.ensures.name)
    (ap (λ (p : Place g.row.K.Denot g.row.T.Denot). p.askers.entries) c.replace-taken.ensures.after ∙ c.vacant-empty.ensures.askers)
    (ap (λ (p : Place g.row.K.Denot g.row.T.Denot). p.waits.entries) c.replace-taken.ensures.after ∙ c.vacant-empty.ensures.waits) in
    let waits : c.in-Some-into_task.waits.entries ≡ h.waits.entries = c.in-Some-into_task.ensures.some.1 ∙ ap (λ (p : Place g.row.K.Denot g.row.T.Denot). p.waits.entries) c.replace-taken.ensures.value in
    record {
      linked = r.linked;
      listed = r.listed;
      named = ap (λ ks. slice_get ks at) (names_at_set es at w) ∙ named;
      numbered = subst (λ ks. AreNumbered ks c.in-Some-into_task.waits.entries) (sym (names_at_set es at w)) (subst (AreNumbered (names_of es)) (sym waits) (c.requires.linked.waits (e.0, h) (has_at es at (e.0, h) e.1)));
      some = record {
        mid = shares_of es;
        kept = kept_itself eq (shares_of es);
        place = share_of h;
        taken = r.taken;
        task = sym (ap (λ (p : Place g.row.K.Denot g.row.T.Denot). p.task) c.replace-taken.ensures.value) ∙ c.in-Some-into_task.ensures.some.0;
        waited = ap (λ xs. map arc_value (values_of xs)) waits;
      };
      none = tt;
    }
