-- The events that tell a number are those of a script's lines: what they name is spelled.
use Rattle.std.proofs.Common.{◌<◌, ℕ, zero, suc, Bool, true, false, cond, if◌then◌else◌, List, [], ◌∷◌, ◌++◌, filter, Option, Some, None, sym, subst, arith}
use Rattle.std.specs.List.{AllByRecursion}
use Rattle.journal.specs.declared.event.Told.{Told}
use Rattle.journal.specs.declared.event.Told.TheVariants as told
use Rattle.journal.specs.Events.{event_of}
use Rattle.journal.specs.Tell.{event_by}
use Rattle.turnstile.specs.Events.{has_number, events_by, AllBelow}
use Rattle.script.specs.declared.line.Line.{Line}
use Rattle.script.specs.declared.line.Line.TheVariants.{Put, Drop, Commit, Open, Ask, Action, Wait, Cancel, Close}
use Rattle.script.specs.Past.{Table, with_entry, nothing, after_all, is_cancelled}
use Rattle.script.specs.Plan.{Ends, Plan, Change, no_plan, planned, differs}
use Rattle.action_digest.specs.declared.key.Key.{Key}
use Rattle.action_digest.specs.declared.value.Value.{Value}
use Rattle.lists.proofs.Each.{all_append, all_end}
use Rattle.script_trace.specs.Output.{pair_of_change, pairs_of_changes}
use Rattle.script_trace.specs.Events.{Events, Indices, no_indices, AddsLine, AddsLines, AddsEnd, AddsEnds, IsJournalOf}
use Rattle.script_trace.proofs.Spelled.{IsSpelled}
use Rattle.script_trace.proofs.Sources.{PairFits}
use Rattle.script_trace.proofs.Lines.{LineFits}

-- what an event names that tells a number
abbrev pub OwnFits : Told Key Value → Type 0
OwnFits (told.Commit by c) = AllByRecursion PairFits c
OwnFits (told.Open by v) = Unit {0}
OwnFits (told.Close by t) = Unit {0}
OwnFits (told.Ask by t k) = IsSpelled k
OwnFits (told.Leave by a) = Unit {0}
OwnFits (told.Start v k c) = Unit {0}
OwnFits (told.Keep v k b) = Unit {0}
OwnFits (told.End v k) = Unit {0}
OwnFits (told.Cyclic v k) = Unit {0}
OwnFits (told.Drop v k) = Unit {0}
OwnFits (told.Lost v k) = Unit {0}

abbrev pub OwnFit : Events → Type 0
OwnFit J = AllByRecursion OwnFits J

abbrev ChangeFits : Change → Type 0
ChangeFits c = PairFits (pair_of_change c)

-- ---- the lines

pairs_fit : (f : Change → Bool) (cs : List Change) → AllByRecursion ChangeFits cs → AllByRecursion PairFits (pairs_of_changes (filter f cs))
pairs_fit f [] a = tt
pairs_fit f (c ∷ cs) a = by_test (f c) (pairs_fit f cs a.1)
  where
    by_test : (b : Bool) → AllByRecursion PairFits (pairs_of_changes (filter f cs)) → AllByRecursion PairFits (pairs_of_changes (cond b (c ∷ filter f cs) (filter f cs)))
    by_test true again = (a.0, again)
    by_test false again = again

event_fits : (c : List (Key × Value)) → AllByRecursion PairFits c → OwnFit (event_of 0 c)
event_fits [] a = tt
event_fits (p ∷ c) a = (a, tt)

line_adds : (J : Events) (p : Plan) (own : Events) (n : Indices) (l : Line) (es : Events) (m : Indices) → AllByRecursion ChangeFits p.gathered → LineFits l → AddsLine J p own n l es m → OwnFit es
line_adds J p own n (Put path bytes) es m g f a = subst OwnFit (sym a.0) tt
line_adds J p own n (Drop path) es m g f a = subst OwnFit (sym a.0) tt
line_adds J p own n Commit es m g f a = subst OwnFit (sym a.0) (event_fits (pairs_of_changes (filter (differs p.log) p.gathered)) (pairs_fit (differs p.log) p.gathered g))
line_adds J p own n (Open t) es m g f a = subst OwnFit (sym a.adds) (tt, tt)
line_adds J p own n (Ask r) es m g f a = subst OwnFit (sym a.adds) (f, tt)
line_adds J p own n (Action r) es m g f a = subst OwnFit (sym a.adds) (f, tt)
line_adds J p own n (Wait q) es m g f a = subst OwnFit (sym a.0) tt
line_adds J p own n (Cancel q) es m g f a = subst OwnFit (sym a.0.adds) (tt, tt)
line_adds J p own n (Close t) es m g f a = subst OwnFit (sym a.0.adds) (tt, tt)

gathered_fits : (ends : Ends) (p : Plan) (l : Line) → AllByRecursion ChangeFits p.gathered → LineFits l → AllByRecursion ChangeFits (planned ends p l).gathered
gathered_fits ends p (Put path bytes) g f = all_end ChangeFits p.gathered (record { path = path; file = Some bytes }) g f
gathered_fits ends p (Drop path) g f = all_end ChangeFits p.gathered (record { path = path; file = None }) g (f, tt)
gathered_fits ends p Commit g f = tt
gathered_fits ends p (Open t) g f = g
gathered_fits ends p (Ask r) g f = g
gathered_fits ends p (Action r) g f = g
gathered_fits ends p (Wait q) g f = g
gathered_fits ends p (Cancel q) g f = g
gathered_fits ends p (Close t) g f = g

lines_add : (J : Events) (ends : Ends) (p : Plan) (own : Events) (n : Indices) (ls : List Line) (all : Events) (m : Indices) → AllByRecursion ChangeFits p.gathered → AllByRecursion LineFits ls → OwnFit own → AddsLines J ends p own n ls all m → OwnFit all
lines_add J ends p own n [] all m g f o a = subst OwnFit (sym a.0) o
lines_add J ends p own n (l ∷ ls) all m g f o (es, i, first, rest) =
    lines_add J ends (planned ends p l) (own ++ es) i ls all m (gathered_fits ends p l g f.0) f.1 (all_append OwnFits own es o (line_adds J p own n l es i g f.0 first)) rest

-- ---- the end

end_adds : (n : Indices) (t : List ℕ) (o : Option Bool) (es : Events) → AddsEnd n t o es → OwnFit es
end_adds n t (Some true) es a = subst OwnFit (sym a.adds) (tt, tt)
end_adds n t (Some false) es a = subst OwnFit (sym a) tt
end_adds n t None es a = subst OwnFit (sym a) tt

ends_add : (n : Indices) (opened : Table Bool) (ls : List Line) (es : Events) → AddsEnds n opened ls es → OwnFit es
ends_add n opened [] es a = subst OwnFit (sym a) tt
ends_add n opened (Open t ∷ ls) es (first, rest, f, r, e) = subst OwnFit (sym e) (all_append OwnFits first rest (end_adds n t (opened t) first f) (ends_add n (with_entry t false opened) ls rest r))
ends_add n opened (Put path bytes ∷ ls) es a = ends_add n opened ls es a
ends_add n opened (Drop path ∷ ls) es a = ends_add n opened ls es a
ends_add n opened (Commit ∷ ls) es a = ends_add n opened ls es a
ends_add n opened (Ask r ∷ ls) es a = ends_add n opened ls es a
ends_add n opened (Action r ∷ ls) es a = ends_add n opened ls es a
ends_add n opened (Wait q ∷ ls) es a = ends_add n opened ls es a
ends_add n opened (Cancel q ∷ ls) es a = ends_add n opened ls es a
ends_add n opened (Close t ∷ ls) es a = ends_add n opened ls es a

-- ---- the whole journal

own_first : (by : ℕ) (e : Told Key Value) (J : Events) → by < 1 → OwnFit (if has_number 0 (Some by) then e ∷ J else J) → OwnFits e × OwnFit J
own_first zero e J l h = h
own_first (suc by) e J l h = absurd (omega arith)

own_back : (J : Events) → AllBelow event_by 1 J → OwnFit (events_by event_by 0 J) → OwnFit J
own_back [] b h = tt
own_back (told.Commit by c ∷ J) b h = let f = own_first by (told.Commit by c) (events_by event_by 0 J) b.0 h in (f.0, own_back J b.1 f.1)
own_back (told.Open by v ∷ J) b h = let f = own_first by (told.Open by v) (events_by event_by 0 J) b.0 h in (tt, own_back J b.1 f.1)
own_back (told.Close by t ∷ J) b h = let f = own_first by (told.Close by t) (events_by event_by 0 J) b.0 h in (tt, own_back J b.1 f.1)
own_back (told.Ask by t k ∷ J) b h = let f = own_first by (told.Ask by t k) (events_by event_by 0 J) b.0 h in (f.0, own_back J b.1 f.1)
own_back (told.Leave by a ∷ J) b h = let f = own_first by (told.Leave by a) (events_by event_by 0 J) b.0 h in (tt, own_back J b.1 f.1)
own_back (told.Start v k c ∷ J) b h = (tt, own_back J b.1 h)
own_back (told.Keep v k c ∷ J) b h = (tt, own_back J b.1 h)
own_back (told.End v k ∷ J) b h = (tt, own_back J b.1 h)
own_back (told.Cyclic v k ∷ J) b h = (tt, own_back J b.1 h)
own_back (told.Drop v k ∷ J) b h = (tt, own_back J b.1 h)
own_back (told.Lost v k ∷ J) b h = (tt, own_back J b.1 h)

pub journal_fits : (ls : List Line) (J : Events) → AllByRecursion LineFits ls → IsJournalOf ls J → OwnFit J
journal_fits ls J f j =
    own_back J j.below (subst OwnFit (sym j.events)
    (all_append OwnFits j.own j.closing
    (lines_add J (is_cancelled ls) no_plan [] no_indices ls j.own j.indices tt f tt j.lines)
    (ends_add j.indices (after_all nothing ls).opened ls j.closing j.ends)))
