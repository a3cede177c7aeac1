-- What the lines of a script have its journals commit.
use Rattle.std.proofs.Common.{◌≡◌, ◌<◌, ℕ, zero, suc, Bool, true, false, if◌then◌else◌, List, [], ◌∷◌, ◌++◌, map, flat_map, Option, Some, None, refl, sym, ap, ◌∙◌, arith, append_assoc, append-nil}
use Rattle.std.proofs.lemmas.Grind.{flat_map-append}
use Rattle.journal.specs.declared.event.Told.{Told}
use Rattle.journal.specs.declared.event.Told.TheVariants as told
use Rattle.journal.specs.Tell.{event_by}
use Rattle.turnstile.specs.Events.{has_number, events_by, AllBelow}
use Rattle.script.specs.declared.line.Line.{Line}
use Rattle.script.specs.declared.line.Line.TheVariants.{Put, Drop, Commit, Open, Ask, Action, Wait, Cancel, Close}
use Rattle.script.specs.Past.{Table, with_entry, nothing, after_all, is_cancelled}
use Rattle.script.specs.Plan.{Ends, Plan, no_plan, planned}
use Rattle.action_digest.specs.declared.key.Key.{Key}
use Rattle.action_digest.specs.declared.value.Value.{Value}
use Rattle.script_trace.specs.Events.{Events, Indices, commit_events, AddsLine, AddsLines, AddsEnd, AddsEnds, IsJournalOf, no_indices}
use Rattle.script_trace.proofs.Reading.{bare}

abbrev Log : Type 0
Log = List (List (Key × Value))

abbrev commit_in : Told Key Value → Log
commit_in (told.Commit by c) = c ∷ []
commit_in (told.Open by v) = []
commit_in (told.Close by t) = []
commit_in (told.Ask by t k) = []
commit_in (told.Leave by a) = []
commit_in (told.Start v k c) = []
commit_in (told.Keep v k b) = []
commit_in (told.End v k) = []
commit_in (told.Cyclic v k) = []
commit_in (told.Drop v k) = []
commit_in (told.Lost v k) = []

-- what the events commit, in order
abbrev pub commits : Events → Log
commits J = flat_map commit_in J

-- ---- events are what they tell without changes, and the changes

abbrev pub refilled : Log → Events → Events
refilled C [] = []
refilled [] (told.Commit by c ∷ J) = told.Commit by c ∷ refilled [] J
refilled (d ∷ C) (told.Commit by c ∷ J) = told.Commit by d ∷ refilled C J
refilled C (told.Open by v ∷ J) = told.Open by v ∷ refilled C J
refilled C (told.Close by t ∷ J) = told.Close by t ∷ refilled C J
refilled C (told.Ask by t k ∷ J) = told.Ask by t k ∷ refilled C J
refilled C (told.Leave by a ∷ J) = told.Leave by a ∷ refilled C J
refilled C (told.Start v k c ∷ J) = told.Start v k c ∷ refilled C J
refilled C (told.Keep v k b ∷ J) = told.Keep v k b ∷ refilled C J
refilled C (told.End v k ∷ J) = told.End v k ∷ refilled C J
refilled C (told.Cyclic v k ∷ J) = told.Cyclic v k ∷ refilled C J
refilled C (told.Drop v k ∷ J) = told.Drop v k ∷ refilled C J
refilled C (told.Lost v k ∷ J) = told.Lost v k ∷ refilled C J

pub refilled_back : (J : Events) → refilled (commits J) (map bare J) ≡ J
refilled_back [] = refl
refilled_back (told.Commit by c ∷ J) = ap (λ R. told.Commit by c ∷ R) (refilled_back J)
refilled_back (told.Open by v ∷ J) = ap (λ R. told.Open by v ∷ R) (refilled_back J)
refilled_back (told.Close by t ∷ J) = ap (λ R. told.Close by t ∷ R) (refilled_back J)
refilled_back (told.Ask by t k ∷ J) = ap (λ R. told.Ask by t k ∷ R) (refilled_back J)
refilled_back (told.Leave by a ∷ J) = ap (λ R. told.Leave by a ∷ R) (refilled_back J)
refilled_back (told.Start v k c ∷ J) = ap (λ R. told.Start v k c ∷ R) (refilled_back J)
refilled_back (told.Keep v k b ∷ J) = ap (λ R. told.Keep v k b ∷ R) (refilled_back J)
refilled_back (told.End v k ∷ J) = ap (λ R. told.End v k ∷ R) (refilled_back J)
refilled_back (told.Cyclic v k ∷ J) = ap (λ R. told.Cyclic v k ∷ R) (refilled_back J)
refilled_back (told.Drop v k ∷ J) = ap (λ R. told.Drop v k ∷ R) (refilled_back J)
refilled_back (told.Lost v k ∷ J) = ap (λ R. told.Lost v k ∷ R) (refilled_back J)

-- ---- the events of the driver's seat hold all commits

own_first : (by : ℕ) (e : Told Key Value) (J : Events) → by < 1 → commits (if has_number 0 (Some by) then e ∷ J else J) ≡ commit_in e ++ commits J
own_first zero e J l = refl
own_first (suc by) e J l = absurd (omega arith)

own_commits : (J : Events) → AllBelow event_by 1 J → commits (events_by event_by 0 J) ≡ commits J
own_commits [] b = refl
own_commits (told.Commit by c ∷ J) b = own_first by (told.Commit by c) (events_by event_by 0 J) b.0 ∙ ap (λ C. c ∷ C) (own_commits J b.1)
own_commits (told.Open by v ∷ J) b = own_first by (told.Open by v) (events_by event_by 0 J) b.0 ∙ own_commits J b.1
own_commits (told.Close by t ∷ J) b = own_first by (told.Close by t) (events_by event_by 0 J) b.0 ∙ own_commits J b.1
own_commits (told.Ask by t k ∷ J) b = own_first by (told.Ask by t k) (events_by event_by 0 J) b.0 ∙ own_commits J b.1
own_commits (told.Leave by a ∷ J) b = own_first by (told.Leave by a) (events_by event_by 0 J) b.0 ∙ own_commits J b.1
own_commits (told.Start v k c ∷ J) b = own_commits J b.1
own_commits (told.Keep v k c ∷ J) b = own_commits J b.1
own_commits (told.End v k ∷ J) b = own_commits J b.1
own_commits (told.Cyclic v k ∷ J) b = own_commits J b.1
own_commits (told.Drop v k ∷ J) b = own_commits J b.1
own_commits (told.Lost v k ∷ J) b = own_commits J b.1

-- ---- what each line adds

abbrev line_commits : Plan → Line → Log
line_commits p (Put path bytes) = []
line_commits p (Drop path) = []
line_commits p Commit = commits (commit_events p)
line_commits p (Open t) = []
line_commits p (Ask r) = []
line_commits p (Action r) = []
line_commits p (Wait q) = []
line_commits p (Cancel q) = []
line_commits p (Close t) = []

abbrev made : Ends → Plan → List Line → Log
made ends p [] = []
made ends p (l ∷ ls) = line_commits p l ++ made ends (planned ends p l) ls

line_adds : (J : Events) (p : Plan) (own : Events) (n : Indices) (l : Line) (es : Events) (m : Indices) → AddsLine J p own n l es m → commits es ≡ line_commits p l
line_adds J p own n (Put path bytes) es m a = ap commits a.0
line_adds J p own n (Drop path) es m a = ap commits a.0
line_adds J p own n Commit es m a = ap commits a.0
line_adds J p own n (Open t) es m a = ap commits a.adds
line_adds J p own n (Ask r) es m a = ap commits a.adds
line_adds J p own n (Action r) es m a = ap commits a.adds
line_adds J p own n (Wait q) es m a = ap commits a.0
line_adds J p own n (Cancel q) es m a = ap commits a.0.adds
line_adds J p own n (Close t) es m a = ap commits a.0.adds

lines_add : (J : Events) (ends : Ends) (p : Plan) (own : Events) (n : Indices) (ls : List Line) (all : Events) (m : Indices) → AddsLines J ends p own n ls all m → commits all ≡ commits own ++ made ends p ls
lines_add J ends p own n [] all m a = ap commits a.0 ∙ sym (append-nil (commits own))
lines_add J ends p own n (l ∷ ls) all m (es, i, first, rest) =
    lines_add J ends (planned ends p l) (own ++ es) i ls all m rest
    ∙ ap (λ C. C ++ made ends (planned ends p l) ls) (flat_map-append commit_in own es ∙ ap (λ C. commits own ++ C) (line_adds J p own n l es i first))
    ∙ append_assoc (commits own) (line_commits p l) (made ends (planned ends p l) ls)

end_adds : (n : Indices) (t : List ℕ) (o : Option Bool) (es : Events) → AddsEnd n t o es → commits es ≡ []
end_adds n t (Some true) es a = ap commits a.adds
end_adds n t (Some false) es a = ap commits a
end_adds n t None es a = ap commits a

ends_add : (n : Indices) (opened : Table Bool) (ls : List Line) (es : Events) → AddsEnds n opened ls es → commits es ≡ []
ends_add n opened [] es a = ap commits a
ends_add n opened (Open t ∷ ls) es (first, rest, f, r, e) =
    ap commits e ∙ flat_map-append commit_in first rest ∙ ap (λ C. C ++ commits rest) (end_adds n t (opened t) first f) ∙ ends_add n (with_entry t false opened) ls rest r
ends_add n opened (Put path bytes ∷ ls) es a = ends_add n opened ls es a
ends_add n opened (Drop path ∷ ls) es a = ends_add n opened ls es a
ends_add n opened (Commit ∷ ls) es a = ends_add n opened ls es a
ends_add n opened (Ask r ∷ ls) es a = ends_add n opened ls es a
ends_add n opened (Action r ∷ ls) es a = ends_add n opened ls es a
ends_add n opened (Wait q ∷ ls) es a = ends_add n opened ls es a
ends_add n opened (Cancel q ∷ ls) es a = ends_add n opened ls es a
ends_add n opened (Close t ∷ ls) es a = ends_add n opened ls es a

-- each journal of the lines commits the same
abbrev pub script_log : List Line → Log
script_log ls = made (is_cancelled ls) no_plan ls

pub journal_commits : (ls : List Line) (J : Events) → IsJournalOf ls J → commits J ≡ script_log ls
journal_commits ls J j =
    sym (own_commits J j.below) ∙ ap commits j.events ∙ flat_map-append commit_in j.own j.closing
    ∙ ap (λ C. C ++ commits j.closing) (lines_add J (is_cancelled ls) no_plan [] no_indices ls j.own j.indices j.lines)
    ∙ ap (λ C. script_log ls ++ C) (ends_add j.indices (after_all nothing ls).opened ls j.closing j.ends) ∙ append-nil (script_log ls)
