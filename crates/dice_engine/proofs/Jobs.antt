-- What becomes of a job: from what the core says of its calls.
use Rattle.std.proofs.Common.{◌≡◌, ◌↔◌, IsTrue, ℕ, Bool, true, false, cond, List, [], ◌∷◌, Option, Some, None, refl, sym, ap, ◌∙◌, subst}
use Rattle.std.specs.Prelude.{Result, Ok, Err, IfOk, IfErr, IfSome, IfNone}
use Rattle.std.proofs.lemmas.Bool.{eq-eqb}
use Rattle.dice_key.specs.Meaning.{Meaning}
use Rattle.task_share.specs.Seen.{task_at}
use Rattle.journal.specs.declared.event.Told.{Told}
use Rattle.dice_jobs.specs.Jobs.{Name, Assigned, Stepped}
use Rattle.core_laws.specs.Tasks.{IsOut}
use Rattle.dice_tasks.specs.Helds.{held_of}
use Rattle.dice_tasks.specs.Endings.{GivesUpAll}
use Rattle.dice_core.specs.Cores.{CoreSeen, events_of, table_at, Turned, IsAsBefore, IsJobOut, IsNameOut, TakesOut, GivesUpOnly}
use Rattle.dice_core.specs.Givings.{Gives, IsTakenUp}
use Rattle.dice_core.proofs.CoreLemmas.{table_put}
use Rattle.turnstile.specs.Seats.{SeatView as Place}
use Rattle.job_line.specs.Ends.{PassView}
use Rattle.dice_engine.specs.Seats.{SeatView, seated, found_empty}
use Rattle.dice_engine.specs.Turns.{left_of, Adds, Turn, Later, Works, rests, works}
use Rattle.dice_engine.specs.Jobs.{LinesUp, GivesUpJob, gives_up, not_out, TakesUpStep, taken, stale, lost, GoesOut, ComesHome, CameOf}
use Rattle.dice_engine.specs.Doings.{RestsByJournal, TurnOver, GetsJob, from_line, from_core, FindsNothing}
use Rattle.dice_engine.proofs.Turned.{Entered, Ended, turned_any, any_found, turn_of_pass, work_later}

module _ {K V : Type 0} (eq : K → K → Bool) where
  pub goes_out : (o : Option (Assigned K V)) (c d : CoreSeen K V) → IfSome o (λ j. TakesOut eq j c d) → IfNone o ((c.desk.ready ≡ []) × (d ≡ c)) → GoesOut eq o c d
  goes_out (Some j) c d s n = s
  goes_out None c d s n = n

module _ {K V : Type 0} (eq : K → K → Bool) (m : Meaning K V) where
  -- from what the core says of a job that it is to give up
  pub given_up_or_not : (b : Bool) (n : Name K) (c d : CoreSeen K V) → (IsTrue b ↔ IsNameOut eq c n)
      → (b ≡ true → Turned eq m n.version c.tables d.tables (λ ps qs. GivesUpAll eq n.version None n.key ps qs c.desk d.desk))
      → (b ≡ true → IsNameOut eq d n → ⊥) → (b ≡ true → GivesUpOnly eq c d) → (b ≡ false → d ≡ c)
      → (d.entries ≡ c.entries) × (d.cells ≡ c.cells) × (d.sessions ≡ c.sessions) → GivesUpJob eq m n c d
  given_up_or_not true n c d out ends home only same rest = gives_up (record { was = out.0 refl; ends = ends refl; only = only refl; rest = rest; home = home refl })
  given_up_or_not false n c d out ends home only same rest = not_out (λ o. (let e : false ≡ true = out.1 o in cc)) (same refl)

  -- in both cases no job of the name is out
  pub name_home : (n : Name K) (c d : CoreSeen K V) → GivesUpJob eq m n c d → IsNameOut eq d n → ⊥
  name_home n c d (gives_up g) = g.home
  name_home n c d (not_out none same) = λ o. none (subst (λ x. IsNameOut eq x n) same o)

module _ {K V : Type 0} (eq : K → K → Bool) (m : Meaning K V) (veq : V → V → Bool) where
  name_of_job : (c : CoreSeen K V) (j : Assigned K V) → IsJobOut eq c j → IsNameOut eq c j.name
  name_of_job c j o = (j, o, refl)

  -- from what the core says of a step that it was given: it is handed back if it is stale
  pub given_step : (o : Option (Stepped K V)) (s : Stepped K V) (c d : CoreSeen K V) → IfSome o (λ x. (x ≡ s) × (IsJobOut eq c s.job → ⊥) × (d ≡ c))
      → IfNone o (Turned eq m s.job.name.version c.tables d.tables (λ ps qs. Gives eq s.job.name.version s ps qs c.desk d.desk))
      → IfNone o (Turned eq m s.job.name.version c.tables d.tables (λ ps qs. IsTakenUp eq m veq s.job.name.version s c.cells ps qs c.entries d.entries c.desk d.desk s.outcome))
      → (d.cells ≡ c.cells) × (d.sessions ≡ c.sessions) → TakesUpStep eq m veq s c d
  given_step (Some x) s c d old gives does rest = stale old.1 old.2
  given_step None s c d old gives does rest = taken (record { gives = gives; does = does; rest = rest })

  -- memory was refused for the step, and so the job that it names is given up
  pub refused_step : (s : Stepped K V) (n : Name K) (c b d : CoreSeen K V) → n ≡ s.job.name → IsJobOut eq c s.job → IsAsBefore eq c b → GivesUpJob eq m n b d → TakesUpStep eq m veq s c d
  refused_step s n c b d named out before up = by_case (subst (λ n. GivesUpJob eq m n b d) named up)
    where
      by_case : GivesUpJob eq m s.job.name b d → TakesUpStep eq m veq s c d
      by_case (gives_up g) = lost (record { was = out; refused = b; as_before = before; given_up = g })
      by_case (not_out none same) = absurd (none (name_of_job b s.job (before.tasks s.job.name.version s.job.name.key ∙ out)))

  -- if a step was taken, its job is out no more
  taken_home : (s : Stepped K V) (c d : CoreSeen K V) → Turned eq m s.job.name.version c.tables d.tables (λ ps qs. Gives eq s.job.name.version s ps qs c.desk d.desk) → IsJobOut eq d s.job → ⊥
  taken_home s c d t out =
      let v = s.job.name.version in
      t.turned.home s.job
      (subst (λ ps. task_at eq ps s.job.name.key ≡ Some (held_of s.job IsOut)) (table_put c.tables d.tables v t.tasks t.put v ∙ ap (λ b. cond b t.tasks (table_at c.tables v)) (eq-eqb v v refl)) out)

  -- in each case the job of the step is out no more
  pub step_home : (s : Stepped K V) (c d : CoreSeen K V) → TakesUpStep eq m veq s c d → IsJobOut eq d s.job → ⊥
  step_home s c d (taken t) = taken_home s c d t.gives
  step_home s c d (stale none same) = λ o. none (subst (λ x. IsJobOut eq x s.job) same o)
  step_home s c d (lost l) = λ o. l.given_up.home (name_of_job d s.job o)

  -- a job of which this came is out no more
  pub job_home : (came : Result (Stepped K V) (Name K)) (j : Assigned K V) (c d : CoreSeen K V) → CameOf eq m veq j came → ComesHome eq m veq came c d → IsJobOut eq d j → ⊥
  job_home (Ok s) j c d of home o = home.1 (subst (IsJobOut eq d) (sym of.job) o)
  job_home (Err n) j c d of home o = home.1 (subst (IsNameOut eq d) (sym of) (name_of_job d j o))

  pub came_of_job : (came : Result (Stepped K V) (Name K)) (j : Assigned K V) → IfOk came (λ s. CameOf eq m veq j (Ok s)) → IfErr came (λ n. n ≡ j.name) → CameOf eq m veq j came
  came_of_job (Ok s) j o e = o
  came_of_job (Err n) j o e = e

module _ {K V : Type 0} (eq : K → K → Bool) (m : Meaning K V) (old mid new : Place (Told K V)) (c d e : CoreSeen K V) where
  -- the turn in which the core c became the core d, and then, when ready jobs had gone on the line, e
  pub turned_over : {H : Type 0} (p : PassView H) (R : CoreSeen K V → CoreSeen K V → Type 0) (w mark : ℕ) (xs ys : List (Assigned K V)) → Entered eq m old mid (events_of c) → Ended eq m mid new (events_of e)
      → Adds eq m w (events_of c) (events_of d) (λ own work. own ≡ []) → events_of e ≡ events_of d → new.left ≡ left_of mark e → RestsByJournal eq m e → R c d → LinesUp eq xs ys d e → TurnOver eq m (seated p old) (seated p new) R
  turned_over p R w mark xs ys n z b same counts stands did lines_up =
      let a = subst (λ I. Adds eq m w (events_of c) I (λ own work. own ≡ [])) (sym same) b in record {
        turn = turned_any eq m old mid (events_of c) (events_of e) p new (λ found own work. own ≡ []) w n z a a.did;
        found = c;
        left = e;
        begins = sym (any_found eq m old mid (events_of c) (events_of e) p new (λ found own work. own ≡ []) w n z a a.did);
        ends = sym z.seen;
        counts = ap (λ n. left_of n e) (ap (λ (l : ℕ × ℕ × ℕ). l.2) counts) ∙ sym counts;
        rests = stands;
        done = d;
        did = did;
        puts = xs;
        more = ys;
        lines_up = lines_up;
      }

module _ {K V : Type 0} (eq : K → K → Bool) (m : Meaning K V) (old new : SeatView (Told K V)) where
  -- what became of the core says what may be said of it
  pub over_so : (R S : CoreSeen K V → CoreSeen K V → Type 0) → TurnOver eq m old new R → ((c d : CoreSeen K V) → R c d → S c d) → TurnOver eq m old new S
  over_so R S t f = record {
    turn = t.turn;
    found = t.found;
    left = t.left;
    begins = t.begins;
    ends = t.ends;
    counts = t.counts;
    rests = t.rests;
    done = t.done;
    did = f t.found t.done t.did;
    puts = t.puts;
    more = t.more;
    lines_up = t.lines_up;
  }

  -- what the pass of a seat does before its turn does not matter
  pub over_of_pass : (places : List ℕ) (empties : ℕ) (R : CoreSeen K V → CoreSeen K V → Type 0) → TurnOver eq m (record old { places = places; empties = empties }) new R → TurnOver eq m old new R
  over_of_pass places empties R t = record {
    turn = turn_of_pass eq m old new places empties (λ found own work. own ≡ []) t.turn;
    found = t.found;
    left = t.left;
    begins = t.begins;
    ends = t.ends;
    counts = t.counts;
    rests = t.rests;
    done = t.done;
    did = t.did;
    puts = t.puts;
    more = t.more;
    lines_up = t.lines_up;
  }

module _ {K V : Type 0} (eq : K → K → Bool) (m : Meaning K V) (old mid new : SeatView (Told K V)) where
  -- a seat got a job, and then had a turn in which it was given
  pub got_works : (j : Assigned K V) → GetsJob eq m old mid j → Turn eq m mid new (λ found own work. own ≡ []) → Works eq m old new
  got_works j (from_line place below is) t = works rests (turn_of_pass eq m old new (place ∷ old.places) old.empties (λ found own work. own ≡ []) (subst (λ z. Turn eq m z new (λ found own work. own ≡ [])) is t))
  got_works j (from_core o) t = works (works rests (turn_of_pass eq m old mid old.places (found_empty old).empties (λ found own work. own ≡ []) o.turn)) t

  pub got_later : (j : Assigned K V) → GetsJob eq m old mid j → Turn eq m mid new (λ found own work. own ≡ []) → Later eq m old new × (new.mine ≡ old.mine)
  got_later j (from_line place below is) t = work_later eq m old old new rests (turn_of_pass eq m old new (place ∷ old.places) old.empties (λ found own work. own ≡ []) (subst (λ z. Turn eq m z new (λ found own work. own ≡ [])) is t))
  got_later j (from_core o) t = work_later eq m old mid new (works rests (turn_of_pass eq m old mid old.places (found_empty old).empties (λ found own work. own ≡ []) o.turn)) t

  -- the line was empty, and then a turn had a job or none
  pub none_found : (s : SeatView (Told K V)) (o : Option (Assigned K V)) → s ≡ found_empty old → TurnOver eq m s mid (GoesOut eq o) → IfNone o (FindsNothing eq m old mid)
  none_found s None e t = subst (λ z. TurnOver eq m z mid (GoesOut eq None)) e t
  none_found s (Some j) e t = tt

  pub one_found : (s : SeatView (Told K V)) (o : Option (Assigned K V)) → s ≡ found_empty old → TurnOver eq m s mid (GoesOut eq o) → IfSome o (GetsJob eq m old mid)
  one_found s None e t = tt
  one_found s (Some j) e t = from_core (subst (λ z. TurnOver eq m z mid (GoesOut eq (Some j))) e t)
