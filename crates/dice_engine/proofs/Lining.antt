-- What becomes of a core if ready jobs go on the line.
use Rattle.std.proofs.Common.{◌≡◌, ◌⊎◌, ◌≤◌, ◌<◌, inl, inr, ℕ, zero, suc, ◌+◌, ◌^◌, Bool, true, false, cond, eqb, eqb-true, ◌&&◌, List, [], ◌∷◌, ◌++◌, length, Option, Some, None, eq-eqb, refl, sym, ap, ◌∙◌, subst, arith, append-nil, append_assoc}
use Rattle.std.specs.Prelude.{IfSome, IfNone}
use Rattle.std.specs.Cmp.{first_so, second_so}
use Rattle.dice_key.specs.Meaning.{Meaning}
use Rattle.dice_key.specs.Lawful.{IsEquality}
use Rattle.dice_jobs.specs.Jobs.{Assigned}
use Rattle.core_laws.specs.Tasks.{IsOut}
use Rattle.dice_tasks.specs.Helds.{held_of}
use Rattle.version_epoch.specs.Standings.{open_count_of}
use Rattle.injected.specs.Seen.{cell_at}
use Rattle.dice_core.specs.Cores.{CoreSeen, IsAsBefore, IsJobOut, events_of, held_in, held_to, injected_to, poll_of, TakesOut}
use Rattle.std.specs.List.{AllByRecursion}
use Rattle.dice_jobs.specs.Alike.{IsAnsweredIn}
use Rattle.job_line.specs.Ends.{PutterView, with_job}
use mathlib.Core.List.{IsPrefix}
use Rattle.std.specs.List.{slice_get}
use Rattle.std.proofs.lemmas.Option.{none-some, same_Some}
use Rattle.lists.proofs.Places.{get_longer}
use Rattle.journal.specs.declared.event.Told.{Told}
use Rattle.turnstile.specs.Events.{StartsWith}
use Rattle.dice_engine.proofs.Callers.{answered_later}
use Rattle.dice_engine.specs.Turns.{log_of, left_of}
use Rattle.dice_engine.specs.Replies.{Reply, NotLive, NotYet, TheValue, TheCycle, NoRoom, IsBusy, IsReply}
use Rattle.dice_engine.specs.Rows.{Grows}
use Rattle.dice_engine.specs.Benches.{BenchView, IsLinedUp}
use Rattle.dice_engine.specs.Jobs.{AreAnswered, IsKnown, KeepsRest, GoOut, none_goes, goes_too, StopsAt, all_out, full, is_back, LinesUp}

module _ {K V : Type 0} (eq : K → K → Bool) where
  pub rests_on : (c d e : CoreSeen K V) → KeepsRest c d → KeepsRest d e → KeepsRest c e
  rests_on c d e p q = (q.0 ∙ p.0, q.1 ∙ p.1, q.2 ∙ p.2, q.3 ∙ p.3)

  -- all that went out leaves the rest
  pub out_rest : (c e : CoreSeen K V) (js : List (Assigned K V)) → GoOut eq c js e → KeepsRest c e
  out_rest c _ _ none_goes = (refl, refl, refl, refl)
  out_rest c _ _ (goes_too {js} {d} {e} j before out rest) = rests_on c d e (out_rest c d js before) rest

  stop_rest : (n : ℕ) (c d : CoreSeen K V) → StopsAt eq n c d → KeepsRest c d
  stop_rest n c d (all_out none same) = subst (KeepsRest c) (sym same) (refl, refl, refl, refl)
  stop_rest n c d (full many same) = subst (KeepsRest c) (sym same) (refl, refl, refl, refl)
  stop_rest n c d (is_back j e out back rest there) = rest

  pub lined_rest : (xs ys : List (Assigned K V)) (c d : CoreSeen K V) → LinesUp eq xs ys c d → KeepsRest c d
  lined_rest xs ys c d l = rests_on c l.mid d (out_rest c l.mid l.jobs l.out) (stop_rest (length ys) l.mid d l.stops)

  -- a job that went out is out
  pub out_is_out : IsEquality eq → (j : Assigned K V) (c d : CoreSeen K V) → TakesOut eq j c d → IsJobOut eq d j
  out_is_out laws j c d out =
      out.tasks j.name.version j.name.key
      ∙ ap (λ b. cond b (Some (held_of j IsOut)) (held_in eq c j.name.version j.name.key)) (ap (λ b. b && eq j.name.key j.name.key) (eq-eqb j.name.version j.name.version refl) ∙ laws.itself j.name.key)

  -- so it comes back
  pub came_back : (o : Option (Assigned K V)) (j : Assigned K V) (e f : CoreSeen K V) → IfSome o (λ x. (x ≡ j) × IsAsBefore eq e f × (IsJobOut eq e j → ⊥)) → IfNone o (IsJobOut eq e j × TakesOut eq j f e) → IsJobOut eq e j → TakesOut eq j f e
  came_back (Some x) j e f some none out = absurd (some.2 out)
  came_back None j e f some none out = none.1

  module _ (m : Meaning K V) (laws : IsEquality eq) where
    -- what a key has come to does not change if a job goes out
    out_poll : (j : Assigned K V) (c d : CoreSeen K V) → TakesOut eq j c d → KeepsRest c d → (v : ℕ) (k : K) → poll_of eq m d v k ≡ poll_of eq m c v k
    out_poll j c d out rest v k =
        ap (λ s. poll_of eq m (record d { sessions = s }) v k) rest.3
        ∙ (ap (λ s. poll_of eq m (record d { sessions = c.sessions; cells = s }) v k) rest.2
        ∙ ap (injected_to (m.kind k) (open_count_of c.sessions.epochs v) (cell_at eq m c.cells v k)) (ap held_to (out.tasks v k) ∙ by_case (eqb j.name.version v && eq j.name.key k) refl))
      where
        same : (w : ℕ) (q : K) → j.name.version ≡ w → j.name.key ≡ q → held_to (Some (held_of j IsOut)) ≡ held_to (held_in eq c w q)
        same w q e f = subst (λ w. held_to (Some (held_of j IsOut)) ≡ held_to (held_in eq c w q)) e (subst (λ q. held_to (Some (held_of j IsOut)) ≡ held_to (held_in eq c j.name.version q)) f (sym (ap held_to out.was)))

        by_case : (b : Bool) → (eqb j.name.version v && eq j.name.key k) ≡ b → held_to (cond b (Some (held_of j IsOut)) (held_in eq c v k)) ≡ held_to (held_in eq c v k)
        by_case false e = refl
        by_case true e = same v k (eqb-true j.name.version v (first_so (eqb j.name.version v) (eq j.name.key k) e)) (laws.same j.name.key k (second_so (eqb j.name.version v) (eq j.name.key k) e))

    outs_poll : (c e : CoreSeen K V) (js : List (Assigned K V)) → GoOut eq c js e → (v : ℕ) (k : K) → poll_of eq m e v k ≡ poll_of eq m c v k
    outs_poll c _ _ none_goes v k = refl
    outs_poll c _ _ (goes_too {js} {d} {e} j before out rest) v k = out_poll j d e out rest v k ∙ outs_poll c d js before v k

    stop_poll : (n : ℕ) (c d : CoreSeen K V) → StopsAt eq n c d → (v : ℕ) (k : K) → poll_of eq m d v k ≡ poll_of eq m c v k
    stop_poll n c d (all_out none same) v k = ap (λ x. poll_of eq m x v k) same
    stop_poll n c d (full many same) v k = ap (λ x. poll_of eq m x v k) same
    stop_poll n c d (is_back j e out back rest there) v k = sym (out_poll j d e back there v k) ∙ out_poll j c e out (rests_on c d e rest there) v k

    pub lined_poll : (xs ys : List (Assigned K V)) (c d : CoreSeen K V) → LinesUp eq xs ys c d → (v : ℕ) (k : K) → poll_of eq m d v k ≡ poll_of eq m c v k
    lined_poll xs ys c d l v k = stop_poll (length ys) l.mid d l.stops v k ∙ outs_poll c l.mid l.jobs l.out v k

-- what is ready or out is so after jobs went on the line
module _ {K V : Type 0} (eq : K → K → Bool) where
  out_sum : (c e : CoreSeen K V) (js : List (Assigned K V)) → GoOut eq c js e → length e.desk.ready + length e.desk.out ≡ length c.desk.ready + length c.desk.out
  out_sum c _ _ none_goes = refl
  out_sum c _ _ (goes_too {js} {d} {e} j before out rest) = let h = out_sum c d js before in let x = out.ready in let y = out.out in omega arith

  stop_sum : (n : ℕ) (c d : CoreSeen K V) → StopsAt eq n c d → length d.desk.ready + length d.desk.out ≡ length c.desk.ready + length c.desk.out
  stop_sum n c d (all_out none same) = ap (λ (x : CoreSeen K V). length x.desk.ready + length x.desk.out) same
  stop_sum n c d (full many same) = ap (λ (x : CoreSeen K V). length x.desk.ready + length x.desk.out) same
  stop_sum n c d (is_back j e out back rest there) = let x = out.ready in let y = out.out in let z = back.ready in let w = back.out in omega arith

  lined_busy : (xs ys : List (Assigned K V)) (c d : CoreSeen K V) (a b : ℕ) → LinesUp eq xs ys c d → IsBusy (left_of a c) → IsBusy (left_of b d)
  lined_busy xs ys c d a b l busy ready out =
      let p = out_sum c l.mid l.jobs l.out in
      let q = stop_sum (length ys) l.mid d l.stops in
      let r : length d.desk.ready ≡ 0 = ready in
      let o : length d.desk.out ≡ 0 = out in
      busy (omega arith) (omega arith)

  pub reply_lined : (m : Meaning K V) (J : List (Told K V)) (v : ℕ) (k : K) (ask : ℕ) (xs ys : List (Assigned K V)) (c d : CoreSeen K V) (a b : ℕ) (r : Reply K V) → LinesUp eq xs ys c d → IsReply eq m J v k ask (left_of a c) r → IsReply eq m J v k ask (left_of b d) r
  reply_lined m J v k ask xs ys c d a b NotLive l h = h
  reply_lined m J v k ask xs ys c d a b NotYet l h = (h.0, h.1, h.2, lined_busy xs ys c d a b l h.3)
  reply_lined m J v k ask xs ys c d a b (TheValue x) l h = h
  reply_lined m J v k ask xs ys c d a b (TheCycle p) l h = h
  reply_lined m J v k ask xs ys c d a b NoRoom l h = h

-- the parts of two benches that are the same
module _ {K V : Type 0} {a b : BenchView K V} where
  pub core_same : a ≡ b → a.core ≡ b.core
  core_same e = ap (λ (x : BenchView K V). x.core) e

  pub puts_same : a ≡ b → a.puts ≡ b.puts
  puts_same e = ap (λ (x : BenchView K V). x.puts) e

  pub line_same : a ≡ b → a.line ≡ b.line
  line_same e = ap (λ (x : BenchView K V). x.line) e

module _ {K V : Type 0} (eq : K → K → Bool) (m : Meaning K V) (longer : (C D : List (List (K × V))) (a : Assigned K V) → IsAnsweredIn eq m C a → IsAnsweredIn eq m (C ++ D) a) where
  -- jobs that are truly answered stay so as the journal grows
  pub all_later : (J I : List (Told K V)) (js : List (Assigned K V)) → StartsWith I J → AreAnswered eq m (log_of J) js → AreAnswered eq m (log_of I) js
  all_later J I [] p a = tt
  all_later J I (j ∷ js) p a = (answered_later eq m longer J I j p a.0, all_later J I js p a.1)

  pub grown_later : (J I : List (Told K V)) (js : List (Assigned K V)) → Grows J I → AreAnswered eq m (log_of J) js → AreAnswered eq m (log_of I) js
  grown_later J I js a h = all_later J I js (a.own ++ a.work, a.journal) h

  pub known_later : (J I : List (Told K V)) (seen : List (Assigned K V)) (j : Assigned K V) → StartsWith I J → IsKnown eq m (log_of J) seen j → IsKnown eq m (log_of I) seen j
  known_later J I seen j p (inl a) = inl (answered_later eq m longer J I j p a)
  known_later J I seen j p (inr l) = inr l

-- a job that was put is truly answered
module _ {K V : Type 0} (P : Assigned K V → Type 0) where
  pub one_of_all : (js : List (Assigned K V)) (n : ℕ) (j : Assigned K V) → AllByRecursion P js → slice_get js n ≡ Some j → P j
  one_of_all [] n j a e = absurd (none-some j e)
  one_of_all (x ∷ js) zero j a e = subst P (same_Some x j e) a.0
  one_of_all (x ∷ js) (suc n) j a e = one_of_all js n j a.1 e

  pub known_put : (seen puts : List (Assigned K V)) (n : ℕ) (j : Assigned K V) → IsPrefix seen puts → AllByRecursion P puts → slice_get seen n ≡ Some j → P j
  known_put seen puts n j p a e = one_of_all puts n j a (subst (λ xs. slice_get xs n ≡ Some j) p.1 (get_longer seen p.0 n j e))

  pub known_one : (seen puts : List (Assigned K V)) (j : Assigned K V) → IsPrefix seen puts → AllByRecursion P puts → P j ⊎ ((n : ℕ) × (slice_get seen n ≡ Some j)) → P j
  known_one seen puts j p a (inl h) = h
  known_one seen puts j p a (inr l) = known_put seen puts l.0 j p a l.1

-- While ready jobs go on the line: how many went, and what is known of them.
module _ {K V : Type 0} (eq : K → K → Bool) (m : Meaning K V) (p : PutterView (Assigned K V)) (c : CoreSeen K V) where
  pub record Lining (n : ℕ) (q : PutterView (Assigned K V)) (d : CoreSeen K V) : Type 0 where
    pub jobs : List (Assigned K V)
    pub put : q.puts ≡ p.puts ++ jobs
    pub out : GoOut eq c jobs d
    pub count : length d.desk.ready + n ≡ length c.desk.ready
    pub same : n ≡ 0 → d ≡ c
    pub line : q.line ≡ p.line
    pub answered : AreAnswered eq m (log_of (events_of c)) p.puts → AreAnswered eq m (log_of (events_of d)) q.puts

  pub lining_begins : Lining 0 p c
  lining_begins = record { jobs = []; put = sym (append-nil p.puts); out = none_goes; count = omega arith; same = λ e. refl; line = refl; answered = λ a. a }

  pub lining_more : (n : ℕ) (q r : PutterView (Assigned K V)) (d e : CoreSeen K V) (j : Assigned K V) → Lining n q d → TakesOut eq j d e → KeepsRest d e → IsAnsweredIn eq m (log_of (events_of e)) j → r ≡ with_job q j → Lining (n + 1) r e
  lining_more n q r d e j l out rest true_job is = record {
    jobs = l.jobs ++ j ∷ [];
    put = ap (λ (x : PutterView (Assigned K V)). x.puts) is ∙ (ap (λ xs. xs ++ j ∷ []) l.put ∙ append_assoc p.puts l.jobs (j ∷ []));
    out = goes_too j l.out out rest;
    count = (let x = out.ready in let y = l.count in omega arith);
    same = λ z. absurd (omega arith);
    line = ap (λ (x : PutterView (Assigned K V)). x.line) is ∙ l.line;
    answered = λ a. subst (AreAnswered eq m (log_of (events_of e))) (sym (ap (λ (x : PutterView (Assigned K V)). x.puts) is)) (all_more (IsAnsweredIn eq m (log_of (events_of e))) q.puts j (subst (λ I. AreAnswered eq m (log_of I) q.puts) (sym rest.0) (l.answered a)) true_job);
  }
    where
      all_more : (P : Assigned K V → Type 0) (xs : List (Assigned K V)) (x : Assigned K V) → AllByRecursion P xs → P x → AllByRecursion P (xs ++ x ∷ [])
      all_more P [] x a h = (h, tt)
      all_more P (y ∷ ys) x a h = (a.0, all_more P ys x a.1 h)

  lined : (n : ℕ) (q : PutterView (Assigned K V)) (d e : CoreSeen K V) (l : Lining n q d) → StopsAt eq (length q.puts) d e → events_of e ≡ events_of d → (c.desk.ready ≡ [] → e ≡ c) → IsLinedUp eq m p q c e
  lined n q d e l stops same none =
      let up : LinesUp eq p.puts q.puts c e = record { jobs = l.jobs; put = l.put; mid = d; out = l.out; stops = stops } in record {
        lines_up = up;
        rest = lined_rest eq p.puts q.puts c e up;
        none = none;
        line = l.line;
        answered = λ a. subst (λ I. AreAnswered eq m (log_of I) q.puts) (sym same) (l.answered a);
      }

  not_none : (n : ℕ) → n < length c.desk.ready → c.desk.ready ≡ [] → ⊥
  not_none n l e = let z : length c.desk.ready ≡ 0 = ap length e in omega arith

  -- all ready jobs are on the line
  pub lined_all : (n : ℕ) (q : PutterView (Assigned K V)) (d : CoreSeen K V) → Lining n q d → n ≡ length c.desk.ready → IsLinedUp eq m p q c d
  lined_all n q d l all =
      let z = l.count in
      lined n q d d l (all_out (no_more d.desk.ready (omega arith)) refl) refl (λ e. l.same (all ∙ ap length e))
    where
      no_more : {X : Type 0} (xs : List X) → length xs ≡ 0 → xs ≡ []
      no_more [] e = refl
      no_more (x ∷ xs) e = absurd (omega arith)

  -- the line takes no more
  pub lined_full : (n : ℕ) (q : PutterView (Assigned K V)) (d : CoreSeen K V) → Lining n q d → n < length c.desk.ready → 2 ^ 62 ≤ length q.puts → IsLinedUp eq m p q c d
  lined_full n q d l before many = lined n q d d l (full many refl) refl (λ e. absurd (not_none n before e))

  -- there was no memory for one more
  pub lined_back : (n : ℕ) (q r : PutterView (Assigned K V)) (d e f : CoreSeen K V) (j : Assigned K V) → Lining n q d → n < length c.desk.ready → r ≡ q → TakesOut eq j d e → TakesOut eq j f e → KeepsRest d e → KeepsRest e f → IsLinedUp eq m p r c f
  lined_back n q r d e f j l before is out back there here =
      subst (λ (x : PutterView (Assigned K V)). IsLinedUp eq m p x c f) (sym is)
      (lined n q d f l (is_back j e out back (rests_on eq d e f there here) (sym here.0, sym here.1, sym here.2, sym here.3)) (here.0 ∙ there.0) (λ e. absurd (not_none n before e)))
