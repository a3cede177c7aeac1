-- The end of a script: the requests that were neither waited for nor cancelled are waited for, and the transactions closed.
use Rattle.std.proofs.Common.{◌≡◌, ◌≢◌, ◌≤◌, ◌⊎◌, inl, inr, zero, suc, drop, length, ℕ, Bool, true, false, cond, List, [], ◌∷◌, ◌++◌, Option, Some, None, refl, sym, ap, ◌∙◌, subst, arith, append-nil, append_assoc}
use Rattle.std.specs.Option.{option_map}
use Rattle.std.specs.Str.{bytes_eq}
use Rattle.std.proofs.lemmas.Slice.Eq.{bytes_eq-Decides}
use Rattle.dice_engine.specs.Seats.{EngineId}
use Rattle.script.specs.declared.line.Line.{Line}
use Rattle.script.specs.declared.line.Line.TheVariants.{Put, Drop, Commit, Open, Ask, Action, Wait, Cancel, Close}
use Rattle.script.specs.declared.fate.Fate.{Fate}
use Rattle.script.specs.declared.fate.Fate.TheVariants as fate
use Rattle.script.specs.declared.requests.Asked.{Asked}
use Rattle.script.specs.Past.{Past, after, nothing, after_all, fate_of, come_to, left_by, given_up, is_given_up, is_cancelled}
use Rattle.script.specs.Order.{InOrder}
use Rattle.script.specs.Plan.{Ends, Plan, Planned, no_plan, planned, plan_from, plan_of}
use Rattle.script_trace.specs.Output.{key_of}
use Rattle.dice_run.specs.Answers.{IsToldOf}
use Rattle.journal.specs.declared.event.Told.{Told}
use Rattle.dice_engine.specs.Turns.{log_of as engine_log}
use Rattle.action_digest.specs.declared.key.Key.{Key}
use Rattle.action_digest.specs.declared.value.Value.{Value}
use Rattle.dice_run.specs.Driving.{Confirms, IsAt, IsTold, IsReady, Matches, Starts, Steps, newest_of, newest_from}
use Rattle.dice_run.specs.Driven.{Carried, Settled, Closing, Settling, AskedIn, Waiting}
use Rattle.dice_run.specs.Recording.{Records, RecordsStep}
use Rattle.dice_run.specs.Printing.{IsDone}
use Rattle.dice_run.specs.declared.driver.Driver.{Driver}
use Rattle.dice_run.proofs.Viewing.{looks_none}
use Rattle.dice_run.proofs.Recorded.{records_first, records_confirmed}
use Rattle.dice_run.proofs.Steps.{confirm_stands}
use Rattle.lists.proofs.Members.{has_last, has_more}
use Rattle.lists.specs.Lists.{Has}
use Rattle.lists.proofs.Options.{none_some, some_same}

-- ---- the lines

-- the driver stands after some lines, and before the rest
pub record Going (id : EngineId) (ls rest : List Line) (d : Driver) : Type 0 where
  pub plan : Plan
  pub past : Past
  pub stands : Matches id d plan past
  pub order : InOrder past rest
  pub whole : plan_of ls ≡ plan_from (is_cancelled ls) plan rest
  pub fates : after_all nothing ls ≡ after_all past rest
  pub newest : newest_from (is_cancelled ls) no_plan ls ≡ d.newest.items ++ newest_from (is_cancelled ls) plan rest
  pub records : Records ls rest d plan past

starts_stands : (id : EngineId) (d : Driver) → Starts id d → Matches id d no_plan nothing
starts_stands id d s = record {
  ours = s.ours;
  log = ap (λ (es : List (Told Key Value)). engine_log es) s.mine;
  gathered = s.gathered;
  within = λ t. omega arith;
  known = λ t k. absurd (none_some k);
  open_ = λ t x h. absurd (none_some (sym (s.transactions t) ∙ h));
  apart = λ t u x y h i e. absurd (none_some (sym (s.transactions t) ∙ h));
  pledged = λ q x h. absurd (none_some (sym (s.promises q) ∙ h));
  asks_apart = λ q r x y h i e. absurd (none_some (sym (s.promises q) ∙ h));
  requests = λ r h. absurd h;
  looks = looks_none d s.sees s.unpolled;
  found = λ q a h. absurd (none_some h);
  distinct = tt;
  touched = λ q t h. h;
}

pub going_first : (id : EngineId) (ls : List Line) (d : Driver) → Starts id d → InOrder nothing ls → Going id ls ls d
going_first id ls d s o = record {
  plan = no_plan;
  past = nothing;
  stands = starts_stands id d s;
  order = o;
  whole = refl;
  fates = refl;
  newest = ap (λ (ns : List ℕ). ns ++ newest_from (is_cancelled ls) no_plan ls) (sym s.newest);
  records = records_first id ls d s;
}

pub going_more : (id : EngineId) (ls rest : List Line) (l : Line) (d e : Driver) → (g : Going id ls (l ∷ rest) d) → Steps id (is_cancelled ls) g.plan g.past l d e → RecordsStep g.plan g.past l d e → Going id ls rest e
going_more id ls rest l d e g s k = record {
  plan = planned (is_cancelled ls) g.plan l;
  past = after g.past l;
  stands = s.stands;
  order = g.order.1;
  whole = g.whole;
  fates = g.fates;
  newest = g.newest ∙ (sym (append_assoc d.newest.items (newest_of g.plan l) (newest_from (is_cancelled ls) (planned (is_cancelled ls) g.plan l) rest)) ∙ ap (λ (ns : List ℕ). ns ++ newest_from (is_cancelled ls) (planned (is_cancelled ls) g.plan l) rest) (sym s.newest));
  records = k ls rest g.records;
}

pub going_ready : (id : EngineId) (ls rest : List Line) (l : Line) (d : Driver) → Going id ls (l ∷ rest) d → IsReady id d l
going_ready id ls rest l d g = record { plan = g.plan; past = g.past; stands = g.stands; fits = g.order.0 }

pub going_end : (id : EngineId) (ls : List Line) (d : Driver) → Going id ls [] d → Carried id ls d
going_end id ls d g = record {
  stands = subst (λ (p : Plan). Matches id d p (after_all nothing ls)) (sym g.whole) (subst (Matches id d g.plan) (sym g.fates) g.stands);
  newest = sym (g.newest ∙ append-nil d.newest.items);
  records = subst (λ (p : Plan). Records ls [] d p (after_all nothing ls)) (sym g.whole) (subst (Records ls [] d g.plan) (sym g.fates) g.records);
}

-- ---- requests and lines

asked_or_before : (ends : Ends) (ls : List Line) (p : Plan) (r : Planned) → Has (plan_from ends p ls).requests r → Has p.requests r ⊎ AskedIn ls r.name
asked_or_before ends [] p r h = inl h
asked_or_before ends (Put path bytes ∷ ls) p r h = asked_or_before ends ls (planned ends p (Put path bytes)) r h
asked_or_before ends (Drop path ∷ ls) p r h = asked_or_before ends ls (planned ends p (Drop path)) r h
asked_or_before ends (Commit ∷ ls) p r h = asked_or_before ends ls (planned ends p Commit) r h
asked_or_before ends (Open t ∷ ls) p r h = asked_or_before ends ls (planned ends p (Open t)) r h
asked_or_before ends (Wait n ∷ ls) p r h = asked_or_before ends ls (planned ends p (Wait n)) r h
asked_or_before ends (Cancel n ∷ ls) p r h = asked_or_before ends ls (planned ends p (Cancel n)) r h
asked_or_before ends (Close t ∷ ls) p r h = asked_or_before ends ls (planned ends p (Close t)) r h
asked_or_before ends (Ask q ∷ ls) p r h = elim (asked_or_before ends ls (planned ends p (Ask q)) r h) as (λ _. Has p.requests r ⊎ AskedIn (Ask q ∷ ls) r.name) [
  | inl a ↦ elim (has_last p.requests _ r a) as (λ _. Has p.requests r ⊎ AskedIn (Ask q ∷ ls) r.name) [ inl b ↦ inl b | inr e ↦ inr (inl (ap (λ (s : Planned). s.name) e)) ]
  | inr b ↦ inr (inr b)
]
asked_or_before ends (Action q ∷ ls) p r h = elim (asked_or_before ends ls (planned ends p (Action q)) r h) as (λ _. Has p.requests r ⊎ AskedIn (Action q ∷ ls) r.name) [
  | inl a ↦ elim (has_last p.requests _ r a) as (λ _. Has p.requests r ⊎ AskedIn (Action q ∷ ls) r.name) [ inl b ↦ inl b | inr e ↦ inr (inl (ap (λ (s : Planned). s.name) e)) ]
  | inr b ↦ inr (inr b)
]

-- requests that a plan has are had later on
pub had_later : (ends : Ends) (ls : List Line) (p : Plan) (r : Planned) → Has p.requests r → Has (plan_from ends p ls).requests r
had_later ends [] p r h = h
had_later ends (Put path bytes ∷ ls) p r h = had_later ends ls (planned ends p (Put path bytes)) r h
had_later ends (Drop path ∷ ls) p r h = had_later ends ls (planned ends p (Drop path)) r h
had_later ends (Commit ∷ ls) p r h = had_later ends ls (planned ends p Commit) r h
had_later ends (Open t ∷ ls) p r h = had_later ends ls (planned ends p (Open t)) r h
had_later ends (Wait n ∷ ls) p r h = had_later ends ls (planned ends p (Wait n)) r h
had_later ends (Cancel n ∷ ls) p r h = had_later ends ls (planned ends p (Cancel n)) r h
had_later ends (Close t ∷ ls) p r h = had_later ends ls (planned ends p (Close t)) r h
had_later ends (Ask q ∷ ls) p r h = had_later ends ls (planned ends p (Ask q)) r (has_more p.requests _ r h)
had_later ends (Action q ∷ ls) p r h = had_later ends ls (planned ends p (Action q)) r (has_more p.requests _ r h)

-- each request says whether its name is given up
abbrev pub AllSay : Ends → List Planned → Type 0
AllSay ends rs = (r : Planned) → Has rs r → r.cancelled ≡ ends r.name

say_end : (ends : Ends) (rs : List Planned) (s : Planned) → AllSay ends rs → s.cancelled ≡ ends s.name → AllSay ends (rs ++ s ∷ [])
say_end ends rs s a e r h = elim (has_last rs s r h) as (λ _. r.cancelled ≡ ends r.name) [ inl b ↦ a r b | inr i ↦ subst (λ (t : Planned). t.cancelled ≡ ends t.name) i e ]

pub all_say : (ends : Ends) (ls : List Line) (p : Plan) → AllSay ends p.requests → AllSay ends (plan_from ends p ls).requests
all_say ends [] p a = a
all_say ends (Put path bytes ∷ ls) p a = all_say ends ls (planned ends p (Put path bytes)) a
all_say ends (Drop path ∷ ls) p a = all_say ends ls (planned ends p (Drop path)) a
all_say ends (Commit ∷ ls) p a = all_say ends ls (planned ends p Commit) a
all_say ends (Open t ∷ ls) p a = all_say ends ls (planned ends p (Open t)) a
all_say ends (Wait n ∷ ls) p a = all_say ends ls (planned ends p (Wait n)) a
all_say ends (Cancel n ∷ ls) p a = all_say ends ls (planned ends p (Cancel n)) a
all_say ends (Close t ∷ ls) p a = all_say ends ls (planned ends p (Close t)) a
all_say ends (Ask q ∷ ls) p a = all_say ends ls (planned ends p (Ask q)) (say_end ends p.requests _ a refl)
all_say ends (Action q ∷ ls) p a = all_say ends ls (planned ends p (Action q)) (say_end ends p.requests _ a refl)

-- ---- waiting at the end

pub settling_first : (id : EngineId) (ls : List Line) (d : Driver) → (c : Carried id ls d) → Settling id ls d (after_all nothing ls)
settling_first id ls d c = record { stands = c.stands; newest = c.newest; given_up = λ q. refl; records = c.records; opened = refl }

true_false : true ≡ false → ⊥
true_false e = cc

-- a request that the lines do not cancel may be waited for
pub settling_some : (id : EngineId) (ls : List Line) (d : Driver) (past : Past) (q : List ℕ) → Settling id ls d past → (r : Planned) → Has (plan_of ls).requests r → r.name ≡ q → fate_of past q ≢ None
settling_some id ls d past q s r h n e =
    none_some (sym e ∙ (ap (fate_of past) (sym n) ∙ ap (option_map (λ (a : Asked). a.fate)) (s.stands.requests r h).made))

pub settling_alive : (id : EngineId) (ls : List Line) (d : Driver) (past : Past) (q : List ℕ) → Settling id ls d past → is_cancelled ls q ≡ false → fate_of past q ≢ Some fate.Cancelled
settling_alive id ls d past q s c e = true_false (sym (ap is_given_up e) ∙ (s.given_up q ∙ c))

waited_fate : (past : Past) (q n : List ℕ) → fate_of past q ≢ None → (bytes_eq q n ≡ true → fate_of (after past (Wait q)) n ≡ Some fate.Answered) × (bytes_eq q n ≡ false → fate_of (after past (Wait q)) n ≡ fate_of past n)
waited_fate past q n some = (
  (λ e. by_asked (past.asked n) refl e),
  (λ e. ap (λ b. option_map (λ (a : Asked). a.fate) (cond b (come_to fate.Answered (past.asked n)) (past.asked n))) e),
)
  where
    by_asked : (o : Option Asked) → past.asked n ≡ o → bytes_eq q n ≡ true → fate_of (after past (Wait q)) n ≡ Some fate.Answered
    by_asked None h e = absurd (some (ap (λ m. option_map (λ (a : Asked). a.fate) (past.asked m)) ((bytes_eq-Decides q n).0 e) ∙ ap (option_map (λ (a : Asked). a.fate)) h))
    by_asked (Some a) h e =
        ap (λ b. option_map (λ (a : Asked). a.fate) (cond b (come_to fate.Answered (past.asked n)) (past.asked n))) e ∙ ap (λ o. option_map (λ (a : Asked). a.fate) (come_to fate.Answered o)) h

by_bool : (b : Bool) (G : Type 0) → (b ≡ true → G) → (b ≡ false → G) → G
by_bool true G f g = f refl
by_bool false G f g = g refl

pub settling_waited : (id : EngineId) (ls : List Line) (d e : Driver) (past : Past) (q : List ℕ) → Settling id ls d past → fate_of past q ≢ None → is_cancelled ls q ≡ false → Steps id (is_cancelled ls) (plan_of ls) past (Wait q) d e
    → Records ls [] e (plan_of ls) (after past (Wait q)) → Settling id ls e (after past (Wait q))
settling_waited id ls d e past q s some alive w r = record {
  records = r;
  opened = s.opened;
  stands = w.stands;
  newest = w.newest ∙ (append-nil d.newest.items ∙ s.newest);
  given_up = λ n. by_bool (bytes_eq q n) _
      (λ t. ap is_given_up ((waited_fate past q n some).0 t) ∙ (sym alive ∙ ap (is_cancelled ls) ((bytes_eq-Decides q n).0 t)))
      (λ f. ap is_given_up ((waited_fate past q n some).1 f) ∙ s.given_up n);
}

pub waiting_first : (id : EngineId) (ls : List Line) (d : Driver) → Carried id ls d → Waiting id ls ls d
waiting_first id ls d c = record {
  past = after_all nothing ls;
  settling = settling_first id ls d c;
  plan = no_plan;
  whole = refl;
  left = λ r h n. elim (asked_or_before (is_cancelled ls) ls no_plan r h) as (λ _. (fate_of (after_all nothing ls) r.name ≡ Some fate.Answered) ⊎ AskedIn ls r.name) [ inl a ↦ absurd a | inr b ↦ inr b ];
}

pub waiting_end : (id : EngineId) (ls : List Line) (d : Driver) → Waiting id ls [] d → Settled id ls d
waiting_end id ls d w = record {
  past = w.past;
  stands = w.settling.stands;
  newest = w.settling.newest;
  records = w.settling.records;
  opened = w.settling.opened;
  answered = λ r h n. elim (w.left r h n) as (λ _. fate_of w.past r.name ≡ Some fate.Answered) [ inl a ↦ a | inr b ↦ absurd b ];
}

-- the promises that looks answered were polled
pub settled_confirmed : (id : EngineId) (ls : List Line) (d e : Driver) → Settled id ls d → Confirms id d e → Settled id ls e
settled_confirmed id ls d e s x = record {
  past = s.past;
  stands = confirm_stands id d e (plan_of ls) s.past s.stands x;
  newest = ap (λ v. v.items) x.newest ∙ s.newest;
  answered = s.answered;
  records = records_confirmed id ls [] d e (plan_of ls) s.past s.stands x s.records;
  opened = s.opened;
}

-- a line that is no request
pub waiting_past : (id : EngineId) (ls rest : List Line) (l : Line) (d : Driver) → ((q : List ℕ) → AskedIn (l ∷ rest) q → AskedIn rest q) → Waiting id ls (l ∷ rest) d → Waiting id ls rest d
waiting_past id ls rest l d f w = record {
  past = w.past;
  settling = w.settling;
  plan = planned (is_cancelled ls) w.plan l;
  whole = w.whole;
  left = λ r h n. elim (w.left r h n) as (λ _. (fate_of w.past r.name ≡ Some fate.Answered) ⊎ AskedIn rest r.name) [ inl a ↦ inl a | inr b ↦ inr (f r.name b) ];
}

-- a request: it was waited for, unless it is cancelled
pub waiting_more : (id : EngineId) (ls rest : List Line) (l : Line) (q : List ℕ) (d e : Driver) → (w : Waiting id ls (l ∷ rest) d) → ((n : List ℕ) → AskedIn (l ∷ rest) n → (q ≡ n) ⊎ AskedIn rest n)
    → fate_of w.past q ≢ None → ((past : Past) → Settling id ls d past → Settling id ls e (cond (is_cancelled ls q) past (after past (Wait q)))) → Waiting id ls rest e
waiting_more id ls rest l q d e w f some s = by_bool (is_cancelled ls q) _
    (λ c. record {
      past = w.past;
      settling = subst (λ (b : Bool). Settling id ls e (cond b w.past (after w.past (Wait q)))) c (s w.past w.settling);
      plan = planned (is_cancelled ls) w.plan l;
      whole = w.whole;
      left = λ r h n. elim (w.left r h n) as (λ _. (fate_of w.past r.name ≡ Some fate.Answered) ⊎ AskedIn rest r.name) [
        | inl a ↦ inl a
        | inr b ↦ elim (f r.name b) as (λ _. (fate_of w.past r.name ≡ Some fate.Answered) ⊎ AskedIn rest r.name) [
          | inl i ↦ absurd (true_false (sym c ∙ (ap (is_cancelled ls) i ∙ (sym (all_say (is_cancelled ls) ls no_plan (λ r h. absurd h) r h) ∙ n))))
          | inr j ↦ inr j
        ]
      ];
    })
    (λ c. record {
      past = after w.past (Wait q);
      settling = subst (λ (b : Bool). Settling id ls e (cond b w.past (after w.past (Wait q)))) c (s w.past w.settling);
      plan = planned (is_cancelled ls) w.plan l;
      whole = w.whole;
      left = λ r h n. by_bool (bytes_eq q r.name) _
          (λ t. inl ((waited_fate w.past q r.name some).0 t))
          (λ u. elim (w.left r h n) as (λ _. (fate_of (after w.past (Wait q)) r.name ≡ Some fate.Answered) ⊎ AskedIn rest r.name) [
            | inl a ↦ inl ((waited_fate w.past q r.name some).1 u ∙ a)
            | inr b ↦ elim (f r.name b) as (λ _. (fate_of (after w.past (Wait q)) r.name ≡ Some fate.Answered) ⊎ AskedIn rest r.name) [
              | inl i ↦ absurd (true_false (sym ((bytes_eq-Decides q r.name).1 i) ∙ u))
              | inr j ↦ inr j
            ]
          ]);
    })

-- the request of a line is one of the plan's
pub asked_now : (id : EngineId) (ls rest : List Line) (l : Line) (d : Driver) (r : Planned) → (w : Waiting id ls (l ∷ rest) d) → Has (planned (is_cancelled ls) w.plan l).requests r → Has (plan_of ls).requests r
asked_now id ls rest l d r w h = subst (λ (p : Plan). Has p.requests r) (sym w.whole) (had_later (is_cancelled ls) rest (planned (is_cancelled ls) w.plan l) r h)

-- ---- closing

pub closed_fate : (past : Past) (t n : List ℕ) → fate_of past n ≡ Some fate.Answered → fate_of (after past (Close t)) n ≡ Some fate.Answered
closed_fate past t n e = by_asked (past.asked n) refl
  where
    by_fate : (b : Bool) (f : Fate) → f ≡ fate.Answered → cond b (given_up f) f ≡ fate.Answered
    by_fate true fate.Answered e = refl
    by_fate true fate.Pending e = (let z : fate.Pending ≡ fate.Answered = e in cc)
    by_fate true fate.Cancelled e = (let z : fate.Cancelled ≡ fate.Answered = e in cc)
    by_fate false f e = e

    by_asked : (o : Option Asked) → past.asked n ≡ o → fate_of (after past (Close t)) n ≡ Some fate.Answered
    by_asked None h = absurd (none_some (sym (ap (option_map (λ (a : Asked). a.fate)) h) ∙ e))
    by_asked (Some a) h =
        ap (λ o. option_map (λ (a : Asked). a.fate) (left_by t o)) h
        ∙ ap Some (by_fate (bytes_eq t a.transaction) a.fate (some_same (sym (ap (option_map (λ (a : Asked). a.fate)) h) ∙ e)))

-- ---- done

told_at : (d : Driver) (r : Planned) (f : Fate) → f ≡ fate.Answered → IsAt d r f → IsTold d r
told_at d r fate.Answered e i = i.1
told_at d r fate.Pending e i = (let z : fate.Pending ≡ fate.Answered = e in cc)
told_at d r fate.Cancelled e i = (let z : fate.Cancelled ≡ fate.Answered = e in cc)

pub closing_done : (id : EngineId) (ls rest : List Line) (d : Driver) → Closing id ls rest d → IsDone ls d
closing_done id ls rest d s = record {
  newest = s.newest;
  told = λ r h n.
      let m = s.stands.requests r h in
      let f : m.asked.fate ≡ fate.Answered = some_same (sym (ap (option_map (λ (a : Asked). a.fate)) m.made) ∙ s.answered r h n) in
      let t = told_at d r m.asked.fate f m.at in
      (t.text, t.held, subst (λ C. IsToldOf C r.version (key_of r.wish) t.text) s.stands.log t.told);
}

-- ---- lists, from a place on

pub drop_whole : {X : Type 0} (xs : List X) (k : ℕ) → length xs ≤ k → drop k xs ≡ []
drop_whole [] zero h = refl
drop_whole [] (suc k) h = refl
drop_whole (x ∷ xs) zero h = absurd (let e : length (x ∷ xs) ≡ suc (length xs) = refl in omega arith)
drop_whole (x ∷ xs) (suc k) h = drop_whole xs k (let e : length (x ∷ xs) ≡ suc (length xs) = refl in omega arith)
