-- One line of a script more that is printed.
use Rattle.std.proofs.Common.{◌≡◌, ◌+◌, zero, suc, ℕ, Bool, true, false, cond, nat_eq, decimal, codes, List, [], ◌∷◌, ◌++◌, drop, length, Some, None, refl, sym, ap, ◌∙◌, subst, arith, append-nil, append_assoc}
use Rattle.std.specs.Option.{unwrap_or}
use Rattle.std.specs.Map.{lookup}
use Rattle.std.specs.Str.{bytes_eq}
use Rattle.std.specs.HashMap.{get}
use Rattle.std.specs.Cmp.Lexicographic.{pointwise, nat_list_eq_equiv}
use Rattle.dice_model.specs.Asks.{IsCycle}
use Rattle.dice_model.specs.Eval.{HasValue}
use Rattle.dice_model.proofs.EvalLaws.{cyclic-no-value}
use Rattle.script.specs.declared.line.Line.{Line}
use Rattle.script.specs.declared.line.Line.TheVariants.{Put, Drop, Commit, Open, Ask, Action, Wait, Cancel, Close}
use Rattle.script.specs.declared.line.Request.{Request}
use Rattle.script.specs.Past.{Past, after, nothing, is_cancelled}
use Rattle.script.specs.Order.{InOrder, IsNew}
use Rattle.script.specs.Plan.{Plan, Planned, Wish, Digest, Text, no_plan, planned, plan_from, plan_of, version_of, wanted, committed}
use Rattle.action_digest.specs.declared.key.Key.{Key}
use Rattle.action_digest.specs.declared.value.Value.{Value}
use Rattle.action_digest.specs.Buck.{buck}
use Rattle.action_digest.specs.Same.{key_equal}
use Rattle.action_digest.specs.Cycles.{keys_of, ReachesFirst}
use Rattle.script_trace.specs.Output.{line, log_of, key_of, told_of, cancelled_line, IsAnswered, by_value, by_cycle, IsReplied, IsRepliedAs, IsOutputFrom, IsOutput}
use Rattle.dice_run.specs.Answers.{IsToldOf, told_value, told_cycle}
use Rattle.dice_run.specs.Driving.{newest_from, with_named}
use Rattle.dice_run.specs.Printing.{IsDone, Stands, IsNext, Prints, Told, Opened, MayReply, IsReply, Replies}
use Rattle.dice_run.specs.declared.driver.Driver.{Driver}
use Rattle.dice_run.specs.declared.printer.Printer.{Printer}
use Rattle.dice_run.proofs.Ending.{had_later}
use Rattle.lists.proofs.Members.{has_end}
use Rattle.lists.specs.Lists.{Has}
use Rattle.lists.proofs.Options.{none_some}

some_false : Some false ≡ Some true → ⊥
some_false e = cc

-- ---- lines that print nothing

-- a line that leaves the log, and what is known of transactions, prints nothing
quiet_stands : (ls rest : List Line) (d : Driver) (t : Printer) (p q : Plan) (past new : Past) (l : Line) → q.log ≡ p.log → q.opened ≡ p.opened → ((n : List ℕ) → new.opened n ≡ Some true → past.opened n ≡ Some true)
    → newest_from (is_cancelled ls) p (l ∷ rest) ≡ newest_from (is_cancelled ls) q rest → plan_from (is_cancelled ls) p (l ∷ rest) ≡ plan_from (is_cancelled ls) q rest → Stands ls (l ∷ rest) d t p past → Stands ls rest d t q new
quiet_stands ls rest d t p q past new l el eo k en ep s = record {
  newest = s.newest ∙ ap length (sym el);
  versions = λ n. s.versions n ∙ ap (lookup (bytes_eq n)) (sym eo);
  known = λ n h. (let v = s.known n (k n h) in (v.0, ap (lookup (bytes_eq n)) eo ∙ v.1));
  next = s.next ∙ en;
  whole = s.whole ∙ ep;
}

pub put_prints : (ls : List Line) (d : Driver) (t : Printer) (path bytes : List ℕ) → Prints ls d t t (Put path bytes)
put_prints ls d t path bytes = record {
  text = [];
  out = sym (append-nil t.out.items);
  printed = λ rest p past s. refl;
  stands = λ rest p past s. quiet_stands ls rest d t p (planned (is_cancelled ls) p (Put path bytes)) past (after past (Put path bytes)) (Put path bytes) refl refl (λ n h. h) refl refl s;
}

pub drop_prints : (ls : List Line) (d : Driver) (t : Printer) (path : List ℕ) → Prints ls d t t (Drop path)
drop_prints ls d t path = record {
  text = [];
  out = sym (append-nil t.out.items);
  printed = λ rest p past s. refl;
  stands = λ rest p past s. quiet_stands ls rest d t p (planned (is_cancelled ls) p (Drop path)) past (after past (Drop path)) (Drop path) refl refl (λ n h. h) refl refl s;
}

pub wait_prints : (ls : List Line) (d : Driver) (t : Printer) (q : List ℕ) → Prints ls d t t (Wait q)
wait_prints ls d t q = record {
  text = [];
  out = sym (append-nil t.out.items);
  printed = λ rest p past s. refl;
  stands = λ rest p past s. quiet_stands ls rest d t p p past (after past (Wait q)) (Wait q) refl refl (λ n h. h) refl refl s;
}

pub cancel_prints : (ls : List Line) (d : Driver) (t : Printer) (q : List ℕ) → Prints ls d t t (Cancel q)
cancel_prints ls d t q = record {
  text = [];
  out = sym (append-nil t.out.items);
  printed = λ rest p past s. refl;
  stands = λ rest p past s. quiet_stands ls rest d t p p past (after past (Cancel q)) (Cancel q) refl refl (λ n h. h) refl refl s;
}

closed_was : (past : Past) (t n : List ℕ) → (after past (Close t)).opened n ≡ Some true → past.opened n ≡ Some true
closed_was past t n h = by_test (bytes_eq t n) h
  where
    by_test : (b : Bool) → cond b (Some false) (past.opened n) ≡ Some true → past.opened n ≡ Some true
    by_test true e = absurd (some_false e)
    by_test false e = e

pub close_prints : (ls : List Line) (d : Driver) (t : Printer) (q : List ℕ) → Prints ls d t t (Close q)
close_prints ls d t q = record {
  text = [];
  out = sym (append-nil t.out.items);
  printed = λ rest p past s. refl;
  stands = λ rest p past s. quiet_stands ls rest d t p p past (after past (Close q)) (Close q) refl refl (closed_was past q) refl refl s;
}

-- ---- commit

first_same : {X : Type 0} {x y : X} {xs ys : List X} → x ∷ xs ≡ y ∷ ys → x ≡ y
first_same e = cc

rest_same : {X : Type 0} {x y : X} {xs ys : List X} → x ∷ xs ≡ y ∷ ys → xs ≡ ys
rest_same e = cc

drop_next : {X : Type 0} (xs : List X) (n : ℕ) (y : X) (ys : List X) → drop n xs ≡ y ∷ ys → drop (suc n) xs ≡ ys
drop_next [] zero y ys e = (let z : [] ≡ y ∷ ys = e in cc)
drop_next [] (suc n) y ys e = (let z : [] ≡ y ∷ ys = e in cc)
drop_next (x ∷ xs) zero y ys e = rest_same e
drop_next (x ∷ xs) (suc n) y ys e = drop_next xs n y ys e

add_one : (n : ℕ) → n + 1 ≡ suc n
add_one n = omega arith

pub commit_prints : (ls : List Line) (d : Driver) (t u : Printer) → Told d t u → Prints ls d t u Commit
commit_prints ls d t u x = record {
  text = line (codes "commit " ++ decimal x.version);
  out = x.out;
  printed = λ rest p past s. ap (λ n. line (codes "commit " ++ decimal n)) (first_same (sym x.next ∙ s.next));
  stands = λ rest p past s. record {
    newest = x.newest ∙ first_same (sym x.next ∙ s.next);
    versions = λ n. ap (λ v. get (pointwise nat_eq) v n) x.versions ∙ s.versions n;
    known = s.known;
    next = ap (λ n. drop n d.newest.items) (x.told ∙ add_one t.told) ∙ drop_next d.newest.items t.told (length (committed p.log p.gathered)) _ s.next;
    whole = s.whole;
  };
}

-- ---- open

pub open_prints : (ls : List Line) (d : Driver) (t u : Printer) (name : List ℕ) → Opened name t u → Prints ls d t u (Open name)
open_prints ls d t u name x = record {
  text = line (codes "open " ++ name ++ 32 ∷ decimal t.newest);
  out = x.out;
  printed = λ rest p past s. ap (λ n. line (codes "open " ++ name ++ 32 ∷ decimal n)) s.newest;
  stands = λ rest p past s. record {
    newest = x.newest ∙ s.newest;
    versions = λ q. x.versions q ∙ looked p q (s.newest) (s.versions q);
    known = λ q h. known_now p past q (s.known q) h;
    next = ap (λ n. drop n d.newest.items) x.told ∙ s.next;
    whole = s.whole;
  };
}
  where
    looked : (p : Plan) (q : List ℕ) → t.newest ≡ length p.log → get (pointwise nat_eq) t.versions q ≡ lookup (bytes_eq q) p.opened → with_named name (Some t.newest) (get (pointwise nat_eq) t.versions) q ≡ lookup (bytes_eq q) ((name, length p.log) ∷ p.opened)
    looked p q en e =
        ap (λ b. cond b (Some t.newest) (get (pointwise nat_eq) t.versions q)) (nat_list_eq_equiv.symm name q)
        ∙ (ap (λ n. cond (bytes_eq q name) (Some n) (get (pointwise nat_eq) t.versions q)) en ∙ ap (cond (bytes_eq q name) (Some (length p.log))) e)

    known_now : (p : Plan) (past : Past) (q : List ℕ) → (past.opened q ≡ Some true → (v : ℕ) × (lookup (bytes_eq q) p.opened ≡ Some v)) → (after past (Open name)).opened q ≡ Some true → (v : ℕ) × (lookup (bytes_eq q) ((name, length p.log) ∷ p.opened) ≡ Some v)
    known_now p past q k h = by_test (bytes_eq q name) (ap (λ b. cond b (Some true) (past.opened q)) (nat_list_eq_equiv.symm q name) ∙ h)
      where
        by_test : (b : Bool) → cond b (Some true) (past.opened q) ≡ Some true → (v : ℕ) × (cond b (Some (length p.log)) (lookup (bytes_eq q) p.opened) ≡ Some v)
        by_test true e = (length p.log, refl)
        by_test false e = k e

-- ---- requests

answered_so : (C : List (List (Key × Value))) (r : Planned) (text : List ℕ) → IsToldOf C r.version (key_of r.wish) text → IsAnswered C r (told_of r text)
answered_so C r _ (told_value x h) = by_value x h
answered_so C r _ (told_cycle ls c t) =
    by_cycle ls (λ x h. first_key (keys_of ls) c.cycle t x h) c t
  where
    first_key : (ks : List Key) → IsCycle key_equal buck C r.version ks → ReachesFirst C r.version (key_of r.wish) ks → (x : Value) → HasValue key_equal buck C r.version (key_of r.wish) x → ⊥
    first_key [] cyc reach x h = reach
    first_key (k ∷ ks) cyc reach x h = cyclic-no-value key_equal buck C r.version (key_of r.wish) x (record { first = k; rest = ks; cycle = cyc; reaches = reach }) h

module _ (ls rest : List Line) (d : Driver) (t : Printer) (p : Plan) (past : Past) (l : Line) (s : Stands ls (l ∷ rest) d t p past) (done : IsDone ls d) (r : Request) (w : Wish) (has : Has (planned (is_cancelled ls) p l).requests (wanted (is_cancelled ls) p r w)) where
  -- the request of the line is one of the plan's
  request_had : Has (plan_of ls).requests (wanted (is_cancelled ls) p r w)
  request_had = subst (λ (q : Plan). Has q.requests (wanted (is_cancelled ls) p r w)) (sym s.whole) (had_later (is_cancelled ls) rest (planned (is_cancelled ls) p l) (wanted (is_cancelled ls) p r w) has)

  pub may_reply : IsNew past r → MayReply ls d t r
  may_reply n =
      let v = s.known r.transaction n.opened in
      record {
        version = v.0;
        known = s.versions r.transaction ∙ v.1;
        answered = λ c. (let a = done.told (wanted (is_cancelled ls) p r w) request_had c in (a.0, a.1));
      }

  pub replied : (v : ℕ) → get (pointwise nat_eq) t.versions r.transaction ≡ Some v → (text : List ℕ) → IsReply (is_cancelled ls r.name) d r v text → IsReplied (log_of (plan_of ls).log) (wanted (is_cancelled ls) p r w) text
  replied v known text = by_test (is_cancelled ls r.name) refl
    where
      version_is : v ≡ version_of r.transaction p.opened
      version_is = ap (λ o. unwrap_or o 0) (sym known ∙ s.versions r.transaction)

      some_same : {X : Type 0} {x y : X} → Some x ≡ Some y → x ≡ y
      some_same e = cc

      by_test : (b : Bool) → is_cancelled ls r.name ≡ b → IsReply b d r v text → IsRepliedAs b (log_of (plan_of ls).log) (wanted (is_cancelled ls) p r w) text
      by_test true c e = e ∙ ap (cancelled_line r.name) version_is
      by_test false c e =
          let a = done.told (wanted (is_cancelled ls) p r w) request_had c in
          let same : a.0 ≡ e.0 = some_same (sym a.1 ∙ e.1) in
          subst (λ x. IsAnswered (log_of (plan_of ls).log) (wanted (is_cancelled ls) p r w) x)
          (ap (λ n. r.name ++ 32 ∷ decimal n ++ 32 ∷ e.0) (sym version_is) ∙ sym e.2)
          (answered_so (log_of (plan_of ls).log) (wanted (is_cancelled ls) p r w) e.0 (subst (IsToldOf (log_of (plan_of ls).log) (version_of r.transaction p.opened) (key_of w)) same a.2))

replied_stands : (ls rest : List Line) (d : Driver) (t u : Printer) (p q : Plan) (past new : Past) (l : Line) → u.told ≡ t.told → u.newest ≡ t.newest → u.versions ≡ t.versions → Stands ls rest d t q new → Stands ls rest d u q new
replied_stands ls rest d t u p q past new l et en ev s = record {
  newest = en ∙ s.newest;
  versions = λ n. ap (λ v. get (pointwise nat_eq) v n) ev ∙ s.versions n;
  known = s.known;
  next = ap (λ n. drop n d.newest.items) et ∙ s.next;
  whole = s.whole;
}

pub ask_prints : (ls : List Line) (d : Driver) (t u : Printer) (r : Request) → IsDone ls d → Replies ls d t u r → Prints ls d t u (Ask r)
ask_prints ls d t u r done x = record {
  text = x.text;
  out = x.out;
  printed = λ rest p past s. replied ls rest d t p past (Ask r) s done r (Digest r.label) (has_end p.requests _) x.version x.known x.text x.reply;
  stands = λ rest p past s. replied_stands ls rest d t u p (planned (is_cancelled ls) p (Ask r)) past (after past (Ask r)) (Ask r) x.told x.newest x.versions
      (quiet_stands ls rest d t p (planned (is_cancelled ls) p (Ask r)) past (after past (Ask r)) (Ask r) refl refl (λ n h. h) refl refl s);
}

pub action_prints : (ls : List Line) (d : Driver) (t u : Printer) (r : Request) → IsDone ls d → Replies ls d t u r → Prints ls d t u (Action r)
action_prints ls d t u r done x = record {
  text = x.text;
  out = x.out;
  printed = λ rest p past s. replied ls rest d t p past (Action r) s done r (Text r.label) (has_end p.requests _) x.version x.known x.text x.reply;
  stands = λ rest p past s. replied_stands ls rest d t u p (planned (is_cancelled ls) p (Action r)) past (after past (Action r)) (Action r) x.told x.newest x.versions
      (quiet_stands ls rest d t p (planned (is_cancelled ls) p (Action r)) past (after past (Action r)) (Action r) refl refl (λ n h. h) refl refl s);
}

pub ask_may_reply : (ls rest : List Line) (d : Driver) (t : Printer) (p : Plan) (past : Past) (r : Request) → Stands ls (Ask r ∷ rest) d t p past → IsDone ls d → IsNew past r → MayReply ls d t r
ask_may_reply ls rest d t p past r s done n = may_reply ls rest d t p past (Ask r) s done r (Digest r.label) (has_end p.requests _) n

pub action_may_reply : (ls rest : List Line) (d : Driver) (t : Printer) (p : Plan) (past : Past) (r : Request) → Stands ls (Action r ∷ rest) d t p past → IsDone ls d → IsNew past r → MayReply ls d t r
action_may_reply ls rest d t p past r s done n = may_reply ls rest d t p past (Action r) s done r (Text r.label) (has_end p.requests _) n

-- ---- the whole script

-- some lines were printed, and the rest comes; what the rest prints makes the output whole
pub record Printing (ls rest : List Line) (d : Driver) (t : Printer) : Type 0 where
  pub plan : Plan
  pub past : Past
  pub stands : Stands ls rest d t plan past
  pub order : InOrder past rest
  pub goes_on : (more : List ℕ) → IsOutputFrom (log_of (plan_of ls).log) (is_cancelled ls) plan rest more → IsOutput ls (t.out.items ++ more)

pub printing_first : (ls : List Line) (d : Driver) (t : Printer) → IsDone ls d → InOrder nothing ls → t.out.items ≡ [] → t.told ≡ 0 → t.newest ≡ 0 → ((q : List ℕ) → get (pointwise nat_eq) t.versions q ≡ None) → Printing ls ls d t
printing_first ls d t done o eo et en ev = record {
  plan = no_plan;
  past = nothing;
  stands = record { newest = en; versions = ev; known = λ q h. absurd (none_some h); next = ap (λ n. drop n d.newest.items) et ∙ done.newest; whole = refl };
  order = o;
  goes_on = λ more h. subst (λ (x : List ℕ). IsOutput ls (x ++ more)) (sym eo) h;
}

pub printing_more : (ls rest : List Line) (l : Line) (d : Driver) (t u : Printer) → (g : Printing ls (l ∷ rest) d t) → Prints ls d t u l → Printing ls rest d u
printing_more ls rest l d t u g w = record {
  plan = planned (is_cancelled ls) g.plan l;
  past = after g.past l;
  stands = w.stands rest g.plan g.past g.stands;
  order = g.order.1;
  goes_on = λ more h. subst (IsOutput ls) (sym (append_assoc t.out.items w.text more) ∙ ap (λ (x : List ℕ). x ++ more) (sym w.out)) (g.goes_on (w.text ++ more) (w.text, more, refl, w.printed rest g.plan g.past g.stands, h));
}

pub printing_next : (ls rest : List Line) (l : Line) (d : Driver) (t : Printer) → Printing ls (l ∷ rest) d t → IsDone ls d → IsNext ls d t l
printing_next ls rest l d t g done = record { rest = rest; plan = g.plan; past = g.past; stands = g.stands; fits = g.order.0; done = done }

pub printing_end : (ls : List Line) (d : Driver) (t : Printer) → Printing ls [] d t → IsOutput ls t.out.items
printing_end ls d t g = subst (IsOutput ls) (append-nil t.out.items) (g.goes_on [] refl)
