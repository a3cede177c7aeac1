-- What was done of a script, and what is printed of it.
use Rattle.std.specs.Prelude.{◌≡◌, ◌+◌, ℕ, Bool, true, false, decimal, codes, nat_eq, List, ◌∷◌, ◌++◌, drop, length, Some}
use Rattle.std.specs.Map.{lookup}
use Rattle.std.specs.Str.{bytes_eq}
use Rattle.std.specs.HashMap.{get}
use Rattle.std.specs.Cmp.Lexicographic.{pointwise}
use Rattle.script.specs.declared.line.Line.{Line}
use Rattle.script.specs.declared.line.Request.{Request}
use Rattle.script.specs.Past.{Past, after, is_cancelled}
use Rattle.script.specs.Order.{Fits}
use Rattle.script.specs.Plan.{Plan, Planned, planned, no_plan, plan_from, plan_of}
use Rattle.script_trace.specs.Output.{line, log_of, key_of, cancelled_line, IsPrinted}
use Rattle.dice_run.specs.Answers.{IsToldOf}
use Rattle.dice_run.specs.Driving.{answer_of, newest_from, with_named}
use Rattle.dice_run.specs.declared.driver.Driver.{Driver}
use Rattle.dice_run.specs.declared.printer.Printer.{Printer}
use Rattle.lists.specs.Lists.{Has}

-- the lines were carried out: each request that they do not cancel was answered, and what the commits print is known
pub record IsDone (ls : List Line) (d : Driver) : Type 0 where
  pub newest : d.newest.items ≡ newest_from (is_cancelled ls) no_plan ls
  pub told : (r : Planned) → Has (plan_of ls).requests r → r.cancelled ≡ false
      → (text : List ℕ) × (answer_of d r.name ≡ Some text) × IsToldOf (log_of (plan_of ls).log) r.version (key_of r.wish) text

-- before the rest of the lines the printer has the newest version and the versions of the transactions of this plan, and stands at the next commit
pub record Stands (ls rest : List Line) (d : Driver) (t : Printer) (p : Plan) (past : Past) : Type 0 where
  pub newest : t.newest ≡ length p.log
  pub versions : (q : List ℕ) → get (pointwise nat_eq) t.versions q ≡ lookup (bytes_eq q) p.opened
  pub known : (q : List ℕ) → past.opened q ≡ Some true → (v : ℕ) × (lookup (bytes_eq q) p.opened ≡ Some v)
  pub next : drop t.told d.newest.items ≡ newest_from (is_cancelled ls) p rest
  pub whole : plan_of ls ≡ plan_from (is_cancelled ls) p rest

-- the line is the next one
pub record IsNext (ls : List Line) (d : Driver) (t : Printer) (l : Line) : Type 0 where
  pub rest : List Line
  pub plan : Plan
  pub past : Past
  pub stands : Stands ls (l ∷ rest) d t plan past
  pub fits : Fits past l
  pub done : IsDone ls d

-- one line more was printed
pub record Prints (ls : List Line) (d : Driver) (t u : Printer) (l : Line) : Type 0 where
  pub text : List ℕ
  pub out : u.out.items ≡ t.out.items ++ text
  pub printed : (rest : List Line) (p : Plan) (past : Past) → Stands ls (l ∷ rest) d t p past → IsPrinted (log_of (plan_of ls).log) (is_cancelled ls) p l text
  pub stands : (rest : List Line) (p : Plan) (past : Past) → Stands ls (l ∷ rest) d t p past → Stands ls rest d u (planned (is_cancelled ls) p l) (after past l)

-- the newest version after a commit was told
pub record Told (d : Driver) (t u : Printer) : Type 0 where
  pub version : ℕ
  pub later : List ℕ
  pub next : drop t.told d.newest.items ≡ version ∷ later
  pub told : u.told ≡ t.told + 1
  pub newest : u.newest ≡ version
  pub versions : u.versions ≡ t.versions
  pub out : u.out.items ≡ t.out.items ++ line (codes "commit " ++ decimal version)

-- a transaction was told
pub record Opened (name : List ℕ) (t u : Printer) : Type 0 where
  pub told : u.told ≡ t.told
  pub newest : u.newest ≡ t.newest
  pub versions : (q : List ℕ) → get (pointwise nat_eq) u.versions q ≡ with_named name (Some t.newest) (get (pointwise nat_eq) t.versions) q
  pub out : u.out.items ≡ t.out.items ++ line (codes "open " ++ name ++ 32 ∷ decimal t.newest)

-- the version of the request's transaction is known, and the answer, unless it was cancelled
pub record MayReply (ls : List Line) (d : Driver) (t : Printer) (r : Request) : Type 0 where
  pub version : ℕ
  pub known : get (pointwise nat_eq) t.versions r.transaction ≡ Some version
  pub answered : is_cancelled ls r.name ≡ false → (text : List ℕ) × (answer_of d r.name ≡ Some text)

-- how it was told
abbrev pub IsReply : Bool → Driver → Request → ℕ → List ℕ → Type 0
IsReply true d r v text = text ≡ cancelled_line r.name v
IsReply false d r v text = (answer : List ℕ) × (answer_of d r.name ≡ Some answer) × (text ≡ r.name ++ 32 ∷ decimal v ++ 32 ∷ answer)

pub record Replies (ls : List Line) (d : Driver) (t u : Printer) (r : Request) : Type 0 where
  pub version : ℕ
  pub known : get (pointwise nat_eq) t.versions r.transaction ≡ Some version
  pub text : List ℕ
  pub reply : IsReply (is_cancelled ls r.name) d r version text
  pub out : u.out.items ≡ t.out.items ++ text
  pub told : u.told ≡ t.told
  pub newest : u.newest ≡ t.newest
  pub versions : u.versions ≡ t.versions
