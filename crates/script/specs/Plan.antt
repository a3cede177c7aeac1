-- What a script asks for: the log of its commits, each transaction's version, and each request's
-- key, version and whether it is cancelled.
use Rattle.std.specs.Prelude.{ℕ, Bool, if◌then◌else◌, not, List, [], ◌∷◌, ◌++◌, length, filter, unwrap_or, Option, Some, None}
use Rattle.std.specs.Option.{option_eq}
use Rattle.std.specs.Map.{lookup}
use Rattle.std.specs.Str.{bytes_eq}
use Rattle.script.specs.Past.{is_cancelled}
use Rattle.script.specs.declared.line.Line.{Line}
use Rattle.script.specs.declared.line.Request.{Request}
use Rattle.script.specs.declared.line.Line.TheVariants.{Put, Drop, Commit, Open, Ask, Action, Wait, Cancel, Close}

-- the file of a path from a commit on: its bytes, or nothing if it has none
pub record Change : Type 0 where
  pub path : List ℕ
  pub file : Option (List ℕ)

-- the digest of a label's target, or its action's text; the label as it prints
pub data Wish : Type 0 where
  Digest : List ℕ → Wish
  Text : List ℕ → Wish

pub record Planned : Type 0 where
  pub name : List ℕ
  pub transaction : List ℕ
  pub wish : Wish
  pub version : ℕ
  pub cancelled : Bool

-- the commits that make a version, in order; what was put or dropped since the last `commit`; each
-- transaction with its version, the newest first; the requests in order of asking
pub record Plan : Type 0 where
  pub log : List (List Change)
  pub gathered : List Change
  pub opened : List (List ℕ × ℕ)
  pub requests : List Planned

abbrev pub no_plan : Plan
no_plan = record { log = []; gathered = []; opened = []; requests = [] }

-- the file that a commit gives a path, if it names the path; in one commit a path stands once
abbrev pub file_in : List ℕ → List Change → Option (Option (List ℕ))
file_in path [] = None
file_in path (c ∷ cs) = if bytes_eq path c.path then Some c.file else file_in path cs

-- a path's file after a whole log, from the file before it; nothing if it has none
abbrev pub file_after : List ℕ → Option (List ℕ) → List (List Change) → Option (List ℕ)
file_after path file [] = file
file_after path file (c ∷ cs) = file_after path (unwrap_or (file_in path c) file) cs

abbrev pub newest : List ℕ → List (List Change) → Option (List ℕ)
newest path log = file_after path None log

-- the change gives its path another file than it has, or takes away the one that it has
abbrev pub differs : List (List Change) → Change → Bool
differs log c = not (option_eq bytes_eq (newest c.path log) c.file)

-- a commit with these changes; without any there is none
abbrev pub with_commit : List (List Change) → List Change → List (List Change)
with_commit log [] = log
with_commit log (c ∷ cs) = log ++ (c ∷ cs) ∷ []

-- of what was put and dropped, what differs makes a version
abbrev pub committed : List (List Change) → List Change → List (List Change)
committed log changes = with_commit log (filter (differs log) changes)

abbrev pub version_of : List ℕ → List (List ℕ × ℕ) → ℕ
version_of t opened = unwrap_or (lookup (bytes_eq t) opened) 0

-- which requests are cancelled, by their names
abbrev pub Ends : Type 0
Ends = List ℕ → Bool

-- a request, at the version of its transaction
abbrev pub wanted : Ends → Plan → Request → Wish → Planned
wanted ends p r wish = record { name = r.name; transaction = r.transaction; wish = wish; version = version_of r.transaction p.opened; cancelled = ends r.name }

abbrev pub requested : Plan → Planned → Plan
requested p r = record p { requests = p.requests ++ r ∷ [] }

abbrev pub gathering : Plan → List ℕ → Option (List ℕ) → Plan
gathering p path file = record p { gathered = p.gathered ++ record { path = path; file = file } ∷ [] }

-- one line more
abbrev pub planned : Ends → Plan → Line → Plan
planned ends p (Put path bytes) = gathering p path (Some bytes)
planned ends p (Drop path) = gathering p path None
planned ends p Commit = record p { log = committed p.log p.gathered; gathered = [] }
planned ends p (Open t) = record p { opened = (t, length p.log) ∷ p.opened }
planned ends p (Ask r) = requested p (wanted ends p r (Digest r.label))
planned ends p (Action r) = requested p (wanted ends p r (Text r.label))
planned ends p (Wait name) = p
planned ends p (Cancel name) = p
planned ends p (Close t) = p

abbrev pub plan_from : Ends → Plan → List Line → Plan
plan_from ends p [] = p
plan_from ends p (l ∷ ls) = plan_from ends (planned ends p l) ls

abbrev pub plan_of : List Line → Plan
plan_of ls = plan_from (is_cancelled ls) no_plan ls
