-- The output that stands for a script.
use Rattle.std.specs.Prelude.{◌≡◌, ℕ, Bool, true, false, List, [], ◌∷◌, ◌++◌, codes, map, length, decimal, Result, Ok, Err}
use Rattle.hex.specs.Hex.{encode_lower}
use Rattle.buck_label.specs.Labels.{printed_package}
use Rattle.dice_model.specs.Eval.{HasValue}
use Rattle.action_digest.specs.declared.key.Key.{Key}
use Rattle.action_digest.specs.declared.key.Key.TheVariants as key
use Rattle.action_digest.specs.declared.value.Value.{Value}
use Rattle.action_digest.specs.declared.value.Value.TheVariants as value
use Rattle.action_digest.specs.declared.fault.Fault.{Fault}
use Rattle.action_digest.specs.declared.fault.Fault.TheVariants.{NoPackage, BadFile, NoTarget, NoSource}
use Rattle.action_digest.specs.declared.value.ActionText.{ActionText}
use Rattle.action_digest.specs.Cycles.{keys_of, IsLabelCycle, ReachesFirst}
use Rattle.action_digest.specs.Buck.{buck}
use Rattle.action_digest.specs.Same.{key_equal}
use Rattle.script.specs.declared.line.Line.{Line}
use Rattle.script.specs.declared.line.Line.TheVariants.{Put, Drop, Commit, Open, Ask, Action, Wait, Cancel, Close}
use Rattle.script.specs.Past.{is_cancelled}
use Rattle.script.specs.Plan.{Ends, Plan, Planned, Change, Wish, Digest, Text, no_plan, planned, plan_of, wanted, committed}

-- a text and its line feed
abbrev pub line : List ℕ → List ℕ
line text = text ++ 10 ∷ []

-- what stands after the word `fault`
abbrev pub fault_text : Fault → List ℕ
fault_text (NoPackage p) = codes "no-package " ++ printed_package p
fault_text (BadFile p n) = codes "bad-file " ++ p ++ 32 ∷ decimal n
fault_text (NoTarget l) = codes "no-target " ++ l
fault_text (NoSource p) = codes "no-source " ++ p

abbrev pub fault_line : Fault → List ℕ
fault_line f = line (codes "fault " ++ fault_text f)

-- a digest in hex; the length of an action's text, and after that line the text; or a fault
abbrev pub digest_line : Result (List ℕ) Fault → List ℕ
digest_line (Ok d) = line (encode_lower d)
digest_line (Err f) = fault_line f

abbrev pub action_lines : Result ActionText Fault → List ℕ
action_lines (Ok a) = line (codes "action " ++ decimal (length a.text)) ++ a.text
action_lines (Err f) = fault_line f

-- how a value is answered; only digests and actions are requested
abbrev pub value_lines : Value → List ℕ
value_lines (value.Digest d) = digest_line d
value_lines (value.Action t) = action_lines t
value_lines x = []

-- the labels of a cycle, each with a space before it
abbrev pub labels_text : List (List ℕ) → List ℕ
labels_text [] = []
labels_text (l ∷ ls) = 32 ∷ (l ++ labels_text ls)

abbrev pub cycle_line : List (List ℕ) → List ℕ
cycle_line ls = line (codes "cycle" ++ labels_text ls)

-- the key that a request is for
abbrev pub key_of : Wish → Key
key_of (Digest l) = key.Digest l
key_of (Text l) = key.Action l

-- a commit of a script, as the universe's keys and values
abbrev pub pair_of_change : Change → Key × Value
pair_of_change c = (key.Source c.path, value.Source c.file)

abbrev pub pairs_of_changes : List Change → List (Key × Value)
pairs_of_changes cs = map pair_of_change cs

abbrev pub log_of : List (List Change) → List (List (Key × Value))
log_of log = map pairs_of_changes log

-- what a request prints: its name and version, and then this
abbrev pub told_of : Planned → List ℕ → List ℕ
told_of r text = r.name ++ 32 ∷ decimal r.version ++ 32 ∷ text

-- how a request is answered, by the log C: if its key has a value, by how that is told; if it has
-- none, by a cycle of targets that it reaches, each of which asks for the next one's digest, from
-- the least label on
pub data IsAnswered (C : List (List (Key × Value))) (r : Planned) : List ℕ → Type 0 where
  by_value : (x : Value) → HasValue key_equal buck C r.version (key_of r.wish) x → IsAnswered C r (told_of r (value_lines x))
  by_cycle : (ls : List (List ℕ)) → ((x : Value) → HasValue key_equal buck C r.version (key_of r.wish) x → ⊥)
      → IsLabelCycle C r.version ls → ReachesFirst C r.version (key_of r.wish) (keys_of ls) → IsAnswered C r (told_of r (cycle_line ls))

-- the line of a request that the script cancels
abbrev pub cancelled_line : List ℕ → ℕ → List ℕ
cancelled_line name version = line (name ++ 32 ∷ decimal version ++ codes " cancelled")

-- a request's text, by whether it is cancelled
abbrev pub IsRepliedAs : Bool → List (List (Key × Value)) → Planned → List ℕ → Type 0
IsRepliedAs true C r text = text ≡ cancelled_line r.name r.version
IsRepliedAs false C r text = IsAnswered C r text

-- `cancelled` exactly if the script cancels the request, and otherwise how it is answered, by the
-- log C
abbrev pub IsReplied : List (List (Key × Value)) → Planned → List ℕ → Type 0
IsReplied C r text = IsRepliedAs r.cancelled C r text

-- what a line of the script prints, by the whole log C and the requests that are cancelled, if the
-- lines before it make this plan
abbrev pub IsPrinted : List (List (Key × Value)) → Ends → Plan → Line → List ℕ → Type 0
IsPrinted C ends p (Put path bytes) text = text ≡ []
IsPrinted C ends p (Drop path) text = text ≡ []
IsPrinted C ends p Commit text = text ≡ line (codes "commit " ++ decimal (length (committed p.log p.gathered)))
IsPrinted C ends p (Open t) text = text ≡ line (codes "open " ++ t ++ 32 ∷ decimal (length p.log))
IsPrinted C ends p (Ask r) text = IsReplied C (wanted ends p r (Digest r.label)) text
IsPrinted C ends p (Action r) text = IsReplied C (wanted ends p r (Text r.label)) text
IsPrinted C ends p (Wait name) text = text ≡ []
IsPrinted C ends p (Cancel name) text = text ≡ []
IsPrinted C ends p (Close t) text = text ≡ []

-- the texts of these lines in order, one after the other
abbrev pub IsOutputFrom : List (List (Key × Value)) → Ends → Plan → List Line → List ℕ → Type 0
IsOutputFrom C ends p [] out = out ≡ []
IsOutputFrom C ends p (l ∷ ls) out =
    (text : List ℕ) × (rest : List ℕ) × (out ≡ text ++ rest) × IsPrinted C ends p l text × IsOutputFrom C ends (planned ends p l) ls rest

-- the output stands for the script of these lines
abbrev pub IsOutput : List Line → List ℕ → Type 0
IsOutput ls out = IsOutputFrom (log_of (plan_of ls).log) (is_cancelled ls) no_plan ls out
