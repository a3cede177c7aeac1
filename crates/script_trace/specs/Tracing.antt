-- The trace that may follow a script's output.
use Rattle.std.specs.Prelude.{◌≡◌, ℕ, Bool, true, false, List, ◌++◌, length, codes, decimal, flat_map}
use Rattle.std.specs.List.{AllZip}
use Rattle.script.specs.declared.line.Line.{Line}
use Rattle.journal.specs.Texts.{IsLine}
use Rattle.action_digest.specs.Buck.{buck}
use Rattle.script_trace.specs.Output.{line, IsOutput}
use Rattle.script_trace.specs.Events.{Events, IsJournalOf}

-- how many lines there are, and each
abbrev pub trace_text : List (List ℕ) → List ℕ
trace_text ls = line (codes "trace " ++ decimal (length ls)) ++ flat_map line ls

-- how many events there are, and the line of each
pub record IsTraceOf (J : Events) (text : List ℕ) : Type 0 where
  pub lines : List (List ℕ)
  pub events : AllZip (IsLine buck) J lines
  pub is : text ≡ line (codes "trace " ++ decimal (length J)) ++ flat_map line lines

-- the text is the trace of J, which is a journal of these lines
abbrev pub IsTraceText : List Line → Events → List ℕ → Type 0
IsTraceText ls J text = IsJournalOf ls J × IsTraceOf J text

-- the lines and the text leave room for one journal
abbrev pub LeaveOneJournal : List Line → List ℕ → Type 0
LeaveOneJournal ls text = (J K : Events) → IsTraceText ls J text → IsTraceText ls K text → J ≡ K

-- what is printed of a script: its output, and, if it is asked for, the trace of this journal
abbrev pub IsPrintout : Bool → List Line → Events → List ℕ → Type 0
IsPrintout false ls J out = IsOutput ls out
IsPrintout true ls J out = (text : List ℕ) × (trace : List ℕ) × IsOutput ls text × IsTraceOf J trace × (out ≡ text ++ trace)
