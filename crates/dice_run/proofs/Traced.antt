-- The trace of a journal.
use Rattle.std.proofs.Common.{◌++◌, ℕ, List, codes, decimal, flat_map, ap}
use Rattle.dice_engine.specs.Lines.{AreLines}
use Rattle.action_digest.specs.Buck.{buck}
use Rattle.script_trace.specs.Output.{line}
use Rattle.script_trace.specs.Events.{Events}
use Rattle.lists.proofs.Each.{zip_length}
use Rattle.script_trace.specs.Tracing.{IsTraceOf, trace_text}

pub trace_of : (J : Events) (ls : List (List ℕ)) → AreLines buck J ls → IsTraceOf J (trace_text ls)
trace_of J ls a = record { lines = ls; events = a; is = ap (λ n. line (codes "trace " ++ decimal n) ++ flat_map line ls) (zip_length _ J ls a) }
