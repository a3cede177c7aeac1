-- What the code's values are seen as.
use Rattle.std.specs.Prelude.{List, map}
use Rattle.target_file.specs.declared.call.Value.{Value}
use Rattle.target_file.specs.declared.call.Value.TheVariants as value
use Rattle.target_file.specs.declared.call.Argument.{Argument}
use Rattle.target_file.specs.declared.call.Call.{Call}
use Rattle.target_file.specs.Calls as calls

abbrev pub value_of : Value → calls.Value
value_of (value.One v) = calls.One v
value_of (value.Many vs) = calls.Many vs.items

abbrev pub argument_of : Argument → calls.Argument
argument_of a = record { attribute = a.attribute; value = value_of a.value }

abbrev pub arguments_of : List Argument → List calls.Argument
arguments_of given = map argument_of given

abbrev pub call_of : Call → calls.Call
call_of c = record { line = c.line; rule = c.rule; arguments = arguments_of c.arguments.items }
