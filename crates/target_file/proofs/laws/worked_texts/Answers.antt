use Rattle.std.proofs.Common.{refl}
use Rattle.target_file.proofs.Rows.{empty_file, one_target, one_genrule, tilde_dead, cxx_dead, cxx_bad, unclosed_bad, comma_bad, location_bad, list_bad}
use Rattle.target_file.proofs.laws.worked_texts.Goals as goal

pub returns : goal.returns
returns c = record { empty = empty_file; one = one_target; sources = one_genrule; locations = refl; byte = tilde_dead; word = cxx_dead; line = cxx_bad; unclosed = unclosed_bad; comma = comma_bad; location = location_bad; list = list_bad }
