use Rattle.target_file.proofs.Answering.{file_by, bad_by}
use Rattle.target_file.proofs.laws.contents_by_grammar.Goals as goal

pub returns : goal.returns
returns c = record { file = file_by; bad = bad_by }
