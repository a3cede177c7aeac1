use Rattle.target_file.proofs.Spelling.{read_tokens, spelled_tokens}
use Rattle.target_file.proofs.laws.tokens_by_grammar.Goals as goal

pub returns : goal.returns
returns c text ts = (spelled_tokens text ts, read_tokens text ts)
