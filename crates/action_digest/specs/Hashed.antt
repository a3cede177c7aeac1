-- What a hasher is fed of a value.
use Rattle.std.specs.Prelude.{ℕ, List, []}
use Rattle.std.specs.Hash as fed
use Rattle.shared_text.specs.Texts.{hash_of}
use Rattle.action_digest.specs.declared.value.Value.{Value}
use Rattle.action_digest.specs.declared.value.Value.TheVariants as value

-- the kept hash of a source's text, and nothing of another value
abbrev pub hashed : Value → List (List ℕ)
hashed (value.Source text) = fed.option (λ t. fed.u64 (hash_of t)) text
hashed (value.Package _) = []
hashed (value.Rule _) = []
hashed (value.Action _) = []
hashed (value.Digest _) = []
