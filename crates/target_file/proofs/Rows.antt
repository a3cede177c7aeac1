-- Rows of the definition.
use Rattle.std.proofs.Common.{refl, inl, inr, List, [], ◌∷◌, ◌++◌, codes, arith, lit<}
use Rattle.target_file.specs.declared.table.Rule.TheVariants.{WriteFile}
use Rattle.target_file.specs.declared.table.Attribute.TheVariants.{Name, Content}
use Rattle.buck_label.specs.Paths.{IsPath}
use Rattle.target_file.specs.Tokens.{Token, Word, Text, Mark}
use Rattle.target_file.specs.Calls.{One, Call}
use Rattle.target_file.specs.Files.{IsWritten, IsDead, IsBad}
use Rattle.target_file.specs.Targets.{IsFile}
use Rattle.target_file.specs.Spelling.{no_token}
use Rattle.target_file.proofs.Spelling.{spelled_tokens}
use Rattle.target_file.specs.Rows.{w_text, w_file, g_text, g_file}
use Rattle.target_file.specs.Contents.{contents}
use Rattle.target_file.proofs.Answering.{file_by, bad_by}
use Rattle.target_file.specs.Machine.{State, Runs, first}
use Rattle.target_file.proofs.Faults.{dead_byte, dead_token, stuck}
use Rattle.buck_label.proofs.PathLemmas.{one_segment}

-- the empty file
pub empty_file : IsFile [] []
empty_file = record { calls = []; written = record { made_of = []; tokens_are = no_token; calls_are = refl; each = tt; once = tt }; means = refl }

w_path : IsPath (codes "w")
w_path = one_segment (codes "w") (record { some = λ e. cc; each = (refl, tt); no_dot = λ e. cc; no_dots = λ e. cc }) (omega arith)

w_call : Call
w_call = record { line = 1; rule = WriteFile; arguments = record { attribute = Name; value = One (codes "w") } ∷ record { attribute = Content; value = One (codes "a") } ∷ [] }

-- write_file(name='w',content='a')
w_written : IsWritten (codes "write_file(name='w',content='a')") (record { line = 1; rule = WriteFile; arguments = record { attribute = Name; value = One (codes "w") } ∷ record { attribute = Content; value = One (codes "a") } ∷ [] } ∷ [])
w_written =
    let name : List Token = Word 1 (codes "name") ∷ Mark 61 ∷ Text (codes "w") ∷ [] in
    let content : List Token = Word 1 (codes "content") ∷ Mark 61 ∷ Text (codes "a") ∷ [] in
    let inner : List Token = name ++ Mark 44 ∷ content in
    record {
      made_of = Word 1 (codes "write_file") ∷ Mark 40 ∷ (inner ++ Mark 41 ∷ []);
      tokens_are = spelled_tokens (codes "write_file(name='w',content='a')") (Word 1 (codes "write_file") ∷ Mark 40 ∷ (inner ++ Mark 41 ∷ [])) refl;
      calls_are = (
        Word 1 (codes "write_file") ∷ Mark 40 ∷ (inner ++ Mark 41 ∷ []),
        [],
        refl,
        record {
          word = codes "write_file";
          rule_is = refl;
          inner = inner;
          tokens_are = refl;
          arguments = inr (
            name,
            content ++ Mark 44 ∷ [],
            refl,
            record { line = 1; word = codes "name"; attribute_is = refl; value = Text (codes "w") ∷ []; tokens_are = refl; value_is = refl },
            (content, [], refl, record { line = 1; word = codes "content"; attribute_is = refl; value = Text (codes "a") ∷ []; tokens_are = refl; value_is = refl }, refl),
          );
        },
        refl,
      );
      each = (record { each = (w_path, (tt, tt)); once = (λ h. elim h [ inl e ↦ cc | inr n ↦ n ], ((λ h. h), tt)); whole = (inl refl, (inr (inl refl), tt)) }, tt);
      once = ((λ h. h), tt);
    }

pub one_target : IsFile w_text w_file
one_target = record { calls = _; written = w_written; means = refl }

-- no file begins with a tilde, nor with cxx_library(
pub tilde_dead : IsDead (codes "~")
tilde_dead = dead_byte (codes "~") refl

no_rule : (e : State) → Runs (first WriteFile) (Word 1 (codes "cxx_library") ∷ Mark 40 ∷ []) e → ⊥
no_rule e h = let k = h.1.1 in cc

pub cxx_dead : IsDead (codes "cxx_library(")
cxx_dead = dead_token WriteFile (codes "cxx_library(") (record { tokens = Word 1 (codes "cxx_library") ∷ Mark 40 ∷ []; mode = _; line = 1 }) refl (stuck WriteFile [] (Word 1 (codes "cxx_library") ∷ Mark 40 ∷ []) (first WriteFile) refl no_rule)

pub cxx_bad : IsBad (codes "cxx_library(") 1
unfolding contents
cxx_bad = (bad_by (codes "cxx_library(") 1 (lit< tt)).0 refl

pub unclosed_bad : IsBad (codes "write_file(name = 'w") 1
unfolding contents
unclosed_bad = (bad_by (codes "write_file(name = 'w") 1 (lit< tt)).0 refl

pub one_genrule : IsFile g_text g_file
unfolding contents
one_genrule = (file_by g_text g_file (lit< tt)).0 refl

pub comma_bad : IsBad (codes "filegroup(,") 1
unfolding contents
comma_bad = (bad_by (codes "filegroup(,") 1 (lit< tt)).0 refl

pub location_bad : IsBad (codes "genrule(cmd='$(location :w'") 1
unfolding contents
location_bad = (bad_by (codes "genrule(cmd='$(location :w'") 1 (lit< tt)).0 refl

pub list_bad : IsBad (codes "stamp_file(name=[") 1
unfolding contents
list_bad = (bad_by (codes "stamp_file(name=[") 1 (lit< tt)).0 refl
