-- What the target files of a log mention is written in words.
use Rattle.std.proofs.Common.{◌≡◌, ◌<◌, ◌^◌, inl, inr, ℕ, zero, suc, Bool, true, false, nat_eq, if◌then◌else◌, List, [], ◌∷◌, ◌++◌, length, take, drop, map, Option, Some, None, refl, sym, subst}
use Rattle.std.specs.List.{AllByRecursion, starts_with}
use Rattle.std.proofs.lemmas.Bool.{and_parts, and_from}
use Rattle.target_file.specs.Strings.{opener, IsLocated, IsCommand, before_close, locations}
use Rattle.target_file.specs.Calls.{Call}
use Rattle.target_file.specs.Files.{IsFine}
use Rattle.target_file.specs.Targets.{Located, IsFile, IsSourceText, IsSound, located, action_by, value_of}
use Rattle.target_file.specs.Contents.{Contents, Holds, Fails, contents}
use Rattle.target_file.specs.declared.source.Source.{Source}
use Rattle.target_file.specs.declared.source.Source.TheVariants as source
use Rattle.target_file.specs.declared.action.Action.{Action}
use Rattle.target_file.specs.declared.action.Action.TheVariants as action
use Rattle.target_file.proofs.Meaning.{sound}
use Rattle.target_file.proofs.Answering.{file_by}
use Rattle.action_digest.specs.declared.key.Key.{Key}
use Rattle.action_digest.specs.declared.value.Value.{Value}
use Rattle.action_digest.specs.Actions.{wanted_by, source_in}
use Rattle.action_digest.proofs.Mentioned.{of_file, of_contents, of_bytes, of_value, of_commit, of_log, mentioned}
use Rattle.lists.proofs.Each.{all_append}
use Rattle.lists.specs.Lists.{Has}
use Rattle.script_trace.proofs.Spelled.{is_word, IsWord, IsSpelled}
use Rattle.script_trace.proofs.Words.{is_word_byte, path_word, some_label_word, SourceIsWord}

-- ---- the labels of a command

close_word : (label rest : List ℕ) → IsWord label → IsWord (before_close (label ++ 41 ∷ rest))
close_word [] rest w = refl
close_word (b ∷ label) rest w = let parts = and_parts (is_word_byte b) (is_word label) w in by_test (nat_eq b 41) parts.0 (close_word label rest parts.1)
  where
    by_test : (t : Bool) → is_word_byte b ≡ true → IsWord (before_close (label ++ 41 ∷ rest)) → IsWord (if t then [] else b ∷ before_close (label ++ 41 ∷ rest))
    by_test true first again = refl
    by_test false first again = and_from (is_word_byte b) (is_word (before_close (label ++ 41 ∷ rest))) first again

located_word : (text : List ℕ) → IsLocated text → IsWord (before_close text)
located_word text l = subst (λ t. IsWord (before_close t)) (sym l.text_is) (close_word l.label l.rest (some_label_word l.label l.is_label))

locations_words : (cmd : List ℕ) → IsCommand cmd → AllByRecursion IsWord (locations cmd)
locations_words [] c = tt
locations_words (b ∷ bs) c = all_append IsWord (if starts_with nat_eq (b ∷ bs) opener then before_close (drop 10 bs) ∷ [] else []) (locations bs) (by_test (starts_with nat_eq (b ∷ bs) opener) c.0) (locations_words bs c.1)
  where
    by_test : (t : Bool) → (t ≡ true → IsLocated (drop 10 bs)) → AllByRecursion IsWord (if t then before_close (drop 10 bs) ∷ [] else [])
    by_test true h = (located_word (drop 10 bs) (h refl), tt)
    by_test false h = tt

-- ---- the sources of a file

source_word : (s : Source) → IsSourceText s → SourceIsWord s
source_word (source.Path p) h = path_word p h
source_word (source.Label l) h = some_label_word l h

sources_words : (ss : List Source) → AllByRecursion IsSourceText ss → AllByRecursion SourceIsWord ss
sources_words [] h = tt
sources_words (s ∷ ss) h = (source_word s h.0, sources_words ss h.1)

labels_words : (ls : List (List ℕ)) → AllByRecursion IsWord ls → AllByRecursion SourceIsWord (map source.Label ls)
labels_words [] h = tt
labels_words (l ∷ ls) h = (h.0, labels_words ls h.1)

wanted_words : (a : Action) → IsSound a → AllByRecursion SourceIsWord (wanted_by a)
wanted_words (action.ExportFile src out) h = (path_word src h.0, tt)
wanted_words (action.Filegroup srcs) h = sources_words srcs h
wanted_words (action.WriteFile content out) h = tt
wanted_words (action.Genrule srcs out cmd) h = all_append SourceIsWord srcs (map source.Label (locations cmd)) (sources_words srcs h.0) (labels_words (locations cmd) (locations_words cmd h.2))
wanted_words (action.StampFile out) h = tt

calls_words : (cs : List Call) → AllByRecursion IsFine cs → AllByRecursion SourceIsWord (of_file (map located cs))
calls_words [] h = tt
calls_words (c ∷ cs) h =
    let a = action_by c.rule (value_of c.rule c.arguments) in
    all_append SourceIsWord (wanted_by a) (of_file (map located cs)) (wanted_words a (sound c.rule c.arguments h.0.each h.0.whole)) (calls_words cs h.1)

file_words : (text : List ℕ) (f : List Located) → IsFile text f → AllByRecursion SourceIsWord (of_file f)
file_words text f h = subst (λ x. AllByRecursion SourceIsWord (of_file x)) (sym h.means) (calls_words h.calls h.written.each)

contents_words : (text : List ℕ) → length text < 2 ^ 64 → AllByRecursion SourceIsWord (of_contents (contents text))
contents_words text l = by_contents (contents text) refl
  where
    by_contents : (c : Contents) → contents text ≡ c → AllByRecursion SourceIsWord (of_contents c)
    by_contents (Holds f) e = file_words text f ((file_by text f l).0 e)
    by_contents (Fails n) e = tt

-- ---- a commit whose keys are words, and whose files memory can hold

abbrev FileFits : Option (List ℕ) → Type 0
FileFits (Some bytes) = length bytes < 2 ^ 64
FileFits None = Unit {0}

abbrev pub PairFits : Key × Value → Type 0
PairFits p = IsSpelled p.0 × FileFits (source_in (Some p.1))

bytes_words : (o : Option (List ℕ)) → FileFits o → AllByRecursion SourceIsWord (of_bytes o)
bytes_words (Some bytes) f = contents_words bytes f
bytes_words None f = tt

commit_words : (c : List (Key × Value)) → AllByRecursion PairFits c → AllByRecursion SourceIsWord (of_commit c)
commit_words [] a = tt
commit_words (p ∷ c) a = all_append SourceIsWord (of_value p.1) (of_commit c) (bytes_words (source_in (Some p.1)) a.0.1) (commit_words c a.1)

log_words : (v : ℕ) (C : List (List (Key × Value))) → AllByRecursion (AllByRecursion PairFits) C → AllByRecursion SourceIsWord (of_log (take v C))
log_words zero C a = tt
log_words (suc v) [] a = tt
log_words (suc v) (c ∷ C) a = all_append SourceIsWord (of_commit c) (of_log (take v C)) (commit_words c a.0) (log_words v C a.1)

each_of : (ss : List Source) (s : Source) → AllByRecursion SourceIsWord ss → Has ss s → SourceIsWord s
each_of [] s a h = absurd h
each_of (r ∷ ss) s a (inl e) = subst SourceIsWord e a.0
each_of (r ∷ ss) s a (inr h) = each_of ss s a.1 h

pub mentioned_words : (C : List (List (Key × Value))) (v : ℕ) (w : Source) → AllByRecursion (AllByRecursion PairFits) C → Has (mentioned C v) w → SourceIsWord w
mentioned_words C v w a h = each_of (mentioned C v) w (log_words v C a) h
