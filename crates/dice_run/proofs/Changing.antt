-- The changes of a commit, in the script's terms and in those of the universe.
use Rattle.std.proofs.Common.{◌≡◌, ◌<◌, inl, inr, ℕ, Bool, true, false, cond, not, List, [], ◌∷◌, length, map, filter, Option, Some, None, refl, sym, ap, ◌∙◌, subst}
use Rattle.std.specs.Option.{option_eq, option_map, unwrap_or}
use Rattle.std.specs.Map.{lookup, keys_of}
use Rattle.std.specs.List.{AllByRecursion}
use Rattle.std.specs.Str.{bytes_eq}
use Rattle.std.proofs.Math.Seq.{take-length}
use Rattle.dice_key.specs.declared.universe.Kind.TheVariants.{Injected}
use Rattle.dice_model.specs.Log.{IsCommit, input, last_value_of}
use Rattle.action_digest.specs.declared.key.Key.{Key}
use Rattle.action_digest.specs.declared.key.Key.TheVariants as key
use Rattle.action_digest.specs.declared.value.Value.{Value}
use Rattle.action_digest.specs.declared.value.Value.TheVariants as value
use Rattle.action_digest.specs.Buck.{buck}
use Rattle.action_digest.specs.Same.{key_equal, value_equal}
use Rattle.script.specs.Plan.{Change, file_in, file_after, newest, differs}
use Rattle.script_trace.specs.Output.{pair_of_change, pairs_of_changes, log_of}
use Rattle.dice_run.specs.Commits.{AreDistinctSources, differs_from}
use Rattle.dice_run.specs.Driving.{paths_of}
use Rattle.lists.specs.Lists.{AreDistinct, Has}

-- ---- lists

filter_map : {A B : Type 0} (f : B → Bool) (g : A → B) (h : A → Bool) → ((x : A) → f (g x) ≡ h x) → (xs : List A) → filter f (map g xs) ≡ map g (filter h xs)
filter_map f g h e [] = refl
filter_map f g h e (x ∷ xs) = by_test (f (g x)) (h x) (e x) (filter_map f g h e xs)
  where
    by_test : (a b : Bool) → a ≡ b → filter f (map g xs) ≡ map g (filter h xs) → cond a (g x ∷ filter f (map g xs)) (filter f (map g xs)) ≡ map g (cond b (x ∷ filter h xs) (filter h xs))
    by_test true true p r = ap (λ ys. g x ∷ ys) r
    by_test false false p r = r
    by_test true false p r = cc
    by_test false true p r = cc

has_filtered : {A B : Type 0} (g : A → B) (h : A → Bool) (xs : List A) (y : B) → Has (map g (filter h xs)) y → Has (map g xs) y
has_filtered g h [] y p = p
has_filtered g h (x ∷ xs) y p = by_test (λ q. has_filtered g h xs y q) (h x) p
  where
    by_test : (Has (map g (filter h xs)) y → Has (map g xs) y) → (b : Bool) → Has (map g (cond b (x ∷ filter h xs) (filter h xs))) y → Has (map g (x ∷ xs)) y
    by_test again true (inl e) = inl e
    by_test again true (inr q) = inr (again q)
    by_test again false q = inr (again q)

distinct_filtered : {A B : Type 0} (g : A → B) (h : A → Bool) (xs : List A) → AreDistinct (map g xs) → AreDistinct (map g (filter h xs))
distinct_filtered g h [] d = tt
distinct_filtered g h (x ∷ xs) d = by_test (distinct_filtered g h xs d.1) (h x)
  where
    by_test : AreDistinct (map g (filter h xs)) → (b : Bool) → AreDistinct (map g (cond b (x ∷ filter h xs) (filter h xs)))
    by_test rest true = ((λ p. d.0 (has_filtered g h xs (g x) p)), rest)
    by_test rest false = rest

-- ---- the newest file of a path

in_commit : (path : List ℕ) (c : List Change) → lookup (key_equal (key.Source path)) (pairs_of_changes c) ≡ option_map value.Source (file_in path c)
in_commit path [] = refl
in_commit path (c ∷ cs) = by_test (bytes_eq path c.path) (in_commit path cs)
  where
    by_test : (b : Bool) → lookup (key_equal (key.Source path)) (pairs_of_changes cs) ≡ option_map value.Source (file_in path cs)
        → cond b (Some (value.Source c.file)) (lookup (key_equal (key.Source path)) (pairs_of_changes cs)) ≡ option_map value.Source (cond b (Some c.file) (file_in path cs))
    by_test true e = refl
    by_test false e = e

one_commit : (path : List ℕ) (file : Option (List ℕ)) (c : List Change) → unwrap_or (lookup (key_equal (key.Source path)) (pairs_of_changes c)) (value.Source file) ≡ value.Source (unwrap_or (file_in path c) file)
one_commit path file c = ap (λ o. unwrap_or o (value.Source file)) (in_commit path c) ∙ by_file (file_in path c)
  where
    by_file : (o : Option (Option (List ℕ))) → unwrap_or (option_map value.Source o) (value.Source file) ≡ value.Source (unwrap_or o file)
    by_file None = refl
    by_file (Some f) = refl

last_file : (path : List ℕ) (file : Option (List ℕ)) (log : List (List Change)) → last_value_of (key_equal (key.Source path)) (value.Source file) (log_of log) ≡ value.Source (file_after path file log)
last_file path file [] = refl
last_file path file (c ∷ cs) =
    ap (λ x. last_value_of (key_equal (key.Source path)) x (log_of cs)) (one_commit path file c) ∙ last_file path (unwrap_or (file_in path c) file) cs

newest_input : (path : List ℕ) (log : List (List Change)) → input key_equal buck (log_of log) (length (log_of log)) (key.Source path) ≡ value.Source (newest path log)
newest_input path log = ap (last_value_of (key_equal (key.Source path)) (value.Source None)) (take-length (log_of log)) ∙ last_file path None log

file_equal : (a b : Option (List ℕ)) → value_equal (value.Source a) (value.Source b) ≡ option_eq bytes_eq a b
file_equal a b = refl

differs_same : (log : List (List Change)) (c : Change) → differs_from (log_of log) (pair_of_change c) ≡ differs log c
differs_same log c = ap (λ x. not (value_equal x (value.Source c.file))) (newest_input c.path log) ∙ ap not (file_equal (newest c.path log) c.file)

-- what differs, in the universe's terms and in the script's
pub differing_same : (log : List (List Change)) (cs : List Change) → filter (differs_from (log_of log)) (pairs_of_changes cs) ≡ pairs_of_changes (filter (differs log) cs)
differing_same log cs = filter_map (differs_from (log_of log)) pair_of_change (differs log) (differs_same log) cs

-- ---- a commit

sources_only : (cs : List Change) → AllByRecursion (λ (p : Key × Value). buck.kind p.0 ≡ Injected) (pairs_of_changes cs)
sources_only [] = tt
sources_only (c ∷ cs) = (refl, sources_only cs)

abbrev path_in : Key → List ℕ
path_in (key.Source p) = p
path_in k = []

has_path : (cs : List Change) (p : List ℕ) → Has (keys_of (pairs_of_changes cs)) (key.Source p) → Has (paths_of cs) p
has_path [] p h = h
has_path (c ∷ cs) p (inl e) = inl (ap path_in e)
has_path (c ∷ cs) p (inr h) = inr (has_path cs p h)

distinct_keys : (cs : List Change) → AreDistinct (paths_of cs) → AreDistinct (keys_of (pairs_of_changes cs))
distinct_keys [] d = tt
distinct_keys (c ∷ cs) d = ((λ h. d.0 (has_path cs c.path h)), distinct_keys cs d.1)

pub distinct_sources : (g : List (Key × Value)) (cs : List Change) → g ≡ pairs_of_changes cs → AreDistinct (paths_of cs) → AreDistinctSources g
distinct_sources g cs e d = subst AreDistinctSources (sym e) (record { sources = sources_only cs; distinct = distinct_keys cs d })

all_filtered : {X : Type 0} (P : X → Type 0) (h : X → Bool) (xs : List X) → AllByRecursion P xs → AllByRecursion P (filter h xs)
all_filtered P h [] a = tt
all_filtered P h (x ∷ xs) a = by_test (all_filtered P h xs a.1) (h x)
  where
    by_test : AllByRecursion P (filter h xs) → (b : Bool) → AllByRecursion P (cond b (x ∷ filter h xs) (filter h xs))
    by_test rest true = (a.0, rest)
    by_test rest false = rest

-- distinct sources of which some are left are a commit
pub commit_of : (g ps : List (Key × Value)) (h : Key × Value → Bool) → AreDistinctSources g → ps ≡ filter h g → 0 < length ps → IsCommit buck ps
commit_of g ps h d e some = record {
  some = some;
  injected = subst (AllByRecursion (λ (p : Key × Value). buck.kind p.0 ≡ Injected)) (sym e) (all_filtered _ h g d.sources);
  distinct = subst (λ (x : List (Key × Value)). AreDistinct (keys_of x)) (sym e) (distinct_filtered (λ (p : Key × Value). p.0) h g d.distinct);
}
