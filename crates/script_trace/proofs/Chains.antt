-- What a key that is spelled reaches is spelled.
use Rattle.std.proofs.Common.{◌≡◌, inl, inr, ℕ, List, [], ◌∷◌, ◌++◌, sym, ap, ◌∙◌, subst, append_assoc, append-nil}
use Rattle.std.specs.List.{AllByRecursion}
use Rattle.dice_key.specs.Meaning.{Answered, Asks}
use Rattle.dice_model.specs.Asks.{Goes, AsksFor, Reaches, here, through}
use Rattle.journal.specs.Law.{DiffersFirst}
use Rattle.buck_label.specs.Labels.{package_of}
use Rattle.action_digest.specs.declared.key.Key.{Key}
use Rattle.action_digest.specs.declared.key.Key.TheVariants as key
use Rattle.action_digest.specs.declared.value.Value.{Value}
use Rattle.action_digest.specs.Buck.{buck}
use Rattle.action_digest.specs.Same.{key_equal}
use Rattle.action_digest.proofs.Asking.{May, asks_may}
use Rattle.action_digest.proofs.Mentioned.{wanted_is_mentioned}
use Rattle.lists.proofs.Members.{has_middle}
use Rattle.lists.specs.Lists.{Has}
use Rattle.script_trace.proofs.Spelled.{IsSpelled}
use Rattle.script_trace.proofs.Words.{package_of_word, target_file_word, key_in_word}
use Rattle.script_trace.proofs.Sources.{PairFits, mentioned_words}

module _ (C : List (List (Key × Value))) (fits : AllByRecursion (AllByRecursion PairFits) C) where
  may_spelled : (v : ℕ) (a j : Key) → IsSpelled a → May C v a j → IsSpelled j
  may_spelled v (key.Source p) j h m = absurd m
  may_spelled v (key.Package p) j h m = subst IsSpelled (sym m) (target_file_word p h)
  may_spelled v (key.Rule l) j h m = subst IsSpelled (sym m) (package_of_word l h)
  may_spelled v (key.Action l) j h (inl e) = subst IsSpelled (sym e) h
  may_spelled v (key.Action l) j h (inr i) =
      let w = wanted_is_mentioned C v l j i in
      subst IsSpelled w.2 (key_in_word (package_of l) w.0 (package_of_word l h) (mentioned_words C v w.0 fits w.1))
  may_spelled v (key.Digest l) j h m = subst IsSpelled (sym m) h

  asked_spelled : (v : ℕ) (k j : Key) → IsSpelled k → AsksFor key_equal buck C v k j → IsSpelled j
  asked_spelled v k j h a = may_spelled v k j h (asks_may C v k j a)

  pub reached_spelled : (v : ℕ) (k j : Key) → IsSpelled k → Reaches key_equal buck C v k j → IsSpelled j
  reached_spelled v k j h here = h
  reached_spelled v k j h (through {i = i} a r) = reached_spelled v i j (asked_spelled v k i h a) r

  goes_front : (v : ℕ) (k : Key) (before xs ys : List (Answered Key Value)) → Goes key_equal buck C v k before (xs ++ ys) → Goes key_equal buck C v k before xs
  goes_front v k before [] ys g = tt
  goes_front v k before (x ∷ xs) ys g = (g.0, g.1, goes_front v k (before ++ x ∷ []) xs ys g.2)

  goes_at : (v : ℕ) (k : Key) (before xs ys : List (Answered Key Value)) (y : Answered Key Value) → Goes key_equal buck C v k before (xs ++ y ∷ ys) → buck.next k (before ++ xs) v ≡ Asks y.keys
  goes_at v k before [] ys y g = ap (λ A. buck.next k A v) (append-nil before) ∙ g.0
  goes_at v k before (x ∷ xs) ys y g = ap (λ A. buck.next k A v) (sym (append_assoc before (x ∷ []) xs)) ∙ goes_at v k (before ++ x ∷ []) xs ys y g.2

  pub differs_spelled : (w v : ℕ) (k d : Key) → IsSpelled k → DiffersFirst key_equal buck C w v k d → IsSpelled d
  differs_spelled w v k d h f =
      asked_spelled w k d h (record {
        computed = f.computed;
        before = f.before;
        goes = goes_front w k [] f.before (f.batch ∷ f.later) f.goes;
        keys = f.batch.keys;
        asks = goes_at w k [] f.before f.later f.batch f.goes;
        among = subst (λ ks. Has ks d) (sym f.keys) (has_middle f.keys_before f.keys_later d);
      })
