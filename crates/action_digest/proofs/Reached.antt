-- What a key reaches stands in the finitely many target files of the log.
use Rattle.std.proofs.Common.{◌≡◌, inl, inr, ℕ, List, [], ◌∷◌, ◌++◌, map, refl, sym, ap, ◌∙◌, subst}
use Rattle.dice_model.specs.Asks.{IsClosed}
use Rattle.buck_label.specs.Labels.{NoColon, package_of, target_file_of, within}
use Rattle.target_file.specs.declared.source.Source.{Source}
use Rattle.target_file.specs.declared.source.Source.TheVariants as source
use Rattle.action_digest.specs.declared.key.Key.{Key}
use Rattle.action_digest.specs.declared.key.Key.TheVariants as key
use Rattle.action_digest.specs.declared.value.Value.{Value}
use Rattle.action_digest.specs.Buck.{buck}
use Rattle.action_digest.specs.Same.{key_equal}
use Rattle.action_digest.specs.Written.{full_label, key_in}
use Rattle.action_digest.proofs.Lists.{crossed, has_crossed, of_crossed}
use Rattle.action_digest.proofs.Labels.{package_stays, package_plain}
use Rattle.action_digest.proofs.Asking.{May, asks_may}
use Rattle.action_digest.proofs.Mentioned.{mentioned, wanted_is_mentioned}
use Rattle.lists.proofs.Members.{has_either, has_left, has_map, has_mapped, has_right}
use Rattle.lists.specs.Lists.{Has}

abbrev text_of : Source → List ℕ
text_of (source.Path p) = p
text_of (source.Label l) = l

-- the path, package and label of a key; what it has not is nothing
abbrev path_of : Key → List ℕ
path_of (key.Source p) = p
path_of k = []

abbrev home_of : Key → List ℕ
home_of (key.Package p) = p
home_of k = []

abbrev label_of : Key → List ℕ
label_of (key.Rule l) = l
label_of (key.Action l) = l
label_of (key.Digest l) = l
label_of k = []

module _ (C : List (List (Key × Value))) (v : ℕ) (k : Key) where
  -- the packages of the labels, the labels and the paths that k may reach
  abbrev packages : List (List ℕ)
  packages = package_of (label_of k) ∷ map (λ w. package_of (full_label [] (text_of w))) (mentioned C v)

  abbrev homes : List (List ℕ)
  homes = home_of k ∷ packages

  abbrev labels : List (List ℕ)
  labels = label_of k ∷ crossed (λ p w. full_label p (text_of w)) packages (mentioned C v)

  abbrev paths : List (List ℕ)
  paths = path_of k ∷ (map target_file_of homes ++ crossed (λ p w. within p (text_of w)) packages (mentioned C v))

  abbrev pub all : List Key
  all = map key.Source paths ++ (map key.Package homes ++ (map key.Rule labels ++ (map key.Action labels ++ map key.Digest labels)))

  abbrev In : Key → Type 0
  In (key.Source p) = Has paths p
  In (key.Package p) = Has homes p
  In (key.Rule l) = Has labels l
  In (key.Action l) = Has labels l
  In (key.Digest l) = Has labels l

  abbrev acts : List Key
  acts = map key.Action labels ++ map key.Digest labels

  abbrev rules : List Key
  rules = map key.Rule labels ++ acts

  abbrev keys : List Key
  keys = map key.Package homes ++ rules

  in_all : (j : Key) → In j → Has all j
  in_all (key.Source p) h = has_left (map key.Source paths) keys (key.Source p) (has_map key.Source paths p h)
  in_all (key.Package p) h = has_right (map key.Source paths) keys (key.Package p) (has_left (map key.Package homes) rules (key.Package p) (has_map key.Package homes p h))
  in_all (key.Rule l) h = has_right (map key.Source paths) keys (key.Rule l) (has_right (map key.Package homes) rules (key.Rule l) (has_left (map key.Rule labels) acts (key.Rule l) (has_map key.Rule labels l h)))
  in_all (key.Action l) h =
      has_right (map key.Source paths) keys (key.Action l) (has_right (map key.Package homes) rules (key.Action l) (has_right (map key.Rule labels) acts (key.Action l)
      (has_left (map key.Action labels) (map key.Digest labels) (key.Action l) (has_map key.Action labels l h))))
  in_all (key.Digest l) h =
      has_right (map key.Source paths) keys (key.Digest l) (has_right (map key.Package homes) rules (key.Digest l) (has_right (map key.Rule labels) acts (key.Digest l)
      (has_right (map key.Action labels) (map key.Digest labels) (key.Digest l) (has_map key.Digest labels l h))))

  of_acts : (j : Key) → Has acts j → In j
  of_acts j h = elim (has_either (map key.Action labels) (map key.Digest labels) j h) as (λ _. In j) [
    | inl a ↦ (let r = has_mapped key.Action labels j a in subst In r.2 r.1)
    | inr b ↦ (let r = has_mapped key.Digest labels j b in subst In r.2 r.1)
  ]

  of_rules : (j : Key) → Has rules j → In j
  of_rules j h = elim (has_either (map key.Rule labels) acts j h) as (λ _. In j) [
    | inl a ↦ (let r = has_mapped key.Rule labels j a in subst In r.2 r.1)
    | inr b ↦ of_acts j b
  ]

  of_keys : (j : Key) → Has keys j → In j
  of_keys j h = elim (has_either (map key.Package homes) rules j h) as (λ _. In j) [
    | inl a ↦ (let r = has_mapped key.Package homes j a in subst In r.2 r.1)
    | inr b ↦ of_rules j b
  ]

  of_all : (j : Key) → Has all j → In j
  of_all j h = elim (has_either (map key.Source paths) keys j h) as (λ _. In j) [
    | inl a ↦ (let r = has_mapped key.Source paths j a in subst In r.2 r.1)
    | inr b ↦ of_keys j b
  ]

  no_colon : (p : List ℕ) → Has packages p → NoColon p
  no_colon p (inl e) = subst NoColon e (package_plain (label_of k))
  no_colon p (inr h) = let r = has_mapped (λ w. package_of (full_label [] (text_of w))) (mentioned C v) p h in subst NoColon r.2 (package_plain (full_label [] (text_of r.0)))

  -- the package of a label that is reached is one of them
  label_package : (l : List ℕ) → Has labels l → Has packages (package_of l)
  label_package l (inl e) = inl (ap package_of e)
  label_package l (inr h) =
      let r = of_crossed (λ p w. full_label p (text_of w)) packages (mentioned C v) l h in
      elim (package_stays r.0 (text_of r.1) (no_colon r.0 r.2)) as (λ _. Has packages (package_of l)) [
        | inl e ↦ subst (Has packages) (sym e ∙ ap package_of r.4) r.2
        | inr e ↦ subst (Has packages) (sym e ∙ ap package_of r.4) (inr (has_map (λ w. package_of (full_label [] (text_of w))) (mentioned C v) r.1 r.3))
      ]

  wanted_in : (p : List ℕ) (w : Source) → Has packages p → Has (mentioned C v) w → In (key_in p w)
  wanted_in p (source.Path f) h g = inr (has_right (map target_file_of homes) (crossed (λ p w. within p (text_of w)) packages (mentioned C v)) (within p f) (has_crossed (λ p w. within p (text_of w)) packages (mentioned C v) p (source.Path f) h g))
  wanted_in p (source.Label t) h g = inr (has_crossed (λ p w. full_label p (text_of w)) packages (mentioned C v) p (source.Label t) h g)

  may_in : (a j : Key) → In a → May C v a j → In j
  may_in (key.Source p) j h m = absurd m
  may_in (key.Package p) j h m = subst In (sym m) (inr (has_left (map target_file_of homes) (crossed (λ p w. within p (text_of w)) packages (mentioned C v)) (target_file_of p) (has_map target_file_of homes p h)))
  may_in (key.Rule l) j h m = subst In (sym m) (inr (label_package l h))
  may_in (key.Action l) j h (inl e) = subst In (sym e) h
  may_in (key.Action l) j h (inr i) = let w = wanted_is_mentioned C v l j i in subst In w.2 (wanted_in (package_of l) w.0 (label_package l h) w.1)
  may_in (key.Digest l) j h m = subst In (sym m) h

  starts_in : (a : Key) → k ≡ a → In a
  starts_in (key.Source p) e = inl (ap path_of e)
  starts_in (key.Package p) e = inl (ap home_of e)
  starts_in (key.Rule l) e = inl (ap label_of e)
  starts_in (key.Action l) e = inl (ap label_of e)
  starts_in (key.Digest l) e = inl (ap label_of e)

  pub starts : Has all k
  starts = in_all k (starts_in k refl)

  pub closed : IsClosed key_equal buck C v all
  closed a j h q = in_all j (may_in a j (of_all a h) (asks_may C v a j q))
