-- Labels and how they are written.
use Rattle.std.specs.Prelude.{◌≡◌, ◌≢◌, ◌⊎◌, ◌+◌, ℕ, if◌then◌else◌, nat_eq, List, [], ◌∷◌, ◌++◌, take, drop, codes}
use Rattle.std.specs.List.{AllByRecursion}
use Rattle.buck_label.specs.Paths.{IsPath}

-- a target of a package; both as bytes
pub record Name : Type 0 where
  pub home : List ℕ
  pub target : List ℕ

-- a path or nothing, for the root
abbrev pub IsPackage : List ℕ → Type 0
IsPackage bytes = (bytes ≡ []) ⊎ IsPath bytes

pub record IsName (n : Name) : Type 0 where
  pub home : IsPackage n.home
  pub target : IsPath n.target

-- what stands after the last slash of a path, or all of it
pub record IsLastOf (path last : List ℕ) : Type 0 where
  pub no_slash : AllByRecursion (λ b. b ≢ 47) last
  pub ends : (path ≡ last) ⊎ ((front : List ℕ) × (path ≡ front ++ 47 ∷ last))

-- //PACKAGE:NAME
abbrev pub printed : Name → List ℕ
printed n = 47 ∷ 47 ∷ (n.home ++ 58 ∷ n.target)

-- //PACKAGE, the target being the last segment
pub record IsShort (text : List ℕ) (n : Name) : Type 0 where
  pub text_is : text ≡ 47 ∷ 47 ∷ n.home
  pub home : IsPath n.home
  pub last : IsLastOf n.home n.target

-- //PACKAGE:NAME in full
pub record IsLong (text : List ℕ) (n : Name) : Type 0 where
  pub text_is : text ≡ printed n
  pub name : IsName n

-- an absolute label as written, and what it names
abbrev pub IsLabel : List ℕ → Name → Type 0
IsLabel text n = IsLong text n ⊎ IsShort text n

-- :NAME, of this package
pub record IsLocal (home text : List ℕ) (n : Name) : Type 0 where
  pub text_is : text ≡ 58 ∷ n.target
  pub home_is : n.home ≡ home
  pub target : IsPath n.target

-- a label as written in a target file of this package
abbrev pub IsLabelIn : List ℕ → List ℕ → Name → Type 0
IsLabelIn home text n = IsLabel text n ⊎ IsLocal home text n

-- a path named in a package, as seen from the root
abbrev pub within : List ℕ → List ℕ → List ℕ
within [] path = path
within (b ∷ bs) path = (b ∷ bs) ++ 47 ∷ path

-- BUCK in this package
abbrev pub target_file_of : List ℕ → List ℕ
target_file_of home = within home (codes "BUCK")

-- //PACKAGE
abbrev pub printed_package : List ℕ → List ℕ
printed_package home = 47 ∷ 47 ∷ home

-- how many bytes stand before the first colon
abbrev pub before_colon : List ℕ → ℕ
before_colon [] = 0
before_colon (b ∷ bs) = if nat_eq b 58 then 0 else (before_colon bs + 1)

-- package and target of a printed label
abbrev pub package_of : List ℕ → List ℕ
package_of text = take (before_colon (drop 2 text)) (drop 2 text)

abbrev pub target_of : List ℕ → List ℕ
target_of text = drop (before_colon (drop 2 text) + 1) (drop 2 text)

-- the bytes after the last slash of bs, or whole if it has none
abbrev pub last_from : List ℕ → List ℕ → List ℕ
last_from whole [] = whole
last_from whole (b ∷ bs) = if nat_eq b 47 then last_from bs bs else last_from whole bs

abbrev pub NoColon : List ℕ → Type 0
NoColon bs = AllByRecursion (λ b. b ≢ 58) bs

-- the name of these two parts
pub record IsPair (home target : List ℕ) (n : Name) : Type 0 where
  pub home_is : n.home ≡ home
  pub target_is : n.target ≡ target
  pub name : IsName n

-- an absolute label or :NAME; which package it stands in does not matter
abbrev pub IsSomeLabel : List ℕ → Type 0
IsSomeLabel text = (n : Name) × IsLabelIn [] text n
