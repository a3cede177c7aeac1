-- What calls mean, as the code finds it out.
use Rattle.std.proofs.Common.{◌≡◌, ◌⊎◌, ◌<◌, ◌≤◌, ◌+◌, ◌∙◌, sym, ap, refl, subst, inl, inr, ℕ, Bool, true, false, List, [], ◌∷◌, ◌++◌, Option, Some, None, if◌then◌else◌, ◌||◌, ◌&&◌, ◌-◌, length, map, get_or, suc, arith, append_assoc}
use Rattle.std.specs.Option.{option_or}
use Rattle.std.specs.List.{AllByRecursion, list_any}
use Rattle.std.specs.Str.{bytes_eq}
use Rattle.std.specs.Cmp.Lexicographic.{pointwise}
use Rattle.buck_label.specs.Paths.{IsPath}
use Rattle.target_file.specs.declared.table.Rule.{Rule}
use Rattle.target_file.specs.declared.table.Rule.TheVariants as rule
use Rattle.target_file.specs.declared.table.Attribute.{Attribute}
use Rattle.target_file.specs.declared.table.Attribute.TheVariants.{Name, Src, Srcs, Out, Cmd}
use Rattle.target_file.specs.declared.table.Form.{Form}
use Rattle.target_file.specs.declared.table.Form.TheVariants as form
use Rattle.target_file.specs.Table.{same_attribute, form_of, needed}
use Rattle.target_file.specs.Strings.{source_is, is_label_like, IsSource, IsCommand}
use Rattle.target_file.specs.Calls.{Value, One, Many, Argument, Call}
use Rattle.target_file.specs.Files.{Belongs, IsFine, attributes, name_in, names_in}
use Rattle.target_file.specs.Targets.{Located, IsSourceText, IsSound, source_of, text_in, list_in, given, action_by, value_of, target_of, located, target_named}
use Rattle.target_file.specs.Names.{is_named, number_from}
use Rattle.target_file.specs.Lent.{number_at}
use Rattle.target_file.proofs.Spelled.{no_name, name_new}
use Rattle.target_file.proofs.Saying.{Says}
use Rattle.target_file.proofs.Deciding.{same_says}
use Rattle.lists.specs.Lists.{AreDistinct, Has}
use Rattle.std.proofs.lemmas.Bool.{cases_Bool}

pub or_none : {A : Type 0} (x : Option A) → option_or x None ≡ x
or_none None = refl
or_none (Some x) = refl

-- what is given was tested
abbrev pub Fits : Option Form → Option Value → Type 0
Fits f None = Unit {0}
Fits f (Some v) = Belongs f v

fits_pick : (r : Rule) (a b : Attribute) (v : Value) (o : Option Value) (c : Bool) → Says c (b ≡ a) → Belongs (form_of r b) v → Fits (form_of r a) o → Fits (form_of r a) (if c then Some v else o)
fits_pick r a b v o true s h k = subst (λ (x : Attribute). Belongs (form_of r x) v) s h
fits_pick r a b v o false s h k = k

pub given_fits : (r : Rule) (a : Attribute) (args : List Argument) → AllByRecursion (λ b. Belongs (form_of r b.attribute) b.value) args → Fits (form_of r a) (given a args)
given_fits r a [] h = tt
given_fits r a (b ∷ args) h = fits_pick r a b.attribute b.value (given a args) (same_attribute a b.attribute) (same_says a b.attribute) h.0 (given_fits r a args h.1)

-- an attribute that stands there has a value
abbrev pub IsThere : Option Value → Type 0
IsThere None = ⊥
IsThere (Some v) = Unit {0}

there_first : (a b : Attribute) (v : Value) (o : Option Value) (c : Bool) → Says c (b ≡ a) → b ≡ a → IsThere (if c then Some v else o)
there_first a b v o true s e = tt
there_first a b v o false s e = absurd (s e)

there_second : (v : Value) (o : Option Value) (c : Bool) → IsThere o → IsThere (if c then Some v else o)
there_second v o true h = tt
there_second v o false h = h

pub has_given : (a : Attribute) (args : List Argument) → Has (attributes args) a → IsThere (given a args)
has_given a [] k = k
has_given a (b ∷ args) (inl e) = there_first a b.attribute b.value (given a args) (same_attribute a b.attribute) (same_says a b.attribute) e
has_given a (b ∷ args) (inr k) = there_second b.value (given a args) (same_attribute a b.attribute) (has_given a args k)

-- a path that is given, or a default that is one
pub path_in : (o d : Option Value) → Fits (Some form.Path) o → IsPath (text_in d) → IsPath (text_in (option_or o d))
path_in None d h k = k
path_in (Some (One s)) d h k = h
path_in (Some (Many ss)) d h k = absurd h

pub path_there : (o d : Option Value) → Fits (Some form.Path) o → IsThere o → IsPath (text_in (option_or o d))
path_there None d h k = absurd k
path_there (Some (One s)) d h k = h
path_there (Some (Many ss)) d h k = absurd h

pub sources_in : (o : Option Value) → Fits (Some form.Sources) o → AllByRecursion IsSource (list_in (option_or o (Some (Many []))))
sources_in None h = tt
sources_in (Some (One s)) h = absurd h
sources_in (Some (Many ss)) h = h

command_in : (o : Option Value) → Fits (Some form.Command) o → IsCommand (text_in (option_or o None))
command_in None h = tt
command_in (Some (One s)) h = h
command_in (Some (Many ss)) h = tt

source_text : (b : Bool) (x : List ℕ) (s : _) → s ≡ source_of x → is_label_like x ≡ b → source_is b x → IsSourceText s
source_text true x s e f h = subst IsSourceText (sym e) (rw f h)
source_text false x s e f h = subst IsSourceText (sym e) (rw f h)

source_texts : (xs : List (List ℕ)) → AllByRecursion IsSource xs → AllByRecursion IsSourceText (map source_of xs)
source_texts [] h = tt
source_texts (x ∷ xs) h = (source_text (is_label_like x) x (source_of x) refl refl h.0, source_texts xs h.1)

pub first_needed : (r : Rule) (P : Attribute → Type 0) → AllByRecursion P (needed r) → P Name
first_needed rule.ExportFile P h = h.0
first_needed rule.Filegroup P h = h.0
first_needed rule.WriteFile P h = h.0
first_needed rule.Genrule P h = h.0
first_needed rule.StampFile P h = h.0

-- the name of a call that is fine is a path, and what it does is sound
abbrev pub Tested : Rule → List Argument → Type 0
Tested r args = AllByRecursion (λ b. Belongs (form_of r b.attribute) b.value) args

abbrev pub Whole : Rule → List Argument → Type 0
Whole r args = AllByRecursion (λ a. Has (attributes args) a) (needed r)

pub path_name : (r : Rule) (args : List Argument) (d : Option Value) → Tested r args → Whole r args → IsPath (text_in (option_or (given Name args) d))
path_name r args d h k = path_there (given Name args) d (given_fits r Name args h) (has_given Name args (first_needed r (λ a. Has (attributes args) a) k))

pub name_path : (r : Rule) (args : List Argument) → Tested r args → Whole r args → IsPath (text_in (given Name args))
name_path r args h k = subst (λ (o : Option Value). IsPath (text_in o)) (or_none (given Name args)) (path_name r args None h k)

pub sound : (r : Rule) (args : List Argument) → Tested r args → Whole r args → IsSound (action_by r (value_of r args))
sound rule.ExportFile args h k =
    let n = name_path rule.ExportFile args h k in
    (path_in (given Src args) (Some (One (text_in (given Name args)))) (given_fits rule.ExportFile Src args h) n, path_in (given Out args) (Some (One (text_in (given Name args)))) (given_fits rule.ExportFile Out args h) n)
sound rule.Filegroup args h k = source_texts (list_in (option_or (given Srcs args) (Some (Many [])))) (sources_in (given Srcs args) (given_fits rule.Filegroup Srcs args h))
sound rule.WriteFile args h k = path_in (given Out args) (Some (One (text_in (given Name args)))) (given_fits rule.WriteFile Out args h) (name_path rule.WriteFile args h k)
sound rule.Genrule args h k = (
  source_texts (list_in (option_or (given Srcs args) (Some (Many [])))) (sources_in (given Srcs args) (given_fits rule.Genrule Srcs args h)),
  path_there (given Out args) None (given_fits rule.Genrule Out args h) (has_given Out args k.1.0),
  command_in (given Cmd args) (given_fits rule.Genrule Cmd args h),
)
sound rule.StampFile args h k = path_in (given Out args) (Some (One (text_in (given Name args)))) (given_fits rule.StampFile Out args h) (name_path rule.StampFile args h k)

-- a call has its target's name and no other
name_here : (r : Rule) (b : Attribute) (v : Value) (ns : List (List ℕ)) → b ≡ Name → Belongs (form_of r b) v → ns ≡ [] → name_in b v ++ ns ≡ text_in (Some v) ∷ []
name_here r Name (One s) ns e h n = ap (λ (m : List (List ℕ)). s ∷ m) n
name_here r Name (Many ss) ns e h n = absurd h
name_here r b v ns e h n = cc

name_there : (b : Attribute) (v : Value) (ns : List (List ℕ)) (t : List ℕ) → (b ≡ Name → ⊥) → ns ≡ t ∷ [] → name_in b v ++ ns ≡ t ∷ []
name_there b v ns t n h = ap (λ (m : List (List ℕ)). m ++ ns) (no_name b v n) ∙ h

name_pick : (r : Rule) (b : Attribute) (v : Value) (args : List Argument) (c : Bool) → Says c (b ≡ Name) → Belongs (form_of r b) v → (Has (attributes args) b → ⊥) → (b ≡ Name) ⊎ Has (attributes args) Name →
    (Has (attributes args) Name → names_in args ≡ text_in (given Name args) ∷ []) → name_in b v ++ names_in args ≡ text_in (if c then Some v else given Name args) ∷ []
name_pick r b v args true s h d k f = name_here r b v (names_in args) s h (name_new args (λ m. d (subst (Has (attributes args)) (sym s) m)))
name_pick r b v args false s h d (inl e) f = absurd (s e)
name_pick r b v args false s h d (inr k) f = name_there b v (names_in args) (text_in (given Name args)) s (f k)

one_name : (r : Rule) (args : List Argument) → Tested r args → AreDistinct (attributes args) → Has (attributes args) Name → names_in args ≡ text_in (given Name args) ∷ []
one_name r [] h d k = absurd k
one_name r (b ∷ args) h d k = name_pick r b.attribute b.value args (same_attribute Name b.attribute) (same_says Name b.attribute) h.0 d.0 k (one_name r args h.1 d.1)

pub name_is : (r : Rule) (args : List Argument) → (target_of r args).name ≡ text_in (given Name args)
name_is r args = ap text_in (or_none (given Name args))

-- the one name of a call
pub call_name : (c : Call) → IsFine c → names_in c.arguments ≡ (target_of c.rule c.arguments).name ∷ []
call_name c f =
    one_name c.rule c.arguments f.each f.once (first_needed c.rule (λ a. Has (attributes c.arguments) a) f.whole) ∙ ap (λ (x : List ℕ). x ∷ []) (sym (name_is c.rule c.arguments))

or_false : (b : Bool) → (b || false) ≡ b
or_false true = refl
or_false false = refl

fine_named : (q : List ℕ) (c : Call) → IsFine c → is_named q c.arguments ≡ bytes_eq q (target_of c.rule c.arguments).name
fine_named q c f = ap (list_any (bytes_eq q)) (call_name c f) ∙ or_false (bytes_eq q (target_of c.rule c.arguments).name)

-- so the number of a call is that of its target
pub number_is : (n : ℕ) (q : List ℕ) (cs : List Call) → AllByRecursion IsFine cs → number_from n q cs [] ≡ number_at n q (map located cs)
number_is n q [] h = refl
number_is n q (c ∷ cs) h =
    ap (λ (b : Bool). if b then Some n else number_from (n + 1) q cs []) (fine_named q c h.0)
    ∙ ap (λ (o : Option ℕ). if bytes_eq q (target_of c.rule c.arguments).name then Some n else o) (number_is (n + 1) q cs h.1)

-- a target is found by its number
pub found_at : (n : ℕ) (q : List ℕ) (ls : List Located) (k : ℕ) (d : Located) → number_at n q ls ≡ Some k → (n ≤ k) × (k < n + length ls) × (target_named q ls ≡ Some (get_or ls (k - n) d).target)
found_at n q [] k d h = cc
found_at n q (l ∷ ls) k d h = elim (cases_Bool (bytes_eq q l.target.name)) [
  | inl t ↦
      let e : Some n ≡ Some k = subst (λ (b : Bool). (if b then Some n else number_at (n + 1) q ls) ≡ Some k) t h in
      let i : n ≡ k = cc in
      let z : k - n ≡ 0 = omega arith in
      ((omega arith), (omega arith), rw (t, z) refl)
  | inr f ↦
      let e : number_at (n + 1) q ls ≡ Some k = subst (λ (b : Bool). (if b then Some n else number_at (n + 1) q ls) ≡ Some k) f h in
      let r = found_at (n + 1) q ls k d e in
      let a : n + 1 ≤ k = r.0 in
      let b : k < (n + 1) + length ls = r.1 in
      let z : k - n ≡ suc (k - (n + 1)) = omega arith in
      ((omega arith), (omega arith), rw (f, z) r.2)
]

pub missing_at : (n : ℕ) (q : List ℕ) (ls : List Located) → number_at n q ls ≡ None → target_named q ls ≡ None
missing_at n q [] h = refl
missing_at n q (l ∷ ls) h = elim (cases_Bool (bytes_eq q l.target.name)) [
  | inl t ↦ let e : Some n ≡ None = subst (λ (b : Bool). (if b then Some n else number_at (n + 1) q ls) ≡ None) t h in cc
  | inr f ↦
      let e : number_at (n + 1) q ls ≡ None = subst (λ (b : Bool). (if b then Some n else number_at (n + 1) q ls) ≡ None) f h in
      rw f (missing_at (n + 1) q ls e)
]

-- equality of lists by what each item is seen as
pub seen_alike : {A B : Type 0} (f : A → B) (E : B → B → Bool) (xs ys : List A) → pointwise (λ x y. E (f x) (f y)) xs ys ≡ pointwise E (map f xs) (map f ys)
seen_alike f E [] [] = refl
seen_alike f E [] (y ∷ ys) = refl
seen_alike f E (x ∷ xs) [] = refl
seen_alike f E (x ∷ xs) (y ∷ ys) = ap (λ (b : Bool). E (f x) (f y) && b) (seen_alike f E xs ys)

-- a loop that locates calls one by one
pub one_more : {Y : Type 0} (done : List Y) (y : Y) (rest all : List Y) → done ++ y ∷ rest ≡ all → (done ++ y ∷ []) ++ rest ≡ all
one_more done y rest all h = append_assoc done (y ∷ []) rest ∙ h
