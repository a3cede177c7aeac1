-- The order of arguments does not count, nor whether a default is written out.
use Rattle.std.proofs.Common.{◌≡◌, ◌∙◌, sym, ap, refl, subst, inl, inr, ℕ, Bool, true, false, if◌then◌else◌, List, [], ◌∷◌, ◌++◌, Option, Some, None, map}
use Rattle.std.specs.Option.{option_or}
use Rattle.std.specs.List.{AllByRecursion}
use Rattle.target_file.specs.declared.table.Rule.{Rule}
use Rattle.target_file.specs.declared.table.Attribute.{Attribute}
use Rattle.target_file.specs.declared.table.Attribute.TheVariants.{Name}
use Rattle.target_file.specs.Table.{same_attribute}
use Rattle.target_file.specs.Calls.{Value, Argument, Call}
use Rattle.target_file.specs.Files.{attributes, IsFine, names}
use Rattle.target_file.specs.Targets.{Located, IsFile, text_in, given, default_of, value_of, target_by, target_of, located, names_of}
use Rattle.target_file.specs.Meaning.{AreSame}
use Rattle.target_file.proofs.Saying.{Says}
use Rattle.target_file.proofs.Deciding.{same_says}
use Rattle.target_file.proofs.Meaning.{or_none, call_name, name_is}
use Rattle.lists.specs.Lists.{AreDistinct, Has}

abbrev Given : Attribute → Value → Argument
Given a v = record { attribute = a; value = v }

argument_is : (b : Argument) (a : Attribute) (v : Value) → b.attribute ≡ a → b.value ≡ v → b ≡ Given a v
argument_is b a v e f = λ i. record { attribute = e i; value = f i }

has_attribute : (xs : List Argument) (b : Argument) → Has xs b → Has (attributes xs) b.attribute
has_attribute [] b h = h
has_attribute (x ∷ xs) b (inl e) = inl (ap (λ (y : Argument). y.attribute) e)
has_attribute (x ∷ xs) b (inr h) = inr (has_attribute xs b h)

-- what is given stands there
pick_has : (a : Attribute) (b : Argument) (xs : List Argument) (v : Value) (c : Bool) → Says c (b.attribute ≡ a) → (if c then Some b.value else given a xs) ≡ Some v → (given a xs ≡ Some v → Has xs (Given a v)) → Has (b ∷ xs) (Given a v)
pick_has a b xs v true s e k = let f : b.value ≡ v = cc in inl (argument_is b a v s f)
pick_has a b xs v false s e k = inr (k e)

given_has : (a : Attribute) (xs : List Argument) (v : Value) → given a xs ≡ Some v → Has xs (Given a v)
given_has a [] v e = cc
given_has a (b ∷ xs) v e = pick_has a b xs v (same_attribute a b.attribute) (same_says a b.attribute) e (given_has a xs v)

-- and what stands there is given
pick_first : (a : Attribute) (b : Argument) (v : Value) (o : Option Value) (c : Bool) → Says c (b.attribute ≡ a) → b ≡ Given a v → (if c then Some b.value else o) ≡ Some v
pick_first a b v o true s e = ap (λ (y : Argument). Some y.value) e
pick_first a b v o false s e = absurd (s (ap (λ (y : Argument). y.attribute) e))

pick_later : (a : Attribute) (b : Argument) (o p : Option Value) (c : Bool) → Says c (b.attribute ≡ a) → (b.attribute ≡ a → ⊥) → o ≡ p → (if c then Some b.value else o) ≡ p
pick_later a b o p true s n e = absurd (n s)
pick_later a b o p false s n e = e

has_given : (a : Attribute) (xs : List Argument) (v : Value) → AreDistinct (attributes xs) → Has xs (Given a v) → given a xs ≡ Some v
has_given a [] v d h = absurd h
has_given a (b ∷ xs) v d (inl e) = pick_first a b v (given a xs) (same_attribute a b.attribute) (same_says a b.attribute) e
has_given a (b ∷ xs) v d (inr h) =
    pick_later a b (given a xs) (Some v) (same_attribute a b.attribute) (same_says a b.attribute) (λ e. d.0 (subst (Has (attributes xs)) (sym e) (has_attribute xs (Given a v) h))) (has_given a xs v d.1 h)

alike : (o p : Option Value) → ((v : Value) → o ≡ Some v → p ≡ Some v) → ((v : Value) → p ≡ Some v → o ≡ Some v) → o ≡ p
alike None None f g = refl
alike None (Some v) f g = g v refl
alike (Some v) p f g = sym (f v refl)

same_given : (a : Attribute) (xs ys : List Argument) → AreSame xs ys → given a xs ≡ given a ys
same_given a xs ys h = alike (given a xs) (given a ys)
    (λ v e. has_given a ys v h.also_once ((h.each (Given a v)).0 (given_has a xs v e)))
    (λ v e. has_given a xs v h.once ((h.each (Given a v)).1 (given_has a ys v e)))

same_value : (r : Rule) (xs ys : List Argument) → ((a : Attribute) → given a xs ≡ given a ys) → (a : Attribute) → value_of r xs a ≡ value_of r ys a
same_value r xs ys h a =
    ap (λ (o : Option Value). option_or o (default_of r a (text_in (given Name xs)))) (h a) ∙ ap (λ (o : Option Value). option_or (given a ys) (default_of r a (text_in o))) (h Name)

-- a target is made of the values of its attributes
by_values : (r : Rule) (xs ys : List Argument) → ((a : Attribute) → value_of r xs a ≡ value_of r ys a) → target_of r xs ≡ target_of r ys
by_values r xs ys h = λ i. target_by r (λ a. h a i)

pub order : (r : Rule) (xs ys : List Argument) → AreSame xs ys → target_of r xs ≡ target_of r ys
order r xs ys h = by_values r xs ys (same_value r xs ys (λ a. same_given a xs ys h))

-- an argument more, at the end
or_pick : (c : Bool) (v : Value) (o p : Option Value) → option_or (if c then Some v else o) p ≡ (if c then Some v else option_or o p)
or_pick true v o p = refl
or_pick false v o p = refl

given_end : (a : Attribute) (xs : List Argument) (b : Argument) → given a (xs ++ b ∷ []) ≡ option_or (given a xs) (if same_attribute a b.attribute then Some b.value else None)
given_end a [] b = refl
given_end a (x ∷ xs) b =
    ap (λ (o : Option Value). if same_attribute a x.attribute then Some x.value else o) (given_end a xs b)
    ∙ sym (or_pick (same_attribute a x.attribute) x.value (given a xs) (if same_attribute a b.attribute then Some b.value else None))

not_given : (a : Attribute) (xs : List Argument) → (Has (attributes xs) a → ⊥) → given a xs ≡ None
not_given a [] n = refl
not_given a (b ∷ xs) n = pick_later a b (given a xs) None (same_attribute a b.attribute) (same_says a b.attribute) (λ e. n (inl e)) (not_given a xs (λ h. n (inr h)))

no_default : (r : Rule) (n : List ℕ) (a : Attribute) (v : Value) → default_of r a n ≡ Some v → a ≡ Name → ⊥
no_default r n a v e h = let k : default_of r Name n ≡ Some v = subst (λ (x : Attribute). default_of r x n ≡ Some v) h e in let z : None ≡ Some v = k in cc

-- the value of b, if a is written out
written : (r : Rule) (n : List ℕ) (a b : Attribute) (v : Value) (o : Option Value) (c : Bool) → Says c (a ≡ b) → default_of r a n ≡ Some v → (a ≡ b → o ≡ None) → option_or (option_or o (if c then Some v else None)) (default_of r b n) ≡ option_or o (default_of r b n)
written r n a b v o true s e k =
    ap (λ (p : Option Value). option_or (option_or p (Some v)) (default_of r b n)) (k s) ∙ sym e ∙ ap (λ (x : Attribute). default_of r x n) s ∙ ap (λ (p : Option Value). option_or p (default_of r b n)) (sym (k s))
written r n a b v o false s e k = ap (λ (p : Option Value). option_or p (default_of r b n)) (or_none o)

name_kept : (xs : List Argument) (a : Attribute) (v : Value) → (a ≡ Name → ⊥) → given Name (xs ++ Given a v ∷ []) ≡ given Name xs
name_kept xs a v n =
    given_end Name xs (Given a v) ∙ ap (option_or (given Name xs)) (pick_later Name (Given a v) None None (same_attribute Name a) (same_says Name a) n refl) ∙ or_none (given Name xs)

pub default : (r : Rule) (a : Attribute) (v : Value) (xs : List Argument) → default_of r a (target_of r xs).name ≡ Some v → (Has (attributes xs) a → ⊥) → target_of r (xs ++ Given a v ∷ []) ≡ target_of r xs
default r a v xs e n =
    let f : default_of r a (text_in (given Name xs)) ≡ Some v = subst (λ (m : List ℕ). default_of r a m ≡ Some v) (name_is r xs) e in
    let k : given Name (xs ++ Given a v ∷ []) ≡ given Name xs = name_kept xs a v (no_default r (text_in (given Name xs)) a v f) in
    by_values r (xs ++ Given a v ∷ []) xs (λ b.
    ap (λ (o : Option Value). option_or (given b (xs ++ Given a v ∷ [])) (default_of r b (text_in o))) k
    ∙ ap (λ (o : Option Value). option_or o (default_of r b (text_in (given Name xs)))) (given_end b xs (Given a v))
    ∙ written r (text_in (given Name xs)) a b v (given b xs) (same_attribute b a) (same_says b a) f (λ h. not_given b xs (λ m. n (subst (Has (attributes xs)) (sym h) m))))

-- the names of calls are those of their targets
calls_names : (cs : List Call) → AllByRecursion IsFine cs → names cs ≡ names_of (map located cs)
calls_names [] h = refl
calls_names (c ∷ cs) h =
    ap (λ (n : List (List ℕ)). n ++ names cs) (call_name c h.0) ∙ ap (λ (n : List (List ℕ)). (target_of c.rule c.arguments).name ∷ n) (calls_names cs h.1)

pub names_once : (text : List ℕ) (file : List Located) → IsFile text file → AreDistinct (names_of file)
names_once text file f = subst AreDistinct (calls_names f.calls f.written.each ∙ ap names_of (sym f.means)) f.written.once
