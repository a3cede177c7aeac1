-- What is found in arguments, lists and commands, one after the other.
use Rattle.std.proofs.Common.{◌≡◌, ◌<◌, ◌+◌, ◌-◌, ◌∙◌, sym, ap, refl, subst, ℕ, zero, suc, Bool, true, false, if◌then◌else◌, nat_eq, map, List, [], ◌∷◌, ◌++◌, append_assoc, length, take, drop, get_or, Option, Some, None, arith}
use Rattle.std.specs.List.{AllByRecursion, starts_with}
use Rattle.std.specs.Option.{option_or}
use Rattle.std.proofs.lemmas.List.{at_drop_more, drop-drop, take_rest, take_more, map-append}
use Rattle.buck_label.specs.Paths.{IsPath}
use Rattle.target_file.specs.declared.table.Rule.{Rule}
use Rattle.target_file.specs.declared.table.Attribute.{Attribute}
use Rattle.target_file.specs.declared.table.Attribute.TheVariants.{Name}
use Rattle.target_file.specs.declared.table.Form.TheVariants as form
use Rattle.target_file.specs.declared.call.Argument as code
use Rattle.target_file.specs.Seen.{value_of, arguments_of}
use Rattle.target_file.specs.Table.{same_attribute, form_of}
use Rattle.target_file.specs.Strings.{IsSource, IsCommand, IsLocated, opener, before_close, locations}
use Rattle.target_file.specs.Calls.{Value, One, Many, Argument}
use Rattle.target_file.specs.Files.{attributes}
use Rattle.target_file.specs.Targets.{given, text_in, list_in, source_of}
use Rattle.target_file.specs.declared.source.Source.{Source}
use Rattle.target_file.proofs.Saying.{Says}
use Rattle.target_file.proofs.Deciding.{same_says}
use Rattle.target_file.proofs.Locations.{NoClose, cut_close, command_step}
use Rattle.target_file.proofs.Judging.{before_is}
use Rattle.target_file.proofs.Meaning.{Fits, Tested, Whole, given_fits, has_given, path_in, path_there, path_name, sources_in}
use Rattle.lists.specs.Lists.{Has}

-- the value of an attribute
hit : {P : Type 0} (v : Value) (o : Option Value) (c : Bool) → Says c P → P → (if c then Some v else o) ≡ Some v
hit v o true s p = refl
hit v o false s p = absurd (s p)

miss : {P : Type 0} (v : Value) (o : Option Value) (c : Bool) → Says c P → (P → ⊥) → (if c then Some v else o) ≡ o
miss v o true s n = absurd (n s)
miss v o false s n = refl

pub given_hit : (a : Attribute) (xs more : List code.Argument) (x : code.Argument) → xs ≡ x ∷ more → x.attribute ≡ a → given a (arguments_of xs) ≡ Some (value_of x.value)
given_hit a xs more x e h =
    ap (λ (r : List code.Argument). given a (arguments_of r)) e ∙ hit (value_of x.value) (given a (arguments_of more)) (same_attribute a x.attribute) (same_says a x.attribute) h

pub given_miss : (a : Attribute) (xs more : List code.Argument) (x : code.Argument) → xs ≡ x ∷ more → (x.attribute ≡ a → ⊥) → given a (arguments_of xs) ≡ given a (arguments_of more)
given_miss a xs more x e n =
    ap (λ (r : List code.Argument). given a (arguments_of r)) e ∙ miss (value_of x.value) (given a (arguments_of more)) (same_attribute a x.attribute) (same_says a x.attribute) n

-- a string of a list of sources
pub source_at : (xs : List (List ℕ)) (k : ℕ) (x : List ℕ) → AllByRecursion IsSource xs → k < length xs → x ≡ get_or xs k x → IsSource x
source_at [] k x h l e = absurd (omega arith)
source_at (y ∷ xs) zero x h l e = subst IsSource (sym e) h.0
source_at (y ∷ xs) (suc k) x h l e = source_at xs k x h.1 (omega arith) e

-- one string more of a list
pub texts_more : (xs : List (List ℕ)) (k : ℕ) (x : List ℕ) (old new : List (List ℕ)) → k < length xs → x ≡ get_or xs k x → old ≡ take k xs → new ≡ old ++ x ∷ [] → new ≡ take (k + 1) xs
texts_more xs k x old new h e o n =
    n ∙ ap (λ (y : List ℕ). old ++ y ∷ []) e ∙ ap (λ (ys : List (List ℕ)). ys ++ get_or xs k x ∷ []) o ∙ sym (take_more xs k x h)

pub sources_more : (xs : List (List ℕ)) (k : ℕ) (x : List ℕ) (old new : List Source) → k < length xs → x ≡ get_or xs k x →
    old ≡ map source_of (take k xs) → new ≡ old ++ source_of x ∷ [] → new ≡ map source_of (take (k + 1) xs)
sources_more xs k x old new h e o n =
    let all : take k xs ++ x ∷ [] ≡ take (k + 1) xs = texts_more xs k x (take k xs) (take k xs ++ x ∷ []) h e refl refl in
    n ∙ ap (λ (ys : List Source). ys ++ source_of x ∷ []) o ∙ sym (map-append source_of (take k xs) (x ∷ [])) ∙ ap (map source_of) all

-- the label after an opener
pub label_is : (rest : List ℕ) (at : ℕ) → at < length rest → get_or rest at 0 ≡ 41 → NoClose (take at rest) → take at rest ≡ before_close rest
label_is rest at h g n = sym (ap before_close (cut_close rest at h g) ∙ before_is (take at rest) (drop (suc at) rest) n)

behind : (bs : List ℕ) (i : ℕ) → drop 11 (take (length bs - i) (drop i bs)) ≡ take (length bs - (i + 11)) (drop (i + 11) bs)
behind bs i = ap (drop 11) (take_rest bs i) ∙ drop-drop 11 i bs ∙ sym (take_rest bs (i + 11))

pub opened : (bs : List ℕ) (i : ℕ) (b : Bool) → i < length bs → IsCommand (drop i bs) → b ≡ starts_with nat_eq (take (length bs - i) (drop i bs)) opener → b ≡ true → IsLocated (take (length bs - (i + 11)) (drop (i + 11) bs))
opened bs i b l h e t = subst IsLocated (behind bs i) (((command_step bs i l).0 h).0 (sym e ∙ t))

locations_cons : (b : ℕ) (x : List ℕ) → locations (b ∷ x) ≡ (if starts_with nat_eq (b ∷ x) opener then before_close (drop 11 (b ∷ x)) ∷ [] else []) ++ locations x
locations_cons b x = refl

locations_at : (bs : List ℕ) (i : ℕ) → i < length bs → locations (drop i bs) ≡ (if starts_with nat_eq (drop i bs) opener then before_close (drop 11 (drop i bs)) ∷ [] else []) ++ locations (drop (i + 1) bs)
locations_at bs i l =
    at_drop_more locations bs i 0 l ∙ sym (at_drop_more (λ (x : List ℕ). (if starts_with nat_eq x opener then before_close (drop 11 x) ∷ [] else []) ++ locations (drop (i + 1) bs)) bs i 0 l)

locations_step : (bs : List ℕ) (i : ℕ) → i < length bs → locations (drop i bs) ≡ (if starts_with nat_eq (take (length bs - i) (drop i bs)) opener then before_close (take (length bs - (i + 11)) (drop (i + 11) bs)) ∷ [] else []) ++ locations (drop (i + 1) bs)
locations_step bs i l =
    locations_at bs i l
    ∙ ap (λ (x : List ℕ). (if starts_with nat_eq x opener then before_close (drop 11 x) ∷ [] else []) ++ locations (drop (i + 1) bs)) (sym (take_rest bs i))
    ∙ ap (λ (x : List ℕ). (if starts_with nat_eq (take (length bs - i) (drop i bs)) opener then before_close x ∷ [] else []) ++ locations (drop (i + 1) bs)) (behind bs i)

pub label_more : (bs : List ℕ) (i : ℕ) (b : Bool) (old new : List (List ℕ)) (l : List ℕ) → i < length bs → old ++ locations (drop i bs) ≡ locations bs →
    b ≡ starts_with nat_eq (take (length bs - i) (drop i bs)) opener → b ≡ true → new ≡ old ++ l ∷ [] → l ≡ before_close (take (length bs - (i + 11)) (drop (i + 11) bs)) → new ++ locations (drop (i + 1) bs) ≡ locations bs
label_more bs i b old new l h s e t n f =
    let g : starts_with nat_eq (take (length bs - i) (drop i bs)) opener ≡ true = sym e ∙ t in
    let rest : List (List ℕ) = locations (drop (i + 1) bs) in
    let m : List ℕ = before_close (take (length bs - (i + 11)) (drop (i + 11) bs)) in
    let step : locations (drop i bs) ≡ m ∷ rest = locations_step bs i h ∙ ap (λ (c : Bool). (if c then m ∷ [] else []) ++ rest) g in
    ap (λ (x : List (List ℕ)). x ++ rest) n ∙ append_assoc old (l ∷ []) rest ∙ ap (λ (x : List ℕ). old ++ x ∷ rest) f ∙ ap (λ (x : List (List ℕ)). old ++ x) (sym step) ∙ s

pub label_same : (bs : List ℕ) (i : ℕ) (b : Bool) (old new : List (List ℕ)) → i < length bs → old ++ locations (drop i bs) ≡ locations bs →
    b ≡ starts_with nat_eq (take (length bs - i) (drop i bs)) opener → b ≡ false → new ≡ old → new ++ locations (drop (i + 1) bs) ≡ locations bs
label_same bs i b old new h s e t n =
    let g : starts_with nat_eq (take (length bs - i) (drop i bs)) opener ≡ false = sym e ∙ t in
    let rest : List (List ℕ) = locations (drop (i + 1) bs) in
    let m : List ℕ = before_close (take (length bs - (i + 11)) (drop (i + 11) bs)) in
    let step : locations (drop i bs) ≡ rest = locations_step bs i h ∙ ap (λ (c : Bool). (if c then m ∷ [] else []) ++ rest) g in
    ap (λ (x : List (List ℕ)). x ++ rest) n ∙ ap (λ (x : List (List ℕ)). old ++ x) (sym step) ∙ s

pub command_more : (bs : List ℕ) (i : ℕ) → i < length bs → IsCommand (drop i bs) → IsCommand (drop (i + 1) bs)
command_more bs i l h = ((command_step bs i l).0 h).1

-- a path with the name as its default, a path without a default, sources, a command
pub default_path : (r : Rule) (args gs : List Argument) (a : Attribute) (name text : List ℕ) → Tested r args → Whole r args → gs ≡ args → form_of r a ≡ Some form.Path →
    name ≡ text_in (option_or (given Name gs) (Some (One []))) → text ≡ text_in (option_or (given a gs) (Some (One name))) → IsPath text
default_path r args gs a name text h k e f n t =
    let p : IsPath name = subst IsPath (sym (n ∙ ap (λ (x : List Argument). text_in (option_or (given Name x) (Some (One [])))) e)) (path_name r args (Some (One [])) h k) in
    let g : Fits (Some form.Path) (given a args) = subst (λ (o : _). Fits o (given a args)) f (given_fits r a args h) in
    subst IsPath (sym (t ∙ ap (λ (x : List Argument). text_in (option_or (given a x) (Some (One name)))) e)) (path_in (given a args) (Some (One name)) g p)

pub needed_path : (r : Rule) (args gs : List Argument) (a : Attribute) (text : List ℕ) → Tested r args → Has (attributes args) a → gs ≡ args → form_of r a ≡ Some form.Path →
    text ≡ text_in (option_or (given a gs) (Some (One []))) → IsPath text
needed_path r args gs a text h k e f t =
    let g : Fits (Some form.Path) (given a args) = subst (λ (o : _). Fits o (given a args)) f (given_fits r a args h) in
    subst IsPath (sym (t ∙ ap (λ (x : List Argument). text_in (option_or (given a x) (Some (One [])))) e)) (path_there (given a args) (Some (One [])) g (has_given a args k))

pub given_sources : (r : Rule) (args gs : List Argument) (a : Attribute) (xs : List (List ℕ)) → Tested r args → gs ≡ args → form_of r a ≡ Some form.Sources →
    xs ≡ list_in (option_or (given a gs) (Some (Many []))) → AllByRecursion IsSource xs
given_sources r args gs a xs h e f t =
    let g : Fits (Some form.Sources) (given a args) = subst (λ (o : _). Fits o (given a args)) f (given_fits r a args h) in
    subst (AllByRecursion IsSource) (sym (t ∙ ap (λ (x : List Argument). list_in (option_or (given a x) (Some (Many [])))) e)) (sources_in (given a args) g)

command_or : (o : Option Value) → Fits (Some form.Command) o → IsCommand (text_in (option_or o (Some (One []))))
command_or None h = tt
command_or (Some (One s)) h = h
command_or (Some (Many ss)) h = tt

pub given_command : (r : Rule) (args gs : List Argument) (a : Attribute) (text : List ℕ) → Tested r args → gs ≡ args → form_of r a ≡ Some form.Command →
    text ≡ text_in (option_or (given a gs) (Some (One []))) → IsCommand text
given_command r args gs a text h e f t =
    let g : Fits (Some form.Command) (given a args) = subst (λ (o : _). Fits o (given a args)) f (given_fits r a args h) in
    subst IsCommand (sym (t ∙ ap (λ (x : List Argument). text_in (option_or (given a x) (Some (One [])))) e)) (command_or (given a args) g)
