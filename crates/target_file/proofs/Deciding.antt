-- The machine as a function and as a relation.
use Rattle.std.proofs.Common.{◌≡◌, ◌⊎◌, ◌∙◌, sym, refl, subst, inl, inr, ℕ, Bool, true, false, not, if◌then◌else◌, ◌&&◌, ◌||◌, nat_eq, List, [], ◌∷◌, ◌++◌, Option, Some, None}
use Rattle.std.specs.Option.{option_map, option_and_then}
use Rattle.std.specs.List.{list_any, list_all, AllByRecursion}
use Rattle.std.specs.Str.{bytes_eq}
use Rattle.target_file.specs.declared.table.Rule.{Rule}
use Rattle.target_file.specs.declared.table.Attribute.{Attribute}
use Rattle.target_file.specs.declared.table.Attribute.TheVariants.{Name, Visibility, Labels, Src, Srcs, Out, Content, Cmd}
use Rattle.target_file.specs.declared.table.Form.{Form}
use Rattle.target_file.specs.declared.table.Form.TheVariants as form
use Rattle.target_file.specs.declared.place.Place.{Place}
use Rattle.target_file.specs.declared.place.Place.TheVariants as at
use Rattle.target_file.specs.Tokens.{Token, Word, Text, Mark, Scan, next}
use Rattle.target_file.specs.Table.{rule_of, attribute_of, same_attribute, form_of, needed}
use Rattle.target_file.specs.Calls.{Value, One, Many, Argument, Call}
use Rattle.target_file.specs.Files.{Belongs, attributes, names}
use Rattle.target_file.specs.Machine.{State, StepAt, Steps, Runs, Closes, Names, HasForm, HasItem, IsFresh, IsWhole, set_place, give, closed}
use Rattle.target_file.specs.Code.{Takes, Refuses}
use Rattle.target_file.specs.Contents.{fits, holds, has_form, is_given, is_whole, is_new, where_so, close_at, name_at, step_at, run, emptied, take_byte}
use Rattle.target_file.proofs.Runs.{one_step}
use Rattle.target_file.proofs.Numbers.{any_has, has_any}
use Rattle.target_file.proofs.Judging.{source_says, sources_say, command_says}
use Rattle.target_file.proofs.Saying.{Says, both_say, not_says, says_by, number_says, path_says}
use Rattle.lists.specs.Lists.{Has}

fits_says : (o : Option Form) (v : Value) → Says (fits o v) (Belongs o v)
fits_says (Some form.Path) (One s) = path_says s
fits_says (Some form.Text) (One s) = tt
fits_says (Some form.Command) (One s) = command_says s
fits_says (Some form.Sources) (One s) = λ h. h
fits_says (Some form.Texts) (One s) = λ h. h
fits_says (Some form.Path) (Many ss) = λ h. h
fits_says (Some form.Text) (Many ss) = λ h. h
fits_says (Some form.Command) (Many ss) = λ h. h
fits_says (Some form.Sources) (Many ss) = sources_say ss
fits_says (Some form.Texts) (Many ss) = tt
fits_says None v = λ h. h

holds_says : (o : Option Form) (x : List ℕ) → Says (holds o x) (HasItem o x)
holds_says (Some form.Path) x = λ h. h
holds_says (Some form.Text) x = λ h. h
holds_says (Some form.Command) x = λ h. h
holds_says (Some form.Sources) x = source_says x
holds_says (Some form.Texts) x = tt
holds_says None x = λ h. h

form_says : (o : Option Form) → Says (has_form o) (HasForm o)
form_says (Some f) = tt
form_says None = λ h. h

pub same_says : (a b : Attribute) → Says (same_attribute a b) (b ≡ a)
same_says Name Name = refl
same_says Visibility Visibility = refl
same_says Labels Labels = refl
same_says Src Src = refl
same_says Srcs Srcs = refl
same_says Out Out = refl
same_says Content Content = refl
same_says Cmd Cmd = refl
same_says a b = λ e. cc

has_more : (c d : Bool) (a b : Attribute) (bs : List Attribute) → Says c (b ≡ a) → Says d (Has bs a) → Says (c || d) (Has (b ∷ bs) a)
has_more true d a b bs s t = inl s
has_more false true a b bs s t = inr t
has_more false false a b bs s t = λ h. elim h [ inl e ↦ s e | inr k ↦ t k ]

has_says : (a : Attribute) (bs : List Attribute) → Says (list_any (same_attribute a) bs) (Has bs a)
has_says a [] = λ h. h
has_says a (b ∷ bs) = has_more (same_attribute a b) (list_any (same_attribute a) bs) a b bs (same_says a b) (has_says a bs)

given_says : (a : Attribute) (given : List Argument) → Says (is_given a given) (Has (attributes given) a)
given_says a given = has_says a (attributes given)

all_says : (given : List Argument) (need : List Attribute) → Says (list_all (λ a. is_given a given) need) (AllByRecursion (λ a. Has (attributes given) a) need)
all_says given [] = tt
all_says given (a ∷ need) = both_say (is_given a given) (list_all (λ a. is_given a given) need) (Has (attributes given) a) (AllByRecursion (λ a. Has (attributes given) a) need) (given_says a given) (all_says given need)

new_says : (calls : List Call) (a : Attribute) (v : Value) → Says (is_new calls a v) (IsFresh calls a v)
new_says calls Name (One x) = not_says (list_any (bytes_eq x) (names calls)) (Has (names calls) x) (says_by (list_any (bytes_eq x) (names calls)) (any_has x (names calls)) (has_any x (names calls)))
new_says calls Name (Many ss) = tt
new_says calls Visibility v = tt
new_says calls Labels v = tt
new_says calls Src v = tt
new_says calls Srcs v = tt
new_says calls Out v = tt
new_says calls Content v = tt
new_says calls Cmd v = tt

-- what the function answers stands in the relation, and nothing else does
abbrev pub Only : (State → Type 0) → Option State → Type 0
Only P None = (e : State) → P e → ⊥
Only P (Some e) = P e

so_only : (b : Bool) {P : Type 0} (Q : State → Type 0) (d : State) → Says b P → (P → Q d) → ((e : State) → Q e → P) → Only Q (where_so b d)
so_only true Q d s f g = f s
so_only false Q d s f g = λ e q. s (g e q)

rule_only : (o : Option Rule) (f : Rule → State) (Q : State → Type 0) → ((r : Rule) → o ≡ Some r → Q (f r)) → ((e : State) → Q e → (r : Rule) × (o ≡ Some r)) → Only Q (option_map f o)
rule_only None f Q h k = λ e q. let r = k e q in let i = r.1 in cc
rule_only (Some r) f Q h k = h r refl

close_only : (s : State) (m : ℕ) → Only (Closes s m) (close_at s m)
close_only s m = so_only (nat_eq m 41 && is_whole s) (Closes s m) (closed s) (both_say (nat_eq m 41) (is_whole s) (m ≡ 41) (IsWhole s) (number_says m 41) (all_says s.given (needed s.rule)))
    (λ p. record { mark_is = p.0; whole = p.1; state_is = refl }) (λ e c. (c.mark_is, c.whole))

name_only : (s : State) (w : List ℕ) (o : Option Attribute) → attribute_of w ≡ o → Only (λ e. (a : Attribute) × Names s w a e) (option_and_then (name_at s) o)
name_only s w None h = λ e q. let i = q.1.attribute_is in cc
name_only s w (Some a) h =
    so_only (has_form (form_of s.rule a) && not (is_given a s.given)) (λ e. (a : Attribute) × Names s w a e) (set_place s (at.Equal a))
    (both_say (has_form (form_of s.rule a)) (not (is_given a s.given)) (HasForm (form_of s.rule a)) (Has (attributes s.given) a → ⊥) (form_says (form_of s.rule a)) (not_says (is_given a s.given) (Has (attributes s.given) a) (given_says a s.given)))
    (λ p. (a, record { attribute_is = h; belongs = p.0; once = p.1; state_is = refl }))
    (λ e q.
    let i : Some q.0 ≡ Some a = sym q.1.attribute_is ∙ h in let k : q.0 ≡ a = cc in
    (subst (λ (x : Attribute). HasForm (form_of s.rule x)) k q.1.belongs, subst (λ (x : Attribute). Has (attributes s.given) x → ⊥) k q.1.once))

-- a comma, or another mark
or_only : (b : Bool) {P : Type 0} (Q R : State → Type 0) (d : State) (o : Option State) → Says b P → (P → Q d) → (P → (e : State) → R e → ⊥) → ((e : State) → Q e → P) → Only R o →
    Only (λ e. Q e ⊎ R e) (if b then Some d else o)
or_only true Q R d o s f n g r = inl (f s)
or_only false Q R d None s f n g r = λ e q. elim q [ inl h ↦ s (g e h) | inr h ↦ r e h ]
or_only false Q R d (Some e) s f n g r = inr r

comma_or : (m n : ℕ) → nat_eq 44 n ≡ false → m ≡ 44 → m ≡ n → ⊥
comma_or m n f e h = let k : nat_eq 44 44 ≡ false = subst (λ (x : ℕ). nat_eq 44 x ≡ false) (sym h ∙ e) f in cc

item_only : (a : Attribute) (s : State) (m : ℕ) → Only (StepAt (at.Item a) s (Mark m)) (step_at (at.Item a) s (Mark m))
item_only a s m =
    or_only (nat_eq m 44) (λ e. (m ≡ 44) × (e ≡ set_place s (at.List a))) (λ e. (m ≡ 93) × (e ≡ give s a (Many s.items))) (set_place s (at.List a)) (where_so (nat_eq m 93) (give s a (Many s.items)))
    (number_says m 44) (λ e. (e, refl)) (λ p e r. comma_or m 93 refl p r.0) (λ e q. q.0)
    (so_only (nat_eq m 93) (λ e. (m ≡ 93) × (e ≡ give s a (Many s.items))) (give s a (Many s.items)) (number_says m 93) (λ e. (e, refl)) (λ e q. q.0))

done_only : (s : State) (m : ℕ) → Only (StepAt at.Done s (Mark m)) (step_at at.Done s (Mark m))
done_only s m =
    or_only (nat_eq m 44) (λ e. (m ≡ 44) × (e ≡ set_place s at.Inside)) (Closes s m) (set_place s at.Inside) (close_at s m)
    (number_says m 44) (λ e. (e, refl)) (λ p e r. comma_or m 41 refl p r.mark_is) (λ e q. q.0) (close_only s m)

pub step_only : (p : Place) (s : State) (t : Token) → Only (StepAt p s t) (step_at p s t)
step_only at.Top s (Word l w) =
    rule_only (rule_of w) (λ r. record { calls = s.calls; line = l; rule = r; given = []; items = []; place = at.Named }) (StepAt at.Top s (Word l w)) (λ r e. (r, e, refl)) (λ e q. (q.0, q.1))
step_only at.Named s (Mark m) = so_only (nat_eq m 40) (StepAt at.Named s (Mark m)) (set_place s at.Inside) (number_says m 40) (λ e. (e, refl)) (λ e q. q.0)
step_only at.Inside s (Word l w) = name_only s w (attribute_of w) refl
step_only at.Inside s (Mark m) = close_only s m
step_only (at.Equal a) s (Mark m) = so_only (nat_eq m 61) (StepAt (at.Equal a) s (Mark m)) (set_place s (at.Value a)) (number_says m 61) (λ e. (e, refl)) (λ e q. q.0)
step_only (at.Value a) s (Text x) =
    so_only (fits (form_of s.rule a) (One x) && is_new s.calls a (One x)) (StepAt (at.Value a) s (Text x)) (give s a (One x))
    (both_say (fits (form_of s.rule a) (One x)) (is_new s.calls a (One x)) (Belongs (form_of s.rule a) (One x)) (IsFresh s.calls a (One x)) (fits_says (form_of s.rule a) (One x)) (new_says s.calls a (One x)))
    (λ p. record { belongs = p.0; fresh = p.1; state_is = refl }) (λ e g. (g.belongs, g.fresh))
step_only (at.Value a) s (Mark m) =
    so_only (nat_eq m 91 && fits (form_of s.rule a) (Many [])) (StepAt (at.Value a) s (Mark m)) (record s { items = []; place = at.List a })
    (both_say (nat_eq m 91) (fits (form_of s.rule a) (Many [])) (m ≡ 91) (Belongs (form_of s.rule a) (Many [])) (number_says m 91) (fits_says (form_of s.rule a) (Many [])))
    (λ p. (p.0, p.1, refl)) (λ e q. (q.0, q.1))
step_only (at.List a) s (Mark m) = so_only (nat_eq m 93) (StepAt (at.List a) s (Mark m)) (give s a (Many s.items)) (number_says m 93) (λ e. (e, refl)) (λ e q. q.0)
step_only (at.List a) s (Text x) =
    so_only (holds (form_of s.rule a) x) (StepAt (at.List a) s (Text x)) (record s { items = s.items ++ x ∷ []; place = at.Item a }) (holds_says (form_of s.rule a) x) (λ h. (h, refl)) (λ e q. q.0)
step_only (at.Item a) s (Mark m) = item_only a s m
step_only at.Done s (Mark m) = done_only s m
step_only at.Top s (Text x) = λ e q. q
step_only at.Top s (Mark m) = λ e q. q
step_only at.Named s (Word l w) = λ e q. q
step_only at.Named s (Text x) = λ e q. q
step_only at.Inside s (Text x) = λ e q. q
step_only (at.Equal a) s (Word l w) = λ e q. q
step_only (at.Equal a) s (Text x) = λ e q. q
step_only (at.Value a) s (Word l w) = λ e q. q
step_only (at.List a) s (Word l w) = λ e q. q
step_only (at.Item a) s (Word l w) = λ e q. q
step_only (at.Item a) s (Text x) = λ e q. q
step_only at.Done s (Word l w) = λ e q. q
step_only at.Done s (Text x) = λ e q. q

after : (o : Option State) (s m : State) (t : Token) (ts : List Token) → Steps s t m → Only (Runs m ts) o → Only (Runs s (t ∷ ts)) o
after None s m t ts h k = λ e q. k e (subst (λ (x : State). Runs x ts e) (one_step s t q.0 m q.1 h) q.2)
after (Some e) s m t ts h k = (m, h, k)

then_only : (o : Option State) (s : State) (t : Token) (ts : List Token) → Only (Steps s t) o → ((m : State) → Only (Runs m ts) (run m ts)) → Only (Runs s (t ∷ ts)) (option_and_then (λ m. run m ts) o)
then_only None s t ts h k = λ e q. h q.0 q.1
then_only (Some m) s t ts h k = after (run m ts) s m t ts h (k m)

pub run_only : (ts : List Token) (s : State) → Only (Runs s ts) (run s ts)
run_only [] s = refl
run_only (t ∷ ts) s = then_only (step_at s.place s t) s t ts (step_only s.place s t) (λ m. run_only ts m)

-- a byte is taken, or refused
abbrev pub Byte : Scan → ℕ → State → Option (Scan × State) → Type 0
Byte s b m None = Refuses s b m
Byte s b m (Some p) = Takes s b m p.0 p.1 × (emptied p.0 ≡ p.0)

byte_by : (s : Scan) (b : ℕ) (m : State) (t : Scan) (o : Option State) → next s b ≡ Some t → Only (Runs m t.tokens) o → Byte s b m (option_map (λ e. (emptied t, e)) o)
byte_by s b m t None n h = inr (t, n, h)
byte_by s b m t (Some e) n h = (record { out = t.tokens; next_is = n; runs = h }, refl)

byte_from : (s : Scan) (b : ℕ) (m : State) (o : Option Scan) → next s b ≡ o → Byte s b m (option_and_then (λ t. option_map (λ e. (emptied t, e)) (run m t.tokens)) o)
byte_from s b m None n = inl n
byte_from s b m (Some t) n = byte_by s b m t (run m t.tokens) n (run_only t.tokens m)

pub byte_only : (s : Scan) (b : ℕ) (m : State) → Byte s b m (take_byte s b m)
byte_only s b m = byte_from s b m (next s b) refl
