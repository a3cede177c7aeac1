-- What the tokens so far spell, for each place; each step keeps it.
use Rattle.std.proofs.Common.{◌≡◌, ◌⊎◌, ◌∙◌, sym, ap, refl, subst, inl, inr, ℕ, List, [], ◌∷◌, ◌++◌, append_assoc, append-nil, Option, Some, None}
use Rattle.std.specs.List.{AllByRecursion}
use Rattle.target_file.specs.declared.table.Rule.{Rule}
use Rattle.target_file.specs.declared.table.Attribute.{Attribute}
use Rattle.target_file.specs.declared.table.Attribute.TheVariants as attribute
use Rattle.target_file.specs.declared.table.Form.{Form}
use Rattle.target_file.specs.declared.table.Form.TheVariants as form
use Rattle.target_file.specs.Strings.{IsSource}
use Rattle.target_file.specs.declared.place.Place.{Place}
use Rattle.target_file.specs.declared.place.Place.TheVariants as at
use Rattle.target_file.specs.Tokens.{Token, Word, Text, Mark}
use Rattle.target_file.specs.Table.{rule_of, attribute_of, form_of}
use Rattle.target_file.specs.Calls.{Value, One, Many, Argument, Call, AreTexts, IsValue, IsArgument, AreGiven, IsCall, AreCalls}
use Rattle.target_file.specs.Files.{Belongs, attributes, IsFine, name_in, names_in, names}
use Rattle.target_file.specs.Machine.{State, StepAt, Steps, Runs, Closes, Names, Gives, IsFresh, HasForm, HasItem, set_place, give, closed}
use Rattle.lists.proofs.Distinct.{distinct_end}
use Rattle.lists.proofs.Each.{all_end}
use Rattle.lists.specs.Lists.{AreDistinct, Has}

-- each argument so far fits, none stands twice, and no two names are the same
pub record IsGood (rule : Rule) (given : List Argument) (calls : List Call) : Type 0 where
  pub each : AllByRecursion (λ a. Belongs (form_of rule a.attribute) a.value) given
  pub once : AreDistinct (attributes given)
  pub names_once : AreDistinct (names calls ++ names_in given)

-- a rule's name, (, and the body; after each argument in `commas` stands a comma
pub record Within (line : ℕ) (rule : Rule) (given : List Argument) (calls : List Call) (back body commas : List Token) : Type 0 where
  pub word : List ℕ
  pub rule_is : rule_of word ≡ Some rule
  pub tokens_are : back ≡ Word line word ∷ Mark 40 ∷ body
  pub given_are : AreGiven commas given
  pub good : IsGood rule given calls

-- an attribute's name, and what stands after it
pub record Begun (rule : Rule) (given : List Argument) (a : Attribute) (tail rest : List Token) : Type 0 where
  pub line : ℕ
  pub word : List ℕ
  pub attribute_is : attribute_of word ≡ Some a
  pub tail_is : tail ≡ Word line word ∷ rest
  pub belongs : HasForm (form_of rule a)
  pub new : Has (attributes given) a → ⊥

abbrev pub InCall : State → List Token → List Token → List Token → Type 0
InCall s = Within s.line s.rule s.given s.calls

pub record AtArgument (s : State) (back : List Token) (a : Attribute) (rest : List Token) : Type 0 where
  pub inner : List Token
  pub tail : List Token
  pub within : Within s.line s.rule s.given s.calls back (inner ++ tail) inner
  pub begun : Begun s.rule s.given a tail rest

abbrev pub SpelledAt : Place → State → List Token → Type 0
SpelledAt at.Top s back = back ≡ []
SpelledAt at.Named s back = (word : List ℕ) × (rule_of word ≡ Some s.rule) × (back ≡ Word s.line word ∷ []) × (s.given ≡ [])
SpelledAt at.Inside s back = (inner : List Token) × Within s.line s.rule s.given s.calls back inner inner
SpelledAt (at.Equal a) s back = (inner : List Token) × (tail : List Token) × Within s.line s.rule s.given s.calls back (inner ++ tail) inner × Begun s.rule s.given a tail []
SpelledAt (at.Value a) s back = (inner : List Token) × (tail : List Token) × Within s.line s.rule s.given s.calls back (inner ++ tail) inner × Begun s.rule s.given a tail (Mark 61 ∷ [])
SpelledAt (at.List a) s back = (inner : List Token) × (tail : List Token) × (list : List Token) × Within s.line s.rule s.given s.calls back (inner ++ tail) inner × Begun s.rule s.given a tail (Mark 61 ∷ Mark 91 ∷ list) × AreTexts list s.items × Belongs (form_of s.rule a) (Many s.items)
SpelledAt (at.Item a) s back = (inner : List Token) × (tail : List Token) × (list : List Token) × Within s.line s.rule s.given s.calls back (inner ++ tail) inner × Begun s.rule s.given a tail (Mark 61 ∷ Mark 91 ∷ list) × AreTexts (list ++ Mark 44 ∷ []) s.items × Belongs (form_of s.rule a) (Many s.items)
SpelledAt at.Done s back = (inner : List Token) × Within s.line s.rule s.given s.calls back inner (inner ++ Mark 44 ∷ [])

-- the tokens are whole calls, and then what the place says
pub record Spelled (ts : List Token) (s : State) : Type 0 where
  pub front : List Token
  pub back : List Token
  pub tokens_are : ts ≡ front ++ back
  pub calls_are : AreCalls front s.calls
  pub each : AllByRecursion IsFine s.calls
  pub once : AreDistinct (names s.calls)
  pub here : SpelledAt s.place s back

-- lists
has_end : {X : Type 0} (xs : List X) (x y : X) → Has (xs ++ y ∷ []) x → Has xs x ⊎ (y ≡ x)
has_end [] x y (inl e) = inr e
has_end [] x y (inr h) = absurd h
has_end (z ∷ xs) x y (inl e) = inl (inl e)
has_end (z ∷ xs) x y (inr h) = elim (has_end xs x y h) [ inl k ↦ inl (inr k) | inr e ↦ inr e ]

given_more : (commas arg : List Token) (given : List Argument) (a : Argument) → AreGiven commas given → IsArgument arg a → AreGiven (commas ++ (arg ++ Mark 44 ∷ [])) (given ++ a ∷ [])
given_more commas arg [] a g i = subst (λ (c : List Token). AreGiven (c ++ (arg ++ Mark 44 ∷ [])) (a ∷ [])) (sym g) (arg, [], refl, i, refl)
given_more commas arg (b ∷ given) a g i = (
  g.0,
  g.1 ++ (arg ++ Mark 44 ∷ []),
  ap (λ (c : List Token). c ++ (arg ++ Mark 44 ∷ [])) g.2 ∙ append_assoc g.0 (Mark 44 ∷ g.1) (arg ++ Mark 44 ∷ []),
  g.3,
  given_more g.1 arg given a g.4 i,
)

texts_more : (list : List Token) (ss : List (List ℕ)) (x : List ℕ) → AreTexts list ss → AreTexts ((list ++ Text x ∷ []) ++ Mark 44 ∷ []) (ss ++ x ∷ [])
texts_more list [] x h = subst (λ (l : List Token). AreTexts ((l ++ Text x ∷ []) ++ Mark 44 ∷ []) (x ∷ [])) (sym h) ([], refl, refl)
texts_more list (s ∷ ss) x h =
    ((h.0 ++ Text x ∷ []) ++ Mark 44 ∷ [], ap (λ (l : List Token). (l ++ Text x ∷ []) ++ Mark 44 ∷ []) h.1, texts_more h.0 ss x h.2)

pub names_in_end : (given : List Argument) (a : Argument) → names_in (given ++ a ∷ []) ≡ names_in given ++ name_in a.attribute a.value
names_in_end [] a = append-nil (name_in a.attribute a.value)
names_in_end (b ∷ given) a = ap (λ (n : List (List ℕ)). name_in b.attribute b.value ++ n) (names_in_end given a) ∙ sym (append_assoc (name_in b.attribute b.value) (names_in given) (name_in a.attribute a.value))

pub names_end : (calls : List Call) (c : Call) → names (calls ++ c ∷ []) ≡ names calls ++ names_in c.arguments
names_end [] c = append-nil (names_in c.arguments)
names_end (d ∷ calls) c = ap (λ (n : List (List ℕ)). names_in d.arguments ++ n) (names_end calls c) ∙ sym (append_assoc (names_in d.arguments) (names calls) (names_in c.arguments))

calls_end : (front back : List Token) (calls : List Call) (c : Call) → AreCalls front calls → IsCall back c → AreCalls (front ++ back) (calls ++ c ∷ [])
calls_end front back [] c h i = subst (λ (f : List Token). AreCalls (f ++ back) (c ∷ [])) (sym h) (back, [], sym (append-nil back), i, refl)
calls_end front back (d ∷ calls) c h i =
    (h.0, h.1 ++ back, ap (λ (f : List Token). f ++ back) h.2 ∙ append_assoc h.0 h.1 back, h.3, calls_end h.1 back calls c h.4 i)

attributes_end : (given : List Argument) (a : Argument) → attributes (given ++ a ∷ []) ≡ attributes given ++ a.attribute ∷ []
attributes_end [] a = refl
attributes_end (b ∷ given) a = ap (λ (n : List Attribute). b.attribute ∷ n) (attributes_end given a)

-- an argument more is as good
pub no_name : (a : Attribute) (v : Value) → (a ≡ attribute.Name → ⊥) → name_in a v ≡ []
no_name attribute.Name v h = absurd (h refl)
no_name attribute.Visibility v h = refl
no_name attribute.Labels v h = refl
no_name attribute.Src v h = refl
no_name attribute.Srcs v h = refl
no_name attribute.Out v h = refl
no_name attribute.Content v h = refl
no_name attribute.Cmd v h = refl

pub name_new : (given : List Argument) → (Has (attributes given) attribute.Name → ⊥) → names_in given ≡ []
name_new [] h = refl
name_new (b ∷ given) h = ap (λ (n : List (List ℕ)). n ++ names_in given) (no_name b.attribute b.value (λ e. h (inl e))) ∙ name_new given (λ k. h (inr k))

same_names : (ns : List (List ℕ)) (given : List Argument) (calls : List Call) → ns ≡ [] → AreDistinct (names calls ++ names_in given) → AreDistinct (names calls ++ (names_in given ++ ns))
same_names ns given calls e d = subst (λ (n : List (List ℕ)). AreDistinct (names calls ++ (names_in given ++ n))) (sym e) (subst (λ (n : List (List ℕ)). AreDistinct (names calls ++ n)) (sym (append-nil (names_in given))) d)

names_more : (a : Attribute) (v : Value) (given : List Argument) (calls : List Call) → AreDistinct (names calls ++ names_in given) → IsFresh calls a v → (Has (attributes given) a → ⊥) → AreDistinct (names calls ++ (names_in given ++ name_in a v))
names_more attribute.Name (One x) given calls d f n =
    let e : names_in given ≡ [] = name_new given n in
    let k : AreDistinct (names calls) = subst AreDistinct (ap (λ (m : List (List ℕ)). names calls ++ m) e ∙ append-nil (names calls)) d in
    subst (λ (m : List (List ℕ)). AreDistinct (names calls ++ (m ++ x ∷ []))) (sym e) (distinct_end (names calls) x k f)
names_more attribute.Name (Many xs) given calls d f n = same_names [] given calls refl d
names_more attribute.Visibility v given calls d f n = same_names [] given calls refl d
names_more attribute.Labels v given calls d f n = same_names [] given calls refl d
names_more attribute.Src v given calls d f n = same_names [] given calls refl d
names_more attribute.Srcs v given calls d f n = same_names [] given calls refl d
names_more attribute.Out v given calls d f n = same_names [] given calls refl d
names_more attribute.Content v given calls d f n = same_names [] given calls refl d
names_more attribute.Cmd v given calls d f n = same_names [] given calls refl d

good_more : (rule : Rule) (given : List Argument) (calls : List Call) (a : Argument) → IsGood rule given calls → Belongs (form_of rule a.attribute) a.value → IsFresh calls a.attribute a.value → (Has (attributes given) a.attribute → ⊥) → IsGood rule (given ++ a ∷ []) calls
good_more rule given calls a g b f n = record {
  each = all_end (λ a. Belongs (form_of rule a.attribute) a.value) given a g.each b;
  once = subst AreDistinct (sym (attributes_end given a)) (distinct_end (attributes given) a.attribute g.once n);
  names_once = subst (λ (ns : List (List ℕ)). AreDistinct (names calls ++ ns)) (sym (names_in_end given a)) (names_more a.attribute a.value given calls g.names_once f n);
}

-- one token more after the body of a call
longer : (line : ℕ) (rule : Rule) (given : List Argument) (calls : List Call) (back inner tail : List Token) (t : Token) → Within line rule given calls back (inner ++ tail) inner → Within line rule given calls (back ++ t ∷ []) (inner ++ (tail ++ t ∷ [])) inner
longer line rule given calls back inner tail t w = record {
  word = w.word;
  rule_is = w.rule_is;
  tokens_are = ap (λ (b : List Token). b ++ t ∷ []) w.tokens_are ∙ ap (λ (b : List Token). Word line w.word ∷ Mark 40 ∷ b) (append_assoc inner tail (t ∷ []));
  given_are = w.given_are;
  good = w.good;
}

more_begun : (rule : Rule) (given : List Argument) (a : Attribute) (tail rest : List Token) (t : Token) → Begun rule given a tail rest → Begun rule given a (tail ++ t ∷ []) (rest ++ t ∷ [])
more_begun rule given a tail rest t b = record { line = b.line; word = b.word; attribute_is = b.attribute_is; tail_is = ap (λ (x : List Token). x ++ t ∷ []) b.tail_is; belongs = b.belongs; new = b.new }

-- a value, with what it is given to
given_value : (line : ℕ) (rule : Rule) (given : List Argument) (calls : List Call) (back inner tail value : List Token) (a : Attribute) (v : Value) →
    Within line rule given calls back (inner ++ tail) inner → Begun rule given a tail (Mark 61 ∷ value) → IsValue value v → Belongs (form_of rule a) v → IsFresh calls a v →
    Within line rule (given ++ record { attribute = a; value = v } ∷ []) calls back (inner ++ tail) ((inner ++ tail) ++ Mark 44 ∷ [])
given_value line rule given calls back inner tail value a v w b i m f = record {
  word = w.word;
  rule_is = w.rule_is;
  tokens_are = w.tokens_are;
  given_are = subst (λ (c : List Token). AreGiven c (given ++ record { attribute = a; value = v } ∷ [])) (sym (append_assoc inner tail (Mark 44 ∷ [])))
      (given_more inner tail given (record { attribute = a; value = v }) w.given_are
      (record { line = b.line; word = b.word; attribute_is = b.attribute_is; value = value; tokens_are = b.tail_is; value_is = i }));
  good = good_more rule given calls (record { attribute = a; value = v }) w.good m f b.new;
}

-- a whole call
call_is : (line : ℕ) (rule : Rule) (given : List Argument) (calls : List Call) (back inner commas : List Token) → Within line rule given calls back inner commas → (commas ≡ inner) ⊎ (commas ≡ inner ++ Mark 44 ∷ []) → IsCall (back ++ Mark 41 ∷ []) (record { line = line; rule = rule; arguments = given })
call_is line rule given calls back inner commas w e = record {
  word = w.word;
  rule_is = w.rule_is;
  inner = inner;
  tokens_are = ap (λ (b : List Token). b ++ Mark 41 ∷ []) w.tokens_are;
  arguments = elim e [ inl h ↦ inl (subst (λ (c : List Token). AreGiven c given) h w.given_are) | inr h ↦ inr (subst (λ (c : List Token). AreGiven c given) h w.given_are) ];
}

-- the whole calls stay, and the place changes
kept : (ts : List Token) (t : Token) (s e : State) (f : Spelled ts s) → e.calls ≡ s.calls → SpelledAt e.place e (f.back ++ t ∷ []) → Spelled (ts ++ t ∷ []) e
kept ts t s e f h k = record {
  front = f.front;
  back = f.back ++ t ∷ [];
  tokens_are = ap (λ (x : List Token). x ++ t ∷ []) f.tokens_are ∙ append_assoc f.front f.back (t ∷ []);
  calls_are = subst (AreCalls f.front) (sym h) f.calls_are;
  each = subst (AllByRecursion IsFine) (sym h) f.each;
  once = subst (λ (c : List Call). AreDistinct (names c)) (sym h) f.once;
  here = k;
}

-- a call is whole
closing : (ts : List Token) (m : ℕ) (s e : State) (f : Spelled ts s) (inner commas : List Token) → Within s.line s.rule s.given s.calls f.back inner commas → (commas ≡ inner) ⊎ (commas ≡ inner ++ Mark 44 ∷ []) → Closes s m e → Spelled (ts ++ Mark m ∷ []) e
closing ts m s e f inner commas w h c =
    let call : Call = record { line = s.line; rule = s.rule; arguments = s.given } in
    let fine : IsFine call = record { each = w.good.each; once = w.good.once; whole = c.whole } in
    let d : Spelled (ts ++ Mark 41 ∷ []) (closed s) = record {
      front = f.front ++ (f.back ++ Mark 41 ∷ []);
      back = [];
      tokens_are = ap (λ (x : List Token). x ++ Mark 41 ∷ []) f.tokens_are ∙ append_assoc f.front f.back (Mark 41 ∷ []) ∙ sym (append-nil (f.front ++ (f.back ++ Mark 41 ∷ [])));
      calls_are = calls_end f.front (f.back ++ Mark 41 ∷ []) s.calls call f.calls_are (call_is s.line s.rule s.given s.calls f.back inner commas w h);
      each = all_end IsFine s.calls call f.each fine;
      once = subst AreDistinct (sym (names_end s.calls call)) w.good.names_once;
      here = refl;
    } in
    subst (λ (n : ℕ). Spelled (ts ++ Mark n ∷ []) e) (sym c.mark_is) (subst (Spelled (ts ++ Mark 41 ∷ [])) (sym c.state_is) d)

-- a value is whole
valued : (ts : List Token) (t : Token) (s e : State) (f : Spelled ts s) (a : Attribute) (v : Value) (inner tail value : List Token) →
    Within s.line s.rule s.given s.calls (f.back ++ t ∷ []) (inner ++ tail) inner → Begun s.rule s.given a tail (Mark 61 ∷ value) → IsValue value v → Gives s a v e → Spelled (ts ++ t ∷ []) e
valued ts t s e f a v inner tail value w b i g =
    subst (Spelled (ts ++ t ∷ [])) (sym g.state_is)
    (kept ts t s (give s a v) f refl (inner ++ tail, given_value s.line s.rule s.given s.calls (f.back ++ t ∷ []) inner tail value a v w b i g.belongs g.fresh))

empty_good : (rule : Rule) (calls : List Call) → AreDistinct (names calls) → IsGood rule [] calls
empty_good rule calls d = record { each = tt; once = tt; names_once = subst AreDistinct (sym (append-nil (names calls))) d }

opened : (ts : List Token) (s : State) (f : Spelled ts s) → SpelledAt at.Named s f.back → SpelledAt at.Inside (set_place s at.Inside) (f.back ++ Mark 40 ∷ [])
opened ts s f h = (
  [],
  record {
    word = h.0;
    rule_is = h.1;
    tokens_are = ap (λ (b : List Token). b ++ Mark 40 ∷ []) h.2;
    given_are = subst (AreGiven []) (sym h.3) refl;
    good = subst (λ (g : List Argument). IsGood s.rule g s.calls) (sym h.3) (empty_good s.rule s.calls f.once);
  },
)

begun : (ts : List Token) (s : State) (f : Spelled ts s) (l : ℕ) (w : List ℕ) (a : Attribute) (e : State) → SpelledAt at.Inside s f.back → Names s w a e → Spelled (ts ++ Word l w ∷ []) e
begun ts s f l w a e h n =
    let x : Within s.line s.rule s.given s.calls (f.back ++ Word l w ∷ []) (h.0 ++ ([] ++ Word l w ∷ [])) h.0 =
    longer s.line s.rule s.given s.calls f.back h.0 [] (Word l w) (subst (λ (b : List Token). Within s.line s.rule s.given s.calls f.back b h.0) (sym (append-nil h.0)) h.1) in
    subst (Spelled (ts ++ Word l w ∷ [])) (sym n.state_is)
    (kept ts (Word l w) s (set_place s (at.Equal a)) f refl (h.0, Word l w ∷ [], x, record { line = l; word = w; attribute_is = n.attribute_is; tail_is = refl; belongs = n.belongs; new = n.once }))

pub fresh_many : (calls : List Call) (a : Attribute) (ss : List (List ℕ)) → IsFresh calls a (Many ss)
fresh_many calls attribute.Name ss = tt
fresh_many calls attribute.Visibility ss = tt
fresh_many calls attribute.Labels ss = tt
fresh_many calls attribute.Src ss = tt
fresh_many calls attribute.Srcs ss = tt
fresh_many calls attribute.Out ss = tt
fresh_many calls attribute.Content ss = tt
fresh_many calls attribute.Cmd ss = tt

item_more : (fo : Option Form) (ss : List (List ℕ)) (x : List ℕ) → Belongs fo (Many ss) → HasItem fo x → Belongs fo (Many (ss ++ x ∷ []))
item_more None ss x b h = h
item_more (Some form.Path) ss x b h = h
item_more (Some form.Text) ss x b h = h
item_more (Some form.Command) ss x b h = h
item_more (Some form.Sources) ss x b h = all_end IsSource ss x b h
item_more (Some form.Texts) ss x b h = tt

-- the rule's name, (, =, a value, a list's parts, a comma
step_at : (p : Place) (ts : List Token) (s : State) (t : Token) (e : State) (f : Spelled ts s) → SpelledAt p s f.back → StepAt p s t e → Spelled (ts ++ t ∷ []) e
step_at at.Top ts s (Word l w) e f h k =
    let d : State = record { calls = s.calls; line = l; rule = k.0; given = []; items = []; place = at.Named } in
    subst (Spelled (ts ++ Word l w ∷ [])) (sym k.2)
    (kept ts (Word l w) s d f refl (w, k.1, ap (λ (b : List Token). b ++ Word l w ∷ []) h, refl))
step_at at.Named ts s (Mark m) e f h k =
    subst (λ (n : ℕ). Spelled (ts ++ Mark n ∷ []) e) (sym k.0) (subst (Spelled (ts ++ Mark 40 ∷ [])) (sym k.1)
    (kept ts (Mark 40) s (set_place s at.Inside) f refl (opened ts s f h)))
step_at at.Inside ts s (Word l w) e f h k = begun ts s f l w k.0 e h k.1
step_at at.Inside ts s (Mark m) e f h k = closing ts m s e f h.0 h.0 h.1 (inl refl) k
step_at (at.Equal a) ts s (Mark m) e f h k =
    subst (λ (n : ℕ). Spelled (ts ++ Mark n ∷ []) e) (sym k.0) (subst (Spelled (ts ++ Mark 61 ∷ [])) (sym k.1)
    (kept ts (Mark 61) s (set_place s (at.Value a)) f refl
    (h.0, h.1 ++ Mark 61 ∷ [], longer s.line s.rule s.given s.calls f.back h.0 h.1 (Mark 61) h.2, more_begun s.rule s.given a h.1 [] (Mark 61) h.3)))
step_at (at.Value a) ts s (Text x) e f h k =
    valued ts (Text x) s e f a (One x) h.0 (h.1 ++ Text x ∷ []) (Text x ∷ []) (longer s.line s.rule s.given s.calls f.back h.0 h.1 (Text x) h.2) (more_begun s.rule s.given a h.1 (Mark 61 ∷ []) (Text x) h.3) refl k
step_at (at.Value a) ts s (Mark m) e f h k =
    subst (λ (n : ℕ). Spelled (ts ++ Mark n ∷ []) e) (sym k.0) (subst (Spelled (ts ++ Mark 91 ∷ [])) (sym k.2)
    (kept ts (Mark 91) s (record s { items = []; place = at.List a }) f refl
    (h.0, h.1 ++ Mark 91 ∷ [], [], longer s.line s.rule s.given s.calls f.back h.0 h.1 (Mark 91) h.2, more_begun s.rule s.given a h.1 (Mark 61 ∷ []) (Mark 91) h.3, refl, k.1)))
step_at (at.List a) ts s (Text x) e f h k =
    subst (Spelled (ts ++ Text x ∷ [])) (sym k.1)
    (kept ts (Text x) s (record s { items = s.items ++ x ∷ []; place = at.Item a }) f refl (
      h.0,
      h.1 ++ Text x ∷ [],
      h.2 ++ Text x ∷ [],
      longer s.line s.rule s.given s.calls f.back h.0 h.1 (Text x) h.3,
      more_begun s.rule s.given a h.1 (Mark 61 ∷ Mark 91 ∷ h.2) (Text x) h.4,
      texts_more h.2 s.items x h.5,
      item_more (form_of s.rule a) s.items x h.6 k.0,
    ))
step_at (at.List a) ts s (Mark m) e f h k =
    subst (λ (n : ℕ). Spelled (ts ++ Mark n ∷ []) e) (sym k.0)
    (valued ts (Mark 93) s e f a (Many s.items) h.0 (h.1 ++ Mark 93 ∷ []) (Mark 91 ∷ (h.2 ++ Mark 93 ∷ [])) (longer s.line s.rule s.given s.calls f.back h.0 h.1 (Mark 93) h.3)
    (more_begun s.rule s.given a h.1 (Mark 61 ∷ Mark 91 ∷ h.2) (Mark 93) h.4) (record { inner = h.2; tokens_are = refl; strings = inl h.5 }) (record { belongs = h.6; fresh = fresh_many s.calls a s.items; state_is = k.1 }))
step_at (at.Item a) ts s (Mark m) e f h (inl k) =
    subst (λ (n : ℕ). Spelled (ts ++ Mark n ∷ []) e) (sym k.0) (subst (Spelled (ts ++ Mark 44 ∷ [])) (sym k.1)
    (kept ts (Mark 44) s (set_place s (at.List a)) f refl (
      h.0,
      h.1 ++ Mark 44 ∷ [],
      h.2 ++ Mark 44 ∷ [],
      longer s.line s.rule s.given s.calls f.back h.0 h.1 (Mark 44) h.3,
      more_begun s.rule s.given a h.1 (Mark 61 ∷ Mark 91 ∷ h.2) (Mark 44) h.4,
      h.5,
      h.6,
    )))
step_at (at.Item a) ts s (Mark m) e f h (inr k) =
    subst (λ (n : ℕ). Spelled (ts ++ Mark n ∷ []) e) (sym k.0)
    (valued ts (Mark 93) s e f a (Many s.items) h.0 (h.1 ++ Mark 93 ∷ []) (Mark 91 ∷ (h.2 ++ Mark 93 ∷ [])) (longer s.line s.rule s.given s.calls f.back h.0 h.1 (Mark 93) h.3)
    (more_begun s.rule s.given a h.1 (Mark 61 ∷ Mark 91 ∷ h.2) (Mark 93) h.4) (record { inner = h.2; tokens_are = refl; strings = inr h.5 }) (record { belongs = h.6; fresh = fresh_many s.calls a s.items; state_is = k.1 }))
step_at at.Done ts s (Mark m) e f h (inl k) =
    subst (λ (n : ℕ). Spelled (ts ++ Mark n ∷ []) e) (sym k.0) (subst (Spelled (ts ++ Mark 44 ∷ [])) (sym k.1)
    (kept ts (Mark 44) s (set_place s at.Inside) f refl (
      h.0 ++ Mark 44 ∷ [],
      record {
        word = h.1.word;
        rule_is = h.1.rule_is;
        tokens_are = ap (λ (b : List Token). b ++ Mark 44 ∷ []) h.1.tokens_are;
        given_are = h.1.given_are;
        good = h.1.good;
      },
    )))
step_at at.Done ts s (Mark m) e f h (inr k) = closing ts m s e f h.0 (h.0 ++ Mark 44 ∷ []) h.1 (inr refl) k
step_at p ts s t e f h k = absurd k

pub spelled_step : (ts : List Token) (s : State) (t : Token) (e : State) → Spelled ts s → Steps s t e → Spelled (ts ++ t ∷ []) e
spelled_step ts s t e f k = step_at s.place ts s t e f f.here k

pub spelled_run : (more ts : List Token) (s e : State) → Spelled ts s → Runs s more e → Spelled (ts ++ more) e
spelled_run [] ts s e f k = subst (λ (x : List Token). Spelled x e) (sym (append-nil ts)) (subst (Spelled ts) (sym k) f)
spelled_run (t ∷ more) ts s e f k =
    subst (λ (x : List Token). Spelled x e) (append_assoc ts (t ∷ []) more) (spelled_run more (ts ++ t ∷ []) k.0 e (spelled_step ts s t k.0 f k.1) k.2)
