-- The table of names after a change, and the number of a call.
use Rattle.std.proofs.Common.{◌≡◌, ◌<◌, ◌≤◌, ◌+◌, ◌∙◌, sym, ap, refl, subst, inl, inr, ℕ, Bool, true, false, not, List, [], ◌∷◌, ◌++◌, Option, Some, None, if◌then◌else◌, ◌||◌, nat_lt, ◌↔◌, length, map, arith}
use Rattle.std.specs.List.{list_any}
use Rattle.std.specs.Str.{bytes_eq}
use Rattle.std.specs.Cmp.Lexicographic.{nat_list_eq_equiv, bytes_decides}
use Rattle.std.specs.BTreeMap.{BTreeMap, UpdatesBy, get_by}
use Rattle.std.specs.Ordering.{nat_cmp, is_eq}
use Rattle.std.specs.Cmp.Lexicographic.{slice_cmp}
use Rattle.std.proofs.lemmas.Map.Text.{is_eq-slice_cmp}
use Rattle.std.specs.Map.{lookup, KeepsOthers, IsKeyTest, AreApart}
use Rattle.std.specs.declared.vec.Vec.{Vec}
use Rattle.target_file.specs.declared.table.Attribute.{Attribute}
use Rattle.target_file.specs.declared.table.Attribute.TheVariants as attribute
use Rattle.target_file.specs.declared.call.Argument as code
use Rattle.target_file.specs.declared.call.Call as code_call
use Rattle.target_file.specs.Seen.{argument_of, arguments_of, call_of}
use Rattle.target_file.specs.Calls.{Value, One, Many, Argument, Call}
use borrow.Author.Tests.{ltb-true, ltb-false}
use Rattle.target_file.specs.Files.{name_in, names_in, names}
use Rattle.target_file.specs.Names.{other_than, number_in, gives_name, is_named, number_from}
use Rattle.target_file.specs.declared.names.Named.{Named}
use Rattle.target_file.specs.Machine.{IsFresh}
use Rattle.target_file.proofs.Spelled.{names_in_end}
use Rattle.target_file.proofs.Having.{has_either}
use Rattle.lists.proofs.Members.{has_left, has_right}
use Rattle.lists.specs.Lists.{Has}
use Rattle.std.proofs.lemmas.Bool.{cases_Bool}

apart : (bs cs ks : List ℕ) → bytes_eq bs cs ≡ false → bytes_eq bs ks ≡ true → bytes_eq cs ks ≡ false
apart bs cs ks n y = nat_list_eq_equiv.symm cs ks ∙ sym (nat_list_eq_equiv.congr bs ks cs y) ∙ n

others : {K X : Type 0} (eq : K → K → Bool) (test : K → Bool) (old new : List (K × X)) → KeepsOthers eq test old new → (other : K → Bool) → IsKeyTest eq other → AreApart test other → lookup other new ≡ lookup other old
unfolding KeepsOthers
others eq test old new h = h

-- a look-up by bytes after a name was given a number
key_test : {A : Type 0} (q : List ℕ) (x y : Vec ℕ A) → is_eq (slice_cmp nat_cmp q x.items) ≡ true → is_eq (slice_cmp nat_cmp q y.items) ≡ is_eq (slice_cmp nat_cmp x.items y.items)
key_test q x y t =
    is_eq-slice_cmp q y.items ∙ nat_list_eq_equiv.congr q x.items y.items (sym (is_eq-slice_cmp q x.items) ∙ t) ∙ sym (is_eq-slice_cmp x.items y.items)

pub added : {A X : Type 0} (key : Vec ℕ A) (m n : BTreeMap (Vec ℕ A) X) (w : Option X) → UpdatesBy (λ x y. slice_cmp nat_cmp x.items y.items) (λ k. slice_cmp nat_cmp key.items k.items) m n w →
    (q : List ℕ) → get_by (λ k. slice_cmp nat_cmp q k.items) n ≡ (if bytes_eq key.items q then w else get_by (λ k. slice_cmp nat_cmp q k.items) m)
added key m n w h q = elim (cases_Bool (bytes_eq key.items q)) [
  | inl t ↦ rw t (subst (λ (l : List ℕ). get_by (λ k. slice_cmp nat_cmp l k.items) n ≡ w) ((bytes_decides key.items q).0 t) h.1)
  | inr f ↦
      rw f (others _ _ m.entries n.entries h.3 (λ k. is_eq (slice_cmp nat_cmp q k.items)) (key_test q)
      (λ k t. is_eq-slice_cmp q k.items ∙ apart key.items q k.items f (sym (is_eq-slice_cmp key.items k.items) ∙ t)))
]

-- what a table has for a name that is put beside another one of its hash
module _ (name : List ℕ) (first : List ℕ → Option Named) where
  passed : (n : Option Named) (new : Option ℕ) → true ≡ other_than name n → number_in name n new ≡ new
  passed None new e = absurd cc
  passed (Some n) new e = elim (cases_Bool (bytes_eq n.name name)) [
    | inl t ↦ (let k : true ≡ false = e ∙ ap not t in absurd cc)
    | inr f ↦ rw f refl
  ]

  pub put_beside : (q : List ℕ) (number : ℕ) (new old : Option ℕ) → true ≡ other_than name (first name) → new ≡ (if bytes_eq name q then Some number else old)
      → number_in q (first q) new ≡ (if bytes_eq name q then Some number else number_in q (first q) old)
  put_beside q number new old another is = elim (cases_Bool (bytes_eq name q)) [
    | inl t ↦
        rw t (subst (λ (l : List ℕ). number_in l (first l) new ≡ Some number) ((bytes_decides name q).0 t)
        (passed (first name) new another ∙ (let k : new ≡ (if bytes_eq name q then Some number else old) = is in rw t at k)))
    | inr f ↦ rw f (ap (number_in q (first q)) (let k : new ≡ (if bytes_eq name q then Some number else old) = is in rw f at k))
  ]

-- names among others
any_end : (q : List ℕ) (xs ys : List (List ℕ)) → list_any (bytes_eq q) (xs ++ ys) ≡ (list_any (bytes_eq q) xs || list_any (bytes_eq q) ys)
any_end q [] ys = refl
any_end q (x ∷ xs) ys = elim (cases_Bool (bytes_eq q x)) [ inl t ↦ rw t refl | inr f ↦ rw f (any_end q xs ys) ]

pub any_has : (q : List ℕ) (xs : List (List ℕ)) → list_any (bytes_eq q) xs ≡ true → Has xs q
any_has q [] h = absurd cc
any_has q (x ∷ xs) h = elim (cases_Bool (bytes_eq q x)) [
  | inl t ↦ inl (sym ((bytes_decides q x).0 t))
  | inr f ↦ inr (any_has q xs (let k : (bytes_eq q x || list_any (bytes_eq q) xs) ≡ true = h in rw f at k))
]

pub has_any : (q : List ℕ) (xs : List (List ℕ)) → Has xs q → list_any (bytes_eq q) xs ≡ true
has_any q [] h = absurd h
has_any q (x ∷ xs) (inl e) = let t : bytes_eq q x ≡ true = (bytes_decides q x).1 (sym e) in rw t refl
has_any q (x ∷ xs) (inr h) = elim (cases_Bool (bytes_eq q x)) [ inl t ↦ rw t refl | inr f ↦ rw f (has_any q xs h) ]

named_end : (q : List ℕ) (given : List Argument) (a : Attribute) (v : Value) → is_named q (given ++ record { attribute = a; value = v } ∷ []) ≡ (is_named q given || gives_name q a v)
named_end q given a v = ap (list_any (bytes_eq q)) (names_in_end given (record { attribute = a; value = v })) ∙ any_end q (names_in given) (name_in a v)

-- a call more, and the arguments begin anew
pub number_closed : (n : ℕ) (q : List ℕ) (cs : List Call) (c : Call) → number_from n q (cs ++ c ∷ []) [] ≡ number_from n q cs c.arguments
number_closed n q [] c = refl
number_closed n q (d ∷ cs) c = elim (cases_Bool (is_named q d.arguments)) [ inl t ↦ rw t refl | inr f ↦ rw f (number_closed (n + 1) q cs c) ]

-- an argument that gives no name
pub number_same : (n : ℕ) (q : List ℕ) (cs : List Call) (given : List Argument) (a : Attribute) (v : Value) → gives_name q a v ≡ false → number_from n q cs (given ++ record { attribute = a; value = v } ∷ []) ≡ number_from n q cs given
number_same n q [] given a v h =
    let e = named_end q given a v in
    elim (cases_Bool (is_named q given)) [ inl t ↦ rw (e, t) refl | inr f ↦ rw (e, f, h) refl ]
number_same n q (d ∷ cs) given a v h = elim (cases_Bool (is_named q d.arguments)) [ inl t ↦ rw t refl | inr f ↦ rw f (number_same (n + 1) q cs given a v h) ]

-- a name that no whole call has
pub number_new : (n : ℕ) (q : List ℕ) (cs : List Call) (given : List Argument) (a : Attribute) (v : Value) → gives_name q a v ≡ true → (Has (names cs) q → ⊥) → number_from n q cs (given ++ record { attribute = a; value = v } ∷ []) ≡ Some (n + length cs)
number_new n q [] given a v h k =
    let e = named_end q given a v in
    let z : n + 0 ≡ n = omega arith in
    elim (cases_Bool (is_named q given)) [ inl t ↦ rw (e, t, z) refl | inr f ↦ rw (e, f, h, z) refl ]
number_new n q (d ∷ cs) given a v h k = elim (cases_Bool (is_named q d.arguments)) [
  | inl t ↦ absurd (k (has_left (names_in d.arguments) (names cs) q (any_has q (names_in d.arguments) t)))
  | inr f ↦
      let r = number_new (n + 1) q cs given a v h (λ m. k (has_right (names_in d.arguments) (names cs) q m)) in
      let z : n + length (d ∷ cs) ≡ (n + 1) + length cs = omega arith in
      rw (f, z) r
]

-- a whole call has the name exactly if the number is below the number of calls
pub number_used : (n : ℕ) (q : List ℕ) (cs : List Call) (given : List Argument) (k : ℕ) → number_from n q cs given ≡ Some k → k < n + length cs → Has (names cs) q
number_used n q [] given k h l = elim (cases_Bool (is_named q given)) [
  | inl t ↦ let e : Some n ≡ Some k = subst (λ (b : Bool). (if b then Some n else None) ≡ Some k) t h in let i : n ≡ k = cc in absurd (omega arith)
  | inr f ↦ let e : None ≡ Some k = subst (λ (b : Bool). (if b then Some n else None) ≡ Some k) f h in cc
]
number_used n q (d ∷ cs) given k h l = elim (cases_Bool (is_named q d.arguments)) [
  | inl t ↦ has_left (names_in d.arguments) (names cs) q (any_has q (names_in d.arguments) t)
  | inr f ↦
      let e : number_from (n + 1) q cs given ≡ Some k = subst (λ (b : Bool). (if b then Some n else number_from (n + 1) q cs given) ≡ Some k) f h in
      has_right (names_in d.arguments) (names cs) q (number_used (n + 1) q cs given k e (omega arith))
]

pub number_some : (n : ℕ) (q : List ℕ) (cs : List Call) (given : List Argument) → Has (names cs) q → (k : ℕ) × (number_from n q cs given ≡ Some k) × (k < n + length cs)
number_some n q [] given h = absurd h
number_some n q (d ∷ cs) given h = elim (cases_Bool (is_named q d.arguments)) [
  | inl t ↦ (n, (rw t refl), (omega arith))
  | inr f ↦
      let no : Has (names_in d.arguments) q → ⊥ = λ m. let t = has_any q (names_in d.arguments) m in cc in
      let r = number_some (n + 1) q cs given (has_either (names_in d.arguments) (names cs) q no h) in
      let l = r.2 in
      (r.0, rw f r.1, (omega arith))
]

fresh_none : (cs : List Call) (q : List ℕ) (a : Attribute) (v : Value) → gives_name q a v ≡ true → IsFresh cs a v → Has (names cs) q → ⊥
fresh_none cs q attribute.Name (One x) g f = elim (cases_Bool (bytes_eq q x)) [
  | inl t ↦ subst (λ (y : List ℕ). Has (names cs) y → ⊥) (sym ((bytes_decides q x).0 t)) f
  | inr n ↦ let k : (bytes_eq q x || false) ≡ true = g in let m : false ≡ true = rw n at k in cc
]
fresh_none cs q attribute.Name (Many xs) g f = cc
fresh_none cs q attribute.Visibility v g f = cc
fresh_none cs q attribute.Labels v g f = cc
fresh_none cs q attribute.Src v g f = cc
fresh_none cs q attribute.Srcs v g f = cc
fresh_none cs q attribute.Out v g f = cc
fresh_none cs q attribute.Content v g f = cc
fresh_none cs q attribute.Cmd v g f = cc

-- an argument more
pub number_more : (q : List ℕ) (cs : List Call) (given : List Argument) (a : Attribute) (v : Value) → IsFresh cs a v → number_from 0 q cs (given ++ record { attribute = a; value = v } ∷ []) ≡ (if gives_name q a v then Some (length cs) else number_from 0 q cs given)
number_more q cs given a v f = elim (cases_Bool (gives_name q a v)) [
  | inl t ↦ let z : 0 + length cs ≡ length cs = omega arith in rw t (number_new 0 q cs given a v t (fresh_none cs q a v t f) ∙ ap Some z)
  | inr n ↦ rw n (number_same 0 q cs given a v n)
]

-- the same, of the code's lists
arguments_end : (xs : List code.Argument) (x : code.Argument) → arguments_of (xs ++ x ∷ []) ≡ arguments_of xs ++ argument_of x ∷ []
arguments_end [] x = refl
arguments_end (y ∷ xs) x = ap (λ (r : List Argument). argument_of y ∷ r) (arguments_end xs x)

calls_end : (cs : List code_call.Call) (c : code_call.Call) → map call_of (cs ++ c ∷ []) ≡ map call_of cs ++ call_of c ∷ []
calls_end [] c = refl
calls_end (d ∷ cs) c = ap (λ (r : List Call). call_of d ∷ r) (calls_end cs c)

calls_length : (cs : List code_call.Call) → length (map call_of cs) ≡ length cs
calls_length [] = refl
calls_length (c ∷ cs) = let h = calls_length cs in omega arith

many_no_name : (q : List ℕ) (a : Attribute) (xs : List (List ℕ)) → gives_name q a (Many xs) ≡ false
many_no_name q attribute.Name xs = refl
many_no_name q attribute.Visibility xs = refl
many_no_name q attribute.Labels xs = refl
many_no_name q attribute.Src xs = refl
many_no_name q attribute.Srcs xs = refl
many_no_name q attribute.Out xs = refl
many_no_name q attribute.Content xs = refl
many_no_name q attribute.Cmd xs = refl

pub list_kept : (q : List ℕ) (k : Option ℕ) (cs : List Call) (xs ys : List code.Argument) (x : code.Argument) (ts : List (List ℕ)) → ys ≡ xs ++ x ∷ [] → (argument_of x).value ≡ Many ts →
    k ≡ number_from 0 q cs (arguments_of xs) → k ≡ number_from 0 q cs (arguments_of ys)
list_kept q k cs xs ys x ts e v h =
    let n : gives_name q x.attribute (argument_of x).value ≡ false = subst (λ (w : Value). gives_name q x.attribute w ≡ false) (sym v) (many_no_name q x.attribute ts) in
    h ∙ sym (ap (number_from 0 q cs) (ap arguments_of e ∙ arguments_end xs x) ∙ number_same 0 q cs (arguments_of xs) x.attribute (argument_of x).value n)

pub noted : (q : List ℕ) (k : Option ℕ) (n : ℕ) (cs : List code_call.Call) (xs ys : List code.Argument) (x : code.Argument) → ys ≡ xs ++ x ∷ [] → n ≡ length cs → IsFresh (map call_of cs) x.attribute (argument_of x).value →
    k ≡ (if gives_name q x.attribute (argument_of x).value then Some n else number_from 0 q (map call_of cs) (arguments_of xs)) → k ≡ number_from 0 q (map call_of cs) (arguments_of ys)
noted q k n cs xs ys x e l f h =
    let z : n ≡ length (map call_of cs) = l ∙ sym (calls_length cs) in
    h ∙ ap (λ (m : ℕ). if gives_name q x.attribute (argument_of x).value then Some m else number_from 0 q (map call_of cs) (arguments_of xs)) z
    ∙ sym (ap (number_from 0 q (map call_of cs)) (ap arguments_of e ∙ arguments_end xs x) ∙ number_more q (map call_of cs) (arguments_of xs) x.attribute (argument_of x).value f)

pub closed_calls : (q : List ℕ) (k : Option ℕ) (cs ds : List code_call.Call) (c : code_call.Call) (xs ys : List code.Argument) → ds ≡ cs ++ c ∷ [] → c.arguments.items ≡ xs → ys ≡ [] →
    k ≡ number_from 0 q (map call_of cs) (arguments_of xs) → k ≡ number_from 0 q (map call_of ds) (arguments_of ys)
closed_calls q k cs ds c xs ys e f g h =
    h ∙ ap (λ (r : List code.Argument). number_from 0 q (map call_of cs) (arguments_of r)) (sym f) ∙ sym (number_closed 0 q (map call_of cs) (call_of c))
    ∙ ap (λ (r : List Call). number_from 0 q r []) (sym (ap (map call_of) e ∙ calls_end cs c)) ∙ ap (λ (r : List code.Argument). number_from 0 q (map call_of ds) (arguments_of r)) (sym g)

pub used_by : (q : List ℕ) (cs : List code_call.Call) (given : List Argument) (k n : ℕ) → number_from 0 q (map call_of cs) given ≡ Some k → n ≡ length cs → (nat_lt k n ≡ true) ↔ Has (names (map call_of cs)) q
used_by q cs given k n h l =
    let z = calls_length cs in (
      λ t. let b : k < n = ltb-true _ _ t in number_used 0 q (map call_of cs) given k h (omega arith),
      λ m.
          let r = number_some 0 q (map call_of cs) given m in
          let e : Some r.0 ≡ Some k = sym r.1 ∙ h in
          let i : r.0 ≡ k = cc in
          let b : r.0 < 0 + length (map call_of cs) = r.2 in
          elim (cases_Bool (nat_lt k n)) [ inl t ↦ t | inr f ↦ let g : n ≤ k = ltb-false _ _ f in absurd (omega arith) ],
    )

pub unused_by : (q : List ℕ) (cs : List code_call.Call) (given : List Argument) → number_from 0 q (map call_of cs) given ≡ None → Has (names (map call_of cs)) q → ⊥
unused_by q cs given h m = let r = number_some 0 q (map call_of cs) given m in let e : Some r.0 ≡ None = sym r.1 ∙ h in cc
