-- What a write to one place makes of all places.
use Rattle.std.proofs.Common.{◌≡◌, ◌≤◌, ◌<◌, ◌+◌, inl, inr, ◌⊎◌, ℕ, suc, Bool, true, false, not, cond, ◌&&◌, ◌||◌, List, [], ◌∷◌, ◌++◌, length, map, Option, Some, None, is_some, unwrap_or, nat_eq, eqb, eqb-true, append-nil, Result, Ok, Err, refl, sym, ap, ◌∙◌, subst, arith}
use Rattle.std.specs.Prelude.{IfOk, OnOk, OnErr, IsOk, IfSome, IfNone}
use Rattle.std.specs.Arc.{arc_value}
use Rattle.std.specs.Map.{lookup, set_value, values_of}
use Rattle.std.specs.List.{list_any, sum_by}
use Rattle.std.specs.Option.{option_map, option_to_list}
use Rattle.std.specs.declared.sync.Arc.{Arc}
use Rattle.std.proofs.lemmas.Option.{same_Some, none-some}
use Rattle.std.proofs.lemmas.List.{length-append, length-map}
use Rattle.std.proofs.lemmas.Map.Entries.{sum_by-set_value, sum_by-remove_entry}
use Rattle.dice_key.specs.Lawful.{IsEquality}
use Rattle.task_share.specs.Asked.{By, Promised, Tasked, is_by}
use Rattle.task_share.specs.Seen.{Share, takes_task, number_for, has_by, has_live, ask_count, one_if}
use Rattle.task_share.specs.Listed.{share_of, entry_of, shares_of, is_idle, settled, released, kept_name, IsNamed, IsListed, AreIn, IsChanged, KeepsListed}
use Rattle.task_share.specs.declared.place.Place.{Place}
use Rattle.lists.proofs.Members.{has_left, has_right}
use Rattle.lists.specs.Lists.{Has}
use Rattle.std.proofs.lemmas.Bool.{and_parts, cases_Bool}

idle_nothing : {X : Type 0} (xs : List X) → eqb (length xs) 0 ≡ true → xs ≡ []
idle_nothing [] e = refl
idle_nothing (x ∷ xs) e = absurd (let z = eqb-true (length (x ∷ xs)) 0 e in let l : length (x ∷ xs) ≡ suc (length xs) = refl in omega arith)

-- a place that gave its key away has a task
pub settled_takes : {K T : Type 0} (p : Share K T) → (p.live ≡ true → is_some p.task ≡ true) → takes_task p ≡ true → takes_task (settled p) ≡ true
settled_takes p runs e = by_idle (is_idle p) refl
  where
    by_idle : (b : Bool) → is_idle p ≡ b → (is_some p.task || is_some (cond b None p.name)) ≡ true
    by_idle true i = let t = runs (and_parts p.live _ i).0 in rw t refl
    by_idle false i = e

pub name_or_task : {K T : Type 0} (p : Share K T) → p.name ≡ None → takes_task p ≡ true → is_some p.task ≡ true
name_or_task p n e = by_bools (is_some p.task) (ap (λ o. is_some p.task || is_some o) (sym n) ∙ e)
  where
    by_bools : (b : Bool) → (b || false) ≡ true → b ≡ true
    by_bools true f = refl
    by_bools false f = f

module _ {K A T : Type 0} where
  -- a look-up among the places without their pointers
  pub lookup_shares : (test : K → Bool) (es : List (Arc K A × Place K T)) → lookup test (shares_of es) ≡ option_map share_of (lookup (λ a. test (arc_value a)) es)
  lookup_shares test [] = refl
  lookup_shares test (e ∷ es) = ap (cond (test (arc_value e.0)) (Some (share_of e.1))) (lookup_shares test es) ∙ by_test (test (arc_value e.0)) (lookup (λ a. test (arc_value a)) es)
    where
      by_test : (b : Bool) (o : Option (Place K T)) → cond b (Some (share_of e.1)) (option_map share_of o) ≡ option_map share_of (cond b (Some e.1) o)
      by_test true o = refl
      by_test false o = refl

  pub set_shares : (test : K → Bool) (es : List (Arc K A × Place K T)) (w : Place K T) → shares_of (set_value (λ a. test (arc_value a)) es w) ≡ set_value test (shares_of es) (share_of w)
  set_shares test [] w = refl
  set_shares test (e ∷ es) w = by_test (test (arc_value e.0)) (set_shares test es w)
    where
      by_test : (b : Bool) → shares_of (set_value (λ a. test (arc_value a)) es w) ≡ set_value test (shares_of es) (share_of w) → shares_of (cond b ((e.0, w) ∷ es) (e ∷ set_value (λ a. test (arc_value a)) es w)) ≡ cond b ((arc_value e.0, share_of w) ∷ shares_of es) (entry_of e ∷ set_value test (shares_of es) (share_of w))
      by_test true h = refl
      by_test false h = ap (λ rest. entry_of e ∷ rest) h

  -- the place h of the key became w, in place
  pub record IsWritten (eq : K → K → Bool) (key : Arc K A) (es fs : List (Arc K A × Place K T)) (h w : Place K T) : Type 0 where
    pub known : lookup (λ a. eq (arc_value key) (arc_value a)) es ≡ Some h
    pub set : fs ≡ set_value (λ a. eq (arc_value key) (arc_value a)) es w
    pub here : lookup (λ a. eq (arc_value key) (arc_value a)) fs ≡ Some w
    pub others : (q : Arc K A) → eq (arc_value key) (arc_value q) ≡ false → lookup (λ a. eq (arc_value q) (arc_value a)) fs ≡ lookup (λ a. eq (arc_value q) (arc_value a)) es

module _ {K T : Type 0} (eq : K → K → Bool) (law : IsEquality eq) where
  -- a place w in the place of h: the key that w gave away is a candidate
  pub settled_listed : (ps qs : List (K × Share K T)) (cs ds : List K) (room : ℕ) (k : K) (h w : Share K T) → IsListed eq ps cs room → lookup (eq k) ps ≡ Some h → qs ≡ set_value (eq k) ps (settled w) → lookup (eq k) qs ≡ Some (settled w)
      → ((q : K) → eq k q ≡ false → lookup (eq q) qs ≡ lookup (eq q) ps) → w.name ≡ h.name → (is_some h.task ≡ true → is_some w.task ≡ true) → (w.name ≡ None → is_some w.task ≡ true → is_some h.task ≡ true) → (w.live ≡ true → is_some w.task ≡ true) → ds ≡ cs ++ option_to_list (released w) → IsListed eq qs ds room
  settled_listed ps qs cs ds room k h w l known set here others same still there runs grown = record { each = each_on; fits = fits_on }
    where
      was : IsNamed cs k h
      was = l.each k h known

      -- a name that was kept or is given away is the key; one that was away before is a candidate
      each_here : (b : Bool) → is_idle w ≡ b → (n : Option K) → w.name ≡ n → IsNamed (cs ++ option_to_list (cond b n None)) k (record w { name = cond b None n })
      each_here true e None f = record { idle = λ _. refl; listed = λ _ t. has_left cs [] k (was.listed (sym same ∙ f) (there f t)); named = λ n g. cc; runs = runs }
      each_here true e (Some n) f = record { idle = λ _. refl; listed = λ _ _. has_right cs (n ∷ []) k (inl (was.named n (sym same ∙ f))); named = λ n g. cc; runs = runs }
      each_here false e n f = record { idle = λ g. absurd (let a : true ≡ false = sym g ∙ e in cc); listed = λ g t. has_left cs [] k (was.listed (sym same ∙ (f ∙ g)) (there (f ∙ g) t)); named = λ m g. was.named m (sym same ∙ (f ∙ g)); runs = runs }

      each_on : (q : K) (p : Share K T) → lookup (eq q) qs ≡ Some p → IsNamed ds q p
      each_on q p e = elim (cases_Bool (eq k q)) as (λ _. IsNamed ds q p) [
        | inl t ↦ (let s : k ≡ q = law.same k q t in
            subst (λ x. IsNamed ds x p) s (subst (λ (r : Share K T). IsNamed ds k r) (same_Some (settled w) p (sym here ∙ subst (λ x. lookup (eq x) qs ≡ Some p) (sym s) e))
            (subst (λ xs. IsNamed xs k (settled w)) (sym grown) (each_here (is_idle w) refl w.name refl))))
        | inr t ↦ (let z = l.each q p (sym (others q t) ∙ e) in record { idle = z.idle; listed = λ g t. subst (λ xs. Has xs q) (sym grown) (has_left cs (option_to_list (released w)) q (z.listed g t)); named = z.named; runs = z.runs })
      ]

      fits_on : sum_by kept_name (values_of qs) + length ds ≤ room
      fits_on =
          let a = sum_by-set_value kept_name (eq k) ps h (settled w) known in
          let c : sum_by kept_name (values_of qs) ≡ sum_by kept_name (values_of (set_value (eq k) ps (settled w))) = ap (λ xs. sum_by kept_name (values_of xs)) set in
          let d : length ds ≡ length cs + length (option_to_list (released w)) = ap length grown ∙ length-append cs (option_to_list (released w)) in
          let j : kept_name (settled w) + length (option_to_list (released w)) ≤ kept_name h = subst (λ o. kept_name (settled w) + length (option_to_list (released w)) ≤ one_if (is_some o || not (is_some h.task))) same (by_cases (is_idle w) w.name (is_some w.task) (is_some h.task) (λ i. runs (and_parts w.live _ i).0) still) in
          let m = l.fits in
          omega arith
        where
          by_cases : (b : Bool) (n : Option K) (t u : Bool) → (b ≡ true → t ≡ true) → (u ≡ true → t ≡ true) → one_if (is_some (cond b None n) || not t) + length (option_to_list (cond b n None)) ≤ one_if (is_some n || not u)
          by_cases true n false u f g = absurd (let e : false ≡ true = f refl in cc)
          by_cases true None true u f g = omega arith
          by_cases true (Some x) true u f g = omega arith
          by_cases false None true u f g = omega arith
          by_cases false None false false f g = omega arith
          by_cases false None false true f g = absurd (let e : false ≡ true = g refl in cc)
          by_cases false (Some x) t u f g = omega arith

  -- a change at one key, and nothing there
  pub changed_none : {A : Type 0} (es fs : List (Arc K A × Place K T)) (k : K) (R : Share K T → Share K T → Type 0) → fs ≡ es → lookup (λ a. eq k (arc_value a)) es ≡ None → IsChanged eq k R (shares_of es) (shares_of fs)
  changed_none es fs k R same e =
      let n = lookup_shares (eq k) es ∙ ap (option_map share_of) e in
      subst (λ xs. IsChanged eq k R (shares_of es) (shares_of xs)) (sym same) (record { here = subst (λ o. AreIn R o o) (sym n) tt; others = λ q t. refl; sums = λ f. refl })

  pub changed_written : {A : Type 0} (key : Arc K A) (es fs : List (Arc K A × Place K T)) (h w : Place K T) (R : Share K T → Share K T → Type 0) → IsWritten eq key es fs h w → R (share_of h) (share_of w) → IsChanged eq (arc_value key) R (shares_of es) (shares_of fs)
  changed_written {A} key es fs h w R i r =
      let a = lookup_shares (eq (arc_value key)) es ∙ ap (option_map share_of) i.known in
      let b = lookup_shares (eq (arc_value key)) fs ∙ ap (option_map share_of) i.here in record {
        here = subst (λ o. AreIn R o (lookup (eq (arc_value key)) (shares_of fs))) (sym a) (subst (λ o. AreIn R (Some (share_of h)) o) (sym b) r);
        others = λ q t. lookup_shares (eq q) fs ∙ (ap (option_map share_of) (i.others (other q) t) ∙ sym (lookup_shares (eq q) es));
        sums = λ f. (let x = sum_by-set_value f (eq (arc_value key)) (shares_of es) (share_of h) (share_of w) a in
            let y : sum_by f (values_of (shares_of fs)) ≡ sum_by f (values_of (set_value (eq (arc_value key)) (shares_of es) (share_of w))) = ap (λ xs. sum_by f (values_of (shares_of xs))) i.set ∙ ap (λ xs. sum_by f (values_of xs)) (set_shares (eq (arc_value key)) es w) in
            let u : number_for f (lookup (eq (arc_value key)) (shares_of es)) ≡ f (share_of h) = ap (number_for f) a in
            let v : number_for f (lookup (eq (arc_value key)) (shares_of fs)) ≡ f (share_of w) = ap (number_for f) b in
            omega arith);
      }
    where
      other : K → Arc K A
      other q = record { ptr = key.ptr; value = q }

  -- the same of a place that was settled, if mid is the place before that
  pub written_listed : {A B : Type 0} (key : Arc K A) (es fs : List (Arc K A × Place K T)) (cs ds : List (Arc K B)) (room : ℕ) (h w : Place K T) (mid : Share K T) → IsWritten eq key es fs h w → IsListed eq (shares_of es) (map arc_value cs) room
      → mid.name ≡ (share_of h).name → (is_some h.task ≡ true → is_some mid.task ≡ true) → (mid.name ≡ None → is_some mid.task ≡ true → is_some h.task ≡ true) → (((share_of h).live ≡ true → is_some h.task ≡ true) → mid.live ≡ true → is_some mid.task ≡ true) → share_of w ≡ settled mid → map arc_value ds ≡ map arc_value cs ++ option_to_list (released mid) → IsListed eq (shares_of fs) (map arc_value ds) room
  written_listed {A} key es fs cs ds room h w mid i l same still there runs was grown =
      let c = changed_written key es fs h w (λ p r. Unit {0}) i tt in
      settled_listed (shares_of es) (shares_of fs) (map arc_value cs) (map arc_value ds) room (arc_value key) (share_of h) mid l (lookup_shares (eq (arc_value key)) es ∙ ap (option_map share_of) i.known)
      (ap shares_of i.set ∙ (set_shares (eq (arc_value key)) es w ∙ ap (set_value (eq (arc_value key)) (shares_of es)) was))
      (lookup_shares (eq (arc_value key)) fs ∙ (ap (option_map share_of) i.here ∙ ap Some was)) c.others same still there (runs (l.each (arc_value key) (share_of h) (lookup_shares (eq (arc_value key)) es ∙ ap (option_map share_of) i.known)).runs) grown

  -- there is room for the key of a place among the candidates
  pub has_room : {A B : Type 0} (key : Arc K A) (es : List (Arc K A × Place K T)) (cs : List (Arc K B)) (room : ℕ) (h : Place K T) → IsListed eq (shares_of es) (map arc_value cs) room → lookup (λ a. eq (arc_value key) (arc_value a)) es ≡ Some h → is_some h.name ≡ true → length cs < room
  has_room key es cs room h l known e =
      let n = lookup_shares (eq (arc_value key)) es ∙ ap (option_map share_of) known in
      let a = sum_by-remove_entry kept_name (eq (arc_value key)) (shares_of es) in
      let b : unwrap_or (option_map kept_name (lookup (eq (arc_value key)) (shares_of es))) 0 ≡ kept_name (share_of h) = ap (λ o. unwrap_or (option_map kept_name o) 0) n in
      let d : kept_name (share_of h) ≡ 1 = by_name h.name e in
      let f = l.fits in
      let g : length (map arc_value cs) ≡ length cs = length-map cs arc_value in
      omega arith
    where
      by_name : {Z : Type 0} (o : Option (Arc K Z)) → is_some o ≡ true → one_if (is_some (option_map arc_value o) || not (is_some h.task)) ≡ 1
      by_name None e = cc
      by_name (Some x) e = refl

  -- a task that has not ended is there
  pub runs_at : {A : Type 0} (key : Arc K A) (es : List (Arc K A × Place K T)) (cs : List K) (room : ℕ) (h : Place K T) → IsListed eq (shares_of es) cs room → lookup (λ a. eq (arc_value key) (arc_value a)) es ≡ Some h → h.live ≡ true → is_some h.task ≡ true
  runs_at key es cs room h l known = (l.each (arc_value key) (share_of h) (lookup_shares (eq (arc_value key)) es ∙ ap (option_map share_of) known)).runs

  -- an idle task is not asked for
  pub idle_unasked : (p : Share K T) → is_idle p ≡ true → (a : By K) → has_by eq p a ≡ false
  idle_unasked p i (Promised n) = ap (list_any (nat_eq n)) (idle_nothing p.promises (and_parts (eqb (length p.promises) 0) (eqb (length p.askers) 0) (and_parts (has_live p) _ i).1).0)
  idle_unasked p i (Tasked j) = ap (list_any (eq j)) (idle_nothing p.askers (and_parts (eqb (length p.promises) 0) (eqb (length p.askers) 0) (and_parts (has_live p) _ i).1).1)

  pub asked_busy : (p : Share K T) (a : By K) → has_by eq p a ≡ true → is_idle p ≡ true → ⊥
  asked_busy p a e i = let f : true ≡ false = sym e ∙ idle_unasked p i a in cc

  pub ended_busy : (p : Share K T) → p.live ≡ false → is_idle p ≡ true → ⊥
  ended_busy p e i = let l = (and_parts p.live _ i).0 in let f : false ≡ true = sym e ∙ l in cc

  -- a place keeps its key, and has no idle task that it did not have; it gets a task at most if it has its key
  pub put_listed : {A : Type 0} (key : Arc K A) (es fs : List (Arc K A × Place K T)) (h w : Place K T) → IsWritten eq key es fs h w → (share_of w).name ≡ (share_of h).name → (is_some h.task ≡ true → is_some w.task ≡ true) → ((share_of w).name ≡ None → is_some w.task ≡ true → is_some h.task ≡ true) → (is_idle (share_of w) ≡ true → is_idle (share_of h) ≡ true)
      → (((share_of h).live ≡ true → is_some h.task ≡ true) → (share_of w).live ≡ true → is_some w.task ≡ true) → KeepsListed eq (shares_of es) (shares_of fs)
  put_listed key es fs h w i same still there idle runs cs room l =
      let k = arc_value key in
      let known = lookup_shares (eq k) es ∙ ap (option_map share_of) i.known in
      let was = l.each k (share_of h) known in
      let none : is_idle (share_of w) ≡ true → (share_of w).name ≡ None = λ e. same ∙ was.idle (idle e) in
      let c = changed_written key es fs h w (λ p r. Unit {0}) i tt in
      let st = settled_same (share_of w) none in
      settled_listed (shares_of es) (shares_of fs) cs cs room k (share_of h) (share_of w) l known
      (ap shares_of i.set ∙ (set_shares (eq k) es w ∙ ap (set_value (eq k) (shares_of es)) st))
      (lookup_shares (eq k) fs ∙ (ap (option_map share_of) i.here ∙ ap Some st)) c.others same still there (runs was.runs) (sym (ap (λ o. cs ++ option_to_list o) (released_none (share_of w) none) ∙ append-nil cs))
    where
      settled_same : (p : Share K T) → (is_idle p ≡ true → p.name ≡ None) → p ≡ settled p
      settled_same p n = by_idle (is_idle p) refl
        where
          by_idle : (b : Bool) → is_idle p ≡ b → p ≡ record p { name = cond b None p.name }
          by_idle true e = ap (λ (o : Option K). record p { name = o }) (n e)
          by_idle false e = refl

      released_none : (p : Share K T) → (is_idle p ≡ true → p.name ≡ None) → released p ≡ None
      released_none p n = by_idle (is_idle p) refl
        where
          by_idle : (b : Bool) → is_idle p ≡ b → cond b p.name None ≡ None
          by_idle true e = n e
          by_idle false e = refl

  -- the same of a place whose task stays, or that has none
  pub kept_listed : {A : Type 0} (key : Arc K A) (es fs : List (Arc K A × Place K T)) (h w : Place K T) → IsWritten eq key es fs h w → (share_of w).name ≡ (share_of h).name → is_some w.task ≡ is_some h.task → (is_idle (share_of w) ≡ true → is_idle (share_of h) ≡ true) → (((share_of h).live ≡ true → is_some h.task ≡ true) → (share_of w).live ≡ true → is_some w.task ≡ true) → KeepsListed eq (shares_of es) (shares_of fs)
  kept_listed key es fs h w i same task idle runs = put_listed key es fs h w i same (λ e. task ∙ e) (λ _ e. sym task ∙ e) idle runs

  pub kept_none : {A : Type 0} (es fs : List (Arc K A × Place K T)) → fs ≡ es → KeepsListed eq (shares_of es) (shares_of fs)
  kept_none es fs same cs room l = subst (λ xs. IsListed eq (shares_of xs) cs room) (sym same) l

-- an insertion with room made ahead, or of what is there, succeeds
pub inserted : {X E : Type 0} (r : Result X E) (b : Bool) (room : ℕ) (P : Type 0) → OnOk r P → OnErr r (b ≡ false) → (0 < room → IsOk r) → (b ≡ true) ⊎ (0 < room) → P
inserted (Ok x) b room P done absent succeeds h = done
inserted (Err e) b room P done absent succeeds (inl t) = absurd (let f : true ≡ false = sym t ∙ absent in cc)
inserted (Err e) b room P done absent succeeds (inr t) = let f = succeeds t in cc

cond_or : (b c : Bool) → cond b true c ≡ (c || b)
cond_or true true = refl
cond_or true false = refl
cond_or false true = refl
cond_or false false = refl

or_false : (b : Bool) → b ≡ (b || false)
or_false true = refl
or_false false = refl

and_true : (b : Bool) → b ≡ (b && not false)
and_true true = refl
and_true false = refl

cond_not : (b c : Bool) → cond b false c ≡ (c && not b)
cond_not true true = refl
cond_not true false = refl
cond_not false true = refl
cond_not false false = refl

module _ {K T : Type 0} (eq : K → K → Bool) where
  -- the askers after a promise or a task left
  pub left_promise : (h w : Share K T) (n : ℕ) → w.askers ≡ h.askers → ((q : ℕ) → list_any (nat_eq q) w.promises ≡ cond (nat_eq n q) false (list_any (nat_eq q) h.promises)) → (a : By K) → has_by eq w a ≡ (has_by eq h a && not (is_by eq (Promised n) a))
  left_promise h w n s l (Promised m) = l m ∙ cond_not (nat_eq n m) (list_any (nat_eq m) h.promises)
  left_promise h w n s l (Tasked j) = ap (list_any (eq j)) s ∙ and_true (list_any (eq j) h.askers)

  pub left_task : (h w : Share K T) (i : K) → w.promises ≡ h.promises → ((q : K) → list_any (eq q) w.askers ≡ cond (eq i q) false (list_any (eq q) h.askers)) → (a : By K) → has_by eq w a ≡ (has_by eq h a && not (is_by eq (Tasked i) a))
  left_task h w i s l (Promised m) = ap (list_any (nat_eq m)) s ∙ and_true (list_any (nat_eq m) h.promises)
  left_task h w i s l (Tasked j) = l j ∙ cond_not (eq i j) (list_any (eq j) h.askers)

  -- the askers after one joined
  pub joined_promise : (h w : Share K T) (n : ℕ) → w.askers ≡ h.askers → ((q : ℕ) → list_any (nat_eq q) w.promises ≡ cond (nat_eq n q) true (list_any (nat_eq q) h.promises)) → (a : By K) → has_by eq w a ≡ (has_by eq h a || is_by eq (Promised n) a)
  joined_promise h w n s l (Promised m) = l m ∙ cond_or (nat_eq n m) (list_any (nat_eq m) h.promises)
  joined_promise h w n s l (Tasked j) = ap (list_any (eq j)) s ∙ or_false (list_any (eq j) h.askers)

  pub joined_task : (h w : Share K T) (i : K) → w.promises ≡ h.promises → ((q : K) → list_any (eq q) w.askers ≡ cond (eq i q) true (list_any (eq q) h.askers)) → (a : By K) → has_by eq w a ≡ (has_by eq h a || is_by eq (Tasked i) a)
  joined_task h w i s l (Promised m) = ap (list_any (nat_eq m)) s ∙ or_false (list_any (nat_eq m) h.promises)
  joined_task h w i s l (Tasked j) = l j ∙ cond_or (eq i j) (list_any (eq j) h.askers)

  pub joined_wait : (h w : Share K T) (i : K) → ((q : K) → list_any (eq q) w.waits ≡ cond (eq i q) true (list_any (eq q) h.waits)) → (d : K) → list_any (eq d) w.waits ≡ (list_any (eq d) h.waits || eq i d)
  joined_wait h w i l d = l d ∙ cond_or (eq i d) (list_any (eq d) h.waits)

  pub left_wait : (h w : Share K T) (i : K) → ((q : K) → list_any (eq q) w.waits ≡ cond (eq i q) false (list_any (eq q) h.waits)) → (d : K) → list_any (eq d) w.waits ≡ (list_any (eq d) h.waits && not (eq i d))
  left_wait h w i l d = l d ∙ cond_not (eq i d) (list_any (eq d) h.waits)

  pub same_asks : (h w : Share K T) → w.promises ≡ h.promises → w.askers ≡ h.askers → (a : By K) → has_by eq w a ≡ has_by eq h a
  same_asks h w p q (Promised n) = ap (list_any (nat_eq n)) p
  same_asks h w p q (Tasked j) = ap (list_any (eq j)) q

pub inserted_at : {X E V : Type 0} (r : Result X E) (o : Option V) (room : ℕ) (P : Type 0) → OnOk r P → OnErr r (o ≡ None) → (0 < room → IsOk r) → (is_some o ≡ true) ⊎ (0 < room) → P
inserted_at (Ok x) o room P done absent succeeds h = done
inserted_at (Err e) o room P done absent succeeds (inl t) = absurd (let f : true ≡ false = sym t ∙ ap is_some absent in cc)
inserted_at (Err e) o room P done absent succeeds (inr t) = let f = succeeds t in cc

-- what is asked already or has room if a task may be put
pub with_room : (b : Bool) (asked : Bool) (n : ℕ) → (asked ≡ true) ⊎ (0 < cond b n 0) → (asked ≡ true) ⊎ (0 < n)
with_room b asked n (inl e) = inl e
with_room true asked n (inr e) = inr e
with_room false asked n (inr e) = absurd (omega arith)

pub if_some : {X : Type 0} {P Q : X → Type 0} (o : Option X) → ((x : X) → o ≡ Some x → P x → Q x) → IfSome o P → IfSome o Q
if_some None f p = tt
if_some (Some x) f p = f x refl p

pub some_so : {X : Type 0} {Q : X → Type 0} (o : Option X) → ((x : X) → o ≡ Some x → Q x) → IfSome o Q
some_so None f = tt
some_so (Some x) f = f x refl

pub if_ok : {X E : Type 0} {P Q : Type 0} (r : Result X E) → (P → Q) → OnOk r P → OnOk r Q
if_ok (Ok x) f p = f p
if_ok (Err e) f p = p

pub if_none : {X : Type 0} {Q : Type 0} (o : Option X) → (o ≡ None → Q) → IfNone o Q
if_none None f = f refl
if_none (Some x) f = tt

pub any_last : {X : Type 0} (p : X → Bool) (xs : List X) (x : X) → p x ≡ true → list_any p (xs ++ x ∷ []) ≡ true
any_last p [] x e = ap (λ b. b || false) e
any_last p (y ∷ ys) x e = ap (λ b. p y || b) (any_last p ys x e) ∙ or_true (p y)
  where
    or_true : (b : Bool) → (b || true) ≡ true
    or_true true = refl
    or_true false = refl

-- how many keys there are after a removal, after an insertion, and if they stay
pub value_count : {K A : Type 0} (xs : List (ℕ × Arc K A)) → length (map arc_value (values_of xs)) ≡ length xs
value_count [] = refl
value_count (x ∷ xs) = ap suc (value_count xs)

pub fewer_count : {K A : Type 0} (b : Bool) (old new : List (ℕ × Arc K A)) → length new + cond b 1 0 ≡ length old → length (map arc_value (values_of new)) ≤ length (map arc_value (values_of old)) + 0
fewer_count true old new e = let x = value_count new in let y = value_count old in omega arith
fewer_count false old new e = let x = value_count new in let y = value_count old in omega arith

pub more_count : {K A V E : Type 0} (r : Result (Option V) E) (old new : List (ℕ × Arc K A)) → IfOk r (λ o. length new ≡ length old + cond (is_some o) 0 1) → OnErr r (new ≡ old) → length (map arc_value (values_of new)) ≤ length (map arc_value (values_of old)) + 1
more_count (Ok (Some v)) old new done kept = let x = value_count new in let y = value_count old in omega (arith, done)
more_count (Ok None) old new done kept = let x = value_count new in let y = value_count old in omega (arith, done)
more_count (Err e) old new done kept = let x : length (map arc_value (values_of new)) ≡ length (map arc_value (values_of old)) = ap (λ xs. length (map arc_value (values_of xs))) kept in omega arith

pub fewer_by_one : {K A X : Type 0} (r : Option X) (x : X) (old new : List (ℕ × Arc K A)) → r ≡ Some x → length new + cond (is_some r) 1 0 ≡ length old → suc (length (map arc_value (values_of new))) ≡ length (map arc_value (values_of old))
fewer_by_one None x old new e l = absurd (none-some x e)
fewer_by_one (Some y) x old new e l = let a = value_count new in let b = value_count old in omega (arith, l)

-- if a place lost an asking task, there is an ask fewer
pub popped_fewer : {K T A : Type 0} (eq : K → K → Bool) → IsEquality eq → (key : Arc K A) (es fs : List (Arc K A × Place K T)) (h w : Place K T) (mid : Share K T) → IsWritten eq key es fs h w → share_of w ≡ settled mid → suc (length mid.askers) ≡ length (share_of h).askers → ask_count (shares_of fs) < ask_count (shares_of es)
popped_fewer {K} {T} {A} eq law key es fs h w mid i was less =
    let c = changed_written eq law key es fs h w (λ p r. Unit {0}) i tt in
    let s = c.sums (λ (p : Share K T). length p.askers) in
    let a : number_for (λ (p : Share K T). length p.askers) (lookup (eq (arc_value key)) (shares_of es)) ≡ length (share_of h).askers = ap (number_for (λ (p : Share K T). length p.askers)) (lookup_shares (eq (arc_value key)) es ∙ ap (option_map share_of) i.known) in
    let b : number_for (λ (p : Share K T). length p.askers) (lookup (eq (arc_value key)) (shares_of fs)) ≡ length mid.askers = ap (number_for (λ (p : Share K T). length p.askers)) (lookup_shares (eq (arc_value key)) fs ∙ ap (option_map share_of) i.here) ∙ ap (λ (p : Share K T). length p.askers) was in
    omega arith
