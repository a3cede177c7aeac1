-- Steps of the walk along recorded edges.
use Rattle.std.proofs.Common.{◌≡◌, ◌≤◌, ◌+◌, ◌⊎◌, inl, inr, suc, Bool, true, false, cond, List, [], ◌∷◌, ◌++◌, length, filter, Some, refl, sym, ap, ◌∙◌, subst, arith, ℕ, append_assoc, ◌<◌, map, drop, get_or}
use Rattle.std.proofs.lemmas.List.{append-nil, map-append, at_drop_more}
use Rattle.std.specs.Arc.{arc_value}
use Rattle.std.specs.declared.sync.Arc.{Arc}
use Rattle.std.specs.Map.{lookup}
use Rattle.std.specs.List.{list_any}
use Rattle.dice_key.specs.Lawful.{IsEquality}
use Rattle.versioned_graph.specs.Entries.{Stored}
use Rattle.versioned_graph.specs.Edges.{is_edge, CommitReaches, changes, leads}
use Rattle.versioned_graph.specs.Users.{or_none, users_of, IsIndexed, recorded_of}
use Rattle.dice_key.proofs.KeySets.{any_end, any_has}
use Rattle.lists.proofs.Members.{filter_has, has_either, has_filter, has_left, has_right}
use Rattle.lists.specs.Lists.{Has}

-- a list goes on with one that passes the test, and stays as it is with one that does not
pub filter_kept : {X : Type 0} (f : X → Bool) (x : X) (xs : List X) → f x ≡ true → xs ++ x ∷ [] ≡ xs ++ filter f (x ∷ [])
filter_kept f x xs e = sym (ap (λ b. xs ++ cond b (x ∷ []) []) e)

pub filter_left : {X : Type 0} (f : X → Bool) (x : X) (xs : List X) → f x ≡ false → xs ≡ xs ++ filter f (x ∷ [])
filter_left f x xs e = sym (ap (λ b. xs ++ cond b (x ∷ []) []) e ∙ append-nil xs)

-- one key more is copied
pub copied_more : {K A : Type 0} (cs ks : List (Arc K A)) (i : ℕ) (x k : Arc K A) → i < length ks → k ≡ get_or ks i k → arc_value x ≡ arc_value k → (all : List K)
    → map arc_value cs ++ map arc_value (drop i ks) ≡ all → map arc_value (cs ++ x ∷ []) ++ map arc_value (drop (i + 1) ks) ≡ all
copied_more {K} cs ks i x k l at e all h =
    let rest : List K = map arc_value (drop (i + 1) ks) in
    let moved : (map arc_value cs ++ arc_value x ∷ []) ++ rest ≡ map arc_value cs ++ arc_value x ∷ rest = rw append_assoc refl in
    ap (λ l. l ++ rest) (map-append arc_value cs (x ∷ []))
    ∙ (moved ∙ (ap (λ y. map arc_value cs ++ y ∷ rest) (e ∙ ap arc_value at) ∙ (ap (λ l. map arc_value cs ++ l) (sym (at_drop_more (map arc_value) ks i k l)) ∙ h)))

filter_length : {X : Type 0} (f : X → Bool) (xs : List X) → length (filter f xs) ≤ length xs
filter_length f [] = omega arith
filter_length f (x ∷ xs) = by_test (f x) (filter_length f xs)
  where
    by_test : (b : Bool) → length (filter f xs) ≤ length xs → length (cond b (x ∷ filter f xs) (filter f xs)) ≤ suc (length xs)
    by_test true h = omega arith
    by_test false h = omega arith

module _ {K V : Type 0} (eq : K → K → Bool) (es : List (K × Stored K V)) (start : List K) where
  -- what was reached leads to what was reached or is to do; and to all that was reached or is to do a chain leads
  pub record IsWalk (reached todo : List K) : Type 0 where
    pub begun : (q : K) → Has start q → Has reached q ⊎ Has todo q
    pub closed : (a b : K) → Has reached a → is_edge eq es a b ≡ true → Has reached b ⊎ Has todo b
    pub reached_led : (a : K) → Has reached a → CommitReaches eq es start a
    pub todo_led : (a : K) → Has todo a → CommitReaches eq es start a

  -- the same, with a set that has the reached keys
  pub record IsReach (seen : K → Bool) (reached todo : List K) : Type 0 where
    pub walk : IsWalk reached todo
    pub same : (q : K) → seen q ≡ list_any (eq q) reached

  pub walk_begins : (reached todo : List K) → reached ≡ [] → todo ≡ start → IsWalk reached todo
  walk_begins reached todo n e = record {
    begun = λ q h. inr (subst (λ t. Has t q) (sym e) h);
    closed = λ a b h. absurd (subst (λ t. Has t a) n h);
    reached_led = λ a h. absurd (subst (λ t. Has t a) n h);
    todo_led = λ a h. changes (subst (λ t. Has t a) e h);
  }

  pub walk_ends : (reached todo : List K) → IsWalk reached todo → todo ≡ [] → (q : K) → CommitReaches eq es start q → Has reached q
  walk_ends reached todo w e q (changes h) = of q (w.begun q h)
    where
      of : (x : K) → Has reached x ⊎ Has todo x → Has reached x
      of x (inl s) = s
      of x (inr i) = absurd (subst (λ t. Has t x) e i)
  walk_ends reached todo w e q (leads {j = j} p h) = of q (w.closed j q (walk_ends reached todo w e j p) h)
    where
      of : (x : K) → Has reached x ⊎ Has todo x → Has reached x
      of x (inl s) = s
      of x (inr i) = absurd (subst (λ t. Has t x) e i)

  module _ (us : List (K × List K)) (indexed : IsIndexed eq es us) (reached todo rest : List K) (key : K) (w : IsWalk reached todo) (split : todo ≡ rest ++ key ∷ []) where
    key_led : CommitReaches eq es start key
    key_led = w.todo_led key (subst (λ t. Has t key) (sym split) (has_right rest (key ∷ []) key (inl refl)))

    -- a key that was not reached yet
    pub walk_more : IsWalk (reached ++ key ∷ []) (rest ++ recorded_of eq es us key)
    walk_more = record {
      begun = λ q h. on q (w.begun q h);
      closed = λ a b h e. elim (has_either reached (key ∷ []) a h) as (λ _. Has (reached ++ key ∷ []) b ⊎ Has (rest ++ recorded_of eq es us key) b) [
        | inl i ↦ on b (w.closed a b i e)
        | inr j ↦ elim j as (λ _. Has (reached ++ key ∷ []) b ⊎ Has (rest ++ recorded_of eq es us key) b) [
          | inl p ↦ (let f = subst (λ x. is_edge eq es x b ≡ true) (sym p) e in inr (has_right rest (recorded_of eq es us key) b (has_filter (is_edge eq es key) (users_of eq us key) b (indexed key b f) f)))
          | inr n ↦ absurd n
        ]
      ];
      reached_led = λ a h. elim (has_either reached (key ∷ []) a h) as (λ _. CommitReaches eq es start a) [
        | inl i ↦ w.reached_led a i
        | inr j ↦ elim j as (λ _. CommitReaches eq es start a) [ inl p ↦ subst (CommitReaches eq es start) p key_led | inr n ↦ absurd n ]
      ];
      todo_led = λ a h. elim (has_either rest (recorded_of eq es us key) a h) as (λ _. CommitReaches eq es start a) [
        | inl i ↦ w.todo_led a (subst (λ t. Has t a) (sym split) (has_left rest (key ∷ []) a i))
        | inr j ↦ leads key_led (filter_has (is_edge eq es key) (users_of eq us key) a j)
      ];
    }
      where
        on : (q : K) → Has reached q ⊎ Has todo q → Has (reached ++ key ∷ []) q ⊎ Has (rest ++ recorded_of eq es us key) q
        on q (inl s) = inl (has_left reached (key ∷ []) q s)
        on q (inr h) = elim (has_either rest (key ∷ []) q (subst (λ t. Has t q) split h)) as (λ _. Has (reached ++ key ∷ []) q ⊎ Has (rest ++ recorded_of eq es us key) q) [
          | inl i ↦ inr (has_left rest (recorded_of eq es us key) q i)
          | inr j ↦ elim j as (λ _. Has (reached ++ key ∷ []) q ⊎ Has (rest ++ recorded_of eq es us key) q) [ inl e ↦ inl (has_right reached (key ∷ []) q (inl e)) | inr n ↦ absurd n ]
        ]

  module _ (reached todo rest : List K) (key : K) (w : IsWalk reached todo) (split : todo ≡ rest ++ key ∷ []) where
    -- a key that was reached before
    pub walk_same : Has reached key → IsWalk reached rest
    walk_same k = record {
      begun = λ q h. same q (w.begun q h);
      closed = λ a b h e. same b (w.closed a b h e);
      reached_led = w.reached_led;
      todo_led = λ a h. w.todo_led a (subst (λ t. Has t a) (sym split) (has_left rest (key ∷ []) a h));
    }
      where
        same : (q : K) → Has reached q ⊎ Has todo q → Has reached q ⊎ Has rest q
        same q (inl s) = inl s
        same q (inr h) = elim (has_either rest (key ∷ []) q (subst (λ t. Has t q) split h)) as (λ _. Has reached q ⊎ Has rest q) [
          | inl i ↦ inr i
          | inr j ↦ elim j as (λ _. Has reached q ⊎ Has rest q) [ inl e ↦ inl (subst (Has reached) e k) | inr n ↦ absurd n ]
        ]

-- how many users are those of keys that were not seen
abbrev pub unseen : {K : Type 0} → (K → Bool) → List (K × List K) → ℕ
unseen seen [] = 0
unseen seen (p ∷ ps) = cond (seen p.0) 0 (length p.1) + unseen seen ps

module _ {K : Type 0} (eq : K → K → Bool) (law : IsEquality eq) (seen later : K → Bool) (key : K) (marks : (q : K) → later q ≡ cond (eq key q) true (seen q)) where
  unseen_falls : (us : List (K × List K)) → unseen later us ≤ unseen seen us
  unseen_falls [] = omega arith
  unseen_falls (p ∷ ps) = by_seen (eq key p.0) (seen p.0) (marks p.0) (unseen_falls ps)
    where
      by_seen : (b s : Bool) → later p.0 ≡ cond b true s → unseen later ps ≤ unseen seen ps → cond (later p.0) 0 (length p.1) + unseen later ps ≤ cond s 0 (length p.1) + unseen seen ps
      by_seen true s m h = rw m (by_zero s)
        where
          by_zero : (s : Bool) → 0 + unseen later ps ≤ cond s 0 (length p.1) + unseen seen ps
          by_zero true = omega arith
          by_zero false = omega arith
      by_seen false s m h = rw m (by_same s)
        where
          by_same : (s : Bool) → cond s 0 (length p.1) + unseen later ps ≤ cond s 0 (length p.1) + unseen seen ps
          by_same true = omega arith
          by_same false = omega arith

  -- the list of a key that is seen now counts no more
  pub unseen_less : (us : List (K × List K)) → seen key ≡ false → unseen later us + length (users_of eq us key) ≤ unseen seen us
  unseen_less [] n = omega arith
  unseen_less (p ∷ ps) n = by_test (eq key p.0) refl (unseen_less ps n) (unseen_falls ps)
    where
      by_test : (b : Bool) → eq key p.0 ≡ b → unseen later ps + length (users_of eq ps key) ≤ unseen seen ps → unseen later ps ≤ unseen seen ps
          → cond (later p.0) 0 (length p.1) + unseen later ps + length (or_none (cond b (Some p.1) (lookup (eq key) ps))) ≤ cond (seen p.0) 0 (length p.1) + unseen seen ps
      by_test true t a f =
          let l : later p.0 ≡ true = marks p.0 ∙ ap (λ b. cond b true (seen p.0)) t in
          let s : seen p.0 ≡ false = subst (λ x. seen x ≡ false) (law.same key p.0 t) n in
          rw (l, s) (omega arith)
      by_test false t a f =
          let l : later p.0 ≡ seen p.0 = marks p.0 ∙ ap (λ b. cond b true (seen p.0)) t in
          rw l (omega arith)

module _ {K V : Type 0} (eq : K → K → Bool) (es : List (K × Stored K V)) (us : List (K × List K)) where
  pub recorded_length : (k : K) → length (recorded_of eq es us k) ≤ length (users_of eq us k)
  recorded_length k = filter_length (is_edge eq es k) (users_of eq us k)

module _ {K V : Type 0} (eq : K → K → Bool) (es : List (K × Stored K V)) (start : List K) where
  pub reach_begins : (seen : K → Bool) (reached todo : List K) → reached ≡ [] → todo ≡ start → ((q : K) → seen q ≡ false) → IsReach eq es start seen reached todo
  reach_begins seen reached todo n e f = record { walk = walk_begins eq es start reached todo n e; same = λ q. f q ∙ ap (list_any (eq q)) (sym n) }

module _ {K V : Type 0} (eq : K → K → Bool) (law : IsEquality eq) (es : List (K × Stored K V)) (start : List K) where
  pub reach_more : (us : List (K × List K)) (indexed : IsIndexed eq es us) (seen later : K → Bool) (reached todo rest : List K) (key : K) → IsReach eq es start seen reached todo → todo ≡ rest ++ key ∷ [] → ((q : K) → later q ≡ cond (eq key q) true (seen q))
      → (reached' todo' : List K) → reached' ≡ reached ++ key ∷ [] → todo' ≡ rest ++ recorded_of eq es us key → IsReach eq es start later reached' todo'
  reach_more us indexed seen later reached todo rest key w split marks reached' todo' p q = record {
    walk = subst (λ t. IsWalk eq es start reached' t) (sym q) (subst (λ r. IsWalk eq es start r (rest ++ recorded_of eq es us key)) (sym p) (walk_more eq es start us indexed reached todo rest key w.walk split));
    same = λ x. marks x ∙ (ap (cond (eq key x) true) (w.same x) ∙ (sym (any_end eq law x key reached) ∙ ap (list_any (eq x)) (sym p)));
  }

  pub reach_same : (seen later : K → Bool) (reached todo rest : List K) (key : K) → IsReach eq es start seen reached todo → todo ≡ rest ++ key ∷ [] → ((q : K) → later q ≡ cond (eq key q) true (seen q)) → seen key ≡ true → IsReach eq es start later reached rest
  reach_same seen later reached todo rest key w split marks old = record {
    walk = walk_same eq es start reached todo rest key w.walk split (any_has eq law reached key (sym (w.same key) ∙ old));
    same = λ x. marks x ∙ (by_test x (eq key x) refl ∙ w.same x);
  }
    where
      by_test : (x : K) (b : Bool) → eq key x ≡ b → cond b true (seen x) ≡ seen x
      by_test x true e = sym (subst (λ n. seen n ≡ true) (law.same key x e) old)
      by_test x false e = refl
