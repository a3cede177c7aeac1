-- What a call of the core adds to the journal.
use Rattle.std.proofs.Common.{◌≡◌, ℕ, Bool, true, false, not, List, [], ◌∷◌, ◌++◌, map, filter, Option, Some, None, refl, sym, ap, ◌∙◌, subst, append-nil}
use Rattle.std.specs.Prelude.{reverse, is_some, Result, Ok, Err, IfOk, OnOk, OnErr, IfSome, IfNone}
use Rattle.std.specs.List.{AllByRecursion}
use Rattle.dice_key.specs.Meaning.{Meaning}
use Rattle.dice_model.specs.Log.{input}
use Rattle.injected.specs.Seen.{Seen, newest_at}
use Rattle.journal.specs.declared.event.Told.{Told}
use Rattle.journal.specs.declared.event.Told.TheVariants.{Commit, Open, Close, Ask, Leave, Start, Keep, End, Cyclic, Drop, Lost}
use Rattle.journal.specs.Events.{Opened, Asking, open_at, live_at, event_of}
use Rattle.journal.specs.Law.{IsLawfulJournal}
use Rattle.dice_core.specs.Commits.{differing_of}
use Rattle.dice_core.specs.Cores.{IsWorkAt}
use Rattle.dice_core.specs.Joinings.{IsToldOfMake}
use Rattle.dice_tasks.specs.Makings.{IsOfMake}
use Rattle.dice_engine.specs.Turns.{log_of, newest_in, AreBy, WorksOn, Adds}
use Rattle.dice_engine.specs.Calls.{AddsNothing, Opens, Closes, Asks, Leaves, differing_from, Commits}
use Rattle.lists.specs.Lists.{Has}

module _ {K : Type 0} (V : Type 0) where
  pub are_dropped : (v : ℕ) (ks : List K) → AllByRecursion (IsWorkAt {V = V} v) (map (Drop v) ks)
  are_dropped v [] = tt
  are_dropped v (k ∷ ks) = (refl, are_dropped v ks)

  pub are_lost : (v : ℕ) (ls ks : List K) → AllByRecursion (IsWorkAt {V = V} v) (map (Lost v) ls ++ map (Drop v) ks)
  are_lost v [] ks = are_dropped v ks
  are_lost v (l ∷ ls) ks = (refl, are_lost v ls ks)

module _ {K V : Type 0} where
  pub commit_by : (n : ℕ) (c : List (K × V)) → AreBy n (event_of n c)
  commit_by n [] = tt
  commit_by n (p ∷ c) = (refl, tt)

  made : (v : ℕ) (k : K) (e : Told K V) → IsOfMake v k e → IsWorkAt v e
  made v k (Start w q c) h = h.0
  made v k (Keep w q b) h = h.0
  made v k (Commit by c) h = absurd h
  made v k (Open by w) h = absurd h
  made v k (Close by t) h = absurd h
  made v k (Ask by t q) h = absurd h
  made v k (Leave by a) h = absurd h
  made v k (End w q) h = absurd h
  made v k (Cyclic w q) h = absurd h
  made v k (Drop w q) h = absurd h
  made v k (Lost w q) h = absurd h

  pub are_made : (v : ℕ) (k : K) (es : List (Told K V)) → IsToldOfMake v k es → AllByRecursion (IsWorkAt v) es
  are_made v k [] h = tt
  are_made v k (e ∷ []) h = (made v k e h, tt)
  are_made v k (e ∷ f ∷ es) h = absurd h

module _ {K V : Type 0} (eq : K → K → Bool) (m : Meaning K V) (J I : List (Told K V)) (lawful : IsLawfulJournal eq m I) where
  pub nothing : (n : ℕ) → I ≡ J → Adds eq m n J I AddsNothing
  nothing n e = record { own = []; work = []; journal = e ∙ sym (append-nil J); by = tt; of_tasks = (0, tt); lawful = lawful; did = (refl, refl) }

  pub opens : (n : ℕ) → I ≡ J ++ Open n (newest_in J) ∷ [] → Adds eq m n J I (Opens n J)
  opens n e = record { own = Open n (newest_in J) ∷ []; work = []; journal = e; by = (refl, tt); of_tasks = (0, tt); lawful = lawful; did = (refl, refl) }

  pub closes : (n t v : ℕ) (ks : List K) → I ≡ J ++ (Close n t ∷ map (Drop v) ks) → Adds eq m n J I (Closes n t v)
  closes n t v ks e = record { own = Close n t ∷ []; work = map (Drop v) ks; journal = e; by = (refl, tt); of_tasks = (v, are_dropped V v ks); lawful = lawful; did = (refl, (ks, refl)) }

  pub asks : (n t v : ℕ) (k : K) (made : List (Told K V)) → IsToldOfMake v k made → I ≡ J ++ (Ask n t k ∷ made) → Adds eq m n J I (Asks n t v k)
  asks n t v k made h e = record { own = Ask n t k ∷ []; work = made; journal = e; by = (refl, tt); of_tasks = (v, are_made v k made h); lawful = lawful; did = (refl, h) }

  pub leaves : (n i t v : ℕ) (o : Opened) (ks : List K) → open_at (reverse J) t ≡ Some o → I ≡ J ++ (Leave n i ∷ map (Drop v) ks) → Adds eq m n J I (Leaves n i t v J)
  leaves n i t v o ks h e = record {
    own = Leave n i ∷ [];
    work = map (Drop v) ks;
    journal = e;
    by = (refl, tt);
    of_tasks = (v, are_dropped V v ks);
    lawful = lawful;
    did = rw h (refl, (ks, refl));
  }

  pub leaves_nothing : (n i t v : ℕ) → open_at (reverse J) t ≡ None → I ≡ J → Adds eq m n J I (Leaves n i t v J)
  leaves_nothing n i t v h e = record { own = []; work = []; journal = e ∙ sym (append-nil J); by = tt; of_tasks = (0, tt); lawful = lawful; did = rw h (refl, refl) }

  none_of : {X : Type 0} (x : Option X) → ((o : X) → x ≡ Some o → ⊥) → x ≡ None
  none_of None f = refl
  none_of (Some o) f = absurd (f o refl)

  -- an ask that is live is left
  pub leaves_live : (n i t v : ℕ) (a : Asking K) (o : Opened) (ks : List K) → a.opened ≡ t → a.by ≡ n → o.version ≡ v → open_at (reverse J) a.opened ≡ Some o → I ≡ J ++ (Leave a.by i ∷ map (Drop o.version) ks)
      → Adds eq m n J I (Leaves n i t v J)
  leaves_live n i t v a o ks in_t by at_v h e =
      leaves n i t v o ks (subst (λ x. open_at (reverse J) x ≡ Some o) in_t h) (e ∙ (λ j. J ++ (Leave (by j) i ∷ map (Drop (at_v j)) ks)))

  -- if an ask is not live its transaction is closed
  pub leaves_gone : (n i t v : ℕ) → ((o : Opened) → open_at (reverse J) t ≡ Some o → (a : Asking K) × (live_at (reverse J) i ≡ Some a) × (a.opened ≡ t) × (o.version ≡ v)) → is_some (live_at (reverse J) i) ≡ false → I ≡ J
      → Adds eq m n J I (Leaves n i t v J)
  leaves_gone n i t v f none e = leaves_nothing n i t v (none_of (open_at (reverse J) t) (λ o h. (let a = f o h in let x : is_some (live_at (reverse J) i) ≡ true = ap is_some a.1 in cc))) e

  pub worked : (n v : ℕ) (es : List (Told K V)) → AllByRecursion (IsWorkAt v) es → I ≡ J ++ es → Adds eq m n J I (λ own work. own ≡ [])
  worked n v es h e = record { own = []; work = es; journal = e; by = tt; of_tasks = (v, h); lawful = lawful; did = refl }

  pub works_on : (n : ℕ) → WorksOn J I → Adds eq m n J I (λ own work. own ≡ [])
  works_on n w = worked n w.2.0 w.0 w.2.1 w.1

  pub commits : (veq : V → V → Bool) (n : ℕ) (s : Seen K V) (c : List (K × V)) → ((k : K) → newest_at eq m s k ≡ input eq m (log_of J) (newest_in J) k)
      → I ≡ J ++ event_of n (differing_of eq veq m s c) → Adds eq m n J I (Commits eq veq m n (log_of J) c)
  commits veq n s c h e =
      let same : differing_of eq veq m s c ≡ differing_from eq veq m (log_of J) c = λ i. filter (λ (p : K × V). not (veq (h p.0 i) p.1)) c in record {
        own = event_of n (differing_from eq veq m (log_of J) c);
        work = [];
        journal = e ∙ (ap (λ d. J ++ event_of n d) same ∙ ap (λ l. J ++ l) (sym (append-nil (event_of n (differing_from eq veq m (log_of J) c)))));
        by = commit_by n (differing_from eq veq m (log_of J) c);
        of_tasks = (0, tt);
        lawful = lawful;
        did = (refl, refl);
      }

module _ {K V : Type 0} where
  -- a job that is given up, or not
  pub failed : (b : Bool) (J I : List (Told K V)) (v : ℕ) (k : K) → (b ≡ true → (ls ks : List K) × Has ls k × (I ≡ J ++ (map (Lost v) ls ++ map (Drop v) ks))) → (b ≡ false → I ≡ J) → WorksOn J I
  failed true J I v k f g = let l = f refl in (map (Lost v) l.0 ++ map (Drop v) l.1, l.3, (v, are_lost V v l.0 l.1))
  failed false J I v k f g = ([], g refl ∙ sym (append-nil J), (0, tt))

-- of results and options
module _ {A B : Type 0} where
  pub always_err : (r : Result A B) (P : Type 0) → P → OnErr r P
  always_err (Ok x) P p = tt
  always_err (Err e) P p = p

  pub map_ok : (r : Result A B) (P Q : Type 0) → OnOk r P → (P → Q) → OnOk r Q
  map_ok (Ok x) P Q p f = f p
  map_ok (Err e) P Q p f = tt

  pub map_err : (r : Result A B) (P Q : Type 0) → OnErr r P → (P → Q) → OnErr r Q
  map_err (Ok x) P Q p f = tt
  map_err (Err e) P Q p f = f p

  pub map_if_ok : (r : Result A B) (P Q : A → Type 0) → IfOk r P → ((x : A) → P x → Q x) → IfOk r Q
  map_if_ok (Ok x) P Q p f = f x p
  map_if_ok (Err e) P Q p f = tt

  -- one of both
  pub either_way : (r : Result A B) (P : A → Type 0) (Q R : Type 0) → IfOk r P → OnErr r Q → ((x : A) → P x → R) → (Q → R) → R
  either_way (Ok x) P Q R p q f g = f x p
  either_way (Err e) P Q R p q f g = g q

  pub on_either : (r : Result A B) (P Q R : Type 0) → OnOk r P → OnErr r Q → (P → R) → (Q → R) → R
  on_either (Ok x) P Q R p q f g = f p
  on_either (Err e) P Q R p q f g = g q

pub by_option : {X : Type 0} (o : Option X) (P : X → Type 0) (Q R : Type 0) → IfSome o P → IfNone o Q → ((x : X) → P x → R) → (Q → R) → R
by_option (Some x) P Q R p q f g = f x p
by_option None P Q R p q f g = g q
