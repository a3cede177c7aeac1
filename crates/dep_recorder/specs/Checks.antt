-- What a check of a trace finds.
use Rattle.std.specs.Prelude.{◌≡◌, ◌≢◌, ◌<◌, ℕ, Bool, cond, List, [], ◌∷◌, ◌++◌, length, map, take, drop, option_to_list, Option, Some, None}
use Rattle.std.specs.Arc.{arc_value}
use Rattle.dice_key.specs.Meaning.{Answered}
use Rattle.dep_recorder.specs.Recordings.{keys_in, answered_in}
use Rattle.dep_recorder.specs.declared.check.Next.{Next}
use Rattle.dep_recorder.specs.declared.check.Next.TheVariants.{Want, Same, Differs}

-- a check as seen: the trace, and the answers that it was fed, a list for each batch
pub record Checked (K V : Type 0) : Type 0 where
  pub trace : List (Answered K V)
  pub fed : List (List V)

-- what it finds: it wants these keys answered; all answers are the same; or a key's answer was one
-- value and is another now
pub data Finding (K V : Type 0) : Type 0 where
  Wants : List K → Finding K V
  IsSame : Finding K V
  HasChanged : K → V → V → Finding K V

abbrev pub finding_of : {K V : Type 0} → Next K V → Finding K V
finding_of (Want ps) = Wants (keys_in ps.now)
finding_of Same = IsSame
finding_of (Differs d x y) = HasChanged (arc_value d.now) (arc_value x.now) (arc_value y.now)

module _ {K V : Type 0} (eq : V → V → Bool) where
  -- the first key whose two values differ, with both
  abbrev pub first_change : List K → List V → List V → Option (K × V × V)
  first_change [] xs ys = None
  first_change (k ∷ ks) [] ys = None
  first_change (k ∷ ks) (x ∷ xs) [] = None
  first_change (k ∷ ks) (x ∷ xs) (y ∷ ys) = cond (eq x y) (first_change ks xs ys) (Some (k, x, y))

  -- a change, or what else is found
  abbrev pub change_or : Finding K V → Option (K × V × V) → Finding K V
  change_or f None = f
  change_or f (Some d) = HasChanged d.0 d.1 d.2

  -- batch after batch, the first change decides; without one, the first batch that was not fed is
  -- wanted
  abbrev pub finding : List (Answered K V) → List (List V) → Finding K V
  finding [] fed = IsSame
  finding (b ∷ bs) [] = Wants b.keys
  finding (b ∷ bs) (xs ∷ fed) = change_or (finding bs fed) (first_change b.keys b.values xs)

-- the check wants a batch of n keys
abbrev pub IsWantingOf : {K V : Type 0} → ℕ → Finding K V → Type 0
IsWantingOf n (Wants ks) = n ≡ length ks
IsWantingOf n IsSame = ⊥
IsWantingOf n (HasChanged d x y) = ⊥

-- the values of each batch
abbrev pub values_of : {K V : Type 0} → List (Answered K V) → List (List V)
values_of bs = map (λ b. b.values) bs

-- the first answer that has changed stands in the last batch that was fed, and all before it are as
-- they were
pub record IsFirstChange {K V : Type 0} (trace : List (Answered K V)) (fed : List (List V)) (key : K) (was now : V) : Type 0 where
  pub before : List (Answered K V)
  pub batch : Answered K V
  pub after : List (Answered K V)
  pub trace_is : trace ≡ before ++ batch ∷ after
  pub answers : List V
  pub fed_is : fed ≡ values_of before ++ answers ∷ []
  pub keys_before : List K
  pub keys_after : List K
  pub same : List V
  pub was_after : List V
  pub now_after : List V
  pub keys_are : batch.keys ≡ keys_before ++ key ∷ keys_after
  pub values_are : batch.values ≡ same ++ was ∷ was_after
  pub answers_are : answers ≡ same ++ now ∷ now_after
  pub counted : length keys_before ≡ length same
  pub changed : was ≢ now

-- all that was fed is as it was, and this batch is the next
pub record IsNextBatch {K V : Type 0} (trace : List (Answered K V)) (fed : List (List V)) (keys : List K) : Type 0 where
  pub before : List (Answered K V)
  pub batch : Answered K V
  pub after : List (Answered K V)
  pub trace_is : trace ≡ before ++ batch ∷ after
  pub fed_is : fed ≡ values_of before
  pub keys_are : keys ≡ batch.keys

-- so it is of a batch with its values
abbrev pub IsNext : {K V : Type 0} → List (Answered K V) → List (List V) → Answered K V → Type 0
IsNext trace fed b = (n : IsNextBatch trace fed b.keys) × (n.batch ≡ b)

-- the pairs that are wanted are the next batch of the trace: its keys, each with its value there
abbrev pub LendsNext : {K V : Type 0} → List (Answered K V) → List (List V) → Next K V → Type 0
LendsNext trace fed (Want ps) = IsNext trace fed (answered_in ps.now)
LendsNext trace fed Same = Unit {0}
LendsNext trace fed (Differs d x y) = Unit {0}

-- ---- how a check is kept

-- the answers to the first n batches, which are as they were, and those to one more
abbrev pub fed_so_far : {K V : Type 0} → List (Answered K V) → ℕ → Option (List V) → List (List V)
fed_so_far trace n more = values_of (take n trace) ++ option_to_list more

-- the first key, with its two values
abbrev pub heads : {K V : Type 0} → List K → List V → List V → Option (K × V × V)
heads [] xs ys = None
heads (k ∷ ks) [] ys = None
heads (k ∷ ks) (x ∷ xs) [] = None
heads (k ∷ ks) (x ∷ xs) (y ∷ ys) = Some (k, x, y)

abbrev pub changed_at : {K V : Type 0} → ℕ → List K → List V → List V → Option (K × V × V)
changed_at i ks xs ys = heads (drop i ks) (drop i xs) (drop i ys)

-- the first change of the first of these batches is at place i
abbrev pub HasChange : {K V : Type 0} → (V → V → Bool) → List (Answered K V) → List V → ℕ → Type 0
HasChange eq [] ys i = ⊥
HasChange eq (b ∷ bs) ys i = (i < length b.keys) × (length b.values ≡ length b.keys) × (length ys ≡ length b.keys) × (first_change eq b.keys b.values ys ≡ changed_at i b.keys b.values ys)
