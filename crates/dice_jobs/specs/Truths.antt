-- What is true of a job's answers over a log of commits, and of what a check finds.
use Rattle.std.specs.Prelude.{◌≡◌, ◌≢◌, ◌≤◌, ℕ, Bool, false, List, [], ◌∷◌, ◌++◌, length}
use Rattle.std.specs.List.{AllZip}
use Rattle.dice_key.specs.Meaning.{Meaning, Answered}
use Rattle.dice_key.specs.declared.universe.Kind.TheVariants.{Injected}
use Rattle.dice_model.specs.Eval.{HasValue}
use Rattle.dice_model.specs.Asks.{AllTrue, Goes, IsTrace}
use Rattle.dice_jobs.specs.Jobs.{Work, Computes, Checks, Assigned}

-- the batches A have the keys of the first batches of T
abbrev pub Follows : {K V : Type 0} → List (Answered K V) → List (Answered K V) → Type 0
Follows T [] = Unit {0}
Follows [] (a ∷ A) = ⊥
Follows (b ∷ T) (a ∷ A) = (a.keys ≡ b.keys) × Follows T A

module _ {K V : Type 0} (eq : K → K → Bool) (m : Meaning K V) (C : List (List (K × V))) where
  -- T is the trace of k at some version, by which it came to x there, and x is not transient
  pub record IsEarlier (k : K) (T : List (Answered K V)) (x : V) : Type 0 where
    pub version : ℕ
    pub within : version ≤ length C
    pub traced : IsTrace eq m C version k T x
    pub lasts : m.is_transient x ≡ false

  -- the answers are those at v: of a computation the batches that k asks there; of a check the values at v of the keys of the
  -- first batches of its trace
  abbrev pub AreAnswers : K → ℕ → Work K V → List (Answered K V) → Type 0
  AreAnswers k v Computes A = Goes eq m C v k [] A
  AreAnswers k v (Checks x T b) A = IsEarlier k T x × Follows T A × AllTrue (HasValue eq m C v) A

  -- so it is with this job, whose version the log has, and whose key is not injected
  pub record IsTrueJob (a : Assigned K V) : Type 0 where
    pub computed : m.kind a.name.key ≢ Injected
    pub within : a.name.version ≤ length C
    pub answers : AreAnswers a.name.key a.name.version a.work a.answered

  -- of the keys of T, in order, d is the first whose value at v is not its answer
  pub record ChangesFirst (v : ℕ) (T : List (Answered K V)) (d : K) : Type 0 where
    pub before : List (Answered K V)
    pub batch : Answered K V
    pub after : List (Answered K V)
    pub trace_is : T ≡ before ++ batch ∷ after
    pub agreed : AllTrue (HasValue eq m C v) before
    pub keys_before : List K
    pub keys_after : List K
    pub values_before : List V
    pub values_after : List V
    pub was : V
    pub now : V
    pub keys_are : batch.keys ≡ keys_before ++ d ∷ keys_after
    pub values_are : batch.values ≡ values_before ++ was ∷ values_after
    pub agreed_first : AllZip (HasValue eq m C v) keys_before values_before
    pub has : HasValue eq m C v d now
    pub other : was ≢ now
