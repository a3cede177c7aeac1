-- What a look of the driver's reader tells and leaves.
use Rattle.std.proofs.Common.{Bool, true, false, ◌≡◌, ◌≤◌, ℕ, Option, Result, Ok, Err, Some, None, List, [], ◌++◌, length, refl, sym, ap, ◌∙◌, subst, arith, append-nil, append_assoc}
use Rattle.std.specs.Prelude.{IfSome}
use Rattle.std.specs.Option.{option_map}
use Rattle.dice_engine.specs.Seats.{EngineId}
use Rattle.dice_model.specs.Eval.{HasValue}
use Rattle.dice_model.proofs.Stable.{value_stable}
use Rattle.turnstile.specs.Events.{StartsWith}
use Rattle.dice_engine.specs.Turns.{log_of, newest_in}
use Rattle.dice_engine.specs.Rises.{log_of-append}
use Rattle.dice_engine.specs.Rows.{ShelfHas, BeginsWithRows}
use Rattle.shelf.specs.declared.op.Plain.{Plain}
use Rattle.shelf.specs.declared.reader.LookRefusal.{LookRefusal}
use Rattle.shelf.specs.declared.reader.LookRefusal.TheVariants as refusal
use Rattle.shelf.specs.Ops.{row_at, IsSound}
use Rattle.shelf.specs.Ends.{ReaderView, Looked, after_refusal}
use Rattle.action_digest.specs.declared.key.Key.{Key}
use Rattle.action_digest.specs.declared.value.Value.{Value}
use Rattle.action_digest.specs.Buck.{buck}
use Rattle.action_digest.specs.Same.{key_equal}
use Rattle.script_trace.specs.Events.{Events}
use Rattle.dice_run.specs.Seats.{Place, log_in, Goes}
use Rattle.dice_run.specs.Looking.{SeesWith, Sees}
use Rattle.dice_run.specs.declared.outlook.Outlook.{Outlook}
use Rattle.dice_run.proofs.Seating.{begins_itself}
use Rattle.dice_run.proofs.Turning.{our_log}

-- the law of looks: a row that the reader sees is the value over the commits of the journal that it was told of
abbrev pub RowsAreTrue : Type 0
RowsAreTrue = (J : Events) (seen : List (Plain Key Value)) (v : ℕ) (k : Key) (x : Value) → BeginsWithRows J seen → IsSound key_equal buck seen → v ≤ newest_in J → row_at (key_equal k) v seen ≡ Some x → HasValue key_equal buck (log_of J) v k x

-- the value of a key over a beginning of what the seat has seen is its value over that
pub value_on : (s : Place) (J : Events) (v : ℕ) (k : Key) (x : Value) → StartsWith s.seen J → v ≤ newest_in J → HasValue key_equal buck (log_of J) v k x → HasValue key_equal buck (log_of s.seen) v k x
value_on s J v k x b n h =
    subst (λ C. HasValue key_equal buck C v k x) (sym (ap log_of b.1 ∙ log_of-append J b.0)) (value_stable key_equal buck (log_of J) (log_of b.0) v n k x h)

module _ (s : Place) (told v : ℕ) (k : Key) (old new : ReaderView Key Value) (w : SeesWith s told old) (looked : Looked key_equal buck old new) where
  rows_more : BeginsWithRows w.journal new.seen
  rows_more = record {
    told = w.rows.told;
    has = w.rows.has;
    begins = (w.rows.begins.0 ++ looked.0.0, sym (append_assoc w.rows.told w.rows.begins.0 looked.0.0) ∙ (ap (λ l. l ++ looked.0.0) w.rows.begins.1 ∙ looked.0.1));
  }

  -- the reader sees what it saw, and more
  pub sees_more : SeesWith s told new
  sees_more = record { journal = w.journal; begins = w.begins; newest = w.newest; rows = rows_more }

  -- by the law of looks, what it finds is the value over what the seat has seen
  pub value_looked : RowsAreTrue
      → v ≤ told → (x : Value) → row_at (key_equal k) v new.seen ≡ Some x → HasValue key_equal buck (log_of s.seen) v k x
  value_looked law h x e =
      let n : v ≤ newest_in w.journal = (let a = w.newest in omega arith) in
      value_on s w.journal v k x w.begins n (law w.journal new.seen v k x rows_more looked.1 n e)

-- the reader was told what the seat has seen
pub sees_told : (s : Place) (told : ℕ) (r : ReaderView Key Value) → ShelfHas s.seen r.seen → told ≤ newest_in s.seen → SeesWith s told r
sees_told s told r h n = record {
  journal = s.seen;
  begins = begins_itself s.seen;
  newest = n;
  rows = record { told = r.seen; has = h; begins = ([], append-nil r.seen) };
}

-- the newest version is no less when the seat goes on
pub newest_on : (id : EngineId) (s u : Place) (told : ℕ) → Goes id s u [] → told ≤ length (log_in s) → told ≤ newest_in u.seen
newest_on id s u told g h =
    let e : length (log_of u.seen) ≡ length (log_in s) = ap length (our_log id u g.ours ∙ ap log_of (g.mine ∙ append-nil s.mine)) in
    (omega arith)

-- if the reader has a place, it sees this much
abbrev pub SeesIf : Place → ℕ → ReaderView Key Value → Type 0
SeesIf s told r = r.shut ≡ false → SeesWith s told r

-- a reader that looked sees what it saw, and more
pub looked_sees : (s : Place) (told v : ℕ) (k : Key) (old new : ReaderView Key Value) → SeesIf s told old → Looked key_equal buck old new → SeesIf s told new
looked_sees s told v k old new w l f = sees_more s told v k old new (w (sym (ap (λ r. r.shut) l.2) ∙ f)) l

-- and one that was refused sees what it saw
refused_sees : (s : Place) (told : ℕ) (old new : ReaderView Key Value) → SeesIf s told old → new ≡ after_refusal old → SeesIf s told new
refused_sees s told old new w e f =
    let was = w (sym (ap (λ r. r.shut) e) ∙ f) in
    record {
      journal = was.journal;
      begins = was.begins;
      newest = was.newest;
      rows = subst (BeginsWithRows was.journal) (sym (ap (λ r. r.seen) e)) was.rows;
    }

-- whatever a look was refused for
pub refused_look : (s : Place) (told v : ℕ) (k : Key) (old new : ReaderView Key Value) (e : LookRefusal) → (e ≡ refusal.NoMemory → Looked key_equal buck old new) → (e ≡ refusal.Shut → new ≡ after_refusal old) → SeesIf s told old → SeesIf s told new
refused_look s told v k old new refusal.NoMemory l a w = looked_sees s told v k old new w (l refl)
refused_look s told v k old new refusal.Shut l a w = refused_sees s told old new w (a refl)

abbrev pub WasShut : {X : Type 0} → Result X LookRefusal → Type 0
WasShut r = r ≡ Err refusal.Shut

-- a reader that was answered had a place
has_place : {X : Type 0} (b : Bool) (x : X) → (b ≡ true → WasShut (Ok x)) → b ≡ false
has_place true x f = (let e : WasShut (Ok x) = f refl in cc)
has_place false x f = refl

-- what a look answers is the value over what the seat has seen
pub look_value : {A : Type 0} (value : A → Value) (o : Outlook) (v : ℕ) (k : Key) (old new : ReaderView Key Value) (found : Option A) → o.reader ≡ Some old → (old.shut ≡ true → WasShut (Ok found)) → Looked key_equal buck old new
    → option_map value found ≡ row_at (key_equal k) v new.seen → RowsAreTrue → v ≤ o.told → IfSome found (λ x. (s : Place) → Sees s o → HasValue key_equal buck (log_of s.seen) v k (value x))
look_value value o v k old new None is p l e law h = tt
look_value value o v k old new (Some x) is p l e law h = λ s sees. value_looked s o.told v k old new (sees old is (has_place old.shut (Some x) p)) l law h (value x) (sym e)
