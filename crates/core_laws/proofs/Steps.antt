-- A step at the version that is worked on, over all versions: with an event or without one, of a task or of asks alone.
use Rattle.std.proofs.Common.{◌≡◌, ◌≤◌, ◌+◌, ◌*◌, ℕ, Bool, false, eqb, List, ◌∷◌, Option, refl, sym, subst, arith}
use Rattle.std.proofs.lemmas.Bool.{eqb-false, ne_eqb, eq-eqb}
use Rattle.dice_key.specs.Lawful.{IsEquality, IsLawful}
use Rattle.dice_key.specs.Meaning.{Meaning}
use Rattle.task_share.specs.Asked.{Asked}
use Rattle.journal.specs.declared.event.Told.{Told}
use Rattle.journal.specs.Law.{IsAllowed, IsLawfulBack}
use Rattle.core_laws.specs.Tasks.{Task, is_going}
use Rattle.core_laws.specs.Stands.{VersionStands, IsAtRest}
use Rattle.core_laws.specs.Changes.{Puts}
use Rattle.core_laws.specs.Desk.{World, Desk, DeskTurns, DeskStays, AreAll, IsCount, Stand, with_version, is_ready, is_out}
use Rattle.core_laws.proofs.Elsewhere.{IsElsewhere, elsewhere_rests}
use Rattle.core_laws.proofs.Turns.{steps_on}

-- other versions are other both ways
pub other_version : (v n : ℕ) → eqb n v ≡ false → eqb v n ≡ false
other_version v n f = ne_eqb v n (λ h. eqb-false n v f (sym h))

module _ {K V : Type 0} (eq : K → K → Bool) (equality : IsEquality eq) (m : Meaning K V) (law : IsLawful m) (R : List (Told K V)) (v : ℕ) where
  module _ (w : World K V) (W : List K) (s u : Asked K) (ts us : K → Option (Task K V)) (k : K) (d e : Desk K) (owed owed2 : ℕ) (o : Option (Task K V)) (st : Stand eq m R v W (with_version v s ts w) d owed) (put : Puts eq k o ts us)
      (turns : DeskTurns v k (ts k) o d e) (room : 2 * e.live + owed2 ≤ e.spare) where
    -- an event of a task at v: it is allowed, and all stands over the longer journal
    pub event_on : (X : List K) (x : Told K V) → ((n : ℕ) → eqb v n ≡ false → IsElsewhere n x) → IsAllowed eq m R x → VersionStands eq m (x ∷ R) v X u us → Stand eq m (x ∷ R) v X (with_version v u us w) e owed2
    event_on X x there a h = steps_on eq equality v k o w s u ts us put m R (x ∷ R) W X d e owed owed2 st (a, st.lawful) h (λ n b bs f r. elsewhere_rests eq equality m law R n b bs x r (there n (other_version v n f))) turns room

    -- a task of v changes, and nothing is told
    pub task_on : (X : List K) → VersionStands eq m R v X u us → Stand eq m R v X (with_version v u us w) e owed2
    task_on X h = steps_on eq equality v k o w s u ts us put m R R W X d e owed owed2 st st.lawful h (λ n b bs f r. r) turns room

  -- asks at v change, and no task does
  pub asks_on : (w : World K V) (W X : List K) (s u : Asked K) (ts : K → Option (Task K V)) (d e : Desk K) (owed owed2 : ℕ) (S : List (Told K V)) → Stand eq m R v W (with_version v s ts w) d owed → IsLawfulBack eq m S → VersionStands eq m S v X u ts
      → ((n : ℕ) (a : Asked K) (bs : K → Option (Task K V)) → eqb n v ≡ false → IsAtRest eq m R n a bs → IsAtRest eq m S n a bs) → DeskStays d e → 2 * e.live + owed2 ≤ e.spare
      → Stand eq m S v X (with_version v u ts w) e owed2
  asks_on w W X s u ts d e owed owed2 S st l h rest stays room = record {
    lawful = l;
    here = rw (eq-eqb v v refl) h;
    there = λ n f. rw f (rest n (w.asked n) (w.tasks n) f (rw f at (st.there n f)));
    ready = subst (AreAll (λ (p : ℕ × K). is_ready ((with_version v s ts w).tasks p.0 p.1))) (sym stays.ready) st.ready;
    out = subst (IsCount (λ (p : ℕ × K). is_out ((with_version v s ts w).tasks p.0 p.1))) (sym stays.out) st.out;
    live = subst (IsCount (λ (p : ℕ × K). is_going ((with_version v s ts w).tasks p.0 p.1))) (sym stays.live) st.live;
    room = room;
  }

  -- less is owed
  pub owes_less : (w : World K V) (W : List K) (d : Desk K) (owed owed2 : ℕ) → Stand eq m R v W w d owed → owed2 ≤ owed → Stand eq m R v W w d owed2
  owes_less w W d owed owed2 st l = record { lawful = st.lawful; here = st.here; there = st.there; ready = st.ready; out = st.out; live = st.live; room = (let r = st.room in omega arith) }
