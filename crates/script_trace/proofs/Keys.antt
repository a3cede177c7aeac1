-- Each key that a lawful journal of a script tells is spelled.
use Rattle.std.proofs.Common.{◌≡◌, inl, inr, ℕ, Bool, true, false, cond, ◌&&◌, eqb, List, [], ◌∷◌, length, reverse, Some, None, sym, ap, subst}
use Rattle.std.specs.List.{AllByRecursion}
use Rattle.std.proofs.lemmas.Bool.{and_parts, or_cases}
use Rattle.std.proofs.lemmas.Option.{same_Some, none-some}
use Rattle.std.proofs.lemmas.List.{reverse-reverse}
use Rattle.journal.specs.declared.event.Told.{Told}
use Rattle.journal.specs.declared.event.Told.TheVariants.{Commit, Open, Close, Ask, Leave, Start, Keep, End, Cyclic, Drop, Lost}
use Rattle.journal.specs.declared.event.Reason.{Reason}
use Rattle.journal.specs.declared.event.Reason.TheVariants.{New, Transient, Differs}
use Rattle.journal.specs.Events.{Asking, is_for, begins, commits_of, opened_at, live_at, asked_in_epoch}
use Rattle.journal.specs.Law.{IsAllowed, IsLawfulBack, IsWanted, IsTrueCause}
use Rattle.dice_key.specs.Same.{same_text}
use Rattle.script.specs.declared.line.Line.{Line}
use Rattle.script.specs.Scripts.{IsScript}
use Rattle.action_digest.specs.declared.key.Key.{Key}
use Rattle.action_digest.specs.declared.key.Key.TheVariants as key
use Rattle.action_digest.specs.declared.value.Value.{Value}
use Rattle.action_digest.specs.Buck.{buck}
use Rattle.action_digest.specs.Same.{key_equal}
use Rattle.lists.proofs.Each.{all_end}
use Rattle.script_trace.specs.Events.{Events, IsJournalOf}
use Rattle.script_trace.proofs.Spelled.{IsSpelled, ReasonIsSpelled, TellsSpelled, AreSpelled}
use Rattle.script_trace.proofs.Numbers.{back}
use Rattle.script_trace.proofs.Sources.{PairFits}
use Rattle.script_trace.proofs.Chains.{reached_spelled, differs_spelled}
use Rattle.script_trace.proofs.Lines.{script_fits}
use Rattle.script_trace.proofs.Owned.{OwnFits, OwnFit, journal_fits}

keys_equal : (x y : Key) → key_equal x y ≡ true → x ≡ y
keys_equal (key.Source p) (key.Source q) h = ap key.Source (same_text p q h)
keys_equal (key.Package p) (key.Package q) h = ap key.Package (same_text p q h)
keys_equal (key.Rule p) (key.Rule q) h = ap key.Rule (same_text p q h)
keys_equal (key.Action p) (key.Action q) h = ap key.Action (same_text p q h)
keys_equal (key.Digest p) (key.Digest q) h = ap key.Digest (same_text p q h)
keys_equal x y h = cc

commits_fit : (R : Events) → OwnFit R → AllByRecursion (AllByRecursion PairFits) (commits_of R)
commits_fit [] f = tt
commits_fit (Commit by c ∷ R) f = all_end (AllByRecursion PairFits) (commits_of R) c (commits_fit R f.1) f.0
commits_fit (_ ∷ R) f = commits_fit R f.1

live_spelled : (R : Events) (i : ℕ) (a : Asking Key) → OwnFit R → live_at R i ≡ Some a → IsSpelled a.key
live_spelled [] i a f e = absurd (none-some a e)
live_spelled (Ask by t k ∷ R) i a f e = by_index (eqb (length R) i) e (λ h. live_spelled R i a f.1 h)
  where
    by_index : (b : Bool) → cond b (Some (record { by = by; opened = t; key = k })) (live_at R i) ≡ Some a → (live_at R i ≡ Some a → IsSpelled a.key) → IsSpelled a.key
    by_index true q again = subst (λ (x : Asking Key). IsSpelled x.key) (same_Some _ _ q) f.0
    by_index false q again = again q
live_spelled (Leave by l ∷ R) i a f e = by_index (eqb l i) e (λ h. live_spelled R i a f.1 h)
  where
    by_index : (b : Bool) → cond b None (live_at R i) ≡ Some a → (live_at R i ≡ Some a → IsSpelled a.key) → IsSpelled a.key
    by_index true q again = absurd (none-some a q)
    by_index false q again = again q
live_spelled (Close by t ∷ R) i a f e = by_index (is_for (λ a. eqb t a.opened) (live_at R i)) e (λ h. live_spelled R i a f.1 h)
  where
    by_index : (b : Bool) → cond b None (live_at R i) ≡ Some a → (live_at R i ≡ Some a → IsSpelled a.key) → IsSpelled a.key
    by_index true q again = absurd (none-some a q)
    by_index false q again = again q
live_spelled (_ ∷ R) i a f e = live_spelled R i a f.1 e

asked_spelled : (R : Events) (v : ℕ) (k : Key) → OwnFit R → asked_in_epoch key_equal R v k ≡ true → IsSpelled k
asked_spelled [] v k f e = cc
asked_spelled (Open by w ∷ R) v k f e = by_epoch (begins R w v) e (λ h. asked_spelled R v k f.1 h)
  where
    by_epoch : (b : Bool) → cond b false (asked_in_epoch key_equal R v k) ≡ true → (asked_in_epoch key_equal R v k ≡ true → IsSpelled k) → IsSpelled k
    by_epoch true q again = cc
    by_epoch false q again = again q
asked_spelled (Ask by t q ∷ R) v k f e = elim (or_cases (opened_at R v t && key_equal k q) (asked_in_epoch key_equal R v k) e) as (λ _. IsSpelled k) [
  | inl h ↦ subst IsSpelled (sym (keys_equal k q (and_parts (opened_at R v t) (key_equal k q) h).1)) f.0
  | inr h ↦ asked_spelled R v k f.1 h
]
asked_spelled (_ ∷ R) v k f e = asked_spelled R v k f.1 e

module _ (R : Events) (f : OwnFit R) where
  wanted_spelled : (v : ℕ) (k : Key) → IsWanted key_equal buck R v k → IsSpelled k
  wanted_spelled v k w = reached_spelled (commits_of R) (commits_fit R f) v w.asking.key k (live_spelled R w.ask w.asking f w.live) w.reaches

  cause_spelled : (v : ℕ) (k : Key) (c : Reason Key) → IsSpelled k → IsTrueCause key_equal buck R v k c → ReasonIsSpelled c
  cause_spelled v k New h t = tt
  cause_spelled v k (Transient b) h t = tt
  cause_spelled v k (Differs b d) h t = differs_spelled (commits_of R) (commits_fit R f) t.1 v k d h t.3

  pairs_spelled : (c : List (Key × Value)) → AllByRecursion PairFits c → AllByRecursion (λ (p : Key × Value). IsSpelled p.0) c
  pairs_spelled [] a = tt
  pairs_spelled (p ∷ c) a = (a.0.0, pairs_spelled c a.1)

  event_spelled : (e : Told Key Value) → OwnFits e → IsAllowed key_equal buck R e → TellsSpelled e
  event_spelled (Commit by c) o a = pairs_spelled c o
  event_spelled (Open by v) o a = tt
  event_spelled (Close by t) o a = tt
  event_spelled (Ask by t k) o a = o
  event_spelled (Leave by i) o a = tt
  event_spelled (Start v k c) o a = let h = wanted_spelled v k a.0 in (h, cause_spelled v k c h a.2)
  event_spelled (Keep v k b) o a = wanted_spelled v k a.0
  event_spelled (End v k) o a = wanted_spelled v k a.0
  event_spelled (Cyclic v k) o a = wanted_spelled v k a.0
  event_spelled (Drop v k) o a = reached_spelled (commits_of R) (commits_fit R f) v a.0.once k (asked_spelled R v a.0.once f a.0.asked) a.0.reaches
  event_spelled (Lost v k) o a = wanted_spelled v k a.0

all_spelled : (R : Events) → OwnFit R → IsLawfulBack key_equal buck R → AreSpelled R
all_spelled [] f l = tt
all_spelled (e ∷ R) f l = (event_spelled R f.1 e f.0 l.0, all_spelled R f.1 l.1)

pub journal_spelled : (script : List ℕ) (ls : List Line) (J : Events) → IsScript script ls → IsJournalOf ls J → AreSpelled J
journal_spelled script ls J s j = subst AreSpelled (reverse-reverse J) (back TellsSpelled (reverse J) (all_spelled (reverse J) (back OwnFits J (journal_fits ls J (script_fits script ls s) j)) j.lawful))
