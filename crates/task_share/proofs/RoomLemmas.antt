-- What more room in the place of a number makes of all places.
use Rattle.std.proofs.Common.{◌≡◌, ◌≤◌, ℕ, Bool, true, cond, List, [], ◌∷◌, ◌++◌, length, map, Some, is_some, refl, sym, ap, ◌∙◌, subst, arith, slice_get}
use Rattle.std.specs.Arc.{arc_value}
use Rattle.std.specs.Map.{lookup, values_of}
use Rattle.std.specs.List.{list_any}
use Rattle.std.specs.Option.{option_map}
use Rattle.std.specs.declared.sync.Arc.{Arc}
use Rattle.std.proofs.lemmas.Option.{same_Some}
use Rattle.indexmap.specs.IndexMap.{set_value_at}
use Rattle.dice_key.specs.Lawful.{IsEquality}
use Rattle.task_share.specs.Seen.{Share, takes_task, room_in, is_for, number_for, has_place}
use Rattle.task_share.specs.Listed.{share_of, shares_of, names_of, AreNumbered, IsLinked, KeepsListed, IsKept, UsesRoom, Stays, is_idle}
use Rattle.task_share.specs.declared.place.Place.{Place}
use Rattle.task_share.proofs.PlaceLemmas.{lookup_shares, IsWritten, changed_written, kept_listed, same_asks}
use Rattle.task_share.proofs.TurnLemmas.{stays_kept}
use Rattle.task_share.proofs.NumberLemmas.{entry_of_value, written_at, share_at, key_named, linked_set}

-- a place has more room, and is as before otherwise
pub record GainsRoom {K T : Type 0} (h w : Place K T) : Type 0 where
  pub task : w.task ≡ h.task
  pub live : w.live ≡ h.live
  pub name : w.name ≡ h.name
  pub promises : w.promises.keys ≡ h.promises.keys
  pub askers : w.askers.entries ≡ h.askers.entries
  pub waits : w.waits.entries ≡ h.waits.entries
  pub promise_room : h.promises.room ≤ w.promises.room
  pub asker_room : h.askers.room ≤ w.askers.room
  pub wait_room : h.waits.room ≤ w.waits.room

-- what such a place makes of all places; any of its numbers is there to be used
pub record MakesRoom {K A T : Type 0} (eq : K → K → Bool) (es fs : List (Arc K A × Place K T)) (n : ℕ) (w : Share K T) : Type 0 where
  pub linked : IsLinked eq fs
  pub listed : KeepsListed eq (shares_of es) (shares_of fs)
  pub kept : IsKept eq (shares_of es) (shares_of fs)
  pub room : (f : Share K T → ℕ) (k : K) → slice_get (names_of es) n ≡ Some k → has_place eq (shares_of es) k ≡ true → number_for (room_in f) (lookup (eq k) (shares_of fs)) ≡ f w

pub makes_room : {K A T : Type 0} (eq : K → K → Bool) → IsEquality eq → (es : List (Arc K A × Place K T)) (n : ℕ) (h w : Place K T) → IsLinked eq es → Some h ≡ slice_get (values_of es) n → GainsRoom h w → MakesRoom eq es (set_value_at es n w) n (share_of w)
makes_room {K} {A} {T} eq law es n h w linked value gains = record {
  linked = linked_set eq (λ b. eq (arc_value e.0) (arc_value b)) es fs h w linked i.set i.known (subst (AreNumbered (names_of es)) (sym gains.askers)) (subst (AreNumbered (names_of es)) (sym gains.waits));
  listed = kept_listed eq law e.0 es fs h w i (ap (option_map arc_value) gains.name) (ap is_some gains.task) (λ x. subst (λ b. b ≡ true) idle x) (λ r l. ap is_some gains.task ∙ r (sym gains.live ∙ l));
  kept = stays_kept eq law (shares_of es) (shares_of fs) (arc_value e.0) (λ p r. Stays eq p r × UsesRoom 0 0 0 p r)
      (changed_written eq law e.0 es fs h w _ i (
        record { task = gains.task; live = gains.live; asks = same_asks eq (share_of h) (share_of w) gains.promises askers; waits = λ d. ap (list_any (eq d)) waits },
        record { promises = omega (arith, gains.promise_room); askers = omega (arith, gains.asker_room); waits = omega (arith, gains.wait_room); count = (let l = ap length askers in omega arith); stays = λ t. takes ∙ t },
      )) (λ p r x. x);
  room = λ f k named placed.
      let same : arc_value e.0 ≡ k = same_Some (arc_value e.0) k (sym (key_named eq law es n e.0 h e.1) ∙ named) in
      let before = share_at eq law es n e.0 h k linked.distinct e.1 named in
      let after : lookup (eq k) (shares_of fs) ≡ Some (share_of w) = subst (λ x. lookup (eq x) (shares_of fs) ≡ Some (share_of w)) same (lookup_shares (eq (arc_value e.0)) fs ∙ ap (option_map share_of) i.here) in
      ap (number_for (room_in f)) after ∙ ap (λ b. cond b (f (share_of w)) 0) (takes ∙ (sym (ap (is_for takes_task) before) ∙ placed));
}
  where
    e : (a : Arc K A) × (slice_get es n ≡ Some (a, h))
    e = entry_of_value es n h value

    fs : List (Arc K A × Place K T)
    fs = set_value_at es n w

    i : IsWritten eq e.0 es fs h w
    i = written_at eq law es fs n e.0 h w linked.distinct e.1 refl

    askers : (share_of w).askers ≡ (share_of h).askers
    askers = ap (λ xs. map arc_value (values_of xs)) gains.askers

    waits : (share_of w).waits ≡ (share_of h).waits
    waits = ap (λ xs. map arc_value (values_of xs)) gains.waits

    idle : is_idle (share_of w) ≡ is_idle (share_of h)
    idle = rw (gains.live, gains.promises, askers) refl

    takes : takes_task (share_of w) ≡ takes_task (share_of h)
    takes = rw (gains.task, gains.name) refl

-- the number of a place that was put last
pub named_last : {K A T : Type 0} (es : List (Arc K A × Place K T)) (e : Arc K A × Place K T) → slice_get (names_of (es ++ e ∷ [])) (length es) ≡ Some (arc_value e.0)
named_last [] e = refl
named_last (f ∷ es) e = named_last es e
