use Rattle.std.proofs.Common.{◌≡◌, ◌++◌, ◌∷◌, [], length, is_some, true, map, Some, None, sym, ap, ◌∙◌, subst, arith, slice_get}
use Rattle.std.specs.Arc.{arc_value}
use Rattle.std.specs.Map.{lookup, keys_of}
use Rattle.std.specs.List.{IsDistinct}
use Rattle.std.specs.Option.{option_map}
use Rattle.std.specs.Vec.{vec_capacity}
use Rattle.task_share.specs.Seen.{has_place}
use Rattle.task_share.specs.Listed.{share_of, entry_of, shares_of, names_of, IsLinked, IsKept, IsListed}
use Rattle.task_share.proofs.PlaceLemmas.{lookup_shares}
use Rattle.std.proofs.lemmas.List.{length-map}
use Rattle.task_share.proofs.NumberLemmas.{found_number, linked_more, entry_new}
use Rattle.task_share.proofs.RoomLemmas.{named_last}
use Rattle.task_share.proofs.TurnLemmas.{kept_itself}
use Rattle.task_share.proofs.IdleLemmas.{room_grown, vacant_placed, vacant_listed, vacant_kept, put_at, put_more, put_count, put_live}
use Rattle.task_share.proofs.room.reserve_place.Goals as goal
use Rattle.lists.proofs.Options.{is_missing}

pub reserve_there-requires-clause-named : goal.reserve_there-requires-clause-named
reserve_there-requires-clause-named g c =
    found_number g.K.PartialEq.eq c.requires.equality c.args.places.now.entries c.args.key.now c.in-Some.at c.in-Some.ensures.index

pub returns-in_err-reserve_there-clause-listed : goal.returns-in_err-reserve_there-clause-listed
returns-in_err-reserve_there-clause-listed g c =
    c.reserve_there.ensures.listed (map arc_value c.args.candidates.now.items) (vec_capacity c.args.candidates.now) c.requires.listed

pub returns-in-Some-clause-listed : goal.returns-in-Some-clause-listed
returns-in-Some-clause-listed g c =
    c.reserve_there.ensures.listed (map arc_value c.args.candidates.now.items) (vec_capacity c.args.candidates.now) c.requires.listed

pub returns-in-Some-clause-named : goal.returns-in-Some-clause-named
returns-in-Some-clause-named g c =
    ap (λ ks. slice_get ks c.in-Some.at) c.reserve_there.ensures.names ∙ found_number g.K.PartialEq.eq c.requires.equality c.args.places.now.entries c.args.key.now c.in-Some.at c.in-Some.ensures.index

pub returns-in_err-reserve-clause-listed : goal.returns-in_err-reserve-clause-listed
returns-in_err-reserve-clause-listed g c =
    let eq = g.K.PartialEq.eq in
    let ps = shares_of c.args.places.now.entries in
    let l : IsListed eq ps (map arc_value c.reserve.new.self.items) (vec_capacity c.reserve.new.self) = subst (λ cs. IsListed eq ps (map arc_value cs) (vec_capacity c.reserve.new.self)) (sym c.reserve.ensures.items) (room_grown eq c.requires.equality ps (map arc_value c.args.candidates.now.items) (vec_capacity c.args.candidates.now) (vec_capacity c.reserve.new.self) c.reserve.ensures.capacity c.requires.listed) in
    l

pub returns-in_err-reserve-clause-kept : goal.returns-in_err-reserve-clause-kept
returns-in_err-reserve-clause-kept g c = kept_itself g.K.PartialEq.eq (shares_of c.args.places.now.entries)

pub returns-in_err-name-clause-listed : goal.returns-in_err-name-clause-listed
returns-in_err-name-clause-listed g c =
    let eq = g.K.PartialEq.eq in
    let ps = shares_of c.args.places.now.entries in
    let l : IsListed eq ps (map arc_value c.reserve.new.self.items) (vec_capacity c.reserve.new.self) = subst (λ cs. IsListed eq ps (map arc_value cs) (vec_capacity c.reserve.new.self)) (sym c.reserve.ensures.items) (room_grown eq c.requires.equality ps (map arc_value c.args.candidates.now.items) (vec_capacity c.args.candidates.now) (vec_capacity c.reserve.new.self) c.reserve.ensures.capacity c.requires.listed) in
    l

pub returns-in_err-name-clause-kept : goal.returns-in_err-name-clause-kept
returns-in_err-name-clause-kept g c = kept_itself g.K.PartialEq.eq (shares_of c.args.places.now.entries)

pub returns-in_err-held-clause-listed : goal.returns-in_err-held-clause-listed
returns-in_err-held-clause-listed g c =
    let eq = g.K.PartialEq.eq in
    let ps = shares_of c.args.places.now.entries in
    let l : IsListed eq ps (map arc_value c.reserve.new.self.items) (vec_capacity c.reserve.new.self) = subst (λ cs. IsListed eq ps (map arc_value cs) (vec_capacity c.reserve.new.self)) (sym c.reserve.ensures.items) (room_grown eq c.requires.equality ps (map arc_value c.args.candidates.now.items) (vec_capacity c.args.candidates.now) (vec_capacity c.reserve.new.self) c.reserve.ensures.capacity c.requires.listed) in
    l

pub returns-in_err-held-clause-kept : goal.returns-in_err-held-clause-kept
returns-in_err-held-clause-kept g c = kept_itself g.K.PartialEq.eq (shares_of c.args.places.now.entries)

pub returns-in_err-insert-clause-listed : goal.returns-in_err-insert-clause-listed
returns-in_err-insert-clause-listed g c =
    let eq = g.K.PartialEq.eq in
    let ps = shares_of c.args.places.now.entries in
    let l : IsListed eq ps (map arc_value c.reserve.new.self.items) (vec_capacity c.reserve.new.self) = subst (λ cs. IsListed eq ps (map arc_value cs) (vec_capacity c.reserve.new.self)) (sym c.reserve.ensures.items) (room_grown eq c.requires.equality ps (map arc_value c.args.candidates.now.items) (vec_capacity c.args.candidates.now) (vec_capacity c.reserve.new.self) c.reserve.ensures.capacity c.requires.listed) in
    subst (λ es. IsListed eq (shares_of es) (map arc_value c.reserve.new.self.items) (vec_capacity c.reserve.new.self)) (sym c.in_err-insert.ensures.err) l

pub returns-in_err-insert-clause-kept : goal.returns-in_err-insert-clause-kept
returns-in_err-insert-clause-kept g c = subst (λ es. IsKept g.K.PartialEq.eq (shares_of c.args.places.now.entries) (shares_of es)) (sym c.in_err-insert.ensures.err) (kept_itself g.K.PartialEq.eq (shares_of c.args.places.now.entries))

pub returns : goal.returns
returns g c =
    let eq = g.K.PartialEq.eq in
    let ps = shares_of c.args.places.now.entries in
    let l : IsListed eq ps (map arc_value c.reserve.new.self.items) (vec_capacity c.reserve.new.self) = subst (λ cs. IsListed eq ps (map arc_value cs) (vec_capacity c.reserve.new.self)) (sym c.reserve.ensures.items) (room_grown eq c.requires.equality ps (map arc_value c.args.candidates.now.items) (vec_capacity c.args.candidates.now) (vec_capacity c.reserve.new.self) c.reserve.ensures.capacity c.requires.listed) in
    let law = c.requires.equality in
    let fs = c.insert.new.self.entries in
    let key = c.in_ok-held.held in
    let same : arc_value key ≡ arc_value c.args.key.now = c.in_ok-held.ensures in
    let v = c.vacant.result in
    let missing : lookup (λ a. eq (arc_value c.args.key.now) (arc_value a)) c.args.places.now.entries ≡ None = is_missing _ (sym c.get_index_of.ensures.found ∙ ap is_some c.in_default.is) in
    let none : lookup (eq (arc_value key)) ps ≡ None = subst (λ x. lookup (eq x) ps ≡ None) (sym same) (lookup_shares (eq (arc_value c.args.key.now)) c.args.places.now.entries ∙ ap (option_map share_of) missing) in
    let put = put_at eq law key v c.args.places.now.entries fs (λ q. c.in_ok-insert.ensures.updates.0 q) in
    let vac = c.vacant.ensures.vacant in
    let named : (share_of v).name ≡ Some (arc_value key) = ap (option_map arc_value) c.vacant.ensures.name ∙ ap Some (c.in_ok-name.ensures ∙ sym same) in
    let free : lookup (λ a. eq (arc_value key) (arc_value a)) c.args.places.now.entries ≡ None = subst (λ x. lookup (λ a. eq x (arc_value a)) c.args.places.now.entries ≡ None) (sym same) missing in
    let grown : fs ≡ c.args.places.now.entries ++ (key, v) ∷ [] = c.in_ok-insert.ensures.entries ∙ entry_new (λ a b. eq (arc_value a) (arc_value b)) c.args.places.now.entries key v free in
    let more = put_more eq law key v c.args.places.now.entries fs grown in
    record {
      linked = subst (IsLinked eq) (sym grown) (linked_more eq c.args.places.now.entries (key, v) c.requires.linked (subst (λ xs. IsDistinct (λ a b. eq (arc_value a) (arc_value b)) (keys_of xs)) grown c.insert.ensures.unique) c.vacant.ensures.askers c.vacant.ensures.waits);
      listed = vacant_listed eq law ps (shares_of fs) (arc_value key) (share_of v) none put vac named (map arc_value c.reserve.new.self.items) (vec_capacity c.reserve.new.self) (vec_capacity c.reserve.new.self) l more
          (let a = c.in_ok-reserve.ensures.ok in let b = c.len-at.ensures.len in let d : length ps ≡ length c.args.places.now.entries = length-map c.args.places.now.entries entry_of in let e : length (map arc_value c.reserve.new.self.items) ≡ length c.reserve.new.self.items = length-map c.reserve.new.self.items arc_value in let f = c.reserve.ensures.len in omega arith);
      kept = vacant_kept eq law ps (shares_of fs) (arc_value key) (share_of v) none put vac named (put_count eq law key v c.args.places.now.entries fs grown vac.askers) (put_live eq law key v c.args.places.now.entries fs grown vac.live);
      named = ap (λ xs. slice_get (names_of xs) c.len-at.result) grown ∙ (subst (λ n. slice_get (names_of (c.args.places.now.entries ++ (key, v) ∷ [])) n ≡ Some (arc_value key)) (let b = c.len-at.ensures.len in omega arith) (named_last c.args.places.now.entries (key, v)) ∙ ap Some same);
      ok = subst (λ x. has_place eq (shares_of fs) x ≡ true) same (vacant_placed eq law ps (shares_of fs) (arc_value key) (share_of v) none put vac named);
    }

pub returns-in_err-insert-clause-linked : goal.returns-in_err-insert-clause-linked
returns-in_err-insert-clause-linked g c =
    subst (IsLinked g.K.PartialEq.eq) (sym c.in_err-insert.ensures.err) c.requires.linked
