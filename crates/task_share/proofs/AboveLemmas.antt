-- Those who ask for a key, by number.
use Rattle.std.proofs.Common.{◌≡◌, ℕ, Bool, List, [], map, Some, None, ap, ◌∙◌, slice_get}
use Rattle.std.specs.Arc.{arc_value}
use Rattle.std.specs.Map.{keys_of}
use Rattle.std.specs.List.{IsDistinct}
use Rattle.std.specs.Option.{option_map}
use Rattle.std.specs.declared.sync.Arc.{Arc}
use Rattle.std.proofs.lemmas.Option.{slice_get-map}
use Rattle.dice_key.specs.Lawful.{IsEquality}
use Rattle.task_share.specs.Above.{askers_by}
use Rattle.task_share.specs.Listed.{entry_of, shares_of, IsLinked}
use Rattle.task_share.specs.Numbers.{number_of}
use Rattle.task_share.specs.Seen.{Share, list_for}
use Rattle.task_share.specs.declared.place.Place.{Place}
use Rattle.task_share.proofs.NumberLemmas.{has_at, numbers_named}

module _ {K A T : Type 0} (eq : K → K → Bool) (law : IsEquality eq) (es : List (Arc K A × Place K T)) (distinct : IsDistinct (λ a b. eq (arc_value a) (arc_value b)) (keys_of es)) where
  pub askers_numbered : IsLinked eq es → (n : ℕ) (a : Arc K A) (h : Place K T) → slice_get es n ≡ Some (a, h) → askers_by eq (shares_of es) n ≡ keys_of h.askers.entries
  askers_numbered l n a h g = ap (list_for (λ (p : K × Share K T). map (number_of eq (shares_of es)) p.1.askers)) (slice_get-map entry_of es n ∙ ap (option_map entry_of) g) ∙ numbers_named eq law es distinct h.askers.entries (l.askers (a, h) (has_at es n (a, h) g))

  pub no_askers : (n : ℕ) → slice_get es n ≡ None → askers_by eq (shares_of es) n ≡ []
  no_askers n g = ap (list_for (λ (p : K × Share K T). map (number_of eq (shares_of es)) p.1.askers)) (slice_get-map entry_of es n ∙ ap (option_map entry_of) g)
