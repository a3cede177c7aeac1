-- Tests joined by "or" and "and".
use Rattle.std.proofs.Common.{◌≡◌, Bool, true, false, ◌&&◌, ◌||◌, refl}

pub same_tests : (a b : Bool) → (a ≡ true → b ≡ true) → (b ≡ true → a ≡ true) → a ≡ b
same_tests true true f g = refl
same_tests true false f g = cc (f refl)
same_tests false true f g = cc (g refl)
same_tests false false f g = refl

-- one test of a list on the left, or on the right, goes to what is done
pub or_left_done : (o r a b : Bool) → ((o || r) || (a || b)) ≡ (o || ((r || a) || b))
or_left_done true r a b = refl
or_left_done false true a b = refl
or_left_done false false a b = refl

pub or_right_done : (o r a b : Bool) → ((o || r) || (a || b)) ≡ (o || (a || (r || b)))
or_right_done true r a b = refl
or_right_done false true true b = refl
or_right_done false true false b = refl
or_right_done false false a b = refl

-- what the first of two lists has in common with the other is done, if it meets only the first
-- there
pub and_left_done : (o r a s b : Bool) → (r ≡ true → b ≡ true → ⊥) → ((o || (r && s)) || (a && (s || b))) ≡ (o || ((r || a) && (s || b)))
and_left_done true r a s b h = refl
and_left_done false true true true b h = refl
and_left_done false true true false b h = refl
and_left_done false true false true b h = refl
and_left_done false true false false true h = absurd (h refl refl)
and_left_done false true false false false h = refl
and_left_done false false a s b h = refl

pub and_right_done : (o r a s b : Bool) → (s ≡ true → a ≡ true → ⊥) → ((o || (r && s)) || ((r || a) && b)) ≡ (o || ((r || a) && (s || b)))
and_right_done true r a s b h = refl
and_right_done false true a true b h = refl
and_right_done false true a false b h = refl
and_right_done false false true true b h = absurd (h refl refl)
and_right_done false false true false b h = refl
and_right_done false false false s b h = refl
