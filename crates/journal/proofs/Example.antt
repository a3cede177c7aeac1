-- The reading of a small journal, by computation. Keys are numbers: key 7 is asked, key 8 is what it asks.
use Rattle.std.proofs.Common.{◌≡◌, ℕ, true, false, List, [], ◌∷◌, Some, None, refl}
use Rattle.std.specs.Prelude.{eqb}
use Rattle.journal.specs.declared.event.Told.{Told}
use Rattle.journal.specs.declared.event.Told.TheVariants.{Commit, Open, Close, Ask, Leave, Start, End, Drop}
use Rattle.journal.specs.declared.event.Reason.TheVariants.{New}
use Rattle.journal.specs.Events.{ByValue, commits_of, open_at, open_count, live_at, ended_at, decided, asked_in_epoch, is_running, is_base}

abbrev J : Type 0
J = List (Told ℕ ℕ)

-- commit, open, ask 7, start 7, start 8, end 8, newest first
abbrev begun : J
begun = End 1 8 ∷ Start 1 8 New ∷ Start 1 7 New ∷ Ask 0 1 7 ∷ Open 0 1 ∷ Commit 0 ((3, 4) ∷ []) ∷ []

-- then the ask is left and 7 is dropped
abbrev left : J
left = Drop 1 7 ∷ Leave 0 2 ∷ begun

-- then the transaction is closed, and another one opened
abbrev again : J
again = Open 1 1 ∷ Close 0 1 ∷ left

commits_begun : commits_of begun ≡ ((3, 4) ∷ []) ∷ []
commits_begun = refl

open_one : open_at begun 1 ≡ Some (record { by = 0; version = 1 })
open_one = refl

live_one : live_at begun 2 ≡ Some (record { by = 0; opened = 1; key = 7 })
live_one = refl

none_live : live_at left 2 ≡ None
none_live = refl

runs : is_running eqb begun 1 7 ≡ true
runs = refl

runs_no_more : is_running eqb left 1 7 ≡ false
runs_no_more = refl

ended_8 : decided eqb begun 1 8 ≡ Some ByValue
ended_8 = refl

not_ended_7 : decided eqb begun 1 7 ≡ None
not_ended_7 = refl

after_leave : ended_at left ≡ Some 1
after_leave = refl

after_close : ended_at (Close 0 1 ∷ left) ≡ Some 1
after_close = refl

none_open : open_count (Close 0 1 ∷ left) 1 ≡ 0
none_open = refl

-- a new epoch: nothing is decided or asked in it, but bases stay
fresh : decided eqb again 1 8 ≡ None
fresh = refl

not_asked : asked_in_epoch eqb again 1 7 ≡ false
not_asked = refl

was_asked : asked_in_epoch eqb left 1 7 ≡ true
was_asked = refl

base_stays : is_base eqb again 1 8 ≡ true
base_stays = refl

-- a second transaction beside the first begins no epoch
beside : decided eqb (Open 1 1 ∷ begun) 1 8 ≡ Some ByValue
beside = refl

closed_asks_go : live_at (Close 0 1 ∷ begun) 2 ≡ None
closed_asks_go = refl
