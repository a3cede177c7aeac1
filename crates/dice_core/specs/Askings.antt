-- Asks that come and go, and transactions that close, with one version in hand.
use Rattle.std.specs.Prelude.{◌≡◌, ℕ, Bool, true, cond, List, ◌++◌, ◌+◌, map, Some, None}
use Rattle.std.specs.List.{list_any}
use Rattle.dice_key.specs.Meaning.{Meaning}
use Rattle.task_share.specs.Seen.{Share, task_at, is_live}
use Rattle.injected.specs.Seen.{Seen}
use Rattle.journal.specs.declared.event.Told.{Told}
use Rattle.journal.specs.declared.event.Told.TheVariants.{Drop}
use Rattle.journal.specs.Events.{Asking, opened_at, live_at}
use Rattle.versioned_graph.specs.Entries.{Stored}
use Rattle.core_laws.specs.Desk.{World}
use Rattle.dice_tasks.specs.Helds.{Held}
use Rattle.dice_tasks.specs.Hands.{DeskSeen}
use Rattle.dice_steps.specs.AtHand.{AtHand}
use Rattle.lists.specs.Lists.{AreDistinct, Has}

module _ {K V : Type 0} (eq : K → K → Bool) (m : Meaning K V) where
  -- a version may be in hand
  abbrev pub MayBeAtHand : ℕ → ℕ → List (K × Share K (Held K V)) → DeskSeen K V → Type 0
  MayBeAtHand v owed ps d = (w : World K V) × (es : List (K × Stored K V)) × (s : Seen K V) × AtHand eq m v w owed ps d es s

  -- what was in hand is so still, whatever else there is; n fewer events are owed
  abbrev pub StaysAtHand : ℕ → ℕ → List (K × Share K (Held K V)) → DeskSeen K V → List (K × Share K (Held K V)) → DeskSeen K V → Type 0
  StaysAtHand v n ps d qs e = (w : World K V) (owed : ℕ) (es : List (K × Stored K V)) (s : Seen K V) → AtHand eq m v w (owed + n) ps d es s → AtHand eq m v w owed qs e es s

module _ {K V : Type 0} (R : List (Told K V)) where
  -- the ask i of this key, by this seat, is live at v
  pub record IsAskAt (v by i : ℕ) (k : K) : Type 0 where
    pub asking : Asking K
    pub live : live_at R i ≡ Some asking
    pub at : opened_at R v asking.opened ≡ true
    pub his : asking.by ≡ by
    pub key : asking.key ≡ k

module _ {K V : Type 0} (eq : K → K → Bool) where
  -- these events, and then the drops of these tasks, each once, which were at work; all other tasks are as before
  pub record DropsAfter (v : ℕ) (before : List (Told K V)) (ks : List K) (ps qs : List (K × Share K (Held K V))) (d e : DeskSeen K V) : Type 0 where
    pub events : e.events ≡ d.events ++ (before ++ map (Drop v) ks)
    pub distinct : AreDistinct ks
    pub at_work : (q : K) → Has ks q → is_live eq ps q ≡ true
    pub tasks : (q : K) → task_at eq qs q ≡ cond (list_any (eq q) ks) None (task_at eq ps q)
