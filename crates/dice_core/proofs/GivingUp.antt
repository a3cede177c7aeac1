-- What is told when tasks are given up together, and the cascade after them.
use Rattle.std.specs.List.{AllByRecursion}
use Rattle.std.proofs.Common.{◌≡◌, ℕ, Bool, List, ◌++◌, map, Option, ap, ◌∙◌, append_assoc}
use Rattle.dice_key.specs.Meaning.{Meaning}
use Rattle.task_share.specs.Seen.{Share}
use Rattle.journal.specs.declared.event.Told.{Told}
use Rattle.journal.specs.declared.event.Told.TheVariants.{Drop}
use Rattle.core_laws.specs.Tasks.{Outcome}
use Rattle.dice_tasks.specs.Endings.{GivesUpAll, told_end}
use Rattle.dice_tasks.specs.Hands.{DeskSeen}
use Rattle.dice_tasks.specs.Helds.{Held}
use Rattle.dice_core.specs.Cores.{WorksOn}
use Rattle.dice_core.proofs.EventLemmas.{GivesUp, all_tell, all_given_up, all_drops, all_both, all_works}

module _ {K V : Type 0} (eq : K → K → Bool) (m : Meaning K V) (v : ℕ) (path : Option (List K)) (k : K) where
  module _ (ps qs : List (K × Share K (Held K V))) (d e : DeskSeen K V) (g : GivesUpAll eq v path k ps qs d e) where
    abbrev events : List (Told K V)
    events = map (λ (p : K × Outcome K V). told_end v p.0 p.1) g.ends ++ map (Drop v) g.drops

    told : e.events ≡ d.events ++ events
    told = g.dropped.events ∙ (ap (λ X. X ++ map (Drop v) g.drops) g.ended.events ∙ append_assoc d.events (map (λ (p : K × Outcome K V). told_end v p.0 p.1) g.ends) (map (Drop v) g.drops))

    all : AllByRecursion (GivesUp v) events
    all = all_both v (GivesUp v) (map (λ (p : K × Outcome K V). told_end v p.0 p.1) g.ends) (map (Drop v) g.drops) (all_given_up v (map (λ (p : K × Outcome K V). told_end v p.0 p.1) g.ends) (all_tell v path g.ends g.ended.comes)) (all_drops V v g.drops)

    -- what is added are events of tasks
    pub given_up_works : WorksOn v d.events e.events
    given_up_works = (events, told, all_works v events all)
