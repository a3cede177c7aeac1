-- What the batch that the task of a key asks comes to: what is made of each of its keys, which of them are waited for, and the answers if all have
-- values at hand.
use Rattle.std.specs.Prelude.{◌≡◌, ◌≢◌, ◌⊎◌, ◌<◌, ◌≤◌, ℕ, Bool, true, false, List, length, map, filter, Option, Some, None}
use Rattle.std.specs.Arc.{arc_value}
use Rattle.std.specs.List.{AllZip}
use Rattle.dice_key.specs.Meaning.{Meaning}
use Rattle.dice_key.specs.declared.universe.Kind.TheVariants.{Injected}
use Rattle.dice_jobs.specs.Jobs.{Assigned, answered_more}
use Rattle.task_share.specs.Asked.{WaitOf, Leads}
use Rattle.task_share.specs.Above.{AreCounted}
use Rattle.task_share.specs.Seen.{Share, is_live, asked_of, has_place, asker_room, wait_room}
use Rattle.injected.specs.Seen.{Seen, cell_at}
use Rattle.versioned_graph.specs.Entries.{Stored, entry_at}
use Rattle.versioned_graph.specs.Looks.{Matches, look}
use Rattle.core_laws.specs.Tasks.{value_in, value_of}
use Rattle.dice_tasks.specs.Helds.{Held, Ahead}
use Rattle.dice_tasks.specs.Hands.{DeskSeen, HasDeskRoom, tasks_of}
use Rattle.dice_tasks.specs.Makings.{IsMaking, IsOfKey}
use Rattle.dice_tasks.specs.declared.making.Making.{Making}
use Rattle.dice_tasks.specs.declared.making.Making.TheVariants.{Join, Match, Run, Check}
use Rattle.dice_steps.specs.Orders.{AreLastFirst}
use Rattle.dice_steps.specs.Taken.{HasNoPath, IsPathAt, IsPathOf, EndsByCycle, MakesTasks, WaitsFor, GoesOnWith}
use Rattle.dice_steps.specs.declared.plan.Met.{Met}
use Rattle.dice_steps.specs.declared.plan.Met.TheVariants as met
use Rattle.dice_steps.specs.declared.plan.Part.{Part}
use Rattle.dice_steps.specs.declared.plan.Survey.{Survey}
use Rattle.dice_steps.specs.declared.plan.Survey.TheVariants as survey
use Rattle.dice_steps.specs.declared.plan.Plan.{Plan}
use Rattle.dice_steps.specs.declared.plan.Plan.TheVariants as plan
use Rattle.lists.specs.Lists.{AreDistinct, Has}

module _ {U K V R : Type 0} where
  -- the key of a part
  abbrev pub key_in : Part U K V R → K
  key_in p = arc_value p.key

  -- the waits of the task of k for the keys that are waited for
  abbrev pub wait_for : K → Part U K V R → WaitOf K
  wait_for k p = record { key = key_in p; asker = k }

  abbrev pub waits_of : K → List (Part U K V R) → List (WaitOf K)
  waits_of k xs = map (wait_for k) (filter (λ (p : Part U K V R). p.awaited) xs)

module _ {U K V R : Type 0} (eq : K → K → Bool) (ps : List (K × Share K (Held K V))) (q : K) where
  -- whether the key is waited for, if this is made of it: a task that is at work, or comes to be
  abbrev pub is_awaited : Making U K V R → Bool
  is_awaited Join = is_live eq ps q
  is_awaited (Match event base task) = false
  is_awaited (Run event cause ready task) = true
  is_awaited (Check ready task) = true

module _ {K V : Type 0} (eq : K → K → Bool) (m : Meaning K V) (v : ℕ) (ps : List (K × Share K (Held K V))) (es : List (K × Stored K V)) where
  -- x is at hand as the value of q at v: it is the input of an injected key, what the task of q has ended with, or otherwise what its entry keeps there
  abbrev pub IsAtHand : Seen K V → K → V → Type 0
  IsAtHand s q x = ((m.kind q ≡ Injected) × (x ≡ cell_at eq m s v q)) ⊎ (value_of (tasks_of eq ps q) ≡ Some x) ⊎ ((b : ℕ) × (look m.is_transient (entry_at eq es q) v ≡ Matches x b) × (m.kind q ≢ Injected) × (value_of (tasks_of eq ps q) ≡ None))

  -- no value of q is at hand
  pub record HasNone (q : K) : Type 0 where
    pub computed : m.kind q ≢ Injected
    pub unended : value_of (tasks_of eq ps q) ≡ None
    pub unmatched : (x : V) (b : ℕ) → look m.is_transient (entry_at eq es q) v ≡ Matches x b → ⊥

module _ {U K V R : Type 0} (eq : K → K → Bool) (m : Meaning K V) (v born : ℕ) (ps : List (K × Share K (Held K V))) (es : List (K × Stored K V)) where
  -- this is to be made of a key, which is not injected, and whose task has not ended with a cycle; and whether it is waited for
  pub record IsPart (p : Part U K V R) : Type 0 where
    pub computed : m.kind (key_in p) ≢ Injected
    pub whole : HasNoPath eq ps (key_in p)
    pub making : IsMaking eq m v (key_in p) born ps es p.making
    pub own : IsOfKey v (key_in p) p.making
    pub awaited : p.awaited ≡ is_awaited eq ps (key_in p) p.making

  -- each of these is to be made of its key
  abbrev pub AreMakings : List (Part U K V R) → Type 0
  AreMakings xs = (p : Part U K V R) → Has xs p → IsPart p

  -- this is to be made of the key k
  abbrev pub IsPartFor : K → Part U K V R → Type 0
  IsPartFor k p = IsPart p × (key_in p ≡ k)

  -- these are the parts of the batch ks, which the task of k asks: one for each of its keys that is not injected; and no wait for one of them would
  -- close a cycle
  pub record AreParts (k : K) (ks : List K) (xs : List (Part U K V R)) : Type 0 where
    pub each : (p : Part U K V R) → Has xs p → IsPart p
    pub among : (p : Part U K V R) → Has xs p → Has ks (key_in p)
    pub apart : (p : Part U K V R) → Has xs p → Leads (asked_of eq ps) (key_in p) k → ⊥
    pub distinct : AreDistinct (map key_in xs)
    pub all : (q : K) → Has ks q → (m.kind q ≡ Injected) ⊎ ((p : Part U K V R) × Has xs p × (key_in p ≡ q))

  -- what the key q comes to, if the task of k asks for it: a cycle, or its part, and no wait for it would close a cycle
  abbrev pub IsMet : K → K → Met U K V R → Type 0
  IsMet k q (met.Cycle path) = IsPathAt eq ps k q (arc_value path)
  IsMet k q (met.Part p) = IsPart p × (key_in p ≡ q) × (Leads (asked_of eq ps) q k → ⊥)

  -- what a batch comes to: a cycle, or its parts, the last first
  abbrev pub IsSurvey : K → List K → Survey U K V R → Type 0
  IsSurvey k ks (survey.Cycle path) = IsPathOf eq ps m k ks (arc_value path)
  IsSurvey k ks (survey.Parts xs) = AreParts k ks xs.items × AreLastFirst ks (map key_in xs.items)

module _ {U K V R : Type 0} where
  -- a task is made that has ended with this value
  abbrev pub MakesValue : Making U K V R → V → Type 0
  MakesValue Join x = ⊥
  MakesValue (Match event base task) x = value_in task.standing ≡ Some x
  MakesValue (Run event cause ready task) x = ⊥
  MakesValue (Check ready task) x = ⊥

  -- there is a part, and it makes a task that has ended with this value
  abbrev pub IsMatchedBy : Option (Part U K V R) → V → Type 0
  IsMatchedBy None x = ⊥
  IsMatchedBy (Some p) x = MakesValue p.making x

module _ {U K V R : Type 0} (eq : K → K → Bool) (xs : List (Part U K V R)) (ps : List (K × Share K (Held K V))) where
  -- there is room in the table to make these and to wait for those that are waited for
  pub record ArePlaced : Type 0 where
    pub places : (p : Part U K V R) → Has xs p → has_place eq ps (key_in p) ≡ true
    pub askers : (p : Part U K V R) → Has xs p → p.awaited ≡ true → 0 < asker_room eq ps (key_in p)

module _ {U K V R : Type 0} (eq : K → K → Bool) (m : Meaning K V) (v owed : ℕ) (a : Assigned K V) (ks : List K) (ps : List (K × Share K (Held K V))) (d : DeskSeen K V) (es : List (K × Stored K V)) (s : Seen K V) where
  -- these can be made
  pub record IsRoomy (xs : List (Part U K V R)) : Type 0 where
    pub parts : AreParts {U = U} {R = R} eq m v (length d.events) ps es a.name.key ks xs
    pub order : AreLastFirst ks (map key_in xs)
    pub placed : ArePlaced eq xs ps
    pub desk : HasDeskRoom owed (length xs) (length xs) d

  -- all keys have values at hand, and with these the job goes on
  pub record GoesOnSo (xs : List (Part U K V R)) (n : Ahead K V) : Type 0 where
    pub roomy : IsRoomy xs
    pub known : (p : Part U K V R) → Has xs p → p.awaited ≡ false
    pub job : n.job ≡ answered_more a ks n.values
    pub count : length n.values ≡ length ks
    pub answers : AllZip (IsAtHand eq m v ps es s) ks n.values

  -- the job waits, for one key at least
  pub record WaitsSo (xs : List (Part U K V R)) (ws : List (WaitOf K)) : Type 0 where
    pub roomy : IsRoomy xs
    pub waits : ws ≡ waits_of a.name.key xs
    pub room : length ws ≤ wait_room eq ps a.name.key
    pub some : (x : WaitOf K) × Has ws x

  -- what was planned, with the memory for it
  abbrev pub IsPlan : Plan U K V R → Type 0
  IsPlan (plan.Ends owners) = IsPathOf eq ps m a.name.key ks owners.path × AreCounted (asked_of eq ps) a.name.key owners.count
  IsPlan (plan.GoesOn xs n) = GoesOnSo xs.items n
  IsPlan (plan.Waits xs ws) = WaitsSo xs.items ws.items

  -- what is done if this was planned, from the tasks ps, the desk d, the entries es and the cells s
  abbrev pub IsPlanDone : Plan U K V R → List (K × Share K (Held K V)) → DeskSeen K V → List (K × Stored K V) → Type 0
  IsPlanDone (plan.Ends owners) qs e fs = EndsByCycle eq m v a ks s ps d es qs e fs
  IsPlanDone (plan.GoesOn xs n) qs e fs = MakesTasks eq m v a ks s ps d es qs e fs × GoesOnWith eq m v a ks s ps d es qs e fs
  IsPlanDone (plan.Waits xs ws) qs e fs = MakesTasks eq m v a ks s ps d es qs e fs × WaitsFor eq m v a ks s ps d es qs e fs

-- P holds if the plan is an end
abbrev pub IfEnds : {U K V R : Type 0} → Plan U K V R → Type 0 → Type 0
IfEnds (plan.Ends owners) P = P
IfEnds (plan.GoesOn xs n) P = Unit {0}
IfEnds (plan.Waits xs ws) P = Unit {0}
