-- The transactions that are open at a script's end are closed; and what the journal then says.
use Rattle.std.proofs.Common.{◌≡◌, ◌⊎◌, inl, inr, ℕ, Bool, true, false, cond, List, [], ◌∷◌, ◌++◌, Option, Some, None, refl, sym, ap, ◌∙◌, subst, append-nil, append_assoc}
use Rattle.std.specs.Str.{bytes_eq}
use Rattle.dice_engine.specs.Seats.{EngineId}
use Rattle.journal.specs.declared.event.Told.{Told}
use Rattle.journal.specs.declared.event.Told.TheVariants as told
use Rattle.journal.specs.Tell.{event_by}
use Rattle.turnstile.specs.Events.{events_by}
use Rattle.dice_engine.proofs.Indices.{from_by}
use Rattle.script.specs.declared.line.Line.{Line}
use Rattle.script.specs.declared.line.Line.TheVariants.{Put, Drop, Commit, Open, Ask, Action, Wait, Cancel, Close}
use Rattle.script.specs.Past.{Past, Table, with_entry, nothing, after, after_all, is_cancelled}
use Rattle.script.specs.Plan.{Planned, plan_of}
use Rattle.action_digest.specs.declared.key.Key.{Key}
use Rattle.action_digest.specs.declared.value.Value.{Value}
use Rattle.script_trace.specs.Output.{key_of}
use Rattle.dice_run.specs.Seats.{Place, IsOurs, Rests}
use Rattle.script_trace.specs.Events.{Events, Indices, AddsEnd, AddsEnds, IsDecided, IsJournalOf}
use Rattle.dice_run.specs.Driving.{transaction_of, Steps, DidClose}
use Rattle.dice_run.specs.Looking.{WasDecided}
use Rattle.dice_run.specs.Recording.{IsUnpolled, IsRecorded, OpenedIn}
use Rattle.dice_run.specs.Driven.{Settled, Closing, ClosesOpen}
use Rattle.dice_run.specs.declared.driver.Driver.{Driver}
use Rattle.dice_run.proofs.Steps.{own_name, by_name, close_stands}
use Rattle.dice_run.proofs.Ending.{closed_fate}
use Rattle.dice_run.proofs.Seating.{begins_on, begins_itself}
use Rattle.dice_run.proofs.Recorded.{decided_on, knows_closed}
use Rattle.dice_run.proofs.Deciding.{decided_at_close}
use Rattle.lists.specs.Lists.{Has}
use Rattle.lists.proofs.Options.{none_some, some_same}

-- ---- the end, before all lines

opened_later : (ls : List Line) (past : Past) (t : List ℕ) → (after_all past ls).opened t ≡ Some true → (past.opened t ≡ Some true) ⊎ OpenedIn ls t
opened_later [] past t h = inl h
opened_later (Put path bytes ∷ ls) past t h = opened_later ls (after past (Put path bytes)) t h
opened_later (Drop path ∷ ls) past t h = opened_later ls (after past (Drop path)) t h
opened_later (Commit ∷ ls) past t h = opened_later ls (after past Commit) t h
opened_later (Ask r ∷ ls) past t h = opened_later ls (after past (Ask r)) t h
opened_later (Action r ∷ ls) past t h = opened_later ls (after past (Action r)) t h
opened_later (Wait q ∷ ls) past t h = opened_later ls (after past (Wait q)) t h
opened_later (Cancel q ∷ ls) past t h = opened_later ls (after past (Cancel q)) t h
opened_later (Open u ∷ ls) past t h = elim (opened_later ls (after past (Open u)) t h) as (λ _. (past.opened t ≡ Some true) ⊎ OpenedIn (Open u ∷ ls) t) [
  | inl a ↦ by_name u t _ (λ s. inr (inl s)) (λ f. inl (sym (ap (λ b. cond b (Some true) (past.opened t)) f) ∙ a))
  | inr b ↦ inr (inr b)
]
opened_later (Close u ∷ ls) past t h = elim (opened_later ls (after past (Close u)) t h) as (λ _. (past.opened t ≡ Some true) ⊎ OpenedIn (Close u ∷ ls) t) [
  | inl a ↦ by_name u t _
      (λ s. absurd (false_true (sym (ap (λ b. cond b (Some false) (past.opened t)) (subst (λ w. bytes_eq w t ≡ true) (sym s) (own_name t))) ∙ a)))
      (λ f. inl (sym (ap (λ b. cond b (Some false) (past.opened t)) f) ∙ a))
  | inr b ↦ inr b
]
  where
    false_true : Some false ≡ Some true → ⊥
    false_true e = cc

pub closing_first : (id : EngineId) (ls : List Line) (d : Driver) → Settled id ls d → d.outlook.unpolled.items ≡ [] → Closing id ls ls d
closing_first id ls d s polled = record {
  polled = polled;
  past = s.past;
  stands = s.stands;
  newest = s.newest;
  answered = s.answered;
  records = record {
    indices = s.records.indices;
    knows = s.records.knows;
    own = d.seat.mine;
    lines = λ J b. s.records.lines J d.seat.mine s.records.indices b (refl, refl);
    closing = [];
    mine = sym (append-nil d.seat.mine);
    table = s.past.opened;
    open_ = λ t h. h;
    only = λ t h. h;
    ends = λ es h. subst (λ (table : Table Bool). AddsEnds s.records.indices table ls es) s.opened h;
    left = λ t h. elim (opened_later ls nothing t (ap (λ (f : Table Bool). f t) (sym s.opened) ∙ h)) as (λ _. OpenedIn ls t) [ inl a ↦ absurd (none_some a) | inr b ↦ b ];
  };
}

-- a line that opens nothing
pub closing_past : (id : EngineId) (ls rest : List Line) (l : Line) (d : Driver) → ((n : Indices) (table : Table Bool) (es : Events) → AddsEnds n table rest es → AddsEnds n table (l ∷ rest) es) → ((t : List ℕ) → OpenedIn (l ∷ rest) t → OpenedIn rest t)
    → Closing id ls (l ∷ rest) d → Closing id ls rest d
closing_past id ls rest l d f g c = record {
  polled = c.polled;
  past = c.past;
  stands = c.stands;
  newest = c.newest;
  answered = c.answered;
  records = record {
    indices = c.records.indices;
    knows = c.records.knows;
    own = c.records.own;
    lines = c.records.lines;
    closing = c.records.closing;
    mine = c.records.mine;
    table = c.records.table;
    open_ = c.records.open_;
    only = c.records.only;
    ends = λ es h. c.records.ends es (f c.records.indices c.records.table es h);
    left = λ t h. g t (c.records.left t h);
  };
}

-- a line that opened a transaction
module _ (id : EngineId) (ls rest : List Line) (t : List ℕ) (d e : Driver) where
  false_true : Some false ≡ Some true → ⊥
  false_true e = cc

  -- the transaction is closed already
  was_closed : transaction_of d t ≡ None → (c : Closing id ls (Open t ∷ rest) d) → Closing id ls rest d
  was_closed none c = record {
    polled = c.polled;
    past = c.past;
    stands = c.stands;
    newest = c.newest;
    answered = c.answered;
    records = record {
      indices = c.records.indices;
      knows = c.records.knows;
      own = c.records.own;
      lines = c.records.lines;
      closing = c.records.closing;
      mine = c.records.mine;
      table = with_entry t false c.records.table;
      open_ = λ u h. by_name t u _
          (λ s. absurd (not_open (ap c.past.opened s ∙ h)))
          (λ f. ap (λ b. cond b (Some false) (c.records.table u)) f ∙ c.records.open_ u h);
      only = λ u h. by_name t u _
          (λ s. absurd (false_true (sym (ap (λ b. cond b (Some false) (c.records.table u)) (subst (λ w. bytes_eq w u ≡ true) (sym s) (own_name u))) ∙ h)))
          (λ f. c.records.only u (sym (ap (λ b. cond b (Some false) (c.records.table u)) f) ∙ h));
      ends = λ es h. c.records.ends es ([], es, no_end c.records.indices (c.records.table t) (λ k. not_open (c.records.only t k)), h, refl);
      left = λ u h. elim (c.records.left u h) as (λ _. OpenedIn rest u) [ inl s ↦ absurd (not_open (ap c.past.opened s ∙ h)) | inr b ↦ b ];
    };
  }
    where
      not_open : c.past.opened t ≡ Some true → ⊥
      not_open k = (let x = c.stands.known t k in none_some (sym none ∙ x.1))

      no_end : (n : Indices) (o : Option Bool) → (o ≡ Some true → ⊥) → AddsEnd n t o []
      no_end n (Some true) f = absurd (f refl)
      no_end n (Some false) f = refl
      no_end n None f = refl

  -- it is closed now
  is_closed : (c : Closing id ls (Open t ∷ rest) d) → DidClose id t d e → Closing id ls rest e
  is_closed c x = record {
    polled = ap (λ o. o.unpolled.items) x.outlook ∙ c.polled;
    past = after c.past (Close t);
    stands = w.stands;
    newest = w.newest ∙ (append-nil d.newest.items ∙ c.newest);
    answered = λ r h n. closed_fate c.past t r.name (c.answered r h n);
    records = record {
      indices = c.records.indices;
      knows = knows_closed id d e (plan_of ls) c.past t x c.records.indices c.records.knows;
      own = c.records.own;
      lines = λ J b. c.records.lines J (begins_on d.seat.seen e.seat.seen J b x.goes.begins);
      closing = c.records.closing ++ own;
      mine = x.goes.mine ∙ (ap (λ (es : Events). es ++ own) c.records.mine ∙ append_assoc c.records.own c.records.closing own);
      table = with_entry t false c.records.table;
      open_ = λ u h. by_name t u _
          (λ s. absurd (false_true (sym (ap (λ b. cond b (Some false) (c.past.opened u)) (subst (λ v. bytes_eq v u ≡ true) (sym s) (own_name u))) ∙ h)))
          (λ f. ap (λ b. cond b (Some false) (c.records.table u)) f ∙ c.records.open_ u (sym (ap (λ b. cond b (Some false) (c.past.opened u)) f) ∙ h));
      only = λ u h. by_name t u _
          (λ s. absurd (false_true (sym (ap (λ b. cond b (Some false) (c.records.table u)) (subst (λ v. bytes_eq v u ≡ true) (sym s) (own_name u))) ∙ h)))
          (λ f. ap (λ b. cond b (Some false) (c.past.opened u)) f ∙ c.records.only u (sym (ap (λ b. cond b (Some false) (c.records.table u)) f) ∙ h));
      ends = λ es h. subst (AddsEnds c.records.indices (after_all nothing ls).opened ls) (sym (append_assoc c.records.closing own es))
          (c.records.ends (own ++ es) (own, es, subst (λ (o : Option Bool). AddsEnd c.records.indices t o own) (sym (c.records.open_ t open_now)) (record { transaction = x.transaction.opened; opened = c.records.knows.opened t x.transaction x.held; adds = refl }), h, refl));
      left = λ u h. by_name t u _
          (λ s. absurd (false_true (sym (ap (λ b. cond b (Some false) (c.past.opened u)) (subst (λ v. bytes_eq v u ≡ true) (sym s) (own_name u))) ∙ h)))
          (λ f. elim (c.records.left u (sym (ap (λ b. cond b (Some false) (c.past.opened u)) f) ∙ h)) as (λ _. OpenedIn rest u) [
            | inl s ↦ absurd (true_false (sym (subst (λ v. bytes_eq t v ≡ true) s (own_name t)) ∙ f))
            | inr b ↦ b
          ]);
    };
  }
    where
      w : Steps id (is_cancelled ls) (plan_of ls) c.past (Close t) d e
      w = close_stands id (is_cancelled ls) d e (plan_of ls) c.past t c.stands c.polled x

      own : Events
      own = told.Close 0 x.transaction.opened ∷ []

      open_now : c.past.opened t ≡ Some true
      open_now = (c.stands.open_ t x.transaction x.held).2

      true_false : true ≡ false → ⊥
      true_false e = cc

  pub closing_open : Closing id ls (Open t ∷ rest) d → ClosesOpen id t d e → Closing id ls rest e
  closing_open c (inl p) = subst (Closing id ls rest) (sym p.1) (was_closed p.0 c)
  closing_open c (inr x) = is_closed c x

-- ---- what the journal says

-- an event that stands in a list cuts it in two
cut : (J : Events) (e : Told Key Value) → Has J e → (before : Events) × (later : Events) × (J ≡ before ++ e ∷ later)
cut [] e h = absurd h
cut (x ∷ J) e (inl s) = ([], J, ap (λ (y : Told Key Value). y ∷ J) s)
cut (x ∷ J) e (inr h) = (let c = cut J e h in (x ∷ c.0, c.1, ap (λ (l : Events). x ∷ l) c.2))

-- after turns that added nothing too
module _ (id : EngineId) (ls : List Line) (d : Driver) (u : Place) (c : Closing id ls [] d) (rest : Rests id d.seat u) where
  mine_is : events_by event_by 0 u.seen ≡ d.seat.mine
  mine_is = rest.0.mine ∙ rest.2

  none_unpolled : (t : ℕ) (r : Planned) → IsUnpolled d.outlook.unpolled.items t r → ⊥
  none_unpolled t r p = subst (λ xs. Has xs p.pledge) c.polled p.has

  by_open : (r : Planned) → (i : IsRecorded d.seat.seen d.outlook.unpolled.items c.records.indices c.past r) → WasDecided d.seat.seen i.transaction r.version (key_of r.wish) → (o : Option Bool) → c.past.opened r.transaction ≡ o → IsDecided u.seen c.records.indices r
  by_open r i w None e = absurd (i.known e)
  by_open r i w (Some true) e = absurd (c.records.left r.transaction e)
  by_open r i w (Some false) e =
      let z = c.records.knows.closed r.transaction e in
      let same : z.0 ≡ i.transaction = some_same (sym z.1 ∙ i.opened) in
      let has = from_by event_by 0 u.seen (told.Close 0 z.0) (subst (λ (es : Events). Has es (told.Close 0 z.0)) (sym mine_is) z.2) in
      let parts = cut u.seen (told.Close 0 z.0) has in
      record {
        transaction = z.0;
        opened = z.1;
        decided = record {
          before = parts.0;
          later = parts.1;
          closes = parts.2;
          decided = decided_at_close u.seen parts.0 parts.1 z.0 r.version (key_of r.wish) rest.0.lawful parts.2
              (decided_on d.seat.seen u.seen z.0 r.version (key_of r.wish) rest.1 (subst (λ n. WasDecided d.seat.seen n r.version (key_of r.wish)) (sym same) w));
        };
      }

  pub journal_of : IsJournalOf ls u.seen
  journal_of = record {
    lawful = rest.0.lawful;
    below = rest.0.below;
    own = c.records.own;
    indices = c.records.indices;
    lines = c.records.lines u.seen rest.1;
    closing = c.records.closing;
    ends = subst (AddsEnds c.records.indices (after_all nothing ls).opened ls) (append-nil c.records.closing) (c.records.ends [] refl);
    events = mine_is ∙ c.records.mine;
    decisions = λ r h n.
        let i = c.records.knows.requests r h in
        by_open r i (elim (i.decided (c.answered r h n)) as (λ _. WasDecided d.seat.seen i.transaction r.version (key_of r.wish)) [ inl w ↦ w | inr p ↦ absurd (none_unpolled i.transaction r p) ]) (c.past.opened r.transaction) refl;
  }

pub rests_itself : (id : EngineId) (s : Place) → IsOurs id s → Rests id s s
rests_itself id s o = (o, begins_itself s.seen, refl)
