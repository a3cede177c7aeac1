-- Whoever is asked for has a task, also when tasks end or are dropped.
use Rattle.std.proofs.Common.{◌≡◌, Bool, true, false, cond, not, List, Some, None, ℕ, refl, sym, ◌∙◌, subst}
use Rattle.dice_key.specs.Lawful.{IsEquality}
use Rattle.task_share.specs.Asked.{Tasked, is_by}
use Rattle.task_share.specs.Seen.{Share, task_at, asks, KeepsTasks, KeepsAsks}
use Rattle.journal.specs.declared.event.Told.{Told}
use Rattle.core_laws.specs.Tasks.{Outcome}
use Rattle.dice_tasks.specs.Helds.{Held, held_ended}
use Rattle.dice_tasks.specs.Hands.{DeskSeen}
use Rattle.dice_tasks.specs.Endings.{DropsTask, EndsTask, BeginsAnew, AreTasked}
use Rattle.std.proofs.lemmas.Bool.{and_parts}

module _ {K V : Type 0} (eq : K → K → Bool) where
  pub tasked_same : (ps qs : List (K × Share K (Held K V))) → KeepsTasks eq ps qs → KeepsAsks eq ps qs → AreTasked eq ps → AreTasked eq qs
  tasked_same ps qs t a tasked q b e = let r = tasked q b (sym (a q b) ∙ e) in (r.0, t.tasks q ∙ r.1)

  -- a task that is put there leaves each task there
  put_there : (k : K) (g : Held K V) (ps qs : List (K × Share K (Held K V))) → ((q : K) → task_at eq qs q ≡ cond (eq k q) (Some g) (task_at eq ps q)) → (q : K) (h : Held K V) → task_at eq ps q ≡ Some h → (r : Held K V) × (task_at eq qs q ≡ Some r)
  put_there k g ps qs put q h e = by_test (eq k q) (put q)
    where
      by_test : (b : Bool) → task_at eq qs q ≡ cond b (Some g) (task_at eq ps q) → (r : Held K V) × (task_at eq qs q ≡ Some r)
      by_test true i = (g, i)
      by_test false i = (h, i ∙ e)

module _ {K V : Type 0} (eq : K → K → Bool) (equality : IsEquality eq) (v : ℕ) where
  pub tasked_drop : (k : K) (h : Held K V) (ps qs : List (K × Share K (Held K V))) (d e : DeskSeen K V) → DropsTask eq v k h ps qs d e → AreTasked eq ps → AreTasked eq qs
  tasked_drop k h ps qs d e drops tasked q b asked =
      let f = (and_parts (asks eq ps q b) (not (is_by eq (Tasked k) b)) (sym (drops.takes.asks q b) ∙ asked)).0 in
      let r = tasked q b f in
      by_test f r.0 r.1 (eq k q) refl (drops.tasks q)
    where
      by_test : asks eq ps q b ≡ true → (r : Held K V) → task_at eq ps q ≡ Some r → (c : Bool) → eq k q ≡ c → task_at eq qs q ≡ cond c None (task_at eq ps q) → (r : Held K V) × (task_at eq qs q ≡ Some r)
      by_test f r s true i t =
          let j : k ≡ q = equality.same k q i in
          let n : asks eq ps q b ≡ false = subst (λ z. asks eq ps z b ≡ false) j (drops.takes.unasked b) in
          let c : true ≡ false = sym f ∙ n in cc
      by_test f r s false i t = (r, t ∙ s)

  pub tasked_end : (k : K) (h : Held K V) (o : Outcome K V) (ps qs : List (K × Share K (Held K V))) (d e : DeskSeen K V) → EndsTask eq v k h o ps qs d e → AreTasked eq ps → AreTasked eq qs
  tasked_end k h o ps qs d e ends tasked q b asked =
      let r = tasked q b (and_parts (asks eq ps q b) (not (is_by eq (Tasked k) b)) (sym (ends.asks q b) ∙ asked)).0 in
      put_there eq k (held_ended h.name o) ps qs ends.tasks q r.0 r.1

  pub tasked_anew : (k : K) (h g : Held K V) (x : Told K V) (ps qs : List (K × Share K (Held K V))) (d e : DeskSeen K V) → BeginsAnew eq v k h g x ps qs d e → AreTasked eq ps → AreTasked eq qs
  tasked_anew k h g x ps qs d e begins tasked q b asked =
      let r = tasked q b (sym (begins.asks q b) ∙ asked) in
      put_there eq k g ps qs begins.tasks q r.0 r.1
