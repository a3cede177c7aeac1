-- The worked journal is lawful; with another cause it is not.
use Rattle.std.proofs.Common.{◌≡◌, ◌≢◌, ◌≤◌, ◌<◌, ℕ, Bool, true, false, List, [], ◌∷◌, ◌++◌, length, Some, inl, inr, refl, sym, ap, ◌∙◌, subst, arith}
use Rattle.std.specs.Prelude.{take, reverse}
use Rattle.dice_key.specs.Meaning.{Answered}
use Rattle.dice_key.specs.declared.universe.Kind.TheVariants.{Injected}
use Rattle.dice_model.specs.Log.{IsCommit, input}
use Rattle.dice_model.specs.Eval.{HasValue}
use Rattle.dice_model.specs.Asks.{AsksFor, Reaches, here, through}
use Rattle.journal.specs.declared.event.Told.{Told}
use Rattle.journal.specs.declared.event.Reason.{Reason}
use Rattle.journal.specs.declared.event.Reason.TheVariants.{New, Differs}
use Rattle.journal.specs.Events.{Opened, Asking, commits_of, live_at, opened_at, is_base}
use Rattle.journal.specs.Law.{IsWanted, IsLawfulJournal, KeepsValue, DiffersFirst, Backs, SameAt}
use Rattle.journal.specs.Worked.{Key, Held, File, Package, Rule, Action, Digest, same_key, small, asked_by, file_with, worked}

abbrev Log : Type 0
Log = List (List (Key × Held))

abbrev two : Log
two = file_with 1 ∷ file_with 2 ∷ []

-- the first events of the journal, newest first
abbrev first_events : ℕ → List (Told Key Held)
first_events n = reverse (take n (worked (Differs 1 File)))

abbrev held : ℕ → ℕ → Held
held t n = record { target = t; comment = n }

not_injected : (k : Key) → (k ≡ File → ⊥) → small.kind k ≢ Injected
not_injected File n = λ h. n refl
not_injected Package n = λ h. cc
not_injected Rule n = λ h. cc
not_injected Action n = λ h. cc
not_injected Digest n = λ h. cc

asks : (C : Log) (v : ℕ) (k : Key) → (k ≡ File → ⊥) → AsksFor same_key small C v k (asked_by k)
asks C v k n = record { computed = not_injected k n; before = []; goes = tt; keys = asked_by k ∷ []; asks = refl; among = inl refl }

to_digest : (C : Log) (v : ℕ) → Reaches same_key small C v Digest Digest
to_digest C v = here

to_action : (C : Log) (v : ℕ) → Reaches same_key small C v Digest Action
to_action C v = through (asks C v Digest (λ h. cc)) here

to_rule : (C : Log) (v : ℕ) → Reaches same_key small C v Digest Rule
to_rule C v = through (asks C v Digest (λ h. cc)) (through (asks C v Action (λ h. cc)) here)

to_package : (C : Log) (v : ℕ) → Reaches same_key small C v Digest Package
to_package C v = through (asks C v Digest (λ h. cc)) (through (asks C v Action (λ h. cc)) (through (asks C v Rule (λ h. cc)) here))

wanted : (R : List (Told Key Held)) (v i t : ℕ) (k : Key) → live_at R i ≡ Some (record { by = 0; opened = t; key = Digest }) → opened_at R v t ≡ true → Reaches same_key small (commits_of R) v Digest k → IsWanted same_key small R v k
wanted R v i t k l o r = record { ask = i; asking = record { by = 0; opened = t; key = Digest }; live = l; at = o; reaches = r }

-- the package at version 1, whose file differs at version 2
package_differs : DiffersFirst same_key small two 1 2 Package File
package_differs = record {
  computed = λ h. cc;
  before = [];
  batch = record { keys = File ∷ []; values = held 7 1 ∷ [] };
  later = [];
  goes = (refl, (record { depth = 1; gives = refl }, tt), tt);
  value = held 7 1;
  ends = refl;
  agreed = tt;
  keys_before = [];
  keys_later = [];
  values_before = [];
  values_later = [];
  was = held 7 1;
  now = held 7 2;
  keys = refl;
  values = refl;
  agreed_first = tt;
  has = record { depth = 1; gives = refl };
  other = λ h. (let e : 1 ≡ 2 = ap (λ (x : Held). x.comment) h in cc);
}

-- the rule at version 1, whose package differs at version 2
rule_differs : DiffersFirst same_key small two 1 2 Rule Package
rule_differs = record {
  computed = λ h. cc;
  before = [];
  batch = record { keys = Package ∷ []; values = held 7 1 ∷ [] };
  later = [];
  goes = (refl, (record { depth = 2; gives = refl }, tt), tt);
  value = held 7 0;
  ends = refl;
  agreed = tt;
  keys_before = [];
  keys_later = [];
  values_before = [];
  values_later = [];
  was = held 7 1;
  now = held 7 2;
  keys = refl;
  values = refl;
  agreed_first = tt;
  has = record { depth = 2; gives = refl };
  other = λ h. (let e : 1 ≡ 2 = ap (λ (x : Held). x.comment) h in cc);
}

-- a value is at its own version what it is there
backs : (R : List (Told Key Held)) (k : Key) (x : Held) → is_base same_key R 1 k ≡ true → HasValue same_key small (commits_of R) 1 k x → Backs same_key small R 1 1 k
backs R k x b h = record { base = b; below = omega arith; alike = record { value = x; first = h; second = h } }

committed : (n : ℕ) → IsCommit small (file_with n)
committed n = record { some = omega arith; injected = (refl, tt); distinct = ((λ h. h), tt) }

pub is_lawful : IsLawfulJournal same_key small (worked (Differs 1 File))
is_lawful = (
  (record { by = 0; version = 2 }, refl, refl),
  (
    (record { by = 0; version = 1 }, refl, refl),
    (
      (wanted (first_events 19) 2 13 12 Digest refl refl (to_digest two 2), (refl, refl), record { base = refl; value = held 7 0; here = record { depth = 5; gives = refl }; there = record { depth = 5; gives = refl }; lasts = inr refl }, (λ h. cc)),
      (
        (wanted (first_events 18) 2 13 12 Action refl refl (to_action two 2), (refl, refl), record { base = refl; value = held 7 0; here = record { depth = 4; gives = refl }; there = record { depth = 4; gives = refl }; lasts = inr refl }, (λ h. cc)),
        (
          (wanted (first_events 17) 2 13 12 Rule refl refl (to_rule two 2), refl, refl, (held 7 0, record { depth = 3; gives = refl }), (λ h. cc)),
          (
            (wanted (first_events 16) 2 13 12 Rule refl refl (to_rule two 2), (refl, refl), (refl, 1, backs (first_events 16) Rule (held 7 0) refl (record { depth = 3; gives = refl }), rule_differs), (λ h. cc)),
            (
              (wanted (first_events 15) 2 13 12 Package refl refl (to_package two 2), refl, refl, (held 7 2, record { depth = 2; gives = refl }), (λ h. cc)),
              (
                (wanted (first_events 14) 2 13 12 Package refl refl (to_package two 2), (refl, refl), (refl, 1, backs (first_events 14) Package (held 7 1) refl (record { depth = 2; gives = refl }), package_differs), (λ h. cc)),
                (
                  (record { by = 0; version = 2 }, refl),
                  (
                    refl,
                    (
                      (committed 2, ((λ h. (let e : 1 ≡ 2 = ap (λ (x : Held). x.comment) h in cc)), tt)),
                      (
                        (wanted (first_events 10) 1 2 1 Digest refl refl (to_digest (file_with 1 ∷ []) 1), refl, refl, (held 7 0, record { depth = 5; gives = refl }), (λ h. cc)),
                        (
                          (wanted (first_events 9) 1 2 1 Action refl refl (to_action (file_with 1 ∷ []) 1), refl, refl, (held 7 0, record { depth = 4; gives = refl }), (λ h. cc)),
                          (
                            (wanted (first_events 8) 1 2 1 Rule refl refl (to_rule (file_with 1 ∷ []) 1), refl, refl, (held 7 0, record { depth = 3; gives = refl }), (λ h. cc)),
                            (
                              (wanted (first_events 7) 1 2 1 Package refl refl (to_package (file_with 1 ∷ []) 1), refl, refl, (held 7 1, record { depth = 2; gives = refl }), (λ h. cc)),
                              (
                                (wanted (first_events 6) 1 2 1 Package refl refl (to_package (file_with 1 ∷ []) 1), (refl, refl), λ b. refl, (λ h. cc)),
                                (
                                  (wanted (first_events 5) 1 2 1 Rule refl refl (to_rule (file_with 1 ∷ []) 1), (refl, refl), λ b. refl, (λ h. cc)),
                                  (
                                    (wanted (first_events 4) 1 2 1 Action refl refl (to_action (file_with 1 ∷ []) 1), (refl, refl), λ b. refl, (λ h. cc)),
                                    (
                                      (wanted (first_events 3) 1 2 1 Digest refl refl (to_digest (file_with 1 ∷ []) 1), (refl, refl), λ b. refl, (λ h. cc)),
                                      (
                                        (record { by = 0; version = 1 }, refl),
                                        (
                                          refl,
                                          (
                                            (committed 1, ((λ h. (let e : 0 ≡ 1 = ap (λ (x : Held). x.comment) h in cc)), tt)),
                                            tt,
                                          ),
                                        ),
                                      ),
                                    ),
                                  ),
                                ),
                              ),
                            ),
                          ),
                        ),
                      ),
                    ),
                  ),
                ),
              ),
            ),
          ),
        ),
      ),
    ),
  ),
)

-- the package has a base
pub is_unlawful : IsLawfulJournal same_key small (worked New) → ⊥
is_unlawful l = let h : true ≡ false = l.1.1.1.1.1.1.1.0.2 1 in cc
