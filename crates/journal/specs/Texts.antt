-- How an event prints: a line of words with one space between them.
use Rattle.std.specs.Prelude.{◌≡◌, ℕ, Bool, true, false, List, [], ◌∷◌, ◌++◌, codes, map, filter, decimal, IsPermutation, IsSorted}
use Rattle.std.specs.Ordering.{nat_cmp}
use Rattle.std.specs.Cmp.Lexicographic.{slice_cmp}
use Rattle.dice_key.specs.Meaning.{Meaning}
use Rattle.journal.specs.declared.event.Reason.{Reason}
use Rattle.journal.specs.declared.event.Reason.TheVariants.{New, Transient, Differs}
use Rattle.journal.specs.declared.event.Told.{Told}
use Rattle.journal.specs.declared.event.Told.TheVariants.{Commit, Open, Close, Ask, Leave, Start, Keep, End, Cyclic, Drop, Lost}

-- each text, with a space before it
abbrev pub spaced : List (List ℕ) → List ℕ
spaced [] = []
spaced (t ∷ ts) = 32 ∷ t ++ spaced ts

-- a word and what follows it
abbrev pub worded : List ℕ → List (List ℕ) → List ℕ
worded w ts = w ++ spaced ts

abbrev pub has_bytes : List ℕ → Bool
has_bytes [] = false
has_bytes (b ∷ bs) = true

module _ {K V : Type 0} (m : Meaning K V) where
  -- the key's text, in full
  abbrev pub text_of : K → List ℕ
  text_of k = m.text k false

  -- the short texts of the changed keys that are not empty
  abbrev pub changed : List (K × V) → List (List ℕ)
  changed c = filter has_bytes (map (λ p. m.text p.0 true) c)

  abbrev pub reason_words : Reason K → List (List ℕ)
  reason_words New = codes "new" ∷ []
  reason_words (Transient b) = codes "transient" ∷ decimal b ∷ []
  reason_words (Differs b d) = codes "differs" ∷ decimal b ∷ text_of d ∷ []

  -- the words of an event but a Commit
  abbrev pub event_words : Told K V → List ℕ
  event_words (Commit by c) = []
  event_words (Open by v) = worded (codes "open") (decimal by ∷ decimal v ∷ [])
  event_words (Close by t) = worded (codes "close") (decimal by ∷ decimal t ∷ [])
  event_words (Ask by t k) = worded (codes "ask") (decimal by ∷ decimal t ∷ text_of k ∷ [])
  event_words (Leave by a) = worded (codes "leave") (decimal by ∷ decimal a ∷ [])
  event_words (Start v k c) = worded (codes "start") (decimal v ∷ text_of k ∷ reason_words c)
  event_words (Keep v k b) = worded (codes "keep") (decimal v ∷ text_of k ∷ decimal b ∷ [])
  event_words (End v k) = worded (codes "end") (decimal v ∷ text_of k ∷ [])
  event_words (Cyclic v k) = worded (codes "cyclic") (decimal v ∷ text_of k ∷ [])
  event_words (Drop v k) = worded (codes "drop") (decimal v ∷ text_of k ∷ [])
  event_words (Lost v k) = worded (codes "lost") (decimal v ∷ text_of k ∷ [])

  -- the changed keys' texts stand in the order of their bytes
  pub record IsCommitLine (by : ℕ) (c : List (K × V)) (text : List ℕ) : Type 0 where
    pub texts : List (List ℕ)
    pub same : IsPermutation (changed c) texts
    pub sorted : IsSorted (slice_cmp nat_cmp) texts
    pub text_is : text ≡ worded (codes "commit") (decimal by ∷ texts)

  -- the text is the line of this event
  abbrev pub IsLine : Told K V → List ℕ → Type 0
  IsLine (Commit by c) text = IsCommitLine by c text
  IsLine e text = text ≡ event_words e
