-- The script, part by part.
use Rattle.std.proofs.Common.{◌≡◌, ◌∙◌, sym, ap, refl, ℕ, ◌+◌, ◌-◌, ◌/◌, codes, List, [], ◌∷◌, ◌++◌, map, flat_map, append_assoc}
use Rattle.std.proofs.lemmas.List.Concat.{flat_map-append}
use Rattle.script.specs.declared.line.Line.{Line}
use Rattle.script.specs.declared.line.Line.TheVariants.{Put, Commit, Open}
use Rattle.bulk_script.specs.Spelled.{spelled, text_of}
use Rattle.bulk_script.specs.Bulk.{numbers_below, asked_of, export_line, source_put, package_put, ask_in, source_puts, package_puts, round_in, bulk, bulk_lines}

-- what was appended in two steps
grown : (o m n p q : List ℕ) → m ≡ o ++ p → n ≡ m ++ q → n ≡ o ++ (p ++ q)
grown o m n p q e f = f ∙ ap (λ (x : List ℕ). x ++ q) e ∙ append_assoc o p q

-- an ask, piece by piece: the transaction t, the number d and the label l
pub ask_grown : (o t d l a b c e f g h i : List ℕ) → a ≡ o ++ codes "ask " → b ≡ a ++ t → c ≡ b ++ 32 ∷ [] → e ≡ c ++ t → f ≡ e ++ d → g ≡ f ++ 32 ∷ [] → h ≡ g ++ l → i ≡ h ++ 10 ∷ [] →
    i ≡ o ++ (codes "ask " ++ (t ++ 32 ∷ (t ++ d ++ 32 ∷ (l ++ 10 ∷ []))))
ask_grown o t d l a b c e f g h i e1 e2 e3 e4 e5 e6 e7 e8 =
    let x8 = grown g h i l (10 ∷ []) e7 e8 in
    let x7 = grown f g i (32 ∷ []) (l ++ 10 ∷ []) e6 x8 in
    let x6 = grown c f i (t ++ d) (32 ∷ (l ++ 10 ∷ [])) (grown c e f t d e4 e5) x7 in
    let x5 = grown b c i (32 ∷ []) (t ++ d ++ 32 ∷ (l ++ 10 ∷ [])) e3 x6 in
    let x4 = grown a b i t (32 ∷ (t ++ d ++ 32 ∷ (l ++ 10 ∷ []))) e2 x5 in
    grown o a i (codes "ask ") (t ++ 32 ∷ (t ++ d ++ 32 ∷ (l ++ 10 ∷ []))) e1 x4

-- nine pieces
pub nine_grown : (o p q r s t u v w x a b c d e f g h i : List ℕ) → a ≡ o ++ p → b ≡ a ++ q → c ≡ b ++ r → d ≡ c ++ s → e ≡ d ++ t → f ≡ e ++ u → g ≡ f ++ v → h ≡ g ++ w → i ≡ h ++ x →
    i ≡ o ++ (p ++ q ++ r ++ s ++ t ++ u ++ v ++ w ++ x)
nine_grown o p q r s t u v w x a b c d e f g h i e1 e2 e3 e4 e5 e6 e7 e8 e9 =
    let x2 = grown o a b p q e1 e2 in
    let x3 = grown o b c (p ++ q) r x2 e3 in
    let x4 = grown o c d (p ++ q ++ r) s x3 e4 in
    let x5 = grown o d e (p ++ q ++ r ++ s) t x4 e5 in
    let x6 = grown o e f (p ++ q ++ r ++ s ++ t) u x5 e6 in
    let x7 = grown o f g (p ++ q ++ r ++ s ++ t ++ u) v x6 e7 in
    let x8 = grown o g h (p ++ q ++ r ++ s ++ t ++ u ++ v) w x7 e8 in
    grown o h i (p ++ q ++ r ++ s ++ t ++ u ++ v ++ w) x x8 e9

pub sources_put : (out script rules : List ℕ) → rules ≡ flat_map export_line (numbers_below 16) →
    script ≡ (out ++ spelled (Put (codes "src/BUCK") rules)) ++ text_of (map source_put (numbers_below 16)) → script ≡ out ++ text_of source_puts
unfolding text_of source_puts
sources_put out script rules e h =
    h ∙ ap (λ (r : List ℕ). (out ++ spelled (Put (codes "src/BUCK") r)) ++ flat_map spelled (map source_put (numbers_below 16))) e
    ∙ append_assoc out (spelled (Put (codes "src/BUCK") (flat_map export_line (numbers_below 16)))) (flat_map spelled (map source_put (numbers_below 16)))

pub packages_put : (out : List ℕ) (n : ℕ) → out ++ text_of (map (package_put n) (numbers_below ((n - 1) / 100 + 1))) ≡ out ++ text_of (package_puts n)
unfolding package_puts
packages_put out n = refl

pub round_put : (t script out : List ℕ) (n : ℕ) → script ≡ (out ++ spelled Commit ++ spelled (Open t)) ++ text_of (map (ask_in t) (asked_of n)) → script ≡ out ++ text_of (round_in t n)
unfolding text_of round_in
round_put t script out n h =
    h ∙ append_assoc (out ++ spelled Commit) (spelled (Open t)) (flat_map spelled (map (ask_in t) (asked_of n)))
    ∙ append_assoc out (spelled Commit) (spelled (Open t) ++ flat_map spelled (map (ask_in t) (asked_of n)))

text_of_append : (xs ys : List Line) → text_of (xs ++ ys) ≡ text_of xs ++ text_of ys
unfolding text_of
text_of_append xs ys = flat_map-append spelled xs ys

text_of_cons : (l : Line) (ls : List Line) → text_of (l ∷ ls) ≡ spelled l ++ text_of ls
unfolding text_of
text_of_cons l ls = refl

joined_texts : (s p a b : List Line) (x : Line) → (text_of s ++ text_of p ++ text_of a ++ spelled x) ++ text_of b ≡ text_of (s ++ p ++ a ++ x ∷ b)
joined_texts s p a b x =
    append_assoc (text_of s ++ text_of p ++ text_of a) (spelled x) (text_of b)
    ∙ ap (λ (u : List ℕ). text_of s ++ text_of p ++ text_of a ++ u) (sym (text_of_cons x b))
    ∙ ap (λ (u : List ℕ). u ++ text_of a ++ text_of (x ∷ b)) (sym (text_of_append s p))
    ∙ ap (λ (u : List ℕ). u ++ text_of (x ∷ b)) (sym (text_of_append (s ++ p) a))
    ∙ sym (text_of_append (s ++ p ++ a) (x ∷ b))

pub bulk_put : (n : ℕ) → (text_of source_puts ++ text_of (package_puts n) ++ text_of (round_in (codes "a") n) ++ spelled (Put (codes "src/s0") (codes "x"))) ++ text_of (round_in (codes "b") n) ≡ bulk n
unfolding bulk bulk_lines
bulk_put n = joined_texts source_puts (package_puts n) (round_in (codes "a") n) (round_in (codes "b") n) (Put (codes "src/s0") (codes "x"))

pub script_put : (n : ℕ) (a b c d e f : List ℕ) → a ≡ [] → b ≡ a ++ text_of source_puts → c ≡ b ++ text_of (package_puts n) → d ≡ c ++ text_of (round_in (codes "a") n) →
    e ≡ d ++ spelled (Put (codes "src/s0") (codes "x")) → f ≡ e ++ text_of (round_in (codes "b") n) → f ≡ bulk n
script_put n a b c d e f g h i j k l =
    l ∙ ap (λ (o : List ℕ). o ++ text_of (round_in (codes "b") n))
    (k ∙ ap (λ (o : List ℕ). o ++ spelled (Put (codes "src/s0") (codes "x")))
    (j ∙ ap (λ (o : List ℕ). o ++ text_of (round_in (codes "a") n))
    (i ∙ ap (λ (o : List ℕ). o ++ text_of (package_puts n)) (h ∙ ap (λ (o : List ℕ). o ++ text_of source_puts) g))))
    ∙ bulk_put n

-- a put, piece by piece: the path p, the number d and the bytes f
pub put_grown : (o p d f a b c e g h i : List ℕ) → a ≡ o ++ codes "put " → b ≡ a ++ p → c ≡ b ++ 32 ∷ [] → e ≡ c ++ d → g ≡ e ++ 10 ∷ [] → h ≡ g ++ f → i ≡ h ++ 10 ∷ [] →
    i ≡ o ++ (((codes "put " ++ (p ++ 32 ∷ (d ++ 10 ∷ []))) ++ f) ++ 10 ∷ [])
put_grown o p d f a b c e g h i e1 e2 e3 e4 e5 e6 e7 =
    let x4 = grown c e g d (10 ∷ []) e4 e5 in
    let x3 = grown b c g (32 ∷ []) (d ++ 10 ∷ []) e3 x4 in
    let x2 = grown a b g p (32 ∷ (d ++ 10 ∷ [])) e2 x3 in
    let x1 = grown o a g (codes "put ") (p ++ 32 ∷ (d ++ 10 ∷ [])) e1 x2 in
    let y1 = grown o g h (codes "put " ++ (p ++ 32 ∷ (d ++ 10 ∷ []))) f x1 e6 in
    grown o h i ((codes "put " ++ (p ++ 32 ∷ (d ++ 10 ∷ []))) ++ f) (10 ∷ []) y1 e7
