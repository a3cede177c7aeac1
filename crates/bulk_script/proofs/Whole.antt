-- The whole text is a script.
use Rattle.std.proofs.Common.{◌≡◌, ◌∙◌, ◌<◌, ◌≤◌, sym, ap, refl, subst, ℕ, ◌+◌, ◌-◌, ◌*◌, ◌/◌, Bool, true, false, nat_eq, eq-eqb, if◌then◌else◌, codes, List, [], ◌∷◌, ◌++◌, length, map, flat_map, Option, Some, None, append_assoc, append-nil, length-append, arith}
use Rattle.std.specs.Prelude.{decimal}
use Rattle.std.proofs.lemmas.Slice.Eq.{bytes_eq-Decides}
use Rattle.script.specs.declared.line.Line.{Line}
use Rattle.script.specs.declared.line.Line.TheVariants.{Put, Commit, Open}
use Rattle.script.specs.Lines.{is_name_byte}
use Rattle.script.specs.Past.{Past, nothing, no_texts, after, after_all}
use Rattle.script.specs.Scripts.{IsFrom, IsScript}
use Rattle.bulk_script.specs.Spelled.{spelled, text_of}
use Rattle.bulk_script.specs.Bulk.{numbers_below, targets_in, asked_of, export_line, target_line, source_path, source_put, source_puts, package_path, package_put, package_puts, ask_in, round_in, bulk, bulk_lines}
use Rattle.bulk_script.proofs.Parts.{bulk_put}
use Rattle.bulk_script.proofs.Decimals.{few_digits, letter_name}
use Rattle.bulk_script.proofs.PathTexts.{sources_file, first_source, source_is_path, package_is_path, one_source, one_package}
use Rattle.bulk_script.proofs.Lines.{IsRead, nothing_read, commit_read, open_read, put_read}
use Rattle.bulk_script.proofs.Blocks.{ArePaths, put_at, below_ascends, targets_ascend, asked_ascend, ascends_few, differ, puts_read, puts_keep, puts_opened, puts_asked, asks_read, asks_keep, asks_opened, asks_touched}
use Rattle.bulk_script.proofs.Lengths.{piece, texts_length, lines_length, below_length, export_length, target_length, targets_few, put_length, ask_length}

heads_apart : (b c : ℕ) (bs cs : List ℕ) → nat_eq b c ≡ false → b ∷ bs ≡ c ∷ cs → ⊥
heads_apart b c bs cs f e = let h : b ≡ c = cc in let t : nat_eq b c ≡ true = eq-eqb b c h in cc

-- ---- a round of requests

begun : (t : List ℕ) (p : Past) → (after (after p Commit) (Open t)).opened t ≡ Some true
begun t p = ap (λ (b : Bool). if b then Some true else p.opened t) ((bytes_eq-Decides t t).1 refl)

round_read : (c n : ℕ) (p : Past) (ls : List Line) → is_name_byte c ≡ true → n ≤ 10000 → p.opened (c ∷ []) ≡ None → ((i : ℕ) → p.asked (c ∷ decimal i) ≡ None) →
    IsRead (after_all p (round_in (c ∷ []) n)) ls → IsRead p (round_in (c ∷ []) n ++ ls)
unfolding round_in
round_read c n p ls ok h new free go =
    let q = after (after p Commit) (Open (c ∷ [])) in
    commit_read p (Open (c ∷ []) ∷ (map (ask_in (c ∷ [])) (asked_of n) ++ ls)) (open_read (after p Commit) (c ∷ []) (map (ask_in (c ∷ [])) (asked_of n) ++ ls) (letter_name c ok) new
    (asks_read c 0 (asked_of n) q ls ok (asked_ascend 10000 n h) (begun (c ∷ []) p) (λ i l m. free i) go))

round_touched : (c n : ℕ) (p : Past) → (after_all p (round_in (c ∷ []) n)).touched ≡ no_texts
unfolding round_in
round_touched c n p = asks_touched c (asked_of n) (after (after p Commit) (Open (c ∷ [])))

round_opened : (c n : ℕ) (p : Past) (s : List ℕ) → (c ∷ [] ≡ s → ⊥) → (after_all p (round_in (c ∷ []) n)).opened s ≡ p.opened s
unfolding round_in
round_opened c n p s other =
    ap (λ (o : List ℕ → Option Bool). o s) (asks_opened c (asked_of n) (after (after p Commit) (Open (c ∷ []))))
    ∙ ap (λ (b : Bool). if b then Some true else p.opened s) (differ (c ∷ []) s other)

round_asked : (c n : ℕ) (p : Past) (s : List ℕ) → ((i : ℕ) → c ∷ decimal i ≡ s → ⊥) → (after_all p (round_in (c ∷ []) n)).asked s ≡ p.asked s
unfolding round_in
round_asked c n p s other = asks_keep c (asked_of n) (after (after p Commit) (Open (c ∷ []))) s other

-- ---- the puts

sources_are : ArePaths source_path decimal 16
sources_are = record {
  each = λ i h. source_is_path i (omega arith);
  one = λ i j h k e. one_source i j (omega arith) (omega arith) e;
  small = λ i h. let d = few_digits i (omega arith) in omega arith;
}

abbrev rules_of : ℕ → ℕ → List ℕ
rules_of n g = flat_map target_line (targets_in n g)

rules_length : (n g : ℕ) → n ≤ 10000 → length (rules_of n g) ≤ 15000
rules_length n g h =
    let t = texts_length target_line 150 10000 0 (targets_in n g) (targets_ascend 10000 n g h) (λ i l. target_length i (omega arith)) in
    let f = targets_few g n in
    omega arith

packages_are : (n : ℕ) → n ≤ 10000 → ArePaths package_path (rules_of n) 10000
packages_are n h = record {
  each = λ i l. package_is_path i (omega arith);
  one = λ i j k l e. one_package i j (omega arith) (omega arith) e;
  small = λ i l. let r = rules_length n i h in omega arith;
}

abbrev rules_of_sources : List ℕ
rules_of_sources = flat_map export_line (numbers_below 16)

exports_length : length rules_of_sources ≤ 640
exports_length =
    let t = texts_length export_line 40 10000 0 (numbers_below 16) (below_ascends 10000 16 (omega arith)) (λ i l. export_length i (omega arith)) in
    let n = below_length 16 in
    omega arith

no_source : (j : ℕ) (g : ℕ) → source_path j ≡ package_path g → ⊥
no_source j g e = heads_apart 115 112 _ _ refl e

abbrev begun_puts : Past
begun_puts = after nothing (Put (codes "src/BUCK") rules_of_sources)

-- what stands after the puts of the sources, and of the packages
abbrev behind_sources : Past
behind_sources = after_all begun_puts (map (put_at source_path decimal) (numbers_below 16))

abbrev behind_packages : ℕ → Past
behind_packages n = after_all behind_sources (map (put_at package_path (rules_of n)) (numbers_below ((n - 1) / 100 + 1)))

sources_read : (ls : List Line) → IsRead behind_sources ls → IsRead nothing (source_puts ++ ls)
unfolding source_puts
sources_read ls go =
    let e = exports_length in
    put_read nothing (codes "src/BUCK") rules_of_sources (map (put_at source_path decimal) (numbers_below 16) ++ ls) sources_file refl (omega arith)
    (puts_read source_path decimal 16 0 (numbers_below 16) begun_puts ls sources_are (below_ascends 16 16 (omega arith)) (λ i h k. refl) go)

packages_read : (n : ℕ) (ls : List Line) → n ≤ 10000 → IsRead (behind_packages n) ls → IsRead behind_sources (package_puts n ++ ls)
unfolding package_puts
packages_read n ls h go =
    let g = (n - 1) / 100 + 1 in
    let k : g ≤ 10000 = omega arith in
    puts_read package_path (rules_of n) 10000 0 (numbers_below g) behind_sources ls (packages_are n h) (below_ascends 10000 g k)
    (λ i l m. puts_keep source_path decimal (numbers_below 16) begun_puts (package_path i) (λ j e. no_source j i e)) go

packages_opened : (n : ℕ) (s : List ℕ) → (behind_packages n).opened s ≡ None
packages_opened n s =
    ap (λ (o : List ℕ → Option Bool). o s)
    (puts_opened package_path (rules_of n) (numbers_below ((n - 1) / 100 + 1)) behind_sources ∙ puts_opened source_path decimal (numbers_below 16) begun_puts)

packages_asked : (n : ℕ) (s : List ℕ) → (behind_packages n).asked s ≡ None
packages_asked n s =
    let e : (behind_packages n).asked ≡ begun_puts.asked =
    puts_asked package_path (rules_of n) (numbers_below ((n - 1) / 100 + 1)) behind_sources ∙ puts_asked source_path decimal (numbers_below 16) begun_puts in
    λ i. e i s

-- ---- the second round

abbrev first_round : ℕ → Past
first_round n = after_all (behind_packages n) (round_in (97 ∷ []) n)

abbrev changed : ℕ → Past
changed n = after (first_round n) (Put (codes "src/s0") (codes "x"))

other_transaction : codes "a" ≡ codes "b" → ⊥
other_transaction e = heads_apart 97 98 [] [] refl e

other_request : (i j : ℕ) → 97 ∷ decimal i ≡ 98 ∷ decimal j → ⊥
other_request i j e = heads_apart 97 98 (decimal i) (decimal j) refl e

second_read : (n : ℕ) → n ≤ 10000 → IsRead (changed n) (round_in (98 ∷ []) n ++ [])
second_read n h =
    round_read 98 n (changed n) [] refl h (round_opened 97 n (behind_packages n) (98 ∷ []) other_transaction ∙ packages_opened n (98 ∷ []))
    (λ j. round_asked 97 n (behind_packages n) (98 ∷ decimal j) (λ i e. other_request i j e) ∙ packages_asked n (98 ∷ decimal j))
    (nothing_read (after_all (changed n) (round_in (98 ∷ []) n)))

change_read : (n : ℕ) → n ≤ 10000 → IsRead (first_round n) (Put (codes "src/s0") (codes "x") ∷ (round_in (98 ∷ []) n ++ []))
change_read n h =
    put_read (first_round n) (codes "src/s0") (codes "x") (round_in (98 ∷ []) n ++ []) first_source
    (ap (λ (t : List ℕ → Bool). t (codes "src/s0")) (round_touched 97 n (behind_packages n))) (omega arith) (second_read n h)

rounds_read : (n : ℕ) → n ≤ 10000 → IsRead (behind_packages n) (round_in (97 ∷ []) n ++ (Put (codes "src/s0") (codes "x") ∷ (round_in (98 ∷ []) n ++ [])))
rounds_read n h =
    round_read 97 n (behind_packages n) (Put (codes "src/s0") (codes "x") ∷ (round_in (98 ∷ []) n ++ [])) refl h (packages_opened n (97 ∷ []))
    (λ j. packages_asked n (97 ∷ decimal j)) (change_read n h)

all_read : (n : ℕ) → n ≤ 10000 → IsRead nothing (source_puts ++ (package_puts n ++ (round_in (97 ∷ []) n ++ (Put (codes "src/s0") (codes "x") ∷ (round_in (98 ∷ []) n ++ [])))))
all_read n h =
    let rest = round_in (97 ∷ []) n ++ (Put (codes "src/s0") (codes "x") ∷ (round_in (98 ∷ []) n ++ [])) in
    sources_read (package_puts n ++ rest) (packages_read n rest h (rounds_read n h))

lines_are : (n : ℕ) → source_puts ++ (package_puts n ++ (round_in (97 ∷ []) n ++ (Put (codes "src/s0") (codes "x") ∷ (round_in (98 ∷ []) n ++ [])))) ≡ bulk_lines n
unfolding bulk_lines
lines_are n =
    let s = source_puts in let p = package_puts n in let a = round_in (97 ∷ []) n in let b = round_in (98 ∷ []) n in let x = Put (codes "src/s0") (codes "x") in
    ap (λ (ls : List Line). s ++ (p ++ (a ++ (x ∷ ls)))) (append-nil b) ∙ sym (append_assoc s p (a ++ x ∷ b)) ∙ sym (append_assoc (s ++ p) a (x ∷ b))

lines_read : (n : ℕ) → n ≤ 10000 → IsFrom nothing (bulk n) (bulk_lines n)
unfolding bulk
lines_read n h = subst (λ (ls : List Line). IsRead nothing ls) (lines_are n) (all_read n h)

-- ---- its length

sources_length : length (text_of source_puts) ≤ 2000
unfolding text_of source_puts
sources_length =
    let e = exports_length in
    let k : length rules_of_sources ≤ 4194304 = omega arith in
    let p = put_length (codes "src/BUCK") rules_of_sources (omega arith) k in
    let p2 : length (spelled (Put (codes "src/BUCK") rules_of_sources)) ≤ 690 = omega arith in
    let each : (i : ℕ) → i < 10000 → length (spelled (source_put i)) ≤ 60 =
    λ i h. let d = few_digits i (omega arith) in let r = put_length (source_path i) (decimal i) (omega arith) (omega arith) in omega arith in
    let l = lines_length source_put 60 10000 0 (numbers_below 16) (below_ascends 10000 16 (omega arith)) each in
    let n = below_length 16 in
    let l2 : length (text_of (map source_put (numbers_below 16))) ≤ 960 = omega arith in
    let o = piece (spelled (Put (codes "src/BUCK") rules_of_sources)) (text_of (map source_put (numbers_below 16))) 690 960 p2 l2 in
    omega arith

packages_length : (n : ℕ) → n ≤ 10000 → length (text_of (package_puts n)) ≤ 1505000
unfolding package_puts
packages_length n h =
    let g = (n - 1) / 100 + 1 in
    let few : g ≤ 100 = omega arith in
    let each : (i : ℕ) → i < 10000 → length (spelled (package_put n i)) ≤ 15050 =
    λ i l. let d = few_digits i (omega arith) in
    let a = length-append (decimal i) (codes "/BUCK") in
    let r = rules_length n i h in
    let p = put_length (package_path i) (rules_of n i) (omega arith) (omega arith) in omega arith in
    let l = lines_length (package_put n) 15050 10000 0 (numbers_below g) (below_ascends 10000 g (omega arith)) each in
    let b = below_length g in
    let m : length (numbers_below g) * 15050 ≤ 1505000 = omega arith in
    omega arith

round_length : (c n : ℕ) → n ≤ 10000 → length (text_of (round_in (c ∷ []) n)) ≤ 500100
unfolding text_of round_in
round_length c n h =
    let l = lines_length (ask_in (c ∷ [])) 50 10000 0 (asked_of n) (asked_ascend 10000 n h) (λ i k. ask_length c i (omega arith)) in
    let f = ascends_few 10000 0 (asked_of n) (asked_ascend 10000 n h) (omega arith) in
    let l2 : length (text_of (map (ask_in (c ∷ [])) (asked_of n))) ≤ 500000 = omega arith in
    let o = piece (spelled (Open (c ∷ []))) (text_of (map (ask_in (c ∷ [])) (asked_of n))) 50 500000 (omega arith) l2 in
    let q = piece (spelled Commit) (spelled (Open (c ∷ [])) ++ text_of (map (ask_in (c ∷ [])) (asked_of n))) 50 500050 (omega arith) o in
    q

bulk_length : (n : ℕ) → n ≤ 10000 → length (bulk n) ≤ 4194304
bulk_length n h =
    let s = text_of source_puts in let p = text_of (package_puts n) in let a = text_of (round_in (97 ∷ []) n) in let b = text_of (round_in (98 ∷ []) n) in
    let x = spelled (Put (codes "src/s0") (codes "x")) in
    let one : length x ≤ 51 = put_length (codes "src/s0") (codes "x") (omega arith) (omega arith) in
    let y2 = piece s p 2000 1505000 sources_length (packages_length n h) in
    let y3 = piece (s ++ p) a 1507000 500100 y2 (round_length 97 n h) in
    let y4 = piece (s ++ p ++ a) x 2007100 51 y3 one in
    let y5 = piece (s ++ p ++ a ++ x) b 2007151 500100 y4 (round_length 98 n h) in
    let e = ap length (bulk_put n) in
    omega arith

pub is_script : (n : ℕ) → n ≤ 10000 → IsScript (bulk n) (bulk_lines n)
is_script n h = record { fits = bulk_length n h; lines = lines_read n h }
