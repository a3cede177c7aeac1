-- The plan of the script has as many requests as its lines ask.
use Rattle.std.proofs.Common.{◌≡◌, refl, ℕ, ◌+◌, ◌-◌, ◌/◌, codes, List, [], ◌∷◌, ◌++◌, length, map, flat_map, arith}
use Rattle.std.specs.Prelude.{decimal}
use Rattle.std.proofs.lemmas.List.{length_push}
use Rattle.script.specs.declared.line.Line.{Line}
use Rattle.script.specs.declared.line.Line.TheVariants.{Put, Drop, Commit, Open, Ask, Action, Wait, Cancel, Close}
use Rattle.script.specs.Past.{is_cancelled}
use Rattle.script.specs.Plan.{Ends, Plan, Digest, Text, wanted, planned, plan_from, plan_of, no_plan}
use Rattle.bulk_script.specs.Bulk.{numbers_below, targets_in, asked_of, target_line, source_path, source_puts, package_path, package_puts, ask_in, round_in, bulk_lines, requests}
use Rattle.bulk_script.proofs.Blocks.{put_at}

abbrev asks_of : Line → ℕ
asks_of (Put path bytes) = 0
asks_of (Drop path) = 0
asks_of Commit = 0
asks_of (Open t) = 0
asks_of (Ask r) = 1
asks_of (Action r) = 1
asks_of (Wait name) = 0
asks_of (Cancel name) = 0
asks_of (Close t) = 0

abbrev asks_in : List Line → ℕ
asks_in [] = 0
asks_in (l ∷ ls) = asks_of l + asks_in ls

line_counts : (ends : Ends) (p : Plan) (l : Line) → length (planned ends p l).requests ≡ length p.requests + asks_of l
line_counts ends p (Put path bytes) = omega arith
line_counts ends p (Drop path) = omega arith
line_counts ends p Commit = omega arith
line_counts ends p (Open t) = omega arith
line_counts ends p (Ask r) = length_push p.requests (wanted ends p r (Digest r.label))
line_counts ends p (Action r) = length_push p.requests (wanted ends p r (Text r.label))
line_counts ends p (Wait name) = omega arith
line_counts ends p (Cancel name) = omega arith
line_counts ends p (Close t) = omega arith

lines_count : (ends : Ends) (p : Plan) (ls : List Line) → length (plan_from ends p ls).requests ≡ length p.requests + asks_in ls
lines_count ends p [] = omega arith
lines_count ends p (l ∷ ls) =
    let h = line_counts ends p l in
    let r = lines_count ends (planned ends p l) ls in
    omega arith

asks_append : (ls ms : List Line) → asks_in (ls ++ ms) ≡ asks_in ls + asks_in ms
asks_append [] ms = omega arith
asks_append (l ∷ ls) ms = let h = asks_append ls ms in omega arith

puts_ask : (path bytes : ℕ → List ℕ) (xs : List ℕ) → asks_in (map (put_at path bytes) xs) ≡ 0
puts_ask path bytes [] = refl
puts_ask path bytes (x ∷ xs) = let h = puts_ask path bytes xs in omega arith

asks_all : (t : List ℕ) (xs : List ℕ) → asks_in (map (ask_in t) xs) ≡ length xs
asks_all t [] = refl
asks_all t (x ∷ xs) = let h = asks_all t xs in omega arith

round_asks : (t : List ℕ) (n : ℕ) → asks_in (round_in t n) ≡ length (asked_of n)
unfolding round_in
round_asks t n = let h = asks_all t (asked_of n) in omega arith

sources_ask : asks_in source_puts ≡ 0
unfolding source_puts
sources_ask = let h = puts_ask source_path decimal (numbers_below 16) in omega arith

packages_ask : (n : ℕ) → asks_in (package_puts n) ≡ 0
unfolding package_puts
packages_ask n = puts_ask package_path (λ g. flat_map target_line (targets_in n g)) (numbers_below ((n - 1) / 100 + 1))

bulk_asks : (n : ℕ) → asks_in (bulk_lines n) ≡ requests n
unfolding bulk_lines requests
bulk_asks n =
    let s = source_puts in let p = package_puts n in let a = round_in (codes "a") n in let b = round_in (codes "b") n in let x = Put (codes "src/s0") (codes "x") in
    let e1 = asks_append (s ++ p ++ a) (x ∷ b) in
    let e2 = asks_append (s ++ p) a in
    let e3 = asks_append s p in
    let h1 = sources_ask in
    let h2 = packages_ask n in
    let h3 = round_asks (codes "a") n in
    let h4 = round_asks (codes "b") n in
    omega arith

pub counted : (n : ℕ) → length (plan_of (bulk_lines n)).requests ≡ requests n
counted n = let h = lines_count (is_cancelled (bulk_lines n)) no_plan (bulk_lines n) in let e = bulk_asks n in omega arith
