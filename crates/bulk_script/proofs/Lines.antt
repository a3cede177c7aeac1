-- A spelled line is read as it.
use Rattle.std.proofs.Common.{◌≡◌, ◌∙◌, ◌<◌, ◌≤◌, sym, ap, refl, subst, inr, ℕ, ◌+◌, ◌^◌, true, false, List, [], ◌∷◌, ◌++◌, length, take, drop, codes, Some, None, length-append, append_assoc, arith}
use Rattle.std.specs.Prelude.{decimal}
use Rattle.std.proofs.lemmas.List.{take_at, drop_at}
use Rattle.script.specs.declared.line.Line.{Line}
use Rattle.script.specs.declared.line.Line.TheVariants.{Put, Commit, Open, Ask}
use Rattle.script.specs.Lines.{IsDecimal, IsName, words}
use Rattle.script.specs.Past.{Past, after}
use Rattle.script.specs.Faults.{Form, puts, commits, opens, asks, form_of, AllHold, tests, IsSmallNumber, IsFollowed, IsEnough}
use Rattle.script.specs.Scripts.{IsSkipped, Makes, put_line, commit_line, open_line, ask_line, IsFrom, ended, told}
use Rattle.buck_label.specs.Paths.{IsPath}
use Rattle.bulk_script.specs.Spelled.{spaced, spelled, text_of}
use Rattle.bulk_script.specs.Bulk.{name_of, label_of}
use Rattle.bulk_script.proofs.Words.{AreSolid, in_line, words_of_line, line_of_spaced, behind_spaced}
use Rattle.bulk_script.proofs.Decimals.{decimal_is, decimal_solid, name_solid}
use Rattle.bulk_script.proofs.PathTexts.{path_solid, label_solid, home_is_path, target_is_path, label_is}

-- after these lines the text of more lines is read as them
abbrev pub IsRead : Past → List Line → Type 0
IsRead p ls = IsFrom p (text_of ls) ls

pub nothing_read : (p : Past) → IsRead p []
unfolding text_of
nothing_read p = ended p

line_told : (p : Past) (w : List ℕ) (ws : List (List ℕ)) (rest left : List ℕ) (f : Form) (l : Line) (ls : List Line) → AreSolid (w ∷ ws) → (IsSkipped (in_line (w ∷ ws)) → ⊥) →
    form_of (w ∷ ws) ≡ Some f → AllHold (tests p f rest) → Makes f rest l left → IsFrom (after p l) left ls → IsFrom p (spaced (w ∷ ws) ++ rest) (l ∷ ls)
line_told p w ws rest left f l ls a ns e h m go =
    let x = line_of_spaced w ws rest a in
    let y = behind_spaced w ws rest a in
    told p (spaced (w ∷ ws) ++ rest) left f l ls (λ k. ns (subst (λ (bs : List ℕ). IsSkipped bs) x k))
    (ap (λ (bs : List ℕ). form_of (words bs)) x ∙ ap form_of (words_of_line w ws a) ∙ e)
    (subst (λ (r : List ℕ). AllHold (tests p f r)) (sym y) h) (subst (λ (r : List ℕ). Makes f r l left) (sym y) m) go

pub commit_read : (p : Past) (ls : List Line) → IsRead (after p Commit) ls → IsRead p (Commit ∷ ls)
unfolding text_of
commit_read p ls go =
    let a : AreSolid (codes "commit" ∷ []) = ((refl, (refl, (refl, (refl, (refl, (refl, tt)))))), tt) in
    line_told p (codes "commit") [] (text_of ls) (text_of ls) commits Commit ls a (λ k. absurd (omega (arith, k))) refl tt (commit_line (text_of ls)) go

pub open_read : (p : Past) (t : List ℕ) (ls : List Line) → IsName t → p.opened t ≡ None → IsRead (after p (Open t)) ls → IsRead p (Open t ∷ ls)
unfolding text_of
open_read p t ls h f go =
    let a : AreSolid (codes "open" ∷ t ∷ []) = ((refl, (refl, (refl, (refl, tt)))), (name_solid t h, tt)) in
    line_told p (codes "open") (t ∷ []) (text_of ls) (text_of ls) (opens t) (Open t) ls a (λ k. absurd (omega (arith, k))) refl (h, (f, tt)) (open_line t (text_of ls)) go

pub ask_read : (p : Past) (t name : List ℕ) (i : ℕ) (ls : List Line) → IsName t → p.opened t ≡ Some true → IsName name → p.asked name ≡ None → i ≤ 10000 →
    IsRead (after p (Ask (record { transaction = t; name = name; label = label_of i }))) ls → IsRead p (Ask (record { transaction = t; name = name; label = label_of i }) ∷ ls)
unfolding text_of
ask_read p t name i ls h o k f s go =
    let a : AreSolid (codes "ask" ∷ t ∷ name ∷ label_of i ∷ []) =
    ((refl, (refl, (refl, tt))), (name_solid t h, (name_solid name k, (label_solid (name_of i).home (name_of i).target (home_is_path i s) (target_is_path i s), tt)))) in
    line_told p (codes "ask") (t ∷ name ∷ label_of i ∷ []) (text_of ls) (text_of ls) (asks t name (label_of i)) (Ask (record { transaction = t; name = name; label = label_of i })) ls a
    (λ e. absurd (omega (arith, e))) refl (h, (o, (k, (f, ((name_of i, label_is i s), tt))))) (ask_line t name (label_of i) (text_of ls) (name_of i) (label_is i s)) go

-- ---- a put

put_text : (path bytes rest : List ℕ) → spelled (Put path bytes) ++ rest ≡ spaced (codes "put" ∷ path ∷ decimal (length bytes) ∷ []) ++ (bytes ++ 10 ∷ rest)
put_text path bytes rest =
    let s = spaced (codes "put" ∷ path ∷ decimal (length bytes) ∷ []) in
    append_assoc (s ++ bytes) (10 ∷ []) rest ∙ append_assoc s bytes (10 ∷ rest)

past_bytes : (bytes rest : List ℕ) → drop (length bytes + 1) (bytes ++ 10 ∷ rest) ≡ rest
past_bytes bytes rest =
    let e : length (bytes ++ 10 ∷ []) ≡ length bytes + 1 = length-append bytes (10 ∷ []) in
    ap (drop (length bytes + 1)) (sym (append_assoc bytes (10 ∷ []) rest)) ∙ drop_at (bytes ++ 10 ∷ []) rest (length bytes + 1) e

followed : (bytes rest : List ℕ) → IsFollowed (drop (length bytes) (bytes ++ 10 ∷ rest))
followed bytes rest = inr (rest, drop_at bytes (10 ∷ rest) (length bytes) refl)

enough : (bytes rest : List ℕ) → IsDecimal (decimal (length bytes)) (length bytes) → IsEnough (decimal (length bytes)) (bytes ++ 10 ∷ rest)
enough bytes rest d m h =
    let e : length bytes ≡ m = d.number ∙ sym h.number in
    let l = length-append bytes (10 ∷ rest) in
    (omega arith, subst (λ (n : ℕ). IsFollowed (drop n (bytes ++ 10 ∷ rest))) e (followed bytes rest))

put_makes : (path bytes rest : List ℕ) → IsDecimal (decimal (length bytes)) (length bytes) → Makes (puts path (decimal (length bytes))) (bytes ++ 10 ∷ rest) (Put path bytes) rest
put_makes path bytes rest d =
    let f = puts path (decimal (length bytes)) in
    let behind = bytes ++ 10 ∷ rest in
    subst (λ (bs : List ℕ). Makes f behind (Put path bs) rest) (take_at bytes (10 ∷ rest) (length bytes) refl)
    (subst (λ (r : List ℕ). Makes f behind (Put path (take (length bytes) behind)) r) (past_bytes bytes rest) (put_line path (decimal (length bytes)) behind (length bytes) d))

pub put_read : (p : Past) (path bytes : List ℕ) (ls : List Line) → IsPath path → p.touched path ≡ false → length bytes ≤ 4194304 → IsRead (after p (Put path bytes)) ls → IsRead p (Put path bytes ∷ ls)
unfolding text_of
put_read p path bytes ls h f s go =
    let n = length bytes in
    let small : n < 2 ^ 64 = omega arith in
    let d = decimal_is n small in
    let a : AreSolid (codes "put" ∷ path ∷ decimal n ∷ []) = ((refl, (refl, (refl, tt))), (path_solid path h, (decimal_solid n small, tt))) in
    let number : IsSmallNumber (decimal n) = (n, d, s) in
    subst (λ (text : List ℕ). IsFrom p text (Put path bytes ∷ ls)) (sym (put_text path bytes (text_of ls)))
    (line_told p (codes "put") (path ∷ decimal n ∷ []) (bytes ++ 10 ∷ text_of ls) (text_of ls) (puts path (decimal n)) (Put path bytes) ls a (λ k. absurd (omega (arith, k))) refl
    (h, (f, (number, (enough bytes (text_of ls) d, tt)))) (put_makes path bytes (text_of ls) d) go)
