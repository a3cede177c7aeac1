-- A text has one reading as a script, or one first fault, and not both.
use Rattle.std.proofs.Common.{◌≡◌, ◌≢◌, ◌∙◌, sym, ap, refl, subst, inl, inr, ℕ, List, ◌∷◌, ◌+◌, take, drop, Option, Some, None, arith}
use Rattle.buck_label.specs.Labels.{Name, IsLabel, printed}
use Rattle.script.specs.Lines.{IsDecimal, words, line_of, behind_line}
use Rattle.script.specs.Past.{Past, nothing, after, fate_of}
use Rattle.script.specs.Faults.{Form, form_of, Tests, done, test, AllHold, FirstToFail, tests}
use Rattle.script.specs.Scripts.{Makes, put_line, drop_line, commit_line, open_line, ask_line, action_line, wait_line, cancel_line, close_line, IsFrom, ended, skipped, told, FaultAt, no_form, fails, behind_skipped, behind, IsFirstFault}
use Rattle.script.specs.Order.{Fits, InOrder}
use Rattle.script.specs.declared.fate.Fate.{Fate}
use Rattle.script.specs.declared.fate.Fate.TheVariants.{Pending, Answered, Cancelled}
use Rattle.script.specs.declared.fault.Word.{Word}
use Rattle.script.specs.declared.line.Line.{Line}
use Rattle.script.specs.declared.line.Request.{Request}
use Rattle.script.specs.declared.line.Line.TheVariants.{Put, Ask, Action}
use Rattle.lists.proofs.Lines.{line_feeds_append}
use Rattle.lists.specs.Lines.{line_feeds}

-- a label as written names one target
abbrev pub OneLabel : Type 0
OneLabel = (text : List ℕ) (m n : Name) → IsLabel text m → IsLabel text n → m ≡ n

pub holds_or_fails : (ts : Tests) (w : Word) → AllHold ts → FirstToFail ts w → ⊥
holds_or_fails done w a f = f
holds_or_fails (test h v ts) w a (inl f) = f.0 a.0
holds_or_fails (test h v ts) w a (inr f) = holds_or_fails ts w a.1 f.1

pub one_word : (ts : Tests) (v w : Word) → FirstToFail ts v → FirstToFail ts w → v ≡ w
one_word done v w f g = absurd f
one_word (test h u ts) v w (inl f) (inl g) = f.1 ∙ sym g.1
one_word (test h u ts) v w (inl f) (inr g) = absurd (f.0 g.0)
one_word (test h u ts) v w (inr f) (inl g) = absurd (g.0 f.0)
one_word (test h u ts) v w (inr f) (inr g) = one_word ts v w f.1 g.1

pub one_number : (ds : List ℕ) (m n : ℕ) → IsDecimal ds m → IsDecimal ds n → m ≡ n
one_number ds m n h k = h.number ∙ sym k.number

-- what a line makes, and what it leaves
pub record Same (l m : Line) (r s : List ℕ) : Type 0 where
  pub line : l ≡ m
  pub rest : r ≡ s

same_put : (path number rest : List ℕ) (m n : ℕ) → IsDecimal number m → IsDecimal number n → Same (Put path (take m rest)) (Put path (take n rest)) (drop (m + 1) rest) (drop (n + 1) rest)
same_put path number rest m n h k =
    let e = one_number number m n h k in
    record { line = ap (λ (i : ℕ). Put path (take i rest)) e; rest = ap (λ (i : ℕ). drop (i + 1) rest) e }

same_request : (F : Request → Line) (t name label rest : List ℕ) (m n : Name) → m ≡ n →
    Same (F (record { transaction = t; name = name; label = printed m })) (F (record { transaction = t; name = name; label = printed n })) rest rest
same_request F t name label rest m n e =
    record { line = ap (λ (x : Name). F (record { transaction = t; name = name; label = printed x })) e; rest = refl }

one_make : OneLabel → (f : Form) (bs : List ℕ) (l m : Line) (r s : List ℕ) → Makes f bs l r → Makes f bs m s → Same l m r s
one_make one f bs l m r s (put_line path number rest i h) (put_line path' number' rest' j k) = same_put path number rest i j h k
one_make one f bs l m r s (drop_line path rest) (drop_line path' rest') = record { line = refl; rest = refl }
one_make one f bs l m r s (commit_line rest) (commit_line rest') = record { line = refl; rest = refl }
one_make one f bs l m r s (open_line t rest) (open_line t' rest') = record { line = refl; rest = refl }
one_make one f bs l m r s (ask_line t name label rest x h) (ask_line t' name' label' rest' y k) = same_request Ask t name label rest x y (one label x y h k)
one_make one f bs l m r s (action_line t name label rest x h) (action_line t' name' label' rest' y k) = same_request Action t name label rest x y (one label x y h k)
one_make one f bs l m r s (wait_line name rest) (wait_line name' rest') = record { line = refl; rest = refl }
one_make one f bs l m r s (cancel_line name rest) (cancel_line name' rest') = record { line = refl; rest = refl }
one_make one f bs l m r s (close_line t rest) (close_line t' rest') = record { line = refl; rest = refl }

same_form : (text : List ℕ) (f g : Form) → form_of (words (line_of text)) ≡ Some f → form_of (words (line_of text)) ≡ Some g → f ≡ g
same_form text f g h k = let e : Some f ≡ Some g = sym h ∙ k in cc

-- a fault after one line is one after the same line
moved : (p : Past) (l m : Line) (r s left : List ℕ) (w : Word) → Same l m r s → FaultAt (after p m) s left w → FaultAt (after p l) r left w
moved p l m r s left w e f =
    subst (λ (x : Line). FaultAt (after p x) r left w) (sym e.line) (subst (λ (x : List ℕ). FaultAt (after p m) x left w) (sym e.rest) f)

moved_script : (p : Past) (l m : Line) (r s : List ℕ) (ls : List Line) → Same l m r s → IsFrom (after p m) s ls → IsFrom (after p l) r ls
moved_script p l m r s ls e f =
    subst (λ (x : Line). IsFrom (after p x) r ls) (sym e.line) (subst (λ (x : List ℕ). IsFrom (after p m) x ls) (sym e.rest) f)

same_make : OneLabel → (f g : Form) (bs : List ℕ) (l m : Line) (r s : List ℕ) → f ≡ g → Makes f bs l r → Makes g bs m s → Same l m r s
same_make one f g bs l m r s e h k = one_make one f bs l m r s h (subst (λ (x : Form). Makes x bs m s) (sym e) k)

same_fails : (p : Past) (f g : Form) (bs : List ℕ) (w : Word) → f ≡ g → AllHold (tests p f bs) → FirstToFail (tests p g bs) w → ⊥
same_fails p f g bs w e a h = holds_or_fails (tests p f bs) w a (subst (λ (x : Form). FirstToFail (tests p x bs) w) (sym e) h)

no_none : (o : Option Form) (f : Form) → o ≡ Some f → o ≡ None → ⊥
no_none o f h k = let e : Some f ≡ None = sym h ∙ k in cc

-- a script has no fault
pub no_both : OneLabel → (p : Past) (text : List ℕ) (ls : List Line) (left : List ℕ) (w : Word) → IsFrom p text ls → FaultAt p text left w → ⊥
no_both one p text ls left w (ended q) (no_form q' t ns e) = ns tt
no_both one p text ls left w (ended q) (fails q' t f v ns e x) = ns tt
no_both one p text ls left w (ended q) (behind_skipped q' t n v k s x) = k refl
no_both one p text ls left w (ended q) (behind q' t rest n f l v ns e a m x) = ns tt
no_both one p text ls left w (skipped q t ms k s r) (no_form q' t' ns e) = ns s
no_both one p text ls left w (skipped q t ms k s r) (fails q' t' f v ns e x) = ns s
no_both one p text ls left w (skipped q t ms k s r) (behind_skipped q' t' n v k' s' x) = no_both one q (behind_line t) ms n v r x
no_both one p text ls left w (skipped q t ms k s r) (behind q' t' rest n f l v ns e a m x) = ns s
no_both one p text ls left w (told q t rest f l ms ns e a m r) (no_form q' t' ns' e') = no_none (form_of (words (line_of t))) f e e'
no_both one p text ls left w (told q t rest f l ms ns e a m r) (fails q' t' g v ns' e' x) = same_fails q f g (behind_line t) v (same_form t f g e e') a x
no_both one p text ls left w (told q t rest f l ms ns e a m r) (behind_skipped q' t' n v k' s' x) = ns s'
no_both one p text ls left w (told q t rest f l ms ns e a m r) (behind q' t' rest' n g l' v ns' e' a' m' x) =
    no_both one (after q l) rest ms n v r (moved q l l' rest rest' n v (same_make one f g (behind_line t) l l' rest rest' (same_form t f g e e') m m') x)

cons_same : (l m : Line) (ls ms : List Line) → l ≡ m → ls ≡ ms → l ∷ ls ≡ m ∷ ms
cons_same l m ls ms e f = cc

-- a script has one list of lines
pub one_script : OneLabel → (p : Past) (text : List ℕ) (ls ms : List Line) → IsFrom p text ls → IsFrom p text ms → ls ≡ ms
one_script one p text ls ms (ended q) (ended q') = refl
one_script one p text ls ms (ended q) (skipped q' t ms' k s r) = absurd (k refl)
one_script one p text ls ms (ended q) (told q' t rest f l ms' ns e a m r) = absurd (ns tt)
one_script one p text ls ms (skipped q t ls' k s r) (ended q') = absurd (k refl)
one_script one p text ls ms (skipped q t ls' k s r) (skipped q' t' ms' k' s' r') = one_script one q (behind_line t) ls' ms' r r'
one_script one p text ls ms (skipped q t ls' k s r) (told q' t' rest f l ms' ns e a m r') = absurd (ns s)
one_script one p text ls ms (told q t rest f l ls' ns e a m r) (ended q') = absurd (ns tt)
one_script one p text ls ms (told q t rest f l ls' ns e a m r) (skipped q' t' ms' k' s' r') = absurd (ns s')
one_script one p text ls ms (told q t rest f l ls' ns e a m r) (told q' t' rest' g l' ms' ns' e' a' m' r') =
    let x = same_make one f g (behind_line t) l l' rest rest' (same_form t f g e e') m m' in
    cons_same l l' ls' ms' x.line (one_script one (after q l) rest ls' ms' r (moved_script q l l' rest rest' ms' x r'))

same_word : (p : Past) (f g : Form) (bs : List ℕ) (v w : Word) → f ≡ g → FirstToFail (tests p f bs) v → FirstToFail (tests p g bs) w → v ≡ w
same_word p f g bs v w e h k = one_word (tests p f bs) v w h (subst (λ (x : Form). FirstToFail (tests p x bs) w) (sym e) k)

same_holds : (p : Past) (f g : Form) (bs : List ℕ) (w : Word) → f ≡ g → FirstToFail (tests p f bs) w → AllHold (tests p g bs) → ⊥
same_holds p f g bs w e h a = holds_or_fails (tests p f bs) w (subst (λ (x : Form). AllHold (tests p x bs)) (sym e) a) h

-- a text has at most one first fault
pub one_fault : OneLabel → (p : Past) (text a b : List ℕ) (v w : Word) → FaultAt p text a v → FaultAt p text b w → (a ≡ b) × (v ≡ w)
one_fault one p text a b v w (no_form q t ns e) (no_form q' t' ns' e') = (refl, refl)
one_fault one p text a b v w (no_form q t ns e) (fails q' t' f x ns' e' k) = absurd (no_none (form_of (words (line_of t))) f e' e)
one_fault one p text a b v w (no_form q t ns e) (behind_skipped q' t' i x k s r) = absurd (ns s)
one_fault one p text a b v w (no_form q t ns e) (behind q' t' rest i f l x ns' e' h k r) = absurd (no_none (form_of (words (line_of t))) f e' e)
one_fault one p text a b v w (fails q t f x ns e k) (no_form q' t' ns' e') = absurd (no_none (form_of (words (line_of t))) f e e')
one_fault one p text a b v w (fails q t f x ns e k) (fails q' t' g y ns' e' k') = (refl, same_word q f g (behind_line t) x y (same_form t f g e e') k k')
one_fault one p text a b v w (fails q t f x ns e k) (behind_skipped q' t' i y k' s r) = absurd (ns s)
one_fault one p text a b v w (fails q t f x ns e k) (behind q' t' rest i g l y ns' e' h k' r) = absurd (same_holds q f g (behind_line t) x (same_form t f g e e') k h)
one_fault one p text a b v w (behind_skipped q t i x k s r) (no_form q' t' ns' e') = absurd (ns' s)
one_fault one p text a b v w (behind_skipped q t i x k s r) (fails q' t' g y ns' e' k') = absurd (ns' s)
one_fault one p text a b v w (behind_skipped q t i x k s r) (behind_skipped q' t' j y k' s' r') = one_fault one q (behind_line t) i j x y r r'
one_fault one p text a b v w (behind_skipped q t i x k s r) (behind q' t' rest j g l y ns' e' h k' r') = absurd (ns' s)
one_fault one p text a b v w (behind q t rest i f l x ns e h k r) (no_form q' t' ns' e') = absurd (no_none (form_of (words (line_of t))) f e e')
one_fault one p text a b v w (behind q t rest i f l x ns e h k r) (fails q' t' g y ns' e' k') = absurd (same_fails q f g (behind_line t) y (same_form t f g e e') h k')
one_fault one p text a b v w (behind q t rest i f l x ns e h k r) (behind_skipped q' t' j y k' s r') = absurd (ns s)
one_fault one p text a b v w (behind q t rest i f l x ns e h k r) (behind q' t' rest' j g l' y ns' e' h' k' r') =
    one_fault one (after q l) rest i j x y r (moved q l l' rest rest' j y (same_make one f g (behind_line t) l l' rest rest' (same_form t f g e e') k k') r')

-- one first fault stands on one line
pub one_line : OneLabel → (text : List ℕ) (m n : ℕ) (v w : Word) → IsFirstFault text m v → IsFirstFault text n w → (m ≡ n) × (v ≡ w)
one_line one text m n v w h k =
    let o = one_fault one nothing text h.left k.left v w h.fault k.fault in
    let a : line_feeds text ≡ line_feeds h.front + line_feeds h.left = ap line_feeds h.text_is ∙ line_feeds_append h.front h.left in
    let b : line_feeds text ≡ line_feeds k.front + line_feeds k.left = ap line_feeds k.text_is ∙ line_feeds_append k.front k.left in
    let c : line_feeds h.left ≡ line_feeds k.left = ap line_feeds o.0 in
    let d : m ≡ 1 + line_feeds h.front = h.line_is in
    let e : n ≡ 1 + line_feeds k.front = k.line_is in
    (omega arith, o.1)

-- neither unknown nor answered nor cancelled
pending : (o : Option Fate) → o ≢ None → o ≢ Some Answered → o ≢ Some Cancelled → o ≡ Some Pending
pending None h k g = absurd (h refl)
pending (Some Pending) h k g = refl
pending (Some Answered) h k g = absurd (k refl)
pending (Some Cancelled) h k g = absurd (g refl)

fits : (p : Past) (f : Form) (bs : List ℕ) (l : Line) (r : List ℕ) → AllHold (tests p f bs) → Makes f bs l r → Fits p l
fits p f bs l r a (put_line path number rest n h) = (a.0, a.1.0)
fits p f bs l r a (drop_line path rest) = (a.0, a.1.0)
fits p f bs l r a (commit_line rest) = tt
fits p f bs l r a (open_line t rest) = (a.0, a.1.0)
fits p f bs l r a (ask_line t name label rest n h) = record { opened = a.1.0; free = a.1.1.1.0 }
fits p f bs l r a (action_line t name label rest n h) = record { opened = a.1.0; free = a.1.1.1.0 }
fits p f bs l r a (wait_line name rest) = (a.1.0, a.1.1.0)
fits p f bs l r a (cancel_line name rest) = pending (fate_of p name) a.1.0 a.1.1.0 a.1.1.1.0
fits p f bs l r a (close_line t rest) = a.1.0

-- a script's lines fit one another
pub in_order : (p : Past) (text : List ℕ) (ls : List Line) → IsFrom p text ls → InOrder p ls
in_order p text ls (ended q) = tt
in_order p text ls (skipped q t ms k s r) = in_order q (behind_line t) ms r
in_order p text ls (told q t rest f l ms ns e a m r) = (fits q f (behind_line t) l rest a m, in_order (after q l) rest ms r)
