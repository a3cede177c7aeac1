-- What the parts of the reader answer, over plain values.
use Rattle.std.proofs.Common.{◌≡◌, ◌≢◌, ◌∙◌, ◌+◌, sym, ap, subst, inl, inr, ℕ, true, false, List, take, drop, Ok, Err, Some, None}
use Rattle.script.specs.declared.fault.Word.{Word}
use Rattle.script.specs.declared.fault.Stop.{Stop}
use Rattle.script.specs.declared.fault.Stop.TheVariants as stop
use Rattle.script.specs.declared.line.Line.{Line}
use Rattle.script.specs.declared.line.Request.{Request}
use Rattle.script.specs.declared.line.Line.TheVariants.{Put, Drop, Commit, Open, Ask, Action, Wait, Cancel, Close}
use Rattle.script.specs.declared.fate.Fate.{Fate}
use Rattle.script.specs.declared.fate.Fate.TheVariants.{Pending, Answered, Cancelled}
use Rattle.script.specs.Lines.{IsName, words, line_of, behind_line}
use Rattle.script.specs.Past.{Past, adding, no_texts, with_entry, made_in, settling, closing, fate_of}
use Rattle.script.specs.Faults.{Tests, done, touching, FirstToFail, Form, puts, drops, commits, opens, asks, acts, waits, cancels, closes, form_of}
use Rattle.script.specs.Scripts.{IsSkipped, Makes, put_line, drop_line, commit_line, open_line, ask_line, action_line, wait_line, cancel_line, close_line}
use Rattle.script.specs.Taking.{IsUntouched, IsPutRead, IsRequestRead, IsTaken, IsLineTaken, IsTested, in_open, fresh, IsLabelRead}

pub commit_taken : (p q : Past) (behind : List ℕ) → q ≡ record p { touched = no_texts } → IsTaken p commits behind (Ok (Commit, 0)) q
commit_taken p q behind g = (tt, commit_line behind, g)

pub open_taken : (p q : Past) (t name behind : List ℕ) → name ≡ t → IsName t → p.opened t ≡ None → q ≡ record p { opened = with_entry name true p.opened } → IsTaken p (opens t) behind (Ok (Open name, 0)) q
open_taken p q t name behind e h f g =
    ((h, (f, tt)), subst (λ (n : List ℕ). Makes (opens t) behind (Open n) behind) (sym e) (open_line t behind), g)

pub put_taken : (p q : Past) (path number behind name bytes : List ℕ) (n m : ℕ) → IsPutRead p path number behind (Ok (name, n)) →
    bytes ≡ take n behind → drop m behind ≡ drop (n + 1) behind → q ≡ record p { touched = adding name p.touched } → IsTaken p (puts path number) behind (Ok (Put name bytes, m)) q
put_taken p q path number behind name bytes n m h e d g = (
  h.0,
  subst (λ (r : List ℕ). Makes (puts path number) behind (Put name bytes) r) (sym d)
      (subst (λ (b : List ℕ). Makes (puts path number) behind (Put name b) (drop (n + 1) behind)) (sym e)
      (subst (λ (a : List ℕ). Makes (puts path number) behind (Put a (take n behind)) (drop (n + 1) behind)) (sym h.1) (put_line path number behind n h.2))),
  g,
)

-- a request's operands, one after the other
pub transaction_refused : (p : Past) (t name label : List ℕ) (s : Stop) → IsTested (in_open p t) t (Err s) → IsRequestRead p t name label (Err s)
transaction_refused p t name label (stop.Fault w) (inl f) = inl f
transaction_refused p t name label (stop.Fault w) (inr (h, inl f)) = inr (h, inl f)
transaction_refused p t name label (stop.Fault w) (inr (h, inr f)) = absurd f.1
transaction_refused p t name label stop.NoMemory f = tt

pub name_refused : (p : Past) (t name label opened : List ℕ) (s : Stop) → IsTested (in_open p t) t (Ok opened) → IsTested (fresh p name) name (Err s) → IsRequestRead p t name label (Err s)
name_refused p t name label opened (stop.Fault w) h (inl f) = inr (h.1.0, inr (h.1.1.0, inl f))
name_refused p t name label opened (stop.Fault w) h (inr (k, inl f)) = inr (h.1.0, inr (h.1.1.0, inr (k, inl f)))
name_refused p t name label opened (stop.Fault w) h (inr (k, inr f)) = absurd f.1
name_refused p t name label opened stop.NoMemory h f = tt

pub label_refused : (p : Past) (t name label opened free : List ℕ) (s : Stop) → IsTested (in_open p t) t (Ok opened) → IsTested (fresh p name) name (Ok free) → IsLabelRead label (Err s) →
    IsRequestRead p t name label (Err s)
label_refused p t name label opened free (stop.Fault w) h k f = inr (h.1.0, inr (h.1.1.0, inr (k.1.0, inr (k.1.1.0, inl ((λ x. f.1 x.0 x.1), f.0)))))
label_refused p t name label opened free stop.NoMemory h k f = tt

abbrev request_of : List ℕ → List ℕ → List ℕ → Request
request_of t name label = record { transaction = t; name = name; label = label }

pub request_read : (p : Past) (t name label opened free read : List ℕ) → IsTested (in_open p t) t (Ok opened) → IsTested (fresh p name) name (Ok free) → IsLabelRead label (Ok read) →
    IsRequestRead p t name label (Ok (record { transaction = opened; name = free; label = read }))
request_read p t name label opened free read h k f = (
  (h.1.0, (h.1.1.0, (k.1.0, (k.1.1.0, ((f.0, f.1), tt))))),
  (f.0, f.1, ap (λ (x : List ℕ). request_of x free read) h.0 ∙ ap (λ (x : List ℕ). request_of t x read) k.0 ∙ ap (request_of t name) f.2),
)

-- the transaction of a request that was read is open
pub request_open : (p : Past) (t name label : List ℕ) (r : Request) → IsRequestRead p t name label (Ok r) → p.opened r.transaction ≡ Some true
request_open p t name label r h = ap (λ (x : Request). p.opened x.transaction) h.1.2 ∙ h.0.1.0

pub ask_taken : (p q : Past) (t name label behind : List ℕ) (r : Request) → IsRequestRead p t name label (Ok r) → q ≡ record p { asked = with_entry r.name (made_in r.transaction) p.asked } → IsTaken p (asks t name label) behind (Ok (Ask r, 0)) q
ask_taken p q t name label behind r h g =
    (h.0, subst (λ (s : Request). Makes (asks t name label) behind (Ask s) behind) (sym h.1.2) (ask_line t name label behind h.1.0 h.1.1), g)

pub action_taken : (p q : Past) (t name label behind : List ℕ) (r : Request) → IsRequestRead p t name label (Ok r) → q ≡ record p { asked = with_entry r.name (made_in r.transaction) p.asked } → IsTaken p (acts t name label) behind (Ok (Action r, 0)) q
action_taken p q t name label behind r h g =
    (h.0, subst (λ (s : Request). Makes (acts t name label) behind (Action s) behind) (sym h.1.2) (action_line t name label behind h.1.0 h.1.1), g)

-- a path that is refused is refused whatever tests are to come
pub touched_first : (p : Past) (path : List ℕ) (ts : Tests) (w : Word) → FirstToFail (touching p path done) w → FirstToFail (touching p path ts) w
touched_first p path ts w (inl f) = inl f
touched_first p path ts w (inr (h, inl f)) = inr (h, inl f)
touched_first p path ts w (inr (h, inr f)) = absurd f.1

pub drop_taken : (p q : Past) (path name behind : List ℕ) → IsUntouched p path (Ok name) → q ≡ record p { touched = adding name p.touched } → IsTaken p (drops path) behind (Ok (Drop name, 0)) q
drop_taken p q path name behind h g =
    (h.1, subst (λ (n : List ℕ). Makes (drops path) behind (Drop n) behind) (sym h.0) (drop_line path behind), g)

pub wait_taken : (p q : Past) (n name behind : List ℕ) (f : Fate) → name ≡ n → IsName n → fate_of p n ≡ Some f → f ≢ Cancelled → q ≡ record p { asked = settling name Answered p.asked } →
    IsTaken p (waits n) behind (Ok (Wait name, 0)) q
wait_taken p q n name behind f e h k d g =
    ((h, ((λ x. let y = sym k ∙ x in cc), ((λ x. d (let y = sym k ∙ x in cc)), tt))), subst (λ (x : List ℕ). Makes (waits n) behind (Wait x) behind) (sym e) (wait_line n behind), g)

pub cancel_taken : (p q : Past) (n name behind : List ℕ) → name ≡ n → IsName n → fate_of p n ≡ Some Pending → q ≡ record p { asked = settling name Cancelled p.asked } →
    IsTaken p (cancels n) behind (Ok (Cancel name, 0)) q
cancel_taken p q n name behind e h f g = (
  (h, ((λ k. let x = sym f ∙ k in cc), ((λ k. let x = sym f ∙ k in cc), ((λ k. let x = sym f ∙ k in cc), tt)))),
  subst (λ (x : List ℕ). Makes (cancels n) behind (Cancel x) behind) (sym e) (cancel_line n behind),
  g,
)

pub close_taken : (p q : Past) (t name behind : List ℕ) → name ≡ t → IsName t → p.opened t ≡ Some true →
    q ≡ record { touched = p.touched; opened = with_entry name false p.opened; asked = closing name p.asked } → IsTaken p (closes t) behind (Ok (Close name, 0)) q
close_taken p q t name behind e h f g =
    ((h, (f, tt)), subst (λ (n : List ℕ). Makes (closes t) behind (Close n) behind) (sym e) (close_line t behind), g)

-- a line in its text
told_line : (p q : Past) (text : List ℕ) (f : Form) (l : Line) (n m : ℕ) → (IsSkipped (line_of text) → ⊥) → form_of (words (line_of text)) ≡ Some f →
    IsTaken p f (behind_line text) (Ok (l, n)) q → drop m text ≡ drop n (behind_line text) → IsLineTaken p text (Ok (Some l, m)) q
told_line p q text f l n m s e h d = (f, s, e, h.0, subst (λ (r : List ℕ). Makes f (behind_line text) l r) (sym d) h.1, h.2)

pub line_taken : (p q : Past) (text line behind : List ℕ) (f : Form) (l : Line) (n m : ℕ) → line ≡ line_of text → behind ≡ behind_line text → (IsSkipped line → ⊥) → form_of (words line) ≡ Some f →
    IsTaken p f behind (Ok (l, n)) q → drop m text ≡ drop n behind → IsLineTaken p text (Ok (Some l, m)) q
line_taken p q text line behind f l n m a b s e h d =
    told_line p q text f l n m (λ k. s (subst IsSkipped (sym a) k)) (subst (λ (x : List ℕ). form_of (words x) ≡ Some f) a e)
    (subst (λ (x : List ℕ). IsTaken p f x (Ok (l, n)) q) b h) (d ∙ ap (drop n) b)

told_fault : (p q : Past) (text : List ℕ) (f : Form) (s : Stop) → (IsSkipped (line_of text) → ⊥) → form_of (words (line_of text)) ≡ Some f → IsTaken p f (behind_line text) (Err s) q → IsLineTaken p text (Err s) q
told_fault p q text f (stop.Fault w) s e h = (s, inr (f, e, h))
told_fault p q text f stop.NoMemory s e h = tt

pub fault_taken : (p q : Past) (text line behind : List ℕ) (f : Form) (s : Stop) → line ≡ line_of text → behind ≡ behind_line text → (IsSkipped line → ⊥) → form_of (words line) ≡ Some f →
    IsTaken p f behind (Err s) q → IsLineTaken p text (Err s) q
fault_taken p q text line behind f s a b k e h =
    told_fault p q text f s (λ x. k (subst IsSkipped (sym a) x)) (subst (λ (x : List ℕ). form_of (words x) ≡ Some f) a e) (subst (λ (x : List ℕ). IsTaken p f x (Err s) q) b h)
