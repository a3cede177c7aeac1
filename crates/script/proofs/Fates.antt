-- What the code knows after a line, and what the definitions say.
use Rattle.std.proofs.Common.{◌≡◌, ◌∙◌, sym, ap, refl, ℕ, Bool, true, false, cond, List, Option, Some, None}
use Rattle.std.specs.Option.{option_map}
use Rattle.std.specs.Str.{bytes_eq}
use Rattle.std.proofs.lemmas.Slice.Eq.{bytes_eq-Decides}
use Rattle.script.specs.declared.fate.Fate.{Fate}
use Rattle.script.specs.declared.fate.Fate.TheVariants.{Pending, Answered, Cancelled}
use Rattle.script.specs.declared.requests.Asked.{Asked}
use Rattle.script.specs.Past.{Texts, Table, Past, with_entry, made_in, come_to, settling, given_up, left_by, closing, fate_of}
use Rattle.script.specs.Known.{told, as_told, asked_by}

abbrev pub told_past : Texts → Table Bool → Table Asked → Past
told_past touched opened noted = record { touched = touched; opened = opened; asked = asked_by opened noted }

-- ---- what was settled stays

told_settled : (o : Option Bool) (f : Fate) → given_up f ≡ f → told o f ≡ f
told_settled None f e = refl
told_settled (Some true) f e = refl
told_settled (Some false) f e = e

settled_at : (opened : Table Bool) (f : Fate) → given_up f ≡ f → (a : Option Asked) → option_map (as_told opened) (come_to f a) ≡ come_to f (option_map (as_told opened) a)
settled_at opened f e None = refl
settled_at opened f e (Some a) = ap (λ (g : Fate). Some (record { transaction = a.transaction; fate = g })) (told_settled (opened a.transaction) f e)

settled_query : (opened : Table Bool) (f : Fate) → given_up f ≡ f → (a : Option Asked) (b : Bool) →
    option_map (as_told opened) (cond b (come_to f a) a) ≡ cond b (come_to f (option_map (as_told opened) a)) (option_map (as_told opened) a)
settled_query opened f e a true = settled_at opened f e a
settled_query opened f e a false = refl

-- a request is waited for or given up
pub settled_past : (touched : Texts) (opened : Table Bool) (noted more : Table Asked) (name : List ℕ) (f : Fate) → given_up f ≡ f → more ≡ settling name f noted →
    told_past touched opened more ≡ record (told_past touched opened noted) { asked = settling name f (asked_by opened noted) }
settled_past touched opened noted more name f e h =
    let step : asked_by opened (settling name f noted) ≡ settling name f (asked_by opened noted) = λ i q. settled_query opened f e (noted q) (bytes_eq name q) i in
    ap (told_past touched opened) h ∙ ap (λ (t : Table Asked). record (told_past touched opened noted) { asked = t }) step

-- a request that was waited for is waited for again
again_at : (a : Option Asked) → option_map (λ (x : Asked). x.fate) a ≡ Some Answered → a ≡ come_to Answered a
again_at None h = refl
again_at (Some a) h = let e : a.fate ≡ Answered = cc in ap (λ (f : Fate). Some (record { transaction = a.transaction; fate = f })) e

again_query : (name q : List ℕ) (asked : Table Asked) → option_map (λ (x : Asked). x.fate) (asked name) ≡ Some Answered → (b : Bool) → (b ≡ true → name ≡ q) → asked q ≡ cond b (come_to Answered (asked q)) (asked q)
again_query name q asked h true same = again_at (asked q) (ap (λ (n : List ℕ). option_map (λ (x : Asked). x.fate) (asked n)) (sym (same refl)) ∙ h)
again_query name q asked h false same = refl

pub again_past : (p : Past) (name : List ℕ) → fate_of p name ≡ Some Answered → p ≡ record p { asked = settling name Answered p.asked }
again_past p name h =
    let step : p.asked ≡ settling name Answered p.asked = λ i q. again_query name q p.asked h (bytes_eq name q) (bytes_eq-Decides name q).0 i in
    ap (λ (t : Table Asked). record p { asked = t }) step

-- ---- a new request

made_query : (opened : Table Bool) (t : List ℕ) → opened t ≡ Some true → (a : Option Asked) (b : Bool) →
    option_map (as_told opened) (cond b (Some (made_in t)) a) ≡ cond b (Some (made_in t)) (option_map (as_told opened) a)
made_query opened t h a true = ap (λ (o : Option Bool). Some (record { transaction = t; fate = told o Pending })) h
made_query opened t h a false = refl

pub made_past : (touched : Texts) (opened : Table Bool) (noted more : Table Asked) (name t : List ℕ) → opened t ≡ Some true → more ≡ with_entry name (made_in t) noted →
    told_past touched opened more ≡ record (told_past touched opened noted) { asked = with_entry name (made_in t) (asked_by opened noted) }
made_past touched opened noted more name t e h =
    let step : asked_by opened (with_entry name (made_in t) noted) ≡ with_entry name (made_in t) (asked_by opened noted) = λ i q. made_query opened t e (noted q) (bytes_eq name q) i in
    ap (told_past touched opened) h ∙ ap (λ (x : Table Asked). record (told_past touched opened noted) { asked = x }) step

-- ---- a new transaction has no requests

opened_fate : (o : Option Bool) (f : Fate) (b : Bool) → (b ≡ true → o ≡ None) → told (cond b (Some true) o) f ≡ told o f
opened_fate o f true h = ap (λ (x : Option Bool). told x f) (sym (h refl))
opened_fate o f false h = refl

opened_at : (opened : Table Bool) (t : List ℕ) → opened t ≡ None → (a : Option Asked) → option_map (as_told (with_entry t true opened)) a ≡ option_map (as_told opened) a
opened_at opened t h None = refl
opened_at opened t h (Some a) =
    let same : bytes_eq t a.transaction ≡ true → opened a.transaction ≡ None = λ e. ap opened (sym ((bytes_eq-Decides t a.transaction).0 e)) ∙ h in
    ap (λ (g : Fate). Some (record { transaction = a.transaction; fate = g })) (opened_fate (opened a.transaction) a.fate (bytes_eq t a.transaction) same)

pub opened_past : (touched : Texts) (opened more : Table Bool) (noted : Table Asked) (t : List ℕ) → opened t ≡ None → more ≡ with_entry t true opened →
    told_past touched more noted ≡ record (told_past touched opened noted) { opened = with_entry t true opened }
opened_past touched opened more noted t e h =
    let step : asked_by (with_entry t true opened) noted ≡ asked_by opened noted = λ i q. opened_at opened t e (noted q) i in
    ap (λ (o : Table Bool). told_past touched o noted) h ∙ ap (λ (x : Table Asked). record { touched = touched; opened = with_entry t true opened; asked = x }) step

-- ---- a transaction is closed

closed_twice : (f : Fate) → given_up f ≡ given_up (given_up f)
closed_twice Pending = refl
closed_twice Answered = refl
closed_twice Cancelled = refl

closed_told : (o : Option Bool) (f : Fate) → given_up f ≡ given_up (told o f)
closed_told None f = refl
closed_told (Some true) f = refl
closed_told (Some false) f = closed_twice f

closed_fate : (o : Option Bool) (f : Fate) (b : Bool) → told (cond b (Some false) o) f ≡ cond b (given_up (told o f)) (told o f)
closed_fate o f true = closed_told o f
closed_fate o f false = refl

closed_at : (opened : Table Bool) (t : List ℕ) (a : Option Asked) → option_map (as_told (with_entry t false opened)) a ≡ left_by t (option_map (as_told opened) a)
closed_at opened t None = refl
closed_at opened t (Some a) =
    ap (λ (g : Fate). Some (record { transaction = a.transaction; fate = g })) (closed_fate (opened a.transaction) a.fate (bytes_eq t a.transaction))

pub closed_past : (touched : Texts) (opened more : Table Bool) (noted : Table Asked) (t : List ℕ) → more ≡ with_entry t false opened →
    told_past touched more noted ≡ record { touched = touched; opened = with_entry t false opened; asked = closing t (asked_by opened noted) }
closed_past touched opened more noted t h =
    let step : asked_by (with_entry t false opened) noted ≡ closing t (asked_by opened noted) = λ i q. closed_at opened t (noted q) i in
    ap (λ (o : Table Bool). told_past touched o noted) h ∙ ap (λ (x : Table Asked). record { touched = touched; opened = with_entry t false opened; asked = x }) step
