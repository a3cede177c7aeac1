-- The contents of a text as a function of its bytes: the machine, with each of its tests decided.
use Rattle.std.specs.Prelude.{◌&&◌, ◌||◌, ◌++◌, ℕ, suc, Bool, true, false, not, if◌then◌else◌, nat_eq, nat_le, nat_lt, List, [], ◌∷◌, length, take, drop, map, Option, Some, None}
use Rattle.std.specs.Option.{option_map, option_and_then}
use Rattle.std.specs.List.{list_any, list_all, starts_with}
use Rattle.std.specs.Str.{bytes_eq}
use Rattle.buck_label.specs.Paths.{is_segment_byte}
use Rattle.buck_label.specs.Labels.{before_colon}
use Rattle.target_file.specs.declared.table.Rule.TheVariants.{WriteFile}
use Rattle.target_file.specs.declared.table.Attribute.{Attribute}
use Rattle.target_file.specs.declared.table.Attribute.TheVariants.{Name}
use Rattle.target_file.specs.declared.table.Form.{Form}
use Rattle.target_file.specs.declared.table.Form.TheVariants as form
use Rattle.target_file.specs.declared.place.Place.{Place}
use Rattle.target_file.specs.declared.place.Place.TheVariants as at
use Rattle.target_file.specs.Tokens.{Token, Word, Text, Mark, Mode, Between, Comment, Scan, start, next}
use Rattle.target_file.specs.Table.{rule_of, attribute_of, same_attribute, form_of, needed}
use Rattle.target_file.specs.Strings.{is_label_like, opener, before_close}
use Rattle.target_file.specs.Calls.{Value, One, Many, Argument, Call}
use Rattle.target_file.specs.Files.{attributes, names}
use Rattle.target_file.specs.Targets.{Located, located}
use Rattle.target_file.specs.Machine.{State, set_place, give, closed, first}

-- a file's targets in order, or the line of the fault
pub data Contents : Type 0 where
  Holds : List Located → Contents
  Fails : ℕ → Contents

-- b before the first part
abbrev pub longer_first : ℕ → List (List ℕ) → List (List ℕ)
longer_first b [] = (b ∷ []) ∷ []
longer_first b (s ∷ ss) = (b ∷ s) ∷ ss

-- what stands between the slashes
abbrev pub parts : List ℕ → List (List ℕ)
parts [] = [] ∷ []
parts (b ∷ bs) = if nat_eq b 47 then [] ∷ parts bs else longer_first b (parts bs)

abbrev pub is_segment : List ℕ → Bool
is_segment s = (list_all is_segment_byte s && not (bytes_eq s [])) && (not (bytes_eq s (46 ∷ [])) && not (bytes_eq s (46 ∷ 46 ∷ [])))

abbrev pub is_path : List ℕ → Bool
is_path x = list_all is_segment (parts x) && nat_le (length x) 255

-- a label, after its two slashes
abbrev pub is_absolute : List ℕ → Bool
is_absolute x =
    if nat_lt (before_colon x) (length x)
    then (bytes_eq (take (before_colon x) x) [] || is_path (take (before_colon x) x)) && is_path (drop (suc (before_colon x)) x)
    else is_path x

abbrev pub is_slashed : List ℕ → Bool
is_slashed [] = false
is_slashed (b ∷ x) = nat_eq b 47 && is_absolute x

abbrev pub is_some_label : List ℕ → Bool
is_some_label [] = false
is_some_label (b ∷ x) = if nat_eq b 58 then is_path x else nat_eq b 47 && is_slashed x

abbrev pub is_source : List ℕ → Bool
is_source x = if is_label_like x then is_some_label x else is_path x

abbrev pub has_close : List ℕ → Bool
has_close x = list_any (λ b. nat_eq b 41) x

abbrev pub is_located : List ℕ → Bool
is_located x = has_close x && is_some_label (before_close x)

abbrev pub is_command : List ℕ → Bool
is_command [] = true
is_command (b ∷ bs) = (not (starts_with nat_eq (b ∷ bs) opener) || is_located (drop 10 bs)) && is_command bs

abbrev pub fits : Option Form → Value → Bool
fits (Some form.Path) (One s) = is_path s
fits (Some form.Text) (One s) = true
fits (Some form.Command) (One s) = is_command s
fits (Some form.Sources) (Many ss) = list_all is_source ss
fits (Some form.Texts) (Many ss) = true
fits o v = false

abbrev pub holds : Option Form → List ℕ → Bool
holds (Some form.Sources) x = is_source x
holds (Some form.Texts) x = true
holds o x = false

abbrev pub has_form : Option Form → Bool
has_form (Some f) = true
has_form None = false

abbrev pub is_given : Attribute → List Argument → Bool
is_given a given = list_any (same_attribute a) (attributes given)

abbrev pub is_whole : State → Bool
is_whole s = list_all (λ a. is_given a s.given) (needed s.rule)

abbrev pub is_new : List Call → Attribute → Value → Bool
is_new calls Name (One x) = not (list_any (bytes_eq x) (names calls))
is_new calls a v = true

-- e if the test holds
abbrev pub where_so : Bool → State → Option State
where_so b e = if b then Some e else None

abbrev pub close_at : State → ℕ → Option State
close_at s m = where_so (nat_eq m 41 && is_whole s) (closed s)

abbrev pub name_at : State → Attribute → Option State
name_at s a = where_so (has_form (form_of s.rule a) && not (is_given a s.given)) (set_place s (at.Equal a))

-- one token more
abbrev pub step_at : Place → State → Token → Option State
step_at at.Top s (Word l w) = option_map (λ r. record { calls = s.calls; line = l; rule = r; given = []; items = []; place = at.Named }) (rule_of w)
step_at at.Named s (Mark m) = where_so (nat_eq m 40) (set_place s at.Inside)
step_at at.Inside s (Word l w) = option_and_then (name_at s) (attribute_of w)
step_at at.Inside s (Mark m) = close_at s m
step_at (at.Equal a) s (Mark m) = where_so (nat_eq m 61) (set_place s (at.Value a))
step_at (at.Value a) s (Text x) = where_so (fits (form_of s.rule a) (One x) && is_new s.calls a (One x)) (give s a (One x))
step_at (at.Value a) s (Mark m) = where_so (nat_eq m 91 && fits (form_of s.rule a) (Many [])) (record s { items = []; place = at.List a })
step_at (at.List a) s (Text x) = where_so (holds (form_of s.rule a) x) (record s { items = s.items ++ x ∷ []; place = at.Item a })
step_at (at.List a) s (Mark m) = where_so (nat_eq m 93) (give s a (Many s.items))
step_at (at.Item a) s (Mark m) = if nat_eq m 44 then Some (set_place s (at.List a)) else where_so (nat_eq m 93) (give s a (Many s.items))
step_at at.Done s (Mark m) = if nat_eq m 44 then Some (set_place s at.Inside) else close_at s m
step_at p s t = None

abbrev pub run : State → List Token → Option State
run s [] = Some s
run s (t ∷ ts) = option_and_then (λ m. run m ts) (step_at s.place s t)

-- a scan with no tokens
abbrev pub emptied : Scan → Scan
emptied t = record { tokens = []; mode = t.mode; line = t.line }

-- one byte more
abbrev pub take_byte : Scan → ℕ → State → Option (Scan × State)
take_byte s b m = option_and_then (λ t. option_map (λ e. (emptied t, e)) (run m t.tokens)) (next s b)

-- whether a file may end here
abbrev pub ends_at : Mode → Place → Bool
ends_at Between at.Top = true
ends_at Comment at.Top = true
ends_at m p = false

abbrev pub on_step : Contents → (Scan × State → Contents) → Option (Scan × State) → Contents
on_step d f None = d
on_step d f (Some p) = f p

-- the contents of the rest, after so much has been read
abbrev pub contents_from : Scan → State → List ℕ → Contents
contents_from s m [] = if ends_at s.mode m.place then Holds (map located m.calls) else Fails s.line
contents_from s m (b ∷ bs) = on_step (Fails s.line) (λ p. contents_from p.0 p.1 bs) (take_byte s b m)

-- the contents of a text
unfoldable pub contents : List ℕ → Contents
contents text = contents_from start (first WriteFile) text
