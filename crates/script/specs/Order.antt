-- What a script's lines keep among one another.
use Rattle.std.specs.Prelude.{◌≡◌, ◌≢◌, true, false, List, [], ◌∷◌, Some, None}
use Rattle.buck_label.specs.Paths.{IsPath}
use Rattle.script.specs.Lines.{IsName}
use Rattle.script.specs.Past.{Past, after, fate_of}
use Rattle.script.specs.declared.fate.Fate.TheVariants.{Pending, Cancelled}
use Rattle.script.specs.declared.line.Line.{Line}
use Rattle.script.specs.declared.line.Request.{Request}
use Rattle.script.specs.declared.line.Line.TheVariants.{Put, Drop, Commit, Open, Ask, Action, Wait, Cancel, Close}

-- its transaction is open, and no earlier request has its name
pub record IsNew (p : Past) (r : Request) : Type 0 where
  pub opened : p.opened r.transaction ≡ Some true
  pub free : p.asked r.name ≡ None

abbrev pub Fits : Past → Line → Type 0
Fits p (Put path bytes) = IsPath path × (p.touched path ≡ false)
Fits p (Drop path) = IsPath path × (p.touched path ≡ false)
Fits p Commit = Unit {0}
Fits p (Open t) = IsName t × (p.opened t ≡ None)
Fits p (Ask r) = IsNew p r
Fits p (Action r) = IsNew p r
Fits p (Wait name) = (fate_of p name ≢ None) × (fate_of p name ≢ Some Cancelled)
Fits p (Cancel name) = fate_of p name ≡ Some Pending
Fits p (Close t) = p.opened t ≡ Some true

abbrev pub InOrder : Past → List Line → Type 0
InOrder p [] = Unit {0}
InOrder p (l ∷ ls) = Fits p l × InOrder (after p l) ls
