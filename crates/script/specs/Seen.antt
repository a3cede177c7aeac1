-- The code's forms of lines, as the definitions have them.
use Rattle.script.specs.declared.form.Form.{Form as Written}
use Rattle.script.specs.declared.form.Form.TheVariants as code
use Rattle.script.specs.Faults.{Form, puts, drops, commits, opens, asks, acts, waits, cancels, closes}

abbrev pub form_seen : Written → Form
form_seen (code.Put path number) = puts path.now number.now
form_seen (code.Drop path) = drops path.now
form_seen code.Commit = commits
form_seen (code.Open t) = opens t.now
form_seen (code.Ask t n l) = asks t.now n.now l.now
form_seen (code.Action t n l) = acts t.now n.now l.now
form_seen (code.Wait name) = waits name.now
form_seen (code.Cancel name) = cancels name.now
form_seen (code.Close t) = closes t.now
