use Rattle.std.proofs.Common.{◌∙◌, sym, ap}
use Rattle.action_digest.specs.Buck.{absent_of}
use Rattle.action_digest.proofs.buck.BuckUniverse.absent.Goals as goal

pub returns-in-Source : goal.returns-in-Source
returns-in-Source c = c.args.self.now.no_source_is c.in-Source.field-0 ∙ ap absent_of (sym c.in-Source.is)

pub returns-in-Package : goal.returns-in-Package
returns-in-Package c = c.args.self.now.no_package_is c.in-Package.field-0 ∙ ap absent_of (sym c.in-Package.is)

pub returns-in-Rule : goal.returns-in-Rule
returns-in-Rule c = c.args.self.now.no_rule_is c.in-Rule.field-0 ∙ ap absent_of (sym c.in-Rule.is)

pub returns-in-Action : goal.returns-in-Action
returns-in-Action c = c.args.self.now.no_action_is c.in-Action.field-0 ∙ ap absent_of (sym c.in-Action.is)

pub returns-in-Digest : goal.returns-in-Digest
returns-in-Digest c = c.args.self.now.no_digest_is c.in-Digest.field-0 ∙ ap absent_of (sym c.in-Digest.is)
