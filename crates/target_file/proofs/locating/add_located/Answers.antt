use Rattle.target_file.proofs.Finding.{put_last}
use Rattle.target_file.proofs.locating.add_located.Goals as goal

pub returns : goal.returns
returns c = put_last c.args.targets.now.items c.push.new.self.items c.in_ok-locate.field-0 c.args.call c.in_ok-push.ensures.items c.in_ok-locate.ensures
