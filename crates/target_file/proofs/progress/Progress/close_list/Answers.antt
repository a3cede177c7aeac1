use Rattle.std.proofs.Common.{map, refl}
use Rattle.target_file.specs.Seen.{call_of}
use Rattle.target_file.proofs.Numbers.{list_kept}
use Rattle.target_file.proofs.progress.Progress.close_list.Goals as goal

pub invariant_of-self-2 : goal.invariant_of-self-2
invariant_of-self-2 c =
    let p = c.args.self.now in record {
      numbered = λ q. list_kept q _ (map call_of p.calls.items) p.given.items c.push.new.self.items _ _ c.in_ok-push.ensures.items refl (p.numbered q);
      idle = λ e. cc;
    }
