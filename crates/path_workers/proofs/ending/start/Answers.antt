use Rattle.std.proofs.Common.{◌≤◌, ℕ, subst}
use Rattle.path_workers.proofs.Keeping.{started_stays}
use Rattle.path_workers.proofs.ending.start.Goals as goal

pub returns-in-Ok : goal.returns-in-Ok
returns-in-Ok g c =
    let number = c.get-number.ensures in
    record {
      stays =
          started_stays c.args.device.now c.begin.new.device c.args.path (subst (λ (n : ℕ). 1 ≤ n) number.value number.least)
          (subst (λ (n : ℕ). n ≤ 4) number.value number.most) c.in-Ok.ensures.started c.begin.ensures.store c.requires.free;
    }
