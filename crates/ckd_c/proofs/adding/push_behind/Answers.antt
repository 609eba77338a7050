use Rattle.std.proofs.Common.{◌∙◌, ap, length, rules}
use Rattle.ckd_c.proofs.Appending.{pushed_alike, pushed_rise, pushed_table}
use Rattle.ckd_c.proofs.adding.push_behind.Goals as goal

pub invariant_of-subsystem : goal.invariant_of-subsystem
invariant_of-subsystem c = record {
  rising = rw c.in_err-push.ensures.items c.args.subsystem.now.rising;
  table = rw c.in_err-push.ensures.items c.args.subsystem.now.table;
  alike = rw c.in_err-push.ensures.items c.args.subsystem.now.alike;
}

pub invariant_of-subsystem-2 : goal.invariant_of-subsystem-2
invariant_of-subsystem-2 c =
    let ds = c.args.subsystem.now.devices.items in
    record {
      rising = pushed_rise ds c.args.device c.requires.stands c.push.new.self.items c.in_ok-push.ensures.items c.args.subsystem.now.rising;
      table = pushed_table ds c.args.device c.requires.stands c.push.new.self.items c.args.subsystem.now.places c.from-number.result (length c.devices-at.result.now)
          c.in_ok-push.ensures.items (c.from-number.ensures ∙ c.get.ensures.value ∙ c.number.ensures) (ap length c.devices-at.ensures) (search rules)
          c.args.subsystem.now.rising c.args.subsystem.now.table;
      alike = pushed_alike ds c.args.device c.requires.stands c.push.new.self.items c.in_ok-push.ensures.items c.requires.new;
    }
