use Rattle.std.proofs.Common.{◌<◌, get_or, subst}
use Rattle.subsystem_core.specs.Devices.{numbers_of}
use Rattle.subsystem_core.proofs.Numbers.{by_table}
use Rattle.subsystem_core.proofs.Found.{count_of}
use Rattle.subsystem_core.proofs.subsystem.Subsystem.place.Goals as goal

pub returns-clause-range : goal.returns-clause-range
returns-clause-range g c =
    let it = by_table c.args.self.now.places (numbers_of c.args.self.now.devices.items) c.args.d c.args.self.now.table c.requires in
    rw (c.from.ensures, c.get.ensures.value) (subst (λ n. get_or c.args.self.now.places c.args.d 0 < n) (count_of c.args.self.now.devices.items) it.0)

pub returns-clause-found : goal.returns-clause-found
returns-clause-found g c =
    rw (c.from.ensures, c.get.ensures.value)
    (by_table c.args.self.now.places (numbers_of c.args.self.now.devices.items) c.args.d c.args.self.now.table c.requires).1
