use Rattle.std.proofs.Common.{◌≡◌, subst, true}
use Rattle.subsystem_core.specs.Devices.{numbers_of}
use Rattle.deck_run.specs.Opening.{is_open_line}
use Rattle.path_top.proofs.Paired.{pair_open}
use Rattle.path_top.proofs.pairs.pair_line.Goals as goal

pub join-requires-clause-a : goal.join-requires-clause-a
join-requires-clause-a g c =
    (pair_open (numbers_of c.args.sub.now.devices.items) c.in-Pair.a c.in-Pair.b
    (subst (λ e. is_open_line (numbers_of c.args.sub.now.devices.items) e ≡ true) c.in-Pair.is c.requires.here)).0

pub join-requires-clause-b : goal.join-requires-clause-b
join-requires-clause-b g c =
    (pair_open (numbers_of c.args.sub.now.devices.items) c.in-Pair.a c.in-Pair.b
    (subst (λ e. is_open_line (numbers_of c.args.sub.now.devices.items) e ≡ true) c.in-Pair.is c.requires.here)).1
