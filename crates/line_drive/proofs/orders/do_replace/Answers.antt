use Rattle.std.proofs.Common.{subst}
use Rattle.deck_run.specs.Owning.{ChainsStand}
use Rattle.line_drive.proofs.Given.{replaced_owns, replaced_stands}
use Rattle.line_drive.proofs.orders.do_replace.Goals as goal

pub returns-clause-own : goal.returns-clause-own
returns-clause-own g c =
    replaced_owns c.args.d c.args.volume c.args.sub.now c.replace.new.self c.requires.here c.args.side c.replace.result c.replace.ensures.replaced

pub returns-clause-happened : goal.returns-clause-happened
returns-clause-happened g c =
    replaced_stands c.args.d c.args.volume c.args.sub.now c.replace.new.self c.requires.here c.args.side
    (subst ChainsStand c.devices.ensures c.chains_stand.ensures) c.replace.result c.replace.ensures.replaced
