use Rattle.line_drive.proofs.Given.{unpaired_owns, unpaired_stands}
use Rattle.line_drive.proofs.orders.do_unpair.Goals as goal

pub returns-clause-own : goal.returns-clause-own
returns-clause-own g c =
    unpaired_owns c.args.a c.args.volume c.args.sub.now c.unpair.new.self c.requires.here c.unpair.result c.unpair.ensures.unpaired

pub returns-clause-happened : goal.returns-clause-happened
returns-clause-happened g c =
    unpaired_stands c.args.a c.args.volume c.args.sub.now c.unpair.new.self c.requires.here c.unpair.result c.unpair.ensures.unpaired
