use Rattle.std.proofs.Common.{subst}
use Rattle.deck_run.specs.Owning.{ChainsStand}
use Rattle.line_drive.proofs.Kept.{happens_kept, heard_kept, own_kept, settled_kept}
use Rattle.line_drive.proofs.event.do_event_with.Goals as goal

pub returns-clause-own : goal.returns-clause-own
returns-clause-own g c =
    own_kept _ c.args.sub.now c.args.keep.now c.event_with.new.self c.event_with.new.keep c.args.e c.path_stands.ensures c.requires.may
    c.event_with.ensures.numbers (subst ChainsStand c.devices.ensures c.chains_stand.ensures) c.event_with.result c.event_with.ensures.came

pub returns-clause-happened : goal.returns-clause-happened
returns-clause-happened g c =
    happens_kept _ c.args.sub.now c.args.keep.now c.event_with.new.self c.event_with.new.keep c.args.e c.path_stands.ensures c.requires.may
    c.event_with.ensures.numbers (subst ChainsStand c.devices.ensures c.chains_stand.ensures) c.event_with.result c.event_with.ensures.came

pub returns-clause-settled : goal.returns-clause-settled
returns-clause-settled g c =
    settled_kept _ c.args.sub.now c.args.keep.now c.event_with.new.self c.event_with.new.keep c.args.e c.path_stands.ensures c.requires.may
    c.event_with.ensures.numbers (subst ChainsStand c.devices.ensures c.chains_stand.ensures) c.event_with.result c.event_with.ensures.came

pub returns-clause-heard : goal.returns-clause-heard
returns-clause-heard g c =
    heard_kept _ c.args.sub.now c.args.keep.now c.event_with.new.self c.event_with.new.keep c.args.e c.path_stands.ensures c.requires.may
    c.event_with.ensures.numbers (subst ChainsStand c.devices.ensures c.chains_stand.ensures) c.event_with.result c.event_with.ensures.came
