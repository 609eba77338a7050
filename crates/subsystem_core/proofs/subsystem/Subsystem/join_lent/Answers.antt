use Rattle.subsystem_core.specs.Devices.{device_at}
use Rattle.subsystem_core.proofs.Hearing.{numbers_by_spans}
use Rattle.subsystem_core.proofs.Pairing.{joins, may_join, may_lend, not_gone}
use Rattle.subsystem_core.proofs.subsystem.Subsystem.join_lent.Goals as goal

pub unreachable-requires : goal.unreachable-requires
unreachable-requires g c =
    let ch = c.lend_at.ensures.lent in
    let l = may_lend (device_at c.args.self.now.devices.items c.args.a) (device_at c.args.self.now.devices.items c.args.b) ch.before ch.stood c.requires.fine in
    not_gone ch.before c.lend_at.result ch.is_so.volume_is l.may.up c.in-None.is

pub join_at-requires-clause-here : goal.join_at-requires-clause-here
join_at-requires-clause-here g c = rw (numbers_by_spans _ _ c.lend_at.ensures.spans) c.requires.a

pub join_at-requires-clause-free : goal.join_at-requires-clause-free
join_at-requires-clause-free g c =
    let m = may_join c.args.a c.args.b c.args.self.now.devices.items _ c.in-Some.volume c.lend_at.result _ _ c.in-Some.is c.requires.fine
    c.lend_at.ensures.lent in rw m.stands m.free

pub join_at-requires-clause-size : goal.join_at-requires-clause-size
join_at-requires-clause-size g c =
    let m = may_join c.args.a c.args.b c.args.self.now.devices.items _ c.in-Some.volume c.lend_at.result _ _ c.in-Some.is c.requires.fine
    c.lend_at.ensures.lent in rw m.stands m.size

pub returns-clause-joined : goal.returns-clause-joined
returns-clause-joined g c =
    joins c.args.a c.args.b c.args.self.now _ _ _ c.in-Some.volume c.lend_at.result c.in-Some.is c.lend_at.ensures.lent c.join_at.ensures.pool
    c.join_at.ensures.joined

pub join_at-requires-clause-single : goal.join_at-requires-clause-single
join_at-requires-clause-single g c =
    let m = may_join c.args.a c.args.b c.args.self.now.devices.items _ c.in-Some.volume c.lend_at.result _ _ c.in-Some.is c.requires.fine
    c.lend_at.ensures.lent in rw m.stands m.single

pub returns-clause-stands : goal.returns-clause-stands
returns-clause-stands g c =
    λ pasts firsts all. c.join_at.ensures.stands (rw c.in-Some.is at (c.lend_at.ensures.told pasts firsts all)) pasts firsts (c.lend_at.ensures.stands pasts firsts all)
