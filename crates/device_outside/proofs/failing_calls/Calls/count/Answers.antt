use Rattle.std.proofs.Common.{ap, sym, ◌∙◌}
use Rattle.ckd_outside.proofs.Calls.{to_come_kept}
use Rattle.device_outside.specs.Lists.{is_in}
use Rattle.device_outside.proofs.Calls.{to_come_listed}
use Rattle.device_outside.proofs.failing_calls.Calls.count.Goals as goal

pub returns-then-made-self-clause-kept : goal.returns-then-made-self-clause-kept
returns-then-made-self-clause-kept c =
    rw (← c.self.view_is) (to_come_kept c.self.inside.made c.counted-made.result c.self.inside.failing.items c.counted-made.ensures.later)

pub returns-clause-kept : goal.returns-clause-kept
returns-clause-kept c =
    rw (← c.self.view_is) (to_come_kept c.self.inside.made c.counted-made.result c.self.inside.failing.items c.counted-made.ensures.later)

pub returns-clause-lowered : goal.returns-clause-lowered
returns-clause-lowered c =
    rw (← c.self.view_is) (λ listed. to_come_listed c.self.inside.made c.counted-made.result c.self.inside.failing.items
    (c.counted-made.ensures.more (c.is_listed.ensures.small listed)) (ap (is_in c.counted-made.result) (sym c.deref-2.ensures.value) ∙ sym c.is_listed.ensures.listed ∙ listed))
