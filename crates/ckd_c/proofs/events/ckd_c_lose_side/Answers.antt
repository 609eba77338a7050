use Rattle.ckd_c.proofs.Coming.{a_lent_one_went}
use Rattle.ckd_c.specs.Calls.{AsksOnSide}
use Rattle.subsystem_defs.specs.declared.event.Event.TheVariants as events
use Rattle.ckd_c.proofs.events.ckd_c_lose_side.Goals as goal

pub returns : goal.returns
returns c =
    a_lent_one_went (AsksOnSide c.args.side (λ s. events.FailVolume c.args.device s)) c.lose_side-code.result _ _ _ c.deref_mut.ensures.value c.in-Some.ensures.value c.put.ensures c.number_of-2.ensures c.lose_side-code.ensures
