use Rattle.ckd_c.proofs.Coming.{a_lent_one_went}
use Rattle.ckd_c.specs.Calls.{EventCame, Silent}
use Rattle.ckd_c.proofs.events.event_of_all.Goals as goal

pub returns : goal.returns
returns c =
    a_lent_one_went (EventCame c.args.e Silent) c.ask-code.result _ _ _ c.deref_mut.ensures.value c.in-Some.ensures.value c.put.ensures c.number_of-2.ensures c.ask-code.ensures.asked
