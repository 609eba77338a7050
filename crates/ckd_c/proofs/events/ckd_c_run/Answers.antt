use Rattle.ckd_c.proofs.Coming.{a_lent_one_went}
use Rattle.ckd_c.specs.Calls.{Runs}
use Rattle.ckd_c.proofs.events.ckd_c_run.Goals as goal

pub returns : goal.returns
returns c =
    a_lent_one_went (Runs c.args.device) c.run-code.result _ _ _ c.deref_mut.ensures.value c.in-Some.ensures.value c.put.ensures c.number_of-2.ensures c.run-code.ensures
