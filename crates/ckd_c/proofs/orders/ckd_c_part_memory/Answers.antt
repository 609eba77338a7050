use Rattle.ckd_c.proofs.Coming.{a_lent_one_went}
use Rattle.ckd_c.specs.Calls.{OrRefused, Parts}
use Rattle.ckd_c.proofs.orders.ckd_c_part_memory.Goals as goal

pub returns : goal.returns
returns c =
    a_lent_one_went (OrRefused (Parts c.args.device)) c.part_memory-code.result _ _ _ c.deref_mut.ensures.value c.in-Some.ensures.value c.put.ensures c.number_of-2.ensures c.part_memory-code.ensures
