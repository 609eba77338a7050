use Rattle.ckd_c.proofs.Coming.{a_lent_one_went}
use Rattle.ckd_c.proofs.Refusing.{by_tries}
use Rattle.ckd_c.specs.Calls.{AddsMemory, Tries}
use Rattle.ckd_c.proofs.adding.ckd_c_add_faulty.Goals as goal

pub returns : goal.returns
returns c =
    a_lent_one_went (Tries (AddsMemory c.args.device c.args.geometry c.args.cylinders c.args.reads.now c.args.writes.now)) c.code_told-code.result _ _ _ c.deref_mut.ensures.value c.in-Some.ensures.value c.put.ensures c.number_of-2.ensures
    (by_tries (AddsMemory c.args.device c.args.geometry c.args.cylinders c.args.reads.now c.args.writes.now) c.add_memory.result c.code_told-code.ensures c.add_memory.ensures)
