use Rattle.std.proofs.Common.{map}
use Rattle.ckd_c.proofs.Coming.{a_lent_one_went}
use Rattle.ckd_c.proofs.Refusing.{by_tries}
use Rattle.ckd_c.specs.Calls.{Plans, Tries, ccw_of}
use Rattle.ckd_c.proofs.planning.ckd_c_plan.Goals as goal

pub returns : goal.returns
returns c =
    a_lent_one_went (Tries (Plans c.args.device c.args.path (map ccw_of c.args.ccws.now))) c.code_told-code.result _ _ _ c.deref_mut.ensures.value c.in-Some.ensures.value c.put.ensures c.number_of-2.ensures
    (by_tries (Plans c.args.device c.args.path (map ccw_of c.args.ccws.now)) c.plan.result c.code_told-code.ensures c.plan.ensures)
