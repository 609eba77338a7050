use Rattle.ckd_c.proofs.Coming.{a_lent_one_went}
use Rattle.ckd_c.proofs.Refusing.{by_tries}
use Rattle.ckd_c.specs.Calls.{AddsImage, Tries}
use Rattle.ckd_c.proofs.adding.ckd_c_add_image.Goals as goal

pub returns : goal.returns
returns c =
    a_lent_one_went (Tries (AddsImage c.args.device)) c.code_told-code.result _ _ _ c.deref_mut.ensures.value c.in-Some.ensures.value c.put.ensures c.number_of-2.ensures
    (by_tries (AddsImage c.args.device) c.add_image.result c.code_told-code.ensures c.add_image.ensures)
