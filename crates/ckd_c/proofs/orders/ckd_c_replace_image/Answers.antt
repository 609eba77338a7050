use Rattle.ckd_c.proofs.Coming.{a_lent_one_went}
use Rattle.ckd_c.specs.Calls.{OnSide, OrRefused, Replaces}
use Rattle.ckd_c.proofs.orders.ckd_c_replace_image.Goals as goal

pub returns : goal.returns
returns c =
    a_lent_one_went (OrRefused (OnSide c.args.side (Replaces c.args.device))) c.replace_image-code.result _ _ _ c.deref_mut.ensures.value c.in-Some.ensures.value c.put.ensures c.number_of-2.ensures c.replace_image-code.ensures
