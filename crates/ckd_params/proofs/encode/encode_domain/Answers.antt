use Rattle.ckd_params.proofs.ReadsBack.{domain_back}
use Rattle.ckd_params.proofs.encode.encode_domain.Goals as goal

pub returns-clause-decodes : goal.returns-clause-decodes
returns-clause-decodes c cylinders is =
    let seek = rw c.cchh_of.ensures at c.put_cchh.ensures.reads_back in
    rw (c.actions.ensures, c.put_cchh-2.ensures.bytes, c.put_cchh.ensures.bytes, c.cchh_of.ensures)
    (domain_back cylinders c.args.d.now is seek c.put_cchh-2.ensures.reads_back)
