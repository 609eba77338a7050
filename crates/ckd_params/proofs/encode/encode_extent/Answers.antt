use Rattle.ckd_params.proofs.ReadsBack.{extent_back}
use Rattle.ckd_params.proofs.encode.encode_extent.Goals as goal

pub returns-clause-decodes : goal.returns-clause-decodes
returns-clause-decodes c cylinders is =
    let first = rw c.cchh_of.ensures at c.put_cchh.ensures.reads_back in
    let last = rw c.cchh_of-2.ensures at c.put_cchh-2.ensures.reads_back in
    rw (
      c.put_cchh-2.ensures.bytes,
      c.put_cchh.ensures.bytes,
      c.put_number.ensures.bytes,
      c.attributes.ensures,
      c.is_some.ensures,
      c.cchh_of.ensures,
      c.cchh_of-2.ensures,
    )
    (extent_back cylinders c.args.e.now is c.put_number.ensures.reads_back first last)
