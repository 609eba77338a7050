use Rattle.std.proofs.Common.{refl}
use Rattle.std.proofs.lemmas.List.{append_assoc}
use Rattle.run_report.proofs.record.record_end.Goals as goal

pub returns : goal.returns
returns c =
    rw (
      c.in_ok-record_sense.ensures,
      c.in_ok-record_sent.ensures,
      c.as_slice.ensures,
      c.in_ok-push_end_line.ensures.did,
    ) (simp append_assoc refl)
