use Rattle.std.proofs.Common.{refl}
use Rattle.std.proofs.lemmas.List.{append_assoc}
use Rattle.run_report.proofs.record.record_event.Goals as goal

pub returns : goal.returns
returns c =
    rw (
      c.in_ok-record_last.ensures,
      c.in_ok-record_over.ensures,
      c.over_of.ensures,
      c.in_ok-record_calls.ensures,
      c.in_ok-record_acts.ensures,
      c.in_ok-last.ensures.last,
      c.in_ok-last.ensures.first,
    ) (simp append_assoc refl)
