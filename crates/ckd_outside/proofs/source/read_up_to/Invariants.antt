use Rattle.std.proofs.Common.{◌≡◌, ◌≤◌, ◌-◌, vec_len, length}
use Rattle.std.specs.Io.KnownBytes.{Consumes}
use Rattle.ckd_outside.specs.Causes.{IsKept}
use Rattle.ckd_outside.proofs.source.read_up_to.Given as goal

abbrev pub invariant-loop-buffer : goal.invariant-loop-buffer
invariant-loop-buffer g l =
    Consumes (g.S.Source.left l.fn.source) (g.S.Source.left l.source) l.text.items
    × (vec_len l.text ≤ l.most)
    × (length l.buffer ≡ 65536)
    × (g.S.Faulty.faults l.source ≡ g.S.Faulty.faults l.fn.source)
    × IsKept (g.S.Faulty.allowance l.fn.source) (g.S.Faulty.allowance l.source)

abbrev pub decreases-loop-buffer : goal.decreases-loop-buffer
decreases-loop-buffer g l = l.most - vec_len l.text
