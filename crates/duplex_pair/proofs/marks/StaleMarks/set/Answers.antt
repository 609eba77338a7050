use Rattle.std.proofs.Common.{◌<◌, length, sym, ap, ◌∙◌, arith}
use Rattle.std.proofs.Math.Seq.{take-set-lt}
use Rattle.std.proofs.lemmas.List.{length-take, length-set}
use Rattle.event_notes.proofs.Loosely.{none_behind}
use Rattle.duplex_pair.proofs.marks.StaleMarks.set.Goals as goal

pub invariant_of-self : goal.invariant_of-self
invariant_of-self c =
    let i = c.self.invariant in
    let n = c.self.inside.tracks in
    let marks = c.self.inside.marks in
    let there : c.args.t < n = omega (arith, c.requires, ap length (sym c.self.view_is), length-take n marks) in (
      i.0,
      ap length c.set.ensures.marks ∙ length-set marks c.args.t c.args.stale ∙ i.1,
      none_behind marks c.set.new.self n c.args.t c.args.stale there i.2 c.set.ensures.each,
    )

pub returns : goal.returns
returns c =
    let n = c.self.inside.tracks in
    let marks = c.self.inside.marks in
    let there : c.args.t < n = omega (arith, c.requires, ap length (sym c.self.view_is), length-take n marks) in
    rw (c.set.ensures.marks, ← c.self.view_is) (take-set-lt n marks c.args.t c.args.stale there)
