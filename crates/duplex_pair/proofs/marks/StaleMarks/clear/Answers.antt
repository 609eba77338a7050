use Rattle.std.proofs.Common.{◌≡◌, false, length, sym, ap, ◌∙◌, arith}
use Rattle.std.proofs.lemmas.List.{length-replicate, length-take-le, take-replicate}
use Rattle.track_table.proofs.Places.{empty_places}
use Rattle.duplex_pair.proofs.marks.StaleMarks.clear.Goals as goal

pub invariant_of-self : goal.invariant_of-self
invariant_of-self c = (
  c.self.invariant.0,
  ap length c.clear.ensures ∙ length-replicate 65535 false,
  λ t
      behind. rw c.clear.ensures (empty_places 65535 t false),
)

pub returns : goal.returns
returns c =
    let n = c.self.inside.tracks in
    let marks = c.self.inside.marks in
    let tracks : length c.args.self.now ≡ n = ap length (sym c.self.view_is) ∙ length-take-le n marks (omega (arith, c.self.invariant.0, c.self.invariant.1)) in
    rw (c.clear.ensures, tracks) (take-replicate n 65535 false c.self.invariant.0)
