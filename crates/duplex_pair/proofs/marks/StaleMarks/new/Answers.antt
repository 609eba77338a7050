use Rattle.std.proofs.Common.{◌≡◌, ◌*◌, ◌≤◌, false, length, ap, ◌∙◌, arith}
use Rattle.std.proofs.lemmas.List.{length-replicate, take-replicate}
use Rattle.track_table.proofs.Places.{empty_places}
use Rattle.duplex_pair.proofs.marks.StaleMarks.new.Goals as goal

pub invariant_of-result : goal.invariant_of-result
invariant_of-result c = (
  omega (arith, c.requires),
  ap length c.in_ok-new.ensures ∙ length-replicate 65535 false,
  λ t behind. rw c.in_ok-new.ensures (empty_places 65535 t false),
)

pub returns : goal.returns
returns c =
    let few : c.args.cylinders * 15 ≤ 65535 = omega (arith, c.requires) in
    rw c.in_ok-new.ensures (take-replicate (c.args.cylinders * 15) 65535 false few)
