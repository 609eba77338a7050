use Rattle.std.proofs.Common.{◌≡◌, ◌<◌, ◌∙◌, false, length, ap, sym, arith}
use Rattle.std.proofs.lemmas.List.{length-set}
use Rattle.track_table.specs.Bits.{is_marked}
use Rattle.track_table.proofs.Counts.{count_set, marked_one, one_if}
use Rattle.track_table.proofs.counted.CountedBits.unmark.Goals as goal

pub overflow_sub-self : goal.overflow_sub-self
overflow_sub-self c =
    let there : c.args.t < 65535 = omega (arith, c.get-track.ensures.value, c.get-track.ensures.range) in
    let one = marked_one 65535 (is_marked c.self.inside.bits) c.args.t there (sym c.has.ensures ∙ c.if-not-has.false) in
    omega (arith, one, c.self.invariant.0)

pub invariant_of-self : goal.invariant_of-self
invariant_of-self c =
    let there : c.args.t < 65535 = omega (arith, c.get-track.ensures.value, c.get-track.ensures.range) in
    let changed = count_set 65535 (is_marked c.self.inside.bits) (is_marked c.set.new.self) c.args.t false c.set.ensures.each there in
    let one : one_if (is_marked c.self.inside.bits c.args.t) ≡ 1 = ap one_if (sym c.has.ensures ∙ c.if-not-has.false) in (
      omega (arith, changed, one, c.self.invariant.0),
      ap length c.set.ensures.marks ∙ length-set c.self.inside.bits c.args.t false ∙ c.self.invariant.1,
    )
