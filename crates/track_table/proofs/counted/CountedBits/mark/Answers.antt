use Rattle.std.proofs.Common.{◌≡◌, ◌<◌, ◌==◌, ◌∙◌, true, length, refl, ap, sym, arith}
use Rattle.std.specs.Prelude.{if◌then◌else◌}
use Rattle.std.proofs.lemmas.List.{length-set}
use Rattle.track_table.specs.Bits.{is_marked}
use Rattle.track_table.proofs.Counts.{count_set, few_marked, one_if}
use Rattle.track_table.proofs.counted.CountedBits.mark.Goals as goal

pub overflow_add-self : goal.overflow_add-self
overflow_add-self c =
    let there : c.args.t < 65535 = omega (arith, c.get-track.ensures.value, c.get-track.ensures.range) in
    let f = is_marked c.self.inside.bits in
    let more = count_set 65535 f (λ q. if q == c.args.t then true else f q) c.args.t true (λ q. refl) there in
    let few = few_marked 65535 (λ q. if q == c.args.t then true else f q) in
    let none : one_if (f c.args.t) ≡ 0 = ap one_if (sym c.has.ensures ∙ c.if-has.false) in
    omega (arith, few, more, none, c.self.invariant.0)

pub invariant_of-self : goal.invariant_of-self
invariant_of-self c =
    let there : c.args.t < 65535 = omega (arith, c.get-track.ensures.value, c.get-track.ensures.range) in
    let changed = count_set 65535 (is_marked c.self.inside.bits) (is_marked c.set.new.self) c.args.t true c.set.ensures.each there in
    let none : one_if (is_marked c.self.inside.bits c.args.t) ≡ 0 = ap one_if (sym c.has.ensures ∙ c.if-has.false) in (
      omega (arith, changed, none, c.self.invariant.0),
      ap length c.set.ensures.marks ∙ length-set c.self.inside.bits c.args.t true ∙ c.self.invariant.1,
    )
