use Rattle.std.proofs.Common.{w64, arith}
use Rattle.std.specs.Int.{trailing_zeros}
use Rattle.std.proofs.lemmas.Nat.Bits.{bit_at-zero}
use Rattle.track_table.proofs.AskedWords.{IsLowest, lowest_bit, none_in_groups}
use Rattle.track_table.proofs.marks.next_group.Given.{Over}
use Rattle.track_table.proofs.marks.next_group.Goals as goal

lowest : (g : Over) (c : goal.After-min g) → IsLowest c.groups.result c.args.from c.bits_from-groups.result (trailing_zeros w64 c.bits_from-groups.result)
lowest g c = lowest_bit c.groups.result c.args.from c.bits_from-groups.result c.bits_from-groups.ensures
    (omega (arith, c.if-groups-eq0.false)) c.bits_from-groups.type_inv

pub returns-then-groups-eq0-clause-none : goal.returns-then-groups-eq0-clause-none
returns-then-groups-eq0-clause-none g c =
    none_in_groups (g.M.Marks.marked c.args.marks.now) c.groups.result c.bits_from-groups.result c.args.from 16 c.groups.ensures
    c.bits_from-groups.ensures (omega arith) (λ j below. rw c.if-groups-eq0.true (bit_at-zero j))

pub returns-clause-least : goal.returns-clause-least
returns-clause-least g c = omega (arith, (lowest g c).reached, c.min.ensures, c.requires)

pub returns-clause-most : goal.returns-clause-most
returns-clause-most g c = omega (arith, c.min.ensures)

pub returns-clause-none : goal.returns-clause-none
returns-clause-none g c =
    none_in_groups (g.M.Marks.marked c.args.marks.now) c.groups.result c.bits_from-groups.result c.args.from c.min.result c.groups.ensures
    c.bits_from-groups.ensures (omega (arith, c.min.ensures)) (λ j below. (lowest g c).least j (omega (arith, c.min.ensures, below)))
