use Rattle.std.proofs.Common.{◌∙◌, ◌<◌, sym, arith, length}
use Rattle.std.proofs.lemmas.List.{length-set}
use Rattle.subsystem_core.specs.Devices.{numbers_of}
use Rattle.subsystem_core.proofs.Numbers.{above_same, below_all, below_same, table_more}
use Rattle.subsystem_core.proofs.Found.{number_at, count_of}
use Rattle.subsystem_core.proofs.place.places_of.Goals as goal

pub loop-i-preserved : goal.loop-i-preserved
loop-i-preserved g c =
    let ds = c.args.devices.now in
    let number = number_at ds c.loop-i.i c.index-devices-i.result c.loop-i-test.true c.index-devices-i.is in
    let below : c.from.result < length c.loop-i.places = omega (arith, c.from.ensures, c.get.ensures.range, c.loop-i.invariant.places) in
    record {
      places = length-set c.loop-i.places c.from.result c.loop-i.i ∙ c.loop-i.invariant.places;
      table = table_more c.loop-i.places (numbers_of ds) c.loop-i.i c.from.result c.requires (below_same c.loop-i-test.true (count_of ds))
          (number ∙ sym c.number.ensures ∙ sym c.get.ensures.value ∙ sym c.from.ensures) below c.loop-i.invariant.table;
    }

pub returns : goal.returns
returns g c = λ i within. c.loop-i.invariant.table i
    (below_all within (above_same c.loop-i-test.false (count_of c.args.devices.now)))
