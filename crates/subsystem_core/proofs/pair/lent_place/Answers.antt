use Rattle.std.proofs.Common.{◌∙◌, sym, ap}
use Rattle.std.proofs.lemmas.Option.{slice_get-get_or}
use Rattle.std.specs.Prelude.{Some}
use Rattle.subsystem_core.proofs.Numbers.{below_all, nowhere}
use Rattle.subsystem_core.proofs.Parting.{else_more}
use Rattle.subsystem_core.proofs.pair.lent_place.Goals as goal

pub loop-i-init : goal.loop-i-init
loop-i-init g c = λ j x below is. absurd (nowhere below)

pub loop-i-preserved : goal.loop-i-preserved
loop-i-preserved g c =
    else_more c.args.a c.args.devices.now c.loop-i.i c.index-devices-i.result c.loop-i-test.true c.index-devices-i.is
    (sym c.is_lent_to.ensures ∙ c.if-is_lent_to.false) c.loop-i.invariant

pub returns-then-is_lent_to : goal.returns-then-is_lent_to
returns-then-is_lent_to g c =
    let ds = c.args.devices.now in
    let x = c.index-devices-i.result in (
      record {
        device = x;
        stands = slice_get-get_or ds c.loop-i.i x c.loop-i-test.true ∙ ap Some (sym c.index-devices-i.is);
        lent = sym c.is_lent_to.ensures ∙ c.if-is_lent_to.true;
      },
      c.loop-i.invariant,
    )

pub returns : goal.returns
returns g c = λ j x below is. c.loop-i.invariant j x (below_all below c.loop-i-test.false) is
