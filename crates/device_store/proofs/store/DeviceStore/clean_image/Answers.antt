use Rattle.std.proofs.Common.{◌∙◌, ap, sym}
use Rattle.std.specs.Prelude.{is_some}
use Rattle.event_notes.specs.Loose.{is_loose_in}
use Rattle.device_outside.specs.Outside.{done}
use Rattle.device_outside.proofs.Runs.{asks}
use Rattle.device_defs.specs.Contents.{contents}
use Rattle.device_defs.specs.Image.{miss}
use Rattle.device_store.specs.State.{outside_of}
use Rattle.device_store.proofs.Moves.{from_equal}
use Rattle.device_store.proofs.store.DeviceStore.clean_image.Goals as goal

pub returns-then-is_bypass-clause-run : goal.returns-then-is_bypass-clause-run
returns-then-is_bypass-clause-run g c = rw (← c.is_bypass.ensures, c.if-is_bypass.true) c.miss.ensures.run

pub returns-then-touch-clause-run : goal.returns-then-touch-clause-run
returns-then-touch-clause-run g c =
    rw (← c.is_bypass.ensures, c.if-is_bypass.false) (asks (rw c.if-touch.true at c.touch.ensures) done)

pub returns-clause-run : goal.returns-clause-run
returns-clause-run g c =
    rw (← c.is_bypass.ensures, c.if-is_bypass.false) (asks (rw c.if-touch.false at c.touch.ensures)
    (from_equal (λ z. miss contents z c.args.usage.now c.args.t) c.forget.ensures.state
    (ap (λ x. outside_of (g.P.Port.view c.touch.new.self) g.V.Volume.view x c.args.keep.now) c.forget.ensures.leaves.volume) c.miss-2.ensures.run))

pub miss-requires-2-clause-firm : goal.miss-requires-2-clause-firm
miss-requires-2-clause-firm g c = λ here.
    ap (λ l. is_loose_in l.loose c.args.t) c.forget.ensures.leaves.loose ∙ c.requires.firm (ap (λ z. is_some z.lent) (sym c.forget.ensures.state) ∙ here)
