use Rattle.std.proofs.Common.{◌∙◌, ap, refl, sym, true, false, Some, None}
use Rattle.std.specs.Prelude.{is_some}
use Rattle.ckd_types.specs.declared.paths.Side.TheVariants.{B}
use Rattle.device_outside.specs.Interaction.{Done}
use Rattle.device_outside.specs.Outside.{done}
use Rattle.device_outside.proofs.Runs.{ended, joined}
use Rattle.device_defs.specs.Contents.{contents}
use Rattle.device_defs.specs.declared.counts.Counts.{Counts}
use Rattle.device_defs.specs.Image.{first_faulty_side, got, read_counted}
use Rattle.device_defs.specs.Losses.{call_failed}
use Rattle.device_store.specs.State.{state_of, with_pair}
use Rattle.device_store.proofs.Moves.{from_equal}
use Rattle.device_store.proofs.Volumes.{level_here, reads_on_b, same_by_b}
use Rattle.device_store.proofs.store.DeviceStore.read_b.Goals as goal

pub returns-then-not-is_level-clause-run : goal.returns-then-not-is_level-clause-run
returns-then-not-is_level-clause-run g c = λ p. rw (← c.is_level.ensures, c.if-not-is_level.true) done

pub returns-in-Ok-clause-run : goal.returns-in-Ok-clause-run
returns-in-Ok-clause-run g c =
    let s = state_of c.args.self.now in
    let now = ap (λ (n : Counts). with_pair (record s { counts = n }) c.read.new.self) c.count_read.ensures
    ∙ same_by_b (read_counted s true) c.in-Ok.ensures.sides c.in-Ok.ensures.before c.in-Ok.ensures.there in
    λ p. rw (← c.is_level.ensures, c.if-not-is_level.false)
    (reads_on_b g.V.Volume.view c.args.self.now.pair.volumes c.read.new.self.volumes c.in-Ok.ensures.before c.in-Ok.ensures.there
    c.in-Ok.ensures.other c.in-Ok.ensures.read (ended (sym now) refl))

pub returns-in-Err-clause-run : goal.returns-in-Err-clause-run
returns-in-Err-clause-run g c =
    let s = state_of c.args.self.now in
    let now = ap (λ (n : Counts). with_pair (record s { counts = n }) c.read.new.self) c.count_read-in-Err.ensures
    ∙ same_by_b (read_counted s false) c.in-Err.ensures.sides c.in-Err.ensures.before c.in-Err.ensures.there in
    λ p. rw (← c.is_level.ensures, c.if-not-is_level.false)
    (reads_on_b g.V.Volume.view c.args.self.now.pair.volumes c.read.new.self.volumes c.in-Err.ensures.before c.in-Err.ensures.there
    c.in-Err.ensures.other c.in-Err.ensures.read
    (joined (λ z _. Done z (got B None (Some (first_faulty_side c.args.fault B))))
    (from_equal (λ z. call_failed contents z B None) now refl (c.call_failed.ensures.run p))
    (ended refl (rw c.first_fault.ensures refl))))

pub returns-in-Ok-clause-here : goal.returns-in-Ok-clause-here
returns-in-Ok-clause-here g c = λ given.
    let here = level_here c.args.self.now.pair B c.args.t (sym c.is_level.ensures ∙ c.if-not-is_level.false) in
    (here, ap is_some c.in-Ok.ensures.sides.lent ∙ here)
