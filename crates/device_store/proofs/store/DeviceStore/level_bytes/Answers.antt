use Rattle.std.proofs.Common.{◌∙◌, ap, refl, sym, true, false, Some, None}
use Rattle.std.specs.Prelude.{is_some}
use Rattle.ckd_types.specs.declared.paths.Side.TheVariants.{A}
use Rattle.device_outside.proofs.Runs.{ended, joined}
use Rattle.device_defs.specs.Contents.{contents}
use Rattle.device_defs.specs.declared.counts.Counts.{Counts}
use Rattle.device_defs.specs.Image.{level_bytes, read_b, read_counted}
use Rattle.device_defs.specs.Losses.{call_failed}
use Rattle.device_store.specs.State.{state_of, with_pair}
use Rattle.device_store.proofs.Moves.{from_equal}
use Rattle.device_store.proofs.Volumes.{level_here, reads_on_a, same_by_a}
use Rattle.device_store.proofs.store.DeviceStore.level_bytes.Goals as goal

pub returns-then-not-is_level-clause-run : goal.returns-then-not-is_level-clause-run
unfolding level_bytes
returns-then-not-is_level-clause-run g c = λ p. rw (← c.is_level.ensures, c.if-not-is_level.true) (c.read_b.ensures.run p)

pub returns-in-Ok-clause-run : goal.returns-in-Ok-clause-run
unfolding level_bytes
returns-in-Ok-clause-run g c =
    let s = state_of c.args.self.now in
    let now = ap (λ (n : Counts). with_pair (record s { counts = n }) c.read.new.self) c.count_read.ensures
    ∙ same_by_a (read_counted s true) c.in-Ok.ensures.sides c.in-Ok.ensures.other in
    λ p. rw (← c.is_level.ensures, c.if-not-is_level.false)
    (reads_on_a g.V.Volume.view c.args.self.now.pair.volumes c.read.new.self.volumes c.in-Ok.ensures.before c.in-Ok.ensures.there
    c.in-Ok.ensures.other c.in-Ok.ensures.read (ended (sym now) refl))

pub returns-in-Err-clause-run : goal.returns-in-Err-clause-run
unfolding level_bytes
returns-in-Err-clause-run g c =
    let s = state_of c.args.self.now in
    let now = ap (λ (n : Counts). with_pair (record s { counts = n }) c.read.new.self) c.count_read-in-Err.ensures
    ∙ same_by_a (read_counted s false) c.in-Err.ensures.sides c.in-Err.ensures.other in
    λ p. rw (← c.is_level.ensures, c.if-not-is_level.false)
    (reads_on_a g.V.Volume.view c.args.self.now.pair.volumes c.read.new.self.volumes c.in-Err.ensures.before c.in-Err.ensures.there
    c.in-Err.ensures.other c.in-Err.ensures.read
    (joined (λ z _. read_b contents z c.args.t (Some A)) (from_equal (λ z. call_failed contents z A None) now refl (c.call_failed.ensures.run p))
    (c.read_b-in-Err.ensures.run p)))

pub returns-in-Ok-clause-here : goal.returns-in-Ok-clause-here
returns-in-Ok-clause-here g c = λ given.
    let here = level_here c.args.self.now.pair A c.args.t (sym c.is_level.ensures ∙ c.if-not-is_level.false) in
    (here, ap is_some c.in-Ok.ensures.sides.lent ∙ here)

pub returns-in-Err-clause-here : goal.returns-in-Err-clause-here
returns-in-Err-clause-here g c = λ given.
    (level_here c.args.self.now.pair A c.args.t (sym c.is_level.ensures ∙ c.if-not-is_level.false), (c.read_b-in-Err.ensures.here given).1)
