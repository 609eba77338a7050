use Rattle.std.proofs.Common.{◌∙◌, ap, refl, true, false, Some, None}
use Rattle.device_outside.specs.Interaction.{Done, and_then}
use Rattle.device_outside.specs.Outside.{done}
use Rattle.device_outside.proofs.Runs.{joined}
use Rattle.device_defs.specs.Background.{copied, copy_read}
use Rattle.device_defs.specs.Contents.{contents}
use Rattle.device_defs.specs.declared.answers.Did.TheVariants.{Fault}
use Rattle.device_defs.specs.Losses.{call_failed}
use Rattle.device_store.specs.State.{state_of, with_pair}
use Rattle.device_store.proofs.Moves.{from_equal}
use Rattle.device_defs.specs.declared.counts.Counts.{Counts}
use Rattle.device_defs.specs.Image.{read_counted, read_side}
use Rattle.device_defs.specs.Writing.{write_counted}
use Rattle.device_store.proofs.Volumes.{reads_on, same_by, up_on, writes_on}
use Rattle.device_store.proofs.store.DeviceStore.copy_to.Goals as goal

pub read-requires-clause-up : goal.read-requires-clause-up
read-requires-clause-up g c = up_on c.args.self.now.pair c.other-from.result c.requires.a c.requires.b

pub write-took-requires-clause-up : goal.write-took-requires-clause-up
write-took-requires-clause-up g c =
    up_on c.read.new.self c.args.side (ap (λ x. x.up) c.in-Ok.ensures.sides.a ∙ c.requires.a) (ap (λ x. x.up) c.in-Ok.ensures.sides.b ∙ c.requires.b)

pub returns-in-Err-clause-run : goal.returns-in-Err-clause-run
returns-in-Err-clause-run g c =
    let s = state_of c.args.self.now in
    let e = c.in-Err.ensures in
    let now = ap (λ (n : Counts). with_pair (record s { counts = n }) c.read.new.self) c.count_read.ensures
    ∙ same_by (read_counted s false) e.sides c.other-from.result e.other e.before e.there in
    λ p. from_equal (λ f. read_side contents s f c.args.t (copy_read contents c.args.t c.args.side)) c.other-from.ensures refl
    (reads_on g.V.Volume.view c.args.self.now.pair.volumes c.read.new.self.volumes c.other-from.result e.before e.there e.other e.read
    (from_equal (λ f. and_then (call_failed contents (read_counted s false) f None) (λ z _. Done z (Some (Fault f)))) c.other-from.ensures refl
    (joined (λ z _. Done z (Some (Fault c.other-from.result)))
    (from_equal (λ z. call_failed contents z c.other-from.result None) now refl (c.call_failed.ensures.run p)) done)))

pub returns-in-Ok-clause-run : goal.returns-in-Ok-clause-run
returns-in-Ok-clause-run g c =
    let s = state_of c.args.self.now in
    let e = c.in-Ok.ensures in
    let d = c.write-took.ensures in
    let r = read_counted s true in
    let now = ap (λ (n : Counts). with_pair (record s { counts = n }) c.write-took.new.self)
    (c.count_write.ensures ∙ ap (λ (n : Counts). (write_counted (record s { counts = n }) c.write-took.result).counts) c.count_read-in-Ok.ensures)
    ∙ same_by (write_counted r c.write-took.result) d.sides c.args.side d.other d.before d.there
    ∙ same_by (write_counted r c.write-took.result) e.sides c.other-from.result e.other e.before e.there in
    λ p. from_equal (λ f. read_side contents s f c.args.t (copy_read contents c.args.t c.args.side)) c.other-from.ensures refl
    (reads_on g.V.Volume.view c.args.self.now.pair.volumes c.read.new.self.volumes c.other-from.result e.before e.there e.other e.read
    (writes_on g.V.Volume.view c.read.new.self.volumes c.write-took.new.self.volumes c.args.side d.before d.there d.other (rw c.bytes.ensures.bytes at d.wrote)
    (from_equal (λ z. copied contents c.args.t c.args.side z c.write-took.result) now refl (c.copy_written.ensures.run p))))
