use Rattle.std.proofs.Common.{◌∙◌, true, false, refl, sym, ap}
use Rattle.std.specs.Prelude.{is_some, option_map}
use Rattle.std.proofs.lemmas.Result.{IfOk-weaker, on_err_weaker}
use Rattle.device_outside.proofs.Runs.{ended, tries}
use Rattle.device_defs.specs.Command.{command, command_by}
use Rattle.device_defs.specs.Contents.{contents}
use Rattle.device_defs.specs.Device.{event}
use Rattle.device_store.specs.State.{half_of, state_of}
use Rattle.device_store.proofs.Moves.{had_ok, from_equal}
use Rattle.device_core.proofs.Commands.{same_device}
use Rattle.device_core.proofs.Parts.{mapped_some, none_unmapped}
use Rattle.device_laws.proofs.counted.Calls.{ends_as_seen}
use Rattle.device_laws.proofs.counted.EventCounts.{command_moved, hit_reads_none}
use Rattle.std.specs.Prelude.{Err}
use Rattle.device_core.specs.State.{device_of, last_end, last_end_of}
use Rattle.device_core.proofs.FastWrites.{fast_writes_none}
use Rattle.device_core.proofs.Promising.{command_ends, command_excused, command_stays_same, command_sound, command_stays_plain, runs_there}
use Rattle.device_core.proofs.device.Device.command_with.Goals as goal

pub reserve-requires-clause-running : goal.reserve-requires-clause-running
reserve-requires-clause-running g c = runs_there c.args.self.now.past.running c.requires.running

pub returns-in-Err-clause-run : goal.returns-in-Err-clause-run
unfolding command
returns-in-Err-clause-run g c =
    tries false tt (ended (same_device (state_of c.args.self.now.store) c.args.self.now.paths c.args.self.now.plans c.args.self.now.past
    c.reserve.new.self c.in-Err.ensures.history c.in-Err.ensures.chain) refl)

pub returns-clause-run : goal.returns-clause-run
unfolding command
returns-clause-run g c =
    tries true (had_ok c.command_event.result)
    (from_equal (λ z. event contents z (λ y. command_by contents y y.history.running y.chain))
    (sym (same_device (state_of c.args.self.now.store) c.args.self.now.paths c.args.self.now.plans c.args.self.now.past c.reserve.new.self
    c.in-Ok.ensures.history c.in-Ok.ensures.chain)) refl c.command_event.ensures.run)

pub command_event-requires-clause-whole : goal.command_event-requires-clause-whole
command_event-requires-clause-whole g c = none_unmapped half_of c.args.self.now.store.half c.requires.whole

pub returns-clause-half : goal.returns-clause-half
returns-clause-half g c =
    IfOk-weaker c.command_event.result _ _ (λ step is. mapped_some half_of c.command_event.new.self.store.half ∙ is) c.command_event.ensures.half

pub returns-clause-same : goal.returns-clause-same
returns-clause-same g c =
    on_err_weaker c.command_event.result (λ is. ap (λ x. is_some (option_map half_of x)) is) c.command_event.ensures.same

pub returns-in-Err-clause-ends_as_seen : goal.returns-in-Err-clause-ends_as_seen
returns-in-Err-clause-ends_as_seen g c = ends_as_seen _ _ _ (returns-in-Err-clause-run g c)

pub returns-clause-ends_as_seen : goal.returns-clause-ends_as_seen
returns-clause-ends_as_seen g c = ends_as_seen _ _ _ (returns-clause-run g c)

pub returns-in-Err-clause-hit_reads_none : goal.returns-in-Err-clause-hit_reads_none
returns-in-Err-clause-hit_reads_none g c = hit_reads_none _ _ _ (returns-in-Err-clause-run g c)

pub returns-clause-hit_reads_none : goal.returns-clause-hit_reads_none
returns-clause-hit_reads_none g c = hit_reads_none _ _ _ (returns-clause-run g c)

pub returns-in-Err-clause-transfers : goal.returns-in-Err-clause-transfers
returns-in-Err-clause-transfers g c = command_moved _ _ _ (returns-in-Err-clause-run g c)

pub returns-clause-transfers : goal.returns-clause-transfers
returns-clause-transfers g c = command_moved _ _ _ (returns-clause-run g c)

pub returns-in-Err-clause-sound : goal.returns-in-Err-clause-sound
returns-in-Err-clause-sound g c =
    command_sound _ _ _ _ _ _ c.requires.running c.requires.whole c.recall_chain.ensures (last_end_of c.reserve.new.self) (Err (record {})) (returns-in-Err-clause-run g c)

pub returns-clause-sound : goal.returns-clause-sound
returns-clause-sound g c =
    command_sound _ _ _ _ _ _ c.requires.running c.requires.whole c.recall_chain.ensures (last_end c.command_event.new.self) c.command_event.result (returns-clause-run g c)

pub returns-in-Err-clause-plain : goal.returns-in-Err-clause-plain
returns-in-Err-clause-plain g c =
    command_stays_plain _ _ _ _ _ _ c.requires.running c.requires.whole c.recall_chain.ensures (last_end_of c.reserve.new.self) (Err (record {})) (returns-in-Err-clause-run g c)

pub returns-clause-plain : goal.returns-clause-plain
returns-clause-plain g c =
    command_stays_plain _ _ _ _ _ _ c.requires.running c.requires.whole c.recall_chain.ensures (last_end c.command_event.new.self) c.command_event.result
    (returns-clause-run g c)

pub returns-clause-excused : goal.returns-clause-excused
returns-clause-excused g c =
    command_excused _ _ _ _ _ _ c.requires.running c.requires.whole c.recall_chain.ensures (last_end c.command_event.new.self) c.command_event.result (returns-clause-run g c)

pub returns-in-Err-clause-same_without_memory : goal.returns-in-Err-clause-same_without_memory
returns-in-Err-clause-same_without_memory g c =
    command_stays_same _ _ _ _ _ _ c.requires.running c.requires.whole c.recall_chain.ensures (last_end_of c.reserve.new.self) (Err (record {})) (returns-in-Err-clause-run g c)

pub returns-clause-same_without_memory : goal.returns-clause-same_without_memory
returns-clause-same_without_memory g c =
    command_stays_same _ _ _ _ _ _ c.requires.running c.requires.whole c.recall_chain.ensures (last_end c.command_event.new.self) c.command_event.result (returns-clause-run g c)

pub returns-in-Err-clause-ends : goal.returns-in-Err-clause-ends
returns-in-Err-clause-ends g c =
    command_ends c.args.self.now c.args.self.now c.requires.running c.requires.whole c.recall_chain.ensures (returns-in-Err-clause-ends_as_seen g c)

pub returns-clause-ends : goal.returns-clause-ends
returns-clause-ends g c = command_ends c.args.self.now c.args.self.now c.requires.running c.requires.whole c.recall_chain.ensures (returns-clause-ends_as_seen g c)

pub returns-in-Err-clause-fast_writes_none : goal.returns-in-Err-clause-fast_writes_none
returns-in-Err-clause-fast_writes_none g c past first stands = fast_writes_none (device_of c.args.self.now) (returns-in-Err-clause-ends g c past first stands)

pub returns-clause-fast_writes_none : goal.returns-clause-fast_writes_none
returns-clause-fast_writes_none g c past first stands = fast_writes_none (device_of c.args.self.now) (returns-clause-ends g c past first stands)
