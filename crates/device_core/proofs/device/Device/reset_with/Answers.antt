use Rattle.std.proofs.Common.{◌∙◌, refl, rules, sym}
use Rattle.device_core.specs.State.{device_of}
use Rattle.device_core.proofs.Resetting.{asks_nothing, reset_none}
use Rattle.device_outside.specs.Outside.{no_pool}
use Rattle.device_laws.proofs.counted.EventCounts.{reset_moved}
use Rattle.device_core.proofs.Away.{reset_lent_on}
use Rattle.device_core.proofs.Promising.{reset_excused, reset_sound, reset_stays_plain}
use Rattle.device_core.proofs.device.Device.reset_with.Goals as goal

pub returns-then-has_used-clause-run : goal.returns-then-has_used-clause-run
returns-then-has_used-clause-run g c =
    λ p. asks_nothing p c.args.keep.now c.args.self.now.store c.reset_other.new.self.store c.reset_other.ensures.done c.reset_other.ensures.store

pub returns-clause-run : goal.returns-clause-run
returns-clause-run g c =
    λ p. asks_nothing p c.args.keep.now c.args.self.now.store c.args.self.now.store
    (reset_none (device_of c.args.self.now) c.args.path (sym c.runs_on.ensures ∙ c.if-runs_on.false) (sym c.has_used.ensures ∙ c.if-has_used.false)) refl

pub returns-then-runs_on-clause-transfers : goal.returns-then-runs_on-clause-transfers
returns-then-runs_on-clause-transfers g c = reset_moved _ _ _ _ (c.cut_program.ensures.run (no_pool 0))

pub returns-then-has_used-clause-transfers : goal.returns-then-has_used-clause-transfers
returns-then-has_used-clause-transfers g c = reset_moved _ _ _ _ (returns-then-has_used-clause-run g c (no_pool 0))

pub returns-clause-transfers : goal.returns-clause-transfers
returns-clause-transfers g c = reset_moved _ _ _ _ (returns-clause-run g c (no_pool 0))

pub returns-then-runs_on-clause-sound : goal.returns-then-runs_on-clause-sound
returns-then-runs_on-clause-sound g c = reset_sound _ _ _ _ _ _ c.args.path (search rules) (search rules) (c.cut_program.ensures.run (no_pool 0))

pub returns-then-runs_on-clause-plain : goal.returns-then-runs_on-clause-plain
returns-then-runs_on-clause-plain g c = reset_stays_plain _ _ _ _ _ _ c.args.path (search rules) (search rules) (c.cut_program.ensures.run (no_pool 0))

pub returns-then-runs_on-clause-excused : goal.returns-then-runs_on-clause-excused
returns-then-runs_on-clause-excused g c = reset_excused _ _ _ _ _ _ c.args.path (search rules) (search rules) (c.cut_program.ensures.run (no_pool 0))

pub returns-then-has_used-clause-sound : goal.returns-then-has_used-clause-sound
returns-then-has_used-clause-sound g c = reset_sound _ _ _ _ _ _ c.args.path (search rules) (search rules) (returns-then-has_used-clause-run g c (no_pool 0))

pub returns-then-has_used-clause-plain : goal.returns-then-has_used-clause-plain
returns-then-has_used-clause-plain g c = reset_stays_plain _ _ _ _ _ _ c.args.path (search rules) (search rules) (returns-then-has_used-clause-run g c (no_pool 0))

pub returns-then-has_used-clause-excused : goal.returns-then-has_used-clause-excused
returns-then-has_used-clause-excused g c = reset_excused _ _ _ _ _ _ c.args.path (search rules) (search rules) (returns-then-has_used-clause-run g c (no_pool 0))

pub returns-clause-sound : goal.returns-clause-sound
returns-clause-sound g c = reset_sound _ _ _ _ _ _ c.args.path (search rules) (search rules) (returns-clause-run g c (no_pool 0))

pub returns-clause-plain : goal.returns-clause-plain
returns-clause-plain g c = reset_stays_plain _ _ _ _ _ _ c.args.path (search rules) (search rules) (returns-clause-run g c (no_pool 0))

pub returns-clause-excused : goal.returns-clause-excused
returns-clause-excused g c = reset_excused _ _ _ _ _ _ c.args.path (search rules) (search rules) (returns-clause-run g c (no_pool 0))

pub returns-then-runs_on-clause-lent : goal.returns-then-runs_on-clause-lent
returns-then-runs_on-clause-lent g c = reset_lent_on _ _ _ _ _ _ c.args.path (search rules) (search rules) (c.cut_program.ensures.run (no_pool 0))

pub returns-then-has_used-clause-lent : goal.returns-then-has_used-clause-lent
returns-then-has_used-clause-lent g c = reset_lent_on _ _ _ _ _ _ c.args.path (search rules) (search rules) (returns-then-has_used-clause-run g c (no_pool 0))

pub returns-clause-lent : goal.returns-clause-lent
returns-clause-lent g c = reset_lent_on _ _ _ _ _ _ c.args.path (search rules) (search rules) (returns-clause-run g c (no_pool 0))
