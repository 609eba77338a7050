-- How the command at hand of a running program comes out, and the device behind it.
use Rattle.std.specs.Prelude.{ℕ, Some, None, if◌then◌else◌}
use Rattle.ckd_types.specs.declared.channel.CommandEnd.{CommandEnd}
use Rattle.ckd_types.specs.Parameters.{is_provisional}
use Rattle.ckd_chain.specs.declared.progress.Settled.{Settled}
use Rattle.ckd_chain.specs.declared.progress.Settled.TheVariants.{Written, Equipment}
use Rattle.ckd_chain.specs.State.{ChainState}
use Rattle.ckd_chain.specs.Steps.{chain_opened, behind, end_with, settled_by, again_from, mode_by, inhibits_by, last_by}
use Rattle.plain_defs.specs.History.{History, ended, checked}
use Rattle.plain_defs.specs.PlainState.{with_sense}
use Rattle.device_defs.specs.declared.answers.Came.{Came}
use Rattle.device_defs.specs.declared.answers.Came.TheVariants.{Ends, Checks, HalfOpen}
use Rattle.device_defs.specs.declared.answers.Stepped.{Stepped}
use Rattle.device_defs.specs.declared.answers.Stepped.TheVariants.{Ended, Half}
use Rattle.device_defs.specs.declared.answers.Took.{Took}
use Rattle.device_defs.specs.declared.answers.Took.TheVariants.{Whole, Opened, Unwritten}
use Rattle.device_defs.specs.declared.usage.Usage.{Usage}
use Rattle.device_defs.specs.Device.{Device, all_reset}

-- and the chain behind it
pub record Turn : Type 0 where
  pub came : Came
  pub chain : ChainState

abbrev pub ends_with : ChainState → CommandEnd → Turn
ends_with chain e = record { came = Ends e; chain = chain }

-- it ends as the chain is settled
abbrev pub settles : ChainState → Settled → Turn
settles chain how = ends_with (behind chain (settled_by chain how)) (end_with chain (settled_by chain how))

-- with equipment check or data check it ends as if it had done nothing, and so does its program
abbrev pub checks : ChainState → Settled → Turn
checks chain how = record { came = Checks (end_with chain (settled_by chain how)); chain = behind chain (settled_by chain how) }

-- by what came of its write
abbrev pub wrote_turn : ChainState → ℕ → Took → Turn
wrote_turn chain t Whole = settles chain Written
wrote_turn chain t Opened = record { came = HalfOpen t; chain = chain }
wrote_turn chain t Unwritten = checks chain Equipment

abbrev pub usage_of : ChainState → Usage
usage_of chain = record {
  mode = mode_by chain.at.stance.extent;
  inhibit = inhibits_by chain.at.stance.extent;
  last = last_by chain.at.stance.extent;
  provisional = is_provisional chain.at.stance.extent;
}

abbrev pub told_step : Came → Stepped
told_step (Ends e) = Ended e
told_step (Checks e) = Ended e
told_step (HalfOpen t) = Half t

module _ {F P H : Type 0} where
  -- the path keeps the sense of an end
  abbrev pub sense_kept : Device F P H → ℕ → CommandEnd → Device F P H
  sense_kept d path e = record d { paths = with_sense d.paths path e.sense }

  -- no program runs any more, and the resets that waited for that are done
  abbrev pub program_over : Device F P H → History → Device F P H
  program_over d h = record d { chain = None; paths = all_reset d.paths d.history.waiting; history = h }

  abbrev pub gone_on : Device F P H → ChainState → CommandEnd → Device F P H
  gone_on d chain e =
      if e.over then program_over d (ended d.history e)
      else record d { chain = Some chain; history = ended d.history e }

  abbrev pub turned_by : Device F P H → ℕ → ChainState → Came → Device F P H
  turned_by d path chain (Ends e) = gone_on (sense_kept d path e) chain e
  turned_by d path chain (Checks e) = let z = sense_kept d path e in program_over z (checked z.history e)
  turned_by d path chain (HalfOpen t) = record d { chain = Some chain }

  -- the device behind the command of a path
  abbrev pub turned : Device F P H → ℕ → Turn → Device F P H
  turned d path turn = turned_by d path turn.chain turn.came

  -- the chain is where it was before the command at hand: memory was lacking
  abbrev pub again : Device F P H → ChainState → Device F P H
  again d chain = record d { chain = Some (again_from (chain_opened chain)) }
