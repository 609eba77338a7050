-- One command of the running program.
use Rattle.std.specs.Prelude.{ℕ, zero, suc, Bool, true, false, List, [], ◌∷◌, Option, Some, None, if◌then◌else◌}
use Rattle.ckd_chain.specs.declared.progress.Progress.{Progress}
use Rattle.ckd_chain.specs.declared.progress.Progress.TheVariants as progresses
use Rattle.ckd_chain.specs.declared.progress.Settled.TheVariants.{Equipment, DataCheck}
use Rattle.ckd_chain.specs.State.{ChainState}
use Rattle.ckd_chain.specs.Steps.{need_of, stepped}
use Rattle.plain_defs.specs.declared.journal.Act.{Act}
use Rattle.plain_defs.specs.declared.journal.Act.TheVariants.{Loosen, Harden, CfwLost}
use Rattle.plain_defs.specs.declared.journal.Acted.{Acted}
use Rattle.plain_defs.specs.History.{OpenEntry}
use Rattle.plain_device.specs.Acted.{settled_act, paths_behind}
use Rattle.track_image.specs.Image.{Image}
use Rattle.device_outside.specs.Interaction.{Interaction, Done, Try, and_then}
use Rattle.device_defs.specs.declared.answers.Stepped.{Stepped}
use Rattle.device_defs.specs.declared.answers.Took.{Took}
use Rattle.device_defs.specs.declared.usage.Usage.{Usage}
use Rattle.device_defs.specs.Contents.{Contents}
use Rattle.device_defs.specs.Device.{Device, with_store, event}
use Rattle.device_defs.specs.Image.{Imaged, Has, NoBytes, BadTrack, image}
use Rattle.device_defs.specs.Memory.{tried, and_had}
use Rattle.device_defs.specs.Store.{Store, tracks_of, is_lost}
use Rattle.device_defs.specs.Outcomes.{Turn, ends_with, settles, checks, wrote_turn, usage_of, told_step, turned, again}
use Rattle.device_defs.specs.Editing.{write}

-- behind a look at one track the command came out, or goes on to another track
pub data Went : Type 0 where
  Over : Turn → Went
  On : ChainState → ℕ → Went

abbrev pub is_loss : Act → Bool
is_loss CfwLost = true
is_loss (Loosen t) = false
is_loss (Harden t) = false

-- data of cache fast write were lost while the program ran
abbrev pub has_loss : List Acted → Bool
has_loss [] = false
has_loss (a ∷ acts) = if is_loss a.act then true else has_loss acts

module _ {F P H R : Type 0} (c : Contents F P H R) where
  -- From track to track. `first` is the track that the command looked at first

  abbrev pub came_of_write : ChainState → ℕ → Store F P H → Took → Interaction R Image (Store F P H) (Option Went)
  came_of_write chain t s took = Done s (Some (Over (wrote_turn chain t took)))

  -- what a command does with the image of a track
  abbrev pub went_by : Usage → ℕ → ℕ → Store F P H → Image → ChainState → Progress → Interaction R Image (Store F P H) (Option Went)
  went_by u first t s i chain (progresses.Ended e) = Done s (Some (Over (ends_with chain e)))
  went_by u first t s i chain (progresses.Need q) = Done s (Some (On chain q))
  went_by u first t s i chain (progresses.Write q e) = and_had (write c s u first t i e) (came_of_write chain t)
  went_by u first t s i chain (progresses.Local act) = Done s (Some (Over (checks chain Equipment)))

  abbrev pub went_on : ChainState → ℕ → ℕ → Store F P H → Image → Interaction R Image (Store F P H) (Option Went)
  went_on chain first t s i =
      tried s (went_by (usage_of chain) first t s i (stepped chain (Some i)).chain (stepped chain (Some i)).progress)

  abbrev pub looked : ChainState → ℕ → ℕ → Store F P H → Imaged → Interaction R Image (Store F P H) (Option Went)
  looked chain first t s (Has i) = went_on chain first t s i
  looked chain first t s (NoBytes fault) = Done s (Some (Over (checks chain Equipment)))
  looked chain first t s (BadTrack side) = Done s (Some (Over (checks chain DataCheck)))

  -- a lost track isn't read
  unfoldable pub look : ChainState → ℕ → ℕ → Store F P H → Interaction R Image (Store F P H) (Option Went)
  look chain first t s =
      if is_lost s t then Done s (Some (Over (checks chain Equipment)))
      else and_had (image c s (usage_of chain) t) (looked chain first t)

  abbrev pub goes_on : (ChainState → ℕ → Store F P H → Interaction R Image (Store F P H) (Option Turn)) → Store F P H → Went →
      Interaction R Image (Store F P H) (Option Turn)
  goes_on next s (Over turn) = Done s (Some turn)
  goes_on next s (On chain t) = next chain t s

  -- at most as often as there are tracks
  unfoldable pub follow : ℕ → ℕ → ChainState → ℕ → Store F P H → Interaction R Image (Store F P H) (Option Turn)
  follow zero first chain t s = Done s (Some (checks chain Equipment))
  follow (suc n) first chain t s = and_had (look chain first t s) (goes_on (follow n first))

  -- The whole command

  abbrev pub came_out : Device F P H → ℕ → Turn → Interaction R Image (Device F P H) (Option Stepped)
  came_out d path turn = Done (turned d path turn) (Some (told_step turn.came))

  abbrev pub on_tracks : Device F P H → ℕ → ChainState → Store F P H → Option Turn → Interaction R Image (Device F P H) (Option Stepped)
  on_tracks d path chain s (Some turn) = came_out (with_store d s) path turn
  on_tracks d path chain s None = Done (again (with_store d s) chain) None

  -- the device does an act, or refuses it
  abbrev pub answered_by : Device F P H → ℕ → ChainState → Progress → Interaction R Image (Device F P H) (Option Stepped)
  answered_by d path chain (progresses.Ended e) = came_out d path (ends_with chain e)
  answered_by d path chain (progresses.Local act) =
      came_out (record d { paths = paths_behind d.paths path act }) path
      (settles chain (settled_act d.store.geometry d.paths path act))
  answered_by d path chain _ = came_out d path (checks chain Equipment)

  abbrev pub on_paths : Device F P H → ℕ → ChainState → Interaction R Image (Device F P H) (Option Stepped)
  on_paths d path chain =
      Try (λ ok. if ok then answered_by d path (stepped chain None).chain (stepped chain None).progress
      else Done (again d chain) None)

  abbrev pub command_at : Device F P H → ℕ → ChainState → Option ℕ → Interaction R Image (Device F P H) (Option Stepped)
  command_at d path chain (Some t) =
      and_then (follow (tracks_of d.store) t chain t d.store) (on_tracks d path chain)
  command_at d path chain None = on_paths d path chain

  -- once data of cache fast write are lost in its own program, a command ends with equipment check before anything else
  abbrev pub command_by : Device F P H → Option OpenEntry → Option ChainState → Interaction R Image (Device F P H) (Option Stepped)
  command_by d (Some o) (Some chain) =
      if has_loss o.acts then came_out d o.path (checks chain Equipment)
      else command_at d o.path chain (need_of chain)
  command_by d _ _ = Done d None

  -- of the running program, while no half write is open. Room for its end is made first
  unfoldable pub command : Device F P H → Interaction R Image (Device F P H) (Option Stepped)
  command d = tried d (event c d (λ z. command_by z z.history.running z.chain))
