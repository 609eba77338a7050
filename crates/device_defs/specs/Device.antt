-- A device: its tracks and sides, its paths, the programs that are planned for it, what happened to it, and the chain that runs.
use Rattle.std.specs.Prelude.{ℕ, List, [], ◌∷◌, Option}
use Rattle.ckd_chain.specs.State.{ChainState}
use Rattle.plain_defs.specs.declared.journal.Act.{Act}
use Rattle.plain_defs.specs.History.{History, acted}
use Rattle.plain_defs.specs.Journal.{Plans}
use Rattle.plain_defs.specs.PlainState.{PathsState, reset_path}
use Rattle.track_image.specs.Image.{Image}
use Rattle.device_outside.specs.Interaction.{Interaction, Done, and_then}
use Rattle.device_defs.specs.Contents.{Contents}
use Rattle.device_defs.specs.Owed.{noted_begin, hear, waiting_count, noted_end}
use Rattle.device_defs.specs.Store.{Store}

-- with no more than the program's ends and acts so far, a history knows which paths used something, and which programs ran
pub record Device (F P H : Type 0) : Type 0 where
  pub store : Store F P H
  pub paths : PathsState
  pub plans : Plans
  pub history : History
  pub chain : Option ChainState  -- of the running program

abbrev pub all_acted : History → List Act → History
all_acted h [] = h
all_acted h (act ∷ acts) = all_acted (acted h act) acts

abbrev pub all_reset : PathsState → List ℕ → PathsState
all_reset paths [] = paths
all_reset paths (path ∷ others) = all_reset (reset_path paths path) others

module _ {F P H : Type 0} where
  -- behind an event's work on its tracks, the acts of which happened to the device
  abbrev pub with_store : Device F P H → Store F P H → Device F P H
  with_store d s = record d { store = s; history = all_acted d.history s.acts }

  abbrev pub event_begun : Device F P H → Device F P H
  event_begun d = record d { store = noted_begin d.store }

module _ {F P H R : Type 0} (c : Contents F P H R) where
  -- an event that began with this device ends
  abbrev pub event_ended : {A : Type 0} → Device F P H → Device F P H → A → Interaction R Image (Device F P H) A
  event_ended old d a = and_then (noted_end c (waiting_count c old.store) d.store) (λ z _. Done (record d { store = z }) a)

  -- an event that takes no notes
  abbrev pub quiet_event : {A : Type 0} → Device F P H → (Device F P H → Interaction R Image (Device F P H) A) →
      Interaction R Image (Device F P H) A
  quiet_event d body = and_then (body (event_begun d)) (event_ended d)

  -- an event that first takes the notes, of at most 960 tracks
  abbrev pub event : {A : Type 0} → Device F P H → (Device F P H → Interaction R Image (Device F P H) A) →
      Interaction R Image (Device F P H) A
  event d body = quiet_event d (λ z. and_then (hear c 960 z.store) (λ s _. body (record z { store = s })))
