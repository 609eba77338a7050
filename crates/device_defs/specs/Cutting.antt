-- What cuts a running program: the reset of its path, and the loss of power.
use Rattle.std.specs.Prelude.{ℕ, ◌==◌, Bool, true, false, [], Option, Some, None, if◌then◌else◌}
use Rattle.plain_defs.specs.History.{OpenEntry, has_used, reset_in_history as history_reset, lost_power}
use Rattle.plain_defs.specs.PlainState.{fresh_paths, reset_path}
use Rattle.track_image.specs.Image.{Image}
use Rattle.device_outside.specs.Keeper.{Firm}
use Rattle.device_outside.specs.Interaction.{Interaction, Done, Tell, and_then}
use Rattle.device_defs.specs.Contents.{Contents}
use Rattle.device_defs.specs.Device.{Device, all_reset, quiet_event}
use Rattle.device_defs.specs.Effects.{with_edit, gone_back}
use Rattle.device_defs.specs.Losses.{over, without_frame, without_patch, settled}
use Rattle.device_defs.specs.Events.{with_loss}
use Rattle.device_defs.specs.Second.{half_image_of}
use Rattle.device_defs.specs.Store.{Origin, OfCommand, OfCut, OfBackground, HalfWrite, Store, tracks_of, has_loose}
use Rattle.loss_model.specs.declared.Loss.TheVariants as losses

abbrev pub is_of_command : Origin → Bool
is_of_command (OfCommand bypass e) = true
is_of_command (OfCut bypass) = false
is_of_command OfBackground = false

module _ {H : Type 0} where
  abbrev pub counts_one_by : Option (HalfWrite H) → ℕ
  counts_one_by (Some h) = if is_of_command h.origin then 1 else 0
  counts_one_by None = 0

module _ {F P H R : Type 0} (c : Contents F P H R) where
  -- an open half write of the command at hand counts as done: its edit takes effect now
  abbrev pub origin_cut : Store F P H → HalfWrite H → Origin → Interaction R Image (Store F P H) (Unit {0})
  origin_cut s h (OfCommand bypass e) =
      Tell (Firm s.device h.track (half_image_of c s h))
      (λ _. Done (record (with_edit s h.track e) { half = Some (record h { origin = OfCut bypass }) }) tt)
  origin_cut s h (OfCut bypass) = Done s tt
  origin_cut s h OfBackground = Done s tt

  abbrev pub half_cut : Store F P H → Option (HalfWrite H) → Interaction R Image (Store F P H) (Unit {0})
  half_cut s (Some h) = origin_cut s h h.origin
  half_cut s None = Done s tt

  -- Reset

  abbrev pub reset_noted : Device F P H → ℕ → ℕ → Device F P H
  reset_noted d path more = record d { history = history_reset d.history path more }

  -- the path's program is cut, and the resets that waited follow
  abbrev pub path_cut : Device F P H → ℕ → Interaction R Image (Device F P H) (Unit {0})
  path_cut d path =
      and_then (half_cut d.store d.store.half)
      (λ s _. Done (record (reset_noted d path (counts_one_by d.store.half)) {
        store = s;
        chain = None;
        paths = all_reset (reset_path d.paths path) d.history.waiting;
      }) tt)

  -- the reset of another path waits for the end of the running program
  abbrev pub reset_by : Device F P H → ℕ → Option OpenEntry → Interaction R Image (Device F P H) (Unit {0})
  reset_by d path (Some o) = if o.path == path then path_cut d path else Done (reset_noted d path 0) tt
  reset_by d path None =
      if has_used d.history path then Done (record (reset_noted d path 0) { paths = reset_path d.paths path }) tt
      else Done d tt

  -- of a path that used nothing since its last reset it is none. It asks no port, and tells a keeper of an edit that takes effect
  unfoldable pub reset : Device F P H → ℕ → Interaction R Image (Device F P H) (Unit {0})
  reset d path = reset_by d path d.history.running

  -- Power

  -- an open half write ends; a command's or a cut one's patch is of the old track
  abbrev pub half_ended : Store F P H → HalfWrite H → Origin → Store F P H
  half_ended s h OfBackground = record s { half = None }
  half_ended s h _ = without_patch c (record s { half = None }) h.track

  abbrev pub half_lost : Store F P H → Option (HalfWrite H) → Store F P H
  half_lost s (Some h) = half_ended s h h.origin
  half_lost s None = s

  -- data of cache fast write go. The power loss itself says so in the journal
  abbrev pub loose_gone : Store F P H → Store F P H
  loose_gone s = if has_loose s then gone_back s else s

  -- all frames and queued tracks go; patches and all marks of sides stay
  abbrev pub powerless : Store F P H → Store F P H
  powerless s = over (tracks_of s) (λ t z. settled c (without_frame z t) t) (record (half_lost (loose_gone s) s.half) { queue = [] })

  abbrev pub powered_off : Device F P H → Store F P H → Device F P H
  powered_off d s = record d {
    store = powerless (with_loss s losses.Cache);
    paths = fresh_paths;
    history = lost_power d.history (counts_one_by d.store.half);
    chain = None;
  }

  -- the running program is cut. The pool gives up its list and its notes by itself
  unfoldable pub power : Device F P H → Interaction R Image (Device F P H) (Unit {0})
  power d = quiet_event c d (λ z. and_then (half_cut z.store z.store.half) (λ s _. Done (powered_off z s) tt))
