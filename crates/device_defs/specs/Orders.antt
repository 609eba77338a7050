-- What the orders do to the devices that they name. Which orders are refused is said of the whole subsystem.
use Rattle.std.specs.Prelude.{ℕ, true, false, List, [], Some, None, length, map, replicate}
use Rattle.std.specs.List.{range_with_len}
use Rattle.ckd_types.specs.declared.paths.Side.{Side}
use Rattle.ckd_types.specs.declared.record.Track.{Track}
use Rattle.ckd_types.specs.Track.{empty_track}
use Rattle.plain_defs.specs.History.{emptied}
use Rattle.track_image.specs.Image.{Image}
use Rattle.device_outside.specs.Interaction.{Interaction, Done}
use Rattle.device_defs.specs.Contents.{Contents}
use Rattle.device_defs.specs.Device.{Device, quiet_event}
use Rattle.device_defs.specs.Losses.{over, without_frame, without_patch}
use Rattle.device_defs.specs.Store.{Store, new_side, no_side, tracks_of, with_side}

-- as many empty tracks: a device that keeps no plain volume has none
abbrev pub empty_like : List Track → List Track
empty_like v = map empty_track (range_with_len 0 (length v))

module _ {F P H : Type 0} where
  abbrev pub with_tracks : Device F P H → Store F P H → Device F P H
  with_tracks d s = record d { store = s }

  -- another device's volume becomes side B, with every track stale
  abbrev pub join : Device F P H → Device F P H
  join d = with_tracks d (record d.store { paired = true; b = new_side (tracks_of d.store) true })

  -- side B leaves, and a held mark ends
  abbrev pub split : Device F P H → Device F P H
  split d = with_tracks d (record d.store { paired = false; held = false; b = no_side (tracks_of d.store) })

  -- a device that was lent gets an empty volume, and is empty
  abbrev pub restore : Device F P H → Device F P H
  restore d = record d {
    store = record d.store {
      lent = None;
      a = new_side (tracks_of d.store) false;
      loose = replicate (tracks_of d.store) false;
      plain = empty_like d.store.plain;
      firm = empty_like d.store.firm;
    };
    history = emptied d.history;
  }

  -- an empty volume in place of a failed side, with every track stale
  abbrev pub replace : Device F P H → Side → Device F P H
  replace d side = with_tracks d (with_side d.store side (new_side (tracks_of d.store) true))

  abbrev pub hold_side : Device F P H → Device F P H
  hold_side d = with_tracks d (record d.store { held = true })

  -- what is stale on side B is copied then
  abbrev pub resume : Device F P H → Device F P H
  resume d = with_tracks d (record d.store { held = false })

  -- its loose tracks stay loose: they go back at the next loss of their data, or with an empty volume
  abbrev pub lent_to : Store F P H → ℕ → Store F P H
  lent_to s to = record s { lent = Some to; a = no_side (tracks_of s); lost = replicate (tracks_of s) false; queue = [] }

module _ {F P H R : Type 0} (c : Contents F P H R) where
  abbrev pub given_up : ℕ → Store F P H → Store F P H
  given_up t s = without_patch c (without_frame s t) t

  -- frames, patches, lost marks and queued tracks are given up, and the volume leaves
  unfoldable pub lend : Device F P H → ℕ → Interaction R Image (Device F P H) (Unit {0})
  lend d to = quiet_event c d (λ z. Done (with_tracks z (lent_to (over (tracks_of z.store) given_up z.store) to)) tt)
