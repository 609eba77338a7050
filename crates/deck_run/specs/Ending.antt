-- What is told of a device in code at the end of a run.
use Rattle.std.specs.Prelude.{ℕ, ◌*◌, false, List, [], ◌∷◌, Option, Some, None, slice_index_or}
use Rattle.std.specs.List.{range_with_len}
use Rattle.device_outside.specs.declared.volume.Volume.{Ghosts}
use Rattle.device_core.specs.declared.device.Device.{Device}
use Rattle.device_core.specs.State.{device_of}
use Rattle.device_defs.specs.Store.{tracks_of}
use Rattle.report_text.specs.declared.line.ReportLine.{ReportLine}
use Rattle.run_report.specs.Closing.{device_lines}
use Rattle.subsystem_defs.specs.Closing.{Counted, DeviceEnd, LentTo, where_true}

module _ {V : Type 0} {G : Ghosts V} where
  -- its lost tracks, in rising order
  abbrev pub lost_in : Device V G → List ℕ
  lost_in x = where_true (λ (t : ℕ). slice_index_or (device_of x).store.lost t false) (range_with_len 0 (tracks_of (device_of x).store))

  -- this track, where it is lost
  abbrev pub lost_at : Device V G → ℕ → List ℕ
  lost_at x t = where_true (λ (u : ℕ). slice_index_or (device_of x).store.lost u false) (t ∷ [])

  abbrev pub end_by : Device V G → Option ℕ → DeviceEnd
  end_by x (Some to) = LentTo (device_of x).store.device to
  end_by x None = Counted (device_of x).store.device (device_of x).store.counts.reads (device_of x).store.counts.writes (lost_in x)

  -- its calls and its lost tracks, or to whom it is lent
  abbrev pub end_lines_of : Device V G → List ReportLine
  end_lines_of x = device_lines (end_by x (device_of x).store.lent)
