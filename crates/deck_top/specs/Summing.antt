-- What devices in code come to, beside the lines of their run.
use Rattle.std.specs.Prelude.{ℕ, ◌+◌, ◌-◌, ◌^◌, min, List, fold}
use Rattle.device_outside.specs.declared.volume.Volume.{Ghosts}
use Rattle.device_core.specs.declared.device.Device.{Device}
use Rattle.device_defs.specs.Excused.{count_lost}
use Rattle.device_core.specs.State.{device_of}
use Rattle.deck_top.specs.declared.sums.Sums.{Sums}
use Rattle.report_text.specs.declared.summary.LineCounts.{LineCounts}
use Rattle.report_text.specs.declared.summary.Summary.{Summary}

abbrev pub summary_by : LineCounts → Sums → Summary
summary_by counts sums = record {
  programs = counts.programs;
  commands = counts.commands;
  checks = counts.checks;
  reads = sums.reads;
  writes = sums.writes;
  lost = sums.lost;
}

-- sums stop at the greatest of 64 bits, as the counts of a device do
abbrev pub added : ℕ → ℕ → ℕ
added n m = min (n + m) (2 ^ 64 - 1)

abbrev pub total : {X : Type 0} → (X → ℕ) → List X → ℕ
total f xs = fold (λ n x. added n (f x)) 0 xs

module _ {V : Type 0} {G : Ghosts V} where
  abbrev pub reads_in : Device V G → ℕ
  reads_in x = (device_of x).store.counts.reads

  abbrev pub writes_in : Device V G → ℕ
  writes_in x = (device_of x).store.counts.writes

  abbrev pub lost_in : Device V G → ℕ
  lost_in x = count_lost (device_of x).store.lost

  -- the volume calls and the lost tracks of all
  abbrev pub sums_of : List (Device V G) → Sums
  sums_of xs = record { reads = total reads_in xs; writes = total writes_in xs; lost = total lost_in xs }
