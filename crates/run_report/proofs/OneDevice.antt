-- Devices on which nothing happened tell nothing, so an event of one device is told by that device alone.
use Rattle.std.proofs.Common.{◌≡◌, ◌==◌, ◌∷◌, [], ◌++◌, ℕ, List, Bool, true, false, Option, Some, None, length, map, refl, ap, ◌∙◌, if◌then◌else◌}
use Rattle.std.proofs.lemmas.List.{append-nil}
use Rattle.plain_defs.specs.declared.journal.Act.{Act}
use Rattle.plain_defs.specs.declared.journal.Item.{Item}
use Rattle.device_defs.specs.Device.{Device}
use Rattle.device_defs.specs.Marks.{MarksDevice}
use Rattle.report_text.specs.declared.line.ReportLine.{ReportLine}
use Rattle.report_text.specs.declared.event.Happened.{Happened}
use Rattle.report_text.specs.Events.{in_order, loosed_line, program_over_lines}
use Rattle.run_report.specs.Beside.{loose_lines, loosed, of_each, over_lines, over_of}
use Rattle.run_report.specs.OneDevice.{TellsAlone, lines_at}
use Rattle.subsystem_defs.specs.Beside.{acts_in, behind_first, has_power, new_items, power_told, told_act}
use Rattle.subsystem_defs.specs.Subsystem.{Mounted, Subsystem, devices_of, mounted_in, number_of, put_in, with_mounted}

pub none_behind : {X : Type 0} (xs : List X) → behind_first (length xs) xs ≡ []
none_behind [] = refl
none_behind (x ∷ xs) = none_behind xs

module _ {F P H : Type 0} where
  pub quiet_over : (d : Device F P H) → over_lines d d ≡ []
  quiet_over d = ap (λ (l : List Item). program_over_lines (over_of d.store.device l)) (none_behind d.history.items)

  pub quiet_loose : (d : Device F P H) → loose_lines d d ≡ []
  quiet_loose d =
      ap (λ (l : List Act). map loosed_line (map (loosed d.store.device)
      (map (told_act d.store d.store) l ++ power_told d.store d.store (has_power (new_items d.history d.history)))))
      (none_behind (acts_in d.history))
      ∙ ap (λ (l : List Item). map loosed_line (map (loosed d.store.device) (power_told d.store d.store (has_power l)))) (none_behind d.history.items)

  module _ (f : Device F P H → Device F P H → List ReportLine) (quiet : (d : Device F P H) → f d d ≡ []) where
    pub of_same : (ds : List (Device F P H)) → of_each f ds ds ≡ []
    of_same [] = refl
    of_same (d ∷ ds) = ap (λ (l : List ReportLine). l ++ of_each f ds ds) (quiet d) ∙ of_same ds

    pub of_one : (front rest : List (Device F P H)) (d x : Device F P H) → of_each f (front ++ d ∷ rest) (front ++ x ∷ rest) ≡ f d x
    of_one [] rest d x = ap (λ (l : List ReportLine). f d x ++ l) (of_same rest) ∙ append-nil (f d x)
    of_one (e ∷ front) rest d x =
        ap (λ (l : List ReportLine). l ++ of_each f (front ++ d ∷ rest) (front ++ x ∷ rest)) (quiet e) ∙ of_one front rest d x

-- in a run

abbrev device : Mounted → MarksDevice
device m = m.device

abbrev told_of : (MarksDevice → MarksDevice → List ReportLine) → Option Mounted → MarksDevice → List ReportLine
told_of f (Some m) behind = f m.device behind
told_of f None behind = []

module _ (f : MarksDevice → MarksDevice → List ReportLine) (quiet : (d : MarksDevice) → f d d ≡ []) (n : ℕ) (x : Mounted) where
  by_test : (b : Bool) (m : Mounted) (ms : List Mounted)
      → of_each f (map device ms) (map device (put_in ms n x)) ≡ told_of f (mounted_in ms n) x.device
      → of_each f (map device (m ∷ ms)) (map device (if b then x ∷ ms else m ∷ put_in ms n x))
      ≡ told_of f (if b then Some m else mounted_in ms n) x.device
  by_test true m ms rest =
      ap (λ (l : List ReportLine). f m.device x.device ++ l) (of_same f quiet (map device ms)) ∙ append-nil (f m.device x.device)
  by_test false m ms rest =
      ap (λ (l : List ReportLine). l ++ of_each f (map device ms) (map device (put_in ms n x))) (quiet m.device) ∙ rest

  of_mounted : (ms : List Mounted) → of_each f (map device ms) (map device (put_in ms n x)) ≡ told_of f (mounted_in ms n) x.device
  of_mounted [] = refl
  of_mounted (m ∷ ms) = by_test (number_of m == n) m ms (of_mounted ms)

lines_told : (h : Happened) (reads writes : ℕ) (before : Option Mounted) (behind : MarksDevice) →
    in_order h (told_of loose_lines before behind) reads writes (told_of over_lines before behind)
    ≡ lines_at h reads writes before behind
lines_told h reads writes (Some m) behind = refl
lines_told h reads writes None behind = refl

pub tells_alone : (s : Subsystem) (n : ℕ) (x : Mounted) → TellsAlone s n x
tells_alone s n x = record {
  tells = λ h reads writes.
      ap (λ (l : List ReportLine). in_order h l reads writes (of_each over_lines (devices_of s) (devices_of (with_mounted s n x))))
      (of_mounted loose_lines quiet_loose n x s.mounted)
      ∙ ap (in_order h (told_of loose_lines (mounted_in s.mounted n) x.device) reads writes) (of_mounted over_lines quiet_over n x s.mounted)
      ∙ lines_told h reads writes (mounted_in s.mounted n) x.device;
}
