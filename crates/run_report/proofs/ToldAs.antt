-- Devices of which the same is told, over whatever contents, make the same lines.
use Rattle.std.proofs.Common.{◌≡◌, ◌==◌, ◌∷◌, [], ◌++◌, ◌∙◌, ℕ, List, Bool, true, false, Option, Some, refl, ap, if◌then◌else◌}
use Rattle.std.specs.Prelude.{option_map}
use Rattle.plain_defs.specs.History.{OpenEntry}
use Rattle.device_defs.specs.Device.{Device}
use Rattle.report_text.specs.declared.event.Happened as report
use Rattle.report_text.specs.declared.line.ReportLine.{ReportLine}
use Rattle.report_text.specs.declared.line.ReportLine.TheVariants as lines
use Rattle.report_text.specs.declared.order.Order.TheVariants as orders
use Rattle.report_text.specs.Events.{in_order}
use Rattle.run_report.specs.declared.told.RunningProgram.{RunningProgram}
use Rattle.run_report.specs.Answers.{order_answer}
use Rattle.run_report.specs.Beside.{loose_lines, of_each, over_lines, power_lines}
use Rattle.run_report.specs.Events.{event_lines, once_told, running_by, running_in, running_program, told, work_lines, work_told}
use Rattle.run_report.specs.OneDevice.{AreToldAs, IsToldAs, and, none}
use Rattle.subsystem_defs.specs.declared.end.EventEnd.{EventEnd}
use Rattle.subsystem_defs.specs.declared.event.Event.{Event}
use Rattle.subsystem_defs.specs.declared.event.Event.TheVariants as events
use Rattle.subsystem_defs.specs.Deeds.{device_in}
use Rattle.subsystem_defs.specs.Lines.{Asked, Once, Run, Settle}

module _ {F P H G Q I : Type 0} where
  same_over : (b a : Device F P H) (c d : Device G Q I) → IsToldAs b c → IsToldAs a d → over_lines b a ≡ over_lines c d
  same_over b a c d h g = cc (h.device, h.history, g.history)

  same_loose : (b a : Device F P H) (c d : Device G Q I) → IsToldAs b c → IsToldAs a d → loose_lines b a ≡ loose_lines c d
  same_loose b a c d h g = cc (h.device, h.history, h.loose, g.history, g.number)

  same_power : (b a : Device F P H) (c d : Device G Q I) → IsToldAs b c → IsToldAs a d → power_lines b a ≡ power_lines c d
  same_power b a c d h g =
      ap (λ (l : List ReportLine). l ++ loose_lines b a) (same_over b a c d h g)
      ∙ ap (λ (l : List ReportLine). over_lines c d ++ l) (same_loose b a c d h g)

  module _ (f : Device F P H → Device F P H → List ReportLine) (k : Device G Q I → Device G Q I → List ReportLine)
      (same : (b a : Device F P H) (c d : Device G Q I) → IsToldAs b c → IsToldAs a d → f b a ≡ k c d) where
    same_each : {bs xs : List (Device F P H)} {cs ds : List (Device G Q I)} → AreToldAs bs cs → AreToldAs xs ds
        → of_each f bs xs ≡ of_each k cs ds
    same_each none none = refl
    same_each none (and g gs) = refl
    same_each (and h hs) none = refl
    same_each (and {d = b} {e = c} {ds = bs} {es = cs} h hs) (and {d = a} {e = d} {ds = xs} {es = ds} g gs) =
        ap (λ (l : List ReportLine). l ++ of_each f bs xs) (same b a c d h g) ∙ ap (λ (l : List ReportLine). k c d ++ l) (same_each hs gs)

  by_test : (n : ℕ) (d : Device F P H) (e : Device G Q I) (ds : List (Device F P H)) (es : List (Device G Q I)) → IsToldAs d e
      → running_in ds n ≡ running_in es n → (b : Bool)
      → running_by (if b then Some d else device_in ds n) ≡ running_by (if b then Some e else device_in es n)
  by_test n d e ds es h rest true = ap (λ (o : Option OpenEntry). option_map running_program o) (ap (λ x. x.running) h.history)
  by_test n d e ds es h rest false = rest

  same_running : {ds : List (Device F P H)} {es : List (Device G Q I)} → AreToldAs ds es → (n : ℕ) → running_in ds n ≡ running_in es n
  same_running none n = refl
  same_running (and {d = d} {e = e} {ds = ds} {es = es} h hs) n =
      by_test n d e ds es h (same_running hs n) (d.store.device == n)
      ∙ ap (λ (m : ℕ). running_by (if m == n then Some e else device_in es n)) h.device

  module _ (end : EventEnd) (reads writes : ℕ) {bs xs : List (Device F P H)} {cs ds : List (Device G Q I)}
      (before : AreToldAs bs cs) (behind : AreToldAs xs ds) where
    same_work : (n : ℕ) (idle : report.Happened) → work_told n (running_in bs n) idle end ≡ work_told n (running_in cs n) idle end
    same_work n idle = ap (λ (r : Option RunningProgram). work_told n r idle end) (same_running before n)

    same_once : (e : Event) → once_told bs end e ≡ once_told cs end e
    same_once (events.Step d) = same_work d _
    same_once (events.Back d) = same_work d _
    same_once e = refl

    same_told : (asked : Asked) → told bs end asked ≡ told cs end asked
    same_told (Once e) = same_once e
    same_told (Run d) = same_work d _
    same_told (Settle d) = same_work d _
    same_told asked = refl

    lines_as : (asked : Asked) → work_lines (told bs end asked) reads writes bs xs ≡ work_lines (told cs end asked) reads writes cs ds
    lines_as asked =
        ap (λ (h : report.Happened). work_lines h reads writes bs xs) (same_told asked)
        ∙ ap (λ (l : List ReportLine). in_order (told cs end asked) l reads writes (of_each over_lines bs xs))
        (same_each loose_lines loose_lines same_loose before behind)
        ∙ ap (in_order (told cs end asked) (of_each loose_lines cs ds) reads writes) (same_each over_lines over_lines same_over before behind)

    pub same_lines : (asked : Asked) → event_lines asked end reads writes bs xs ≡ event_lines asked end reads writes cs ds
    same_lines (Once events.Power) =
        ap (λ (l : List ReportLine). l ++ lines.Order orders.Power (order_answer end) ∷ [])
        (same_each power_lines power_lines same_power before behind)
    same_lines asked = lines_as asked
