-- The line that a text is, or its first fault: its words are looked at from the left.
use Rattle.std.specs.Prelude.{◌≡◌, ◌==◌, ◌&&◌, ℕ, List, Result, Ok, Err, if◌then◌else◌}
use Rattle.std.specs.Str.{bytes_eq}
use Rattle.report_text.specs.declared.answers.OrderAnswer.TheVariants as order_answers
use Rattle.report_text.specs.declared.answers.SumOf.{SumOf}
use Rattle.report_text.specs.declared.answers.SumOf.TheVariants as sums
use Rattle.report_reading.specs.declared.fault.LineError.{LineError}
use Rattle.report_reading.specs.declared.fault.LineError.TheVariants as errors
use Rattle.report_reading.specs.declared.fault.LineFault.{LineFault}
use Rattle.report_reading.specs.declared.fault.LineFault.TheVariants as faults
use Rattle.report_text.specs.declared.keyword.Keyword.TheVariants as words
use Rattle.report_text.specs.declared.line.ReportLine.{ReportLine}
use Rattle.report_text.specs.declared.line.ReportLine.TheVariants as lines
use Rattle.report_text.specs.declared.order.Order.TheVariants as orders
use Rattle.report_reading.specs.Answers.{answer_at, back_at, loose_at, over_at, start_at, totals_at}
use Rattle.report_text.specs.Lines.{text_of}
use Rattle.report_reading.specs.Places.{◌>>=◌, cut_words, is_key, word_at, path_at, device_at, track_at, short_at, count_at, long_at}
use Rattle.report_reading.specs.Places.{sized_at, bytes_at, byte_at, side_at, note_at, mark_at, key_at}

abbrev pub start_line : List (List ℕ) → Result ReportLine LineFault
start_line ws = path_at ws 1 >>= (λ path. device_at ws 2 >>= (λ device. start_at ws 3 >>= (λ answer. Ok (lines.Start path device answer))))

abbrev pub end_line : List (List ℕ) → Result ReportLine LineFault
end_line ws =
    path_at ws 1 >>= (λ path.
    device_at ws 2 >>= (λ device.
    short_at ws 3 >>= (λ ordinal.
    short_at ws 4 >>= (λ index.
    byte_at ws 5 >>= (λ status.
    short_at ws 6 >>= (λ residual.
    note_at ws 7 >>= (λ note.
    Ok (lines.End (record {
      path = path;
      device = device;
      ordinal = ordinal;
      index = index;
      status = record { 0 = status };
      residual = residual;
      note = note;
    })))))))))

abbrev pub data_line : List (List ℕ) → Result ReportLine LineFault
data_line ws = bytes_at ws 1 >>= (λ bytes. Ok (lines.Data bytes))

abbrev pub sense_line : List (List ℕ) → Result ReportLine LineFault
sense_line ws = sized_at 32 ws 1 >>= (λ bytes. Ok (lines.Sense (record { bytes = bytes })))

abbrev pub half_line : List (List ℕ) → Result ReportLine LineFault
half_line ws = path_at ws 1 >>= (λ path. device_at ws 2 >>= (λ device. track_at ws 3 >>= (λ track. Ok (lines.Half path device track))))

abbrev pub back_line : List (List ℕ) → Result ReportLine LineFault
back_line ws = device_at ws 1 >>= (λ device. back_at ws 2 >>= (λ answer. Ok (lines.Back device answer)))

abbrev pub step_line : List (List ℕ) → Result ReportLine LineFault
step_line ws = device_at ws 1 >>= (λ device. key_at words.Idle ws 2 >>= (λ idle. Ok (lines.StepIdle device)))

abbrev pub run_line : List (List ℕ) → Result ReportLine LineFault
run_line ws = device_at ws 1 >>= (λ device. key_at words.Idle ws 2 >>= (λ idle. Ok (lines.RunIdle device)))

abbrev pub loose_line : List (List ℕ) → Result ReportLine LineFault
loose_line ws = device_at ws 1 >>= (λ device. loose_at ws 2 >>= (λ answer. Ok (lines.Loose device answer)))

-- not both are 0
abbrev pub io_line : List (List ℕ) → Result ReportLine LineFault
io_line ws =
    long_at ws 1 >>= (λ reads.
    long_at ws 2 >>= (λ writes.
    if (reads == 0) && (writes == 0) then Err faults.Number else Ok (lines.Io reads writes)))

abbrev pub over_line : List (List ℕ) → Result ReportLine LineFault
over_line ws =
    path_at ws 1 >>= (λ path.
    device_at ws 2 >>= (λ device.
    short_at ws 3 >>= (λ ordinal. over_at ws 4 >>= (λ how. Ok (lines.Over path device ordinal how)))))

abbrev pub reset_line : List (List ℕ) → Result ReportLine LineFault
reset_line ws = path_at ws 1 >>= (λ path. device_at ws 2 >>= (λ device. Ok (lines.Reset path device)))

-- FAIL VOLUME d s
abbrev pub volume_line : List (List ℕ) → Result ReportLine LineFault
volume_line ws =
    device_at ws 2 >>= (λ device.
    side_at ws 3 >>= (λ side. answer_at ws 4 >>= (λ answer. Ok (lines.Order (orders.FailVolume device side) answer))))

abbrev pub fail_line : List (List ℕ) → Result ReportLine LineFault
fail_line ws =
    word_at ws 1 >>= (λ w.
    if is_key w words.Cache then answer_at ws 2 >>= (λ answer. Ok (lines.Order orders.FailCache answer))
    else if is_key w words.Store then answer_at ws 2 >>= (λ answer. Ok (lines.Order orders.FailStore answer))
    else if is_key w words.Volume then volume_line ws
    else Err faults.Word)

abbrev pub repair_line : List (List ℕ) → Result ReportLine LineFault
repair_line ws =
    word_at ws 1 >>= (λ w.
    if is_key w words.Cache then answer_at ws 2 >>= (λ answer. Ok (lines.Order orders.RepairCache answer))
    else if is_key w words.Store then answer_at ws 2 >>= (λ answer. Ok (lines.Order orders.RepairStore answer))
    else Err faults.Word)

abbrev pub replace_line : List (List ℕ) → Result ReportLine LineFault
replace_line ws =
    device_at ws 1 >>= (λ device.
    side_at ws 2 >>= (λ side. answer_at ws 3 >>= (λ answer. Ok (lines.Order (orders.Replace device side) answer))))

abbrev pub pair_line : List (List ℕ) → Result ReportLine LineFault
pair_line ws =
    device_at ws 1 >>= (λ first.
    device_at ws 2 >>= (λ second. answer_at ws 3 >>= (λ answer. Ok (lines.Order (orders.Pair first second) answer))))

abbrev pub unpair_line : List (List ℕ) → Result ReportLine LineFault
unpair_line ws = device_at ws 1 >>= (λ device. answer_at ws 2 >>= (λ answer. Ok (lines.Order (orders.Unpair device) answer)))

abbrev pub suspend_line : List (List ℕ) → Result ReportLine LineFault
suspend_line ws = device_at ws 1 >>= (λ device. answer_at ws 2 >>= (λ answer. Ok (lines.Order (orders.Suspend device) answer)))

abbrev pub resume_line : List (List ℕ) → Result ReportLine LineFault
resume_line ws = device_at ws 1 >>= (λ device. answer_at ws 2 >>= (λ answer. Ok (lines.Order (orders.Resume device) answer)))

-- POWER is never refused, and waits for nothing
abbrev pub power_line : List (List ℕ) → Result ReportLine LineFault
power_line ws = key_at words.Done ws 1 >>= (λ done. Ok (lines.Order orders.Power order_answers.Done))

abbrev pub device_line : List (List ℕ) → Result ReportLine LineFault
device_line ws = device_at ws 1 >>= (λ device. totals_at ws 2 >>= (λ totals. Ok (lines.Device device totals)))

abbrev pub sum_line : SumOf → List (List ℕ) → Result ReportLine LineFault
sum_line of ws = long_at ws 1 >>= (λ n. Ok (lines.Sum of n))

abbrev pub lost_track_line : List (List ℕ) → Result ReportLine LineFault
lost_track_line ws = device_at ws 1 >>= (λ device. track_at ws 2 >>= (λ track. Ok (lines.Lost device track)))

-- with a third word it is a device's track, else a summary's count
abbrev pub lost_by : Result (List ℕ) LineFault → List (List ℕ) → Result ReportLine LineFault
lost_by (Ok third) ws = lost_track_line ws
lost_by (Err none) ws = sum_line sums.Lost ws

abbrev pub lost_line : List (List ℕ) → Result ReportLine LineFault
lost_line ws = lost_by (word_at ws 2) ws

abbrev pub frame_line : List (List ℕ) → Result ReportLine LineFault
frame_line ws =
    device_at ws 1 >>= (λ device.
    track_at ws 2 >>= (λ track. mark_at ws 3 >>= (λ modified. Ok (lines.Frame device track modified))))

abbrev pub fresh_line : List (List ℕ) → Result ReportLine LineFault
fresh_line ws = device_at ws 1 >>= (λ device. Ok (lines.Fresh device))

abbrev pub left_line : List (List ℕ) → Result ReportLine LineFault
left_line ws = path_at ws 1 >>= (λ path. device_at ws 2 >>= (λ device. short_at ws 3 >>= (λ n. Ok (lines.Left path device n))))

abbrev pub unused_line : List (List ℕ) → Result ReportLine LineFault
unused_line ws = count_at ws 1 >>= (λ n. Ok (lines.Unused n))

-- the lines at the end of a report and of a history, and a summary's
abbrev pub total_line : List ℕ → List (List ℕ) → Result ReportLine LineFault
total_line w ws =
    if is_key w words.Device then device_line ws
    else if is_key w words.Lost then lost_line ws
    else if is_key w words.Frame then frame_line ws
    else if is_key w words.Fresh then fresh_line ws
    else if is_key w words.Left then left_line ws
    else if is_key w words.Unused then unused_line ws
    else if is_key w words.Finish then Ok lines.Finish
    else if is_key w words.Programs then sum_line sums.Programs ws
    else if is_key w words.Commands then sum_line sums.Commands ws
    else if is_key w words.Checks then sum_line sums.Checks ws
    else if is_key w words.Reads then sum_line sums.Reads ws
    else if is_key w words.Writes then sum_line sums.Writes ws
    else Err faults.Keyword

abbrev pub order_line : List ℕ → List (List ℕ) → Result ReportLine LineFault
order_line w ws =
    if is_key w words.Fail then fail_line ws
    else if is_key w words.Repair then repair_line ws
    else if is_key w words.Replace then replace_line ws
    else if is_key w words.Pair then pair_line ws
    else if is_key w words.Unpair then unpair_line ws
    else if is_key w words.Suspend then suspend_line ws
    else if is_key w words.Resume then resume_line ws
    else if is_key w words.Power then power_line ws
    else total_line w ws

abbrev pub event_line : List ℕ → List (List ℕ) → Result ReportLine LineFault
event_line w ws =
    if is_key w words.Start then start_line ws
    else if is_key w words.End then end_line ws
    else if is_key w words.Sense then sense_line ws
    else if is_key w words.Half then half_line ws
    else if is_key w words.Back then back_line ws
    else if is_key w words.Step then step_line ws
    else if is_key w words.Run then run_line ws
    else if is_key w words.Loose then loose_line ws
    else if is_key w words.Io then io_line ws
    else if is_key w words.Over then over_line ws
    else if is_key w words.Reset then reset_line ws
    else order_line w ws

-- what the words say
abbrev pub line_by : List (List ℕ) → Result ReportLine LineFault
line_by ws = word_at ws 0 >>= (λ w. if is_key w words.Data then data_line ws else event_line w ws)

-- a line that its text isn't is none: it has a word more, two spaces, digits of lower case
abbrev pub if_text : List ℕ → ReportLine → Result ReportLine LineFault
if_text text line = if bytes_eq (text_of line) text then Ok line else Err faults.Text

unfoldable pub line_of : List ℕ → Result ReportLine LineFault
line_of text = line_by (cut_words text) >>= if_text text

-- what a call answers is this, but for want of memory, which says nothing
abbrev pub Fails : LineError → Result ReportLine LineFault → Type 0
Fails errors.NoMemory wanted = Unit {0}
Fails (errors.Fault fault) wanted = wanted ≡ Err fault

abbrev pub Reads : Result ReportLine LineError → Result ReportLine LineFault → Type 0
Reads (Ok line) wanted = wanted ≡ Ok line
Reads (Err e) wanted = Fails e wanted
