-- The answers that stand from a place of a line on.
use Rattle.std.specs.Prelude.{ℕ, ◌+◌, List, Result, Ok, Err, if◌then◌else◌}
use Rattle.ckd_types.specs.declared.paths.Owner.{Owner}
use Rattle.ckd_types.specs.declared.paths.Owner.TheVariants as owners
use Rattle.report_text.specs.declared.answers.BackAnswer.{BackAnswer}
use Rattle.report_text.specs.declared.answers.BackAnswer.TheVariants as back
use Rattle.report_text.specs.declared.answers.DeviceTotals.{DeviceTotals}
use Rattle.report_text.specs.declared.answers.DeviceTotals.TheVariants as totals
use Rattle.report_text.specs.declared.answers.HowOver.{HowOver}
use Rattle.report_text.specs.declared.answers.HowOver.TheVariants as how
use Rattle.report_text.specs.declared.answers.LooseAnswer.{LooseAnswer}
use Rattle.report_text.specs.declared.answers.LooseAnswer.TheVariants as loose
use Rattle.report_text.specs.declared.answers.OrderAnswer.{OrderAnswer}
use Rattle.report_text.specs.declared.answers.OrderAnswer.TheVariants as order_answers
use Rattle.report_text.specs.declared.answers.OrderRefusal.{OrderRefusal}
use Rattle.report_text.specs.declared.answers.OrderRefusal.TheVariants as faults
use Rattle.report_text.specs.declared.answers.StartAnswer.{StartAnswer}
use Rattle.report_text.specs.declared.answers.StartAnswer.TheVariants as start
use Rattle.report_reading.specs.declared.fault.LineFault.{LineFault}
use Rattle.report_reading.specs.declared.fault.LineFault.TheVariants.{Word}
use Rattle.report_text.specs.declared.keyword.Keyword.TheVariants as words
use Rattle.report_reading.specs.Places.{◌>>=◌, is_key, word_at, path_at, device_at, track_at, short_at, count_at, long_at, sized_at, side_at, key_at}

abbrev pub owner_at : List (List ℕ) → ℕ → Result Owner LineFault
owner_at ws i =
    word_at ws i >>= (λ w.
    if is_key w words.Group then sized_at 11 ws (i + 1) >>= (λ id. Ok (owners.Group (record { bytes = id })))
    else if is_key w words.Path then path_at ws (i + 1) >>= (λ path. Ok (owners.Path path))
    else Err Word)

abbrev pub start_at : List (List ℕ) → ℕ → Result StartAnswer LineFault
start_at ws i =
    word_at ws i >>= (λ w.
    if is_key w words.Accepted then short_at ws (i + 1) >>= (λ n. Ok (start.Accepted n))
    else if is_key w words.Busy then path_at ws (i + 1) >>= (λ path. Ok (start.Busy path))
    else if is_key w words.Done then Ok start.Done
    else if is_key w words.Running then Ok start.Running
    else if is_key w words.Secondary then device_at ws (i + 1) >>= (λ device. Ok (start.Secondary device))
    else if is_key w words.Reserved then owner_at ws (i + 1) >>= (λ owner. Ok (start.Reserved owner))
    else if is_key w words.Shut then owner_at ws (i + 1) >>= (λ owner. Ok (start.Shut owner))
    else Err Word)

abbrev pub back_at : List (List ℕ) → ℕ → Result BackAnswer LineFault
back_at ws i =
    word_at ws i >>= (λ w.
    if is_key w words.Nothing then Ok back.Nothing
    else if is_key w words.Recovered then track_at ws (i + 1) >>= (λ track. Ok (back.Recovered track))
    else if is_key w words.Copied then track_at ws (i + 1) >>= (λ track. Ok (back.Copied track))
    else if is_key w words.Staged then track_at ws (i + 1) >>= (λ track. Ok (back.Staged track))
    else if is_key w words.Skipped then track_at ws (i + 1) >>= (λ track. Ok (back.Skipped track))
    else if is_key w words.Destaged then track_at ws (i + 1) >>= (λ track. Ok (back.Destaged track))
    else if is_key w words.Half then track_at ws (i + 1) >>= (λ track. Ok (back.Half track))
    else if is_key w words.Finished then track_at ws (i + 1) >>= (λ track. Ok (back.Finished track))
    else if is_key w words.Unwritten then track_at ws (i + 1) >>= (λ track. Ok (back.Unwritten track))
    else if is_key w words.Fault then side_at ws (i + 1) >>= (λ side. Ok (back.Fault side))
    else if is_key w words.BadBytes then side_at ws (i + 1) >>= (λ side. Ok (back.BadBytes side))
    else Err Word)

-- a count, and the two bytes of an ID
abbrev pub loosed_at : List (List ℕ) → ℕ → Result LooseAnswer LineFault
loosed_at ws i = short_at ws i >>= (λ count. sized_at 2 ws (i + 1) >>= (λ id. Ok (loose.Lost count id)))

abbrev pub loose_at : List (List ℕ) → ℕ → Result LooseAnswer LineFault
loose_at ws i =
    word_at ws i >>= (λ w.
    if is_key w words.Harden then track_at ws (i + 1) >>= (λ track. Ok (loose.Harden track))
    else if is_key w words.Loosen then track_at ws (i + 1) >>= (λ track. Ok (loose.Loosen track))
    else if is_key w words.Lost then loosed_at ws (i + 1)
    else Err Word)

abbrev pub over_at : List (List ℕ) → ℕ → Result HowOver LineFault
over_at ws i =
    word_at ws i >>= (λ w.
    if is_key w words.Full then Ok how.Full
    else if is_key w words.Checked then Ok how.Checked
    else if is_key w words.Cut then short_at ws (i + 1) >>= (λ commands. Ok (how.Cut commands))
    else Err Word)

abbrev pub fault_at : List (List ℕ) → ℕ → Result OrderRefusal LineFault
fault_at ws i =
    word_at ws i >>= (λ w.
    if is_key w words.Same then Ok faults.Same
    else if is_key w words.Lent then device_at ws (i + 1) >>= (λ device. Ok (faults.Lent device))
    else if is_key w words.Paired then Ok faults.Paired
    else if is_key w words.Unpaired then Ok faults.Unpaired
    else if is_key w words.Active then path_at ws (i + 1) >>= (λ path. Ok (faults.Active path))
    else if is_key w words.Geometry then Ok faults.Geometry
    else if is_key w words.NoSide then Ok faults.NoSide
    else if is_key w words.Down then Ok faults.Down
    else if is_key w words.Up then Ok faults.Up
    else if is_key w words.NotLevel then short_at ws (i + 1) >>= (λ tracks. Ok (faults.NotLevel tracks))
    else if is_key w words.Half then Ok faults.Half
    else if is_key w words.Held then Ok faults.Held
    else if is_key w words.NotHeld then Ok faults.NotHeld
    else Err Word)

abbrev pub answer_at : List (List ℕ) → ℕ → Result OrderAnswer LineFault
answer_at ws i =
    word_at ws i >>= (λ w.
    if is_key w words.Done then Ok order_answers.Done
    else if is_key w words.Pending then count_at ws (i + 1) >>= (λ tracks. Ok (order_answers.Pending tracks))
    else if is_key w words.Refused then fault_at ws (i + 1) >>= (λ fault. Ok (order_answers.Refused fault))
    else Err Word)

-- READS r WRITES w LOST n, behind READS
abbrev pub calls_at : List (List ℕ) → ℕ → Result DeviceTotals LineFault
calls_at ws i =
    long_at ws i >>= (λ reads.
    key_at words.Writes ws (i + 1) >>= (λ one.
    long_at ws (i + 2) >>= (λ writes.
    key_at words.Lost ws (i + 3) >>= (λ two. long_at ws (i + 4) >>= (λ lost. Ok (totals.Calls reads writes lost))))))

abbrev pub totals_at : List (List ℕ) → ℕ → Result DeviceTotals LineFault
totals_at ws i =
    word_at ws i >>= (λ w.
    if is_key w words.Reads then calls_at ws (i + 1)
    else if is_key w words.Lost then long_at ws (i + 1) >>= (λ lost. Ok (totals.Lost lost))
    else if is_key w words.Lent then device_at ws (i + 1) >>= (λ device. Ok (totals.Lent device))
    else Err Word)
