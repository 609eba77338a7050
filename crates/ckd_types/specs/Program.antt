-- Which lists of channel command words are programs, and where a chain goes.
use Rattle.std.specs.Prelude.{◌≡◌, ℕ, ◌+◌, ◌%◌, ◌==◌, ◌&&◌, ◌||◌, not, nat_lt, nat_le, Bool, List, [], ◌∷◌, length, Option, Some, None, if◌then◌else◌}
use Rattle.std.specs.Int.RustNames.{bit_and}
use Rattle.ckd_types.specs.declared.channel.Ccw.{Ccw}
use Rattle.ckd_types.specs.declared.channel.Why.{Why}
use Rattle.ckd_types.specs.declared.channel.Why.TheVariants.{Empty, TooLong, BadCommand, BadFlags, TicFirst, Target, TicToTic, ZeroCount, TooMuchData}
use Rattle.ckd_types.specs.declared.channel.Why.TheVariants.{DataOnInput, PastEnd}
use Rattle.ckd_types.specs.Ccw.{is_chained, is_transfer, ccw_at}
use Rattle.ckd_types.specs.Commands.{is_search}

-- the low digit is no command's
abbrev pub is_bad_command : ℕ → Bool
is_bad_command code = (code % 16 == 0) || ((code % 16 == 8) && not (code == 8))

-- a read or a sense: bytes come from the device
abbrev pub is_input : ℕ → Bool
is_input code = (code % 4 == 2) || (code % 16 == 4) || (code % 16 == 12)

-- more bytes are given than it takes
abbrev pub has_too_much : Ccw → Bool
has_too_much c = if is_transfer c then nat_lt 0 (length c.given) else nat_lt c.count (length c.given)

-- the next word is missing, or behind a search the one after it
abbrev pub runs_past_end : List Ccw → ℕ → Ccw → Bool
runs_past_end ccws i c =
    is_chained c && not (is_transfer c) && (nat_le (length ccws) (i + 1) || (is_search c.command && nat_le (length ccws) (i + 2)))

-- what is wrong with word i of a list, the first reason of the table
abbrev pub fault_of : List Ccw → ℕ → Ccw → Option Why
fault_of ccws i c =
    if is_bad_command c.command then Some BadCommand
    else if not (bit_and c.flags 0x8f == 0) then Some BadFlags
    else if is_transfer c && (i == 0) then Some TicFirst
    else if is_transfer c && nat_le (length ccws) c.count then Some Target
    else if is_transfer c && is_transfer (ccw_at ccws c.count) then Some TicToTic
    else if not (is_transfer c) && (c.count == 0) then Some ZeroCount
    else if has_too_much c then Some TooMuchData
    else if nat_lt 0 (length c.given) && is_input c.command then Some DataOnInput
    else if runs_past_end ccws i c then Some PastEnd
    else None

-- the index of the first bad word, and why it is bad
abbrev pub or_later : ℕ → Option Why → Option (ℕ × Why) → Option (ℕ × Why)
or_later i (Some why) later = Some (i, why)
or_later i None later = later

-- among the words from index i on
abbrev pub fault_from : List Ccw → ℕ → List Ccw → Option (ℕ × Why)
fault_from ccws i [] = None
fault_from ccws i (c ∷ cs) = or_later i (fault_of ccws i c) (fault_from ccws (i + 1) cs)

abbrev pub first_fault : List Ccw → Option (ℕ × Why)
first_fault ccws =
    if length ccws == 0 then Some (0, Empty)
    else if nat_lt 256 (length ccws) then Some (256, TooLong)
    else fault_from ccws 0 ccws

abbrev pub IsProgram : List Ccw → Type 0
IsProgram ccws = first_fault ccws ≡ None

-- a transfer in channel leads to its target at once
abbrev pub target : List Ccw → ℕ → ℕ
target ccws i = if is_transfer (ccw_at ccws i) then (ccw_at ccws i).count else i

-- where a chain goes behind word i: to the next one, or past it after status modifier
abbrev pub next_ccw : List Ccw → ℕ → Bool → Option ℕ
next_ccw ccws i modified =
    if is_chained (ccw_at ccws i) then Some (target ccws (i + (if modified then 2 else 1)))
    else None
