-- Which numbers and bytes the lines of a run have, and which answers its orders.
use Rattle.std.specs.Prelude.{◌≡◌, ◌≤◌, ◌<◌, ◌^◌, ◌==◌, ◌&&◌, not, ℕ, Bool, true, false, List, length, Option, Some, None, IfSome}
use Rattle.hex.specs.Hex.{IsBytes}
use Rattle.ckd_types.specs.declared.paths.Owner.{Owner}
use Rattle.ckd_types.specs.declared.paths.Owner.TheVariants as owners
use Rattle.report_text.specs.declared.answers.BackAnswer.{BackAnswer}
use Rattle.report_text.specs.declared.answers.BackAnswer.TheVariants as back
use Rattle.report_text.specs.declared.answers.DeviceTotals.{DeviceTotals}
use Rattle.report_text.specs.declared.answers.DeviceTotals.TheVariants as totals
use Rattle.report_text.specs.declared.answers.HowOver.{HowOver}
use Rattle.report_text.specs.declared.answers.HowOver.TheVariants as how
use Rattle.report_text.specs.declared.answers.LooseAnswer.{LooseAnswer}
use Rattle.report_text.specs.declared.answers.LooseAnswer.TheVariants as loose
use Rattle.report_text.specs.declared.answers.OrderAnswer.{OrderAnswer}
use Rattle.report_text.specs.declared.answers.OrderAnswer.TheVariants as order_answers
use Rattle.report_text.specs.declared.answers.OrderRefusal.{OrderRefusal}
use Rattle.report_text.specs.declared.answers.OrderRefusal.TheVariants as faults
use Rattle.report_text.specs.declared.answers.StartAnswer.{StartAnswer}
use Rattle.report_text.specs.declared.answers.StartAnswer.TheVariants as start
use Rattle.report_text.specs.declared.line.EndLine.{EndLine}
use Rattle.report_text.specs.declared.line.ReportLine.{ReportLine}
use Rattle.report_text.specs.declared.line.ReportLine.TheVariants as lines
use Rattle.report_text.specs.declared.order.Order.{Order}
use Rattle.report_text.specs.declared.order.Order.TheVariants as orders
use Rattle.report_reading.specs.declared.fault.LineFault.{LineFault}
use Rattle.report_reading.specs.declared.fault.LineFault.TheVariants.{Number, Word}

pub record IsPath (n : ℕ) : Type 0 where
  pub least : 1 ≤ n
  pub most : n ≤ 4

abbrev pub IsDevice : ℕ → Type 0
IsDevice n = n < 16

abbrev pub IsTrack : ℕ → Type 0
IsTrack n = n < 960

-- numbers of 16, 32 and 64 bits
abbrev pub IsShort : ℕ → Type 0
IsShort n = n < 2 ^ 16

abbrev pub IsCount : ℕ → Type 0
IsCount n = n < 2 ^ 32

abbrev pub IsLong : ℕ → Type 0
IsLong n = n < 2 ^ 64

-- so many bytes
pub record AreBytes (n : ℕ) (xs : List ℕ) : Type 0 where
  pub count : length xs ≡ n
  pub each : IsBytes xs

abbrev pub IsOwner : Owner → Type 0
IsOwner (owners.Group id) = AreBytes 11 id.bytes
IsOwner (owners.Path path) = IsPath path

abbrev pub IsStart : StartAnswer → Type 0
IsStart (start.Accepted n) = IsShort n
IsStart (start.Busy path) = IsPath path
IsStart start.Done = Unit {0}
IsStart start.Running = Unit {0}
IsStart (start.Secondary device) = IsDevice device
IsStart (start.Reserved owner) = IsOwner owner
IsStart (start.Shut owner) = IsOwner owner

abbrev pub IsBack : BackAnswer → Type 0
IsBack back.Nothing = Unit {0}
IsBack (back.Recovered track) = IsTrack track
IsBack (back.Copied track) = IsTrack track
IsBack (back.Staged track) = IsTrack track
IsBack (back.Skipped track) = IsTrack track
IsBack (back.Destaged track) = IsTrack track
IsBack (back.Half track) = IsTrack track
IsBack (back.Finished track) = IsTrack track
IsBack (back.Unwritten track) = IsTrack track
IsBack (back.Fault side) = Unit {0}
IsBack (back.BadBytes side) = Unit {0}

abbrev pub IsLoose : LooseAnswer → Type 0
IsLoose (loose.Harden track) = IsTrack track
IsLoose (loose.Loosen track) = IsTrack track
IsLoose (loose.Lost count id) = IsShort count × AreBytes 2 id

abbrev pub IsOver : HowOver → Type 0
IsOver how.Full = Unit {0}
IsOver how.Checked = Unit {0}
IsOver (how.Cut commands) = IsShort commands

abbrev pub IsFault : OrderRefusal → Type 0
IsFault (faults.Lent device) = IsDevice device
IsFault (faults.Active path) = IsPath path
IsFault (faults.NotLevel tracks) = IsShort tracks
IsFault _ = Unit {0}

abbrev pub IsAnswer : OrderAnswer → Type 0
IsAnswer order_answers.Done = Unit {0}
IsAnswer (order_answers.Pending tracks) = IsCount tracks
IsAnswer (order_answers.Refused fault) = IsFault fault

abbrev pub IsOrder : Order → Type 0
IsOrder (orders.FailVolume device side) = IsDevice device
IsOrder (orders.Replace device side) = IsDevice device
IsOrder (orders.Pair first second) = IsDevice first × IsDevice second
IsOrder (orders.Unpair device) = IsDevice device
IsOrder (orders.Suspend device) = IsDevice device
IsOrder (orders.Resume device) = IsDevice device
IsOrder _ = Unit {0}

abbrev pub IsTotals : DeviceTotals → Type 0
IsTotals (totals.Calls reads writes lost) = IsLong reads × IsLong writes × IsLong lost
IsTotals (totals.Lost lost) = IsLong lost
IsTotals (totals.Lent device) = IsDevice device

pub record IsEnd (e : EndLine) : Type 0 where
  pub path : IsPath e.path
  pub device : IsDevice e.device
  pub ordinal : IsShort e.ordinal
  pub index : IsShort e.index
  pub status : e.status.0 < 256
  pub residual : IsShort e.residual

abbrev pub IsLine : ReportLine → Type 0
IsLine (lines.Start path device answer) = IsPath path × IsDevice device × IsStart answer
IsLine (lines.End end) = IsEnd end
IsLine (lines.Data bytes) = IsBytes bytes
IsLine (lines.Sense sense) = AreBytes 32 sense.bytes
IsLine (lines.Half path device track) = IsPath path × IsDevice device × IsTrack track
IsLine (lines.Back device answer) = IsDevice device × IsBack answer
IsLine (lines.StepIdle device) = IsDevice device
IsLine (lines.RunIdle device) = IsDevice device
IsLine (lines.Loose device answer) = IsDevice device × IsLoose answer
IsLine (lines.Io reads writes) = IsLong reads × IsLong writes
IsLine (lines.Over path device ordinal how) = IsPath path × IsDevice device × IsShort ordinal × IsOver how
IsLine (lines.Reset path device) = IsPath path × IsDevice device
IsLine (lines.Order order answer) = IsOrder order × IsAnswer answer
IsLine (lines.Device device totals) = IsDevice device × IsTotals totals
IsLine (lines.Lost device track) = IsDevice device × IsTrack track
IsLine (lines.Frame device track modified) = IsDevice device × IsTrack track
IsLine (lines.Fresh device) = IsDevice device
IsLine (lines.Left path device programs) = IsPath path × IsDevice device × IsShort programs
IsLine (lines.Unused events) = IsCount events
IsLine lines.Finish = Unit {0}
IsLine (lines.Sum of n) = IsLong n

-- The track that a line names, if it names one

abbrev pub back_track : BackAnswer → Option ℕ
back_track back.Nothing = None
back_track (back.Recovered track) = Some track
back_track (back.Copied track) = Some track
back_track (back.Staged track) = Some track
back_track (back.Skipped track) = Some track
back_track (back.Destaged track) = Some track
back_track (back.Half track) = Some track
back_track (back.Finished track) = Some track
back_track (back.Unwritten track) = Some track
back_track (back.Fault side) = None
back_track (back.BadBytes side) = None

abbrev pub loose_track : LooseAnswer → Option ℕ
loose_track (loose.Harden track) = Some track
loose_track (loose.Loosen track) = Some track
loose_track (loose.Lost count id) = None

abbrev pub line_track : ReportLine → Option ℕ
line_track (lines.Half path device track) = Some track
line_track (lines.Back device answer) = back_track answer
line_track (lines.Loose device answer) = loose_track answer
line_track (lines.Lost device track) = Some track
line_track (lines.Frame device track modified) = Some track
line_track _ = None

-- it is one that a device of a deck may have
abbrev pub NamesTrack : ReportLine → Type 0
NamesTrack line = IfSome (line_track line) IsTrack

-- Of all orders with an answer POWER alone is always done: no report says that it was refused or waits. An event without
-- volume calls has no IO line

abbrev pub is_done : OrderAnswer → Bool
is_done order_answers.Done = true
is_done _ = false

abbrev pub has_answer : Order → OrderAnswer → Bool
has_answer orders.Power answer = is_done answer
has_answer _ answer = true

abbrev pub has_form : ReportLine → Bool
has_form (lines.Io reads writes) = not ((reads == 0) && (writes == 0))
has_form (lines.Order order answer) = has_answer order answer
has_form _ = true

-- the fault of a line without form
abbrev pub form_fault : ReportLine → LineFault
form_fault (lines.Io reads writes) = Number
form_fault _ = Word
