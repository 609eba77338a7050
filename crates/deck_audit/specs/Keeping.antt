-- A device that an audit keeps is the one that the lines of the report so far make, also while lines of its work are due.
use Rattle.std.specs.Prelude.{◌≡◌, ◌≤◌, ℕ, nat_lt, length, Option, Some, None, if◌then◌else◌, ⊤}
use Rattle.ckd_types.specs.declared.channel.CommandEnd.{CommandEnd}
use Rattle.ckd_types.specs.declared.sense.Sense.{Sense}
use Rattle.plain_defs.specs.History.{OpenEntry}
use Rattle.deck_audit.specs.declared.kept.Kept.{Kept}
use Rattle.deck_audit.specs.declared.kept.Then.{Then}
use Rattle.deck_audit.specs.declared.kept.Then.TheVariants.{Passed, Wait}
use Rattle.deck_audit.specs.declared.replayed.Running.{Running}
use Rattle.deck_audit.specs.declared.state.Did.{Did}
use Rattle.deck_audit.specs.declared.state.Did.TheVariants.{Ended, CheckEnded}
use Rattle.deck_audit.specs.declared.state.Due.{Due}
use Rattle.deck_audit.specs.declared.state.Due.TheVariants.{Next, DataOf, SenseOf, Behind}
use Rattle.deck_audit.specs.Device.{AuditedDevice, plain_end}
use Rattle.deck_audit.specs.Follows.{Follows, KeepsPaths}
use Rattle.deck_audit.specs.History.{changed}
use Rattle.deck_audit.specs.Replayed.{PendingState}
use Rattle.deck_audit.specs.State.{AuditState, passed}

-- the count of commands stands still where no line tells of more
abbrev pub counted : ℕ → ℕ
counted n = if nat_lt n 4294967295 then n else 4294967295

abbrev pub IsCounted : ℕ → Option OpenEntry → Type 0
IsCounted n (Some o) = (1 ≤ o.path) × (o.path ≤ 4) × (n ≡ counted (length o.ends))
IsCounted n None = ⊤

pub record IsKept (k : Kept) (a : AuditedDevice) : Type 0 where
  pub follows : Follows k.device a
  pub keeps : KeepsPaths k.device a.history
  pub counts : IsCounted k.ended a.history.running

-- a command of its program came to its end, and the device has nothing of it yet
pub record HasPending (k : Kept) (a : AuditedDevice) : Type 0 where
  pub entry : OpenEntry
  pub run : Running
  pub pending : PendingState
  pub entry_is : a.history.running ≡ Some entry
  pub run_is : k.device.running ≡ Some run
  pub pending_is : k.device.pending ≡ Some pending
  pub end : CommandEnd
  pub plain : plain_end a entry ≡ Some end

-- it ends so on the plain device
abbrev pub EndsSo : CommandEnd → Kept → AuditedDevice → Type 0
EndsSo e k a = (h : HasPending k a) × (h.end ≡ e)

abbrev pub ChecksSo : CommandEnd → Kept → AuditedDevice → Type 0
ChecksSo e k a = (sense : Sense) × (e.sense ≡ Some sense) × HasPending k a

abbrev pub IsQuiet : Kept → Type 0
IsQuiet k = k.device.pending ≡ None

abbrev pub DidSo : Did → Kept → AuditedDevice → Type 0
DidSo (Ended e) k a = EndsSo e k a
DidSo (CheckEnded e) k a = ChecksSo e k a
DidSo did k a = IsQuiet k

-- what is due of the device at whose work the report is
abbrev pub IsDue : Due → Kept → AuditedDevice → Type 0
IsDue (DataOf e) k a = EndsSo e k a
IsDue (SenseOf e) k a = EndsSo e k a
IsDue (Behind more did) k a = DidSo did k a
IsDue due k a = IsQuiet k

-- What a line that is judged well brings about

abbrev pub due_of : Then → Due
due_of (Wait due) = due
due_of Passed = Next

abbrev pub goes_on : AuditState → AuditedDevice → Then → AuditState
goes_on s b Passed = passed (changed s b)
goes_on s b (Wait due) = record (changed s b) { due = due }

pub record Goes (s : AuditState) (a : AuditedDevice) (made : Option AuditState) (next : Then) (k : Kept) : Type 0 where
  pub after : AuditedDevice
  pub made_is : made ≡ Some (goes_on s after next)
  pub kept : IsKept k after
  pub due : IsDue (due_of next) k after
  pub number_is : after.number ≡ a.number
  pub plans_are : after.plans ≡ a.plans

-- the line makes what is kept of the device what the history makes of it, or nothing
abbrev pub Judges : AuditState → AuditedDevice → Option AuditState → Option Then → Kept → Type 0
Judges s a made (Some next) k = Goes s a made next k
Judges s a made None k = made ≡ None
