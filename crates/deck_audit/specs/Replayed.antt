-- A device of the deck as an audit keeps it: the plain device, and as much of its history as tells what comes next.
use Rattle.std.specs.Prelude.{ℕ, List, Bool, Option}
use Rattle.ckd_rules.specs.Walk.{TrackEdit}
use Rattle.plain_defs.specs.PlainState.{PathsState, PlainState}
use Rattle.plain_device.specs.Between.{edit_of}
use Rattle.deck_audit.specs.declared.replayed.Pending.{Pending}
use Rattle.deck_audit.specs.declared.replayed.Running.{Running}
use Rattle.deck_audit.specs.declared.state.HalfWrite.{HalfWrite}

-- what the command that ended last does to the device, and whether it edits data of cache fast write
pub record PendingState : Type 0 where
  pub edit : Option TrackEdit
  pub paths : PathsState
  pub provisional : Bool

abbrev pub pending_of : Pending → PendingState
pending_of p = record { edit = edit_of p.edit; paths = p.paths; provisional = p.provisional }

-- of each path how many programs were started, whether it used something since its last reset, and whether its reset waits;
-- whether any program was started since the power came; the program that runs, and what its last end does
pub record ReplayedState : Type 0 where
  pub number : ℕ
  pub device : PlainState
  pub started : List ℕ
  pub used : List Bool
  pub waits : List Bool
  pub powered : Bool
  pub running : Option Running
  pub pending : Option PendingState
  pub half : HalfWrite
  pub lent : Option ℕ
