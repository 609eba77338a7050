-- How a command comes out.
use Rattle.std.specs.Prelude.{ℕ, ◌+◌, ◌-◌, ◌==◌, ◌||◌, min, List, [], take, None, Some, if◌then◌else◌}
use Rattle.ckd_types.specs.declared.channel.Ccw.{Ccw}
use Rattle.ckd_types.specs.declared.channel.Note.{Note}
use Rattle.ckd_types.specs.declared.channel.Note.TheVariants.{Plain, IncorrectLength}
use Rattle.ckd_types.specs.declared.sense.Sense.{Sense}
use Rattle.ckd_types.specs.declared.status.UnitStatus.{UnitStatus}
use Rattle.ckd_types.specs.Ccw.{suppresses_length, skips}
use Rattle.ckd_rules.specs.declared.ending.Ending.{Ending}
use Rattle.ckd_rules.specs.declared.stance.Stance.{Stance}

-- channel end and device end
abbrev pub normal : UnitStatus
normal = record { 0 = 0x0c }

-- with status modifier: a search was satisfied
abbrev pub satisfied : UnitStatus
satisfied = record { 0 = 0x4c }

-- with unit exception; with unit check
abbrev pub exception : UnitStatus
exception = record { 0 = 0x0d }

abbrev pub check : UnitStatus
check = record { 0 = 0x0e }

-- the stance behind a command, and its end but for its place in the chain
pub record Outcome : Type 0 where
  pub stance : Stance
  pub ending : Ending

-- one more command has ended, and moved this much
abbrev pub work_counted : Stance → ℕ → Stance
work_counted s moved = record s { commands = s.commands + 1; moved = s.moved + moved }

-- a command that ends with unit check moves nothing
abbrev pub refused : Stance → Ccw → Sense → Outcome
refused s c sense = record { stance = work_counted s 0; ending = record { sent = []; sense = Some sense; residual = c.count; status = check; note = Plain } }

-- an immediate command moves nothing, and notes no incorrect length
abbrev pub immediate : Stance → Ccw → Outcome
immediate s c = record { stance = work_counted s 0; ending = record { sent = []; sense = None; residual = c.count; status = normal; note = Plain } }

-- incorrect length is noted where count and area length differ, unless the flag suppresses it
abbrev pub length_note : Ccw → ℕ → Note
length_note c area = if (c.count == area) || suppresses_length c then Plain else IncorrectLength

-- a command that moved the lesser of its count and its area
abbrev pub outcome_with : Stance → Ccw → ℕ → UnitStatus → List ℕ → Outcome
outcome_with s c area status sent = record {
  stance = work_counted s (min c.count area);
  ending = record { sent = sent; sense = None; residual = c.count - min c.count area; status = status; note = length_note c area };
}

-- what is sent of an area: with skip nothing is kept
abbrev pub sent_of : Ccw → List ℕ → List ℕ
sent_of c area = if skips c then [] else take c.count area
