-- What a device is excused for: the tracks that it may lose, and the commands that may end with equipment check, by how often something failed.
use Rattle.std.specs.Prelude.{
  ◌≡◌,
  ◌≤◌,
  ℕ,
  ◌+◌,
  ◌-◌,
  ◌==◌,
  ◌&&◌,
  ◌||◌,
  not,
  nat_le,
  Bool,
  true,
  false,
  List,
  [],
  ◌∷◌,
  length,
  Option,
  Some,
  None,
  count_by,
  slice_index_or,
  if◌then◌else◌,
}
use Rattle.ckd_types.specs.declared.channel.Ccw.{Ccw}
use Rattle.ckd_types.specs.declared.command.Command.{Command}
use Rattle.ckd_types.specs.declared.command.Command.TheVariants.{Write}
use Rattle.ckd_types.specs.declared.sense.Sense.{Sense}
use Rattle.ckd_types.specs.Commands.{command_of}
use Rattle.ckd_types.specs.Ccw.{ccw_at}
use Rattle.plain_defs.specs.declared.journal.Acted.{Acted}
use Rattle.plain_defs.specs.declared.journal.How.{How}
use Rattle.plain_defs.specs.declared.journal.How.TheVariants.{Checked}
use Rattle.plain_defs.specs.declared.journal.Item.{Item}
use Rattle.plain_defs.specs.declared.journal.Item.TheVariants as items
use Rattle.plain_defs.specs.Effect.{effect_on}
use Rattle.plain_defs.specs.Entry.{ProgramEntry}
use Rattle.plain_defs.specs.Journal.{Plans, program_of, entry_part, replay_item, last_sense}
use Rattle.plain_defs.specs.PlainState.{PlainState}
use Rattle.plain_defs.specs.Program.{Part}
use Rattle.device_defs.specs.declared.counts.Counts.{Counts}
use Rattle.device_defs.specs.Command.{is_loss, has_loss}

-- with no loss of a side and no failed call it takes both cache and store to lose a track
abbrev pub may_lose : Counts → Bool
may_lose n = not (n.losses.sides == 0) || not (n.failed == 0) || (not (n.losses.cache == 0) && not (n.losses.store == 0))

abbrev pub count_lost : List Bool → ℕ
count_lost lost = count_by (λ (x : Bool). x) lost

-- How often data of cache fast write were lost

abbrev pub losses_in : List Acted → ℕ
losses_in acts = count_by (λ (a : Acted). is_loss a.act) acts

abbrev pub losses_of : Item → ℕ
losses_of (items.Program e) = losses_in e.acts
losses_of (items.Act act) = if is_loss act then 1 else 0
losses_of _ = 0

abbrev pub loose_losses : List Item → ℕ
loose_losses [] = 0
loose_losses (x ∷ xs) = losses_of x + loose_losses xs

-- The last command of a program that ended with equipment check

abbrev pub is_equipment_check : Option Sense → Bool
is_equipment_check (Some sense) = slice_index_or sense.bytes 0 0 == 0x10
is_equipment_check None = false

abbrev pub is_data_check : Option Sense → Bool
is_data_check (Some sense) = slice_index_or sense.bytes 0 0 == 0x08
is_data_check None = false

abbrev pub is_checked : How → Bool
is_checked Checked = true
is_checked _ = false

-- what it looks at on the plain device, and whether it is a write
pub record LastCommand : Type 0 where
  pub touched : List ℕ
  pub writes : Bool

abbrev pub is_write : Option Command → Bool
is_write (Some (Write w)) = true
is_write _ = false

abbrev pub last_command_at : List Ccw → ℕ → Part → Option ℕ → LastCommand
last_command_at ccws path p (Some i) = record {
  touched = (effect_on p.fixed p.state path p.stance (ccw_at ccws i)).touched;
  writes = is_write (command_of (ccw_at ccws i).command);
}
last_command_at ccws path p None = record { touched = []; writes = false }

abbrev pub command_in : List Ccw → ℕ → Part → LastCommand
command_in ccws path p = last_command_at ccws path p p.next

abbrev pub last_command : Plans → PlainState → ProgramEntry → LastCommand
last_command plans state e =
    command_in (program_of plans e.path e.ordinal) e.path (entry_part plans state e (length e.ends - 1))

abbrev pub has_lost : List Bool → List ℕ → Bool
has_lost lost [] = false
has_lost lost (t ∷ ts) = slice_index_or lost t false || has_lost lost ts

-- A check is explained by a lost track, by a loss of the program's data of cache fast write, or, of a write, by a side that was lost or two
-- calls that failed

abbrev pub is_unexplained_by : List Bool → Counts → LastCommand → Bool
is_unexplained_by lost n c = not (has_lost lost c.touched) && (not c.writes || ((n.losses.sides == 0) && nat_le n.failed 1))

abbrev pub is_unexplained : Plans → PlainState → List Bool → Counts → ProgramEntry → Bool
is_unexplained plans state lost n e =
    is_checked e.how && is_equipment_check (last_sense e.ends) && not (has_loss e.acts)
    && is_unexplained_by lost n (last_command plans state e)

abbrev pub unexplained_item : Plans → PlainState → List Bool → Counts → Item → ℕ
unexplained_item plans state lost n (items.Program e) = if is_unexplained plans state lost n e then 1 else 0
unexplained_item plans state lost n _ = 0

abbrev pub unexplained : Plans → PlainState → List Bool → Counts → List Item → ℕ
unexplained plans state lost n [] = 0
unexplained plans state lost n (x ∷ xs) = unexplained_item plans state lost n x + unexplained plans (replay_item plans state x) lost n xs

-- of an empty device, a journal, the lost tracks and what was counted
pub record IsExcused (plans : Plans) (empty : PlainState) (journal : List Item) (lost : List Bool) (n : Counts) : Type 0 where
  pub tracks : may_lose n ≡ false → count_lost lost ≡ 0
  pub loose : loose_losses journal ≤ n.losses.cache
  pub checks : unexplained plans empty lost n journal ≤ n.failed
