-- A command is decoded once: into what it is to do, or into the sense of the first check that it fails.
use Rattle.std.specs.Prelude.{
  ℕ,
  ◌==◌,
  ◌&&◌,
  not,
  is_some,
  nat_lt,
  nat_le,
  Bool,
  true,
  false,
  List,
  take,
  drop,
  slice_index,
  Option,
  None,
  Some,
  Result,
  Ok,
  Err,
  if◌then◌else◌,
}
use Rattle.ckd_types.specs.declared.channel.Ccw.{Ccw}
use Rattle.ckd_types.specs.declared.command.Command.{Command}
use Rattle.ckd_types.specs.declared.command.Command.TheVariants as commands
use Rattle.ckd_types.specs.declared.command.Control.{Control}
use Rattle.ckd_types.specs.declared.command.Control.TheVariants.{
  NoOperation,
  Seek,
  SeekCylinder,
  SeekHead,
  Recalibrate,
  SetSector,
  SetFileMask,
  DefineExtent,
  LocateRecord,
}
use Rattle.ckd_types.specs.declared.command.DeviceCommand.{DeviceCommand}
use Rattle.ckd_types.specs.declared.command.DeviceCommand.TheVariants as devices
use Rattle.ckd_types.specs.declared.command.ReadArea.{ReadArea}
use Rattle.ckd_types.specs.declared.command.ReadArea.TheVariants as reads
use Rattle.ckd_types.specs.declared.command.Write.{Write}
use Rattle.ckd_types.specs.declared.command.Write.TheVariants as writes
use Rattle.ckd_types.specs.declared.parameters.Extent.{Extent}
use Rattle.ckd_types.specs.declared.parameters.Domain.{Domain}
use Rattle.ckd_types.specs.declared.parameters.ParamFault.{ParamFault}
use Rattle.ckd_types.specs.declared.sense.Sense.{Sense}
use Rattle.ckd_types.specs.Commands.{command_of, required_count}
use Rattle.ckd_types.specs.Domains.{accepts}
use Rattle.ckd_types.specs.Fixed.{Fixed}
use Rattle.ckd_types.specs.Mask.{is_mask, permits_write, permits_seek}
use Rattle.ckd_types.specs.Parameters.{given, seek_to, head_to, extent_of, domain_of}
use Rattle.ckd_types.specs.Sense.{reject_sense, file_protected_sense}
use Rattle.ckd_rules.specs.declared.order.LocalAct.{LocalAct}
use Rattle.ckd_rules.specs.declared.order.LocalAct.TheVariants as acts
use Rattle.ckd_rules.specs.declared.order.Look.{Look}
use Rattle.ckd_rules.specs.declared.order.Look.TheVariants as looks
use Rattle.ckd_rules.specs.declared.order.CommandOrder.{CommandOrder}
use Rattle.ckd_rules.specs.declared.order.CommandOrder.TheVariants.{Nothing, Seeks, Recalibrates, SetsSector, SetsMask, Defines, Locates, Looks, Asks}
use Rattle.ckd_rules.specs.declared.stance.After.{After}
use Rattle.ckd_rules.specs.declared.stance.After.TheVariants.{Other, IdEqual, KeyEqual, HomeEqual, Found, Wrote}
use Rattle.ckd_rules.specs.declared.stance.Place.{Place}
use Rattle.ckd_rules.specs.declared.stance.Place.TheVariants.{Index, Home, Count, Key, Body}
use Rattle.ckd_rules.specs.declared.stance.Stance.{Stance}

-- Sequence.

-- outside a domain: a mask is set once, and a locate record wants an extent
abbrev pub control_may_follow : Stance → Control → Bool
control_may_follow s DefineExtent = not s.mask_set
control_may_follow s SetFileMask = not s.mask_set
control_may_follow s LocateRecord = is_some s.extent
control_may_follow s _ = true

-- outside a domain: what a write needs of the command before it
abbrev pub write_may_follow : After → Write → Bool
write_may_follow IdEqual writes.Data = true
write_may_follow KeyEqual writes.Data = true
write_may_follow IdEqual writes.KeyData = true
write_may_follow IdEqual writes.CountKeyData = true
write_may_follow KeyEqual writes.CountKeyData = true
write_may_follow Found writes.CountKeyData = true
write_may_follow Wrote writes.CountKeyData = true
write_may_follow HomeEqual writes.Zero = true
write_may_follow _ _ = false

-- a read track stands in its domain alone
abbrev pub read_may_follow : ReadArea → Bool
read_may_follow reads.Track = false
read_may_follow _ = true

-- who takes or frees the device does it first
abbrev pub device_may_follow : Stance → DeviceCommand → Bool
device_may_follow s devices.Reserve = s.commands == 0
device_may_follow s devices.Release = s.commands == 0
device_may_follow s devices.UnconditionalReserve = s.commands == 0
device_may_follow s _ = true

abbrev pub may_follow : Stance → Command → Bool
may_follow s (commands.Control c) = control_may_follow s c
may_follow s (commands.Search x) = true
may_follow s (commands.Read r) = read_may_follow r.area
may_follow s (commands.Write w) = write_may_follow s.after w
may_follow s (commands.Device d) = device_may_follow s d

abbrev pub is_before_records : Place → Bool
is_before_records Index = true
is_before_records Home = true
is_before_records _ = false

-- inside a domain record 0 is written before all records, without a search
abbrev pub may_stand_at : Place → Command → Bool
may_stand_at place (commands.Write writes.Zero) = is_before_records place
may_stand_at place _ = true

-- inside a domain: the commands of its operation
abbrev pub is_in_sequence : Stance → Option Domain → Command → Bool
is_in_sequence s None command = may_follow s command
is_in_sequence s (Some d) command = accepts d.operation command && may_stand_at s.place command

-- Parameters.

abbrev pub seeks : Option ℕ → Option CommandOrder
seeks (Some t) = Some (Seeks t)
seeks None = None

abbrev pub sets_mask : ℕ → Option CommandOrder
sets_mask mask = if is_mask mask then Some (SetsMask mask) else None

-- an extent that has a number has the device's
abbrev pub has_own_number : ℕ → Option ℕ → Bool
has_own_number own None = true
has_own_number own (Some number) = number == own

abbrev pub defines : ℕ → Result Extent ParamFault → Option CommandOrder
defines own (Ok e) = if has_own_number own e.number then Some (Defines e) else None
defines own (Err fault) = None

abbrev pub locates : Result Domain ParamFault → Option CommandOrder
locates (Ok d) = Some (Locates d)
locates (Err fault) = None

-- what a control command is to do; nothing where its bytes mean nothing on the device
abbrev pub control_order : Fixed → Stance → List ℕ → Control → Option CommandOrder
control_order f s bytes NoOperation = Some Nothing
control_order f s bytes Seek = seeks (seek_to f.cylinders bytes)
control_order f s bytes SeekCylinder = seeks (seek_to f.cylinders bytes)
control_order f s bytes SeekHead = seeks (head_to s.track bytes)
control_order f s bytes Recalibrate = Some Recalibrates
control_order f s bytes SetSector = Some SetsSector
control_order f s bytes SetFileMask = sets_mask (slice_index bytes 0)
control_order f s bytes DefineExtent = defines f.number (extent_of f.cylinders bytes)
control_order f s bytes LocateRecord = locates (domain_of f.cylinders bytes)

-- set path group ID is given a function byte and an ID
abbrev pub device_act : List ℕ → DeviceCommand → LocalAct
device_act bytes devices.Sense = acts.Sense
device_act bytes devices.SenseId = acts.SenseId
device_act bytes devices.Reserve = acts.Reserve
device_act bytes devices.Release = acts.Release
device_act bytes devices.UnconditionalReserve = acts.Steal
device_act bytes devices.SetPathGroup = acts.SetGroup (slice_index bytes 0) (record { bytes = take 11 (drop 1 bytes) })
device_act bytes devices.SensePathGroup = acts.SenseGroup

-- what a command is to do
abbrev pub decoded_order : Fixed → Stance → Ccw → Command → Option CommandOrder
decoded_order f s c (commands.Control k) = control_order f s (given 16 c) k
decoded_order f s c (commands.Search x) = Some (Looks (looks.Searches x))
decoded_order f s c (commands.Read r) = Some (Looks (looks.Reads r))
decoded_order f s c (commands.Write w) = Some (Looks (looks.Writes w))
decoded_order f s c (commands.Device d) = Some (Asks (device_act (given 16 c) d))

-- Mask and extent.

-- a write that the mask forbids is a bad sequence, a seek is file protected
abbrev pub mask_fault : ℕ → Command → Option Sense
mask_fault mask (commands.Control k) = if permits_seek mask k then None else Some file_protected_sense
mask_fault mask (commands.Write w) = if permits_write mask w then None else Some (reject_sense 2)
mask_fault mask _ = None

-- the track that a command is on, or goes to
abbrev pub first_track : Stance → CommandOrder → Option ℕ
first_track s (Seeks t) = Some t
first_track s Recalibrates = Some 0
first_track s (Locates d) = Some d.seek
first_track s (Looks look) = Some s.track
first_track s _ = None

abbrev pub is_between : Extent → ℕ → Bool
is_between e t = nat_le e.first t && nat_le t e.last

abbrev pub is_within : Option Extent → Option ℕ → Bool
is_within (Some e) (Some t) = is_between e t
is_within _ _ = true

-- The order of checks: code, sequence, count, parameters, mask and extent.

abbrev pub placed_order : Stance → CommandOrder → Result CommandOrder Sense
placed_order s order = if is_within s.extent (first_track s order) then Ok order else Err file_protected_sense

abbrev pub masked_order : Stance → CommandOrder → Option Sense → Result CommandOrder Sense
masked_order s order (Some sense) = Err sense
masked_order s order None = placed_order s order

abbrev pub permitted_order : Stance → Command → Option CommandOrder → Result CommandOrder Sense
permitted_order s command None = Err (reject_sense 4)
permitted_order s command (Some order) = masked_order s order (mask_fault s.mask command)

abbrev pub order_by : Fixed → Stance → Ccw → Option Command → Result CommandOrder Sense
order_by f s c None = Err (reject_sense 1)
order_by f s c (Some command) =
    if not (is_in_sequence s s.domain command) then Err (reject_sense 2)
    else if nat_lt c.count (required_count command) then Err (reject_sense 3)
    else permitted_order s command (decoded_order f s c command)

-- what a command is to do, or the sense of the first check that it fails
abbrev pub order_of : Fixed → Stance → Ccw → Result CommandOrder Sense
order_of f s c = order_by f s c (command_of c.command)
