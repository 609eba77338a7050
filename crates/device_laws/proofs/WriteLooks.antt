-- Only a write edits a track, and what edits is decoded from the code of a write.
use Rattle.std.proofs.Common.{◌≡◌, ◌*◌, zero, suc, ℕ, Bool, true, false, List, Option, Some, None, Result, Ok, Err, refl, sym, subst, ◌∙◌}
use Rattle.std.specs.Prelude.{nat_lt, not, slice_index, if◌then◌else◌}
use Rattle.ckd_types.specs.declared.channel.Ccw.{Ccw}
use Rattle.ckd_types.specs.declared.command.Command.{Command}
use Rattle.ckd_types.specs.declared.command.Command.TheVariants as commands
use Rattle.ckd_types.specs.declared.command.Control.{Control}
use Rattle.ckd_types.specs.declared.command.Control.TheVariants as controls
use Rattle.ckd_types.specs.declared.command.Read.{Read}
use Rattle.ckd_types.specs.declared.command.ReadArea.{ReadArea}
use Rattle.ckd_types.specs.declared.command.ReadArea.TheVariants as reads
use Rattle.ckd_types.specs.declared.command.SearchArea.{SearchArea}
use Rattle.ckd_types.specs.declared.command.Write.TheVariants as writes
use Rattle.ckd_types.specs.declared.geometry.Geometry.{Geometry}
use Rattle.ckd_types.specs.declared.parameters.Domain.{Domain}
use Rattle.ckd_types.specs.declared.parameters.Extent.{Extent}
use Rattle.ckd_types.specs.declared.parameters.ParamFault.{ParamFault}
use Rattle.ckd_types.specs.declared.record.Edit.{Edit}
use Rattle.ckd_types.specs.declared.record.Track.{Track}
use Rattle.ckd_types.specs.declared.sense.Sense.{Sense}
use Rattle.ckd_types.specs.Commands.{command_of, required_count}
use Rattle.ckd_types.specs.Fixed.{Fixed}
use Rattle.ckd_types.specs.Mask.{is_mask}
use Rattle.ckd_types.specs.Parameters.{given}
use Rattle.ckd_rules.specs.declared.ending.Ending.{Ending}
use Rattle.ckd_rules.specs.declared.finding.Sought.{Sought}
use Rattle.ckd_rules.specs.declared.finding.Sought.TheVariants as sought
use Rattle.ckd_rules.specs.declared.grouping.GroupFault.{GroupFault}
use Rattle.ckd_rules.specs.declared.opening.Opening.{Opening}
use Rattle.ckd_rules.specs.declared.opening.Opening.TheVariants as openings
use Rattle.ckd_rules.specs.declared.order.Look.{Look}
use Rattle.ckd_rules.specs.declared.order.Look.TheVariants as looks
use Rattle.ckd_rules.specs.declared.order.CommandOrder.{CommandOrder}
use Rattle.ckd_rules.specs.declared.order.CommandOrder.TheVariants as orders
use Rattle.ckd_rules.specs.declared.stance.Place.{Place}
use Rattle.ckd_rules.specs.declared.stance.Place.TheVariants as places
use Rattle.ckd_rules.specs.declared.stance.Stance.{Stance}
use Rattle.ckd_rules.specs.declared.turned.Turned.{Turned}
use Rattle.ckd_rules.specs.declared.turned.Turned.TheVariants as turns
use Rattle.ckd_rules.specs.Checks.{
  is_in_sequence,
  seeks,
  sets_mask,
  has_own_number,
  defines,
  locates,
  control_order,
  decoded_order,
  mask_fault,
  is_within,
  first_track,
  masked_order,
  permitted_order,
  order_by,
  order_of,
}
use Rattle.ckd_rules.specs.Control.{unseen_place}
use Rattle.ckd_rules.specs.Finding.{track_after}
use Rattle.ckd_rules.specs.Look.{look_on}
use Rattle.ckd_rules.specs.Looked.{Looked}
use Rattle.ckd_rules.specs.Opening.{Opened, moved, read_from, look_from, locating, begun, opening_with, opening_of}
use Rattle.ckd_rules.specs.Reads.{read_sought}
use Rattle.ckd_rules.specs.Searches.{search_sought}
use Rattle.ckd_rules.specs.Walk as W
use Rattle.ckd_rules.specs.Walk.{TrackEdit, walked, walk}
use Rattle.plain_defs.specs.Acts.{act_fault}
use Rattle.plain_defs.specs.Effect.{acted_by, effect_by, command_effect}
use Rattle.plain_defs.specs.PlainState.{PathsState}
use Rattle.device_defs.specs.Excused.{is_write}

abbrev pub is_write_look : Look → Bool
is_write_look (looks.Writes w) = true
is_write_look (looks.Finds d) = false
is_write_look (looks.Searches x) = false
is_write_look (looks.Reads r) = false

abbrev pub NoEdit : Turned → Type 0
NoEdit (turns.Ended e) = Unit {0}
NoEdit turns.Onward = Unit {0}
NoEdit (turns.Edits edit e) = ⊥

-- a record round it, so that its arguments can be inferred
record Looks (l : Looked) : Type 0 where
  none : NoEdit l.turned

search_none : (t : Track) (area : SearchArea) (s : Stance) (c : Ccw) (x : Sought) → Looks (search_sought t area s c x)
search_none t area s c (sought.Here i passes) = record { none = tt }
search_none t area s c (sought.Onward u) = record { none = tt }
search_none t area s c (sought.Nowhere sense) = record { none = tt }

read_none : (t : Track) (area : ReadArea) (s : Stance) (c : Ccw) (x : Sought) → Looks (read_sought t area s c x)
read_none t area s c (sought.Here i passes) = record { none = tt }
read_none t area s c (sought.Onward u) = record { none = tt }
read_none t area s c (sought.Nowhere sense) = record { none = tt }

look_none : (g : Geometry) (t : Track) (s : Stance) (c : Ccw) (look : Look) → is_write_look look ≡ false → Looks (look_on g t s c look)
look_none g t s c (looks.Finds d) e = record { none = tt }
look_none g t s c (looks.Searches x) e = search_none t x.area s c _
look_none g t s c (looks.Reads r) e = read_none t r.area s c _
look_none g t s c (looks.Writes w) e = absurd (cc)

-- what edits is a write
pub edits_write : (g : Geometry) (t : Track) (s : Stance) (c : Ccw) (look : Look) (edit : Edit) (e : Ending) →
    (look_on g t s c look).turned ≡ turns.Edits edit e → is_write_look look ≡ true
edits_write g t s c look edit e is = by_test (is_write_look look) refl where
  by_test : (b : Bool) → is_write_look look ≡ b → is_write_look look ≡ true
  by_test true same = same
  by_test false same = absurd (subst NoEdit is (look_none g t s c look same).none)

-- Codes

abbrev pub OrderBy : Option Command → CommandOrder → Type 0
OrderBy command (orders.Looks (looks.Writes w)) = is_write command ≡ true
OrderBy command (orders.Looks look) = Unit {0}
OrderBy command order = Unit {0}

abbrev MaybeBy : Option Command → Option CommandOrder → Type 0
MaybeBy command (Some order) = OrderBy command order
MaybeBy command None = Unit {0}

abbrev ResultBy : Option Command → Result CommandOrder Sense → Type 0
ResultBy command (Ok order) = OrderBy command order
ResultBy command (Err sense) = Unit {0}

record Decodes (command : Option Command) (o : Option CommandOrder) : Type 0 where
  is : MaybeBy command o

record Orders (command : Option Command) (r : Result CommandOrder Sense) : Type 0 where
  is : ResultBy command r

result_if : (command : Option Command) (b : Bool) {x y : Result CommandOrder Sense} → Orders command x → Orders command y → Orders command (if b then x else y)
result_if command true f g = f
result_if command false f g = g

maybe_if : (command : Option Command) (b : Bool) {x y : Option CommandOrder} → Decodes command x → Decodes command y → Decodes command (if b then x else y)
maybe_if command true f g = f
maybe_if command false f g = g

seeks_to : (command : Option Command) (t : Option ℕ) → Decodes command (seeks t)
seeks_to command (Some t) = record { is = tt }
seeks_to command None = record { is = tt }

mask_to : (command : Option Command) (mask : ℕ) → Decodes command (sets_mask mask)
mask_to command mask = maybe_if command (is_mask mask) {x = Some (orders.SetsMask mask)} {y = None} (record { is = tt }) (record { is = tt })

defines_to : (command : Option Command) (own : ℕ) (r : Result Extent ParamFault) → Decodes command (defines own r)
defines_to command own (Ok e) = maybe_if command (has_own_number own e.number) (record { is = tt }) (record { is = tt })
defines_to command own (Err fault) = record { is = tt }

locates_to : (command : Option Command) (r : Result Domain ParamFault) → Decodes command (locates r)
locates_to command (Ok d) = record { is = tt }
locates_to command (Err fault) = record { is = tt }

control_to : (command : Option Command) (f : Fixed) (s : Stance) (bytes : List ℕ) (k : Control) → Decodes command (control_order f s bytes k)
control_to command f s bytes controls.NoOperation = record { is = tt }
control_to command f s bytes controls.Seek = seeks_to command _
control_to command f s bytes controls.SeekCylinder = seeks_to command _
control_to command f s bytes controls.SeekHead = seeks_to command _
control_to command f s bytes controls.Recalibrate = record { is = tt }
control_to command f s bytes controls.SetSector = record { is = tt }
control_to command f s bytes controls.SetFileMask = mask_to command (slice_index bytes 0)
control_to command f s bytes controls.DefineExtent = defines_to command f.number _
control_to command f s bytes controls.LocateRecord = locates_to command _

decodes : (f : Fixed) (s : Stance) (c : Ccw) (command : Command) → Decodes (Some command) (decoded_order f s c command)
decodes f s c (commands.Control k) = control_to (Some (commands.Control k)) f s (given 16 c) k
decodes f s c (commands.Search x) = record { is = tt }
decodes f s c (commands.Read r) = record { is = tt }
decodes f s c (commands.Write w) = record { is = refl }
decodes f s c (commands.Device d) = record { is = tt }

masked_to : (command : Option Command) (s : Stance) (order : CommandOrder) (fault : Option Sense) → OrderBy command order → Orders command (masked_order s order fault)
masked_to command s order (Some sense) is = record { is = tt }
masked_to command s order None is = result_if command (is_within s.extent (first_track s order)) (record { is = is }) (record { is = tt })

permitted_to : (s : Stance) (command : Command) (o : Option CommandOrder) → Decodes (Some command) o → Orders (Some command) (permitted_order s command o)
permitted_to s command None d = record { is = tt }
permitted_to s command (Some order) d = masked_to (Some command) s order (mask_fault s.mask command) d.is

orders_to : (f : Fixed) (s : Stance) (c : Ccw) (command : Option Command) → Orders command (order_by f s c command)
orders_to f s c None = record { is = tt }
orders_to f s c (Some command) =
    result_if (Some command) (not (is_in_sequence s s.domain command)) (record { is = tt })
    (result_if (Some command) (nat_lt c.count (required_count command)) (record { is = tt })
    (permitted_to s command (decoded_order f s c command) (decodes f s c command)))

-- How a command begins

abbrev pub OpeningBy : Option Command → Opening → Type 0
OpeningBy command (openings.Looks (looks.Writes w)) = is_write command ≡ true
OpeningBy command (openings.Looks look) = Unit {0}
OpeningBy command (openings.Over e) = Unit {0}
OpeningBy command (openings.Asks act) = Unit {0}

record Opens (command : Option Command) (o : Opened) : Type 0 where
  is : OpeningBy command o.opening

moved_by : (command : Option Command) (s : Stance) (c : Ccw) (look : Look) (r : Result ℕ Sense) → OpeningBy command (openings.Looks look) →
    Opens command (moved s c look r)
moved_by command s c look (Ok t) is = record { is = is }
moved_by command s c look (Err sense) is = record { is = tt }

read_by : (command : Option Command) (s : Stance) (c : Ccw) (r : Read) (area : ReadArea) (place : Place) → Opens command (read_from s c r area place)
read_by command s c r reads.Home place = record { is = tt }
read_by command s c r reads.Zero place = record { is = tt }
read_by command s c r reads.Count place = record { is = tt }
read_by command s c r reads.Data place = record { is = tt }
read_by command s c r reads.KeyData place = record { is = tt }
read_by command s c r reads.CountKeyData place = record { is = tt }
read_by command s c r reads.Multiple place = record { is = tt }
read_by command s c r reads.Track places.Index = record { is = tt }
read_by command s c r reads.Track places.Home = moved_by command s c (looks.Reads r) (track_after s.extent s.track) tt
read_by command s c r reads.Track (places.Count i) = moved_by command s c (looks.Reads r) (track_after s.extent s.track) tt
read_by command s c r reads.Track (places.Key i) = moved_by command s c (looks.Reads r) (track_after s.extent s.track) tt
read_by command s c r reads.Track (places.Body i) = moved_by command s c (looks.Reads r) (track_after s.extent s.track) tt

look_by : (command : Option Command) (s : Stance) (c : Ccw) (look : Look) → OrderBy command (orders.Looks look) → Opens command (look_from s c look)
look_by command s c (looks.Finds d) is = record { is = tt }
look_by command s c (looks.Searches x) is = record { is = tt }
look_by command s c (looks.Reads r) is = read_by command s c r r.area s.place
look_by command s c (looks.Writes writes.Data) is = record { is = is }
look_by command s c (looks.Writes writes.UpdateData) is = record { is = is }
look_by command s c (looks.Writes writes.KeyData) is = record { is = is }
look_by command s c (looks.Writes writes.UpdateKeyData) is = record { is = is }
look_by command s c (looks.Writes writes.CountKeyData) is = record { is = is }
look_by command s c (looks.Writes writes.NextTrack) is = moved_by command s c (looks.Writes writes.NextTrack) (track_after s.extent s.track) is
look_by command s c (looks.Writes writes.Zero) is = record { is = is }

locating_by : (command : Option Command) (s : Stance) (c : Ccw) (d : Domain) (o : Option Place) → Opens command (locating s c d o)
locating_by command s c d (Some place) = record { is = tt }
locating_by command s c d None = record { is = tt }

begun_by : (command : Option Command) (s : Stance) (c : Ccw) (o : CommandOrder) → OrderBy command o → Opens command (begun s c o)
begun_by command s c orders.Nothing is = record { is = tt }
begun_by command s c (orders.Seeks t) is = record { is = tt }
begun_by command s c orders.Recalibrates is = record { is = tt }
begun_by command s c orders.SetsSector is = record { is = tt }
begun_by command s c (orders.SetsMask mask) is = record { is = tt }
begun_by command s c (orders.Defines e) is = record { is = tt }
begun_by command s c (orders.Locates d) is = locating_by command s c d (unseen_place d.orientation)
begun_by command s c (orders.Looks look) is = look_by command s c look is
begun_by command s c (orders.Asks act) is = record { is = tt }

result_by : (command : Option Command) (s : Stance) (c : Ccw) (r : Result CommandOrder Sense) → ResultBy command r → Opens command (opening_with s c r)
result_by command s c (Ok o) is = begun_by command s c o is
result_by command s c (Err sense) is = record { is = tt }

pub opening_is : (f : Fixed) (s : Stance) (c : Ccw) → OpeningBy (command_of c.command) (opening_of f s c).opening
opening_is f s c = (result_by (command_of c.command) s c (order_of f s c) (orders_to f s c (command_of c.command)).is).is

pub writes_by : (command : Option Command) (look : Look) → OpeningBy command (openings.Looks look) → is_write_look look ≡ true → is_write command ≡ true
writes_by command (looks.Writes w) is e = is
writes_by command (looks.Finds d) is e = absurd (cc)
writes_by command (looks.Searches x) is e = absurd (cc)
writes_by command (looks.Reads r) is e = absurd (cc)

-- so a command with an edit is one

turned_unedited : (t : ℕ) (on : Stance → W.Walked) (s : Stance) (x : Turned) → NoEdit x → ((z : Stance) → (on z).edit ≡ None) → (walked t on s x).edit ≡ None
turned_unedited t on s (turns.Ended e) none more = refl
turned_unedited t on s turns.Onward none more = more s
turned_unedited t on s (turns.Edits edit e) none more = absurd none

walk_unedited : (n : ℕ) (g : Geometry) (tracks : ℕ → Track) (start : Stance) (c : Ccw) (look : Look) → is_write_look look ≡ false → (s : Stance) →
    (walk n g tracks start c look s).edit ≡ None
unfolding W.walk
walk_unedited zero g tracks start c look e s = refl
walk_unedited (suc n) g tracks start c look e s =
    turned_unedited s.track (walk n g tracks start c look) (look_on g (tracks s.track) s c look).stance (look_on g (tracks s.track) s c look).turned
    (look_none g (tracks s.track) s c look e).none (walk_unedited n g tracks start c look e)

pub walk_writes : (n : ℕ) (g : Geometry) (tracks : ℕ → Track) (start : Stance) (c : Ccw) (look : Look) (s : Stance) (x : TrackEdit) →
    (walk n g tracks start c look s).edit ≡ Some x → is_write_look look ≡ true
walk_writes n g tracks start c look s x is = by_test (is_write_look look) refl where
  by_test : (b : Bool) → is_write_look look ≡ b → is_write_look look ≡ true
  by_test true same = same
  by_test false same = absurd (let none = walk_unedited n g tracks start c look same s in let both : None ≡ Some x = sym none ∙ is in cc)

effect_writes : (command : Option Command) (f : Fixed) (paths : PathsState) (tracks : ℕ → Track) (path : ℕ) (start : Stance) (c : Ccw) (s : Stance)
    (x : Opening) (edit : TrackEdit) → OpeningBy command x → (effect_by f paths tracks path start c s x).edit ≡ Some edit → is_write command ≡ true
effect_writes command f paths tracks path start c s (openings.Over e) edit by is = absurd (cc)
effect_writes command f paths tracks path start c s (openings.Looks look) edit by is =
    writes_by command look by (walk_writes (f.cylinders * 15) f.geometry tracks start c look s edit is)
effect_writes command f paths tracks path start c s (openings.Asks act) edit by is = by_fault (act_fault paths path act) is where
  by_fault : (fault : Option GroupFault) → (acted_by f paths path start c act fault).edit ≡ Some edit → is_write command ≡ true
  by_fault (Some fault) is = absurd (cc)
  by_fault None is = absurd (cc)

pub edited_is_write : (f : Fixed) (paths : PathsState) (tracks : ℕ → Track) (path : ℕ) (s : Stance) (c : Ccw) (edit : TrackEdit) →
    (command_effect f paths tracks path s c).edit ≡ Some edit → is_write (command_of c.command) ≡ true
edited_is_write f paths tracks path s c edit is =
    effect_writes (command_of c.command) f paths tracks path s c (opening_of f s c).stance (opening_of f s c).opening edit (opening_is f s c) is
