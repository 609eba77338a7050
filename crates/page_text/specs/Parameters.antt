-- What the bytes that are given to a command say.
use Rattle.std.specs.Prelude.{ℕ, ◌==◌, ◌+◌, ◌*◌, ◌/◌, ◌%◌, List, [], ◌∷◌, ◌++◌, codes, decimal, slice_index, Option, Some, None, if◌then◌else◌}
use Rattle.hex.specs.Hex.{encode_upper}
use Rattle.ckd_types.specs.declared.channel.Ccw.{Ccw}
use Rattle.ckd_types.specs.declared.command.Command.{Command}
use Rattle.ckd_types.specs.declared.command.Command.TheVariants as kinds
use Rattle.ckd_types.specs.declared.command.Control.{Control}
use Rattle.ckd_types.specs.declared.command.Control.TheVariants as controls
use Rattle.ckd_types.specs.declared.command.SearchArea.{SearchArea}
use Rattle.ckd_types.specs.declared.command.SearchArea.TheVariants as searches
use Rattle.ckd_types.specs.declared.command.Write.{Write}
use Rattle.ckd_types.specs.declared.command.Write.TheVariants as writes
use Rattle.ckd_types.specs.Commands.{command_of}
use Rattle.page_text.specs.Pieces.{joined}
use Rattle.page_text.specs.declared.parameters.Form.{Form}
use Rattle.page_text.specs.declared.parameters.Form.TheVariants as forms

-- Which parameters a command has

abbrev pub control_form : Control → Form
control_form controls.DefineExtent = forms.Extent
control_form controls.LocateRecord = forms.Locate
control_form controls.Seek = forms.Seek
control_form controls.SeekCylinder = forms.Seek
control_form controls.SeekHead = forms.Head
control_form controls.SetFileMask = forms.Mask
control_form controls.NoOperation = forms.None
control_form controls.Recalibrate = forms.None
control_form controls.SetSector = forms.None

abbrev pub search_form : SearchArea → Form
search_form (searches.Id comparison) = forms.Id
search_form (searches.Key comparison) = forms.None
search_form searches.Home = forms.Home

abbrev pub write_form : Write → Form
write_form writes.CountKeyData = forms.Count
write_form writes.NextTrack = forms.Count
write_form writes.Zero = forms.Count
write_form writes.Data = forms.None
write_form writes.UpdateData = forms.None
write_form writes.KeyData = forms.None
write_form writes.UpdateKeyData = forms.None

abbrev pub form_by : Command → Form
form_by (kinds.Control control) = control_form control
form_by (kinds.Search search) = search_form search.area
form_by (kinds.Read read) = forms.None
form_by (kinds.Write write) = write_form write
form_by (kinds.Device command) = forms.None

abbrev pub form_in : Option Command → Form
form_in (Some command) = form_by command
form_in None = forms.None

abbrev pub form_of : ℕ → Form
form_of code = form_in (command_of code)

-- Names of values

abbrev pub write_control_name : ℕ → List ℕ
write_control_name mask =
    if mask / 64 == 0 then codes "all writes but record 0's"
    else if mask / 64 == 1 then codes "no writes"
    else if mask / 64 == 2 then codes "updates alone"
    else codes "all writes"

abbrev pub seek_name : ℕ → List ℕ
seek_name mask =
    if mask / 8 % 4 == 0 then codes ", all seeks"
    else if mask / 8 % 4 == 1 then codes ", seeks of cylinder and head"
    else if mask / 8 % 4 == 2 then codes ", seeks of head"
    else codes ", no seeks"

abbrev pub mode_name : ℕ → List ℕ
mode_name attributes =
    if attributes / 4 % 8 == 0 then codes "normal"
    else if attributes / 4 % 8 == 1 then codes "bypass cache"
    else if attributes / 4 % 8 == 2 then codes "inhibit cache loading"
    else if attributes / 4 % 8 == 3 then codes "sequential access"
    else codes "no mode"

abbrev pub fast_name : ℕ → List ℕ
fast_name attributes =
    if attributes % 4 == 0 then []
    else if attributes % 4 == 1 then codes ", no fast write"
    else if attributes % 4 == 2 then codes ", cache fast write"
    else codes ", cache fast write, no fast write"

abbrev pub operation_name : ℕ → List ℕ
operation_name b =
    if b % 64 == 0 then codes "orient"
    else if b % 64 == 1 then codes "write data"
    else if b % 64 == 3 then codes "format"
    else if b % 64 == 6 then codes "read data"
    else if b % 64 == 12 then codes "read tracks"
    else if b % 64 == 22 then codes "read"
    else codes "no operation of these"

abbrev pub orientation_name : ℕ → List ℕ
orientation_name b =
    if b / 64 == 0 then codes " from count"
    else if b / 64 == 1 then codes " from home address"
    else if b / 64 == 2 then codes " from data"
    else codes " from index"

-- Texts

-- a number of two bytes; bytes that are missing are zeros
abbrev pub double_at : List ℕ → ℕ → ℕ
double_at bytes i = slice_index bytes i * 256 + slice_index bytes (i + 1)

-- a byte with what it means
unfoldable pub named_text : List ℕ → ℕ → List ℕ → List ℕ → List ℕ
named_text before byte name more = joined (before ∷ encode_upper (byte ∷ []) ∷ codes ": " ∷ name ∷ more ∷ [])

-- a cylinder and a head
unfoldable pub place_text : List ℕ → ℕ → ℕ → List ℕ
place_text before cylinder head = joined (before ∷ codes "cylinder " ∷ decimal cylinder ∷ codes " head " ∷ decimal head ∷ [])

-- a record's number, before its place
unfoldable pub record_text : List ℕ → ℕ → List ℕ
record_text before n = joined (before ∷ codes "record " ∷ decimal n ∷ codes " of " ∷ [])

unfoldable pub order_text : List ℕ → List ℕ → ℕ → List ℕ
order_text name from count = joined (name ∷ from ∷ codes "; commands in the domain: " ∷ decimal count ∷ [])

unfoldable pub lengths_text : ℕ → ℕ → List ℕ
lengths_text key length = joined (codes ", key length " ∷ decimal key ∷ codes ", data length " ∷ decimal length ∷ [])

unfoldable pub to_head_text : ℕ → List ℕ
to_head_text head = joined (codes "to head " ∷ decimal head ∷ [])

abbrev pub mask_text : ℕ → List ℕ
mask_text mask = named_text (codes "mask ") mask (write_control_name mask) (seek_name mask)

abbrev pub attributes_text : ℕ → List ℕ
attributes_text attributes = named_text (codes "; attributes ") attributes (mode_name attributes) (fast_name attributes)

abbrev pub extent_text : List ℕ → List ℕ
extent_text bytes =
    mask_text (slice_index bytes 0)
    ++ (attributes_text (slice_index bytes 1)
    ++ (place_text (codes "; extent from ") (double_at bytes 8) (double_at bytes 10)
    ++ place_text (codes " to ") (double_at bytes 12) (double_at bytes 14)))

unfoldable pub id_text : List ℕ → List ℕ → ℕ → List ℕ
id_text before bytes i = record_text before (slice_index bytes (i + 4)) ++ place_text [] (double_at bytes i) (double_at bytes (i + 2))

abbrev pub domain_text : ℕ → ℕ → List ℕ
domain_text first count = order_text (operation_name first) (orientation_name first) count

abbrev pub locate_text : List ℕ → List ℕ
locate_text bytes =
    domain_text (slice_index bytes 0) (slice_index bytes 3)
    ++ (place_text (codes "; seek to ") (double_at bytes 4) (double_at bytes 6) ++ id_text (codes "; ") bytes 8)

abbrev pub seek_text : List ℕ → List ℕ
seek_text bytes = place_text (codes "to ") (double_at bytes 2) (double_at bytes 4)

abbrev pub home_text : List ℕ → List ℕ
home_text bytes = place_text [] (double_at bytes 0) (double_at bytes 2)

-- a count area
abbrev pub count_text : List ℕ → List ℕ
count_text bytes = id_text [] bytes 0 ++ lengths_text (slice_index bytes 5) (double_at bytes 6)

abbrev pub form_text : Form → List ℕ → List ℕ
form_text forms.None bytes = []
form_text forms.Extent bytes = extent_text bytes
form_text forms.Locate bytes = locate_text bytes
form_text forms.Seek bytes = seek_text bytes
form_text forms.Head bytes = to_head_text (double_at bytes 4)
form_text forms.Mask bytes = mask_text (slice_index bytes 0)
form_text forms.Id bytes = id_text [] bytes 0
form_text forms.Home bytes = home_text bytes
form_text forms.Count bytes = count_text bytes

abbrev pub parameters_text : Ccw → List ℕ
parameters_text ccw = form_text (form_of ccw.command) ccw.given
