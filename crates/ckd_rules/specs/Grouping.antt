-- Path groups and who holds a device: what set path group ID makes of the paths and of the reservation, and what sense path group ID tells.
use Rattle.std.specs.Prelude.{
  ℕ,
  ◌+◌,
  ◌-◌,
  ◌==◌,
  ◌||◌,
  not,
  Bool,
  true,
  false,
  List,
  ◌∷◌,
  map,
  replicate,
  slice_index_or,
  slice_set,
  Option,
  None,
  Some,
  if◌then◌else◌,
}
use Rattle.std.specs.Int.RustNames.{bit_and}
use Rattle.std.specs.List.{list_any}
use Rattle.std.specs.Str.{bytes_eq}
use Rattle.ckd_types.specs.declared.paths.GroupId.{GroupId}
use Rattle.ckd_types.specs.declared.paths.Owner.{Owner}
use Rattle.ckd_types.specs.declared.paths.Owner.TheVariants.{Group, Path}
use Rattle.ckd_types.specs.declared.paths.PathState.{PathState}
use Rattle.ckd_types.specs.declared.paths.PathState.TheVariants.{Reset, Ungrouped, Grouped}
use Rattle.ckd_rules.specs.declared.grouping.GroupFault.{GroupFault}
use Rattle.ckd_rules.specs.declared.grouping.GroupFault.TheVariants.{BadFunction, BadId}

-- whether two group names are the same eleven bytes
abbrev pub is_same_group : GroupId → GroupId → Bool
is_same_group a b = bytes_eq a.bytes b.bytes

abbrev pub is_in_group : GroupId → PathState → Bool
is_in_group g (Grouped id multipath) = is_same_group g id
is_in_group g Reset = false
is_in_group g Ungrouped = false

-- whom a path stands for: its group where it is in one, else itself
abbrev pub owner_by : PathState → ℕ → Owner
owner_by (Grouped id multipath) path = Group id
owner_by Reset path = Path path
owner_by Ungrouped path = Path path

abbrev pub is_same_owner : Owner → Owner → Bool
is_same_owner (Group a) (Group b) = is_same_group a b
is_same_owner (Path p) (Path q) = p == q
is_same_owner (Group a) (Path q) = false
is_same_owner (Path p) (Group b) = false

-- a reservation admits its holder, and where nobody holds the device it admits everybody
abbrev pub is_free_for : Option Owner → Owner → Bool
is_free_for None owner = true
is_free_for (Some holder) owner = is_same_owner holder owner

-- a reset frees the device where the path held it, or where it was the last of the holding group
abbrev pub owner_after : List PathState → ℕ → Option Owner → Option Owner
owner_after paths path None = None
owner_after paths path (Some (Path q)) = if q == path then None else Some (Path q)
owner_after paths path (Some (Group g)) = if list_any (is_in_group g) paths then Some (Group g) else None

-- of the function byte, bits 40 and 20: with neither it establishes, with 40 it resigns, with 20 it disbands
abbrev pub establishes : ℕ → Bool
establishes function = bit_and function 0x60 == 0

abbrev pub resigns : ℕ → Bool
resigns function = bit_and function 0x60 == 0x40

-- bit 80 asks for multipath mode
abbrev pub asks_multipath : ℕ → Bool
asks_multipath function = not (bit_and function 0x80 == 0)

-- bits 1F are zeros, and 40 and 20 do not stand together
abbrev pub is_bad_function : ℕ → Bool
is_bad_function function = not (bit_and function 0x1f == 0) || (bit_and function 0x60 == 0x60)

-- the path is grouped with another ID
abbrev pub is_elsewhere : GroupId → PathState → Bool
is_elsewhere id (Grouped other multipath) = not (is_same_group id other)
is_elsewhere id Reset = false
is_elsewhere id Ungrouped = false

-- who establishes is in no other group; who resigns or disbands is in this one
abbrev pub is_bad_id : ℕ → GroupId → PathState → Bool
is_bad_id function id state = if establishes function then is_elsewhere id state else not (is_in_group id state)

abbrev pub group_fault : ℕ → GroupId → PathState → Option GroupFault
group_fault function id state = if is_bad_function function then Some BadFunction else if is_bad_id function id state then Some BadId else None

abbrev pub state_in : List PathState → ℕ → PathState
state_in paths path = slice_index_or paths (path - 1) Reset

-- the group that a path is in
abbrev pub group_in : PathState → Option GroupId
group_in (Grouped id multipath) = Some id
group_in Reset = None
group_in Ungrouped = None

abbrev pub disbanded : GroupId → PathState → PathState
disbanded id state = if is_in_group id state then Ungrouped else state

-- establish groups the path, resign ungroups it, disband ungroups every path of the group
abbrev pub paths_set : List PathState → ℕ → ℕ → GroupId → List PathState
paths_set paths path function id =
    if establishes function then slice_set paths (path - 1) (Grouped id (asks_multipath function))
    else if resigns function then slice_set paths (path - 1) Ungrouped
    else map (disbanded id) paths

-- a path that held by itself is grouped: its group holds
abbrev pub owner_joined : GroupId → ℕ → Owner → Owner
owner_joined id path (Path q) = if q == path then Group id else Path q
owner_joined id path (Group g) = Group g

-- no path is left in the holding group: the path that gave the command holds
abbrev pub owner_left : List PathState → ℕ → Owner → Owner
owner_left paths path (Group g) = if list_any (is_in_group g) paths then Group g else Path path
owner_left paths path (Path q) = Path q

-- who holds the device behind the command, with the paths as they are behind it
abbrev pub owner_set : List PathState → ℕ → ℕ → GroupId → Option Owner → Option Owner
owner_set paths path function id None = None
owner_set paths path function id (Some owner) = Some (if establishes function then owner_joined id path owner else owner_left paths path owner)

-- bits 0 and 1 of the state byte, bit 0 the first: reset, ungrouped, grouped
abbrev pub member_bits : PathState → ℕ
member_bits Reset = 0x00
member_bits Ungrouped = 0x80
member_bits (Grouped id multipath) = 0xc0

-- bits 2 and 3: not reserved, reserved here, reserved elsewhere
abbrev pub reserved_bits : Option Owner → Owner → ℕ
reserved_bits None here = 0x00
reserved_bits (Some holder) here = if is_same_owner holder here then 0x30 else 0x20

-- bit 4: multipath mode
abbrev pub mode_bit : PathState → ℕ
mode_bit (Grouped id multipath) = if multipath then 0x08 else 0x00
mode_bit Reset = 0x00
mode_bit Ungrouped = 0x00

abbrev pub state_byte : PathState → ℕ → Option Owner → ℕ
state_byte state path owner = member_bits state + reserved_bits owner (owner_by state path) + mode_bit state

-- zeros where the path isn't grouped
abbrev pub group_id_bytes : PathState → List ℕ
group_id_bytes (Grouped id multipath) = id.bytes
group_id_bytes Reset = replicate 11 0
group_id_bytes Ungrouped = replicate 11 0

-- the twelve bytes of sense path group ID
abbrev pub group_bytes : PathState → ℕ → Option Owner → List ℕ
group_bytes state path owner = state_byte state path owner ∷ group_id_bytes state
