-- What the nonvolatile store holds: a list with a place for each track.
use Rattle.std.specs.Prelude.{ℕ, ◌+◌, Bool, List, slice_set, Option, Some, None}
use Rattle.ckd_types.specs.declared.record.Edit.{Edit}
use Rattle.track_table.specs.Table.{entry_at, has_entry, with_places}
use Rattle.nv_store.specs.declared.patches.Stored.{Stored}
use Rattle.nv_store.specs.Patch.{PatchView, added}

abbrev pub stored_at : List (Option Stored) → ℕ → Option Stored
stored_at patches t = entry_at patches t

abbrev pub has_patch : List (Option Stored) → ℕ → Bool
has_patch patches t = has_entry patches t

abbrev pub patch_of : Option Stored → Option PatchView
patch_of None = None
patch_of (Some s) = Some s.patch

abbrev pub patch_at : List (Option Stored) → ℕ → Option PatchView
patch_at patches t = patch_of (stored_at patches t)

abbrev pub slot_of : Option Stored → Option ℕ
slot_of None = None
slot_of (Some s) = Some s.slot

abbrev pub slot_at : List (Option Stored) → ℕ → Option ℕ
slot_at patches t = slot_of (stored_at patches t)

abbrev pub with_edit : Edit → Option Stored → Option Stored
with_edit e None = None
with_edit e (Some s) = Some (record s { patch = added s.patch e })

-- a patch and its slot, in a place that is made where there is none
abbrev pub put_patch : ℕ → PatchView → ℕ → List (Option Stored) → List (Option Stored)
put_patch t patch slot patches = slice_set (with_places (t + 1) patches) t
    (Some (record { patch = patch; slot = slot }))
