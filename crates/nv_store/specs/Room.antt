-- How much room one more edit of a patch needs.
use Rattle.std.specs.Prelude.{ℕ, ◌+◌, max, length, Option, Some, None}
use Rattle.nv_store.specs.declared.patches.Stored.{Stored}
use Rattle.nv_store.specs.Patch.{PatchView}

abbrev pub room_of : PatchView → ℕ
room_of p = max (length p.replaced) (length p.behind) + 1

-- of a track's patch, or of a first one
abbrev pub room_for : Option Stored → ℕ
room_for None = 1
room_for (Some s) = room_of s.patch
