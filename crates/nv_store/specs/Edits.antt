-- Edits in their order, on a patch and on the records of a track.
use Rattle.std.specs.Prelude.{List, [], ◌∷◌}
use Rattle.ckd_types.specs.declared.record.Record.{Record}
use Rattle.ckd_types.specs.declared.record.Edit.{Edit}
use Rattle.ckd_types.specs.Edit.{edited}
use Rattle.nv_store.specs.Patch.{PatchView, added}

abbrev pub all_added : PatchView → List Edit → PatchView
all_added p [] = p
all_added p (e ∷ es) = all_added (added p e) es

-- an update of a record that isn't there changes nothing
abbrev pub all_edited : List Edit → List Record → List Record
all_edited [] records = records
all_edited (e ∷ es) records = all_edited es (edited e records)
