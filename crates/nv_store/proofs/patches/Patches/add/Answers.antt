use Rattle.std.proofs.Common.{◌∙◌, ap, slice_set}
use Rattle.std.specs.Prelude.{None, Some, Option}
use Rattle.std.proofs.lemmas.List.{set-get_or}
use Rattle.std.proofs.lemmas.Result.{on_err_weaker}
use Rattle.nv_store.specs.Patch.{PatchView}
use Rattle.nv_store.specs.declared.patches.Stored.{Stored}
use Rattle.nv_store.proofs.patches.Patches.add.Goals as goal

-- a patch that is unchanged is what was there
abbrev holding : Stored → PatchView → Option Stored
holding stored patch = Some (record stored { patch = patch })

pub returns-clause-same : goal.returns-clause-same
returns-clause-same c =
    let stored : Stored = c.entry_mut-stored.result.now in
    on_err_weaker c.add.result (λ same.
    ap (λ (o : Option Stored). slice_set c.self.inside.table c.args.t o) (ap (holding stored) same ∙ c.entry_mut-stored.ensures.value)
    ∙ set-get_or c.self.inside.table c.args.t None ∙ c.self.view_is) c.add.ensures.same
