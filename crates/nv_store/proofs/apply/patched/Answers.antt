use Rattle.std.proofs.Common.{List, ◌++◌, ap, ◌∙◌}
use Rattle.std.proofs.lemmas.Bool.{and_parts}
use Rattle.ckd_types.specs.declared.record.Record.{Record}
use Rattle.nv_store.specs.Patch.{PatchView, reaches}
use Rattle.nv_store.proofs.Applied.{reaches_revised, fits_revised}
use Rattle.nv_store.proofs.Revisions.{revised_stay}
use Rattle.nv_store.proofs.apply.patched.Goals as goal

pub cut-requires-clause-reached : goal.cut-requires-clause-reached
cut-requires-clause-reached c =
    let tests = and_parts (reaches c.args.kept c.args.image.track.records) _ c.requires.applies in
    rw c.revise.ensures (reaches_revised c.args.kept c.args.replaced.now c.args.image.track.records tests.0)

pub cut-requires-clause-fit : goal.cut-requires-clause-fit
cut-requires-clause-fit c =
    let patch : PatchView = record { replaced = c.args.replaced.now; kept = c.args.kept; behind = c.args.behind.now } in
    rw c.revise.ensures (fits_revised patch c.args.image c.requires.applies)

pub returns : goal.returns
returns c =
    let whole = rw c.revise.ensures at c.in_ok-cut.ensures in
    whole ∙ ap (λ (front : List Record). record c.args.image
    { track = record c.args.image.track { records = front ++ c.args.behind.now } })
    (revised_stay c.args.kept c.args.replaced.now c.args.image.track.records)
