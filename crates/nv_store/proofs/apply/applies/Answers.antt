use Rattle.std.proofs.Common.{◌≡◌, true, sym, ◌∙◌}
use Rattle.std.specs.List.{list_all}
use Rattle.nv_store.specs.Patch.{reaches, is_replaceable}
use Rattle.nv_store.proofs.Units.{fit_patched}
use Rattle.nv_store.proofs.apply.applies.Goals as goal

pub returns : goal.returns
returns c =
    let records = c.args.image.now.track.records in
    let reached : reaches c.args.kept records ≡ true = sym c.reaches.ensures ∙ c.if-not-reaches.false in
    let replaceable : list_all (is_replaceable c.args.kept records) c.args.replaced.now ≡ true =
    sym c.are_replaceable.ensures ∙ c.if-not-are_replaceable.false in
    rw (c.fits.ensures, reached, replaceable) (sym (fit_patched c.args.image.now.geometry c.args.kept
    c.args.replaced.now records c.args.behind.now replaceable))
