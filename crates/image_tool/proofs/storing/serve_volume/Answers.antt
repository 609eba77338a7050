use Rattle.std.proofs.Common.{inl, inr, refl, sym, ap, subst, ◌∙◌}
use Rattle.disk_image.specs.declared.layout.Layout.{Layout}
use Rattle.disk_image.specs.Image.{IsLayoutOf}
use Rattle.image_tool.specs.Storing.{is_alike}
use Rattle.image_tool.proofs.Stored.{alike_same, opened_as}
use Rattle.image_tool.proofs.storing.serve_volume.Goals as goal

pub returns-then-not-is_alike-clause-told : goal.returns-then-not-is_alike-clause-told
returns-then-not-is_alike-clause-told g c =
    inl (record {
      unlike = ap (is_alike c.args.layout) (sym c.layout_of-given.ensures) ∙ sym c.is_alike.ensures ∙ c.if-not-is_alike.true;
      same = refl;
      written = rw c.layout_of-given.ensures at c.unlike.ensures.told;
    })

pub store-requires-clause-layout : goal.store-requires-clause-layout
store-requires-clause-layout g c =
    let same = alike_same c.args.layout c.layout_of-given.result (sym c.is_alike.ensures ∙ c.if-not-is_alike.false) ∙ c.layout_of-given.ensures in
    subst (λ (l : Layout). IsLayoutOf (g.F.DiskFile.held c.args.file.now) l) same c.requires.layout

pub store-requires-clause-opened : goal.store-requires-clause-opened
store-requires-clause-opened g c =
    let same = alike_same c.args.layout c.layout_of-given.result (sym c.is_alike.ensures ∙ c.if-not-is_alike.false) ∙ c.layout_of-given.ensures in
    opened_as _ _ _ same c.requires.opened

pub returns-clause-told : goal.returns-clause-told
returns-clause-told g c =
    let same = alike_same c.args.layout c.layout_of-given.result (sym c.is_alike.ensures ∙ c.if-not-is_alike.false) ∙ c.layout_of-given.ensures in
    inr (record { alike = same; stored = c.store.ensures.stored; quiet = refl })
