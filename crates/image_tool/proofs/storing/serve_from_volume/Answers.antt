use Rattle.std.proofs.Common.{ℕ, List, Option, inl, inr, refl, sym, subst}
use Rattle.disk_image.specs.Image.{IsLayoutOf}
use Rattle.image_tool.proofs.Openings.{not_opened, opened}
use Rattle.image_tool.proofs.Stored.{given_on, opened_now}
use Rattle.image_tool.proofs.storing.serve_from_volume.Goals as goal

pub serve_given-requires-clause-layout : goal.serve_given-requires-clause-layout
serve_given-requires-clause-layout g c =
    subst (λ (h : Option (List ℕ)). IsLayoutOf h c.in-Ok.layout) (sym c.in-Ok.ensures.held) c.in-Ok.ensures.layout

pub serve_given-requires-clause-opened : goal.serve_given-requires-clause-opened
serve_given-requires-clause-opened g c = opened_now _ _ c.in-Ok.layout c.in-Ok.ensures.held (opened _ _ c.in-Ok.ensures.told)

pub returns-in-Ok-clause-told : goal.returns-in-Ok-clause-told
returns-in-Ok-clause-told g c =
    inr (record {
      layout = c.in-Ok.layout;
      opened = opened _ _ c.in-Ok.ensures.told;
      told = given_on _ _ _ _ _ _ _ c.in-Ok.ensures.held c.serve_given.ensures.told;
    })

pub returns-in-Err-clause-told : goal.returns-in-Err-clause-told
returns-in-Err-clause-told g c =
    inl (record {
      fault = c.in-Err.fault;
      is = not_opened _ _ c.in-Err.ensures.told;
      left = refl;
      same = c.in-Err.ensures.held;
      written = c.refuse.ensures.told;
    })
