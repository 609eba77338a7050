use Rattle.std.proofs.Common.{ℕ, List, Option, sym, subst}
use Rattle.std.proofs.lemmas.Result.{err_from_is_err_and}
use Rattle.disk_image.specs.Image.{IsLayoutOf}
use Rattle.image_tool.proofs.Openings.{not_filed, opened}
use Rattle.image_tool.proofs.Telling.{bad_filed, holds_told}
use Rattle.image_tool.proofs.reading.held_volume.Goals as goal

pub returns-in_err-layout-clause-found : goal.returns-in_err-layout-clause-found
returns-in_err-layout-clause-found g c =
    let p = err_from_is_err_and c.from_residual.result c.from_residual.ensures.1 in
    rw (p.1, p.2) (not_filed _ _ c.in_err-layout.ensures.told)

pub load_volume-requires : goal.load_volume-requires
load_volume-requires g c =
    subst (λ (h : Option (List ℕ)). IsLayoutOf h c.in_ok-layout.layout) (sym c.in_ok-layout.ensures.held) c.in_ok-layout.ensures.layout

pub returns-in_err-volume-clause-found : goal.returns-in_err-volume-clause-found
returns-in_err-volume-clause-found g c =
    let p = err_from_is_err_and c.from_residual-in_err-volume.result c.from_residual-in_err-volume.ensures.1 in
    rw (p.1, p.2) (bad_filed _ _ c.in_ok-layout.layout _ (opened _ _ c.in_ok-layout.ensures.told) c.in_ok-layout.ensures.held c.in_err-volume.ensures.bad)

pub returns-clause-found : goal.returns-clause-found
returns-clause-found g c =
    holds_told _ _ c.in_ok-layout.layout c.in_ok-volume.volume (opened _ _ c.in_ok-layout.ensures.told) c.in_ok-layout.ensures.held
    c.in_ok-volume.ensures.geometry c.in_ok-volume.ensures.cylinders c.in_ok-volume.ensures.tracks
