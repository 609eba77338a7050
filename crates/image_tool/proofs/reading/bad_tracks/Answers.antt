use Rattle.std.proofs.Common.{ℕ, List, Option, sym, subst}
use Rattle.std.proofs.lemmas.Result.{err_from_is_err_and}
use Rattle.disk_image.specs.Image.{IsLayoutOf}
use Rattle.image_tool.specs.Reading.{IsChecked}
use Rattle.image_tool.proofs.Openings.{early, not_checked, opened}
use Rattle.image_tool.proofs.Telling.{checked}
use Rattle.image_tool.proofs.reading.bad_tracks.Goals as goal

pub returns-in_err-layout-clause-fault : goal.returns-in_err-layout-clause-fault
returns-in_err-layout-clause-fault g c =
    let p = err_from_is_err_and c.from_residual.result c.from_residual.ensures.1 in
    rw (p.1, p.2) (not_checked _ _ c.in_err-layout.ensures.told)

pub find_bad-requires : goal.find_bad-requires
find_bad-requires g c =
    subst (λ (h : Option (List ℕ)). IsLayoutOf h c.in_ok-layout.layout) (sym c.in_ok-layout.ensures.held) c.in_ok-layout.ensures.layout

pub returns-in_err-found-clause-fault : goal.returns-in_err-found-clause-fault
returns-in_err-found-clause-fault g c =
    let p = err_from_is_err_and c.from_residual-in_err-found.result c.from_residual-in_err-found.ensures.1 in
    rw (p.1, p.2) (early IsChecked _ _ c.in_err-found.ensures.early)

pub returns-clause-found : goal.returns-clause-found
returns-clause-found g c =
    checked _ _ c.in_ok-layout.layout c.in_ok-found.found.items (opened _ _ c.in_ok-layout.ensures.told) c.in_ok-layout.ensures.held
    c.in_ok-found.ensures.faults
