use Rattle.std.proofs.Common.{ℕ, ap, sym, ◌∙◌, arith}
use Rattle.std.proofs.lemmas.Result.{err_from_is_err_and}
use Rattle.track_image.specs.Image.{Image}
use Rattle.volume_file.proofs.Told.{caused_behind}
use Rattle.volume_file.proofs.ReadSo.{end_told, head_told, track_told}
use Rattle.volume_tool.specs.declared.listing.Listing.{Listing}
use Rattle.volume_texts.specs.List.{row_of}
use Rattle.volume_tool.proofs.Listed.{lists_all, lists_none, lists_on}
use Rattle.volume_tool.proofs.listing.read_listing.Goals as goal

pub returns-in_err-file-clause-fault : goal.returns-in_err-file-clause-fault
returns-in_err-file-clause-fault g c =
    let p = err_from_is_err_and c.from_residual.result c.from_residual.ensures.1 in
    rw (p.1, p.2) (head_told _ _ c.in_err-file.ensures.told)

pub tracks-init : goal.tracks-init
tracks-init g c = record {
  so = lists_none _ _ c.in_ok-file.file c.in_ok-rows.rows.items c.in_ok-file.ensures.told c.in_ok-file.ensures.start c.in_ok-rows.ensures.items;
  next = c.in_ok-file.ensures.start.1;
  count = c.track_count-track-end.ensures;
  calm = c.in_ok-file.ensures.cause;
}

pub track-requires : goal.track-requires
track-requires g c = omega (arith, c.tracks.invariant.next, c.tracks.invariant.count)

pub returns-in_err-image-clause-fault : goal.returns-in_err-image-clause-fault
returns-in_err-image-clause-fault g c =
    let p = err_from_is_err_and c.from_residual-in_err-image.result c.from_residual-in_err-image.ensures.1 in
    rw (p.1, p.2) (track_told _ _ c.tracks.file c.tracks.invariant.so.images _ c.tracks.invariant.so.so (omega
    (arith, c.tracks.invariant.next, c.tracks.invariant.count)) c.in_err-image.ensures.told)

pub returns-in_err-image-clause-cause : goal.returns-in_err-image-clause-cause
returns-in_err-image-clause-cause g c =
    let p = err_from_is_err_and c.from_residual-in_err-image.result c.from_residual-in_err-image.ensures.1 in
    rw (p.1, p.2) (caused_behind Image Listing _ _ _ _ c.tracks.invariant.calm c.in_err-image.ensures.cause)

pub returns-in_err-push-clause-cause : goal.returns-in_err-push-clause-cause
returns-in_err-push-clause-cause g c =
    let p = err_from_is_err_and c.from_residual-in_err-push.result c.from_residual-in_err-push.ensures.1 in
    rw (p.1, p.2) (c.in_ok-image.ensures.cause ∙ c.tracks.invariant.calm)

pub tracks-preserved : goal.tracks-preserved
tracks-preserved g c =
    let moved = c.in_ok-image.ensures.moved in
    record {
      so = lists_on _ _ _ c.tracks.file c.track.new.self c.tracks.rows.items c.push.new.self.items c.row_of.result c.in_ok-image.image
          c.tracks.invariant.so c.in_ok-image.ensures.told
          c.in_ok-image.ensures.placed moved (c.row_of.ensures ∙ ap (λ (t : ℕ). row_of t c.in_ok-image.image) (sym c.tracks.invariant.next))
          c.in_ok-push.ensures.items;
      next = rw moved (omega (arith, c.tracks.invariant.next));
      count = rw moved c.tracks.invariant.count;
      calm = c.in_ok-image.ensures.cause ∙ c.tracks.invariant.calm;
    }

pub returns-in_err-finish-clause-fault : goal.returns-in_err-finish-clause-fault
returns-in_err-finish-clause-fault g c =
    let p = err_from_is_err_and c.from_residual-in_err-finish.result c.from_residual-in_err-finish.ensures.1 in
    rw (p.1, p.2) (end_told _ _ c.tracks.file c.tracks.invariant.so.images _ c.tracks.invariant.so.so (omega
    (arith, c.tracks.invariant.next, c.tracks.invariant.count)) c.in_err-finish.ensures.told)

pub returns-in_err-finish-clause-cause : goal.returns-in_err-finish-clause-cause
returns-in_err-finish-clause-cause g c =
    let p = err_from_is_err_and c.from_residual-in_err-finish.result c.from_residual-in_err-finish.ensures.1 in
    rw (p.1, p.2) (caused_behind (Unit {0}) Listing _ _ _ _ c.tracks.invariant.calm c.in_err-finish.ensures.cause)

pub returns-clause-list : goal.returns-clause-list
returns-clause-list g c =
    lists_all _ _ _ c.tracks.file _ _ c.tracks.rows.items c.tracks.invariant.so (omega (arith, c.tracks.invariant.next, c.tracks.invariant.count))
    c.geometry.ensures c.cylinders.ensures
    c.in_ok-finish.ensures.told c.in_ok-finish.ensures.end

pub returns-clause-cause : goal.returns-clause-cause
returns-clause-cause g c = c.in_ok-finish.ensures.cause ∙ c.tracks.invariant.calm
