use Rattle.std.proofs.Common.{◌≡◌, ◌<◌, ◌*◌, ℕ, ap, length, sym, subst, ◌∙◌, arith}
use Rattle.std.proofs.lemmas.Grind.{common_steps}
use Rattle.std.proofs.lemmas.Result.{err_from_is_err_and}
use Rattle.track_image.specs.Image.{Image}
use Rattle.disk_image.specs.File.{room_size}
use Rattle.disk_image.specs.Storing.{StoredSo}
use Rattle.disk_image.proofs.StoredTracks.{more_at, stored_none, torn_so}
use Rattle.disk_image.proofs.storing.store_volume.Goals as goal

pub loop-n-init : goal.loop-n-init
loop-n-init g c = record {
  so = stored_none _ _;
  size = c.requires.room;
  later = omega arith;
  model = c.geometry-geometry.ensures;
  count = grind (arith, common_steps);
}

pub image-requires : goal.image-requires
image-requires g c =
    let is : c.unwrap-t.result ≡ c.loop-n.n = grind (arith, common_steps) in
    omega (arith, is, c.loop-n-test.true, c.loop-n.invariant.count, c.is_whole.ensures.tracks)

pub store_image-requires-clause-room : goal.store_image-requires-clause-room
store_image-requires-clause-room g c = c.loop-n.invariant.size ∙ ap room_size (sym c.loop-n.invariant.model)

pub store_image-requires-clause-model : goal.store_image-requires-clause-model
store_image-requires-clause-model g c =
    let is : c.unwrap-t.result ≡ c.loop-n.n = grind (arith, common_steps) in
    let within : c.unwrap-t.result < length c.args.volume.now.images =
    omega (arith, is, c.loop-n-test.true, c.loop-n.invariant.count, c.is_whole.ensures.tracks) in
    ap (λ (i : Image). i.geometry) c.image.ensures
    ∙ (c.is_whole.ensures.placed c.unwrap-t.result within).model
    ∙ sym c.loop-n.invariant.model

pub returns-in_err-store_image-clause-stores : goal.returns-in_err-store_image-clause-stores
returns-in_err-store_image-clause-stores g c =
    let p = err_from_is_err_and c.from_residual.result c.from_residual.ensures.1 in
    let is : c.unwrap-t.result ≡ c.loop-n.n = grind (arith, common_steps) in
    let inv = c.loop-n.invariant in
    let less : c.loop-n.n < c.args.volume.now.cylinders * 15 = omega (arith, c.loop-n-test.true, inv.count) in
    let within : c.unwrap-t.result < length c.args.volume.now.images = omega (arith, is, less, c.is_whole.ensures.tracks) in
    rw p.1 (torn_so c.args.volume.now _ c.loop-n.n c.unwrap-t.result c.image.result.now _ _ _ _ _ inv.model c.requires.layout less is
    (c.is_whole.ensures.placed c.unwrap-t.result within) c.image.ensures inv.so c.in_err-store_image.ensures.bytes)

pub loop-n-preserved : goal.loop-n-preserved
loop-n-preserved g c =
    let is : c.unwrap-t.result ≡ c.loop-n.n = grind (arith, common_steps) in
    let inv = c.loop-n.invariant in
    let less : c.loop-n.n < c.args.volume.now.cylinders * 15 = omega (arith, c.loop-n-test.true, inv.count) in
    let within : c.unwrap-t.result < length c.args.volume.now.images = omega (arith, is, less, c.is_whole.ensures.tracks) in
    record {
      so = more_at c.args.volume.now _ c.loop-n.n c.unwrap-t.result c.image.result.now _ _ _ _ _ inv.model c.requires.layout less is
          (c.is_whole.ensures.placed c.unwrap-t.result within) c.image.ensures inv.so c.in_ok-store_image.ensures.bytes;
      size = c.in_ok-store_image.ensures.size ∙ inv.size;
      later = omega (arith, inv.later, c.in_ok-store_image.ensures.cause.later);
      model = inv.model;
      count = inv.count;
    }

pub returns-clause-stores : goal.returns-clause-stores
returns-clause-stores g c =
    let all : c.loop-n.n ≡ c.args.volume.now.cylinders * 15 =
    omega (arith, c.loop-n-test.false, c.loop-n.auto.n-end, c.loop-n.invariant.count) in
    subst (λ (k : ℕ). StoredSo c.args.volume.now k (g.F.DiskFile.held c.args.file.now) (g.F.DiskFile.held c.loop-n.file)) all c.loop-n.invariant.so
