use Rattle.std.proofs.Common.{◌≡◌, length, sym, ap, subst, ◌∙◌}
use Rattle.std.specs.Prelude.{All, ◌*◌}
use Rattle.std.proofs.lemmas.List.Elements.{All-nil}
use Rattle.ckd_types.specs.Fixed.{Fixed}
use Rattle.plain_device.specs.Volume.{ImageVolume, IsLooseOf, loose_of}
use Rattle.plain_device.proofs.Tracks.{restored_length}
use Rattle.plain_device.proofs.device.PlainDevice.lose_loose.Goals as goal

pub invariant_of-self : goal.invariant_of-self
invariant_of-self c =
    let fixed = c.new-self-inside.result in
    let model : fixed.geometry ≡ c.self.inside.fixed.geometry =
    ap (λ (f : Fixed). f.geometry) c.new-self-inside.ensures ∙ c.geometry.ensures in
    let many : fixed.cylinders ≡ c.self.inside.fixed.cylinders =
    ap (λ (f : Fixed). f.cylinders) c.new-self-inside.ensures ∙ c.cylinders.ensures.value in (
      ap (λ (v : ImageVolume). v.geometry) c.put_back.ensures ∙ c.self.invariant.0 ∙ sym model,
      ap (λ (v : ImageVolume). length v.tracks) c.put_back.ensures
          ∙ restored_length (loose_of c.replace-loose.result.items) c.self.inside.volume.tracks
          ∙ c.self.invariant.1
          ∙ ap (λ n. n * 15) (sym many),
      subst (All (IsLooseOf fixed.geometry (fixed.cylinders * 15)))
          (sym (ap (λ v. v.items) c.replace-loose.ensures.after ∙ c.new.ensures.items))
          (All-nil (IsLooseOf fixed.geometry (fixed.cylinders * 15))),
    )
