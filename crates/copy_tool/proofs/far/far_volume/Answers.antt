use Rattle.std.proofs.Common.{◌≤◌, ◌∙◌, ◌*◌, ℕ, ap, refl, subst, sym}
use Rattle.remote_copy.specs.FarVolume.{link_view}
use Rattle.volume_save.specs.Saving.{volume_with}
use Rattle.copy_tool.specs.Mirroring.{images_of}
use Rattle.copy_tool.proofs.FarVolumes.{if_ok, tracks_so, volume_so}
use Rattle.copy_tool.proofs.far.far_volume.Goals as goal

pub in_file-requires : goal.in_file-requires
in_file-requires c =
    let there = rw c.subsystem.ensures at c.device.ensures in
    let small = rw there at c.requires.small in
    subst (λ (n : ℕ). n ≤ 64) (sym c.cylinders-cylinders.ensures) small

pub link_volume-requires-clause-tracks : goal.link_volume-requires-clause-tracks
link_volume-requires-clause-tracks c =
    let at = rw c.subsystem.ensures at c.device.ensures in
    tracks_so c.args.stage.now.mirror c.args.d c.requires.stands.0 c.requires.stands.2 c.requires.stands.1 c.device.result.now at
    (link_view c.link.result.now) c.link.ensures
    ∙ ap (λ (n : ℕ). n * 15) (sym (c.in_file.ensures.value ∙ c.cylinders-cylinders.ensures))

pub returns-clause-far : goal.returns-clause-far
returns-clause-far c = λ z is device.
    let at = rw c.subsystem.ensures at c.device.ensures in
    let l = c.link.result.now in
    if_ok _ _ c.link_volume.result
    (λ w made.
    volume_so c.args.stage.now.mirror c.args.d z is device c.device.result.now at (link_view l) l.tracks w l.geometry c.link.ensures refl refl
    (made ∙ ap (λ (n : ℕ). volume_with l.geometry n (images_of l.geometry l.tracks)) (c.in_file.ensures.value ∙ c.cylinders-cylinders.ensures))) c.link_volume.ensures.volume
