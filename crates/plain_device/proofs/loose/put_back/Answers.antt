use Rattle.std.proofs.Common.{List, length, sym, ap, subst, ◌∙◌}
use Rattle.std.specs.Prelude.{All}
use Rattle.std.proofs.lemmas.List.{length-set}
use Rattle.ckd_types.specs.declared.record.Track.{Track}
use Rattle.plain_device.specs.Volume.{ImageVolume, IsLooseOf, loose_of}
use Rattle.plain_defs.specs.Loose.{restored}
use Rattle.plain_device.proofs.Tracks.{restored_more, loose_front}
use Rattle.plain_device.proofs.loose.put_back.Goals as goal

pub loop-l-preserved : goal.loop-l-preserved
loop-l-preserved c =
    let v = c.loop-l.volume in
    let rest = c.pop.new.self.items in (
      ap (λ (x : ImageVolume). record { geometry = x.geometry; tracks = restored (loose_of rest) x.tracks })
          c.set.ensures
          ∙ ap (λ (l : List Track). record { geometry = v.geometry; tracks = l })
          (sym (restored_more c.loop-l.loose.items rest c.in-Some.l v.tracks c.in-Some.ensures.items))
          ∙ c.loop-l.invariant.0,
      subst (λ (x : ImageVolume). All (IsLooseOf x.geometry (length x.tracks)) rest) (sym c.set.ensures)
          (subst (λ n. All (IsLooseOf v.geometry n) rest)
          (sym (length-set v.tracks c.in-Some.l.track c.in-Some.l.image.track))
          (loose_front v.geometry (length v.tracks) c.loop-l.loose.items rest c.in-Some.l c.in-Some.ensures.items
          c.loop-l.invariant.1)),
    )
