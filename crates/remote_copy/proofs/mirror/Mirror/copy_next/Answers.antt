use Rattle.std.proofs.Common.{◌∙◌, ap, sym}
use Rattle.remote_copy.specs.Mirroring.{next_track}
use Rattle.remote_copy.proofs.CopyRuns.{next_few}
use Rattle.remote_copy.proofs.mirror.Mirror.copy_next.Goals as goal

pub unwrap-t-requires : goal.unwrap-t-requires
unwrap-t-requires g c =
    let old = c.args.self.now in
    c.new.ensures.made.1
    (next_few old.sub old.sender old.here old.fits old.within c.in-Some.next
    (ap next_track (sym c.state.ensures) ∙ sym c.next_track.ensures ∙ c.in-Some.is))
