use Rattle.std.proofs.Common.{◌==◌, ℕ, not, ap, ◌∙◌}
use Rattle.std.specs.Prelude.{◌||◌}
use Rattle.track_table.specs.Tracks.{count_below}
use Rattle.device_defs.specs.Store.{stale_at, tracks_of}
use Rattle.device_core.specs.State.{device_of}
use Rattle.device_core.proofs.StaleTracks.{some_counted}
use Rattle.device_core.proofs.device.Device.has_stale.Goals as goal

pub returns : goal.returns
returns g c =
    let s = (device_of c.args.self.now).store in
    c.one_counts.ensures
    ∙ ap (λ (a : ℕ). not (a == 0) || not (c.stale-b.result == 0)) c.stale-a.ensures
    ∙ ap (λ (b : ℕ). not (count_below (tracks_of s) (stale_at s.a) == 0) || not (b == 0)) c.stale-b.ensures
    ∙ some_counted (tracks_of s) (stale_at s.a) (stale_at s.b)
