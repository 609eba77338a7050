-- How an open half write is told: its track, and whose it is.
use Rattle.std.specs.Prelude.{ℕ}
use Rattle.track_image.specs.Image.{Image}
use Rattle.device_defs.specs.Store.{HalfWrite, Origin, OfCommand, OfCut, OfBackground}
use Rattle.device_core.specs.declared.observers.HalfOrigin.{HalfOrigin}
use Rattle.device_core.specs.declared.observers.HalfOrigin.TheVariants.{Command, Cut, Background}

abbrev pub origin_seen : Origin → HalfOrigin
origin_seen (OfCommand bypass e) = Command
origin_seen (OfCut bypass) = Cut
origin_seen OfBackground = Background

abbrev pub half_seen : HalfWrite Image → ℕ × HalfOrigin
half_seen h = (h.track, origin_seen h.origin)
