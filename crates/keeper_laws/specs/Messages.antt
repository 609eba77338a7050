-- What a keeper is told in an event of a run, in order.
use Rattle.std.specs.Prelude.{ℕ, ◌==◌, ◌&&◌, true, List, [], ◌∷◌, ◌++◌, Option, Some, None, if◌then◌else◌}
use Rattle.track_image.specs.Image.{Image}
use Rattle.device_outside.specs.Hears.{messages}
use Rattle.device_outside.specs.Keeper.{Message, BeforeEdit, Firm}
use Rattle.device_outside.specs.Pool.{Pool}
use Rattle.device_defs.specs.Contents.{by_plain}
use Rattle.device_defs.specs.Marks.{MarksDevice}
use Rattle.subsystem_defs.specs.declared.event.Event.{Event}
use Rattle.subsystem_defs.specs.Deeds.{Asks, Each, deed}
use Rattle.subsystem_defs.specs.Happening.{MarksDeed, Talk, held_with, told_to}
use Rattle.subsystem_defs.specs.Subsystem.{Mounted, Subsystem, devices_of, mounted_in}

-- of one device
abbrev pub asked_messages : {A : Type 0} → Subsystem → Option Mounted → Talk A → List (Message Image)
asked_messages s (Some m) talk = messages true talk (told_to s.pool m)
asked_messages s None talk = []

-- of every device, one after another
unfoldable pub swept_messages : (MarksDevice → Talk (Unit {0})) → List Mounted → Pool → List (Message Image)
swept_messages f [] pool = []
swept_messages f (m ∷ ms) pool = messages true (f m.device) (told_to pool m) ++ swept_messages f ms (held_with pool m (f m.device)).told.pool

-- of a volume that is lent no keeper hears
abbrev pub deed_messages : Subsystem → MarksDeed → List (Message Image)
deed_messages s (Asks d talk) = asked_messages s (mounted_in s.mounted d.store.device) talk
deed_messages s (Each pool f) = swept_messages f s.mounted pool
deed_messages s _ = []

unfoldable pub event_messages : Subsystem → Event → List (Message Image)
event_messages s e = deed_messages s (deed by_plain s.pool (devices_of s) e)

-- the image of a track that was named first before an edit of it
abbrev pub first_named : ℕ → ℕ → List (Message Image) → Option Image
first_named n t [] = None
first_named n t (BeforeEdit d u i ∷ ms) = if (d == n) && (u == t) then Some i else first_named n t ms
first_named n t (Firm d u i ∷ ms) = first_named n t ms
