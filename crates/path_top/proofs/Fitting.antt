-- What volumes hold that are handed out fits their devices.
use Rattle.std.proofs.Common.{ℕ, List, [], ◌∷◌}
use Rattle.device_outside.specs.Volume.{VolumeView}
use Rattle.deck_run.specs.Opening.{AllHold}
use Rattle.deck_text.specs.declared.line.DeviceLine.{DeviceLine}
use Rattle.deck_text.specs.DeckLines.{DeckLines}
use Rattle.subsystem_defs.specs.Decks.{Firsts}
use Rattle.path_top.specs.Pairs.{AllFit}

pub all_fit : (firsts : Firsts) (deck : DeckLines) (ds : List DeviceLine) (vs : List (VolumeView (List ℕ))) → AllHold firsts deck ds vs → AllFit firsts ds
all_fit firsts deck [] vs h = tt
all_fit firsts deck (d ∷ ds) [] h = absurd h
all_fit firsts deck (d ∷ ds) (v ∷ vs) h = (h.0.fits, all_fit firsts deck ds vs h.1)
