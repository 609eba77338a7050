-- A mirror that goes along with the lines of a deck.
use Rattle.std.specs.Prelude.{◌≡◌, ℕ, false, Some}
use Rattle.std.specs.declared.convert.Infallible.{Infallible}
use Rattle.deck_text.specs.DeckLines.{DeckLines}
use Rattle.subsystem_defs.specs.Decks.{Firsts, run_on}
use Rattle.subsystem_defs.specs.Subsystem.{Mounted, mounted_in}
use Rattle.line_drive.specs.Driven.{Course, Goes}
use Rattle.firm_laws.specs.FirmWrites.{firm_writes_on}
use Rattle.remote_copy.specs.Mirroring.{MirrorRun, mirror_did}

-- nothing is done behind its events, and none ends it
abbrev pub mirror_course : Course MirrorRun Infallible
mirror_course = record { sub = λ c. c.run; did = mirror_did; behind = Goes }

-- a mirror of a device that began as this one where the deck was opened, on volumes that held these tracks first, and went along with all of its lines: it
-- began with what the device's volume held, and was told the firm writes of the device's history
pub record IsMirrored (firsts : Firsts) (deck : DeckLines) (d : ℕ) (first : Mounted) (z : MirrorRun) : Type 0 where
  pub run : z.run ≡ (run_on firsts deck).behind
  pub device : z.device ≡ d
  pub uncopied : z.copied ≡ false
  pub start : z.start ≡ firsts d first.device.store.cylinders
  pub firms : (m : Mounted) → mounted_in z.run.mounted d ≡ Some m → z.firms ≡ firm_writes_on firsts m.device
