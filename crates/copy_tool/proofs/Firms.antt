-- A mirror behind the lines of a deck: its run is that of the deck, and what it was told as firm are the firm writes of the device.
use Rattle.std.proofs.Common.{◌≡◌, ℕ, List, Some, Ok, map}
use Rattle.deck_text.specs.DeckLines.{DeckLines}
use Rattle.deck_text.specs.Parse.{parsed}
use Rattle.subsystem_defs.specs.Decks.{empty_firsts, opened}
use Rattle.subsystem_defs.specs.Lines.{asked_by}
use Rattle.subsystem_defs.specs.Subsystem.{Mounted, mounted_in}
use Rattle.subsystem_laws.proofs.PlainRuns.{empty_whole}
use Rattle.line_drive.specs.Driven.{Goes, driven}
use Rattle.firm_laws.specs.FirmWrites.{firm_writes_of}
use Rattle.remote_copy.specs.Mirrored.{mirror_course}
use Rattle.remote_copy.specs.Mirroring.{MirrorRun}
use Rattle.remote_copy.proofs.Mirrored as mirrored
use Rattle.copy_tool.specs.MirrorStanding.{failing, firm_at, mirror_from}

abbrev pub IsOver : DeckLines → ℕ → ℕ → MirrorRun → Type 0
IsOver deck d n z = mirrored.IsOver empty_firsts deck d (firm_at (mounted_in (opened deck).mounted d)) (Some (failing n)) z

module _ (deck : DeckLines) (d n : ℕ) (z : MirrorRun) (goes : driven mirror_course (map asked_by deck.events) (mirror_from deck d n) ≡ Goes z) where
  pub over_so : IsOver deck d n z
  over_so = mirrored.over_so empty_firsts deck d (firm_at (mounted_in (opened deck).mounted d)) (Some (failing n)) z goes

  -- of a deck that was read
  pub firms_so : (text : List ℕ) → parsed text ≡ Ok deck → (first : Mounted) → mounted_in (opened deck).mounted d ≡ Some first → (m : Mounted) →
      mounted_in z.run.mounted d ≡ Some m → z.firms ≡ firm_writes_of m.device
  firms_so text read first at m there =
      mirrored.firms_so empty_firsts deck d (firm_at (mounted_in (opened deck).mounted d)) (Some (failing n)) z goes empty_whole text read first at m there
