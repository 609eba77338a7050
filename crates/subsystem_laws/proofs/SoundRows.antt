-- A deck on sound hardware, and some that aren't.
use Rattle.std.proofs.Common.{◌≡◌, true, false, [], ◌∷◌, refl}
use Rattle.ckd_types.specs.declared.paths.Side.TheVariants.{B}
use Rattle.deck_plan.specs.declared.event.EventLine.TheVariants as lines
use Rattle.deck_text.specs.DeckLines.{DeckLines}
use Rattle.device_defs.proofs.Stand.{write_zero, read_zero}
use Rattle.subsystem_defs.proofs.Stand.{two}
use Rattle.subsystem_laws.specs.SoundHardware.{has_sound_hardware}

-- a pair is written and read, with an order that is refused
abbrev pair : DeckLines
pair = record (two (write_zero 0xc1 0 ∷ read_zero 0xc0 0 ∷ [])) {
  events = lines.Pair 0 1 ∷ lines.Start 1 0 ∷ lines.Run 0 ∷ lines.Start 1 0 ∷ lines.Run 0 ∷ lines.Replace 0 B ∷ lines.Settle 0 ∷ lines.Unpair 0 ∷ [];
}

pair_is_sound : has_sound_hardware pair ≡ true
pair_is_sound = refl

-- of which a call is to fail
faulty_is_not : has_sound_hardware (record pair { faults = record { device = 0; write = true; call = 1 } ∷ [] }) ≡ false
faulty_is_not = refl

-- of which side B is lost
failing_is_not : has_sound_hardware (record pair { events = lines.Pair 0 1 ∷ lines.FailVolume 0 B ∷ [] }) ≡ false
failing_is_not = refl

-- of which the power fails
powerless_is_not : has_sound_hardware (record pair { events = lines.Start 1 0 ∷ lines.Power ∷ lines.Run 0 ∷ [] }) ≡ false
powerless_is_not = refl
