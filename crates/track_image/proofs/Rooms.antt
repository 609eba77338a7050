-- What a room says of the lists that it is made of.
use Rattle.std.proofs.Common.{◌≡◌, ℕ, ◌<◌, ◌≤◌, Bool, true, false, cond, leb, refl, arith}
use Rattle.std.proofs.lemmas.Bool.{leb-true, le-leb}
use Rattle.track_image.specs.Packed.{most_bytes}
use Rattle.track_image.specs.Room.{room_in}

had : (b : Bool) (places n : ℕ) → n < cond b places 0 → (b ≡ true) × (n < places)
had true places n some = (refl, some)
had false places n some = absurd (omega arith)

pub bytes_had : (bytes places n : ℕ) → n < room_in bytes places → most_bytes ≤ bytes
bytes_had bytes places n some = leb-true _ _ (had (leb most_bytes bytes) places n some).0

pub places_had : (bytes places n : ℕ) → n < room_in bytes places → n < places
places_had bytes places n some = (had (leb most_bytes bytes) places n some).1

pub room_made : (bytes places n : ℕ) → most_bytes ≤ bytes → n ≤ places → n ≤ room_in bytes places
room_made bytes places n long many = rw (le-leb _ _ long) many

less : (b c : Bool) (places more : ℕ) → (b ≡ true → c ≡ true) → places ≤ more → cond b places 0 ≤ cond c more 0
less true c places more still many = rw (still refl) many
less false c places more still many = omega arith

pub no_less_room : (bytes places bytes' places' : ℕ) → bytes ≤ bytes' → places ≤ places'
    → room_in bytes places ≤ room_in bytes' places'
no_less_room bytes places bytes' places' longer more =
    less (leb most_bytes bytes) (leb most_bytes bytes') places places' (λ h. le-leb _ _ (omega (arith, leb-true _ _ h)))
    more
