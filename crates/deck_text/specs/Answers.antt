-- What a call says of a reading: want of memory alone says nothing.
use Rattle.std.specs.Prelude.{◌≡◌, ℕ, Result, Ok, Err}
use Rattle.deck_text.specs.declared.line.DeckWhy.{DeckWhy}
use Rattle.deck_text.specs.declared.line.DeckFault.{DeckFault}
use Rattle.deck_text.specs.declared.line.DeckFault.TheVariants.{Refused, Limit, NoMemory}

-- a line's own reason stands at the line
abbrev pub refusing : {T : Type 0} → ℕ → Result T DeckWhy → Result T DeckFault
refusing n (Err why) = Err (Refused n why)
refusing n (Ok x) = Ok x

-- what is answered is so, but for want of memory, which says nothing
abbrev pub Parses : {T : Type 0} → Result T DeckFault → Result T DeckFault → Type 0
Parses (Ok x) wanted = wanted ≡ Ok x
Parses (Err (Refused line why)) wanted = wanted ≡ Err (Refused line why)
Parses (Err (Limit which)) wanted = wanted ≡ Err (Limit which)
Parses (Err NoMemory) wanted = Unit {0}

-- the same of a call that changes a state
abbrev pub Takes : {T S : Type 0} → Result T DeckFault → S → Result S DeckFault → Type 0
Takes (Ok x) new wanted = wanted ≡ Ok new
Takes (Err (Refused line why)) new wanted = wanted ≡ Err (Refused line why)
Takes (Err (Limit which)) new wanted = wanted ≡ Err (Limit which)
Takes (Err NoMemory) new wanted = Unit {0}
