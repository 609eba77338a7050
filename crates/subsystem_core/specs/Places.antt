-- The numbers of the devices, and a table of their places.
use Rattle.std.specs.Prelude.{◌≡◌, ◌<◌, ℕ, ◌&&◌, nat_lt, Bool, true, List, [], ◌∷◌, length, slice_index_or}
use Rattle.device_outside.specs.Lists.{is_in}
use Rattle.subsystem_defs.specs.declared.event.Event.{Event}
use Rattle.subsystem_defs.specs.declared.event.Event.TheVariants as events

abbrev pub is_before : ℕ → List ℕ → Bool
is_before n [] = true
is_before n (m ∷ ms) = nat_lt n m

-- each number is above the one before it
abbrev pub are_rising : List ℕ → Bool
are_rising [] = true
are_rising (n ∷ ns) = is_before n ns && are_rising ns

-- the place of each number
abbrev pub IsTable : List ℕ → List ℕ → Type 0
IsTable places numbers = (i : ℕ) → i < length numbers → slice_index_or places (slice_index_or numbers i 0) 0 ≡ i

-- Which events come

-- the devices that it names are among these
abbrev pub may_come : List ℕ → Event → Bool
may_come ns (events.Start path d) = is_in d ns
may_come ns (events.Step d) = is_in d ns
may_come ns (events.Back d) = is_in d ns
may_come ns (events.Reset path d) = is_in d ns
may_come ns (events.FailVolume d side) = is_in d ns
may_come ns (events.Pair a b) = is_in a ns && is_in b ns
may_come ns (events.Suspend a) = is_in a ns
may_come ns (events.Resume a) = is_in a ns
may_come ns _ = true

abbrev pub may_all_come : List ℕ → List Event → Bool
may_all_come ns [] = true
may_all_come ns (e ∷ es) = may_come ns e && may_all_come ns es
