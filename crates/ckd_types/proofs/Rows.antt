-- A few known values, computed from the definitions alone.
use Rattle.std.proofs.Common.{◌≡◌, ℕ, List, [], ◌∷◌, ◌++◌, Some, None, Ok, Err, true, false, refl}
use Rattle.std.specs.Prelude.{replicate}
use Rattle.ckd_types.specs.declared.channel.Ccw.{Ccw}
use Rattle.ckd_types.specs.declared.channel.Why.TheVariants.{Empty, TicToTic, PastEnd}
use Rattle.ckd_types.specs.declared.geometry.Geometry.TheVariants.{D3390, D3380}
use Rattle.ckd_types.specs.declared.parameters.Extent.{Extent}
use Rattle.ckd_types.specs.declared.parameters.Mode.{Mode}
use Rattle.ckd_types.specs.declared.parameters.Mode.TheVariants.{Normal, Bypass, Sequential}
use Rattle.ckd_types.specs.declared.parameters.ParamFault.TheVariants.{BadMode, BadRange, BadCount}
use Rattle.ckd_types.specs.declared.parameters.Orientation.TheVariants.{Count}
use Rattle.ckd_types.specs.declared.parameters.Operation.TheVariants.{ReadData}
use Rattle.ckd_types.specs.Geometry.{cost}
use Rattle.ckd_types.specs.Track.{empty_track, track_bytes}
use Rattle.ckd_types.specs.Parameters.{extent_of, is_provisional, domain_of}
use Rattle.ckd_types.specs.Commands.{command_of}
use Rattle.ckd_types.specs.Program.{first_fault, next_ccw}

cost_of_4096 : cost D3390 0 4096 ≡ 143
cost_of_4096 = refl

cost_of_an_end_of_file : cost D3390 0 0 ≡ 20
cost_of_an_end_of_file = refl

largest_record_of_a_3390 : cost D3390 0 56664 ≡ 1729
largest_record_of_a_3390 = refl

one_byte_more : cost D3390 0 56665 ≡ 1730
one_byte_more = refl

largest_record_of_a_3380 : cost D3380 0 47476 ≡ 1499
largest_record_of_a_3380 = refl

bytes_of_an_empty_track : track_bytes (empty_track 17) ≡ 0 ∷ 0 ∷ 1 ∷ 0 ∷ 2 ∷ 0 ∷ 1 ∷ 0 ∷ 2 ∷ 0 ∷ 0 ∷ 0 ∷ 8 ∷ replicate 8 0 ++ replicate 8 255
bytes_of_an_empty_track = refl

-- the whole device of one cylinder, with a mask, and the attributes given
whole : ℕ → List ℕ
whole attributes = 0x40 ∷ attributes ∷ 0x10 ∷ 0 ∷ 0 ∷ 0 ∷ 0 ∷ 0 ∷ 0 ∷ 0 ∷ 0 ∷ 0 ∷ 0 ∷ 0 ∷ 0 ∷ 0x0e ∷ []

bypass : extent_of 1 (whole 0xc4) ≡ Ok (record { mask = 0x40; mode = Bypass; inhibit_fast = false; number = None; first = 0; last = 14 })
unfolding whole
bypass = refl

sequential : extent_of 1 (whole 0xcc) ≡ Ok (record { mask = 0x40; mode = Sequential; inhibit_fast = false; number = None; first = 0; last = 14 })
unfolding whole
sequential = refl

inhibits_fast_write : extent_of 1 (whole 0xc1) ≡ Ok (record { mask = 0x40; mode = Normal; inhibit_fast = true; number = None; first = 0; last = 14 })
unfolding whole
inhibits_fast_write = refl

-- the same device with a number
numbered : ℕ → List ℕ
numbered attributes = 0x40 ∷ attributes ∷ 0x10 ∷ 0 ∷ 1 ∷ 2 ∷ 0 ∷ 0 ∷ 0 ∷ 0 ∷ 0 ∷ 0 ∷ 0 ∷ 0 ∷ 0 ∷ 0x0e ∷ []

cache_fast_write : extent_of 1 (numbered 0xc2)
    ≡ Ok (record { mask = 0x40; mode = Normal; inhibit_fast = false; number = Some 258; first = 0; last = 14 })
unfolding numbered
cache_fast_write = refl

number_without_its_bit : extent_of 1 (numbered 0xc0)
    ≡ Ok (record { mask = 0x40; mode = Normal; inhibit_fast = false; number = None; first = 0; last = 14 })
unfolding numbered
number_without_its_bit = refl

-- an extent with a number, in a mode
asked : Mode → Extent
asked mode = record { mask = 0; mode = mode; inhibit_fast = false; number = Some 0; first = 0; last = 0 }

provisional_in_sequence : is_provisional (Some (asked Sequential)) ≡ true
unfolding asked
provisional_in_sequence = refl

not_provisional_in_bypass : is_provisional (Some (asked Bypass)) ≡ false
unfolding asked
not_provisional_in_bypass = refl

mode_4_is_refused : extent_of 1 (whole 0xd0) ≡ Err BadMode
unfolding whole
mode_4_is_refused = refl

located : domain_of 1 (0x06 ∷ 0 ∷ 0 ∷ 1 ∷ 0 ∷ 0 ∷ 0 ∷ 5 ∷ 0 ∷ 0 ∷ 0 ∷ 5 ∷ 3 ∷ 0 ∷ 0 ∷ 0 ∷ [])
    ≡ Ok (record { orientation = Count; operation = ReadData; count = 1; seek = 5; search = record { cchh = record { cc = 0; hh = 5 }; r = 3 } })
located = refl

past_the_device : domain_of 1 (0x83 ∷ 0 ∷ 0 ∷ 1 ∷ 0 ∷ 1 ∷ 0 ∷ 5 ∷ 0 ∷ 0 ∷ 0 ∷ 5 ∷ 3 ∷ 0 ∷ 0 ∷ 0 ∷ []) ≡ Err BadRange
past_the_device = refl

no_count : domain_of 1 (0x03 ∷ 0 ∷ 0 ∷ 0 ∷ 0 ∷ 0 ∷ 0 ∷ 5 ∷ 0 ∷ 0 ∷ 0 ∷ 5 ∷ 3 ∷ 0 ∷ 0 ∷ 0 ∷ []) ≡ Err BadCount
no_count = refl

ccw : ℕ → ℕ → ℕ → Ccw
ccw command flags count = record { command = command; flags = flags; count = count; given = [] }

-- a search, a transfer back to it, and a read
loop : List Ccw
loop = record { command = 0x31; flags = 0x40; count = 5; given = 0 ∷ 0 ∷ 0 ∷ 0 ∷ 9 ∷ [] } ∷ ccw 8 0 0 ∷ ccw 6 0 8 ∷ []

a_search_loop_is_a_program : first_fault loop ≡ None
unfolding loop ccw command_of
a_search_loop_is_a_program = refl

it_searches_again : next_ccw loop 0 false ≡ Some 0
unfolding loop ccw
it_searches_again = refl

it_goes_on_once_satisfied : next_ccw loop 0 true ≡ Some 2
unfolding loop ccw
it_goes_on_once_satisfied = refl

nothing_is_no_program : first_fault [] ≡ Some (0, Empty)
nothing_is_no_program = refl

transfer_to_a_transfer : first_fault (ccw 3 0x40 1 ∷ ccw 8 0 2 ∷ ccw 8 0 0 ∷ []) ≡ Some (1, TicToTic)
unfolding ccw command_of
transfer_to_a_transfer = refl

search_without_a_word_to_skip_to : first_fault (ccw 0x31 0x40 5 ∷ ccw 3 0 1 ∷ []) ≡ Some (0, PastEnd)
unfolding ccw command_of
search_without_a_word_to_skip_to = refl
