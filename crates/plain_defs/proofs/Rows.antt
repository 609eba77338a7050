-- A few known runs, computed from the definitions alone.
use Rattle.std.proofs.Common.{◌≡◌, ℕ, List, [], ◌∷◌, ◌++◌, map, refl}
use Rattle.std.specs.Prelude.{replicate}
use Rattle.ckd_types.specs.declared.channel.Ccw.{Ccw}
use Rattle.ckd_types.specs.declared.channel.CommandEnd.{CommandEnd}
use Rattle.ckd_types.specs.declared.channel.Note.{Note}
use Rattle.ckd_types.specs.declared.channel.Note.TheVariants.{Plain, IncorrectLength}
use Rattle.ckd_types.specs.declared.geometry.Geometry.TheVariants.{D3390}
use Rattle.ckd_types.specs.Commands.{command_of}
use Rattle.plain_defs.specs.PlainState.{empty_state}
use Rattle.ckd_rules.specs.Walk.{walk}
use Rattle.plain_defs.specs.Program.{part_of}

-- an extent of the whole device, a locate of record r on track t, and a read of n bytes
program : ℕ → ℕ → ℕ → ℕ → List Ccw
program t r read n =
    record {
      command = 0x63;
      flags = 0x40;
      count = 16;
      given =
          0x40 ∷ 0xc0 ∷ 0x10 ∷ 0 ∷ 0 ∷ 0 ∷ 0 ∷ 0 ∷ 0 ∷ 0 ∷ 0 ∷ 0 ∷ 0 ∷ 0 ∷ 0 ∷ 0x0e ∷ [];
    }
    ∷ record {
      command = 0x47;
      flags = 0x40;
      count = 16;
      given =
          6 ∷ 0 ∷ 0 ∷ 1 ∷ 0 ∷ 0 ∷ 0 ∷ t ∷ 0 ∷ 0 ∷ 0 ∷ t ∷ r ∷ 0 ∷ 0 ∷ 0 ∷ [];
    }
    ∷ record { command = read; flags = 0; count = n; given = [] }
    ∷ []

pub record Shown : Type 0 where
  pub index : ℕ
  pub status : ℕ
  pub residual : ℕ
  pub note : Note
  pub sent : List ℕ

shown : CommandEnd → Shown
shown e = record { index = e.index; status = e.status.0; residual = e.residual; note = e.note; sent = e.sent }

quiet : ℕ → Shown
quiet i = record { index = i; status = 0x0c; residual = 0; note = Plain; sent = [] }

reads_record_zero : map shown (part_of (empty_state D3390 1) 1 (program 0 0 0x06 8) [] 3).ends ≡ quiet 0 ∷ quiet 1
    ∷ record { index = 2; status = 0x0c; residual = 0; note = Plain; sent = replicate 8 0 } ∷ []
unfolding program shown quiet part_of walk command_of
reads_record_zero = refl

multitrack_reads_it_too : map shown (part_of (empty_state D3390 1) 1 (program 14 0 0x86 8) [] 3).ends ≡ quiet 0
    ∷ quiet 1 ∷ record { index = 2; status = 0x0c; residual = 0; note = Plain; sent = replicate 8 0 } ∷ []
unfolding program shown quiet part_of walk command_of
multitrack_reads_it_too = refl

record_one_is_not_found : map shown (part_of (empty_state D3390 1) 1 (program 0 1 0x06 8) [] 3).ends ≡ quiet 0
    ∷ record { index = 1; status = 0x0e; residual = 16; note = Plain; sent = [] } ∷ []
unfolding program shown quiet part_of walk command_of
record_one_is_not_found = refl

ten_bytes_are_too_many : map shown (part_of (empty_state D3390 1) 1 (program 0 0 0x06 10) [] 3).ends ≡ quiet 0 ∷ quiet 1
    ∷ record { index = 2; status = 0x0c; residual = 2; note = IncorrectLength; sent = replicate 8 0 } ∷ []
unfolding program shown quiet part_of walk command_of
ten_bytes_are_too_many = refl

-- record 1 of four bytes is formatted, and read from the index on
format_and_read : List Ccw
format_and_read =
    record {
      command = 0x63;
      flags = 0x40;
      count = 16;
      given =
          0xc0 ∷ 0xc0 ∷ 0x10 ∷ 0 ∷ 0 ∷ 0 ∷ 0 ∷ 0 ∷ 0 ∷ 0 ∷ 0 ∷ 0 ∷ 0 ∷ 0 ∷ 0 ∷ 0x0e ∷ [];
    }
    ∷ record {
      command = 0x47;
      flags = 0x40;
      count = 16;
      given =
          3 ∷ 0 ∷ 0 ∷ 1 ∷ 0 ∷ 0 ∷ 0 ∷ 2 ∷ 0 ∷ 0 ∷ 0 ∷ 2 ∷ 0 ∷ 0 ∷ 0 ∷ 0 ∷ [];
    }
    ∷ record { command = 0x1d; flags = 0x40; count = 12; given = 0 ∷ 0 ∷ 0 ∷ 2 ∷ 1 ∷ 0 ∷ 0 ∷ 4 ∷ 5 ∷ 6 ∷ 7 ∷ [] }
    ∷ record { command = 0x06; flags = 0; count = 4; given = [] }
    ∷ []

what_was_formatted_is_read : map shown (part_of (empty_state D3390 1) 1 format_and_read [] 4).ends ≡ quiet 0 ∷ quiet 1
    ∷ quiet 2 ∷ record { index = 3; status = 0x0c; residual = 0; note = Plain; sent = 5 ∷ 6 ∷ 7 ∷ 0 ∷ [] } ∷ []
unfolding format_and_read shown quiet part_of walk command_of
what_was_formatted_is_read = refl

-- two words and a third behind an extent of the whole device
behind_extent : ℕ → List ℕ → Ccw → List Ccw
behind_extent mask locate last =
    record {
      command = 0x63;
      flags = 0x40;
      count = 16;
      given =
          mask ∷ 0xc0 ∷ 0x10 ∷ 0 ∷ 0 ∷ 0 ∷ 0 ∷ 0 ∷ 0 ∷ 0 ∷ 0 ∷ 0 ∷ 0 ∷ 0 ∷ 0 ∷ 0x0e ∷ [];
    }
    ∷ record { command = 0x47; flags = 0x40; count = 16; given = locate }
    ∷ last
    ∷ []

-- locate record of one command, behind which stand the bytes of record r
located_at : ℕ → ℕ → List ℕ
located_at operation r = operation ∷ 0 ∷ 0 ∷ 1 ∷ 0 ∷ 0 ∷ 0 ∷ 0 ∷ 0 ∷ 0 ∷ 0 ∷ 0 ∷ r ∷ 0 ∷ 0 ∷ 0 ∷ []

end_of_file_read : List Shown
end_of_file_read =
    let formatted = part_of (empty_state D3390 1) 1 (behind_extent 0xc0 (located_at 3 0)
    (record { command = 0x1d; flags = 0; count = 8; given = 0 ∷ 0 ∷ 0 ∷ 0 ∷ 1 ∷ 0 ∷ 0 ∷ 0 ∷ [] })) [] 3 in
    map shown (part_of formatted.state 1 (behind_extent 0x40 (located_at 6 1)
    (record { command = 0x86; flags = 0x20; count = 100; given = [] })) [] 3).ends

an_end_of_file_is_read_with_unit_exception : end_of_file_read ≡ quiet 0 ∷ quiet 1
    ∷ record { index = 2; status = 0x0d; residual = 100; note = Plain; sent = [] } ∷ []
unfolding end_of_file_read behind_extent located_at shown quiet part_of walk command_of
an_end_of_file_is_read_with_unit_exception = refl

-- record 1 of eighty bytes FF is formatted, updated with ten bytes, and read
updated_and_read : List Shown
updated_and_read =
    let formatted = part_of (empty_state D3390 1) 1 (behind_extent 0xc0 (located_at 3 0)
    (record {
      command = 0x1d;
      flags = 0;
      count = 88;
      given =
          (0 ∷ 0 ∷ 0 ∷ 0 ∷ 1 ∷ 0 ∷ 0 ∷ 80 ∷ []) ++ replicate 80 0xff;
    })) [] 3 in
    let updated = part_of formatted.state 1 (behind_extent 0x80 (located_at 1 1)
    (record { command = 0x85; flags = 0x20; count = 10; given = 1 ∷ 2 ∷ 3 ∷ 4 ∷ 5 ∷ 6 ∷ 7 ∷ 8 ∷ 9 ∷ 10 ∷ [] })) []
    3 in
    map shown (part_of updated.state 1 (behind_extent 0x40 (located_at 6 1)
    (record { command = 0x86; flags = 0; count = 80; given = [] })) [] 3).ends

what_an_update_does_not_reach_is_read_as_zeros :
    updated_and_read ≡ quiet 0 ∷ quiet 1 ∷ record {
      index = 2;
      status = 0x0c;
      residual = 0;
      note = Plain;
      sent =
          (1 ∷ 2 ∷ 3 ∷ 4 ∷ 5 ∷ 6 ∷ 7 ∷ 8 ∷ 9 ∷ 10 ∷ []) ++ replicate 70 0;
    } ∷ []
unfolding updated_and_read behind_extent located_at shown quiet part_of walk command_of
what_an_update_does_not_reach_is_read_as_zeros = refl
