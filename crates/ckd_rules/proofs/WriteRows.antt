-- A few known writes of one track, computed from the definitions alone.
use Rattle.std.proofs.Common.{◌≡◌, ℕ, List, [], ◌∷◌, ◌++◌, Some, None, Option, refl}
use Rattle.std.specs.Prelude.{replicate, slice_index}
use Rattle.ckd_types.specs.declared.channel.Ccw.{Ccw}
use Rattle.ckd_types.specs.declared.geometry.Geometry.{Geometry}
use Rattle.ckd_types.specs.declared.geometry.Geometry.TheVariants.{D3390, D3380}
use Rattle.ckd_types.specs.declared.parameters.Orientation.TheVariants as orientations
use Rattle.ckd_types.specs.declared.parameters.Operation.{Operation}
use Rattle.ckd_types.specs.declared.parameters.Operation.TheVariants as operations
use Rattle.ckd_types.specs.declared.record.Record.{Record}
use Rattle.ckd_types.specs.declared.record.Track.{Track}
use Rattle.ckd_types.specs.declared.sense.Sense.{Sense}
use Rattle.ckd_types.specs.declared.command.Write.TheVariants as writes
use Rattle.ckd_types.specs.Edit.{edited}
use Rattle.ckd_types.specs.Track.{empty_zero, empty_track}
use Rattle.ckd_rules.specs.declared.stance.Stance.{Stance}
use Rattle.ckd_rules.specs.declared.stance.Place.{Place}
use Rattle.ckd_rules.specs.declared.stance.Place.TheVariants.{Count, Body}
use Rattle.ckd_rules.specs.declared.ending.Ending.{Ending}
use Rattle.ckd_rules.specs.declared.turned.Turned.{Turned}
use Rattle.ckd_rules.specs.declared.turned.Turned.TheVariants.{Ended, Onward, Edits}
use Rattle.ckd_rules.specs.Looked.{Looked}
use Rattle.ckd_rules.specs.Reads.{record_at}
use Rattle.ckd_rules.specs.Stance.{first_stance}
use Rattle.ckd_rules.specs.Writes.{write_on}

-- in a domain of an operation, at a place
stands : Operation → Place → Stance
stands operation place = record first_stance {
  domain = Some (record {
    orientation = orientations.Count;
    operation = operation;
    count = 3;
    seek = 0;
    search =
        record { cchh = record { cc = 0; hh = 0 }; r = 0 };
  });
  left = 3;
  place = place;
}

word : ℕ → ℕ → ℕ → List ℕ → Ccw
word command flags count given = record { command = command; flags = flags; count = count; given = given }

-- status, residual and the second sense byte
second_byte : Option Sense → ℕ
second_byte (Some sense) = slice_index sense.bytes 1
second_byte None = 0

ended : Ending → List ℕ
ended e = e.status.0 ∷ e.residual ∷ second_byte e.sense ∷ []

shown_by : Turned → List ℕ
shown_by (Ended e) = ended e
shown_by Onward = []
shown_by (Edits edit e) = ended e

shown : Looked → List ℕ
shown l = shown_by l.turned

records_by : Track → Turned → List Record
records_by t (Edits edit e) = edited edit t.records
records_by t _ = t.records

records_after : Track → Looked → List Record
records_after t l = records_by t l.turned

left_after : Looked → ℕ
left_after l = l.stance.left

-- record 1 has eighty bytes
one_record : Track
one_record = record (empty_track 0) {
  records = records_after (empty_track 0)
      (write_on D3390 (empty_track 0) (stands operations.Format (Count 0))
      (word 0x1d 0 88 ((0 ∷ 0 ∷ 0 ∷ 0 ∷ 1 ∷ 0 ∷ 0 ∷ 0x50 ∷ []) ++ replicate 80 0xff)) writes.CountKeyData);
}

record_one_is_formatted : one_record.records ≡ empty_zero 0 ∷ record {
  id =
      record { cchh = record { cc = 0; hh = 0 }; r = 1 };
  key = [];
  body = replicate 80 0xff;
} ∷ []
unfolding one_record stands word records_after records_by
record_one_is_formatted = refl

update : Looked
update = write_on D3390 one_record (stands operations.WriteData (Count 1)) (word 0x85 0x20 10 (1 ∷ 2 ∷ 3 ∷ 4 ∷ 5 ∷ 6 ∷ 7 ∷ 8 ∷ 9 ∷ 10 ∷ [])) writes.UpdateData

what_the_count_does_not_reach_is_zeros : (record_at (records_after one_record update) 1).body ≡ (1 ∷ 2 ∷ 3 ∷ 4 ∷ 5 ∷ 6 ∷ 7 ∷ 8 ∷ 9 ∷ 10 ∷ []) ++ replicate 70 0
unfolding update one_record stands word records_after records_by
what_the_count_does_not_reach_is_zeros = refl

one_of_the_domain_is_taken : left_after update ≡ 2
unfolding update one_record stands word records_after records_by left_after
one_of_the_domain_is_taken = refl

-- a record of n bytes of data behind record i
formatted : Geometry → List Record → ℕ → ℕ → List ℕ → Looked
formatted g records i count given = write_on g (record (empty_track 0) { records = records })
    (stands operations.Format (Body i)) (word 0x1d 0 count given) writes.CountKeyData

largest_of_a_3390 : shown (formatted D3390 (empty_zero 0 ∷ []) 0 56672 (0 ∷ 0 ∷ 0 ∷ 0 ∷ 1 ∷ 0 ∷ 0xdd ∷ 0x58 ∷ [])) ≡ 0x0c ∷ 0 ∷ 0 ∷ []
unfolding formatted shown shown_by ended second_byte stands word
largest_of_a_3390 = refl

one_byte_more_of_a_3390 : shown (formatted D3390 (empty_zero 0 ∷ []) 0 56673 (0 ∷ 0 ∷ 0 ∷ 0 ∷ 1 ∷ 0 ∷ 0xdd ∷ 0x59 ∷ [])) ≡ 0x0e ∷ 56673 ∷ 0x40 ∷ []
unfolding formatted shown shown_by ended second_byte stands word
one_byte_more_of_a_3390 = refl

largest_of_a_3380 : shown (formatted D3380 (empty_zero 0 ∷ []) 0 47484 (0 ∷ 0 ∷ 0 ∷ 0 ∷ 1 ∷ 0 ∷ 0xb9 ∷ 0x74 ∷ [])) ≡ 0x0c ∷ 0 ∷ 0 ∷ []
unfolding formatted shown shown_by ended second_byte stands word
largest_of_a_3380 = refl

one_byte_more_of_a_3380 : shown (formatted D3380 (empty_zero 0 ∷ []) 0 47485 (0 ∷ 0 ∷ 0 ∷ 0 ∷ 1 ∷ 0 ∷ 0xb9 ∷ 0x75 ∷ [])) ≡ 0x0e ∷ 47485 ∷ 0x40 ∷ []
unfolding formatted shown shown_by ended second_byte stands word
one_byte_more_of_a_3380 = refl

-- records of 4,096 bytes
filled : ℕ → List Record
filled n = empty_zero 0 ∷ replicate n (record { id = record { cchh = record { cc = 0; hh = 0 }; r = 1 }; key = []; body = replicate 4096 0 })

twelve_records_fit : shown (formatted D3390 (filled 11) 11 4104 (0 ∷ 0 ∷ 0 ∷ 0 ∷ 12 ∷ 0 ∷ 0x10 ∷ 0 ∷ [])) ≡ 0x0c ∷ 0 ∷ 0 ∷ []
unfolding filled formatted shown shown_by ended second_byte stands word
twelve_records_fit = refl

a_thirteenth_does_not_fit : shown (formatted D3390 (filled 12) 12 4104 (0 ∷ 0 ∷ 0 ∷ 0 ∷ 13 ∷ 0 ∷ 0x10 ∷ 0 ∷ [])) ≡ 0x0e ∷ 4104 ∷ 0x40 ∷ []
unfolding filled formatted shown shown_by ended second_byte stands word
a_thirteenth_does_not_fit = refl

an_end_of_file_is_formatted : records_after (empty_track 0) (formatted D3390 (empty_zero 0 ∷ []) 0 8
    (0 ∷ 0 ∷ 0 ∷ 0 ∷ 1 ∷ 0 ∷ 0 ∷ 0 ∷ [])) ≡ empty_zero 0 ∷ record {
      id =
          record { cchh = record { cc = 0; hh = 0 }; r = 1 };
      key = [];
      body = [];
    } ∷ []
unfolding formatted records_after records_by stands word
an_end_of_file_is_formatted = refl
