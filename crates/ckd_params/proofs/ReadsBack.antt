-- What was encoded decodes to what it was.
use Rattle.std.proofs.Common.{◌≡◌, ℕ, ◌+◌, ◌*◌, ◌/◌, ◌%◌, ◌<◌, ◌==◌, not, cond, nat_lt, nat_le, Bool, true, false, Option, Some, None, Ok, refl, ap, ◌∙◌, arith}
use Rattle.std.specs.Prelude.{is_some, IfSome}
use Rattle.std.specs.Int.RustNames.{bit_and}
use Rattle.std.proofs.lemmas.Nat.{and_mask}
use Rattle.std.proofs.lemmas.Bool.Decides.{nat_tests}
use Rattle.ckd_types.specs.declared.geometry.Cchh.{Cchh}
use Rattle.ckd_types.specs.declared.parameters.Mode.{Mode}
use Rattle.ckd_types.specs.declared.parameters.Mode.TheVariants.{Normal, Bypass, InhibitLoad, Sequential}
use Rattle.ckd_types.specs.declared.parameters.Extent.{Extent}
use Rattle.ckd_types.specs.declared.parameters.Orientation.{Orientation}
use Rattle.ckd_types.specs.declared.parameters.Orientation.TheVariants.{Count, Home, Body, Index}
use Rattle.ckd_types.specs.declared.parameters.Operation.{Operation}
use Rattle.ckd_types.specs.declared.parameters.Operation.TheVariants.{Orient, WriteData, Format, ReadData, ReadTracks, Read}
use Rattle.ckd_types.specs.declared.parameters.Domain.{Domain}
use Rattle.ckd_types.specs.Geometry.{cchh_of, track_at}
use Rattle.ckd_types.specs.Track.{two_bytes, cchh_bytes}
use Rattle.ckd_types.specs.Parameters.{number_at, cchh_at, attributes_mode, extent_of, orientation_of, operation_of, operation_code, domain_of}
use Rattle.ckd_params.specs.Encoding.{attributes, number_bytes, orientation_code, actions, extent_bytes, domain_bytes}
use Rattle.ckd_params.specs.Wellformed.{IsExtent, IsDomain}

own_track : (cylinders t : ℕ) → t < cylinders * 15 → track_at cylinders (cchh_of t) ≡ Some t
own_track cylinders t range =
    let head : nat_lt (t % 15) 15 ≡ true = grind (arith, nat_tests) in
    let cylinder : nat_lt (t / 15) cylinders ≡ true = grind (arith, nat_tests) in
    rw (head, cylinder) (ap Some (omega arith))

-- the bytes of a place give it
abbrev pub IsHeld : Cchh → Type 0
IsHeld p = cchh_at (cchh_bytes p) 0 ≡ p

track_back : (cylinders t : ℕ) → t < cylinders * 15 → IsHeld (cchh_of t) → track_at cylinders (cchh_at (cchh_bytes (cchh_of t)) 0) ≡ Some t
track_back cylinders t range held = ap (track_at cylinders) held ∙ own_track cylinders t range

mode_back : (mode : Mode) (numbered inhibit : Bool) → attributes_mode (attributes mode numbered inhibit) ≡ Some mode
mode_back Normal false false = refl
mode_back Normal false true = refl
mode_back Normal true false = refl
mode_back Normal true true = refl
mode_back Bypass false false = refl
mode_back Bypass false true = refl
mode_back Bypass true false = refl
mode_back Bypass true true = refl
mode_back InhibitLoad false false = refl
mode_back InhibitLoad false true = refl
mode_back InhibitLoad true false = refl
mode_back InhibitLoad true true = refl
mode_back Sequential false false = refl
mode_back Sequential false true = refl
mode_back Sequential true false = refl
mode_back Sequential true true = refl

fast_back : (mode : Mode) (numbered inhibit : Bool) → (bit_and (attributes mode numbered inhibit) 2 == 0) ≡ not numbered
fast_back Normal false false = refl
fast_back Normal false true = refl
fast_back Normal true false = refl
fast_back Normal true true = refl
fast_back Bypass false false = refl
fast_back Bypass false true = refl
fast_back Bypass true false = refl
fast_back Bypass true true = refl
fast_back InhibitLoad false false = refl
fast_back InhibitLoad false true = refl
fast_back InhibitLoad true false = refl
fast_back InhibitLoad true true = refl
fast_back Sequential false false = refl
fast_back Sequential false true = refl
fast_back Sequential true false = refl
fast_back Sequential true true = refl

inhibit_back : (mode : Mode) (numbered inhibit : Bool) → not (bit_and (attributes mode numbered inhibit) 1 == 0) ≡ inhibit
inhibit_back Normal false false = refl
inhibit_back Normal false true = refl
inhibit_back Normal true false = refl
inhibit_back Normal true true = refl
inhibit_back Bypass false false = refl
inhibit_back Bypass false true = refl
inhibit_back Bypass true false = refl
inhibit_back Bypass true true = refl
inhibit_back InhibitLoad false false = refl
inhibit_back InhibitLoad false true = refl
inhibit_back InhibitLoad true false = refl
inhibit_back InhibitLoad true true = refl
inhibit_back Sequential false false = refl
inhibit_back Sequential false true = refl
inhibit_back Sequential true false = refl
inhibit_back Sequential true true = refl

-- the bytes of a number give it
abbrev pub IsNumber : Option ℕ → Type 0
IsNumber number = IfSome number (λ n. number_at (two_bytes n) 0 ≡ n)

-- the number of an extent in its bytes
abbrev number_in : ℕ → Option ℕ → Option ℕ
number_in byte number = cond (bit_and byte 2 == 0) None (Some (number_at (number_bytes number) 0))

number_back : (mode : Mode) (inhibit : Bool) (number : Option ℕ) → IsNumber number → number_in (attributes mode (is_some number) inhibit) number ≡ number
number_back mode inhibit None held = ap (λ (b : Bool). cond b None (Some 0)) (fast_back mode false inhibit)
number_back mode inhibit (Some n) held =
    ap (λ (b : Bool). cond b None (Some (number_at (two_bytes n) 0))) (fast_back mode true inhibit) ∙ ap Some held

code_low : (operation : Operation) → operation_code operation < 64
code_low Orient = omega arith
code_low WriteData = omega arith
code_low Format = omega arith
code_low ReadData = omega arith
code_low ReadTracks = omega arith
code_low Read = omega arith

of_orientation_code : (orientation : Orientation) → orientation_of (orientation_code orientation) ≡ orientation
of_orientation_code Count = refl
of_orientation_code Home = refl
of_orientation_code Body = refl
of_orientation_code Index = refl

of_operation_code : (operation : Operation) → operation_of (operation_code operation) ≡ Some operation
of_operation_code Orient = refl
of_operation_code WriteData = refl
of_operation_code Format = refl
of_operation_code ReadData = refl
of_operation_code ReadTracks = refl
of_operation_code Read = refl

high_part : (n m : ℕ) → m < 64 → (n * 64 + m) / 64 ≡ n
high_part n m low = omega arith

low_part : (n m : ℕ) → m < 64 → bit_and (n * 64 + m) 0x3f ≡ m
low_part n m low = and_mask (n * 64 + m) 6 ∙ (omega arith)

orientation_back : (orientation : Orientation) (operation : Operation) → orientation_of (actions orientation operation / 64) ≡ orientation
orientation_back orientation operation =
    ap orientation_of (high_part (orientation_code orientation) (operation_code operation) (code_low operation)) ∙ of_orientation_code orientation

operation_back : (orientation : Orientation) (operation : Operation) → operation_of (bit_and (actions orientation operation) 0x3f) ≡ Some operation
operation_back orientation operation =
    ap operation_of (low_part (orientation_code orientation) (operation_code operation) (code_low operation)) ∙ of_operation_code operation

pub extent_back : (cylinders : ℕ) (e : Extent) → IsExtent cylinders e → IsNumber e.number
    → IsHeld (cchh_of e.first) → IsHeld (cchh_of e.last) → extent_of cylinders (extent_bytes e) ≡ Ok e
extent_back cylinders e is number first last =
    let order : nat_le e.first e.last ≡ true = grind (arith, nat_tests, is.order) in
    let before : e.first < cylinders * 15 = omega (arith, is.order, is.range) in
    let start = track_back cylinders e.first before first in
    let end = track_back cylinders e.last is.range last in
    let numbered = is_some e.number in
    let own = number_back e.mode e.inhibit_fast e.number number in
    rw (is.mask, mode_back e.mode numbered e.inhibit_fast, inhibit_back e.mode numbered e.inhibit_fast, own, start, end, order) refl

pub domain_back : (cylinders : ℕ) (d : Domain) → IsDomain cylinders d → IsHeld (cchh_of d.seek) → IsHeld d.search.cchh
    → domain_of cylinders (domain_bytes d) ≡ Ok d
domain_back cylinders d is seek search =
    let sought = track_back cylinders d.seek is.range seek in
    let orientation = orientation_back d.orientation d.operation in
    rw (operation_back d.orientation d.operation, is.count, sought, orientation, ap (λ (p : Cchh). p.cc) search, ap (λ (p : Cchh). p.hh) search) refl
