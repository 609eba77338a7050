-- The parameter bytes of an extent and of a domain.
use Rattle.std.specs.Prelude.{ℕ, ◌+◌, ◌*◌, Bool, is_some, unwrap_or, Option, List, [], ◌∷◌, ◌++◌, if◌then◌else◌}
use Rattle.ckd_types.specs.declared.parameters.Mode.{Mode}
use Rattle.ckd_types.specs.declared.parameters.Mode.TheVariants.{Normal, Bypass, InhibitLoad, Sequential}
use Rattle.ckd_types.specs.declared.parameters.Extent.{Extent}
use Rattle.ckd_types.specs.declared.parameters.Orientation.{Orientation}
use Rattle.ckd_types.specs.declared.parameters.Orientation.TheVariants.{Count, Home, Body, Index}
use Rattle.ckd_types.specs.declared.parameters.Operation.{Operation}
use Rattle.ckd_types.specs.declared.parameters.Domain.{Domain}
use Rattle.ckd_types.specs.Geometry.{cchh_of}
use Rattle.ckd_types.specs.Track.{two_bytes, cchh_bytes}
use Rattle.ckd_types.specs.Parameters.{operation_code}

abbrev pub mode_code : Mode → ℕ
mode_code Normal = 0
mode_code Bypass = 1
mode_code InhibitLoad = 2
mode_code Sequential = 3

-- bits 0 and 1 are set, bits 3 to 5 are the mode, bit 6 says that there is a number, and bit 7 inhibits fast writes
abbrev pub attributes : Mode → Bool → Bool → ℕ
attributes mode numbered inhibit = 0xc0 + mode_code mode * 4 + (if numbered then 2 else 0) + (if inhibit then 1 else 0)

-- the number of cache fast write data, or zeros
abbrev pub number_bytes : Option ℕ → List ℕ
number_bytes number = two_bytes (unwrap_or number 0)

-- no block size
abbrev pub extent_bytes : Extent → List ℕ
extent_bytes e =
    (e.mask ∷ attributes e.mode (is_some e.number) e.inhibit_fast ∷ 0 ∷ 0 ∷ []) ++ number_bytes e.number ++ (0 ∷ 0 ∷ [])
    ++ cchh_bytes (cchh_of e.first) ++ cchh_bytes (cchh_of e.last)

abbrev pub orientation_code : Orientation → ℕ
orientation_code Count = 0
orientation_code Home = 1
orientation_code Body = 2
orientation_code Index = 3

-- bits 0 and 1 are the orientation, the low six bits the operation
abbrev pub actions : Orientation → Operation → ℕ
actions orientation operation = orientation_code orientation * 64 + operation_code operation

-- no sector and no transfer length factor
abbrev pub domain_bytes : Domain → List ℕ
domain_bytes d =
    (actions d.orientation d.operation ∷ 0 ∷ 0 ∷ d.count ∷ [])
    ++ cchh_bytes (cchh_of d.seek) ++ cchh_bytes d.search.cchh ++ (d.search.r ∷ 0 ∷ 0 ∷ 0 ∷ [])
