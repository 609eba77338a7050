-- A word that is found, or the fault that there is none.
use Rattle.std.proofs.Common.{◌≡◌, ℕ, List, Option, Some, None, Ok, Err, sym, ap}
use Rattle.std.specs.Prelude.{MatchResult}
use Rattle.std.specs.Option.{option_map, ok_or}
use Rattle.report_reading.specs.declared.fault.LineFault.TheVariants.{Words}
use Rattle.report_reading.specs.Places.{needed}

pub found_or : {X : Type 0} (view : X → List ℕ) (o : Option X) (s : Option (List ℕ)) → option_map view o ≡ s
    → MatchResult (ok_or o Words) (λ x. needed Words s ≡ Ok (view x)) (λ f. needed Words s ≡ Err f)
found_or view None s e = ap (needed Words) (sym e)
found_or view (Some x) s e = ap (needed Words) (sym e)
