use Rattle.std.proofs.Common.{subst}
use Rattle.subsystem_core.specs.Devices.{numbers_of}
use Rattle.subsystem_core.specs.Places.{IsTable}
use Rattle.subsystem_core.proofs.subsystem.Subsystem.new.Goals as goal

pub invariant_of-result-clause-rising : goal.invariant_of-result-clause-rising
invariant_of-result-clause-rising g c = c.requires.rising

pub invariant_of-result-clause-alike : goal.invariant_of-result-clause-alike
invariant_of-result-clause-alike g c = c.requires.alike

pub invariant_of-result-clause-table : goal.invariant_of-result-clause-table
invariant_of-result-clause-table g c =
    subst (λ ds. IsTable c.places_of-places.result (numbers_of ds)) c.deref.ensures.value c.places_of-places.ensures
