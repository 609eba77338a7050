-- none_are_written_yet
use Rattle.std.proofs.Common.{ap}
use Rattle.plain_defs.specs.History.{History}
use Rattle.subsystem_defs.specs.Promised.{first_of}
use Rattle.firm_laws.specs.FirmWrites.{firm_writes}
use Rattle.firm_laws.proofs.none_are_written_yet.Goals as goal

pub returns : goal.returns
returns c = λ firsts d none. ap (λ (h : History). firm_writes d.plans (first_of (firsts d.store.device) d) h) none
