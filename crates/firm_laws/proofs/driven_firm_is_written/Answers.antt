-- driven_firm_is_written
use Rattle.subsystem_defs.specs.Decks.{empty_firsts}
use Rattle.subsystem_laws.proofs.PlainRuns.{empty_whole}
use Rattle.firm_laws.proofs.DrivenWrites.{driven_written}
use Rattle.firm_laws.proofs.driven_firm_is_written.Goals as goal

pub returns : goal.returns
returns g c = λ course number firms t text deck read begun sub none first at h goes m there.
    driven_written empty_firsts empty_whole course number firms t text deck read begun sub none first at h goes m there
