-- driven_firm_is_written_on_volumes
use Rattle.firm_laws.proofs.DrivenWrites.{driven_written}
use Rattle.firm_laws.proofs.driven_firm_is_written_on_volumes.Goals as goal

pub returns : goal.returns
returns g c = λ firsts whole course number firms t text deck read begun sub none first at h goes m there.
    driven_written firsts whole course number firms t text deck read begun sub none first at h goes m there
