use Rattle.std.proofs.Common.{refl}
use Rattle.plain_defs.specs.declared.journal.Act.TheVariants.{Harden, Loosen}
use Rattle.deck_audit.proofs.ReplayedActs.{acted_ends, acted_idle, acted_runs}
use Rattle.deck_audit.proofs.follows.act_follows.Goals as goal

pub returns-clause-idle : goal.returns-clause-idle
returns-clause-idle c r a act f idle = acted_idle r a act f idle

pub returns-clause-between : goal.returns-clause-between
returns-clause-between c r a o q act f runs entry waits_not = acted_runs r a o q act f runs entry waits_not

pub returns-clause-loose : goal.returns-clause-loose
returns-clause-loose c r a o q w t f runs entry waits = acted_ends r a o q (Loosen t) f runs entry w waits (λ path s. refl)

pub returns-clause-firm : goal.returns-clause-firm
returns-clause-firm c r a o q w t f runs entry waits = acted_ends r a o q (Harden t) f runs entry w waits (λ path s. refl)
