use Rattle.plain_defs.specs.declared.journal.Act.TheVariants.{CfwLost, Harden}
use Rattle.deck_audit.proofs.IdleLaws.{emptied_plain, reset_plain, acted_plain, loose_when_idle, some_when_idle}
use Rattle.deck_audit.proofs.law.idle_is_plain.Goals as goal

pub returns-clause-reset : goal.returns-clause-reset
returns-clause-reset c a path more plain stands = reset_plain a.plans a.empty a.history plain stands path more

pub returns-clause-fresh : goal.returns-clause-fresh
returns-clause-fresh c a plain stands = emptied_plain a.plans a.empty a.history plain stands

pub returns-clause-harden : goal.returns-clause-harden
returns-clause-harden c a t plain stands is =
    acted_plain a.plans a.empty a.history plain stands (Harden t) (loose_when_idle a t stands is, tt)

pub returns-clause-lost : goal.returns-clause-lost
returns-clause-lost c a plain stands some =
    acted_plain a.plans a.empty a.history plain stands CfwLost (some_when_idle a stands some, tt)
