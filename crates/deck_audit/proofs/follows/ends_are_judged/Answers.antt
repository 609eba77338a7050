use Rattle.deck_audit.proofs.JudgingLaw.{end_judged, sense_judged}
use Rattle.deck_audit.proofs.follows.ends_are_judged.Goals as goal

pub returns-clause-end : goal.returns-clause-end
returns-clause-end c s r a o q path_is ordinal_is number_is runs line e = end_judged s r a o q path_is ordinal_is number_is runs line e

pub returns-clause-sense : goal.returns-clause-sense
returns-clause-sense c s r a o q path_is ordinal_is number_is runs line e entry =
    sense_judged s r a o q path_is ordinal_is number_is runs line e entry
