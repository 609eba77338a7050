use Rattle.path_top.proofs.Unfailing.{none_failed_at_all}
use Rattle.path_top.proofs.laws.unfailing_history_on_volumes_checks_nothing.Goals as goal

pub returns : goal.returns
returns c = λ firsts deck devices are none. none_failed_at_all firsts deck none devices are
