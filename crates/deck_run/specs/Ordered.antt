-- What an order comes to in a run that calls no volume and brings nothing to a journal's programs: a new volume, a pair, or its end.
use Rattle.std.specs.Prelude.{◌≡◌, [], ◌∷◌}
use Rattle.device_outside.specs.declared.volume.Volume.{Ghosts}
use Rattle.report_text.specs.declared.line.ReportLine.TheVariants as lines
use Rattle.report_text.specs.declared.order.Order.{Order}
use Rattle.run_report.specs.Answers.{order_answer}
use Rattle.run_report.specs.Events.{lines_of}
use Rattle.subsystem_core.specs.declared.subsystem.Subsystem.{Subsystem}
use Rattle.subsystem_defs.specs.declared.end.EventEnd.{EventEnd}
use Rattle.subsystem_defs.specs.Lines.{Logged}
use Rattle.deck_run.specs.Standing.{StandsAs}

module _ {V : Type 0} {G : Ghosts V} where
  -- the order ended so, left this subsystem, and tells no more than itself
  pub record IsOrdered (x : Logged) (order : Order) (end : EventEnd) (s : Subsystem V G) : Type 0 where
    pub stands : StandsAs s x.happened.behind
    pub lines : lines_of x ≡ lines.Order order (order_answer end) ∷ []
