use Rattle.std.proofs.Common.{◌≡◌, ◌∙◌, ap, subst}
use Rattle.run_report.specs.Report.{lines_of_run}
use Rattle.subsystem_defs.specs.Decks.{DeckRun}
use Rattle.deck_run.specs.Standing.{StandsAs}
use Rattle.deck_run.proofs.Fronts.{front_whole}
use Rattle.deck_run.proofs.run.run_events.Goals as goal

pub returns-clause-stands : goal.returns-clause-stands
returns-clause-stands g c = λ firsts all.
    subst (λ (r : DeckRun). StandsAs c.in_ok-ran.ran.sub r.behind) (front_whole firsts c.args.deck.now c.event_count.result c.event_count.ensures.value)
    (c.in_ok-ran.ensures.stands firsts all)

pub returns-clause-lines : goal.returns-clause-lines
returns-clause-lines g c = λ firsts all.
    c.in_ok-ran.ensures.lines firsts all ∙ ap lines_of_run (front_whole firsts c.args.deck.now c.event_count.result c.event_count.ensures.value)

pub returns-clause-accounted : goal.returns-clause-accounted
returns-clause-accounted g c = c.in_ok-ran.ensures.own.accounted
