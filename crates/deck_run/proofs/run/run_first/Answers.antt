use Rattle.std.proofs.Common.{◌≡◌, ◌∙◌, ◌++◌, List, map, take, sym, ap, subst}
use Rattle.deck_plan.specs.declared.event.EventLine.{EventLine}
use Rattle.report_text.specs.declared.line.ReportLine.{ReportLine}
use Rattle.subsystem_defs.specs.Lines.{asked_by, last_behind, run_lines}
use Rattle.subsystem_defs.specs.Decks as decks
use Rattle.subsystem_defs.specs.Decks.{opened_on}
use Rattle.deck_run.specs.Opening.{numbers_in}
use Rattle.deck_run.specs.Recording.{all_lines}
use Rattle.deck_run.specs.Standing.{StandsAs}
use Rattle.deck_run.proofs.Going.{front_open}
use Rattle.deck_run.proofs.Ready.{read_devices, read_lines}
use Rattle.deck_run.proofs.run.run_first.Goals as goal

pub open_on-requires-clause-devices : goal.open_on-requires-clause-devices
open_on-requires-clause-devices g c = read_devices c.requires.read.0 c.args.deck.now c.requires.read.1

pub do_lines-requires-clause-here : goal.do_lines-requires-clause-here
do_lines-requires-clause-here g c =
    rw (c.front.ensures, c.in_ok-sub.ensures.numbers)
    (front_open (numbers_in c.args.deck.now.devices) c.args.deck.now.events c.args.n (read_lines c.requires.read.0 c.args.deck.now c.requires.read.1))

pub do_lines-requires-clause-own : goal.do_lines-requires-clause-own
do_lines-requires-clause-own g c = c.in_ok-sub.ensures.own

pub returns-clause-stands : goal.returns-clause-stands
unfolding decks.run_asked_on
returns-clause-stands g c = λ firsts all.
    subst (λ (es : List EventLine). StandsAs c.do_lines.new.sub (last_behind (opened_on firsts c.args.deck.now) (run_lines (map asked_by es) (opened_on firsts c.args.deck.now))))
    c.front.ensures (c.in_ok-do_lines.ensures.goes.stands (opened_on firsts c.args.deck.now) (c.in_ok-sub.ensures.stands firsts all))

pub returns-clause-lines : goal.returns-clause-lines
unfolding decks.run_asked_on
returns-clause-lines g c = λ firsts all.
    c.in_ok-do_lines.ensures.goes.lines (opened_on firsts c.args.deck.now) (c.in_ok-sub.ensures.stands firsts all)
    ∙ ap (λ (l : List ReportLine). l ++ all_lines (run_lines (map asked_by c.front.result.now) (opened_on firsts c.args.deck.now))) c.new-report.ensures
    ∙ ap (λ (es : List EventLine). all_lines (run_lines (map asked_by es) (opened_on firsts c.args.deck.now))) c.front.ensures

pub returns-clause-numbers : goal.returns-clause-numbers
returns-clause-numbers g c = c.in_ok-do_lines.ensures.numbers ∙ c.in_ok-sub.ensures.numbers

pub returns-clause-own : goal.returns-clause-own
returns-clause-own g c = c.in_ok-do_lines.ensures.own
