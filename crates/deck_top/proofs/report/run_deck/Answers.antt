use Rattle.run_report.specs.Report.{report_lines}
use Rattle.subsystem_defs.specs.Decks.{run_on}
use Rattle.deck_run.proofs.Ready.{read_devices}
use Rattle.deck_top.proofs.Summed.{told_counts}
use Rattle.deck_top.proofs.Written.{whole_text}
use Rattle.deck_top.proofs.report.run_deck.Goals as goal

pub hand_out_all-requires : goal.hand_out_all-requires
hand_out_all-requires g c = read_devices c.requires.0 c.args.deck.now c.requires.1

pub returns-clause-text : goal.returns-clause-text
returns-clause-text g c = λ firsts hands.
    whole_text c.in_ok-ran.ran.report (report_lines (run_on firsts c.args.deck.now)) (c.in_ok-ran.ensures.lines firsts (c.in_ok-volumes.ensures.holds firsts hands))

pub returns-clause-counts : goal.returns-clause-counts
returns-clause-counts g c = λ firsts hands.
    told_counts c.in_ok-ran.ran.report (run_on firsts c.args.deck.now) (c.in_ok-ran.ensures.lines firsts (c.in_ok-volumes.ensures.holds firsts hands))

pub returns-clause-stands : goal.returns-clause-stands
returns-clause-stands g c = λ firsts hands. c.in_ok-ran.ensures.stands firsts (c.in_ok-volumes.ensures.holds firsts hands)

pub returns-clause-well : goal.returns-clause-well
returns-clause-well g c = λ firsts whole. record {
  shown = c.run_on_volumes_runs_plainly.ensures firsts whole c.requires.0 c.args.deck.now c.requires.1;
  promised = c.run_on_volumes_is_promised.ensures firsts whole c.requires.0 c.args.deck.now c.requires.1;
  fast = c.fast_writes_are_not_checked.ensures firsts c.args.deck.now;
  origins = c.run_on_volumes_keeps_promises.ensures.origins firsts whole c.requires.0 c.args.deck.now c.requires.1;
  kept = c.run_on_volumes_keeps_promises.ensures.writes firsts whole c.requires.0 c.args.deck.now c.requires.1;
  transfers = c.run_moves_exactly.ensures firsts c.args.deck.now;
}
