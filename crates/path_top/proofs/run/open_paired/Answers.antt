use Rattle.std.proofs.Common.{◌∙◌, subst}
use Rattle.deck_run.proofs.Ready.{read_devices, read_lines}
use Rattle.deck_run.specs.Standing.{StandsAs}
use Rattle.subsystem_defs.specs.Decks.{opened_on}
use Rattle.path_top.proofs.Fitting.{all_fit}
use Rattle.path_top.specs.Pairs.{behind_pairs}
use Rattle.path_top.proofs.run.open_paired.Goals as goal

pub hand_out_all-requires : goal.hand_out_all-requires
hand_out_all-requires g c = read_devices c.requires.0 c.args.deck.now c.requires.1

pub open_on-requires-clause-devices : goal.open_on-requires-clause-devices
open_on-requires-clause-devices g c = read_devices c.requires.0 c.args.deck.now c.requires.1

pub pair_first-requires-clause-here : goal.pair_first-requires-clause-here
pair_first-requires-clause-here g c =
    rw (c.in_ok-sub.ensures.numbers, c.as_slice.ensures, c.schedule.ensures) (read_lines c.requires.0 c.args.deck.now c.requires.1)

pub returns-clause-fit : goal.returns-clause-fit
returns-clause-fit g c = λ firsts hands. all_fit firsts c.args.deck.now c.args.deck.now.devices _ (c.in_ok-volumes.ensures.holds firsts hands)

pub returns-clause-stands : goal.returns-clause-stands
returns-clause-stands g c = λ firsts hands.
    let opened = opened_on firsts c.args.deck.now in
    subst (λ es. StandsAs c.pair_first.new.sub (behind_pairs opened es)) (c.as_slice.ensures ∙ c.schedule.ensures)
    (c.in_ok-pair_first.ensures.stands opened (c.in_ok-sub.ensures.stands firsts (c.in_ok-volumes.ensures.holds firsts hands)))
