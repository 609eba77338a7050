use Rattle.subsystem_defs.specs.Decks.{run_on}
use Rattle.deck_top.specs.Handed.{all_taken}
use Rattle.deck_top.proofs.HandedBack.{all_handed, all_number, taken_behind}
use Rattle.deck_top.proofs.report.take_back.Goals as goal

pub give_back-requires : goal.give_back-requires
give_back-requires g c = rw (all_number c.args.sub.devices.items c.args.deck.now.devices c.requires.accounted c.requires.numbers) c.requires.room

pub returns-clause-volumes : goal.returns-clause-volumes
returns-clause-volumes g c = λ old same stands. record {
  more = all_taken c.args.sub.devices.items;
  taken = taken_behind old _ _ (all_taken c.args.sub.devices.items) same c.give_back.ensures.bay;
  number = all_number c.args.sub.devices.items c.args.deck.now.devices c.requires.accounted c.requires.numbers;
  are = λ firsts hands.
      all_handed c.args.sub (run_on firsts c.args.deck.now).behind c.give_back.ensures.bytes c.requires.accounted (stands firsts hands);
}
