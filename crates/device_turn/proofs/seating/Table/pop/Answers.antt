use Rattle.device_turn.specs.Seating.{IsAt, IsHome}
use Rattle.device_turn.proofs.Zips.{zip_popped}
use Rattle.device_turn.proofs.seating.Table.pop.Goals as goal

pub returns-clause-set : goal.returns-clause-set
returns-clause-set g c =
    let turns = c.pop.ensures.items in
    let turn = c.unwrap.ensures in
    let set = c.requires.set in
    record {
      operator = (zip_popped IsHome _ _ _ _ _ _ _ _ set.operator turns turn c.pop-2.ensures.items c.unwrap-2.ensures).0;
      seats = record {
        first = (zip_popped (IsAt 1) _ _ _ _ _ _ _ _ set.seats.first turns turn c.pop-3.ensures.items c.unwrap-3.ensures).0;
        second = (zip_popped (IsAt 2) _ _ _ _ _ _ _ _ set.seats.second turns turn c.pop-4.ensures.items c.unwrap-4.ensures).0;
        third = (zip_popped (IsAt 3) _ _ _ _ _ _ _ _ set.seats.third turns turn c.pop-5.ensures.items c.unwrap-5.ensures).0;
        fourth = (zip_popped (IsAt 4) _ _ _ _ _ _ _ _ set.seats.fourth turns turn c.pop-6.ensures.items c.unwrap-6.ensures).0;
        background = (zip_popped (IsAt 5) _ _ _ _ _ _ _ _ set.seats.background turns turn c.pop-7.ensures.items c.unwrap-7.ensures).0;
      };
    }

pub returns-clause-one : goal.returns-clause-one
returns-clause-one g c =
    let turns = c.pop.ensures.items in
    let turn = c.unwrap.ensures in
    let set = c.requires.set in
    record {
      operator = (zip_popped IsHome _ _ _ _ _ _ _ _ set.operator turns turn c.pop-2.ensures.items c.unwrap-2.ensures).1;
      first = (zip_popped (IsAt 1) _ _ _ _ _ _ _ _ set.seats.first turns turn c.pop-3.ensures.items c.unwrap-3.ensures).1;
      second = (zip_popped (IsAt 2) _ _ _ _ _ _ _ _ set.seats.second turns turn c.pop-4.ensures.items c.unwrap-4.ensures).1;
      third = (zip_popped (IsAt 3) _ _ _ _ _ _ _ _ set.seats.third turns turn c.pop-5.ensures.items c.unwrap-5.ensures).1;
      fourth = (zip_popped (IsAt 4) _ _ _ _ _ _ _ _ set.seats.fourth turns turn c.pop-6.ensures.items c.unwrap-6.ensures).1;
      background = (zip_popped (IsAt 5) _ _ _ _ _ _ _ _ set.seats.background turns turn c.pop-7.ensures.items c.unwrap-7.ensures).1;
    }
