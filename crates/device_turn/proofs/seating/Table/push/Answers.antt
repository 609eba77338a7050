use Rattle.std.proofs.Common.{◌++◌, ◌∷◌, [], ◌∙◌, ap}
use Rattle.device_turn.specs.Seating.{IsAt, IsHome}
use Rattle.device_turn.proofs.Zips.{zip_pushed}
use Rattle.device_turn.proofs.seating.Table.push.Goals as goal

pub returns-clause-set : goal.returns-clause-set
returns-clause-set g c =
    let kept = c.in_ok-reserve.ensures.same in
    let turns = c.push_reserved.ensures.items ∙ ap (λ l. l ++ c.args.setting.turn ∷ []) kept.0 in
    let old = c.requires.old in
    let more = c.requires.more in
    record {
      operator = zip_pushed IsHome _ _ _ _ _ _ old.operator more.operator turns
          (c.push_reserved-2.ensures.items ∙ ap (λ l. l ++ c.args.setting.operator ∷ []) kept.1);
      seats = record {
        first = zip_pushed (IsAt 1) _ _ _ _ _ _ old.seats.first more.first turns
            (c.push_reserved-3.ensures.items ∙ ap (λ l. l ++ c.args.setting.first ∷ []) kept.2);
        second = zip_pushed (IsAt 2) _ _ _ _ _ _ old.seats.second more.second turns
            (c.push_reserved-4.ensures.items ∙ ap (λ l. l ++ c.args.setting.second ∷ []) kept.3);
        third = zip_pushed (IsAt 3) _ _ _ _ _ _ old.seats.third more.third turns
            (c.push_reserved-5.ensures.items ∙ ap (λ l. l ++ c.args.setting.third ∷ []) kept.4);
        fourth = zip_pushed (IsAt 4) _ _ _ _ _ _ old.seats.fourth more.fourth turns
            (c.push_reserved-6.ensures.items ∙ ap (λ l. l ++ c.args.setting.fourth ∷ []) kept.5);
        background = zip_pushed (IsAt 5) _ _ _ _ _ _ old.seats.background more.background turns
            (c.push_reserved-7.ensures.items ∙ ap (λ l. l ++ c.args.setting.background ∷ []) kept.6);
      };
    }
