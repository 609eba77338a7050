use Rattle.device_outside.specs.declared.keep.NoKeep.{NoKeep}
use Rattle.device_store.proofs.Moves.{heard_alone}
use Rattle.subsystem_core.proofs.Hearing.{changed_less, none_takes}
use Rattle.track_looks.proofs.Happened.{all_happens}
use Rattle.track_looks.proofs.looking.look.Goals as goal

pub look_with-requires-clause-takes : goal.look_with-requires-clause-takes
look_with-requires-clause-takes g c = none_takes _ _

pub returns-clause-looked : goal.returns-clause-looked
returns-clause-looked g c = record {
  answer = c.look_with.ensures.looked.answer;
  told_is = c.look_with.ensures.looked.told_is;
  asked = changed_less (λ x y so. λ (j : NoKeep). heard_alone so) c.look_with.ensures.looked.asked;
}

pub returns-clause-happened : goal.returns-clause-happened
returns-clause-happened g c = λ run stands may.
    all_happens c.args.d c.args.t c.look_with.result c.args.sub.now c.look_with.new.sub run c.requires.track (returns-clause-looked g c) stands may
