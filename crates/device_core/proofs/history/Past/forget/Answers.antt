use Rattle.device_core.specs.Kept.{history_of}
use Rattle.device_core.proofs.Forgetting.{forget_keeps}
use Rattle.device_core.proofs.history.Past.forget.Goals as goal

pub returns-clause-keeps : goal.returns-clause-keeps
returns-clause-keeps c =
    let past = c.args.self.now in
    rw (c.keep_one_each.ensures, c.ran-self.ensures)
    (forget_keeps (history_of past) _ past.kept past.powered past.items.spare c.args.items.spare c.requires.keeps c.requires.idle c.requires.spare
    c.requires.items c.requires.idle)
