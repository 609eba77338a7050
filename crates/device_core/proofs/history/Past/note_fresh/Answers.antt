use Rattle.device_core.proofs.Acting.{history_fresh, keeps_fresh}
use Rattle.device_core.proofs.history.Past.note_fresh.Goals as goal

pub returns-clause-history : goal.returns-clause-history
returns-clause-history c = history_fresh c.args.self.now c.push.new.self c.push.ensures.items

pub returns-clause-keeps : goal.returns-clause-keeps
returns-clause-keeps c =
    keeps_fresh c.args.self.now c.push.new.self c.push.ensures.items c.requires.keeps c.push.ensures.spare c.requires.room
