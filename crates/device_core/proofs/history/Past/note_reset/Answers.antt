use Rattle.std.proofs.Common.{◌∙◌, refl}
use Rattle.device_core.proofs.Pasts.{history_unused, keeps_unused, room_unused}
use Rattle.device_core.proofs.history.Past.note_reset.Goals as goal

pub push-requires : goal.push-requires
push-requires c =
    let kept = c.requires.keeps.paths c.args.path c.set_unused.ensures.path.0 c.set_unused.ensures.path.1 in
    room_unused c.args.self.now c.args.path c.requires.keeps c.requires.idle (kept.used_is ∙ c.requires.used) c.set_unused.ensures.path.0
    c.set_unused.ensures.path.1

pub returns-clause-history : goal.returns-clause-history
returns-clause-history c =
    history_unused c.args.self.now (record c.args.self.now { items = c.push.new.self; kept = c.set_unused.new.kept }) c.args.path c.requires.keeps
    c.set_unused.ensures.path.0 c.set_unused.ensures.path.1 c.push.ensures.items refl c.set_unused.ensures.kept

pub returns-clause-keeps : goal.returns-clause-keeps
returns-clause-keeps c =
    let kept = c.requires.keeps.paths c.args.path c.set_unused.ensures.path.0 c.set_unused.ensures.path.1 in
    keeps_unused c.args.self.now (record c.args.self.now { items = c.push.new.self; kept = c.set_unused.new.kept }) c.args.path c.requires.keeps
    c.requires.idle (kept.used_is ∙ c.requires.used) c.set_unused.ensures.path.0 c.set_unused.ensures.path.1 c.push.ensures.items
    c.push.ensures.spare refl c.set_unused.ensures.kept refl
