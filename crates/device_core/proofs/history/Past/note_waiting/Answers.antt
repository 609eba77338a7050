use Rattle.std.proofs.Common.{refl}
use Rattle.device_core.proofs.Pasts.{history_waits, keeps_waiting}
use Rattle.device_core.proofs.history.Past.note_waiting.Goals as goal

pub returns-clause-history : goal.returns-clause-history
returns-clause-history c =
    history_waits c.args.self.now (record c.args.self.now { kept = c.set_waiting.new.kept }) c.args.path c.requires.keeps c.set_waiting.ensures.path.0
    c.set_waiting.ensures.path.1 refl refl c.set_waiting.ensures.kept

pub returns-clause-keeps : goal.returns-clause-keeps
returns-clause-keeps c =
    keeps_waiting c.args.self.now (record c.args.self.now { kept = c.set_waiting.new.kept }) c.args.path c.requires.keeps c.requires.running
    c.set_waiting.ensures.path.0 c.set_waiting.ensures.path.1 refl refl c.set_waiting.ensures.kept refl
