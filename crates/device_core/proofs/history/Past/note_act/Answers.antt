use Rattle.std.proofs.Common.{refl, sym, ◌∙◌}
use Rattle.device_core.proofs.Acting.{history_act, keeps_act, keeps_item, there}
use Rattle.device_core.proofs.history.Past.note_act.Goals as goal

pub returns-then-is_running-clause-history : goal.returns-then-is_running-clause-history
returns-then-is_running-clause-history c =
    history_act c.args.self.now c.add_act.new.running c.args.act (there _ (sym c.is_running.ensures ∙ c.if-is_running.true)) c.add_act.ensures.open

pub returns-then-is_running-clause-keeps : goal.returns-then-is_running-clause-keeps
returns-then-is_running-clause-keeps c =
    keeps_act c.args.self.now c.add_act.new.running c.args.act (there _ (sym c.is_running.ensures ∙ c.if-is_running.true)) c.add_act.ensures.open
    c.requires.keeps

pub returns-clause-keeps : goal.returns-clause-keeps
returns-clause-keeps c =
    keeps_item c.args.self.now (record c.args.self.now { items = c.push_act.new.self }) c.args.act (sym c.is_running.ensures ∙ c.if-is_running.false)
    c.push_act.ensures.items refl refl c.requires.keeps
    c.push_act.ensures.spare refl
