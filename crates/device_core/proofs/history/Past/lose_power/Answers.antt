use Rattle.std.proofs.Common.{◌∙◌, sym}
use Rattle.device_core.proofs.Pasts.{some_open}
use Rattle.device_core.proofs.Powers.{history_idle, history_running, keeps_running, keeps_idle, none_runs}
use Rattle.device_core.proofs.history.Past.lose_power.Goals as goal

pub returns-then-is_running-clause-history : goal.returns-then-is_running-clause-history
returns-then-is_running-clause-history c =
    let it = some_open c.args.self.now.running (sym c.is_running.ensures ∙ c.if-is_running.true) in
    history_running c.args.self.now c.note_cut.new.self c.note_power.new.self it.0 c.args.more it.1 c.note_cut.ensures.over (c.note_cut.ensures.items it.0 it.1)
    c.note_cut.ensures.rest.0 c.note_power.ensures.items c.note_power.ensures.running c.note_power.ensures.kept c.note_power.ensures.powered

pub returns-then-is_running-clause-keeps : goal.returns-then-is_running-clause-keeps
returns-then-is_running-clause-keeps c =
    let it = some_open c.args.self.now.running (sym c.is_running.ensures ∙ c.if-is_running.true) in
    keeps_running c.args.self.now c.note_cut.new.self c.note_power.new.self it.0 c.args.more it.1 c.note_cut.ensures.over (c.note_cut.ensures.items it.0 it.1)
    c.note_cut.ensures.rest.0 c.note_power.ensures.items c.note_power.ensures.running c.note_power.ensures.kept c.note_power.ensures.powered c.requires.keeps

pub returns-then-self-clause-keeps : goal.returns-then-self-clause-keeps
returns-then-self-clause-keeps c =
    keeps_idle c.args.self.now c.note_power-then-self.new.self c.args.more
    (none_runs c.args.self.now.running (sym c.is_running.ensures ∙ c.if-is_running.false)) c.requires.keeps c.if-self.true
    c.note_power-then-self.ensures.items c.note_power-then-self.ensures.running c.note_power-then-self.ensures.kept c.note_power-then-self.ensures.powered

pub returns-then-self-clause-history : goal.returns-then-self-clause-history
returns-then-self-clause-history c =
    history_idle c.args.self.now c.note_power-then-self.new.self c.args.more
    (none_runs c.args.self.now.running (sym c.is_running.ensures ∙ c.if-is_running.false)) c.requires.keeps c.if-self.true
    c.note_power-then-self.ensures.items c.note_power-then-self.ensures.running c.note_power-then-self.ensures.kept c.note_power-then-self.ensures.powered
