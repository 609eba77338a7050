use Rattle.std.proofs.Common.{◌∙◌, Some, ap}
use Rattle.device_defs.specs.Contents.{contents}
use Rattle.device_defs.specs.Events.{second_told}
use Rattle.device_defs.specs.Outcomes.{Turn}
use Rattle.device_core.specs.State.{last_end_of}
use Rattle.device_core.proofs.Halves.{told_second}
use Rattle.device_core.proofs.Parts.{some_chain, written_state}
use Rattle.device_core.proofs.Pasts.{keeps_same}
use Rattle.device_core.proofs.history.Past.end_write.Goals as goal

pub turned-stepped-requires-clause-keeps : goal.turned-stepped-requires-clause-keeps
turned-stepped-requires-clause-keeps c = keeps_same c.args.self.now c.end_in-came.new.running c.end_in-came.ensures.open c.requires.keeps

pub returns-clause-state : goal.returns-clause-state
returns-clause-state c =
    λ s plans o chain is at. let it = some_chain c.end_in-came.new.running c.end_in-came.ensures.running in
    written_state s plans c.args.paths.now c.turned-stepped.new.paths c.args.self.now c.end_in-came.new.running c.turned-stepped.new.self o it.0
    c.end_in-came.result _ c.end_in-came.ensures.open (c.end_in-came.ensures.turn chain it.0 at it.1)
    (c.turned-stepped.ensures.state s plans o it.0 (c.end_in-came.ensures.open ∙ is) it.1)

pub returns-clause-answer : goal.returns-clause-answer
returns-clause-answer c =
    λ chain at. let it = some_chain c.end_in-came.new.running c.end_in-came.ensures.running in
    told_second (last_end_of c.turned-stepped.new.self) c.turned-stepped.result c.end_in-came.result c.args.t c.turned-stepped.ensures.answer
    c.turned-stepped.ensures.half (c.end_in-came.ensures.half ∙ c.requires.whole)
    ∙ ap (λ (x : Turn). Some (second_told contents c.args.t x.came)) (c.end_in-came.ensures.turn chain it.0 at it.1)

pub returns-clause-word : goal.returns-clause-word
returns-clause-word c = λ n is. c.turned-stepped.ensures.word n (c.end_in-came.ensures.left n is)

pub returns-clause-room : goal.returns-clause-room
returns-clause-room c = λ n r. c.turned-stepped.ensures.room n (r.0, c.end_in-came.ensures.acts n r.1)
