use Rattle.std.proofs.Common.{refl, sym, ◌∙◌}
use Rattle.ckd_chain.proofs.Turning.{ended_progress, ended_chain, onward_progress, onward_chain, edits_progress, edits_chain}
use Rattle.ckd_chain.proofs.chain.Chain.look.Goals as goal

pub returns-in-Ended-clause-progress : goal.returns-in-Ended-clause-progress
returns-in-Ended-clause-progress c =
    ended_progress _ _ c.self.view_is c.word_at-ccw.result.now (rw
    (c.word_at-ccw.ensures, c.ccws.ensures.value, c.index_of.ensures) refl) c.args.image.now c.args.look.now _
    c.in_ok-ending.ensures.stance _ _
    (sym c.in-Ended.is ∙ c.in_ok-ending.ensures.turned) c.end_here-end.ensures.end

pub returns-in-Ended-clause-chain : goal.returns-in-Ended-clause-chain
returns-in-Ended-clause-chain c =
    ended_chain _ _ c.self.view_is c.word_at-ccw.result.now (rw
    (c.word_at-ccw.ensures, c.ccws.ensures.value, c.index_of.ensures) refl) c.args.image.now c.args.look.now _
    c.in_ok-ending.ensures.stance _ _ _
    (sym c.in-Ended.is ∙ c.in_ok-ending.ensures.turned) c.end_here-end.ensures.next c.requires.looks

pub returns-in-Onward-clause-progress : goal.returns-in-Onward-clause-progress
returns-in-Onward-clause-progress c =
    onward_progress _ _ c.self.view_is c.word_at-ccw.result.now (rw
    (c.word_at-ccw.ensures, c.ccws.ensures.value, c.index_of.ensures) refl) c.args.image.now c.args.look.now _
    c.in_ok-ending.ensures.stance
    (sym c.in-Onward.is ∙ c.in_ok-ending.ensures.turned)

pub returns-in-Onward-clause-chain : goal.returns-in-Onward-clause-chain
returns-in-Onward-clause-chain c =
    onward_chain _ _ c.self.view_is c.word_at-ccw.result.now (rw
    (c.word_at-ccw.ensures, c.ccws.ensures.value, c.index_of.ensures) refl) c.args.image.now c.args.look.now _
    c.in_ok-ending.ensures.stance
    (sym c.in-Onward.is ∙ c.in_ok-ending.ensures.turned)

pub returns-clause-progress : goal.returns-clause-progress
returns-clause-progress c =
    edits_progress _ _ c.self.view_is c.word_at-ccw.result.now (rw
    (c.word_at-ccw.ensures, c.ccws.ensures.value, c.index_of.ensures) refl) c.args.image.now c.args.look.now _
    c.in_ok-ending.ensures.stance
    _ _ (sym c.in-Edits.is ∙ c.in_ok-ending.ensures.turned)

pub returns-clause-chain : goal.returns-clause-chain
returns-clause-chain c =
    edits_chain _ _ c.self.view_is c.word_at-ccw.result.now (rw (
      c.word_at-ccw.ensures,
      c.ccws.ensures.value,
      c.index_of.ensures,
    ) refl) c.args.image.now c.args.look.now _ c.in_ok-ending.ensures.stance
    _ _ (sym c.in-Edits.is ∙ c.in_ok-ending.ensures.turned)
