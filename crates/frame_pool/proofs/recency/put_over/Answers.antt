use Rattle.std.proofs.Common.{◌∙◌, Bool, false, cond, ◌∷◌, ap, arith}
use Rattle.std.specs.Map.{remove_entry}
use Rattle.frame_pool.proofs.Order.{same, other_frame, unlisted, length_dropped}
use Rattle.frame_pool.proofs.recency.put_over.Goals as goal

pub returns-in-Ok-clause-entries : goal.returns-in-Ok-clause-entries
returns-in-Ok-clause-entries c =
    let es = c.args.frames.now.entries in
    let old = c.args.old in
    let gone = ap (λ d. d.entries) c.pop.ensures.entries in
    gone ∙ ap (remove_entry (same old)) c.in_ok-put_in.ensures.entries
    ∙ ap (λ (b : Bool). cond b es ((c.args.place, false) ∷ remove_entry (same old) es))
    (other_frame es c.args.place old (unlisted _ c.requires.new) c.requires.victim)

pub returns-in-Ok-clause-len : goal.returns-in-Ok-clause-len
returns-in-Ok-clause-len c =
    let es = c.args.frames.now.entries in
    let old = c.args.old in
    let gone = ap (λ d. d.entries) c.pop.ensures.entries in
    rw (
      gone,
      c.in_ok-put_in.ensures.entries,
      other_frame es c.args.place old
          (unlisted _ c.requires.new) c.requires.victim,
    ) (omega (arith, length_dropped es old c.requires.victim))
