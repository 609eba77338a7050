use Rattle.std.proofs.Common.{◌∙◌, ap}
use Rattle.frame_pool.proofs.Order.{put_new, unlisted}
use Rattle.frame_pool.proofs.recency.put_in.Goals as goal

pub returns-clause-entries : goal.returns-clause-entries
returns-clause-entries c =
    ap (λ d. d.entries) c.in_ok-put.ensures.entries ∙ put_new c.args.frames.now c.args.place (unlisted _ c.requires.new) c.requires.room
