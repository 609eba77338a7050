use Rattle.std.proofs.Common.{◌≡◌, ◌∙◌, sym, true, false, arith}
use Rattle.frame_pool.proofs.Wants.{wants_listed, wants_down, wants_room, wants_none, wants_over}
use Rattle.frame_pool.proofs.pool.PoolPort.want_frame.Goals as goal

pub returns-then-is_listed : goal.returns-then-is_listed
returns-then-is_listed c =
    let p = c.new-place.ensures in
    wants_listed _ _ _ _ (rw p at (sym c.is_listed.ensures ∙ c.if-is_listed.true)) (rw p at c.bring_front.ensures)

pub returns-then-not-cache_up : goal.returns-then-not-cache_up
returns-then-not-cache_up c =
    let p = c.new-place.ensures in
    let down : c.args.self.now.pool.cache_up ≡ false = (let e = c.cache_up.ensures in let f = c.if-not-cache_up.true in grind arith) in
    wants_down _ _ _ _ (rw p at (sym c.is_listed.ensures ∙ c.if-is_listed.false)) down c.deny.ensures

pub returns-then-has_room : goal.returns-then-has_room
returns-then-has_room c =
    let p = c.new-place.ensures in
    let up : c.args.self.now.pool.cache_up ≡ true = (let e = c.cache_up.ensures in let f = c.if-not-cache_up.false in grind arith) in
    wants_room _ _ _ _ (rw p at (sym c.is_listed.ensures ∙ c.if-is_listed.false)) up
    (sym c.has_room.ensures ∙ c.if-has_room.true) (rw p at c.in_ok-put_in.ensures.done)

pub returns-in_default : goal.returns-in_default
returns-in_default c =
    let p = c.new-place.ensures in
    let up : c.args.self.now.pool.cache_up ≡ true = (let e = c.cache_up.ensures in let f = c.if-not-cache_up.false in grind arith) in
    wants_none _ _ _ _ (rw p at (sym c.is_listed.ensures ∙ c.if-is_listed.false)) up
    (sym c.has_room.ensures ∙ c.if-has_room.false) (sym c.victim.ensures ∙ c.in_default.is)
    c.deny-in_default.ensures

pub returns : goal.returns
returns c =
    let p = c.new-place.ensures in
    let up : c.args.self.now.pool.cache_up ≡ true = (let e = c.cache_up.ensures in let f = c.if-not-cache_up.false in grind arith) in
    wants_over _ _ _ _ c.in-Some.old (rw p at (sym c.is_listed.ensures ∙ c.if-is_listed.false)) up
    (sym c.has_room.ensures ∙ c.if-has_room.false) (sym c.victim.ensures ∙ c.in-Some.is)
    (rw p at c.in_ok-put_over.ensures.done)
