use Rattle.std.proofs.Common.{◌+◌, ◌-◌, ◌++◌, arith, drop, length, subst, take}
use Rattle.report_audit.specs.Progress.{GoesOn, Halfway}
use Rattle.report_audit.proofs.Steps.{piece_goes}
use Rattle.report_audit.proofs.pieces.PieceAudit.take_front.Goals as goal

pub returns-in-Some-clause-follows : goal.returns-in-Some-clause-follows
returns-in-Some-clause-follows c = λ rest.
    piece_goes c.args.self.now.audit c.take_data.new.self.audit c.args.self.now.line c.take_data.new.self.line c.args.piece.now rest c.in-Some.end
    c.in-Some.ensures.stands.0 c.in-Some.ensures.stands.1 c.in-Some.ensures.follows

pub returns-clause-follows : goal.returns-clause-follows
returns-clause-follows c = λ rest.
    let next = c.place_of-end.result + 1 in
    let left = take (length c.args.piece.now - next) (drop next c.args.piece.now) in
    subst (λ (p : Halfway). GoesOn p.audit (p.line ++ (c.args.piece.now ++ rest)) c.end_line.new.self.audit (c.end_line.new.self.line ++ (left ++ rest)))
    (c.take_data.ensures.same c.in_default.is)
    (piece_goes c.take_data.new.self.audit c.end_line.new.self.audit c.take_data.new.self.line c.end_line.new.self.line c.args.piece.now rest
    c.place_of-end.result (omega arith) (c.place_of-end.ensures.stands (omega arith)) c.in_ok-end_line.ensures.follows)
