use Rattle.std.proofs.Common.{Err, Ok, Option, ◌*◌, ◌∙◌, ap, subst, sym}
use Rattle.std.specs.Prelude.{IfSome}
use Rattle.device_core.specs.declared.device.Device.{Device}
use Rattle.device_store.specs.Looks.{peeked_by}
use Rattle.device_store.specs.State.{state_of}
use Rattle.remote_copy.specs.declared.state.MirrorState.{MirrorState}
use Rattle.remote_copy.specs.Copies.{AnswersBy, gets_suspended}
use Rattle.remote_copy.proofs.Looked.{copy_faulted, copy_from, copy_lacked, copy_put, may_from}
use Rattle.remote_copy.proofs.mirror.Mirror.copy_track.Goals as goal

pub returns-in-Err-clause-looks : goal.returns-in-Err-clause-looks
returns-in-Err-clause-looks g c =
    let old = c.args.self.now in
    let new = c.look.new.self in
    copy_from c.args.t old.sub old.sender new.sub new.sender {r = Err c.in-Err.field-0} _ old.here new.here c.in-Err.ensures.found
    (λ x y at l. copy_lacked c.args.t old.sub old.sender new.sub new.sender c.in-Err.field-0 x y l)

pub returns-then-gets_suspended-clause-looks : goal.returns-then-gets_suspended-clause-looks
returns-then-gets_suspended-clause-looks g c =
    let old = c.args.self.now in
    let new = c.look.new.self in
    let failed = ap (λ (m : MirrorState). gets_suspended m new.sender.state) (sym c.state-before.ensures)
    ∙ ap (gets_suspended c.state-before.result) (sym c.state.ensures)
    ∙ sym c.gets_suspended.ensures
    ∙ c.if-gets_suspended.true in
    copy_from c.args.t old.sub old.sender new.sub new.sender {r = Ok c.in-Ok.peeked} _ old.here new.here c.in-Ok.ensures.found
    (λ x y at l. copy_faulted c.args.t old.sub old.sender new.sub new.sender c.in-Ok.peeked x y failed l)

pub put_next-requires : goal.put_next-requires
put_next-requires g c =
    let old = c.args.self.now in
    let new = c.look.new.self in
    record { found = may_from c.args.t old.sub old.sender new.sub new.sender c.in-Ok.peeked old.here new.here c.in-Ok.ensures.found }

pub returns-else-gets_suspended-clause-looks : goal.returns-else-gets_suspended-clause-looks
returns-else-gets_suspended-clause-looks g c =
    let old = c.args.self.now in
    let new = c.look.new.self in
    let last = c.put_next.new.self in
    let fine = ap (λ (m : MirrorState). gets_suspended m new.sender.state) (sym c.state-before.ensures)
    ∙ ap (gets_suspended c.state-before.result) (sym c.state.ensures)
    ∙ sym c.gets_suspended.ensures
    ∙ c.if-gets_suspended.false in
    copy_from c.args.t old.sub old.sender new.sub new.sender {r = Ok c.in-Ok.peeked} _ old.here new.here c.in-Ok.ensures.found
    (λ x y at l. copy_put c.args.t old.sub old.sender new.sub new.sender c.in-Ok.peeked x y c.put_next.result last.sub last.sender fine c.put_next.ensures.sub l
    (subst (λ (o : Option (Device _ _)). IfSome o (λ u. AnswersBy (u.store.cylinders * 15) c.args.t (peeked_by (state_of u.store) c.args.t c.in-Ok.peeked)
    new.sender c.put_next.result last.sender)) at c.put_next.ensures.answers))
