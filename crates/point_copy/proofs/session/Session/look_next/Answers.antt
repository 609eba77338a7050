use Rattle.std.proofs.Common.{ap, refl}
use Rattle.device_defs.specs.Peek as peeks
use Rattle.track_looks.specs.Looking.{look_seen}
use Rattle.point_copy.proofs.Calls.{look_gives_at}
use Rattle.point_copy.proofs.session.Session.look_next.Goals as goal

pub returns-in-Ok-Track-clause-given : goal.returns-in-Ok-Track-clause-given
returns-in-Ok-Track-clause-given g c = λ s old copy.
    let so = c.in-Ok-Track in
    let asked = c.requires in
    look_gives_at c.args.self.now _ s old c.args.t (look_seen so.field-0) (peeks.Track so.image) copy asked.track asked.next asked.home asked.none
    (λ may. so.ensures.happened s.run copy.stands may) (ap look_seen so.field-0-is) (so.ensures.own copy.own) refl refl c.pass.ensures

pub returns-in-Ok-Lost-clause-given : goal.returns-in-Ok-Lost-clause-given
returns-in-Ok-Lost-clause-given g c = λ s old copy.
    let so = c.in-Ok-Lost in
    let asked = c.requires in
    look_gives_at c.args.self.now _ s old c.args.t (look_seen so.field-0) peeks.Lost copy asked.track asked.next asked.home asked.none
    (λ may. so.ensures.happened s.run copy.stands may) (ap look_seen so.field-0-is) (so.ensures.own copy.own) refl refl c.pass-in-Ok-Lost.ensures

pub returns-in-Ok-Fault-clause-given : goal.returns-in-Ok-Fault-clause-given
returns-in-Ok-Fault-clause-given g c = λ s old copy.
    let so = c.in-Ok-Fault in
    let asked = c.requires in
    look_gives_at c.args.self.now _ s old c.args.t (look_seen so.field-0) (peeks.Fault so.side) copy asked.track asked.next asked.home asked.none
    (λ may. so.ensures.happened s.run copy.stands may) (ap look_seen so.field-0-is) (so.ensures.own copy.own) refl refl refl

pub returns-in-Ok-BadBytes-clause-given : goal.returns-in-Ok-BadBytes-clause-given
returns-in-Ok-BadBytes-clause-given g c = λ s old copy.
    let so = c.in-Ok-BadBytes in
    let asked = c.requires in
    look_gives_at c.args.self.now _ s old c.args.t (look_seen so.field-0) (peeks.BadBytes so.side) copy asked.track asked.next asked.home asked.none
    (λ may. so.ensures.happened s.run copy.stands may) (ap look_seen so.field-0-is) (so.ensures.own copy.own) refl refl refl
