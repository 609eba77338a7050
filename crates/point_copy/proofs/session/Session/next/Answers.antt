use Rattle.std.proofs.Common.{◌≡◌, ◌∙◌, None, ap, arith, refl, sym}
use Rattle.std.proofs.lemmas.Grind.{common_steps}
use Rattle.track_table.specs.Table.{entry_at}
use Rattle.point_copy.specs.Copying.{passed}
use Rattle.point_copy.proofs.Calls.{finished_gives, gone_gives, kept_gives, looked_next, same_copy, taken_copy}
use Rattle.point_copy.proofs.session.Session.next.Goals as goal

pub returns-then-tracks-due-clause-given : goal.returns-then-tracks-due-clause-given
returns-then-tracks-due-clause-given g c = λ s old copy.
    let so = finished_gives c.args.self.now s old c.device.result.now copy c.device.ensures
    (omega (arith, c.if-tracks-due.true, c.cylinders-tracks.ensures, c.next-due.ensures)) in
    record { given = so.given; copy = same_copy c.args.self.now _ _ old so.copy refl refl refl refl; track = tt }

pub returns-in-Some-clause-given : goal.returns-in-Some-clause-given
returns-in-Some-clause-given g c = λ s old copy.
    let so = gone_gives c.args.self.now s old c.device.result.now copy c.device.ensures
    (omega (arith, c.if-tracks-due.false, c.cylinders-tracks.ensures, c.next-due.ensures)) c.in-Some.of c.in-Some.is in
    record { given = cc (so.given); copy = same_copy c.args.self.now _ _ old so.copy refl refl refl refl; track = tt }

pub returns-in-Some-take-clause-given : goal.returns-in-Some-take-clause-given
returns-in-Some-take-clause-given g c = λ s old copy.
    let on : c.unwrap-t.result ≡ c.next-due.result = grind (arith, common_steps) in
    kept_gives c.args.self.now s old c.device.result.now copy c.device.ensures
    (omega (arith, c.if-tracks-due.false, c.cylinders-tracks.ensures, c.next-due.ensures)) _ c.unwrap-t.result c.in-Some-take.image
    (on ∙ c.next-due.ensures) c.in_default.is (sym c.take.ensures.image ∙ c.in-Some-take.is) refl refl refl (c.pass.ensures ∙ ap passed c.take.ensures.rest)

pub returns-clause-given : goal.returns-clause-given
returns-clause-given g c = λ s old copy.
    let on : c.unwrap-t.result ≡ c.next-due.result = grind (arith, common_steps) in
    let none : entry_at c.args.self.now.kept.images c.unwrap-t.result ≡ None = sym c.take.ensures.image ∙ c.in_default-take.is in
    looked_next c.args.self.now c.look_next.new.self s old c.device.result.now c.unwrap-t.result c.look_next.result copy c.device.ensures
    (omega (arith, c.if-tracks-due.false, c.cylinders-tracks.ensures, c.next-due.ensures)) (on ∙ c.next-due.ensures) c.in_default.is none
    (c.look_next.ensures.given s old (taken_copy c.args.self.now _ s old c.unwrap-t.result copy refl refl refl c.take.ensures.rest none))
