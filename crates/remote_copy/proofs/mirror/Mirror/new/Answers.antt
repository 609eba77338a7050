use Rattle.std.proofs.Common.{refl, subst, sym}
use Rattle.remote_copy.specs.Mirroring.{MirrorsAs, mirror_begun}
use Rattle.remote_copy.specs.Sending.{SenderView}
use Rattle.remote_copy.proofs.Mirrors.{begun_mirrors}
use Rattle.remote_copy.proofs.mirror.Mirror.new.Goals as goal

pub invariant_of-result : goal.invariant_of-result
invariant_of-result g c = rw c.new.ensures (record { here = c.requires.here; fits = c.requires.fits; within = refl })

pub returns-clause-begun : goal.returns-clause-begun
returns-clause-begun g c = λ run m stands own there far.
    let v = g.L.Link.view c.args.link in
    subst (λ (s : SenderView). MirrorsAs c.args.sub s (mirror_begun run c.args.d m.device.store.firm v.calls)) (sym c.new.ensures)
    (begun_mirrors c.args.sub run c.args.d m v c.requires.here c.requires.home c.requires.fits stands own there far)
