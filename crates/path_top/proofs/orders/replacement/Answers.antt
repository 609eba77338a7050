use Rattle.std.proofs.Common.{◌*◌, ◌∙◌, ap, subst, sym, ℕ}
use Rattle.std.specs.Prelude.{IfSome}
use Rattle.device_outside.specs.Both.{SideIs}
use Rattle.device_outside.specs.Disk.{empty_contents}
use Rattle.path_workers.specs.Spare.{IsSpare}
use Rattle.path_workers.proofs.Spares.{new_spare}
use Rattle.path_top.specs.Making.{IsEmpty}
use Rattle.subsystem_defs.specs.Subsystem.{unfailing}
use Rattle.path_top.proofs.orders.replacement.Goals as goal

pub returns-clause-spare : goal.returns-clause-spare
returns-clause-spare g c =
    subst (λ o. IfSome o (λ device. (volume : _) → IsEmpty g.V.Volume.view c.cylinders-cylinders.result volume → IsSpare device volume)) (sym c.device.ensures)
    (λ volume made. new_spare c.device.result.now volume
    (subst (λ (n : ℕ). SideIs (g.V.Volume.view volume) (empty_contents (n * 15)) unfailing) c.cylinders-cylinders.ensures made.told)
    (made.tracks ∙ ap (λ (n : ℕ). n * 15) c.cylinders-cylinders.ensures))
