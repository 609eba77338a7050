use Rattle.std.proofs.Common.{map, Ok, Err, sym, subst}
use Rattle.subsystem_defs.specs.Lines.{asked_by}
use Rattle.point_copy.specs.Copying.{plain_images}
use Rattle.point_copy.specs.CopyRun.{copied, copying_from}
use Rattle.copy_tool.specs.Copying.{volume_of, Gives}
use Rattle.copy_tool.specs.Standing.{IsMade}
use Rattle.copy_tool.proofs.Made.{is_made, made_found, stopped_found}
use Rattle.copy_tool.proofs.deck.copy_begun.Goals as goal

pub of-requires : goal.of-requires
of-requires c =
    let run = c.requires.begun.0 in
    let d = c.requires.begun.1 in
    let b = c.requires.begun.2 in
    let so = c.in-Ok.ensures (copying_from run d) (record { old = plain_images b.begun.mounted; copy = b.begun.copy; images = c.new.ensures.items }) in
    (is_made c.args.session run d c.args.geometry c.args.cylinders b (map asked_by c.args.lines.now) so.0 c.copy_all.new.copying.images.items
    c.requires.least c.requires.most so.1 so.2.images).whole

pub returns-in-Ok-clause-found : goal.returns-in-Ok-clause-found
returns-in-Ok-clause-found c = λ run d b.
    let so = c.in-Ok.ensures (copying_from run d) (record { old = plain_images b.begun.mounted; copy = b.begun.copy; images = c.new.ensures.items }) in
    let lines = map asked_by c.args.lines.now in
    let made = is_made c.args.session run d c.args.geometry c.args.cylinders b lines so.0 c.copy_all.new.copying.images.items
    c.requires.least c.requires.most so.1 so.2.images in
    subst (λ v. Gives (Ok v) (volume_of b.begun.mounted (copied run d lines))) (sym c.of.ensures)
    (made_found b.begun.mounted _ (copied run d lines) so.0 made so.1 so.2.images)

pub returns-in-Ok-clause-made : goal.returns-in-Ok-clause-made
returns-in-Ok-clause-made c = λ run d b.
    let so = c.in-Ok.ensures (copying_from run d) (record { old = plain_images b.begun.mounted; copy = b.begun.copy; images = c.new.ensures.items }) in
    subst (IsMade b.begun.mounted) (sym c.of.ensures)
    (is_made c.args.session run d c.args.geometry c.args.cylinders b (map asked_by c.args.lines.now) so.0 c.copy_all.new.copying.images.items
    c.requires.least c.requires.most so.1 so.2.images)

pub returns-in-Err-clause-found : goal.returns-in-Err-clause-found
returns-in-Err-clause-found c = λ run d b.
    let lines = map asked_by c.args.lines.now in
    let so = c.in-Err.ensures (copying_from run d) (record { old = plain_images b.begun.mounted; copy = b.begun.copy; images = c.new.ensures.items }) in
    subst (λ w. Gives (Err w) (volume_of b.begun.mounted (copied run d lines))) (sym c.stopped.ensures)
    (stopped_found b.begun.mounted (copied run d lines) c.in-Err.why so)
