use Rattle.std.proofs.Common.{Err, subst}
use Rattle.volume_file.specs.File.{ImageVolume}
use Rattle.copy_tool.specs.Copying.{Gives}
use Rattle.copy_tool.specs.Making.{made_for}
use Rattle.copy_tool.proofs.Telling.{file_told, refusal_told}
use Rattle.copy_tool.proofs.top.serve_deck.Goals as goal

pub returns-in-Ok-clause-told : goal.returns-in-Ok-clause-told
returns-in-Ok-clause-told g c =
    file_told c.args.task c.args.deck.now _ _ c.write.result c.in-Ok.volume c.in-Ok.ensures.found c.in-Ok.ensures.plain c.write.ensures.told

pub returns-in-Err-Ended-clause-told : goal.returns-in-Err-Ended-clause-told
returns-in-Err-Ended-clause-told g c =
    refusal_told c.args.task c.args.deck.now _ _ c.refuse.result c.in-Err-Ended.why
    (subst (λ w. Gives {A = ImageVolume} (Err w) (made_for c.args.deck.now c.args.task)) c.in-Err-Ended.field-0-is c.in-Err-Ended.ensures.found)
    c.refuse.ensures.told
