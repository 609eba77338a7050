use Rattle.deck_gen.proofs.KindWords.{is_program}
use Rattle.deck_gen.proofs.programs.program_of.Goals as goal

pub as_program-requires : goal.as_program-requires
as_program-requires c = rw c.in_ok-words.ensures (is_program c.args.choice.now.kind c.args.choice.now.track c.args.choice.now.last)
