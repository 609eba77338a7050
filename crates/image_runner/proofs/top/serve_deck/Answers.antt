use Rattle.deck_run.proofs.Ready.{read_devices}
use Rattle.image_runner.proofs.top.serve_deck.Goals as goal

pub open_volumes-requires : goal.open_volumes-requires
open_volumes-requires g c = read_devices c.requires.0 c.args.deck.now c.requires.1
