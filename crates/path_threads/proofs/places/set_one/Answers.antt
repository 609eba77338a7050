use Rattle.std.proofs.Common.{refl}
use Rattle.path_workers.proofs.Ready.{ready_zeros}
use Rattle.path_threads.proofs.Setting.{promise_kept, promised_of}
use Rattle.path_threads.proofs.places.set_one.Goals as goal

pub set-requires-clause-keeps : goal.set-requires-clause-keeps
set-requires-clause-keeps g c = promise_kept c.args.device (record { made = c.of.result; most = c.args.most }) c.of.ensures c.requires.within c.requires.ready

pub set-requires-clause-unused : goal.set-requires-clause-unused
set-requires-clause-unused g c = ready_zeros c.args.device c.requires.ready

pub returns-clause-promised : goal.returns-clause-promised
returns-clause-promised g c = promised_of c.args.most c.args.device _ c.set.result c.of.ensures refl c.set.ensures.pledge
