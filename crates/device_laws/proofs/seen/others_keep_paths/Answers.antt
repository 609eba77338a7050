use Rattle.device_laws.proofs.counted.Others.{background_keeps, lose_keeps, peek_keeps}
use Rattle.device_laws.proofs.seen.others_keep_paths.Goals as goal

pub returns : goal.returns
returns g c = record {
  background = λ d e u z a r. background_keeps _ _ d r;
  lose = λ d e loss u z a r. lose_keeps _ _ d loss r;
  peek = λ d e t u z a r. peek_keeps _ _ d t r;
}
