use Rattle.device_laws.proofs.counted.EventCounts.{
  command_moved,
  second_moved,
  background_moved,
  lose_moved,
  power_moved,
  reset_moved,
  peek_moved,
  hit_reads_none,
}
use Rattle.device_laws.proofs.seen.events_move_by_table.Goals as goal

pub returns : goal.returns
returns g c = record {
  hit = λ d e u z a r. hit_reads_none _ _ d r;
  command = λ d e u z a r. command_moved _ _ d r;
  second = λ d e u z a r. second_moved _ _ d r;
  background = λ d e u z a r. background_moved _ _ d r;
  lose = λ d e loss u z a r. lose_moved _ _ d loss r;
  power = λ d e u z a r. power_moved _ _ d r;
  reset = λ d e path u z a r. reset_moved _ _ d path r;
  peek = λ d e t u z a r. peek_moved _ _ d t r;
}
