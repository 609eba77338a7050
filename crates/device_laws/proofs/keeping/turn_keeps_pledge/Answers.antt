use Rattle.device_defs.specs.Contents.{contents}
use Rattle.device_laws.proofs.KeepLaws.{lent_kept, start_kept, command_kept, second_kept, background_kept, background_checks, loss_kept, loss_checks}
use Rattle.device_laws.proofs.keeping.turn_keeps_pledge.Goals as goal

pub returns : goal.returns
returns g c = record {
  starts = λ p v d u path k. start_kept p v d u path k;
  command = λ p v d e u z a k free checks r. command_kept contents _ p v d e u z k free checks a r;
  second = λ p v d e u z a k free checks r. second_kept contents _ p v d e u z k free checks a r;
  background = λ p v d e u z a k free r. background_kept contents _ p v d e u z k free (λ told. background_checks contents d r) a r;
  lose = λ p v d e u z a loss k free cache store sides r.
      loss_kept contents _ p v d e u z k free (λ told. loss_checks contents d loss r) loss a (cache, store, sides) r;
  lent = λ p v d e u z a loss k lent firm cache store sides r. lent_kept contents p v d e u z loss a k lent firm (cache, store, sides) r;
}
