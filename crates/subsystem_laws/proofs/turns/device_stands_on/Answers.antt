use Rattle.subsystem_laws.proofs.turning.Beside.{background_beside, command_beside, loss_beside, second_beside, start_beside}
use Rattle.subsystem_laws.proofs.turning.Standing.{start_stands, command_stands, second_stands, background_stands, loss_stands}
use Rattle.subsystem_laws.proofs.turns.device_stands_on.Goals as goal

pub returns : goal.returns
returns c = record {
  beside = λ first. record {
    starts = λ d u path s least most none. start_beside d u path s least most none;
    command = λ d e u z a o s none runs chains r. (command_beside s (λ k m r l h. h) a o none runs chains r).beside;
    second = λ d e u z a h s half r. (second_beside s (λ k m r l h. h) a h half r).beside;
    background = λ d e u z a s none r. (background_beside s (λ k m r l h. h) a none r).beside;
    lose = λ d e u z a loss s r. (loss_beside s (λ k m r l h. h) loss a r).beside;
  };
  stands = λ first. record {
    starts = λ d u path s least most none. start_stands d u path s least most none;
    command = λ d e u z a o s none runs chains r. command_stands s (λ k m r l h. h) a o none runs chains r;
    second = λ d e u z a h s half r. second_stands s (λ k m r l h. h) a h half r;
    background = λ d e u z a s none r. background_stands s (λ k m r l h. h) a none r;
    lose = λ d e u z a loss s r. loss_stands s (λ k m r l h. h) loss a r;
  };
}
