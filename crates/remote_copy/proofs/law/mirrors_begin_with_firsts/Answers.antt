use Rattle.remote_copy.proofs.Mirrored.{level_so, mirrored_so}
use Rattle.remote_copy.proofs.law.mirrors_begin_with_firsts.Goals as goal

pub returns : goal.returns
returns c = record {
  mirrored = λ firsts whole text deck read d first at calls z goes. mirrored_so firsts whole text deck read d first at calls z goes;
  level = λ firsts deck d first z is m there sent far level. level_so firsts deck d first z is m there sent far level;
}
