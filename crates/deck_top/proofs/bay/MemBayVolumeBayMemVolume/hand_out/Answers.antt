use Rattle.deck_top.proofs.EmptyBays.{memory_begins}
use Rattle.deck_top.proofs.bay.MemBayVolumeBayMemVolume.hand_out.Goals as goal

pub returns-clause-begins : goal.returns-clause-begins
returns-clause-begins c = λ firsts hands.
    memory_begins c.args.self.now firsts c.args.line c.args.fail_reads.now c.args.fail_writes.now c.in_ok-volume.volume c.requires
    c.in_ok-volume.ensures.volume hands
