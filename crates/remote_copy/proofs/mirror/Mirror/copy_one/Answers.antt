use Rattle.remote_copy.proofs.CopyRuns.{all_answer, all_fault, all_follow, all_mirrors}
use Rattle.remote_copy.proofs.mirror.Mirror.copy_one.Goals as goal

pub returns-clause-follows : goal.returns-clause-follows
returns-clause-follows g c =
    let old = c.args.self.now in
    let new = c.copy_next.new.self in
    all_follow old.sub new.sub old.sender new.sender old.here c.copy_next.result c.copy_next.ensures.copied

pub returns-clause-fault : goal.returns-clause-fault
returns-clause-fault g c =
    let old = c.args.self.now in
    let new = c.copy_next.new.self in
    all_fault old.sub new.sub old.sender new.sender old.here c.copy_next.result c.copy_next.ensures.copied

pub returns-clause-mirrors : goal.returns-clause-mirrors
returns-clause-mirrors g c = λ s is.
    let old = c.args.self.now in
    let new = c.copy_next.new.self in
    all_mirrors old.sub new.sub old.sender new.sender old.here c.copy_next.result c.copy_next.ensures.copied s is old.fits old.within

pub returns-clause-answer : goal.returns-clause-answer
returns-clause-answer g c = λ s is.
    let old = c.args.self.now in
    let new = c.copy_next.new.self in
    all_answer old.sub new.sub old.sender new.sender old.here c.copy_next.result c.copy_next.ensures.copied s is old.fits old.within
