use Rattle.std.proofs.Common.{◌≤◌, ◌*◌, ◌∙◌, sym, arith}
use Rattle.event_notes.proofs.Counted.{count_none}
use Rattle.device_defs.specs.Contents.{contents}
use Rattle.device_defs.specs.Owed.{waits}
use Rattle.device_store.specs.State.{state_of}
use Rattle.device_store.proofs.Telling.{none_beyond, same_count, count_up_to}
use Rattle.device_store.proofs.store.DeviceStore.waiting_count.Goals as goal

pub returns : goal.returns
returns g c =
    let few : c.args.self.now.cylinders * 15 ≤ 65535 = omega (arith, c.args.self.now.most) in
    c.count.ensures.value
    ∙ same_count 65535 _ (waits contents (state_of c.args.self.now)) c.waiting.ensures
    ∙ count_up_to 65535 (c.args.self.now.cylinders * 15) (waits contents (state_of c.args.self.now)) few
    (λ t le. none_beyond (state_of c.args.self.now) (c.args.self.now.cylinders * 15) t c.args.self.now.frame_of_each c.args.self.now.patch_of_each le)

pub returns-then-none_waits : goal.returns-then-none_waits
returns-then-none_waits g c =
    sym (count_none (c.args.self.now.cylinders * 15) (waits contents (state_of c.args.self.now)) (c.none_waits.ensures c.if-none_waits.true))
