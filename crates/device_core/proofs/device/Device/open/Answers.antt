use Rattle.std.proofs.Common.{◌≡◌, ◌*◌, false, replicate, ap, ◌∙◌, arith}
use Rattle.event_notes.specs.Loose.{is_loose_in, loose_count}
use Rattle.event_notes.proofs.Counted.{count_none}
use Rattle.track_table.proofs.Places.{empty_places}
use Rattle.device_store.specs.State.{half_of, state_of}
use Rattle.device_core.proofs.Halves.{none_counts, none_mapped}
use Rattle.device_core.proofs.Promising.{empty_holds, opened_is, opened_promised}
use Rattle.device_core.proofs.device.Device.open.Goals as goal

pub invariant_of-result : goal.invariant_of-result
invariant_of-result g c =
    let n = c.args.cylinders * 15 in
    let none : loose_count c.in-Ok.store.loose.loose ≡ 0 =
    ap loose_count (ap (λ s. s.loose) c.in-Ok.ensures.state) ∙ count_none 65535 (is_loose_in (replicate n false)) (λ t. empty_places n t false) in
    rw c.new-past.ensures.over (record {
      at_word = tt;
      half_waits =
          λ one. absurd (none_counts c.in-Ok.store.half (none_mapped half_of c.in-Ok.store.half (ap (λ s. s.half) c.in-Ok.ensures.state)) one);
      keeps =
          rw c.new-past.ensures.over at c.new-past.ensures.keeps;
      act_room = (rw none (omega arith), tt);
    })

pub returns-in-Ok-clause-promised : goal.returns-in-Ok-clause-promised
returns-in-Ok-clause-promised g c first holds =
    opened_promised _ c.args.number c.args.geometry c.args.cylinders c.args.plans c.args.volume
    (opened_is (state_of c.in-Ok.store) c.new-paths.result c.args.plans c.new-past.result c.args.number c.args.geometry c.args.cylinders c.in-Ok.ensures.state
    c.new-paths.ensures c.new-past.ensures.history c.new-past.ensures.over)
    c.in-Ok.ensures.volume.0 c.in-Ok.ensures.volume.1 c.requires.some c.plans_give.ensures first holds

pub returns-in-Ok-clause-empty : goal.returns-in-Ok-clause-empty
returns-in-Ok-clause-empty g c tells = empty_holds c.args.geometry c.args.cylinders _ c.requires.most tells

pub returns-in-Err-clause-empty : goal.returns-in-Err-clause-empty
returns-in-Err-clause-empty g c tells = empty_holds c.args.geometry c.args.cylinders _ c.requires.most tells
