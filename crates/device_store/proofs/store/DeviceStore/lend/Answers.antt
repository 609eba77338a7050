use Rattle.std.proofs.Common.{◌∙◌, ◌*◌, ℕ, Bool, List, [], Some, ap, false, length}
use Rattle.std.specs.Prelude.{is_some, replicate}
use Rattle.device_defs.specs.Contents.{contents}
use Rattle.device_defs.specs.Losses.{over}
use Rattle.device_defs.specs.Orders.{given_up}
use Rattle.device_defs.specs.Store.{SideMarks, no_side}
use Rattle.device_store.specs.Looks.{StoreOf}
use Rattle.device_store.specs.State.{state_of}
use Rattle.device_store.proofs.Lending.{all_aside, all_size, lent_with}
use Rattle.std.proofs.lemmas.List.{length-replicate}
use Rattle.device_store.proofs.Orders.{not_both, pair_is}
use Rattle.device_store.proofs.store.DeviceStore.lend.Goals as goal

pub returns-clause-state : goal.returns-clause-state
returns-clause-state g c =
    let s = state_of c.args.self.now in
    let n = c.args.self.now.cylinders * 15 in
    let e = c.lend-volume.ensures in
    let x = c.give_up_all.new.self in
    let given = over n (given_up contents) s in
    ap (λ (l : List Bool). record (state_of x) { lost = l; queue = c.clear-2.new.self })
    (c.clear.ensures ∙ ap (λ m. replicate m false) (x.lost_of_each ∙ ap (λ m. m * 15) c.give_up_all.ensures.leaves.cylinders))
    ∙ ap (λ (q : List ℕ). record (state_of x) { lost = replicate n false; queue = q }) c.clear-2.ensures
    ∙ ap (λ (z : StoreOf). record z { lost = replicate n false; queue = [] })
    (c.give_up_all.ensures.state
    ∙ ap (over n (given_up contents)) (pair_is s c.lend-volume.new.self (ap is_some e.b) e.rest.1 e.rest.0
    (e.marks ∙ ap no_side c.args.self.now.stale_of_each) e.other)
    ∙ all_aside contents (Some c.args.to) (no_side n) n s)
    ∙ lent_with given n c.args.to (ap (λ m. m * 15) (all_size contents n s))

pub invariant_of-self-clause-stale_of_each : goal.invariant_of-self-clause-stale_of_each
invariant_of-self-clause-stale_of_each g c =
    ap (λ (m : SideMarks). length m.stale) c.lend-volume.ensures.marks ∙ length-replicate (length c.args.self.now.pair.a.stale) false
    ∙ c.args.self.now.stale_of_each

pub invariant_of-self-clause-loose_modified : goal.invariant_of-self-clause-loose_modified
invariant_of-self-clause-loose_modified g c = λ here. absurd (not_both _ (ap is_some c.lend-volume.ensures.rest.1) here)

pub give_up_all-requires : goal.give_up_all-requires
give_up_all-requires g c = ap is_some c.lend-volume.ensures.rest.1
