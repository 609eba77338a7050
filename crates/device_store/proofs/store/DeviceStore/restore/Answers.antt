use Rattle.std.proofs.Common.{◌∙◌, ◌*◌, Bool, List, ap, false, length, sym}
use Rattle.std.specs.Prelude.{is_some, replicate}
use Rattle.device_defs.specs.Store.{SideMarks, new_side}
use Rattle.device_store.specs.State.{state_of}
use Rattle.device_store.specs.State.{with_pair}
use Rattle.device_store.proofs.Halved.{still_firm}
use Rattle.device_store.proofs.Losing.{no_marks}
use Rattle.std.proofs.lemmas.List.{length-replicate}
use Rattle.device_store.proofs.Orders.{not_both, pair_is}
use Rattle.device_store.proofs.store.DeviceStore.restore.Goals as goal

pub restore-requires : goal.restore-requires
restore-requires g c = c.requires.size ∙ sym c.args.self.now.stale_of_each

pub invariant_of-self-clause-half_firm : goal.invariant_of-self-clause-half_firm
invariant_of-self-clause-half_firm g c =
    still_firm c.args.self.now.loose.loose _ c.args.self.now.half (λ q e. rw c.clear.ensures.loose (no_marks _ q)) c.args.self.now.half_firm

pub returns-clause-state : goal.returns-clause-state
returns-clause-state g c =
    let s = state_of c.args.self.now in
    let e = c.restore.ensures in
    let n = c.args.self.now.cylinders * 15 in
    ap (λ (l : List Bool). with_pair (record s { loose = l; acts = c.clear.new.self.acts }) c.restore.new.self)
    (c.clear.ensures.loose ∙ ap (λ m. replicate m false) c.args.self.now.loose_of_each)
    ∙ ap (λ a. with_pair (record s { loose = replicate n false; acts = a }) c.restore.new.self) c.clear.ensures.acts
    ∙ pair_is (record s { loose = replicate n false }) c.restore.new.self (ap is_some e.b) e.rest.1 e.rest.0
    (e.marks ∙ ap (λ m. new_side m false) c.args.self.now.stale_of_each) e.other

pub invariant_of-self-clause-stale_of_each : goal.invariant_of-self-clause-stale_of_each
invariant_of-self-clause-stale_of_each g c =
    ap (λ (m : SideMarks). length m.stale) c.restore.ensures.marks ∙ length-replicate (length c.args.self.now.pair.a.stale) false
    ∙ c.args.self.now.stale_of_each

pub invariant_of-self-clause-loose_modified : goal.invariant_of-self-clause-loose_modified
invariant_of-self-clause-loose_modified g c = λ here q is. absurd (not_both _ is (rw c.clear.ensures.loose (no_marks _ q)))
