use Rattle.std.proofs.Common.{◌≡◌, ◌∙◌, true, false, refl, sym, subst}
use Rattle.std.specs.Prelude.{is_some}
use Rattle.track_table.specs.Tracks.{least}
use Rattle.device_defs.specs.Store.{has_loose, is_loose}
use Rattle.device_store.specs.State.{state_of}
use Rattle.device_store.proofs.Losing.{none_marked, no_marks}
use Rattle.device_store.proofs.Loosed.{some_lost, none_lost}
use Rattle.device_store.proofs.Halved.{still_firm}
use Rattle.device_store.proofs.Orders.{not_both}
use Rattle.device_store.proofs.store.DeviceStore.lose_loose.Goals as goal

pub returns-then-any-clause-state : goal.returns-then-any-clause-state
returns-then-any-clause-state g c =
    let has : has_loose (state_of c.args.self.now) ≡ true =
    subst (λ n. is_some (least n (is_loose (state_of c.args.self.now))) ≡ true) c.args.self.now.loose_of_each (sym c.any.ensures ∙ c.if-any.true) in
    rw (some_lost (state_of c.args.self.now) has, c.lose.ensures.loose, c.lose.ensures.acts, c.next_number-self.ensures, c.args.self.now.loose_of_each) refl

pub returns-else-any-clause-state : goal.returns-else-any-clause-state
returns-else-any-clause-state g c =
    let has : has_loose (state_of c.args.self.now) ≡ false =
    subst (λ n. is_some (least n (is_loose (state_of c.args.self.now))) ≡ false) c.args.self.now.loose_of_each (sym c.any.ensures ∙ c.if-any.false) in
    rw (none_lost (state_of c.args.self.now) has) refl

pub returns-then-any-clause-firm : goal.returns-then-any-clause-firm
returns-then-any-clause-firm g c = λ t. rw c.lose.ensures.loose (no_marks _ t)

pub returns-else-any-clause-firm : goal.returns-else-any-clause-firm
returns-else-any-clause-firm g c = λ t. none_marked c.args.self.now.loose.loose (sym c.any.ensures ∙ c.if-any.false) t

pub invariant_of-self-clause-half_firm : goal.invariant_of-self-clause-half_firm
invariant_of-self-clause-half_firm g c =
    still_firm c.args.self.now.loose.loose _ c.args.self.now.half (λ q e. rw c.lose.ensures.loose (no_marks _ q)) c.args.self.now.half_firm

pub invariant_of-self-clause-loose_modified : goal.invariant_of-self-clause-loose_modified
invariant_of-self-clause-loose_modified g c = λ here q is. absurd (not_both _ is (rw c.lose.ensures.loose (no_marks _ q)))
