use Rattle.std.proofs.Common.{◌∙◌, ◌<◌, ◌≤◌, sym, ap, arith}
use Rattle.std.specs.Prelude.{is_some}
use Rattle.track_table.specs.Tracks.{least}
use Rattle.event_notes.specs.Loose.{is_loose_in}
use Rattle.device_store.proofs.Behind.{looked_loose, none_before, none_behind, none_loose, none_with, some_behind}
use Rattle.device_store.proofs.store.DeviceStore.another_loose.Goals as goal

pub returns-then-not-any : goal.returns-then-not-any
returns-then-not-any g c = sym (none_loose c.args.self.now.loose.loose c.args.first c.args.t (sym c.any.ensures ∙ c.if-not-any.true))

pub loop-q-init : goal.loop-q-init
loop-q-init g c = none_before c.args.self.now.loose.loose c.get-from.result

pub loop-q-preserved : goal.loop-q-preserved
loop-q-preserved g c =
    let loose = c.args.self.now.loose.loose in
    none_with loose c.get-from.result c.loop-q.q c.loop-q.invariant (ap (is_loose_in loose) (sym c.track.ensures) ∙ sym c.has.ensures ∙ c.if-has.false)

pub returns-then-has : goal.returns-then-has
returns-then-has g c =
    let loose = c.args.self.now.loose.loose in
    let le : c.args.first ≤ c.loop-q.q = omega (arith, c.loop-q.auto.q, c.get-from.ensures.value) in
    let lt : c.loop-q.q < c.args.t = omega (arith, c.loop-q-test.true, c.get-until.ensures.value) in
    sym (some_behind loose c.args.first c.args.t c.loop-q.q le lt (ap (is_loose_in loose) (sym c.track.ensures) ∙ sym c.has.ensures ∙ c.if-has.true))

pub returns : goal.returns
returns g c =
    let loose = c.args.self.now.loose.loose in
    let le : c.args.t ≤ c.loop-q.q = omega (arith, c.loop-q-test.false, c.get-until.ensures.value) in
    sym (ap (λ n. is_some (least c.args.t (looked_loose loose n))) (sym c.get-from.ensures.value) ∙ none_behind loose c.get-from.result c.args.t
    c.loop-q.q le c.loop-q.invariant)
