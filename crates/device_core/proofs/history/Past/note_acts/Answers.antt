use Rattle.std.proofs.Common.{◌≡◌, ◌+◌, ◌-◌, ◌∙◌, drop, length, ap, subst, arith}
use Rattle.device_defs.specs.Device.{all_acted}
use Rattle.device_core.specs.Kept.{history_of, ActRoom}
use Rattle.device_core.proofs.Acting.{acts_on}
use Rattle.device_core.proofs.history.Past.note_acts.Goals as goal

pub loop-act-preserved : goal.loop-act-preserved
loop-act-preserved c =
    let acts = c.args.acts.now in
    let k = c.loop-act.act-index in
    record {
      history = ap (λ h. all_acted h (drop (k + 1) acts)) c.note_act.ensures.history
          ∙ acts_on (history_of c.loop-act.self) acts k c.act-item.result c.loop-act-test.true c.act-item.is ∙ c.loop-act.invariant.history;
      chain = c.note_act.ensures.chain ∙ c.loop-act.invariant.chain;
      ends = λ has. c.note_act.ensures.ends (c.loop-act.invariant.ends has);
      keeps = c.note_act.ensures.keeps;
      room = λ n has. let e : n + (length acts - k) ≡ n + (length acts - (k + 1)) + 1 = omega (arith, c.loop-act-test.true) in
          c.note_act.ensures.room (n + (length acts - (k + 1))) (subst (λ m. ActRoom m c.loop-act.self) e (c.loop-act.invariant.room n has));
    }
