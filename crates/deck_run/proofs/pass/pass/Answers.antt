use Rattle.std.proofs.Common.{◌∙◌, List, length, ap, sym}
use Rattle.plain_defs.specs.declared.journal.Act.{Act}
use Rattle.device_core.specs.State.{device_of}
use Rattle.subsystem_defs.specs.Beside.{behind_first, has_power}
use Rattle.deck_run.specs.Counting.{more_calls}
use Rattle.deck_run.specs.Loosening.{all_loosed, is_quiet}
use Rattle.deck_run.specs.Seen.{acts_seen}
use Rattle.deck_run.proofs.Passed.{passed_so}
use Rattle.deck_run.proofs.pass.pass.Goals as goal

pub returns-clause-passed : goal.returns-clause-passed
returns-clause-passed g c = λ run all.
    passed_so c.args.sub.now c.do_event.new.sub c.args.e c.args.d run c.device-device.result.now c.device-behind.result.now
    (record {
      end = c.in_ok-end.end;
      running = c.running_of-running.result;
      items = length c.journal-items.result.now;
      acts = c.in_ok-acts.acts;
      calls = c.in_ok-calls.calls;
    })
    c.loose_count-loose.result c.device-device.ensures c.device-behind.ensures (c.in_ok-end.ensures.told run all) (c.in_ok-end.ensures.happened run all).1
    (c.in_ok-end.ensures.happened run all).0 c.running_of-running.ensures (ap (λ l. length l) c.journal-items.ensures)
    (c.in_ok-acts.ensures ∙ ap (λ (l : List Act). all_loosed c.args.d c.loose_count-loose.result (device_of c.device-behind.result.now).store.number l
    (has_power c.behind_first-came.result.now)) (c.acts_seen-noted.ensures
    ∙ ap (λ b. acts_seen b c.in_ok-end.end (device_of c.device-behind.result.now)) c.is_quiet-quiet.ensures)
    ∙ ap (λ l. all_loosed c.args.d c.loose_count-loose.result (device_of c.device-behind.result.now).store.number
    (acts_seen (is_quiet c.args.e) c.in_ok-end.end (device_of c.device-behind.result.now)) (has_power l))
    (c.behind_first-came.ensures ∙ ap (behind_first (length c.journal-items.result.now)) c.journal.ensures)) c.loose_count-loose.ensures
    (λ k is. c.in_ok-calls.ensures.reads k (c.calls_of.ensures.reads ∙ is ∙ ap (more_calls k) (sym c.calls_of-before.ensures.reads)))
    (λ k is. c.in_ok-calls.ensures.writes k (c.calls_of.ensures.writes ∙ is ∙ ap (more_calls k) (sym c.calls_of-before.ensures.writes)))
