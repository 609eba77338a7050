-- A START that is accepted, on a device that is replayed.
use Rattle.std.proofs.Common.{[], ◌≡◌, ◌≤◌, ◌+◌, ℕ, List, None, refl, ap, ◌∙◌}
use Rattle.ckd_types.specs.declared.channel.Ccw.{Ccw}
use Rattle.ckd_chain.specs.State.{ChainState}
use Rattle.ckd_chain.specs.Steps.{begun_chain}
use Rattle.plain_defs.specs.History.{started}
use Rattle.plain_defs.specs.Journal.{program_of, replay}
use Rattle.plain_defs.specs.PlainState.{PlainState, fixed_of}
use Rattle.plain_defs.specs.Program.{sense_begun, first_part, part_of}
use Rattle.plain_defs.proofs.PartLemmas.{acted_nothing}
use Rattle.report_text.specs.declared.answers.StartAnswer.TheVariants as start
use Rattle.deck_audit.specs.declared.replayed.Running.{Running}
use Rattle.deck_audit.specs.Device.{AuditedDevice, start_answer}
use Rattle.deck_audit.specs.Follows.{Follows, IsAt, KeepsPaths, RunsAs}
use Rattle.deck_audit.specs.Replay as replayed
use Rattle.deck_audit.specs.Replayed.{ReplayedState}
use Rattle.deck_audit.proofs.KeptPaths.{counts_kept, start_keeps}
use Rattle.deck_audit.proofs.ReplayedStarts.{count_is, program_is}
use Rattle.deck_audit.proofs.StartLaw.{Accepts, accepts}

part_first : (state : PlainState) (path : ℕ) (ccws : List Ccw) → part_of state path ccws [] 0 ≡ first_part state path ccws
unfolding part_of
part_first state path ccws = acted_nothing [] (first_part state path ccws) refl

at_first : (state : PlainState) (path : ℕ) (ccws : List Ccw) (d : PlainState) (l : List Ccw) → d ≡ state → l ≡ ccws
    → IsAt (part_of state path ccws [] 0) ccws (record d { paths = sense_begun d.paths path l }) (begun_chain l (fixed_of d)) []
at_first state path ccws d l same words = rw (part_first, same, words)
    (record { device_is = refl; fixed_is = refl; stance_is = refl; next_is = refl; ends_are = refl; words = refl })

module _ (r : ReplayedState) (a : AuditedDevice) (f : Follows r a) (k : KeepsPaths r a.history) (waits_not : r.pending ≡ None)
    (path n : ℕ) (least : 1 ≤ path) (most : path ≤ 4) (is : start_answer a path ≡ start.Accepted n) where
  next : Accepts a path n
  next = accepts a path n is

  ordinal_is : replayed.started_on r path + 1 ≡ n
  ordinal_is = count_is r a f (counts_kept r a k) next.idle path least most ∙ next.ordinal

  words_are : replayed.next_program a.plans r path ≡ program_of a.plans path n
  words_are = rw (← next.ordinal) (program_is r a f (counts_kept r a k) next.idle path least most)

  device_is : r.device ≡ replay a.plans a.empty a.history.items
  device_is = rw next.idle at f.device_is

  runs_first : (q : Running) → q.path ≡ path → q.ordinal ≡ replayed.started_on r path + 1
      → q.chain ≡ begun_chain (replayed.next_program a.plans r path) (fixed_of r.device)
      → RunsAs (record a { history = started a.history path n }) (record { path = path; ordinal = n; ends = []; acts = [] })
      (replayed.started_next a.plans r path).device q q.chain
  runs_first q path_is number_is chain_is = record {
    path_is = path_is;
    ordinal_is = number_is ∙ ordinal_is;
    at = rw chain_is (at_first (replay a.plans a.empty a.history.items) path (program_of a.plans path n) r.device
        (replayed.next_program a.plans r path) device_is words_are);
    order = tt;
    word = 0;
    at_word = ap (λ (s : ChainState). s.at.next) chain_is;
  }

  -- the program that starts is the one that the history starts
  pub started_follows : Follows (replayed.started_next a.plans r path) (record a { history = started a.history path n })
  started_follows =
      let q : Running = record {
        path = path;
        ordinal = replayed.started_on r path + 1;
        chain = begun_chain (replayed.next_program a.plans r path) (fixed_of r.device);
      } in
      let first = runs_first q refl refl refl in record {
        number_is = f.number_is;
        device_is = first.at.device_is;
        half_is = f.half_is;
        lent_is = f.lent_is;
        program = rw waits_not first;
      }

  -- and what is kept of the paths is what the history says
  pub started_keeps : KeepsPaths (replayed.started_next a.plans r path) (started a.history path n)
  started_keeps = start_keeps r a.history k (replayed.started_next a.plans r path) path n least most next.idle refl refl refl refl
