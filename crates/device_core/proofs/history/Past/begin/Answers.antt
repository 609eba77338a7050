use Rattle.std.proofs.Common.{◌∙◌, ◌+◌, ℕ, List, [], Some, true, refl, ap}
use Rattle.ckd_types.specs.declared.channel.CommandEnd.{CommandEnd}
use Rattle.plain_defs.specs.declared.journal.Acted.{Acted}
use Rattle.plain_defs.specs.History.{OpenEntry}
use Rattle.device_core.specs.declared.history.Running.{Running}
use Rattle.device_core.proofs.Pasts.{history_started, keeps_started}
use Rattle.device_core.proofs.history.Past.begin.Goals as goal

abbrev entry : ℕ → ℕ → List CommandEnd → List Acted → OpenEntry
entry path ordinal ends acts = record { path = path; ordinal = ordinal; ends = ends; acts = acts }

pub returns-clause-history : goal.returns-clause-history
returns-clause-history c =
    let kept = c.requires.keeps.paths c.args.path c.count_one_more-ordinal.ensures.path.0 c.count_one_more-ordinal.ensures.path.1 in
    let r : Running = record {
      path = c.args.path;
      ordinal = c.count_one_more-ordinal.result;
      chain = c.args.chain;
      ends = c.args.ends;
      acts =
          c.args.acts;
      room = c.args.room;
    } in
    let begins = ap (λ (l : List CommandEnd). entry c.args.path c.count_one_more-ordinal.result l c.args.acts.items) c.requires.ends
    ∙ ap (λ (l : List Acted). entry c.args.path c.count_one_more-ordinal.result [] l) c.requires.acts.0 in
    history_started c.args.self.now (record c.args.self.now { running = Some r; kept = c.count_one_more-ordinal.new.kept; powered = true })
    c.args.path r c.requires.keeps c.requires.idle c.count_one_more-ordinal.ensures.path.0 c.count_one_more-ordinal.ensures.path.1
    c.count_one_more-ordinal.result (c.count_one_more-ordinal.ensures.ordinal ∙ ap (λ (n : ℕ). n + 1) kept.started_is) begins refl refl
    c.count_one_more-ordinal.ensures.kept refl

pub returns-clause-keeps : goal.returns-clause-keeps
returns-clause-keeps c =
    let kept = c.requires.keeps.paths c.args.path c.count_one_more-ordinal.ensures.path.0 c.count_one_more-ordinal.ensures.path.1 in
    let r : Running = record {
      path = c.args.path;
      ordinal = c.count_one_more-ordinal.result;
      chain = c.args.chain;
      ends = c.args.ends;
      acts =
          c.args.acts;
      room = c.args.room;
    } in
    let begins = ap (λ (l : List CommandEnd). entry c.args.path c.count_one_more-ordinal.result l c.args.acts.items) c.requires.ends
    ∙ ap (λ (l : List Acted). entry c.args.path c.count_one_more-ordinal.result [] l) c.requires.acts.0 in
    keeps_started c.args.self.now (record c.args.self.now { running = Some r; kept = c.count_one_more-ordinal.new.kept; powered = true })
    c.args.path r c.requires.keeps c.requires.idle c.count_one_more-ordinal.ensures.path.0 c.count_one_more-ordinal.ensures.path.1
    c.count_one_more-ordinal.result (c.count_one_more-ordinal.ensures.ordinal ∙ ap (λ (n : ℕ). n + 1) kept.started_is) begins refl refl
    c.count_one_more-ordinal.ensures.kept refl c.requires.room
