use Rattle.std.proofs.Common.{◌≡◌, ◌∙◌, true, false, refl, ap, subst}
use Rattle.std.specs.Prelude.{option_map, IfSome}
use Rattle.device_core.specs.TrackWalk.{Left}
use Rattle.device_core.proofs.Halves.{half_waits, word_held}
use Rattle.device_defs.specs.declared.answers.Stepped.TheVariants as answers
use Rattle.device_core.proofs.Pasts.{some_open, keeps_ended}
use Rattle.device_core.proofs.Endings.{last_is, last_running, turned_over, turned_checked}
use Rattle.device_core.specs.TrackWalk.{is_half}
use Rattle.device_core.proofs.history.Past.turned.Goals as goal

pub returns-then-over-clause-state : goal.returns-then-over-clause-state
returns-then-over-clause-state c =
    λ s plans o chain is at. rw c.in-Ends.is (turned_over s plans c.args.self.now (record c.args.self.now { running = c.add_end.new.running })
    c.close.new.self _ _ _ o chain c.in-Ends.end is c.if-over.true
    c.close.ensures.over (c.close.ensures.history _ (c.add_end.ensures.open o is)) refl refl
    (c.add_end.ensures.paths o is) c.close.ensures.paths)

pub returns-in-Checks-clause-state : goal.returns-in-Checks-clause-state
returns-in-Checks-clause-state c =
    λ s plans o chain is at. rw c.in-Checks.is (turned_checked s plans c.args.self.now
    (record c.args.self.now { running = c.add_end-in-Checks.new.running }) c.close-in-Checks.new.self _ _ _ o chain
    c.in-Checks.end is c.close-in-Checks.ensures.over (c.close-in-Checks.ensures.history _ (c.add_end-in-Checks.ensures.open o is))
    refl refl (c.add_end-in-Checks.ensures.paths o is) c.close-in-Checks.ensures.paths)

pub returns-then-over-clause-answer : goal.returns-then-over-clause-answer
returns-then-over-clause-answer c =
    let it = some_open c.args.self.now.running c.requires.running in
    rw c.in-Ends.is (ap (option_map answers.Ended) (c.close.ensures.last _ (c.add_end.ensures.open it.0 it.1) ∙ last_is it.0.ends c.in-Ends.end))

pub returns-else-over-clause-answer : goal.returns-else-over-clause-answer
returns-else-over-clause-answer c =
    let it = some_open c.args.self.now.running c.requires.running in
    rw c.in-Ends.is (ap (option_map answers.Ended) (last_running (record c.args.self.now { running = c.add_end.new.running }) _
    (c.add_end.ensures.open it.0 it.1) ∙ last_is it.0.ends c.in-Ends.end))

pub returns-in-Checks-clause-answer : goal.returns-in-Checks-clause-answer
returns-in-Checks-clause-answer c =
    let it = some_open c.args.self.now.running c.requires.running in
    rw c.in-Checks.is (ap (option_map answers.Ended)
    (c.close-in-Checks.ensures.last _ (c.add_end-in-Checks.ensures.open it.0 it.1) ∙ last_is it.0.ends c.in-Checks.end))

pub close-requires-clause-keeps : goal.close-requires-clause-keeps
close-requires-clause-keeps c =
    keeps_ended c.args.self.now c.add_end.new.running c.in-Ends.end c.requires.keeps c.requires.running c.add_end.ensures.open c.add_end.ensures.ends

pub close-requires-in-Checks-clause-keeps : goal.close-requires-in-Checks-clause-keeps
close-requires-in-Checks-clause-keeps c =
    keeps_ended c.args.self.now c.add_end-in-Checks.new.running c.in-Checks.end c.requires.keeps c.requires.running c.add_end-in-Checks.ensures.open
    c.add_end-in-Checks.ensures.ends

pub returns-else-over-clause-keeps : goal.returns-else-over-clause-keeps
returns-else-over-clause-keeps c =
    keeps_ended c.args.self.now c.add_end.new.running c.in-Ends.end c.requires.keeps c.requires.running c.add_end.ensures.open c.add_end.ensures.ends

pub returns-in-HalfOpen-clause-word : goal.returns-in-HalfOpen-clause-word
returns-in-HalfOpen-clause-word c =
    λ n left. word_held c.args.self.now.running n c.in-HalfOpen.t
    (subst (λ x. IfSome c.args.self.now.running (λ r. Left n r.chain x)) c.in-HalfOpen.is left)

pub returns-in-HalfOpen-clause-waits : goal.returns-in-HalfOpen-clause-waits
returns-in-HalfOpen-clause-waits c =
    λ n half left. half_waits c.args.self.now.running n c.args.came half c.requires.running c.requires.ends left

pub returns-then-over-clause-waits : goal.returns-then-over-clause-waits
returns-then-over-clause-waits c = λ n half left. let no : false ≡ true = subst (λ x. is_half x ≡ true) c.in-Ends.is half in absurd (cc)

pub returns-else-over-clause-waits : goal.returns-else-over-clause-waits
returns-else-over-clause-waits c = λ n half left. let no : false ≡ true = subst (λ x. is_half x ≡ true) c.in-Ends.is half in absurd (cc)

pub returns-in-Checks-clause-waits : goal.returns-in-Checks-clause-waits
returns-in-Checks-clause-waits c = λ n half left. let no : false ≡ true = subst (λ x. is_half x ≡ true) c.in-Checks.is half in absurd (cc)
