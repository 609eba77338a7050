use Rattle.std.proofs.Common.{ℕ, List, [], ◌∷◌, ◌++◌, ◌≡◌, ◌<◌, true, arith, rules, length, sym, ap, ◌∙◌, nat_lt}
use Rattle.std.proofs.lemmas.Bool.Decides.{nat_tests}
use Rattle.stager.proofs.Window.{length-window, window_after_push}
use Rattle.stager.proofs.queue.Queue.push.Goals as goal

pub returns-then-self-lt64 : goal.returns-then-self-lt64
returns-then-self-lt64 c =
    let q = c.self.inside in
    let v = c.self.invariant in
    let room : q.len < 64 = grind (arith, c.if-self-lt64.true) in
    let n : length c.args.self.now ≡ q.len = sym (ap length c.self.view_is) ∙ length-window 64 _ _ q.slots v.0 v.1 (search rules) in
    let some : nat_lt (length c.args.self.now) 64 ≡ true = grind (arith, nat_tests, n, room) in
    rw some (window_after_push 64 _ _ q.slots v.0 v.1 (search rules) c.args.t room ∙ ap (λ (xs : List ℕ). xs ++ c.args.t ∷ []) c.self.view_is)
