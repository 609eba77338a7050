use Rattle.std.proofs.Common.{◌≡◌, ℕ, List, [], ◌∷◌, ◌++◌, sym, ap, ◌∙◌}
use Rattle.ckd_types.specs.declared.channel.CommandEnd.{CommandEnd}
use Rattle.plain_defs.specs.Program.{acts_at, acts_done, command_run}
use Rattle.plain_device.proofs.Running.{at_more, at_acted, at_over, at_stays}
use Rattle.plain_device.proofs.device.PlainDevice.one_more.Goals as goal

pub returns-in_ok-act_behind-clause-more : goal.returns-in_ok-act_behind-clause-more
returns-in_ok-act_behind-clause-more c = λ p ccws at.
    let later : c.push.new.self.items ≡ c.args.ends.now.items ++ c.in_ok-end.end ∷ [] =
    c.push.ensures.items ∙ ap (λ (l : List CommandEnd). l ++ c.in_ok-end.end ∷ []) c.in_ok-reserve.ensures.same in
    at_acted c.args.acts.now (command_run c.args.path ccws p) ccws c.command.new.self c.act_behind.new.self
    c.command.new.chain c.push.new.self.items
    (at_more p c.args.path ccws c.args.self.now c.command.new.self c.args.chain.now c.command.new.chain
    c.args.ends.now.items c.in_ok-end.end at c.in_ok-end.ensures.ends c.push.new.self.items later
    (sym c.if-over.ensures))
    (sym c.if-not-over.ensures)
    (c.in_ok-act_behind.ensures.done ∙ ap (λ (n : ℕ). acts_done c.command.new.self (acts_at c.args.acts.now n))
    c.len.ensures) c.in_ok-act_behind.ensures.same

pub returns-else-not-over-clause-more : goal.returns-else-not-over-clause-more
returns-else-not-over-clause-more c = λ p ccws at.
    let later : c.push.new.self.items ≡ c.args.ends.now.items ++ c.in_ok-end.end ∷ [] =
    c.push.ensures.items ∙ ap (λ (l : List CommandEnd). l ++ c.in_ok-end.end ∷ []) c.in_ok-reserve.ensures.same in
    at_over c.args.acts.now (command_run c.args.path ccws p) ccws c.command.new.self c.command.new.chain
    c.push.new.self.items
    (at_more p c.args.path ccws c.args.self.now c.command.new.self c.args.chain.now c.command.new.chain
    c.args.ends.now.items c.in_ok-end.end at c.in_ok-end.ensures.ends c.push.new.self.items later
    (sym c.if-over.ensures))
    (sym c.if-not-over.ensures)

pub returns-then-over-clause-more : goal.returns-then-over-clause-more
returns-then-over-clause-more c = λ p ccws at. at_stays c.args.path c.args.acts.now p ccws c.args.self.now
    c.args.chain.now c.args.ends.now.items at (sym c.if-over.ensures)
