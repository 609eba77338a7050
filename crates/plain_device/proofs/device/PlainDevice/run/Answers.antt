use Rattle.std.proofs.Common.{◌≡◌, length, List, [], ◌∷◌, ◌++◌, sym, ap, subst, ◌∙◌, arith}
use Rattle.ckd_types.specs.declared.channel.Ccw.{Ccw}
use Rattle.ckd_types.specs.Fixed.{Fixed}
use Rattle.ckd_chain.specs.Steps.{begun_chain}
use Rattle.plain_defs.specs.PlainState.{PlainState, fixed_of}
use Rattle.plain_defs.specs.Program.{sense_begun}
use Rattle.ckd_types.specs.declared.channel.CommandEnd.{CommandEnd}
use Rattle.plain_device.proofs.Running.{IsRunningOn, running_first, running_more, fewer_left, few_ends, all_ends, all_done, all_over}
use Rattle.plain_device.proofs.device.PlainDevice.run.Goals as goal

pub loop-alloc-smaller : goal.loop-alloc-smaller
loop-alloc-smaller c =
    fewer_left c.args.self.now c.args.path c.args.program.now c.loop-alloc.device c.loop-alloc.chain
    c.loop-alloc.ends.items c.loop-alloc.invariant.0 c.command.new.self c.command.new.chain c.in_ok-end.end
    c.in_ok-end.ensures.ends
    c.stands.ensures (sym c.loop-alloc-test.ensures)

pub loop-alloc-init : goal.loop-alloc-init
loop-alloc-init c =
    let start = c.args.self.now in
    let device : c.begin.new.self ≡ record start { paths = sense_begun start.paths c.args.path c.args.program.now } =
    c.begin.ensures
    ∙ ap (λ (l : List Ccw). record c.in_ok-device.device { paths = sense_begun c.in_ok-device.device.paths c.args.path l })
    c.ccws.ensures.value
    ∙ ap (λ (d : PlainState). record d { paths = sense_begun d.paths c.args.path c.args.program.now }) c.in_ok-device.ensures
    in
    let chain : c.begin-chain.result ≡ begun_chain c.args.program.now (fixed_of start) =
    c.begin-chain.ensures
    ∙ ap (λ (l : List Ccw). begun_chain l c.fixed.result) c.in_ok-copy.ensures
    ∙ ap (λ (f : Fixed). begun_chain c.args.program.now f)
    (c.fixed.ensures ∙ ap (λ (d : PlainState). fixed_of d) device)
    in
    let none : length c.new-ends.result.items ≡ 0 = ap length c.new-ends.ensures in (
      subst (λ (l : List CommandEnd). IsRunningOn start c.args.path c.args.program.now c.begin.new.self
          c.begin-chain.result l) (sym c.new-ends.ensures)
          (running_first start c.args.path c.args.program.now c.begin.new.self c.begin-chain.result device chain),
      omega (arith, none),
    )

pub loop-alloc-preserved : goal.loop-alloc-preserved
loop-alloc-preserved c =
    let later : c.push.new.self.items ≡ c.loop-alloc.ends.items ++ c.in_ok-end.end ∷ [] =
    c.push.ensures.items ∙ ap (λ (l : List CommandEnd). l ++ c.in_ok-end.end ∷ []) c.in_ok-reserve.ensures.same in (
      running_more c.args.self.now c.args.path c.args.program.now c.loop-alloc.device c.loop-alloc.chain
          c.loop-alloc.ends.items c.loop-alloc.invariant.0 c.command.new.self c.command.new.chain c.in_ok-end.end
          c.in_ok-end.ensures.ends
          (sym c.loop-alloc-test.ensures) c.push.new.self.items later,
      few_ends c.args.self.now c.args.path c.args.program.now c.loop-alloc.device c.loop-alloc.chain
          c.loop-alloc.ends.items c.loop-alloc.invariant.0 c.stands.ensures (sym c.loop-alloc-test.ensures)
          c.push.new.self.items c.in_ok-end.end later,
    )

pub returns-clause-ends : goal.returns-clause-ends
returns-clause-ends c =
    all_ends c.args.self.now c.args.path c.args.program.now c.loop-alloc.device c.loop-alloc.chain
    c.loop-alloc.ends.items c.loop-alloc.invariant.0 c.loop-alloc.invariant.1 (sym c.loop-alloc-test.ensures)

pub returns-clause-after : goal.returns-clause-after
returns-clause-after c =
    all_done c.args.self.now c.args.path c.args.program.now c.loop-alloc.device c.loop-alloc.chain
    c.loop-alloc.ends.items c.loop-alloc.invariant.0 c.loop-alloc.invariant.1 (sym c.loop-alloc-test.ensures)

pub returns-clause-over : goal.returns-clause-over
returns-clause-over c =
    all_over c.args.self.now c.args.path c.args.program.now c.loop-alloc.device c.loop-alloc.chain
    c.loop-alloc.ends.items c.loop-alloc.invariant.0 c.loop-alloc.invariant.1 (sym c.loop-alloc-test.ensures)
