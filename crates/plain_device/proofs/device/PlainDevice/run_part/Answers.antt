use Rattle.std.proofs.Common.{◌≡◌, ◌*◌, ℕ, List, sym, ap, subst, ◌∙◌}
use Rattle.std.specs.Prelude.{All}
use Rattle.ckd_types.specs.declared.channel.Ccw.{Ccw}
use Rattle.ckd_types.specs.Fixed.{Fixed}
use Rattle.ckd_chain.specs.Steps.{begun_chain}
use Rattle.plain_defs.specs.declared.journal.Acted.{Acted}
use Rattle.plain_defs.specs.PlainState.{PlainState, fixed_of}
use Rattle.plain_defs.specs.Program.{sense_begun, part_of}
use Rattle.plain_device.specs.Volume.{IsActOn}
use Rattle.plain_device.proofs.Running.{between_of, part_first, part_next}
use Rattle.plain_device.proofs.device.PlainDevice.run_part.Goals as goal

pub one_more-requires-clause-between : goal.one_more-requires-clause-between
one_more-requires-clause-between c = λ more. between_of _ c.args.program.now c.loop-command.device c.loop-command.chain
    c.loop-command.ends.items c.loop-command.invariant.0 more

pub one_more-requires-clause-on : goal.one_more-requires-clause-on
one_more-requires-clause-on c = subst (λ (n : ℕ). All (λ (x : Acted). IsActOn (n * 15) x.act) c.args.acts.now)
    (sym c.loop-command.invariant.1) c.requires.on

pub loop-command-init : goal.loop-command-init
loop-command-init c =
    let start = c.args.self.now in
    let device : c.begin.new.self ≡ record start { paths = sense_begun start.paths c.args.path c.args.program.now } =
    c.begin.ensures
    ∙ ap (λ (l : List Ccw). record c.in_ok-device.device { paths = sense_begun c.in_ok-device.device.paths c.args.path l })
    c.ccws.ensures.value
    ∙ ap (λ (d : PlainState). record d { paths = sense_begun d.paths c.args.path c.args.program.now }) c.in_ok-device.ensures
    in
    let chain : c.begin-chain.result ≡ begun_chain c.args.program.now (fixed_of start) =
    c.begin-chain.ensures
    ∙ ap (λ (l : List Ccw). begun_chain l c.fixed.result) c.in_ok-copy.ensures
    ∙ ap (λ (f : Fixed). begun_chain c.args.program.now f)
    (c.fixed.ensures ∙ ap (λ (d : PlainState). fixed_of d) device)
    in (
      part_first start c.args.path c.args.program.now c.args.acts.now c.begin.new.self c.act_behind.new.self
          c.begin-chain.result device chain c.in_ok-act_behind.ensures.done c.in_ok-act_behind.ensures.same
          c.new-ends.result.items c.new-ends.ensures,
      c.in_ok-act_behind.ensures.same.1 ∙ ap (λ (d : PlainState). d.cylinders) device,
    )

pub loop-command-preserved : goal.loop-command-preserved
loop-command-preserved c = (
  part_next c.args.self.now c.args.path c.args.program.now c.args.acts.now c.loop-command._command c.one_more.new.self
      c.one_more.new.chain c.one_more.new.ends.items
      (c.in_ok-one_more.ensures.more (part_of c.args.self.now c.args.path c.args.program.now c.args.acts.now
      c.loop-command._command) c.args.program.now c.loop-command.invariant.0),
  c.in_ok-one_more.ensures.same ∙ c.loop-command.invariant.1,
)
