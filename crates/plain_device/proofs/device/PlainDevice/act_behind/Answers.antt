use Rattle.std.proofs.Common.{rules, arith, ◌*◌, ◌∙◌, ℕ, sym, subst}
use Rattle.std.specs.Prelude.{All}
use Rattle.std.proofs.lemmas.Bool.{eq-eqb, ne_eqb}
use Rattle.std.proofs.lemmas.Grind.{common_steps}
use Rattle.plain_defs.specs.declared.journal.Acted.{Acted}
use Rattle.plain_device.specs.Volume.{IsActOn}
use Rattle.plain_device.proofs.Acts.{act_is_on, front_yes, front_no}
use Rattle.plain_device.proofs.device.PlainDevice.act_behind.Goals as goal
use Rattle.plain_device.proofs.device.PlainDevice.act_behind.Goals.{then-from-ends+in_ok-act, else-from-ends}

pub act-requires : goal.act-requires
act-requires c =
    act_is_on c.args.acts.now c.loop-acted.acted-index c.acted-item.result (c.loop-acted.self.cylinders * 15)
    c.loop-acted-test.true c.acted-item.is
    (subst (λ (n : ℕ). All (λ (x : Acted). IsActOn (n * 15) x.act) c.args.acts.now) (sym c.loop-acted.invariant.2)
    c.requires)

pub loop-acted-preserved : goal.loop-acted-preserved
loop-acted-preserved c = elim c.if-from-ends.branch [
  | then-from-ends+in_ok-act w ↦ (
    grind (arith, common_steps),
    search rules,
    search rules,
    w.self-is ∙ w.in_ok-act.ensures.done ∙ front_yes c.args.acts.now c.loop-acted.acted-index c.args.ends c.acted-item.result
        c.args.self.now c.loop-acted.self c.loop-acted-test.true c.acted-item.is c.loop-acted.invariant.3
        (eq-eqb c.acted-item.result.after c.args.ends (sym c.from.ensures ∙ w.if-from-ends.true)),
  )
  | else-from-ends w ↦ (
    grind (arith, common_steps),
    search rules,
    search rules,
    w.self-is ∙ front_no c.args.acts.now c.loop-acted.acted-index c.args.ends c.acted-item.result
        c.args.self.now c.loop-acted.self c.loop-acted-test.true c.acted-item.is c.loop-acted.invariant.3
        (ne_eqb c.acted-item.result.after c.args.ends (λ same. w.if-from-ends.false (c.from.ensures ∙ same))),
  )
]
