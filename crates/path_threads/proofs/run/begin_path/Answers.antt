use Rattle.std.proofs.Common.{◌∙◌, IfErr, IfOk, ℕ, sym, subst}
use Rattle.std.specs.List.{AllZip}
use Rattle.device_turn.specs.Seating.{IsAt}
use Rattle.path_threads.proofs.run.begin_path.Goals as goal

pub begin-requires-clause-keeps : goal.begin-requires-clause-keeps
begin-requires-clause-keeps g c κs within r post =
    subst (λ (n : ℕ). IfOk r (λ v. AllZip (IsAt n) c.of.result.value.items v.items)) (sym (c.from.ensures ∙ c.get.ensures.value))
    (subst (λ ts. IfOk r (λ v. AllZip (IsAt c.args.path) ts.items v.items)) (sym c.of.ensures) post)

pub returns-clause-refused : goal.returns-clause-refused
returns-clause-refused g c =
    subst (λ ts. IfErr c.begin.result (λ r. IfOk r (λ v. AllZip (IsAt c.args.path) ts.items v.items))) c.of.ensures
    (subst (λ (n : ℕ). IfErr c.begin.result (λ r. IfOk r (λ v. AllZip (IsAt n) c.of.result.value.items v.items))) (c.from.ensures ∙ c.get.ensures.value)
    c.begin.ensures.refused)
