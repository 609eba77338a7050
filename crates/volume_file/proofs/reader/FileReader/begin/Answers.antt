use Rattle.std.proofs.Common.{List, ℕ, subst}
use Rattle.std.specs.Io.KnownBytes.{Consumes}
use Rattle.std.proofs.lemmas.Result.{err_from_is_err_and}
use Rattle.volume_file.specs.Loading.{head_in}
use Rattle.volume_file.proofs.Told.{field_refused}
use Rattle.volume_file.proofs.reader.FileReader.begin.Goals as goal

pub returns-in_err-head-clause-told : goal.returns-in_err-head-clause-told
returns-in_err-head-clause-told g c =
    let p = err_from_is_err_and c.from_residual-in_err-head.result c.from_residual-in_err-head.ensures.1 in
    rw (p.1, p.2) (field_refused head_in _ _ 12 c.in_ok-field.field.items _ c.in_ok-field.ensures.field
    (rw c.deref.ensures.value at c.in_err-head.ensures.exact))

pub returns-clause-told : goal.returns-clause-told
returns-clause-told g c =
    subst (λ (l : List ℕ). Consumes (g.S.Source.left c.args.source.now) (g.S.Source.left c.read_field.new.source) l)
    (rw c.deref.ensures.value at c.in_ok-head.ensures.spelled)
    c.in_ok-field.ensures.field.read
