use Rattle.promise_laws.proofs.FreshItems.{journal_grows}
use Rattle.promise_laws.proofs.journals_grow.Goals as goal

pub returns : goal.returns
returns c = λ asked end d k brings. journal_grows asked end d k brings
