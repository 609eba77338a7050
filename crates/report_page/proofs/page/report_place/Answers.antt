use Rattle.std.proofs.Common.{◌≤◌, ◌+◌, ℕ, List, length, Option, Some, None}
use Rattle.std.specs.Prelude.{IfSome}
use Rattle.memchr.specs.Find.{FindsNeedle}
use Rattle.memchr.proofs.lemmas.ValueLemmas.{FindsNeedle-value}
use Rattle.report_page.specs.Drawn.{marker}
use Rattle.report_page.proofs.page.report_place.Goals as goal

it_fits : (hay needle : List ℕ) (r : Option ℕ) → FindsNeedle hay needle 0 r → IfSome r (λ k. k + length needle ≤ length hay)
it_fits hay needle None h = tt
it_fits hay needle (Some k) h = h.1.fits

pub returns-clause-value : goal.returns-clause-value
unfolding marker
returns-clause-value c = FindsNeedle-value c.args.text.now marker c.find.result c.find.ensures

pub returns-clause-inside : goal.returns-clause-inside
unfolding marker
returns-clause-inside c = it_fits c.args.text.now marker c.find.result c.find.ensures
