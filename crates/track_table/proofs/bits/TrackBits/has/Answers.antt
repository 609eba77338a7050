use Rattle.std.proofs.Common.{◌≡◌, ℕ, ◌<◌, ◌/◌, nat_eq, get_or, ap, ◌∙◌, arith, rules}
use Rattle.std.proofs.lemmas.Grind.{get_or_default_zero}
use Rattle.std.proofs.lemmas.Nat.Bits.{shr_and_one}
use Rattle.track_table.proofs.MarkLists.{marked_is}
use Rattle.track_table.proofs.bits.TrackBits.has.Goals as goal

pub returns : goal.returns
returns c =
    let words = c.self.inside.words.items in
    let below : c.args.t < 65535 = search rules in
    let word : c.index.result.now ≡ get_or words (c.args.t / 64) 0 =
    rw (c.from.ensures, c.get-t.ensures.value) at c.index.ensures
    ∙ get_or_default_zero words (c.args.t / 64) c.index.result.now (omega (arith, c.self.invariant.0, below)) in
    rw (← c.self.view_is, marked_is words c.args.t c.self.invariant.0 c.self.invariant.1, word, c.get-t.ensures.value)
    (ap (λ (x : ℕ). nat_eq x 1) (shr_and_one _ _))
