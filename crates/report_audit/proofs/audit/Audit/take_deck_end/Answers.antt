use Rattle.std.proofs.Common.{◌≡◌, [], ℕ, List, false, sym, subst}
use Rattle.std.specs.Str.{bytes_eq}
use Rattle.report_audit.specs.Progress.{GoesOn, Progress}
use Rattle.report_audit.proofs.Steps.{deck_ends}
use Rattle.report_audit.proofs.audit.Audit.take_deck_end.Goals as goal

pub returns-clause-last : goal.returns-clause-last
returns-clause-last c =
    subst (λ (q : Progress). GoesOn c.args.self.now c.args.line.now q []) (sym c.in_ok-put_deck.ensures.deck)
    (deck_ends c.args.self.now c.args.line.now c.requires.front c.requires.deck c.requires.one c.requires.some
    (subst (λ (w : List ℕ). bytes_eq c.args.line.now w ≡ false) c.as_slice.ensures (sym c.if-eq.ensures)))
