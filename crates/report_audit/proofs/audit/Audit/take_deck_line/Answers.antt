use Rattle.std.proofs.Common.{◌≡◌, ◌++◌, ◌∷◌, ℕ, List, false, sym, subst}
use Rattle.std.specs.Str.{bytes_eq}
use Rattle.report_audit.specs.Progress.{GoesOn, Progress}
use Rattle.report_audit.proofs.Steps.{deck_goes}
use Rattle.report_audit.proofs.audit.Audit.take_deck_line.Goals as goal

pub returns-clause-follows : goal.returns-clause-follows
returns-clause-follows c = λ rest.
    subst (λ (q : Progress). GoesOn c.args.self.now (c.args.line.now ++ 10 ∷ rest) q rest) (sym c.in_ok-put_deck.ensures.deck)
    (deck_goes c.args.self.now c.args.line.now rest c.requires.front c.requires.deck c.requires.one
    (subst (λ (w : List ℕ). bytes_eq c.args.line.now w ≡ false) c.as_slice.ensures (sym c.if-eq.ensures)))
