use Rattle.std.proofs.Common.{◌+◌, Some, ◌∙◌, ap, refl}
use Rattle.report_audit.specs.Progress.{Progress}
use Rattle.report_audit.proofs.DeckSizes.{deck_sized}
use Rattle.report_audit.proofs.Steps.{opens_deck, report_opens, report_alone_opens}
use Rattle.report_audit.proofs.audit.Audit.open_report.Goals as goal

pub new-requires : goal.new-requires
new-requires c = record { sizes = deck_sized c.deref.result.now c.in-Ok.deck c.in-Ok.ensures }

pub returns-clause-follows : goal.returns-clause-follows
returns-clause-follows c = λ rest.
    let q : Progress = record {
      deck = c.new-2.result.items;
      lines = c.self.inside.lines + 1;
      auditor = Some c.in_ok-new.field-0;
      status = c.self.inside.status;
    } in
    report_opens c.args.self.now q rest c.requires.front c.requires.deck
    (opens_deck c.args.self.now q c.deref.result.now c.in-Ok.deck c.in_ok-new.field-0 c.in-Ok.ensures
    (c.deref.ensures.value ∙ ap (λ (v : Progress). v.deck) c.self.view_is) (ap (λ (v : Progress). v.status) c.self.view_is ∙ c.requires.front) refl
    (ap (λ (v : Progress). v.lines + 1) c.self.view_is) c.in_ok-new.ensures)

pub returns-clause-last : goal.returns-clause-last
returns-clause-last c =
    let q : Progress = record {
      deck = c.new-2.result.items;
      lines = c.self.inside.lines + 1;
      auditor = Some c.in_ok-new.field-0;
      status = c.self.inside.status;
    } in
    report_alone_opens c.args.self.now q c.requires.front c.requires.deck
    (opens_deck c.args.self.now q c.deref.result.now c.in-Ok.deck c.in_ok-new.field-0 c.in-Ok.ensures
    (c.deref.ensures.value ∙ ap (λ (v : Progress). v.deck) c.self.view_is) (ap (λ (v : Progress). v.status) c.self.view_is ∙ c.requires.front) refl
    (ap (λ (v : Progress). v.lines + 1) c.self.view_is) c.in_ok-new.ensures)
