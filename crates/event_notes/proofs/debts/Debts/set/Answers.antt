use Rattle.std.proofs.Common.{◌≡◌, ◌<◌, false, length, ap, ◌∙◌, arith}
use Rattle.std.specs.Prelude.{Option, is_some, not}
use Rattle.std.specs.Option.{unwrap_or}
use Rattle.std.proofs.lemmas.List.{length-set}
use Rattle.device_defs.specs.declared.owed.Owed.{Owed}
use Rattle.device_defs.specs.Store.{no_debt}
use Rattle.event_notes.specs.Debts.{is_paid}
use Rattle.event_notes.proofs.OwedEntries.{each_entry, owed_set}
use Rattle.event_notes.proofs.debts.Debts.set.Goals as goal

pub invariant_of-self : goal.invariant_of-self
invariant_of-self c =
    let entries = c.self.inside.owed in
    let entry = c.entry_of.result in
    let P : Option Owed → Type 0 = λ o. is_some o ≡ not (is_paid (unwrap_or o no_debt)) in
    let Q : Option Owed → Type 0 = λ o. (unwrap_or o no_debt).firm ≡ false in (
      ap length c.exchange.ensures.now ∙ length-set entries c.args.t entry ∙ c.self.invariant.0,
      rw c.exchange.ensures.now (each_entry P entries c.args.t entry c.self.invariant.1 (rw c.entry_of.ensures.value c.entry_of.ensures.some)),
      rw c.exchange.ensures.now (each_entry Q entries c.args.t entry c.self.invariant.2 (rw c.entry_of.ensures.value c.requires)),
    )

pub returns : goal.returns
returns c =
    let there : c.args.t < 65535 = omega (arith, c.get-track.ensures.value, c.get-track.ensures.range) in
    rw (← c.self.view_is, c.exchange.ensures.now)
    (owed_set c.self.inside.tracks c.self.inside.owed c.args.t c.entry_of.result c.args.owed c.self.invariant.0 there c.entry_of.ensures.value)
