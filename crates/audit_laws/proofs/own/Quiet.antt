-- What an event tells beside what it did, by the items and the acts that came to a history.
use Rattle.std.proofs.Common.{arith, ◌≡◌, ◌++◌, ◌+◌, ℕ, false, List, [], ◌∷◌, Some, length, refl, ◌∙◌}
use Rattle.std.proofs.lemmas.List.{append-nil}
use Rattle.plain_defs.specs.declared.journal.How.TheVariants.{Cut}
use Rattle.plain_defs.specs.declared.journal.Item.{Item}
use Rattle.plain_defs.specs.declared.journal.Item.TheVariants as items
use Rattle.plain_defs.specs.History.{History, OpenEntry, cut_by, entry_of, resets_of}
use Rattle.device_defs.specs.Marks.{MarksDevice}
use Rattle.run_report.specs.Beside.{loose_lines}
use Rattle.run_report.proofs.ActsCome.{acts_both, no_act, same_program}
use Rattle.run_report.proofs.OneDevice.{none_behind}
use Rattle.run_report.proofs.Quiet.{behind_more}
use Rattle.subsystem_defs.specs.Beside.{acts_in, acts_of_items, has_power, new_items}

-- no act came, and no loss of power
pub none_loose : (b a : MarksDevice) (xs : List Item) → new_items b.history a.history ≡ xs → has_power xs ≡ false →
    acts_in a.history ≡ acts_in b.history → loose_lines b a ≡ []
none_loose b a xs is power acts = grind (arith, none_behind)

pub no_power : (paths : List ℕ) → has_power (resets_of paths) ≡ false
no_power [] = refl
no_power (p ∷ paths) = no_power paths

-- A program that was cut by the reset of its path

module _ (h : History) (o : OpenEntry) (more : ℕ) where
  pub cut_items : new_items h (cut_by h o more) ≡ entry_of o (Cut (length o.ends + more)) ∷ items.Reset o.path ∷ resets_of h.waiting
  cut_items = behind_more h.items (entry_of o (Cut (length o.ends + more)) ∷ items.Reset o.path ∷ resets_of h.waiting)

  pub cut_acts : h.running ≡ Some o → acts_in (cut_by h o more) ≡ acts_in h
  cut_acts is = grind (arith, append-nil, acts_both, no_act, same_program)

-- a reset between programs
pub reset_acts : (xs : List Item) (path : ℕ) → acts_of_items (xs ++ items.Reset path ∷ []) ≡ acts_of_items xs
reset_acts xs path = acts_both xs (items.Reset path ∷ []) ∙ append-nil (acts_of_items xs)
