-- Events that make no act and end no program tell nothing beside what they did.
use Rattle.std.proofs.Common.{◌≡◌, ◌∷◌, [], ◌++◌, ◌∙◌, ℕ, List, Bool, false, Option, Some, None, length, map, refl, sym, ap}
use Rattle.plain_defs.specs.declared.journal.Act.{Act}
use Rattle.plain_defs.specs.declared.journal.Item.{Item}
use Rattle.plain_defs.specs.declared.journal.Item.TheVariants.{Fresh}
use Rattle.plain_defs.specs.History.{History, OpenEntry, emptied}
use Rattle.device_defs.specs.Device.{Device}
use Rattle.device_defs.specs.Orders.{restore}
use Rattle.device_defs.specs.Start as S
use Rattle.report_text.specs.declared.event.ProgramOver.{ProgramOver}
use Rattle.report_text.specs.Events.{loosed_line, program_over_lines}
use Rattle.run_report.specs.Beside.{loosed, over_of}
use Rattle.run_report.specs.OneDevice.{TellsNothing}
use Rattle.run_report.proofs.OneDevice.{none_behind}
use Rattle.subsystem_defs.specs.Beside.{acts_in, acts_of_item, acts_of_items, acts_running, behind_first, has_power, new_acts, new_items, power_told, told_act}

pub behind_more : {X : Type 0} (xs ys : List X) → behind_first (length xs) (xs ++ ys) ≡ ys
behind_more [] ys = refl
behind_more (x ∷ xs) ys = behind_more xs ys

acts_of_fresh : (xs : List Item) → acts_of_items (xs ++ Fresh ∷ []) ≡ acts_of_items xs
acts_of_fresh [] = refl
acts_of_fresh (x ∷ xs) = ap (λ (l : List Act). acts_of_item x ++ l) (acts_of_fresh xs)

module _ {F P H : Type 0} where
  -- where no act came, and of the items none is a program that is over or a loss of power
  quiet : (b a : Device F P H) → acts_in a.history ≡ acts_in b.history → has_power (new_items b.history a.history) ≡ false
      → over_of b.store.device (new_items b.history a.history) ≡ None → TellsNothing b a
  quiet b a acts power over = record {
    loose = ap (λ (l : List Act). map loosed_line (map (loosed b.store.device)
        (map (told_act b.store a.store) l ++ power_told b.store a.store (has_power (new_items b.history a.history)))))
        (ap (λ (l : List Act). behind_first (length (acts_in b.history)) l) acts ∙ none_behind (acts_in b.history))
        ∙ ap (λ (x : Bool). map loosed_line (map (loosed b.store.device) (power_told b.store a.store x))) power;
    over = ap program_over_lines over;
  }

  by_items : (b a : Device F P H) (xs : List Item) → new_items b.history a.history ≡ xs → has_power xs ≡ false
      → over_of b.store.device xs ≡ None → acts_in a.history ≡ acts_in b.history → TellsNothing b a
  by_items b a xs is power over acts =
      quiet b a acts (ap has_power is ∙ power) (ap (λ (l : List Item). over_of b.store.device l) is ∙ over)

  -- nothing came to the history
  pub same_tells : (b a : Device F P H) → a.history ≡ b.history → TellsNothing b a
  same_tells b a is =
      by_items b a [] (ap (λ (h : History). new_items b.history h) is ∙ none_behind b.history.items) refl refl (ap acts_in is)

  -- a program started
  pub start_tells : (d : Device F P H) (path : ℕ) → d.history.running ≡ None → TellsNothing d (S.start d path)
  unfolding S.start
  start_tells d path idle =
      by_items d (S.start d path) [] (none_behind d.history.items) refl refl
      (ap (λ (r : Option OpenEntry). acts_of_items d.history.items ++ acts_running r) (sym idle))

  -- an empty volume came
  pub restore_tells : (d : Device F P H) → TellsNothing d (restore d)
  restore_tells d =
      by_items d (restore d) (Fresh ∷ []) (behind_more d.history.items (Fresh ∷ [])) refl refl
      (ap (λ (l : List Act). l ++ acts_running d.history.running) (acts_of_fresh d.history.items))
