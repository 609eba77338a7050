-- The acts that came to a history in an event, behind what the event did to it, and the items of a program that is over.
use Rattle.std.proofs.Common.{◌≡◌, ◌∷◌, [], ◌++◌, ◌∙◌, ℕ, List, Bool, true, false, Option, Some, None, length, refl, sym, ap, append_assoc, if◌then◌else◌}
use Rattle.std.proofs.lemmas.List.{append-nil}
use Rattle.ckd_types.specs.declared.channel.CommandEnd.{CommandEnd}
use Rattle.plain_defs.specs.declared.journal.Act.{Act}
use Rattle.plain_defs.specs.declared.journal.Acted.{Acted}
use Rattle.plain_defs.specs.declared.journal.How.{How}
use Rattle.plain_defs.specs.declared.journal.How.TheVariants.{Full, Checked}
use Rattle.plain_defs.specs.declared.journal.Item.{Item}
use Rattle.plain_defs.specs.declared.journal.Item.TheVariants as items
use Rattle.plain_defs.specs.History.{History, OpenEntry, acted, acted_in, checked, checked_in, closed, ended, ended_in, entry_of, resets_of, with_end}
use Rattle.device_defs.specs.Device.{all_acted}
use Rattle.run_report.proofs.Quiet.{behind_more}
use Rattle.subsystem_defs.specs.Beside.{acts_in, acts_of_entry, acts_of_item, acts_of_items, acts_running, behind_first, new_acts, new_items}

pub acts_both : (xs ys : List Item) → acts_of_items (xs ++ ys) ≡ acts_of_items xs ++ acts_of_items ys
acts_both [] ys = refl
acts_both (x ∷ xs) ys =
    ap (λ (l : List Act). acts_of_item x ++ l) (acts_both xs ys) ∙ sym (append_assoc (acts_of_item x) (acts_of_items xs) (acts_of_items ys))

pub no_act : (paths : List ℕ) → acts_of_items (resets_of paths) ≡ []
no_act [] = refl
no_act (p ∷ paths) = no_act paths

one_act : (acts : List Acted) (x : Acted) → acts_of_entry (acts ++ x ∷ []) ≡ acts_of_entry acts ++ x.act ∷ []
one_act [] x = refl
one_act (a ∷ acts) x = ap (λ (l : List Act). a.act ∷ l) (one_act acts x)

module _ (h : History) where
  pub closed_acts : (o : OpenEntry) (how : How) → acts_in (closed h o how) ≡ acts_of_items h.items ++ acts_of_entry o.acts
  closed_acts o how =
      append-nil (acts_of_items (h.items ++ entry_of o how ∷ resets_of h.waiting))
      ∙ acts_both h.items (entry_of o how ∷ resets_of h.waiting)
      ∙ ap (λ (l : List Act). acts_of_items h.items ++ (acts_of_entry o.acts ++ l)) (no_act h.waiting)
      ∙ ap (λ (l : List Act). acts_of_items h.items ++ l) (append-nil (acts_of_entry o.acts))

  pub same_program : (r : Option OpenEntry) → h.running ≡ r → acts_of_items h.items ++ acts_running r ≡ acts_in h
  same_program r is = ap (λ (x : Option OpenEntry). acts_of_items h.items ++ acts_running x) (sym is)

  ended_by : (e : CommandEnd) (o : OpenEntry) → h.running ≡ Some o → (b : Bool)
      → acts_in (if b then closed h (with_end o e) Full else record h { running = Some (with_end o e) }) ≡ acts_in h
  ended_by e o is true = closed_acts (with_end o e) Full ∙ same_program (Some o) is
  ended_by e o is false = same_program (Some o) is

  ended_from : (e : CommandEnd) (r : Option OpenEntry) → h.running ≡ r → acts_in (ended_in h e r) ≡ acts_in h
  ended_from e (Some o) is = ended_by e o is e.over
  ended_from e None is = refl

  pub ended_acts : (e : CommandEnd) → acts_in (ended h e) ≡ acts_in h
  ended_acts e = ended_from e h.running refl

  checked_from : (e : CommandEnd) (r : Option OpenEntry) → h.running ≡ r → acts_in (checked_in h e r) ≡ acts_in h
  checked_from e (Some o) is = closed_acts (with_end o e) Checked ∙ same_program (Some o) is
  checked_from e None is = refl

  pub checked_acts : (e : CommandEnd) → acts_in (checked h e) ≡ acts_in h
  checked_acts e = checked_from e h.running refl

  acted_from : (act : Act) (r : Option OpenEntry) → h.running ≡ r → acts_in (acted_in h act r) ≡ acts_in h ++ act ∷ []
  acted_from act (Some o) is =
      ap (λ (l : List Act). acts_of_items h.items ++ l) (one_act o.acts (record { after = length o.ends; act = act }))
      ∙ sym (append_assoc (acts_of_items h.items) (acts_of_entry o.acts) (act ∷ []))
      ∙ ap (λ (l : List Act). l ++ act ∷ []) (same_program (Some o) is)
  acted_from act None is =
      ap (λ (x : Option OpenEntry). acts_of_items (h.items ++ items.Act act ∷ []) ++ acts_running x) is
      ∙ append-nil (acts_of_items (h.items ++ items.Act act ∷ []))
      ∙ acts_both h.items (items.Act act ∷ [])
      ∙ ap (λ (l : List Act). l ++ act ∷ []) (sym (append-nil (acts_of_items h.items)) ∙ same_program None is)

pub all_acts : (acts : List Act) (h : History) → acts_in (all_acted h acts) ≡ acts_in h ++ acts
all_acts [] h = sym (append-nil (acts_in h))
all_acts (act ∷ acts) h =
    all_acts acts (acted h act) ∙ ap (λ (l : List Act). l ++ acts) (acted_from h act h.running refl)
    ∙ append_assoc (acts_in h) (act ∷ []) acts

pub came : (h k : History) (acts : List Act) → acts_in k ≡ acts_in h ++ acts → new_acts h k ≡ acts
came h k acts is = ap (λ (l : List Act). behind_first (length (acts_in h)) l) is ∙ behind_more (acts_in h) acts

pub acts_come : (h : History) (acts : List Act) → new_acts h (all_acted h acts) ≡ acts
acts_come h acts = came h (all_acted h acts) acts (all_acts acts h)

pub acts_before_end : (h : History) (acts : List Act) (e : CommandEnd) → new_acts h (ended (all_acted h acts) e) ≡ acts
acts_before_end h acts e = came h (ended (all_acted h acts) e) acts (ended_acts (all_acted h acts) e ∙ all_acts acts h)

pub acts_before_check : (h : History) (acts : List Act) (e : CommandEnd) → new_acts h (checked (all_acted h acts) e) ≡ acts
acts_before_check h acts e = came h (checked (all_acted h acts) e) acts (checked_acts (all_acted h acts) e ∙ all_acts acts h)

pub items_of_closed : (h : History) (o : OpenEntry) (how : How) → new_items h (closed h o how) ≡ entry_of o how ∷ resets_of h.waiting
items_of_closed h o how = behind_more h.items (entry_of o how ∷ resets_of h.waiting)
