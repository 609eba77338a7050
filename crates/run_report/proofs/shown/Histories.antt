-- What came to a device's history in an event is what the event's lines show of its programs.
use Rattle.std.proofs.Common.{
  ◌≡◌,
  ◌==◌,
  ◌+◌,
  ◌++◌,
  ℕ,
  Bool,
  true,
  false,
  List,
  [],
  ◌∷◌,
  Option,
  Some,
  None,
  length,
  refl,
  sym,
  ap,
  subst,
  ◌∙◌,
  append_assoc,
  if◌then◌else◌,
}
use Rattle.std.proofs.lemmas.List.{append-nil, flat_map_more}
use Rattle.std.specs.List.{flat_map}
use Rattle.ckd_types.specs.declared.channel.CommandEnd.{CommandEnd}
use Rattle.plain_defs.specs.declared.journal.Act.{Act}
use Rattle.plain_defs.specs.declared.journal.How.{How}
use Rattle.plain_defs.specs.declared.journal.How.TheVariants.{Full, Cut, Checked}
use Rattle.plain_defs.specs.declared.journal.Item.{Item}
use Rattle.plain_defs.specs.declared.journal.Item.TheVariants as items
use Rattle.plain_defs.specs.History.{
  OpenEntry,
  History,
  acted,
  acted_in,
  ended,
  ended_in,
  checked,
  checked_in,
  closed,
  cut_by,
  put,
  entry_of,
  resets_of,
  with_end,
  reset_in_history as history_reset,
  reset_in,
  lost_power,
  lost_power_in,
  emptied,
}
use Rattle.plain_defs.specs.Legal.{is_used, is_started}
use Rattle.device_defs.specs.Device.{all_acted}
use Rattle.device_laws.proofs.HistoryTold.{HasActed, acted_so, HasEnded, ended_so, checked_so}
use Rattle.report_text.specs.declared.line.ReportLine.{ReportLine}
use Rattle.report_text.specs.Events.{ended_lines, program_over_lines}
use Rattle.run_report.specs.Beside.{over_of}
use Rattle.run_report.specs.Showing.{over_if, over_lines_of}
use Rattle.run_report.specs.Shown.{history_lines, item_lines, running_lines}
use Rattle.run_report.proofs.HistoryShown.{acts_show, ended_shows, checked_shows, cut_shows, power_shows}
use Rattle.run_report.proofs.OneDevice.{none_behind}
use Rattle.run_report.proofs.Quiet.{behind_more}
use Rattle.subsystem_defs.specs.Beside.{behind_first, new_items}

-- what an event said first, and the program that is over
abbrev pub HistoryShows : ℕ → History → History → List ReportLine → Type 0
HistoryShows n h k says = history_lines n k ≡ history_lines n h ++ (says ++ program_over_lines (over_of n (new_items h k)))

module _ (n : ℕ) where
  -- of a program that is over by its lines
  pub shows_by : (h k : History) (says over : List ReportLine) → history_lines n k ≡ history_lines n h ++ (says ++ over) →
      program_over_lines (over_of n (new_items h k)) ≡ over → HistoryShows n h k says
  shows_by h k says over shown is = shown ∙ ap (λ (l : List ReportLine). history_lines n h ++ (says ++ l)) (sym is)

  nothing : (h k : History) → history_lines n k ≡ history_lines n h → program_over_lines (over_of n (new_items h k)) ≡ [] → HistoryShows n h k []
  nothing h k same is = shows_by h k [] [] (same ∙ sym (append-nil (history_lines n h))) is

  -- nothing came
  pub same_shows : (h k : History) → k ≡ h → HistoryShows n h k []
  same_shows h k is =
      nothing h k (ap (history_lines n) is)
      (ap (λ (x : History). program_over_lines (over_of n (new_items h x))) is ∙ ap (λ (l : List Item). program_over_lines (over_of n l)) (none_behind h.items))

  -- items came of which none is a program
  more_items : (h k : History) (xs : List Item) → k.items ≡ h.items ++ xs → new_items h k ≡ xs
  more_items h k xs is = ap (behind_first (length h.items)) is ∙ behind_more h.items xs

  -- Acts

  record Acts (h k : History) : Type 0 where
    items_are : List Item
    are : k.items ≡ h.items ++ items_are
    over : over_of n items_are ≡ None

  first_act : (h k : History) → h.items ≡ k.items → (g : History) → Acts k g → Acts h g
  first_act h k same g a = record { items_are = a.items_are; are = a.are ∙ ap (λ (l : List Item). l ++ a.items_are) (sym same); over = a.over }

  act_item : (h : History) (act : Act) (k : History) → k.items ≡ h.items ++ items.Act act ∷ [] → (g : History) → Acts k g → Acts h g
  act_item h act k is g a = record {
    items_are = items.Act act ∷ a.items_are;
    are = a.are ∙ ap (λ (l : List Item). l ++ a.items_are) is ∙ append_assoc h.items (items.Act act ∷ []) a.items_are;
    over = refl;
  }

  one_act : (h : History) (act : Act) (r : Option OpenEntry) → h.running ≡ r → (g : History) → Acts (acted h act) g → Acts h g
  one_act h act (Some o) is g a = first_act h (acted h act) (sym (ap (λ (r : Option OpenEntry). (acted_in h act r).items) is)) g a
  one_act h act None is g a = act_item h act (acted h act) (ap (λ (r : Option OpenEntry). (acted_in h act r).items) is) g a

  all_acts : (acts : List Act) (h : History) → Acts h (all_acted h acts)
  all_acts [] h = record { items_are = []; are = sym (append-nil h.items); over = refl }
  all_acts (act ∷ acts) h = one_act h act h.running refl (all_acted h (act ∷ acts)) (all_acts acts (acted h act))

  pub acts_shown : (h : History) (acts : List Act) → HistoryShows n h (all_acted h acts) []
  acts_shown h acts =
      let a = all_acts acts h in
      nothing h (all_acted h acts) (acts_show n acts h)
      (ap (λ (l : List Item). program_over_lines (over_of n l)) (more_items h (all_acted h acts) a.items_are a.are) ∙ ap program_over_lines a.over)

  -- The program that runs, behind acts

  record StillOpen (h : History) (o : OpenEntry) (k : History) : Type 0 where
    entry : OpenEntry
    running : k.running ≡ Some entry
    path : entry.path ≡ o.path
    ordinal : entry.ordinal ≡ o.ordinal
    items_are : k.items ≡ h.items

  act_open : (h : History) (o : OpenEntry) (k : History) (act : Act) → StillOpen h o k → StillOpen h o (acted k act)
  act_open h o k act s =
      subst (λ (r : Option OpenEntry). StillOpen h o (acted_in k act r)) (sym s.running) (record {
        entry = record s.entry { acts = s.entry.acts ++ record { after = length s.entry.ends; act = act } ∷ [] };
        running = refl;
        path = s.path;
        ordinal = s.ordinal;
        items_are = s.items_are;
      })

  all_open : (acts : List Act) (h : History) (o : OpenEntry) (k : History) → StillOpen h o k → StillOpen h o (all_acted k acts)
  all_open [] h o k s = s
  all_open (act ∷ acts) h o k s = all_open acts h o (acted k act) (act_open h o k act s)

  open_first : (h : History) (o : OpenEntry) → h.running ≡ Some o → StillOpen h o h
  open_first h o is = record { entry = o; running = is; path = refl; ordinal = refl; items_are = refl }

  closed_over : (h k : History) (o : OpenEntry) (how : How) → k.items ≡ h.items → program_over_lines (over_of n (new_items h (closed k o how)))
      ≡ over_lines_of n o how
  closed_over h k o how same =
      ap (λ (l : List Item). program_over_lines (over_of n (behind_first (length h.items) (l ++ entry_of o how ∷ resets_of k.waiting)))) same
      ∙ ap (λ (l : List Item). program_over_lines (over_of n l)) (behind_more h.items (entry_of o how ∷ resets_of k.waiting))

  by_over : (h k : History) (o : OpenEntry) (e : CommandEnd) → k.items ≡ h.items → (b : Bool) →
      program_over_lines (over_of n (new_items h (if b then closed k (with_end o e) Full else record k { running = Some (with_end o e) }))) ≡ over_if n o b
  by_over h k o e same true = closed_over h k (with_end o e) Full same
  by_over h k o e same false =
      ap (λ (l : List Item). program_over_lines (over_of n (behind_first (length h.items) l))) same
      ∙ ap (λ (l : List Item). program_over_lines (over_of n l)) (none_behind h.items)

  as_named : (h : History) (o x : OpenEntry) (e : CommandEnd) → x.path ≡ o.path → x.ordinal ≡ o.ordinal →
      ended_lines x.path n x.ordinal e ≡ ended_lines o.path n o.ordinal e
  as_named h o x e path ordinal =
      ap (λ (p : ℕ). ended_lines p n x.ordinal e) path ∙ ap (λ (i : ℕ). ended_lines o.path n i e) ordinal

  -- a command ended
  pub ended_is_shown : (h : History) (o : OpenEntry) → h.running ≡ Some o → (e : CommandEnd) (k : History) → HasEnded h e k →
      HistoryShows n h k (ended_lines o.path n o.ordinal e)
  ended_is_shown h o is e k (ended_so acts) =
      let g = all_acted h acts in
      let s = all_open acts h o h (open_first h o is) in
      shows_by h (ended g e) (ended_lines o.path n o.ordinal e) (over_if n s.entry e.over)
      (ended_shows n g s.entry e s.running
      ∙ ap (λ (l : List ReportLine). l ++ (ended_lines s.entry.path n s.entry.ordinal e ++ over_if n s.entry e.over)) (acts_show n acts h)
      ∙ ap (λ (l : List ReportLine). history_lines n h ++ (l ++ over_if n s.entry e.over)) (as_named h o s.entry e s.path s.ordinal))
      (ap (λ (r : Option OpenEntry). program_over_lines (over_of n (new_items h (ended_in g e r)))) s.running ∙ by_over h g s.entry e s.items_are e.over)
  ended_is_shown h o is e k (checked_so acts) =
      let g = all_acted h acts in
      let s = all_open acts h o h (open_first h o is) in
      shows_by h (checked g e) (ended_lines o.path n o.ordinal e) (over_lines_of n s.entry Checked)
      (checked_shows n g s.entry e s.running
      ∙ ap (λ (l : List ReportLine). l ++ (ended_lines s.entry.path n s.entry.ordinal e ++ over_lines_of n s.entry Checked)) (acts_show n acts h)
      ∙ ap (λ (l : List ReportLine). history_lines n h ++ (l ++ over_lines_of n s.entry Checked)) (as_named h o s.entry e s.path s.ordinal))
      (ap (λ (r : Option OpenEntry). program_over_lines (over_of n (new_items h (checked_in g e r)))) s.running
      ∙ closed_over h g (with_end s.entry e) Checked s.items_are)

  -- where nothing runs none ends
  idle_acts : (acts : List Act) (h : History) → h.running ≡ None → (all_acted h acts).running ≡ None
  idle_acts [] h is = is
  idle_acts (act ∷ acts) h is = idle_acts acts (acted h act) (ap (λ (r : Option OpenEntry). (acted_in h act r).running) is ∙ is)

  pub idle_ended : (h : History) → h.running ≡ None → (e : CommandEnd) (k : History) → HasEnded h e k → HistoryShows n h k []
  idle_ended h is e k (ended_so acts) =
      subst (λ (x : History). HistoryShows n h x [])
      (sym (ap (λ (r : Option OpenEntry). ended_in (all_acted h acts) e r) (idle_acts acts h is))) (acts_shown h acts)
  idle_ended h is e k (checked_so acts) =
      subst (λ (x : History). HistoryShows n h x [])
      (sym (ap (λ (r : Option OpenEntry). checked_in (all_acted h acts) e r) (idle_acts acts h is))) (acts_shown h acts)

  pub acted_is_shown : (h k : History) → HasActed h k → HistoryShows n h k []
  acted_is_shown h k (acted_so acts) = acts_shown h acts

  -- Items that show nothing

  item_shows : (h : History) (x : Item) → item_lines n x ≡ [] → over_of n (x ∷ []) ≡ None →
      HistoryShows n h (record h { items = h.items ++ x ∷ [] }) []
  item_shows h x none over =
      nothing h (record h { items = h.items ++ x ∷ [] })
      (ap (λ (l : List ReportLine). l ++ running_lines n h.running) (sym (flat_map_more (item_lines n) [] h.items x)
      ∙ ap (λ (l : List ReportLine). flat_map (item_lines n) h.items ++ l) none ∙ append-nil (flat_map (item_lines n) h.items)))
      (ap (λ (l : List Item). program_over_lines (over_of n l)) (behind_more h.items (x ∷ [])) ∙ ap program_over_lines over)

  pub emptied_shows : (h : History) → HistoryShows n h (emptied h) []
  emptied_shows h = item_shows h items.Fresh refl refl

  -- Resets

  cut_is_shown : (h : History) (o : OpenEntry) (more : ℕ) → h.running ≡ Some o → HistoryShows n h (cut_by h o more) []
  cut_is_shown h o more is =
      shows_by h (cut_by h o more) [] (over_lines_of n o (Cut (length o.ends + more))) (cut_shows n h o more is)
      (ap (λ (l : List Item). program_over_lines (over_of n l)) (behind_more h.items (entry_of o (Cut (length o.ends + more)) ∷ items.Reset o.path
      ∷ resets_of h.waiting)))

  waits_shows : (h : History) (path : ℕ) (b : Bool) → HistoryShows n h (if b then record h { waiting = put path h.waiting } else h) []
  waits_shows h path true = nothing h (record h { waiting = put path h.waiting }) refl
      (ap (λ (l : List Item). program_over_lines (over_of n l)) (none_behind h.items))
  waits_shows h path false = same_shows h h refl

  reset_open : (h : History) (path more : ℕ) (o : OpenEntry) → h.running ≡ Some o → (b : Bool) →
      HistoryShows n h (if b then cut_by h o more else if is_used path false h.items then record h { waiting = put path h.waiting } else h) []
  reset_open h path more o is true = cut_is_shown h o more is
  reset_open h path more o is false = waits_shows h path (is_used path false h.items)

  reset_idle : (h : History) (path : ℕ) (b : Bool) → HistoryShows n h (if b then record h { items = h.items ++ items.Reset path ∷ [] } else h) []
  reset_idle h path true = item_shows h (items.Reset path) refl refl
  reset_idle h path false = same_shows h h refl

  reset_by : (h : History) (path more : ℕ) (r : Option OpenEntry) → h.running ≡ r → HistoryShows n h (reset_in h path more r) []
  reset_by h path more (Some o) is = reset_open h path more o is (o.path == path)
  reset_by h path more None is = reset_idle h path (is_used path false h.items)

  pub reset_shows : (h : History) (path more : ℕ) → HistoryShows n h (history_reset h path more) []
  reset_shows h path more = reset_by h path more h.running refl

  -- Power

  power_idle : (h : History) → h.running ≡ None → (b : Bool) →
      HistoryShows n h (if b then record { items = h.items ++ items.Power ∷ []; running = None; waiting = [] } else h) []
  power_idle h is true =
      nothing h (record { items = h.items ++ items.Power ∷ []; running = None; waiting = [] })
      (append-nil (flat_map (item_lines n) (h.items ++ items.Power ∷ []))
      ∙ sym (flat_map_more (item_lines n) [] h.items items.Power) ∙ append-nil (flat_map (item_lines n) h.items)
      ∙ sym (append-nil (flat_map (item_lines n) h.items))
      ∙ ap (λ (r : Option OpenEntry). history_lines n (record h { running = r })) (sym is))
      (ap (λ (l : List Item). program_over_lines (over_of n l)) (behind_more h.items (items.Power ∷ [])))
  power_idle h is false = same_shows h h refl

  power_by : (h : History) (more : ℕ) (r : Option OpenEntry) → h.running ≡ r → HistoryShows n h (lost_power_in h more r) []
  power_by h more (Some o) is =
      shows_by h (lost_power_in h more (Some o)) [] (over_lines_of n o (Cut (length o.ends + more)))
      (ap (λ (r : Option OpenEntry). history_lines n (lost_power_in h more r)) (sym is) ∙ power_shows n h o more is)
      (ap (λ (l : List Item). program_over_lines (over_of n l)) (behind_more h.items (entry_of o (Cut (length o.ends + more)) ∷ items.Power ∷ [])))
  power_by h more None is = power_idle h is (is_started false h.items)

  pub power_is_shown : (h : History) (more : ℕ) → HistoryShows n h (lost_power h more) []
  power_is_shown h more = power_by h more h.running refl
