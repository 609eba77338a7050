-- What comes to a history as a command ends is what the event's lines show.
use Rattle.std.proofs.Common.{◌≡◌, ◌+◌, ◌∷◌, [], ◌++◌, ◌∙◌, ℕ, length, List, Bool, true, false, Option, Some, None, refl, sym, ap, append_assoc, if◌then◌else◌}
use Rattle.std.proofs.lemmas.List.{append-nil, flat_map_more}
use Rattle.std.specs.List.{flat_map}
use Rattle.ckd_types.specs.declared.channel.CommandEnd.{CommandEnd}
use Rattle.plain_defs.specs.declared.journal.Act.{Act}
use Rattle.plain_defs.specs.declared.journal.How.{How}
use Rattle.plain_defs.specs.declared.journal.How.TheVariants.{Full, Cut, Checked}
use Rattle.plain_defs.specs.declared.journal.Item.{Item}
use Rattle.plain_defs.specs.declared.journal.Item.TheVariants as items
use Rattle.plain_defs.specs.History.{History, OpenEntry, acted, acted_in, checked, checked_in, closed, cut_by, ended}
use Rattle.plain_defs.specs.History.{ended_in, entry_of, lost_power, lost_power_in, resets_of, started, with_end}
use Rattle.device_defs.specs.Device.{all_acted}
use Rattle.report_text.specs.declared.answers.StartAnswer.TheVariants as start
use Rattle.report_text.specs.declared.line.ReportLine.{ReportLine}
use Rattle.report_text.specs.declared.line.ReportLine.TheVariants as lines
use Rattle.report_text.specs.Events.{ended_lines}
use Rattle.run_report.specs.Showing.{over_if, over_lines_of}
use Rattle.run_report.specs.Shown.{history_lines, item_lines, program_lines, running_lines}

flat_both : {X : Type 0} (f : X → List ReportLine) (xs ys : List X) → flat_map f (xs ++ ys) ≡ flat_map f xs ++ flat_map f ys
flat_both f [] ys = refl
flat_both f (x ∷ xs) ys = ap (λ (l : List ReportLine). f x ++ l) (flat_both f xs ys) ∙ sym (append_assoc (f x) (flat_map f xs) (flat_map f ys))

module _ (d : ℕ) where
  no_lines : (paths : List ℕ) → flat_map (item_lines d) (resets_of paths) ≡ []
  no_lines [] = refl
  no_lines (p ∷ paths) = no_lines paths

  one_end : (o : OpenEntry) (e : CommandEnd)
      → program_lines d o.path o.ordinal (o.ends ++ e ∷ []) ≡ program_lines d o.path o.ordinal o.ends ++ ended_lines o.path d o.ordinal e
  one_end o e = sym (flat_map_more (ended_lines o.path d o.ordinal) (lines.Start o.path d (start.Accepted o.ordinal) ∷ []) o.ends e)

  module _ (h : History) where
    same_program : (r : Option OpenEntry) → h.running ≡ r → flat_map (item_lines d) h.items ++ running_lines d r ≡ history_lines d h
    same_program r is = ap (λ (x : Option OpenEntry). flat_map (item_lines d) h.items ++ running_lines d x) (sym is)

    -- a program that is over, and items behind it that show nothing
    over_shows : (o : OpenEntry) (how : How) (ts : List Item) → flat_map (item_lines d) ts ≡ []
        → flat_map (item_lines d) (h.items ++ entry_of o how ∷ ts) ++ []
        ≡ flat_map (item_lines d) h.items ++ (program_lines d o.path o.ordinal o.ends ++ over_lines_of d o how)
    over_shows o how ts none =
        append-nil (flat_map (item_lines d) (h.items ++ entry_of o how ∷ ts))
        ∙ flat_both (item_lines d) h.items (entry_of o how ∷ ts)
        ∙ ap (λ (l : List ReportLine). flat_map (item_lines d) h.items ++ ((program_lines d o.path o.ordinal o.ends ++ over_lines_of d o how) ++ l)) none
        ∙ ap (λ (l : List ReportLine). flat_map (item_lines d) h.items ++ l)
        (append-nil (program_lines d o.path o.ordinal o.ends ++ over_lines_of d o how))

    closed_shows : (o : OpenEntry) (how : How) → history_lines d (closed h o how)
        ≡ flat_map (item_lines d) h.items ++ (program_lines d o.path o.ordinal o.ends ++ over_lines_of d o how)
    closed_shows o how = over_shows o how (resets_of h.waiting) (no_lines h.waiting)

    -- behind the lines of the program that runs
    behind : (o : OpenEntry) → h.running ≡ Some o → (xs : List ReportLine)
        → flat_map (item_lines d) h.items ++ (program_lines d o.path o.ordinal o.ends ++ xs) ≡ history_lines d h ++ xs
    behind o is xs =
        sym (append_assoc (flat_map (item_lines d) h.items) (program_lines d o.path o.ordinal o.ends) xs)
        ∙ ap (λ (l : List ReportLine). l ++ xs) (same_program (Some o) is)

    end_and_over : (o : OpenEntry) (e : CommandEnd) (how : How) → h.running ≡ Some o
        → history_lines d (closed h (with_end o e) how) ≡ history_lines d h ++ (ended_lines o.path d o.ordinal e ++ over_lines_of d o how)
    end_and_over o e how is =
        closed_shows (with_end o e) how
        ∙ ap (λ (l : List ReportLine). flat_map (item_lines d) h.items ++ (l ++ over_lines_of d o how)) (one_end o e)
        ∙ ap (λ (l : List ReportLine). flat_map (item_lines d) h.items ++ l)
        (append_assoc (program_lines d o.path o.ordinal o.ends) (ended_lines o.path d o.ordinal e) (over_lines_of d o how))
        ∙ behind o is (ended_lines o.path d o.ordinal e ++ over_lines_of d o how)

    end_alone : (o : OpenEntry) (e : CommandEnd) → h.running ≡ Some o
        → history_lines d (record h { running = Some (with_end o e) }) ≡ history_lines d h ++ ended_lines o.path d o.ordinal e
    end_alone o e is =
        ap (λ (l : List ReportLine). flat_map (item_lines d) h.items ++ l) (one_end o e) ∙ behind o is (ended_lines o.path d o.ordinal e)

    -- a program starts
    pub start_shows : (path ordinal : ℕ) → h.running ≡ None
        → history_lines d (started h path ordinal) ≡ history_lines d h ++ lines.Start path d (start.Accepted ordinal) ∷ []
    start_shows path ordinal is =
        ap (λ (l : List ReportLine). l ++ lines.Start path d (start.Accepted ordinal) ∷ [])
        (sym (append-nil (flat_map (item_lines d) h.items)) ∙ same_program None is)

    -- it is cut by a reset, or by a loss of power
    pub cut_shows : (o : OpenEntry) (more : ℕ) → h.running ≡ Some o
        → history_lines d (cut_by h o more) ≡ history_lines d h ++ over_lines_of d o (Cut (length o.ends + more))
    cut_shows o more is =
        over_shows o (Cut (length o.ends + more)) (items.Reset o.path ∷ resets_of h.waiting) (no_lines h.waiting)
        ∙ behind o is (over_lines_of d o (Cut (length o.ends + more)))

    pub power_shows : (o : OpenEntry) (more : ℕ) → h.running ≡ Some o
        → history_lines d (lost_power h more) ≡ history_lines d h ++ over_lines_of d o (Cut (length o.ends + more))
    power_shows o more is =
        ap (λ (r : Option OpenEntry). history_lines d (lost_power_in h more r)) is
        ∙ over_shows o (Cut (length o.ends + more)) (items.Power ∷ []) refl
        ∙ behind o is (over_lines_of d o (Cut (length o.ends + more)))

    by_over : (o : OpenEntry) (e : CommandEnd) → h.running ≡ Some o → (b : Bool)
        → history_lines d (if b then closed h (with_end o e) Full else record h { running = Some (with_end o e) })
        ≡ history_lines d h ++ (ended_lines o.path d o.ordinal e ++ over_if d o b)
    by_over o e is true = end_and_over o e Full is
    by_over o e is false =
        end_alone o e is ∙ ap (λ (l : List ReportLine). history_lines d h ++ l) (sym (append-nil (ended_lines o.path d o.ordinal e)))

    -- a command of it ends
    pub ended_shows : (o : OpenEntry) (e : CommandEnd) → h.running ≡ Some o
        → history_lines d (ended h e) ≡ history_lines d h ++ (ended_lines o.path d o.ordinal e ++ over_if d o e.over)
    ended_shows o e is = ap (λ (r : Option OpenEntry). history_lines d (ended_in h e r)) is ∙ by_over o e is e.over

    -- or is checked
    pub checked_shows : (o : OpenEntry) (e : CommandEnd) → h.running ≡ Some o
        → history_lines d (checked h e) ≡ history_lines d h ++ (ended_lines o.path d o.ordinal e ++ over_lines_of d o Checked)
    checked_shows o e is = ap (λ (r : Option OpenEntry). history_lines d (checked_in h e r)) is ∙ end_and_over o e Checked is

    acted_from : (act : Act) (r : Option OpenEntry) → h.running ≡ r → history_lines d (acted_in h act r) ≡ history_lines d h
    acted_from act (Some o) is = same_program (Some o) is
    acted_from act None is =
        ap (λ (l : List ReportLine). l ++ running_lines d h.running)
        (flat_both (item_lines d) h.items (items.Act act ∷ []) ∙ append-nil (flat_map (item_lines d) h.items))

  -- acts show nothing
  pub acts_show : (acts : List Act) (h : History) → history_lines d (all_acted h acts) ≡ history_lines d h
  acts_show [] h = refl
  acts_show (act ∷ acts) h = acts_show acts (acted h act) ∙ acted_from h act h.running refl
