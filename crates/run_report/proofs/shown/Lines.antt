-- What the lines of an event show of the programs of one device.
use Rattle.std.proofs.Common.{
  ◌≡◌,
  ◌==◌,
  ◌&&◌,
  ◌++◌,
  ℕ,
  Bool,
  true,
  false,
  List,
  [],
  ◌∷◌,
  map,
  Option,
  Some,
  None,
  refl,
  sym,
  ap,
  ◌∙◌,
  append_assoc,
  if◌then◌else◌,
}
use Rattle.std.specs.Prelude.{⊤}
use Rattle.std.proofs.lemmas.Bool.{cond_both, eq-eqb}
use Rattle.ckd_types.specs.declared.channel.CommandEnd.{CommandEnd}
use Rattle.ckd_types.specs.declared.sense.Sense.{Sense}
use Rattle.plain_defs.specs.declared.journal.Item.{Item}
use Rattle.plain_defs.specs.declared.journal.Item.TheVariants as items
use Rattle.device_defs.specs.Marks.{MarksDevice}
use Rattle.report_text.specs.declared.answers.StartAnswer.{StartAnswer}
use Rattle.report_text.specs.declared.event.Happened.{Happened}
use Rattle.report_text.specs.declared.event.Happened.TheVariants as did
use Rattle.report_text.specs.declared.event.Loosed.{Loosed}
use Rattle.report_text.specs.declared.line.ReportLine.{ReportLine}
use Rattle.report_text.specs.declared.line.ReportLine.TheVariants as lines
use Rattle.report_text.specs.Ends.{data_lines, sense_lines}
use Rattle.report_text.specs.Events.{ended_lines, first_lines, io_lines, last_line, line_if, loosed_line, program_over_lines}
use Rattle.run_report.specs.Beside.{loosed, loose_lines, over_lines, over_of, power_lines, of_each}
use Rattle.run_report.specs.Events.{work_lines, all_power_lines}
use Rattle.report_text.specs.Counting.{is_accepted}
use Rattle.run_report.specs.Shown.{shows, owns, shown_from}
use Rattle.subsystem_defs.specs.declared.end.EventEnd.{EventEnd}
use Rattle.subsystem_defs.specs.Beside.{loose_told, new_items}

module _ (n : ℕ) where
  -- Lines behind others that show the same, whatever END line stands before them

  by_shows : (b : Bool) (x : ReportLine) (l k ls : List ReportLine) → l ≡ k ++ ls → (if b then x ∷ l else l) ≡ (if b then x ∷ k else k) ++ ls
  by_shows true x l k ls e = ap (λ (m : List ReportLine). x ∷ m) e
  by_shows false x l k ls e = e

  pub front : (xs rest says : List ReportLine) (own : Bool) → ((o : Bool) → shown_from n o rest ≡ says) →
      shown_from n own (xs ++ rest) ≡ shown_from n own xs ++ says
  front [] rest says own f = f own
  front (x ∷ xs) rest says own f =
      by_shows (shows n own x) x (shown_from n (owns n own x) (xs ++ rest)) (shown_from n (owns n own x) xs) says (front xs rest says (owns n own x) f)

  -- What the lines of acts show

  acts_skip : (xs : List Loosed) (ls : List ReportLine) (own : Bool) → shown_from n own (map loosed_line xs ++ ls) ≡ shown_from n own ls
  acts_skip [] ls own = refl
  acts_skip (x ∷ xs) ls own = acts_skip xs ls own

  loose_skip : (bs ks : List MarksDevice) (ls : List ReportLine) (own : Bool) → shown_from n own (of_each loose_lines bs ks ++ ls) ≡ shown_from n own ls
  loose_skip [] ks ls own = refl
  loose_skip (b ∷ bs) [] ls own = refl
  loose_skip (b ∷ bs) (a ∷ ks) ls own =
      ap (λ (l : List ReportLine). shown_from n own l) (append_assoc (loose_lines b a) (of_each loose_lines bs ks) ls)
      ∙ acts_skip (map (loosed b.store.device) (loose_told b a)) (of_each loose_lines bs ks ++ ls) own ∙ loose_skip bs ks ls own

  calls_skip : (reads writes : ℕ) (ls : List ReportLine) (own : Bool) → shown_from n own (io_lines reads writes ++ ls) ≡ shown_from n own ls
  calls_skip reads writes ls own =
      cond_both ((reads == 0) && (writes == 0)) [] (lines.Io reads writes ∷ []) (λ (l : List ReportLine). shown_from n own (l ++ ls) ≡ shown_from n own ls)
      (λ _. refl) (λ _. refl)

  -- Which program is over

  chosen : (b : Bool) (x : ReportLine) (l : List ReportLine) → (if b then x ∷ l else l) ≡ (if b then x ∷ [] else []) ++ l
  chosen true x l = refl
  chosen false x l = refl

  neither : (b : Bool) (l : List ReportLine) → l ≡ (if b then [] else []) ++ l
  neither true l = refl
  neither false l = refl

  over_shown : (k : ℕ) (xs : List Item) (ls : List ReportLine) (own : Bool) →
      shown_from n own (program_over_lines (over_of k xs) ++ ls) ≡ (if k == n then program_over_lines (over_of k xs) else []) ++ shown_from n own ls
  over_shown k [] ls own = neither (k == n) (shown_from n own ls)
  over_shown k (items.Program e ∷ xs) ls own = chosen (k == n) _ (shown_from n own ls)
  over_shown k (items.Reset p ∷ xs) ls own = neither (k == n) (shown_from n own ls)
  over_shown k (items.Fresh ∷ xs) ls own = neither (k == n) (shown_from n own ls)
  over_shown k (items.Act act ∷ xs) ls own = neither (k == n) (shown_from n own ls)
  over_shown k (items.Power ∷ xs) ls own = neither (k == n) (shown_from n own ls)

  abbrev pub overs_of : List MarksDevice → List MarksDevice → List ReportLine
  overs_of [] ks = []
  overs_of (b ∷ bs) [] = []
  overs_of (b ∷ bs) (a ∷ ks) = (if b.store.device == n then over_lines b a else []) ++ overs_of bs ks

  overs_shown : (bs ks : List MarksDevice) (ls : List ReportLine) (own : Bool) →
      shown_from n own (of_each over_lines bs ks ++ ls) ≡ overs_of bs ks ++ shown_from n own ls
  overs_shown [] ks ls own = refl
  overs_shown (b ∷ bs) [] ls own = refl
  overs_shown (b ∷ bs) (a ∷ ks) ls own =
      let here = if b.store.device == n then over_lines b a else [] in
      ap (λ (l : List ReportLine). shown_from n own l) (append_assoc (over_lines b a) (of_each over_lines bs ks) ls)
      ∙ over_shown b.store.device (new_items b.history a.history) (of_each over_lines bs ks ++ ls) own
      ∙ ap (λ (l : List ReportLine). here ++ l) (overs_shown bs ks ls own)
      ∙ sym (append_assoc here (overs_of bs ks) (shown_from n own ls))

  -- a loss of power
  powers_shown : (bs ks : List MarksDevice) (ls : List ReportLine) (own : Bool) →
      shown_from n own (of_each power_lines bs ks ++ ls) ≡ overs_of bs ks ++ shown_from n own ls
  powers_shown [] ks ls own = refl
  powers_shown (b ∷ bs) [] ls own = refl
  powers_shown (b ∷ bs) (a ∷ ks) ls own =
      let here = if b.store.device == n then over_lines b a else [] in
      ap (λ (l : List ReportLine). shown_from n own l)
      (append_assoc (power_lines b a) (of_each power_lines bs ks) ls
      ∙ append_assoc (over_lines b a) (loose_lines b a) (of_each power_lines bs ks ++ ls))
      ∙ over_shown b.store.device (new_items b.history a.history) (loose_lines b a ++ (of_each power_lines bs ks ++ ls)) own
      ∙ ap (λ (l : List ReportLine). here ++ l)
      (acts_skip (map (loosed b.store.device) (loose_told b a)) (of_each power_lines bs ks ++ ls) own ∙ powers_shown bs ks ls own)
      ∙ sym (append_assoc here (overs_of bs ks) (shown_from n own ls))

  last_skip : (h : Happened) (own : Bool) → shown_from n own (line_if (last_line h)) ≡ []
  last_skip (did.First line) own = refl
  last_skip (did.Ended p d o e) own = refl
  last_skip (did.Reset p d) own = refl
  last_skip (did.Ordered order a) own = refl

  none_more : (l k : List ReportLine) → k ≡ [] → l ++ k ≡ l ++ []
  none_more l k e = ap (λ (m : List ReportLine). l ++ m) e

  -- The whole event

  pub work_shows : (h : Happened) (reads writes : ℕ) (bs ks : List MarksDevice) (own : Bool) →
      shown_from n own (work_lines h reads writes bs ks) ≡ shown_from n own (first_lines h) ++ (overs_of bs ks ++ [])
  work_shows h reads writes bs ks own =
      front (first_lines h)
      (of_each loose_lines bs ks ++ (io_lines reads writes ++ (of_each over_lines bs ks ++ line_if (last_line h)))) (overs_of bs ks ++ []) own
      (λ o. loose_skip bs ks (io_lines reads writes ++ (of_each over_lines bs ks ++ line_if (last_line h))) o
      ∙ calls_skip reads writes (of_each over_lines bs ks ++ line_if (last_line h)) o
      ∙ overs_shown bs ks (line_if (last_line h)) o
      ∙ none_more (overs_of bs ks) (shown_from n o (line_if (last_line h))) (last_skip h o))

  pub power_shows : (end : EventEnd) (bs ks : List MarksDevice) (own : Bool) → shown_from n own (all_power_lines end bs ks) ≡ overs_of bs ks ++ []
  power_shows end bs ks own = powers_shown bs ks _ own

  -- What an event did, where that is of another device

  abbrev pub IsOther : Happened → Type 0
  IsOther (did.First line) = (own : Bool) → shown_from n own (line ∷ []) ≡ []
  IsOther (did.Ended p d o e) = (d == n) ≡ false
  IsOther _ = ⊤

  data_skip : (bytes : List ℕ) (ls : List ReportLine) → shown_from n false (data_lines bytes ++ ls) ≡ shown_from n false ls
  data_skip [] ls = refl
  data_skip (b ∷ bytes) ls = refl

  sense_skip : (sense : Option Sense) → shown_from n false (sense_lines sense) ≡ []
  sense_skip (Some sense) = refl
  sense_skip None = refl

  not_first : (b : Bool) (x : ReportLine) (f : Bool → List ReportLine) → b ≡ false → f false ≡ [] → (if b then x ∷ f b else f b) ≡ []
  not_first true x f is none = absurd (cc)
  not_first false x f is none = none

  pub accepted_not : (b c : Bool) (x : ReportLine) → b ≡ false → (if b && c then x ∷ [] else []) ≡ []
  accepted_not true c x is = absurd (cc)
  accepted_not false c x is = refl

  pub other_shows : (h : Happened) → IsOther h → (own : Bool) → shown_from n own (first_lines h) ≡ []
  other_shows (did.First line) is own = is own
  other_shows (did.Ended p d o e) is own =
      not_first (d == n) _ (λ (b : Bool). shown_from n b (data_lines e.sent ++ sense_lines e.sense)) is
      (data_skip e.sent (sense_lines e.sense) ∙ sense_skip e.sense)
  other_shows (did.Reset p d) is own = refl
  other_shows (did.Ordered order a) is own = refl

  -- the end of a command of its own
  own_data : (bytes : List ℕ) (ls : List ReportLine) → shown_from n true (data_lines bytes ++ ls) ≡ data_lines bytes ++ shown_from n true ls
  own_data [] ls = refl
  own_data (b ∷ bytes) ls = refl

  own_sense : (sense : Option Sense) → shown_from n true (sense_lines sense) ≡ sense_lines sense
  own_sense (Some sense) = refl
  own_sense None = refl

  first_own : (b : Bool) (x : ReportLine) (f : Bool → List ReportLine) (ls : List ReportLine) → b ≡ true → f true ≡ ls → (if b then x ∷ f b else f b) ≡ x ∷ ls
  first_own true x f ls is e = ap (λ (l : List ReportLine). x ∷ l) e
  first_own false x f ls is e = absurd (cc)

  pub ended_shown : (path ordinal : ℕ) (e : CommandEnd) (own : Bool) →
      shown_from n own (first_lines (did.Ended path n ordinal e)) ≡ ended_lines path n ordinal e
  ended_shown path ordinal e own =
      first_own (n == n) _ (λ (b : Bool). shown_from n b (data_lines e.sent ++ sense_lines e.sense)) (data_lines e.sent ++ sense_lines e.sense)
      (eq-eqb n n refl)
      (own_data e.sent (sense_lines e.sense) ∙ ap (λ (l : List ReportLine). data_lines e.sent ++ l) (own_sense e.sense))

  pub started_shown : (path ordinal : ℕ) (own : Bool) → (a : StartAnswer) → is_accepted a ≡ true →
      shown_from n own (first_lines (did.First (lines.Start path n a))) ≡ lines.Start path n a ∷ []
  started_shown path ordinal own a is =
      first_own ((n == n) && is_accepted a) (lines.Start path n a) (λ (b : Bool). []) []
      (ap (λ (b : Bool). b && is_accepted a) (eq-eqb n n refl) ∙ is) refl
