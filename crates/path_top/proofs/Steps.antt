-- What is left of a journal's lines, one step on.
use Rattle.std.proofs.Common.{◌≡◌, ◌<◌, ◌≤◌, ◌+◌, ◌++◌, ◌∷◌, [], ℕ, suc, Bool, true, false, List, length, drop, take, get_or, refl, sym, ap, ◌∙◌, arith, append_assoc}
use Rattle.std.specs.Prelude.{nat_le, if◌then◌else◌}
use Rattle.std.proofs.lemmas.List.{at_drop_all, at_drop_more}
use Rattle.ckd_types.specs.declared.channel.CommandEnd.{CommandEnd}
use Rattle.plain_defs.specs.declared.journal.Acted.{Acted}
use Rattle.plain_defs.specs.declared.journal.Item.{Item}
use Rattle.plain_defs.specs.Entry.{ProgramEntry}
use Rattle.report_text.specs.declared.line.ReportLine.{ReportLine}
use Rattle.report_text.specs.Events.{ended_lines}
use Rattle.path_top.specs.declared.journal.LooseCount.{LooseCount}
use Rattle.path_top.specs.Journals.{act_line, act_lines, count_before, end_lines, item_lines, lines_of_items, loose_behind, loose_behind_all, loose_behind_item}

pub count_least : (k : ℕ) (acts : List Acted) → count_before k acts ≤ length acts
count_least k [] = omega arith
count_least k (a ∷ acts) = by_test (count_least k acts) (nat_le a.after k) where
  by_test : count_before k acts ≤ length acts → (b : Bool) → (if b then suc (count_before k acts) else 0) ≤ suc (length acts)
  by_test rest true = omega (arith, rest)
  by_test rest false = omega arith

-- Acts, ends and items that are left: of which the first, and what is loose behind it

pub acts_on : (d : ℕ) (acts : List Acted) (i : ℕ) (a : Acted) (s behind : LooseCount) (line : ReportLine) → i < length acts → a ≡ get_or acts i a →
    line ≡ act_line d s a.act → behind ≡ loose_behind s a.act →
    act_lines d s (drop i acts) ≡ (line ∷ []) ++ act_lines d behind (drop (i + 1) acts)
acts_on d acts i a s behind line inside is says goes =
    at_drop_more (act_lines d s) acts i a inside
    ∙ ap (λ (x : Acted). act_line d s x.act ∷ act_lines d (loose_behind s x.act) (drop (i + 1) acts)) (sym is)
    ∙ ap (λ (x : ReportLine). x ∷ act_lines d (loose_behind s a.act) (drop (i + 1) acts)) (sym says)
    ∙ ap (λ (x : LooseCount). line ∷ act_lines d x (drop (i + 1) acts)) (sym goes)

module _ (d : ℕ) (p : ProgramEntry) (ends : List CommandEnd) (i : ℕ) (e : CommandEnd) (s : LooseCount) (left : List Acted) (inside : i < length ends)
    (is : e ≡ get_or ends i e) where
  abbrev ends_with : List Acted → List Acted → LooseCount → ℕ → List ReportLine
  ends_with here later behind k =
      act_lines d s here ++ (ended_lines p.path d p.ordinal e ++ end_lines d p k behind later (drop (i + 1) ends))

  ends_first : end_lines d p i s left (drop i ends)
      ≡ ends_with (take (count_before i left) left) (drop (count_before i left) left) (loose_behind_all s (take (count_before i left) left)) (suc i)
  ends_first =
      at_drop_more (end_lines d p i s left) ends i e inside
      ∙ ap (λ (x : CommandEnd). end_lines d p i s left (x ∷ drop (i + 1) ends)) (sym is)

  pub ends_on : (n : ℕ) (here later : List Acted) (behind : LooseCount) → n ≡ count_before i left → here ≡ take n left → later ≡ drop n left →
      behind ≡ loose_behind_all s here →
      end_lines d p i s left (drop i ends)
      ≡ (act_lines d s here ++ ended_lines p.path d p.ordinal e) ++ end_lines d p (i + 1) behind later (drop (i + 1) ends)
  ends_on n here later behind count front back goes =
      ends_first
      ∙ ap (λ (k : ℕ). ends_with (take k left) (drop k left) (loose_behind_all s (take k left)) (suc i)) (sym count)
      ∙ ap (λ (l : List Acted). ends_with l (drop n left) (loose_behind_all s l) (suc i)) (sym front)
      ∙ ap (λ (l : List Acted). ends_with here l (loose_behind_all s here) (suc i)) (sym back)
      ∙ ap (λ (x : LooseCount). ends_with here later x (suc i)) (sym goes)
      ∙ ap (λ (k : ℕ). ends_with here later behind k) (let one : suc i ≡ i + 1 = omega arith in one)
      ∙ sym (append_assoc (act_lines d s here) (ended_lines p.path d p.ordinal e) (end_lines d p (i + 1) behind later (drop (i + 1) ends)))

pub items_on : (d : ℕ) (xs : List Item) (i : ℕ) (x : Item) (s behind : LooseCount) → i < length xs → x ≡ get_or xs i x → behind ≡ loose_behind_item s x →
    lines_of_items d s (drop i xs) ≡ item_lines d s x ++ lines_of_items d behind (drop (i + 1) xs)
items_on d xs i x s behind inside is goes =
    at_drop_more (lines_of_items d s) xs i x inside
    ∙ ap (λ (y : Item). item_lines d s y ++ lines_of_items d (loose_behind_item s y) (drop (i + 1) xs)) (sym is)
    ∙ ap (λ (y : LooseCount). item_lines d s x ++ lines_of_items d y (drop (i + 1) xs)) (sym goes)
