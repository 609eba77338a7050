-- What is left of the lines at the end of a device, and of all devices, one step on.
use Rattle.std.proofs.Common.{◌≡◌, ◌<◌, ◌≤◌, ◌+◌, ◌-◌, ◌*◌, ◌++◌, [], ◌∷◌, ℕ, suc, Bool, None, false, List, length, drop, get_or, map, refl, ap, sym, ◌∙◌, arith, append_assoc}
use Rattle.std.specs.Prelude.{slice_index_or, if◌then◌else◌}
use Rattle.std.specs.List.{flat_map, range_with_len}
use Rattle.std.proofs.lemmas.List.{at_drop_more, get_or_at, length_push}
use Rattle.device_outside.specs.declared.volume.Volume.{Ghosts}
use Rattle.device_core.specs.declared.device.Device.{Device}
use Rattle.loss_model.specs.Lost.{lost_tracks}
use Rattle.report_text.specs.declared.answers.DeviceTotals.TheVariants as totals
use Rattle.report_text.specs.declared.line.ReportLine.{ReportLine}
use Rattle.report_text.specs.declared.line.ReportLine.TheVariants as lines
use Rattle.subsystem_defs.specs.Closing.{where_true}
use Rattle.track_table.specs.Bits.{marked_from}
use Rattle.deck_run.specs.Ending.{lost_in}
use Rattle.path_top.specs.Devices.{all_told, told_by}
use Rattle.path_top.specs.Told.{device_lines, end_lines, left_line, left_lines}

-- Of four paths

abbrev pub left_from : ℕ → (ℕ → ℕ) → ℕ → List ReportLine
left_from d f n = left_lines d n (map f (range_with_len n (5 - n)))

pub left_on : (d : ℕ) (f : ℕ → ℕ) (n k : ℕ) → n < 5 → k ≡ n → left_from d f n ≡ left_line d k (f k) ++ left_from d f (n + 1)
left_on d f n k few is =
    ap (λ (l : ℕ). left_lines d n (map f (range_with_len n l))) (let e : 5 - n ≡ suc (5 - (n + 1)) = omega (arith, few) in e)
    ∙ ap (λ (l : ℕ). left_line d n (f n) ++ left_lines d l (map f (range_with_len (n + 1) (5 - (n + 1))))) (let e : suc n ≡ n + 1 = omega arith in e)
    ∙ ap (λ (l : ℕ). left_line d l (f l) ++ left_from d f (n + 1)) (sym is)

pub left_none : (d : ℕ) (f : ℕ → ℕ) (n : ℕ) → 5 ≤ n → left_from d f n ≡ []
left_none d f n past =
    ap (λ (l : ℕ). left_lines d n (map f (range_with_len n l))) (let e : 5 - n ≡ 0 = omega (arith, past) in e)

-- Lost tracks, by a list and by marks

marked_same : (before marks : List Bool) (n : ℕ) → length before ≡ n →
    marked_from n marks ≡ where_true (λ (t : ℕ). slice_index_or (before ++ marks) t false) (range_with_len n (length marks))
marked_same before [] n long = refl
marked_same before (m ∷ marks) n long =
    let whole : (before ++ m ∷ []) ++ marks ≡ before ++ m ∷ marks = append_assoc before (m ∷ []) marks in
    let rest : marked_from (n + 1) marks ≡ where_true (λ (t : ℕ). slice_index_or (before ++ m ∷ marks) t false) (range_with_len (n + 1) (length marks)) =
    marked_same (before ++ m ∷ []) marks (n + 1) (length_push before m ∙ ap (λ (k : ℕ). k + 1) long)
    ∙ ap (λ (l : List Bool). where_true (λ (t : ℕ). slice_index_or l t false) (range_with_len (n + 1) (length marks))) whole in
    let ts = where_true (λ (t : ℕ). slice_index_or (before ++ m ∷ marks) t false) (range_with_len (n + 1) (length marks)) in
    ap (λ (l : List ℕ). if m then n ∷ l else l) rest ∙ ap (λ (b : Bool). if b then n ∷ ts else ts) (sym (get_or_at before m marks false n long))

pub losses_are : (d number n : ℕ) (ts lost : List ℕ) → d ≡ number → n ≡ length ts → ts ≡ lost →
    (lines.Device d (totals.Lost n) ∷ []) ++ map (lines.Lost d) ts ≡ end_lines number None lost
losses_are d number n ts lost same count is =
    ap (λ (k : ℕ). lines.Device d (totals.Lost k) ∷ map (lines.Lost d) ts) count
    ∙ ap (λ (l : List ℕ). lines.Device d (totals.Lost (length l)) ∷ map (lines.Lost d) l) is
    ∙ ap (λ (k : ℕ). end_lines k None lost) same

module _ {V : Type 0} {G : Ghosts V} where
  pub lost_same : (x : Device V G) → length x.store.lost ≡ x.store.cylinders * 15 → lost_tracks x.store.lost ≡ lost_in x
  lost_same x each =
      marked_same [] x.store.lost 0 refl
      ∙ ap (λ (n : ℕ). where_true (λ (t : ℕ). slice_index_or x.store.lost t false) (range_with_len 0 n)) each

  -- Devices

  pub devices_on : (xs : List (Device V G)) (i : ℕ) (x : Device V G) → i < length xs → x ≡ get_or xs i x →
      flat_map device_lines (all_told (drop i xs)) ≡ device_lines (told_by x) ++ flat_map device_lines (all_told (drop (i + 1) xs))
  devices_on xs i x inside is =
      at_drop_more (λ (l : List (Device V G)). flat_map device_lines (all_told l)) xs i x inside
      ∙ ap (λ (y : Device V G). device_lines (told_by y) ++ flat_map device_lines (all_told (drop (i + 1) xs))) (sym is)
