-- The lines at the end of a run, by the devices in code.
use Rattle.std.proofs.Common.{
  ◌≡◌,
  ◌≤◌,
  ◌<◌,
  ◌∙◌,
  ◌+◌,
  ◌-◌,
  ◌*◌,
  ◌++◌,
  arith,
  ℕ,
  zero,
  suc,
  Bool,
  true,
  false,
  List,
  [],
  ◌∷◌,
  Option,
  Some,
  None,
  length,
  map,
  refl,
  sym,
  ap,
  append_assoc,
}
use Rattle.std.specs.Prelude.{if◌then◌else◌, option_map, slice_get, slice_index_or, drop}
use Rattle.std.specs.List.{flat_map, range_with_len}
use Rattle.std.proofs.lemmas.List.{append-nil}
use Rattle.device_outside.specs.declared.volume.Volume.{Ghosts}
use Rattle.device_outside.specs.Pool.{Frame, Pool}
use Rattle.device_defs.specs.declared.counts.Counts.{Counts}
use Rattle.device_defs.specs.Marks.{MarksStore}
use Rattle.device_core.specs.declared.device.Device.{Device}
use Rattle.report_text.specs.declared.line.ReportLine.{ReportLine}
use Rattle.report_text.specs.declared.line.ReportLine.TheVariants as lines
use Rattle.run_report.specs.Closing.{device_lines, frame_line}
use Rattle.run_report.specs.Report.{lines_of_run, report_lines}
use Rattle.subsystem_core.specs.declared.subsystem.Subsystem.{Subsystem}
use Rattle.subsystem_defs.specs.Closing.{Counted, LentTo, device_end, device_end_by, lost_tracks, where_true}
use Rattle.subsystem_defs.specs.Decks.{DeckRun}
use Rattle.subsystem_defs.specs.Subsystem.{Mounted}
use Rattle.deck_run.specs.Ending.{end_by, end_lines_of}
use Rattle.deck_run.specs.Standing.{StandsAs, stood_of, all_stood}
use Rattle.deck_run.proofs.Telling.{AreKnown, IsKnown, all_known}
use Rattle.device_core.specs.State.{device_of}

some_same : {X : Type 0} {x y : X} → Some x ≡ Some y → x ≡ y
some_same e = cc

-- Lost tracks, one track on

range_more : (t n : ℕ) → t < n → range_with_len t (n - t) ≡ t ∷ range_with_len (t + 1) (n - (t + 1))
range_more t n within = ap (λ (k : ℕ). range_with_len t k) (let e : n - t ≡ suc (n - (t + 1)) = omega arith in e)

pub lost_here : (f : ℕ → Bool) (t : ℕ) (l : List ℕ) → f t ≡ true → l ++ t ∷ [] ≡ l ++ where_true f (t ∷ [])
lost_here f t l is = ap (λ (b : Bool). l ++ (if b then t ∷ [] else [])) (sym is)

pub none_here : (f : ℕ → Bool) (t : ℕ) (l : List ℕ) → f t ≡ false → l ≡ l ++ where_true f (t ∷ [])
none_here f t l is = sym (append-nil l) ∙ ap (λ (b : Bool). l ++ (if b then t ∷ [] else [])) (sym is)

first_by : (b : Bool) (t : ℕ) (l : List ℕ) → (if b then t ∷ l else l) ≡ (if b then t ∷ [] else []) ++ l
first_by true t l = refl
first_by false t l = refl

pub lost_more : (f : ℕ → Bool) (l m all : List ℕ) (t n u : ℕ) → t < n → u ≡ t → m ≡ l ++ where_true f (u ∷ []) →
    all ≡ l ++ where_true f (range_with_len t (n - t)) → all ≡ m ++ where_true f (range_with_len (t + 1) (n - (t + 1)))
lost_more f l m all t n u within same is whole =
    let rest = range_with_len (t + 1) (n - (t + 1)) in
    whole ∙ ap (λ (r : List ℕ). l ++ where_true f r) (range_more t n within) ∙ ap (λ (r : List ℕ). l ++ r) (first_by (f t) t (where_true f rest))
    ∙ sym (append_assoc l (where_true f (t ∷ [])) (where_true f rest))
    ∙ ap (λ (k : ℕ). (l ++ where_true f (k ∷ [])) ++ where_true f rest) (sym same) ∙ ap (λ (r : List ℕ). r ++ where_true f rest) (sym is)

pub lost_none : (f : ℕ → Bool) (l all : List ℕ) (t n : ℕ) → n ≤ t → all ≡ l ++ where_true f (range_with_len t (n - t)) → l ≡ all
lost_none f l all t n past whole =
    let none : n - t ≡ 0 = omega (arith, past) in
    sym (whole ∙ ap (λ (k : ℕ). l ++ where_true f (range_with_len t k)) none ∙ append-nil l)

-- Devices

counted_by : (s : MarksStore) (d reads writes cylinders : ℕ) (lost : List Bool) → s.device ≡ d → s.counts.reads ≡ reads → s.counts.writes ≡ writes →
    s.cylinders ≡ cylinders → s.lost ≡ lost →
    device_end_by s None ≡ Counted d reads writes (where_true (λ (t : ℕ). slice_index_or lost t false) (range_with_len 0 (cylinders * 15)))
counted_by s d reads writes cylinders lost number read written many marks =
    ap (λ (n : ℕ). Counted n s.counts.reads s.counts.writes (lost_tracks s)) number
    ∙ ap (λ (n : ℕ). Counted d n s.counts.writes (lost_tracks s)) read
    ∙ ap (λ (n : ℕ). Counted d reads n (lost_tracks s)) written
    ∙ ap (λ (l : List Bool). Counted d reads writes (where_true (λ (t : ℕ). slice_index_or l t false) (range_with_len 0 (s.cylinders * 15)))) marks
    ∙ ap (λ (n : ℕ). Counted d reads writes (where_true (λ (t : ℕ). slice_index_or lost t false) (range_with_len 0 (n * 15)))) many

module _ {V : Type 0} {G : Ghosts V} where
  end_at : (x : Device V G) (m : Mounted) (o : Option ℕ) → IsKnown (stood_of x) m → device_end_by m.device.store o ≡ end_by x o
  end_at x m (Some to) is = ap (λ (n : ℕ). LentTo n to) is.number
  end_at x m None is =
      counted_by m.device.store x.store.number x.store.counts.reads x.store.counts.writes x.store.cylinders x.store.lost is.number
      (ap (λ (k : Counts). k.reads) is.counts) (ap (λ (k : Counts). k.writes) is.counts) is.cylinders is.lost

  end_known : (x : Device V G) (m : Mounted) → IsKnown (stood_of x) m → end_lines_of x ≡ device_lines (device_end m)
  end_known x m is =
      ap device_lines (sym (end_at x m (device_of x).store.lent is) ∙ ap (λ (o : Option ℕ). device_end_by m.device.store o) (sym is.lent))

  ends_known : (xs : List (Device V G)) (ms : List Mounted) → AreKnown (all_stood xs) ms → flat_map end_lines_of xs ≡ flat_map device_lines (map device_end ms)
  ends_known [] [] all = refl
  ends_known [] (m ∷ ms) all = absurd all
  ends_known (x ∷ xs) [] all = absurd all
  ends_known (x ∷ xs) (m ∷ ms) all =
      ap (λ (l : List ReportLine). l ++ flat_map end_lines_of xs) (end_known x m all.0)
      ∙ ap (λ (l : List ReportLine). device_lines (device_end m) ++ l) (ends_known xs ms all.1)

  -- the whole report
  pub report_whole : (s : Subsystem V G) (r : DeckRun) (told more all : List ReportLine) → StandsAs s r.behind → told ≡ lines_of_run r →
      more ≡ told ++ flat_map end_lines_of s.devices.items → all ≡ more ++ map frame_line s.pool.pool.frames → all ++ lines.Finish ∷ [] ≡ report_lines r
  report_whole s r told more all stands is ends frames =
      let fs = map frame_line s.pool.pool.frames in
      ap (λ (l : List ReportLine). l ++ lines.Finish ∷ [])
      (frames ∙ ap (λ (l : List ReportLine). l ++ fs) (ends ∙ ap (λ (l : List ReportLine). l ++ flat_map end_lines_of s.devices.items) is))
      ∙ append_assoc (lines_of_run r ++ flat_map end_lines_of s.devices.items) fs (lines.Finish ∷ [])
      ∙ append_assoc (lines_of_run r) (flat_map end_lines_of s.devices.items) (fs ++ lines.Finish ∷ [])
      ∙ ap (λ (l : List ReportLine). lines_of_run r ++ (l ++ (fs ++ lines.Finish ∷ [])))
      (ends_known s.devices.items r.behind.mounted (all_known (all_stood s.devices.items) r.behind.mounted stands.mounted))
      ∙ ap (λ (l : List Frame). lines_of_run r ++ (flat_map device_lines (map device_end r.behind.mounted) ++ (map frame_line l ++ lines.Finish ∷ [])))
      (sym (ap (λ (p : Pool). p.frames) stands.pool))

-- Frames, one on

abbrev pub entry_at : Frame → ℕ × ℕ × Bool
entry_at f = (f.0.0, f.0.1, f.1)

frames_at : (fs : List Frame) (i : ℕ) (f : Frame) → slice_get fs i ≡ Some f → map frame_line (drop i fs) ≡ frame_line f ∷ map frame_line (drop (suc i) fs)
frames_at [] i f here = absurd (cc)
frames_at (g ∷ fs) zero f here = ap (λ (x : Frame). frame_line x ∷ map frame_line fs) (some_same here)
frames_at (g ∷ fs) (suc i) f here = frames_at fs i f here

frames_past : (fs : List Frame) (i : ℕ) → slice_get fs i ≡ None → map frame_line (drop i fs) ≡ []
frames_past [] zero here = refl
frames_past [] (suc i) here = refl
frames_past (g ∷ fs) zero here = absurd (cc)
frames_past (g ∷ fs) (suc i) here = frames_past fs i here

more_by : (fs : List Frame) (i : ℕ) (e : ℕ × ℕ × Bool) (o : Option Frame) → slice_get fs i ≡ o → Some e ≡ option_map entry_at o →
    map frame_line (drop i fs) ≡ lines.Frame e.0 e.1 e.2 ∷ map frame_line (drop (suc i) fs)
more_by fs i e None here is = absurd (cc)
more_by fs i e (Some f) here is =
    frames_at fs i f here
    ∙ ap (λ (x : ℕ × ℕ × Bool). lines.Frame x.0 x.1 x.2 ∷ map frame_line (drop (suc i) fs)) (sym (some_same is))

none_by : (fs : List Frame) (i : ℕ) (o : Option Frame) → slice_get fs i ≡ o → None ≡ option_map entry_at o → map frame_line (drop i fs) ≡ []
none_by fs i None here is = frames_past fs i here
none_by fs i (Some f) here is = absurd (cc)

-- the lines of those before it, and one more
pub frames_more : (fs : List Frame) (i : ℕ) (e : ℕ × ℕ × Bool) (first told more : List ReportLine) → Some e ≡ option_map entry_at (slice_get fs i) →
    more ≡ told ++ lines.Frame e.0 e.1 e.2 ∷ [] → first ++ map frame_line fs ≡ told ++ map frame_line (drop i fs) →
    first ++ map frame_line fs ≡ more ++ map frame_line (drop (i + 1) fs)
frames_more fs i e first told more here one so =
    let n : suc i ≡ i + 1 = omega arith in
    so ∙ ap (λ (l : List ReportLine). told ++ l) (more_by fs i e (slice_get fs i) refl here)
    ∙ sym (append_assoc told (lines.Frame e.0 e.1 e.2 ∷ []) (map frame_line (drop (suc i) fs)))
    ∙ ap (λ (l : List ReportLine). l ++ map frame_line (drop (suc i) fs)) (sym one)
    ∙ ap (λ (k : ℕ). more ++ map frame_line (drop k fs)) n

-- there are no more
pub frames_over : (fs : List Frame) (i : ℕ) (first told : List ReportLine) → None ≡ option_map entry_at (slice_get fs i) →
    first ++ map frame_line fs ≡ told ++ map frame_line (drop i fs) → told ≡ first ++ map frame_line fs
frames_over fs i first told here so =
    sym (so ∙ ap (λ (l : List ReportLine). told ++ l) (none_by fs i (slice_get fs i) refl here) ∙ append-nil told)
