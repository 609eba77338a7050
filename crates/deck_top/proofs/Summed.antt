-- What a run comes to, by the lines of its report and by the devices behind it.
use Rattle.std.proofs.Common.{◌≡◌, ◌≤◌, ◌<◌, ◌∙◌, ◌+◌, ◌*◌, ◌++◌, ◌∷◌, [], ℕ, suc, Bool, true}
use Rattle.std.proofs.Common.{false, List, Ok, cond, get_or, length, map, take, refl, sym, ap, subst, arith}
use Rattle.std.specs.Prelude.{count_by, fold, sum_by}
use Rattle.std.specs.List.{flat_map}
use Rattle.std.proofs.lemmas.List.{length-map}
use Rattle.std.proofs.lemmas.List.Sums.{count_by-le-length, fold_more, sum_by-append, sum_by-cons}
use Rattle.deck_text.specs.declared.line.DeviceLine.{DeviceLine}
use Rattle.deck_text.specs.DeckLines.{DeckLines}
use Rattle.deck_text.specs.Parse.{parsed}
use Rattle.device_outside.specs.declared.volume.Volume.{Ghosts}
use Rattle.device_outside.specs.Pool.{Frame}
use Rattle.track_table.specs.Bits.{marked_from}
use Rattle.device_defs.specs.declared.counts.Counts.{Counts}
use Rattle.device_defs.specs.Excused.{count_lost}
use Rattle.device_defs.specs.Marks.{MarksDevice}
use Rattle.device_core.specs.declared.device.Device.{Device}
use Rattle.report_text.specs.declared.answers.DeviceTotals.{DeviceTotals}
use Rattle.report_text.specs.declared.line.ReportLine.{ReportLine}
use Rattle.report_text.specs.declared.line.ReportLine.TheVariants as lines
use Rattle.report_text.specs.declared.summary.LineCounts.{LineCounts}
use Rattle.report_text.specs.Counting.{counts_of, is_check, is_end, is_start}
use Rattle.run_report.specs.Closing.{device_lines, ending_lines, frame_line}
use Rattle.run_report.specs.Report.{lines_of_run, report_lines}
use Rattle.run_report.specs.Summed.{summary_of}
use Rattle.device_laws.proofs.Lucky.{top}
use Rattle.subsystem_core.specs.Devices.{numbers_of}
use Rattle.subsystem_core.specs.declared.subsystem.Subsystem.{Subsystem}
use Rattle.subsystem_defs.specs.Closing.{Counted, DeviceEnd, RunEnding, LentTo, ending}
use Rattle.subsystem_defs.specs.Decks.{DeckRun, Firsts, run_on}
use Rattle.subsystem_defs.specs.Subsystem.{Mounted, devices_of}
use Rattle.subsystem_laws.proofs.CalmRuns.{AllSo}
use Rattle.subsystem_laws.proofs.FailedCalls.{read_run_reads_few, read_run_writes_few}
use Rattle.subsystem_laws.proofs.ReadDecks.{read_few_devices}
use Rattle.deck_run.specs.Opening.{numbers_in}
use Rattle.deck_run.specs.Standing.{StandsAs, all_stood, stood_of}
use Rattle.deck_run.proofs.Telling.{AreKnown, IsKnown, all_known}
use Rattle.deck_top.specs.declared.sums.Sums.{Sums}
use Rattle.deck_top.specs.Summing.{added, lost_in, reads_in, sums_of, summary_by, total, writes_in}

-- The lines at the end of a run count for nothing

counted_none : (p : ReportLine → Bool) (line : ReportLine) (ls : List ReportLine) → p line ≡ false → count_by p (line ∷ ls) ≡ count_by p ls
counted_none p line ls e =
    let cons : count_by p (line ∷ ls) ≡ cond (p line) 1 0 + count_by p ls = sum_by-cons (λ x. cond (p x) 1 0) line ls in
    let none : ◌≡◌ {A = ℕ} (cond (p line) 1 0) 0 = ap (λ (b : Bool). cond {A = ℕ} b 1 0) e in
    omega (arith, cons, none)

counted_both : (p : ReportLine → Bool) (ls ms : List ReportLine) → count_by p (ls ++ ms) ≡ count_by p ls + count_by p ms
counted_both p ls ms = sum_by-append (λ x. cond (p x) 1 0) ls ms

neither : (n a b : ℕ) → n ≡ a + b → a ≡ 0 → b ≡ 0 → n ≡ 0
neither n a b both one two = omega (arith, both, one, two)

none_of : (p : ReportLine → Bool) (ls ms : List ReportLine) → count_by p ls ≡ 0 → count_by p ms ≡ 0 → count_by p (ls ++ ms) ≡ 0
none_of p ls ms one two = neither (count_by p (ls ++ ms)) (count_by p ls) (count_by p ms) (counted_both p ls ms) one two

all_the_same : (n a b c d : ℕ) → n ≡ a + b → n ≡ c + d → b ≡ 0 → d ≡ 0 → a ≡ c
all_the_same n a b c d one two left right = omega (arith, one, two, left, right)

module _ (p : ReportLine → Bool) (device : (d : ℕ) (t : DeviceTotals) → p (lines.Device d t) ≡ false)
    (lost : (d t : ℕ) → p (lines.Lost d t) ≡ false) (frame : (d t : ℕ) (b : Bool) → p (lines.Frame d t b) ≡ false) (finish : p lines.Finish ≡ false) where
  lost_none : (d : ℕ) (ts : List ℕ) → count_by p (map (lines.Lost d) ts) ≡ 0
  lost_none d [] = refl
  lost_none d (t ∷ ts) = counted_none p (lines.Lost d t) (map (lines.Lost d) ts) (lost d t) ∙ lost_none d ts

  device_none : (e : DeviceEnd) → count_by p (device_lines e) ≡ 0
  device_none (Counted d reads writes ts) = counted_none p _ (map (lines.Lost d) ts) (device d _) ∙ lost_none d ts
  device_none (LentTo d to) = counted_none p _ [] (device d _)

  devices_none : (es : List DeviceEnd) → count_by p (flat_map device_lines es) ≡ 0
  devices_none [] = refl
  devices_none (e ∷ es) = none_of p (device_lines e) (flat_map device_lines es) (device_none e) (devices_none es)

  frames_none : (fs : List Frame) → count_by p (map frame_line fs) ≡ 0
  frames_none [] = refl
  frames_none (f ∷ fs) = counted_none p (frame_line f) (map frame_line fs) (frame f.0.0 f.0.1 f.1) ∙ frames_none fs

  finish_none : count_by p (lines.Finish ∷ []) ≡ 0
  finish_none = counted_none p lines.Finish [] finish

  ending_none : (e : RunEnding) → count_by p (ending_lines e) ≡ 0
  ending_none e =
      none_of p (flat_map device_lines e.devices) (map frame_line e.frames ++ lines.Finish ∷ []) (devices_none e.devices)
      (none_of p (map frame_line e.frames) (lines.Finish ∷ []) (frames_none e.frames) finish_none)

  told_count : (told : List ReportLine) (r : DeckRun) → told ++ lines.Finish ∷ [] ≡ report_lines r → count_by p told ≡ count_by p (lines_of_run r)
  told_count told r is =
      all_the_same (count_by p (report_lines r)) (count_by p told) (count_by p (lines.Finish ∷ [])) (count_by p (lines_of_run r))
      (count_by p (ending_lines (ending r.behind))) (ap (count_by p) (sym is) ∙ counted_both p told (lines.Finish ∷ []))
      (counted_both p (lines_of_run r) (ending_lines (ending r.behind))) finish_none (ending_none (ending r.behind))

pub told_counts : (told : List ReportLine) (r : DeckRun) → told ++ lines.Finish ∷ [] ≡ report_lines r → counts_of told ≡ counts_of (lines_of_run r)
told_counts told r is =
    ap (λ (n : ℕ). record { programs = n; commands = count_by is_end told; checks = count_by is_check told })
    (told_count is_start (λ d t. refl) (λ d t. refl) (λ d t b. refl) refl told r is)
    ∙ ap (λ (n : ℕ). record { programs = count_by is_start (lines_of_run r); commands = n; checks = count_by is_check told })
    (told_count is_end (λ d t. refl) (λ d t. refl) (λ d t b. refl) refl told r is)
    ∙ ap (λ (n : ℕ). record { programs = count_by is_start (lines_of_run r); commands = count_by is_end (lines_of_run r); checks = n })
    (told_count is_check (λ d t. refl) (λ d t. refl) (λ d t b. refl) refl told r is)

-- Lost tracks, by a list of them

marked_more : (m : Bool) (a n : ℕ) (ts : List ℕ) → length ts ≡ n → length (cond m (a ∷ ts) ts) ≡ cond m 1 0 + n
marked_more true a n ts is = omega (arith, is)
marked_more false a n ts is = omega (arith, is)

pub marked_long : (a : ℕ) (marks : List Bool) → length (marked_from a marks) ≡ count_lost marks
marked_long a [] = refl
marked_long a (m ∷ marks) =
    marked_more m a (count_lost marks) (marked_from (a + 1) marks) (marked_long (a + 1) marks)
    ∙ sym (sum_by-cons (λ (x : Bool). cond x 1 0) m marks)

-- Sums that stop at the greatest of 64 bits, which those below it never come to

go_on : {X : Type 0} (f : X → ℕ) (n : ℕ) (xs : List X) → n + sum_by f xs ≤ top → fold (λ k x. added k (f x)) n xs ≡ n + sum_by f xs
go_on f n [] le = omega arith
go_on f n (x ∷ xs) le =
    let both = sum_by-cons f x xs in
    let here : added n (f x) ≡ n + f x = omega (arith, both, le) in
    go_on f (added n (f x)) xs (omega (arith, here, both, le)) ∙ omega (arith, here, both)

total_is : {X : Type 0} (f : X → ℕ) (xs : List X) → sum_by f xs ≤ top → total f xs ≡ sum_by f xs
total_is f xs le = go_on f 0 xs (omega (arith, le)) ∙ omega arith

-- one more of them

pub total_more : {X : Type 0} (f : X → ℕ) (xs : List X) (i : ℕ) (x : X) (n m k : ℕ) → i < length xs → x ≡ get_or xs i x → n ≡ total f (take i xs) →
    m ≡ f x → k ≡ added n m → k ≡ total f (take (i + 1) xs)
total_more f xs i x n m k inside is so_far one more =
    more ∙ ap (λ (l : ℕ). added n l) one ∙ ap (λ (l : ℕ). added l (f x)) so_far ∙ ap (λ y. added (total f (take i xs)) (f y)) is
    ∙ sym (fold_more (λ l y. added l (f y)) 0 xs i x inside)

pub sums_are : (r w l q v m : ℕ) → r ≡ q → w ≡ v → l ≡ m →
    ◌≡◌ {A = Sums} (record { reads = r; writes = w; lost = l }) (record { reads = q; writes = v; lost = m })
sums_are r w l q v m reads writes lost =
    ap (λ (n : ℕ). record { reads = n; writes = w; lost = l }) reads ∙ ap (λ (n : ℕ). record { reads = q; writes = n; lost = l }) writes
    ∙ ap (λ (n : ℕ). record { reads = q; writes = v; lost = n }) lost

sum_more : (a n k s t : ℕ) → a ≤ n → s ≤ k * n → t ≡ a + s → t ≤ suc k * n
sum_more a n k s t le rest is = omega (arith, le, rest, is)

sum_few : (g : MarksDevice → ℕ) (n : ℕ) (ds : List MarksDevice) → AllSo (λ (d : MarksDevice). g d ≤ n) ds → sum_by g ds ≤ length ds * n
sum_few g n [] all = omega arith
sum_few g n (d ∷ ds) all = sum_more (g d) n (length ds) (sum_by g ds) (sum_by g (d ∷ ds)) all.0 (sum_few g n ds all.1) (sum_by-cons g d ds)

calls_few : (s k n : ℕ) → s ≤ k * 1033065725952 → k ≡ n → n ≤ 16 → s ≤ top
calls_few s k n le is few = omega (arith, le, is, few)

tracks_few : (s k n : ℕ) → s ≤ k * 65535 → k ≡ n → n ≤ 16 → s ≤ top
tracks_few s k n le is few = omega (arith, le, is, few)

lost_most : (c n k : ℕ) → c ≤ 4369 → n ≡ c * 15 → k ≤ n → k ≤ 65535
lost_most c n k most is le = omega (arith, most, is, le)

lost_more : (a k s t : ℕ) → a ≤ 65535 → s ≤ k * 65535 → t ≡ a + s → t ≤ suc k * 65535
lost_more a k s t le rest is = omega (arith, le, rest, is)

-- The devices

module _ {V : Type 0} {G : Ghosts V} where
  sums_known : (f : Device V G → ℕ) (g : MarksDevice → ℕ) → ((x : Device V G) (m : Mounted) → IsKnown (stood_of x) m → f x ≡ g m.device) →
      (xs : List (Device V G)) (ms : List Mounted) → AreKnown (all_stood xs) ms → sum_by f xs ≡ sum_by g (map (λ (m : Mounted). m.device) ms)
  sums_known f g same [] [] all = refl
  sums_known f g same [] (m ∷ ms) all = absurd all
  sums_known f g same (x ∷ xs) [] all = absurd all
  sums_known f g same (x ∷ xs) (m ∷ ms) all =
      sum_by-cons f x xs ∙ ap (λ (n : ℕ). n + sum_by f xs) (same x m all.0)
      ∙ ap (λ (n : ℕ). g m.device + n) (sums_known f g same xs ms all.1)
      ∙ sym (sum_by-cons g m.device (map (λ (k : Mounted). k.device) ms))

  as_many : (xs : List (Device V G)) (ms : List Mounted) → AreKnown (all_stood xs) ms → length (map (λ (m : Mounted). m.device) ms) ≡ length xs
  as_many [] [] all = refl
  as_many [] (m ∷ ms) all = absurd all
  as_many (x ∷ xs) [] all = absurd all
  as_many (x ∷ xs) (m ∷ ms) all = ap suc (as_many xs ms all.1)

  few_lost : (x : Device V G) → lost_in x ≤ 65535
  few_lost x =
      lost_most x.store.cylinders (length x.store.lost) (lost_in x) x.store.most x.store.lost_of_each (count_by-le-length (λ (b : Bool). b) x.store.lost)

  all_lost : (xs : List (Device V G)) → sum_by lost_in xs ≤ length xs * 65535
  all_lost [] = omega arith
  all_lost (x ∷ xs) = lost_more (lost_in x) (length xs) (sum_by lost_in xs) (sum_by lost_in (x ∷ xs)) (few_lost x) (all_lost xs) (sum_by-cons lost_in x xs)

  device_many : (xs : List (Device V G)) (ds : List DeviceLine) → numbers_of xs ≡ numbers_in ds → length xs ≡ length ds
  device_many xs ds are =
      sym (length-map xs (λ (x : Device V G). x.store.number)) ∙ ap (λ (l : List ℕ). length l) are ∙ length-map ds (λ (d : DeviceLine). d.number)

  module _ (s : Subsystem V G) (firsts : Firsts) (deck : DeckLines) (text : List ℕ) (read : parsed text ≡ Ok deck) (stands : StandsAs s (run_on firsts deck).behind)
      (numbers : numbers_of s.devices.items ≡ numbers_in deck.devices) where
    known : AreKnown (all_stood s.devices.items) (run_on firsts deck).behind.mounted
    known = all_known (all_stood s.devices.items) (run_on firsts deck).behind.mounted stands.mounted

    total_known : (f : Device V G → ℕ) (g : MarksDevice → ℕ) → ((x : Device V G) (m : Mounted) → IsKnown (stood_of x) m → f x ≡ g m.device) →
        sum_by f s.devices.items ≤ top → total f s.devices.items ≡ sum_by g (devices_of (run_on firsts deck).behind)
    total_known f g same le = total_is f s.devices.items le ∙ sums_known f g same s.devices.items (run_on firsts deck).behind.mounted known

    few_calls : (f : Device V G → ℕ) (g : MarksDevice → ℕ) → ((x : Device V G) (m : Mounted) → IsKnown (stood_of x) m → f x ≡ g m.device) →
        AllSo (λ (d : MarksDevice). g d ≤ 1033065725952) (devices_of (run_on firsts deck).behind) → sum_by f s.devices.items ≤ top
    few_calls f g same all =
        let ds = devices_of (run_on firsts deck).behind in
        subst (λ (n : ℕ). n ≤ top) (sym (sums_known f g same s.devices.items (run_on firsts deck).behind.mounted known))
        (calls_few (sum_by g ds) (length ds) (length deck.devices) (sum_few g 1033065725952 ds all)
        (as_many s.devices.items (run_on firsts deck).behind.mounted known ∙ device_many s.devices.items deck.devices numbers) (read_few_devices text deck read))

    lost_few : sum_by lost_in s.devices.items ≤ top
    lost_few =
        tracks_few (sum_by lost_in s.devices.items) (length s.devices.items) (length deck.devices) (all_lost s.devices.items)
        (device_many s.devices.items deck.devices numbers) (read_few_devices text deck read)

    same_reads : (x : Device V G) (m : Mounted) → IsKnown (stood_of x) m → reads_in x ≡ m.device.store.counts.reads
    same_reads x m k = sym (ap (λ (c : Counts). c.reads) k.counts)

    same_writes : (x : Device V G) (m : Mounted) → IsKnown (stood_of x) m → writes_in x ≡ m.device.store.counts.writes
    same_writes x m k = sym (ap (λ (c : Counts). c.writes) k.counts)

    pub summary_is : (counts : LineCounts) → counts ≡ counts_of (lines_of_run (run_on firsts deck)) →
        summary_by counts (sums_of s.devices.items) ≡ summary_of (run_on firsts deck)
    summary_is counts is =
        let xs = s.devices.items in
        let told = counts_of (lines_of_run (run_on firsts deck)) in
        let all = summary_of (run_on firsts deck) in
        ap (λ (k : LineCounts). summary_by k (sums_of xs)) is
        ∙ ap (λ (n : ℕ). summary_by told (record { reads = n; writes = total writes_in xs; lost = total lost_in xs }))
        (total_known reads_in (λ (d : MarksDevice). d.store.counts.reads) same_reads
        (few_calls reads_in (λ (d : MarksDevice). d.store.counts.reads) same_reads (read_run_reads_few firsts text deck read)))
        ∙ ap (λ (n : ℕ). summary_by told (record { reads = all.reads; writes = n; lost = total lost_in xs }))
        (total_known writes_in (λ (d : MarksDevice). d.store.counts.writes) same_writes
        (few_calls writes_in (λ (d : MarksDevice). d.store.counts.writes) same_writes (read_run_writes_few firsts text deck read)))
        ∙ ap (λ (n : ℕ). summary_by told (record { reads = all.reads; writes = all.writes; lost = n }))
        (total_known lost_in (λ (d : MarksDevice). count_lost d.store.lost) (λ x m k. ap count_lost (sym k.lost)) lost_few)
