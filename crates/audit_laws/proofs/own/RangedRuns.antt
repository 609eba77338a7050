-- The lines of a whole report are in their ranges.
use Rattle.std.proofs.Common.{get_or, ◌≡◌, ◌≤◌, ◌<◌, ◌+◌, ◌*◌, ◌++◌, zero, suc, ℕ, Bool, true, List, [], ◌∷◌, length, map, Option, Ok, is_some, sym, subst, if◌then◌else◌, arith}
use Rattle.std.specs.Prelude.{◌^◌, All, IfSome}
use Rattle.std.specs.List.{flat_map, range_with_len}
use Rattle.std.proofs.lemmas.Bool.{eqb-true}
use Rattle.std.proofs.lemmas.List.Elements.{All-append, All-cons, All-head, All-map, All-nil, All-tail}
use Rattle.deck_text.specs.DeckLines.{DeckLines}
use Rattle.deck_text.specs.Parse.{parsed}
use Rattle.track_table.proofs.Counts.{few_marked}
use Rattle.deck_audit.specs.Device.{outline_of}
use Rattle.device_defs.specs.Contents.{by_plain}
use Rattle.device_defs.specs.Marks.{MarksDevice, MarksStore}
use Rattle.device_defs.specs.Owed.{waits}
use Rattle.device_defs.specs.Store.{is_lost, tracks_of}
use Rattle.plain_defs.specs.History.{IsPlain}
use Rattle.plain_defs.specs.PlainState.{PlainState}
use Rattle.deck_audit.specs.Place.{is_declared}
use Rattle.report_text.specs.declared.line.ReportLine.TheVariants as lines
use Rattle.report_reading.specs.Ranges.{IsDevice, IsLine, IsLong, IsOwner}
use Rattle.run_report.specs.Closing.{device_lines, ending_lines, frame_line}
use Rattle.run_report.specs.Events.{lines_of}
use Rattle.run_report.specs.Report.{lines_of_run, report_lines}
use Rattle.device_laws.specs.Moved.{NoTransfers}
use Rattle.subsystem_defs.specs.declared.end.EventEnd.{EventEnd}
use Rattle.subsystem_defs.specs.declared.event.Event.{Event}
use Rattle.subsystem_defs.specs.declared.event.Event.TheVariants as events
use Rattle.subsystem_defs.specs.Closing.{device_end, device_end_by, ending, lost_tracks, where_true}
use Rattle.subsystem_defs.specs.Decks as D
use Rattle.subsystem_defs.specs.Decks.{empty_firsts, opened, run_of}
use Rattle.subsystem_defs.specs.Deeds.{device_in}
use Rattle.subsystem_defs.specs.Lines.{Asked, Logged, Once, Run, Settle, asked_by, run_lines}
use Rattle.subsystem_defs.specs.Subsystem.{Mounted, Subsystem, devices_of}
use Rattle.subsystem_laws.specs.Waits.{TellsWaiting, waiting_in, waiting_of}
use Rattle.subsystem_laws.specs.Transfers.{AskedTransfers, BackTransfers, EventTransfers, MovesByTable, RunTransfers, StepTransfers}
use Rattle.subsystem_laws.proofs.CalmRuns.{AllSo}
use Rattle.subsystem_laws.proofs.FailedCalls.{read_run_reads_few, read_run_writes_few}
use Rattle.subsystem_laws.proofs.GoodMarks.{Good, good_kept, opened_good}
use Rattle.subsystem_laws.proofs.MovedRuns.{run_moves}
use Rattle.subsystem_laws.proofs.PlainRuns.{Plainly, opened_plain, run_stays_plain}
use Rattle.subsystem_laws.proofs.ReadDecks.{read_numbered, read_served}
use Rattle.subsystem_laws.proofs.RunLines.{Logs, lines_keep}
use Rattle.subsystem_laws.proofs.RunLinks.{Linked, lines_linked}
use Rattle.subsystem_laws.proofs.Waiting.{run_tells_of_waiting}
use Rattle.subsystem_laws.proofs.Walks.{AreSo, both_behind, run_keeps}
use Rattle.audit_laws.specs.Standing.{FramesAreDeclared, audited}
use Rattle.audit_laws.proofs.own.DeviceSizes.{Sized, first_sized, run_sized, sized_behind}
use Rattle.audit_laws.proofs.own.FewDevices.{run_has_few}
use Rattle.audit_laws.proofs.own.FramesOwned.{frames_are_declared}
use Rattle.audit_laws.proofs.own.FrameTracks.{OnTrack, frames_have_tracks}
use Rattle.audit_laws.proofs.own.KeptBytes.{KeepsBytes, empty_keeps, history_keeps}
use Rattle.audit_laws.proofs.own.LooseNumbers.{count_short, number_short}
use Rattle.audit_laws.proofs.own.NamedEvents.{Names, run_names}
use Rattle.audit_laws.proofs.own.EachLine.{all_flat}
use Rattle.audit_laws.proofs.own.RangedDevices.{Ranged, device_ranged}
use Rattle.audit_laws.proofs.own.RangedEnds.{Answers, AnswersSo, answers_go}
use Rattle.audit_laws.proofs.own.RangedLines.{event_known, one}
use Rattle.audit_laws.proofs.own.RangedSteps.{works_on}
use Rattle.audit_laws.proofs.own.RangedWork.{WorksOn}

-- The calls of an event

abbrev Few : ℕ → ℕ → Type 0
Few reads writes = (reads ≤ 1920) × (writes ≤ 2)

no_calls : (r w : ℕ) → NoTransfers r w → Few r w
no_calls r w n = (let a = n.0 in omega (arith, a), let b = n.1 in omega (arith, b))

module _ (r w : ℕ) where
  step_calls : (o : Option MarksDevice) → IfSome o Ranged → StepTransfers o r w → Few r w
  step_calls o k m = grind (arith, no_calls, is_some)

  back_calls : (o : Option MarksDevice) (end : EventEnd) → BackTransfers o end r w → Few r w
  back_calls o end m = grind (arith, no_calls, is_some)

  run_calls : (o : Option MarksDevice) → IfSome o Ranged → (end : EventEnd) → RunTransfers o end r w → Few r w
  run_calls o k end x4 = grind (arith, no_calls, step_calls)

  once_calls : (e : Event) (s : Subsystem) (end : EventEnd) → All Ranged (devices_of s) → EventTransfers e s end r w → Few r w
  once_calls (events.Step d) s end all m = step_calls (device_in (devices_of s) d) (device_ranged (devices_of s) d all) m
  once_calls (events.Back d) s end all m = back_calls (device_in (devices_of s) d) end m
  once_calls e s end all m = no_calls r w m

  asked_calls : (x : Asked) (s : Subsystem) (end : EventEnd) → All Ranged (devices_of s) → AskedTransfers x s end r w → Few r w
  asked_calls (Once e) s end all m = once_calls e s end all m
  asked_calls (Run d) s end all m = run_calls (device_in (devices_of s) d) (device_ranged (devices_of s) d all) end m
  asked_calls (Settle d) s end all m = back_calls (device_in (devices_of s) d) end m
  asked_calls x s end all m = no_calls r w m

long_few : (r w : ℕ) → Few r w → IsLong r × IsLong w
long_few r w f = (let a = f.0 in omega (arith, a), let b = f.1 in omega (arith, b))

-- All events

abbrev AllRanged : Subsystem → Type 0
AllRanged s = All Ranged (devices_of s)

abbrev BothRanged : Logged → Type 0
BothRanged t = AllRanged t.happened.before × AllRanged t.happened.behind

abbrev BehindRanged : Logged → Type 0
BehindRanged t = AllRanged t.happened.behind

both_ranged : (s : Subsystem) (ts : List Logged) → Linked s ts → AllRanged s → All BehindRanged ts → All BothRanged ts
both_ranged s [] l here all = All-nil BothRanged
both_ranged s (t ∷ ts) l here all =
    let next = All-head BehindRanged t ts all in
    All-cons BothRanged t ts (subst AllRanged (sym l.0) here, next) (both_ranged t.happened.behind ts l.1 next (All-tail BehindRanged t ts all))

abbrev NamesLogged : Logged → Type 0
NamesLogged t = Names t.asked

abbrev AnswersLogged : Logged → Type 0
AnswersLogged t = Answers t.asked t.happened.end

all_answer : (s : Subsystem) (ts : List Logged) → Linked s ts → Logs (λ s. Unit {0}) AnswersSo s ts → All BothRanged ts → All AnswersLogged ts
all_answer s [] l g r = All-nil AnswersLogged
all_answer s (t ∷ ts) l g r =
    All-cons AnswersLogged t ts (g.0 (rw (← l.0) (All-head BothRanged t ts r).0)) (all_answer t.happened.behind ts l.1 g.1 (All-tail BothRanged t ts r))

-- What a repair answers

few_waiting : (k a b c : ℕ) → k ≤ 64 → a ≤ k * 15 → b ≤ c * 960 → a + b ≤ suc c * 960
few_waiting k a b c small few rest = omega (arith, small, few, rest)

all_waiting : (ds : List MarksDevice) → All Ranged ds → waiting_in ds ≤ length ds * 960
all_waiting [] r = omega arith
all_waiting (d ∷ ds) r =
    few_waiting d.store.cylinders (waiting_of d) (waiting_in ds) (length ds) (All-head Ranged d ds r).sized.cylinders
    (few_marked (tracks_of d.store) (waits by_plain d.store)) (all_waiting ds (All-tail Ranged d ds r))

abbrev IsFew : Logged → Type 0
IsFew t = length (devices_of t.happened.before) ≤ 16

-- and of every event all that is known
pub record Shows (t : Logged) : Type 0 where
  pub ranged : BothRanged t
  pub few : IsFew t
  pub names : NamesLogged t
  pub moves : MovesByTable t
  pub answers : AnswersLogged t
  pub waiting : TellsWaiting t

one_known : (t : Logged) → Shows t → All IsLine (lines_of t)
one_known t k = grind (arith, event_known, long_few, asked_calls, all_waiting)

owner_in : (d : MarksDevice) → Sized d → Plainly d → IfSome d.paths.owner IsOwner
owner_in d s p =
    let none = subst KeepsBytes (sym p.base) (empty_keeps d.store.geometry d.store.cylinders) in
    rw p.follows.keeps (history_keeps d.plans (λ path ordinal. (s.words path ordinal).gives) p.empty d.history p.follows.stands.plain none).paths.named.owner

record Fit (d : MarksDevice) : Type 0 where
  sized : Sized d
  works : WorksOn d
  some : 0 < d.store.cylinders

fits : (d : MarksDevice) → Sized d → Good d → Fit d
fits d s g = record { sized = s; works = works_on d g s; some = g.some }

both_so : (d : MarksDevice) → Fit d → Plainly d → Ranged d
both_so d f p =
    let plain = subst (λ (x : PlainState). IsPlain d.plans x d.history) p.base p.follows.stands.plain in
    let loose = count_short d p f.sized.cylinders in
    let owner = owner_in d f.sized p in
    record { sized = f.sized; follows = p; plain = plain; loose = loose; number = number_short d p; works = f.works; some = f.some; owner = owner }

all_so : (ms : List Mounted) → AreSo Plainly ms → AreSo Sized ms → AreSo Good ms → All Ranged (map (λ (m : Mounted). m.device) ms)
all_so [] p s g = All-nil Ranged
all_so (m ∷ ms) p s g = grind (arith, all_so ms p.1 s.1 g.1, both_so, fits)

-- The end

abbrev Under : ℕ → ℕ → Type 0
Under n t = t < n

more_track : (f : ℕ → Bool) (a n : ℕ) → All (Under (a + n)) (where_true f (range_with_len a n))
more_track f a zero = All-nil (Under (a + zero))
more_track f a (suc n) = grind (arith, more_track f (a + 1) n)

few_if : (b : Bool) (t k : ℕ) (l : List ℕ) → length l ≤ k → length (if b then t ∷ l else l) ≤ suc k
few_if b t k l few = grind arith

few_true : (f : ℕ → Bool) (a n : ℕ) → length (where_true f (range_with_len a n)) ≤ n
few_true f a zero = omega arith
few_true f a (suc n) = few_if (f a) a n (where_true f (range_with_len (a + 1) n)) (few_true f (a + 1) n)

lost_known : (d : ℕ) → IsDevice d → (k : ℕ) → k ≤ 64 → (ts : List ℕ) → All (Under (0 + k * 15)) ts → All IsLine (map (lines.Lost d) ts)
lost_known d n k most ts all = All-map IsLine (lines.Lost d) ts (λ i x lt. (n, let under = all i x lt in omega (arith, most, under)))

module _ (s : MarksStore) (number : IsDevice s.device) (small : s.cylinders ≤ 64) (reads : s.counts.reads ≤ 1033065725952)
    (writes : s.counts.writes ≤ 1033065725952) where
  few_lost : length (lost_tracks s) < 2 ^ 64
  few_lost = let few = few_true (is_lost s) 0 (s.cylinders * 15) in omega (arith, few, small)

  end_known : (o : Option ℕ) → IfSome o IsDevice → All IsLine (device_lines (device_end_by s o))
  end_known o lent = grind (arith, one, few_lost, lost_known, more_track)

abbrev FewReads : MarksDevice → Type 0
FewReads d = d.store.counts.reads ≤ 1033065725952

abbrev FewWrites : MarksDevice → Type 0
FewWrites d = d.store.counts.writes ≤ 1033065725952

abbrev mounted_devices : List Mounted → List MarksDevice
mounted_devices ms = map (λ (m : Mounted). m.device) ms

ends_known : (ms : List Mounted) → AreSo Sized ms → AllSo FewReads (mounted_devices ms) → AllSo FewWrites (mounted_devices ms) →
    All IsLine (flat_map device_lines (map device_end ms))
ends_known [] s r w = All-nil IsLine
ends_known (m ∷ ms) s r w =
    All-append IsLine (device_lines (device_end m)) (flat_map device_lines (map device_end ms))
    (end_known m.device.store s.0.device s.0.cylinders r.0 w.0 m.device.store.lent s.0.lent) (ends_known ms s.1 r.1 w.1)

-- a declared device is one that is mounted
declared_device : (ms : List Mounted) → AreSo Sized ms → (n : ℕ) → is_declared (map outline_of (map audited (mounted_devices ms))) n ≡ true → IsDevice n
declared_device [] s n is = absurd (cc)
declared_device (m ∷ ms) s n is = grind (arith, declared_device ms s.1 n, eqb-true)

module _ (s : Subsystem) (sized : AreSo Sized s.mounted) where
  ending_known : FramesAreDeclared s → All OnTrack s.pool.frames → AllSo FewReads (devices_of s) → AllSo FewWrites (devices_of s) → All IsLine (ending_lines (ending s))
  ending_known frames on reads writes =
      let e = ending s in
      All-append IsLine (flat_map device_lines e.devices) (map frame_line e.frames ++ lines.Finish ∷ []) (ends_known s.mounted sized reads writes)
      (All-append IsLine (map frame_line e.frames) (lines.Finish ∷ []) (All-map IsLine frame_line e.frames
      (λ k d lt. (declared_device s.mounted sized (get_or e.frames k d).0.0 (frames k d lt), on k d lt))) (one lines.Finish tt))

-- The whole

module _ (text : List ℕ) (deck : DeckLines) (read : parsed text ≡ Ok deck) where
  first_ranged : AllRanged (opened deck)
  first_ranged =
      let devices = (read_served text deck read).devices in
      all_so (opened deck).mounted (opened_plain deck deck.devices devices) (first_sized text deck read) (opened_good empty_firsts deck deck.devices devices)

  events_known : All IsLine (lines_of_run (run_of deck))
  unfolding D.run_asked_on
  events_known =
      let asked = map asked_by deck.events in
      let ts = run_lines asked (opened deck) in
      let linked = lines_linked asked (opened deck) in
      let good = run_keeps Good good_kept asked (opened deck) (opened_good empty_firsts deck deck.devices (read_served text deck read).devices) in
      let ranged = both_ranged (opened deck) ts linked first_ranged
      (both_behind Fit Plainly Ranged both_so ts (both_behind Sized Good Fit fits ts (run_sized text deck read) good)
      (run_stays_plain deck (read_served text deck read)))
      in
      let answers = all_answer (opened deck) ts linked (lines_keep (λ s. Unit {0}) AnswersSo answers_go asked (opened deck) tt) ranged in
      all_flat IsLine lines_of ts (λ k d lt. one_known (get_or ts k d) (record {
        ranged = ranged k d lt;
        few = run_has_few text deck read k d lt;
        names = run_names text deck read k d lt;
        moves = run_moves empty_firsts deck k d lt;
        answers = answers k d lt;
        waiting = run_tells_of_waiting empty_firsts deck (read_served text deck read) (read_numbered text deck read) k d lt;
      }))

  pub report_is_in_range : All IsLine (report_lines (run_of deck))
  report_is_in_range =
      let r = run_of deck in
      All-append IsLine (lines_of_run r) (ending_lines (ending r.behind)) events_known
      (ending_known r.behind (sized_behind text deck read) (frames_are_declared deck) (frames_have_tracks text deck read) (read_run_reads_few empty_firsts text deck read)
      (read_run_writes_few empty_firsts text deck read))
