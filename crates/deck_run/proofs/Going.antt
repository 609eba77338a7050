-- One step, and one line, of a run on, with the lines that it tells.
use Rattle.std.proofs.Common.{
  ◌≡◌,
  ◌≤◌,
  ◌<◌,
  ◌∙◌,
  ◌+◌,
  ◌-◌,
  ◌++◌,
  add-one,
  arith,
  ℕ,
  zero,
  suc,
  Bool,
  true,
  false,
  List,
  [],
  ◌∷◌,
  Option,
  Some,
  None,
  length,
  drop,
  take,
  get_or,
  map,
  refl,
  sym,
  ap,
  subst,
  append_assoc,
}
use Rattle.std.specs.Prelude.{◌==◌, ◌||◌, if◌then◌else◌, is_some, option_map}
use Rattle.std.proofs.lemmas.List.{append-nil, drop_all}
use Rattle.plain_defs.specs.History.{OpenEntry}
use Rattle.deck_plan.specs.declared.event.EventLine.{EventLine}
use Rattle.device_outside.specs.declared.volume.Volume.{Ghosts}
use Rattle.device_defs.specs.Marks.{half_mark}
use Rattle.device_core.specs.declared.device.Device.{Device}
use Rattle.device_core.specs.declared.history.Running.{Running}
use Rattle.device_core.specs.Kept.{open_of}
use Rattle.device_core.specs.State.{device_of}
use Rattle.subsystem_core.specs.declared.subsystem.Subsystem.{Subsystem}
use Rattle.subsystem_core.specs.Devices.{device_at}
use Rattle.subsystem_core.proofs.Running.{at_hand}
use Rattle.report_text.specs.declared.event.Happened.TheVariants as did
use Rattle.report_text.specs.declared.line.ReportLine.{ReportLine}
use Rattle.report_text.specs.declared.line.ReportLine.TheVariants as told_lines
use Rattle.run_report.specs.Events.{lines_of, running_in, work_told}
use Rattle.subsystem_defs.specs.declared.end.EventEnd.TheVariants as ends
use Rattle.subsystem_defs.specs.declared.event.Event.TheVariants as events
use Rattle.subsystem_defs.specs.Happening.{happens, quietly}
use Rattle.subsystem_defs.specs.Lines as lines
use Rattle.subsystem_defs.specs.Lines.{Run, Logged, logged, asked_by, is_busy, most_steps, step_logged, steps, run_logged, line_logged, last_behind, run_lines}
use Rattle.subsystem_defs.specs.Subsystem as runs
use Rattle.subsystem_defs.specs.Subsystem.{Mounted, devices_of, mounted_in, number_of}
use Rattle.subsystem_laws.specs.WholeStood.{Stood, number_at, IsMounted, is_mounted, AreMountedBy, one_more}
use Rattle.deck_run.specs.Going.{GoesOn, IsRecorded, LinesLeft, StepsLeft}
use Rattle.deck_run.specs.Recording.{all_lines}
use Rattle.deck_run.proofs.Recorded.{asked_lines}
use Rattle.deck_run.proofs.Telling.{all_known, none_tells}
use Rattle.deck_run.specs.Opening.{is_open_line, are_open_lines}
use Rattle.deck_run.specs.Standing.{StandsAs, stood_of, all_stood}
use Rattle.device_defs.specs.Store.{HalfWrite}
use Rattle.track_image.specs.Image.{Image}

some_same : {X : Type 0} {x y : X} → Some x ≡ Some y → x ≡ y
some_same e = cc

-- Whether a program runs, or a half write is open

abbrev IsBusy : Stood → Bool
IsBusy s = is_some s.device.store.half || is_some s.device.history.running

half_some : (o : Option (HalfWrite Image)) → is_some (option_map half_mark o) ≡ is_some o
half_some None = refl
half_some (Some h) = refl

one_busy : {mine : List ℕ} {s : Stood} {m : Mounted} → IsMounted mine s m → is_busy (Some m) ≡ IsBusy s
one_busy (is_mounted d v w h on_a on_b a b stands slots side_a side_b) =
    ap (λ (x : Bool). x || is_some d.history.running) (half_some d.store.half)

same_number : {mine : List ℕ} {s : Stood} {m : Mounted} → IsMounted mine s m → number_of m ≡ number_at s
same_number (is_mounted d v w h on_a on_b a b stands slots side_a side_b) = refl

path_some : (r : Option Running) → is_some (option_map (λ (o : OpenEntry). o.path) (option_map open_of r)) ≡ is_some (option_map open_of r)
path_some None = refl
path_some (Some r) = refl

module _ {V : Type 0} {G : Ghosts V} where
  busy_test : (mine : List ℕ) (y x : Device V G) (m : Mounted) (o : Option (Device V G)) (q : Option Mounted) (b : Bool) → IsMounted mine (stood_of y) m →
      (o ≡ Some x → is_busy q ≡ IsBusy (stood_of x)) → (if b then Some y else o) ≡ Some x →
      is_busy (if b then Some m else q) ≡ IsBusy (stood_of x)
  busy_test mine y x m o q true is rest at =
      subst (λ (z : Device V G). is_busy (Some m) ≡ IsBusy (stood_of z)) (some_same at) (one_busy is)
  busy_test mine y x m o q false is rest at = rest at

  busy_at : (used taken : List ℕ) (xs : List (Device V G)) (ms : List Mounted) (n : ℕ) (x : Device V G) → AreMountedBy used taken (all_stood xs) ms →
      device_at xs n ≡ Some x → is_busy (mounted_in ms n) ≡ IsBusy (stood_of x)
  busy_at used taken [] ms n x all at = absurd (cc)
  busy_at used taken (y ∷ xs) [] n x all at = elim all [ ]
  busy_at used taken (y ∷ xs) (m ∷ ms) n x (one_more mine is apart all) at =
      ap (λ (k : ℕ). is_busy (if k == n then Some m else mounted_in ms n)) (same_number is)
      ∙ busy_test mine y x m (device_at xs n) (mounted_in ms n) (y.store.number == n) is (busy_at used (mine ++ taken) xs ms n x all) at

  pub busy_is : (s : Subsystem V G) (run : runs.Subsystem) (n : ℕ) (x : Device V G) (half : Bool) (o : Option ℕ) (b : Bool) → StandsAs s run →
      device_at s.devices.items n ≡ Some x → half ≡ is_some (device_of x).store.half →
      o ≡ option_map (λ (e : OpenEntry). e.path) (option_map open_of x.past.running) → b ≡ is_some o →
      half || b ≡ is_busy (mounted_in run.mounted n)
  busy_is s run n x half o b stands at open_too is test =
      ap (λ (h : Bool). h || b) open_too
      ∙ ap (λ (r : Bool). is_some (device_of x).store.half || r) (test ∙ ap is_some is ∙ path_some x.past.running)
      ∙ sym (busy_at s.pool.pool.used [] s.devices.items run.mounted n x stands.mounted at)

-- Steps

steps_idle : (n d : ℕ) (s : runs.Subsystem) → is_busy (mounted_in s.mounted d) ≡ false → steps n d s ≡ []
unfolding lines.steps
steps_idle zero d s idle = refl
steps_idle (suc n) d s idle = ap (λ (b : Bool). if b then step_logged s d (steps n d) else []) idle

steps_one : (n d : ℕ) (s : runs.Subsystem) → is_busy (mounted_in s.mounted d) ≡ true →
    steps (suc n) d s ≡ logged (Run d) (happens s (events.Step d)) ∷ steps n d (happens s (events.Step d)).behind
unfolding lines.steps
steps_one n d s busy = ap (λ (b : Bool). if b then step_logged s d (steps n d) else []) busy

steps_none : (d : ℕ) (s : runs.Subsystem) → steps 0 d s ≡ []
unfolding lines.steps
steps_none d s = refl

run_busy : (run : runs.Subsystem) (d : ℕ) → is_busy (mounted_in run.mounted d) ≡ true → run_logged run d ≡ steps most_steps d run
run_busy run d busy =
    ap (λ (b : Bool). if b then steps most_steps d run else logged (Run d) (quietly run run ends.Idle) ∷ []) busy

run_idle : (run : runs.Subsystem) (d : ℕ) → is_busy (mounted_in run.mounted d) ≡ false →
    run_logged run d ≡ logged (Run d) (quietly run run ends.Idle) ∷ []
run_idle run d idle =
    ap (λ (b : Bool). if b then steps most_steps d run else logged (Run d) (quietly run run ends.Idle) ∷ []) idle

-- Lines

behind_both : (s : runs.Subsystem) (ts us : List Logged) → last_behind s (ts ++ us) ≡ last_behind (last_behind s ts) us
behind_both s [] us = refl
behind_both s (t ∷ ts) us = behind_both t.happened.behind ts us

lines_one : (line : EventLine) (ls : List EventLine) (s : runs.Subsystem) →
    run_lines (map asked_by (line ∷ ls)) s
    ≡ line_logged s (asked_by line) ++ run_lines (map asked_by ls) (last_behind s (line_logged s (asked_by line)))
unfolding lines.run_lines
lines_one line ls s = refl

lines_none : (s : runs.Subsystem) → run_lines [] s ≡ []
unfolding lines.run_lines
lines_none s = refl

if_so : (b c : Bool) → (if b then c else false) ≡ true → b ≡ true
if_so true c is = refl
if_so false c is = is

then_so : (b c : Bool) → (if b then c else false) ≡ true → c ≡ true
then_so true c is = is
then_so false c is = absurd (cc)

pub line_open_at : (ns : List ℕ) (es : List EventLine) (i : ℕ) (e : EventLine) → i < length es → e ≡ get_or es i e → are_open_lines ns es ≡ true →
    is_open_line ns e ≡ true
line_open_at ns [] i e within is all = absurd (omega arith)
line_open_at ns (x ∷ es) zero e within is all = ap (is_open_line ns) is ∙ if_so _ _ all
line_open_at ns (x ∷ es) (suc i) e within is all = line_open_at ns es i e (omega arith) is (then_so (is_open_line ns x) _ all)

-- the first lines are open where all are
pub front_open : (ns : List ℕ) (es : List EventLine) (n : ℕ) → are_open_lines ns es ≡ true → are_open_lines ns (take n es) ≡ true
front_open ns es zero all = refl
front_open ns [] (suc n) all = refl
front_open ns (e ∷ es) (suc n) all =
    subst (λ (b : Bool). (if b then are_open_lines ns (take n es) else false) ≡ true) (sym (if_so (is_open_line ns e) (are_open_lines ns es) all))
    (front_open ns es n (then_so (is_open_line ns e) (are_open_lines ns es) all))

all_both : (ts us : List Logged) → all_lines (ts ++ us) ≡ all_lines ts ++ all_lines us
all_both [] us = refl
all_both (t ∷ ts) us = ap (λ (l : List ReportLine). lines_of t ++ l) (all_both ts us) ∙ sym (append_assoc (lines_of t) (all_lines ts) (all_lines us))

-- What is left

one_fewer : (k : ℕ) → k < 8193 → 8193 - k ≡ suc (8193 - (k + 1))
one_fewer k within = omega arith

-- the lines of one event more, and then of the others
pub further : (told more here rest all : List ReportLine) → more ≡ told ++ here → told ++ (here ++ rest) ≡ all → more ++ rest ≡ all
further told more here rest all is whole = ap (λ (l : List ReportLine). l ++ rest) is ∙ append_assoc told here rest ∙ whole

pub no_further : (told all : List ReportLine) (ts : List Logged) → ts ≡ [] → told ++ all_lines ts ≡ all → told ≡ all
no_further told all ts none whole = sym (append-nil told) ∙ ap (λ (l : List Logged). told ++ all_lines l) (sym none) ∙ whole

module _ {V : Type 0} {G : Ghosts V} where
  pub steps_begin : (s : Subsystem V G) (told : List ReportLine) (d : ℕ) (run : runs.Subsystem) → StandsAs s run →
      StepsLeft s told d 8193 (last_behind run (steps 8193 d run)) (told ++ all_lines (steps 8193 d run))
  steps_begin s told d run stands = record { now = run; stands = stands; rest = refl; lines = refl }

  pub step_done : (s z : Subsystem V G) (told more : List ReportLine) (d k : ℕ) (last : runs.Subsystem) (all : List ReportLine) → k < 8193 →
      ((run : runs.Subsystem) → StandsAs s run → true ≡ is_busy (mounted_in run.mounted d)) →
      IsRecorded s z told more (events.Step d)
      (λ (run : runs.Subsystem). work_told d (running_in (devices_of run) d) (did.First (told_lines.RunIdle d)) (happens run (events.Step d)).end) →
      StepsLeft s told d (8193 - k) last all → StepsLeft z more d (8193 - (k + 1)) last all
  step_done s z told more d k last all within busy done left =
      let n = 8193 - (k + 1) in
      let o = happens left.now (events.Step d) in
      let one : steps (8193 - k) d left.now ≡ logged (Run d) o ∷ steps n d o.behind =
      ap (λ (m : ℕ). steps m d left.now) (one_fewer k within) ∙ steps_one n d left.now (sym (busy left.now left.stands)) in
      record {
        now = o.behind;
        stands = done.stands left.now left.stands;
        rest = ap (λ (ts : List Logged). last_behind left.now ts) (sym one) ∙ left.rest;
        lines = further told more (lines_of (logged (Run d) o)) (all_lines (steps n d o.behind)) all
            (done.lines left.now left.stands ∙ ap (λ (l : List ReportLine). told ++ l) (sym (asked_lines left.now (events.Step d) (Run d) tt)))
            (ap (λ (ts : List Logged). told ++ all_lines ts) (sym one) ∙ left.lines);
      }

  -- the code stands at the end, with all lines
  pub record IsOver (s : Subsystem V G) (told : List ReportLine) (last : runs.Subsystem) (all : List ReportLine) : Type 0 where
    pub stands : StandsAs s last
    pub lines : told ≡ all

  pub over_goes : (s z : Subsystem V G) (told more : List ReportLine) (events : runs.Subsystem → List Logged) →
      ((run : runs.Subsystem) → StandsAs s run → IsOver z more (last_behind run (events run)) (told ++ all_lines (events run))) → GoesOn s z told more events
  over_goes s z told more events over = record { stands = λ run all. (over run all).stands; lines = λ run all. (over run all).lines }

  pub steps_over : (s : Subsystem V G) (told : List ReportLine) (d n : ℕ) (last : runs.Subsystem) (all : List ReportLine) →
      ((run : runs.Subsystem) → StandsAs s run → false ≡ is_busy (mounted_in run.mounted d)) → StepsLeft s told d n last all → IsOver s told last all
  steps_over s told d n last all idle left =
      let none = steps_idle n d left.now (sym (idle left.now left.stands)) in
      record {
        stands = subst (StandsAs s) (ap (λ (ts : List Logged). last_behind left.now ts) (sym none) ∙ left.rest) left.stands;
        lines = no_further told all (steps n d left.now) none left.lines;
      }

  none_left : (s : Subsystem V G) (told : List ReportLine) (d : ℕ) (last : runs.Subsystem) (all : List ReportLine) → StepsLeft s told d 0 last all →
      IsOver s told last all
  none_left s told d last all left =
      let none = steps_none d left.now in
      record {
        stands = subst (StandsAs s) (ap (λ (ts : List Logged). last_behind left.now ts) (sym none) ∙ left.rest) left.stands;
        lines = no_further told all (steps 0 d left.now) none left.lines;
      }

  pub steps_spent : (s : Subsystem V G) (told : List ReportLine) (d k : ℕ) (last : runs.Subsystem) (all : List ReportLine) → 8193 ≤ k →
      StepsLeft s told d (8193 - k) last all → IsOver s told last all
  steps_spent s told d k last all past left =
      none_left s told d last all
      (subst (λ (n : ℕ). StepsLeft s told d n last all) (let none : 8193 - k ≡ 0 = omega arith in none) left)

  -- A whole RUN

  pub busy_stands : (s : Subsystem V G) (run : runs.Subsystem) (d : ℕ) → true ≡ is_busy (mounted_in run.mounted d) →
      StandsAs s (last_behind run (steps 8193 d run)) → StandsAs s (last_behind run (run_logged run d))
  busy_stands s run d busy stands = subst (λ (ts : List Logged). StandsAs s (last_behind run ts)) (sym (run_busy run d (sym busy))) stands

  pub busy_tells : (s : Subsystem V G) (run : runs.Subsystem) (d : ℕ) (told more : List ReportLine) → true ≡ is_busy (mounted_in run.mounted d) →
      more ≡ told ++ all_lines (steps 8193 d run) → more ≡ told ++ all_lines (run_logged run d)
  busy_tells s run d told more busy is = is ∙ ap (λ (ts : List Logged). told ++ all_lines ts) (sym (run_busy run d (sym busy)))

  pub idle_stands : (s : Subsystem V G) (run : runs.Subsystem) (d : ℕ) → false ≡ is_busy (mounted_in run.mounted d) → StandsAs s run →
      StandsAs s (last_behind run (run_logged run d))
  idle_stands s run d idle stands = subst (λ (ts : List Logged). StandsAs s (last_behind run ts)) (sym (run_idle run d (sym idle))) stands

  pub idle_tells : (s : Subsystem V G) (run : runs.Subsystem) (d : ℕ) (told more : List ReportLine) → false ≡ is_busy (mounted_in run.mounted d) →
      StandsAs s run → more ≡ told ++ told_lines.RunIdle d ∷ [] → more ≡ told ++ all_lines (run_logged run d)
  idle_tells s run d told more idle stands is =
      is
      ∙ ap (λ (l : List ReportLine). told ++ (l ++ []))
      (sym (none_tells s.devices.items run.mounted (did.First (told_lines.RunIdle d)) (all_known (all_stood s.devices.items) run.mounted stands.mounted)))
      ∙ ap (λ (ts : List Logged). told ++ all_lines ts) (sym (run_idle run d (sym idle)))

  -- Event lines

  pub line_done : (s z : Subsystem V G) (told more : List ReportLine) (es : List EventLine) (i : ℕ) (e : EventLine) (last : runs.Subsystem)
      (all : List ReportLine) → i < length es → e ≡ get_or es i e →
      GoesOn s z told more (λ (run : runs.Subsystem). line_logged run (asked_by e)) → LinesLeft s told (drop i es) last all →
      LinesLeft z more (drop (i + 1) es) last all
  line_done s z told more es i e last all within is goes left =
      let next = subst (λ (l : List EventLine). LinesLeft s told l last all) (at_hand es e i within is) left in
      let ts = line_logged next.now (asked_by e) in
      let behind = last_behind next.now ts in
      let us = run_lines (map asked_by (drop (suc i) es)) behind in
      let one : run_lines (map asked_by (e ∷ drop (suc i) es)) next.now ≡ ts ++ us = lines_one e (drop (suc i) es) next.now in
      let done : LinesLeft z more (drop (suc i) es) last all = record {
        now = behind;
        stands = goes.stands next.now next.stands;
        rest = sym (behind_both next.now ts us) ∙ ap (λ (l : List Logged). last_behind next.now l) (sym one) ∙ next.rest;
        lines = further told more (all_lines ts) (all_lines us) all (goes.lines next.now next.stands)
            (ap (λ (l : List ReportLine). told ++ l) (sym (all_both ts us) ∙ ap all_lines (sym one)) ∙ next.lines);
      } in
      rw add-one done

  lines_over_by : (s : Subsystem V G) (told : List ReportLine) (last : runs.Subsystem) (all : List ReportLine) → LinesLeft s told [] last all →
      IsOver s told last all
  lines_over_by s told last all left =
      let none = lines_none left.now in
      record {
        stands = subst (StandsAs s) (ap (λ (ts : List Logged). last_behind left.now ts) (sym none) ∙ left.rest) left.stands;
        lines = no_further told all (run_lines [] left.now) none left.lines;
      }

  pub lines_over : (s : Subsystem V G) (told : List ReportLine) (es : List EventLine) (i : ℕ) (last : runs.Subsystem) (all : List ReportLine) →
      length es ≤ i → LinesLeft s told (drop i es) last all → IsOver s told last all
  lines_over s told es i last all past left =
      lines_over_by s told last all (subst (λ (l : List EventLine). LinesLeft s told l last all) (drop_all i es past) left)
