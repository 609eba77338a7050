-- The lines of STEP and RUN lead the audit on behind the run of a deck.
use Rattle.std.proofs.Common.{arith, ◌≡◌, ◌++◌, ℕ, zero, suc, Bool, true, false, List, [], ◌∷◌, Option, Some, None, refl, sym, ap, subst, ◌∙◌, if◌then◌else◌}
use Rattle.std.specs.Prelude.{◌||◌, is_some, IfSome, Ok}
use Rattle.std.specs.List.{flat_map}
use Rattle.std.proofs.lemmas.List.{append-nil}
use Rattle.std.proofs.lemmas.Bool.{or_parts}
use Rattle.deck_plan.specs.declared.event.EventLine.{EventLine}
use Rattle.deck_plan.specs.declared.event.EventLine.TheVariants as wanted
use Rattle.deck_text.specs.DeckLines.{DeckLines}
use Rattle.deck_text.specs.Parse.{parsed}
use Rattle.device_defs.specs.Marks.{MarksDevice}
use Rattle.report_text.specs.declared.answers.BackAnswer.TheVariants as back
use Rattle.report_text.specs.declared.event.Happened.TheVariants as did
use Rattle.report_text.specs.declared.line.ReportLine.TheVariants as lines
use Rattle.report_text.specs.declared.line.ReportLine.{ReportLine}
use Rattle.deck_audit.specs.Device.{is_idle}
use Rattle.deck_audit.specs.State.{AuditState}
use Rattle.run_report.specs.Events.{event_lines, lines_of}
use Rattle.subsystem_defs.specs.declared.end.EventEnd.TheVariants as ends
use Rattle.subsystem_defs.specs.declared.event.Event.TheVariants as events
use Rattle.subsystem_defs.specs.Decks.{run_of}
use Rattle.subsystem_defs.specs.Deeds.{device_in}
use Rattle.subsystem_defs.specs.Happening.{EventHappened, happens, quietly}
use Rattle.subsystem_defs.specs.Lines as L
use Rattle.subsystem_defs.specs.Lines.{
  Asked,
  Logged,
  Once,
  Run,
  Settle,
  asked_by,
  backs,
  is_busy,
  is_settled,
  last_behind,
  line_logged,
  logged,
  most_backs,
  most_steps,
  run_logged,
  step_logged,
  steps,
}
use Rattle.subsystem_defs.specs.Subsystem.{Mounted, Subsystem, devices_of, mounted_in}
use Rattle.subsystem_laws.proofs.FoundDevices.{number_found}
use Rattle.subsystem_laws.proofs.GoodMarks.{Good, good_kept}
use Rattle.subsystem_laws.proofs.PlainRuns.{ArePlain, Plainly, event_plain, plain_behind}
use Rattle.subsystem_laws.proofs.ReadDecks.{read_served}
use Rattle.subsystem_laws.proofs.RunLines.{AnyEvent}
use Rattle.subsystem_laws.proofs.RunLinks.{event_from}
use Rattle.subsystem_laws.proofs.Walks.{AreSo, device_so, event_so}
use Rattle.audit_laws.specs.Runs.{LineGoes, RunIsOver, SettleIsOver, ends_settled}
use Rattle.audit_laws.specs.Standing.{HasDevice, stand}
use Rattle.audit_laws.specs.Steps.{LeadsTowards, is_there}
use Rattle.audit_laws.proofs.own.Found.{mounted_too}
use Rattle.audit_laws.proofs.own.NextLines.{towards_then}
use Rattle.audit_laws.proofs.own.PieceEvents.{PieceGoes, back_goes, back_piece, run_idle_leads, settle_piece, step_line_goes}
use Rattle.audit_laws.proofs.own.Pieces.{by_back, by_settle}
use Rattle.audit_laws.proofs.own.RunEnds.{run_is_over, device_there, piece_of_run}
use Rattle.audit_laws.proofs.own.BackEnds.{settle_over}
use Rattle.audit_laws.proofs.own.DeviceSizes.{sized_behind}
use Rattle.audit_laws.proofs.own.StillLines.{some_device}
use Rattle.audit_laws.proofs.own.WorkEnds.{left_by}
use Rattle.audit_laws.proofs.own.Behind.{good_behind}
use Rattle.audit_laws.proofs.own.Starts.{choice_not}
use Rattle.subsystem_laws.proofs.WholeUnpairs.{not_some}

-- The lines of one event

told_from : (s : Subsystem) (asked : Asked) (h : EventHappened) → h.before ≡ s →
    event_lines asked h.end h.reads h.writes (devices_of s) (devices_of h.behind) ≡ lines_of (logged asked h)
told_from s asked h before = sym (ap (λ (z : Subsystem). event_lines asked h.end h.reads h.writes (devices_of z) (devices_of h.behind)) before)

pub one_goes : (s : Subsystem) (w : EventLine) (h : EventHappened) → line_logged s (asked_by w) ≡ logged (asked_by w) h ∷ [] → h.before ≡ s →
    ((later : List EventLine) →
    LeadsTowards (stand s (w ∷ later)) (event_lines (asked_by w) h.end h.reads h.writes (devices_of s) (devices_of h.behind)) (stand h.behind later)) →
    LineGoes s w
one_goes s w h is before leads later = rw (is, ← (told_from s (asked_by w) h before ∙ sym (append-nil (lines_of (logged (asked_by w) h))))) (leads later)

plain_of : (s : Subsystem) → ArePlain s.mounted → (n : ℕ) (x : MarksDevice) → device_in (devices_of s) n ≡ Some x → Plainly x
plain_of s plain n x at = subst (λ (o : Option MarksDevice). IfSome o Plainly) at (device_so Plainly s.mounted n plain)

-- A device by its own number

own_place : (s : Subsystem) (n : ℕ) (x : MarksDevice) → device_in (devices_of s) n ≡ Some x → device_in (devices_of s) x.store.device ≡ Some x
own_place s n x at = subst (λ (k : ℕ). device_in (devices_of s) k ≡ Some x) (sym (number_found s.mounted n x at)) at

step_logged_is : (s : Subsystem) (d : ℕ) → line_logged s (Once (events.Step d)) ≡ logged (Once (events.Step d)) (happens s (events.Step d)) ∷ []
unfolding L.line_logged
step_logged_is s d = refl

-- STEP

pub step_goes_on : (s : Subsystem) → ArePlain s.mounted → (d : ℕ) → HasDevice s d → LineGoes s (wanted.Step d)
step_goes_on s plain d has =
    some_device (device_in (devices_of s) d) has (λ x at.
    let p = subst (λ (k : ℕ). PieceGoes s k (wanted.Step k) (Once (events.Step k)) (happens s (events.Step k))) (number_found s.mounted d x at)
    (step_line_goes s x (own_place s d x at) (plain_of s plain d x at)) in
    one_goes s (wanted.Step d) (happens s (events.Step d)) (step_logged_is s d) (event_from s (events.Step d)) p.goes)

-- RUN

busy_there : (o : Option Mounted) → is_busy o ≡ true → (m : Mounted) × (o ≡ Some m)
busy_there (Some m) busy = (m, refl)
busy_there None busy = absurd (cc)

no_steps : (k d : ℕ) (s : Subsystem) → is_busy (mounted_in s.mounted d) ≡ false → steps k d s ≡ []
unfolding L.steps
no_steps zero d s idle = refl
no_steps (suc k) d s idle = ap (λ (b : Bool). if b then step_logged s d (steps k d) else []) idle

one_step : (k d : ℕ) (s : Subsystem) → is_busy (mounted_in s.mounted d) ≡ true →
    steps (suc k) d s ≡ logged (Run d) (happens s (events.Step d)) ∷ steps k d (happens s (events.Step d)).behind
unfolding L.steps
one_step k d s busy = ap (λ (b : Bool). if b then step_logged s d (steps k d) else []) busy

abbrev left_run : Subsystem → ℕ → List EventLine → List EventLine
left_run s d later = if is_busy (mounted_in s.mounted d) then wanted.Run d ∷ later else later

module _ (d : ℕ) (later : List EventLine) (k : ℕ) where
  abbrev ended : Subsystem → AuditState
  ended z = stand (last_behind z (steps k d z)) (left_run (last_behind z (steps k d z)) d later)

  -- the steps behind the first one
  more_steps : (s z : Subsystem) (ls : List ReportLine) (left : List EventLine) → left ≡ left_run z d later →
      LeadsTowards (stand s (wanted.Run d ∷ later)) ls (stand z left) →
      (is_busy (mounted_in z.mounted d) ≡ true → LeadsTowards (stand z (wanted.Run d ∷ later)) (flat_map lines_of (steps k d z)) (ended z)) →
      LeadsTowards (stand s (wanted.Run d ∷ later)) (ls ++ flat_map lines_of (steps k d z)) (ended z)
  more_steps s z ls left is first rest = by_busy (is_busy (mounted_in z.mounted d)) refl where
    by_busy : (b : Bool) → is_busy (mounted_in z.mounted d) ≡ b →
        LeadsTowards (stand s (wanted.Run d ∷ later)) (ls ++ flat_map lines_of (steps k d z)) (ended z)
    by_busy true busy =
        towards_then z (wanted.Run d ∷ later) (Some d) tt (stand s (wanted.Run d ∷ later)) (ended z) ls (flat_map lines_of (steps k d z)) refl refl
        (subst (λ (l : List EventLine). LeadsTowards (stand s (wanted.Run d ∷ later)) ls (stand z l))
        (is ∙ ap (λ (b : Bool). if b then wanted.Run d ∷ later else later) busy) first)
        (rest busy)
    by_busy false idle =
        subst (λ (ts : List Logged). LeadsTowards (stand s (wanted.Run d ∷ later)) (ls ++ flat_map lines_of ts)
        (stand (last_behind z ts) (left_run (last_behind z ts) d later))) (sym (no_steps k d z idle))
        (subst (λ (l : List ReportLine). LeadsTowards (stand s (wanted.Run d ∷ later)) l (stand z (left_run z d later))) (sym (append-nil ls))
        (subst (λ (l : List EventLine). LeadsTowards (stand s (wanted.Run d ∷ later)) ls (stand z l)) is first))

steps_lead : (k : ℕ) (s : Subsystem) → ArePlain s.mounted → (d : ℕ) → is_busy (mounted_in s.mounted d) ≡ true → (later : List EventLine) →
    LeadsTowards (stand s (wanted.Run d ∷ later)) (flat_map lines_of (steps k d s)) (stand (last_behind s (steps k d s))
    (left_run (last_behind s (steps k d s)) d later))
unfolding L.steps
steps_lead zero s plain d busy later = grind arith
steps_lead (suc k) s plain d busy later =
    let h = happens s (events.Step d) in
    let m = busy_there (mounted_in s.mounted d) busy in
    let p = piece_of_run s plain d m.0.device (device_there s.mounted d m.0 m.1) busy in
    rw (one_step k d s busy)
    (more_steps d later k s h.behind (lines_of (logged (Run d) h)) (left_by (wanted.Run d) p.its (is_settled h.end) later)
    (choice_not (is_idle p.its) (is_busy (mounted_in h.behind.mounted d)) later (wanted.Run d ∷ later) p.busy)
    (rw (← (told_from s (Run d) h (event_from s (events.Step d)))) (p.goes later))
    (λ more. steps_lead k h.behind (event_plain s plain (events.Step d) tt) d more later))

run_logged_is : (s : Subsystem) (d : ℕ) → line_logged s (Run d) ≡ run_logged s d
unfolding L.line_logged
run_logged_is s d = refl

run_busy : (s : Subsystem) (d : ℕ) → is_busy (mounted_in s.mounted d) ≡ true → line_logged s (Run d) ≡ steps most_steps d s
run_busy s d busy =
    run_logged_is s d ∙ ap (λ (b : Bool). if b then steps most_steps d s else logged (Run d) (quietly s s ends.Idle) ∷ []) busy

run_idle : (s : Subsystem) (d : ℕ) → is_busy (mounted_in s.mounted d) ≡ false → line_logged s (Run d) ≡ logged (Run d) (quietly s s ends.Idle) ∷ []
run_idle s d idle =
    run_logged_is s d ∙ ap (λ (b : Bool). if b then steps most_steps d s else logged (Run d) (quietly s s ends.Idle) ∷ []) idle

module _ (s : Subsystem) (plain : ArePlain s.mounted) (d : ℕ) where
  idle_goes : (x : MarksDevice) → device_in (devices_of s) d ≡ Some x → is_busy (mounted_in s.mounted d) ≡ false → LineGoes s (wanted.Run d)
  idle_goes x at idle =
      let m = mounted_too s.mounted d x at in
      let none : (is_some x.store.half || is_some x.history.running) ≡ false =
      sym (ap is_busy m.1 ∙ ap (λ (y : MarksDevice). is_some y.store.half || is_some y.history.running) m.2) ∙ idle in
      let each = or_parts (is_some x.store.half) (is_some x.history.running) none in
      one_goes s (wanted.Run d) (quietly s s ends.Idle) (run_idle s d idle) refl
      (λ later. (
        stand s later,
        rw (← (number_found s.mounted d x at))
            (run_idle_leads s x (own_place s d x at) (not_some x.store.half each.0) (not_some x.history.running each.1) later),
        is_there refl,
      ))

  busy_goes : is_busy (mounted_in s.mounted d) ≡ true → RunIsOver s d → LineGoes s (wanted.Run d)
  busy_goes busy over later =
      let same = run_busy s d busy in
      subst (λ (ts : List Logged). LeadsTowards (stand s (wanted.Run d ∷ later)) (flat_map lines_of ts) (stand (last_behind s ts) later)) (sym same)
      (subst (λ (l : List EventLine). LeadsTowards (stand s (wanted.Run d ∷ later)) (flat_map lines_of (steps most_steps d s))
      (stand (last_behind s (steps most_steps d s)) l))
      (ap (λ (b : Bool). if b then wanted.Run d ∷ later else later)
      (ap (λ (ts : List Logged). is_busy (mounted_in (last_behind s ts).mounted d)) (sym same) ∙ over))
      (steps_lead most_steps s plain d busy later))

  -- of which the program and its half write come to their end
  pub run_goes_on : HasDevice s d → RunIsOver s d → LineGoes s (wanted.Run d)
  run_goes_on has over = by_busy (is_busy (mounted_in s.mounted d)) refl where
    by_busy : (b : Bool) → is_busy (mounted_in s.mounted d) ≡ b → LineGoes s (wanted.Run d)
    by_busy true busy = busy_goes busy over
    by_busy false idle = some_device (device_in (devices_of s) d) has (λ x at. idle_goes x at idle)

-- BACK and SETTLE

good_of : (s : Subsystem) → AreSo Good s.mounted → (n : ℕ) (x : MarksDevice) → device_in (devices_of s) n ≡ Some x → Good x
good_of s good n x at = subst (λ (o : Option MarksDevice). IfSome o Good) at (device_so Good s.mounted n good)

back_logged_is : (s : Subsystem) (d : ℕ) → line_logged s (Once (events.Back d)) ≡ logged (Once (events.Back d)) (happens s (events.Back d)) ∷ []
unfolding L.line_logged
back_logged_is s d = refl

settle_logged_is : (s : Subsystem) (d : ℕ) → line_logged s (Settle d) ≡ backs most_backs d s
unfolding L.line_logged
settle_logged_is s d = refl

one_back : (k d : ℕ) (s : Subsystem) → backs (suc k) d s
    ≡ logged (Settle d) (happens s (events.Back d)) ∷ (if is_settled (happens s (events.Back d)).end then [] else backs k d (happens s (events.Back d)).behind)
unfolding L.backs
one_back k d s = refl

settled_behind : (t : Logged) (ts : List Logged) → is_settled t.happened.end ≡ false → ends_settled (t ∷ ts) ≡ ends_settled ts
settled_behind t [] is = is
settled_behind t (u ∷ ts) is = refl

left_settle : List Logged → ℕ → List EventLine → List EventLine
left_settle ts d later = if ends_settled ts then later else wanted.Settle d ∷ later

module _ (s : Subsystem) (plain : ArePlain s.mounted) (good : AreSo Good s.mounted) where
  piece_of_back : (d : ℕ) (x : MarksDevice) → device_in (devices_of s) d ≡ Some x →
      PieceGoes s d (wanted.Back d) (Once (events.Back d)) (happens s (events.Back d))
  piece_of_back d x at =
      rw (← (number_found s.mounted d x at))
      (back_goes s x (own_place s d x at) (plain_of s plain d x at) (good_of s good d x at) (wanted.Back x.store.device) (Once (events.Back x.store.device))
      (did.First (lines.Back x.store.device back.Nothing)) back_piece by_back)

  piece_of_settle : (d : ℕ) (x : MarksDevice) → device_in (devices_of s) d ≡ Some x → PieceGoes s d (wanted.Settle d) (Settle d) (happens s (events.Back d))
  piece_of_settle d x at =
      rw (← (number_found s.mounted d x at))
      (back_goes s x (own_place s d x at) (plain_of s plain d x at) (good_of s good d x at) (wanted.Settle x.store.device) (Settle x.store.device)
      (did.First (lines.Back x.store.device back.Nothing)) settle_piece by_settle)

  pub back_goes_on : (d : ℕ) → HasDevice s d → LineGoes s (wanted.Back d)
  back_goes_on d has =
      some_device (device_in (devices_of s) d) has (λ x at.
      let p = piece_of_back d x at in
      one_goes s (wanted.Back d) (happens s (events.Back d)) (back_logged_is s d) (event_from s (events.Back d)) p.goes)

module _ (d : ℕ) (later : List EventLine) where
  abbrev settled_to : Subsystem → List Logged → AuditState
  settled_to s ts = stand (last_behind s ts) (left_settle ts d later)

  -- the pieces behind the first one
  more_backs : (s : Subsystem) (h : EventHappened) (k : ℕ) (ls : List ReportLine) (b : Bool) → is_settled h.end ≡ b →
      LeadsTowards (stand s (wanted.Settle d ∷ later)) ls (stand h.behind (if b then later else wanted.Settle d ∷ later)) →
      (b ≡ false → LeadsTowards (stand h.behind (wanted.Settle d ∷ later)) (flat_map lines_of (backs k d h.behind))
      (settled_to h.behind (backs k d h.behind))) →
      LeadsTowards (stand s (wanted.Settle d ∷ later)) (ls ++ flat_map lines_of (if b then [] else backs k d h.behind))
      (settled_to s (logged (Settle d) h ∷ (if b then [] else backs k d h.behind)))
  unfolding left_settle
  more_backs s h k ls true is first rest =
      rw (append-nil ls)
      (rw is first)
  more_backs s h k ls false is first rest =
      let ts = backs k d h.behind in
      rw (settled_behind (logged (Settle d) h) ts is)
      (towards_then h.behind (wanted.Settle d ∷ later) (Some d) tt (stand s (wanted.Settle d ∷ later)) (settled_to h.behind ts) ls (flat_map lines_of ts) refl refl first
      (rest refl))

all_backs_lead : (k : ℕ) (s : Subsystem) → ArePlain s.mounted → AreSo Good s.mounted → (d : ℕ) (x : MarksDevice) → device_in (devices_of s) d ≡ Some x →
    (later : List EventLine) →
    LeadsTowards (stand s (wanted.Settle d ∷ later)) (flat_map lines_of (backs k d s)) (stand (last_behind s (backs k d s))
    (left_settle (backs k d s) d later))
unfolding L.backs left_settle
all_backs_lead zero s plain good d x at later = (stand s (wanted.Settle d ∷ later), refl, is_there refl)
all_backs_lead (suc k) s plain good d x at later =
    let h = happens s (events.Back d) in
    let p = piece_of_settle s plain good d x at in
    rw (one_back k d s)
    (more_backs d later s h k (lines_of (logged (Settle d) h)) (is_settled h.end) refl
    (rw (← (told_from s (Settle d) h (event_from s (events.Back d)))) (p.goes later))
    (λ more. all_backs_lead k h.behind (event_plain s plain (events.Back d) tt) (event_so Good AnyEvent good_kept s good (events.Back d) tt) d
    p.there.0.device (device_there h.behind.mounted d p.there.0 p.there.1) later))

-- of which the last piece says that nothing is left to do
pub settle_goes_on : (s : Subsystem) → ArePlain s.mounted → AreSo Good s.mounted → (d : ℕ) → HasDevice s d → SettleIsOver s d → LineGoes s (wanted.Settle d)
unfolding left_settle
settle_goes_on s plain good d has over later =
    let same = settle_logged_is s d in
    subst (λ (ts : List Logged). LeadsTowards (stand s (wanted.Settle d ∷ later)) (flat_map lines_of ts) (stand (last_behind s ts) later)) (sym same)
    (subst (λ (l : List EventLine). LeadsTowards (stand s (wanted.Settle d ∷ later)) (flat_map lines_of (backs most_backs d s))
    (stand (last_behind s (backs most_backs d s)) l))
    (ap (λ (b : Bool). if b then later else wanted.Settle d ∷ later) (ap ends_settled (sym same) ∙ over))
    (some_device (device_in (devices_of s) d) has (λ x at. all_backs_lead most_backs s plain good d x at later)))

-- Behind the run of a deck that was read

pub step_line_leads : (text : List ℕ) (deck : DeckLines) → parsed text ≡ Ok deck → (d : ℕ) → HasDevice (run_of deck).behind d →
    LineGoes (run_of deck).behind (wanted.Step d)
step_line_leads text deck read d has = step_goes_on (run_of deck).behind (plain_behind deck (read_served text deck read)) d has

pub run_line_leads : (text : List ℕ) (deck : DeckLines) → parsed text ≡ Ok deck → (d : ℕ) → HasDevice (run_of deck).behind d →
    LineGoes (run_of deck).behind (wanted.Run d)
run_line_leads text deck read d has = grind (arith, plain_behind, read_served, run_goes_on, run_is_over)

pub runs_end : (text : List ℕ) (deck : DeckLines) → parsed text ≡ Ok deck → (d : ℕ) → HasDevice (run_of deck).behind d → RunIsOver (run_of deck).behind d
runs_end text deck read d has = run_is_over (run_of deck).behind (plain_behind deck (read_served text deck read)) d has

pub back_line_leads : (text : List ℕ) (deck : DeckLines) → parsed text ≡ Ok deck → (d : ℕ) → HasDevice (run_of deck).behind d →
    LineGoes (run_of deck).behind (wanted.Back d)
back_line_leads text deck read d has = grind (arith, read_served, back_goes_on, plain_behind, good_behind)

pub settles_end : (text : List ℕ) (deck : DeckLines) → parsed text ≡ Ok deck → (d : ℕ) → HasDevice (run_of deck).behind d → SettleIsOver (run_of deck).behind d
settles_end text deck read d has =
    settle_over (run_of deck).behind (good_behind deck (read_served text deck read)) (sized_behind text deck read) d has

pub settle_line_leads : (text : List ℕ) (deck : DeckLines) → parsed text ≡ Ok deck → (d : ℕ) → HasDevice (run_of deck).behind d →
    LineGoes (run_of deck).behind (wanted.Settle d)
settle_line_leads text deck read d has = grind (arith, read_served, settle_goes_on, plain_behind, good_behind, settles_end)
