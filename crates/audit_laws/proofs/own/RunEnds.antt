-- A RUN comes to its end: of the program that runs at most 4,096 commands end, each in two events, and a half write may be open from before.
use Rattle.std.proofs.Common.{◌≡◌, ◌<◌, ℕ, zero, suc, Bool, true, false, List, [], ◌∷◌, length, map, Option, Some, None, is_some, refl, sym, ap, subst, ◌∙◌, arith}
use Rattle.std.specs.Prelude.{◌||◌, IfSome, IsSome, if◌then◌else◌}
use Rattle.std.proofs.lemmas.Bool.{leb-false, or_parts}
use Rattle.ckd_types.specs.declared.channel.Ccw.{Ccw}
use Rattle.ckd_rules.specs.declared.stance.Stance.{Stance}
use Rattle.plain_defs.specs.declared.journal.Acted.{Acted}
use Rattle.plain_defs.specs.History.{OpenEntry}
use Rattle.plain_defs.specs.PlainState.{PlainState}
use Rattle.plain_defs.specs.Program.{Part, first_part, one_more, part_of}
use Rattle.plain_defs.proofs.PartLemmas.{acted_beside}
use Rattle.device_defs.specs.Marks.{MarksDevice}
use Rattle.device_defs.specs.Store.{Origin, OfCommand, OfCut, OfBackground}
use Rattle.device_defs.specs.Store as store
use Rattle.device_laws.proofs.HistoryEnds.{running_is_open}
use Rattle.deck_audit.specs.declared.state.HalfWrite.{HalfWrite}
use Rattle.deck_audit.specs.declared.state.HalfWrite.TheVariants as half
use Rattle.subsystem_defs.specs.declared.end.EventEnd.TheVariants as ends
use Rattle.deck_plan.specs.declared.event.EventLine.TheVariants as wanted
use Rattle.subsystem_defs.specs.declared.event.Event.TheVariants as events
use Rattle.subsystem_defs.specs.Deeds.{device_in}
use Rattle.subsystem_defs.specs.Happening.{happens, quietly}
use Rattle.subsystem_defs.specs.Lines as L
use Rattle.subsystem_defs.specs.Lines.{Run, is_busy, last_behind, line_logged, logged, most_steps, step_logged, steps}
use Rattle.subsystem_defs.specs.Subsystem.{Mounted, Subsystem, devices_of, mounted_in}
use Rattle.subsystem_laws.proofs.FoundDevices.{number_found}
use Rattle.subsystem_laws.proofs.PlainRuns.{ArePlain, Plainly, event_plain}
use Rattle.subsystem_laws.proofs.Walks.{device_so}
use Rattle.audit_laws.specs.Runs.{RunIsOver}
use Rattle.audit_laws.specs.Standing.{HasDevice, half_by}
use Rattle.audit_laws.proofs.own.CommandCounts.{effect_counts}
use Rattle.audit_laws.proofs.own.Found.{mounted_too}
use Rattle.audit_laws.proofs.own.PieceEvents.{PieceGoes, run_step_goes}
use Rattle.audit_laws.proofs.own.StepsLeft.{Enough}

-- A program that runs has fewer ends than may be

not_over : (b : Bool) (o : Option ℕ) → IsSome (if b then None else o) → b ≡ false
not_over b o some = grind arith

pub record Few (k : ℕ) (p : Part) : Type 0 where
  pub counted : p.stance.commands ≡ k
  pub few : k < 4096

module _ (path : ℕ) (ccws : List Ccw) (acts : List Acted) (state : PlainState) where
  more_few : (k : ℕ) (n : Option ℕ) → (part_of state path ccws acts k).next ≡ n →
      (IsSome (part_of state path ccws acts k).next → Few k (part_of state path ccws acts k)) →
      IsSome (one_more path ccws acts (part_of state path ccws acts k)).next → Few (suc k) (one_more path ccws acts (part_of state path ccws acts k))
  more_few k n is before some = search (arith, acted_beside, not_over, effect_counts, leb-false, or_parts)

  pub few_of : (k : ℕ) → IsSome (part_of state path ccws acts k).next → Few k (part_of state path ccws acts k)
  unfolding part_of
  few_of zero some = record { counted = ap (λ (s : Stance). s.commands) (acted_beside acts (first_part state path ccws)).stance; few = omega arith }
  few_of (suc k) some = more_few k (part_of state path ccws acts k).next refl (few_of k) some

few_ends : (x : MarksDevice) → Plainly x → (o : OpenEntry) → x.history.running ≡ Some o → length o.ends < 4096
few_ends x p o running = grind (arith, running_is_open, few_of)

no_program : (r : Option OpenEntry) → r ≡ None → IsSome r → ⊥
no_program r is some = grind arith

at_first : (r : Option OpenEntry) (h : HalfWrite) → Enough most_steps r h
at_first r h = grind arith

-- with none left nothing is to do
at_last : (r : Option OpenEntry) (h : HalfWrite) → ((o : OpenEntry) → r ≡ Some o → length o.ends < 4096) → Enough 0 r h → (r ≡ None) × (h ≡ half.Closed)
at_last r h few enough = grind arith

pub device_there : (ms : List Mounted) (n : ℕ) (m : Mounted) → mounted_in ms n ≡ Some m → device_in (map (λ (k : Mounted). k.device) ms) n ≡ Some m.device
device_there [] n m is = absurd (cc)
device_there (k ∷ ms) n m is = grind (arith, device_there ms n m)

pub piece_of_run : (s : Subsystem) → ArePlain s.mounted → (d : ℕ) (x : MarksDevice) → device_in (devices_of s) d ≡ Some x →
    is_busy (mounted_in s.mounted d) ≡ true → PieceGoes s d (wanted.Run d) (Run d) (happens s (events.Step d))
piece_of_run s plain d x at busy =
    let number = number_found s.mounted d x at in
    subst (λ (k : ℕ). PieceGoes s k (wanted.Run k) (Run k) (happens s (events.Step k))) number
    (run_step_goes s x (subst (λ (k : ℕ). device_in (devices_of s) k ≡ Some x) (sym number) at) (subst (λ (o : Option MarksDevice). IfSome o Plainly) at (device_so Plainly s.mounted d plain)) (rw number busy))

-- All events

half_none : (h : Option (store.HalfWrite (Unit {0}))) → half_by h ≡ half.Closed → is_some h ≡ false
half_none h is = grind arith

steps_end : (k : ℕ) (s : Subsystem) → ArePlain s.mounted → (d : ℕ) (x : MarksDevice) → device_in (devices_of s) d ≡ Some x →
    Enough k x.history.running (half_by x.store.half) → is_busy (mounted_in (last_behind s (steps k d s)).mounted d) ≡ false
unfolding L.steps
steps_end zero s plain d x at enough =
    let m = mounted_too s.mounted d x at in
    let none = at_last x.history.running (half_by x.store.half) (few_ends x (subst (λ (o : Option MarksDevice). IfSome o Plainly) at
    (device_so Plainly s.mounted d plain))) enough in
    ap is_busy m.1 ∙ ap (λ (y : MarksDevice). is_some y.store.half || is_some y.history.running) m.2 ∙ ap
    (λ (r : Option OpenEntry). is_some x.store.half || is_some r) none.0 ∙ ap (λ (b : Bool). b || false) (half_none x.store.half none.1)
steps_end (suc k) s plain d x at enough = by_busy (is_busy (mounted_in s.mounted d)) refl
    (λ busy. let h = happens s (events.Step d) in
    let p = piece_of_run s plain d x at busy in
    steps_end k h.behind (event_plain s plain (events.Step d) tt) d p.there.0.device (device_there h.behind.mounted d p.there.0 p.there.1)
    (p.enough x at tt k enough))
  where
    by_busy : (b : Bool) → is_busy (mounted_in s.mounted d) ≡ b →
        (is_busy (mounted_in s.mounted d) ≡ true →
        is_busy (mounted_in (last_behind (happens s (events.Step d)).behind (steps k d (happens s (events.Step d)).behind)).mounted d) ≡ false) →
        is_busy (mounted_in (last_behind s (if b then step_logged s d (steps k d) else [])).mounted d) ≡ false
    by_busy true is more = more is
    by_busy false is more = is

pub run_is_over : (s : Subsystem) → ArePlain s.mounted → (d : ℕ) → HasDevice s d → RunIsOver s d
unfolding L.line_logged
run_is_over s plain d has = by_busy (is_busy (mounted_in s.mounted d)) refl where
  by_device : (o : Option MarksDevice) → device_in (devices_of s) d ≡ o → IsSome o →
      is_busy (mounted_in (last_behind s (steps most_steps d s)).mounted d) ≡ false
  by_device (Some x) at some = steps_end most_steps s plain d x at (at_first x.history.running (half_by x.store.half))
  by_device None at some = absurd (cc)

  by_busy : (b : Bool) → is_busy (mounted_in s.mounted d) ≡ b →
      is_busy (mounted_in (last_behind s (if b then steps most_steps d s else logged (Run d) (quietly s s ends.Idle) ∷ [])).mounted d) ≡ false
  by_busy true is = by_device (device_in (devices_of s) d) refl has
  by_busy false is = is
