-- Without a FAULT line no call fails in the run of a deck; where nothing is lost in it either, no command checks and nothing is missed.
use Rattle.std.proofs.Common.{◌≡◌, ◌==◌, Bool, true, false, List, [], ◌∷◌, map, length, refl, sym, ap, subst}
use Rattle.std.proofs.lemmas.Bool.{eqb-true}
use Rattle.std.proofs.lemmas.List.Elements.{All-nil, All-cons, All-head, All-tail}
use Rattle.std.specs.Prelude.{All, not}
use Rattle.deck_plan.specs.declared.event.EventLine.{EventLine}
use Rattle.deck_text.specs.declared.line.DeviceLine.{DeviceLine}
use Rattle.deck_text.specs.declared.line.FaultLine.{FaultLine}
use Rattle.deck_text.specs.DeckLines.{DeckLines}
use Rattle.device_defs.specs.declared.counts.Losses.{Losses}
use Rattle.device_defs.specs.Excused.{unexplained}
use Rattle.device_defs.specs.Marks.{MarksDevice, no_counts}
use Rattle.device_laws.specs.Unharmed.{NothingLost}
use Rattle.subsystem_defs.specs.declared.event.Event.{Event}
use Rattle.subsystem_defs.specs.Calm.{is_loss_event, asks_loss}
use Rattle.subsystem_defs.specs.Decks as D
use Rattle.subsystem_defs.specs.Decks.{empty_firsts, opened_device, opened, run_of}
use Rattle.subsystem_defs.specs.Lines.{Asked, Once, Replace, Unpair, Run, Settle, Logged, asked_by}
use Rattle.subsystem_defs.specs.Promised as P
use Rattle.subsystem_defs.specs.Promised.{empty_of, misses_nothing, all_miss_nothing, miss_nothing}
use Rattle.subsystem_defs.specs.Subsystem.{Mounted, Subsystem, devices_of}
use Rattle.subsystem_laws.specs.Causes.{ChecksNothing, MissesNothing, CountsFailures, CountFailures}
use Rattle.subsystem_laws.specs.Excused.{HasExcusedChecks}
use Rattle.subsystem_laws.specs.Served.{IsServedDeck}
use Rattle.subsystem_laws.specs.SoundHardware.{
  lose_nothing,
  has_sound_hardware,
  HasNoEquipmentCheck,
  HaveNoEquipmentCheck,
  HasNoFailedCall,
  HaveNoFailedCall,
  HasExplainedChecks,
  HaveExplainedChecks,
}
use Rattle.subsystem_laws.proofs.Excusing.{both_true, true_both}
use Rattle.subsystem_laws.proofs.ExcusedRuns.{checks_are_excused}
use Rattle.subsystem_laws.proofs.NothingChecked.{run_checks_nothing}
use Rattle.subsystem_laws.proofs.NothingMissed.{run_misses_nothing}
use Rattle.subsystem_laws.proofs.RunLines.{AnyEvent, MayAsk, all_asked}
use Rattle.subsystem_laws.proofs.RunLinks.{Linked, lines_linked}
use Rattle.subsystem_laws.proofs.TracksKept.{none_less, below_top}
use Rattle.subsystem_laws.proofs.UnfailingRuns.{Allows, IsIntact, AreIntact, stays_intact}
use Rattle.subsystem_laws.proofs.Walks.{all_weaker, behind_weaker, both_behind}

-- Whatever is lost

any_losses : Allows AnyEvent (λ l. Unit {0})
any_losses = record {
  own = record { step = λ d. tt; back = λ d. tt };
  cache = λ may l e. tt;
  store = λ may l e. tt;
  side = λ n side may l e. tt;
  power = λ may l e. tt;
}

pub no_call_fails : (deck : DeckLines) → deck.faults ≡ [] → All HaveNoFailedCall (run_of deck).events
no_call_fails deck none =
    behind_weaker (IsIntact (λ l. Unit {0})) HasNoFailedCall (λ d e. e.0) (run_of deck).events
    (stays_intact (λ l. Unit {0}) AnyEvent any_losses empty_firsts deck none tt (all_asked (map asked_by deck.events)))

-- so failed calls are counted
failures_counted : (ts : List Logged) (s : Subsystem) → Linked s ts → All HaveNoFailedCall ts → All HasNoFailedCall (devices_of s) → All CountFailures ts
failures_counted [] s l h none = All-nil CountFailures
failures_counted (t ∷ ts) s l h none =
    let before = subst (λ (x : Subsystem). All HasNoFailedCall (devices_of x)) (sym l.0) none in
    All-cons CountFailures t ts
    (all_weaker HasNoFailedCall CountsFailures (λ d e. below_top d.store.counts.failed e) (devices_of t.happened.before) before)
    (failures_counted ts t.happened.behind l.1 (All-tail HaveNoFailedCall t ts h) (All-head HaveNoFailedCall t ts h))

opened_none : (deck : DeckLines) (ds : List DeviceLine) → All HasNoFailedCall (map (λ (m : Mounted). m.device) (map (opened_device deck) ds))
opened_none deck [] = All-nil HasNoFailedCall
opened_none deck (d ∷ ds) =
    All-cons HasNoFailedCall (opened_device deck d).device (map (λ (m : Mounted). m.device) (map (opened_device deck) ds)) refl (opened_none deck ds)

run_counts_failures : (deck : DeckLines) → deck.faults ≡ [] → All CountFailures (run_of deck).events
unfolding D.run_asked_on
run_counts_failures deck none =
    failures_counted (run_of deck).events (opened deck) (lines_linked (map asked_by deck.events) (opened deck)) (no_call_fails deck none)
    (opened_none deck deck.devices)

-- and no check of a device that was never lent is unexplained
none_unexplained : (d : MarksDevice) → HasExcusedChecks d → HasNoFailedCall d → HasExplainedChecks d
none_unexplained d excused none never =
    none_less (unexplained d.plans (empty_of d) d.store.lost d.store.counts d.history.items) d.store.counts.failed (excused never) none

pub losses_explain_checks : (deck : DeckLines) → IsServedDeck deck → deck.faults ≡ [] → All HaveExplainedChecks (run_of deck).events
losses_explain_checks deck h none =
    both_behind HasExcusedChecks HasNoFailedCall HasExplainedChecks none_unexplained (run_of deck).events
    (checks_are_excused deck h (run_counts_failures deck none)) (no_call_fails deck none)

-- Where nothing is lost

abbrev IsCalm : Event → Type 0
IsCalm e = is_loss_event e ≡ false

abbrev AreNone : Losses → Type 0
AreNone l = l ≡ no_counts.losses

no_losses : Allows IsCalm AreNone
no_losses = record {
  own = record { step = λ d. refl; back = λ d. refl };
  cache = λ may l e. absurd (cc);
  store = λ may l e. absurd (cc);
  side = λ n side may l e. absurd (cc);
  power = λ may l e. absurd (cc);
}

not_so : (b : Bool) → not b ≡ true → b ≡ false
not_so true e = absurd (cc)
not_so false e = refl

line_calm : (x : Asked) → asks_loss x ≡ false → MayAsk IsCalm x
line_calm (Once e) calm = calm
line_calm (Replace d side) calm = tt
line_calm (Unpair a) calm = tt
line_calm (Run d) calm = tt
line_calm (Settle d) calm = tt

all_calm : (lines : List EventLine) → lose_nothing lines ≡ true → All (MayAsk IsCalm) (map asked_by lines)
all_calm [] e = All-nil (MayAsk IsCalm)
all_calm (line ∷ lines) e =
    let b = both_true (not (asks_loss (asked_by line))) (lose_nothing lines) e in
    All-cons (MayAsk IsCalm) (asked_by line) (map asked_by lines) (line_calm (asked_by line) (not_so (asks_loss (asked_by line)) b.0)) (all_calm lines b.1)

no_lines : (faults : List FaultLine) → length faults ≡ 0 → faults ≡ []
no_lines [] e = refl
no_lines (f ∷ fs) e = absurd (cc)

stays_sound : (deck : DeckLines) → has_sound_hardware deck ≡ true → All (AreIntact AreNone) (run_of deck).events
stays_sound deck sound =
    let b = both_true (length deck.faults == 0) (lose_nothing deck.events) sound in
    stays_intact AreNone IsCalm no_losses empty_firsts deck (no_lines deck.faults (eqb-true (length deck.faults) 0 b.0)) refl (all_calm deck.events b.1)

abbrev HasNothing : MarksDevice → Type 0
HasNothing d = IsIntact AreNone d

nothing_lost : (d : MarksDevice) → HasNothing d → NothingLost d.store
nothing_lost d none = record {
  sides = ap (λ (l : Losses). l.sides) none.1;
  failed = none.0;
  store = ap (λ (l : Losses). l.store) none.1;
}

no_cache_lost : (d : MarksDevice) → HasNothing d → d.store.counts.losses.cache ≡ 0
no_cache_lost d none = ap (λ (l : Losses). l.cache) none.1

pub sound_hardware_checks_nothing : (deck : DeckLines) → IsServedDeck deck → has_sound_hardware deck ≡ true → All HaveNoEquipmentCheck (run_of deck).events
sound_hardware_checks_nothing deck h sound =
    both_behind HasNothing ChecksNothing HasNoEquipmentCheck (λ d none checks. checks (nothing_lost d none) (no_cache_lost d none)) (run_of deck).events
    (stays_sound deck sound) (run_checks_nothing empty_firsts deck h)

-- Nothing is missed

abbrev HasAll : MarksDevice → Type 0
HasAll d = misses_nothing d ≡ true

abbrev HaveAll : Logged → Type 0
HaveAll x = All HasAll (devices_of x.happened.behind)

all_served : (ds : List MarksDevice) → All HasAll ds → all_miss_nothing ds ≡ true
all_served [] h = refl
all_served (d ∷ ds) h = true_both (misses_nothing d) (all_miss_nothing ds) (All-head HasAll d ds h) (all_served ds (All-tail HasAll d ds h))

run_served : (ts : List Logged) → All HaveAll ts → miss_nothing ts ≡ true
unfolding P.miss_nothing
run_served [] h = refl
run_served (t ∷ ts) h =
    true_both (all_miss_nothing (devices_of t.happened.behind)) (miss_nothing ts) (all_served (devices_of t.happened.behind) (All-head HaveAll t ts h))
    (run_served ts (All-tail HaveAll t ts h))

pub sound_hardware_misses_nothing : (deck : DeckLines) → IsServedDeck deck → has_sound_hardware deck ≡ true → miss_nothing (run_of deck).events ≡ true
sound_hardware_misses_nothing deck h sound =
    run_served (run_of deck).events
    (both_behind HasNothing MissesNothing HasAll (λ d none misses. misses (nothing_lost d none) (no_cache_lost d none)) (run_of deck).events
    (stays_sound deck sound) (run_misses_nothing empty_firsts deck h))
