-- In the run of a deck each event makes exactly the transfers of the rules.
use Rattle.std.proofs.Common.{◌≡◌, zero, suc, ℕ, false, List, [], ◌∷◌, map, Some, refl, sym, subst}
use Rattle.std.specs.Prelude.{All}
use Rattle.std.proofs.lemmas.Bool.{cond_both}
use Rattle.std.proofs.lemmas.List.Elements.{All-nil, All-cons, All-head, All-tail, All-append}
use Rattle.deck_text.specs.DeckLines.{DeckLines}
use Rattle.subsystem_defs.specs.declared.end.EventEnd.TheVariants as ends
use Rattle.subsystem_defs.specs.declared.event.Event.{Event}
use Rattle.subsystem_defs.specs.declared.event.Event.TheVariants as events
use Rattle.subsystem_defs.specs.Decks as D
use Rattle.subsystem_defs.specs.Decks.{Firsts, opened_on, run_on}
use Rattle.subsystem_defs.specs.Happening.{happens, quietly}
use Rattle.subsystem_defs.specs.Lines as L
use Rattle.subsystem_defs.specs.Lines.{
  Asked,
  Once,
  Replace,
  Unpair,
  Run,
  Settle,
  Logged,
  logged,
  asked_by,
  is_busy,
  is_settled,
  step_logged,
  steps,
  most_steps,
  run_logged,
  most_backs,
  backs,
  line_logged,
  last_behind,
  run_lines,
}
use Rattle.subsystem_defs.specs.Subsystem.{Subsystem, mounted_in}
use Rattle.subsystem_laws.specs.Transfers.{MovesByTable}
use Rattle.subsystem_laws.proofs.MovedRuns.{run_moves}
use Rattle.subsystem_laws.proofs.RunLinks.{event_from}
use Rattle.promise_laws.specs.Origins.{event_of}
use Rattle.move_laws.specs.Exactly.{Transfers, step_transfers, back_transfers, Makes, MovesExactly}
use Rattle.move_laws.proofs.Steps.{step_exact, background_exact, idle_makes}

-- if it is a step, or work in the background, it makes these
record IsExact (x : Logged) : Type 0 where
  steps : (n : ℕ) → event_of x.asked ≡ Some (events.Step n) → Makes (step_transfers x.happened.before n x.happened.end) x.happened
  works : (n : ℕ) → event_of x.asked ≡ Some (events.Back n) → Makes (back_transfers x.happened.before n) x.happened

-- Single events

step_happens : (s : Subsystem) (n : ℕ) →
    Makes (step_transfers (happens s (events.Step n)).before n (happens s (events.Step n)).end) (happens s (events.Step n))
step_happens s n =
    subst (λ (b : Subsystem). Makes (step_transfers b n (happens s (events.Step n)).end) (happens s (events.Step n))) (sym (event_from s (events.Step n)))
    (step_exact s n)

back_happens : (s : Subsystem) (n : ℕ) → Makes (back_transfers (happens s (events.Back n)).before n) (happens s (events.Back n))
back_happens s n =
    subst (λ (b : Subsystem). Makes (back_transfers b n) (happens s (events.Back n))) (sym (event_from s (events.Back n))) (background_exact s n)

once_exact : (s : Subsystem) (e : Event) → IsExact (logged (Once e) (happens s e))
once_exact s e = record {
  steps = λ n is.
      let same : e ≡ events.Step n = cc in
      subst (λ (x : Event). Makes (step_transfers (happens s x).before n (happens s x).end) (happens s x)) (sym same) (step_happens s n);
  works = λ n is.
      let same : e ≡ events.Back n = cc in
      subst (λ (x : Event). Makes (back_transfers (happens s x).before n) (happens s x)) (sym same) (back_happens s n);
}

run_exact : (s : Subsystem) (d : ℕ) → IsExact (logged (Run d) (happens s (events.Step d)))
run_exact s d = record {
  steps = λ n is.
      let same : d ≡ n = cc in
      let h = happens s (events.Step d) in
      subst (λ (k : ℕ). Makes (step_transfers h.before k h.end) h) same (step_happens s d);
  works = λ n is. absurd (cc);
}

idle_exact : (s : Subsystem) (d : ℕ) → is_busy (mounted_in s.mounted d) ≡ false → IsExact (logged (Run d) (quietly s s ends.Idle))
idle_exact s d idle = record {
  steps = λ n is.
      let same : d ≡ n = cc in
      subst (λ (x : Transfers). Makes x (quietly s s ends.Idle))
      (sym (idle_makes s n ends.Idle (subst (λ (k : ℕ). is_busy (mounted_in s.mounted k) ≡ false) same idle))) (record { reads = refl; writes = refl });
  works = λ n is. absurd (cc);
}

settle_exact : (s : Subsystem) (d : ℕ) → IsExact (logged (Settle d) (happens s (events.Back d)))
settle_exact s d = record {
  steps = λ n is. absurd (cc);
  works = λ n is.
      let same : d ≡ n = cc in
      let h = happens s (events.Back d) in
      subst (λ (k : ℕ). Makes (back_transfers h.before k) h) same (back_happens s d);
}

-- All lines

steps_step : (n d : ℕ) (s : Subsystem) → All IsExact (steps n d s)
unfolding L.steps
steps_step zero d s = All-nil IsExact
steps_step (suc n) d s =
    cond_both (is_busy (mounted_in s.mounted d)) (step_logged s d (steps n d)) [] (All IsExact)
    (λ _. All-cons IsExact (logged (Run d) (happens s (events.Step d))) (steps n d (happens s (events.Step d)).behind) (run_exact s d)
    (steps_step n d (happens s (events.Step d)).behind)) (λ _. All-nil IsExact)

run_step : (d : ℕ) (s : Subsystem) → All IsExact (run_logged s d)
run_step d s =
    cond_both (is_busy (mounted_in s.mounted d)) (steps most_steps d s) (logged (Run d) (quietly s s ends.Idle) ∷ []) (All IsExact)
    (λ _. steps_step most_steps d s)
    (λ idle. All-cons IsExact (logged (Run d) (quietly s s ends.Idle)) [] (idle_exact s d idle) (All-nil IsExact))

backs_step : (n d : ℕ) (s : Subsystem) → All IsExact (backs n d s)
unfolding L.backs
backs_step zero d s = All-nil IsExact
backs_step (suc n) d s =
    let h = happens s (events.Back d) in
    All-cons IsExact (logged (Settle d) h) _ (settle_exact s d)
    (cond_both (is_settled h.end) [] (backs n d h.behind) (All IsExact) (λ _. All-nil IsExact) (λ _. backs_step n d h.behind))

line_step : (x : Asked) (s : Subsystem) → All IsExact (line_logged s x)
unfolding L.line_logged
line_step (Once e) s = All-cons IsExact (logged (Once e) (happens s e)) [] (once_exact s e) (All-nil IsExact)
line_step (Replace d side) s = All-cons IsExact _ [] (record { steps = λ n is. absurd (cc); works = λ n is. absurd (cc) }) (All-nil IsExact)
line_step (Unpair a) s = All-cons IsExact _ [] (record { steps = λ n is. absurd (cc); works = λ n is. absurd (cc) }) (All-nil IsExact)
line_step (Run d) s = run_step d s
line_step (Settle d) s = backs_step most_backs d s

lines_step : (xs : List Asked) (s : Subsystem) → All IsExact (run_lines xs s)
unfolding L.run_lines
lines_step [] s = All-nil IsExact
lines_step (x ∷ xs) s =
    let ts = line_logged s x in
    All-append IsExact ts (run_lines xs (last_behind s ts)) (line_step x s) (lines_step xs (last_behind s ts))

run_is_exact : (firsts : Firsts) (deck : DeckLines) → All IsExact (run_on firsts deck).events
unfolding D.run_asked_on
run_is_exact firsts deck = lines_step (map asked_by deck.events) (opened_on firsts deck)

both : (xs : List Logged) → All MovesByTable xs → All IsExact xs → All MovesExactly xs
both [] f g = All-nil MovesExactly
both (x ∷ xs) f g =
    let y = All-head IsExact x xs g in
    All-cons MovesExactly x xs (record { by_table = All-head MovesByTable x xs f; steps = y.steps; works = y.works })
    (both xs (All-tail MovesByTable x xs f) (All-tail IsExact x xs g))

pub run_exactly : (firsts : Firsts) (deck : DeckLines) → All MovesExactly (run_on firsts deck).events
run_exactly firsts deck = both (run_on firsts deck).events (run_moves firsts deck) (run_is_exact firsts deck)
