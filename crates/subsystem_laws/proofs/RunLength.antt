-- How many events a run has.
use Rattle.std.proofs.Common.{◌≡◌, ◌<◌, ◌≤◌, ◌+◌, zero, suc, ℕ, List, [], ◌∷◌, ◌++◌, length, map, arith}
use Rattle.std.proofs.lemmas.Bool.{cond_both}
use Rattle.std.proofs.lemmas.List.{length-append, length-map}
use Rattle.std.specs.Prelude.{Ok, ◌*◌, ◌^◌, ◌-◌}
use Rattle.deck_text.specs.DeckLines.{DeckLines}
use Rattle.deck_text.specs.Parse.{parsed}
use Rattle.deck_text.proofs.Reached.{parsed_good}
use Rattle.subsystem_defs.specs.declared.end.EventEnd.TheVariants as ends
use Rattle.subsystem_defs.specs.declared.event.Event.TheVariants as events
use Rattle.subsystem_defs.specs.Decks as D
use Rattle.subsystem_defs.specs.Decks.{Firsts, opened_on, run_on}
use Rattle.subsystem_defs.specs.Happening.{quietly, happens}
use Rattle.subsystem_defs.specs.Lines as L
use Rattle.subsystem_defs.specs.Lines.{
  is_settled,
  most_backs,
  backs,
  Asked,
  Once,
  Replace,
  Unpair,
  Run,
  Settle,
  Logged,
  logged,
  is_busy,
  step_logged,
  steps,
  most_steps,
  run_logged,
  line_logged,
  last_behind,
  run_lines,
  asked_by,
}
use Rattle.subsystem_defs.specs.Subsystem.{Subsystem, mounted_in}

steps_few : (n d : ℕ) (s : Subsystem) → length (steps n d s) ≤ n
unfolding L.steps
steps_few zero d s = omega arith
steps_few (suc n) d s =
    cond_both (is_busy (mounted_in s.mounted d)) (step_logged s d (steps n d)) [] (λ (ts : List Logged). length ts ≤ suc n)
    (λ _. let le = steps_few n d (happens s (events.Step d)).behind in omega (arith, le)) (λ _. omega arith)

backs_few : (n d : ℕ) (s : Subsystem) → length (backs n d s) ≤ n
unfolding L.backs
backs_few zero d s = omega arith
backs_few (suc n) d s =
    let h = happens s (events.Back d) in
    let le = cond_both (is_settled h.end) [] (backs n d h.behind) (λ (ts : List Logged). length ts ≤ n) (λ _. omega arith) (λ _. backs_few n d h.behind) in
    omega (arith, le)

run_few : (d : ℕ) (s : Subsystem) → length (run_logged s d) ≤ 8193
run_few d s =
    cond_both (is_busy (mounted_in s.mounted d)) (steps most_steps d s) (logged (Run d) (quietly s s ends.Idle) ∷ []) (λ (ts : List Logged). length ts ≤ 8193)
    (λ _. steps_few most_steps d s) (λ _. omega arith)

line_few : (x : Asked) (s : Subsystem) → length (line_logged s x) ≤ 8193
unfolding L.line_logged
line_few (Once e) s = omega arith
line_few (Replace d side) s = omega arith
line_few (Unpair a) s = omega arith
line_few (Run d) s = run_few d s
line_few (Settle d) s = let le = backs_few most_backs d s in omega (arith, le)

lines_few : (lines : List Asked) (s : Subsystem) → length (run_lines lines s) ≤ length lines * 8193
unfolding L.run_lines
lines_few [] s = omega arith
lines_few (line ∷ lines) s =
    let ts = line_logged s line in
    let us = run_lines lines (last_behind s ts) in
    let here = line_few line s in
    let more = lines_few lines (last_behind s ts) in
    let both : length (ts ++ us) ≡ length ts + length us = length-append ts us in
    omega (arith, here, more, both)

pub read_run_has_few : (firsts : Firsts) (text : List ℕ) (deck : DeckLines) → parsed text ≡ Ok deck → length (run_on firsts deck).events ≤ 536936448
unfolding D.run_asked_on
read_run_has_few firsts text deck read =
    let most = (parsed_good text deck read).event_count in
    let le = lines_few (map asked_by deck.events) (opened_on firsts deck) in
    let same : length (map asked_by deck.events) ≡ length deck.events = length-map deck.events asked_by in
    omega (arith, most, le, same)

below_top : (n : ℕ) → n ≤ 536936448 → n < 2 ^ 64 - 1
below_top n le = omega (arith, le)

pub read_run_is_short : (firsts : Firsts) (text : List ℕ) (deck : DeckLines) → parsed text ≡ Ok deck → length (run_on firsts deck).events < 2 ^ 64 - 1
read_run_is_short firsts text deck read = below_top (length (run_on firsts deck).events) (read_run_has_few firsts text deck read)
