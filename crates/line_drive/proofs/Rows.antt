-- What lines come to where each event behind them is counted, and a few are allowed, from the definitions alone.
use Rattle.std.proofs.Common.{◌≡◌, ℕ, List, [], ◌∷◌, ◌++◌, refl}
use Rattle.std.specs.Prelude.{◌+◌, ◌==◌, if◌then◌else◌}
use Rattle.ckd_types.specs.Commands.{command_of}
use Rattle.ckd_types.specs.declared.paths.Side.TheVariants.{A}
use Rattle.deck_plan.specs.declared.event.EventLine.TheVariants as lines
use Rattle.deck_text.specs.DeckLines.{DeckLines}
use Rattle.track_table.specs.Tracks.{least, count_below}
use Rattle.device_outside.specs.Lists.{is_in, with_number, less_one}
use Rattle.device_outside.specs.Pool.{answer, after}
use Rattle.device_outside.specs.Volume.{counted}
use Rattle.device_outside.specs.Told.{hold}
use Rattle.device_defs.specs.Background.{work}
use Rattle.device_defs.specs.Choosing.{choose}
use Rattle.device_defs.specs.Command.{look, follow, command}
use Rattle.device_defs.specs.Cutting.{reset, power}
use Rattle.device_defs.specs.Events.{second, background, lose}
use Rattle.device_defs.specs.Image.{level_bytes, image}
use Rattle.device_defs.specs.Losses.{over, settled, side_lost, cache_lost, store_lost, all_firm_told}
use Rattle.device_defs.specs.Orders.{lend}
use Rattle.device_defs.specs.Owed.{waits, hear, all_told}
use Rattle.device_defs.specs.Second.{second_part}
use Rattle.device_defs.specs.Start.{start_fault, start}
use Rattle.device_defs.specs.Editing.{through, write}
use Rattle.device_defs.specs.Writing.{write_first, write_second, write_done}
use Rattle.device_defs.proofs.Stand.{read_zero}
use Rattle.subsystem_defs.specs.Decks.{opened}
use Rattle.subsystem_defs.specs.Deeds.{deed}
use Rattle.subsystem_defs.specs.Happening.{sweep, happens, replaced, unpaired}
use Rattle.subsystem_defs.specs.Lines.{Asked, steps, backs, line_logged, run_lines}
use Rattle.subsystem_defs.specs.Refusals.{pair_fault, unpair_fault, suspend_fault, resume_fault, fail_fault, replace_fault}
use Rattle.subsystem_defs.specs.Subsystem.{Subsystem}
use Rattle.subsystem_defs.proofs.Stand.{deck, go, line, settle, two}
use Rattle.line_drive.specs.Driven.{Course, Step, Goes, Ends, backs_on, driven, run_did, steps_on}

-- the devices, and how many events there were
pub record Tally : Type 0 where
  pub sub : Subsystem
  pub count : ℕ

-- behind this many events it ends, with the number
abbrev pub counting : ℕ → Course Tally ℕ
counting most = record {
  sub = λ g. g.sub;
  did = λ g o. record { sub = run_did g.sub o; count = g.count };
  behind = λ g. if g.count == most then Ends most else Goes (record { sub = g.sub; count = g.count + 1 });
}

pub data Came : Type 0 where
  CameTo : ℕ → Came
  EndedAt : ℕ → Came

abbrev pub shown : Step Tally ℕ → Came
shown (Goes g) = CameTo g.count
shown (Ends n) = EndedAt n

abbrev pub come : ℕ → DeckLines → List Asked → Came
come most d asked = shown (driven (counting most) asked (record { sub = opened d; count = 0 }))

abbrev pub run : List Asked
run = line (lines.Run 0)

-- a program of three commands with its start; an idle RUN; a pair that is settled; orders that are refused; and it ends in the midst
pub counts : come 99 (deck 1 1 (read_zero 0xc0 0 ∷ [])) go
    ∷ come 99 (deck 1 1 []) (run ++ run)
    ∷ come 99 (two []) (line (lines.Pair 0 1) ++ settle)
    ∷ come 99 (two []) (line (lines.Replace 0 A) ++ line (lines.Unpair 0))
    ∷ come 2 (deck 1 1 (read_zero 0xc0 0 ∷ [])) (go ++ run)
    ∷ come 5 (two []) (line (lines.Pair 0 1) ++ settle)
    ∷ []
    ≡ CameTo 4 ∷ CameTo 2 ∷ CameTo 17 ∷ CameTo 2 ∷ EndedAt 2 ∷ EndedAt 5 ∷ []
unfolding command_of least count_below is_in with_number less_one answer after counted hold work choose look follow
    command reset power second background lose level_bytes image over settled side_lost cache_lost store_lost
    all_firm_told waits hear all_told lend second_part start_fault start write_first write_second write_done through
    write pair_fault unpair_fault suspend_fault resume_fault fail_fault replace_fault deed sweep happens replaced
    unpaired steps backs line_logged run_lines steps_on backs_on driven
counts = refl
