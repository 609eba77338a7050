-- What is drawn and what a small deck is, computed.
use Rattle.std.proofs.Common.{◌≡◌, ℕ, List, [], ◌∷◌, ◌++◌, map, refl}
use Rattle.std.specs.Prelude.{replicate}
use Rattle.ckd_types.specs.declared.channel.Ccw.{Ccw}
use Rattle.deck_plan.specs.declared.event.EventLine.TheVariants.{Start, Run, Back, Settle, Pair}
use Rattle.deck_text.specs.declared.line.PlannedProgram.{PlannedProgram}
use Rattle.deck_gen.specs.declared.choice.Choice.{Choice}
use Rattle.deck_gen.specs.declared.choice.Kind.TheVariants.{Format, Update, Read, ReadTracks}
use Rattle.deck_gen.specs.Draws.{next_number, choice_of}
use Rattle.deck_gen.specs.Choices.{choice_behind}
use Rattle.deck_gen.specs.Programs.{program_of}
use Rattle.deck_gen.specs.Generated.{deck_of}

-- the first draws of seed 1
first_draws : choice_behind 1 ≡ record { device = 0; track = 3; kind = Format; last = 11960119808228829710 }
unfolding next_number choice_of
first_draws = refl

-- the place of track 17, and the number 0x0102030405060708
place : List ℕ
place = 0 ∷ 1 ∷ 0 ∷ 2 ∷ []

eight : List ℕ
eight = 1 ∷ 2 ∷ 3 ∷ 4 ∷ 5 ∷ 6 ∷ 7 ∷ 8 ∷ []

extent : ℕ → ℕ → Ccw
extent mask attributes = record { command = 0x63; flags = 0x40; count = 16; given = mask ∷ attributes ∷ 0x10 ∷ replicate 10 0 ++ 1 ∷ 0 ∷ 14 ∷ [] }

locate : ℕ → ℕ → ℕ → Ccw
locate operation count r = record { command = 0x47; flags = 0x40; count = 16; given = operation ∷ 0 ∷ 0 ∷ count ∷ place ++ place ++ r ∷ 0 ∷ 0 ∷ 0 ∷ [] }

formatted : ℕ → ℕ → Ccw
formatted flags r = record { command = 0x1d; flags = flags; count = 4104; given = place ++ r ∷ 0 ∷ 0x10 ∷ 0 ∷ eight }

read : ℕ → ℕ → ℕ → Ccw
read command flags count = record { command = command; flags = flags; count = count; given = [] }

formats : program_of Format 17 72623859790382856 ≡ extent 0xc0 0xc0 ∷ locate 3 4 0 ∷ formatted 0x40 1 ∷ formatted 0x40 2 ∷ formatted 0x40 3 ∷ formatted 0 4 ∷ []
unfolding extent locate formatted place eight
formats = refl

updates : program_of Update 17 72623859790382856 ≡ extent 0x80 0xc0 ∷ locate 1 1 1 ∷ record { command = 0x85; flags = 0x20; count = 8; given = eight } ∷ []
unfolding extent locate place eight
updates = refl

reads : program_of Read 17 72623859790382856 ≡ extent 0x40 0xc0 ∷ locate 6 2 1 ∷ read 0x86 0x60 4096 ∷ read 0x86 0x20 4096 ∷ []
unfolding extent locate read place
reads = refl

reads_tracks : program_of ReadTracks 17 72623859790382856 ≡ extent 0x40 0xcc ∷ locate 12 2 0 ∷ read 0xde 0x60 65535 ∷ read 0xde 0x20 65535 ∷ []
unfolding extent locate read place
reads_tracks = refl

-- five programs, on devices 0, 2, 2, 0 and 2
few : List Choice
few =
    record { device = 0; track = 3; kind = Format; last = 5 } ∷ record {
      device = 2;
      track = 4;
      kind =
          Update;
      last = 6;
    } ∷ record { device = 2; track = 29; kind = Read; last = 7 }
    ∷ record { device = 0; track = 0; kind = ReadTracks; last = 8 } ∷ record { device = 2; track = 9; kind = Read; last = 9 } ∷ []

events : (deck_of few).events ≡ Pair 0 1 ∷ Settle 0 ∷ Start 1 0 ∷ Run 0 ∷ Start 2 2 ∷ Run 2 ∷ Start 3 2 ∷ Run 2 ∷
    Back 2 ∷ Start 4 0 ∷ Run 0 ∷ Start 1 2 ∷ Run 2 ∷ Settle 0 ∷ Settle 2 ∷ []
unfolding few
events = refl

places : map {B = ℕ × ℕ} (λ (p : PlannedProgram). (p.path, p.device)) (deck_of few).programs ≡ (1, 0) ∷ (2, 2) ∷ (3, 2) ∷ (4, 0) ∷ (1, 2) ∷ []
unfolding few
places = refl
