use Rattle.std.proofs.Common.{Ok, ap, subst, sym}
use Rattle.device_outside.specs.Bay.{Bay}
use Rattle.subsystem_defs.specs.Decks.{run_of}
use Rattle.subsystem_laws.proofs.ReadDecks.{read_served, read_small}
use Rattle.volume_file.specs.File.{ImageVolume}
use Rattle.volume_save.specs.Saving.{saving_of, Gives, IsSaved}
use Rattle.volume_save.proofs.deck.saved_behind.Goals as goal

pub of_device-requires : goal.of_device-requires
of_device-requires c =
    let deck = c.args.deck.now in
    let read = c.requires.read in
    (c.in-Ok.ensures.plain deck (read_served read.0 deck read.1) (read_small read.0 deck read.1)
    (c.in_ok-ran.ensures.stands (ap (λ (b : Bay). b.spoiled) c.new-bay.ensures))).whole.most

pub returns-in-Ok-clause-found : goal.returns-in-Ok-clause-found
returns-in-Ok-clause-found c =
    let deck = c.args.deck.now in
    subst (λ (v : ImageVolume). Gives (Ok v) (saving_of deck c.args.d)) (sym c.of_device.ensures)
    (c.in-Ok.ensures.found (run_of deck).behind (c.in_ok-ran.ensures.stands (ap (λ (b : Bay). b.spoiled) c.new-bay.ensures)))

pub returns-in-Ok-clause-plain : goal.returns-in-Ok-clause-plain
returns-in-Ok-clause-plain c =
    let deck = c.args.deck.now in
    let read = c.requires.read in
    subst (IsSaved deck c.args.d) (sym c.of_device.ensures)
    (c.in-Ok.ensures.plain deck (read_served read.0 deck read.1) (read_small read.0 deck read.1)
    (c.in_ok-ran.ensures.stands (ap (λ (b : Bay). b.spoiled) c.new-bay.ensures)))
