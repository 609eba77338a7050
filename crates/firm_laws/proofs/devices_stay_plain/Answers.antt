-- devices_stay_plain
use Rattle.subsystem_laws.proofs.PlainRuns.{event_plain_on, opened_plain, opened_plain_on}
use Rattle.subsystem_laws.proofs.ReadDecks.{read_served}
use Rattle.firm_laws.proofs.StillPlain.{look_plain, replaced_plain, unpaired_plain}
use Rattle.firm_laws.proofs.devices_stay_plain.Goals as goal

pub returns : goal.returns
returns c = record {
  opened = λ text deck read. opened_plain deck deck.devices (read_served text deck read).devices;
  opened_on = λ firsts whole text deck read. opened_plain_on firsts whole deck deck.devices (read_served text deck read).devices;
  event = λ firsts s e p may. event_plain_on firsts s p e may;
  look = λ firsts s d q p. look_plain firsts s p d q;
  replaced = λ firsts s d side volume p. replaced_plain firsts s p d side volume;
  unpaired = λ firsts s d volume p. unpaired_plain firsts s p d volume;
}
