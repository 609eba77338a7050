use Rattle.device_laws.proofs.OrdersStand.{chain_begins, chain_stands, chain_stays}
use Rattle.device_laws.proofs.contents.chain_is_on_device.Goals as goal

pub returns : goal.returns
returns c = record { begins = chain_begins; stands = chain_stands; stays = chain_stays }
