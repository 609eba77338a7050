use Rattle.volume_file.proofs.ReadSo.{saved}
use Rattle.volume_file.proofs.loading.load.Goals as goal

pub returns-clause-saved : goal.returns-clause-saved
returns-clause-saved g c =
    λ v whole is. saved v _ _ c.read_volume.result whole is c.read_volume.ensures.told c.read_volume.ensures.end c.read_volume.ensures.whole
