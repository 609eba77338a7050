use Rattle.device_defs.specs.Image.{Has}
use Rattle.device_laws.proofs.counted.Looks.{image_saw, modified_is_hit, clean_is_hit}
use Rattle.device_laws.proofs.seen.image_is_seen.Goals as goal

pub returns : goal.returns
returns g c = record {
  seen = λ s e usage t u z i r. image_saw _ _ usage t s (Has i) r;
  modified = λ s e usage t u z f a is modified r. modified_is_hit _ _ usage t s f is modified r;
  clean = λ s e usage t u z f p a is clean unpassed told listed r. clean_is_hit _ _ usage t s f p is clean unpassed listed told r;
}
