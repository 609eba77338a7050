-- Data of cache fast write that are lost, by whether there are some.
use Rattle.std.proofs.Common.{◌≡◌, Bool, true, false, ap}
use Rattle.std.specs.Prelude.{if◌then◌else◌}
use Rattle.plain_defs.specs.declared.journal.Act.TheVariants.{CfwLost}
use Rattle.device_defs.specs.Cutting.{loose_gone}
use Rattle.device_defs.specs.Effects.{act_noted, gone_back, loose_lost}
use Rattle.device_defs.specs.Contents.{Contents}
use Rattle.device_defs.specs.Store.{Store, has_loose}

module _ {F P H : Type 0} (s : Store F P H) where
  pub some_lost : has_loose s ≡ true → loose_lost s ≡ act_noted (gone_back s) CfwLost
  some_lost is = ap (λ (b : Bool). if b then act_noted (gone_back s) CfwLost else s) is

  pub none_lost : has_loose s ≡ false → loose_lost s ≡ s
  none_lost is = ap (λ (b : Bool). if b then act_noted (gone_back s) CfwLost else s) is

module _ {F P H R : Type 0} (c : Contents F P H R) (s : Store F P H) where
  pub some_gone : has_loose s ≡ true → loose_gone c s ≡ gone_back s
  some_gone is = ap (λ (b : Bool). if b then gone_back s else s) is

  pub none_gone : has_loose s ≡ false → loose_gone c s ≡ s
  none_gone is = ap (λ (b : Bool). if b then gone_back s else s) is
