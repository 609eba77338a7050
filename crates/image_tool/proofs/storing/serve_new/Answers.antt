use Rattle.std.proofs.Common.{inr, refl}
use Rattle.image_tool.proofs.Stored.{long_now, new_on}
use Rattle.image_tool.proofs.storing.serve_new.Goals as goal

pub make_new-requires-clause-long : goal.make_new-requires-clause-long
make_new-requires-clause-long g c = long_now _ _ c.in-Ok.size c.in-Ok.ensures.same c.in-Ok.ensures.size

pub returns-in-Ok-clause-told : goal.returns-in-Ok-clause-told
returns-in-Ok-clause-told g c = new_on _ _ _ _ _ _ _ _ c.in-Ok.ensures.same c.make_new.ensures.told

pub returns-in-Err-clause-told : goal.returns-in-Err-clause-told
returns-in-Err-clause-told g c = inr (record { made = tt; quiet = refl })
