use Rattle.std.proofs.Common.{inl, inr, refl}
use Rattle.image_tool.proofs.storing.serve_given.Goals as goal

pub returns-in-Ok-clause-told : goal.returns-in-Ok-clause-told
returns-in-Ok-clause-told g c =
    inr (record {
      volume = c.in-Ok.volume;
      given = record { whole = c.is_whole.ensures; read = c.in-Ok.ensures.told; end = c.in-Ok.ensures.end };
      told = c.serve_volume.ensures.told;
    })

pub returns-in-Err-clause-told : goal.returns-in-Err-clause-told
returns-in-Err-clause-told g c =
    inl (record { fault = c.in-Err.fault; is = c.in-Err.ensures.told; same = refl; told = c.refuse_volume.ensures.told })
