use Rattle.std.proofs.Common.{inl, inr, arith, refl}
use Rattle.image_tool.proofs.Stored.{no_bytes, some_bytes}
use Rattle.image_tool.proofs.storing.make_new.Goals as goal

pub returns-then-size-gt0-clause-told : goal.returns-then-size-gt0-clause-told
returns-then-size-gt0-clause-told g c =
    inl (record { bytes = some_bytes _ c.args.size c.requires.long c.if-size-gt0.true; same = refl; written = c.full.ensures.told })

pub make-requires-clause-empty : goal.make-requires-clause-empty
make-requires-clause-empty g c = no_bytes _ c.args.size c.requires.long (omega arith)

pub returns-clause-told : goal.returns-clause-told
returns-clause-told g c = inr (record { made = c.make.ensures.made; quiet = refl })
