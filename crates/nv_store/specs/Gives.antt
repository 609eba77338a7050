-- What applying a patch gives.
use Rattle.std.specs.Prelude.{◌≡◌, IsSome, Option, Some, None, Result, Ok, Err}
use Rattle.track_image.specs.Image.{Image}
use Rattle.nv_store.specs.declared.fault.ApplyFault.{ApplyFault}
use Rattle.nv_store.specs.declared.fault.ApplyFault.TheVariants.{Unfit, NoMemory}

-- the answer, unless memory runs out where there is one
abbrev pub Gives : Result Image ApplyFault → Option Image → Type 0
Gives (Ok i) answer = answer ≡ Some i
Gives (Err Unfit) answer = answer ≡ None
Gives (Err NoMemory) answer = IsSome answer
