-- What a handle owns: the box at its place, or nothing; and what is lent with a place: the file there.
use base.Fml.{Fml, ftrue}
use base.Fraction.{full_share}
use denote.RattleType.{RattleType}
use denote.RawPtr.{Ptr, lies_at}
use Rattle.std_alloc.specs.Box.Ownership.{box_owns}
use Rattle.std.specs.contracts.fs.File as file
use Rattle.std.specs.contracts.impls.GlobalAllocator.TheImpl.{ghosts}
use Rattle.std.specs.declared.alloc.Global.{Global}
use Rattle.std.specs.declared.fs.File.{File}
use Rattle.std.specs.declared.option.Option.{Option}
use Rattle.std.specs.declared.option.Option.TheVariants.{None, Some}

abbrev pub held : Global → (R : RattleType) → Ptr → Option R.Denot → Fml
held a R p None = ftrue
held a R p (Some x) = box_owns (ghosts.dealloc_token a) R p x

abbrev pub lent : Ptr → File → Fml
lent p f = lies_at file.the_row full_share p f
