-- What is told of a list that is no program.
use Rattle.std.specs.Prelude.{ℕ}
use Rattle.ckd_types.specs.declared.channel.Why.{Why}
use Rattle.ckd_ccw.specs.declared.program.ProgramFault.{ProgramFault}
use Rattle.ckd_ccw.specs.declared.program.ProgramFault.TheVariants.{Bad}

-- the index of the first bad word, and why it is bad
abbrev pub reason : ProgramFault → ℕ × Why
reason (Bad index why) = (index, why)

abbrev pub index_of : ProgramFault → ℕ
index_of (Bad index why) = index
