-- A program that ran, as a journal holds it.
use Rattle.std.specs.Prelude.{ℕ, List}
use Rattle.ckd_types.specs.declared.channel.CommandEnd.{CommandEnd}
use Rattle.plain_defs.specs.declared.journal.Acted.{Acted}
use Rattle.plain_defs.specs.declared.journal.How.{How}

pub record ProgramEntry : Type 0 where
  pub path : ℕ
  pub ordinal : ℕ
  pub how : How
  pub ends : List CommandEnd
  pub acts : List Acted
