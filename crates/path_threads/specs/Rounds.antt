-- What came of several devices.
use Rattle.path_workers.specs.declared.events.Came.{Came}
use Rattle.path_workers.specs.declared.events.Came.TheVariants.{Went, Again, Over}

-- over where all are, and gone where one went
abbrev pub both : Came → Came → Came
both Went c = Went
both Over c = c
both Again Went = Went
both Again Again = Again
both Again Over = Again
