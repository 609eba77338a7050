-- Facts about the ends of a program.
use Rattle.std.specs.Prelude.{◌≡◌, true, List, [], ◌∷◌}
use Rattle.ckd_types.specs.declared.channel.CommandEnd.{CommandEnd}

-- there is an end, and the last one says that the program is over
abbrev pub LastIsOver : List CommandEnd → Type 0
LastIsOver [] = ⊥
LastIsOver (e ∷ []) = e.over ≡ true
LastIsOver (e ∷ f ∷ ends) = LastIsOver (f ∷ ends)
