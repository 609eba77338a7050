-- What is chosen for each program: three numbers are drawn for it.
use Rattle.std.specs.Prelude.{ℕ, zero, suc, ◌*◌, ◌==◌, List, [], ◌∷◌, if◌then◌else◌}
use Rattle.deck_gen.specs.declared.choice.Kind.{Kind}
use Rattle.deck_gen.specs.declared.choice.Kind.TheVariants.{Format, Update, Read, ReadTracks}
use Rattle.deck_gen.specs.declared.choice.Choice.{Choice}
use Rattle.deck_gen.specs.Draws.{next_number, choice_of}

abbrev pub kind_of : ℕ → Kind
kind_of n = if n == 0 then Format else if n == 1 then Update else if n == 2 then Read else ReadTracks

-- device 0 or 2, a track of two cylinders, and the kind, each by one number
abbrev pub chosen : ℕ → ℕ → ℕ → Choice
chosen first second third = record { device = 2 * choice_of 2 first; track = choice_of 30 second; kind = kind_of (choice_of 4 third); last = third }

-- the choice of the first program behind x
abbrev pub choice_behind : ℕ → Choice
choice_behind x = chosen (next_number x) (next_number (next_number x)) (next_number (next_number (next_number x)))

-- the choices of n programs
abbrev pub choices : ℕ → ℕ → List Choice
choices zero x = []
choices (suc n) x = choice_behind x ∷ choices n (choice_behind x).last
