-- What a read or a write of a text leaves where it may fail on the way.
use Rattle.std.specs.Prelude.{◌≡◌, ◌≤◌, ℕ, List, [], ◌++◌, length, Option, Result, Ok, Err}
use Rattle.std.specs.Io.KnownBytes.{Appends, Consumes}

-- at most so many bytes were taken from the front of what was left
pub record ConsumesSome (old new : Option (List ℕ)) (most : ℕ) : Type 0 where
  pub text : List ℕ
  pub bound : length text ≤ most
  pub taken : Consumes old new text

-- the known bytes grow by a front of the text
pub record AppendsFront (old new : Option (List ℕ)) (text : List ℕ) : Type 0 where
  pub front : List ℕ
  pub rest : List ℕ
  pub whole : text ≡ front ++ rest
  pub grew : Appends old new front

-- the whole text was written, or at an error a front of it
abbrev pub Writes : {T E : Type 0} → Option (List ℕ) → Option (List ℕ) → Result T E → List ℕ → Type 0
Writes old new (Ok x) text = Appends old new text
Writes old new (Err e) text = AppendsFront old new text

-- what waited in a buffer, and then the text: a front of both went on to the sink, and the rest waits
pub record Moves (old : Option (List ℕ)) (waited : List ℕ) (new : Option (List ℕ)) (waits text : List ℕ) : Type 0 where
  pub front : List ℕ
  pub whole : waited ++ text ≡ front ++ waits
  pub grew : Appends old new front

-- a front of what waited and of the text went on to the sink, and nothing waits
pub record Stops (old : Option (List ℕ)) (waited : List ℕ) (new : Option (List ℕ)) (waits text : List ℕ) : Type 0 where
  pub none : waits ≡ []
  pub grew : AppendsFront old new (waited ++ text)

-- a text was put behind what waited, or at an error a front of both was written
abbrev pub Puts : {T E : Type 0} → Option (List ℕ) → List ℕ → Option (List ℕ) → List ℕ → Result T E → List ℕ → Type 0
Puts old waited new waits (Ok x) text = Moves old waited new waits text
Puts old waited new waits (Err e) text = Stops old waited new waits text

-- how many bytes wait in a buffer at most
abbrev pub buffer_size : ℕ
buffer_size = 32768
