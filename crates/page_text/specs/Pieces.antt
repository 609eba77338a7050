-- The text of a piece of a page.
use Rattle.std.specs.Prelude.{ℕ, ◌==◌, ◌||◌, ◌/◌, ◌%◌, nat_lt, List, [], ◌∷◌, ◌++◌, codes, decimal, if◌then◌else◌}
use Rattle.std.specs.List.{flat_map}
use Rattle.hex.specs.Hex.{encode_upper}
use Rattle.page_text.specs.declared.page.Piece.{Piece}
use Rattle.page_text.specs.declared.page.Piece.TheVariants.{Text, Shown, Number, Byte, Hex, Small, Short, Count, Path, Device, Track}

-- texts, one after another
abbrev pub joined : List (List ℕ) → List ℕ
joined [] = []
joined (t ∷ ts) = t ++ joined ts

-- a byte as it is shown: what is no printed character of ASCII is a dot
abbrev pub char_text : ℕ → List ℕ
char_text b =
    if b == 60 then codes "&lt;"
    else if b == 62 then codes "&gt;"
    else if b == 38 then codes "&amp;"
    else if b == 34 then codes "&quot;"
    else if nat_lt b 32 || nat_lt 126 b then codes "."
    else b ∷ []

-- any bytes as they are shown
abbrev pub shown_text : List ℕ → List ℕ
shown_text bytes = flat_map char_text bytes

unfoldable pub track_text : ℕ → List ℕ
track_text t =
    codes "track " ++ (decimal t ++ (codes " (cylinder " ++ (decimal (t / 15) ++ (codes " head " ++ (decimal (t % 15) ++ codes ")")))))

abbrev pub piece_text : Piece → List ℕ
piece_text (Text text) = text.now
piece_text (Shown text) = shown_text text.now
piece_text (Number n) = decimal n
piece_text (Byte b) = encode_upper (b ∷ [])
piece_text (Hex bytes) = encode_upper bytes.now
piece_text (Small n) = decimal n
piece_text (Short n) = decimal n
piece_text (Count n) = decimal n
piece_text (Path path) = decimal path
piece_text (Device device) = decimal device
piece_text (Track t) = track_text t
