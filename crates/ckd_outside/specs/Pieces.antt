-- The text of a piece of a line.
use Rattle.std.specs.Prelude.{ℕ, List, [], ◌∷◌, decimal}
use Rattle.hex.specs.Hex.{encode_upper}
use Rattle.ckd_outside.specs.declared.pieces.Piece.{Piece}
use Rattle.ckd_outside.specs.declared.pieces.Piece.TheVariants.{Text, Number, Byte, Hex}

abbrev pub piece_text : Piece → List ℕ
piece_text (Text text) = text.now
piece_text (Number n) = decimal n
piece_text (Byte b) = encode_upper (b ∷ [])
piece_text (Hex bytes) = encode_upper bytes.now
