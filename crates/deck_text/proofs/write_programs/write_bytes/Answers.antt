use Rattle.std.proofs.Common.{◌≡◌, ◌++◌, ◌==◌, ◌∷◌, [], ℕ, List, false, codes, length, refl}
use Rattle.hex.specs.Hex.{encode_upper}
use Rattle.ckd_outside.proofs.Lines.{puts_stopped, puts_then, stops_longer}
use Rattle.deck_text.specs.Canonical.{bytes_text}
use Rattle.deck_text.proofs.write_programs.write_bytes.Goals as goal

some_bytes : (bytes : List ℕ) → false ≡ (length bytes == 0) → bytes_text bytes ≡ codes " " ++ encode_upper bytes
some_bytes [] is = absurd (cc)
some_bytes (b ∷ bytes) is = refl

pub returns-in_err-put_text-clause-bytes : goal.returns-in_err-put_text-clause-bytes
returns-in_err-put_text-clause-bytes g c =
    rw (some_bytes c.args.bytes.now c.if-is_empty.ensures)
    (puts_stopped _ _ _ _ _ _ _ c.from_residual.ensures.1
    (stops_longer _ _ _ _ (codes " ") (encode_upper c.args.bytes.now) c.in_err-put_text.ensures.bytes))

pub returns-clause-bytes : goal.returns-clause-bytes
returns-clause-bytes g c =
    rw (some_bytes c.args.bytes.now c.if-is_empty.ensures)
    (puts_then _ _ _ _ _ _ _ _ _ c.in_ok-put_text.ensures.bytes c.put_hex.ensures.bytes)
