use Rattle.std.proofs.Common.{◌∷◌, []}
use Rattle.std.proofs.lemmas.List.{append-nil}
use Rattle.hex.specs.Hex.{encode_upper}
use Rattle.ckd_outside.proofs.Lines.{puts_stopped, puts_then, stops_longer}
use Rattle.report_text.proofs.words.HexWordWords.put.Goals as goal

pub returns-in_err-put_text-clause-bytes : goal.returns-in_err-put_text-clause-bytes
returns-in_err-put_text-clause-bytes g c =
    puts_stopped _ _ _ _ _ _ _ c.from_residual.ensures.1
    (rw (append-nil (encode_upper c.args.self.now.0.now)) (stops_longer _ _ _ _ (32 ∷ []) (encode_upper c.args.self.now.0.now) c.in_err-put_text.ensures.bytes))

pub returns-clause-bytes : goal.returns-clause-bytes
returns-clause-bytes g c =
    rw (append-nil (encode_upper c.args.self.now.0.now))
    (puts_then _ _ _ _ _ _ (32 ∷ []) (encode_upper c.args.self.now.0.now) _ c.in_ok-put_text.ensures.bytes c.put_hex.ensures.bytes)
