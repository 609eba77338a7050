use Rattle.std.proofs.Common.{[], refl}
use Rattle.std.proofs.lemmas.List.{append_assoc, append-nil}
use Rattle.ckd_outside.proofs.Lines.{moves_in, moves_then, puts_stopped, stops_longer}
use Rattle.report_text.specs.Words.{all_spaced}
use Rattle.report_text.specs.Lines.{end_words}
use Rattle.report_text.proofs.report_lines.EndLineWords.put.Goals as goal

pub returns-in_err-make_room-clause-bytes : goal.returns-in_err-make_room-clause-bytes
returns-in_err-make_room-clause-bytes g c =
    puts_stopped _ _ _ _ _ _ _ c.from_residual.ensures.1 (stops_longer _ _ _ _ [] (all_spaced (end_words c.args.self.now)) c.in_err-make_room.ensures.bytes)

pub returns-clause-bytes : goal.returns-clause-bytes
returns-clause-bytes g c =
    moves_then _ _ _ _ _ _ [] (all_spaced (end_words c.args.self.now)) c.in_ok-make_room.ensures.bytes
    (moves_in _ _ _ _
    (rw (
      c.put_note.ensures.text,
      c.put_number-5.ensures.text,
      c.put-6.ensures.text,
      c.put_byte.ensures.text,
      c.put-5.ensures.text,
      c.put_number-4.ensures.text,
      c.put-4.ensures.text,
      c.put_number-3.ensures.text,
      c.put-3.ensures.text,
      c.put_number-2.ensures.text,
      c.put-2.ensures.text,
      c.put_number.ensures.text,
      c.put.ensures.text,
      c.path_word.ensures,
      c.device_word.ensures,
      c.from.ensures,
      c.from-2.ensures,
      c.from-3.ensures,
    ) (simp (append_assoc, append-nil) refl)))
