use Rattle.std.proofs.Common.{refl}
use Rattle.std.proofs.lemmas.List.{append_assoc}
use Rattle.page_text.specs.Pieces.{track_text}
use Rattle.page_text.proofs.page.Page.put_track.Goals as goal

pub returns : goal.returns
unfolding track_text
returns c =
    rw (
      c.in_ok-put_text-4.ensures,
      c.in_ok-put_number-3.ensures,
      c.in_ok-put_text-3.ensures,
      c.in_ok-put_number-2.ensures,
      c.in_ok-put_text-2.ensures,
      c.in_ok-put_number.ensures,
      c.in_ok-put_text.ensures,
      c.from-3.ensures,
      c.from-2.ensures,
      c.from.ensures,
    ) (simp append_assoc refl)
