-- What edits, and the acts of cache fast write, do to a device's tracks.
use Rattle.std.specs.Prelude.{ℕ, true, false, [], ◌∷◌, ◌++◌, slice_set, replicate, if◌then◌else◌}
use Rattle.ckd_types.specs.declared.record.Edit.{Edit}
use Rattle.ckd_types.specs.declared.record.Track.{Track}
use Rattle.ckd_types.specs.Edit.{apply_edit}
use Rattle.ckd_types.specs.Volume.{track_in}
use Rattle.plain_defs.specs.declared.journal.Act.{Act}
use Rattle.plain_defs.specs.declared.journal.Act.TheVariants.{Loosen, Harden, CfwLost}
use Rattle.plain_defs.specs.Loose.{next_number}
use Rattle.device_defs.specs.Store.{Store, tracks_of, has_loose, with_loose}

module _ {F P H : Type 0} where
  abbrev pub edited_track : Store F P H → ℕ → Edit → Track
  edited_track s t e = apply_edit e (track_in s.plain t)

  -- the edit of a track that isn't loose
  abbrev pub with_edit : Store F P H → ℕ → Edit → Store F P H
  with_edit s t e = record s { plain = slice_set s.plain t (edited_track s t e); firm = slice_set s.firm t (edited_track s t e) }

  -- of a loose one: its firm track stays
  abbrev pub with_loose_edit : Store F P H → ℕ → Edit → Store F P H
  with_loose_edit s t e = record s { plain = slice_set s.plain t (edited_track s t e) }

  abbrev pub act_noted : Store F P H → Act → Store F P H
  act_noted s act = record s { acts = s.acts ++ act ∷ [] }

  -- from here on the track may go back to what it is now
  abbrev pub loosened : Store F P H → ℕ → Store F P H
  loosened s t = with_loose (act_noted s (Loosen t)) t true

  -- it can't any more
  abbrev pub hardened : Store F P H → ℕ → Store F P H
  hardened s t = with_loose (record (act_noted s (Harden t)) { firm = slice_set s.firm t (track_in s.plain t) }) t false

  -- each loose track is its firm one again, and the data have another number
  abbrev pub gone_back : Store F P H → Store F P H
  gone_back s = record s { plain = s.firm; loose = replicate (tracks_of s) false; number = next_number s.number }

  -- the loss of the data of cache fast write, where there are some
  abbrev pub loose_lost : Store F P H → Store F P H
  loose_lost s = if has_loose s then act_noted (gone_back s) CfwLost else s
