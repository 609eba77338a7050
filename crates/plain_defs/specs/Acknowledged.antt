-- Which edits were told as done and can't be lost any more with the data of cache fast write.
use Rattle.std.specs.Prelude.{ℕ, ◌==◌, ◌||◌, Bool, true, false, List, [], ◌∷◌, Option, None, Some, if◌then◌else◌}
use Rattle.ckd_rules.specs.Walk.{TrackEdit}
use Rattle.plain_defs.specs.declared.journal.Act.{Act}
use Rattle.plain_defs.specs.declared.journal.Act.TheVariants.{Loosen, Harden, CfwLost}
use Rattle.plain_defs.specs.Loose.{is_loose_there}
use Rattle.plain_defs.specs.PlainState.{PlainState}

-- what was told of edits: an edit, with whether its track was loose; a track that became firm; a loss of all that is loose
pub data EditTold : Type 0 where
  Edited : Bool → TrackEdit → EditTold
  Hardened : ℕ → EditTold
  Lost : EditTold

abbrev pub told_by_edit : PlainState → Option TrackEdit → List EditTold
told_by_edit state None = []
told_by_edit state (Some e) = Edited (is_loose_there state e.track) e ∷ []

abbrev pub told_by_act : Act → List EditTold
told_by_act (Loosen t) = []
told_by_act (Harden t) = Hardened t ∷ []
told_by_act CfwLost = Lost ∷ []

-- the track becomes firm before a loss
abbrev pub becomes_firm : ℕ → List EditTold → Bool
becomes_firm t [] = false
becomes_firm t (Hardened u ∷ told) = (u == t) || becomes_firm t told
becomes_firm t (Lost ∷ told) = false
becomes_firm t (Edited loose e ∷ told) = becomes_firm t told

abbrev pub acknowledged_if : Bool → TrackEdit → List TrackEdit → List TrackEdit
acknowledged_if stays e edits = if stays then e ∷ edits else edits

-- the edits of tracks that weren't loose, and those of loose tracks that became firm before a loss
abbrev pub acknowledged_of : List EditTold → List TrackEdit
acknowledged_of [] = []
acknowledged_of (Edited false e ∷ told) = e ∷ acknowledged_of told
acknowledged_of (Edited true e ∷ told) = acknowledged_if (becomes_firm e.track told) e (acknowledged_of told)
acknowledged_of (Hardened t ∷ told) = acknowledged_of told
acknowledged_of (Lost ∷ told) = acknowledged_of told
