-- A chain that a device feeds with the images of its tracks and with its answers.
use Rattle.std.specs.Prelude.{ℕ, zero, suc, Option, None, Some}
use Rattle.ckd_types.specs.declared.channel.CommandEnd.{CommandEnd}
use Rattle.ckd_types.specs.declared.record.Track.{Track}
use Rattle.ckd_types.specs.Fixed.{Fixed}
use Rattle.ckd_chain.specs.declared.progress.Progress.{Progress}
use Rattle.ckd_chain.specs.declared.progress.Progress.TheVariants.{Ended, Need, Write, Local}
use Rattle.ckd_chain.specs.declared.progress.Settled.{Settled}
use Rattle.ckd_chain.specs.declared.progress.Settled.TheVariants.{Written, Equipment}
use Rattle.ckd_chain.specs.State.{ChainState}
use Rattle.ckd_chain.specs.Steps.{word_of, begin_with, need_of, behind, end_with, stepped, settled_by}
use Rattle.ckd_rules.specs.declared.opening.Opening.{Opening}
use Rattle.ckd_rules.specs.declared.opening.Opening.TheVariants as openings
use Rattle.ckd_rules.specs.declared.order.LocalAct.{LocalAct}
use Rattle.ckd_rules.specs.declared.stance.Stance.{Stance}
use Rattle.ckd_rules.specs.Ending.{Outcome}
use Rattle.ckd_rules.specs.Opening.{opening_of}
use Rattle.ckd_rules.specs.Walk.{TrackEdit, walk}
use Rattle.track_image.specs.Image.{Image}

-- how the command at hand ended: its end, the chain behind it, and its edit
pub record Fed : Type 0 where
  pub end : CommandEnd
  pub chain : ChainState
  pub edit : Option TrackEdit

abbrev pub ended_by : ChainState → Outcome → Option TrackEdit → Fed
ended_by s o edit = record { end = end_with s o; chain = behind s o; edit = edit }

-- the image of the track that it needs, where it needs one
abbrev pub fed_image : Fixed → (ℕ → Track) → Option ℕ → Option Image
fed_image device tracks (Some t) = Some (record { geometry = device.geometry; track = tracks t })
fed_image device tracks None = None

-- behind a step it is over; or it goes on to another track; or its edit is made; or the device answers
abbrev pub fed_by : (LocalAct → Settled) → (ChainState → Fed) → ChainState → Progress → Fed
fed_by answer more s (Ended e) = record { end = e; chain = s; edit = None }
fed_by answer more s (Need t) = more s
fed_by answer more s (Write t edit) = ended_by s (settled_by s Written) (Some (record { track = t; edit = edit }))
fed_by answer more s (Local act) = ended_by s (settled_by s (answer act)) None

-- the command at hand, fed with at most n images
unfoldable pub fed : ℕ → (ℕ → Track) → (LocalAct → Settled) → ChainState → Fed
fed zero tracks answer s = ended_by s (settled_by s Equipment) None
fed (suc n) tracks answer s =
    fed_by answer (fed n tracks answer) (stepped s (fed_image s.fixed tracks (need_of s))).chain
    (stepped s (fed_image s.fixed tracks (need_of s))).progress

-- what the rules say of it: how it begins, how it goes from track to track, and how it comes out with the device's answer
abbrev pub by_rules : ℕ → (ℕ → Track) → (LocalAct → Settled) → ChainState → Stance → Opening → Fed
by_rules n tracks answer s z (openings.Over e) = ended_by s (record { stance = z; ending = e }) None
by_rules n tracks answer s z (openings.Looks look) =
    let w = walk n s.fixed.geometry tracks s.at.stance (word_of s) look z in ended_by s w.outcome w.edit
by_rules n tracks answer s z (openings.Asks act) =
    ended_by s (settled_by (begin_with s (record { stance = z; opening = openings.Asks act })) (answer act)) None

-- for a command that has not begun
abbrev pub fed_by_rules : ℕ → (ℕ → Track) → (LocalAct → Settled) → ChainState → Fed
fed_by_rules n tracks answer s =
    by_rules n tracks answer s (opening_of s.fixed s.at.stance (word_of s)).stance (opening_of s.fixed s.at.stance (word_of s)).opening
