-- One step of a chain at a time: what a command does, cut where it needs a track, an edit or an answer.
use Rattle.std.specs.Prelude.{ℕ, List, Bool, false, Option, None, Some}
use Rattle.ckd_types.specs.declared.channel.Ccw.{Ccw}
use Rattle.ckd_types.specs.declared.channel.CommandEnd.{CommandEnd}
use Rattle.ckd_types.specs.declared.parameters.Extent.{Extent}
use Rattle.ckd_types.specs.declared.parameters.Mode.{Mode}
use Rattle.ckd_types.specs.declared.parameters.Mode.TheVariants.{Normal}
use Rattle.ckd_types.specs.declared.sense.Sense.{Sense}
use Rattle.ckd_types.specs.Ccw.{ccw_at}
use Rattle.ckd_types.specs.Fixed.{Fixed}
use Rattle.ckd_types.specs.Sense.{reject_sense, equipment_sense, data_check_sense}
use Rattle.ckd_chain.specs.declared.mark.Mark.{Mark}
use Rattle.ckd_chain.specs.declared.mark.Stage.{Stage}
use Rattle.ckd_chain.specs.declared.mark.Stage.TheVariants.{Over, Looks, Asks}
use Rattle.ckd_chain.specs.declared.progress.Progress.{Progress}
use Rattle.ckd_chain.specs.declared.progress.Progress.TheVariants as progresses
use Rattle.ckd_chain.specs.declared.progress.Settled.{Settled}
use Rattle.ckd_chain.specs.declared.progress.Settled.TheVariants.{Written, Equipment, DataCheck, Sent, BadParameter}
use Rattle.ckd_chain.specs.State.{ChainState}
use Rattle.ckd_rules.specs.declared.ending.Ending.{Ending}
use Rattle.ckd_rules.specs.declared.opening.Opening.{Opening}
use Rattle.ckd_rules.specs.declared.opening.Opening.TheVariants as openings
use Rattle.ckd_rules.specs.declared.order.Look.{Look}
use Rattle.ckd_rules.specs.declared.stance.Stance.{Stance}
use Rattle.ckd_rules.specs.declared.turned.Turned.{Turned}
use Rattle.ckd_rules.specs.declared.turned.Turned.TheVariants as turns
use Rattle.ckd_rules.specs.Acts.{answered, taken}
use Rattle.ckd_rules.specs.Ending.{Outcome, refused}
use Rattle.ckd_rules.specs.Ends.{end_at_word, goes_to}
use Rattle.ckd_rules.specs.Look.{look_on}
use Rattle.ckd_rules.specs.Looked.{Looked}
use Rattle.ckd_rules.specs.Opening.{Opened, opening_of}
use Rattle.ckd_rules.specs.Stance.{first_stance}
use Rattle.track_image.specs.Image.{Image}

abbrev pub first_mark : Mark
first_mark = record { stance = first_stance; next = Some 0 }

abbrev pub begun_chain : List Ccw → Fixed → ChainState
begun_chain ccws fixed = record { ccws = ccws; fixed = fixed; at = first_mark; before = first_mark; stage = None; held = None }

-- the word of the command at hand
abbrev pub index_of : Option ℕ → ℕ
index_of (Some i) = i
index_of None = 0

abbrev pub word_of : ChainState → Ccw
word_of s = ccw_at s.ccws (index_of s.at.next)

-- the chain stands elsewhere
abbrev pub standing : ChainState → Stance → ChainState
standing s z = record s { at = record s.at { stance = z } }

-- The command at hand begins.

abbrev pub opening_at : ChainState → Opened
opening_at s = opening_of s.fixed s.at.stance (word_of s)

abbrev pub stage_for : Opening → Stage
stage_for (openings.Over e) = Over
stage_for (openings.Looks look) = Looks look
stage_for (openings.Asks act) = Asks act

abbrev pub held_for : Opening → Option Ending
held_for (openings.Over e) = Some e
held_for (openings.Looks look) = None
held_for (openings.Asks act) = None

abbrev pub begin_with : ChainState → Opened → ChainState
begin_with s o = record (standing s o.stance) { before = s.at; stage = Some (stage_for o.opening); held = held_for o.opening }

abbrev pub opened_by : ChainState → Option Stage → ChainState
opened_by s None = begin_with s (opening_at s)
opened_by s (Some stage) = s

-- it has begun
abbrev pub chain_opened : ChainState → ChainState
chain_opened s = opened_by s s.stage

abbrev pub stage_by : ChainState → Option Stage → Stage
stage_by s None = stage_for (opening_at s).opening
stage_by s (Some stage) = stage

-- how far it is then
abbrev pub stage_of : ChainState → Stage
stage_of s = stage_by s s.stage

abbrev pub track_needed : ChainState → Stage → Option ℕ
track_needed s (Looks look) = Some s.at.stance.track
track_needed s Over = None
track_needed s (Asks act) = None

-- the track that it looks at
abbrev pub need_of : ChainState → Option ℕ
need_of s = track_needed (chain_opened s) (stage_of s)

-- It ends.

abbrev pub mark_by : ChainState → Option Stage → Mark
mark_by s None = s.at
mark_by s (Some stage) = s.before

-- where the chain was before it
abbrev pub start_of : ChainState → Mark
start_of s = mark_by s s.stage

abbrev pub behind : ChainState → Outcome → ChainState
behind s o = record s { at = record { stance = o.stance; next = goes_to s.ccws (index_of s.at.next) o }; before = start_of s; stage = None; held = None }

abbrev pub end_with : ChainState → Outcome → CommandEnd
end_with s o = end_at_word (index_of s.at.next) (word_of s) o

-- A step: what it gives, and the chain behind it.

pub record ChainStep : Type 0 where
  pub progress : Progress
  pub chain : ChainState

abbrev pub step_at_end : ChainState → Outcome → ChainStep
step_at_end s o = record { progress = progresses.Ended (end_with s o); chain = behind s o }

-- the command waits for its edit
abbrev pub waiting : ChainState → Stance → Ending → ChainState
waiting s z e = record (standing s z) { stage = Some Over; held = Some e }

abbrev pub step_turned : ChainState → Stance → Turned → ChainStep
step_turned s z (turns.Ended e) = step_at_end s (record { stance = z; ending = e })
step_turned s z turns.Onward = record { progress = progresses.Need z.track; chain = standing s z }
step_turned s z (turns.Edits edit e) = record { progress = progresses.Write s.at.stance.track edit; chain = waiting s z e }

abbrev pub turned_with : ChainState → Looked → ChainStep
turned_with s l = step_turned s l.stance l.turned

abbrev pub looked_with : ChainState → Look → Option Image → ChainStep
looked_with s look (Some image) = turned_with s (look_on image.geometry image.track s.at.stance (word_of s) look)
looked_with s look None = record { progress = progresses.Need s.at.stance.track; chain = s }

-- how the command ends whose edit was made, or that began and was over
abbrev pub held_outcome : ChainState → Option Ending → Outcome
held_outcome s (Some e) = record { stance = s.at.stance; ending = e }
held_outcome s None = refused (start_of s).stance (word_of s) equipment_sense

abbrev pub stepped_by : ChainState → Option Image → Stage → ChainStep
stepped_by s image Over = step_at_end s (held_outcome s s.held)
stepped_by s image (Looks look) = looked_with s look image
stepped_by s image (Asks act) = record { progress = progresses.Local act; chain = s }

-- one step, with the image of the track that the command looks at
abbrev pub stepped : ChainState → Option Image → ChainStep
stepped s image = stepped_by (chain_opened s) image (stage_of s)

-- The command at hand is settled: it is known how its edit, its answer or its track fared.

-- a command that is refused so ends as if it had done nothing
abbrev pub check_outcome : ChainState → Sense → Outcome
check_outcome s sense = refused (start_of s).stance (word_of s) sense

-- the device took what it was given, or the edit was made
abbrev pub written_by : ChainState → Option Stage → Outcome
written_by s (Some (Asks act)) = taken (start_of s).stance (word_of s)
written_by s _ = held_outcome s s.held

abbrev pub settled_by : ChainState → Settled → Outcome
settled_by s Written = written_by s s.stage
settled_by s Equipment = check_outcome s equipment_sense
settled_by s DataCheck = check_outcome s data_check_sense
settled_by s (Sent bytes) = answered (start_of s).stance (word_of s) bytes
settled_by s BadParameter = check_outcome s (reject_sense 4)

-- the chain as it was before the command
abbrev pub again_from : ChainState → ChainState
again_from s = record s { at = s.before; stage = None; held = None }

-- how the chain's extent asks for the cache to be used
abbrev pub mode_by : Option Extent → Mode
mode_by (Some e) = e.mode
mode_by None = Normal

abbrev pub inhibits_by : Option Extent → Bool
inhibits_by (Some e) = e.inhibit_fast
inhibits_by None = false

abbrev pub last_by : Option Extent → Option ℕ
last_by (Some e) = Some e.last
last_by None = None
