-- The senses that a plain device keeps of its paths are 32 bytes each.
use Rattle.std.proofs.Common.{◌-◌, ℕ, Option, Some, None, arith}
use Rattle.std.specs.Prelude.{All, IfSome}
use Rattle.std.proofs.lemmas.List.Elements.{All-set}
use Rattle.ckd_types.specs.declared.channel.Ccw.{Ccw}
use Rattle.ckd_types.specs.declared.record.Track.{Track}
use Rattle.ckd_types.specs.declared.sense.Sense.{Sense}
use Rattle.ckd_types.specs.Fixed.{Fixed}
use Rattle.ckd_types.specs.Sense.{data_check_sense, equipment_sense, reject_sense, zero_sense}
use Rattle.ckd_rules.specs.declared.grouping.GroupFault.{GroupFault}
use Rattle.ckd_rules.specs.declared.opening.Opening.{Opening}
use Rattle.ckd_rules.specs.declared.opening.Opening.TheVariants as openings
use Rattle.ckd_rules.specs.declared.order.LocalAct.{LocalAct}
use Rattle.ckd_rules.specs.declared.order.LocalAct.TheVariants as acts
use Rattle.ckd_rules.specs.declared.stance.Stance.{Stance}
use Rattle.ckd_rules.specs.Ending.{Outcome}
use Rattle.plain_defs.specs.Acts.{act_fault, paths_after, reserved}
use Rattle.plain_defs.specs.Effect.{acted_by, effect_by, walked_look}
use Rattle.plain_defs.specs.PlainState.{PathsState, with_sense}
use Rattle.report_reading.specs.Ranges.{AreBytes}
use Rattle.audit_laws.specs.Steps.{IsCheckSense}
use Rattle.audit_laws.proofs.own.Tidy.{WalkFits, sense_bytes}

abbrev pub SenseIn : Sense → Type 0
SenseIn sense = AreBytes 32 sense.bytes

pub zero_in : SenseIn zero_sense
zero_in = sense_bytes 0 0 0 (omega arith) (omega arith) (omega arith)

equipment_in : SenseIn equipment_sense
equipment_in = sense_bytes 0x10 0x80 0 (omega arith) (omega arith) (omega arith)

data_check_in : SenseIn data_check_sense
data_check_in = sense_bytes 8 0 0 (omega arith) (omega arith) (omega arith)

pub check_sense_in : (sense : Sense) → IsCheckSense sense → SenseIn sense
check_sense_in sense x2 = grind (arith, equipment_in, data_check_in)

-- By the rules

pub walk_sense : (c : Ccw) (o : Outcome) → WalkFits c o → IfSome o.ending.sense SenseIn
walk_sense c o x3 = grind (arith, equipment_in)

-- What a command leaves of them

pub sense_kept : (p : PathsState) (path : ℕ) (o : Option Sense) → All SenseIn p.senses → IfSome o SenseIn → All SenseIn (with_sense p path o).senses
sense_kept p path (Some sense) all h = All-set SenseIn p.senses (path - 1) sense h all
sense_kept p path None all h = all

module _ (p : PathsState) (path : ℕ) (all : All SenseIn p.senses) where
  act_senses : (act : LocalAct) → All SenseIn (paths_after p path act).senses
  act_senses acts.Sense = sense_kept p path (Some zero_sense) all zero_in
  act_senses acts.Reserve = sense_kept (reserved p path) path (Some zero_sense) all zero_in
  act_senses acts.Release = sense_kept (record p { owner = None }) path (Some zero_sense) all zero_in
  act_senses acts.Steal = sense_kept (reserved p path) path (Some zero_sense) all zero_in
  act_senses act = all

  module _ (f : Fixed) (tracks : ℕ → Track) (start : Stance) (c : Ccw) (s : Stance) where
    acted_senses : (act : LocalAct) (o : Option GroupFault) → IfSome (acted_by f p path start c act o).outcome.ending.sense SenseIn →
        All SenseIn (acted_by f p path start c act o).paths.senses
    acted_senses act (Some fault) h = sense_kept p path (Some (reject_sense 4)) all h
    acted_senses act None h = act_senses act

    pub effect_senses : (o : Opening) → IfSome (effect_by f p tracks path start c s o).outcome.ending.sense SenseIn →
        All SenseIn (effect_by f p tracks path start c s o).paths.senses
    effect_senses (openings.Over e) h = sense_kept p path e.sense all h
    effect_senses (openings.Looks look) h = sense_kept p path (walked_look f tracks start c look s).outcome.ending.sense all h
    effect_senses (openings.Asks act) h = acted_senses act (act_fault p path act) h
