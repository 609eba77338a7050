-- What a device answers of itself and of its paths are bytes, where it keeps names and senses of bytes.
use Rattle.std.proofs.Common.{◌-◌, ℕ, Option, arith}
use Rattle.std.specs.Prelude.{All, IfSome}
use Rattle.ckd_types.specs.declared.channel.Ccw.{Ccw}
use Rattle.ckd_types.specs.declared.geometry.Geometry.{Geometry}
use Rattle.ckd_types.specs.declared.paths.Owner.{Owner}
use Rattle.ckd_types.specs.declared.paths.PathState.{PathState}
use Rattle.ckd_types.specs.declared.paths.PathState.TheVariants.{Reset}
use Rattle.ckd_types.specs.declared.sense.Sense.{Sense}
use Rattle.ckd_types.specs.Sense.{zero_sense}
use Rattle.ckd_rules.specs.declared.order.LocalAct.{LocalAct}
use Rattle.ckd_rules.specs.declared.order.LocalAct.TheVariants as acts
use Rattle.ckd_rules.specs.declared.stance.Stance.{Stance}
use Rattle.ckd_rules.specs.Acts.{sense_id_bytes}
use Rattle.ckd_rules.specs.Grouping.{group_bytes, group_id_bytes, state_in}
use Rattle.plain_defs.specs.Acts.{act_bytes, act_outcome}
use Rattle.plain_defs.specs.PlainState.{PathsState, sense_for, with_sense}
use Rattle.audit_laws.proofs.own.GivenBytes.{IsByte, are_bytes, at_or, no_bytes}
use Rattle.audit_laws.proofs.own.KeptSenses.{SenseIn, sense_kept, zero_in}
use Rattle.audit_laws.proofs.own.NamedGroups.{AreNamed, Named}
use Rattle.audit_laws.proofs.own.SentBytes.{sent_are}

pub record PathsKeep (p : PathsState) : Type 0 where
  pub named : AreNamed p
  pub senses : All SenseIn p.senses

pub sensed_keeps : (p : PathsState) (path : ℕ) (o : Option Sense) → IfSome o SenseIn → PathsKeep p → PathsKeep (with_sense p path o)
sensed_keeps p path o h k = search (arith, sense_kept)

-- The state of a path

name_are : (state : PathState) → Named state → All IsByte (group_id_bytes state)
name_are state n = grind (arith, are_bytes)

group_are : (state : PathState) → Named state → (path : ℕ) (owner : Option Owner) → All IsByte (group_bytes state path owner)
group_are state n path owner = grind (arith, name_are)

-- Acts

identity_are : (g : Geometry) → All IsByte (sense_id_bytes g)
identity_are g = grind arith

module _ (g : Geometry) (p : PathsState) (path : ℕ) (k : PathsKeep p) where
  sense_are : All IsByte (sense_for p path).bytes
  sense_are = are_bytes (sense_for p path).bytes (at_or SenseIn zero_sense zero_in p.senses (path - 1) k.senses).each

  pub act_sends : (s : Stance) (c : Ccw) (act : LocalAct) → All IsByte (act_outcome s c (act_bytes g p path act) act).ending.sent
  act_sends s c acts.SenseId = sent_are c (sense_id_bytes g) (identity_are g)
  act_sends s c (acts.SetGroup function id) = no_bytes
  act_sends s c acts.SenseGroup =
      grind (arith, sent_are c (group_bytes (state_in p.states path) path p.owner) (group_are (state_in p.states path) (at_or Named Reset tt p.states (path - 1) k.named.states) path p.owner), group_are (state_in p.states path) (at_or Named Reset tt p.states (path - 1) k.named.states) path p.owner, at_or Named Reset tt p.states (path - 1) k.named.states)
  act_sends s c act = sent_are c (sense_for p path).bytes sense_are
