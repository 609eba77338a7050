-- What a step of a command that looks at a track says of the look.
use Rattle.std.proofs.Common.{◌≡◌, ℕ, refl, ap}
use Rattle.ckd_types.specs.declared.channel.CommandEnd.{CommandEnd}
use Rattle.ckd_types.specs.declared.record.Edit.{Edit}
use Rattle.ckd_chain.specs.declared.progress.Progress.TheVariants as progresses
use Rattle.ckd_chain.specs.State.{ChainState}
use Rattle.ckd_chain.specs.Steps.{standing, waiting, behind, end_with, step_turned}
use Rattle.ckd_rules.specs.declared.ending.Ending.{Ending}
use Rattle.ckd_rules.specs.declared.order.LocalAct.{LocalAct}
use Rattle.ckd_rules.specs.declared.stance.Stance.{Stance}
use Rattle.ckd_rules.specs.declared.turned.Turned.{Turned}
use Rattle.ckd_rules.specs.declared.turned.Turned.TheVariants.{Ended, Onward, Edits}

pub record CameEnded (s : ChainState) (z : Stance) (t : Turned) (end : CommandEnd) : Type 0 where
  pub ending : Ending
  pub turned : t ≡ Ended ending
  pub end_is : end ≡ end_with s (record { stance = z; ending = ending })
  pub chain : (step_turned s z t).chain ≡ behind s (record { stance = z; ending = ending })

pub came_ended : (s : ChainState) (z : Stance) (t : Turned) (end : CommandEnd)
    → (step_turned s z t).progress ≡ progresses.Ended end → CameEnded s z t end
came_ended s z (Ended e) end is = record { ending = e; turned = refl; end_is = cc; chain = refl }
came_ended s z Onward end is = absurd (cc)
came_ended s z (Edits edit e) end is = absurd (cc)

pub record CameOnward (s : ChainState) (z : Stance) (t : Turned) (track : ℕ) : Type 0 where
  pub turned : t ≡ Onward
  pub track_is : track ≡ z.track
  pub chain : (step_turned s z t).chain ≡ standing s z

pub came_onward : (s : ChainState) (z : Stance) (t : Turned) (track : ℕ)
    → (step_turned s z t).progress ≡ progresses.Need track → CameOnward s z t track
came_onward s z (Ended e) track is = absurd (cc)
came_onward s z Onward track is = record { turned = refl; track_is = cc; chain = refl }
came_onward s z (Edits edit e) track is = absurd (cc)

pub record CameEditing (s : ChainState) (z : Stance) (t : Turned) (track : ℕ) (edit : Edit) : Type 0 where
  pub ending : Ending
  pub turned : t ≡ Edits edit ending
  pub track_is : track ≡ s.at.stance.track
  pub chain : (step_turned s z t).chain ≡ waiting s z ending

pub came_editing : (s : ChainState) (z : Stance) (t : Turned) (track : ℕ) (edit : Edit)
    → (step_turned s z t).progress ≡ progresses.Write track edit → CameEditing s z t track edit
came_editing s z (Ended e) track edit is = absurd (cc)
came_editing s z Onward track edit is = absurd (cc)
came_editing s z (Edits edit' e) track edit is =
    let same : edit' ≡ edit = cc in
    record { ending = e; turned = ap (λ (x : Edit). Edits x e) same; track_is = cc; chain = refl }

pub never_local : (s : ChainState) (z : Stance) (t : Turned) (act : LocalAct)
    → (step_turned s z t).progress ≡ progresses.Local act → ⊥
never_local s z (Ended e) act is = absurd (cc)
never_local s z Onward act is = absurd (cc)
never_local s z (Edits edit e) act is = absurd (cc)
