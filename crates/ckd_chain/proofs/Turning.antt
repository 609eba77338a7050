-- What a look at a track makes of the chain, by the stance and what came of the look.
use Rattle.std.proofs.Common.{◌≡◌, Option, Some, None, ap, subst, sym, ◌∙◌}
use Rattle.ckd_types.specs.declared.channel.Ccw.{Ccw}
use Rattle.ckd_types.specs.declared.channel.CommandEnd.{CommandEnd}
use Rattle.ckd_types.specs.declared.record.Edit.{Edit}
use Rattle.ckd_chain.specs.declared.mark.Mark.{Mark}
use Rattle.ckd_chain.specs.declared.mark.Stage.{Stage}
use Rattle.ckd_chain.specs.declared.progress.Progress.TheVariants.{Need, Write}
use Rattle.ckd_chain.specs.declared.progress.Progress.TheVariants as progresses
use Rattle.ckd_chain.specs.State.{ChainState}
use Rattle.ckd_chain.specs.Steps.{index_of, word_of, mark_by, start_of, behind, end_with, standing, waiting, ChainStep, step_turned, turned_with, looked_with}
use Rattle.ckd_rules.specs.declared.ending.Ending.{Ending}
use Rattle.ckd_rules.specs.declared.order.Look.{Look}
use Rattle.ckd_rules.specs.declared.stance.Stance.{Stance}
use Rattle.ckd_rules.specs.declared.turned.Turned.{Turned}
use Rattle.ckd_rules.specs.declared.turned.Turned.TheVariants.{Ended, Onward, Edits}
use Rattle.ckd_rules.specs.Ends.{goes_to}
use Rattle.ckd_rules.specs.Look.{look_on}
use Rattle.track_image.specs.Image.{Image}

-- a chain u that is seen as s, the word at hand, and the stance that a look at an image left
module _ (u s : ChainState) (seen : u ≡ s) (c : Ccw) (word : c ≡ word_of u) (i : Image) (look : Look) (z : Stance)
    (stance : z ≡ (look_on i.geometry i.track u.at.stance c look).stance) where
  of_view : {X : Type 0} (f : ChainStep → X) (x : X) → x ≡ f (turned_with u (look_on i.geometry i.track u.at.stance c look)) → x ≡ f (looked_with s look (Some i))
  of_view f x is =
      subst (λ (w : ChainState). x ≡ f (turned_with w (look_on i.geometry i.track w.at.stance (word_of w) look))) seen
      (subst (λ (d : Ccw). x ≡ f (turned_with u (look_on i.geometry i.track u.at.stance d look))) word is)

  pub ended_progress : (e : Ending) (d : CommandEnd) → Ended e ≡ (look_on i.geometry i.track u.at.stance c look).turned →
      d ≡ end_with u (record { stance = z; ending = e }) → progresses.Ended d ≡ (looked_with s look (Some i)).progress
  ended_progress e d turned is =
      of_view (λ (x : ChainStep). x.progress) (progresses.Ended d)
      (ap (λ (x : CommandEnd). progresses.Ended x) is ∙ ap (λ (y : Stance). (step_turned u y (Ended e)).progress) stance ∙ ap
      (λ (t : Turned). (step_turned u (look_on i.geometry i.track u.at.stance c look).stance t).progress) turned)

  begun_at : (stage : Stage) → s.stage ≡ Some stage → start_of u ≡ u.before
  begun_at stage begun = ap (λ (x : Option Stage). mark_by u x) (ap (λ (x : ChainState). x.stage) seen ∙ begun)

  pub ended_chain : (e : Ending) (m : Mark) (stage : Stage) → Ended e ≡ (look_on i.geometry i.track u.at.stance c look).turned →
      m ≡ record { stance = z; next = goes_to u.ccws (index_of u.at.next) (record { stance = z; ending = e }) } →
      s.stage ≡ Some stage → record u { at = m; stage = None; held = None } ≡ (looked_with s look (Some i)).chain
  ended_chain e m stage turned is begun =
      of_view (λ (x : ChainStep). x.chain) (record u { at = m; stage = None; held = None })
      (ap (λ (x : Mark). record u { at = x; stage = None; held = None }) is ∙ ap
      (λ (x : Mark). record (behind u (record { stance = z; ending = e })) { before = x }) (sym (begun_at stage begun)) ∙ ap
      (λ (y : Stance). (step_turned u y (Ended e)).chain) stance ∙ ap
      (λ (t : Turned). (step_turned u (look_on i.geometry i.track u.at.stance c look).stance t).chain) turned)

  pub onward_progress : Onward ≡ (look_on i.geometry i.track u.at.stance c look).turned → Need z.track ≡ (looked_with s look (Some i)).progress
  onward_progress turned =
      of_view (λ (x : ChainStep). x.progress) (Need z.track)
      (ap (λ (y : Stance). (step_turned u y Onward).progress) stance ∙ ap
      (λ (t : Turned). (step_turned u (look_on i.geometry i.track u.at.stance c look).stance t).progress) turned)

  pub onward_chain : Onward ≡ (look_on i.geometry i.track u.at.stance c look).turned → standing u z ≡ (looked_with s look (Some i)).chain
  onward_chain turned =
      of_view (λ (x : ChainStep). x.chain) (standing u z)
      (ap (λ (y : Stance). (step_turned u y Onward).chain) stance ∙ ap
      (λ (t : Turned). (step_turned u (look_on i.geometry i.track u.at.stance c look).stance t).chain) turned)

  pub edits_progress : (edit : Edit) (e : Ending) → Edits edit e
      ≡ (look_on i.geometry i.track u.at.stance c look).turned →
      Write u.at.stance.track edit ≡ (looked_with s look (Some i)).progress
  edits_progress edit e turned =
      of_view (λ (x : ChainStep). x.progress) (Write u.at.stance.track edit)
      (ap (λ (t : Turned). (step_turned u (look_on i.geometry i.track u.at.stance c look).stance t).progress) turned)

  pub edits_chain : (edit : Edit) (e : Ending) → Edits edit e ≡ (look_on i.geometry i.track u.at.stance c
      look).turned → waiting u z e ≡ (looked_with s look (Some i)).chain
  edits_chain edit e turned =
      of_view (λ (x : ChainStep). x.chain) (waiting u z e)
      (ap (λ (y : Stance). waiting u y e) stance ∙ ap (λ (t : Turned). (step_turned u (look_on i.geometry i.track u.at.stance c look).stance t).chain) turned)
