-- A command of the plain device that looks at a track.
use Rattle.std.proofs.Common.{◌≡◌, ◌+◌, ◌*◌, ◌<◌, ℕ, suc, Some, None, Option, refl, sym, ap, subst, ◌∙◌}
use Rattle.ckd_types.specs.declared.channel.CommandEnd.{CommandEnd}
use Rattle.ckd_types.specs.declared.record.Edit.{Edit}
use Rattle.ckd_types.specs.Volume.{track_in}
use Rattle.ckd_chain.specs.declared.mark.Stage.{Stage}
use Rattle.ckd_chain.specs.declared.mark.Stage.TheVariants.{Over, Looks, Asks}
use Rattle.ckd_chain.specs.declared.progress.Progress.{Progress}
use Rattle.ckd_chain.specs.declared.progress.Progress.TheVariants as progresses
use Rattle.ckd_chain.specs.declared.progress.Settled.TheVariants.{Written}
use Rattle.ckd_chain.specs.State.{ChainState}
use Rattle.ckd_chain.specs.Steps.{word_of, start_of, standing, waiting, behind, end_with, ChainStep, step_turned, turned_with, stepped, settled_by}
use Rattle.ckd_rules.specs.declared.order.LocalAct.{LocalAct}
use Rattle.ckd_rules.specs.declared.order.Look.{Look}
use Rattle.ckd_rules.specs.declared.stance.Stance.{Stance}
use Rattle.ckd_rules.specs.declared.turned.Turned.{Turned}
use Rattle.ckd_rules.specs.Look.{look_on}
use Rattle.ckd_rules.specs.Looked.{Looked}
use Rattle.ckd_rules.specs.Walk.{Walked, walked, walk}
use Rattle.plain_defs.specs.Effect.{kept_by}
use Rattle.plain_defs.specs.PlainState.{PlainState, with_sense}
use Rattle.ckd_rules.specs.Facts.{Suits}
use Rattle.plain_device.specs.declared.done.Done.{Done}
use Rattle.plain_device.specs.Between.{ComesTo, IsEditOn, edit_of}
use Rattle.plain_device.specs.Looking.{IsAtLook, walk_of, GoesTo}
use Rattle.plain_device.proofs.Turns.{CameEnded, came_ended, CameOnward, came_onward, CameEditing, came_editing, never_local}
use Rattle.track_image.specs.Image.{Image}

-- what a command came to that ended so
abbrev pub without_edit : PlainState → ℕ → CommandEnd → Done
without_edit d path end = record { end = end; edit = None; paths = with_sense d.paths path end.sense }

abbrev pub with_edit : PlainState → ℕ → CommandEnd → ℕ → Edit → Done
with_edit d path end track edit = record {
  end = end;
  edit = Some (record { track = track; edit = edit });
  paths = with_sense d.paths path end.sense;
}

abbrev pub at_look : ChainState → Look → ChainState
at_look s look = record s { stage = Some (Looks look) }

-- what it looks for
pub record HasLook (s : ChainState) : Type 0 where
  pub look : Look
  pub is : s ≡ at_look s look

pub has_look : (s : ChainState) (stage : Option Stage) → s.stage ≡ stage → IsAtLook stage → HasLook s
has_look s (Some (Looks look)) is at = record { look = look; is = ap (λ (x : Option Stage). record s { stage = x }) is }
has_look s (Some Over) is at = absurd at
has_look s (Some (Asks act)) is at = absurd at
has_look s None is at = absurd at

-- the image of the track that a chain is on
abbrev pub image_for : PlainState → ChainState → Image
image_for d s = record { geometry = d.geometry; track = track_in d.volume s.at.stance.track }

module _ (d : PlainState) (b : ChainState) (look : Look) where
  came : Looked
  came = look_on d.geometry (track_in d.volume b.at.stance.track) b.at.stance (word_of b) look

  step_is : (i : Image) → i ≡ image_for d b → stepped (at_look b look) (Some i)
      ≡ step_turned (at_look b look) came.stance came.turned
  unfolding came
  step_is i is = ap (λ (x : Image). turned_with (at_look b look)
      (look_on x.geometry x.track b.at.stance (word_of b) look)) is

  walk_more : (n : ℕ) → walk_of d (at_look b look) (suc n)
      ≡ walked b.at.stance.track (walk n d.geometry (track_in d.volume) b.before.stance (word_of b) look) came.stance
      came.turned
  unfolding walk came
  walk_more n = refl

  module _ (i : Image) (image_is : i ≡ image_for d b) (progress : Progress) (after : ChainState)
      (progress_is : progress ≡ (stepped (at_look b look) (Some i)).progress)
      (after_is : after ≡ (stepped (at_look b look) (Some i)).chain) where
    turned_is : (p : Progress) → progress ≡ p → (step_turned (at_look b look) came.stance came.turned).progress ≡ p
    turned_is p is = ap (λ (x : ChainStep). x.progress) (sym (step_is i image_is)) ∙ sym progress_is ∙ is

    then_is : after ≡ (step_turned (at_look b look) came.stance came.turned).chain
    then_is = after_is ∙ ap (λ (x : ChainStep). x.chain) (step_is i image_is)

    star_ended : (path : ℕ) (end : CommandEnd) (done : Done) → progress ≡ progresses.Ended end
        → done ≡ without_edit d path end
        → after.at.stance.commands ≡ (start_of (at_look b look)).stance.commands + 1 → (n : ℕ)
        → ComesTo (at_look b look) after done (kept_by d.paths path (walk_of d (at_look b look) (suc n)))
    star_ended path end done is done_is counted n =
        let c : CameEnded (at_look b look) came.stance came.turned end =
        came_ended (at_look b look) came.stance came.turned end (turned_is (progresses.Ended end) is) in
        let w = walk_more n ∙ ap (λ (t : Turned). walked b.at.stance.track
        (walk n d.geometry (track_in d.volume) b.before.stance (word_of b) look) came.stance t) c.turned in
        record {
          end_is = ap (λ (x : Done). x.end) done_is ∙ c.end_is
              ∙ ap (λ (x : Walked). end_with (at_look b look) x.outcome) (sym w);
          edit_is = ap (λ (x : Done). edit_of x.edit) done_is ∙ ap (λ (x : Walked). x.edit) (sym w);
          paths_is = ap (λ (x : Done). x.paths) done_is ∙ ap (λ (e : CommandEnd). with_sense d.paths path e.sense) c.end_is
              ∙ ap (λ (x : Walked). (kept_by d.paths path x).paths) (sym w);
          chain_is = then_is ∙ c.chain ∙ ap (λ (x : Walked). behind (at_look b look) x.outcome) (sym w);
          counted = counted;
        }

    star_onward : (track : ℕ) → progress ≡ progresses.Need track → track < d.cylinders * 15
        → GoesTo d (at_look b look) after track
    star_onward track is inside =
        let c : CameOnward (at_look b look) came.stance came.turned track =
        came_onward (at_look b look) came.stance came.turned track (turned_is (progresses.Need track) is) in
        let gone : after ≡ standing (at_look b look) came.stance = then_is ∙ c.chain in record {
          chain_is = gone ∙ ap (λ (z : Stance). standing (at_look b look) z)
              (ap (λ (s : ChainState). s.at.stance) (sym gone));
          rest = λ n.
              let w = walk_more n ∙ ap (λ (t : Turned). walked b.at.stance.track
              (walk n d.geometry (track_in d.volume) b.before.stance (word_of b) look) came.stance t) c.turned in
              record {
                outcome = ap (λ (x : Walked). x.outcome) w
                    ∙ ap (λ (s : ChainState). (walk_of d s n).outcome) (sym gone);
                edit = ap (λ (x : Walked). x.edit) w ∙ ap (λ (s : ChainState). (walk_of d s n).edit) (sym gone);
              };
          track_is = c.track_is ∙ ap (λ (s : ChainState). s.at.stance.track) (sym gone);
          on_device = inside;
        }

    star_editing : (path track : ℕ) (edit : Edit) (end : CommandEnd) (last : ChainState)
        (done : Done) → progress ≡ progresses.Write track edit
        → end ≡ end_with after (settled_by after Written) → last ≡ behind after (settled_by after Written)
        → done ≡ with_edit d path end track edit
        → last.at.stance.commands ≡ (start_of after).stance.commands + 1
        → (n : ℕ) → ComesTo (at_look b look) last done
        (kept_by d.paths path (walk_of d (at_look b look) (suc n)))
    star_editing path track edit end last done is end_is last_is done_is counted n =
        let c : CameEditing (at_look b look) came.stance came.turned track edit =
        came_editing (at_look b look) came.stance came.turned track edit
        (turned_is (progresses.Write track edit) is) in
        let waits : after ≡ waiting (at_look b look) came.stance c.ending = then_is ∙ c.chain in
        let w = walk_more n ∙ ap (λ (t : Turned). walked b.at.stance.track
        (walk n d.geometry (track_in d.volume) b.before.stance (word_of b) look) came.stance t) c.turned in
        let ends : end ≡ end_with (at_look b look) (record { stance = came.stance; ending = c.ending }) =
        end_is ∙ ap (λ (s : ChainState). end_with s (settled_by s Written)) waits in record {
          end_is = ap (λ (x : Done). x.end) done_is ∙ ends ∙ ap (λ (x : Walked). end_with (at_look b look) x.outcome) (sym w);
          edit_is = ap (λ (x : Done). edit_of x.edit) done_is
              ∙ ap (λ (u : ℕ). edit_of (Some (record { track = u; edit = edit }))) c.track_is
              ∙ ap (λ (x : Walked). x.edit) (sym w);
          paths_is = ap (λ (x : Done). x.paths) done_is ∙ ap (λ (e : CommandEnd). with_sense d.paths path e.sense) ends
              ∙ ap (λ (x : Walked). (kept_by d.paths path x).paths) (sym w);
          chain_is = last_is ∙ ap (λ (s : ChainState). behind s (settled_by s Written)) waits
              ∙ ap (λ (x : Walked). behind (at_look b look) x.outcome) (sym w);
          counted = counted ∙ ap (λ (s : ChainState). (start_of s).stance.commands + 1) waits;
        }

    star_editing_at : (track : ℕ) (edit : Edit) → progress ≡ progresses.Write track edit
        → (track ≡ b.at.stance.track) × (after.at.next ≡ b.at.next) × (after.stage ≡ Some Over)
    star_editing_at track edit is =
        let c : CameEditing (at_look b look) came.stance came.turned track edit =
        came_editing (at_look b look) came.stance came.turned track edit
        (turned_is (progresses.Write track edit) is) in
        let waits : after ≡ waiting (at_look b look) came.stance c.ending =
        then_is ∙ c.chain in (
          c.track_is,
          ap (λ (s : ChainState). s.at.next) waits,
          ap (λ (s : ChainState). s.stage)
              waits,
        )

    star_local : (act : LocalAct) → progress ≡ progresses.Local act → ⊥
    star_local act is = never_local (at_look b look) came.stance came.turned act (turned_is (progresses.Local act) is)

module _ (d : PlainState) (s : ChainState) (at : IsAtLook s.stage) (i : Image) (image_is : i ≡ image_for d s)
    (progress : Progress) (after : ChainState) (progress_is : progress ≡ (stepped s (Some i)).progress)
    (after_is : after ≡ (stepped s (Some i)).chain) where
  looked : HasLook s
  looked = has_look s s.stage refl at

  steps_progress : progress ≡ (stepped (at_look s looked.look) (Some i)).progress
  steps_progress = progress_is ∙ ap (λ (x : ChainState). (stepped x (Some i)).progress) looked.is

  steps_after : after ≡ (stepped (at_look s looked.look) (Some i)).chain
  steps_after = after_is ∙ ap (λ (x : ChainState). (stepped x (Some i)).chain) looked.is

  pub look_ended : (path : ℕ) (end : CommandEnd) (done : Done) → progress ≡ progresses.Ended end
      → done ≡ without_edit d path end
      → after.at.stance.commands ≡ (start_of s).stance.commands + 1 → (n : ℕ)
      → ComesTo s after done (kept_by d.paths path (walk_of d s (suc n)))
  look_ended path end done is done_is counted n =
      subst (λ (x : ChainState). ComesTo x after done (kept_by d.paths path (walk_of d x (suc n))))
      (sym looked.is)
      (star_ended d s looked.look i image_is progress after steps_progress steps_after path end done is done_is
      (counted ∙ ap (λ (x : ChainState). (start_of x).stance.commands + 1) looked.is) n)

  pub look_onward : (track : ℕ) → progress ≡ progresses.Need track → track < d.cylinders * 15
      → GoesTo d s after track
  look_onward track is inside =
      subst (λ (x : ChainState). GoesTo d x after track) (sym looked.is)
      (star_onward d s looked.look i image_is progress after steps_progress steps_after track is inside)

  pub look_edited : (path track : ℕ) (edit : Edit) (end : CommandEnd) (last : ChainState)
      (done : Done) → progress ≡ progresses.Write track edit
      → end ≡ end_with after (settled_by after Written) → last ≡ behind after (settled_by after Written)
      → done ≡ with_edit d path end track edit
      → last.at.stance.commands ≡ (start_of after).stance.commands + 1
      → (n : ℕ) → ComesTo s last done (kept_by d.paths path (walk_of d s (suc n)))
  look_edited path track edit end last done is end_is last_is done_is counted n =
      subst (λ (x : ChainState). ComesTo x last done (kept_by d.paths path (walk_of d x (suc n))))
      (sym looked.is)
      (star_editing d s looked.look i image_is progress after steps_progress steps_after path track edit end last
      done is end_is last_is done_is counted n)

  pub look_edits_at : (track : ℕ) (edit : Edit) → progress ≡ progresses.Write track edit
      → (track ≡ s.at.stance.track) × (after.at.next ≡ s.at.next) × (after.stage ≡ Some Over)
  look_edits_at track edit is = star_editing_at d s looked.look i image_is progress after steps_progress steps_after
      track edit is

  -- the edit suits the track that it is of
  pub look_fits : (track : ℕ) (edit : Edit) → s.at.stance.track < d.cylinders * 15 → progress ≡ progresses.Write track edit
      → Suits i.geometry i.track.records edit → IsEditOn d (Some (record { track = track; edit = edit }))
  look_fits track edit inside is suits =
      let here = (look_edits_at track edit is).0 in
      subst (λ (t : ℕ). (t < d.cylinders * 15) × Suits d.geometry (track_in d.volume t).records edit) (sym here)
      (inside, subst (λ (x : Image). Suits x.geometry x.track.records edit) image_is suits)
