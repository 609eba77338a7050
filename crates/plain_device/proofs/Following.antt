-- A command of the plain device that goes from track to track.
use Rattle.std.proofs.Common.{◌≡◌, ◌+◌, ◌-◌, ◌*◌, ◌<◌, ◌≤◌, ℕ, suc, refl, sym, ap, subst, ◌∙◌, arith}
use Rattle.ckd_types.specs.declared.channel.CommandEnd.{CommandEnd}
use Rattle.ckd_types.specs.Sense.{equipment_sense}
use Rattle.ckd_chain.specs.declared.mark.Mark.{Mark}
use Rattle.ckd_chain.specs.State.{ChainState}
use Rattle.ckd_chain.specs.Steps.{start_of, standing, behind, end_with, check_outcome}
use Rattle.ckd_rules.specs.declared.stance.Stance.{Stance}
use Rattle.ckd_rules.specs.Ending.{Outcome}
use Rattle.ckd_rules.specs.Walk.{Walked, untouched, walk}
use Rattle.plain_defs.specs.Effect.{kept_by}
use Rattle.plain_defs.specs.PlainState.{PlainState, with_sense}
use Rattle.plain_device.specs.declared.done.Done.{Done}
use Rattle.plain_device.specs.Between.{ComesTo, edit_of}
use Rattle.plain_device.specs.Looking.{IsLooking, IsAtLook, walk_of, IsSameWalk}
use Rattle.plain_device.proofs.Looks.{HasLook, has_look, without_edit}

-- what is left of the command comes to what all of it comes to
pub record IsFollowing (d : PlainState) (s now : ChainState) (track k : ℕ) : Type 0 where
  pub looking : IsLooking d now
  pub stands : now ≡ standing s now.at.stance
  pub rest : IsSameWalk (walk_of d s (d.cylinders * 15)) (walk_of d now ((d.cylinders * 15) - k))
  pub track_is : track ≡ now.at.stance.track
  pub on_device : track < d.cylinders * 15

starts_standing : (s : ChainState) → IsAtLook s.stage → (z : Stance) → start_of (standing s z) ≡ start_of s
starts_standing s at z =
    let l : HasLook s = has_look s s.stage refl at in
    subst (λ (x : ChainState). start_of (standing x z) ≡ start_of x) (sym l.is) refl

behind_standing : (s : ChainState) → IsAtLook s.stage → (z : Stance) (o : Outcome)
    → behind (standing s z) o ≡ behind s o
behind_standing s at z o =
    let l : HasLook s = has_look s s.stage refl at in
    subst (λ (x : ChainState). behind (standing x z) o ≡ behind x o) (sym l.is) refl

nothing_left : (d : PlainState) (s : ChainState) → IsAtLook s.stage
    → walk_of d s 0 ≡ untouched (check_outcome s equipment_sense)
unfolding walk
nothing_left d s at =
    let l : HasLook s = has_look s s.stage refl at in
    subst (λ (x : ChainState). walk_of d x 0 ≡ untouched (check_outcome x equipment_sense)) (sym l.is) refl

module _ (d : PlainState) (s now : ChainState) (track k : ℕ) (f : IsFollowing d s now track k) (path : ℕ) where
  -- how what is left ends is how all of it ends
  ends_all : (then_chain : ChainState) (done : Done) → IsAtLook s.stage
      → ComesTo now then_chain done (kept_by d.paths path (walk_of d now ((d.cylinders * 15) - k)))
      → ComesTo s then_chain done (kept_by d.paths path (walk_of d s (d.cylinders * 15)))
  ends_all then_chain done at e = record {
    end_is =
        e.end_is
        ∙ ap (λ (x : ChainState). end_with x (walk_of d now ((d.cylinders * 15) - k)).outcome) f.stands
        ∙ ap (λ (o : Outcome). end_with s o) (sym f.rest.outcome);
    edit_is = e.edit_is ∙ sym f.rest.edit;
    paths_is = e.paths_is ∙ ap (λ (o : Outcome). with_sense d.paths path o.ending.sense) (sym f.rest.outcome);
    chain_is =
        e.chain_is
        ∙ ap (λ (x : ChainState). behind x (walk_of d now ((d.cylinders * 15) - k)).outcome) f.stands
        ∙ behind_standing s at now.at.stance (walk_of d now ((d.cylinders * 15) - k)).outcome
        ∙ ap (λ (o : Outcome). behind s o) (sym f.rest.outcome);
    counted = e.counted ∙ ap (λ (x : ChainState). (start_of x).stance.commands + 1) f.stands
        ∙ ap (λ (m : Mark). m.stance.commands + 1) (starts_standing s at now.at.stance);
  }

  left : k < (d.cylinders * 15) → (d.cylinders * 15) - k ≡ suc ((d.cylinders * 15) - (k + 1))
  left more = omega (arith, more)

  pub following_over : (then_chain : ChainState) (done : Done) → IsAtLook s.stage
      → k < (d.cylinders * 15)
      → ((n : ℕ) → ComesTo now then_chain done (kept_by d.paths path (walk_of d now (suc n))))
      → ComesTo s then_chain done (kept_by d.paths path (walk_of d s (d.cylinders * 15)))
  following_over then_chain done at more e =
      ends_all then_chain done at (subst (λ (n : ℕ). ComesTo now then_chain done
      (kept_by d.paths path (walk_of d now n))) (sym (left more)) (e ((d.cylinders * 15) - (k + 1))))

  -- no track is left to look at
  pub following_none : (last : ChainState) (end : CommandEnd) (done : Done) → IsAtLook s.stage
      → (d.cylinders * 15) ≤ k → end ≡ end_with now (check_outcome now equipment_sense)
      → last ≡ behind now (check_outcome now equipment_sense)
      → done ≡ without_edit d path end
      → last.at.stance.commands ≡ (start_of now).stance.commands + 1
      → ComesTo s last done (kept_by d.paths path (walk_of d s (d.cylinders * 15)))
  following_none last end done at past end_is last_is done_is counted =
      let none : (d.cylinders * 15) - k ≡ 0 = omega (arith, past) in
      let w : walk_of d now ((d.cylinders * 15) - k) ≡ untouched (check_outcome now equipment_sense) =
      ap (λ (n : ℕ). walk_of d now n) none ∙ nothing_left d now f.looking.stage in
      ends_all last done at (record {
        end_is = ap (λ (x : Done). x.end) done_is ∙ end_is ∙ ap (λ (x : Walked). end_with now x.outcome) (sym w);
        edit_is = ap (λ (x : Done). edit_of x.edit) done_is ∙ ap (λ (x : Walked). x.edit) (sym w);
        paths_is = ap (λ (x : Done). x.paths) done_is ∙ ap (λ (e : CommandEnd). with_sense d.paths path e.sense) end_is
            ∙ ap (λ (x : Walked). (kept_by d.paths path x).paths) (sym w);
        chain_is = last_is ∙ ap (λ (x : Walked). behind now x.outcome) (sym w);
        counted = counted;
      })
