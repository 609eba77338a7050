-- A command that looks at tracks tells what it notes as firm, and then the edit of the chain that is fed with the plain tracks.
use Rattle.std.proofs.Common.{◌≡◌, ℕ, zero, suc, Bool, List, Option, Some, None, refl, sym, ap, subst, ◌∙◌}
use Rattle.ckd_types.specs.declared.geometry.Geometry.{Geometry}
use Rattle.ckd_types.specs.declared.record.Edit.{Edit}
use Rattle.ckd_types.specs.declared.record.Track.{Track}
use Rattle.ckd_types.specs.Fixed.{Fixed}
use Rattle.ckd_types.specs.Volume.{track_in}
use Rattle.ckd_chain.specs.declared.mark.Stage.{Stage}
use Rattle.ckd_chain.specs.declared.mark.Stage.TheVariants as stages
use Rattle.ckd_chain.specs.declared.progress.Progress.{Progress}
use Rattle.ckd_chain.specs.declared.progress.Progress.TheVariants as progresses
use Rattle.ckd_chain.specs.declared.progress.Settled.{Settled}
use Rattle.ckd_chain.specs.Fed as D
use Rattle.ckd_chain.specs.Fed.{Fed, fed_image, fed_by, fed}
use Rattle.ckd_chain.specs.State.{ChainState}
use Rattle.ckd_chain.specs.Steps.{ChainStep, opened_by, chain_opened, stage_of, need_of, standing, step_turned, stepped_by, stepped, word_of}
use Rattle.ckd_rules.specs.declared.order.LocalAct.{LocalAct}
use Rattle.ckd_rules.specs.declared.order.Look.{Look}
use Rattle.ckd_rules.specs.declared.stance.Stance.{Stance}
use Rattle.ckd_rules.specs.declared.turned.Turned.{Turned}
use Rattle.ckd_rules.specs.declared.turned.Turned.TheVariants as turns
use Rattle.ckd_rules.specs.Look.{look_on}
use Rattle.ckd_rules.specs.Walk.{TrackEdit}
use Rattle.track_image.specs.Image.{Image}
use Rattle.device_outside.specs.Interaction.{Interaction}
use Rattle.device_defs.specs.declared.answers.Came.{Came}
use Rattle.device_defs.specs.declared.answers.Came.TheVariants as came
use Rattle.device_defs.specs.declared.answers.Took.{Took}
use Rattle.device_defs.specs.declared.answers.Took.TheVariants.{Whole, Opened, Unwritten}
use Rattle.device_defs.specs.Command as N
use Rattle.device_defs.specs.Command.{Went, Over, On as Onward, came_of_write, went_by, looked, look, goes_on, follow}
use Rattle.device_defs.specs.Contents.{by_plain}
use Rattle.device_defs.specs.Image.{Imaged, Has, NoBytes, BadTrack}
use Rattle.device_defs.specs.Marks.{MarksStore}
use Rattle.device_defs.specs.Memory.{had_by}
use Rattle.device_defs.specs.Outcomes.{Turn, usage_of}
use Rattle.device_defs.specs.Store.{is_lost}
use Rattle.device_laws.proofs.ChainFeeds.{need_is}
use Rattle.device_laws.proofs.ChainTracks.{begun_stage, need_at}
use Rattle.device_laws.proofs.PlainStores.{Core, core_of}
use Rattle.firm_laws.specs.FirmWrites.{FirmWrite}
use Rattle.keeper_laws.proofs.FirmWalk.{image_has}
use Rattle.firm_laws.proofs.SaidParts.{Imaging, saying}
use Rattle.firm_laws.proofs.SaidStores.{On}
use Rattle.firm_laws.proofs.SaidWrites.{Noted, Edits, noted, WroteSaysSo, write_says}
use Rattle.keeper_laws.proofs.Firms.{firms_done, firms_try, firms_then, firms_weaker, firms_if}
use Rattle.firm_laws.proofs.Tells.{Tells}

-- Steps of a chain

same_fixed : (chain : ChainState) (o : Option Stage) → (opened_by chain o).fixed ≡ chain.fixed
same_fixed chain None = refl
same_fixed chain (Some stage) = refl

-- where it goes on to another track
record Next (u v : ChainState) (q : ℕ) : Type 0 where
  needs : need_of v ≡ Some q
  fixed : v.fixed ≡ u.fixed

next_turned : (u : ChainState) (look : Look) (z : Stance) (t : Turned) (q : ℕ) → u.stage ≡ Some (stages.Looks look) →
    (step_turned u z t).progress ≡ progresses.Need q → Next u (step_turned u z t).chain q
next_turned u look z (turns.Ended e) q at is = absurd (cc)
next_turned u look z (turns.Edits edit e) q at is = absurd (cc)
next_turned u look z turns.Onward q at is =
    let v = standing u z in
    let same : z.track ≡ q = cc in
    record { needs = need_at v look at ∙ ap (λ (x : ℕ). Some x) same; fixed = refl }

next_by : (chain : ChainState) (i : Image) (stage : Stage) (q : ℕ) → stage_of chain ≡ stage →
    (stepped_by (chain_opened chain) (Some i) stage).progress ≡ progresses.Need q → Next (chain_opened chain) (stepped_by (chain_opened chain) (Some i) stage).chain q
next_by chain i stages.Over q at is = absurd (cc)
next_by chain i (stages.Asks act) q at is = absurd (cc)
next_by chain i (stages.Looks look) q at is =
    let u = chain_opened chain in
    let l = look_on i.geometry i.track u.at.stance (word_of u) look in
    next_turned u look l.stance l.turned q (begun_stage chain chain.stage refl ∙ ap (λ (x : Stage). Some x) at) is

-- where it edits
edits_turned : (u : ChainState) (z : Stance) (t : Turned) (q : ℕ) (e : Edit) → (step_turned u z t).progress ≡ progresses.Write q e → u.at.stance.track ≡ q
edits_turned u z (turns.Ended end) q e is = absurd (cc)
edits_turned u z turns.Onward q e is = absurd (cc)
edits_turned u z (turns.Edits edit end) q e is = cc

edits_by : (chain : ChainState) (i : Image) (stage : Stage) (q : ℕ) (e : Edit) →
    (stepped_by (chain_opened chain) (Some i) stage).progress ≡ progresses.Write q e → (chain_opened chain).at.stance.track ≡ q
edits_by chain i stages.Over q e is = absurd (cc)
edits_by chain i (stages.Asks act) q e is = absurd (cc)
edits_by chain i (stages.Looks look) q e is =
    let u = chain_opened chain in
    let l = look_on i.geometry i.track u.at.stance (word_of u) look in
    edits_turned u l.stance l.turned q e is

module _ (b : List Track) where
  -- by the edit of a command that ended
  abbrev pub EndSays : Option TrackEdit → List FirmWrite → Core → Type 0
  EndSays None w c = Noted b w c
  EndSays (Some x) w c = Edits b x w c

  abbrev pub CameSays : Option TrackEdit → List FirmWrite → MarksStore → Came → Type 0
  CameSays edit w z (came.Ends e) = EndSays edit w (core_of z)
  CameSays edit w z (came.Checks e) = Noted b w (core_of z)
  CameSays edit w z (came.HalfOpen t) = Noted b w (core_of z)

  module _ (g : Geometry) (answer : LocalAct → Settled) where
    -- the chain looks at this track, of a volume of this geometry
    pub record At (chain : ChainState) (t : ℕ) : Type 0 where
      pub needs : need_of chain ≡ Some t
      pub geometry : chain.fixed.geometry ≡ g

    abbrev WentSays : ChainState → List FirmWrite → MarksStore → Option Went → Type 0
    WentSays chain u z None = Noted b u (core_of z)
    WentSays chain u z (Some (Over turn)) = (k : ℕ) → CameSays (fed (suc k) (track_in b) answer chain).edit u z turn.came
    WentSays chain u z (Some (Onward next q)) =
        On None None b g u z × (At next q × ((k : ℕ) → fed (suc k) (track_in b) answer chain ≡ fed k (track_in b) answer next))

    module _ (chain : ChainState) (first t : ℕ) (at : At chain t) where
      abbrev Went_so : List FirmWrite → Interaction Bool Image MarksStore (Option Went) → Type 0
      Went_so w i = Tells (λ u z a. WentSays chain u z a) w i

      fed_step : (k : ℕ) (x : ChainStep) → stepped chain (Some (record { geometry = g; track = track_in b t })) ≡ x →
          fed (suc k) (track_in b) answer chain ≡ fed_by answer (fed k (track_in b) answer) x.chain x.progress
      unfolding D.fed
      fed_step k x is =
          let image : fed_image chain.fixed (track_in b) (need_of chain) ≡ Some (record { geometry = g; track = track_in b t }) =
          ap (fed_image chain.fixed (track_in b)) at.needs ∙ ap (λ (y : Geometry). Some (record { geometry = y; track = track_in b t })) at.geometry in
          ap (λ (i : Option Image). fed_by answer (fed k (track_in b) answer) (stepped chain i).chain (stepped chain i).progress) image
          ∙ ap (λ (y : ChainStep). fed_by answer (fed k (track_in b) answer) y.chain y.progress) is

      next_at : (next : ChainState) (q : ℕ) → stepped chain (Some (record { geometry = g; track = track_in b t }))
          ≡ record { progress = progresses.Need q; chain = next } → At next q
      next_at next q is =
          let n = next_by chain (record { geometry = g; track = track_in b t }) (stage_of chain) q refl (ap (λ (y : ChainStep). y.progress) is) in
          let same : (stepped chain (Some (record { geometry = g; track = track_in b t }))).chain ≡ next = ap (λ (y : ChainStep). y.chain) is in
          record {
            needs = ap need_of (sym same) ∙ n.needs;
            geometry = ap (λ (y : ChainState). y.fixed.geometry) (sym same)
                ∙ ap (λ (y : Fixed). y.geometry) (n.fixed ∙ same_fixed chain chain.stage) ∙ at.geometry;
          }

      written_at : (next : ChainState) (q : ℕ) (e : Edit) → stepped chain (Some (record { geometry = g; track = track_in b t }))
          ≡ record { progress = progresses.Write q e; chain = next } → t ≡ q
      written_at next q e is =
          sym (need_is (chain_opened chain) (stage_of chain) t at.needs)
          ∙ edits_by chain (record { geometry = g; track = track_in b t }) (stage_of chain) q e (ap (λ (y : ChainStep). y.progress) is)

      wrote_says : (next : ChainState) (q : ℕ) (e : Edit) → stepped chain (Some (record { geometry = g; track = track_in b t }))
          ≡ record { progress = progresses.Write q e; chain = next } → (u : List FirmWrite) (z : MarksStore) (a : Option Took) →
          WroteSaysSo b (record { track = t; edit = e }) u z a → Went_so u (had_by (came_of_write by_plain next t) z a)
      wrote_says next q e is u z None x = firms_done x
      wrote_says next q e is u z (Some Whole) x =
          firms_done (λ k. subst (λ (o : Option TrackEdit). EndSays o u (core_of z))
          (ap (λ (n : ℕ). Some (record { track = n; edit = e })) (written_at next q e is)
          ∙ sym (ap (λ (y : Fed). y.edit) (fed_step k (record { progress = progresses.Write q e; chain = next }) is))) x)
      wrote_says next q e is u z (Some Opened) x = firms_done (λ k. x)
      wrote_says next q e is u z (Some Unwritten) x = firms_done (λ k. x)

      went_says : {w : List FirmWrite} (s : MarksStore) (next : ChainState) (p : Progress) →
          stepped chain (Some (record { geometry = g; track = track_in b t })) ≡ record { progress = p; chain = next } → On None None b g w s →
          Went_so w (went_by by_plain (usage_of chain) first t s (record { geometry = g; track = track_in b t }) next p)
      went_says {w = w} s next (progresses.Ended e) is x =
          firms_done (λ k. subst (λ (o : Option TrackEdit). EndSays o w (core_of s))
          (sym (ap (λ (y : Fed). y.edit) (fed_step k (record { progress = progresses.Ended e; chain = next }) is))) (noted b s x))
      went_says s next (progresses.Need q) is x =
          firms_done (x, (next_at next q is, λ k. fed_step k (record { progress = progresses.Need q; chain = next }) is))
      went_says s next (progresses.Write q e) is x =
          firms_then (had_by (came_of_write by_plain next t))
          (write_says b g t (usage_of chain) e (record { geometry = g; track = track_in b t }) refl first s x)
          (λ u z a y. wrote_says next q e is u z a y)
      went_says s next (progresses.Local act) is x = firms_done (λ k. noted b s x)

      image_says : (u : List FirmWrite) (z : MarksStore) (a : Option Imaged) → Imaging None None b g t u z a →
          Went_so u (had_by (looked by_plain chain first t) z a)
      image_says u z None x = firms_done (noted b z x.on)
      image_says u z (Some (Has i)) x =
          subst (λ (y : Image). Went_so u (N.went_on by_plain chain first t z y)) (sym x.image)
          (firms_try (went_says z (stepped chain (Some (record { geometry = g; track = track_in b t }))).chain
          (stepped chain (Some (record { geometry = g; track = track_in b t }))).progress refl x.on))
      image_says u z (Some (NoBytes fault)) x = firms_done (λ k. noted b z x.on)
      image_says u z (Some (BadTrack side)) x = firms_done (λ k. noted b z x.on)

      look_says : {w : List FirmWrite} (s : MarksStore) → On None None b g w s → Went_so w (look by_plain chain first t s)
      unfolding N.look
      look_says s x =
          firms_if (is_lost s t) (λ _. firms_done (λ k. noted b s x))
          (λ _. firms_then (had_by (looked by_plain chain first t)) (image_has (saying b g) None None t s (usage_of chain) x) (λ u z a y. image_says u z a y))

    abbrev pub FollowSays : ℕ → ChainState → List FirmWrite → MarksStore → Option Turn → Type 0
    FollowSays k chain u z None = Noted b u (core_of z)
    FollowSays k chain u z (Some turn) = CameSays (fed k (track_in b) answer chain).edit u z turn.came

    as_fed : (k : ℕ) (chain next : ChainState) → fed (suc k) (track_in b) answer chain ≡ fed k (track_in b) answer next → (u : List FirmWrite)
        (z : MarksStore) (a : Option Turn) → FollowSays k next u z a → FollowSays (suc k) chain u z a
    as_fed k chain next same u z None x = x
    as_fed k chain next same u z (Some turn) x = subst (λ (y : Fed). CameSays y.edit u z turn.came) (sym same) x

    by_went : (k first : ℕ) (chain : ChainState) (u : List FirmWrite) (z : MarksStore) (a : Option Went) →
        ((next : ChainState) (q : ℕ) → At next q → (s : MarksStore) → On None None b g u s →
        Tells (λ v y c. FollowSays k next v y c) u (follow by_plain k first next q s)) → WentSays chain u z a →
        Tells (λ v y c. FollowSays (suc k) chain v y c) u (had_by (goes_on by_plain (follow by_plain k first)) z a)
    by_went k first chain u z None rest x = firms_done x
    by_went k first chain u z (Some (Over turn)) rest x = firms_done (x k)
    by_went k first chain u z (Some (Onward next q)) rest x =
        firms_weaker (rest next q x.1.0 z x.0) (λ v y c f. as_fed k chain next (x.1.1 k) v y c f)

    pub follow_says : {w : List FirmWrite} (k first : ℕ) (chain : ChainState) (t : ℕ) → At chain t → (s : MarksStore) → On None None b g w s →
        Tells (λ u z a. FollowSays k chain u z a) w (follow by_plain k first chain t s)
    unfolding N.follow
    follow_says zero first chain t at s x = firms_done (noted b s x)
    follow_says (suc k) first chain t at s x =
        firms_then (had_by (goes_on by_plain (follow by_plain k first))) (look_says chain first t at s x)
        (λ u z a y. by_went k first chain u z a (λ next q on v f. follow_says k first next q on v f) y)
