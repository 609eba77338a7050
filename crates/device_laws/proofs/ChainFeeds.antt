-- Real chains are fed as their definition says: each look goes on to a track of the device, and each edit suits its track.
use Rattle.std.proofs.Common.{◌≡◌, ◌<◌, ◌*◌, ℕ, List, [], ◌∷◌, length, Option, Some, None, refl, sym, ap, subst, ◌∙◌, arith}
use Rattle.ckd_types.specs.declared.geometry.Geometry.{Geometry}
use Rattle.ckd_types.specs.declared.record.Edit.{Edit}
use Rattle.ckd_types.specs.declared.record.Record.{Record}
use Rattle.ckd_types.specs.declared.record.Track.{Track}
use Rattle.ckd_types.specs.Fixed.{Fixed}
use Rattle.ckd_types.specs.Track.{Fits, HasZero}
use Rattle.ckd_rules.specs.declared.order.Look.{Look}
use Rattle.ckd_rules.specs.declared.stance.Stance.{Stance}
use Rattle.ckd_rules.specs.declared.turned.Turned.{Turned}
use Rattle.ckd_rules.specs.declared.turned.Turned.TheVariants as turns
use Rattle.ckd_rules.specs.Look.{look_on}
use Rattle.ckd_chain.specs.declared.mark.Stage.{Stage}
use Rattle.ckd_chain.specs.declared.mark.Stage.TheVariants as stages
use Rattle.ckd_chain.specs.declared.progress.Progress.TheVariants as progresses
use Rattle.ckd_chain.specs.State.{ChainState}
use Rattle.ckd_chain.specs.Steps.{opened_by, chain_opened, stage_of, need_of, track_needed, standing, stepped, stepped_by, step_turned, word_of}
use Rattle.plain_defs.specs.Whole.{GivesBytes}
use Rattle.plain_device.proofs.Suiting.{SuitsTurn, look_suits}
use Rattle.track_image.specs.Image.{Image}
use Rattle.device_laws.specs.Feeding.{Feeds}
use Rattle.device_laws.specs.PlainWrites.{SuitsTrack}
use Rattle.device_laws.specs.Standing.{IsWithin, RunsOn, LooksAt}
use Rattle.device_laws.proofs.Bools.{some_is}
use Rattle.device_laws.proofs.ChainTracks.{within_stays, whole_cylinders, begun_stage, need_at}
use Rattle.device_laws.proofs.OrdersStand.{chain_stands}

some_records : (records : List Record) → HasZero records → 0 < length records
some_records [] h = absurd h
some_records (r ∷ rest) h = omega arith

same_word : (chain : ChainState) (o : Option Stage) → word_of (opened_by chain o) ≡ word_of chain
same_word chain None = refl
same_word chain (Some stage) = refl

same_fixed : (chain : ChainState) (o : Option Stage) → (opened_by chain o).fixed ≡ chain.fixed
same_fixed chain None = refl
same_fixed chain (Some stage) = refl

-- Where it goes on to another track

record Next (u : ChainState) (v : ChainState) (q : ℕ) : Type 0 where
  needs : need_of v ≡ Some q
  fixed : v.fixed ≡ u.fixed
  word : word_of v ≡ word_of u

next_turned : (u : ChainState) (look : Look) (z : Stance) (t : Turned) (q : ℕ) → u.stage ≡ Some (stages.Looks look) →
    (step_turned u z t).progress ≡ progresses.Need q → Next u (step_turned u z t).chain q
next_turned u look z (turns.Ended e) q at is = absurd (cc)
next_turned u look z (turns.Edits edit e) q at is = absurd (cc)
next_turned u look z turns.Onward q at is =
    let v = standing u z in
    let same : z.track ≡ q = cc in
    record { needs = need_at v look at ∙ ap (λ (x : ℕ). Some x) same; fixed = refl; word = refl }

next_by : (chain : ChainState) (i : Image) (stage : Stage) (q : ℕ) → stage_of chain ≡ stage →
    (stepped_by (chain_opened chain) (Some i) stage).progress ≡ progresses.Need q → Next (chain_opened chain) (stepped_by (chain_opened chain) (Some i) stage).chain q
next_by chain i stages.Over q at is = absurd (cc)
next_by chain i (stages.Asks act) q at is = absurd (cc)
next_by chain i (stages.Looks look) q at is =
    let u = chain_opened chain in
    let l = look_on i.geometry i.track u.at.stance (word_of u) look in
    next_turned u look l.stance l.turned q (begun_stage chain chain.stage refl ∙ ap (λ (x : Stage). Some x) at) is

-- Where it edits

record Edits (u : ChainState) (g : Geometry) (x : Track) (q : ℕ) (e : Edit) : Type 0 where
  place : u.at.stance.track ≡ q
  suits : SuitsTrack g x e

edits_turned : (u : ChainState) (g : Geometry) (x : Track) (z : Stance) (t : Turned) (q : ℕ) (e : Edit) → SuitsTurn g x.records t →
    (step_turned u z t).progress ≡ progresses.Write q e → Edits u g x q e
edits_turned u g x z (turns.Ended end) q e s is = absurd (cc)
edits_turned u g x z turns.Onward q e s is = absurd (cc)
edits_turned u g x z (turns.Edits edit end) q e s is =
    let same : edit ≡ e = cc in
    record {
      place = cc;
      suits = subst (λ (y : Edit). SuitsTrack g x y) same (record { suits = s.0; ranges = s.1 });
    }

edits_by : (chain : ChainState) (i : Image) (stage : Stage) (q : ℕ) (e : Edit) → GivesBytes (word_of (chain_opened chain)) → Fits i.geometry i.track →
    (stepped_by (chain_opened chain) (Some i) stage).progress ≡ progresses.Write q e → Edits (chain_opened chain) i.geometry i.track q e
edits_by chain i stages.Over q e gives fits is = absurd (cc)
edits_by chain i (stages.Asks act) q e gives fits is = absurd (cc)
edits_by chain i (stages.Looks look) q e gives fits is =
    let u = chain_opened chain in
    let l = look_on i.geometry i.track u.at.stance (word_of u) look in
    edits_turned u i.geometry i.track l.stance l.turned q e
    (look_suits i.geometry u.at.stance (word_of u) gives i.track (some_records i.track.records fits.zero) look) is

pub need_is : (u : ChainState) (stage : Stage) (t : ℕ) → track_needed u stage ≡ Some t → u.at.stance.track ≡ t
need_is u stages.Over t is = absurd (cc)
need_is u (stages.Asks act) t is = absurd (cc)
need_is u (stages.Looks look) t is = some_is u.at.stance.track t is

-- The whole

module _ (n : ℕ) (g : Geometry) where
  abbrev looks : ChainState → ℕ → Type 0
  looks chain t = LooksAt n g chain t

  goes : (chain : ChainState) (t : ℕ) (i : Image) (q : ℕ) → looks chain t → (stepped chain (Some i)).progress ≡ progresses.Need q →
      looks (stepped chain (Some i)).chain q
  goes chain t i q x is =
      let f = (within_stays (n * 15) (whole_cylinders n)).goes chain i q x.within is in
      let next = next_by chain i (stage_of chain) q refl is in
      record {
        within = f.0;
        needs = next.needs;
        geometry = ap (λ (y : Fixed). y.geometry) (next.fixed ∙ same_fixed chain chain.stage) ∙ x.geometry;
        gives = subst GivesBytes (sym (next.word ∙ same_word chain chain.stage)) x.gives;
      }

  edits : (chain : ChainState) (t : ℕ) (i : Image) (q : ℕ) (e : Edit) → looks chain t → i.geometry ≡ g → Fits g i.track →
      (stepped chain (Some i)).progress ≡ progresses.Write q e → (q ≡ t) × SuitsTrack g i.track e
  edits chain t i q e x on fits is =
      let f = edits_by chain i (stage_of chain) q e (subst GivesBytes (sym (same_word chain chain.stage)) x.gives)
      (subst (λ (y : Geometry). Fits y i.track) (sym on) fits) is in
      (sym f.place ∙ need_is (chain_opened chain) (stage_of chain) t x.needs, subst (λ (y : Geometry). SuitsTrack y i.track e) on f.suits)

  pub chain_feeds : Feeds (n * 15) g looks
  chain_feeds = record {
    needs = λ chain t x. x.needs;
    inside = λ chain t x. x.within.needs t x.needs;
    reaches = λ chain t x. (within_stays (n * 15) (whole_cylinders n)).reaches chain x.within;
    fixed = λ chain t x. x.geometry;
    goes = goes;
    writes = edits;
  }

  -- the chain of a running program looks where it needs a track
  pub runs_looks : (chain : ChainState) (t : ℕ) → RunsOn n g chain → need_of chain ≡ Some t → looks chain t
  runs_looks chain t r is = record {
    within = subst (λ (m : ℕ). IsWithin (m * 15) chain) r.is.cylinders (chain_stands chain r.is.is);
    needs = is;
    geometry = r.geometry;
    gives = r.gives _;
  }
