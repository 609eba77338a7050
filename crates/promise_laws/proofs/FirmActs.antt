-- The acts of an event as the loose tracks before it have them: each loose track becomes firm once, and at last one may become loose.
use Rattle.std.proofs.Common.{
  ◌≡◌,
  ◌&&◌,
  ℕ,
  Bool,
  true,
  false,
  not,
  List,
  [],
  ◌∷◌,
  ◌++◌,
  Option,
  Some,
  None,
  set,
  get_or,
  refl,
  sym,
  ap,
  subst,
  ◌∙◌,
}
use Rattle.std.specs.List.{list_all}
use Rattle.ckd_types.specs.declared.paths.Side.{Side}
use Rattle.ckd_types.specs.declared.record.Edit.{Edit}
use Rattle.ckd_types.specs.declared.geometry.Geometry.{Geometry}
use Rattle.ckd_types.specs.declared.record.Track.{Track}
use Rattle.loss_model.specs.declared.Loss.TheVariants as losses
use Rattle.plain_defs.specs.declared.journal.Act.{Act}
use Rattle.plain_defs.specs.declared.journal.Act.TheVariants.{Loosen, Harden, CfwLost}
use Rattle.plain_defs.specs.Legal.{AreActs}
use Rattle.plain_defs.specs.Loose.{is_loose_in, act_done}
use Rattle.plain_defs.specs.PlainState.{PlainState}
use Rattle.plain_defs.specs.Program.{acts_done}
use Rattle.track_image.specs.Image.{Image}
use Rattle.device_defs.specs.Contents.{by_plain}
use Rattle.device_defs.specs.Effects.{with_edit}
use Rattle.device_defs.specs.Events.{with_loss, lost_by, losing}
use Rattle.device_defs.specs.Losses.{slot_in}
use Rattle.device_defs.specs.Marks.{MarksStore}
use Rattle.device_defs.specs.Second as N
use Rattle.device_defs.specs.Second.{second_part, second_by, cut_kept, left_by, half_closed}
use Rattle.device_defs.specs.Store.{Origin, OfCommand, OfCut, OfBackground, HalfWrite, tracks_of, has_level, frame_at, patch_at, with_frame}
use Rattle.device_laws.proofs.Had.{Had, had_done, had_tell, had_if, had_then}
use Rattle.device_laws.proofs.PlainStores.{Core, Open, core_of, loose_at, hardened_core, IsOf, of_hardened, Walks}
use Rattle.device_laws.proofs.PlainWalks.{
  framed_same,
  patch_same,
  settled_holds,
  side_holds,
  told_holds,
  second_part_holds,
  done_same,
  IsEdited,
  firmly,
  loosely,
  loosened,
}
use Rattle.promise_laws.specs.Origins.{are_firmed, are_noted}
use Rattle.promise_laws.proofs.ActsNoted.{takes_none}

pub both : (a b : Bool) → a ≡ true → b ≡ true → (a && b) ≡ true
both true b e f = f
both false b e f = absurd (cc)

and_more : (a b c : Bool) → (a && b) ≡ true → (b ≡ true → c ≡ true) → (a && c) ≡ true
and_more true b c e f = f e
and_more false b c e f = e

-- Tracks that become firm

abbrev pub firmed_marks : List Bool → List Act → List Bool
firmed_marks loose [] = loose
firmed_marks loose (Harden t ∷ acts) = firmed_marks (set loose t false) acts
firmed_marks loose (Loosen t ∷ acts) = firmed_marks loose acts
firmed_marks loose (CfwLost ∷ acts) = firmed_marks loose acts

firmed_more : (acts : List Act) (loose : List Bool) (t : ℕ) → are_firmed loose acts ≡ true → get_or (firmed_marks loose acts) t false ≡ true →
    are_firmed loose (acts ++ Harden t ∷ []) ≡ true
firmed_more [] loose t are is = ap (λ (b : Bool). b && true) is
firmed_more (Harden u ∷ acts) loose t are is =
    and_more (get_or loose u false) (are_firmed (set loose u false) acts) (are_firmed (set loose u false) (acts ++ Harden t ∷ [])) are
    (λ rest. firmed_more acts (set loose u false) t rest is)
firmed_more (Loosen u ∷ acts) loose t are is = absurd (cc)
firmed_more (CfwLost ∷ acts) loose t are is = absurd (cc)

marks_more : (acts : List Act) (loose : List Bool) (t : ℕ) → firmed_marks loose (acts ++ Harden t ∷ []) ≡ set (firmed_marks loose acts) t false
marks_more [] loose t = refl
marks_more (Harden u ∷ acts) loose t = marks_more acts (set loose u false) t
marks_more (Loosen u ∷ acts) loose t = marks_more acts loose t
marks_more (CfwLost ∷ acts) loose t = marks_more acts loose t

-- from these loose tracks on, with the others left
pub record Firmed (before : List Bool) (acts : List Act) (loose : List Bool) : Type 0 where
  pub are : are_firmed before acts ≡ true
  pub left : loose ≡ firmed_marks before acts

module _ (before : List Bool) where
  abbrev pub IsFirmed : Core → Type 0
  IsFirmed c = Firmed before c.acts c.loose

  one_firmed : (c : Core) (t : ℕ) → IsFirmed c → loose_at c t ≡ true → IsFirmed (hardened_core c t)
  one_firmed c t f is = record {
    are = firmed_more c.acts before t f.are (ap (λ (l : List Bool). get_or l t false) (sym f.left) ∙ is);
    left = ap (λ (l : List Bool). set l t false) f.left ∙ sym (marks_more c.acts before t);
  }

  -- the loss of a side
  pub side_firmed : (s : MarksStore) (side : Side) → IsFirmed (core_of s) →
      Had (losing by_plain s (losses.Side side)) (λ z (_ : Unit {0}). IsFirmed (core_of z))
  side_firmed s side f =
      told_holds IsFirmed one_firmed (tracks_of s) (lost_by by_plain (with_loss s (losses.Side side)) (losses.Side side))
      (side_holds IsFirmed one_firmed (with_loss s (losses.Side side)) side None f)

  -- the other part of a write
  kept_firmed : (s : MarksStore) (t : ℕ) (i : Image) (o : Option Bool) → IsFirmed (core_of s) → IsFirmed (core_of (cut_kept by_plain s t i o))
  kept_firmed s t i None f = f
  kept_firmed s t i (Some m) f =
      subst IsFirmed (sym (patch_same (with_frame s t (Some m)) t (slot_in by_plain (patch_at (with_frame s t (Some m)) t)) ∙ framed_same s t (Some m))) f

  left_firmed : (s : MarksStore) (t : ℕ) (i : Image) (origin : Origin) → IsFirmed (core_of s) → IsFirmed (core_of (left_by by_plain s t i origin))
  left_firmed s t i (OfCommand bypass e) f = f
  left_firmed s t i (OfCut bypass) f = kept_firmed s t i (frame_at s t) f
  left_firmed s t i OfBackground f = f

  finished_firmed : (s : MarksStore) (t : ℕ) (i : Image) (bypass : Bool) → IsFirmed (core_of s) →
      Had (N.finished by_plain s t i bypass) (λ z (_ : Bool). IsFirmed (core_of z))
  finished_firmed s t i bypass f = had_then (done_same s t i bypass) (λ z _ e. had_done (subst IsFirmed (sym e) f))

  done_firmed : (s : MarksStore) (t : ℕ) (i : Image) (origin : Origin) → IsFirmed (core_of s) →
      Had (N.second_done by_plain s t i origin) (λ z (_ : Bool). IsFirmed (core_of z))
  done_firmed s t i (OfCommand bypass e) f = had_tell (finished_firmed (with_edit s t e) t i bypass f)
  done_firmed s t i (OfCut bypass) f = finished_firmed s t i bypass f
  done_firmed s t i OfBackground f = finished_firmed s t i false f

  by_firmed : (s : MarksStore) (t : ℕ) (i : Image) (origin : Origin) → IsFirmed (core_of s) →
      Had (second_by by_plain t i origin s) (λ z (_ : Bool). IsFirmed (core_of z))
  by_firmed s t i origin f =
      had_if (has_level s t) (λ _. done_firmed (half_closed s) t i origin f)
      (λ _. had_done (settled_holds IsFirmed one_firmed (left_by by_plain (half_closed s) t i origin) t (left_firmed (half_closed s) t i origin f)))

  pub second_firmed : (s : MarksStore) (h : HalfWrite (Unit {0})) → IsFirmed (core_of s) → Had (second_part by_plain s h) (λ z (_ : Bool). IsFirmed (core_of z))
  unfolding N.second_part
  second_firmed s h f = had_then (second_part_holds IsFirmed one_firmed s h.track true f) (λ z _ g. by_firmed z h.track _ h.origin g)

-- Legal acts that take no data

pub firmed_of : (acts : List Act) (p : PlainState) (c : Core) → IsOf p c → AreActs p None acts → list_all takes_none acts ≡ true →
    are_firmed c.loose acts ≡ true
firmed_of [] p c of are none = refl
firmed_of (Loosen t ∷ []) p c of are none = absurd (let other : None ≡ Some t = are.1 in cc)
firmed_of (Loosen t ∷ x ∷ acts) p c of are none = absurd are
firmed_of (Harden t ∷ acts) p c of are none =
    let is : loose_at c t ≡ true = sym (of.loose t) ∙ are.0 in
    both (get_or c.loose t false) (are_firmed (set c.loose t false) acts) is
    (firmed_of acts (act_done p (Harden t)) (hardened_core c t) (of_hardened p c of t is) are.1 none)
firmed_of (CfwLost ∷ acts) p c of are none = absurd (cc)

pub firmed_noted : (acts : List Act) (loose : List Bool) → are_firmed loose acts ≡ true → are_noted loose acts ≡ true
firmed_noted [] loose are = refl
firmed_noted (Harden t ∷ acts) loose are =
    and_more (get_or loose t false) (are_firmed (set loose t false) acts) (are_noted (set loose t false) acts) are (firmed_noted acts (set loose t false))
firmed_noted (Loosen t ∷ acts) loose are = absurd (cc)
firmed_noted (CfwLost ∷ acts) loose are = absurd (cc)

-- and at last a track becomes loose
noted_last : (acts : List Act) (p : PlainState) (c : Core) → IsOf p c → AreActs p None acts → list_all takes_none acts ≡ true → (t : ℕ) →
    is_loose_in (acts_done p acts).loose t ≡ false → are_noted c.loose (acts ++ Loosen t ∷ []) ≡ true
noted_last [] p c of are none t firm = ap not (sym (of.loose t) ∙ firm)
noted_last (Loosen u ∷ []) p c of are none t firm = absurd (let other : None ≡ Some u = are.1 in cc)
noted_last (Loosen u ∷ x ∷ acts) p c of are none t firm = absurd are
noted_last (Harden u ∷ acts) p c of are none t firm =
    let is : loose_at c u ≡ true = sym (of.loose u) ∙ are.0 in
    both (get_or c.loose u false) (are_noted (set c.loose u false) (acts ++ Loosen t ∷ [])) is
    (noted_last acts (act_done p (Harden u)) (hardened_core c u) (of_hardened p c of u is) are.1 none t firm)
noted_last (CfwLost ∷ acts) p c of are none t firm = absurd (cc)

front_takes : (acts : List Act) (act : Act) → list_all takes_none (acts ++ act ∷ []) ≡ true → list_all takes_none acts ≡ true
front_takes [] act none = refl
front_takes (x ∷ acts) act none =
    and_more (takes_none x) (list_all takes_none (acts ++ act ∷ [])) (list_all takes_none acts) none (front_takes acts act)

-- Of a plain device, and the store that it was

module _ (p : PlainState) (first : Core) (of : IsOf p first) (u : List Track) (g : Geometry) (n : ℕ) (m : Open) where
  pub walks_noted : (c : Core) → Walks p u g n m c → list_all takes_none c.acts ≡ true → are_noted first.loose c.acts ≡ true
  walks_noted c w none = firmed_noted c.acts first.loose (firmed_of c.acts p first of w.are none)

  same_noted : (c e : Core) → Walks p u g n m c → e.acts ≡ c.acts → list_all takes_none e.acts ≡ true → are_noted first.loose e.acts ≡ true
  same_noted c e w same none =
      subst (λ (l : List Act). are_noted first.loose l ≡ true) (sym same)
      (walks_noted c w (subst (λ (l : List Act). list_all takes_none l ≡ true) same none))

  pub edited_noted : (provisional : Bool) (t : ℕ) (e : Edit) (d : Core) → IsEdited p u g n m provisional t e d → list_all takes_none d.acts ≡ true →
      are_noted first.loose d.acts ≡ true
  edited_noted provisional t e d (firmly c _ w firm same) none = same_noted c d w (ap (λ (x : Core). x.acts) same) none
  edited_noted provisional t e d (loosely c _ w loose is same) none = same_noted c d w (ap (λ (x : Core). x.acts) same) none
  edited_noted provisional t e d (loosened c _ w firm inside is same) none =
      let acts_are : d.acts ≡ c.acts ++ Loosen t ∷ [] = ap (λ (x : Core). x.acts) same in
      subst (λ (l : List Act). are_noted first.loose l ≡ true) (sym acts_are)
      (noted_last c.acts p first of w.are (front_takes c.acts (Loosen t) (subst (λ (l : List Act). list_all takes_none l ≡ true) acts_are none)) t
      (w.of.loose t ∙ firm))
