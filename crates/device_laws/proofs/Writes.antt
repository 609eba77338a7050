-- The parts of a write to the volumes keep good marks good, whatever is answered; a track that was taken is level then.
use Rattle.std.proofs.Common.{◌≡◌, ◌<◌, ℕ, Bool, true, false, Option, Some, None, length, get_or, set, refl, sym, ap, subst, ◌∙◌, arith}
use Rattle.std.proofs.lemmas.List.{get_or-set_same}
use Rattle.std.specs.Prelude.{if◌then◌else◌, ◌&&◌, ◌||◌, not}
use Rattle.ckd_types.specs.declared.paths.Side.{Side}
use Rattle.ckd_types.specs.declared.paths.Side.TheVariants.{A, B}
use Rattle.track_image.specs.Image.{Image}
use Rattle.device_outside.specs.Interaction.{Interaction, Done, Tell}
use Rattle.device_outside.specs.Keeper.{Firm}
use Rattle.device_defs.specs.declared.answers.Took.{Took}
use Rattle.device_defs.specs.declared.answers.Took.TheVariants.{Whole, Opened, Unwritten}
use Rattle.device_defs.specs.Between.{HasSizes}
use Rattle.device_defs.specs.Contents.{Contents}
use Rattle.device_defs.specs.Effects.{hardened}
use Rattle.device_defs.specs.Losses.{stale_everywhere, settled, framed_image}
use Rattle.device_defs.specs.Store.{Store, tracks_of, has_level, takes_b, frame_at, is_loose, with_stale}
use Rattle.device_defs.specs.Writing as W
use Rattle.device_defs.specs.Writing.{
  Wrote,
  wrote,
  write_counted,
  taken_a,
  taken_b,
  write_side,
  firm_first,
  unwritten,
  alone_b,
  failed_a,
  first_a,
  write_first,
  tried_b,
  write_second,
}
use Rattle.device_laws.proofs.Bools.{or_left, or_right, up_level, and_left}
use Rattle.device_laws.proofs.Always.{Always, always_done, always_write, always_tell, always_then, always_weaker}
use Rattle.device_laws.proofs.Changes as C
use Rattle.device_laws.proofs.Changes.{Changed, rest_of, changed_twice, changed_hardened, changed_stale_everywhere}
use Rattle.device_laws.proofs.FailedCall.{IsKept, IsWell, IsSame, Goes, stays, changed_goes}
use Rattle.device_laws.proofs.Others.{Open, opens, open_same, others_changed, shut_goes, changed_stale, failed_write_keeps_others, settled_goes, stale_open}
use Rattle.device_laws.proofs.Sweeps.{IsHere, is_alone}
use Rattle.device_laws.proofs.TrackMarks as M
use Rattle.device_laws.proofs.TrackMarks.{TrackMarks, IsFaithful, is_good, track_at, good_is_near}
use Rattle.device_laws.proofs.WriteMarks.{taken_good, firm_good}

less_by : (up x y z : Bool) → x ≡ true → ((up && not x) || y) ≡ true → (z || y) ≡ true
less_by true true y z e f = or_right z y f
less_by false true y z e f = or_right z y f
less_by up false y z e f = absurd (cc)

abbrev pub is_taken : Took → Bool
is_taken Whole = true
is_taken Opened = true
is_taken Unwritten = false

module _ {F P H R : Type 0} (c : Contents F P H R) (faithful : IsFaithful c) where
  -- Before the first write of a loose track

  pub record Firmed (t : ℕ) (s z : Store F P H) : Type 0 where
    pub goes : Goes c s z
    pub loose : (track_at c z t).loose ≡ false
    pub lost : (track_at c z t).lost ≡ (track_at c s t).lost
    pub own : (track_at c z t).half ≡ (track_at c s t).half

  hardened_off : (s : Store F P H) (t : ℕ) → t < tracks_of s → IsWell c s →
      Changed c s (stale_everywhere (hardened s t) t) t (record (track_at c s t) { loose = false; level = false })
  hardened_off s t lt w =
      let f = changed_hardened c s t lt w.sizes in
      let y = hardened s t in
      let g = changed_stale_everywhere c y t (is_alone y (subst IsHere (sym f.rest) w.here)) lt f.sizes in
      let off = g.here ∙ ap (λ (x : TrackMarks). record x { level = false }) f.here in
      changed_twice c f (record { sizes = g.sizes; rest = g.rest; elsewhere = g.elsewhere; here = off })

  loose_of : (s : Store F P H) (t : ℕ) (b : Bool) → is_loose s t ≡ b → (track_at c s t).loose ≡ b
  unfolding M.track_at
  loose_of s t b e = e

  abbrev firm_if : Store F P H → ℕ → Bool → Interaction R Image (Store F P H) Bool
  firm_if s t b =
      if b then Tell (Firm s.device t (framed_image c s t (frame_at s t))) (λ _. Done (stale_everywhere (hardened s t) t) true)
      else Done s false

  firm_by : (s : Store F P H) (t : ℕ) (b : Bool) → is_loose s t ≡ b → t < tracks_of s → IsWell c s → Always (firm_if s t b) (λ z _. Firmed t s z)
  firm_by s t true is lt w =
      let e = hardened_off s t lt w in
      let z = stale_everywhere (hardened s t) t in
      let goes = changed_goes c s z t _ w e (firm_good (track_at c s t) (w.good t lt) (loose_of s t true is)) (w.kept t lt) (λ f. refl) in
      always_tell
      (λ _. always_done (record {
        goes = goes;
        loose = ap (λ (x : TrackMarks). x.loose) e.here;
        lost = ap (λ (x : TrackMarks). x.lost) e.here;
        own = ap (λ (x : TrackMarks). x.half) e.here;
      }))
  firm_by s t false is lt w = always_done (record { goes = stays c s w; loose = loose_of s t false is; lost = refl; own = refl })

  pub firm_first_keeps_good : (s : Store F P H) (t : ℕ) → t < tracks_of s → IsWell c s → Always (firm_first c s t) (λ z _. Firmed t s z)
  firm_first_keeps_good s t lt w = firm_by s t (is_loose s t) refl lt w

  -- The first part

  pub record Taken (t : ℕ) (s z : Store F P H) : Type 0 where
    pub goes : Goes c s z
    pub level : has_level z t ≡ true

  pub record Written (t : ℕ) (s z : Store F P H) (took : Took) : Type 0 where
    pub goes : Goes c s z
    pub level : is_taken took ≡ true → has_level z t ≡ true
    pub opens : took ≡ Opened → z.b.up ≡ true

  counted_same : (s : Store F P H) (ok : Bool) → HasSizes s → IsSame c s (write_counted s ok)
  unfolding M.track_at C.rest_of
  counted_same s ok sizes = record { sizes = record { are = sizes.are }; rest = refl; marks = λ q. refl }

  counted_open : (t : ℕ) (s z : Store F P H) (ok : Bool) → Open c t s z → Open c t s (write_counted z ok)
  counted_open t s z ok o = open_same c t s z (write_counted z ok) o (counted_same z ok o.others.sizes)

  a_level : (s : Store F P H) (t : ℕ) → s.a.up ≡ true → t < tracks_of s → HasSizes s → has_level (with_stale s A t false) t ≡ true
  a_level s t up lt sizes =
      let la : length s.a.stale ≡ tracks_of s = cc (sizes.are) in
      let e : get_or (set s.a.stale t false) t false ≡ false = grind (arith, get_or-set_same) in
      or_left _ _ (up_level s.a.up _ up e)

  a_level_still : (s : Store F P H) (t : ℕ) → s.a.up ≡ true → t < tracks_of s → HasSizes s →
      has_level (with_stale (with_stale s A t false) B t true) t ≡ true
  a_level_still s t up lt sizes =
      let la : length s.a.stale ≡ tracks_of s = cc (sizes.are) in
      let e : get_or (set s.a.stale t false) t false ≡ false = grind (arith, get_or-set_same) in
      or_left _ _ (up_level s.a.up _ up e)

  b_level : (s : Store F P H) (t : ℕ) → s.b.up ≡ true → t < tracks_of s → HasSizes s → has_level (taken_b s t) t ≡ true
  b_level s t up lt sizes =
      let lb : length s.b.stale ≡ tracks_of s = cc (sizes.are) in
      let e : get_or (set s.b.stale t false) t false ≡ false = grind (arith, get_or-set_same) in
      or_right _ _ (up_level s.b.up _ up e)

  taken_by : (s : Store F P H) (t : ℕ) (b : Bool) → s.a.up ≡ true → t < tracks_of s → HasSizes s →
      (Changed c s (if b then with_stale (with_stale s A t false) B t true else with_stale s A t false) t (record (track_at c s t) { level = true }))
      × (has_level (if b then with_stale (with_stale s A t false) B t true else with_stale s A t false) t ≡ true)
  taken_by s t false up lt sizes =
      let e = changed_stale c s A t false sizes in
      let v = a_level s t up lt sizes in
      let here = e.here ∙ ap (λ (x : Bool). record (track_at c s t) { level = x }) v in
      (record { sizes = e.sizes; rest = e.rest; elsewhere = e.elsewhere; here = here }, v)
  taken_by s t true up lt sizes =
      let e = changed_stale c s A t false sizes in
      let z = with_stale s A t false in
      let f = changed_stale c z B t true e.sizes in
      let v = a_level_still s t up lt sizes in
      let here = f.here ∙ ap (λ (x : TrackMarks). record x { level = has_level (with_stale z B t true) t }) e.here
      ∙ ap (λ (x : Bool). record (track_at c s t) { level = x }) v in
      (changed_twice c e (record { sizes = f.sizes; rest = f.rest; elsewhere = f.elsewhere; here = here }), v)

  b_changed : (s : Store F P H) (t : ℕ) → s.b.up ≡ true → t < tracks_of s → HasSizes s →
      Changed c s (taken_b s t) t (record (track_at c s t) { level = true })
  b_changed s t up lt sizes =
      let e = changed_stale c s B t false sizes in
      let here = e.here ∙ ap (λ (x : Bool). record (track_at c s t) { level = x }) (b_level s t up lt sizes) in
      record { sizes = e.sizes; rest = e.rest; elsewhere = e.elsewhere; here = here }

  took_goes : (t : ℕ) (s z y : Store F P H) → Open c t s z → (track_at c s t).lost ≡ false →
      Changed c z y t (record (track_at c z t) { level = true }) → Goes c s y
  took_goes t s z y o there e =
      let x = track_at c z t in
      shut_goes c t s y (others_changed c t s z y _ o.others e)
      (ap is_good e.here ∙ taken_good x (o.lost ∙ there) o.near)
      (subst IsKept (sym e.here) (λ h. o.lost ∙ there))
      (λ f. ap (λ (m : TrackMarks). m.loose) e.here ∙ o.loose ∙ f)

  module _ (t : ℕ) (s : Store F P H) (lt : t < tracks_of s) (there : (track_at c s t).lost ≡ false) where
    a_took : (z : Store F P H) → Open c t s z → z.a.up ≡ true → Taken t s (taken_a z t)
    a_took z o up =
        let f = taken_by z t z.b.up up (let same = o.others.tracks in omega arith) o.others.sizes in
        record { goes = took_goes t s z (taken_a z t) o there f.0; level = f.1 }

    b_took : (z : Store F P H) → Open c t s z → z.b.up ≡ true → Taken t s (taken_b z t)
    b_took z o up =
        let below : t < tracks_of z = let same = o.others.tracks in omega arith in
        record {
          goes = took_goes t s z (taken_b z t) o there (b_changed z t up below o.others.sizes);
          level = b_level z t up below o.others.sizes;
        }

    less : (z : Store F P H) → Open c t s z → (track_at c (with_stale z A t true) t).level ≡ true → (track_at c z t).level ≡ true
    unfolding M.track_at
    less z o v =
        let la : length z.a.stale ≡ tracks_of z = cc (o.others.sizes.are) in
        let below : t < tracks_of z = let same = o.others.tracks in omega arith in
        let e : get_or (set z.a.stale t true) t false ≡ true = grind (arith, get_or-set_same) in
        less_by z.a.up _ _ _ e v

    unwritten_by : (z : Store F P H) (b : Bool) → Open c t s z → Goes c s (settled c (if b then z else with_stale z A t true) t)
    unwritten_by z true o = settled_goes c faithful t s z lt o (λ h. there)
    unwritten_by z false o = settled_goes c faithful t s (with_stale z A t true) lt (stale_open c faithful t s z o (less z o)) (λ h. there)

    unwritten_goes : (z : Store F P H) → Open c t s z → Goes c s (unwritten c z t)
    unwritten_goes z o = unwritten_by z z.paired o

    alone_by : (fault : Option Side) (first : Side) (z : Store F P H) (ok : Bool) → Open c t s z → z.b.up ≡ true →
        Always (alone_b c t fault first z ok) (λ y w. Written t s y w.took)
    alone_by fault first z true o up = let f = b_took z o up in always_done (record { goes = f.goes; level = λ e. f.level; opens = λ e. absurd (cc) })
    alone_by fault first z false o up =
        always_then (failed_write_keeps_others c faithful t s z B lt o)
        (λ y _ f. always_done (record { goes = unwritten_goes y f.still; level = λ e. absurd (cc); opens = λ e. absurd (cc) }))

    alone : (r : R) (fault : Option Side) (first : Side) (z : Store F P H) → Open c t s z → z.b.up ≡ true →
        Always (write_side c z B t r (alone_b c t fault first)) (λ y w. Written t s y w.took)
    alone r fault first z o up = always_write (λ ok. alone_by fault first (write_counted z ok) ok (counted_open t s z ok o) up)

    a_failed : (r : R) (takes : Bool) (z : Store F P H) → Open c t s z → (takes ≡ true → z.b.up ≡ true) →
        Always (failed_a c t r takes z) (λ y w. Written t s y w.took)
    a_failed r true z o up = alone r (Some A) A z o (up refl)
    a_failed r false z o up = always_done (record { goes = unwritten_goes z o; level = λ e. absurd (cc); opens = λ e. absurd (cc) })

    b_still : (z : Store F P H) (b : Bool) → (if b then with_stale (with_stale z A t false) B t true else with_stale z A t false).b.up ≡ z.b.up
    b_still z true = refl
    b_still z false = refl

    opens_by : (z : Store F P H) (b : Bool) → takes_b z ≡ b → (if b then Opened else Whole) ≡ Opened → (taken_a z t).b.up ≡ true
    opens_by z true e f = b_still z z.b.up ∙ and_left z.b.up _ e
    opens_by z false e f = absurd (cc)

    a_by : (r : R) (z : Store F P H) (ok : Bool) → Open c t s z → z.a.up ≡ true → Always (first_a c t r z ok) (λ y w. Written t s y w.took)
    a_by r z true o up = let f = a_took z o up in always_done (record { goes = f.goes; level = λ e. f.level; opens = opens_by z (takes_b z) refl })
    a_by r z false o up =
        always_then (failed_write_keeps_others c faithful t s z A lt o)
        (λ y _ f. a_failed r (takes_b z) y f.still (λ e. f.up refl ∙ and_left z.b.up _ e))

    b_first : (r : R) (b : Bool) → takes_b s ≡ b → IsWell c s →
        Always (if b then write_side c s B t r (alone_b c t None B) else Done (settled c s t) (wrote Unwritten None)) (λ y w. Written t s y w.took)
    b_first r true takes w = alone r None B s (opens c s t lt w) (and_left s.b.up _ takes)
    b_first r false takes w =
        always_done (record { goes = settled_goes c faithful t s s lt (opens c s t lt w) (λ h. there); level = λ e. absurd (cc); opens = λ e. absurd (cc) })

    a_first : (r : R) (b : Bool) → s.a.up ≡ b → IsWell c s →
        Always (if b then write_side c s A t r (first_a c t r)
        else if takes_b s then write_side c s B t r (alone_b c t None B)
        else Done (settled c s t) (wrote Unwritten None)) (λ y w. Written t s y w.took)
    a_first r true up w = always_write (λ ok. a_by r (write_counted s ok) ok (counted_open t s s ok (opens c s t lt w)) up)
    a_first r false up w = b_first r (takes_b s) refl w

    -- the first part of a write of a track that isn't lost
    pub write_first_keeps_good : (r : R) → IsWell c s → Always (write_first c s t r) (λ y w. Written t s y w.took)
    unfolding W.write_first
    write_first_keeps_good r w = a_first r s.a.up refl w

    -- The second part

    tried : (z : Store F P H) (ok : Bool) → Open c t s z → z.b.up ≡ true → Always (tried_b c t z ok) (λ y _. Open c t s y)
    tried z true o up =
        let e = b_changed z t up (let same = o.others.tracks in omega arith) o.others.sizes in
        let x = track_at c z t in
        always_done (record {
          others = others_changed c t s z (taken_b z t) _ o.others e;
          near = good_is_near (track_at c (taken_b z t) t) (ap is_good e.here ∙ taken_good x (o.lost ∙ there) o.near);
          lost = ap (λ (m : TrackMarks). m.lost) e.here ∙ o.lost;
          loose = ap (λ (m : TrackMarks). m.loose) e.here ∙ o.loose;
          own = ap (λ (m : TrackMarks). m.half) e.here ∙ o.own;
        })
    tried z false o up = always_weaker (failed_write_keeps_others c faithful t s z B lt o) (λ y _ f. f.still)

    second_by : (r : R) (b : Bool) → takes_b s ≡ b → IsWell c s →
        Always (if b then write_side c s B t r (tried_b c t) else Done s tt) (λ y _. Open c t s y)
    second_by r true takes w =
        always_write (λ ok. tried (write_counted s ok) ok (counted_open t s s ok (opens c s t lt w)) (and_left s.b.up _ takes))
    second_by r false takes w = always_done (opens c s t lt w)

    pub write_second_keeps_others : (r : R) → IsWell c s → Always (write_second c s t r) (λ y _. Open c t s y)
    unfolding W.write_second
    write_second_keeps_others r w = second_by r (takes_b s) refl w
