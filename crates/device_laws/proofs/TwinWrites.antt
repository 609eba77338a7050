-- The first part of a write: each side that is level then holds what was written, or none took it and all is right as before.
use Rattle.std.proofs.Common.{◌≡◌, ◌<◌, ◌&&◌, not, ℕ, Bool, true, false, List, Option, Some, None, refl, sym, ap, subst, ◌∙◌, arith}
use Rattle.std.specs.Prelude.{if◌then◌else◌}
use Rattle.ckd_types.specs.declared.geometry.Geometry.{Geometry}
use Rattle.ckd_types.specs.declared.paths.Side.{Side}
use Rattle.ckd_types.specs.declared.paths.Side.TheVariants.{A, B}
use Rattle.ckd_types.specs.declared.record.Track.{Track}
use Rattle.track_image.specs.Image.{Image}
use Rattle.device_outside.specs.After.{with_held}
use Rattle.device_outside.specs.Both.{both_write}
use Rattle.device_outside.specs.Interaction.{Done}
use Rattle.device_outside.proofs.BothRules.{on_test}
use Rattle.device_defs.specs.declared.answers.Took.TheVariants.{Whole, Opened, Unwritten}
use Rattle.device_defs.specs.Contents.{contents, by_plain}
use Rattle.device_defs.specs.Losses.{settled}
use Rattle.device_defs.specs.Marks.{marks_of}
use Rattle.device_defs.specs.Sound.{DeviceStore}
use Rattle.device_defs.specs.Store.{tracks_of, takes_b, is_loose, half_is, with_stale}
use Rattle.device_defs.specs.Writing as W
use Rattle.device_defs.specs.Writing.{
  Wrote,
  wrote,
  write_counted,
  taken_a,
  taken_b,
  write_side,
  unwritten,
  alone_b,
  first_a,
  write_first,
  tried_b,
  write_second,
}
use Rattle.device_laws.specs.Agrees.{Held, image_in}
use Rattle.device_laws.specs.Twin.{Twins}
use Rattle.device_laws.proofs.Bools.{and_not_true, and_left}
use Rattle.device_laws.proofs.ContentChanges as C
use Rattle.device_laws.proofs.ContentChanges.{
  base_of,
  Altered,
  altered_on_a,
  altered_on_b,
  altered_stale_a,
  altered_stale_b,
  same_up_b,
  RightBut,
  Sure,
  shut,
  opens_write,
  similar_right,
  beside_right,
  loose_is,
}
use Rattle.device_laws.proofs.TrackContents as T
use Rattle.device_laws.proofs.TrackContents.{TrackContents, contents_at, Keeps, keeps_fewer, not_both}
use Rattle.device_laws.proofs.TwinAsks.{Stays, stays_same, stays_on, stays_by, stays_fell, stays_image, stays_off, Ordered, right_keeps}
use Rattle.device_laws.proofs.TwinFailed.{fell, Failed, failed_twin}
use Rattle.device_laws.proofs.TwinSettled.{AllTold, told_altered, told_debts, settled_pair, settled_told}
use Rattle.device_laws.proofs.TwinWalks.{Pair, pair_is, pair_weaker, twin_done, twin_ends, twin_then, twin_weaker}
use Rattle.device_laws.proofs.Writes.{is_taken}

-- of a track only what its sides have is other
pub record Sided (x y : TrackContents) : Type 0 where
  pub frame : y.frame ≡ x.frame
  pub patch : y.patch ≡ x.patch
  pub lost : y.lost ≡ x.lost
  pub loose : y.loose ≡ x.loose
  pub freed : y.freed ≡ x.freed

pub sided_same : (x : TrackContents) → Sided x x
sided_same x = record { frame = refl; patch = refl; lost = refl; loose = refl; freed = refl }

pub sided_on : (x y z : TrackContents) → Sided x y → Sided y z → Sided x z
sided_on x y z f g = record {
  frame = g.frame ∙ f.frame;
  patch = g.patch ∙ f.patch;
  lost = g.lost ∙ f.lost;
  loose = g.loose ∙ f.loose;
  freed = g.freed ∙ f.freed;
}

fell_a : (p : Bool) (s : DeviceStore) (h : Held) (t : ℕ) →
    contents_at (fell p s A) h t ≡ record (contents_at s h t) { a = if p then false else (contents_at s h t).a }
unfolding T.contents_at
fell_a true s h t = refl
fell_a false s h t = refl

fell_b : (p : Bool) (s : DeviceStore) (h : Held) (t : ℕ) →
    contents_at (fell p s B) h t ≡ record (contents_at s h t) { b = if p then false else (contents_at s h t).b }
unfolding T.contents_at
fell_b true s h t = refl
fell_b false s h t = refl

fell_up_b : (p : Bool) (s : DeviceStore) → (fell p s A).b.up ≡ s.b.up
fell_up_b true s = refl
fell_up_b false s = refl

fell_paired : (p : Bool) (s : DeviceStore) (side : Side) → (fell p s side).paired ≡ s.paired
fell_paired true s A = refl
fell_paired true s B = refl
fell_paired false s side = refl

off_if : (p b : Bool) → p ≡ true → (if p then false else b) ≡ false
off_if true b e = refl
off_if false b e = absurd (cc)

same_paired : (s : DeviceStore) (h : Held) (z : DeviceStore) (k : Held) → base_of z k ≡ base_of s h → z.paired ≡ s.paired
unfolding C.base_of
same_paired s h z k e = ap (λ (b : C.Base). b.paired) e

module _ (u : List Track) (s : DeviceStore) (h : Held) (t : ℕ) (r : List ℕ) where
  abbrev x : TrackContents
  x = contents_at s h t

  -- while it is written
  pub record Mid (v w : List Track) (z : DeviceStore) (k : Held) : Type 0 where
    pub but : RightBut (Some t) v w z k
    pub told : AllTold z k
    pub plain : v ≡ u
    pub stays : Stays s z
    pub paired : z.paired ≡ s.paired
    pub sided : Sided x (contents_at z k t)

  -- side B has what it had, and side A may have anything
  pub record BAsBefore (y : TrackContents) : Type 0 where
    pub b : y.b ≡ true → (x.b ≡ true) × (y.on_b ≡ x.on_b)

  -- each level side has what was written
  pub record Written (v w : List Track) (z : DeviceStore) (k : Held) : Type 0 where
    pub mid : Mid v w z k
    pub a : (contents_at z k t).a ≡ true → (contents_at z k t).on_a ≡ r
    pub b : (contents_at z k t).b ≡ true → (contents_at z k t).on_b ≡ r

  pub record First (v w : List Track) (z : DeviceStore) (a b : Wrote) (k : Held) : Type 0 where
    pub took : a.took ≡ b.took
    pub fault : a.fault ≡ b.fault
    pub plain : v ≡ u
    pub stays : Stays s z
    pub done : is_taken a.took ≡ true → Written v w z k
    pub undone : is_taken a.took ≡ false → Ordered v w z k

  module _ (lt : t < tracks_of s) (firm : is_loose s t ≡ false) (alone : s.paired ≡ false → s.b.up ≡ false) where
    below : (z : DeviceStore) → Stays s z → t < tracks_of z
    below z e = let same = e.cylinders in omega arith

    firm_is : x.loose ≡ false
    unfolding T.contents_at
    firm_is = firm

    -- Steps

    mid_counted : (v w : List Track) (z : DeviceStore) (k : Held) (ok : Bool) → Mid v w z k → Mid v w (write_counted z ok) k
    unfolding T.contents_at C.base_of
    mid_counted v w z k ok m = record {
      but = beside_right m.but;
      told = m.told;
      plain = m.plain;
      stays = record { geometry = m.stays.geometry; cylinders = m.stays.cylinders; half = m.stays.half };
      paired = m.paired;
      sided = m.sided;
    }

    mid_altered : (v w : List Track) (z : DeviceStore) (k : Held) (y : DeviceStore) (n : Held) (c : TrackContents) → Mid v w z k → Altered z k y n t c →
        Sided (contents_at z k t) c → c.debt ≡ (contents_at z k t).debt → n.slots ≡ k.slots → Mid v w y n
    mid_altered v w z k y n c m e sided debt slots = record {
      but = similar_right m.but e (below z m.stays) (record { loose = sided.loose; patch = sided.patch; freed = sided.freed }) slots
          (λ ne. absurd (ne refl));
      told = told_altered z k y n t c m.told e debt;
      plain = m.plain;
      stays = stays_on s z y m.stays (stays_by z k y n e.base);
      paired = same_paired z k y n e.base ∙ m.paired;
      sided = subst (Sided x) (sym e.here) (sided_on x (contents_at z k t) c m.sided sided);
    }

    counted_level : (z : DeviceStore) (k : Held) (ok : Bool) → (contents_at z k t).a ≡ (contents_at (write_counted z ok) k t).a
    unfolding T.contents_at
    counted_level z k ok = refl

    mid_failed : (v w : List Track) (z : DeviceStore) (k : Held) (side : Side) (v' w' : List Track) (y : DeviceStore) (n : Held) → Mid v w z k →
        Sided (contents_at z k t) (contents_at (fell z.paired z side) k t) → Failed (Some t) k v (fell z.paired z side) v' w' y n → Mid v' w' y n
    mid_failed v w z k side v' w' y n m sided f = record {
      but = f.but;
      told = f.told;
      plain = f.plain ∙ m.plain;
      stays = stays_on s z y m.stays (stays_on z (fell z.paired z side) y (stays_fell z.paired z side) (stays_by (fell z.paired z side) k y n f.base));
      paired = same_paired (fell z.paired z side) k y n f.base ∙ fell_paired z.paired z side ∙ m.paired;
      sided = subst (Sided x) (sym (f.own t refl)) (sided_on x (contents_at z k t) (contents_at (fell z.paired z side) k t) m.sided sided);
    }

    sided_a : (z : DeviceStore) (k : Held) → Sided (contents_at z k t) (contents_at (fell z.paired z A) k t)
    sided_a z k = rw (fell_a z.paired z k t) (record { frame = refl; patch = refl; lost = refl; loose = refl; freed = refl })

    sided_b : (z : DeviceStore) (k : Held) → Sided (contents_at z k t) (contents_at (fell z.paired z B) k t)
    sided_b z k = rw (fell_b z.paired z k t) (record { frame = refl; patch = refl; lost = refl; loose = refl; freed = refl })

    on_b : (v w : List Track) (z : DeviceStore) (k : Held) (m : Mid v w z k) (bytes : List ℕ) → z.b.up ≡ true →
        Altered z k z (with_held k B t bytes) t (record (contents_at z k t) { on_b = bytes })
    on_b v w z k m bytes up = altered_on_b z k t (below z m.stays) m.but.ground.sizes bytes (m.but.ground.long B up)

    mid_on_b : (v w : List Track) (z : DeviceStore) (k : Held) (m : Mid v w z k) (bytes : List ℕ) → z.b.up ≡ true → Mid v w z (with_held k B t bytes)
    mid_on_b v w z k m bytes up =
        mid_altered v w z k z (with_held k B t bytes) (record (contents_at z k t) { on_b = bytes }) m (on_b v w z k m bytes up)
        (record { frame = refl; patch = refl; lost = refl; loose = refl; freed = refl }) refl refl

    b_took : (v w : List Track) (z : DeviceStore) (k : Held) → Mid v w z k → z.b.up ≡ true → ((contents_at z k t).a ≡ true → (contents_at z k t).on_a ≡ r) →
        Written v w (taken_b z t) (with_held k B t r)
    b_took v w z k m up a =
        let n = with_held k B t r in
        let e = on_b v w z k m r up in
        let i = mid_on_b v w z k m r up in
        let g = altered_stale_b z n t (below z m.stays) i.but.ground.sizes false in
        let y = with_stale z B t false in
        let c = record (contents_at z n t) { b = z.b.up && not false } in
        record {
          mid = mid_altered v w z n y n c i g (record { frame = refl; patch = refl; lost = refl; loose = refl; freed = refl }) refl refl;
          a = λ l. ap (λ (d : TrackContents). d.on_a) g.here ∙ ap (λ (d : TrackContents). d.on_a) e.here
              ∙ a (sym (ap (λ (d : TrackContents). d.a) g.here ∙ ap (λ (d : TrackContents). d.a) e.here) ∙ l);
          b = λ l. ap (λ (d : TrackContents). d.on_b) g.here ∙ ap (λ (d : TrackContents). d.on_b) e.here;
        }

    on_a : (w : List Track) (z : DeviceStore) (m : Mid u w z h) (bytes : List ℕ) → z.a.up ≡ true →
        Altered z h z (with_held h A t bytes) t (record (contents_at z h t) { on_a = bytes })
    on_a w z m bytes up = altered_on_a z h t (below z m.stays) m.but.ground.sizes bytes (m.but.ground.long A up)

    mid_on_a : (w : List Track) (z : DeviceStore) (m : Mid u w z h) (bytes : List ℕ) → z.a.up ≡ true → Mid u w z (with_held h A t bytes)
    mid_on_a w z m bytes up =
        mid_altered u w z h z (with_held h A t bytes) (record (contents_at z h t) { on_a = bytes }) m (on_a w z m bytes up)
        (record { frame = refl; patch = refl; lost = refl; loose = refl; freed = refl }) refl refl

    up_of_b : (z : DeviceStore) (k : Held) → (contents_at z k t).b ≡ true → z.b.up ≡ true
    unfolding T.contents_at
    up_of_b z k e = and_left z.b.up _ e

    a_took : (w : List Track) (z : DeviceStore) (m : Mid u w z h) → z.a.up ≡ true →
        Pair (λ v' w' y. Written v' w' y (with_held h A t r)) (taken_a z t) (taken_a (marks_of u w z) t)
    a_took w z m up = by_case z.b.up refl
      where
        n : Held
        n = with_held h A t r

        e : Altered z h z (with_held h A t r) t (record (contents_at z h t) { on_a = r })
        e = on_a w z m r up

        i : Mid u w z (with_held h A t r)
        i = mid_on_a w z m r up

        y : DeviceStore
        y = with_stale z A t false

        g : Altered z (with_held h A t r) (with_stale z A t false) (with_held h A t r) t (record (contents_at z
            (with_held h A t r) t) { a = z.a.up && not false })
        g = altered_stale_a z (with_held h A t r) t (below z m.stays) i.but.ground.sizes false

        j : Mid u w (with_stale z A t false) (with_held h A t r)
        j = mid_altered u w z (with_held h A t r) (with_stale z A t false) (with_held h A t r) (record (contents_at z
            (with_held h A t r) t) { a = z.a.up && not false }) i g
            (record { frame = refl; patch = refl; lost = refl; loose = refl; freed = refl }) refl refl

        bytes_is : (contents_at (with_stale z A t false) (with_held h A t r) t).on_a ≡ r
        bytes_is = ap (λ (d : TrackContents). d.on_a) g.here ∙ ap (λ (d : TrackContents). d.on_a) e.here

        b_off : (b : Bool) → (b && not true) ≡ true → ⊥
        b_off b l = not_both (b && not true) (and_not_true b) l

        by_case : (p : Bool) → z.b.up ≡ p → Pair (λ v' w' y. Written v' w' y (with_held h A t r))
            (if p then with_stale (with_stale z A t false) B t true else with_stale z A t false)
            (if p then with_stale (with_stale (marks_of u w z) A t false) B t true else with_stale (marks_of u w z) A t false)
        by_case true q =
            let f = altered_stale_b (with_stale z A t false) (with_held h A t r) t (below (with_stale z A t false) j.stays) j.but.ground.sizes true in
            pair_is (record {
              mid = mid_altered u w (with_stale z A t false) (with_held h A t r) (with_stale (with_stale z A t false) B t true) (with_held h A t r)
                  (record (contents_at (with_stale z A t false) (with_held h A t r) t) { b = z.b.up && not true }) j f
                  (record { frame = refl; patch = refl; lost = refl; loose = refl; freed = refl }) refl refl;
              a = λ l. ap (λ (d : TrackContents). d.on_a) f.here ∙ bytes_is;
              b = λ l. absurd (b_off z.b.up (sym (ap (λ (d : TrackContents). d.b) f.here) ∙ l));
            })
        by_case false q =
            pair_is (record {
              mid = j;
              a = λ l. bytes_is;
              b = λ l. absurd (not_both z.b.up q (up_of_b (with_stale z A t false) (with_held h A t r) l));
            })

    pair_there : s.b.up ≡ true → s.paired ≡ true
    pair_there up = by_case s.paired refl
      where
        by_case : (p : Bool) → s.paired ≡ p → p ≡ true
        by_case true e = refl
        by_case false e = absurd (let f = alone e in cc)

    counted_is : (z : DeviceStore) (ok : Bool) → contents_at (write_counted z ok) h t ≡ contents_at z h t
    unfolding T.contents_at
    counted_is z ok = refl

    a_down : s.a.up ≡ false → x.a ≡ false
    unfolding T.contents_at
    a_down e = rw e refl

    -- The second part, where each level side has what is written

    second_failed : (v w : List Track) (z : DeviceStore) (k : Held) → Written v w z k → z.b.up ≡ true → z.paired ≡ true → (bytes : List ℕ) →
        Twins (λ v' w' y _ _ n. Written v' w' y n) (tried_b contents t z false) (tried_b by_plain t (marks_of v w z) false) (with_held k B t bytes)
    second_failed v w z k d up paired bytes =
        let n = with_held k B t bytes in
        let e = on_b v w z k d.mid bytes up in
        let i = mid_on_b v w z k d.mid bytes up in
        twin_weaker (failed_twin (Some t) n v w z B i.but i.told)
        (λ v' w' y _ _ l f.
        let own_is = f.own t refl ∙ fell_b z.paired z n t in
        record {
          mid = mid_failed v w z n B v' w' y l i (sided_b z n) f;
          a = λ q. ap (λ (c : TrackContents). c.on_a) own_is ∙ ap (λ (c : TrackContents). c.on_a) e.here
              ∙ d.a (sym (ap (λ (c : TrackContents). c.a) own_is ∙ ap (λ (c : TrackContents). c.a) e.here) ∙ q);
          b = λ q. absurd (not_both (contents_at y l t).b (ap (λ (c : TrackContents). c.b) own_is ∙ off_if z.paired (contents_at z n t).b paired) q);
        })

    counted_written : (v w : List Track) (z : DeviceStore) (k : Held) (ok : Bool) → Written v w z k → Written v w (write_counted z ok) k
    unfolding T.contents_at
    counted_written v w z k ok d = record { mid = mid_counted v w z k ok d.mid; a = d.a; b = d.b }

    pub second_twin : (v w : List Track) (z : DeviceStore) (k : Held) → Written v w z k → (z.paired ≡ false → z.b.up ≡ false) →
        Twins (λ v' w' y _ _ n. Written v' w' y n) (write_second contents z t r) (write_second by_plain (marks_of v w z) t true) k
    unfolding W.write_second
    second_twin v w z k d single =
        on_test (takes_b z)
        (λ takes.
        let up = and_left z.b.up _ takes in
        let i = counted_written v w z k true d in
        both_write
        (twin_done (b_took v w (write_counted z true) k i.mid up i.a))
        (λ bytes. second_failed v w (write_counted z false) k (counted_written v w z k false d) up (by_paired z.paired refl up) bytes))
        (λ none. twin_done d)
      where
        by_paired : (p : Bool) → z.paired ≡ p → z.b.up ≡ true → p ≡ true
        by_paired true e up = refl
        by_paired false e up = absurd (not_both z.b.up (single e) up)

    module _ (off : half_is s.half t ≡ false) (own : Keeps s.geometry t x (image_in s u t) (image_in s u t)) where
      -- it is right once more, by what its sides have
      pub right_mid : (v w : List Track) (z : DeviceStore) (k : Held) (y : DeviceStore) (c : TrackContents) → Mid v w z k →
          RightBut (Some t) v w y k → Stays s y →
          c ≡ contents_at y k t → c.loose ≡ false → Keeps s.geometry t c (image_in s u t) (image_in s u t) → Sure v w y k
      right_mid v w z k y c m but stays is loose keeps =
          shut t v w y k but
          (right_keeps y.geometry t y.half (contents_at y k t) (image_in y v t) (image_in y w t) (stays_off s y t stays off)
          (rw (← is) (moved y.geometry stays.geometry (image_in y v t) (image_in y w t) plain_is firm_same)))
        where
          plain_is : image_in y v t ≡ image_in s u t
          plain_is = stays_image s y v t stays ∙ ap (λ (l : List Track). image_in s l t) m.plain

          firm_same : image_in y w t ≡ image_in s u t
          firm_same =
              ap (λ (l : Track). record { geometry = y.geometry; track = l })
              (but.ground.same t (below y stays) (loose_is y k t ∙ ap (λ (d : TrackContents). d.loose) (sym is) ∙ loose)) ∙ plain_is

          moved : (g : Geometry) → g ≡ s.geometry → (p q : Image) → p ≡ image_in s u t → q ≡ image_in s u t → Keeps g t c p q
          moved g e p q f i =
              rw e
              (subst (λ (l : Image). Keeps s.geometry t c l q) (sym f) (subst (λ (l : Image). Keeps s.geometry t c (image_in s u t) l) (sym i) keeps))

      -- no side took it: a track as before, but for side A
      pub keeps_less : (c : TrackContents) → Sided x c → c.a ≡ false → BAsBefore c → Keeps s.geometry t c (image_in s u t) (image_in s u t)
      keeps_less c sided gone b =
          keeps_fewer s.geometry t x c (image_in s u t) (image_in s u t)
          (record {
            lost = λ l. sided.lost ∙ l;
            frame = λ i k f l. k f (sym sided.frame ∙ l);
            patch = sided.patch;
            a = λ l. absurd (not_both c.a gone l);
            b = b.b;
          }) own

      abbrev pub Undone : List Track → List Track → DeviceStore → Held → Type 0
      Undone v w y k = (Ordered v w y k) × ((v ≡ u) × (Stays s y))

      pub settled_end : (v w : List Track) (z : DeviceStore) (k : Held) → Sure v w z k → AllTold z k → v ≡ u → Stays s z → is_loose z t ≡ false →
          Pair (λ v' w' y. Undone v' w' y k) (settled contents z t) (settled by_plain (marks_of v w z) t)
      settled_end v w z k sure told plain stays loose =
          pair_weaker
          (settled_pair None k v w z t (below z stays) sure (told_debts None z k told) (λ e. absurd (cc)))
          (λ v' w' e. (
            record { sure = e.but; told = settled_told None k v w z t (below z stays) sure (told_debts None z k told) (λ e. absurd (cc)) told loose },
            (e.plain ∙ plain, stays_on s z (settled contents z t) stays (stays_by z k (settled contents z t) k e.base)),
          ))

      unwritten_end : (v w : List Track) (z : DeviceStore) (k : Held) → Mid v w z k → (z.paired ≡ true → (contents_at z k t).a ≡ false) →
          BAsBefore (contents_at z k t) → Pair (λ v' w' y. Undone v' w' y k) (unwritten contents z t) (unwritten by_plain (marks_of v w z) t)
      unwritten_end v w z k m gone b = by_paired z.paired gone
        where
          c : TrackContents
          c = record (contents_at z k t) { a = z.a.up && not true }

          e : Altered z k (with_stale z A t true) k t (record (contents_at z k t) { a = z.a.up && not true })
          e = altered_stale_a z k t (below z m.stays) m.but.ground.sizes true

          loose_now : (contents_at z k t).loose ≡ false
          loose_now = m.sided.loose ∙ firm_is

          by_paired : (p : Bool) → (p ≡ true → (contents_at z k t).a ≡ false) → Pair (λ v' w' y. Undone v' w' y k)
              (settled contents (if p then z else with_stale z A t true) t) (settled by_plain (if p then marks_of v w z else with_stale
              (marks_of v w z) A t true) t)
          by_paired true gone =
              settled_end v w z k
              (right_mid v w z k z (contents_at z k t) m m.but m.stays refl loose_now (keeps_less (contents_at z k t) m.sided (gone refl) b))
              m.told m.plain m.stays (loose_is z k t ∙ loose_now)
          by_paired false gone =
              let i = mid_altered v w z k (with_stale z A t true) k (record (contents_at z k t) { a = z.a.up && not true }) m e
              (record { frame = refl; patch = refl; lost = refl; loose = refl; freed = refl }) refl refl in
              let d = record (contents_at z k t) { a = z.a.up && not true } in
              settled_end v w (with_stale z A t true) k
              (right_mid v w (with_stale z A t true) k (with_stale z A t true) d i i.but i.stays (sym e.here) loose_now
              (keeps_less d (sided_on x (contents_at z k t) d m.sided (record { frame = refl; patch = refl; lost = refl; loose = refl; freed = refl }))
              (and_not_true z.a.up) (record { b = b.b })))
              i.told i.plain i.stays (loose_is (with_stale z A t true) k t ∙ ap (λ (y : TrackContents). y.loose) e.here ∙ loose_now)

      abbrev pub Firsts : List Track → List Track → DeviceStore → Wrote → Wrote → Held → Type 0
      Firsts v w z a b k = First v w z a b k

      unwritten_twin : (v w : List Track) (z : DeviceStore) (k : Held) (fault : Option Side) → Mid v w z k → (z.paired ≡ true →
          (contents_at z k t).a ≡ false) →
          BAsBefore (contents_at z k t) →
          Twins Firsts (Done (unwritten contents z t) (wrote Unwritten fault)) (Done (unwritten by_plain (marks_of v w z) t) (wrote Unwritten fault)) k
      unwritten_twin v w z k fault m gone b =
          let e = unwritten_end v w z k m gone b in
          twin_ends e.marks (record {
            took = refl;
            fault = refl;
            plain = e.is.1.0;
            stays = e.is.1.1;
            done = λ l. absurd (cc);
            undone = λ l. e.is.0;
          })

      b_failed : (v w : List Track) (z : DeviceStore) (k : Held) (fault : Option Side) (first : Side) → Mid v w z k → z.b.up ≡ true → s.paired ≡ true →
          (contents_at z k t).a ≡ false → (bytes : List ℕ) →
          Twins Firsts (alone_b contents t fault first z false) (alone_b by_plain t fault first (marks_of v w z) false) (with_held k B t bytes)
      b_failed v w z k fault first m up paired gone bytes =
          let n = with_held k B t bytes in
          let e = on_b v w z k m bytes up in
          let i = mid_on_b v w z k m bytes up in
          twin_then _ _ (failed_twin (Some t) n v w z B i.but i.told)
          (λ v' w' y _ _ l f.
          let j = mid_failed v w z n B v' w' y l i (sided_b z n) f in
          let own_is = f.own t refl ∙ fell_b z.paired z n t in
          unwritten_twin v' w' y l (Some first) j
          (λ p. ap (λ (d : TrackContents). d.a) own_is ∙ ap (λ (d : TrackContents). d.a) e.here ∙ gone)
          (record {
            b = λ q. absurd (not_both (contents_at y l t).b (ap (λ (d : TrackContents). d.b) own_is
                ∙ off_if z.paired (contents_at z n t).b (m.paired ∙ paired)) q);
          }))

      b_alone : (v w : List Track) (z : DeviceStore) (k : Held) (fault : Option Side) (first : Side) → Mid v w z k → z.b.up ≡ true → s.paired ≡ true →
          (contents_at z k t).a ≡ false →
          Twins Firsts (write_side contents z B t r (alone_b contents t fault first)) (write_side by_plain (marks_of v w z) B t true
          (alone_b by_plain t fault first)) k
      b_alone v w z k fault first m up paired gone =
          let i = mid_counted v w z k true m in
          let d = b_took v w (write_counted z true) k i up (λ l. absurd (not_both (contents_at z k t).a gone (counted_a z k true ∙ l))) in
          both_write
          (twin_done (record { took = refl; fault = refl; plain = d.mid.plain; stays = d.mid.stays; done = λ l. d; undone = λ l. absurd (cc) }))
          (λ bytes. b_failed v w (write_counted z false) k fault first (mid_counted v w z k false m) up paired (sym (counted_a z k false) ∙ gone) bytes)
        where
          counted_a : (z : DeviceStore) (k : Held) (ok : Bool) → (contents_at z k t).a ≡ (contents_at (write_counted z ok) k t).a
          counted_a z k ok = counted_level z k ok

      -- a failed write of side A
      a_failed : (w : List Track) (z : DeviceStore) → Mid u w z h → z.a.up ≡ true → z.b.up ≡ s.b.up → (contents_at z h t) ≡ x → (bytes : List ℕ) →
          Twins Firsts (first_a contents t r z false) (first_a by_plain t true (marks_of u w z) false) (with_held h A t bytes)
      a_failed w z m up same_b is bytes =
          let n = with_held h A t bytes in
          let e = on_a w z m bytes up in
          let i = mid_on_a w z m bytes up in
          twin_then _ _ (failed_twin (Some t) n u w z A i.but i.told)
          (λ v' w' y _ _ l f.
          let j = mid_failed u w z n A v' w' y l i (sided_a z n) f in
          let own_is = f.own t refl ∙ fell_a z.paired z n t in
          let b_is : (contents_at y l t).b ≡ x.b = ap (λ (d : TrackContents). d.b) own_is ∙ ap (λ (d : TrackContents). d.b) e.here
          ∙ ap (λ (d : TrackContents). d.b) is in
          let on_is : (contents_at y l t).on_b ≡ x.on_b = ap (λ (d : TrackContents). d.on_b) own_is ∙ ap (λ (d : TrackContents). d.on_b) e.here
          ∙ ap (λ (d : TrackContents). d.on_b) is in
          let gone : s.paired ≡ true → (contents_at y l t).a ≡ false =
          λ p. ap (λ (d : TrackContents). d.a) own_is ∙ off_if z.paired (contents_at z n t).a (m.paired ∙ p) in
          on_test (takes_b z)
          (λ takes.
          let b_up : s.b.up ≡ true = sym same_b ∙ and_left z.b.up _ takes in
          b_alone v' w' y l (Some A) A j (same_up_b (fell z.paired z A) n y l f.base ∙ fell_up_b z.paired z ∙ same_b
          ∙ b_up) (pair_there b_up) (gone (pair_there b_up)))
          (λ none. unwritten_twin v' w' y l (Some A) j (λ p. gone (sym j.paired ∙ p)) (record { b = λ q. (sym b_is ∙ q, on_is) })))

      a_alone : (w : List Track) → Mid u w s h → s.a.up ≡ true →
          Twins Firsts (write_side contents s A t r (first_a contents t r)) (write_side by_plain (marks_of u w s) A t true (first_a by_plain t true)) h
      a_alone w m up =
          let i = mid_counted u w s h true m in
          let d = a_took w (write_counted s true) i up in
          both_write
          (twin_ends d.marks (record {
            took = refl;
            fault = refl;
            plain = d.is.mid.plain;
            stays = d.is.mid.stays;
            done = λ l. d.is;
            undone = λ l.
                absurd (untaken (takes_b s) l);
          }))
          (λ bytes. a_failed w (write_counted s false) (mid_counted u w s h false m) up refl (counted_is s false) bytes)
        where
          untaken : (b : Bool) → is_taken (if b then Opened else Whole) ≡ false → ⊥
          untaken true e = absurd (cc)
          untaken false e = absurd (cc)

      pub first_twin : (w : List Track) → Ordered u w s h →
          Twins Firsts (write_first contents s t r) (write_first by_plain (marks_of u w s) t true) h
      unfolding W.write_first
      first_twin w o =
          let m : Mid u w s h = record {
            but = opens_write t u w s h o.sure;
            told = o.told;
            plain = refl;
            stays = stays_same s;
            paired = refl;
            sided = sided_same x;
          } in
          on_test s.a.up
          (λ up. a_alone w m up)
          (λ down. on_test (takes_b s)
          (λ takes. let up = and_left s.b.up _ takes in b_alone u w s h None B m up (pair_there up) (a_down down))
          (λ none. let e = settled_end u w s h o.sure o.told refl (stays_same s) firm in
          twin_ends e.marks (record { took = refl; fault = refl; plain = e.is.1.0; stays = e.is.1.1; done = λ l. absurd (cc); undone = λ l. e.is.0 })))
