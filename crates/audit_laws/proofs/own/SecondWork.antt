-- The second part of a write leaves less to do.
use Rattle.std.proofs.Common.{◌≡◌, ◌≢◌, ◌<◌, ◌≤◌, ◌+◌, ◌⊎◌, ◌==◌, ℕ, zero, suc, Bool, true, false, Option, Some, None, is_some, length, refl, sym, ap, subst, ◌∙◌, arith, inl, inr}
use Rattle.std.proofs.lemmas.Bool.{cases_eq, and_right, and_left, and_parts}
use Rattle.std.specs.Prelude.{◌&&◌, ◌||◌, if◌then◌else◌, not}
use Rattle.ckd_types.specs.declared.paths.Side.TheVariants.{B}
use Rattle.track_image.specs.Image.{Image}
use Rattle.device_outside.specs.Interaction.{Done}
use Rattle.device_defs.specs.Contents.{by_plain}
use Rattle.device_defs.specs.Losses as L
use Rattle.device_defs.specs.Losses.{all_firm_told, down, over, settled, settled_but, side_lost, slot_in}
use Rattle.device_defs.specs.Marks.{MarksStore}
use Rattle.device_defs.specs.Second as D
use Rattle.device_defs.specs.Second.{half_closed, cut_kept, finished, left_by, second_by, second_part}
use Rattle.device_defs.specs.Store as store
use Rattle.device_defs.specs.Store.{Origin, OfBackground, OfCommand, OfCut, frame_at, half_is, has_level, is_lost, is_loose, owed_at, patch_at, stale_at, takes_b, tracks_of, with_frame, with_stale}
use Rattle.device_defs.specs.Writing as W
use Rattle.device_defs.specs.Writing.{slot_freed, tried_b, write_done, write_second}
use Rattle.device_laws.proofs.Had.{Had, had_done, had_if, had_tell, had_then, had_weaker, had_write}
use Rattle.audit_laws.proofs.own.Weights.{Spot, copies, one, sides, spot_at, weight, weight_at, whole_weight, works}
use Rattle.std.proofs.lemmas.Bool.{eqb-false}
use Rattle.audit_laws.proofs.own.Lighter.{Written, written_by, write_is_done, only_copies, Lower, as_least, half_off, half_on, lower_all, near_bare, near_frame, near_on, near_self, near_stale_b, none_open, not_own, own_is, same_weight, whole_at, near_by}
use Rattle.audit_laws.proofs.own.SecondLighter.{IsSafe, Made, made_least, settled_so}
use Rattle.device_laws.proofs.Unlost.{clear}

-- All tracks but that of the write

record Falls (s z : MarksStore) : Type 0 where
  cylinders : z.cylinders ≡ s.cylinders
  queue : z.queue ≡ s.queue
  half : z.half ≡ s.half
  a : z.a ≡ s.a
  b : z.b ≡ s.b
  held : z.held ≡ s.held

falls_on : (s z y : MarksStore) → Falls s z → Falls z y → Falls s y
falls_on s z y f g = search arith

falls_self : (s : MarksStore) → Falls s s
falls_self s = record { cylinders = refl; queue = refl; half = refl; a = refl; b = refl; held = refl }

module _ (t : ℕ) where
  -- the tracks before this one are settled, all but that of the write
  record OverSo (k : ℕ) (w z : MarksStore) : Type 0 where
    falls : Falls w z
    own : spot_at z t ≡ spot_at w t
    made : (q : ℕ) → Made (spot_at w q) (spot_at z q)
    later : (q : ℕ) → k ≤ q → spot_at z q ≡ spot_at w q

  written_falls : (s z : MarksStore) (k : ℕ) → Written s z k → Falls s z
  written_falls s z k r = search arith

  one_over : (k : ℕ) (w z : MarksStore) → OverSo k w z → (b : Bool) → (k == t) ≡ b → OverSo (suc k) w (if b then z else settled by_plain z k)
  one_over k w z o true is = record { falls = o.falls; own = o.own; made = o.made; later = λ q le. o.later q (omega (arith, le)) }
  one_over k w z o false is =
      let y = settled by_plain z k in
      let r = settled_so z k in
      record {
        falls = falls_on w z y o.falls (written_falls z y k r.0);
        own = r.0.near.others t (λ e. eqb-false k t is (sym e)) ∙ o.own;
        made = λ q. at_place q (cases_eq q k);
        later = λ q le. r.0.near.others q (λ e. absurd (omega (arith, le, e))) ∙ o.later q (omega (arith, le));
      }
    where
      at_place : (q : ℕ) → ((q ≡ k) ⊎ (q ≢ k)) → Made (spot_at w q) (spot_at (settled by_plain z k) q)
      at_place q (inl e) =
          subst (λ (i : ℕ). Made (spot_at w i) (spot_at (settled by_plain z k) i)) (sym e)
          (subst (λ (p : Spot). Made p (spot_at (settled by_plain z k) k)) (o.later k (omega arith)) (settled_so z k).1)
      at_place q (inr ne) = subst (λ (p : Spot). Made (spot_at w q) p) (sym ((settled_so z k).0.near.others q ne)) (o.made q)

  over_so : (k : ℕ) (w : MarksStore) → OverSo k w (over k (settled_but by_plain (Some t)) w)
  unfolding L.over
  over_so zero w = record { falls = falls_self w; own = refl; made = λ q. inl refl; later = λ q le. refl }
  over_so (suc k) w = one_over k w (over k (settled_but by_plain (Some t)) w) (over_so k w) (k == t) refl

-- The second part of a write

record Second (s z : MarksStore) (t : ℕ) : Type 0 where
  cylinders : z.cylinders ≡ s.cylinders
  queue : z.queue ≡ s.queue
  half : z.half ≡ s.half
  a : z.a ≡ s.a
  shut : (takes_b z && stale_at z.b t) ≡ false
  loose : is_loose z t ≡ is_loose s t
  others : (q : ℕ) → q < tracks_of s → q ≢ t → weight_at z q ≤ weight_at s q

told_falls : (k : ℕ) (s : MarksStore) → Had (all_firm_told by_plain k s) (λ z (_ : Unit {0}). Falls s z × ((q : ℕ) → spot_at z q ≡ spot_at s q))
unfolding L.all_firm_told
told_falls zero s = had_done (falls_self s, λ q. refl)
told_falls (suc k) s =
    had_then (told_falls k s)
    (λ z _ g. had_if (owed_at z k).firm
    (λ _. had_tell (had_done (record { cylinders = g.0.cylinders; queue = g.0.queue; half = g.0.half; a = g.0.a; b = g.0.b; held = g.0.held }, λ q. g.1 q)))
    (λ _. had_done g))

module _ (s : MarksStore) (t : ℕ) (paired : s.paired ≡ true) (whole : (q : ℕ) → q ≢ t → half_is s.half q ≡ false)
    (safe : (q : ℕ) → q < tracks_of s → q ≢ t → IsSafe (spot_at s q)) where
  failed_so : (n : ℕ) → takes_b s ≡ true → (b : Bool) → b ≡ true →
      Had (if b then all_firm_told by_plain n (side_lost by_plain s B (Some t)) else Done s (tt {0})) (λ z (_ : Unit {0}). Second s z t)
  unfolding L.side_lost
  failed_so n is false e = absurd (cc)
  failed_so n is true e =
      let fallen = over (tracks_of s) (settled_but by_plain (Some t)) (down s B) in
      let o = over_so t (tracks_of s) (down s B) in
      let up = (and_parts s.b.up (not s.held) is).0 in
      had_weaker (told_falls n fallen) (λ z _ g. let f = falls_on (down s B) fallen z o.falls g.0 in record {
        cylinders = f.cylinders;
        queue = f.queue;
        half = f.half;
        a = f.a;
        shut = and_left (takes_b z) (stale_at z.b t) (and_left z.b.up (not z.held) (ap (λ (m : store.SideMarks). m.up) f.b));
        loose = ap (λ (p : Spot). p.loose) (g.1 t ∙ o.own);
        others = λ q lt ne. omega (arith, ap weight (g.1 q), made_least (spot_at s q) (spot_at fallen q) (whole q ne) up (safe q lt ne) (o.made q));
      })

-- the counts of calls count for nothing here
again : (s : MarksStore) (t : ℕ) (z : MarksStore) → Second (W.write_counted s false) z t → Second s z t
again s t z k = search arith

module _ (s : MarksStore) (t : ℕ) (paired : s.paired ≡ true) (whole : (q : ℕ) → q ≢ t → half_is s.half q ≡ false)
    (safe : (q : ℕ) → q < tracks_of s → q ≢ t → IsSafe (spot_at s q)) where
  tried_so : takes_b s ≡ true → (ok : Bool) → Had (tried_b by_plain t (W.write_counted s ok) ok) (λ z (_ : Unit {0}). Second s z t)
  tried_so is true =
      let others = λ (q : ℕ) (lt : q < tracks_of s) (ne : q ≢ t). same_weight s (with_stale s B t false) q ((near_stale_b s t false).others q ne) in
      let shut = and_right (takes_b s) (stale_at (with_stale s B t false).b t) (clear s.b.stale t) in
      had_done (record { cylinders = refl; queue = refl; half = refl; a = refl; shut = shut; loose = refl; others = others })
  tried_so is false = had_weaker (failed_so (W.write_counted s false) t paired whole safe (tracks_of s) is s.paired paired) (λ z _ k. again s t z k)

  second_so : (r : Bool) → Had (write_second by_plain s t r) (λ z (_ : Unit {0}). Second s z t)
  unfolding W.write_second
  second_so r = had_if (takes_b s) (λ is. had_write (λ ok. tried_so is ok)) (λ off. had_done (search (arith, and_left, as_least, weight_at)))

-- The write is done, or no side has it

-- at most what a stale side A leaves to copy
done_copies : (a stale c k d e : Bool) → (k && d) ≡ false → one ((a && stale && c) || (k && d && e)) ≤ one (a && stale)
done_copies a stale c k d e shut = grind arith

if_least : (b : Bool) (n : ℕ) → (if b then n else 0) ≤ n
if_least b n = grind arith

absent_sides : (a stale b held b_stale : Bool) → ((b && not held) && b_stale) ≡ false → ((a && not stale) || (b && not b_stale)) ≡ false →
    one a + one (b && not held) + one ((a && stale && (b && not b_stale)) || ((b && not held) && b_stale && (a && not stale))) ≤ one (a && stale)
absent_sides a stale b held b_stale shut off = grind arith

copies_same : (y v : MarksStore) (t : ℕ) → v.a ≡ y.a → v.b ≡ y.b → v.held ≡ y.held →
    sides (spot_at v t) + one (copies (spot_at v t)) ≡ sides (spot_at y t) + one (copies (spot_at y t))
copies_same y v t a b held = grind arith

written_self : (s : MarksStore) (t : ℕ) → Written s s t
written_self s t = written_by refl refl refl (λ q ne. refl)

written_on : (s z y : MarksStore) (t : ℕ) → Written s z t → Written z y t → Written s y t
written_on s z y t f g = record { near = near_on s z y t f.near g.near; a = g.a ∙ f.a; b = g.b ∙ f.b }

pub given_up : (s : MarksStore) (t : ℕ) (o : Option (Unit {0})) → Written s (L.gives_up s t (slot_in by_plain o)) t
given_up s t None = written_self s t
given_up s t (Some p) = written_by refl refl refl (near_bare s t).others

kept_written : (s : MarksStore) (t : ℕ) (i : Image) (o : Option Bool) → Written s (cut_kept by_plain s t i o) t
kept_written s t i None = written_self s t
kept_written s t i (Some m) = let z = with_frame s t (Some m) in written_on s z _ t (search (arith, near_frame)) (given_up z t (patch_at z t))

pub left_written : (s : MarksStore) (t : ℕ) (i : Image) (origin : Origin) → Written s (left_by by_plain s t i origin) t
left_written s t i origin = search (arith, kept_written, near_self)

module _ (s : MarksStore) (h : store.HalfWrite (Unit {0})) (is : s.half ≡ Some h) where
  mine : half_is s.half h.track ≡ true
  mine = ap (λ (o : Option (store.HalfWrite (Unit {0}))). half_is o h.track) is ∙ own_is h.track

  others_off : (q : ℕ) → q ≢ h.track → half_is s.half q ≡ false
  others_off q ne = ap (λ (o : Option (store.HalfWrite (Unit {0}))). half_is o q) is ∙ not_own h.track q ne

  closing_lower : (y v : MarksStore) → Second s y h.track → Written (half_closed y) v h.track →
      weight_at v h.track ≤ one (y.a.up && stale_at y.a h.track) → Lower s v
  closing_lower y v k g less =
      lower_all s v (g.near.cylinders ∙ k.cylinders) (λ q lt. by_place q lt (cases_eq q h.track))
      (let queued = ap length (g.near.queue ∙ k.queue) in
      let shut = none_open v g.near.half in
      let opens : one (is_some s.half) ≡ 1 = ap (λ (o : Option (store.HalfWrite (Unit {0}))). one (is_some o)) is in
      omega (arith, queued, shut, opens))
    where
      by_place : (q : ℕ) → q < tracks_of s → ((q ≡ h.track) ⊎ (q ≢ h.track)) → weight_at v q ≤ weight_at s q
      by_place q lt (inl here) =
          let before = half_on (half_is s.half h.track) (one (s.a.up && stale_at s.a h.track)) (whole_weight (spot_at s h.track)) mine in
          let same = ap (λ (m : store.SideMarks). one (m.up && stale_at m h.track)) k.a in
          subst (λ (i : ℕ). weight_at v i ≤ weight_at s i) (sym here) (omega (arith, less, before, same))
      by_place q lt (inr ne) =
          let off = ap (λ (o : Option (store.HalfWrite (Unit {0}))). half_is o q) k.half ∙ others_off q ne in
          let closed_is : spot_at (half_closed y) q ≡ spot_at y q = ap (λ (b : Bool). record (spot_at y q) { half = b }) (sym off) in
          let same = ap weight (g.near.others q ne ∙ closed_is) in
          let below = k.others q lt ne in
          omega (arith, same, below)

  done_lower : (y v : MarksStore) → Second s y h.track → Written (half_closed y) v h.track → works (spot_at v h.track) ≡ false → Lower s v
  done_lower y v k g off =
      let t = h.track in
      let kept = ap one (only_copies (half_closed y) v t g.a g.b g.near.held) in
      let level = y.a.up && not (stale_at y.a t) in
      let copied = done_copies y.a.up (stale_at y.a t) (y.b.up && not (stale_at y.b t)) (takes_b y) (stale_at y.b t) level k.shut in
      closing_lower y v k g (omega (arith, whole_at v t g.near.half, half_off (works (spot_at v t)) (sides (spot_at v t)) 0 off, kept, copied))

  absent_lower : (y v : MarksStore) → Second s y h.track → Written (half_closed y) v h.track → has_level y h.track ≡ false → Lower s v
  absent_lower y v k g off = grind (arith, closing_lower, whole_at, if_least, works, spot_at, sides, copies_same, absent_sides)

  finished_so : (y x : MarksStore) (i : Image) (bypass : Bool) → Second s y h.track → Written (half_closed y) x h.track → is_loose x h.track ≡ false →
      Had (finished by_plain x h.track i bypass) (λ v (_ : Bool). Lower s v)
  finished_so y x i bypass k g firm =
      had_then (write_is_done x h.track i bypass firm)
      (λ v _ d. had_done (done_lower y v k (written_on (half_closed y) x v h.track g d.0) d.1))

  done_so : (y : MarksStore) (i : Image) (origin : Origin) → Second s y h.track → is_loose y h.track ≡ false →
      Had (D.second_done by_plain (half_closed y) h.track i origin) (λ v (_ : Bool). Lower s v)
  done_so y i (OfCommand bypass e) k firm = had_tell (finished_so y _ i bypass k (search (arith, near_by)) firm)
  done_so y i (OfCut bypass) k firm = finished_so y (half_closed y) i bypass k (written_self (half_closed y) h.track) firm
  done_so y i OfBackground k firm = finished_so y (half_closed y) i false k (written_self (half_closed y) h.track) firm

  by_level : (y : MarksStore) (i : Image) (origin : Origin) → Second s y h.track → is_loose y h.track ≡ false →
      Had (second_by by_plain h.track i origin y) (λ v (_ : Bool). Lower s v)
  by_level y i origin k firm =
      had_if (has_level y h.track) (λ _. done_so y i origin k firm)
      (λ off. had_done (absent_lower y (settled by_plain (left_by by_plain (half_closed y) h.track i origin) h.track) k
      (written_on (half_closed y) (left_by by_plain (half_closed y) h.track i origin) _ h.track (left_written (half_closed y) h.track i origin)
      (settled_so (left_by by_plain (half_closed y) h.track i origin) h.track).0) off))

  pub part_so : s.paired ≡ true → ((q : ℕ) → q < tracks_of s → q ≢ h.track → IsSafe (spot_at s q)) → is_loose s h.track ≡ false →
      Had (second_part by_plain s h) (λ v (_ : Bool). Lower s v)
  unfolding D.second_part
  part_so paired safe firm = had_then (second_so s h.track paired others_off safe true) (λ y _ k. by_level y _ h.origin k (k.loose ∙ firm))
