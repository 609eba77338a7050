-- The reads of a track from its level sides, and those of a command's look at it.
use Rattle.std.proofs.Common.{◌≡◌, ◌≤◌, ℕ, Bool, true, false, Option, Some, None, is_some, refl, arith, ap, sym, subst}
use Rattle.std.specs.Prelude.{if◌then◌else◌, ◌&&◌, not}
use Rattle.ckd_types.specs.declared.parameters.Mode.{Mode}
use Rattle.ckd_types.specs.declared.paths.Side.{Side}
use Rattle.ckd_types.specs.declared.paths.Side.TheVariants.{A, B}
use Rattle.ckd_types.specs.Parameters.{is_bypass}
use Rattle.track_image.specs.Image.{Image}
use Rattle.device_outside.specs.Interaction.{Done, Ask, and_then}
use Rattle.device_outside.specs.Pool.{SetModified}
use Rattle.device_defs.specs.declared.usage.Usage.{Usage}
use Rattle.device_defs.specs.Contents.{Contents}
use Rattle.device_defs.specs.Image as I
use Rattle.device_defs.specs.Image.{
  Got,
  got,
  Imaged,
  Has,
  read_counted,
  ahead,
  loads,
  read_side,
  second_read,
  read_b,
  first_read,
  level_bytes,
  image_of,
  framed,
  granted,
  loaded,
  delivered,
  missed,
  miss,
  hit,
  clean_image,
  image_by,
  image,
  first_faulty_side,
}
use Rattle.device_defs.specs.Store.{Store, stale_at, level_at, frame_at, patch_at, with_frame, SideMarks}
use Rattle.device_defs.specs.Transfers.{Miss, Within, both, one_or_both, Moves}
use Rattle.device_laws.proofs.QuietParts.{failed_quiet}
use Rattle.device_laws.specs.Moved.{sides_up, miss_reads}
use Rattle.device_laws.proofs.counted.Counting.{
  Counts,
  counts_done,
  counts_try,
  counts_ask,
  counts_read,
  counts_then,
  counts_weaker,
  counts_first,
  counts_if,
  moves_of,
}
use Rattle.device_laws.proofs.counted.SidesLeft.{Fewer, fewer_then, ahead_up, failed_fewer, failed_leaves}
use Rattle.device_laws.specs.Seen.{ReadFrom, ReadNone, from_a, from_b, after_a, none_level, a_failed, b_failed, both_failed}
use Rattle.device_laws.proofs.Always.{always_and}

level_by : (x y p q : Bool) → both (x && p) (y && q) ≤ both x y
level_by true true true true = omega arith
level_by true true true false = omega arith
level_by true true false true = omega arith
level_by true true false false = omega arith
level_by true false true q = omega arith
level_by true false false q = omega arith
level_by false true p true = omega arith
level_by false true p false = omega arith
level_by false false p q = omega arith

module _ {F P H : Type 0} where
  -- what came of the reads: a level side gave bytes at once, there was none, or a call failed
  pub data LevelSo {R : Type 0} (s : Store F P H) : ℕ → ℕ → Store F P H → Got R → Type 0 where
    level_gave : {side : Side} {bytes : R} → LevelSo s 1 0 (read_counted s true) (got side (Some bytes) None)
    level_none : LevelSo s 0 0 s (got B None None)
    level_failed : {r : ℕ} {z : Store F P H} {last side : Side} {bytes : Option R} → 1 ≤ r → Fewer s z → LevelSo s r 0 z (got last bytes (Some side))

  -- exactly, by the sides that have the track
  abbrev pub LevelBy : {R : Type 0} → Store F P H → ℕ → ℕ → ℕ → Got R → Option R → Type 0
  LevelBy s t r w g (Some x) = (r ≡ miss_reads g.fault) × (w ≡ 0) × ReadFrom s t g.side g.fault
  LevelBy s t r w g None = (w ≡ 0) × ReadNone s t r g.fault

  pub record LevelReads {R : Type 0} (s : Store F P H) (r w : ℕ) (z : Store F P H) (g : Got R) : Type 0 where
    pub most : r ≤ sides_up s
    pub so : LevelSo s r w z g

  -- behind a look: it read at most once from each side, and brought none up
  pub record Looked (up : ℕ) (r w : ℕ) (z : Store F P H) : Type 0 where
    pub reads : r ≤ up
    pub writes : w ≡ 0
    pub sides : sides_up z ≤ up

  none_up : (s z : Store F P H) → Fewer (read_counted s false) z → Fewer s z
  none_up s z e = record { is = e.is }

  level_fewer : {R : Type 0} (s : Store F P H) {r w : ℕ} {z : Store F P H} {g : Got R} → LevelSo s r w z g → (w ≡ 0) × (sides_up z ≤ sides_up s)
  level_fewer s level_gave = (refl, omega arith)
  level_fewer s level_none = (refl, omega arith)
  level_fewer s (level_failed le few) = (refl, few.is)

  read_again : (s z : Store F P H) (ok : Bool) → Fewer s z → Fewer s (read_counted z ok)
  read_again s z ok e = record { is = e.is }

module _ {F P H R : Type 0} (c : Contents F P H R) where
  module _ (s : Store F P H) (t : ℕ) where
    pub record Level (r w : ℕ) (z : Store F P H) (g : Got R) : Type 0 where
      pub within : Within s (Miss t) r w
      pub so : LevelSo s r w z g
      pub by : LevelBy s t r w g g.bytes

    within : (a b : Bool) → level_at s.a t ≡ a → level_at s.b t ≡ b → (r : ℕ) → (one_or_both a b).least ≤ r → r ≤ both a b → Within s (Miss t) r 0
    within a b e f r low high = record {
      least_reads = rw e (subst (λ (y : Bool). (one_or_both a y).least ≤ r) (sym f) low);
      most_reads = subst (λ (x : Bool). r ≤ both x (level_at s.b t)) (sym e) (subst (λ (y : Bool). r ≤ both a y) (sym f) high);
      least_writes = omega arith;
      most_writes = omega arith;
    }

    one_fits : (b : Bool) → 1 ≤ both true b
    one_fits true = omega arith
    one_fits false = omega arith

    second_at : (z : Store F P H) → Fewer s z → level_at s.a t ≡ true → level_at s.b t ≡ true → (bytes : Option R) →
        Counts Level 2 0 (second_read c (Some A) (read_counted z (is_some bytes)) bytes)
    second_at z few level other (Some x) = counts_done (record {
      within = within true true level other 2 (omega arith) (omega arith);
      so = level_failed (omega arith) (read_again s z true few);
      by = (refl, refl, after_a level other);
    })
    second_at z few level other None =
        let y = read_counted z false in
        counts_first (λ x _. Done x (got B None (Some (first_faulty_side (Some A) B)))) (failed_quiet c y B None) (failed_fewer c y B None).holds
        (λ x _ e. counts_done (record {
          within = within true true level other 2 (omega arith) (omega arith);
          so = level_failed (omega arith) (fewer_then s z x few (none_up z x e));
          by = (refl, both_failed level other);
        }))

    behind_a : (z : Store F P H) → Fewer s z → level_at s.a t ≡ true → (l : Bool) → level_at s.b t ≡ l →
        Counts Level 1 0 (if l then read_side c z B t (second_read c (Some A)) else Done z (got B None (Some A)))
    behind_a z few level true other = counts_read (λ bytes. second_at z few level other bytes)
    behind_a z few level false other = counts_done (record {
      within = within true false level other 1 (omega arith) (omega arith);
      so = level_failed (omega arith) few;
      by = (refl, a_failed level other);
    })

    first_at : level_at s.a t ≡ true → (bytes : Option R) → Counts Level 1 0 (first_read c t (read_counted s (is_some bytes)) bytes)
    first_at level (Some r) = counts_done (record {
      within = within true (level_at s.b t) level refl 1 (omega arith) (one_fits (level_at s.b t));
      so = level_gave;
      by = (refl, refl, from_a level);
    })
    first_at level None =
        let y = read_counted s false in
        counts_first (λ z _. read_b c z t (Some A)) (failed_quiet c y A None) (always_and (failed_fewer c y A None) (failed_leaves c y None)).holds
        (λ z _ e. behind_a z (none_up s z e.0) level (level_at z.b t) (ap (λ (m : SideMarks). level_at m t) (sym e.1)))

    only_at : level_at s.a t ≡ false → level_at s.b t ≡ true → (bytes : Option R) →
        Counts Level 1 0 (second_read c None (read_counted s (is_some bytes)) bytes)
    only_at stale level (Some r) = counts_done (record {
      within = within false true stale level 1 (omega arith) (omega arith);
      so = level_gave;
      by = (refl, refl, from_b stale level);
    })
    only_at stale level None =
        let y = read_counted s false in
        counts_first (λ z _. Done z (got B None (Some (first_faulty_side None B)))) (failed_quiet c y B None) (failed_fewer c y B None).holds
        (λ z _ e. counts_done (record {
          within = within false true stale level 1 (omega arith) (omega arith);
          so = level_failed (omega arith) (none_up s z e);
          by = (refl, b_failed stale level);
        }))

    by_b : level_at s.a t ≡ false → (l : Bool) → level_at s.b t ≡ l →
        Counts Level 0 0 (if l then read_side c s B t (second_read c None) else Done s (got B None None))
    by_b stale true level = counts_read (λ bytes. only_at stale level bytes)
    by_b stale false level = counts_done (record {
      within = within false false stale level 0 (omega arith) (omega arith);
      so = level_none;
      by = (refl, none_level stale level);
    })

    by_a : (l : Bool) → level_at s.a t ≡ l → Counts Level 0 0 (if l then read_side c s A t (first_read c t) else read_b c s t None)
    by_a true level = counts_read (λ bytes. first_at level bytes)
    by_a false level = by_b level (level_at s.b t) refl

    pub level_walk : Counts Level 0 0 (level_bytes c s t)
    unfolding I.level_bytes
    level_walk = by_a (level_at s.a t) refl

    pub level_exact : Counts (λ r w z g. LevelBy s t r w g g.bytes) 0 0 (level_bytes c s t)
    level_exact = counts_weaker level_walk (λ r w z g x. x.by)

    pub level_moves : Moves (Within s (Miss t)) 0 0 (level_bytes c s t)
    level_moves = moves_of (counts_weaker level_walk (λ r w z g x. x.within))

    level_most : (r w : ℕ) → Within s (Miss t) r w → r ≤ sides_up s
    level_most r w x = let e = x.most_reads in let f = level_by s.a.up s.b.up (not (stale_at s.a t)) (not (stale_at s.b t)) in omega (arith, e, f)

    pub level_reads : Counts (λ r w z g. LevelReads s r w z g) 0 0 (level_bytes c s t)
    level_reads = counts_weaker level_walk (λ r w z g x. record { most = level_most r w x.within; so = x.so })

  -- A look

  module _ (u : Usage) (t up : ℕ) where
    abbrev By : ℕ → ℕ → Store F P H → Option Imaged → Type 0
    By r w z o = Looked up r w z

    at_once : (r : ℕ) → r ≤ up → (z : Store F P H) → sides_up z ≤ up → (o : Option Imaged) → Counts {R = R} {I = Image} By r 0 (Done z o)
    at_once r le z few o = counts_done (record { reads = le; writes = refl; sides = few })

    module _ (r : ℕ) (le : r ≤ up) (z : Store F P H) (few : sides_up z ≤ up) where
      filled_so : (i : Image) (b : Bool) →
          Counts {R = R} {I = Image} By r 0
          (and_then (if b then Ask (SetModified z.device t) (λ _. Done (framed c z t i true) (tt {0})) else Done (framed c z t i false) (tt {0}))
          (λ y _. Done y (Some (Has i))))
      filled_so i true = counts_ask (λ _. at_once r le (framed c z t i true) few (Some (Has i)))
      filled_so i false = at_once r le (framed c z t i false) few (Some (Has i))

      granted_so : (i : Image) (given : Bool) → Counts By r 0 (granted c z t i given)
      granted_so i true = filled_so i (is_some (patch_at z t))
      granted_so i false = at_once r le z few (Some (Has i))

      loaded_so : (i : Image) (mode : Mode) → Counts By r 0 (loaded c z t i mode)
      loaded_so i mode =
          counts_if (loads mode)
          (λ _. counts_try (λ ok. counts_if ok (λ _. counts_ask (λ given. granted_so i given)) (λ _. at_once r le z few None)))
          (λ _. at_once r le z few (Some (Has i)))

    module _ (r : ℕ) (le : r ≤ up) (z : Store F P H) (few : sides_up z ≤ up) where
      delivered_so : (side : Side) (i : Option Image) → Counts By r 0 (delivered c u t side z i)
      delivered_so side None = at_once r le z few _
      delivered_so side (Some i) = loaded_so r le (ahead u z t) (let e = ahead_up u z t in omega (arith, e, few)) i u.mode

      missed_so : (g : Got R) (bytes : Option R) → Counts By r 0 (missed c u t z g bytes)
      missed_so g None = at_once r le z few _
      missed_so g (Some x) = counts_try (λ ok. counts_if ok (λ _. delivered_so g.side (image_of c z t x)) (λ _. at_once r le z few None))

    miss_so : (s : Store F P H) → sides_up s ≤ up → Counts By 0 0 (miss c s u t)
    miss_so s few =
        counts_then _ (level_reads s t)
        (λ r w z g x.
        let f = level_fewer s x.so in
        let e = f.1 in
        let k = x.most in
        rw f.0 (missed_so r (omega (arith, k, few)) z (omega (arith, e, few)) g g.bytes))

    hit_so : (s : Store F P H) → sides_up s ≤ up → (f : F) → Counts By 0 0 (hit c s t f)
    hit_so s few f = at_once 0 (omega arith) s few _

    clean_so : (s : Store F P H) → sides_up s ≤ up → (f : F) → Counts By 0 0 (clean_image c s u t f)
    clean_so s few f =
        counts_if (is_bypass u.mode) (λ _. miss_so s few)
        (λ _. counts_ask (λ listed. counts_if listed (λ _. hit_so s few f) (λ _. miss_so (with_frame s t None) few)))

    by_frame : (s : Store F P H) → sides_up s ≤ up → (o : Option F) → Counts By 0 0 (image_by c s u t o)
    by_frame s few None = miss_so s few
    by_frame s few (Some f) = counts_if (c.modified f) (λ _. hit_so s few f) (λ _. clean_so s few f)

    pub image_reads : (s : Store F P H) → sides_up s ≤ up → Counts By 0 0 (image c s u t)
    unfolding I.image
    image_reads s few = by_frame s few (frame_at s t)
