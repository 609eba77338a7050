-- The losses of a side and of the store leave all right, with their twins on marks.
use Rattle.std.proofs.Common.{◌≡◌, ◌<◌, ◌&&◌, not, ℕ, Bool, true, false, List, Option, Some, None, is_some, refl, sym, ap, ◌∙◌, arith, inl}
use Rattle.std.specs.Prelude.{if◌then◌else◌}
use Rattle.ckd_types.specs.declared.paths.Side.{Side}
use Rattle.ckd_types.specs.declared.paths.Side.TheVariants.{A, B}
use Rattle.ckd_types.specs.declared.geometry.Geometry.{Geometry}
use Rattle.ckd_types.specs.declared.record.Track.{Track}
use Rattle.loss_model.specs.declared.Loss.{Loss}
use Rattle.loss_model.specs.declared.Loss.TheVariants as losses
use Rattle.track_image.specs.Image.{Image}
use Rattle.device_defs.specs.Between.{HasSizes}
use Rattle.device_defs.specs.Contents.{contents, by_plain}
use Rattle.device_defs.specs.Events.{with_loss, losing}
use Rattle.device_defs.specs.Losses as L
use Rattle.device_defs.specs.Losses.{without_patch, stale_everywhere, settled, patch_lost, store_lost, side_lost}
use Rattle.device_defs.specs.Marks.{MarksStore, marks_of}
use Rattle.device_defs.specs.Sound.{DeviceStore}
use Rattle.device_defs.specs.Store.{HalfWrite, tracks_of, patch_at, half_is, with_stale}
use Rattle.device_laws.specs.Agrees.{Held, image_in}
use Rattle.device_laws.specs.Twin.{Twins}
use Rattle.device_laws.proofs.Bools.{and_not_true}
use Rattle.device_laws.proofs.ContentChanges as C
use Rattle.device_laws.proofs.ContentChanges.{
  Base,
  base_of,
  Altered,
  altered_stale_a,
  altered_stale_b,
  same_tracks,
  same_up_b,
  sits_still,
  RightBut,
  right_altered,
  altered_then,
}
use Rattle.device_laws.proofs.Sweeps.{is_alone}
use Rattle.device_laws.proofs.TrackContents as T
use Rattle.device_laws.proofs.TrackContents.{TrackContents, contents_at, Writes, IsRight, right_bare, none_of, writes_own, own_writes, lost_case, HeldBy}
use Rattle.device_laws.proofs.TwinAsks.{InOrder, Ordered, beside_order}
use Rattle.device_laws.proofs.TwinChanges.{has_patch_twin, half_twin, without_patch_twin}
use Rattle.device_laws.proofs.TwinFailed.{told_twin, side_pair, settles_on, down_tracks}
use Rattle.device_laws.proofs.TwinSettled.{AllTold, Owes, debts_altered, told_debts, Settles, settled_pair, unpatched, altered_unpatched, unpatched_slots}
use Rattle.device_laws.proofs.TwinWalks.{Pair, pair_is, pair_if, pair_over, pair_weaker, twin_weaker}

-- The track of a half write has what is written, whatever its patch

own_writes_still : (x : TrackContents) (plain : Image) (w : HalfWrite Image) → Writes x plain w → Writes (unpatched x) plain w
own_writes_still x plain w k = record {
  image = k.image;
  a = k.a;
  b = k.b;
  frame = k.frame;
  patch = none_of w.origin None plain refl;
  suits = k.suits;
}

right_own : (g : Geometry) (t : ℕ) (half : Option (HalfWrite Image)) (x : TrackContents) (plain firm : Image) → half_is half t ≡ true →
    IsRight g t half x plain firm → IsRight g t half (unpatched x) plain firm
right_own g t None x plain firm own r = absurd (cc)
right_own g t (Some w) x plain firm own r =
    lost_case (HeldBy g t x plain firm (Some w)) (HeldBy g t (unpatched x) plain firm (Some w)) x.lost x.lost (λ e. e)
    (λ k. own_writes g t w (unpatched x) plain firm own (own_writes_still x plain w (writes_own g t w x plain firm own k))) r

-- A track is stale on every side

stale_by : (v w : List Track) (y : DeviceStore) (t : ℕ) (p : Bool) →
    marks_of v w (if p then with_stale (with_stale y A t true) B t true else with_stale y A t true)
    ≡ (if p then with_stale (with_stale (marks_of v w y) A t true) B t true else with_stale (marks_of v w y) A t true)
stale_by v w y t true = refl
stale_by v w y t false = refl

stale_twin : (v w : List Track) (y : DeviceStore) (t : ℕ) → marks_of v w (stale_everywhere y t) ≡ stale_everywhere (marks_of v w y) t
stale_twin v w y t = stale_by v w y t y.paired

-- what it has then
record StaleNow (y : DeviceStore) (h : Held) (t : ℕ) (z : DeviceStore) : Type 0 where
  pub on : Bool × Bool
  pub no_a : on.0 ≡ false
  pub no_b : on.1 ≡ false
  pub altered : Altered y h z h t (record (contents_at y h t) { a = on.0; b = on.1 })

down_b : (y : DeviceStore) (h : Held) (t : ℕ) → y.b.up ≡ false → (contents_at y h t).b ≡ false
unfolding T.contents_at
down_b y h t e = rw e refl

stale_now : (y : DeviceStore) (h : Held) (t : ℕ) (p : Bool) → t < tracks_of y → HasSizes y → (p ≡ false → y.b.up ≡ false) →
    StaleNow y h t (if p then with_stale (with_stale y A t true) B t true else with_stale y A t true)
stale_now y h t true lt sizes alone =
    let f = altered_stale_a y h t lt sizes true in
    let z = with_stale y A t true in
    let g = altered_stale_b z h t lt f.sizes true in
    record {
      on = (y.a.up && not true, y.b.up && not true);
      no_a = and_not_true y.a.up;
      no_b = and_not_true y.b.up;
      altered = altered_then (λ (c : TrackContents). record c { b = y.b.up && not true }) f g;
    }
stale_now y h t false lt sizes alone =
    let f = altered_stale_a y h t lt sizes true in
    record {
      on = (y.a.up && not true, (contents_at y h t).b);
      no_a = and_not_true y.a.up;
      no_b = down_b y h t (alone refl);
      altered = f;
    }

same_paired : (s : DeviceStore) (h : Held) (z : DeviceStore) (k : Held) → base_of z k ≡ base_of s h → z.paired ≡ s.paired
unfolding C.base_of
same_paired s h z k e = ap (λ (b : Base). b.paired) e

-- The loss of the store

module _ (h : Held) (u : List Track) (s : DeviceStore) (alone : s.paired ≡ false → s.b.up ≡ false) where
  single : (z : DeviceStore) → base_of z h ≡ base_of s h → z.paired ≡ false → z.b.up ≡ false
  single z e f = same_up_b s h z h e ∙ alone (sym (same_paired s h z h e) ∙ f)

  module _ (v w : List Track) (z : DeviceStore) (n : ℕ) (lt : n < tracks_of z) (x : Settles None h u s v w z) where
    abbrev c : TrackContents
    c = contents_at z h n

    debt_of : (y : TrackContents) → y.lost ≡ c.lost → y.frame ≡ c.frame → c.debt ≡ true → Owes None z n y
    debt_of y lost frame e = let o = x.debts.owes n e in record {
      below = lt;
      lost = lost ∙ o.lost;
      frame = ap is_some frame ∙ o.frame;
      half = o.half;
      still = λ f. absurd (cc);
    }

    unpatched_altered : Altered z h (without_patch contents z n) h n (unpatched c)
    unpatched_altered = altered_unpatched z h n lt x.but.ground.sizes

    settles_of : (y : DeviceStore) (d : TrackContents) → Altered z h y h n d → d.loose ≡ c.loose → d.patch ≡ None → d.freed ≡ (unpatched c).freed →
        d.lost ≡ c.lost →
        d.frame ≡ c.frame → d.debt ≡ c.debt →
        IsRight z.geometry n z.half d (image_in z v n) (image_in z w n) → Settles None h u s v w y
    settles_of y d e loose patch freed lost frame debt right =
        let still = sits_still v w z h n c lt x.but.ground refl refl in record {
          but = right_altered None v w z h y h n d x.but e
              (record { same = λ l. still.same (sym loose ∙ l); patch = λ p l. absurd (let m = patch in cc); apart = λ l. still.apart (sym loose ∙ l) })
              (unpatched_slots z h y h n d e patch freed refl x.but.ground.slots) (λ ne. right);
          debts = debts_altered None z h y h n d x.debts e (λ l. debt_of d lost frame (sym debt ∙ l));
          base = e.base ∙ x.base;
          plain = x.plain;
          own = λ t f. absurd (cc);
        }

    own_settles : half_is z.half n ≡ true → Settles None h u s v w (without_patch contents z n)
    own_settles own =
        settles_of (without_patch contents z n) (unpatched c) unpatched_altered refl refl refl refl refl refl
        (right_own z.geometry n z.half c (image_in z v n) (image_in z w n) own (x.but.right n lt (λ e. absurd (cc))))

    off_settles : Settles None h u s v w (stale_everywhere (without_patch contents z n) n)
    off_settles =
        let f = unpatched_altered in
        let y = without_patch contents z n in
        let g = stale_now y h n y.paired (let same = same_tracks z h y h f.base in omega arith) f.sizes (single y (f.base ∙ x.base)) in
        let d = record (unpatched c) { a = g.on.0; b = g.on.1 } in
        let e : Altered z h (stale_everywhere y n) h n d = altered_then (λ (i : TrackContents). record i { a = g.on.0; b = g.on.1 }) f g.altered in
        settles_of (stale_everywhere y n) d e refl refl refl refl refl refl
        (right_bare z.geometry n z.half c d (image_in z v n) (image_in z w n) (image_in z w n)
        (record { lost = λ l. l; frame = λ i k. k; a = g.no_a; b = g.no_b }) (inl refl) (x.but.right n lt (λ e. absurd (cc))))

    off_pair : Pair (Settles None h u s) (settled contents (stale_everywhere (without_patch contents z n) n) n)
        (settled by_plain (stale_everywhere (without_patch by_plain (marks_of v w z) n) n) n)
    off_pair =
        let y = stale_everywhere (without_patch contents z n) n in
        let f = off_settles in
        let same : tracks_of y ≡ tracks_of z = same_tracks s h y h f.base ∙ sym (same_tracks s h z h x.base) in
        rw (← (stale_twin v w (without_patch contents z n) n ∙ ap (λ (m : MarksStore). stale_everywhere m n) (without_patch_twin v w z n)))
        (pair_weaker (settled_pair None h v w y n (omega arith) f.but f.debts (λ e. absurd (cc)))
        (λ v' w' g. settles_on None h u v w v' w' s y (settled contents y n) f g))

    half_pair : (b : Bool) → half_is z.half n ≡ b → Pair (Settles None h u s)
        (if b then without_patch contents z n else settled contents (stale_everywhere (without_patch contents z n) n) n)
        (if b then without_patch by_plain (marks_of v w z) n else settled by_plain (stale_everywhere (without_patch by_plain (marks_of v w z) n) n) n)
    half_pair true e = record { plain = v; firm = w; marks = without_patch_twin v w z n; is = own_settles e }
    half_pair false e = off_pair

    halved : Pair (Settles None h u s)
        (if half_is z.half n then without_patch contents z n else settled contents (stale_everywhere (without_patch contents z n) n) n)
        (if half_is (marks_of v w z).half n then without_patch by_plain (marks_of v w z) n
        else settled by_plain (stale_everywhere (without_patch by_plain (marks_of v w z) n) n) n)
    halved = rw (half_twin v w z n) (half_pair (half_is z.half n) refl)

    patch_pair : Pair (Settles None h u s) (patch_lost contents n z) (patch_lost by_plain n (marks_of v w z))
    patch_pair = rw (has_patch_twin v w z n) (pair_if (is_some (patch_at z n)) (λ _. halved) (λ _. pair_is x))

  store_pair : (w : List Track) → RightBut None u w s h → AllTold s h →
      Pair (Settles None h u s) (store_lost contents s) (store_lost by_plain (marks_of u w s))
  unfolding L.store_lost
  store_pair w b told =
      pair_over (tracks_of s) (patch_lost contents) (patch_lost by_plain)
      (λ v' w' z n lt x. patch_pair v' w' z n (let same = same_tracks s h z h x.base in omega arith) x) u w s (tracks_of s) (omega arith)
      (record { but = b; debts = told_debts None s h told; base = refl; plain = refl; own = λ t e. refl })

-- As losses

pub counted_loss : (v w : List Track) (s : DeviceStore) (h : Held) (loss : Loss) → Ordered v w s h → Ordered v w (with_loss s loss) h
counted_loss v w s h loss o = beside_order o

pub record Loses (u v w : List Track) (z : DeviceStore) (k : Held) : Type 0 where
  pub order : Ordered v w z k
  pub plain : v ≡ u

pub store_loss_twin : (v w : List Track) (s : DeviceStore) (h : Held) → InOrder v w s h →
    Twins (λ v' w' z _ _ k. Loses v v' w' z k) (losing contents s losses.Store) (losing by_plain (marks_of v w s) losses.Store) h
store_loss_twin v w s h o =
    let y = with_loss s losses.Store in
    let i = counted_loss v w s h losses.Store (record { sure = o.sure; told = o.told }) in
    let x = store_pair h v y (is_alone s o.well.here) w i.sure i.told in
    let z = store_lost contents y in
    rw (← x.marks) (twin_weaker (told_twin None h v x.plain x.firm z y (tracks_of s) (let same = same_tracks y h z h x.is.base in omega arith) x.is)
    (λ v' w' a _ _ k f. record { order = record { sure = f.but; told = f.told }; plain = f.plain }))

pub side_loss_twin : (v w : List Track) (s : DeviceStore) (h : Held) (side : Side) → InOrder v w s h →
    Twins (λ v' w' z _ _ k. Loses v v' w' z k) (losing contents s (losses.Side side)) (losing by_plain (marks_of v w s) (losses.Side side)) h
side_loss_twin v w s h side o =
    let y = with_loss s (losses.Side side) in
    let i = counted_loss v w s h (losses.Side side) (record { sure = o.sure; told = o.told }) in
    let x = side_pair None h v w y side i.sure i.told in
    let z = side_lost contents y side None in
    let d = L.down y side in
    rw (← x.marks) (twin_weaker (told_twin None h v x.plain x.firm z d (tracks_of s)
    (let same = same_tracks d h z h x.is.base in let still = down_tracks y side in omega arith) x.is)
    (λ v' w' a _ _ k f. record { order = record { sure = f.but; told = f.told }; plain = f.plain }))
