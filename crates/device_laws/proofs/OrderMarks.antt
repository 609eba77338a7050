-- The orders keep good marks good; a device that is lent keeps nothing, and is good again when it gets its empty volume.
use Rattle.std.proofs.Common.{◌≡◌, ◌<◌, ℕ, Bool, true, false, [], ◌∷◌, Option, None, length, replicate, get_or, refl, sym, ap, subst, ◌∙◌, arith}
use Rattle.std.proofs.lemmas.List.{length-replicate, get_or-replicate}
use Rattle.std.specs.Prelude.{◌&&◌, ◌||◌, not}
use Rattle.ckd_types.specs.declared.paths.Side.{Side}
use Rattle.ckd_types.specs.declared.paths.Side.TheVariants.{A, B}
use Rattle.track_table.proofs.Places.{empty_places}
use Rattle.device_defs.specs.Between.{HasSizes}
use Rattle.device_defs.specs.Contents.{Contents}
use Rattle.device_defs.specs.Device.{Device}
use Rattle.device_defs.specs.Losses.{over, without_frame}
use Rattle.device_defs.specs.Orders.{join, split, restore, replace, hold_side, resume, lent_to, given_up}
use Rattle.device_defs.specs.Store.{HalfWrite, Store, new_side, tracks_of, stale_at, level_at, has_level, side_of, half_is}
use Rattle.device_laws.specs.InOrder.{AreBelow}
use Rattle.device_laws.proofs.Changes as C
use Rattle.device_laws.proofs.Changes.{Rest, Changed, rest_of, changed_twice, changed_unframed, changed_unpatched}
use Rattle.device_laws.proofs.Done.{Keeps}
use Rattle.device_laws.proofs.FailedCall.{IsKept, IsWell}
use Rattle.device_laws.proofs.Sweeps.{IsHere, Swept, swept, same_tracks, same_half, is_alone}
use Rattle.device_laws.proofs.TrackMarks as M
use Rattle.device_laws.proofs.TrackMarks.{TrackMarks, marks, IsFaithful, is_good, track_at}

given_good : (h : Bool) → h ≡ false → is_good (marks None false false false h true) ≡ true
given_good true e = absurd (cc)
given_good false e = refl

module _ {F P H R : Type 0} (c : Contents F P H R) (faithful : IsFaithful c) where
  -- the marks of each of its tracks are the same
  same_marks : (s z : Store F P H) → HasSizes z → IsHere (rest_of z) → tracks_of z ≡ tracks_of s →
      ((q : ℕ) → q < tracks_of s → track_at c z q ≡ track_at c s q) → IsWell c s → Keeps c faithful s z
  same_marks s z sizes here same all w = record {
    well = record {
      sizes = sizes;
      here = here;
      good = λ q lt. let below : q < tracks_of s = omega arith in ap is_good (all q below) ∙ w.good q below;
      kept = λ q lt. let below : q < tracks_of s = omega arith in subst IsKept (sym (all q below)) (w.kept q below);
    };
    tracks = same;
  }

  is_stale : (n q : ℕ) → q < n → get_or (replicate n true) q false ≡ true
  is_stale n q lt = get_or-replicate n q true false lt

  a_sizes : (s : Store F P H) (b : Bool) → HasSizes s → HasSizes (record s { a = new_side (tracks_of s) b })
  a_sizes s b sizes =
      let all : length s.a.stale ≡ tracks_of s = cc (sizes.are) in
      record {
        are =
            ap (λ (k : ℕ). k ∷ length s.b.stale ∷ length s.frames ∷ length s.patches ∷ length s.lost ∷ length s.loose ∷ length s.owed ∷ [])
            (length-replicate (tracks_of s) b ∙ sym all) ∙ sizes.are;
      }

  b_sizes : (s : Store F P H) (b : Bool) → HasSizes s → HasSizes (record s { b = new_side (tracks_of s) b })
  b_sizes s b sizes =
      let all : length s.b.stale ≡ tracks_of s = cc (sizes.are) in
      record {
        are =
            ap (λ (k : ℕ). length s.a.stale ∷ k ∷ length s.frames ∷ length s.patches ∷ length s.lost ∷ length s.loose ∷ length s.owed ∷ [])
            (length-replicate (tracks_of s) b ∙ sym all) ∙ sizes.are;
      }

  b_level : (s : Store F P H) (q : ℕ) → q < tracks_of s → s.b.up ≡ false →
      (level_at s.a q || (true && not (get_or (replicate (tracks_of s) true) q false))) ≡ has_level s q
  b_level s q lt down = rw (is_stale (tracks_of s) q lt, down) refl

  a_level : (s : Store F P H) (q : ℕ) → q < tracks_of s → s.a.up ≡ false →
      ((true && not (get_or (replicate (tracks_of s) true) q false)) || level_at s.b q) ≡ has_level s q
  a_level s q lt down = rw (is_stale (tracks_of s) q lt, down) refl

  -- another volume becomes side B
  pub join_keeps_good : (d : Device F P H) → IsWell c d.store → d.store.paired ≡ false → Keeps c faithful d.store (join d).store
  unfolding M.track_at C.rest_of
  join_keeps_good d w single =
      let s = d.store in
      let z = b_sizes s true w.sizes in
      same_marks s (join d).store (record { are = z.are })
      (record { free = w.here.free; alone = λ e. absurd (cc); whole = λ e. absurd (cc); within = w.here.within; queued = w.here.queued }) refl
      (λ q lt. ap (λ (v : Bool). record (track_at c s q) { level = v }) (b_level s q lt (is_alone s w.here single))) w

  -- a failed side is replaced
  pub replace_keeps_good : (d : Device F P H) (side : Side) → IsWell c d.store → (side_of d.store side).up ≡ false →
      (side ≡ B → d.store.paired ≡ true) → Keeps c faithful d.store (replace d side).store
  unfolding M.track_at C.rest_of
  replace_keeps_good d A w down has =
      let s = d.store in
      let z = a_sizes s true w.sizes in
      same_marks s (replace d A).store (record { are = z.are })
      (record { free = w.here.free; alone = w.here.alone; whole = w.here.whole; within = w.here.within; queued = w.here.queued }) refl
      (λ q lt. ap (λ (v : Bool). record (track_at c s q) { level = v }) (a_level s q lt down)) w
  replace_keeps_good d B w down has =
      let s = d.store in
      let z = b_sizes s true w.sizes in
      same_marks s (replace d B).store (record { are = z.are })
      (record { free = w.here.free; alone = λ e. absurd (let f = has refl in cc); whole = w.here.whole; within = w.here.within; queued = w.here.queued }) refl
      (λ q lt. ap (λ (v : Bool). record (track_at c s q) { level = v }) (b_level s q lt down)) w

  split_sizes : (s : Store F P H) → HasSizes s → HasSizes (record s { b = record { up = false; stale = replicate (tracks_of s) false } })
  split_sizes s sizes = let z = b_sizes s false sizes in record { are = z.are }

  split_level : (s : Store F P H) (q : ℕ) (y : Bool) → s.a.up ≡ true → stale_at s.a q ≡ false → (level_at s.a q || y) ≡ has_level s q
  split_level s q y up level = let e : level_at s.a q ≡ true = rw (up, level) refl in rw e refl

  -- side B leaves, where every track is level on side A
  pub split_keeps_good : (d : Device F P H) → IsWell c d.store → d.store.half ≡ None → d.store.a.up ≡ true →
      ((q : ℕ) → q < tracks_of d.store → stale_at d.store.a q ≡ false) → Keeps c faithful d.store (split d).store
  unfolding M.track_at C.rest_of
  split_keeps_good d w none up level =
      let s = d.store in
      let z = split_sizes s w.sizes in
      same_marks s (split d).store (record { are = z.are })
      (record { free = w.here.free; alone = λ e. refl; whole = λ e. none; within = w.here.within; queued = w.here.queued }) refl
      (λ q lt. ap (λ (v : Bool). record (track_at c s q) { level = v })
      (split_level s q (level_at (split d).store.b q) up (level q lt))) w

  pub hold_keeps_good : (d : Device F P H) → IsWell c d.store → Keeps c faithful d.store (hold_side d).store
  unfolding M.track_at C.rest_of
  hold_keeps_good d w =
      same_marks d.store (hold_side d).store (record { are = w.sizes.are })
      (record { free = w.here.free; alone = w.here.alone; whole = w.here.whole; within = w.here.within; queued = w.here.queued }) refl (λ q lt. refl) w

  pub resume_keeps_good : (d : Device F P H) → IsWell c d.store → Keeps c faithful d.store (resume d).store
  unfolding M.track_at C.rest_of
  resume_keeps_good d w =
      same_marks d.store (resume d).store (record { are = w.sizes.are })
      (record { free = w.here.free; alone = w.here.alone; whole = w.here.whole; within = w.here.within; queued = w.here.queued }) refl (λ q lt. refl) w

  -- A device that is lent

  -- no side, no half write, and of no track a frame, a patch or a lost mark
  pub record IsGone (s : Store F P H) : Type 0 where
    pub sizes : HasSizes s
    pub single : s.paired ≡ false
    pub other : s.b.up ≡ false
    pub none : s.half ≡ None
    pub queued : AreBelow (tracks_of s) s.queue
    pub frame : (q : ℕ) → q < tracks_of s → (track_at c s q).frame ≡ None
    pub patched : (q : ℕ) → q < tracks_of s → (track_at c s q).patched ≡ false
    pub lost : (q : ℕ) → q < tracks_of s → (track_at c s q).lost ≡ false

  restored_sizes : (s : Store F P H) → HasSizes s →
      HasSizes (record s { a = new_side (tracks_of s) false; loose = replicate (tracks_of s) false })
  restored_sizes s sizes =
      let z = a_sizes s false sizes in
      let all : length s.loose ≡ tracks_of s = cc (sizes.are) in
      record {
        are =
            ap (λ (k : ℕ). length (replicate (tracks_of s) false) ∷ length s.b.stale ∷ length s.frames ∷ length s.patches ∷ length s.lost ∷ k
            ∷ length s.owed ∷ []) (length-replicate (tracks_of s) false ∙ sym all) ∙ z.are;
      }

  restored_marks : (x : TrackMarks) (o v : Bool) → x.frame ≡ None → x.patched ≡ false → x.lost ≡ false → x.half ≡ false → o ≡ false → v ≡ true →
      is_good (record x { loose = o; level = v }) ≡ true
  restored_marks x o v frame patched lost half firm level = rw frame (rw patched (rw lost (rw firm (rw level (given_good x.half half)))))

  gone_half : (s : Store F P H) (q : ℕ) → s.half ≡ None → (track_at c s q).half ≡ false
  unfolding M.track_at
  gone_half s q e = ap (λ (o : Option (HalfWrite H)). half_is o q) e

  given_level : (n q : ℕ) (y : Bool) → ((true && not (get_or (replicate n false) q false)) || y) ≡ true
  given_level n q y = rw (empty_places n q false) refl

  -- with its empty volume it is good
  pub restore_makes_good : (d : Device F P H) → IsGone d.store → Keeps c faithful d.store (restore d).store
  unfolding M.track_at C.rest_of
  restore_makes_good d g =
      let s = d.store in
      let z = restored_sizes s g.sizes in
      record {
        well = record {
          sizes = record { are = z.are };
          here = record { free = refl; alone = λ e. g.other; whole = λ e. g.none; within = λ h e. absurd (let f = g.none in cc); queued = g.queued };
          good = λ q lt. restored_marks (track_at c s q) _ _ (g.frame q lt) (g.patched q lt) (g.lost q lt) (gone_half s q g.none)
              (empty_places (tracks_of s) q false) (given_level (tracks_of s) q (level_at s.b q));
          kept = λ q lt h. g.lost q lt;
        };
        tracks = refl;
      }

  abbrev bare : ℕ → TrackMarks → TrackMarks
  bare q x = record x { frame = None; patched = false }

  given_step : (z : Store F P H) (n : ℕ) → n < tracks_of z → HasSizes z → IsHere (rest_of z) →
      Changed c z (given_up c n z) n (bare n (track_at c z n))
  given_step z n lt sizes here =
      let f = changed_unframed c z n lt sizes in
      let y = without_frame z n in
      let same = same_tracks z y f.rest in
      let g = changed_unpatched c y n (omega arith) f.sizes in
      changed_twice c f (record {
        sizes = g.sizes;
        rest = g.rest;
        elsewhere = g.elsewhere;
        here = g.here ∙ ap (λ (x : TrackMarks). record x { patched = false }) f.here;
      })

  lent_sizes : (s : Store F P H) (to : ℕ) → HasSizes s → HasSizes (lent_to s to)
  lent_sizes s to sizes =
      let z = a_sizes s false sizes in
      let all : length s.lost ≡ tracks_of s = cc (sizes.are) in
      record {
        are =
            ap (λ (k : ℕ). length (replicate (tracks_of s) false) ∷ length s.b.stale ∷ length s.frames ∷ length s.patches ∷ k ∷ length s.loose
            ∷ length s.owed ∷ []) (length-replicate (tracks_of s) false ∙ sym all) ∙ z.are;
      }

  up_b_same : (s z : Store F P H) → rest_of z ≡ rest_of s → z.b.up ≡ s.b.up
  unfolding C.rest_of
  up_b_same s z e = ap (λ (r : Rest H). r.up_b) e

  paired_same : (s z : Store F P H) → rest_of z ≡ rest_of s → z.paired ≡ s.paired
  unfolding C.rest_of
  paired_same s z e = ap (λ (r : Rest H). r.paired) e

  lent_gone : (s z : Store F P H) (to : ℕ) → Swept c bare s z (tracks_of s) → IsHere (rest_of s) → s.paired ≡ false → s.half ≡ None → IsGone (lent_to z to)
  unfolding M.track_at
  lent_gone s z to e here single none =
      let same : tracks_of z ≡ tracks_of s = same_tracks s z e.rest in
      let u = lent_sizes z to e.sizes in
      record {
        sizes = record { are = u.are };
        single = paired_same s z e.rest ∙ single;
        other = up_b_same s z e.rest ∙ is_alone s here single;
        none = same_half s z e.rest ∙ none;
        queued = tt;
        frame = λ q lt. ap (λ (x : TrackMarks). x.frame) (e.changed q (omega arith));
        patched = λ q lt. ap (λ (x : TrackMarks). x.patched) (e.changed q (omega arith));
        lost = λ q lt. empty_places (tracks_of z) q false;
      }

  -- what is lent then
  pub lent_now_gone : (s : Store F P H) (to : ℕ) → IsWell c s → s.paired ≡ false → s.half ≡ None → IsGone (lent_to (over (tracks_of s) (given_up c) s) to)
  lent_now_gone s to w single none =
      lent_gone s (over (tracks_of s) (given_up c) s) to (swept c bare (given_up c) given_step (tracks_of s) s (omega arith) w.sizes w.here) w.here single none
