-- A device that is lent stays that over its events, over any contents: it keeps nothing of its tracks, and runs no program.
use Rattle.std.proofs.Common.{
  ◌≡◌,
  ◌<◌,
  ◌≤◌,
  zero,
  suc,
  ℕ,
  Bool,
  true,
  false,
  List,
  [],
  ◌∷◌,
  ◌++◌,
  length,
  Option,
  Some,
  None,
  is_some,
  refl,
  sym,
  ap,
  subst,
  ◌∙◌,
  arith,
  ◌⊎◌,
  inl,
  inr,
}
use Rattle.std.proofs.lemmas.Bool.{cases_lt}
use Rattle.std.proofs.lemmas.List.{get_or_past, length-replicate}
use Rattle.std.specs.Prelude.{if◌then◌else◌}
use Rattle.plain_defs.specs.declared.journal.Act.TheVariants.{CfwLost}
use Rattle.plain_defs.specs.History.{OpenEntry}
use Rattle.loss_model.specs.declared.Loss.{Loss}
use Rattle.loss_model.specs.declared.Loss.TheVariants as losses
use Rattle.track_image.specs.Image.{Image}
use Rattle.track_table.proofs.Places.{empty_places}
use Rattle.device_outside.specs.Interaction.{Interaction, Done, and_then}
use Rattle.device_defs.specs.Background.{work}
use Rattle.device_defs.specs.Between.{HasSizes}
use Rattle.device_defs.specs.Contents.{Contents}
use Rattle.device_defs.specs.Cutting as U
use Rattle.device_defs.specs.Cutting.{counts_one_by, half_cut, half_lost, loose_gone, powerless, powered_off, power, reset_by, reset}
use Rattle.device_defs.specs.Device.{Device, with_store, event_begun, quiet_event, event}
use Rattle.device_defs.specs.Effects.{act_noted, gone_back, loose_lost}
use Rattle.device_defs.specs.Events as E
use Rattle.device_defs.specs.Events.{with_loss, lost_by, losing, background, lose}
use Rattle.device_defs.specs.Losses as L
use Rattle.device_defs.specs.Losses.{over, cache_lost, store_lost}
use Rattle.device_defs.specs.Orders as D
use Rattle.device_defs.specs.Orders.{with_tracks, lent_to, given_up, lend, restore}
use Rattle.device_defs.specs.Owed as O
use Rattle.device_defs.specs.Owed.{heard, hear, waiting_count}
use Rattle.device_defs.specs.Store.{HalfWrite, Store, tracks_of, frame_at, patch_at, is_lost, has_loose}
use Rattle.device_laws.specs.InOrder.{AreBelow}
use Rattle.device_laws.proofs.Always.{Always, always_done, always_ask, always_then, always_weaker}
use Rattle.device_laws.proofs.Changes as C
use Rattle.device_laws.proofs.Changes.{Rest, rest_of}
use Rattle.device_laws.proofs.FailedCall.{IsWell, IsSame, goes_same, told_same}
use Rattle.device_laws.proofs.KeptEvents.{always_if}
use Rattle.device_laws.proofs.Lent.{all_idle, reset_idle, power_idle, dropped_same, swept_same, patches_same, work_none}
use Rattle.device_laws.proofs.LossEvents.{begun_same}
use Rattle.device_laws.proofs.Notices.{ending_changes_no_mark}
use Rattle.device_laws.proofs.OrderMarks.{IsGone, restore_makes_good, lent_now_gone}
use Rattle.device_laws.proofs.TrackMarks as M
use Rattle.device_laws.proofs.TrackMarks.{TrackMarks, IsFaithful, track_at}
use Rattle.device_defs.specs.declared.counts.Counts.{Counts}
use Rattle.plain_defs.specs.declared.journal.Act.{Act}

module _ {F P H : Type 0} where
  -- of a store that is lent
  pub record IsLentOut (s : Store F P H) : Type 0 where
    pub sizes : HasSizes s
    pub lent : is_some s.lent ≡ true
    pub single : s.paired ≡ false
    pub down : s.a.up ≡ false
    pub other : s.b.up ≡ false
    pub none : s.half ≡ None
    pub queue : s.queue ≡ []
    pub frame : (q : ℕ) → frame_at s q ≡ None
    pub patch : (q : ℕ) → patch_at s q ≡ None
    pub lost : (q : ℕ) → is_lost s q ≡ false

  -- no program runs on its device
  pub record Gone (d : Device F P H) : Type 0 where
    pub store : IsLentOut d.store
    pub idle : d.history.running ≡ None

  -- Data of cache fast write go

  gone_back_away : (s : Store F P H) → IsLentOut s → IsLentOut (gone_back s)
  gone_back_away s i =
      let all : length s.loose ≡ tracks_of s = cc (i.sizes.are) in
      record {
        sizes = record {
          are =
              ap (λ (k : ℕ). length s.a.stale ∷ length s.b.stale ∷ length s.frames ∷ length s.patches ∷ length s.lost ∷ k ∷ length s.owed ∷ [])
              (length-replicate (tracks_of s) false ∙ sym all) ∙ i.sizes.are;
        };
        lent = i.lent;
        single = i.single;
        down = i.down;
        other = i.other;
        none = i.none;
        queue = i.queue;
        frame = i.frame;
        patch = i.patch;
        lost = i.lost;
      }

  -- acts and counts aren't of its tracks, and nothing is queued
  beside_away : (s : Store F P H) (acts : List Act) (counts : Counts) → IsLentOut s → IsLentOut (record s { acts = acts; counts = counts })
  beside_away s acts counts i = record {
    sizes = record { are = i.sizes.are };
    lent = i.lent;
    single = i.single;
    down = i.down;
    other = i.other;
    none = i.none;
    queue = i.queue;
    frame = i.frame;
    patch = i.patch;
    lost = i.lost;
  }

  unqueued_away : (s : Store F P H) → IsLentOut s → IsLentOut (record s { queue = [] })
  unqueued_away s i = subst (λ (l : List ℕ). IsLentOut (record s { queue = l })) i.queue i

  loose_away : (s : Store F P H) (b : Bool) → IsLentOut s → IsLentOut (record (if b then act_noted (gone_back s) CfwLost else s) { queue = [] })
  loose_away s true i =
      unqueued_away (act_noted (gone_back s) CfwLost) (beside_away (gone_back s) (s.acts ++ CfwLost ∷ []) s.counts (gone_back_away s i))
  loose_away s false i = unqueued_away s i

  powerless_away : (s : Store F P H) (b : Bool) → IsLentOut s → IsLentOut (record (if b then gone_back s else s) { queue = [] })
  powerless_away s true i = unqueued_away (gone_back s) (gone_back_away s i)
  powerless_away s false i = unqueued_away s i

  begun_away : (d : Device F P H) → IsLentOut d.store → IsLentOut (event_begun d).store
  begun_away d i = beside_away d.store [] d.store.counts i

  counted_away : (s : Store F P H) (loss : Loss) → IsLentOut s → IsLentOut (with_loss s loss)
  counted_away s loss i = beside_away s s.acts (with_loss s loss).counts i

module _ {F P H R : Type 0} (c : Contents F P H R) where
  frame_of : (o : Option F) → M.frame_mark c o ≡ None → o ≡ None
  frame_of None e = refl
  frame_of (Some f) e = absurd (cc)

  patch_of : (o : Option P) → is_some o ≡ false → o ≡ None
  patch_of None e = refl
  patch_of (Some p) e = absurd (cc)

  -- with the same marks
  same_away : (s z : Store F P H) → IsLentOut s → IsSame c s z → IsLentOut z
  unfolding M.track_at C.rest_of
  same_away s z i e = record {
    sizes = e.sizes;
    lent = ap (λ (r : Rest H). is_some r.lent) e.rest ∙ i.lent;
    single = ap (λ (r : Rest H). r.paired) e.rest ∙ i.single;
    down = ap (λ (r : Rest H). r.up_a) e.rest ∙ i.down;
    other = ap (λ (r : Rest H). r.up_b) e.rest ∙ i.other;
    none = ap (λ (r : Rest H). r.half) e.rest ∙ i.none;
    queue = ap (λ (r : Rest H). r.queue) e.rest ∙ i.queue;
    frame = λ q. frame_of (frame_at z q) (ap (λ (x : TrackMarks). x.frame) (e.marks q) ∙ ap (M.frame_mark c) (i.frame q));
    patch = λ q. patch_of (patch_at z q) (ap (λ (x : TrackMarks). x.patched) (e.marks q) ∙ ap (λ (o : Option P). is_some o) (i.patch q));
    lost = λ q. ap (λ (x : TrackMarks). x.lost) (e.marks q) ∙ i.lost q;
  }

  -- Losses

  lost_away : (s : Store F P H) (loss : Loss) → ((side : _) → loss ≡ losses.Side side → ⊥) → IsLentOut s → IsLentOut (lost_by c s loss)
  unfolding L.cache_lost L.store_lost
  lost_away s losses.Cache other i =
      let z = record (loose_lost s) { queue = [] } in
      let j = loose_away s (has_loose s) i in
      subst IsLentOut (sym (swept_same c (tracks_of s) z j.frame j.lent)) j
  lost_away s losses.Store other i = subst IsLentOut (sym (patches_same c (tracks_of s) s i.patch)) i
  lost_away s (losses.Side side) other i = absurd (other side refl)

  losing_away : (s : Store F P H) (loss : Loss) → ((side : _) → loss ≡ losses.Side side → ⊥) → IsLentOut s → Always (losing c s loss) (λ z _. IsLentOut z)
  losing_away s loss other i =
      let j = lost_away (with_loss s loss) loss other (counted_away s loss i) in
      always_weaker (told_same c (tracks_of s) (lost_by c (with_loss s loss) loss) j.sizes)
      (λ z _ e. same_away (lost_by c (with_loss s loss) loss) z j e)

  off_away : (s : Store F P H) → IsLentOut s → IsLentOut (powerless c s)
  off_away s i =
      let z = record (half_lost c (loose_gone c s) s.half) { queue = [] } in
      let same : record (loose_gone c s) { queue = [] } ≡ z =
      ap (λ (h : Option (HalfWrite H)). record (half_lost c (loose_gone c s) h) { queue = [] }) (sym i.none) in
      let j : IsLentOut z = subst IsLentOut same (powerless_away s (has_loose s) i) in
      subst IsLentOut (sym (swept_same c (tracks_of s) z j.frame j.lent)) j

  -- Events

  heard_still : (n : ℕ) (s : Store F P H) → IsLentOut s → (note : Option ℕ) → Always (hear c n s) (λ z _. z ≡ s) →
      Always (heard c (hear c n) s note) (λ z _. z ≡ s)
  heard_still n s i None later = always_done refl
  heard_still n s i (Some t) later =
      subst (λ (x : Store F P H). Always (hear c n x) (λ z _. z ≡ s)) (sym (dropped_same c s t (i.frame t))) later

  hear_still : (n : ℕ) (s : Store F P H) → IsLentOut s → Always (hear c n s) (λ z _. z ≡ s)
  unfolding O.hear
  hear_still zero s i = always_done refl
  hear_still (suc n) s i = always_ask (λ note. heard_still n s i note (hear_still n s i))

  quiet_away : {A : Type 0} (d : Device F P H) (body : Device F P H → Interaction R Image (Device F P H) A) → Always (body (event_begun d)) (λ y _. Gone y) →
      Always (quiet_event c d body) (λ y _. Gone y)
  quiet_away d body does =
      always_then does
      (λ y a g. always_then (ending_changes_no_mark c (waiting_count c d.store) y.store g.store.sizes)
      (λ z _ e. always_done (record { store = same_away y.store z g.store e; idle = g.idle })))

  event_away : {A : Type 0} (d : Device F P H) (body : Device F P H → Interaction R Image (Device F P H) A) → Gone d →
      Always (body (event_begun d)) (λ y _. Gone y) → Always (event c d body) (λ y _. Gone y)
  event_away d body g does =
      quiet_away d (λ z. and_then (hear c 960 z.store) (λ s _. body (record z { store = s })))
      (always_then (hear_still 960 (event_begun d).store (begun_away d g.store)) (λ s _ e. rw e does))

  pub background_away : (d : Device F P H) → Gone d → Always (background c d) (λ y _. Gone y)
  unfolding E.background
  background_away d g =
      let s = (event_begun d).store in
      let i = begun_away d g.store in
      event_away d (λ z. and_then (work c z.store) (λ y did. Done (with_store z y) did)) g
      (rw (work_none c s i.down i.other i.queue) (always_done (record { store = i; idle = all_idle d.history s.acts g.idle })))

  pub loss_away : (d : Device F P H) (loss : Loss) → ((side : _) → loss ≡ losses.Side side → ⊥) → Gone d → Always (lose c d loss) (λ y _. Gone y)
  unfolding E.lose
  loss_away d loss other g =
      event_away d (λ z. and_then (losing c z.store loss) (λ s _. Done (with_store z s) tt)) g
      (always_then (losing_away (event_begun d).store loss other (begun_away d g.store))
      (λ s _ i. always_done (record { store = i; idle = all_idle d.history s.acts g.idle })))

  pub power_away : (d : Device F P H) → Gone d → Always (power c d) (λ y _. Gone y)
  unfolding U.power
  power_away d g =
      let s = (event_begun d).store in
      let i = begun_away d g.store in
      quiet_away d (λ z. and_then (half_cut c z.store z.store.half) (λ x _. Done (powered_off c z x) tt))
      (subst (λ (h : Option (HalfWrite H)). Always (and_then (half_cut c s h) (λ x _. Done (powered_off c (event_begun d) x) (tt {0}))) (λ y _. Gone y))
      (sym i.none)
      (always_done (record {
        store = off_away (with_loss s losses.Cache) (counted_away s losses.Cache i);
        idle = power_idle d.history (counts_one_by s.half) g.idle;
      })))

  reset_away_by : (d : Device F P H) (path : ℕ) (r : Option OpenEntry) → r ≡ None → Gone d → Always (reset_by c d path r) (λ y _. Gone y)
  reset_away_by d path (Some o) none g = absurd (cc)
  reset_away_by d path None none g =
      always_if _ (always_done (record { store = g.store; idle = reset_idle d.history path 0 g.idle })) (always_done g)

  pub reset_away : (d : Device F P H) (path : ℕ) → Gone d → Always (reset c d path) (λ y _. Gone y)
  unfolding U.reset
  reset_away d path g = reset_away_by d path d.history.running g.idle g

  -- Lent, and given back

  past_frame : (s : Store F P H) (q : ℕ) → HasSizes s → tracks_of s ≤ q → frame_at s q ≡ None
  past_frame s q sizes le = let all : length s.frames ≡ tracks_of s = cc (sizes.are) in get_or_past s.frames q None (omega arith)

  past_patch : (s : Store F P H) (q : ℕ) → HasSizes s → tracks_of s ≤ q → patch_at s q ≡ None
  past_patch s q sizes le = let all : length s.patches ≡ tracks_of s = cc (sizes.are) in get_or_past s.patches q None (omega arith)

  module _ (faithful : IsFaithful c) where
    frame_gone : (s : Store F P H) → IsGone c faithful s → (q : ℕ) → (q < tracks_of s) ⊎ (tracks_of s ≤ q) → frame_at s q ≡ None
    unfolding M.track_at
    frame_gone s g q (inl lt) = frame_of (frame_at s q) (g.frame q lt)
    frame_gone s g q (inr le) = past_frame s q g.sizes le

    patch_gone : (s : Store F P H) → IsGone c faithful s → (q : ℕ) → (q < tracks_of s) ⊎ (tracks_of s ≤ q) → patch_at s q ≡ None
    unfolding M.track_at
    patch_gone s g q (inl lt) = patch_of (patch_at s q) (g.patched q lt)
    patch_gone s g q (inr le) = past_patch s q g.sizes le

    pub lend_away : (d : Device F P H) (to : ℕ) → IsWell c d.store → d.store.paired ≡ false → d.store.half ≡ None → d.history.running ≡ None →
        Always (lend c d to) (λ y _. Gone y)
    unfolding D.lend
    lend_away d to w single none idle =
        let s = (event_begun d).store in
        let front = goes_same c d.store s w (begun_same c faithful d w) in
        let z = over (tracks_of s) (given_up c) s in
        let y = lent_to z to in
        let g = lent_now_gone c faithful s to front.well single none in
        quiet_away d (λ x. Done (with_tracks x (lent_to (over (tracks_of x.store) (given_up c) x.store) to)) tt)
        (always_done (record {
          store = record {
            sizes = g.sizes;
            lent = refl;
            single = g.single;
            down = refl;
            other = g.other;
            none = g.none;
            queue = refl;
            frame = λ q. frame_gone y g q (cases_lt q (tracks_of y));
            patch = λ q. patch_gone y g q (cases_lt q (tracks_of y));
            lost = λ q. empty_places (tracks_of z) q false;
          };
          idle = idle;
        }))

    away_gone : (s : Store F P H) → IsLentOut s → IsGone c faithful s
    unfolding M.track_at
    away_gone s i = record {
      sizes = i.sizes;
      single = i.single;
      other = i.other;
      none = i.none;
      queued = subst (λ (l : List ℕ). AreBelow (tracks_of s) l) (sym i.queue) tt;
      frame = λ q lt. ap (M.frame_mark c) (i.frame q);
      patched = λ q lt. ap (λ (o : Option P). is_some o) (i.patch q);
      lost = λ q lt. i.lost q;
    }

    pub restored_well : (d : Device F P H) → IsLentOut d.store → IsWell c (restore d).store
    restored_well d i = (restore_makes_good c faithful d (away_gone d.store i)).well
