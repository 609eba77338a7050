-- The events of a device keep good marks good: a second part, what it does by itself, a look past the channel, and the reset of a path.
use Rattle.std.proofs.Common.{◌≡◌, ◌<◌, ◌==◌, ℕ, Bool, true, false, Option, Some, None, refl, sym, ap, subst, ◌∙◌, arith}
use Rattle.std.specs.Prelude.{if◌then◌else◌}
use Rattle.ckd_chain.specs.State.{ChainState}
use Rattle.ckd_types.specs.declared.record.Edit.{Edit}
use Rattle.plain_defs.specs.History.{OpenEntry, has_used}
use Rattle.plain_defs.specs.PlainState.{reset_path}
use Rattle.track_image.specs.Image.{Image}
use Rattle.device_outside.specs.Interaction.{Interaction, Done, and_then}
use Rattle.device_defs.specs.Background.{work}
use Rattle.device_defs.specs.Contents.{Contents}
use Rattle.device_defs.specs.Cutting as U
use Rattle.device_defs.specs.Cutting.{origin_cut, half_cut, reset_noted, path_cut, reset_by, reset}
use Rattle.device_defs.specs.Device.{Device, with_store, event_begun, quiet_event, event}
use Rattle.device_defs.specs.Effects.{with_edit}
use Rattle.device_defs.specs.Events as E
use Rattle.device_defs.specs.Events.{second_turn, command_ended, second_ended, second_of, second, background}
use Rattle.device_defs.specs.Image.{Imaged}
use Rattle.device_defs.specs.Memory.{had_by}
use Rattle.device_defs.specs.Outcomes.{turned}
use Rattle.device_defs.specs.Owed.{waiting_count}
use Rattle.device_defs.specs.Peek as Y
use Rattle.device_defs.specs.Peek.{Peeked, peek_usage, peeked, peek_image, is_in_half, peek_half, peek_track, peek}
use Rattle.device_defs.specs.Store.{Origin, OfCommand, OfCut, OfBackground, HalfWrite, Store, tracks_of, is_lost, half_is}
use Rattle.device_laws.proofs.Always.{Always, always_done, always_try, always_tell, always_then, always_weaker}
use Rattle.device_laws.proofs.Changes as C
use Rattle.device_laws.proofs.Changes.{rest_of}
use Rattle.device_laws.proofs.Done.{Keeps, goes_keeps, keeps_on}
use Rattle.device_laws.proofs.FailedCall.{IsKept, IsWell, Goes, stays, goes_on, goes_same}
use Rattle.device_laws.proofs.KeptEvents.{always_if}
use Rattle.device_laws.proofs.LossEvents.{begun_same}
use Rattle.device_laws.proofs.Notices.{hearing_keeps_good, ending_changes_no_mark}
use Rattle.device_laws.proofs.SecondPart.{second_part_keeps_good}
use Rattle.device_laws.proofs.Sweeps.{IsHere, half_within}
use Rattle.device_laws.proofs.TrackMarks as M
use Rattle.device_laws.proofs.TrackMarks.{TrackMarks, IsFaithful, is_good, track_at}
use Rattle.device_laws.proofs.WholeImage.{image_keeps_good}
use Rattle.device_laws.proofs.walks.Events.{turned_same}
use Rattle.device_laws.proofs.Working.{work_keeps_good}

module _ {F P H R : Type 0} (c : Contents F P H R) (faithful : IsFaithful c) where
  still : (s : Store F P H) → IsWell c s → Keeps c faithful s s
  still s w = goes_keeps c faithful s s (stays c s w)

  -- An event keeps good marks good where its body does

  pub quiet_event_keeps : {A : Type 0} (d : Device F P H) (body : Device F P H → Interaction R Image (Device F P H) A) →
      Always (body (event_begun d)) (λ y _. Keeps c faithful d.store y.store) → Always (quiet_event c d body) (λ y _. Keeps c faithful d.store y.store)
  quiet_event_keeps d body does =
      always_then does
      (λ y a g. always_then (ending_changes_no_mark c (waiting_count c d.store) y.store g.well.sizes)
      (λ z _ e. always_done (keeps_on c faithful d.store y.store z g (goes_keeps c faithful y.store z (goes_same c y.store z g.well e)))))

  pub event_keeps : {A : Type 0} (d : Device F P H) (body : Device F P H → Interaction R Image (Device F P H) A) → IsWell c d.store →
      ((s : Store F P H) → Goes c d.store s → Always (body (record (event_begun d) { store = s })) (λ y _. Keeps c faithful s y.store)) →
      Always (event c d body) (λ y _. Keeps c faithful d.store y.store)
  event_keeps d body w does =
      let front = goes_same c d.store (event_begun d).store w (begun_same c faithful d w) in
      always_then {p = λ y _. Keeps c faithful d.store y.store}
      (always_then (hearing_keeps_good c 960 (event_begun d).store front.well)
      (λ s _ f. let all = goes_on c d.store (event_begun d).store s front f in
      always_weaker (does s all) (λ y _ g. keeps_on c faithful d.store s y.store (goes_keeps c faithful d.store s all) g)))
      (λ y a g. always_then (ending_changes_no_mark c (waiting_count c d.store) y.store g.well.sizes)
      (λ z _ e. always_done (keeps_on c faithful d.store y.store z g (goes_keeps c faithful y.store z (goes_same c y.store z g.well e)))))

  same_store : (s : Store F P H) (y z : Device F P H) → z.store ≡ y.store → Keeps c faithful s y.store → Keeps c faithful s z.store
  same_store s y z e k = subst (λ (x : Store F P H). Keeps c faithful s x) (sym e) k

  -- The second part as an event

  ended_by : (s : Store F P H) (d : Device F P H) (t : ℕ) (o : Option OpenEntry) (chain : Option ChainState) (done : Bool) →
      Keeps c faithful s d.store → Always (command_ended c d t o chain done) (λ y _. Keeps c faithful s y.store)
  ended_by s d t (Some o) (Some chain) done k =
      let turn = second_turn c chain done in
      always_done (same_store s d (turned d o.path turn) (turned_same d o.path turn.chain turn.came) k)
  ended_by s d t (Some o) None done k = always_done k
  ended_by s d t None chain done k = always_done k

  second_end : (s : Store F P H) (d : Device F P H) (t : ℕ) (origin : Origin) (done : Bool) →
      Keeps c faithful s d.store → Always (second_ended c d t origin done) (λ y _. Keeps c faithful s y.store)
  second_end s d t (OfCommand bypass e) done k = ended_by s d t d.history.running d.chain done k
  second_end s d t (OfCut bypass) done k = always_done k
  second_end s d t OfBackground done k = always_done k

  by_half : (d : Device F P H) (o : Option (HalfWrite H)) → d.store.half ≡ o → IsWell c d.store →
      Always (second_of c d o) (λ y _. Keeps c faithful d.store y.store)
  by_half d (Some h) e w =
      always_then (second_part_keeps_good c faithful d.store h (half_within d.store w.here h e) w e)
      (λ s done k. second_end d.store (with_store d s) h.track h.origin done k)
  by_half d None e w = always_done (still d.store w)

  pub second_keeps_good : (d : Device F P H) → IsWell c d.store → Always (second c d) (λ y _. Keeps c faithful d.store y.store)
  unfolding E.second
  second_keeps_good d w =
      event_keeps d (λ z. second_of c z z.store.half) w (λ s g. by_half (record (event_begun d) { store = s }) s.half refl g.well)

  -- by itself, while no half write is open
  pub background_keeps_good : (d : Device F P H) → IsWell c d.store → d.store.half ≡ None →
      Always (background c d) (λ y _. Keeps c faithful d.store y.store)
  unfolding E.background
  background_keeps_good d w none =
      event_keeps d (λ z. and_then (work c z.store) (λ s did. Done (with_store z s) did)) w
      (λ s g. always_then (work_keeps_good c faithful s g.well (g.half ∙ none)) (λ y _ k. always_done k))

  -- A look past the channel at a track of the device

  found_keeps : (s z : Store F P H) (o : Option Imaged) → Goes c s z →
      Always {R = R} {I = Image} (had_by (λ y i. Done y (Some (peeked i))) z o) (λ y (_ : Option Peeked). Goes c s y)
  found_keeps s z None g = always_done g
  found_keeps s z (Some i) g = always_done g

  peeked_keeps : (s : Store F P H) (t : ℕ) → t < tracks_of s → IsWell c s → Always (peek_image c s t) (λ y (_ : Option Peeked). Goes c s y)
  peeked_keeps s t lt w = always_then (image_keeps_good c faithful s peek_usage t tt lt w) (λ z o x. found_keeps s z o x.goes)

  in_half_keeps : (s : Store F P H) (t : ℕ) (o : Option (HalfWrite H)) → t < tracks_of s → IsWell c s →
      Always (peek_half c s t o) (λ y (_ : Option Peeked). Goes c s y)
  in_half_keeps s t (Some h) lt w =
      always_if (is_in_half c s t h) (always_try (λ ok. always_if ok (always_done (stays c s w)) (always_done (stays c s w)))) (peeked_keeps s t lt w)
  in_half_keeps s t None lt w = peeked_keeps s t lt w

  track_keeps : (s : Store F P H) (t : ℕ) → t < tracks_of s → IsWell c s → Always (peek_track c s t) (λ y (_ : Option Peeked). Goes c s y)
  track_keeps s t lt w = always_if (is_lost s t) (always_done (stays c s w)) (in_half_keeps s t s.half lt w)

  pub peek_keeps_good : (d : Device F P H) (t : ℕ) → t < tracks_of d.store → IsWell c d.store →
      Always (peek c d t) (λ y _. Keeps c faithful d.store y.store)
  unfolding Y.peek
  peek_keeps_good d t lt w =
      let front = goes_same c d.store (event_begun d).store w (begun_same c faithful d w) in
      quiet_event_keeps d (λ z. and_then (peek_track c z.store t) (λ s found. Done (with_store z s) found))
      (always_then (track_keeps (event_begun d).store t lt front.well)
      (λ z (found : Option Peeked) g. always_done (goes_keeps c faithful d.store z (goes_on c d.store (event_begun d).store z front g))))

  -- What cuts a running program

  cut_marks : (s : Store F P H) (h : HalfWrite H) (e : Edit) (origin : Origin) → s.half ≡ Some h → (q : ℕ) →
      track_at c (record (with_edit s h.track e) { half = Some (record h { origin = origin }) }) q ≡ track_at c s q
  unfolding M.track_at
  cut_marks s h e origin is q = ap (λ (o : Option (HalfWrite H)). record (track_at c s q) { half = half_is o q }) (sym is)

  cut_here : (s : Store F P H) (h : HalfWrite H) (e : Edit) (origin : Origin) → s.half ≡ Some h → IsHere (rest_of s) →
      IsHere (rest_of (record (with_edit s h.track e) { half = Some (record h { origin = origin }) }))
  unfolding C.rest_of
  cut_here s h e origin is here = record {
    free = here.free;
    alone = here.alone;
    whole = λ e'. absurd (let n = here.whole e' in cc);
    within = λ k f. let same : h.track ≡ k.track = ap track_or f in let lt = half_within s here h is in omega arith;
    queued = here.queued;
  }
    where
      track_or : Option (HalfWrite H) → ℕ
      track_or None = 0
      track_or (Some k) = k.track

  by_origin : (s : Store F P H) (h : HalfWrite H) (origin : Origin) → s.half ≡ Some h → IsWell c s →
      Always (origin_cut c s h origin) (λ y _. Keeps c faithful s y)
  by_origin s h (OfCommand bypass e) is w =
      let same = cut_marks s h e (OfCut bypass) is in
      always_tell (λ _. always_done (record {
        well = record {
          sizes = record { are = w.sizes.are };
          here = cut_here s h e (OfCut bypass) is w.here;
          good = λ q lt. ap is_good (same q) ∙ w.good q lt;
          kept = λ q lt. subst IsKept (sym (same q)) (w.kept q lt);
        };
        tracks = refl;
      }))
  by_origin s h (OfCut bypass) is w = always_done (still s w)
  by_origin s h OfBackground is w = always_done (still s w)

  cut_by : (s : Store F P H) (o : Option (HalfWrite H)) → s.half ≡ o → IsWell c s → Always (half_cut c s o) (λ y _. Keeps c faithful s y)
  cut_by s (Some h) is w = by_origin s h h.origin is w
  cut_by s None is w = always_done (still s w)

  pub cutting_keeps_good : (s : Store F P H) → IsWell c s → Always (half_cut c s s.half) (λ y _. Keeps c faithful s y)
  cutting_keeps_good s w = cut_by s s.half refl w

  by_path : (d : Device F P H) (path : ℕ) (b : Bool) → IsWell c d.store →
      Always (if b then path_cut c d path else Done (reset_noted c d path 0) tt) (λ y _. Keeps c faithful d.store y.store)
  by_path d path true w = always_then (cutting_keeps_good d.store w) (λ s _ k. always_done k)
  by_path d path false w = always_done (still d.store w)

  abbrev idle_reset : Device F P H → ℕ → Bool → Interaction R Image (Device F P H) (Unit {0})
  idle_reset d path b = if b then Done (record (reset_noted c d path 0) { paths = reset_path d.paths path }) tt else Done d tt

  by_use : (d : Device F P H) (path : ℕ) (b : Bool) → IsWell c d.store → Always (idle_reset d path b) (λ y _. Keeps c faithful d.store y.store)
  by_use d path true w = always_done (still d.store w)
  by_use d path false w = always_done (still d.store w)

  by_running : (d : Device F P H) (path : ℕ) (o : Option OpenEntry) → IsWell c d.store →
      Always (reset_by c d path o) (λ y _. Keeps c faithful d.store y.store)
  by_running d path (Some o) w = by_path d path (o.path == path) w
  by_running d path None w = by_use d path (has_used d.history path) w

  -- the reset of a path
  pub reset_keeps_good : (d : Device F P H) (path : ℕ) → IsWell c d.store → Always (reset c d path) (λ y _. Keeps c faithful d.store y.store)
  unfolding U.reset
  reset_keeps_good d path w = by_running d path d.history.running w
