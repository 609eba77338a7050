-- A command, and work in the background, of a pair of which both sides have all tracks, where one call of its volumes fails: no track is lost, and the
-- command ends with no equipment check.
use Rattle.std.proofs.Common.{
  ◌≡◌,
  ◌<◌,
  ◌≤◌,
  ◌+◌,
  ◌*◌,
  zero,
  suc,
  ℕ,
  Bool,
  true,
  false,
  List,
  [],
  ◌∷◌,
  Option,
  Some,
  None,
  is_some,
  refl,
  sym,
  ap,
  subst,
  ◌∙◌,
  arith,
}
use Rattle.std.specs.Prelude.{if◌then◌else◌, ◌&&◌, ◌||◌, not}
use Rattle.ckd_chain.specs.declared.progress.Progress.{Progress}
use Rattle.ckd_chain.specs.declared.progress.Progress.TheVariants as progresses
use Rattle.ckd_chain.specs.State.{ChainState}
use Rattle.ckd_chain.specs.Steps.{need_of, stepped}
use Rattle.ckd_types.specs.declared.paths.Side.{Side}
use Rattle.ckd_types.specs.declared.paths.Side.TheVariants as sides
use Rattle.plain_defs.specs.History.{OpenEntry}
use Rattle.track_image.specs.Image.{Image}
use Rattle.device_outside.specs.Interaction.{Interaction, Done, and_then}
use Rattle.device_defs.specs.declared.answers.Did.{Did}
use Rattle.device_defs.specs.declared.answers.Did.TheVariants.{Recovered, Destaged}
use Rattle.device_defs.specs.declared.answers.Took.{Took}
use Rattle.device_defs.specs.declared.usage.Usage.{Usage}
use Rattle.device_defs.specs.Background as B
use Rattle.device_defs.specs.Background.{
  copies_to,
  to_copy,
  to_recover,
  to_destage,
  is_destaged,
  saved_by,
  saving,
  saved,
  recovered_bytes,
  recover,
  copy_by,
  staged_bytes,
  staging_granted,
  stage,
  destage_first,
  stage_first,
  copy_first,
  recover_first,
  work,
}
use Rattle.device_defs.specs.Command as N
use Rattle.device_defs.specs.Command.{
  Went,
  Over,
  On,
  has_loss,
  came_of_write,
  went_by,
  looked,
  look,
  goes_on,
  follow,
  on_tracks,
  answered_by,
  command_at,
  command_by,
  command,
}
use Rattle.device_defs.specs.Contents.{Contents}
use Rattle.device_defs.specs.Device.{Device, with_store, event_begun, event_ended}
use Rattle.device_defs.specs.Events as E
use Rattle.device_defs.specs.Events.{background}
use Rattle.device_defs.specs.Image.{Got, Imaged, Has, NoBytes, BadTrack}
use Rattle.device_defs.specs.Losses.{framed_image}
use Rattle.device_defs.specs.Memory.{had_by}
use Rattle.device_defs.specs.Outcomes.{Turn, usage_of}
use Rattle.device_defs.specs.Owed.{hear, waits, waiting_count}
use Rattle.device_defs.specs.Store.{Store, tracks_of, stale_at, level_at, some_up, takes_b, frame_at, is_lost}
use Rattle.device_defs.specs.Writing.{write_first}
use Rattle.device_laws.specs.Standing.{IsWithin}
use Rattle.device_laws.proofs.BackMoves.{saved_quiet, bytes_quiet}
use Rattle.device_laws.proofs.ChainTracks.{within_stays, whole_cylinders}
use Rattle.device_laws.proofs.Commands.{Stays, LookedAt, look_keeps_good}
use Rattle.device_laws.proofs.FailedCall.{IsWell, goes_same, goes_on as well_on}
use Rattle.device_laws.proofs.LossEvents.{begun_same}
use Rattle.device_laws.proofs.Lucky.{Lucky, lucky_done, lucky_then, lucky_weaker}
use Rattle.device_laws.proofs.Notices.{hearing_keeps_good}
use Rattle.device_laws.proofs.Once.{Once, once_done, once_try, once_ask, once_then, once_always, once_lucky, once_quiet, once_asks, once_if, once_tried}
use Rattle.device_laws.proofs.OneFailed.{Sides, sides_of, OnBoth, steady_a, level_once, image_once, firm_once, first_once, write_once}
use Rattle.device_laws.proofs.HeldPlaces.{never}
use Rattle.device_laws.proofs.PoolWalks.{hear_asks}
use Rattle.device_laws.proofs.QuietParts.{Quiet, quiet_done, quiet_then, ended_quiet}
use Rattle.device_laws.proofs.TrackImage.{level_bytes_keeps_good}
use Rattle.device_laws.proofs.TrackMarks.{IsFaithful}
use Rattle.device_laws.proofs.Unchecked.{HasBytes, WasTaken, WentSo, TurnSo, StepIs, step_is, lucky_both, wrote_so, looked_so, look_so, follow_so}
use Rattle.device_laws.proofs.UncheckedEvents.{equipment_checks, on_has}
use Rattle.device_laws.proofs.Unlost.{core_of, Steady, steady_on, fine}
use Rattle.device_laws.proofs.UnlostParts.{saved_by_goes, staged_bytes_goes, on_goes, end_goes}
use Rattle.device_laws.proofs.invariants.NoTrackIsLost.{recovered_bytes_goes, looked_goes, follow_goes}
use Rattle.device_laws.proofs.WholeImage.{Reaches, image_keeps_good}
use Rattle.device_laws.proofs.Working.{found_if}

both_take : {H : Type 0} (x : Sides H) (t : Option ℕ) → OnBoth t x → (x.a.up || (x.b.up && not x.held)) ≡ true
both_take x t o = ap (λ (b : Bool). b || (x.b.up && not x.held)) o.up_a

module _ {F P H R : Type 0} (c : Contents F P H R) where
  -- Notices, and the end of an event

  pub hear_same : {q : Store F P H → Unit {0} → Type 0} (x : Sides H) (n : ℕ) (s : Store F P H) → sides_of s ≡ x →
      Once (λ y _. sides_of y ≡ x) q (hear c n s)
  hear_same x n s e = once_asks (hear_asks c (λ z. sides_of z ≡ x) (λ z t clean f. f) n s e)

  module _ {A : Type 0} where
    pub end_quiet : (d y : Device F P H) (a : A) → Quiet (event_ended c d y a)
    end_quiet d y a = quiet_then (λ z _. Done (record y { store = z }) a) (ended_quiet c (waiting_count c d.store) y.store) (λ z _. quiet_done)

    pub end_steady : (faithful : IsFaithful c) (n : ℕ) (d y : Device F P H) (a : A) → equipment_checks y.history ≡ n → Steady (core_of y.store) →
        Lucky (λ e _. (equipment_checks e.history ≡ n) × Steady (core_of e.store)) (event_ended c d y a)
    end_steady faithful n d y a same f =
        lucky_then (λ z _. Done (record y { store = z }) a) (end_goes c faithful (waiting_count c d.store) y.store)
        (λ z _ g. lucky_done (same, steady_on (core_of y.store) (core_of z) g f))

  module _ (faithful : IsFaithful c) where
    module _ (n : ℕ) (Within : ChainState → Type 0) (within : Stays n Within) where
      -- From track to track

      abbrev WentOn : Sides H → Store F P H → Option Went → Type 0
      WentOn x z None = Unit {0}
      WentOn x z (Some (Over turn)) = Unit {0}
      WentOn x z (Some (On chain q)) = sides_of z ≡ x

      abbrev WentBy : ℕ → Store F P H → Option Went → Type 0
      WentBy t z o = WentSo t o × Steady (core_of z)

      came_once : {q : Store F P H → Option Went → Type 0} (x : Sides H) (chain : ChainState) (t : ℕ) (s : Store F P H) (o : Option Took) →
          Once (WentOn x) q (had_by (came_of_write c chain t) s o)
      came_once x chain t s (Some took) = once_done tt
      came_once x chain t s None = once_done tt

      came_by : (t : ℕ) (chain : ChainState) (s : Store F P H) (o : Option Took) → WasTaken o → Steady (core_of s) →
          Lucky (WentBy t) (had_by (came_of_write c chain t) s o)
      came_by t chain s (Some took) is f = lucky_done (wrote_so c faithful chain t took is, f)
      came_by t chain s None is f = lucky_done (tt, f)

      went_once : (x : Sides H) (u : Usage) (first t : ℕ) (s : Store F P H) (i : Image) (chain : ChainState) (p : Progress) → StepIs t p chain →
          sides_of s ≡ x → OnBoth None (sides_of s) → Once (WentOn x) (WentBy t) (went_by c u first t s i chain p)
      went_once x u first t s i chain (progresses.Ended e) is same o = once_done tt
      went_once x u first t s i chain (progresses.Need q) is same o = once_done same
      went_once x u first t s i chain (progresses.Write q e) is same o =
          once_then (had_by (came_of_write c chain t)) (write_once c s u first t i e o) (λ z a _. came_once x chain t z a)
          (λ z a f. came_by t chain z a f.0 f.1)
      went_once x u first t s i chain (progresses.Local act) is same o = absurd is

      looked_once : (x : Sides H) (chain : ChainState) (first t : ℕ) (s : Store F P H) (a : Option Imaged) → HasBytes a → need_of chain ≡ Some t →
          sides_of s ≡ x → OnBoth None (sides_of s) → Once (WentOn x) (WentBy t) (had_by (looked c chain first t) s a)
      looked_once x chain first t s None has needs same o = once_done tt
      looked_once x chain first t s (Some (Has i)) has needs same o =
          once_tried s _ tt
          (went_once x (usage_of chain) first t s i (stepped chain (Some i)).chain (stepped chain (Some i)).progress (step_is chain t i needs) same o)
      looked_once x chain first t s (Some (NoBytes fault)) has needs same o = absurd has
      looked_once x chain first t s (Some (BadTrack side)) has needs same o = once_done tt

      look_once : (chain : ChainState) (first t : ℕ) (s : Store F P H) → Within chain → tracks_of s ≡ n → t < tracks_of s → IsWell c s →
          need_of chain ≡ Some t → OnBoth None (sides_of s) → Once (WentOn (sides_of s)) (WentBy t) (look c chain first t s)
      unfolding N.look
      look_once chain first t s is same lt w needs o =
          once_if (is_lost s t) (λ lost. never (is_lost s t) lost (o.kept t))
          (λ _. once_then (had_by (looked c chain first t))
          (once_always (image_keeps_good c faithful s (usage_of chain) t (subst (Reaches (usage_of chain)) (sym same) (within.reaches chain is)) lt w)
          (image_once c s (usage_of chain) t o))
          (λ z a g. looked_once (sides_of s) chain first t z a g.1.0 needs g.1.1 (subst (OnBoth None) (sym g.1.1) o))
          (λ z a g.
          let f = steady_a (sides_of s) z None o g.1.1 in
          let below : t < tracks_of z = let tracks = g.0.goes.tracks in omega arith in
          lucky_weaker
          (lucky_both (looked_goes c faithful chain first t z a g.0.goes.well)
          (looked_so c faithful chain first t z a g.1.0 needs below g.0.goes.well (f.kept t) f.takes))
          (λ y b h. (h.1, steady_on (core_of z) (core_of y) h.0 f))))

      abbrev TurnBy : Store F P H → Option Turn → Type 0
      TurnBy z o = TurnSo o × Steady (core_of z)

      abbrev Follows : ℕ → ℕ → Type 0
      Follows k first = (chain : ChainState) (t : ℕ) (s : Store F P H) → Within chain → tracks_of s ≡ n → t < n → IsWell c s → s.half ≡ None →
          need_of chain ≡ Some t → n ≤ t + k → OnBoth None (sides_of s) → Once (λ z o. Unit {0}) TurnBy (follow c k first chain t s)

      on_once : (k first t : ℕ) (s z : Store F P H) (a : Option Went) → Follows k first → tracks_of s ≡ n → LookedAt c faithful n Within within s z a →
          WentSo t a → n ≤ t + suc k → WentOn (sides_of s) z a → OnBoth None (sides_of s) →
          Once (λ z o. Unit {0}) TurnBy (had_by (goes_on c (follow c k first)) z a)
      on_once k first t s z None later same f so room on o = once_done tt
      on_once k first t s z (Some (Over turn)) later same f so room on o = once_done tt
      on_once k first t s z (Some (On chain q)) later same f so room on o =
          later chain q z f.on.1 (f.keeps.tracks ∙ same) f.on.2 f.keeps.well f.on.0 so.1 (let next = so.0 in omega (arith, next, room))
          (subst (OnBoth None) (sym on) o)

      on_by : (k first t : ℕ) (s z : Store F P H) (a : Option Went) → tracks_of s ≡ n → LookedAt c faithful n Within within s z a → WentSo t a →
          n ≤ t + suc k → Steady (core_of z) → Lucky TurnBy (had_by (goes_on c (follow c k first)) z a)
      on_by k first t s z None same f so room g = lucky_done (tt, g)
      on_by k first t s z (Some (Over turn)) same f so room g = lucky_done (so, g)
      on_by k first t s z (Some (On chain q)) same f so room g =
          lucky_weaker
          (lucky_both (follow_goes c faithful k first chain q z f.keeps.well)
          (follow_so c faithful n Within within k first chain q z f.on.1 (f.keeps.tracks ∙ same) f.on.2 f.keeps.well f.on.0 so.1
          (let next = so.0 in omega (arith, next, room)) g.kept g.takes))
          (λ y b h. (h.1, steady_on (core_of z) (core_of y) h.0 g))

      follow_once : (k first : ℕ) → Follows k first
      unfolding N.follow
      follow_once zero first chain t s is same lt w none needs room o = absurd (omega (arith, lt, room))
      follow_once (suc k) first chain t s is same lt w none needs room o =
          once_then (had_by (goes_on c (follow c k first)))
          (once_always (look_keeps_good c faithful n Within within chain first t s is same (omega arith) w none)
          (once_lucky (look_so c faithful n Within within chain first t s is same (omega arith) w none needs (o.kept t) (both_take (sides_of s) None o))
          (look_once chain first t s is same (omega arith) w needs o)))
          (λ z a g. on_once k first t s z a (follow_once k first) same g.0 g.1.0 room g.1.1 o)
          (λ z a g. on_by k first t s z a same g.0 g.1.0 room g.1.1)

      -- The command

      module _ (m : ℕ) where
        abbrev Comes : {A : Type 0} → Interaction R Image (Device F P H) A → Type 0
        Comes i = Once (λ e a. Unit {0}) (λ e a. (equipment_checks e.history ≡ m) × Steady (core_of e.store)) i

        turned_quiet : (d : Device F P H) (path : ℕ) (chain : ChainState) (s : Store F P H) (o : Option Turn) → Quiet (on_tracks c d path chain s o)
        turned_quiet d path chain s (Some turn) = quiet_done
        turned_quiet d path chain s None = quiet_done

        answered_quiet : (d : Device F P H) (path : ℕ) (chain : ChainState) (p : Progress) → Quiet (answered_by c d path chain p)
        answered_quiet d path chain (progresses.Ended e) = quiet_done
        answered_quiet d path chain (progresses.Local act) = quiet_done
        answered_quiet d path chain (progresses.Need q) = quiet_done
        answered_quiet d path chain (progresses.Write q e) = quiet_done

        at_comes : (d : Device F P H) (path : ℕ) (chain : ChainState) (o : Option ℕ) → need_of chain ≡ o → Within chain → tracks_of d.store ≡ n →
            IsWell c d.store → d.store.half ≡ None → OnBoth None (sides_of d.store) → equipment_checks d.history ≡ m → Comes (command_at c d path chain o)
        at_comes d path chain (Some t) needs is same w none o f =
            once_then (on_tracks c d path chain)
            (follow_once (tracks_of d.store) t chain t d.store is same (within.needs chain t is needs) w none needs (omega (arith, same)) o)
            (λ z a _. once_quiet (turned_quiet d path chain z a))
            (λ z a g. lucky_weaker (lucky_both (on_goes c z z d path chain a (fine (core_of z))) (on_has c m d path chain z a g.0 f))
            (λ e b h. (h.1, steady_on (core_of z) (core_of e.store) h.0 g.1)))
        at_comes d path chain None needs is same w none o f =
            once_try (λ ok. once_if ok (λ _. once_quiet (answered_quiet d path (stepped chain None).chain (stepped chain None).progress)) (λ _. once_done tt))

        by_comes : (d : Device F P H) (r : Option OpenEntry) (k : Option ChainState) → ((chain : ChainState) → k ≡ Some chain → Within chain) →
            tracks_of d.store ≡ n → IsWell c d.store → d.store.half ≡ None → OnBoth None (sides_of d.store) → equipment_checks d.history ≡ m →
            Comes (command_by c d r k)
        by_comes d (Some r) (Some chain) is same w none o f =
            once_if (has_loss r.acts) (λ _. once_done tt) (λ _. at_comes d r.path chain (need_of chain) refl (is chain refl) same w none o f)
        by_comes d (Some r) None is same w none o f = once_done tt
        by_comes d None k is same w none o f = once_done tt

    module _ (m : ℕ) where
      pub command_comes : (d : Device F P H) → ((chain : ChainState) → d.chain ≡ Some chain → IsWithin (d.store.cylinders * 15) chain) →
          IsWell c d.store → d.store.half ≡ None → OnBoth None (sides_of d.store) → equipment_checks d.history ≡ m →
          Once (λ e a. Unit {0}) (λ e a. (equipment_checks e.history ≡ m) × Steady (core_of e.store)) (command c d)
      unfolding N.command
      command_comes d of_device w none o f =
          let n = tracks_of d.store in
          let front = goes_same c d.store (event_begun d).store w (begun_same c faithful d w) in
          once_tried d _ tt
          (once_then (event_ended c d)
          (once_then (λ s _. command_by c (record (event_begun d) { store = s }) d.history.running d.chain)
          (once_always (hearing_keeps_good c 960 (event_begun d).store front.well)
          (hear_same {q = λ z a. ⊥} (sides_of d.store) 960 (event_begun d).store refl))
          (λ s _ g.
          let well = well_on c d.store (event_begun d).store s front g.0 in
          by_comes n (IsWithin n) (within_stays n (whole_cylinders d.store.cylinders)) m (record (event_begun d) { store = s }) d.history.running d.chain
          of_device well.tracks well.well (well.half ∙ none) (subst (OnBoth None) (sym g.1) o) f)
          (λ s _ g. absurd g.1))
          (λ y a _. once_quiet (end_quiet d y a))
          (λ y a g. end_steady faithful m d y a g.0 g.1))

    -- By itself

    abbrev Works : {A : Type 0} → Interaction R Image (Store F P H) A → Type 0
    Works i = Once (λ z a. Unit {0}) (λ z a. Steady (core_of z)) i

    saved_works : (s : Store F P H) (t : ℕ) (i : Image) (d : Did) (fault : Option Side) → OnBoth None (sides_of s) → Works (saved c s t i d fault)
    saved_works s t i d fault o =
        once_tried s _ tt
        (once_then (λ z e. Done z (Some e))
        (once_then (λ z b. and_then (write_first c z t (c.bytes i)) (λ y w. saved_by c t i d fault b w.fault y w.took)) (firm_once c {q = λ z a. ⊥} s t o)
        (λ z b f. once_then (λ y w. saved_by c t i d fault b w.fault y w.took) (first_once c z t (c.bytes i) f)
        (λ y w g. once_quiet (saved_quiet c t i d fault b w.fault y w.took))
        (λ y w g. lucky_weaker (saved_by_goes c faithful t i d fault b w.fault y w.took (λ e. absurd (let whole = g.0 in cc)))
        (λ x a h. steady_on (core_of y) (core_of x) h g.1)))
        (λ z b f. absurd f))
        (λ z e _. once_done tt) (λ z e f. lucky_done f))

    recover_works : (s : Store F P H) (t : ℕ) (f : Option F) → t < tracks_of s → IsWell c s → OnBoth None (sides_of s) → Works (recover c s t f)
    recover_works s t (Some f) lt w o = saved_works s t (framed_image c s t (Some f)) (Recovered t) None o
    recover_works s t None lt w o =
        once_then (λ z g. recovered_bytes c t z g g.bytes) (once_always (level_bytes_keeps_good c faithful s t w) (level_once c s t o))
        (λ z g k. recovered_works z g g.bytes (subst (OnBoth None) (sym k.1.1) o))
        (λ z g k.
        let f = steady_a (sides_of s) z None o k.1.1 in
        lucky_weaker (recovered_bytes_goes c faithful t z g g.bytes k.0.goes.well)
        (λ y a h. steady_on (core_of z) (core_of y) h f))
      where
        image_works : (z : Store F P H) (g : Got R) (i : Option Image) → OnBoth None (sides_of z) → Works (B.recovered_image c t z g i)
        image_works z g None o = once_done tt
        image_works z g (Some i) o = saved_works z t i (Recovered t) g.fault o

        recovered_works : (z : Store F P H) (g : Got R) (bytes : Option R) → OnBoth None (sides_of z) → Works (recovered_bytes c t z g bytes)
        recovered_works z g None o = once_done tt
        recovered_works z g (Some r) o = once_tried z _ tt (image_works z g _ o)

    none_stale : (up stale b takes stale_b a : Bool) → stale ≡ false → stale_b ≡ false →
        (if up && stale && b then Some sides.A else if takes && stale_b && a then Some sides.B else None) ≡ None
    none_stale true false b true false a e f = refl
    none_stale true false b false stale_b a e f = refl
    none_stale true false b true true a e f = absurd (cc)
    none_stale true true b takes stale_b a e f = absurd (cc)
    none_stale false stale b true false a e f = refl
    none_stale false stale b true true a e f = absurd (cc)
    none_stale false stale b false stale_b a e f = refl

    copies_none : (s : Store F P H) (t : ℕ) → OnBoth None (sides_of s) → copies_to s t ≡ None
    copies_none s t o = none_stale s.a.up (stale_at s.a t) (level_at s.b t) (takes_b s) (stale_at s.b t) (level_at s.a t) (o.a t refl) (o.b t refl)

    stage_works : (s : Store F P H) (t : ℕ) → OnBoth None (sides_of s) → Works (stage c s t)
    stage_works s t o =
        once_if (is_some (frame_at s t) || is_lost s t) (λ _. once_done tt)
        (λ _. once_tried s _ tt (once_ask (λ given. once_if given
        (λ _. once_then (λ z g. staged_bytes c t z g g.bytes) (level_once c s t o) (λ z g _. once_quiet (bytes_quiet c t z g g.bytes))
        (λ z g k. lucky_weaker (staged_bytes_goes c faithful t z g g.bytes)
        (λ y a h. steady_on (core_of z) (core_of y) h (steady_a (sides_of s) z None o k.1))))
        (λ _. once_done tt))))

    destage_works : (s : Store F P H) (t : Option ℕ) → OnBoth None (sides_of s) → Works (destage_first c s t)
    destage_works s None o = once_done tt
    destage_works s (Some t) o = saved_works s t (framed_image c s t (frame_at s t)) (Destaged t) None o

    queue_works : (s : Store F P H) (queue : List ℕ) → OnBoth None (sides_of s) → Works (stage_first c s queue)
    queue_works s [] o = destage_works s (to_destage c s) o
    queue_works s (t ∷ ts) o = stage_works (record s { queue = ts }) t o

    copy_works : (s : Store F P H) (t : Option ℕ) → OnBoth None (sides_of s) → Works (copy_first c s t)
    copy_works s None o = queue_works s s.queue o
    copy_works s (Some t) o = subst (λ (side : Option Side). Works (copy_by c s t side)) (sym (copies_none s t o)) (once_done tt)

    first_works : (s : Store F P H) (t : Option ℕ) → ((q : ℕ) → t ≡ Some q → q < tracks_of s) → IsWell c s → OnBoth None (sides_of s) →
        Works (recover_first c s t)
    first_works s None here w o = copy_works s (to_copy s) o
    first_works s (Some t) here w o = recover_works s t (frame_at s t) (here t refl) w o

    work_works : (s : Store F P H) → IsWell c s → OnBoth None (sides_of s) → Works (work c s)
    unfolding B.work
    work_works s w o = first_works s (to_recover c s) (λ t e. (found_if (tracks_of s) (waits c s) (some_up s) t e).0) w o

    worked_comes : (d : Device F P H) → IsWell c d.store → OnBoth None (sides_of d.store) →
        Once (λ (e : Device F P H) (a : Option Did). Unit {0}) (λ e a. Steady (core_of e.store))
        (and_then (work c d.store) (λ z did. Done (with_store d z) did))
    worked_comes d w o =
        once_then (λ z (did : Option Did). Done (with_store d z) did) (work_works d.store w o) (λ z did _. once_done tt) (λ z did f. lucky_done f)

    pub background_comes : (d : Device F P H) → IsWell c d.store → OnBoth None (sides_of d.store) →
        Once (λ e a. Unit {0}) (λ e a. Steady (core_of e.store)) (background c d)
    unfolding E.background
    background_comes d w o =
        let front = goes_same c d.store (event_begun d).store w (begun_same c faithful d w) in
        once_then (event_ended c d)
        (once_then (λ s _. and_then (work c s) (λ z did. Done (with_store (record (event_begun d) { store = s }) z) did))
        (once_always (hearing_keeps_good c 960 (event_begun d).store front.well)
        (hear_same {q = λ z a. ⊥} (sides_of d.store) 960 (event_begun d).store refl))
        (λ s _ g. worked_comes (record (event_begun d) { store = s }) g.0.well (subst (OnBoth None) (sym g.1) o))
        (λ s _ g. absurd g.1))
        (λ y a _. once_quiet (end_quiet d y a))
        (λ y a g. lucky_then (λ z _. Done (record y { store = z }) a) (end_goes c faithful (waiting_count c d.store) y.store)
        (λ z _ h. lucky_done (steady_on (core_of y.store) (core_of z) h g)))
