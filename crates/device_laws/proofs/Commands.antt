-- A command of the running program keeps good marks good, where each track that its chain comes to is one of the device's.
use Rattle.std.proofs.Common.{◌≡◌, ◌<◌, zero, suc, ℕ, Bool, true, false, Option, Some, None, refl, sym, subst, ◌∙◌, arith}
use Rattle.std.specs.Prelude.{if◌then◌else◌}
use Rattle.ckd_chain.specs.declared.progress.Progress.{Progress}
use Rattle.ckd_chain.specs.declared.progress.Progress.TheVariants as progresses
use Rattle.ckd_chain.specs.declared.progress.Settled.TheVariants.{Equipment}
use Rattle.ckd_chain.specs.State.{ChainState}
use Rattle.ckd_chain.specs.Steps.{need_of, stepped}
use Rattle.plain_defs.specs.History.{OpenEntry}
use Rattle.plain_device.specs.Acted.{settled_act, paths_behind}
use Rattle.track_image.specs.Image.{Image}
use Rattle.device_outside.specs.Interaction.{Done}
use Rattle.device_defs.specs.declared.answers.Took.{Took}
use Rattle.device_defs.specs.declared.usage.Usage.{Usage}
use Rattle.device_defs.specs.Command as N
use Rattle.device_defs.specs.Command.{
  Went,
  Over,
  On,
  has_loss,
  came_of_write,
  went_by,
  went_on,
  looked,
  look,
  goes_on as follows,
  follow,
  came_out,
  on_tracks,
  answered_by,
  on_paths,
  command_at,
  command_by,
  command,
}
use Rattle.device_defs.specs.Contents.{Contents}
use Rattle.device_defs.specs.Device.{Device, with_store, event_begun, event}
use Rattle.device_defs.specs.Image.{Imaged, Has, NoBytes, BadTrack, image}
use Rattle.device_defs.specs.Memory.{had_by, and_had}
use Rattle.device_defs.specs.Outcomes.{Turn, ends_with, settles, checks, usage_of, again}
use Rattle.device_defs.specs.Store.{Store, tracks_of, is_lost}
use Rattle.device_laws.proofs.Always.{Always, always_done, always_try, always_then, always_weaker}
use Rattle.device_laws.proofs.Done.{Keeps, goes_keeps, keeps_on}
use Rattle.device_laws.proofs.FailedCall.{IsWell, Goes, stays}
use Rattle.device_laws.proofs.Through.{write_keeps_good}
use Rattle.device_laws.proofs.TrackMarks.{IsFaithful, track_at}
use Rattle.device_laws.proofs.WholeEvents.{event_keeps}
use Rattle.device_laws.proofs.walks.Events.{turned_same}
use Rattle.device_laws.proofs.WholeImage.{Reaches, Looked, image_keeps_good}

-- each track that such a chain comes to is one of the first n
pub record Stays (n : ℕ) (Within : ChainState → Type 0) : Type 0 where
  pub needs : (chain : ChainState) (t : ℕ) → Within chain → need_of chain ≡ Some t → t < n
  pub goes : (chain : ChainState) (i : Image) (q : ℕ) → Within chain → (stepped chain (Some i)).progress ≡ progresses.Need q →
      Within (stepped chain (Some i)).chain × (q < n)
  pub reaches : (chain : ChainState) → Within chain → Reaches (usage_of chain) n

module _ {F P H R : Type 0} (c : Contents F P H R) (faithful : IsFaithful c) (n : ℕ) (Within : ChainState → Type 0) (within : Stays n Within) where
  abbrev pub GoesOn : Store F P H → Option Went → Type 0
  GoesOn z None = Unit {0}
  GoesOn z (Some (Over turn)) = Unit {0}
  GoesOn z (Some (On chain q)) = (z.half ≡ None) × Within chain × (q < n)

  -- behind the look at one track
  pub record LookedAt (s z : Store F P H) (a : Option Went) : Type 0 where
    pub keeps : Keeps c faithful s z
    pub on : GoesOn z a

  still : (s : Store F P H) → IsWell c s → Keeps c faithful s s
  still s w = goes_keeps c faithful s s (stays c s w)

  wrote : (chain : ChainState) (t : ℕ) (s z : Store F P H) (a : Option Took) → Keeps c faithful s z →
      Always (had_by (came_of_write c chain t) z a) (λ y b. LookedAt s y b)
  wrote chain t s z (Some took) k = always_done (record { keeps = k; on = tt })
  wrote chain t s z None k = always_done (record { keeps = k; on = tt })

  by_progress : (u : Usage) (first t : ℕ) (s : Store F P H) (i : Image) (chain : ChainState) (p : Progress) →
      ((q : ℕ) → p ≡ progresses.Need q → Within chain × (q < n)) → t < tracks_of s → IsWell c s → s.half ≡ None →
      (track_at c s t).lost ≡ false → Always (went_by c u first t s i chain p) (λ y b. LookedAt s y b)
  by_progress u first t s i chain (progresses.Ended e) needs lt w none there = always_done (record { keeps = still s w; on = tt })
  by_progress u first t s i chain (progresses.Need q) needs lt w none there =
      let f = needs q refl in always_done (record { keeps = still s w; on = (none, f.0, f.1) })
  by_progress u first t s i chain (progresses.Write q e) needs lt w none there =
      always_then (write_keeps_good c faithful u first t s lt w none there i e) (λ z a k. wrote chain t s z a k)
  by_progress u first t s i chain (progresses.Local act) needs lt w none there = always_done (record { keeps = still s w; on = tt })

  went_if : (chain : ChainState) (first t : ℕ) (s : Store F P H) (i : Image) (ok : Bool) → Within chain → t < tracks_of s → IsWell c s →
      s.half ≡ None → (track_at c s t).lost ≡ false →
      Always (if ok then went_by c (usage_of chain) first t s i (stepped chain (Some i)).chain (stepped chain (Some i)).progress else Done s None)
      (λ y b. LookedAt s y b)
  went_if chain first t s i true is lt w none there =
      by_progress (usage_of chain) first t s i (stepped chain (Some i)).chain (stepped chain (Some i)).progress (λ q e. within.goes chain i q is e)
      lt w none there
  went_if chain first t s i false is lt w none there = always_done (record { keeps = still s w; on = tt })

  on_from : (s z y : Store F P H) (b : Option Went) → Goes c s z → LookedAt z y b → LookedAt s y b
  on_from s z y b g f = record { keeps = keeps_on c faithful s z y (goes_keeps c faithful s z g) f.keeps; on = f.on }

  by_image : (chain : ChainState) (first t : ℕ) (s z : Store F P H) (a : Option Imaged) → Within chain → t < tracks_of s → s.half ≡ None →
      Looked c faithful t s z a → Always (had_by (looked c chain first t) z a) (λ y b. LookedAt s y b)
  by_image chain first t s z None is lt none f = always_done (record { keeps = goes_keeps c faithful s z f.goes; on = tt })
  by_image chain first t s z (Some (Has i)) is lt none f =
      always_try (λ ok. always_weaker
      (went_if chain first t z i ok is (let same = f.goes.tracks in omega arith) f.goes.well (f.goes.half ∙ none) (f.there refl))
      (λ y b g. on_from s z y b f.goes g))
  by_image chain first t s z (Some (NoBytes fault)) is lt none f = always_done (record { keeps = goes_keeps c faithful s z f.goes; on = tt })
  by_image chain first t s z (Some (BadTrack side)) is lt none f = always_done (record { keeps = goes_keeps c faithful s z f.goes; on = tt })

  look_if : (chain : ChainState) (first t : ℕ) (s : Store F P H) (b : Bool) → Within chain → tracks_of s ≡ n → t < tracks_of s → IsWell c s → s.half ≡ None →
      Always (if b then Done s (Some (Over (checks chain Equipment))) else and_had (image c s (usage_of chain) t) (looked c chain first t))
      (λ y b. LookedAt s y b)
  look_if chain first t s true is same lt w none = always_done (record { keeps = still s w; on = tt })
  look_if chain first t s false is same lt w none =
      always_then (image_keeps_good c faithful s (usage_of chain) t (subst (Reaches (usage_of chain)) (sym same) (within.reaches chain is)) lt w)
      (λ z a f. by_image chain first t s z a is lt none f)

  pub look_keeps_good : (chain : ChainState) (first t : ℕ) (s : Store F P H) → Within chain → tracks_of s ≡ n → t < tracks_of s → IsWell c s → s.half ≡ None →
      Always (look c chain first t s) (λ y b. LookedAt s y b)
  unfolding N.look
  look_keeps_good chain first t s is same lt w none = look_if chain first t s (is_lost s t) is same lt w none

  abbrev Following : ℕ → ℕ → Type 0
  Following k first =
      (chain : ChainState) (t : ℕ) (s : Store F P H) → Within chain → tracks_of s ≡ n → t < n → IsWell c s → s.half ≡ None →
      Always (follow c k first chain t s) (λ y _. Keeps c faithful s y)

  by_went : (k first : ℕ) (s z : Store F P H) (a : Option Went) → Following k first → tracks_of s ≡ n → LookedAt s z a →
      Always (had_by (follows c (follow c k first)) z a) (λ y _. Keeps c faithful s y)
  by_went k first s z None later same f = always_done f.keeps
  by_went k first s z (Some (Over turn)) later same f = always_done f.keeps
  by_went k first s z (Some (On chain q)) later same f =
      always_weaker (later chain q z f.on.1 (f.keeps.tracks ∙ same) f.on.2 f.keeps.well f.on.0)
      (λ y _ g. keeps_on c faithful s z y f.keeps g)

  pub follow_keeps_good : (k first : ℕ) → Following k first
  unfolding N.follow
  follow_keeps_good zero first chain t s is same lt w none = always_done (still s w)
  follow_keeps_good (suc k) first chain t s is same lt w none =
      always_then (look_keeps_good chain first t s is same (omega arith) w none) (λ z a f. by_went k first s z a (follow_keeps_good k first) same f)

  -- The whole command

  out_keeps : (s : Store F P H) (d : Device F P H) (path : ℕ) (turn : Turn) → Keeps c faithful s d.store →
      Always (came_out c d path turn) (λ y _. Keeps c faithful s y.store)
  out_keeps s d path turn k =
      always_done (subst (λ (x : Store F P H). Keeps c faithful s x) (sym (turned_same d path turn.chain turn.came)) k)

  on_keeps : (s z : Store F P H) (d : Device F P H) (path : ℕ) (chain : ChainState) (o : Option Turn) → Keeps c faithful s z →
      Always (on_tracks c d path chain z o) (λ y _. Keeps c faithful s y.store)
  on_keeps s z d path chain (Some turn) k = out_keeps s (with_store d z) path turn k
  on_keeps s z d path chain None k = always_done k

  answered_keeps : (s : Store F P H) (d : Device F P H) (path : ℕ) (chain : ChainState) (p : Progress) → Keeps c faithful s d.store →
      Always (answered_by c d path chain p) (λ y _. Keeps c faithful s y.store)
  answered_keeps s d path chain (progresses.Ended e) k = out_keeps s d path (ends_with chain e) k
  answered_keeps s d path chain (progresses.Local act) k =
      out_keeps s (record d { paths = paths_behind d.paths path act }) path (settles chain (settled_act d.store.geometry d.paths path act)) k
  answered_keeps s d path chain (progresses.Need q) k = out_keeps s d path (checks chain Equipment) k
  answered_keeps s d path chain (progresses.Write q e) k = out_keeps s d path (checks chain Equipment) k

  paths_if : (d : Device F P H) (path : ℕ) (chain : ChainState) (ok : Bool) → IsWell c d.store →
      Always (if ok then answered_by c d path (stepped chain None).chain (stepped chain None).progress else Done (again d chain) None)
      (λ y _. Keeps c faithful d.store y.store)
  paths_if d path chain true w = answered_keeps d.store d path (stepped chain None).chain (stepped chain None).progress (still d.store w)
  paths_if d path chain false w = always_done (still d.store w)

  by_need : (d : Device F P H) (path : ℕ) (chain : ChainState) (o : Option ℕ) → ((t : ℕ) → o ≡ Some t → t < n) → Within chain →
      tracks_of d.store ≡ n → IsWell c d.store → d.store.half ≡ None → Always (command_at c d path chain o) (λ y _. Keeps c faithful d.store y.store)
  by_need d path chain (Some t) needs is same w none =
      always_then (follow_keeps_good (tracks_of d.store) t chain t d.store is same (needs t refl) w none)
      (λ z o k. on_keeps d.store z d path chain o k)
  by_need d path chain None needs is same w none = always_try (λ ok. paths_if d path chain ok w)

  by_loss : (d : Device F P H) (path : ℕ) (chain : ChainState) (b : Bool) → Within chain → tracks_of d.store ≡ n → IsWell c d.store →
      d.store.half ≡ None →
      Always (if b then came_out c d path (checks chain Equipment) else command_at c d path chain (need_of chain))
      (λ y _. Keeps c faithful d.store y.store)
  by_loss d path chain true is same w none = out_keeps d.store d path (checks chain Equipment) (still d.store w)
  by_loss d path chain false is same w none = by_need d path chain (need_of chain) (λ t e. within.needs chain t is e) is same w none

  by_chain : (d : Device F P H) (o : Option OpenEntry) (k : Option ChainState) → ((chain : ChainState) → k ≡ Some chain → Within chain) →
      tracks_of d.store ≡ n → IsWell c d.store → d.store.half ≡ None → Always (command_by c d o k) (λ y _. Keeps c faithful d.store y.store)
  by_chain d (Some o) (Some chain) is same w none = by_loss d o.path chain (has_loss o.acts) (is chain refl) same w none
  by_chain d (Some o) None is same w none = always_done (still d.store w)
  by_chain d None k is same w none = always_done (still d.store w)

  command_if : (d : Device F P H) (ok : Bool) → ((chain : ChainState) → d.chain ≡ Some chain → Within chain) → tracks_of d.store ≡ n →
      IsWell c d.store → d.store.half ≡ None →
      Always (if ok then event c d (λ z. command_by c z z.history.running z.chain) else Done d None) (λ y _. Keeps c faithful d.store y.store)
  command_if d true is same w none =
      event_keeps c faithful d (λ z. command_by c z z.history.running z.chain) w
      (λ s g. by_chain (record (event_begun d) { store = s }) d.history.running d.chain is (g.tracks ∙ same) g.well (g.half ∙ none))
  command_if d false is same w none = always_done (still d.store w)

  -- of the running program, while no half write is open
  pub command_keeps_good : (d : Device F P H) → ((chain : ChainState) → d.chain ≡ Some chain → Within chain) → tracks_of d.store ≡ n →
      IsWell c d.store → d.store.half ≡ None → Always (command c d) (λ y _. Keeps c faithful d.store y.store)
  unfolding N.command
  command_keeps_good d is same w none = always_try (λ ok. command_if d ok is same w none)
