-- What a device does by itself, its losses and a look at one of its tracks leave what is kept of its paths and its chain.
use Rattle.std.proofs.Common.{ℕ, Bool, List, Option, refl}
use Rattle.loss_model.specs.declared.Loss.{Loss}
use Rattle.track_image.specs.Image.{Image}
use Rattle.device_outside.specs.Interaction.{Interaction, Done, and_then}
use Rattle.device_outside.specs.Keeper.{Hearing}
use Rattle.device_outside.specs.Outside.{Outside, Ran, done}
use Rattle.device_defs.specs.declared.answers.Did.{Did}
use Rattle.device_defs.specs.Background.{work}
use Rattle.device_defs.specs.Contents.{contents}
use Rattle.device_defs.specs.Device.{with_store, event_begun, event_ended, quiet_event, event}
use Rattle.device_defs.specs.Events as V
use Rattle.device_defs.specs.Events.{background, losing, lose}
use Rattle.device_defs.specs.Owed.{hear, waiting_count, noted_end}
use Rattle.device_defs.specs.Peek as P
use Rattle.device_defs.specs.Peek.{Peeked, peek_track, peek}
use Rattle.device_defs.specs.Sound.{DeviceStore}
use Rattle.device_laws.specs.Whole.{WholeDevice}
use Rattle.device_laws.specs.Seen.{KeepsPaths}
use Rattle.device_laws.proofs.counted.RanParts.{split}

module _ {K : Type 0} (had : Bool → Type 0) (hears : Hearing Image K) (d : WholeDevice) where
  abbrev Talk : Type 0 → Type 0
  Talk A = Interaction (List ℕ) Image WholeDevice A

  -- whatever it comes to
  record Keeping {A : Type 0} (talk : Talk A) : Type 0 where
    keeps : (u z : Outside (List ℕ) K) (y : WholeDevice) (a : A) → Ran had hears talk u y a z → KeepsPaths d y

  -- work on its tracks alone
  on_store : {A : Type 0} (x : WholeDevice) → KeepsPaths d x → (i : Interaction (List ℕ) Image DeviceStore A) →
      Keeping (and_then i (λ s a. Done (with_store x s) a))
  on_store x k i = record { keeps = λ u z y a r. last (split i (λ s b. Done (with_store x s) b) r).rest }
    where
      last : {A : Type 0} {s : DeviceStore} {b a : A} {v z : Outside (List ℕ) K} {y : WholeDevice} →
          Ran had hears (Done (with_store x s) b) v y a z → KeepsPaths d y
      last done = record { paths = k.paths; chain = k.chain }

  quiet_keeps : {A : Type 0} (body : WholeDevice → Talk A) → Keeping (body (event_begun d)) → Keeping (quiet_event contents d body)
  quiet_keeps body h = record {
    keeps = λ u z e a r.
        let x = split (body (event_begun d)) (event_ended contents d) r in
        behind x.state x.answer (h.keeps u x.outside x.state x.answer x.first) x.rest;
  }
    where
      last : {A : Type 0} {y : WholeDevice} {s : DeviceStore} {b a : A} {v z : Outside (List ℕ) K} {e : WholeDevice} → KeepsPaths d y →
          Ran had hears (Done (record y { store = s }) b) v e a z → KeepsPaths d e
      last k done = record { paths = k.paths; chain = k.chain }

      behind : {A : Type 0} (y : WholeDevice) (b : A) → KeepsPaths d y → {w z : Outside (List ℕ) K} {e : WholeDevice} {a : A} →
          Ran had hears (event_ended contents d y b) w e a z → KeepsPaths d e
      behind y b k r =
          last k (split (noted_end contents (waiting_count contents d.store) y.store) (λ s _. Done (record y { store = s }) b) r).rest

  event_keeps : {A : Type 0} (body : WholeDevice → Talk A) →
      ((s : DeviceStore) → Keeping (body (record (event_begun d) { store = s }))) → Keeping (event contents d body)
  event_keeps body h = quiet_keeps (λ x. and_then (hear contents 960 x.store) (λ s _. body (record x { store = s }))) (record {
    keeps = λ u z y a r.
        let x = split (hear contents 960 (event_begun d).store) (λ s _. body (record (event_begun d) { store = s })) r in
        (h x.state).keeps x.outside z y a x.rest;
  })

  same_at : (s : DeviceStore) → KeepsPaths d (record (event_begun d) { store = s })
  same_at s = record { paths = refl; chain = refl }

  pub background_keeps : {u z : Outside (List ℕ) K} {e : WholeDevice} {a : Option Did} → Ran had hears (background contents d) u e a z → KeepsPaths d e
  unfolding V.background
  background_keeps {u = u} {z = z} {e = e} {a = a} r =
      (event_keeps (λ x. and_then (work contents x.store) (λ s did. Done (with_store x s) did))
      (λ s. on_store (record (event_begun d) { store = s }) (same_at s) (work contents s))).keeps u z e a r

  pub lose_keeps : (loss : Loss) {u z : Outside (List ℕ) K} {e : WholeDevice} {a : Unit {0}} → Ran had hears (lose contents d loss) u e a z → KeepsPaths d e
  unfolding V.lose
  lose_keeps loss {u = u} {z = z} {e = e} {a = a} r =
      (event_keeps (λ x. and_then (losing contents x.store loss) (λ s _. Done (with_store x s) tt))
      (λ s. on_store (record (event_begun d) { store = s }) (same_at s) (losing contents s loss))).keeps u z e a r

  pub peek_keeps : (t : ℕ) {u z : Outside (List ℕ) K} {e : WholeDevice} {a : Option Peeked} → Ran had hears (peek contents d t) u e a z → KeepsPaths d e
  unfolding P.peek
  peek_keeps t {u = u} {z = z} {e = e} {a = a} r =
      (quiet_keeps (λ x. and_then (peek_track contents x.store t) (λ s found. Done (with_store x s) found))
      (on_store (event_begun d) (record { paths = refl; chain = refl }) (peek_track contents (event_begun d).store t))).keeps u z e a r
