-- A far volume that has the tracks of a device takes all that a keeper may be told of it, and still has its tracks behind an event.
use Rattle.std.proofs.Common.{◌≡◌, ◌∙◌, ◌<◌, ◌*◌, ℕ, true, List, length, get_or, Option, Some, sym, ap, subst, arith}
use Rattle.std.specs.Prelude.{IfSome}
use Rattle.std.proofs.lemmas.Option.{slice_get-get_or}
use Rattle.track_image.specs.Image.{Image}
use Rattle.device_outside.specs.declared.volume.Volume.{Ghosts}
use Rattle.device_outside.specs.Lists.{is_in}
use Rattle.device_store.specs.Images.{IsImageOf}
use Rattle.device_core.specs.declared.device.Device.{Device}
use Rattle.subsystem_core.specs.Devices.{device_at, numbers_of}
use Rattle.subsystem_core.specs.Keepers.{TakesAll}
use Rattle.subsystem_core.specs.Places.{are_rising}
use Rattle.subsystem_core.proofs.Found.{device_at_place}
use Rattle.deck_run.proofs.Events.{has_one}
use Rattle.remote_copy.specs.Following.{Follows, IsFarFor}
use Rattle.remote_copy.specs.Linking.{IsFarImage, LinkView}
use Rattle.remote_copy.specs.Sending.{SenderView, takes_sent}
use Rattle.remote_copy.proofs.Seats.{SameSeat, Sits}

module _ {V : Type 0} {G : Ghosts V} where
  -- the device that is found
  pub far_for : (v : LinkView) (ds : List (Device V G)) (n : ℕ) (x : Device V G) → device_at ds n ≡ Some x → IfSome (device_at ds n) (IsFarFor v) →
      IsFarFor v x
  far_for v ds n x at fits = subst (λ (o : Option (Device V G)). IfSome o (IsFarFor v)) at fits

  pub far_image : (v : LinkView) (x : Device V G) (t : ℕ) (i : Image) → IsFarFor v x → t < x.store.cylinders * 15 → IsImageOf x.store.geometry t i →
      IsFarImage v t i
  far_image v x t i fits lt of = record { below = omega (arith, lt, fits.1); of = (of.0 ∙ sym fits.0, of.1) }

  module _ (s : SenderView) (ds : List (Device V G)) (up : are_rising (numbers_of ds) ≡ true)
      (fits : IfSome (device_at ds s.device) (IsFarFor s.link)) where
    takes_one : (i : ℕ) (d : Device V G) → i < length ds → (get_or ds i d).store.number ≡ s.device → IsFarFor s.link (get_or ds i d)
    takes_one i d within mine =
        far_for s.link ds s.device (get_or ds i d)
        (ap (device_at ds) (sym mine) ∙ device_at_place ds up i (get_or ds i d) (slice_get-get_or ds i d within)) fits

    -- the sender may be told of every track
    pub takes_all : TakesAll takes_sent s ds
    takes_all i d within = record {
      all = λ t image below of fit. λ mine. far_image s.link (get_or ds i d) t image (takes_one i d within mine) below of;
    }

  seat_fits : (v z : LinkView) (x y : Device V G) → z.geometry ≡ v.geometry → z.tracks ≡ v.tracks → SameSeat x y → IsFarFor v x → IsFarFor z y
  seat_fits v z x y geometry tracks seat fits =
      (geometry ∙ fits.0 ∙ sym seat.geometry, tracks ∙ fits.1 ∙ ap (λ (n : ℕ). n * 15) (sym seat.cylinders))

  -- it still has the tracks of the device of this number
  pub still_fits : (n : ℕ) (old new : List (Device V G)) (v z : LinkView) → is_in n (numbers_of old) ≡ true → IfSome (device_at old n) (IsFarFor v) →
      z.geometry ≡ v.geometry → z.tracks ≡ v.tracks → ((x : Device V G) → device_at old n ≡ Some x → Sits n new x) → IfSome (device_at new n) (IsFarFor z)
  still_fits n old new v z here fits geometry tracks sits =
      let one = has_one old n here in
      let s = sits one.device one.found in
      subst (λ (o : Option (Device V G)). IfSome o (IsFarFor z)) (sym s.found)
      (seat_fits v z one.device s.device geometry tracks s.seat (far_for v old n one.device one.found fits))

  -- behind what the sender followed
  pub follows_fits : (s z : SenderView) (old new : List (Device V G)) → is_in s.device (numbers_of old) ≡ true →
      IfSome (device_at old s.device) (IsFarFor s.link) → Follows s z → ((x : Device V G) → device_at old s.device ≡ Some x → Sits s.device new x) →
      IfSome (device_at new z.device) (IsFarFor z.link)
  follows_fits s z old new here fits f sits =
      subst (λ (n : ℕ). IfSome (device_at new n) (IsFarFor z.link)) (sym f.device)
      (still_fits s.device old new s.link z.link here fits f.geometry f.tracks sits)

  pub still_here : (s z : SenderView) (old new : List (Device V G)) → is_in s.device (numbers_of old) ≡ true → numbers_of new ≡ numbers_of old →
      z.device ≡ s.device → is_in z.device (numbers_of new) ≡ true
  still_here s z old new here same device = ap (λ (n : ℕ). is_in n (numbers_of new)) device ∙ ap (is_in s.device) same ∙ here
