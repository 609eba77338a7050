-- A look at a track that an open half write alone may have.
use Rattle.std.proofs.Common.{◌≡◌, ℕ, Bool, true, false, List, refl, sym, ap}
use Rattle.std.specs.Prelude.{◌&&◌, not, Option, Some, None, Result, Ok, Err, IfOk, is_some, option_map, if◌then◌else◌}
use Rattle.track_image.specs.Image.{Image}
use Rattle.device_outside.specs.Interaction.{Done}
use Rattle.device_outside.specs.Keeper.{Hearing}
use Rattle.device_outside.specs.Outside.{Outside, Ran, done, where_ok}
use Rattle.device_outside.proofs.Runs.{ended, tries}
use Rattle.device_defs.specs.Contents.{contents}
use Rattle.device_defs.specs.Memory.{tried}
use Rattle.device_defs.specs.Peek.{Track, peek_half, peek_image}
use Rattle.device_defs.specs.Store as definitions
use Rattle.device_defs.specs.Store.{frame_at, half_is, has_level}
use Rattle.device_store.specs.declared.half.HalfWrite.{HalfWrite}
use Rattle.device_store.specs.declared.store.Peeked as answers
use Rattle.device_store.specs.declared.store.Peeked.TheVariants as peeks
use Rattle.device_store.specs.Looks.{StoreOf, IsHalfCopied, IsPeeked, peeked_by}
use Rattle.device_store.specs.State.{half_of, had}
use Rattle.device_store.proofs.Moves.{from_equal}

abbrev alone_in : StoreOf → ℕ → Option (definitions.HalfWrite Image) → Bool
alone_in s t half = half_is half t && not (is_some (frame_at s t)) && not (has_level s t)

pub not_in_half : (s : StoreOf) (t : ℕ) (half : Option (definitions.HalfWrite Image)) → alone_in s t half ≡ false →
    peek_half contents s t half ≡ peek_image contents s t
not_in_half s t None e = refl
not_in_half s t (Some h) e = ap (λ (b : Bool). if b then tried s (Done s (Some (Track h.image))) else peek_image contents s t) e

copied_from : (s : StoreOf) (t : ℕ) (h : HalfWrite) → alone_in s t (Some (half_of h)) ≡ true →
    peek_half contents s t (Some (half_of h)) ≡ tried s (Done s (Some (Track h.image)))
copied_from s t h e = ap (λ (b : Bool). if b then tried s (Done s (Some (Track h.image))) else peek_image contents s t) e

pub half_there : (half : Option HalfWrite) (t : ℕ) (p q : Bool) → (half_is (option_map half_of half) t && p && q) ≡ true → is_some half ≡ true
half_there None t p q e = absurd cc
half_there (Some h) t p q e = refl

module _ {K E : Type 0} {hears : Hearing Image K} (s : StoreOf) (t : ℕ) {w : Outside (List ℕ) K} where
  pub copied_run : (half : Option HalfWrite) (r : Result answers.Peeked E) → IfOk r (IsHalfCopied half) →
      alone_in s t (option_map half_of half) ≡ true →
      Ran (where_ok r) hears (peek_half contents s t (option_map half_of half)) w s (had (peeked_by s t) r) w
  copied_run None r is e = absurd cc
  copied_run (Some h) (Err x) is e = from_equal (λ i. i) (sym (copied_from s t h e)) refl (tries false tt done)
  copied_run (Some h) (Ok peeks.Frame) is e = absurd is
  copied_run (Some h) (Ok peeks.Lost) is e = absurd is
  copied_run (Some h) (Ok (peeks.Fault side)) is e = absurd is
  copied_run (Some h) (Ok (peeks.BadBytes side)) is e = absurd is
  copied_run (Some h) (Ok (peeks.Track i)) is e =
      from_equal (λ i. i) (sym (copied_from s t h e)) refl (tries true refl (ended refl (ap (λ (x : Image). Some (Track x)) (sym is))))

module _ {E : Type 0} (s : StoreOf) (t : ℕ) where
  pub copied_there : (half : Option HalfWrite) (r : Result answers.Peeked E) → IfOk r (IsHalfCopied half) → IfOk r (IsPeeked s t)
  copied_there half (Err x) is = tt
  copied_there None (Ok x) is = absurd is
  copied_there (Some h) (Ok peeks.Frame) is = absurd is
  copied_there (Some h) (Ok peeks.Lost) is = tt
  copied_there (Some h) (Ok (peeks.Fault side)) is = tt
  copied_there (Some h) (Ok (peeks.BadBytes side)) is = tt
  copied_there (Some h) (Ok (peeks.Track i)) is = tt
