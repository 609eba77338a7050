-- What a put of a link in memory does.
use Rattle.std.proofs.Common.{◌≡◌, ◌≤◌, ◌∙◌, inl, ℕ, not, Bool, true, false, List, length-set, set, Ok, Err, refl, sym, ap, subst, arith}
use Rattle.std.specs.Prelude.{if◌then◌else◌}
use Rattle.std.proofs.lemmas.List.{map-set}
use Rattle.ckd_types.specs.declared.record.Track.{Track}
use Rattle.ckd_outside.specs.Causes.{Rose}
use Rattle.track_image.specs.Image.{Image}
use Rattle.device_outside.specs.Volume as V
use Rattle.device_outside.specs.Volume.{counted, counted_if}
use Rattle.remote_copy.specs.FarVolume.{FarVolume, link_view, put_on}
use Rattle.remote_copy.specs.Linking.{Puts, next_fails, one_put}
use Rattle.remote_copy.proofs.FarImages.{tracks_of}

abbrev put_by : Bool → FarVolume → ℕ → Track → FarVolume
put_by fails f t x = record f {
  tracks = (if fails then f.tracks else set f.tracks t x);
  calls = one_put f.calls;
  faults = counted_if fails f.faults;
}

rose_by_one : (n : ℕ) → Rose n (counted n)
unfolding V.counted
rose_by_one n = omega arith

module _ {T E : Type 0} (f : FarVolume) (t : ℕ) (x : Track) where
  -- it failed
  failed_puts : (e : E) → next_fails f.calls ≡ true → f.faults ≤ counted f.faults → Puts {T = T} (link_view f) t x (Err e) (link_view (put_by true f t x))
  failed_puts e fails later = record {
    geometry = refl;
    tracks = refl;
    far = inl refl;
    calls = record { calls_behind = refl; fails = ap not (sym fails); kept = refl };
    cause = record { later = later; failed = rose_by_one f.faults };
  }

  -- or it didn't
  done_puts : (y : T) → next_fails f.calls ≡ false → Puts {E = E} (link_view f) t x (Ok y) (link_view (put_by false f t x))
  done_puts y fails = record {
    geometry = refl;
    tracks = length-set f.tracks t x;
    far = refl;
    calls = record { calls_behind = refl; fails = ap not (sym fails); kept = tt };
    cause = record { later = omega arith; failed = tt };
  }

-- f is what it was by its fields, and g by its view
module _ (f g : FarVolume) (same : f ≡ g) (puts : ℕ) (count : puts ≡ counted f.calls.done) where
  pub put_failed : {T E : Type 0} (t : ℕ) (x : Track) (e : E) (faults : ℕ) → next_fails f.calls ≡ true → faults ≡ counted f.faults → f.faults ≤ faults →
      Puts {T = T} (link_view g) t x (Err e) (link_view (record f { calls = record f.calls { done = puts }; faults = faults }))
  put_failed {T} {E} t x e faults fails more later =
      subst (λ (h : FarVolume). Puts {T = T} (link_view h) t x (Err e) (link_view (record f { calls = record f.calls { done = puts }; faults = faults })))
      same
      (subst (λ (n : ℕ). Puts {T = T} (link_view f) t x (Err e) (link_view (record f { calls = record f.calls { done = n }; faults = faults }))) (sym count)
      (subst (λ (n : ℕ). Puts {T = T} (link_view f) t x (Err e) (link_view (record f { calls = one_put f.calls; faults = n }))) (sym more)
      (failed_puts f t x e fails (subst (λ (n : ℕ). f.faults ≤ n) more later))))

  module _ (images : List Image) (t : ℕ) (i : Image) (is : tracks_of images ≡ f.tracks) (fails : next_fails f.calls ≡ false) where
    image_put : record f { tracks = tracks_of (set images t i); calls = record f.calls { done = puts } } ≡ put_by false f t i.track
    image_put =
        ap (λ (l : List Track). record f { tracks = l; calls = record f.calls { done = puts } })
        (map-set (λ (j : Image). j.track) images t i ∙ ap (λ (l : List Track). set l t i.track) is)
        ∙ ap (λ (n : ℕ). record f { tracks = set f.tracks t i.track; calls = record f.calls { done = n } }) count

    pub put_is : record f { tracks = tracks_of (set images t i); calls = record f.calls { done = puts } } ≡ put_on g t i.track
    put_is = image_put ∙ ap (λ (b : Bool). put_by b f t i.track) (sym fails) ∙ ap (λ (h : FarVolume). put_on h t i.track) same

    pub put_done : {T E : Type 0} (y : T) →
        Puts {E = E} (link_view g) t i.track (Ok y) (link_view (record f { tracks = tracks_of (set images t i); calls = record f.calls { done = puts } }))
    put_done {T} {E} y =
        subst (λ (h : FarVolume). Puts {E = E} (link_view h) t i.track (Ok y)
        (link_view (record f { tracks = tracks_of (set images t i); calls = record f.calls { done = puts } }))) same
        (subst (λ (h : FarVolume). Puts {E = E} (link_view f) t i.track (Ok y) (link_view h)) (sym image_put) (done_puts f t i.track y fails))
