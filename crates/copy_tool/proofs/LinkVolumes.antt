-- The tracks that a link has, as the volume of a file.
use Rattle.std.proofs.Common.{◌≡◌, ◌∙◌, ◌≤◌, ◌<◌, ◌+◌, ◌*◌, ℕ, List, [], ◌∷◌, ◌++◌, length, take, sym, ap, subst}
use Rattle.std.proofs.lemmas.List.{get_or-map, length-map, map-append, take_all, take_more}
use Rattle.ckd_types.specs.declared.geometry.Geometry.{Geometry}
use Rattle.ckd_types.specs.declared.record.Track.{Track}
use Rattle.ckd_types.specs.Track.{empty_track}
use Rattle.ckd_types.specs.Volume.{track_in}
use Rattle.track_image.specs.Image.{Image}
use Rattle.volume_file.specs.File.{IsPlaced, IsWhole, empty_image, image_in}
use Rattle.volume_save.specs.Saving.{volume_with}
use Rattle.copy_tool.specs.Mirroring.{images_of}

abbrev image_of : Geometry → Track → Image
image_of g x = record { geometry = g; track = x }

module _ (g : Geometry) (tracks : List Track) where
  pub images_on : (n : ℕ) (images later : List Image) (i : Image) → n < length tracks → later ≡ images ++ i ∷ [] →
      i ≡ record { geometry = g; track = track_in tracks n } → images ≡ images_of g (take n tracks) → later ≡ images_of g (take (n + 1) tracks)
  images_on n images later i inside pushed is front =
      pushed
      ∙ ap (λ (l : List Image). l ++ i ∷ []) front
      ∙ ap (λ (x : Image). images_of g (take n tracks) ++ x ∷ []) is
      ∙ sym (map-append (image_of g) (take n tracks) (track_in tracks n ∷ []))
      ∙ ap (images_of g) (sym (take_more tracks n (empty_track n) inside))

  pub all_images : (n : ℕ) (images : List Image) → length tracks ≤ n → images ≡ images_of g (take n tracks) → images ≡ images_of g tracks
  all_images n images past is = is ∙ ap (images_of g) (take_all n tracks past)

  image_at : (cylinders t : ℕ) → t < length tracks → image_in (volume_with g cylinders (images_of g tracks)) t ≡ image_of g (track_in tracks t)
  image_at cylinders t inside = get_or-map (image_of g) tracks t (empty_track t) (empty_image g t) inside

  pub whole_so : (cylinders : ℕ) (images : List Image) → 1 ≤ cylinders → cylinders ≤ 64 → length tracks ≡ cylinders * 15 →
      images ≡ images_of g tracks → ((t : ℕ) → t < cylinders * 15 → IsPlaced g t (record { geometry = g; track = track_in tracks t })) →
      IsWhole (record { geometry = g; cylinders = cylinders; images = images })
  whole_so cylinders images least most long is placed =
      subst (λ (l : List Image). IsWhole (volume_with g cylinders l)) (sym is) (record {
        least = least;
        most = most;
        tracks = length-map tracks (image_of g) ∙ long;
        placed = λ t lt.
            let inside : t < length tracks = subst (λ (n : ℕ). t < n) (length-map tracks (image_of g)) lt in
            subst (IsPlaced g t) (sym (image_at cylinders t inside)) (placed t (subst (λ (n : ℕ). t < n) long inside));
      })
