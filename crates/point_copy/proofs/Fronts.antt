-- The plain volume of a device behind the first lines of a deck is that of the plain device of its history there.
use Rattle.std.proofs.Common.{◌≡◌, ◌∙◌, ℕ, List, length, map, take, Some, refl, sym, ap, subst, arith}
use Rattle.std.specs.List.{range_with_len}
use Rattle.std.proofs.lemmas.List.{length-map, get_or-map}
use Rattle.std.proofs.lemmas.List.Elements.{All-take}
use Rattle.std.proofs.lemmas.List.FromFn.{fill_by_all}
use Rattle.ckd_types.specs.Track.{empty_track}
use Rattle.ckd_types.specs.Volume.{IsVolume}
use Rattle.deck_plan.specs.declared.event.EventLine.{EventLine}
use Rattle.deck_text.specs.DeckLines.{DeckLines}
use Rattle.track_image.specs.Image.{Image}
use Rattle.device_defs.specs.Store.{tracks_of}
use Rattle.subsystem_defs.specs.Decks as D
use Rattle.subsystem_defs.specs.Decks.{AreWhole, DeckRun, Firsts, run_on}
use Rattle.subsystem_defs.specs.Lines.{asked_by}
use Rattle.subsystem_defs.specs.Subsystem.{Mounted, mounted_in}
use Rattle.subsystem_laws.specs.Served.{IsServed, IsServedDeck}
use Rattle.deck_run.specs.Fronts.{front_on}
use Rattle.volume_save.specs.Saving.{plain_tracks, volume_with}
use Rattle.volume_save.proofs.Images.{image_on}
use Rattle.volume_save.proofs.InRun.{plain_after}
use Rattle.point_copy.specs.Copying.{plain_images}
use Rattle.point_copy.specs.CopyRun.{IsPlainVolumeOn}

-- the deck of the first lines alone
abbrev shortened : DeckLines → ℕ → DeckLines
shortened deck n = record deck { events = take n deck.events }

front_is_run : (firsts : Firsts) (deck : DeckLines) (n : ℕ) → front_on firsts deck n ≡ run_on firsts (shortened deck n)
unfolding D.run_asked_on
front_is_run firsts deck n = refl

shortened_served : (deck : DeckLines) (n : ℕ) → IsServedDeck deck → IsServedDeck (shortened deck n)
shortened_served deck n served = record {
  devices = served.devices;
  events = All-take (λ (line : EventLine). IsServed (asked_by line)) n deck.events served.events;
}

images_are : (m : Mounted) → IsVolume m.device.store.geometry m.device.store.cylinders m.device.store.plain →
    map (image_on m.device.store.geometry) m.device.store.plain ≡ map (plain_images m) (range_with_len 0 (tracks_of m.device.store))
images_are m volume =
    let size : length m.device.store.plain ≡ tracks_of m.device.store = volume.tracks in
    fill_by_all (plain_images m) (map (image_on m.device.store.geometry) m.device.store.plain) (tracks_of m.device.store)
    (image_on m.device.store.geometry (empty_track 0)) (length-map m.device.store.plain (image_on m.device.store.geometry) ∙ size)
    (λ k lt. get_or-map (image_on m.device.store.geometry) m.device.store.plain k (empty_track k) (image_on m.device.store.geometry (empty_track 0))
    (omega (arith, lt, size)))

pub front_is_plain : (firsts : Firsts) → AreWhole firsts → (deck : DeckLines) (n d : ℕ) (m : Mounted) (images : List Image) → IsServedDeck deck →
    mounted_in (front_on firsts deck n).behind.mounted d ≡ Some m → IsVolume m.device.store.geometry m.device.store.cylinders m.device.store.plain →
    images ≡ map (plain_images m) (range_with_len 0 (tracks_of m.device.store)) →
    IsPlainVolumeOn firsts deck n d (volume_with m.device.store.geometry m.device.store.cylinders images)
front_is_plain firsts whole deck n d m images served there volume is =
    let at : mounted_in (run_on firsts (shortened deck n)).behind.mounted d ≡ Some m =
    subst (λ (r : DeckRun). mounted_in r.behind.mounted d ≡ Some m) (front_is_run firsts deck n) there in
    let plain : plain_tracks firsts m.device ≡ m.device.store.plain =
    plain_after firsts whole (shortened deck n) d m (shortened_served deck n served) at in
    record {
      mounted = m;
      there = there;
      plain = ap (volume_with m.device.store.geometry m.device.store.cylinders)
          (is ∙ sym (images_are m volume) ∙ ap (map (image_on m.device.store.geometry)) (sym plain));
    }
