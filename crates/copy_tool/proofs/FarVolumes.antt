-- The far volume of a mirror behind the lines of a deck.
use Rattle.std.proofs.Common.{◌≡◌, ◌≤◌, ◌∙◌, ◌<◌, ◌*◌, ◌^◌, ℕ, List, length, map, Option, Some, None, Result, Ok, Err, sym, ap, subst, arith}
use Rattle.std.specs.Prelude.{IfOk, IfSome}
use Rattle.std.proofs.lemmas.List.FromFn.{length-map-range_with_len}
use Rattle.ckd_types.specs.declared.geometry.Geometry.{Geometry}
use Rattle.ckd_types.specs.declared.record.Track.{Track}
use Rattle.ckd_types.specs.Track.{empty_track}
use Rattle.ckd_types.specs.Volume.{empty_volume}
use Rattle.deck_text.specs.DeckLines.{DeckLines}
use Rattle.device_outside.specs.declared.volume.Volume.{Ghosts}
use Rattle.device_core.specs.declared.device.Device.{Device}
use Rattle.subsystem_core.specs.Devices.{device_at}
use Rattle.subsystem_defs.specs.Decks.{empty_firsts, opened, run_of}
use Rattle.subsystem_defs.specs.Lines.{asked_by}
use Rattle.subsystem_defs.specs.Subsystem.{Mounted, Subsystem, mounted_in}
use Rattle.line_drive.specs.Driven.{Goes, driven}
use Rattle.subsystem_laws.proofs.ReadDecks.{read_small}
use Rattle.deck_run.specs.Opening.{WasRead}
use Rattle.firm_laws.specs.FirmWrites.{firm_writes_of}
use Rattle.deck_run.specs.Standing.{all_stood}
use Rattle.deck_run.proofs.Telling.{all_known, known_at}
use Rattle.volume_file.specs.File.{ImageVolume}
use Rattle.volume_save.specs.Saving.{volume_with}
use Rattle.volume_save.proofs.SmallRuns.{small_in_run}
use Rattle.remote_copy.specs.declared.link.Link as links
use Rattle.remote_copy.specs.declared.mirror.Mirror.{Mirror}
use Rattle.remote_copy.specs.Linking.{LinkView, PutCalls}
use Rattle.remote_copy.specs.Mirrored.{mirror_course}
use Rattle.remote_copy.specs.Mirroring.{IsMirror, MirrorRun}
use Rattle.firm_laws.specs.FirmWrites.{FirmWrite}
use Rattle.remote_copy.specs.Sending.{IsReached, put_all, reached}
use Rattle.remote_copy.proofs.Puttings.{length_put_all}
use Rattle.remote_copy.proofs.Reached.{reached_first}
use Rattle.copy_tool.specs.Mirroring as M
use Rattle.copy_tool.specs.Copying.{Made, Gives}
use Rattle.copy_tool.specs.Mirroring.{images_of, mirroring, mirroring_at, sent_before, volume_as}
use Rattle.copy_tool.specs.MirrorStanding.{IsFarVolume, failing, firm_at, mirror_from}
use Rattle.copy_tool.proofs.Firms.{IsOver, firms_so, over_so}
use Rattle.copy_tool.proofs.Made.{some_same}
use Rattle.copy_tool.proofs.MirrorBegun.{opened_in}

pub if_ok : {A E : Type 0} (p q : A → Type 0) (r : Result A E) → ((x : A) → p x → q x) → IfOk r p → IfOk r q
if_ok p q (Ok x) f so = f x so
if_ok p q (Err e) f so = tt

if_at : {X : Type 0} (p : X → Type 0) (o : Option X) (x : X) → o ≡ Some x → IfSome o p → p x
if_at p o x at so = subst (λ q. IfSome q p) at so

module _ {V L : Type 0} {G : Ghosts V} {H : links.Ghosts L} (x : Mirror V L G H) (deck : DeckLines) (d n : ℕ) (z : MirrorRun) (read : WasRead deck)
    (goes : driven mirror_course (map asked_by deck.events) (mirror_from deck d n) ≡ Goes z) (is : IsMirror x z) (first : Mounted)
    (there : mounted_in (opened deck).mounted d ≡ Some first) (small : n < 2 ^ 32) (far : List Track) (told : x.sender.link.far ≡ Some far) where
  abbrev over : IsOver deck d n z
  over = over_so deck d n z goes

  abbrev start : List Track
  start = empty_volume first.device.store.cylinders

  start_so : z.start ≡ start
  start_so = over.start_is ∙ ap firm_at there ∙ (opened_in deck deck.devices d first there).firm

  reached_so : IsReached (failing n) z.firms z.start x.sender
  reached_so =
      if_at (λ (f : List Track). IsReached (failing n) z.firms z.start x.sender) x.sender.link.far far told
      (if_at (λ (p : PutCalls). IfSome x.sender.link.far (λ f. IsReached p z.firms z.start x.sender)) z.calls (failing n) over.calls_are
      (is.exact over.uncopied))

  -- the device behind the run
  behind : mounted_in z.run.mounted d ≡ Some is.mounted
  behind = subst (λ (k : ℕ). mounted_in z.run.mounted k ≡ Some is.mounted) over.device is.there

  at_end : mounted_in (run_of deck).behind.mounted d ≡ Some is.mounted
  at_end = subst (λ (s : Subsystem). mounted_in s.mounted d ≡ Some is.mounted) over.run behind

  abbrev writes : List FirmWrite
  writes = sent_before n (firm_writes_of is.mounted.device)

  -- what was reached are the firm writes before the put that fails
  far_so : far ≡ put_all writes start
  far_so =
      some_same (sym told ∙ reached_so.far)
      ∙ ap (λ (s : List Track). put_all (reached (failing n) z.firms) s) start_so
      ∙ ap (λ (ws : List FirmWrite). put_all ws start) (reached_first n z.firms small)
      ∙ ap (λ (ws : List FirmWrite). put_all (sent_before n ws) start) (firms_so deck d n z goes read.0 read.1 first there is.mounted behind)

  -- the device is as large as it was
  long_so : length far ≡ is.mounted.device.store.cylinders * 15
  long_so = if_at (λ (f : List Track). length f ≡ x.sender.link.tracks) x.sender.link.far far told is.of.long ∙ is.of.tracks

  same_size : first.device.store.cylinders ≡ is.mounted.device.store.cylinders
  same_size =
      let begun : length far ≡ first.device.store.cylinders * 15 =
      ap length far_so ∙ length_put_all writes start
      ∙ length-map-range_with_len empty_track 0 (first.device.store.cylinders * 15) in
      omega (arith, begun, long_so)

  pub mirroring_so : mirroring deck d n ≡ Ok (volume_as is.mounted far)
  unfolding M.mirroring
  mirroring_so =
      ap (mirroring_at n) at_end
      ∙ ap (λ (k : ℕ). Ok (volume_as is.mounted (put_all writes (empty_volume k)))) (sym same_size)
      ∙ ap (λ (f : List Track). Ok (volume_as is.mounted f)) (sym far_so)

  -- so it is answered
  pub found_so : (v : ImageVolume) → v ≡ volume_as is.mounted far → Gives (Ok v) (mirroring deck d n)
  found_so v made =
      ap (λ (w : ImageVolume). (let r : Made = Ok w in r)) made ∙ sym mirroring_so

-- What a link has is what the mirror tells

module _ {V L : Type 0} {G : Ghosts V} {H : links.Ghosts L} (x : Mirror V L G H) (d : ℕ) (z : MirrorRun) (is : IsMirror x z) (device : z.device ≡ d)
    (y : Device V G) (at : device_at x.sub.devices.items d ≡ Some y) where
  pub same_cylinders : is.mounted.device.store.cylinders ≡ y.store.cylinders
  same_cylinders =
      let k = known_at x.sub.devices.items z.run.mounted d y (all_known (all_stood x.sub.devices.items) z.run.mounted is.stands.mounted) at in
      let there : mounted_in z.run.mounted d ≡ Some is.mounted =
      subst (λ (n : ℕ). mounted_in z.run.mounted n ≡ Some is.mounted) device is.there in
      let same : is.mounted ≡ k.mounted = some_same (sym there ∙ k.there) in
      ap (λ (m : Mounted). m.device.store.cylinders) same ∙ k.is.cylinders

  pub tracks_so : (v : LinkView) → v ≡ x.sender.link → v.tracks ≡ y.store.cylinders * 15
  tracks_so v same = ap (λ (w : LinkView). w.tracks) same ∙ is.of.tracks ∙ ap (λ (n : ℕ). n * 15) same_cylinders

  pub volume_so : (v : LinkView) (f : List Track) (w : ImageVolume) (g : Geometry) → v ≡ x.sender.link → v.far ≡ Some f → v.geometry ≡ g →
      w ≡ volume_with g y.store.cylinders (images_of g f) → IsFarVolume x.sender.link is.mounted w
  volume_so v f w g same told model made =
      let geometry : g ≡ is.mounted.device.store.geometry = sym model ∙ ap (λ (u : LinkView). u.geometry) same ∙ is.of.geometry in
      record {
        far = f;
        told = sym (ap (λ (u : LinkView). u.far) same) ∙ told;
        is = made
            ∙ ap (λ (h : Geometry). volume_with h y.store.cylinders (images_of h f)) geometry
            ∙ ap (λ (n : ℕ). volume_with is.mounted.device.store.geometry n (images_of is.mounted.device.store.geometry f)) (sym same_cylinders);
      }

-- The device is small, where the deck was read

module _ {V L : Type 0} {G : Ghosts V} {H : links.Ghosts L} (x : Mirror V L G H) (deck : DeckLines) (d n : ℕ) (z : MirrorRun) (read : WasRead deck)
    (goes : driven mirror_course (map asked_by deck.events) (mirror_from deck d n) ≡ Goes z) (is : IsMirror x z) where
  pub small_far : (o : Option (Device V G)) → device_at x.sub.devices.items d ≡ o → IfSome o (λ (y : Device V G). y.store.cylinders ≤ 64)
  small_far None at = tt
  small_far (Some y) at =
      let over : IsOver deck d n z = over_so deck d n z goes in
      let there : mounted_in z.run.mounted d ≡ Some is.mounted = subst (λ (k : ℕ). mounted_in z.run.mounted k ≡ Some is.mounted) over.device is.there in
      let behind : mounted_in (run_of deck).behind.mounted d ≡ Some is.mounted =
      subst (λ (s : Subsystem). mounted_in s.mounted d ≡ Some is.mounted) over.run there in
      subst (λ (k : ℕ). k ≤ 64) (same_cylinders x d z is over.device y at)
      (small_in_run empty_firsts deck d is.mounted (read_small read.0 deck read.1) behind)
