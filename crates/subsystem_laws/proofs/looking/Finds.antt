-- What a look at a track of a device over marks finds, and what it leaves.
use Rattle.std.proofs.Common.{◌≡◌, ◌==◌, ◌&&◌, ◌||◌, ℕ, Bool, true, false, Option, Some, None, refl, sym, ap, subst, ◌∙◌, arith, ◌⊎◌, inl, inr}
use Rattle.ckd_types.specs.declared.paths.Side.{Side}
use Rattle.ckd_types.specs.declared.paths.Side.TheVariants.{A, B}
use Rattle.device_outside.specs.Interaction.{Done, and_then}
use Rattle.device_outside.specs.Told.{Calls, read_fails}
use Rattle.device_defs.specs.Contents.{by_plain}
use Rattle.device_defs.specs.Device.{with_store, event_begun, event_ended}
use Rattle.device_defs.specs.Image as I
use Rattle.device_defs.specs.Image.{
  Got,
  got,
  Imaged,
  Has,
  NoBytes,
  BadTrack,
  first_faulty_side,
  read_counted,
  read_b,
  level_bytes,
  missed,
  miss,
  hit,
  clean_image,
  image_by,
  image,
}
use Rattle.device_defs.specs.Marks.{MarksStore, MarksDevice}
use Rattle.device_defs.specs.Memory.{had_by}
use Rattle.device_defs.specs.Owed.{noted_begin, is_modified, waiting_count}
use Rattle.device_defs.specs.Peek as P
use Rattle.device_defs.specs.Peek.{Peeked, Track, Lost, Fault, BadBytes, peek_usage, peeked, is_in_half, peek_image, peek_half, peek_track, peek}
use Rattle.device_defs.specs.Second.{plainly_written, half_image_of}
use Rattle.device_defs.specs.Store.{
  Origin,
  OfCommand,
  OfCut,
  OfBackground,
  HalfWrite,
  SideMarks,
  level_at,
  has_level,
  frame_at,
  is_lost,
  with_frame,
  plain_at,
}
use Rattle.subsystem_laws.specs.Looking.{is_written, is_written_at, IsNowhere}
use Rattle.subsystem_laws.proofs.looking.Own.{own_of, same_image, counted_own, unframed_own, begun_own, failed_seen, ended_seen}
use Rattle.subsystem_laws.proofs.looking.Seen.{one_read, Seen, seen_done, seen_try, seen_ask, seen_a, seen_b, seen_then, seen_if}

module _ (s : MarksStore) (t : ℕ) (a b : Calls) where
  -- this side had the track and its next read fails, and the other one doesn't have it or fails as well
  abbrev pub Failed : Side → Type 0
  Failed A = (level_at s.a t ≡ true) × ((read_fails a ≡ true) × ((level_at s.b t ≡ false) ⊎ (read_fails b ≡ true)))
  Failed B = (level_at s.b t ≡ true) × ((read_fails b ≡ true) × ((level_at s.a t ≡ false) ⊎ (read_fails a ≡ true)))

  -- Bytes

  abbrev NoneGot : Option Side → Type 0
  NoneGot None = has_level s t ≡ false
  NoneGot (Some side) = Failed side

  abbrev GotIs : Option Bool → Option Side → Type 0
  GotIs (Some true) fault = Unit {0}
  GotIs (Some false) fault = ⊥
  GotIs None fault = NoneGot fault

  record GotSeen (z : MarksStore) (g : Got Bool) : Type 0 where
    own : own_of z ≡ own_of s
    is : GotIs g.bytes g.fault

  abbrev Gets : Calls → Calls → MarksStore → Got Bool → Type 0
  Gets x y z g = GotSeen z g

  -- before side B is tried
  abbrev Before : Option Side → Type 0
  Before None = level_at s.a t ≡ false
  Before (Some A) = (level_at s.a t ≡ true) × (read_fails a ≡ true)
  Before (Some B) = ⊥

  b_fails : (fault : Option Side) → Before fault → level_at s.b t ≡ true → read_fails b ≡ true → Failed (first_faulty_side fault B)
  b_fails None before on fails = (on, (fails, inl before))
  b_fails (Some A) before on fails = (before.0, (before.1, inr fails))
  b_fails (Some B) before on fails = absurd before

  neither : (x y : Bool) → x ≡ false → y ≡ false → (x || y) ≡ false
  neither x y e f = rw (e, f) refl

  b_not : (fault : Option Side) → Before fault → level_at s.b t ≡ false → NoneGot fault
  b_not None before off = neither (level_at s.a t) (level_at s.b t) before off
  b_not (Some A) before off = (before.0, (before.1, inl off))
  b_not (Some B) before off = absurd before

  b_seen : (x y : Calls) (z : MarksStore) (fault : Option Side) → y ≡ b → own_of z ≡ own_of s → z.b ≡ s.b → Before fault →
      Seen Gets x y (read_b by_plain z t fault)
  b_seen x y z fault same own side before =
      let level : level_at z.b t ≡ level_at s.b t = ap (λ (m : SideMarks). level_at m t) side in
      seen_if (level_at z.b t)
      (λ on. seen_b
      (λ fails. seen_then (λ u _. Done u (got B None (Some (first_faulty_side fault B)))) (failed_seen x (one_read y) (read_counted z false) B)
      (λ _ _ u _ f. seen_done (record {
        own = f.own ∙ counted_own z false ∙ own;
        is = b_fails fault before (sym level ∙ on) (sym (ap read_fails same) ∙ fails);
      })))
      (λ _. seen_done (record { own = counted_own z true ∙ own; is = tt })))
      (λ off. seen_done (record { own = own; is = b_not fault before (sym level ∙ off) }))

  level_seen : Seen Gets a b (level_bytes by_plain s t)
  unfolding I.level_bytes
  level_seen =
      seen_if (level_at s.a t)
      (λ on. seen_a
      (λ fails. seen_then (λ z _. read_b by_plain z t (Some A)) (failed_seen (one_read a) b (read_counted s false) A)
      (λ x y z _ f. b_seen x y z (Some A) f.second (f.own ∙ counted_own s false) (f.kept refl) (on, fails)))
      (λ _. seen_done (record { own = counted_own s true; is = tt })))
      (λ off. b_seen a b s None refl refl refl off)

module _ (s : MarksStore) (t : ℕ) (a b : Calls) where
  -- Images

  unframed_none : (fault : Option Side) → NoneGot (with_frame s t None) t a b fault → NoneGot s t a b fault
  unframed_none None h = h
  unframed_none (Some A) h = h
  unframed_none (Some B) h = h

  unframed_got : (bytes : Option Bool) (fault : Option Side) → GotIs (with_frame s t None) t a b bytes fault → GotIs s t a b bytes fault
  unframed_got (Some true) fault h = h
  unframed_got (Some false) fault h = h
  unframed_got None fault h = unframed_none fault h

  -- no side gave bytes, and no modified frame is there
  abbrev NoneIs : Option Side → Type 0
  NoneIs None = IsNowhere s t
  NoneIs (Some side) = Failed s t a b side

  none_is : (fault : Option Side) → is_modified by_plain (frame_at s t) ≡ false → NoneGot s t a b fault → NoneIs fault
  none_is None m h = (h, m)
  none_is (Some side) m h = h

  abbrev ImageIs : Option Imaged → Type 0
  ImageIs None = ⊥
  ImageIs (Some (Has i)) = i ≡ plain_at s t
  ImageIs (Some (NoBytes fault)) = NoneIs fault
  ImageIs (Some (BadTrack side)) = ⊥

  record ImageSeen (z : MarksStore) (o : Option Imaged) : Type 0 where
    own : own_of z ≡ own_of s
    is : ImageIs o

  abbrev Images : Calls → Calls → MarksStore → Option Imaged → Type 0
  Images x y z o = ImageSeen z o

  missed_seen : (x y : Calls) (z : MarksStore) (g : Got Bool) (bytes : Option Bool) → is_modified by_plain (frame_at s t) ≡ false → own_of z ≡ own_of s →
      GotIs s t a b bytes g.fault → Seen Images x y (missed by_plain peek_usage t z g bytes)
  missed_seen x y z g None m own h = seen_done (record { own = own; is = none_is g.fault m h })
  missed_seen x y z g (Some true) m own h = seen_try (seen_done (record { own = own; is = same_image s z own t }))
  missed_seen x y z g (Some false) m own h = absurd h

  miss_seen : is_modified by_plain (frame_at s t) ≡ false → Seen Images a b (miss by_plain s peek_usage t)
  miss_seen m =
      seen_then (λ z g. missed by_plain peek_usage t z g g.bytes) (level_seen s t a b)
      (λ x y z g h. missed_seen x y z g g.bytes m h.own h.is)

  unframed_seen : is_modified by_plain (frame_at s t) ≡ false → Seen Images a b (miss by_plain (with_frame s t None) peek_usage t)
  unframed_seen m =
      seen_then (λ z g. missed by_plain peek_usage t z g g.bytes) (level_seen (with_frame s t None) t a b)
      (λ x y z g h. missed_seen x y z g g.bytes m (h.own ∙ unframed_own s t) (unframed_got g.bytes g.fault h.is))

  by_frame_seen : (o : Option Bool) → frame_at s t ≡ o → Seen Images a b (image_by by_plain s peek_usage t o)
  by_frame_seen None e = miss_seen (ap (is_modified by_plain) e)
  by_frame_seen (Some true) e = seen_done (record { own = refl; is = refl })
  by_frame_seen (Some false) e =
      seen_ask (λ listed. seen_if listed (λ _. seen_done (record { own = refl; is = refl })) (λ _. unframed_seen (ap (is_modified by_plain) e)))

  image_seen : Seen Images a b (image by_plain s peek_usage t)
  unfolding I.image
  image_seen = by_frame_seen (frame_at s t) refl

  -- The look

  abbrev pub PeekIs : Option Peeked → Type 0
  PeekIs None = ⊥
  PeekIs (Some (Track i)) = (is_lost s t ≡ false) × (is_written_at s.half t ≡ false → i ≡ plain_at s t)
  PeekIs (Some Lost) = is_lost s t ≡ true
  PeekIs (Some (Fault side)) =
      (is_lost s t ≡ false) × (Failed s t a b side ⊎ IsNowhere s t)
  PeekIs (Some (BadBytes side)) = ⊥

  pub record PeekSeen (z : MarksStore) (o : Option Peeked) : Type 0 where
    pub own : own_of z ≡ own_of s
    pub is : PeekIs o

  abbrev pub Peeks : Calls → Calls → MarksStore → Option Peeked → Type 0
  Peeks x y z o = PeekSeen z o

  found_seen : (x y : Calls) (z : MarksStore) (o : Option Imaged) → is_lost s t ≡ false → own_of z ≡ own_of s → ImageIs o →
      Seen Peeks x y (had_by (λ u i. Done u (Some (peeked i))) z o)
  found_seen x y z None there own h = absurd h
  found_seen x y z (Some (Has i)) there own h = seen_done (record { own = own; is = (there, λ _. h) })
  found_seen x y z (Some (NoBytes None)) there own h = seen_done (record { own = own; is = (there, inr h) })
  found_seen x y z (Some (NoBytes (Some side))) there own h = seen_done (record { own = own; is = (there, inl h) })
  found_seen x y z (Some (BadTrack side)) there own h = absurd h

  imaged_seen : is_lost s t ≡ false → Seen Peeks a b (peek_image by_plain s t)
  imaged_seen there =
      seen_then (had_by (λ u i. Done u (Some (peeked i)))) image_seen (λ x y z o h. found_seen x y z o there h.own h.is)

  plain_of : (q : ℕ) (origin : Origin) → is_written origin ≡ false → plainly_written s q origin ≡ plain_at s q
  plain_of q (OfCommand bypass e) off = absurd (cc)
  plain_of q (OfCut bypass) off = absurd (cc)
  plain_of q OfBackground off = refl

  both_so : (x y : Bool) → (x && y) ≡ false → x ≡ true → y ≡ false
  both_so true y e f = e
  both_so false y e f = absurd (cc)

  first_of : (x y z : Bool) → (x && y && z) ≡ true → x ≡ true
  first_of true y z e = refl
  first_of false y z e = absurd (cc)

  half_seen : (h : HalfWrite (Unit {0})) → s.half ≡ Some h → (h.track == t) ≡ true → is_written_at s.half t ≡ false →
      half_image_of by_plain s h ≡ plain_at s t
  half_seen h e own off =
      let is : h.track ≡ t = grind arith in
      plain_of h.track h.origin
      (both_so (h.track == t) (is_written h.origin) (subst (λ (o : Option (HalfWrite (Unit {0}))). is_written_at o t ≡ false) e off) own)
      ∙ ap (λ (q : ℕ). plain_at s q) is

  by_half : (o : Option (HalfWrite (Unit {0}))) → s.half ≡ o → is_lost s t ≡ false → Seen Peeks a b (peek_half by_plain s t o)
  by_half None e there = imaged_seen there
  by_half (Some h) e there =
      seen_if (is_in_half by_plain s t h)
      (λ yes. seen_try (seen_done (record { own = refl; is = (there, half_seen h e (first_of (h.track == t) _ _ yes)) })))
      (λ no. imaged_seen there)

  pub track_seen : Seen Peeks a b (peek_track by_plain s t)
  track_seen = seen_if (is_lost s t) (λ lost. seen_done (record { own = refl; is = lost })) (λ there. by_half s.half refl there)

-- The device

pub record Looks (d : MarksDevice) (t : ℕ) (a b : Calls) (e : MarksDevice) (o : Option Peeked) : Type 0 where
  pub own : own_of e.store ≡ own_of d.store
  pub plans : e.plans ≡ d.plans
  pub paths : e.paths ≡ d.paths
  pub chain : e.chain ≡ d.chain
  pub is : PeekIs d.store t a b o

begun_is : (s : MarksStore) (t : ℕ) (a b : Calls) (o : Option Peeked) → PeekIs (noted_begin s) t a b o → PeekIs s t a b o
begun_is s t a b None h = h
begun_is s t a b (Some (Track i)) h = h
begun_is s t a b (Some Lost) h = h
begun_is s t a b (Some (Fault A)) h = h
begun_is s t a b (Some (Fault B)) h = h
begun_is s t a b (Some (BadBytes side)) h = h

pub peek_seen : (d : MarksDevice) (t : ℕ) (a b : Calls) → Seen (λ x y e o. Looks d t a b e o) a b (peek by_plain d t)
unfolding P.peek
peek_seen d t a b =
    let body : Seen (λ x y e o. Looks d t a b e o) a b (and_then (peek_track by_plain (noted_begin d.store) t) (λ s found. Done (with_store (event_begun d) s) found)) =
    seen_then (λ s found. Done (with_store (event_begun d) s) found) (track_seen (noted_begin d.store) t a b)
    (λ x y z o h. seen_done (record {
      own = h.own ∙ begun_own d.store;
      plans = refl;
      paths = refl;
      chain = refl;
      is = begun_is d.store t a b o h.is;
    })) in
    seen_then (event_ended by_plain d) body
    (λ x y e o h.
    seen_then (λ z _. Done (record e { store = z }) o) (ended_seen e.store (waiting_count by_plain d.store) x y e.store refl)
    (λ _ _ z _ f. seen_done (record { own = f ∙ h.own; plans = h.plans; paths = h.paths; chain = h.chain; is = h.is })))
