-- Losses and work in the background keep the history of a run's device a plain device's.
use Rattle.std.proofs.Common.{
  ◌≡◌,
  ◌<◌,
  ◌*◌,
  ◌==◌,
  ℕ,
  Bool,
  true,
  false,
  List,
  [],
  ◌∷◌,
  ◌++◌,
  length,
  Option,
  Some,
  None,
  is_some,
  cond,
  set,
  get_or,
  refl,
  sym,
  ap,
  subst,
  ◌∙◌,
  arith,
}
use Rattle.std.specs.Prelude.{◌||◌, replicate, IsSome, if◌then◌else◌}
use Rattle.std.proofs.lemmas.Bool.{cond_both, eqb-true, eqb-false}
use Rattle.std.proofs.lemmas.List.{get_or-set_same, get_or-set_other, get_or_default, ext_get_or, length-set, length-replicate}
use Rattle.ckd_types.specs.declared.geometry.Geometry.{Geometry}
use Rattle.ckd_types.specs.declared.paths.Side.{Side}
use Rattle.ckd_types.specs.declared.record.Track.{Track}
use Rattle.ckd_types.specs.Track.{empty_track}
use Rattle.ckd_types.specs.Volume.{track_in}
use Rattle.ckd_chain.specs.State.{ChainState}
use Rattle.loss_model.specs.declared.Loss.{Loss}
use Rattle.loss_model.specs.declared.Loss.TheVariants as losses
use Rattle.plain_defs.specs.declared.journal.Act.{Act}
use Rattle.plain_defs.specs.declared.journal.Act.TheVariants.{CfwLost}
use Rattle.plain_defs.specs.History.{OpenEntry, History, plain_of, acted, acted_in}
use Rattle.plain_defs.specs.Journal.{replay}
use Rattle.plain_defs.specs.Legal.{AreActs}
use Rattle.plain_defs.specs.Loose.{firm_in, restored, next_number, cfw_lost}
use Rattle.plain_defs.specs.PlainState.{LooseTrack, PlainState}
use Rattle.plain_defs.specs.Program.{acts_done}
use Rattle.track_image.specs.Image.{Image}
use Rattle.track_table.specs.Tracks.{least}
use Rattle.device_outside.specs.Interaction.{Done, and_then}
use Rattle.device_defs.specs.declared.answers.Did.{Did}
use Rattle.device_defs.specs.declared.answers.Took.{Took}
use Rattle.device_defs.specs.declared.answers.Took.TheVariants.{Whole, Opened, Unwritten}
use Rattle.device_defs.specs.Background as B
use Rattle.device_defs.specs.Background.{
  saved_by,
  saved,
  recovered_bytes,
  recover,
  copied,
  copy_read,
  copy_by,
  copies_to,
  staged_bytes,
  stage,
  destage_first,
  to_destage,
  stage_first,
  copy_first,
  to_copy,
  recover_first,
  to_recover,
  work,
  other,
}
use Rattle.device_defs.specs.Contents.{by_plain}
use Rattle.device_defs.specs.Device.{all_acted, with_store}
use Rattle.device_defs.specs.Effects.{gone_back, loose_lost}
use Rattle.device_defs.specs.Events as V
use Rattle.device_defs.specs.Events.{with_loss, lost_by, losing, lose, background}
use Rattle.device_defs.specs.Image.{Got, filled}
use Rattle.device_defs.specs.Losses as L
use Rattle.device_defs.specs.Losses.{over, settled, patch_lost, without_frame, without_patch, slot_in, stale_everywhere, call_failed}
use Rattle.device_defs.specs.Marks.{MarksDevice, MarksStore}
use Rattle.device_defs.specs.Owed.{noted_begin}
use Rattle.device_defs.specs.Store.{
  OfBackground,
  HalfWrite,
  tracks_of,
  is_loose,
  is_lost,
  half_is,
  owed_at,
  frame_at,
  patch_at,
  plain_at,
  with_frame,
  with_stale,
}
use Rattle.device_laws.specs.NewDevice.{first_state}
use Rattle.device_laws.proofs.DeviceEnds.{acts_stand}
use Rattle.device_laws.proofs.DevicePaths.{acts_keep_them}
use Rattle.device_laws.proofs.Had.{Had, had_done, had_try, had_ask, had_read, had_write, had_if, had_then}
use Rattle.device_laws.proofs.HistoryActs.{some_loose, all_acted_state}
use Rattle.device_laws.proofs.OpenProgram.{acts_more}
use Rattle.device_laws.proofs.PlainCommand.{event_follows, all_run, runs_first}
use Rattle.device_laws.proofs.PlainEvents.{none_loose, runs_idle}
use Rattle.device_laws.proofs.PlainStores.{
  Core,
  Open,
  core_of,
  open_of,
  loose_at,
  hardened_core,
  with_half,
  IsOf,
  HasPlaces,
  Stays,
  stays_hardened,
  Walks,
  walks_on,
  walks_half,
  walks_hardened,
  acts_done_more,
  not_loose,
  of_beside,
}
use Rattle.device_laws.proofs.PlainTurns.{RunsAt, ChainOf, IsMid, Follows, of_begun, some_none, mid_none, none_mid, mid_stays, home_stays}
use Rattle.device_laws.proofs.PlainWalks.{
  FirstTook,
  framed_same,
  patch_same,
  everywhere_same,
  stale_same,
  settled_holds,
  over_holds,
  side_holds,
  told_holds,
  failed_on,
  bytes_on,
  firm_first_on,
  first_on,
  done_same,
  opened_half,
  opened_core,
}
use Rattle.device_laws.proofs.Working.{least_found}

-- Where all data of cache fast write go

length_restored : (l : List LooseTrack) (v : List Track) → length (restored l v) ≡ length v
length_restored [] v = refl
length_restored (x ∷ l) v = length-set (restored l v) x.track x.firm ∙ length_restored l v

restored_by : (b : Bool) (x : LooseTrack) (l : List LooseTrack) (v : List Track) (q : ℕ) (d : Track) → (x.track == q) ≡ b → q < length v →
    get_or (restored l v) q d ≡ firm_in l q (get_or v q d) → get_or (set (restored l v) x.track x.firm) q d ≡ cond b x.firm (firm_in l q (get_or v q d))
restored_by true x l v q d same lt rest =
    let e = eqb-true x.track q same in
    let many = length_restored l v in
    rw e (get_or-set_same (restored l v) q x.firm d (omega (arith, lt, many)))
restored_by false x l v q d apart lt rest =
    get_or-set_other (restored l v) x.track q x.firm d (λ e. eqb-false x.track q apart (sym e)) ∙ rest

restored_at : (l : List LooseTrack) (v : List Track) (q : ℕ) (d : Track) → q < length v → get_or (restored l v) q d ≡ firm_in l q (get_or v q d)
restored_at [] v q d lt = refl
restored_at (x ∷ l) v q d lt = restored_by (x.track == q) x l v q d refl lt (restored_at l v q d lt)

abbrev pub gone_core : Core → Core
gone_core c = record c { plain = c.firm; loose = replicate (c.cylinders * 15) false; number = next_number c.number }

module _ (p : PlainState) (c : Core) (of : IsOf p c) where
  volume_gone : restored p.loose p.volume ≡ c.firm
  volume_gone =
      let many : length (restored p.loose p.volume) ≡ length c.firm =
      length_restored p.loose p.volume ∙ ap length of.volume ∙ sym of.firms in
      let all : length p.volume ≡ length c.firm = ap length of.volume ∙ sym of.firms in
      ext_get_or (empty_track 0) (restored p.loose p.volume) c.firm many
      (λ q lt. get_or_default (restored p.loose p.volume) q (empty_track 0) (empty_track q) lt
      ∙ restored_at p.loose p.volume q (empty_track q) (omega (arith, lt, many, all))
      ∙ of.firm q ∙ sym (get_or_default c.firm q (empty_track 0) (empty_track q) (omega (arith, lt, many))))

  pub of_gone : IsOf (cfw_lost p) (gone_core c)
  of_gone = record {
    geometry = of.geometry;
    cylinders = of.cylinders;
    number = ap next_number of.number;
    volume = volume_gone;
    loose = λ q. sym (none_loose (c.cylinders * 15) q);
    firm = λ q. ap (λ (v : List Track). track_in v q) volume_gone;
    firms = refl;
    looses = length-replicate (c.cylinders * 15) false ∙ sym (of.firms ∙ of.tracks);
    tracks = of.firms ∙ of.tracks;
  }

-- the acts of an event are none of these
pub of_acts : (p : PlainState) (c : Core) → IsOf p c → (acts : List Act) → IsOf p (record c { acts = acts })
of_acts p c of acts = of_beside of p.paths acts c.half c.lent

pub places_gone : (p : PlainState) (c : Core) → IsOf p c → HasPlaces c → HasPlaces (gone_core c)
places_gone p c of places = places ∙ of.looses ∙ of.tracks ∙ sym (length-replicate (c.cylinders * 15) false)

-- what was firm stays as it is
stays_gone : (p : PlainState) (c d : Core) → IsOf p d → Stays c d → Stays c (gone_core d)
stays_gone p c d of s = record {
  loose = λ q e. none_loose (d.cylinders * 15) q;
  plain = λ q e.
      sym (of.firm q) ∙ not_loose p.loose q (track_in p.volume q) (of.loose q ∙ s.loose q e)
      ∙ ap (λ (v : List Track). track_in v q) of.volume ∙ s.plain q e;
}

-- with some plain volume, on which what was firm is as it was
pub record Walked (p : PlainState) (g : Geometry) (n : ℕ) (first c : Core) : Type 0 where
  pub plain : List Track
  pub walks : Walks p plain g n (open_of first) c
  pub stays : Stays first c

pub walked_hardened : (p : PlainState) (g : Geometry) (n : ℕ) (first c : Core) (t : ℕ) → Walked p g n first c → loose_at c t ≡ true →
    Walked p g n first (hardened_core c t)
walked_hardened p g n first c t w is = record {
  plain = w.plain;
  walks = walks_hardened p w.plain g n (open_of first) c t w.walks is;
  stays = stays_hardened first c t w.stays;
}

module _ (p : PlainState) (g : Geometry) (n : ℕ) (first : Core) where
  abbrev pub Goes : MarksStore → Type 0
  Goes s = Walked p g n first (core_of s)

  goes_core : (s z : MarksStore) → core_of z ≡ core_of s → Goes s → Goes z
  goes_core s z e w = subst (Walked p g n first) (sym e) w

  lost_by_loose : (s : MarksStore) (o : Option ℕ) → least (tracks_of s) (is_loose s) ≡ o → Goes s →
      Goes (if is_some o then record (gone_back s) { acts = s.acts ++ CfwLost ∷ [] } else s)
  lost_by_loose s None e w = w
  lost_by_loose s (Some t) e w =
      let c = core_of s in
      let k = w.walks in
      let found = least_found (tracks_of s) (is_loose s) t e in
      let q = acts_done p s.acts in
      let stays = stays_gone q first c k.of w.stays in
      record {
        plain = s.firm;
        walks = record {
          of = rw (acts_done_more p s.acts CfwLost) (of_acts (cfw_lost q) (gone_core c) (of_gone q c k.of) (s.acts ++ CfwLost ∷ []));
          are = acts_more p None s.acts CfwLost k.are (some_loose q.loose t (k.of.loose t ∙ found.1), tt);
          places = places_gone q c k.of k.places;
          plain = refl;
          geometry = k.geometry;
          cylinders = k.cylinders;
          rest = k.rest;
        };
        stays = record { loose = stays.loose; plain = stays.plain };
      }

  loose_goes : (s : MarksStore) → Goes s → Goes (loose_lost s)
  loose_goes s w = lost_by_loose s (least (tracks_of s) (is_loose s)) refl w

  pub over_goes : (k : ℕ) (f : ℕ → MarksStore → MarksStore) → ((t : ℕ) (z : MarksStore) → Goes z → Goes (f t z)) → (s : MarksStore) → Goes s → Goes (over k f s)
  over_goes k f h s w = over_holds (Walked p g n first) (walked_hardened p g n first) k f h s w

  settles : (t : ℕ) (z : MarksStore) → Goes z → Goes (settled by_plain z t)
  settles t z w = settled_holds (Walked p g n first) (walked_hardened p g n first) z t w

  unframed : (t : ℕ) (z : MarksStore) → Goes z → Goes (without_frame z t)
  unframed t z w =
      cond_both (is_some (frame_at z t)) (record (with_frame z t None) { owed = set z.owed t (record (owed_at z t) { dropped = true }) }) z Goes
      (λ _. goes_core z (with_frame z t None) (framed_same z t None) w) (λ _. w)

  pub unframed_settles : (t : ℕ) (z : MarksStore) → Goes z → Goes (settled by_plain (without_frame z t) t)
  unframed_settles t z w = settles t (without_frame z t) (unframed t z w)

  unpatched : (t : ℕ) (z : MarksStore) → Goes z → Goes (without_patch by_plain z t)
  unpatched t z w = goes_core z (without_patch by_plain z t) (patch_same z t (slot_in by_plain (patch_at z t))) w

  patch_goes : (t : ℕ) (z : MarksStore) → Goes z → Goes (patch_lost by_plain t z)
  patch_goes t z w =
      cond_both (is_some (patch_at z t))
      (if half_is z.half t then without_patch by_plain z t else settled by_plain (stale_everywhere (without_patch by_plain z t) t) t) z Goes
      (λ _. cond_both (half_is z.half t) (without_patch by_plain z t) (settled by_plain (stale_everywhere (without_patch by_plain z t) t) t) Goes
      (λ _. unpatched t z w)
      (λ _. settles t (stale_everywhere (without_patch by_plain z t) t)
      (goes_core (without_patch by_plain z t) (stale_everywhere (without_patch by_plain z t) t) (everywhere_same (without_patch by_plain z t) t)
      (unpatched t z w))))
      (λ _. w)

  lost_goes : (s : MarksStore) (loss : Loss) → Goes s → Goes (lost_by by_plain s loss)
  unfolding L.cache_lost L.store_lost
  lost_goes s losses.Cache w = over_goes (tracks_of s) (λ t z. settled by_plain (without_frame z t) t) unframed_settles (record
      (loose_lost s) { queue = [] }) (loose_goes s w)
  lost_goes s losses.Store w = over_goes (tracks_of s) (patch_lost by_plain) patch_goes s w
  lost_goes s (losses.Side side) w = side_holds (Walked p g n first) (walked_hardened p g n first) s side None w

  pub losing_goes : (s : MarksStore) (loss : Loss) → Goes s → Had (losing by_plain s loss) (λ z (_ : Unit {0}). Goes z)
  losing_goes s loss w =
      told_holds (Walked p g n first) (walked_hardened p g n first) (tracks_of s) (lost_by by_plain (with_loss s loss) loss)
      (lost_goes (with_loss s loss) loss w)

-- Work in the background

module _ (p : PlainState) (u : List Track) (g : Geometry) (n : ℕ) (lent : Option ℕ × ℕ) where
  abbrev On : MarksStore → Type 0
  On s = Walks p u g n (None, lent) (core_of s)

  on_core : (s z : MarksStore) → core_of z ≡ core_of s → On s → On z
  on_core s z e w = walks_on p u g n (None, lent) e w

  -- no half write is open, or one of the background
  pub record Worked (z : MarksStore) : Type 0 where
    pub walks : Walks p u g n (z.half, lent) (core_of z)
    pub free : (c : Core) (r : Option OpenEntry) (b k : Option ChainState) → k ≡ b → IsMid c z.half r b k

  worked : (z : MarksStore) → On z → Worked z
  worked z w =
      let is : z.half ≡ None = ap (λ (k : Open). k.0) w.rest in
      record {
        walks = subst (λ (h : Option (HalfWrite (Unit {0}))). Walks p u g n (h, lent) (core_of z)) (sym is) w;
        free = λ c r b k same. mid_none c z.half r b k is same;
      }

  half_worked : (s z : MarksStore) (t : ℕ) → core_of z ≡ with_half (core_of s) (opened_half t OfBackground) → On s → Worked z
  half_worked s z t same w =
      let h = opened_half t OfBackground in
      let is : z.half ≡ opened_half t OfBackground = ap (λ (c : Core). c.half) same in
      record {
        walks = subst (λ (x : Option (HalfWrite (Unit {0}))). Walks p u g n (x, lent) (core_of z)) (sym is)
            (subst (Walks p u g n (h, lent)) (sym same) (walks_half p u g n (None, lent) (core_of s) w h));
        free = λ c r b k e. subst (λ (x : Option (HalfWrite (Unit {0}))). IsMid c x r b k) (sym is) e;
      }

  saved_on : (t : ℕ) (i : Image) (d : Did) (fault : Option Side) (was : Bool) (failed : Option Side) (s : MarksStore) (took : Took) →
      FirstTook p u g n (None, lent) (λ q. ⊥) t s took →
      Had (saved_by by_plain t i d fault was failed s took) (λ z (_ : Did). Worked z)
  saved_on t i d fault was failed s Whole w = had_then (done_same s t i false) (λ z _ e. had_done (worked z (on_core s z e w.on)))
  saved_on t i d fault was failed s Opened w = had_then (opened_core s t i OfBackground was) (λ z _ e. had_done (half_worked s z t e w.on))
  saved_on t i d fault was failed s Unwritten w = had_done (worked s w)

  save_on : (s : MarksStore) (t : ℕ) (i : Image) (d : Did) (fault : Option Side) → On s → Had (saved by_plain s t i d fault) (λ z (_ : Option Did). Worked z)
  save_on s t i d fault w =
      had_try (had_then {p = λ z _. Worked z}
      (had_then (firm_first_on p u g n (None, lent) (λ q. ⊥) t s w (λ q r. absurd r))
      (λ z was f. had_then (first_on p u g n (None, lent) (λ q. ⊥) t z true f) (λ y k h. saved_on t i d fault was k.fault y k.took h)))
      (λ z e h. had_done h))

  recovered_on : (t : ℕ) (s : MarksStore) (k : Got Bool) (b : Option Bool) → On s → Had (recovered_bytes by_plain t s k b) (λ z (_ : Option Did). Worked z)
  recovered_on t s k None w = had_done (worked s w)
  recovered_on t s k (Some true) w = had_try (save_on s t _ _ k.fault w)
  recovered_on t s k (Some false) w = had_try (had_done (worked s w))

  recover_on : (s : MarksStore) (t : ℕ) (f : Option Bool) → On s → Had (recover by_plain s t f) (λ z (_ : Option Did). Worked z)
  recover_on s t (Some f) w = save_on s t _ _ None w
  recover_on s t None w = had_then (bytes_on p u g n (None, lent) s t w) (λ z k v. recovered_on t z k k.bytes v)

  stopped_on : (s : MarksStore) (side : Side) (d : Option Did) → On s → Had (and_then (call_failed by_plain s side None) (λ z _. Done z d)) (λ z
      (_ : Option Did). Worked z)
  stopped_on s side d w = had_then (failed_on p u g n (None, lent) s side None w) (λ z _ v. had_done (worked z v))

  copied_on : (t : ℕ) (side : Side) (s : MarksStore) (ok : Bool) → On s → Had (copied by_plain t side s ok) (λ z (_ : Option Did). Worked z)
  copied_on t side s ok w =
      had_if ok (λ _. had_done (worked (with_stale s side t false) (on_core s (with_stale s side t false) (stale_same s side t false) w)))
      (λ _. stopped_on s side _ w)

  copy_on : (t : ℕ) (side : Side) (s : MarksStore) (r : Option Bool) → On s → Had (copy_read by_plain t side s r) (λ z (_ : Option Did). Worked z)
  copy_on t side s None w = stopped_on s (other side) _ w
  copy_on t side s (Some r) w = had_write (λ ok. copied_on t side _ ok w)

  copies_on : (s : MarksStore) (t : ℕ) (o : Option Side) → On s → Had (copy_by by_plain s t o) (λ z (_ : Option Did). Worked z)
  copies_on s t None w = had_done (worked s w)
  copies_on s t (Some side) w = had_read (λ got. copy_on t side _ got w)

  filled_on : (s : MarksStore) (t : ℕ) (i : Image) → On s → Had (filled by_plain s t i) (λ z (_ : Unit {0}). On z)
  filled_on s t i w =
      had_if (is_some (patch_at s t)) (λ _. had_ask (λ _. had_done (on_core s (with_frame s t (Some true)) (framed_same s t (Some true)) w)))
      (λ _. had_done (on_core s (with_frame s t (Some false)) (framed_same s t (Some false)) w))

  staged_on : (t : ℕ) (s : MarksStore) (k : Got Bool) (b : Option Bool) → On s → Had (staged_bytes by_plain t s k b) (λ z (_ : Option Did). Worked z)
  staged_on t s k None w = had_ask (λ _. had_done (worked s w))
  staged_on t s k (Some true) w = had_try (had_then (filled_on s t (plain_at s t) w) (λ z _ v. had_done (worked z v)))
  staged_on t s k (Some false) w = had_try (had_ask (λ _. had_done (worked s w)))

  stage_on : (s : MarksStore) (t : ℕ) → On s → Had (stage by_plain s t) (λ z (_ : Option Did). Worked z)
  stage_on s t w =
      had_if (is_some (frame_at s t) || is_lost s t) (λ _. had_done (worked s w))
      (λ _. had_try (had_ask (λ given. had_if given
      (λ _. had_then (bytes_on p u g n (None, lent) s t w) (λ z k v. staged_on t z k k.bytes v)) (λ _. had_done (worked s w)))))

  destage_on : (s : MarksStore) (o : Option ℕ) → On s → Had (destage_first by_plain s o) (λ z (_ : Option Did). Worked z)
  destage_on s None w = had_done (worked s w)
  destage_on s (Some t) w = save_on s t _ _ None w

  stages_on : (s : MarksStore) (q : List ℕ) → On s → Had (stage_first by_plain s q) (λ z (_ : Option Did). Worked z)
  stages_on s [] w = destage_on s (to_destage by_plain s) w
  stages_on s (t ∷ ts) w = stage_on (record s { queue = ts }) t w

  copy_first_on : (s : MarksStore) (o : Option ℕ) → On s → Had (copy_first by_plain s o) (λ z (_ : Option Did). Worked z)
  copy_first_on s None w = stages_on s s.queue w
  copy_first_on s (Some t) w = copies_on s t (copies_to s t) w

  recover_first_on : (s : MarksStore) (o : Option ℕ) → On s → Had (recover_first by_plain s o) (λ z (_ : Option Did). Worked z)
  recover_first_on s None w = copy_first_on s (to_copy s) w
  recover_first_on s (Some t) w = recover_on s t (frame_at s t) w

  pub work_on : (s : MarksStore) → On s → Had (work by_plain s) (λ z (_ : Option Did). Worked z)
  unfolding B.work
  work_on s w = recover_first_on s (to_recover by_plain s) w

-- Whole events

act_idle : (h : History) (act : Act) (r : Option OpenEntry) → r ≡ None → h.running ≡ None → (acted_in h act r).running ≡ None
act_idle h act (Some o) e none = absurd (cc)
act_idle h act None e none = none

still_none : (acts : List Act) (h : History) → h.running ≡ None → (all_acted h acts).running ≡ None
still_none [] h e = e
still_none (act ∷ acts) h e = still_none acts (acted h act) (act_idle h act h.running e e)

act_some : (h : History) (act : Act) (r : Option OpenEntry) → IsSome r → IsSome (acted_in h act r).running
act_some h act (Some o) some = refl
act_some h act None some = absurd (some_none None some refl)

still_some : (acts : List Act) (h : History) → IsSome h.running → IsSome (all_acted h acts).running
still_some [] h some = some
still_some (act ∷ acts) h some = still_some acts (acted h act) (act_some h act h.running some)

module _ (num : ℕ) (empty : PlainState) (d : MarksDevice) (f : Follows num empty d) where
  runs_by : (acts : List Act) → AreActs (plain_of d.plans empty d.history) None acts → (r : Option OpenEntry) → d.history.running ≡ r →
      (k : Option ChainState) → f.before ≡ k → RunsAt d.plans (replay d.plans empty (all_acted d.history acts).items) (all_acted d.history acts).running k
  runs_by acts are (Some o) running None is = absurd
      (subst (λ (k : Option ChainState). RunsAt d.plans (replay d.plans empty d.history.items) (Some o) k) is (rw (← running) f.runs))
  runs_by acts are (Some o) running (Some chain) is =
      let r = all_run num empty d f o running chain is o.path acts d.history f.stands.plain f.stands.due are (runs_first num empty d f o running chain is) in
      rw r.running r.at
  runs_by acts are None none k is =
      runs_idle d.plans (replay d.plans empty (all_acted d.history acts).items) (all_acted d.history acts).running k (still_none acts d.history none)

  -- behind the acts of an event
  pub acts_follow : (y : MarksStore) (u : List Track) →
      Walks (plain_of d.plans empty d.history) u d.store.geometry d.store.cylinders (y.half, (d.store.lent, d.store.device)) (core_of y) →
      IsMid (core_of y) y.half (all_acted d.history y.acts).running f.before d.chain → Follows num empty (with_store d y)
  acts_follow y u k mid = record {
    number = ap (λ (x : Open). x.1.1) k.rest ∙ f.number;
    base = f.base ∙ ap (λ (g : Geometry). first_state g d.store.cylinders empty.volume) (sym k.geometry)
        ∙ ap (λ (n : ℕ). first_state y.geometry n empty.volume) (sym k.cylinders);
    some = subst (λ (m : ℕ). 0 < m) (sym k.cylinders) f.some;
    stands = acts_stand empty d y f.stands k.are;
    keeps = acts_keep_them empty d y f.stands k.are f.keeps;
    of = subst (λ (x : PlainState). IsOf x (core_of y)) (sym (all_acted_state d.plans empty y.acts d.history f.stands.plain k.are)) k.of;
    places = k.places;
    before = f.before;
    runs = runs_by y.acts k.are d.history.running refl f.before refl;
    chain = chain_by y k.geometry k.cylinders f.before f.chain;
    mid = mid;
    home = rw (ap (λ (x : Open). x.1.0) k.rest)
        (home_stays d.store.lent d.history.running (all_acted d.history y.acts).running (still_none y.acts d.history) f.home);
  } where
    chain_by : (y : MarksStore) → y.geometry ≡ d.store.geometry → y.cylinders ≡ d.store.cylinders → (c : Option ChainState) →
        ChainOf d.store.geometry d.store.cylinders c → ChainOf y.geometry y.cylinders c
    chain_by y g n None on = tt
    chain_by y g n (Some chain) on = (on.0 ∙ sym g, on.1 ∙ sym n)

  -- with the same half write
  pub walked_follow : (y : MarksStore) → Walked (plain_of d.plans empty d.history) d.store.geometry d.store.cylinders (core_of d.store) (core_of y) →
      Follows num empty (with_store d y)
  walked_follow y w =
      let half : y.half ≡ d.store.half = ap (λ (x : Open). x.0) w.walks.rest in
      acts_follow y w.plain
      (subst (λ (h : Option (HalfWrite (Unit {0}))). Walks (plain_of d.plans empty d.history) w.plain d.store.geometry d.store.cylinders
      (h, (d.store.lent, d.store.device))
      (core_of y)) (sym half) w.walks)
      (subst (λ (h : Option (HalfWrite (Unit {0}))). IsMid (core_of y) h (all_acted d.history y.acts).running f.before d.chain) (sym half)
      (mid_stays (core_of d.store) (core_of y) d.store.half d.history.running (all_acted d.history y.acts).running f.before d.chain w.stays
      w.walks.cylinders (still_some y.acts d.history) f.mid))

  pub walks_first : (s : MarksStore) → core_of s ≡ core_of (noted_begin d.store) →
      Walks (plain_of d.plans empty d.history) d.store.plain d.store.geometry d.store.cylinders (d.store.half, (d.store.lent, d.store.device)) (core_of s)
  walks_first s e = rw e (record {
    of = of_begun (plain_of d.plans empty d.history) (core_of d.store) f.of;
    are = tt;
    places = f.places;
    plain = refl;
    geometry = refl;
    cylinders = refl;
    rest = refl;
  })

  -- a loss
  pub loss_follows : (loss : Loss) → Had (lose by_plain d loss) (λ y (_ : Unit {0}). Follows num empty y)
  unfolding V.lose
  loss_follows loss = event_follows num empty d (λ z. and_then (losing by_plain z.store loss) (λ s _. Done (with_store z s) tt)) (λ s e.
      had_then (losing_goes (plain_of d.plans empty d.history) d.store.geometry d.store.cylinders (core_of d.store) s loss (record {
        plain = d.store.plain;
        walks = walks_first s e;
        stays = subst (Stays (core_of d.store)) (sym e) (record { loose = λ q firm. firm; plain = λ q firm. refl });
      }))
      (λ z _ w. had_done (walked_follow z w)))

  -- what it does by itself
  pub background_follows : d.store.half ≡ None → Had (background by_plain d) (λ y (_ : Option Did). Follows num empty y)
  unfolding V.background
  background_follows whole = event_follows num empty d (λ z. and_then (work by_plain z.store) (λ s did. Done (with_store z s) did)) (λ s e.
      had_then (work_on (plain_of d.plans empty d.history) d.store.plain d.store.geometry d.store.cylinders (d.store.lent, d.store.device) s
      (rw (← whole) (walks_first s e)))
      (λ z did w. had_done (acts_follow z d.store.plain w.walks (w.free (core_of z) (all_acted d.history z.acts).running f.before d.chain
      (none_mid (core_of d.store) d.store.half d.history.running f.before d.chain whole f.mid)))))
