-- A command goes from track to track of a device that is in order as the chain does that is fed with the plain tracks, with its twin on marks.
use Rattle.std.proofs.Common.{◌≡◌, ◌<◌, zero, suc, ℕ, true, false, List, Option, Some, None, refl, sym, ap, subst, ◌∙◌, arith}
use Rattle.ckd_types.specs.declared.geometry.Geometry.{Geometry}
use Rattle.ckd_types.specs.declared.record.Edit.{Edit}
use Rattle.ckd_types.specs.declared.record.Track.{Track}
use Rattle.ckd_types.specs.Track.{Fits}
use Rattle.ckd_types.specs.Volume.{track_in}
use Rattle.ckd_rules.specs.declared.order.LocalAct.{LocalAct}
use Rattle.ckd_chain.specs.declared.progress.Progress.{Progress}
use Rattle.ckd_chain.specs.declared.progress.Progress.TheVariants as progresses
use Rattle.ckd_chain.specs.declared.progress.Settled.{Settled}
use Rattle.ckd_chain.specs.declared.progress.Settled.TheVariants.{Written, Equipment, DataCheck}
use Rattle.ckd_chain.specs.Fed as F
use Rattle.ckd_chain.specs.Fed.{Fed, ended_by, fed_image, fed_by, fed}
use Rattle.ckd_chain.specs.State.{ChainState}
use Rattle.ckd_chain.specs.Steps.{need_of, stepped, settled_by}
use Rattle.track_image.specs.Image.{Image}
use Rattle.device_outside.specs.Both.{both_try}
use Rattle.device_outside.specs.Interaction.{Done}
use Rattle.device_outside.proofs.BothRules.{on_test}
use Rattle.device_defs.specs.declared.answers.Took.{Took}
use Rattle.device_defs.specs.declared.answers.Took.TheVariants.{Whole, Opened, Unwritten}
use Rattle.device_defs.specs.Command as N
use Rattle.device_defs.specs.Command.{Went, Over, On, came_of_write, went_by, went_on, looked, look, goes_on, follow}
use Rattle.device_defs.specs.Contents.{contents, by_plain}
use Rattle.device_defs.specs.Image.{Imaged, Has, NoBytes, BadTrack, image}
use Rattle.device_defs.specs.Marks.{marks_of}
use Rattle.device_defs.specs.Memory.{had_by}
use Rattle.device_defs.specs.Outcomes.{Turn, ends_with, checks, wrote_turn, usage_of}
use Rattle.device_defs.specs.Sound.{DeviceStore}
use Rattle.device_defs.specs.Store.{tracks_of, is_lost}
use Rattle.device_laws.specs.Agrees.{Held, image_in}
use Rattle.device_laws.specs.Feeding.{Feeds, volume_with, IsAsFed, ComesAsFed}
use Rattle.device_laws.specs.PlainWrites.{SuitsTrack, plain_had}
use Rattle.device_laws.specs.Twin.{Twins}
use Rattle.device_laws.proofs.Commands.{Stays, LookedAt, look_keeps_good, follow_keeps_good}
use Rattle.device_laws.proofs.FailedCall.{IsWell}
use Rattle.device_laws.proofs.TrackMarks as M
use Rattle.device_laws.proofs.TrackMarks.{track_at, device_is_faithful}
use Rattle.device_laws.proofs.TwinAsks.{InOrder, Ordered}
use Rattle.device_laws.proofs.TwinLooks.{image_twin}
use Rattle.device_laws.proofs.TwinThrough.{none_off}
use Rattle.device_laws.proofs.TwinWalks.{twin_done, twin_then, twin_always, twin_weaker}
use Rattle.device_laws.proofs.TwinWrite.{write_twin}
use Rattle.device_laws.proofs.WholeImage.{Reaches, has_image, image_keeps_good}

module _ (m : ℕ) (g : Geometry) (looks : ChainState → ℕ → Type 0) (feeds : Feeds m g looks) (u : List Track) where
  abbrev plain_image : ℕ → Image
  plain_image t = record { geometry = g; track = track_in u t }

  -- one step of the chain that is fed
  fed_step : (n : ℕ) (answer : LocalAct → Settled) (chain : ChainState) (t : ℕ) → looks chain t →
      fed (suc n) (track_in u) answer chain
      ≡ fed_by answer (fed n (track_in u) answer) (stepped chain (Some (plain_image t))).chain (stepped chain (Some (plain_image t))).progress
  unfolding F.fed
  fed_step n answer chain t at =
      let is : fed_image chain.fixed (track_in u) (need_of chain) ≡ Some (plain_image t) =
      ap (fed_image chain.fixed (track_in u)) (feeds.needs chain t at)
      ∙ ap (λ (x : Geometry). Some (record { geometry = x; track = track_in u t })) (feeds.fixed chain t at) in
      ap (λ (i : Option Image). fed_by answer (fed n (track_in u) answer) (stepped chain i).chain (stepped chain i).progress) is

  -- what a look at one track leads to
  abbrev WentAs : ChainState → Option Went → List Track → Type 0
  WentAs chain None v = v ≡ u
  WentAs chain (Some (Over turn)) v = (n : ℕ) → ComesAsFed u (suc n) chain (Some turn) v
  WentAs chain (Some (On next q)) v =
      (v ≡ u) × ((looks next q) × ((n : ℕ) (answer : LocalAct → Settled) → fed (suc n) (track_in u) answer chain ≡ fed n (track_in u) answer next))

  pub record WentTwin (s : DeviceStore) (chain : ChainState) (v w : List Track) (z : DeviceStore) (a b : Option Went) (k : Held) : Type 0 where
    pub order : Ordered v w z k
    pub same : a ≡ b
    pub geometry : z.geometry ≡ s.geometry
    pub went : WentAs chain a v

  -- by what came of its write
  wrote_as : (chain next : ChainState) (t q : ℕ) (e : Edit) (v : List Track) (a : Took) → looks chain t → q ≡ t →
      (stepped chain (Some (plain_image t))).chain ≡ next → (stepped chain (Some (plain_image t))).progress ≡ progresses.Write q e →
      v ≡ plain_had (Some a) u t e →
      (n : ℕ) → ComesAsFed u (suc n) chain (Some (wrote_turn next t a)) v
  wrote_as chain next t q e v Whole at same is p plain n answer =
      let f : fed (suc n) (track_in u) answer chain ≡ ended_by next (settled_by next Written) (Some (record { track = t; edit = e })) =
      fed_step n answer chain t at
      ∙ ap (λ (x : Progress). fed_by answer (fed n (track_in u) answer) (stepped chain (Some (plain_image t))).chain x) p
      ∙ ap (λ (x : ChainState). ended_by x (settled_by x Written) (Some (record { track = q; edit = e }))) is
      ∙ ap (λ (x : ℕ). ended_by next (settled_by next Written) (Some (record { track = x; edit = e }))) same in
      (ap (λ (x : Fed). x.end) f, (ap (λ (x : Fed). x.chain) f, plain ∙ sym (ap (λ (x : Fed). volume_with u x.edit) f)))
  wrote_as chain next t q e v Opened at same is p plain n answer =
      let f : fed (suc n) (track_in u) answer chain ≡ ended_by next (settled_by next Written) (Some (record { track = q; edit = e })) =
      fed_step n answer chain t at
      ∙ ap (λ (x : Progress). fed_by answer (fed n (track_in u) answer) (stepped chain (Some (plain_image t))).chain x) p
      ∙ ap (λ (x : ChainState). ended_by x (settled_by x Written) (Some (record { track = q; edit = e }))) is in
      (plain, (ap (λ (x : Fed). x.end) f, ap (λ (x : Fed). x.chain) f))
  wrote_as chain next t q e v Unwritten at same is p plain n answer = plain

  module _ (s : DeviceStore) (chain : ChainState) (first t : ℕ) (at : looks chain t) (on : s.geometry ≡ g) (all : tracks_of s ≡ m) (lt : t < tracks_of s)
      (none : s.half ≡ None) where
    abbrev Ends : List Track → List Track → DeviceStore → Option Went → Option Went → Held → Type 0
    Ends v w z a b k = WentTwin s chain v w z a b k

    image_same : (z : DeviceStore) (v : List Track) → z.geometry ≡ s.geometry → v ≡ u → image_in z v t ≡ plain_image t
    image_same z v geometry plain =
        ap (λ (x : Geometry). record { geometry = x; track = track_in v t }) (geometry ∙ on)
        ∙ ap (λ (x : List Track). record { geometry = g; track = track_in x t }) plain

    -- it checks, and nothing was done
    checked : (v w : List Track) (z : DeviceStore) (k : Held) (next : ChainState) (how : Settled) → Ordered v w z k → z.geometry ≡ s.geometry → v ≡ u →
        Twins Ends (Done z (Some (Over (checks next how)))) (Done (marks_of v w z) (Some (Over (checks next how)))) k
    checked v w z k next how o geometry plain = twin_done (record { order = o; same = refl; geometry = geometry; went = λ n answer. plain })

    lacking : (v w : List Track) (z : DeviceStore) (k : Held) → Ordered v w z k → z.geometry ≡ s.geometry → v ≡ u →
        Twins Ends (Done z None) (Done (marks_of v w z) None) k
    lacking v w z k o geometry plain = twin_done (record { order = o; same = refl; geometry = geometry; went = plain })

    module _ (v w : List Track) (z : DeviceStore) (k : Held) (o : InOrder v w z k) (geometry : z.geometry ≡ s.geometry) (plain : v ≡ u)
        (below : t < tracks_of z)
        (there : is_lost z t ≡ false) (still : z.half ≡ None) where
      order : Ordered v w z k
      order = record { sure = o.sure; told = o.told }

      fits_plain : Fits g (track_in u t)
      fits_plain = rw (← (geometry ∙ on)) (subst (λ (x : List Track). Fits z.geometry (track_in x t)) plain (o.sure.ground.plain.fits t below))

      suits_here : (e : Edit) → SuitsTrack g (track_in u t) e → SuitsTrack z.geometry (track_in v t) e
      suits_here e x = rw (geometry ∙ on) (subst (λ (l : List Track). SuitsTrack g (track_in l t) e) (sym plain) x)

      by_progress : (next : ChainState) (p : Progress) → (stepped chain (Some (plain_image t))).chain ≡ next →
          (stepped chain (Some (plain_image t))).progress ≡ p →
          Twins Ends (went_by contents (usage_of chain) first t z (plain_image t) next p) (went_by by_plain (usage_of chain) first t
          (marks_of v w z) (plain_image t) next p) k
      by_progress next (progresses.Ended e) is p =
          twin_done (record { order = order; same = refl; geometry = geometry; went = λ n answer. ended n answer })
        where
          ended : (n : ℕ) (answer : LocalAct → Settled) → IsAsFed u (fed (suc n) (track_in u) answer chain) next (ends_with next e).came v
          ended n answer =
              let f : fed (suc n) (track_in u) answer chain ≡ record { end = e; chain = next; edit = None } =
              fed_step n answer chain t at
              ∙ ap (λ (x : Progress). fed_by answer (fed n (track_in u) answer) (stepped chain (Some (plain_image t))).chain x) p
              ∙ ap (λ (x : ChainState). record { end = e; chain = x; edit = None }) is in
              (ap (λ (x : Fed). x.end) f, (ap (λ (x : Fed). x.chain) f, plain ∙ sym (ap (λ (x : Fed). volume_with u x.edit) f)))
      by_progress next (progresses.Need q) is p =
          twin_done (record {
            order = order;
            same = refl;
            geometry = geometry;
            went = (
              plain,
              (
                subst (λ (x : ChainState). looks x q) is (feeds.goes chain t (plain_image t) q at p),
                λ n answer. fed_step n answer chain t at
                    ∙ ap (λ (x : Progress). fed_by answer (fed n (track_in u) answer) (stepped chain (Some (plain_image t))).chain x) p
                    ∙ ap (fed n (track_in u) answer) is,
              ),
            );
          })
      by_progress next (progresses.Write q e) is p =
          let f = feeds.writes chain t (plain_image t) q e at refl fits_plain p in
          rw (← (image_same z v geometry plain)) (twin_then _ _
          (write_twin v w z t e (usage_of chain) first below there still (suits_here e f.1) o.well k order)
          (λ v' w' y a b l x. wrote v' w' y l a b x.order x.same x.size.0 (x.plain ∙ ap (λ (m : List Track). plain_had a m t e) plain) f.0))
        where
          wrote : (v' w' : List Track) (y : DeviceStore) (l : Held) (a b : Option Took) → Ordered v' w' y l → a ≡ b → y.geometry ≡ z.geometry →
              v' ≡ plain_had a u t e → q ≡ t →
              Twins Ends (had_by (came_of_write contents next t) y a) (had_by (came_of_write by_plain next t) (marks_of v' w' y) b) l
          wrote v' w' y l None b i same geo had at_t = rw (← same) (lacking v' w' y l i (geo ∙ geometry) had)
          wrote v' w' y l (Some took) b i same geo had at_t =
              rw (← same)
              (twin_done (record { order = i; same = refl; geometry = geo ∙ geometry; went = wrote_as chain next t q e v' took at at_t is p had }))
      by_progress next (progresses.Local act) is p = checked v w z k next Equipment order geometry plain

      went_twin : Twins Ends (went_on contents chain first t z (plain_image t)) (went_on by_plain chain first t (marks_of v w z) (plain_image t)) k
      went_twin =
          both_try (by_progress (stepped chain (Some (plain_image t))).chain (stepped chain (Some (plain_image t))).progress refl refl)
          (lacking v w z k order geometry plain)

    looked_by : (v w : List Track) (z : DeviceStore) (k : Held) (a b : Option Imaged) → Ordered v w z k → IsWell contents z → a ≡ b →
        z.geometry ≡ s.geometry → v ≡ u →
        t < tracks_of z → z.half ≡ None → ((i : Image) → a ≡ Some (Has i) → i ≡ plain_image t) → ((i : Image) → a ≡ Some (Has i) → is_lost z t ≡ false) →
        Twins Ends (had_by (looked contents chain first t) z a) (had_by (looked by_plain chain first t) (marks_of v w z) b) k
    looked_by v w z k a b o well same geometry plain below still image there = rw (← same) (by_image a image there)
      where
        by_image : (a : Option Imaged) → ((i : Image) → a ≡ Some (Has i) → i ≡ plain_image t) → ((i : Image) → a ≡ Some (Has i) → is_lost z t ≡ false) →
            Twins Ends (had_by (looked contents chain first t) z a) (had_by (looked by_plain chain first t) (marks_of v w z) a) k
        by_image None image there = lacking v w z k o geometry plain
        by_image (Some (Has i)) image there =
            rw (image i refl) (went_twin v w z k (record { sure = o.sure; told = o.told; well = well }) geometry plain below (there i refl) still)
        by_image (Some (NoBytes fault)) image there = checked v w z k chain Equipment o geometry plain
        by_image (Some (BadTrack side)) image there = checked v w z k chain DataCheck o geometry plain

    mark_lost : (z : DeviceStore) → (track_at contents z t).lost ≡ is_lost z t
    unfolding M.track_at
    mark_lost z = refl

    look_twin : (w : List Track) (h : Held) → InOrder u w s h → Twins Ends (look contents chain first t s) (look by_plain chain first t (marks_of u w s)) h
    unfolding N.look
    look_twin w h o =
        on_test (is_lost s t)
        (λ _. checked u w s h chain Equipment (record { sure = o.sure; told = o.told }) refl refl)
        (λ there. twin_then _ _ (twin_always (image_twin u w s h (usage_of chain) t lt there (none_off s.half t none) o)
        (image_keeps_good contents device_is_faithful s (usage_of chain) t
        (subst (Reaches (usage_of chain)) (sym all) (feeds.reaches chain t at)) lt o.well))
        (λ v' w' z a b k f.
        looked_by v' w' z k a b f.0.order f.1.goes.well f.0.same f.0.stays.geometry f.0.plain (let same = f.0.stays.cylinders in omega arith)
        (f.0.stays.half ∙ none)
        (λ i e. f.0.image i e ∙ image_same s u refl refl)
        (λ i e. sym (mark_lost z) ∙ f.1.there (has_some a i e))))
      where
        has_some : (a : Option Imaged) (i : Image) → a ≡ Some (Has i) → has_image a ≡ true
        has_some a i e = ap has_image e

  -- From track to track

  pub record FollowTwin (s : DeviceStore) (n : ℕ) (chain : ChainState) (v w : List Track) (z : DeviceStore) (a b : Option Turn) (k : Held) : Type 0 where
    pub order : Ordered v w z k
    pub same : a ≡ b
    pub geometry : z.geometry ≡ s.geometry
    pub came : ComesAsFed u n chain a v

  abbrev Within : ChainState → Type 0
  Within chain = (t : ℕ) × looks chain t

  within : Stays m Within
  within = record {
    needs = λ chain q i e.
        let there = feeds.needs chain i.0 i.1 in let same : i.0 ≡ q = cc in subst (λ (t : ℕ). t < m) same (feeds.inside chain i.0 i.1);
    goes = λ chain i q x e. let next = feeds.goes chain x.0 i q x.1 e in ((q, next), feeds.inside (stepped chain (Some i)).chain q next);
    reaches = λ chain i. feeds.reaches chain i.0 i.1;
  }

  abbrev Following : ℕ → ℕ → Type 0
  Following n first =
      (chain : ChainState) (t : ℕ) (s : DeviceStore) (w : List Track) (h : Held) → looks chain t → tracks_of s ≡ m → s.geometry ≡ g → s.half ≡ None →
      InOrder u w s h →
      Twins (λ v' w' z a b k. FollowTwin s n chain v' w' z a b k) (follow contents n first chain t s) (follow by_plain n first chain t (marks_of u w s)) h

  went_further : (n first : ℕ) (chain : ChainState) (s : DeviceStore) (v w : List Track) (z : DeviceStore) (k : Held) (a : Option Went) → Following n first →
      Ordered v w z k → z.geometry ≡ s.geometry → s.geometry ≡ g → WentAs chain a v → LookedAt contents device_is_faithful m Within within s z a →
      tracks_of s ≡ m →
      Twins (λ v' w' y b c l. FollowTwin s (suc n) chain v' w' y b c l) (had_by (goes_on contents (follow contents n first)) z a)
      (had_by (goes_on by_plain (follow by_plain n first)) (marks_of v w z) a) k
  went_further n first chain s v w z k None later o geometry on went seen same =
      twin_done (record { order = o; same = refl; geometry = geometry; came = went })
  went_further n first chain s v w z k (Some (Over turn)) later o geometry on went seen same =
      twin_done (record { order = o; same = refl; geometry = geometry; came = went n })
  went_further n first chain s v w z k (Some (On next q)) later o geometry on went seen same =
      let i : InOrder u w z k = subst (λ (x : List Track). InOrder x w z k) went.0 (record { sure = o.sure; told = o.told; well = seen.keeps.well }) in
      rw went.0 (twin_weaker (later next q z w k went.1.0 (seen.keeps.tracks ∙ same) (geometry ∙ on) seen.on.0 i)
      (λ v' w' y b c l f. record { order = f.order; same = f.same; geometry = f.geometry ∙ geometry; came = as_fed n chain next b v' went.1.1 f.came }))
    where
      as_fed : (n : ℕ) (chain next : ChainState) (b : Option Turn) (v' : List Track) →
          ((n : ℕ) (answer : LocalAct → Settled) → fed (suc n) (track_in u) answer chain ≡ fed n (track_in u) answer next) → ComesAsFed u n next b v' →
          ComesAsFed u (suc n) chain b v'
      as_fed n chain next None v' same came = came
      as_fed n chain next (Some turn) v' same came = λ answer. subst (λ (x : Fed). IsAsFed u x turn.chain turn.came v') (sym (same n answer)) (came answer)

  pub follow_twin : (n first : ℕ) → Following n first
  unfolding N.follow
  follow_twin zero first chain t s w h at same on none o =
      twin_done (record { order = record { sure = o.sure; told = o.told }; same = refl; geometry = refl; came = λ answer. refl })
  follow_twin (suc n) first chain t s w h at same on none o =
      let lt : t < tracks_of s = let below = feeds.inside chain t at in omega arith in
      twin_then _ _ (twin_always (look_twin s chain first t at on same lt none w h o)
      (look_keeps_good contents device_is_faithful m Within within chain first t s (t, at) same lt o.well none))
      (λ v' w' z a b k f.
      rw (← f.0.same) (went_further n first chain s v' w' z k a (follow_twin n first) f.0.order f.0.geometry on f.0.went f.1 same))

  -- what is known of marks alone
  pub follow_order : (n first : ℕ) (chain : ChainState) (t : ℕ) (s : DeviceStore) (w : List Track) (h : Held) → looks chain t → tracks_of s ≡ m →
      s.geometry ≡ g →
      s.half ≡ None → InOrder u w s h →
      Twins (λ v' w' z a b k. FollowTwin s n chain v' w' z a b k × IsWell contents z) (follow contents n first chain t s)
      (follow by_plain n first chain t (marks_of u w s)) h
  follow_order n first chain t s w h at same on none o =
      twin_weaker
      (twin_always (follow_twin n first chain t s w h at same on none o)
      (follow_keeps_good contents device_is_faithful m Within within n first chain t s (t, at) same (feeds.inside chain t at) o.well none))
      (λ v' w' z a b k f. (f.0, f.1.well))
