-- A command ends with no equipment check where no call fails, no track that it looks at is lost, some side takes writes if it is one, and no data of
-- its program were lost.
use Rattle.std.proofs.Common.{◌≡◌, ◌<◌, ◌≤◌, ◌+◌, ◌*◌, zero, suc, ℕ, Bool, true, false, List, Option, Some, None, get_or, refl, sym, ap, subst, ◌∙◌, arith}
use Rattle.ckd_chain.specs.declared.mark.Stage.{Stage}
use Rattle.ckd_chain.specs.declared.mark.Stage.TheVariants as stages
use Rattle.ckd_chain.specs.State.{ChainState}
use Rattle.ckd_chain.specs.Steps.{
  begin_with,
  opening_at,
  stage_for,
  opened_by,
  chain_opened,
  stage_by,
  stage_of,
  track_needed,
  need_of,
  standing,
  step_turned,
  stepped,
  word_of,
}
use Rattle.ckd_rules.specs.declared.opening.Opening.{Opening}
use Rattle.ckd_rules.specs.declared.opening.Opening.TheVariants as openings
use Rattle.ckd_rules.specs.declared.order.Look.{Look}
use Rattle.ckd_rules.specs.declared.stance.Stance.{Stance}
use Rattle.ckd_rules.specs.declared.turned.Turned.{Turned}
use Rattle.ckd_rules.specs.declared.turned.Turned.TheVariants as turns
use Rattle.ckd_rules.specs.Look.{look_on}
use Rattle.ckd_rules.specs.Looked.{Looked}
use Rattle.ckd_rules.specs.Walk as K
use Rattle.ckd_rules.specs.Walk.{Walked, walked, walk}
use Rattle.ckd_types.specs.declared.geometry.Geometry.{Geometry}
use Rattle.ckd_types.specs.declared.record.Track.{Track}
use Rattle.ckd_types.specs.Commands.{command_of}
use Rattle.ckd_types.specs.Volume.{track_in}
use Rattle.plain_defs.specs.Effect.{Effect}
use Rattle.plain_defs.specs.History.{OpenEntry, plain_of}
use Rattle.plain_defs.specs.PlainState.{PlainState}
use Rattle.track_image.specs.Image.{Image}
use Rattle.device_outside.specs.Interaction.{Interaction}
use Rattle.device_defs.specs.declared.answers.Took.{Took}
use Rattle.device_defs.specs.Command as N
use Rattle.device_defs.specs.Command.{Went, Over, On, has_loss, came_of_write, went_by, looked, look, goes_on, follow, command_at, command_by, command}
use Rattle.device_defs.specs.Contents.{by_plain}
use Rattle.device_defs.specs.Device.{event_begun}
use Rattle.device_defs.specs.Excused.{is_write, has_lost}
use Rattle.device_defs.specs.Image.{Imaged, Has, NoBytes, BadTrack}
use Rattle.device_defs.specs.Marks.{MarksDevice, MarksStore}
use Rattle.device_defs.specs.Memory.{had_by}
use Rattle.device_defs.specs.Outcomes.{Turn, usage_of}
use Rattle.device_defs.specs.Owed.{noted_begin, waiting_count, noted_end as event_end}
use Rattle.device_defs.specs.Store.{tracks_of, is_lost, half_is}
use Rattle.device_laws.specs.Standing.{IsWithin}
use Rattle.device_laws.specs.Unharmed.{some_takes}
use Rattle.device_laws.proofs.Bools.{neither}
use Rattle.device_laws.proofs.ChainFeeds.{need_is}
use Rattle.device_laws.proofs.ChainTracks.{within_stays, whole_cylinders, begun_stage, need_at}
use Rattle.device_laws.proofs.Commands.{Stays, LookedAt, look_keeps_good}
use Rattle.device_laws.proofs.FailedCall.{IsWell, goes_same, goes_on as well_on}
use Rattle.device_laws.proofs.LossEvents.{begun_same}
use Rattle.device_laws.proofs.Lucky.{lucky_try, lucky_if, lucky_done, with_always}
use Rattle.device_laws.proofs.Notices.{hearing_keeps_good}
use Rattle.device_laws.proofs.PlainCommand as C
use Rattle.device_laws.proofs.PlainLooks.{look_stays}
use Rattle.device_laws.proofs.PlainRules.{eff_of, by_opening, needs_by}
use Rattle.device_laws.proofs.PlainStores.{Open, Walks, core_of as plain_core}
use Rattle.device_laws.proofs.PlainTurns.{Follows}
use Rattle.device_laws.proofs.PlainWalks.{plain_image, Imaging, image_so, hear_same}
use Rattle.device_laws.proofs.Served.{Served, served_done, served_then, served_by, of_lucky, served_also, served_if, served_tried}
use Rattle.device_laws.proofs.TrackMarks.{marks_are_faithful}
use Rattle.device_laws.proofs.Unchecked.{HasBytes, WasTaken, NoCheck, TurnSo, lucky_any, lucky_both, image_has, write_taken, wrote_so, takes_still}
use Rattle.device_laws.proofs.UncheckedEvents.{equipment_checks, stage_none, on_has, answered_has}
use Rattle.device_laws.proofs.UnlostParts.{hear_goes}
use Rattle.device_laws.proofs.invariants.NoTrackIsLost.{image_goes, look_goes}
use Rattle.device_laws.proofs.WholeImage.{Reaches, image_keeps_good}
use Rattle.device_laws.proofs.WriteLooks.{is_write_look, edits_write, OpeningBy, opening_is, writes_by}

-- the first track isn't lost, nor are those behind it
front : (lost : List Bool) (t : ℕ) (on : Stance → Walked) (z : Stance) (x : Turned) → has_lost lost (walked t on z x).touched ≡ false →
    (get_or lost t false ≡ false) × (x ≡ turns.Onward → has_lost lost (on z).touched ≡ false)
front lost t on z (turns.Ended e) none = ((neither (get_or lost t false) false none).0, λ is. absurd (cc))
front lost t on z turns.Onward none = let e = neither (get_or lost t false) (has_lost lost (on z).touched) none in (e.0, λ is. e.1)
front lost t on z (turns.Edits edit e) none = ((neither (get_or lost t false) false none).0, λ is. absurd (cc))

module _ (p : PlainState) (u : List Track) (g : Geometry) (cylinders : ℕ) (open_is : Open) (m : ℕ) (Within : ChainState → Type 0) (within : Stays m Within)
    (lost : List Bool) (kind : Look) (start : Stance) where
  abbrev walk_from : ℕ → ChainState → Walked
  walk_from k v = walk k g (track_in u) start (word_of v) kind v.at.stance

  -- a chain that looks at a track, and is to look at no lost one
  pub record Ahead (k : ℕ) (chain : ChainState) (t : ℕ) : Type 0 where
    pub at : stage_of chain ≡ stages.Looks kind
    pub needs : need_of chain ≡ Some t
    pub none : has_lost lost (walk_from k (chain_opened chain)).touched ≡ false

  abbrev WentSo : ℕ → ℕ → MarksStore → Option Went → Type 0
  WentSo k t z None = Unit {0}
  WentSo k t z (Some (Over turn)) = NoCheck turn.came
  WentSo k t z (Some (On chain q)) = (q ≡ t + 1) × (Walks p u g cylinders open_is (plain_core z) × Ahead k chain q)

  -- what is known of a store on the way
  pub record OnWay (s : MarksStore) : Type 0 where
    pub tracks : tracks_of s ≡ m
    pub well : IsWell by_plain s
    pub whole : s.half ≡ None
    pub walks : Walks p u g cylinders open_is (plain_core s)
    pub same : s.lost ≡ lost
    pub takes : is_write_look kind ≡ true → some_takes s ≡ true

  came_so : (k at : ℕ) (chain : ChainState) (t : ℕ) (s : MarksStore) (o : Option Took) → WasTaken o →
      Served (λ z (x : Option Went). WentSo k at z x) (had_by (came_of_write by_plain chain t) s o)
  came_so k at chain t s (Some took) is = served_done (wrote_so by_plain marks_are_faithful chain t took is)
  came_so k at chain t s None is = served_done tt

  module _ (k : ℕ) (chain : ChainState) (first t : ℕ) (at : Ahead (suc k) chain t) where
    abbrev v : ChainState
    v = chain_opened chain

    abbrev seen : ℕ → Looked
    seen q = look_on g (track_in u q) v.at.stance (word_of v) kind

    stage_is : v.stage ≡ Some (stages.Looks kind)
    stage_is = begun_stage chain chain.stage refl ∙ ap (λ (x : Stage). Some x) at.at

    place : v.at.stance.track ≡ t
    place = need_is v (stages.Looks kind) t (sym (ap (λ (x : Stage). track_needed v x) at.at) ∙ at.needs)

    abbrev later : Stance → Walked
    later z = walk k g (track_in u) start (word_of v) kind z

    none_at : has_lost lost (walked t later (seen t).stance (seen t).turned).touched ≡ false
    unfolding K.walk
    none_at = rw (← place) at.none

    there : get_or lost t false ≡ false
    there = (front lost t later (seen t).stance (seen t).turned none_at).0

    next_ahead : (seen t).turned ≡ turns.Onward → Ahead k (standing v (seen t).stance) (seen t).stance.track
    next_ahead on = record {
      at = ap (stage_by (standing v (seen t).stance)) stage_is;
      needs = need_at (standing v (seen t).stance) kind stage_is;
      none = rw (ap (opened_by (standing v (seen t).stance)) stage_is) ((front lost t later (seen t).stance (seen t).turned none_at).1 on);
    }

    turned_so : (z : MarksStore) → OnWay z → t < tracks_of z → is_lost z t ≡ false → (x : Turned) → (seen t).turned ≡ x →
        Served (WentSo k t)
        (went_by by_plain (usage_of chain) first t z (plain_image p u g cylinders open_is t) (step_turned v (seen t).stance x).chain
        (step_turned v (seen t).stance x).progress)
    turned_so z w lt kept (turns.Ended e) is = served_done tt
    turned_so z w lt kept turns.Onward is =
        served_done (
          (look_stays g (track_in u t) v.at.stance (word_of v) kind is).1 ∙ ap (λ (n : ℕ). n + 1) place,
          (w.walks, next_ahead is),
        )
    turned_so z w lt kept (turns.Edits edit e) is =
        served_then _
        (of_lucky (write_taken by_plain marks_are_faithful z (usage_of chain) first t (plain_image p u g cylinders open_is t) edit lt w.well kept
        (w.takes (edits_write g (track_in u t) v.at.stance (word_of v) kind edit e is))))
        (λ y took taken. came_so k t (step_turned v (seen t).stance (turns.Edits edit e)).chain t y took taken)

    has_so : (z : MarksStore) → OnWay z → t < tracks_of z → is_lost z t ≡ false →
        Served (WentSo k t) (looked by_plain chain first t z (Has (plain_image p u g cylinders open_is t)))
    has_so z w lt kept =
        served_tried z _ (rw at.at (turned_so z w lt kept (seen t).turned refl))

    looked_so : (z : MarksStore) (o : Option Imaged) → OnWay z → t < tracks_of z → is_lost z t ≡ false → Imaging p u g cylinders open_is t z o → HasBytes o →
        Served (WentSo k t) (had_by (looked by_plain chain first t) z o)
    looked_so z None w lt kept i has = absurd i.image
    looked_so z (Some (Has x)) w lt kept i has = rw i.image (has_so z w lt kept)
    looked_so z (Some (NoBytes fault)) w lt kept i has = absurd has
    looked_so z (Some (BadTrack side)) w lt kept i has = served_done refl

    look_so : (s : MarksStore) → Within chain → OnWay s → t < tracks_of s → Served (WentSo k t) (look by_plain chain first t s)
    unfolding N.look
    look_so s is w lt =
        let kept : is_lost s t ≡ false = ap (λ (l : List Bool). get_or l t false) w.same ∙ there in
        served_if (is_lost s t) (λ gone. absurd (let both : true ≡ false = sym gone ∙ kept in cc))
        (λ _. served_then _ (served_by (image_so p u g cylinders open_is t s (usage_of chain) w.walks)
        (with_always
        (image_keeps_good by_plain marks_are_faithful s (usage_of chain) t
        (subst (Reaches (usage_of chain)) (sym w.tracks) (within.reaches chain is)) lt w.well)
        (lucky_both (image_goes by_plain marks_are_faithful s (usage_of chain) t w.well)
        (image_has by_plain s (usage_of chain) t (w.well.good t lt) kept (ap (λ (h : _). half_is h t) w.whole)))))
        (λ z o x. looked_so z o (record {
          tracks = x.1.0.goes.tracks ∙ w.tracks;
          well = x.1.0.goes.well;
          whole = x.1.0.goes.half ∙ w.whole;
          walks = x.0.on;
          same = x.1.1.0.lost ∙ w.same;
          takes = λ e. takes_still by_plain s z x.1.1.0.up x.1.1.0.takes (w.takes e);
        }) (let tracks = x.1.0.goes.tracks in omega arith) (ap (λ (l : List Bool). get_or l t false) x.1.1.0.lost ∙ kept) x.0 x.1.1.1))

  abbrev Following : ℕ → ℕ → Type 0
  Following k first = (chain : ChainState) (t : ℕ) (s : MarksStore) → Ahead k chain t → Within chain → OnWay s → t < m → m ≤ t + k →
      Served (λ z (x : Option Turn). TurnSo x) (follow by_plain k first chain t s)

  by_went : (k first t : ℕ) (s z : MarksStore) (o : Option Went) → Following k first → OnWay s → LookedAt by_plain marks_are_faithful m Within within s z o →
      WentSo k t z o → m ≤ t + suc k → z.lost ≡ s.lost → (some_takes s ≡ true → some_takes z ≡ true) →
      Served (λ y (x : Option Turn). TurnSo x) (had_by (goes_on by_plain (follow by_plain k first)) z o)
  by_went k first t s z None rest w f so room same still = served_done tt
  by_went k first t s z (Some (Over turn)) rest w f so room same still = served_done so
  by_went k first t s z (Some (On chain q)) rest w f so room same still =
      rest chain q z so.1.1 f.on.1 (record {
        tracks = f.keeps.tracks ∙ w.tracks;
        well = f.keeps.well;
        whole = f.on.0;
        walks = so.1.0;
        same = same ∙ w.same;
        takes = λ e. still (w.takes e);
      }) f.on.2 (let next = so.0 in omega (arith, next, room))

  pub follow_touched : (k first : ℕ) → Following k first
  unfolding N.follow
  follow_touched zero first chain t s at is w lt room = absurd (omega (arith, lt, room))
  follow_touched (suc k) first chain t s at is w lt room =
      let below : t < tracks_of s = let tracks = w.tracks in omega arith in
      served_then _ (served_also
      (with_always (look_keeps_good by_plain marks_are_faithful m Within within chain first t s is w.tracks below w.well w.whole)
      (look_goes by_plain marks_are_faithful chain first t s w.well))
      (look_so k chain first t at s is w below))
      (λ z o g. by_went k first t s z o (follow_touched k first) w g.0.0 g.1 room g.0.1.lost (λ up. takes_still by_plain s z g.0.1.up g.0.1.takes up))

-- The command

module _ (num : ℕ) (empty : PlainState) (d : MarksDevice) (f : Follows num empty d) (o : OpenEntry) (running : d.history.running ≡ Some o) (chain : ChainState)
    (is : f.before ≡ Some chain) (now : d.chain ≡ Some chain) (whole : d.store.half ≡ None) (w : IsWell by_plain d.store)
    (inside : IsWithin (d.store.cylinders * 15) chain) where
  abbrev eff : Effect
  eff = eff_of chain (C.at num empty d f o running chain is).fresh d.paths o.path d.store.plain

  module _ (kept_all : has_lost d.store.lost eff.touched ≡ false)
      (takes : is_write (command_of (word_of chain).command) ≡ true → some_takes d.store ≡ true)
      (unharmed : has_loss o.acts ≡ false) where
    abbrev n : ℕ
    n = equipment_checks d.history

    abbrev m : ℕ
    m = d.store.cylinders * 15

    abbrev with_it : MarksStore → MarksDevice
    with_it s = record (event_begun d) { store = s }

    abbrev Holds : {A : Type 0} → Interaction Bool Image MarksDevice A → Type 0
    Holds i = Served (λ e _. equipment_checks e.history ≡ n) i

    fresh : chain.stage ≡ None
    fresh = (C.at num empty d f o running chain is).fresh

    on : (chain.fixed.geometry ≡ d.store.geometry) × (chain.fixed.cylinders ≡ d.store.cylinders)
    on = C.on num empty d f o running chain is

    -- what is so behind the notices
    record Heard (s : MarksStore) : Type 0 where
      core : plain_core s ≡ plain_core (noted_begin d.store)
      tracks : tracks_of s ≡ m
      well : IsWell by_plain s
      none : s.half ≡ None
      lost : s.lost ≡ d.store.lost
      still : some_takes d.store ≡ true → some_takes s ≡ true

    looks_at : (s : MarksStore) → Heard s → (t : ℕ) → need_of chain ≡ Some t → (look : Look) → (opening_at chain).opening ≡ openings.Looks look →
        Holds (command_at by_plain (with_it s) o.path chain (Some t))
    looks_at s h t needs look at =
        let tracks = h.tracks in
        let below : t < m = (within_stays m (whole_cylinders d.store.cylinders)).needs chain t inside needs in
        let touched : has_lost d.store.lost
        (walk (chain.fixed.cylinders * 15) chain.fixed.geometry (track_in d.store.plain) chain.at.stance (word_of chain) look (opening_at chain).stance).touched
        ≡ false =
        subst
        (λ (x : Opening). has_lost d.store.lost (by_opening chain fresh d.paths o.path d.store.plain (opening_at chain).stance x).touched ≡ false)
        at kept_all in
        let here : has_lost d.store.lost
        (walk (tracks_of s) d.store.geometry (track_in d.store.plain) chain.at.stance (word_of chain) look (opening_at chain).stance).touched
        ≡ false =
        rw (← (ap (λ (k : ℕ). k * 15) on.1 ∙ sym h.tracks)) (rw (← on.0) touched) in
        served_then _
        (follow_touched (plain_of d.plans empty d.history) d.store.plain d.store.geometry d.store.cylinders (None, (d.store.lent, d.store.device)) m
        (IsWithin m) (within_stays m (whole_cylinders d.store.cylinders)) d.store.lost look chain.at.stance (tracks_of s) t chain t s
        (record {
          at = ap (stage_by chain) fresh ∙ ap stage_for at;
          needs = needs;
          none = rw (ap (opened_by chain) fresh) here;
        })
        inside
        (record {
          tracks = h.tracks;
          well = h.well;
          whole = h.none;
          walks = C.walking_first num empty d f o running chain is now whole s h.core;
          same = h.lost;
          takes = λ e. h.still (takes (writes_by (command_of (word_of chain).command) look
              (subst (OpeningBy (command_of (word_of chain).command)) at (opening_is chain.fixed chain.at.stance (word_of chain))) e));
        })
        below (omega (arith, tracks)))
        (λ z a so. of_lucky (on_has by_plain n (with_it s) o.path chain z a so refl))

    looks_by : (s : MarksStore) → Heard s → (t : ℕ) → need_of chain ≡ Some t → (x : Opening) → (opening_at chain).opening ≡ x →
        Holds (command_at by_plain (with_it s) o.path chain (Some t))
    looks_by s h t needs (openings.Looks look) at = looks_at s h t needs look at
    looks_by s h t needs (openings.Over e) at =
        absurd (let none : None ≡ Some t = sym (needs_by chain fresh d.paths o.path d.store.plain
        ∙ ap (λ (x : Opening). track_needed (begin_with chain (opening_at chain)) (stage_for x)) at) ∙ needs in cc)
    looks_by s h t needs (openings.Asks act) at =
        absurd (let none : None ≡ Some t = sym (needs_by chain fresh d.paths o.path d.store.plain
        ∙ ap (λ (x : Opening). track_needed (begin_with chain (opening_at chain)) (stage_for x)) at) ∙ needs in cc)

    at_touched : (s : MarksStore) → Heard s → (k : Option ℕ) → need_of chain ≡ k → Holds (command_at by_plain (with_it s) o.path chain k)
    at_touched s h (Some t) needs = looks_by s h t needs (opening_at chain).opening refl
    at_touched s h None needs =
        of_lucky (lucky_try (λ ok. lucky_if ok
        (λ _. answered_has by_plain n (with_it s) o.path (stepped chain None).chain (stepped chain None).progress (stage_none chain (stage_of chain) needs refl)
        refl)
        (λ _. lucky_done refl)))

    begun_touched : (s : MarksStore) → Heard s → Holds (command_by by_plain (with_it s) (Some o) (Some chain))
    begun_touched s h =
        served_if (has_loss o.acts) (λ gone. absurd (let both : true ≡ false = sym gone ∙ unharmed in cc)) (λ _. at_touched s h (need_of chain) refl)

    by_touched : (s : MarksStore) → Heard s → Holds (command_by by_plain (with_it s) d.history.running d.chain)
    by_touched s h =
        subst (λ (r : Option OpenEntry). Holds (command_by by_plain (with_it s) r d.chain)) (sym running)
        (subst (λ (k : Option ChainState). Holds (command_by by_plain (with_it s) (Some o) k)) (sym now) (begun_touched s h))

    pub command_touched : Holds (command by_plain d)
    unfolding N.command
    command_touched =
        let begins = goes_same by_plain d.store (event_begun d).store w (begun_same by_plain marks_are_faithful d w) in
        served_tried d _
        (served_then _ (served_then _
        (served_by (hear_same 960 (noted_begin d.store))
        (with_always (hearing_keeps_good by_plain 960 (event_begun d).store begins.well) (hear_goes by_plain 960 (event_begun d).store)))
        (λ s _ g.
        let well = well_on by_plain d.store (event_begun d).store s begins g.1.0 in
        by_touched s (record {
          core = g.0;
          tracks = well.tracks;
          well = well.well;
          none = well.half ∙ whole;
          lost = g.1.1.lost;
          still = λ up. takes_still by_plain d.store s g.1.1.up g.1.1.takes up;
        })))
        (λ y a h. served_then _ (of_lucky (lucky_any (event_end by_plain (waiting_count by_plain d.store) y.store)))
        (λ z _ _. served_done h)))
