-- A command that looks at tracks of a run's device comes out as the chain does that is fed with the plain tracks.
use Rattle.std.proofs.Common.{◌≡◌, ◌<◌, ◌≤◌, ◌+◌, ◌*◌, zero, suc, ℕ, Bool, List, Option, Some, None, Result, Ok, Err, refl, sym, ap, subst, ◌∙◌, arith}
use Rattle.std.specs.Prelude.{IfSome}
use Rattle.ckd_types.specs.declared.channel.Ccw.{Ccw}
use Rattle.ckd_types.specs.declared.channel.CommandEnd.{CommandEnd}
use Rattle.ckd_types.specs.declared.command.Read.{Read}
use Rattle.ckd_types.specs.declared.command.ReadArea.{ReadArea}
use Rattle.ckd_types.specs.declared.command.ReadArea.TheVariants as reads
use Rattle.ckd_types.specs.declared.command.Write.TheVariants as writes
use Rattle.ckd_types.specs.declared.geometry.Geometry.{Geometry}
use Rattle.ckd_types.specs.declared.parameters.Domain.{Domain}
use Rattle.ckd_types.specs.declared.parameters.Extent.{Extent}
use Rattle.ckd_types.specs.declared.record.Edit.{Edit}
use Rattle.ckd_types.specs.declared.record.Track.{Track}
use Rattle.ckd_types.specs.declared.sense.Sense.{Sense}
use Rattle.ckd_types.specs.Fixed.{Fixed}
use Rattle.ckd_types.specs.Parameters.{is_provisional}
use Rattle.ckd_types.specs.Volume.{track_in}
use Rattle.ckd_chain.specs.declared.mark.Stage.{Stage}
use Rattle.ckd_chain.specs.declared.mark.Stage.TheVariants as stages
use Rattle.ckd_chain.specs.declared.progress.Progress.TheVariants as progresses
use Rattle.ckd_chain.specs.declared.progress.Settled.{Settled}
use Rattle.ckd_chain.specs.declared.progress.Settled.TheVariants.{Written, Equipment, DataCheck}
use Rattle.ckd_chain.specs.Fed as F
use Rattle.ckd_chain.specs.Fed.{Fed, ended_by, fed_image, fed_by, fed}
use Rattle.ckd_chain.specs.State.{ChainState}
use Rattle.ckd_chain.specs.Steps.{
  ChainStep,
  opening_at,
  stage_for,
  opened_by,
  chain_opened,
  stage_by,
  stage_of,
  track_needed,
  need_of,
  standing,
  step_turned,
  stepped_by,
  stepped,
  settled_by,
  word_of,
}
use Rattle.ckd_rules.specs.declared.opening.Opening.{Opening}
use Rattle.ckd_rules.specs.declared.opening.Opening.TheVariants as openings
use Rattle.ckd_rules.specs.declared.order.LocalAct.{LocalAct}
use Rattle.ckd_rules.specs.declared.order.Look.{Look}
use Rattle.ckd_rules.specs.declared.order.Look.TheVariants as looks
use Rattle.ckd_rules.specs.declared.order.CommandOrder.{CommandOrder}
use Rattle.ckd_rules.specs.declared.order.CommandOrder.TheVariants as orders
use Rattle.ckd_rules.specs.declared.stance.Place.{Place}
use Rattle.ckd_rules.specs.declared.stance.Place.TheVariants as places
use Rattle.ckd_rules.specs.declared.stance.Stance.{Stance}
use Rattle.ckd_rules.specs.declared.turned.Turned.{Turned}
use Rattle.ckd_rules.specs.declared.turned.Turned.TheVariants as turns
use Rattle.ckd_rules.specs.Checks.{order_of}
use Rattle.ckd_rules.specs.Control.{unseen_place}
use Rattle.ckd_rules.specs.Finding.{track_after}
use Rattle.ckd_rules.specs.Look.{look_on}
use Rattle.ckd_rules.specs.Opening.{Opened, moved, read_from, look_from, locating, begun, opening_with as order_opened}
use Rattle.ckd_rules.specs.Walk.{TrackEdit}
use Rattle.plain_defs.specs.PlainState.{PlainState}
use Rattle.track_image.specs.Image.{Image}
use Rattle.device_outside.specs.Interaction.{Done}
use Rattle.device_defs.specs.declared.answers.Came.TheVariants.{Ends, HalfOpen}
use Rattle.device_defs.specs.declared.answers.Took.{Took}
use Rattle.device_defs.specs.declared.answers.Took.TheVariants.{Whole, Opened as HalfOpened, Unwritten}
use Rattle.device_defs.specs.Command as N
use Rattle.device_defs.specs.Command.{Went, Over, On, came_of_write, went_by, looked, look, goes_on, follow}
use Rattle.device_defs.specs.Contents.{by_plain}
use Rattle.device_defs.specs.Image.{Imaged, Has, NoBytes, BadTrack}
use Rattle.device_defs.specs.Marks.{MarksStore}
use Rattle.device_defs.specs.Memory.{had_by}
use Rattle.device_defs.specs.Outcomes.{Turn, checks, usage_of}
use Rattle.device_defs.specs.Store.{is_lost}
use Rattle.device_laws.proofs.ChainFeeds.{need_is}
use Rattle.device_laws.proofs.ChainTracks.{FurtherBy, look_further, whole_cylinders, begun_stage, need_at}
use Rattle.device_laws.proofs.Had.{Had, had_done, had_try, had_if, had_then, had_weaker}
use Rattle.device_laws.proofs.PlainStores.{Core, Open, core_of, Walks}
use Rattle.device_laws.proofs.PlainWalks.{plain_image, Imaging, image_so, IsEdited, HalfSo, WroteSo, write_walks}

-- A command that looks at tracks keeps its extent

abbrev KeepsExtent : Stance → Opened → Opening → Type 0
KeepsExtent s o (openings.Looks look) = o.stance.extent ≡ s.extent
KeepsExtent s o (openings.Over e) = Unit {0}
KeepsExtent s o (openings.Asks act) = Unit {0}

-- a record round it, so that its arguments can be inferred
record Keeping (s : Stance) (o : Opened) : Type 0 where
  is : KeepsExtent s o o.opening

moved_keeps : (s : Stance) (c : Ccw) (look : Look) (r : Result ℕ Sense) → Keeping s (moved s c look r)
moved_keeps s c look (Ok t) = record { is = refl }
moved_keeps s c look (Err sense) = record { is = tt }

read_keeps : (s : Stance) (c : Ccw) (r : Read) (area : ReadArea) (place : Place) → Keeping s (read_from s c r area place)
read_keeps s c r reads.Home place = record { is = refl }
read_keeps s c r reads.Zero place = record { is = refl }
read_keeps s c r reads.Count place = record { is = refl }
read_keeps s c r reads.Data place = record { is = refl }
read_keeps s c r reads.KeyData place = record { is = refl }
read_keeps s c r reads.CountKeyData place = record { is = refl }
read_keeps s c r reads.Multiple place = record { is = refl }
read_keeps s c r reads.Track places.Index = record { is = refl }
read_keeps s c r reads.Track places.Home = moved_keeps s c (looks.Reads r) (track_after s.extent s.track)
read_keeps s c r reads.Track (places.Count i) = moved_keeps s c (looks.Reads r) (track_after s.extent s.track)
read_keeps s c r reads.Track (places.Key i) = moved_keeps s c (looks.Reads r) (track_after s.extent s.track)
read_keeps s c r reads.Track (places.Body i) = moved_keeps s c (looks.Reads r) (track_after s.extent s.track)

look_keeps : (s : Stance) (c : Ccw) (look : Look) → Keeping s (look_from s c look)
look_keeps s c (looks.Finds d) = record { is = refl }
look_keeps s c (looks.Searches x) = record { is = refl }
look_keeps s c (looks.Reads r) = read_keeps s c r r.area s.place
look_keeps s c (looks.Writes writes.Data) = record { is = refl }
look_keeps s c (looks.Writes writes.UpdateData) = record { is = refl }
look_keeps s c (looks.Writes writes.KeyData) = record { is = refl }
look_keeps s c (looks.Writes writes.UpdateKeyData) = record { is = refl }
look_keeps s c (looks.Writes writes.CountKeyData) = record { is = refl }
look_keeps s c (looks.Writes writes.NextTrack) = moved_keeps s c (looks.Writes writes.NextTrack) (track_after s.extent s.track)
look_keeps s c (looks.Writes writes.Zero) = record { is = refl }

locating_keeps : (s : Stance) (c : Ccw) (d : Domain) (o : Option Place) → Keeping s (locating s c d o)
locating_keeps s c d (Some place) = record { is = tt }
locating_keeps s c d None = record { is = refl }

begun_keeps : (s : Stance) (c : Ccw) (o : CommandOrder) → Keeping s (begun s c o)
begun_keeps s c orders.Nothing = record { is = tt }
begun_keeps s c (orders.Seeks t) = record { is = tt }
begun_keeps s c orders.Recalibrates = record { is = tt }
begun_keeps s c orders.SetsSector = record { is = tt }
begun_keeps s c (orders.SetsMask mask) = record { is = tt }
begun_keeps s c (orders.Defines e) = record { is = tt }
begun_keeps s c (orders.Locates d) = locating_keeps s c d (unseen_place d.orientation)
begun_keeps s c (orders.Looks look) = look_keeps s c look
begun_keeps s c (orders.Asks act) = record { is = tt }

opening_keeps : (s : Stance) (c : Ccw) (r : Result CommandOrder Sense) → Keeping s (order_opened s c r)
opening_keeps s c (Ok o) = begun_keeps s c o
opening_keeps s c (Err sense) = record { is = tt }

extent_by : (s : Stance) (o : Opened) (x : Opening) (look : Look) → stage_for x ≡ stages.Looks look → KeepsExtent s o x → o.stance.extent ≡ s.extent
extent_by s o (openings.Over e) look is keeps = absurd (cc)
extent_by s o (openings.Looks other) look is keeps = keeps
extent_by s o (openings.Asks act) look is keeps = absurd (cc)

last_or : Option Extent → ℕ
last_or (Some e) = e.last
last_or None = 0

reaches : (k : ℕ) (o : Option Extent) → IfSome o (λ e. e.last < (k + 1 + last_or o) * 15)
unfolding last_or
reaches k (Some e) = omega arith
reaches k None = tt

onward : (s z : Stance) (n : ℕ) (x : Turned) → FurtherBy n s z x → x ≡ turns.Onward → (z.extent ≡ s.extent) × (z.track ≡ s.track + 1)
onward s z n (turns.Ended e) f is = absurd (cc)
onward s z n turns.Onward f is = f.1
onward s z n (turns.Edits edit e) f is = absurd (cc)

pub look_stays : (g : Geometry) (t : Track) (s : Stance) (c : Ccw) (look : Look) → (look_on g t s c look).turned ≡ turns.Onward →
    ((look_on g t s c look).stance.extent ≡ s.extent) × ((look_on g t s c look).stance.track ≡ s.track + 1)
look_stays g t s c look is =
    let k = s.track + 1 + last_or s.extent in
    onward s (look_on g t s c look).stance (k * 15) (look_on g t s c look).turned
    (look_further (k * 15) s (whole_cylinders k) (omega arith) (reaches s.track s.extent) g t c look).on is

-- A chain within its command at hand

-- it is at the same word, with the same extent, as the chain that began
pub record IsFrom (origin chain : ChainState) : Type 0 where
  pub words : chain.ccws ≡ origin.ccws
  pub next : chain.at.next ≡ origin.at.next
  pub fixed : chain.fixed ≡ origin.fixed
  pub extent : chain.at.stance.extent ≡ origin.at.stance.extent

pub from_itself : (chain : ChainState) → IsFrom chain chain
from_itself chain = record { words = refl; next = refl; fixed = refl; extent = refl }

pub record IsAtWord (origin chain : ChainState) : Type 0 where
  pub words : chain.ccws ≡ origin.ccws
  pub next : chain.at.next ≡ origin.at.next

at_word : {origin chain : ChainState} → IsFrom origin chain → IsAtWord origin chain
at_word from = record { words = from.words; next = from.next }

-- it looks at a track, no track before the first one
pub record Looking (origin chain : ChainState) (first t : ℕ) : Type 0 where
  pub from : IsFrom origin chain
  pub needs : need_of chain ≡ Some t
  pub above : first ≤ t

opened_from : (origin chain : ChainState) (o : Option Stage) (look : Look) → IsFrom origin chain → stage_by chain o ≡ stages.Looks look →
    IsFrom origin (opened_by chain o)
opened_from origin chain (Some stage) look from is = from
opened_from origin chain None look from is = record {
  words = from.words;
  next = from.next;
  fixed = from.fixed;
  extent =
      extent_by chain.at.stance (opening_at chain) (opening_at chain).opening look is
      (opening_keeps chain.at.stance (word_of chain) (order_of chain.fixed chain.at.stance (word_of chain))).is ∙ from.extent;
}

-- what a step with an image gives
data StepIs (origin : ChainState) (first t : ℕ) : ChainStep → Type 0 where
  it_ended : (e : CommandEnd) (after : ChainState) → StepIs origin first t (record { progress = progresses.Ended e; chain = after })
  it_needs : (q : ℕ) (next : ChainState) → Looking origin next first q → t < q →
      StepIs origin first t (record { progress = progresses.Need q; chain = next })
  it_writes : (e : Edit) (next : ChainState) → IsAtWord origin next →
      StepIs origin first t (record { progress = progresses.Write t e; chain = next })

turned_step : (origin u : ChainState) (first t : ℕ) (look : Look) (z : Stance) (x : Turned) → first ≤ t → IsFrom origin u →
    u.stage ≡ Some (stages.Looks look) → u.at.stance.track ≡ t →
    (x ≡ turns.Onward → (z.extent ≡ u.at.stance.extent) × (z.track ≡ u.at.stance.track + 1)) → StepIs origin first t (step_turned u z x)
turned_step origin u first t look z (turns.Ended e) above from at place stays = it_ended _ _
turned_step origin u first t look z turns.Onward above from at place stays =
    let on = (stays refl).1 in
    it_needs z.track (standing u z) (record {
      from = record { words = from.words; next = from.next; fixed = from.fixed; extent = (stays refl).0 ∙ from.extent };
      needs = need_at (standing u z) look at;
      above = omega (arith, on, place, above);
    }) (omega (arith, on, place))
turned_step origin u first t look z (turns.Edits edit e) above from at place stays =
    rw (← place) (it_writes edit _ (record {
      words = from.words;
      next = from.next;
    }))

step_by : (origin chain : ChainState) (first t : ℕ) (i : Image) (stage : Stage) → first ≤ t → IsFrom origin chain → need_of chain ≡ Some t →
    stage_of chain ≡ stage → StepIs origin first t (stepped_by (chain_opened chain) (Some i) stage)
step_by origin chain first t i stages.Over above from needs at =
    absurd (let none : None ≡ Some t = sym (ap (λ (x : Stage). track_needed (chain_opened chain) x) at) ∙ needs in cc)
step_by origin chain first t i (stages.Asks act) above from needs at =
    absurd (let none : None ≡ Some t = sym (ap (λ (x : Stage). track_needed (chain_opened chain) x) at) ∙ needs in cc)
step_by origin chain first t i (stages.Looks look) above from needs at =
    let u = chain_opened chain in
    let l = look_on i.geometry i.track u.at.stance (word_of u) look in
    turned_step origin u first t look l.stance l.turned above (opened_from origin chain chain.stage look from at)
    (begun_stage chain chain.stage refl ∙ ap (λ (x : Stage). Some x) at)
    (need_is u (stages.Looks look) t (sym (ap (λ (x : Stage). track_needed u x) at) ∙ needs))
    (look_stays i.geometry i.track u.at.stance (word_of u) look)

-- The command

module _ (p : PlainState) (u : List Track) (g : Geometry) (n : ℕ) (m : Open) (answer : LocalAct → Settled) (origin : ChainState)
    (on : origin.fixed.geometry ≡ g) (first : ℕ) where
  -- its edit, if it has one, took effect
  abbrev pub EditSo : Option TrackEdit → Core → Type 0
  EditSo None c = Walks p u g n m c
  EditSo (Some x) c = IsEdited p u g n m (is_provisional origin.at.stance.extent) x.track x.edit c

  -- a volume that has the same on the tracks up to t
  abbrev pub Agrees : ℕ → List Track → Type 0
  Agrees t v = (q : ℕ) → first ≤ q → q ≤ t → track_in v q ≡ track_in u q

  abbrev pub written_so : ℕ → Edit → ChainState → Fed
  written_so t e next = ended_by next (settled_by next Written) (Some (record { track = t; edit = e }))

  -- it ended as fed, or with a check before which nothing was done, or the first part of its write is done: then it ends so on every volume that
  -- has the same on the tracks that it looked at
  pub data TurnIs (f : List Track → Fed) (from : ℕ) : Turn → Core → Type 0 where
    ended_so : (e : CommandEnd) (after : ChainState) (c : Core) → (f u).end ≡ e → (f u).chain ≡ after → EditSo (f u).edit c →
        TurnIs f from (record { came = Ends e; chain = after }) c
    equipment : (at : ChainState) (c : Core) → IsAtWord origin at → Walks p u g n m c → TurnIs f from (checks at Equipment) c
    data_check : (at : ChainState) (c : Core) → IsAtWord origin at → Walks p u g n m c → TurnIs f from (checks at DataCheck) c
    half_open : (t : ℕ) (e : Edit) (next : ChainState) (c : Core) → IsAtWord origin next → from ≤ t →
        ((v : List Track) → Agrees t v → f v ≡ written_so t e next) → HalfSo p u g n m first t e c →
        TurnIs f from (record { came = HalfOpen t; chain = next }) c

  fed_step : (k : ℕ) (chain : ChainState) (t : ℕ) (v : List Track) → Looking origin chain first t → track_in v t ≡ track_in u t →
      fed (suc k) (track_in v) answer chain
      ≡ fed_by answer (fed k (track_in v) answer) (stepped chain (Some (plain_image p u g n m t))).chain
      (stepped chain (Some (plain_image p u g n m t))).progress
  unfolding F.fed
  fed_step k chain t v at same =
      let is : fed_image chain.fixed (track_in v) (need_of chain) ≡ Some (plain_image p u g n m t) =
      ap (fed_image chain.fixed (track_in v)) at.needs
      ∙ ap (λ (x : Fixed). Some (record { geometry = x.geometry; track = track_in v t })) at.from.fixed
      ∙ ap (λ (x : Geometry). Some (record { geometry = x; track = track_in v t })) on
      ∙ ap (λ (x : Track). Some (record { geometry = g; track = x })) same in
      ap (λ (i : Option Image). fed_by answer (fed k (track_in v) answer) (stepped chain i).chain (stepped chain i).progress) is

  abbrev fed_so : ℕ → ChainState → List Track → Fed
  fed_so k chain v = fed k (track_in v) answer chain

  abbrev WentSo : ChainState → ℕ → MarksStore → Option Went → Type 0
  WentSo chain t z None = ⊥
  WentSo chain t z (Some (Over turn)) = (k : ℕ) → TurnIs (fed_so (suc k) chain) t turn (core_of z)
  WentSo chain t z (Some (On next q)) =
      Walks p u g n m (core_of z) × (Looking origin next first q × ((t < q) × ((k : ℕ) (v : List Track) → track_in v t ≡ track_in u t →
      fed (suc k) (track_in v) answer chain ≡ fed k (track_in v) answer next)))

  ended_as : (f : List Track → Fed) (from : ℕ) (x : Fed) (c : Core) → f u ≡ x → EditSo x.edit c →
      TurnIs f from (record { came = Ends x.end; chain = x.chain }) c
  ended_as f from x c is edit =
      ended_so x.end x.chain c (ap (λ (y : Fed). y.end) is) (ap (λ (y : Fed). y.chain) is) (subst (λ (y : Fed). EditSo y.edit c) (sym is) edit)

  module _ (chain : ChainState) (t : ℕ) (at : Looking origin chain first t) where
    step_fed : (k : ℕ) (v : List Track) → track_in v t ≡ track_in u t → (x : ChainStep) → stepped chain (Some (plain_image p u g n m t)) ≡ x →
        fed (suc k) (track_in v) answer chain ≡ fed_by answer (fed k (track_in v) answer) x.chain x.progress
    step_fed k v same x is =
        fed_step k chain t v at same ∙ ap (λ (y : ChainStep). fed_by answer (fed k (track_in v) answer) y.chain y.progress) is

    wrote_so : (z : MarksStore) (e : Edit) (next : ChainState) (a : Option Took) → IsAtWord origin next →
        stepped chain (Some (plain_image p u g n m t)) ≡ record { progress = progresses.Write t e; chain = next } →
        WroteSo p u g n m (usage_of chain).provisional first t e z a → Had (had_by (came_of_write by_plain next t) z a) (WentSo chain t)
    wrote_so z e next None from is w = absurd w
    wrote_so z e next (Some Whole) from is w =
        had_done (λ k. ended_as (fed_so (suc k) chain) t (written_so t e next) (core_of z)
        (step_fed k u refl (record { progress = progresses.Write t e; chain = next }) is)
        (subst (λ (b : Bool). IsEdited p u g n m b t e (core_of z)) (ap is_provisional at.from.extent) w))
    wrote_so z e next (Some HalfOpened) from is w =
        let above = at.above in
        had_done (λ k. half_open t e next (core_of z) from (omega arith)
        (λ v agrees. step_fed k v (agrees t above (omega arith)) (record { progress = progresses.Write t e; chain = next }) is) w)
    wrote_so z e next (Some Unwritten) from is w = had_done (λ k. equipment next (core_of z) from w)

    by_step : (s : MarksStore) (x : ChainStep) → StepIs origin first t x → stepped chain (Some (plain_image p u g n m t)) ≡ x →
        Walks p u g n m (core_of s) →
        Had (went_by by_plain (usage_of chain) first t s (plain_image p u g n m t) x.chain x.progress) (WentSo chain t)
    by_step s x (it_ended e after) is w =
        had_done (λ k. ended_as (fed_so (suc k) chain) t (record { end = e; chain = after; edit = None }) (core_of s) (step_fed k u refl x is) w)
    by_step s x (it_needs q next l further) is w = had_done (w, (l, (further, λ k v same. step_fed k v same x is)))
    by_step s x (it_writes e next from) is w =
        had_then (write_walks p u g n m (usage_of chain) first t e s (plain_image p u g n m t) w) (λ z a f. wrote_so z e next a from is f)

    checked_so : (s : MarksStore) → Walks p u g n m (core_of s) → (how : Settled) → Had {R = Bool} {I = Image} (Done s (Some (Over
        (checks chain Equipment)))) (WentSo chain t)
    checked_so s w how = had_done (λ k. equipment chain (core_of s) (at_word at.from) w)

    image_is : (z : MarksStore) (a : Option Imaged) → Imaging p u g n m t z a → Had (had_by (looked by_plain chain first t) z a) (WentSo chain t)
    image_is z None f = absurd f.image
    image_is z (Some (Has i)) f =
        rw f.image (had_try (by_step z (stepped chain (Some (plain_image p u g n m t)))
        (step_by origin chain first t (plain_image p u g n m t) (stage_of chain) at.above at.from at.needs refl) refl f.on))
    image_is z (Some (NoBytes fault)) f = checked_so z f.on Equipment
    image_is z (Some (BadTrack side)) f = had_done (λ k. data_check chain (core_of z) (at_word at.from) f.on)

    look_so : (s : MarksStore) → Walks p u g n m (core_of s) → Had (look by_plain chain first t s) (WentSo chain t)
    unfolding N.look
    look_so s w =
        had_if (is_lost s t) (λ _. checked_so s w Equipment)
        (λ _. had_then (image_so p u g n m t s (usage_of chain) w) (λ z a f. image_is z a f))

  abbrev pub FollowSo : ℕ → ChainState → ℕ → MarksStore → Option Turn → Type 0
  FollowSo k chain t z None = ⊥
  FollowSo k chain t z (Some turn) = TurnIs (λ (v : List Track). fed k (track_in v) answer chain) t turn (core_of z)

  turn_on : (f h : List Track → Fed) (t q : ℕ) → t < q → first ≤ t → ((v : List Track) → track_in v t ≡ track_in u t → f v ≡ h v) →
      (turn : Turn) (c : Core) → TurnIs h q turn c → TurnIs f t turn c
  turn_on f h t q less above same turn c (ended_so e after d end chain edit) =
      let is = same u refl in
      ended_so e after d (ap (λ (y : Fed). y.end) is ∙ end) (ap (λ (y : Fed). y.chain) is ∙ chain) (subst (λ (y : Fed). EditSo y.edit d) (sym is) edit)
  turn_on f h t q less above same turn c (equipment at d word w) = equipment at d word w
  turn_on f h t q less above same turn c (data_check at d word w) = data_check at d word w
  turn_on f h t q less above same turn c (half_open k e next d word from does half) =
      half_open k e next d word (omega (arith, less, from))
      (λ v agrees. same v (agrees t above (omega (arith, less, from))) ∙ does v agrees) half

  as_fed : (k : ℕ) (chain next : ChainState) (t q : ℕ) (z : MarksStore) (a : Option Turn) → t < q → first ≤ t →
      ((v : List Track) → track_in v t ≡ track_in u t → fed (suc k) (track_in v) answer chain ≡ fed k (track_in v) answer next) →
      FollowSo k next q z a → FollowSo (suc k) chain t z a
  as_fed k chain next t q z None less above same f = f
  as_fed k chain next t q z (Some turn) less above same f = turn_on (fed_so (suc k) chain) (fed_so k next) t q less above same turn (core_of z) f

  further : (k : ℕ) (chain : ChainState) (t : ℕ) (z : MarksStore) (a : Option Went) → first ≤ t →
      ((next : ChainState) (q : ℕ) (s : MarksStore) → Looking origin next first q → Walks p u g n m (core_of s) →
      Had (follow by_plain k first next q s) (FollowSo k next q)) → WentSo chain t z a →
      Had (had_by (goes_on by_plain (follow by_plain k first)) z a) (FollowSo (suc k) chain t)
  further k chain t z None above rest f = absurd f
  further k chain t z (Some (Over turn)) above rest f = had_done (f k)
  further k chain t z (Some (On next q)) above rest f =
      had_weaker (rest next q z f.1.0 f.0) (λ y a h. as_fed k chain next t q y a f.1.1.0 above (f.1.1.1 k) h)

  pub follow_so : (k : ℕ) (chain : ChainState) (t : ℕ) (s : MarksStore) → Looking origin chain first t → Walks p u g n m (core_of s) →
      Had (follow by_plain k first chain t s) (FollowSo k chain t)
  unfolding N.follow
  follow_so zero chain t s at w = had_done (equipment chain (core_of s) (at_word at.from) w)
  follow_so (suc k) chain t s at w =
      had_then (look_so chain t at s w) (λ z a f. further k chain t z a at.above (λ next q y l v. follow_so k next q y l v) f)
