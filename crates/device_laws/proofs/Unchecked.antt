-- A command ends with no equipment check where no call fails, side A is up, no track is lost, and no data of its program were.
use Rattle.std.proofs.Common.{◌≡◌, ◌<◌, ◌≤◌, ◌+◌, zero, suc, ℕ, Bool, true, false, List, Option, Some, None, is_some, get_or, refl, sym, ap, subst, ◌∙◌, arith}
use Rattle.std.specs.Prelude.{if◌then◌else◌, ◌||◌, not}
use Rattle.ckd_chain.specs.declared.mark.Stage.{Stage}
use Rattle.ckd_chain.specs.declared.mark.Stage.TheVariants as stages
use Rattle.ckd_chain.specs.declared.progress.Progress.{Progress}
use Rattle.ckd_chain.specs.declared.progress.Progress.TheVariants as progresses
use Rattle.ckd_chain.specs.State.{ChainState}
use Rattle.ckd_chain.specs.Steps.{
  chain_opened as opened_chain,
  stage_of,
  track_needed,
  need_of,
  standing,
  step_turned as chain_turned,
  stepped_by,
  stepped,
  word_of,
}
use Rattle.ckd_rules.specs.declared.order.Look.{Look}
use Rattle.ckd_rules.specs.declared.stance.Stance.{Stance}
use Rattle.ckd_rules.specs.declared.turned.Turned.{Turned}
use Rattle.ckd_rules.specs.declared.turned.Turned.TheVariants as turns
use Rattle.ckd_rules.specs.Look.{look_on}
use Rattle.ckd_types.specs.declared.parameters.Mode.{Mode}
use Rattle.ckd_types.specs.declared.paths.Side.{Side}
use Rattle.ckd_types.specs.declared.record.Edit.{Edit}
use Rattle.ckd_types.specs.Parameters.{is_bypass}
use Rattle.track_image.specs.Image.{Image, edited_image}
use Rattle.device_outside.specs.Interaction.{Interaction, Done, Try, Ask, Read, Write, Tell}
use Rattle.device_defs.specs.declared.answers.Choice.{Choice}
use Rattle.device_defs.specs.declared.answers.Choice.TheVariants.{Provisional, Fast, Through}
use Rattle.device_defs.specs.declared.answers.Came.{Came}
use Rattle.device_defs.specs.declared.answers.Came.TheVariants.{Ends, Checks, HalfOpen}
use Rattle.device_defs.specs.declared.answers.Took.{Took}
use Rattle.device_defs.specs.declared.answers.Took.TheVariants.{Whole, Opened, Unwritten}
use Rattle.device_defs.specs.declared.usage.Usage.{Usage}
use Rattle.device_defs.specs.Choosing.{choose}
use Rattle.device_defs.specs.Command as N
use Rattle.device_defs.specs.Command.{Went, Over, On, came_of_write, went_by, looked, look, goes_on, follow}
use Rattle.device_defs.specs.Contents.{Contents}
use Rattle.device_defs.specs.Editing as E
use Rattle.device_defs.specs.Editing.{another_loose, whole, at_once, through_by, through, write_by, written, is_given, unchosen, write_chosen, write}
use Rattle.device_defs.specs.Excused.{is_equipment_check}
use Rattle.device_defs.specs.Image as I
use Rattle.device_defs.specs.Image.{
  Got,
  Imaged,
  Has,
  NoBytes,
  BadTrack,
  level_bytes,
  filled,
  loads,
  ahead,
  loaded,
  delivered,
  missed,
  miss,
  clean_image,
  image_by,
  image,
  image_of,
}
use Rattle.device_defs.specs.Memory.{had_by}
use Rattle.device_defs.specs.Owed.{is_clean}
use Rattle.device_defs.specs.Outcomes.{Turn, usage_of, wrote_turn}
use Rattle.device_defs.specs.Store.{OfCommand, Store, tracks_of, level_at, has_level, takes_b, frame_at, is_lost, half_is, with_frame}
use Rattle.device_defs.specs.Writing as V
use Rattle.device_defs.specs.Writing.{Wrote, write_first, write_done, write_opened}
use Rattle.device_laws.specs.Unharmed.{some_takes}
use Rattle.device_laws.proofs.ChainFeeds.{need_is}
use Rattle.device_laws.proofs.ChainTracks.{begun_stage, need_at}
use Rattle.device_laws.proofs.Choices.{choice_fits}
use Rattle.device_laws.proofs.Commands.{Stays, LookedAt, look_keeps_good}
use Rattle.device_laws.proofs.FailedCall.{IsWell}
use Rattle.device_laws.proofs.Lucky.{
  Lucky,
  lucky_done,
  lucky_try,
  lucky_ask,
  lucky_read,
  lucky_write,
  lucky_tell,
  lucky_then,
  lucky_if,
  lucky_tried,
  with_always,
}
use Rattle.device_laws.proofs.PlainLooks.{look_stays}
use Rattle.device_laws.proofs.TrackMarks as M
use Rattle.device_laws.proofs.TrackMarks.{is_true, is_good, IsFaithful, frame_mark, track_at}
use Rattle.device_laws.proofs.UnlostParts.{second_lucky, firm_first_off}
use Rattle.device_laws.proofs.invariants.NoTrackIsLost.{level_of, image_goes, look_goes}
use Rattle.device_laws.proofs.WholeImage.{Reaches, image_keeps_good}
use Rattle.device_laws.proofs.Writes.{is_taken, firm_first_keeps_good, write_first_keeps_good}

-- The steps of a chain that looks at a track

abbrev pub StepIs : ℕ → Progress → ChainState → Type 0
StepIs t (progresses.Ended e) chain = Unit {0}
StepIs t (progresses.Need q) chain = (q ≡ t + 1) × (need_of chain ≡ Some q)
StepIs t (progresses.Write q e) chain = Unit {0}
StepIs t (progresses.Local act) chain = ⊥

turned_is : (u : ChainState) (t : ℕ) (look : Look) (z : Stance) (x : Turned) → u.stage ≡ Some (stages.Looks look) → (x ≡ turns.Onward → z.track ≡ t + 1) →
    StepIs t (chain_turned u z x).progress (chain_turned u z x).chain
turned_is u t look z (turns.Ended e) at next = tt
turned_is u t look z turns.Onward at next = (next refl, need_at (standing u z) look at)
turned_is u t look z (turns.Edits edit e) at next = tt

stage_is : (chain : ChainState) (t : ℕ) (i : Image) (stage : Stage) → need_of chain ≡ Some t → stage_of chain ≡ stage →
    StepIs t (stepped_by (opened_chain chain) (Some i) stage).progress (stepped_by (opened_chain chain) (Some i) stage).chain
stage_is chain t i stages.Over needs at = tt
stage_is chain t i (stages.Asks act) needs at =
    absurd (let none : None ≡ Some t = sym (ap (λ (x : Stage). track_needed (opened_chain chain) x) at) ∙ needs in cc)
stage_is chain t i (stages.Looks look) needs at =
    let u = opened_chain chain in
    let l = look_on i.geometry i.track u.at.stance (word_of u) look in
    let place : u.at.stance.track ≡ t = need_is u (stages.Looks look) t (sym (ap (λ (x : Stage). track_needed u x) at) ∙ needs) in
    turned_is u t look l.stance l.turned (begun_stage chain chain.stage refl ∙ ap (λ (x : Stage). Some x) at)
    (λ on. (look_stays i.geometry i.track u.at.stance (word_of u) look on).1 ∙ ap (λ (n : ℕ). n + 1) place)

pub step_is : (chain : ChainState) (t : ℕ) (i : Image) → need_of chain ≡ Some t → StepIs t (stepped chain (Some i)).progress (stepped chain (Some i)).chain
step_is chain t i needs = stage_is chain t i (stage_of chain) needs refl

-- What holds anyway

pub lucky_any : {R I S A : Type 0} (i : Interaction R I S A) → Lucky (λ s a. Unit {0}) i
lucky_any (Done s a) = lucky_done tt
lucky_any (Try k) = lucky_try (λ ok. lucky_any (k ok))
lucky_any (Ask call k) = lucky_ask (λ a. lucky_any (k a))
lucky_any (Read side t k) = lucky_read (λ r. lucky_any (k (Some r)))
lucky_any (Write side t r k) = lucky_write (lucky_any (k true))
lucky_any (Tell m k) = lucky_tell (λ r. lucky_any (k r))

pub lucky_both : {R I S A : Type 0} {p q : S → A → Type 0} {i : Interaction R I S A} → Lucky p i → Lucky q i → Lucky (λ s a. p s a × q s a) i
lucky_both (lucky_done x) (lucky_done y) = lucky_done (x, y)
lucky_both (lucky_try x) (lucky_try y) = lucky_try (λ ok. lucky_both (x ok) (y ok))
lucky_both (lucky_ask x) (lucky_ask y) = lucky_ask (λ a. lucky_both (x a) (y a))
lucky_both (lucky_read x) (lucky_read y) = lucky_read (λ r. lucky_both (x r) (y r))
lucky_both (lucky_write x) (lucky_write y) = lucky_write (lucky_both x y)
lucky_both (lucky_tell x) (lucky_tell y) = lucky_tell (λ r. lucky_both (x r) (y r))

-- Answers

abbrev pub HasBytes : Option Imaged → Type 0
HasBytes None = Unit {0}
HasBytes (Some (Has i)) = Unit {0}
HasBytes (Some (NoBytes fault)) = ⊥
HasBytes (Some (BadTrack side)) = Unit {0}

abbrev pub IsTaken : Took → Type 0
IsTaken Whole = Unit {0}
IsTaken Opened = Unit {0}
IsTaken Unwritten = ⊥

abbrev pub WasTaken : Option Took → Type 0
WasTaken None = Unit {0}
WasTaken (Some took) = IsTaken took

abbrev pub NoCheck : Came → Type 0
NoCheck (Ends e) = Unit {0}
NoCheck (Checks e) = is_equipment_check e.sense ≡ false
NoCheck (HalfOpen t) = Unit {0}

abbrev pub WentSo : ℕ → Option Went → Type 0
WentSo t None = Unit {0}
WentSo t (Some (Over turn)) = NoCheck turn.came
WentSo t (Some (On chain q)) = (q ≡ t + 1) × (need_of chain ≡ Some q)

abbrev pub TurnSo : Option Turn → Type 0
TurnSo None = Unit {0}
TurnSo (Some turn) = NoCheck turn.came

module _ {F P H R : Type 0} (c : Contents F P H R) where
  neither : (x y : Bool) → x ≡ false → y ≡ false → (x || y) ≡ true → ⊥
  neither true y e f g = absurd (cc)
  neither false true e f g = absurd (cc)
  neither false false e f g = absurd (cc)

  level_got : (s : Store F P H) (t : ℕ) → has_level s t ≡ true → Lucky (λ z (g : Got R). is_some g.bytes ≡ true) (level_bytes c s t)
  unfolding I.level_bytes
  level_got s t level =
      lucky_if (level_at s.a t) (λ _. lucky_read (λ r. lucky_done refl))
      (λ a. lucky_if (level_at s.b t) (λ _. lucky_read (λ r. lucky_done refl)) (λ b. absurd (neither (level_at s.a t) (level_at s.b t) a b level)))

  granted_has : (s : Store F P H) (t : ℕ) (i : Image) (given : Bool) → Lucky (λ z a. HasBytes a) (I.granted c s t i given)
  granted_has s t i given = lucky_if given (λ _. lucky_then _ (lucky_any (filled c s t i)) (λ z _ _. lucky_done tt)) (λ _. lucky_done tt)

  loaded_has : (s : Store F P H) (t : ℕ) (i : Image) (mode : Mode) → Lucky (λ z a. HasBytes a) (loaded c s t i mode)
  loaded_has s t i mode =
      lucky_if (loads mode) (λ _. lucky_tried s _ tt (lucky_ask (λ given. granted_has s t i given))) (λ _. lucky_done tt)

  delivered_has : (u : Usage) (t : ℕ) (side : Side) (s : Store F P H) (o : Option Image) → Lucky (λ z a. HasBytes a) (delivered c u t side s o)
  delivered_has u t side s None = lucky_done tt
  delivered_has u t side s (Some i) = loaded_has (ahead u s t) t i u.mode

  pub missed_has : (u : Usage) (t : ℕ) (s : Store F P H) (g : Got R) (o : Option R) → is_some o ≡ true → Lucky (λ z a. HasBytes a) (missed c u t s g o)
  missed_has u t s g None e = absurd (cc)
  missed_has u t s g (Some r) e = lucky_tried s _ tt (delivered_has u t g.side s (image_of c s t r))

  miss_has : (s : Store F P H) (u : Usage) (t : ℕ) → has_level s t ≡ true → Lucky (λ z a. HasBytes a) (miss c s u t)
  miss_has s u t level = lucky_then _ (level_got s t level) (λ z g e. missed_has u t z g g.bytes e)

  clean_has : (s : Store F P H) (u : Usage) (t : ℕ) (f : F) → has_level s t ≡ true → Lucky (λ z a. HasBytes a) (clean_image c s u t f)
  clean_has s u t f level =
      lucky_if (is_bypass u.mode) (λ _. miss_has s u t level)
      (λ _. lucky_ask (λ listed. lucky_if listed (λ _. lucky_done tt) (λ _. miss_has (with_frame s t None) u t level)))

  by_frame : (s : Store F P H) (u : Usage) (t : ℕ) (o : Option F) → (is_true (frame_mark c o) ≡ false → has_level s t ≡ true) →
      Lucky (λ z a. HasBytes a) (image_by c s u t o)
  by_frame s u t None level = miss_has s u t (level refl)
  by_frame s u t (Some f) level = lucky_if (c.modified f) (λ _. lucky_done tt) (λ clean. clean_has s u t f (level clean))

  pub image_has : (s : Store F P H) (u : Usage) (t : ℕ) → is_good (track_at c s t) ≡ true → is_lost s t ≡ false → half_is s.half t ≡ false →
      Lucky (λ z a. HasBytes a) (image c s u t)
  unfolding I.image
  image_has s u t good there half = by_frame s u t (frame_at s t) (level_of c s t good there half)

  -- A write

  lost_mark : (s : Store F P H) (t : ℕ) → is_lost s t ≡ false → (track_at c s t).lost ≡ false
  unfolding M.track_at
  lost_mark s t e = e

  took_so : (b : Bool) → IsTaken (if b then Opened else Whole)
  took_so true = tt
  took_so false = tt

  no_side : (a b : Bool) → (a || b) ≡ true → a ≡ false → b ≡ false → ⊥
  no_side true b up down none = cc
  no_side false true up down none = cc
  no_side false false up down none = cc

  -- while no call fails each side stays as it is
  pub takes_still : (s z : Store F P H) → z.a.up ≡ s.a.up → takes_b z ≡ takes_b s → some_takes s ≡ true → some_takes z ≡ true
  takes_still s z a b up = ap (λ (x : Bool). x || takes_b z) a ∙ ap (λ (x : Bool). s.a.up || x) b ∙ up

  first_taken : (s : Store F P H) (t : ℕ) (r : R) → some_takes s ≡ true → Lucky (λ z (w : Wrote). IsTaken w.took) (write_first c s t r)
  unfolding V.write_first
  first_taken s t r up =
      lucky_if s.a.up (λ _. lucky_write (lucky_done (took_so (takes_b s))))
      (λ down. lucky_if (takes_b s) (λ _. lucky_write (lucky_done tt)) (λ none. absurd (no_side s.a.up (takes_b s) up down none)))

  pub whole_taken : (s : Store F P H) (t : ℕ) (i : Image) (e : Edit) (bypass : Bool) → Lucky (λ z (took : Took). IsTaken took) (whole c s t i e bypass)
  whole_taken s t i e bypass =
      lucky_tell (λ _. lucky_then (λ y _. Done y Whole) (lucky_any (write_done c _ t i bypass)) (λ y _ _. lucky_done tt))

  module _ (faithful : IsFaithful c) where
    once_taken : (s : Store F P H) (t : ℕ) (i : Image) (e : Edit) (bypass : Bool) → has_level s t ≡ true →
        Lucky (λ z (took : Took). IsTaken took) (at_once c s t i e bypass)
    once_taken s t i e bypass level =
        lucky_then _ (second_lucky c faithful s t (c.bytes i) level)
        (λ z _ g. lucky_if (has_level z t) (λ _. whole_taken z t i e bypass) (λ none. absurd (let both : true ≡ false = sym g.1 ∙ none in cc)))

    by_taken : (t : ℕ) (i : Image) (e : Edit) (bypass opens was_loose : Bool) (s : Store F P H) (took : Took) → IsTaken took →
        (is_taken took ≡ true → has_level s t ≡ true) → Lucky (λ z (x : Took). IsTaken x) (through_by c t i e bypass opens was_loose s took)
    by_taken t i e bypass opens was_loose s Whole is level = whole_taken s t i e bypass
    by_taken t i e bypass opens was_loose s Opened is level =
        lucky_if opens (λ _. lucky_then (λ z _. Done z Opened) (lucky_any (write_opened c s t i (OfCommand bypass e) was_loose)) (λ z _ _. lucky_done tt))
        (λ _. once_taken s t i e bypass (level refl))
    by_taken t i e bypass opens was_loose s Unwritten is level = absurd is

    through_taken : (s : Store F P H) (t : ℕ) (i : Image) (e : Edit) (bypass opens : Bool) → t < tracks_of s → IsWell c s → is_lost s t ≡ false →
        some_takes s ≡ true → Lucky (λ z (x : Took). IsTaken x) (through c s t i e bypass opens)
    unfolding E.through
    through_taken s t i e bypass opens lt w there up =
        lucky_then _ (with_always (firm_first_keeps_good c faithful s t lt w) (firm_first_off c faithful s t))
        (λ z b g.
        let below : t < tracks_of z = let tracks = g.0.goes.tracks in omega arith in
        lucky_then _ (with_always (write_first_keeps_good c faithful t z below (g.0.lost ∙ lost_mark s t there) (c.bytes i) g.0.goes.well)
        (first_taken z t (c.bytes i) (takes_still s z g.1.up g.1.takes up)))
        (λ y v h. by_taken t i e bypass opens b y v.took h.1 h.0.level))

    by_choice : (u : Usage) (first t : ℕ) (i : Image) (e : Edit) (s : Store F P H) (choice : Choice) → t < tracks_of s → IsWell c s → is_lost s t ≡ false →
        some_takes s ≡ true → Lucky (λ z (x : Took). IsTaken x) (write_by c u first t i e s choice)
    by_choice u first t i e s Provisional lt w there up = lucky_done tt
    by_choice u first t i e s (Fast slot) lt w there up = lucky_tell (λ _. lucky_done tt)
    by_choice u first t i e s Through lt w there up = through_taken s t i e (is_bypass u.mode) (not (another_loose s first t)) lt w there up

    unchosen_none : (s : Store F P H) (t : ℕ) (choice : Choice) → Lucky (λ z (x : Option Took). WasTaken x) (unchosen c s t choice)
    unchosen_none s t (Fast (Some slot)) = lucky_ask (λ _. again s t)
      where
        again : (s : Store F P H) (t : ℕ) → Lucky (λ z (x : Option Took). WasTaken x) (E.clean_again c s t)
        again s t = lucky_if (is_clean c (frame_at s t)) (λ _. lucky_ask (λ _. lucky_done tt)) (λ _. lucky_done tt)
    unchosen_none s t (Fast None) = lucky_if (is_clean c (frame_at s t)) (λ _. lucky_ask (λ _. lucky_done tt)) (λ _. lucky_done tt)
    unchosen_none s t Provisional = lucky_if (is_clean c (frame_at s t)) (λ _. lucky_ask (λ _. lucky_done tt)) (λ _. lucky_done tt)
    unchosen_none s t Through = lucky_done tt

    written_taken : (s : Store F P H) (u : Usage) (first t : ℕ) (old : Image) (e : Edit) (choice : Choice) → t < tracks_of s → IsWell c s →
        is_lost s t ≡ false → some_takes s ≡ true → Lucky (λ z (x : Option Took). WasTaken x) (written c s u first t old e choice)
    written_taken s u first t old e choice lt w there up =
        lucky_then _ (by_choice u first t (edited_image e old) e s choice lt w there up) (λ z took is. lucky_done is)

    chosen_taken : (u : Usage) (first t : ℕ) (old : Image) (e : Edit) (s : Store F P H) (choice : Choice) → t < tracks_of s → IsWell c s →
        is_lost s t ≡ false → some_takes s ≡ true → Lucky (λ z (x : Option Took). WasTaken x) (write_chosen c u first t old e s choice)
    chosen_taken u first t old e s choice lt w there up =
        lucky_if (is_given c s choice)
        (λ _. lucky_tell (λ ok. lucky_if ok (λ _. written_taken s u first t old e choice lt w there up) (λ _. unchosen_none s t choice)))
        (λ _. written_taken s u first t old e choice lt w there up)

    pub write_taken : (s : Store F P H) (u : Usage) (first t : ℕ) (old : Image) (e : Edit) → t < tracks_of s → IsWell c s → is_lost s t ≡ false →
        some_takes s ≡ true → Lucky (λ z (x : Option Took). WasTaken x) (write c s u first t old e)
    unfolding E.write
    write_taken s u first t old e lt w there up =
        lucky_tried s _ tt
        (lucky_then _ (with_always (choice_fits c s u t) (lucky_any (choose c s u t)))
        (λ z choice k. rw k.0.same (chosen_taken u first t old e s choice lt w there up)))

    -- From track to track

    pub wrote_so : (chain : ChainState) (t : ℕ) (took : Took) → IsTaken took → NoCheck (wrote_turn chain t took).came
    wrote_so chain t Whole is = tt
    wrote_so chain t Opened is = tt
    wrote_so chain t Unwritten is = absurd is

    came_so : (at : ℕ) (chain : ChainState) (t : ℕ) (s : Store F P H) (o : Option Took) → WasTaken o →
        Lucky (λ z (x : Option Went). WentSo at x) (had_by (came_of_write c chain t) s o)
    came_so at chain t s (Some took) is = lucky_done (wrote_so chain t took is)
    came_so at chain t s None is = lucky_done tt

    went_so : (u : Usage) (first t : ℕ) (s : Store F P H) (i : Image) (chain : ChainState) (p : Progress) → StepIs t p chain → t < tracks_of s →
        IsWell c s → is_lost s t ≡ false → some_takes s ≡ true → Lucky (λ z (x : Option Went). WentSo t x) (went_by c u first t s i chain p)
    went_so u first t s i chain (progresses.Ended e) is lt w there up = lucky_done tt
    went_so u first t s i chain (progresses.Need q) is lt w there up = lucky_done is
    went_so u first t s i chain (progresses.Write q e) is lt w there up =
        lucky_then _ (write_taken s u first t i e lt w there up) (λ z o k. came_so t chain t z o k)
    went_so u first t s i chain (progresses.Local act) is lt w there up = absurd is

    pub looked_so : (chain : ChainState) (first t : ℕ) (s : Store F P H) (o : Option Imaged) → HasBytes o → need_of chain ≡ Some t → t < tracks_of s →
        IsWell c s → is_lost s t ≡ false → some_takes s ≡ true → Lucky (λ z (x : Option Went). WentSo t x) (had_by (looked c chain first t) s o)
    looked_so chain first t s None has needs lt w there up = lucky_done tt
    looked_so chain first t s (Some (Has i)) has needs lt w there up =
        lucky_tried s _ tt
        (went_so (usage_of chain) first t s i (stepped chain (Some i)).chain (stepped chain (Some i)).progress (step_is chain t i needs) lt w there up)
    looked_so chain first t s (Some (NoBytes fault)) has needs lt w there up = absurd has
    looked_so chain first t s (Some (BadTrack side)) has needs lt w there up = lucky_done refl

    module _ (n : ℕ) (Within : ChainState → Type 0) (within : Stays n Within) where
      pub none_half : (s : Store F P H) (t : ℕ) → s.half ≡ None → half_is s.half t ≡ false
      none_half s t none = ap (λ (o : _). half_is o t) none

      pub look_so : (chain : ChainState) (first t : ℕ) (s : Store F P H) → Within chain → tracks_of s ≡ n → t < tracks_of s → IsWell c s → s.half ≡ None →
          need_of chain ≡ Some t → is_lost s t ≡ false → some_takes s ≡ true → Lucky (λ z (x : Option Went). WentSo t x) (look c chain first t s)
      unfolding N.look
      look_so chain first t s is same lt w none needs there up =
          lucky_if (is_lost s t) (λ lost. absurd (let both : true ≡ false = sym lost ∙ there in cc))
          (λ _. lucky_then _
          (with_always (image_keeps_good c faithful s (usage_of chain) t (subst (Reaches (usage_of chain)) (sym same) (within.reaches chain is)) lt w)
          (lucky_both (image_goes c faithful s (usage_of chain) t w) (image_has s (usage_of chain) t (w.good t lt) there (none_half s t none))))
          (λ z o g. looked_so chain first t z o g.1.1 needs (let tracks = g.0.goes.tracks in omega arith) g.0.goes.well
          (ap (λ (l : List Bool). get_or l t false) g.1.0.lost ∙ there) (takes_still s z g.1.0.up g.1.0.takes up)))

      abbrev pub Follows : ℕ → ℕ → Type 0
      Follows k first = (chain : ChainState) (t : ℕ) (s : Store F P H) → Within chain → tracks_of s ≡ n → t < n → IsWell c s → s.half ≡ None →
          need_of chain ≡ Some t → n ≤ t + k → ((q : ℕ) → is_lost s q ≡ false) → some_takes s ≡ true →
          Lucky (λ z (x : Option Turn). TurnSo x) (follow c k first chain t s)

      by_went : (k first t : ℕ) (s z : Store F P H) (o : Option Went) → Follows k first → tracks_of s ≡ n → LookedAt c faithful n Within within s z o →
          WentSo t o → n ≤ t + suc k → ((q : ℕ) → is_lost z q ≡ false) → some_takes z ≡ true →
          Lucky (λ y (x : Option Turn). TurnSo x) (had_by (goes_on c (follow c k first)) z o)
      by_went k first t s z None later same f so room there up = lucky_done tt
      by_went k first t s z (Some (Over turn)) later same f so room there up = lucky_done so
      by_went k first t s z (Some (On chain q)) later same f so room there up =
          later chain q z f.on.1 (f.keeps.tracks ∙ same) f.on.2 f.keeps.well f.on.0 so.1 (let next = so.0 in omega (arith, next, room)) there up

      pub follow_so : (k first : ℕ) → Follows k first
      unfolding N.follow
      follow_so zero first chain t s is same lt w none needs room there up = absurd (omega (arith, lt, room))
      follow_so (suc k) first chain t s is same lt w none needs room there up =
          lucky_then _ (with_always (look_keeps_good c faithful n Within within chain first t s is same (omega arith) w none)
          (lucky_both (look_goes c faithful chain first t s w)
          (look_so chain first t s is same (omega arith) w none needs (there t) up)))
          (λ z o g. by_went k first t s z o (follow_so k first) same g.0 g.1.1 room (λ q. ap (λ (l : List Bool). get_or l q false) g.1.0.lost ∙ there q)
          (takes_still s z g.1.0.up g.1.0.takes up))
