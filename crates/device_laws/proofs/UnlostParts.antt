-- What the parts of an event in which no call fails leave of its tracks and sides; and good marks, as they are used.
use Rattle.ckd_types.specs.declared.paths.Side.TheVariants as sides
use Rattle.device_defs.specs.Writing as V
use Rattle.device_laws.proofs.Bools.{and_left}
use Rattle.device_laws.proofs.TrackMarks as M
use Rattle.device_laws.proofs.Changes as C
use Rattle.std.proofs.Common.{◌≡◌, ℕ, Bool, true, false, Option, Some, None, refl, sym, subst, ◌∙◌, arith, ◌⊎◌, inl, inr}
use Rattle.std.specs.Prelude.{not}
use Rattle.ckd_types.specs.declared.paths.Side.{Side}
use Rattle.ckd_types.specs.declared.record.Edit.{Edit}
use Rattle.track_image.specs.Image.{Image}
use Rattle.device_outside.specs.Interaction.{Interaction, Done, and_then}
use Rattle.device_defs.specs.declared.answers.Did.{Did}
use Rattle.device_defs.specs.declared.answers.Took.{Took}
use Rattle.device_defs.specs.declared.answers.Took.TheVariants.{Whole, Opened, Unwritten}
use Rattle.device_defs.specs.Background.{did, saved_by, unfilled, staged_image, staged_bytes}
use Rattle.device_defs.specs.Contents.{Contents}
use Rattle.device_defs.specs.Editing.{whole}
use Rattle.device_defs.specs.Effects.{with_edit, hardened}
use Rattle.device_defs.specs.Image.{Got, image_of, filled}
use Rattle.device_defs.specs.Owed.{hear, noted_end}
use Rattle.device_defs.specs.Second.{finished, second_done}
use Rattle.device_defs.specs.Store.{Origin, OfCommand, OfCut, OfBackground, HalfWrite, Store, has_level, takes_b, is_lost, is_loose, half_is}
use Rattle.device_defs.specs.Writing.{Wrote, wrote, write_counted, taken_a, taken_b, write_side, firm_first, unwritten, alone_b, failed_a, first_a, write_first, tried_b, write_second, done_by, write_done, write_opened}
use Rattle.device_laws.proofs.FailedCall.{IsWell, IsKept}
use Rattle.device_laws.proofs.PoolWalks.{asks_lucky, hear_asks, filled_asks, done_asks, ended_asks}
use Rattle.device_laws.proofs.TrackMarks.{IsFaithful, track_at}
use Rattle.device_laws.proofs.Lucky.{Lucky, lucky_done, lucky_try, lucky_ask, lucky_write, lucky_tell, lucky_then, lucky_weaker, lucky_if}
use Rattle.device_laws.proofs.Unlost.{core_of, Fine, Off, fine, fine_on, fine_off, everywhere_off, opened_fine}
use Rattle.ckd_chain.specs.State.{ChainState}
use Rattle.plain_defs.specs.History.{OpenEntry}
use Rattle.device_defs.specs.Command.{came_out, on_tracks}
use Rattle.device_defs.specs.Device.{Device, with_store}
use Rattle.device_defs.specs.Events.{second_turn, command_ended, second_ended}
use Rattle.device_defs.specs.Outcomes.{Turn}
use Rattle.device_laws.specs.Unharmed.{MarksAreGood}
use Rattle.device_laws.proofs.Changes.{rest_of}
use Rattle.device_laws.proofs.Soundness.{sound_is_good}
use Rattle.device_laws.proofs.Sweeps.{IsHere}
use Rattle.device_laws.proofs.walks.Events.{turned_same}
use Rattle.device_laws.proofs.walks.Moves.{MayOpen}
use Rattle.device_laws.proofs.walks.Writes.{level_b}
use Rattle.device_laws.proofs.invariants.PatchesHaveFrames.{levels_still}

-- from a store on
abbrev pub Goes : {F P H R A : Type 0} → Store F P H → Interaction R Image (Store F P H) A → Type 0
Goes s i = Lucky (λ z _. Fine (core_of s) (core_of z)) i

module _ {F P H R A B : Type 0} {i : Interaction R Image (Store F P H) A} where
  pub goes_then : (s : Store F P H) (f : Store F P H → A → Interaction R Image (Store F P H) B) → Goes s i →
      ((z : Store F P H) (a : A) → Goes z (f z a)) → Goes s (and_then i f)
  goes_then s f x w = lucky_then f x (λ z a g. lucky_weaker (w z a) (λ y b h. fine_on (core_of s) (core_of z) (core_of y) g h))

module _ {F P H R : Type 0} (c : Contents F P H R) where
  pub hear_goes : (n : ℕ) (s : Store F P H) → Goes s (hear c n s)
  hear_goes n s = asks_lucky (hear_asks c (λ z. Fine (core_of s) (core_of z)) (λ z t clean f. f) n s (fine (core_of s)))

  filled_goes : (s : Store F P H) (t : ℕ) (i : Image) → Goes s (filled c s t i)
  filled_goes s t i = asks_lucky (filled_asks c (λ z. Fine (core_of s) (core_of z)) (λ z q j b is f. f) s t i (fine (core_of s)))

  done_goes : (s : Store F P H) (t : ℕ) (i : Image) (bypass : Bool) → Goes s (write_done c s t i bypass)
  done_goes s t i bypass =
      asks_lucky (done_asks c (λ z. Fine (core_of s) (core_of z)) (λ z q o f. f) (λ z q f. f) s t i bypass (fine (core_of s)))

  opened_goes : (s : Store F P H) (t : ℕ) (i : Image) (origin : Origin) (was_loose : Bool) → MayOpen s t → Goes s (write_opened c s t i origin was_loose)
  opened_goes s t i origin was_loose may =
      lucky_if was_loose (λ _. lucky_ask (λ _. lucky_done (opened_fine s t may))) (λ _. lucky_done (opened_fine s t may))

  pub whole_goes : (s : Store F P H) (t : ℕ) (i : Image) (e : Edit) (bypass : Bool) → Goes s (whole c s t i e bypass)
  whole_goes s t i e bypass =
      lucky_tell (λ _. goes_then s (λ y _. Done y Whole) (done_goes (with_edit s t e) t i bypass) (λ y _. lucky_done (fine (core_of y))))

  abbrev pub DeviceGoes : {A : Type 0} → Store F P H → Interaction R Image (Device F P H) A → Type 0
  DeviceGoes s i = Lucky (λ e _. Fine (core_of s) (core_of e.store)) i

  out_goes : (s : Store F P H) (d : Device F P H) (path : ℕ) (turn : Turn) → Fine (core_of s) (core_of d.store) → DeviceGoes s (came_out c d path turn)
  out_goes s d path turn f =
      lucky_done (subst (λ (x : Store F P H). Fine (core_of s) (core_of x)) (sym (turned_same d path turn.chain turn.came)) f)

  pub on_goes : (s z : Store F P H) (d : Device F P H) (path : ℕ) (chain : ChainState) (o : Option Turn) → Fine (core_of s) (core_of z) →
      DeviceGoes s (on_tracks c d path chain z o)
  on_goes s z d path chain (Some turn) f = out_goes s (with_store d z) path turn f
  on_goes s z d path chain None f = lucky_done f

  by_half : (s : Store F P H) (q : ℕ) (o : Option (HalfWrite H)) → ((h : HalfWrite H) → o ≡ Some h → is_lost s h.track ≡ false) → half_is o q ≡ true →
      is_lost s q ≡ false
  by_half s q None kept e = absurd (cc)
  by_half s q (Some h) kept e = let same : h.track ≡ q = grind arith in subst (λ (t : ℕ). is_lost s t ≡ false) same (kept h refl)

  kept_now : (s : Store F P H) → ((h : HalfWrite H) → s.half ≡ Some h → is_lost s h.track ≡ false) → (q : ℕ) → IsKept (track_at c s q)
  unfolding M.track_at
  kept_now s kept q e = by_half s q s.half kept e

  here_now : (s : Store F P H) → MarksAreGood c s → IsHere (rest_of s)
  unfolding C.rest_of
  here_now s m = record { free = m.free; alone = m.alone; whole = m.whole; within = m.within; queued = m.queued }

  pub marks_well : (s : Store F P H) → MarksAreGood c s → IsWell c s
  marks_well s m = record {
    sizes = m.sizes;
    here = here_now s m;
    good = λ q lt. sound_is_good c s q (m.marks q lt) (m.nowhere q lt);
    kept = λ q lt. kept_now s m.there q;
  }

  module _ (faithful : IsFaithful c) where
    pub firm_first_off : (s : Store F P H) (t : ℕ) → Lucky (λ z _. Off t (core_of s) (core_of z)) (firm_first c s t)
    firm_first_off s t =
        lucky_if (is_loose s t)
        (λ _. lucky_tell (λ _. lucky_done (everywhere_off (hardened s t) t)))
        (λ _. lucky_done (fine_off t (core_of s) (core_of s) (fine (core_of s))))

    abbrev pub Opens : ℕ → Store F P H → Took → Type 0
    Opens t s took = took ≡ Opened → MayOpen s t

    pub second_lucky : (s : Store F P H) (t : ℕ) (r : R) → has_level s t ≡ true →
        Lucky (λ z (a : Unit {0}). Fine (core_of s) (core_of z) × (has_level z t ≡ true)) (write_second c s t r)
    unfolding V.write_second
    second_lucky s t r level =
        lucky_if (takes_b s) (λ _. lucky_write (lucky_done (fine (core_of s), levels_still (write_counted s true) sides.B t t level)))
        (λ _. lucky_done (fine (core_of s), level))

    finished_goes : (s : Store F P H) (t : ℕ) (i : Image) (bypass : Bool) → Goes s (finished c s t i bypass)
    finished_goes s t i bypass = goes_then s (λ z _. Done z true) (done_goes s t i bypass) (λ z _. lucky_done (fine (core_of z)))

    pub second_done_goes : (s : Store F P H) (t : ℕ) (i : Image) (origin : Origin) → Goes s (second_done c s t i origin)
    second_done_goes s t i (OfCommand bypass e) = lucky_tell (λ _. finished_goes (with_edit s t e) t i bypass)
    second_done_goes s t i (OfCut bypass) = finished_goes s t i bypass
    second_done_goes s t i OfBackground = finished_goes s t i false

    pub tried_lucky : (s : Store F P H) (t : ℕ) (r : R) → (takes_b s ≡ true) ⊎ (has_level s t ≡ true) →
        Lucky (λ z (a : Unit {0}). Fine (core_of s) (core_of z) × (has_level z t ≡ true)) (write_second c s t r)
    unfolding V.write_second
    tried_lucky s t r (inl takes) =
        lucky_if (takes_b s) (λ _. lucky_write (lucky_done (fine (core_of s), level_b (write_counted s true) t (and_left s.b.up (not s.held) takes))))
        (λ none. absurd (let both : true ≡ false = sym takes ∙ none in cc))
    tried_lucky s t r (inr level) =
        lucky_if (takes_b s) (λ _. lucky_write (lucky_done (fine (core_of s), levels_still (write_counted s true) sides.B t t level)))
        (λ _. lucky_done (fine (core_of s), level))

    pub saved_by_goes : (t : ℕ) (i : Image) (d : Did) (fault : Option Side) (was_loose : Bool) (failed : Option Side) (s : Store F P H) (took : Took) →
        Opens t s took → Goes s (saved_by c t i d fault was_loose failed s took)
    saved_by_goes t i d fault was_loose failed s Whole takes =
        goes_then s (λ z _. Done z (did fault (did failed d))) (done_goes s t i false) (λ z _. lucky_done (fine (core_of z)))
    saved_by_goes t i d fault was_loose failed s Opened takes =
        goes_then s (λ z _. Done z _) (opened_goes s t i OfBackground was_loose (takes refl)) (λ z _. lucky_done (fine (core_of z)))
    saved_by_goes t i d fault was_loose failed s Unwritten takes = lucky_done (fine (core_of s))

    unfilled_goes : (s : Store F P H) (t : ℕ) (d : Option Did) → Goes s (unfilled c s t d)
    unfilled_goes s t d = lucky_ask (λ _. lucky_done (fine (core_of s)))

    staged_image_goes : (t : ℕ) (s : Store F P H) (g : Got R) (o : Option Image) → Goes s (staged_image c t s g o)
    staged_image_goes t s g None = unfilled_goes s t _
    staged_image_goes t s g (Some i) = goes_then s (λ z _. Done z _) (filled_goes s t i) (λ z _. lucky_done (fine (core_of z)))

    pub staged_bytes_goes : (t : ℕ) (s : Store F P H) (g : Got R) (o : Option R) → Goes s (staged_bytes c t s g o)
    staged_bytes_goes t s g None = unfilled_goes s t _
    staged_bytes_goes t s g (Some r) = lucky_try (λ ok. lucky_if ok (λ _. staged_image_goes t s g (image_of c s t r)) (λ _. unfilled_goes s t None))

    pub end_goes : (before : ℕ) (s : Store F P H) → Goes s (noted_end c before s)
    end_goes before s = asks_lucky (ended_asks c (λ z. Fine (core_of s) (core_of z)) (λ z t f. f) before s (fine (core_of s)))

    pub second_ended_goes : (s : Store F P H) (d : Device F P H) (t : ℕ) (origin : Origin) (done : Bool) → Fine (core_of s) (core_of d.store) →
        DeviceGoes s (second_ended c d t origin done)
    second_ended_goes s d t (OfCommand bypass e) done f = ended_by d.history.running d.chain
      where
        ended_by : (o : Option OpenEntry) (k : Option ChainState) → DeviceGoes s (command_ended c d t o k done)
        ended_by (Some o) (Some chain) =
            lucky_done (subst (λ (x : Store F P H). Fine (core_of s) (core_of x))
            (sym (turned_same d o.path (second_turn c chain done).chain (second_turn c chain done).came)) f)
        ended_by (Some o) None = lucky_done f
        ended_by None k = lucky_done f
    second_ended_goes s d t (OfCut bypass) done f = lucky_done f
    second_ended_goes s d t OfBackground done f = lucky_done f
