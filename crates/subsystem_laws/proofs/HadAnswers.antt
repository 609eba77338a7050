-- What is answered where memory is had, whatever else is: an image, a write, a command from track to track, and work in the background.
use Rattle.std.proofs.Common.{◌≡◌, ◌<◌, ℕ, zero, suc, Bool, true, false, List, [], ◌∷◌, Option, Some, None, is_some, refl}
use Rattle.std.specs.Prelude.{IfSome, ◌||◌, if◌then◌else◌}
use Rattle.ckd_types.specs.declared.parameters.Mode.{Mode}
use Rattle.ckd_types.specs.declared.paths.Side.{Side}
use Rattle.ckd_types.specs.declared.record.Edit.{Edit}
use Rattle.ckd_types.specs.Parameters.{is_bypass}
use Rattle.ckd_chain.specs.declared.progress.Progress.{Progress}
use Rattle.ckd_chain.specs.declared.progress.Progress.TheVariants as progresses
use Rattle.ckd_chain.specs.declared.progress.Settled.{Settled}
use Rattle.ckd_chain.specs.declared.progress.Settled.TheVariants.{Equipment, DataCheck}
use Rattle.ckd_chain.specs.State.{ChainState}
use Rattle.ckd_chain.specs.Steps.{stepped}
use Rattle.ckd_types.specs.declared.channel.CommandEnd.{CommandEnd}
use Rattle.track_image.specs.Image.{Image, edited_image}
use Rattle.track_table.specs.Tracks.{least}
use Rattle.device_outside.specs.Interaction.{Interaction}
use Rattle.device_defs.specs.declared.answers.Choice.{Choice}
use Rattle.device_defs.specs.declared.answers.Did.{Did}
use Rattle.device_defs.specs.declared.answers.Did.TheVariants as dids
use Rattle.device_defs.specs.declared.answers.Took.{Took}
use Rattle.device_defs.specs.declared.answers.Took.TheVariants.{Whole, Opened, Unwritten}
use Rattle.device_defs.specs.declared.usage.Usage.{Usage}
use Rattle.device_defs.specs.Background as B
use Rattle.device_defs.specs.Background.{other, did, copies_to, to_copy, to_recover, to_destage, is_destaged, saved_by, saved, recovered_image, recovered_bytes, recover, copied, copy_read, copy_by, staged_image, staged_bytes, stage, destage_first, stage_first, copy_first, recover_first, work}
use Rattle.device_defs.specs.Choosing.{choose}
use Rattle.device_defs.specs.Command as N
use Rattle.device_defs.specs.Command.{Went, Over, On, came_of_write, went_by, looked, look, goes_on, follow}
use Rattle.device_defs.specs.Contents.{Contents}
use Rattle.device_defs.specs.Editing as E
use Rattle.device_defs.specs.Editing.{write_by, written, is_given, write}
use Rattle.device_defs.specs.Image as I
use Rattle.device_defs.specs.Image.{Imaged, Has, NoBytes, BadTrack, Got, ahead, loads, loaded, delivered, filled, missed, miss, image_by, image, image_of, level_bytes}
use Rattle.device_defs.specs.Losses.{call_failed, framed_image}
use Rattle.device_defs.specs.Memory.{had_by}
use Rattle.device_defs.specs.Outcomes.{Turn, ends_with, checks, wrote_turn, usage_of}
use Rattle.device_defs.specs.Owed.{waits}
use Rattle.device_defs.specs.Store.{OfBackground, Store, tracks_of, frame_at, is_lost, some_up, with_frame}
use Rattle.device_defs.specs.Writing.{firm_first, write_first, write_done, write_opened}
use Rattle.device_laws.proofs.Had.{Had, had_done, had_try, had_ask, had_read, had_write, had_tell, had_if, had_then}
use Rattle.device_laws.proofs.KeptEvents.{always_any}
use Rattle.device_laws.proofs.PlainEvents.{had_always}
use Rattle.device_laws.proofs.Working.{least_found}

pub any_had : {R I S A : Type 0} (i : Interaction R I S A) → Had i (λ s a. Unit {0})
any_had i = had_always (always_any i)

-- it has an answer, of which this is so
abbrev pub Says : {X : Type 0} → (X → Type 0) → Option X → Type 0
Says q None = ⊥
Says q (Some x) = q x

abbrev pub Answers : {X : Type 0} → Option X → Type 0
Answers None = ⊥
Answers (Some x) = Unit {0}

-- what is so of chains along a command, each with the track that it needs, and of what the command comes out with
pub record IsAlong (In : ChainState → ℕ → Type 0) (out : Turn → Type 0) : Type 0 where
  pub checked : (chain : ChainState) (t : ℕ) (fault : Settled) → In chain t → out (checks chain fault)
  pub ended : (chain : ChainState) (t : ℕ) (i : Image) (e : CommandEnd) → In chain t → (stepped chain (Some i)).progress ≡ progresses.Ended e →
      out (ends_with (stepped chain (Some i)).chain e)
  pub needs : (chain : ChainState) (t : ℕ) (i : Image) (q : ℕ) → In chain t → (stepped chain (Some i)).progress ≡ progresses.Need q →
      In (stepped chain (Some i)).chain q
  pub wrote : (chain : ChainState) (t : ℕ) (i : Image) (took : Took) → In chain t → out (wrote_turn (stepped chain (Some i)).chain t took)
  pub refused : (chain : ChainState) (t : ℕ) (i : Image) → In chain t → out (checks (stepped chain (Some i)).chain Equipment)

-- what is so of each answer of work in the background, by the track that it came to
pub record IsTold (q : Did → Type 0) (T : ℕ → Type 0) : Type 0 where
  pub nothing : q dids.Nothing
  pub fault : (side : Side) → q (dids.Fault side)
  pub bad : (side : Side) → q (dids.BadBytes side)
  pub recovered : (t : ℕ) → T t → q (dids.Recovered t)
  pub half : (t : ℕ) → T t → q (dids.Half t)
  pub copied : (t : ℕ) → T t → q (dids.Copied t)
  pub staged : (t : ℕ) → T t → q (dids.Staged t)
  pub skipped : (t : ℕ) → T t → q (dids.Skipped t)
  pub destaged : (t : ℕ) → T t → q (dids.Destaged t)

-- of the first one that is queued
abbrev pub FirstIs : (ℕ → Type 0) → List ℕ → Type 0
FirstIs T [] = Unit {0}
FirstIs T (t ∷ ts) = T t

module _ {F P H R : Type 0} (c : Contents F P H R) where
  abbrev Given : {X : Type 0} → Interaction R Image (Store F P H) (Option X) → Type 0
  Given i = Had i (λ z a. Answers a)

  -- Images

  loaded_answers : (s : Store F P H) (t : ℕ) (i : Image) (mode : Mode) → Given (loaded c s t i mode)
  loaded_answers s t i mode =
      had_if (loads mode)
      (λ _. had_try (had_ask (λ given. had_if given (λ _. had_then (any_had (filled c s t i)) (λ z _ _. had_done tt)) (λ _. had_done tt))))
      (λ _. had_done tt)

  delivered_answers : (u : Usage) (t : ℕ) (side : Side) (s : Store F P H) (o : Option Image) → Given (delivered c u t side s o)
  delivered_answers u t side s None = had_done tt
  delivered_answers u t side s (Some i) = loaded_answers (ahead u s t) t i u.mode

  missed_answers : (u : Usage) (t : ℕ) (s : Store F P H) (got : Got R) (o : Option R) → Given (missed c u t s got o)
  missed_answers u t s got None = had_done tt
  missed_answers u t s got (Some r) = had_try (delivered_answers u t got.side s (image_of c s t r))

  miss_answers : (s : Store F P H) (u : Usage) (t : ℕ) → Given (miss c s u t)
  miss_answers s u t = had_then (any_had (level_bytes c s t)) (λ z got _. missed_answers u t z got got.bytes)

  by_frame : (s : Store F P H) (u : Usage) (t : ℕ) (o : Option F) → Given (image_by c s u t o)
  by_frame s u t None = miss_answers s u t
  by_frame s u t (Some f) =
      had_if (c.modified f) (λ _. had_done tt)
      (λ _. had_if (is_bypass u.mode) (λ _. miss_answers s u t)
      (λ _. had_ask (λ listed. had_if listed (λ _. had_done tt) (λ _. miss_answers (with_frame s t None) u t))))

  pub image_answers : (s : Store F P H) (u : Usage) (t : ℕ) → Given (image c s u t)
  unfolding I.image
  image_answers s u t = by_frame s u t (frame_at s t)

  -- Writes

  written_answers : (s : Store F P H) (u : Usage) (first t : ℕ) (i : Image) (e : Edit) (choice : Choice) → Given (written c s u first t i e choice)
  written_answers s u first t i e choice = had_then (any_had (write_by c u first t (edited_image e i) e s choice)) (λ z _ _. had_done tt)

  pub write_answers : (s : Store F P H) (u : Usage) (first t : ℕ) (i : Image) (e : Edit) → Given (write c s u first t i e)
  unfolding E.write
  write_answers s u first t i e =
      had_try (had_then (any_had (choose c s u t))
      (λ z choice _. had_if (is_given c z choice) (λ _. had_tell (written_answers z u first t i e choice))
      (λ _. written_answers z u first t i e choice)))

  -- A command from track to track

  module _ {In : ChainState → ℕ → Type 0} {out : Turn → Type 0} (along : IsAlong In out) where
    abbrev pub WentOn : Went → Type 0
    WentOn (Over turn) = out turn
    WentOn (On chain q) = In chain q

    abbrev Goes : Interaction R Image (Store F P H) (Option Went) → Type 0
    Goes i = Had i (λ z a. Says WentOn a)

    wrote_says : (chain : ChainState) (t : ℕ) (i : Image) → In chain t → (s : Store F P H) (o : Option Took) → Answers o →
        Goes (had_by (came_of_write c (stepped chain (Some i)).chain t) s o)
    wrote_says chain t i on s (Some took) h = had_done (along.wrote chain t i took on)
    wrote_says chain t i on s None h = absurd h

    went_says : (u : Usage) (first t : ℕ) (s : Store F P H) (i : Image) (chain : ChainState) → In chain t → (p : Progress) →
        (stepped chain (Some i)).progress ≡ p → Goes (went_by c u first t s i (stepped chain (Some i)).chain p)
    went_says u first t s i chain on (progresses.Ended e) is = had_done (along.ended chain t i e on is)
    went_says u first t s i chain on (progresses.Need q) is = had_done (along.needs chain t i q on is)
    went_says u first t s i chain on (progresses.Write q e) is =
        had_then (write_answers s u first t i e) (λ z o h. wrote_says chain t i on z o h)
    went_says u first t s i chain on (progresses.Local act) is = had_done (along.refused chain t i on)

    looked_says : (chain : ChainState) (first t : ℕ) → In chain t → (s : Store F P H) (o : Option Imaged) → Answers o →
        Goes (had_by (looked c chain first t) s o)
    looked_says chain first t on s None h = absurd h
    looked_says chain first t on s (Some (Has i)) h = had_try (went_says (usage_of chain) first t s i chain on (stepped chain (Some i)).progress refl)
    looked_says chain first t on s (Some (NoBytes fault)) h = had_done (along.checked chain t Equipment on)
    looked_says chain first t on s (Some (BadTrack side)) h = had_done (along.checked chain t DataCheck on)

    look_says : (chain : ChainState) (first t : ℕ) (s : Store F P H) → In chain t → Goes (look c chain first t s)
    unfolding N.look
    look_says chain first t s on =
        had_if (is_lost s t) (λ _. had_done (along.checked chain t Equipment on))
        (λ _. had_then (image_answers s (usage_of chain) t) (λ z o h. looked_says chain first t on z o h))

    abbrev Follows : ℕ → ℕ → Type 0
    Follows n first = (chain : ChainState) (t : ℕ) (s : Store F P H) → In chain t → Had (follow c n first chain t s) (λ z a. Says out a)

    further_says : (n first : ℕ) → Follows n first → (s : Store F P H) (o : Option Went) → Says WentOn o →
        Had (had_by (goes_on c (follow c n first)) s o) (λ z a. Says out a)
    further_says n first rest s None h = absurd h
    further_says n first rest s (Some (Over turn)) h = had_done h
    further_says n first rest s (Some (On chain q)) h = rest chain q s h

    pub follow_says : (n first : ℕ) → Follows n first
    unfolding N.follow
    follow_says zero first chain t s on = had_done (along.checked chain t Equipment on)
    follow_says (suc n) first chain t s on =
        had_then (look_says chain first t s on) (λ z o h. further_says n first (follow_says n first) z o h)

  -- Work in the background

  module _ {q : Did → Type 0} {T : ℕ → Type 0} (told : IsTold q T) where
    abbrev Does : Interaction R Image (Store F P H) (Option Did) → Type 0
    Does i = Had i (λ z a. Says q a)

    did_says : (f : Option Side) (d : Did) → q d → q (did f d)
    did_says (Some side) d k = told.fault side
    did_says None d k = k

    saved_by_says : (t : ℕ) (i : Image) (d : Did) (fault : Option Side) (was : Bool) (failed : Option Side) (s : Store F P H) (took : Took) → T t → q d →
        Had (saved_by c t i d fault was failed s took) (λ z e. q e)
    saved_by_says t i d fault was failed s Whole at k =
        had_then (any_had (write_done c s t i false)) (λ z _ _. had_done (did_says fault (did failed d) (did_says failed d k)))
    saved_by_says t i d fault was failed s Opened at k =
        had_then (any_had (write_opened c s t i OfBackground was)) (λ z _ _. had_done (did_says fault (dids.Half t) (told.half t at)))
    saved_by_says t i d fault was failed s Unwritten at k =
        had_done (did_says fault (did failed dids.Nothing) (did_says failed dids.Nothing told.nothing))

    saved_says : (s : Store F P H) (t : ℕ) (i : Image) (d : Did) (fault : Option Side) → T t → q d → Does (saved c s t i d fault)
    saved_says s t i d fault at k =
        had_try (had_then {p = λ (z : Store F P H) (e : Did). q e}
        (had_then (any_had (firm_first c s t))
        (λ z was _. had_then (any_had (write_first c z t (c.bytes i))) (λ y w _. saved_by_says t i d fault was w.fault y w.took at k)))
        (λ z e h. had_done h))

    recovered_image_says : (t : ℕ) (s : Store F P H) (g : Got R) (o : Option Image) → T t → Does (recovered_image c t s g o)
    recovered_image_says t s g None at = had_done (did_says g.fault (dids.BadBytes g.side) (told.bad g.side))
    recovered_image_says t s g (Some i) at = saved_says s t i (dids.Recovered t) g.fault at (told.recovered t at)

    recovered_bytes_says : (t : ℕ) (s : Store F P H) (g : Got R) (o : Option R) → T t → Does (recovered_bytes c t s g o)
    recovered_bytes_says t s g None at = had_done (did_says g.fault dids.Nothing told.nothing)
    recovered_bytes_says t s g (Some r) at = had_try (recovered_image_says t s g (image_of c s t r) at)

    recover_says : (s : Store F P H) (t : ℕ) (o : Option F) → T t → Does (recover c s t o)
    recover_says s t (Some f) at = saved_says s t (framed_image c s t (Some f)) (dids.Recovered t) None at (told.recovered t at)
    recover_says s t None at = had_then (any_had (level_bytes c s t)) (λ z g _. recovered_bytes_says t z g g.bytes at)

    copied_says : (t : ℕ) (side : Side) (s : Store F P H) (ok : Bool) → T t → Does (copied c t side s ok)
    copied_says t side s true at = had_done (told.copied t at)
    copied_says t side s false at = had_then (any_had (call_failed c s side None)) (λ z _ _. had_done (told.fault side))

    copy_read_says : (t : ℕ) (side : Side) (s : Store F P H) (o : Option R) → T t → Does (copy_read c t side s o)
    copy_read_says t side s None at = had_then (any_had (call_failed c s (other side) None)) (λ z _ _. had_done (told.fault (other side)))
    copy_read_says t side s (Some r) at = had_write (λ ok. copied_says t side _ ok at)

    copy_says : (s : Store F P H) (t : ℕ) (o : Option Side) → T t → Does (copy_by c s t o)
    copy_says s t None at = had_done told.nothing
    copy_says s t (Some side) at = had_read (λ got. copy_read_says t side _ got at)

    staged_image_says : (t : ℕ) (s : Store F P H) (g : Got R) (o : Option Image) → T t → Does (staged_image c t s g o)
    staged_image_says t s g None at = had_ask (λ _. had_done (did_says g.fault (dids.BadBytes g.side) (told.bad g.side)))
    staged_image_says t s g (Some i) at = had_then (any_had (filled c s t i)) (λ z _ _. had_done (did_says g.fault (dids.Staged t) (told.staged t at)))

    staged_bytes_says : (t : ℕ) (s : Store F P H) (g : Got R) (o : Option R) → T t → Does (staged_bytes c t s g o)
    staged_bytes_says t s g None at = had_ask (λ _. had_done (did_says g.fault dids.Nothing told.nothing))
    staged_bytes_says t s g (Some r) at = had_try (staged_image_says t s g (image_of c s t r) at)

    stage_says : (s : Store F P H) (t : ℕ) → T t → Does (stage c s t)
    stage_says s t at =
        had_if (is_some (frame_at s t) || is_lost s t) (λ _. had_done (told.skipped t at))
        (λ _. had_try (had_ask (λ given. had_if given
        (λ _. had_then (any_had (level_bytes c s t)) (λ z g _. staged_bytes_says t z g g.bytes at)) (λ _. had_done (told.skipped t at)))))

    module _ (s : Store F P H) (all : (t : ℕ) → t < tracks_of s → T t) where
      least_so : (p : ℕ → Bool) (o : Option ℕ) → least (tracks_of s) p ≡ o → IfSome o T
      least_so p (Some t) is = all t (least_found (tracks_of s) p t is).0
      least_so p None is = tt

      up_so : (b : Bool) (p : ℕ → Bool) → IfSome (if b then least (tracks_of s) p else None) T
      up_so true p = least_so p (least (tracks_of s) p) refl
      up_so false p = tt

      destage_says : (o : Option ℕ) → IfSome o T → Does (destage_first c s o)
      destage_says None at = had_done told.nothing
      destage_says (Some t) at = saved_says s t (framed_image c s t (frame_at s t)) (dids.Destaged t) None at (told.destaged t at)

      stage_first_says : (l : List ℕ) → FirstIs T l → Does (stage_first c s l)
      stage_first_says [] at = destage_says (to_destage c s) (up_so (some_up s) (is_destaged c s))
      stage_first_says (t ∷ ts) at = stage_says (record s { queue = ts }) t at

      copy_first_says : FirstIs T s.queue → (o : Option ℕ) → IfSome o T → Does (copy_first c s o)
      copy_first_says queued None at = stage_first_says s.queue queued
      copy_first_says queued (Some t) at = copy_says s t (copies_to s t) at

      recover_first_says : FirstIs T s.queue → (o : Option ℕ) → IfSome o T → Does (recover_first c s o)
      recover_first_says queued None at = copy_first_says queued (to_copy s) (least_so (λ t. is_some (copies_to s t)) (to_copy s) refl)
      recover_first_says queued (Some t) at = recover_says s t (frame_at s t) at

      pub work_says : FirstIs T s.queue → Does (work c s)
      unfolding B.work
      work_says queued = recover_first_says queued (to_recover c s) (up_so (some_up s) (waits c s))
