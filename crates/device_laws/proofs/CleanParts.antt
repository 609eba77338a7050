-- Over marks, where each read that doesn't fail delivers a track, no bytes are bad: no command ends with data check.
use Rattle.std.proofs.Common.{◌≡◌, zero, suc, ℕ, Bool, true, false, List, [], ◌∷◌, Option, Some, None, is_some, refl, ◌∙◌}
use Rattle.std.specs.Prelude.{if◌then◌else◌, ◌||◌}
use Rattle.ckd_chain.specs.declared.progress.Progress.{Progress}
use Rattle.ckd_chain.specs.declared.progress.Progress.TheVariants as progresses
use Rattle.ckd_chain.specs.declared.progress.Settled.TheVariants.{Equipment}
use Rattle.ckd_chain.specs.State.{ChainState}
use Rattle.ckd_chain.specs.Steps.{need_of, stepped}
use Rattle.ckd_types.specs.declared.parameters.Mode.{Mode}
use Rattle.ckd_types.specs.declared.paths.Side.{Side}
use Rattle.ckd_types.specs.declared.paths.Side.TheVariants as sides
use Rattle.ckd_types.specs.Parameters.{is_bypass}
use Rattle.plain_defs.specs.History.{OpenEntry, History, ended}
use Rattle.plain_device.specs.Acted.{settled_act, paths_behind}
use Rattle.track_image.specs.Image.{Image}
use Rattle.device_outside.specs.Interaction.{Interaction, Done, Try, Ask, Read, Write, Tell, and_then}
use Rattle.device_outside.specs.Keeper.{Message, ReplyTo}
use Rattle.device_outside.specs.Pool.{Call, AnswerTo}
use Rattle.device_defs.specs.declared.answers.Came.{Came}
use Rattle.device_defs.specs.declared.answers.Came.TheVariants.{Ends, Checks, HalfOpen}
use Rattle.device_defs.specs.declared.answers.Did.{Did}
use Rattle.device_defs.specs.declared.answers.Did.TheVariants as dids
use Rattle.device_defs.specs.declared.answers.Took.{Took}
use Rattle.device_defs.specs.declared.answers.Took.TheVariants.{Whole, Opened, Unwritten}
use Rattle.device_defs.specs.declared.usage.Usage.{Usage}
use Rattle.device_defs.specs.Background as B
use Rattle.device_defs.specs.Background.{
  did,
  other,
  copies_to,
  to_copy,
  to_recover,
  to_destage,
  saved_by,
  saving,
  saved,
  recovered_image,
  recovered_bytes,
  recover,
  copied,
  copy_read,
  copy_by,
  unfilled,
  staged_image,
  staged_bytes,
  stage,
  destage_first,
  stage_first,
  copy_first,
  recover_first,
  work,
}
use Rattle.device_defs.specs.Command as N
use Rattle.device_defs.specs.Command.{
  Went,
  Over,
  On,
  has_loss,
  came_of_write,
  went_by,
  looked,
  look,
  goes_on,
  follow,
  came_out,
  on_tracks,
  answered_by,
  command_at,
  command_by,
  command,
}
use Rattle.device_defs.specs.Contents.{by_plain}
use Rattle.device_defs.specs.Device.{with_store, event_begun, quiet_event, event}
use Rattle.device_defs.specs.Editing.{write}
use Rattle.device_defs.specs.Events as E
use Rattle.device_defs.specs.Events.{second_turn, command_ended, second_ended, second_of, second, background}
use Rattle.device_defs.specs.Excused.{is_data_check}
use Rattle.device_defs.specs.Image as I
use Rattle.device_defs.specs.Image.{
  Got,
  Imaged,
  Has,
  NoBytes,
  BadTrack,
  read_b,
  first_read,
  second_read,
  level_bytes,
  loads,
  ahead,
  filled,
  loaded,
  missed,
  miss,
  hit,
  clean_image,
  image_by,
  image,
}
use Rattle.device_defs.specs.Losses.{call_failed}
use Rattle.device_defs.specs.Marks.{MarksStore, MarksDevice}
use Rattle.device_defs.specs.Memory.{had_by}
use Rattle.device_defs.specs.Outcomes.{Turn, ends_with, settles, checks, wrote_turn, usage_of, sense_kept, program_over, turned_by}
use Rattle.device_defs.specs.Owed.{hear, waiting_count, noted_end as event_end}
use Rattle.device_defs.specs.Second.{second_part}
use Rattle.device_defs.specs.Store.{Origin, OfCommand, OfCut, OfBackground, HalfWrite, level_at, tracks_of, frame_at, is_lost, with_frame, plain_at}
use Rattle.device_defs.specs.Writing.{firm_first, write_first, write_done, write_opened}
use Rattle.device_laws.proofs.KeptHistories.{data_checks, ended_checks, checked_checks, acts_check}

-- q holds behind an interaction, whatever is answered, where no bytes are bad
pub data Clean {I S A : Type 0} (q : S → A → Type 0) : Interaction Bool I S A → Type 0 where
  clean_done : {s : S} {a : A} → q s a → Clean q (Done s a)
  clean_try : {k : Bool → Interaction Bool I S A} → ((ok : Bool) → Clean q (k ok)) → Clean q (Try k)
  clean_ask : {call : Call} {k : AnswerTo call → Interaction Bool I S A} → ((a : AnswerTo call) → Clean q (k a)) → Clean q (Ask call k)
  clean_read : {side : Side} {t : ℕ} {k : Option Bool → Interaction Bool I S A} → Clean q (k None) → Clean q (k (Some true)) → Clean q (Read side t k)
  clean_write : {side : Side} {t : ℕ} {r : Bool} {k : Bool → Interaction Bool I S A} → ((ok : Bool) → Clean q (k ok)) → Clean q (Write side t r k)
  clean_tell : {m : Message I} {k : ReplyTo m → Interaction Bool I S A} → ((r : ReplyTo m) → Clean q (k r)) → Clean q (Tell m k)

pub clean_any : {I S A : Type 0} (i : Interaction Bool I S A) → Clean (λ s a. Unit {0}) i
clean_any (Done s a) = clean_done tt
clean_any (Try k) = clean_try (λ ok. clean_any (k ok))
clean_any (Ask call k) = clean_ask (λ a. clean_any (k a))
clean_any (Read side t k) = clean_read (clean_any (k None)) (clean_any (k (Some true)))
clean_any (Write side t r k) = clean_write (λ ok. clean_any (k ok))
clean_any (Tell m k) = clean_tell (λ r. clean_any (k r))

pub clean_then : {I S T A B : Type 0} {p : S → A → Type 0} {q : T → B → Type 0} {i : Interaction Bool I S A} (f : S → A → Interaction Bool I T B) →
    Clean p i → ((s : S) (a : A) → p s a → Clean q (f s a)) → Clean q (and_then i f)
clean_then f (clean_done x) w = w _ _ x
clean_then f (clean_try x) w = clean_try (λ ok. clean_then f (x ok) w)
clean_then f (clean_ask x) w = clean_ask (λ a. clean_then f (x a) w)
clean_then f (clean_read x y) w = clean_read (clean_then f x w) (clean_then f y w)
clean_then f (clean_write x) w = clean_write (λ ok. clean_then f (x ok) w)
clean_then f (clean_tell x) w = clean_tell (λ r. clean_then f (x r) w)

pub clean_if : {I S A : Type 0} {q : S → A → Type 0} (b : Bool) {i j : Interaction Bool I S A} → Clean q i → Clean q j → Clean q (if b then i else j)
clean_if true x y = x
clean_if false x y = y

-- Images

abbrev OfTrack : Option Bool → Type 0
OfTrack None = Unit {0}
OfTrack (Some true) = Unit {0}
OfTrack (Some false) = ⊥

abbrev pub GotTrack : Got Bool → Type 0
GotTrack g = OfTrack g.bytes

abbrev pub NotBad : Option Imaged → Type 0
NotBad None = Unit {0}
NotBad (Some (Has i)) = Unit {0}
NotBad (Some (NoBytes fault)) = Unit {0}
NotBad (Some (BadTrack side)) = ⊥

abbrev Reads : Interaction Bool Image MarksStore (Got Bool) → Type 0
Reads i = Clean (λ s g. GotTrack g) i

abbrev Images : Interaction Bool Image MarksStore (Option Imaged) → Type 0
Images i = Clean (λ s a. NotBad a) i

read_b_clean : (s : MarksStore) (t : ℕ) (fault : Option Side) → Reads (read_b by_plain s t fault)
read_b_clean s t fault =
    clean_if (level_at s.b t)
    (clean_read (clean_then (λ z _. Done z _) (clean_any (call_failed by_plain (I.read_counted s false) sides.B None)) (λ z _ _. clean_done tt))
    (clean_done tt))
    (clean_done tt)

pub level_clean : (s : MarksStore) (t : ℕ) → Reads (level_bytes by_plain s t)
unfolding I.level_bytes
level_clean s t =
    clean_if (level_at s.a t)
    (clean_read
    (clean_then (λ z _. read_b by_plain z t (Some sides.A)) (clean_any (call_failed by_plain (I.read_counted s false) sides.A None))
    (λ z _ _. read_b_clean z t (Some sides.A)))
    (clean_done tt))
    (read_b_clean s t None)

granted_clean : (s : MarksStore) (t : ℕ) (i : Image) (given : Bool) → Images (I.granted by_plain s t i given)
granted_clean s t i given =
    clean_if given (clean_then (λ z _. Done z (Some (Has i))) (clean_any (filled by_plain s t i)) (λ z _ _. clean_done tt)) (clean_done tt)

loaded_clean : (s : MarksStore) (t : ℕ) (i : Image) (mode : Mode) → Images (loaded by_plain s t i mode)
loaded_clean s t i mode =
    clean_if (loads mode) (clean_try (λ ok. clean_if ok (clean_ask (λ given. granted_clean s t i given)) (clean_done tt))) (clean_done tt)

missed_clean : (u : Usage) (t : ℕ) (s : MarksStore) (g : Got Bool) (o : Option Bool) → OfTrack o → Images (missed by_plain u t s g o)
missed_clean u t s g None h = clean_done tt
missed_clean u t s g (Some true) h = clean_try (λ ok. clean_if ok (loaded_clean (ahead u s t) t _ u.mode) (clean_done tt))
missed_clean u t s g (Some false) h = absurd h

miss_clean : (s : MarksStore) (u : Usage) (t : ℕ) → Images (miss by_plain s u t)
miss_clean s u t = clean_then (λ z g. missed by_plain u t z g g.bytes) (level_clean s t) (λ z g h. missed_clean u t z g g.bytes h)

clean_frame : (s : MarksStore) (u : Usage) (t : ℕ) (f : Bool) → Images (clean_image by_plain s u t f)
clean_frame s u t f =
    clean_if (is_bypass u.mode) (miss_clean s u t)
    (clean_ask (λ listed. clean_if listed (clean_done tt) (miss_clean (with_frame s t None) u t)))

image_by_clean : (s : MarksStore) (u : Usage) (t : ℕ) (o : Option Bool) → Images (image_by by_plain s u t o)
image_by_clean s u t None = miss_clean s u t
image_by_clean s u t (Some f) = clean_if f (clean_done tt) (clean_frame s u t f)

pub image_clean : (s : MarksStore) (u : Usage) (t : ℕ) → Images (image by_plain s u t)
unfolding I.image
image_clean s u t = image_by_clean s u t (frame_at s t)

-- A command from track to track

abbrev pub NoCheck : Came → Type 0
NoCheck (Ends e) = Unit {0}
NoCheck (Checks e) = is_data_check e.sense ≡ false
NoCheck (HalfOpen t) = Unit {0}

abbrev WentWell : Option Went → Type 0
WentWell None = Unit {0}
WentWell (Some (Over turn)) = NoCheck turn.came
WentWell (Some (On chain t)) = Unit {0}

abbrev TurnedWell : Option Turn → Type 0
TurnedWell None = Unit {0}
TurnedWell (Some turn) = NoCheck turn.came

abbrev Walks : Interaction Bool Image MarksStore (Option Went) → Type 0
Walks i = Clean (λ s a. WentWell a) i

wrote_well : (chain : ChainState) (t : ℕ) (took : Took) → NoCheck (wrote_turn chain t took).came
wrote_well chain t Whole = tt
wrote_well chain t Opened = tt
wrote_well chain t Unwritten = refl

came_clean : (chain : ChainState) (t : ℕ) (s : MarksStore) (o : Option Took) → Walks (had_by (came_of_write by_plain chain t) s o)
came_clean chain t s (Some took) = clean_done (wrote_well chain t took)
came_clean chain t s None = clean_done tt

went_clean : (u : Usage) (first t : ℕ) (s : MarksStore) (i : Image) (chain : ChainState) (p : Progress) → Walks (went_by by_plain u first t s i chain p)
went_clean u first t s i chain (progresses.Ended e) = clean_done tt
went_clean u first t s i chain (progresses.Need q) = clean_done tt
went_clean u first t s i chain (progresses.Write q e) =
    clean_then (had_by (came_of_write by_plain chain t)) (clean_any (write by_plain s u first t i e)) (λ z o _. came_clean chain t z o)
went_clean u first t s i chain (progresses.Local act) = clean_done refl

looked_clean : (chain : ChainState) (first t : ℕ) (s : MarksStore) (o : Option Imaged) → NotBad o → Walks (had_by (looked by_plain chain first t) s o)
looked_clean chain first t s None h = clean_done tt
looked_clean chain first t s (Some (Has i)) h =
    clean_try (λ ok. clean_if ok (went_clean (usage_of chain) first t s i (stepped chain (Some i)).chain (stepped chain (Some i)).progress) (clean_done tt))
looked_clean chain first t s (Some (NoBytes fault)) h = clean_done refl
looked_clean chain first t s (Some (BadTrack side)) h = absurd h

look_clean : (chain : ChainState) (first t : ℕ) (s : MarksStore) → Walks (look by_plain chain first t s)
unfolding N.look
look_clean chain first t s =
    clean_if (is_lost s t) (clean_done refl)
    (clean_then (had_by (looked by_plain chain first t)) (image_clean s (usage_of chain) t) (λ z o h. looked_clean chain first t z o h))

next_clean : (next : ChainState → ℕ → MarksStore → Interaction Bool Image MarksStore (Option Turn)) →
    ((chain : ChainState) (t : ℕ) (s : MarksStore) → Clean (λ z a. TurnedWell a) (next chain t s)) → (s : MarksStore) (o : Option Went) → WentWell o →
    Clean (λ z a. TurnedWell a) (had_by (goes_on by_plain next) s o)
next_clean next more s None h = clean_done tt
next_clean next more s (Some (Over turn)) h = clean_done h
next_clean next more s (Some (On chain t)) h = more chain t s

pub follow_clean : (n first : ℕ) (chain : ChainState) (t : ℕ) (s : MarksStore) → Clean (λ z a. TurnedWell a) (follow by_plain n first chain t s)
unfolding N.follow
follow_clean zero first chain t s = clean_done refl
follow_clean (suc n) first chain t s =
    clean_then (had_by (goes_on by_plain (follow by_plain n first))) (look_clean chain first t s)
    (λ z o h. next_clean (follow by_plain n first) (λ k q y. follow_clean n first k q y) z o h)

-- The whole command: no data check is added to its journal

module _ (n : ℕ) where
  abbrev pub Holds : MarksDevice → Type 0
  Holds d = data_checks d.history ≡ n

  over_holds : (d : MarksDevice) (k : History) (chain : ChainState) (b : Bool) → data_checks k ≡ n →
      Holds (if b then program_over d k else record d { chain = Some chain; history = k })
  over_holds d k chain true e = e
  over_holds d k chain false e = e

  turned_holds : (d : MarksDevice) (path : ℕ) (chain : ChainState) (came : Came) → NoCheck came → Holds d → Holds (turned_by d path chain came)
  turned_holds d path chain (Ends e) h f =
      over_holds (sense_kept d path e) (ended d.history e) chain e.over (ended_checks d.history e d.history.running ∙ f)
  turned_holds d path chain (Checks e) h f = checked_checks d.history e d.history.running h ∙ f
  turned_holds d path chain (HalfOpen t) h f = f

  abbrev Leaves : {A : Type 0} → Interaction Bool Image MarksDevice A → Type 0
  Leaves i = Clean (λ d a. Holds d) i

  out_clean : (d : MarksDevice) (path : ℕ) (turn : Turn) → NoCheck turn.came → Holds d → Leaves (came_out by_plain d path turn)
  out_clean d path turn h f = clean_done (turned_holds d path turn.chain turn.came h f)

  on_clean : (d : MarksDevice) (path : ℕ) (chain : ChainState) (s : MarksStore) (o : Option Turn) → TurnedWell o → Holds d →
      Leaves (on_tracks by_plain d path chain s o)
  on_clean d path chain s (Some turn) h f = out_clean (with_store d s) path turn h (acts_check d.history s.acts ∙ f)
  on_clean d path chain s None h f = clean_done (acts_check d.history s.acts ∙ f)

  answered_clean : (d : MarksDevice) (path : ℕ) (chain : ChainState) (p : Progress) → Holds d → Leaves (answered_by by_plain d path chain p)
  answered_clean d path chain (progresses.Ended e) f = out_clean d path (ends_with chain e) tt f
  answered_clean d path chain (progresses.Local act) f =
      out_clean (record d { paths = paths_behind d.paths path act }) path (settles chain (settled_act d.store.geometry d.paths path act)) tt f
  answered_clean d path chain (progresses.Need q) f = out_clean d path (checks chain Equipment) refl f
  answered_clean d path chain (progresses.Write q e) f = out_clean d path (checks chain Equipment) refl f

  at_clean : (d : MarksDevice) (path : ℕ) (chain : ChainState) (o : Option ℕ) → Holds d → Leaves (command_at by_plain d path chain o)
  at_clean d path chain (Some t) f =
      clean_then (on_tracks by_plain d path chain) (follow_clean (tracks_of d.store) t chain t d.store) (λ s o h. on_clean d path chain s o h f)
  at_clean d path chain None f =
      clean_try (λ ok. clean_if ok (answered_clean d path (stepped chain None).chain (stepped chain None).progress f) (clean_done f))

  by_clean : (d : MarksDevice) (o : Option OpenEntry) (k : Option ChainState) → Holds d → Leaves (command_by by_plain d o k)
  by_clean d (Some o) (Some chain) f =
      clean_if (has_loss o.acts) (out_clean d o.path (checks chain Equipment) refl f) (at_clean d o.path chain (need_of chain) f)
  by_clean d (Some o) None f = clean_done f
  by_clean d None k f = clean_done f

  second_turn_well : (chain : ChainState) (done : Bool) → NoCheck (second_turn by_plain chain done).came
  second_turn_well chain true = tt
  second_turn_well chain false = refl

  command_ended_clean : (d : MarksDevice) (t : ℕ) (o : Option OpenEntry) (k : Option ChainState) (done : Bool) → Holds d →
      Leaves (command_ended by_plain d t o k done)
  command_ended_clean d t (Some o) (Some chain) done f =
      clean_done (turned_holds d o.path (second_turn by_plain chain done).chain (second_turn by_plain chain done).came (second_turn_well chain done) f)
  command_ended_clean d t (Some o) None done f = clean_done f
  command_ended_clean d t None k done f = clean_done f

  second_ended_clean : (d : MarksDevice) (t : ℕ) (origin : Origin) (done : Bool) → Holds d → Leaves (second_ended by_plain d t origin done)
  second_ended_clean d t (OfCommand bypass e) done f = command_ended_clean d t d.history.running d.chain done f
  second_ended_clean d t (OfCut bypass) done f = clean_done f
  second_ended_clean d t OfBackground done f = clean_done f

  second_of_clean : (d : MarksDevice) (o : Option (HalfWrite (Unit {0}))) → Holds d → Leaves (second_of by_plain d o)
  second_of_clean d (Some w) f =
      clean_then (λ s done. second_ended by_plain (with_store d s) w.track w.origin done) (clean_any (second_part by_plain d.store w))
      (λ s done _. second_ended_clean (with_store d s) w.track w.origin done (acts_check d.history s.acts ∙ f))
  second_of_clean d None f = clean_done f

-- Whole events, of whose device and answer q says nothing of the tracks

module _ {A : Type 0} (q : MarksDevice → A → Type 0) (stays : (d : MarksDevice) (s : MarksStore) (a : A) → q d a → q (record d { store = s }) a) where
  quiet_clean : (d : MarksDevice) (body : MarksDevice → Interaction Bool Image MarksDevice A) → Clean q (body (event_begun d)) →
      Clean q (quiet_event by_plain d body)
  quiet_clean d body x =
      clean_then _ x
      (λ y a f. clean_then (λ z _. Done (record y { store = z }) a) (clean_any (event_end by_plain (waiting_count by_plain d.store) y.store))
      (λ z _ _. clean_done (stays y z a f)))

  event_clean : (d : MarksDevice) (body : MarksDevice → Interaction Bool Image MarksDevice A) →
      ((s : MarksStore) → Clean q (body (record (event_begun d) { store = s }))) → Clean q (event by_plain d body)
  event_clean d body x =
      quiet_clean d (λ z. and_then (hear by_plain 960 z.store) (λ s _. body (record z { store = s })))
      (clean_then (λ s _. body (record (event_begun d) { store = s })) (clean_any (hear by_plain 960 (event_begun d).store)) (λ s _ _. x s))

pub command_clean : (d : MarksDevice) → Clean (λ e a. Holds (data_checks d.history) e) (command by_plain d)
unfolding N.command
command_clean d =
    clean_try (λ ok. clean_if ok
    (event_clean (λ e a. Holds (data_checks d.history) e) (λ e s a f. f) d (λ z. command_by by_plain z z.history.running z.chain)
    (λ s. by_clean (data_checks d.history) (record (event_begun d) { store = s }) d.history.running d.chain refl))
    (clean_done refl))

pub second_clean : (d : MarksDevice) → Clean (λ e a. Holds (data_checks d.history) e) (second by_plain d)
unfolding E.second
second_clean d =
    event_clean (λ e a. Holds (data_checks d.history) e) (λ e s a f. f) d (λ z. second_of by_plain z z.store.half)
    (λ s. second_of_clean (data_checks d.history) (record (event_begun d) { store = s }) s.half refl)

-- By itself

abbrev pub NoBadWork : Option Did → Type 0
NoBadWork None = Unit {0}
NoBadWork (Some (dids.BadBytes side)) = ⊥
NoBadWork (Some d) = Unit {0}

abbrev Works : Interaction Bool Image MarksStore (Option Did) → Type 0
Works i = Clean (λ z a. NoBadWork a) i

did_well : (fault : Option Side) (d : Did) → NoBadWork (Some d) → NoBadWork (Some (did fault d))
did_well None d h = h
did_well (Some side) d h = tt

abbrev SavesWell : Did → Type 0
SavesWell d = NoBadWork (Some d)

saved_by_clean : (t : ℕ) (i : Image) (d : Did) (fault : Option Side) (was_loose : Bool) (failed : Option Side) (s : MarksStore) (took : Took) → SavesWell d →
    Clean (λ z a. SavesWell a) (saved_by by_plain t i d fault was_loose failed s took)
saved_by_clean t i d fault was_loose failed s Whole h =
    clean_then (λ z _. Done z (did fault (did failed d))) (clean_any (write_done by_plain s t i false))
    (λ z _ _. clean_done (did_well fault (did failed d) (did_well failed d h)))
saved_by_clean t i d fault was_loose failed s Opened h =
    clean_then (λ z _. Done z (did fault (dids.Half t))) (clean_any (write_opened by_plain s t i OfBackground was_loose))
    (λ z _ _. clean_done (did_well fault (dids.Half t) tt))
saved_by_clean t i d fault was_loose failed s Unwritten h =
    clean_done (did_well fault (did failed dids.Nothing) (did_well failed dids.Nothing tt))

saved_clean : (s : MarksStore) (t : ℕ) (i : Image) (d : Did) (fault : Option Side) → SavesWell d → Works (saved by_plain s t i d fault)
saved_clean s t i d fault h =
    clean_try (λ ok. clean_if ok
    (clean_then {p = λ z a. SavesWell a} (λ z e. Done z (Some e))
    (clean_then (λ z was_loose. and_then (write_first by_plain z t (by_plain.bytes i)) (λ y w. saved_by by_plain t i d fault was_loose w.fault y w.took))
    (clean_any (firm_first by_plain s t))
    (λ z was_loose _. clean_then (λ y w. saved_by by_plain t i d fault was_loose w.fault y w.took) (clean_any (write_first by_plain z t (by_plain.bytes i)))
    (λ y w _. saved_by_clean t i d fault was_loose w.fault y w.took h)))
    (λ z e f. clean_done f))
    (clean_done tt))

recovered_bytes_clean : (t : ℕ) (s : MarksStore) (g : Got Bool) (o : Option Bool) → OfTrack o → Works (recovered_bytes by_plain t s g o)
recovered_bytes_clean t s g None h = clean_done (did_well g.fault dids.Nothing tt)
recovered_bytes_clean t s g (Some true) h = clean_try (λ ok. clean_if ok (saved_clean s t _ (dids.Recovered t) g.fault tt) (clean_done tt))
recovered_bytes_clean t s g (Some false) h = absurd h

recover_clean : (s : MarksStore) (t : ℕ) (o : Option Bool) → Works (recover by_plain s t o)
recover_clean s t (Some f) = saved_clean s t _ (dids.Recovered t) None tt
recover_clean s t None = clean_then (λ z g. recovered_bytes by_plain t z g g.bytes) (level_clean s t) (λ z g h. recovered_bytes_clean t z g g.bytes h)

copied_clean : (t : ℕ) (side : Side) (s : MarksStore) (ok : Bool) → Works (copied by_plain t side s ok)
copied_clean t side s true = clean_done tt
copied_clean t side s false = clean_then (λ z _. Done z _) (clean_any (call_failed by_plain s side None)) (λ z _ _. clean_done tt)

copy_read_clean : (t : ℕ) (side : Side) (s : MarksStore) (got : Option Bool) → Works (copy_read by_plain t side s got)
copy_read_clean t side s None = clean_then (λ z _. Done z _) (clean_any (call_failed by_plain s (other side) None)) (λ z _ _. clean_done tt)
copy_read_clean t side s (Some r) = clean_write (λ ok. copied_clean t side _ ok)

copy_clean : (s : MarksStore) (t : ℕ) (o : Option Side) → Works (copy_by by_plain s t o)
copy_clean s t None = clean_done tt
copy_clean s t (Some side) = clean_read (copy_read_clean t side _ None) (copy_read_clean t side _ (Some true))

unfilled_clean : (s : MarksStore) (t : ℕ) (d : Option Did) → NoBadWork d → Works (unfilled by_plain s t d)
unfilled_clean s t d h = clean_ask (λ _. clean_done h)

staged_bytes_clean : (t : ℕ) (s : MarksStore) (g : Got Bool) (o : Option Bool) → OfTrack o → Works (staged_bytes by_plain t s g o)
staged_bytes_clean t s g None h = unfilled_clean s t _ (did_well g.fault dids.Nothing tt)
staged_bytes_clean t s g (Some true) h =
    clean_try (λ ok. clean_if ok
    (clean_then (λ z _. Done z (Some (did g.fault (dids.Staged t)))) (clean_any (filled by_plain s t (plain_at s t)))
    (λ z _ _. clean_done (did_well g.fault (dids.Staged t) tt)))
    (unfilled_clean s t None tt))
staged_bytes_clean t s g (Some false) h = absurd h

stage_clean : (s : MarksStore) (t : ℕ) → Works (stage by_plain s t)
stage_clean s t =
    clean_if (is_some (frame_at s t) || is_lost s t) (clean_done tt)
    (clean_try (λ ok. clean_if ok
    (clean_ask (λ given. clean_if given
    (clean_then (λ z g. staged_bytes by_plain t z g g.bytes) (level_clean s t) (λ z g h. staged_bytes_clean t z g g.bytes h)) (clean_done tt)))
    (clean_done tt)))

destage_clean : (s : MarksStore) (o : Option ℕ) → Works (destage_first by_plain s o)
destage_clean s None = clean_done tt
destage_clean s (Some t) = saved_clean s t _ (dids.Destaged t) None tt

stage_first_clean : (s : MarksStore) (queue : List ℕ) → Works (stage_first by_plain s queue)
stage_first_clean s [] = destage_clean s (to_destage by_plain s)
stage_first_clean s (t ∷ ts) = stage_clean (record s { queue = ts }) t

copy_first_clean : (s : MarksStore) (o : Option ℕ) → Works (copy_first by_plain s o)
copy_first_clean s None = stage_first_clean s s.queue
copy_first_clean s (Some t) = copy_clean s t (copies_to s t)

recover_first_clean : (s : MarksStore) (o : Option ℕ) → Works (recover_first by_plain s o)
recover_first_clean s None = copy_first_clean s (to_copy s)
recover_first_clean s (Some t) = recover_clean s t (frame_at s t)

work_clean : (s : MarksStore) → Works (work by_plain s)
unfolding B.work
work_clean s = recover_first_clean s (to_recover by_plain s)

pub background_clean : (d : MarksDevice) → Clean (λ e a. NoBadWork a) (background by_plain d)
unfolding E.background
background_clean d =
    event_clean (λ e a. NoBadWork a) (λ e s a f. f) d (λ z. and_then (work by_plain z.store) (λ s did. Done (with_store z s) did))
    (λ s. clean_then (λ z did. Done (with_store (record (event_begun d) { store = s }) z) did) (work_clean s) (λ z did h. clean_done h))
