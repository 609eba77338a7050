-- What calls no volume and tells the keeper nothing: one walk of how an event begins and ends, of the choice of a write, of what a write
-- that is done leaves and of what a miss does with its bytes, for whatever the changes of the store keep.
use Rattle.std.proofs.Common.{◌≡◌, ℕ, zero, suc, Bool, true, false, Option, Some, None, is_some, refl}
use Rattle.std.specs.Prelude.{◌==◌, ◌&&◌, if◌then◌else◌}
use Rattle.ckd_types.specs.declared.parameters.Mode.{Mode}
use Rattle.ckd_types.specs.declared.paths.Side.{Side}
use Rattle.track_image.specs.Image.{Image}
use Rattle.device_outside.specs.declared.port.SlotGrant.{SlotGrant}
use Rattle.device_outside.specs.declared.port.SlotGrant.TheVariants as grants
use Rattle.device_outside.specs.Interaction.{Interaction, Done, Try, Ask, and_then}
use Rattle.device_outside.specs.Pool.{Call, SetModified, TellWaiting, WantFrame, AnswerTo}
use Rattle.device_defs.specs.Contents.{Contents}
use Rattle.device_defs.specs.declared.usage.Usage.{Usage}
use Rattle.device_defs.specs.Choosing as G
use Rattle.device_defs.specs.Choosing.{slot_by, fast_by, may_be_fast, fast_or_through, choose_loose, choose_firm, choose}
use Rattle.device_defs.specs.Image as I
use Rattle.device_defs.specs.Image.{Got, ahead, loads, filled, loaded, delivered, missed}
use Rattle.device_defs.specs.Losses.{slot_in}
use Rattle.device_defs.specs.Memory.{tried}
use Rattle.device_defs.specs.Owed as O
use Rattle.device_defs.specs.Owed.{is_clean, is_modified, heard, hear, freed_told, settles_debt, is_owed, track_told, all_told, waiting_count, noted_end}
use Rattle.device_defs.specs.Store.{Store, no_debt, tracks_of, frame_at, patch_at, is_loose, owed_at, with_frame, with_patch, with_owed}
use Rattle.device_defs.specs.Writing as V
use Rattle.device_defs.specs.Writing.{slot_freed, write_done}
use Rattle.device_laws.proofs.Always.{Always, always_done, always_try, always_ask}
use Rattle.device_laws.proofs.Based.{Base, Hushed, Any, Based, based_done, based_try, based_ask}
use Rattle.device_laws.proofs.Had.{Had, had_done, had_try, had_ask}
use Rattle.device_laws.proofs.Lucky.{Lucky, lucky_done, lucky_try, lucky_ask}

-- any call but those that tell how many tracks wait, and but those that want a frame
abbrev pub Sated : Call → Type 0
Sated (TellWaiting d n) = ⊥
Sated (WantFrame d t) = ⊥
Sated call = Unit {0}

sated_hushed : (call : Call) → Sated call → Hushed call
sated_hushed (TellWaiting d n) m = m
sated_hushed call m = tt

-- it makes only such calls of the pool, and no others but for memory, and q holds behind them
pub data AsksPool {R I S A : Type 0} (may : Call → Type 0) (q : S → A → Type 0) : Interaction R I S A → Type 0 where
  asks_done : {s : S} {a : A} → q s a → AsksPool may q (Done s a)
  asks_try : {k : Bool → Interaction R I S A} → ((ok : Bool) → AsksPool may q (k ok)) → AsksPool may q (Try k)
  asks_ask : {call : Call} {k : AnswerTo call → Interaction R I S A} → may call → ((a : AnswerTo call) → AsksPool may q (k a)) →
      AsksPool may q (Ask call k)

asks_then : {R I S T A B : Type 0} {may : Call → Type 0} {p : S → A → Type 0} {q : T → B → Type 0} {i : Interaction R I S A}
    (f : S → A → Interaction R I T B) → AsksPool may p i → ((s : S) (a : A) → p s a → AsksPool may q (f s a)) → AsksPool may q (and_then i f)
asks_then f (asks_done x) w = w _ _ x
asks_then f (asks_try x) w = asks_try (λ ok. asks_then f (x ok) w)
asks_then f (asks_ask m x) w = asks_ask m (λ a. asks_then f (x a) w)

asks_if : {R I S A : Type 0} {may : Call → Type 0} {q : S → A → Type 0} (b : Bool) {i j : Interaction R I S A} → AsksPool may q i → AsksPool may q j →
    AsksPool may q (if b then i else j)
asks_if true x y = x
asks_if false x y = y

asks_tried : {R I S A : Type 0} {may : Call → Type 0} {q : S → Option A → Type 0} (s : S) (i : Interaction R I S (Option A)) → q s None →
    AsksPool may q i → AsksPool may q (tried s i)
asks_tried s i f x = asks_try (λ ok. asks_if ok x (asks_done f))

asks_more : {R I S A : Type 0} {may other : Call → Type 0} {q : S → A → Type 0} {i : Interaction R I S A} →
    ((call : Call) → may call → other call) → AsksPool may q i → AsksPool other q i
asks_more more (asks_done x) = asks_done x
asks_more more (asks_try x) = asks_try (λ ok. asks_more more (x ok))
asks_more more (asks_ask {call = call} m x) = asks_ask (more call m) (λ a. asks_more more (x a))

pub asks_hushed : {R I S A : Type 0} {q : S → A → Type 0} {i : Interaction R I S A} → AsksPool Sated q i → AsksPool Hushed q i
asks_hushed x = asks_more sated_hushed x

-- so much the other walks of an interaction say of it
module _ {R I S A : Type 0} {may : Call → Type 0} {q : S → A → Type 0} where
  pub asks_always : {i : Interaction R I S A} → AsksPool may q i → Always i q
  asks_always (asks_done x) = always_done x
  asks_always (asks_try x) = always_try (λ ok. asks_always (x ok))
  asks_always (asks_ask m x) = always_ask (λ a. asks_always (x a))

  pub asks_lucky : {i : Interaction R I S A} → AsksPool may q i → Lucky q i
  asks_lucky (asks_done x) = lucky_done x
  asks_lucky (asks_try x) = lucky_try (λ ok. asks_lucky (x ok))
  asks_lucky (asks_ask m x) = lucky_ask (λ a. asks_lucky (x a))

  pub asks_had : {i : Interaction R I S A} → AsksPool may q i → Had i q
  asks_had (asks_done x) = had_done x
  asks_had (asks_try x) = had_try (asks_had (x true))
  asks_had (asks_ask m x) = had_ask (λ a. asks_had (x a))

pub asks_based : {R S A : Type 0} {base : S → Base} {may : Call → Type 0} {b : Base} {i : Interaction R Image S A} →
    AsksPool may (λ s a. base s ≡ b) i → Based base may b i
asks_based (asks_done e) = based_done e
asks_based (asks_try x) = based_try (λ ok. asks_based (x ok))
asks_based (asks_ask m x) = based_ask m (λ a. asks_based (x a))

module _ {F P H R : Type 0} (c : Contents F P H R) (Q : Store F P H → Type 0) where
  abbrev pub Asks : {A : Type 0} → (Call → Type 0) → Interaction R Image (Store F P H) A → Type 0
  Asks may i = AsksPool may (λ z _. Q z) i

  -- the notices: a clean frame is dropped
  module _ (drops : (z : Store F P H) (t : ℕ) → is_clean c (frame_at z t) ≡ true → Q z → Q (with_frame z t None)) where
    heard_asks : (n : ℕ) (s : Store F P H) (note : Option ℕ) → Q s → ((z : Store F P H) → Q z → Asks Sated (hear c n z)) →
        Asks Sated (heard c (hear c n) s note)
    heard_asks n s None f more = asks_done f
    heard_asks n s (Some t) f more = by_clean (is_clean c (frame_at s t)) refl
      where
        by_clean : (b : Bool) → is_clean c (frame_at s t) ≡ b → Asks Sated (hear c n (if b then with_frame s t None else s))
        by_clean true e = more (with_frame s t None) (drops s t e f)
        by_clean false e = more s f

    pub hear_asks : (n : ℕ) (s : Store F P H) → Q s → Asks Sated (hear c n s)
    unfolding O.hear
    hear_asks zero s f = asks_done f
    hear_asks (suc n) s f = asks_ask tt (λ note. heard_asks n s note f (hear_asks n))

  -- what is told at the end: a debt is settled
  module _ (settles : (z : Store F P H) (t : ℕ) → Q z → Q (with_owed z t no_debt)) where
    freed_asks : (s : Store F P H) (o : Option ℕ) → Q s → Asks Sated (freed_told c s o)
    freed_asks s None f = asks_done f
    freed_asks s (Some slot) f = asks_ask tt (λ _. asks_done f)

    debt_asks : (t : ℕ) (s : Store F P H) → Q s → Asks Sated (settles_debt c t s)
    debt_asks t s f =
        asks_then _ (asks_if ((owed_at s t).modified && is_modified c (frame_at s t)) (asks_ask tt (λ _. asks_done f)) (asks_done f))
        (λ z _ g. asks_then _ (asks_if (owed_at z t).dropped (asks_ask tt (λ _. asks_done g)) (asks_done g))
        (λ y _ h. asks_then _ (freed_asks y (owed_at y t).freed h) (λ x _ k. asks_done (settles x t k))))

    pub told_asks : (n : ℕ) (s : Store F P H) → Q s → Asks Sated (all_told c n s)
    unfolding O.all_told
    told_asks zero s f = asks_done f
    told_asks (suc n) s f =
        asks_then (λ z _. track_told c n z) (told_asks n s f) (λ z _ g. asks_if (is_owed c (owed_at z n)) (debt_asks n z g) (asks_done g))

    pub ended_asks : (before : ℕ) (s : Store F P H) → Q s → Asks Any (noted_end c before s)
    ended_asks before s f =
        asks_then _ (asks_more (λ call m. tt) (told_asks (tracks_of s) s f))
        (λ z _ g. asks_if (waiting_count c z == before) (asks_done g) (asks_ask tt (λ _. asks_done g)))

  -- where a write goes
  slot_asks : (s : Store F P H) (t : ℕ) (g : SlotGrant) → Q s → Asks Sated (slot_by c s t g)
  slot_asks s t (grants.Given slot) f = asks_ask tt (λ listed. asks_if listed (asks_done f) (asks_ask tt (λ _. asks_done f)))
  slot_asks s t grants.Denied f = asks_done f
  slot_asks s t grants.Down f = asks_done f

  fast_asks : (s : Store F P H) (t : ℕ) (patched : Bool) → Q s → Asks Sated (fast_by c s t patched)
  fast_asks s t patched f = asks_if patched (asks_ask tt (λ listed. asks_done f)) (asks_ask tt (λ g. slot_asks s t g f))

  through_asks : (s : Store F P H) (u : Usage) (t : ℕ) → Q s → Asks Sated (fast_or_through c s u t)
  through_asks s u t f = asks_if (may_be_fast c s u t) (fast_asks s t (is_some (patch_at s t)) f) (asks_done f)

  loose_asks : (s : Store F P H) (u : Usage) (t : ℕ) → Q s → Asks Sated (choose_loose c s u t)
  loose_asks s u t f = asks_if u.provisional (asks_ask tt (λ listed. asks_done f)) (asks_done f)

  firm_asks : (s : Store F P H) (u : Usage) (t : ℕ) → Q s → Asks Sated (choose_firm c s u t)
  firm_asks s u t f =
      asks_if (u.provisional && is_clean c (frame_at s t)) (asks_ask tt (λ listed. asks_if listed (asks_done f) (through_asks s u t f)))
      (through_asks s u t f)

  pub choose_asks : (s : Store F P H) (u : Usage) (t : ℕ) → Q s → Asks Sated (choose c s u t)
  unfolding G.choose
  choose_asks s u t f = asks_if (is_loose s t) (loose_asks s u t f) (firm_asks s u t f)

  -- a write is done: its frame is clean or gone, and so is its patch
  module _ (frames : (z : Store F P H) (t : ℕ) (o : Option F) → Q z → Q (with_frame z t o))
      (patches : (z : Store F P H) (t : ℕ) → Q z → Q (with_patch z t None)) where
    unpatched_asks : (s : Store F P H) (t : ℕ) (o : Option ℕ) → Q s → Asks Sated (slot_freed c s t o)
    unpatched_asks s t None f = asks_done f
    unpatched_asks s t (Some slot) f = asks_ask tt (λ _. asks_done (patches s t f))

    pub done_asks : (s : Store F P H) (t : ℕ) (i : Image) (bypass : Bool) → Q s → Asks Sated (write_done c s t i bypass)
    unfolding V.write_done
    done_asks s t i bypass f =
        asks_if (is_some (frame_at s t))
        (asks_if bypass (asks_ask tt (λ _. unpatched_asks (with_frame s t None) t (slot_in c (patch_at s t)) (frames s t None f)))
        (asks_ask tt (λ _. unpatched_asks (with_frame s t (Some (c.frame i false))) t (slot_in c (patch_at s t)) (frames s t (Some (c.frame i false)) f))))
        (unpatched_asks s t (slot_in c (patch_at s t)) f)

  -- an image becomes a frame, which is modified where a patch is held
  module _ (fills : (z : Store F P H) (t : ℕ) (i : Image) (patched : Bool) → is_some (patch_at z t) ≡ patched → Q z →
      Q (with_frame z t (Some (c.frame i patched)))) where
    pub filled_asks : (s : Store F P H) (t : ℕ) (i : Image) → Q s → Asks Sated (filled c s t i)
    filled_asks s t i f = by_patch (is_some (patch_at s t)) refl
      where
        by_patch : (b : Bool) → is_some (patch_at s t) ≡ b → Asks Sated (if b then Ask (SetModified s.device t) (λ _. Done (I.framed c s t i true) (tt {0}))
            else Done (I.framed c s t i false) (tt {0}))
        by_patch true e = asks_ask tt (λ _. asks_done (fills s t i true e f))
        by_patch false e = asks_done (fills s t i false e f)

    -- what a miss does with its bytes, where what it queues keeps it too
    module _ (queues : (u : Usage) (z : Store F P H) (t : ℕ) → Q z → Q (ahead u z t)) where
      granted_asks : (s : Store F P H) (t : ℕ) (i : Image) (given : Bool) → Q s → Asks Hushed (I.granted c s t i given)
      granted_asks s t i given f = asks_if given (asks_then _ (asks_hushed (filled_asks s t i f)) (λ z _ g. asks_done g)) (asks_done f)

      loaded_asks : (s : Store F P H) (t : ℕ) (i : Image) (mode : Mode) → Q s → Asks Hushed (loaded c s t i mode)
      loaded_asks s t i mode f = asks_if (loads mode) (asks_tried s _ f (asks_ask tt (λ given. granted_asks s t i given f))) (asks_done f)

      delivered_asks : (u : Usage) (t : ℕ) (side : Side) (s : Store F P H) (o : Option Image) → Q s → Asks Hushed (delivered c u t side s o)
      delivered_asks u t side s None f = asks_done f
      delivered_asks u t side s (Some i) f = loaded_asks (ahead u s t) t i u.mode (queues u s t f)

      pub missed_asks : (u : Usage) (t : ℕ) (s : Store F P H) (g : Got R) (o : Option R) → Q s → Asks Hushed (missed c u t s g o)
      missed_asks u t s g None f = asks_done f
      missed_asks u t s g (Some r) f = asks_tried s _ f (delivered_asks u t g.side s (I.image_of c s t r) f)
