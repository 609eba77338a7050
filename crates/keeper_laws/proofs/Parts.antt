-- The parts of an event that tell a keeper of no edit keep a track that is calm.
use Rattle.std.proofs.Common.{◌≡◌, ℕ, zero, suc, Bool, true, false, Option, None, sym, subst}
use Rattle.track_image.specs.Image.{Image}
use Rattle.device_outside.specs.Interaction.{Interaction}
use Rattle.device_defs.specs.declared.usage.Usage.{Usage}
use Rattle.device_defs.specs.Contents.{by_plain}
use Rattle.device_defs.specs.Effects.{hardened}
use Rattle.device_defs.specs.Image.{Imaged, image}
use Rattle.device_defs.specs.Losses as L
use Rattle.device_defs.specs.Losses.{settled, stale_everywhere, all_firm_told, side_lost}
use Rattle.device_defs.specs.Marks.{MarksStore}
use Rattle.device_defs.specs.Owed.{hear, noted_end}
use Rattle.device_defs.specs.Store.{Origin, tracks_of, frame_at, owed_at, with_frame}
use Rattle.device_defs.specs.Writing.{write_second, write_done, cleaned, write_opened}
use Rattle.device_laws.proofs.PlainStores.{core_of}
use Rattle.device_laws.proofs.PlainWalks.{framed_same, everywhere_same, settled_holds, side_holds, opened_half}
use Rattle.device_laws.proofs.PoolWalks.{ended_asks}
use Rattle.subsystem_laws.specs.Looking.{is_written_at}
use Rattle.keeper_laws.proofs.Calm.{Watch, is_watched, watched_image, Keeps, hardened_keeps, half_keeps, image_is}
use Rattle.keeper_laws.proofs.FirmWalk.{IsSaying, ImageOf, hear_goes, image_has as image_goes, write_second_goes, done_goes}
use Rattle.keeper_laws.proofs.Firms.{firms_weaker, silent_of, says_of}
use Rattle.keeper_laws.proofs.Silent.{Silent, silent_done, silent_ask, silent_firm, silent_then, silent_if, asks_silent}

module _ (w : Watch) where
  abbrev pub On : MarksStore → Type 0
  On s = Keeps w (core_of s)

  pub on_core : (s z : MarksStore) → core_of z ≡ core_of s → On s → On z
  on_core s z e k = subst (Keeps w) (sym e) k

  -- it keeps it, and tells of no edit
  abbrev pub Stays : {X : Type 0} → Interaction Bool Image MarksStore X → Type 0
  Stays i = Silent (λ z _. On z) i

  pub frames_on : (s : MarksStore) (q : ℕ) (f : Option Bool) → On s → On (with_frame s q f)
  frames_on s q f k = on_core s (with_frame s q f) (framed_same s q f) k

  -- The end of an event

  pub ended_stays : (before : ℕ) (s : MarksStore) → On s → Stays (noted_end by_plain before s)
  ended_stays before s k = asks_silent (ended_asks by_plain On (λ z q x. x) before s k)

  -- A failed call

  pub told_stays : (n : ℕ) (s : MarksStore) → On s → Stays (all_firm_told by_plain n s)
  unfolding L.all_firm_told
  told_stays zero s k = silent_done k
  told_stays (suc n) s k =
      silent_then (λ z _. L.firm_told by_plain n z) (told_stays n s k)
      (λ z _ x. silent_if (owed_at z n).firm (λ _. silent_firm (silent_done x)) (λ _. silent_done x))

  pub settled_on : (s : MarksStore) (q : ℕ) → On s → On (settled by_plain s q)
  settled_on s q k = settled_holds (Keeps w) (hardened_keeps w) s q k

  pub calm : IsSaying ⊥ (λ (d : ℕ). Unit {0}) (λ (u : Unit {0}) t x. tt) (λ q i. is_watched w q ≡ true → i ≡ watched_image w) (λ h o u s. On s)
  calm = record {
    owned = λ h o u s k. tt;
    same = λ h o u s z e owed k. on_core s z e k;
    firm = λ h q u s off k. k;
    hardens = λ h q u s is k.
        on_core (hardened s q) (stale_everywhere (hardened s q) q) (everywhere_same (hardened s q) q) (hardened_keeps w (core_of s) q k is);
    settles = λ h q u s k. settled_on s q k;
    fails = λ h o u s side writing k.
        says_of (told_stays (tracks_of s) (side_lost by_plain s side writing) (side_holds (Keeps w) (hardened_keeps w) s side writing k)) u;
    pictures = λ h o u s q k on. image_is w s q k on;
  }

  -- What is asked of it

  pub hear_stays : (n : ℕ) (s : MarksStore) → On s → Stays (hear by_plain n s)
  hear_stays n s k = silent_of (hear_goes calm None None {v = tt} n s k)

  -- the image of the track is the plain one
  pub record Imaging (q : ℕ) (z : MarksStore) (a : Option Imaged) : Type 0 where
    pub on : On z
    pub image : ImageOf (λ t i. is_watched w t ≡ true → i ≡ watched_image w) q a

  pub image_has : (q : ℕ) (s : MarksStore) (usage : Usage) → On s → Silent (λ z a. Imaging q z a) (image by_plain s usage q)
  image_has q s usage k =
      silent_of {q = λ z a. Imaging q z a} (firms_weaker (image_goes calm None None q {v = tt} s usage k)
      (λ u z a y. record { on = y.on; image = y.image }))

  pub write_second_stays : (q : ℕ) (s : MarksStore) (r : Bool) → On s → Stays (write_second by_plain s q r)
  write_second_stays q s r k = silent_of (write_second_goes calm None q {v = tt} s r k)

  pub done_stays : (s : MarksStore) (q : ℕ) (i : Image) (bypass : Bool) → On s → Stays (write_done by_plain s q i bypass)
  done_stays s q i bypass k = silent_of (done_goes calm None None {v = tt} s q i bypass k)

  -- a half write is opened that isn't a command's at the track
  pub opened_stays : (s : MarksStore) (q : ℕ) (i : Image) (origin : Origin) (was : Bool) → On s →
      (w.device ≡ w.number → is_written_at (opened_half q origin) w.track ≡ false) → Stays (write_opened by_plain s q i origin was)
  opened_stays s q i origin was k off =
      let z = with_frame s q (cleaned by_plain (frame_at s q)) in
      silent_if was (λ _. silent_ask (λ _. silent_done (half_keeps w (core_of z) (opened_half q origin) (frames_on s q _ k) off)))
      (λ _. silent_done (half_keeps w (core_of s) (opened_half q origin) k off))
