-- The reads and writes of a command that goes from track to track, and of a whole one; and that a hit reads nothing.
use Rattle.std.proofs.Common.{◌≡◌, ◌≢◌, ◌≤◌, ℕ, zero, suc, Bool, true, false, not, Option, Some, None, refl, sym, ap, ◌∙◌, arith}
use Rattle.std.proofs.lemmas.List.{get_or-set_other}
use Rattle.std.proofs.Math.Nat.{suc-mul}
use Rattle.std.specs.Prelude.{if◌then◌else◌}
use Rattle.ckd_chain.specs.declared.progress.Progress.{Progress}
use Rattle.ckd_chain.specs.declared.progress.Progress.TheVariants as progresses
use Rattle.ckd_chain.specs.State.{ChainState}
use Rattle.ckd_chain.specs.Steps.{need_of, stepped}
use Rattle.plain_defs.specs.History.{OpenEntry}
use Rattle.track_cache.specs.declared.frames.Frame.{Frame}
use Rattle.track_image.specs.Image.{Image}
use Rattle.device_outside.specs.Interaction.{and_then}
use Rattle.device_defs.specs.declared.answers.Stepped.{Stepped}
use Rattle.device_defs.specs.declared.answers.Took.{Took}
use Rattle.device_defs.specs.Command as N
use Rattle.device_defs.specs.Command.{
  Went,
  Over,
  On,
  has_loss,
  came_of_write,
  went_by,
  went_on,
  looked,
  look,
  goes_on,
  follow,
  on_tracks,
  answered_by,
  command_at,
  command_by,
}
use Rattle.device_defs.specs.Contents.{Contents, contents}
use Rattle.device_defs.specs.Device.{Device}
use Rattle.device_defs.specs.Image as I
use Rattle.device_defs.specs.Image.{Imaged, Has, NoBytes, BadTrack, image_by, image, clean_image, hit}
use Rattle.device_defs.specs.Memory.{had_by}
use Rattle.device_defs.specs.Outcomes.{Turn, usage_of}
use Rattle.device_defs.specs.Owed as O
use Rattle.device_defs.specs.Owed.{is_clean, heard, hear}
use Rattle.device_defs.specs.Sound.{DeviceStore}
use Rattle.device_defs.specs.Store.{Store, tracks_of, frame_at, is_lost, with_frame}
use Rattle.device_laws.specs.Whole.{WholeDevice}
use Rattle.device_laws.proofs.Always.{Always, always_done, always_ask}
use Rattle.device_laws.specs.Moved.{sides_up, CommandTransfers, AsksNoMore}
use Rattle.device_laws.proofs.counted.Counting.{Counts, counts_done, counts_try, counts_then, counts_weaker, counts_if, counts_from}
use Rattle.device_laws.proofs.counted.ReadCounts.{image_reads}
use Rattle.device_laws.proofs.counted.Exact.{write_writes}

-- what a look leads to
abbrev went_to : {F P H : Type 0} → ℕ → ℕ → ℕ → Store F P H → Option Went → Type 0
went_to up r w z (Some (On chain q)) = (r ≤ up) × (w ≡ 0) × (sides_up z ≤ up)
went_to up r w z (Some (Over turn)) = (r ≤ up) × (w ≤ up)
went_to up r w z None = (r ≤ up) × (w ≤ up)

module _ {F P H R : Type 0} (c : Contents F P H R) where
  module _ (chain : ChainState) (first t up : ℕ) where
    abbrev To : ℕ → ℕ → Store F P H → Option Went → Type 0
    To r w z o = went_to up r w z o

    took_so : (next : ChainState) (r : ℕ) → r ≤ up → (w : ℕ) → w ≤ up → (z : Store F P H) (o : Option Took) →
        Counts To r w (had_by (came_of_write c next t) z o)
    took_so next r le w less z (Some took) = counts_done (le, less)
    took_so next r le w less z None = counts_done (le, less)

    module _ (r : ℕ) (le : r ≤ up) (z : Store F P H) (few : sides_up z ≤ up) where
      progress_so : (i : Image) (next : ChainState) (p : Progress) → Counts To r 0 (went_by c (usage_of chain) first t z i next p)
      progress_so i next (progresses.Ended e) = counts_done (le, omega arith)
      progress_so i next (progresses.Need q) = counts_done (le, refl, few)
      progress_so i next (progresses.Write q e) =
          counts_then _ (counts_from r 0 (write_writes c (usage_of chain) first t i e z))
          (λ m w y o h.
          let a = h.more_reads in
          let b = h.more_writes in
          let k = h.is.reads in
          let l = h.is.writes in
          took_so next m (omega (arith, a, k, le)) w (omega (arith, b, l, few)) y o)
      progress_so i next (progresses.Local act) = counts_done (le, omega arith)

      looked_so : (i : Imaged) → Counts To r 0 (looked c chain first t z i)
      looked_so (Has i) = counts_try (λ ok. counts_if ok (λ _. progress_so i (stepped chain (Some i)).chain (stepped chain (Some i)).progress)
          (λ _. counts_done (le, omega arith)))
      looked_so (NoBytes fault) = counts_done (le, omega arith)
      looked_so (BadTrack side) = counts_done (le, omega arith)

      had_so : (o : Option Imaged) → Counts To r 0 (had_by (looked c chain first t) z o)
      had_so (Some i) = looked_so i
      had_so None = counts_done (le, omega arith)

    look_so : (s : Store F P H) → sides_up s ≤ up → Counts To 0 0 (look c chain first t s)
    unfolding N.look
    look_so s few =
        counts_if (is_lost s t) (λ _. counts_done (omega arith, omega arith))
        (λ _. counts_then _ (image_reads c (usage_of chain) t up s few)
        (λ r w z o h.
        rw h.writes (had_so r h.reads z h.sides o)))

  -- From track to track

  module _ (first up : ℕ) where
    abbrev Following : ℕ → Type 0
    Following n =
        (chain : ChainState) (t : ℕ) (s : Store F P H) → sides_up s ≤ up →
        Counts (λ r w z (o : Option Turn). CommandTransfers n up r w) 0 0 (follow c n first chain t s)

    one_more : (n r w : ℕ) → r ≤ up → w ≤ up → CommandTransfers (suc n) up r w
    one_more n r w le less = record { most_reads = let e = suc-mul n up in omega (arith, e, le); most_writes = less }

    by_went : (n : ℕ) → Following n → (r w : ℕ) (z : Store F P H) (o : Option Went) → went_to up r w z o →
        Counts (λ r w z (o : Option Turn). CommandTransfers (suc n) up r w) r w (had_by (goes_on c (follow c n first)) z o)
    by_went n later r w z None h = counts_done (one_more n r w h.0 h.1)
    by_went n later r w z (Some (Over turn)) h = counts_done (one_more n r w h.0 h.1)
    by_went n later r w z (Some (On chain q)) h =
        rw h.1 (counts_weaker (counts_from r 0 (later chain q z h.2))
        (λ m l y o k.
        let le = h.0 in
        let a = k.more_reads in
        let b = k.more_writes in
        let d = k.is.most_reads in
        let f = k.is.most_writes in
        let e = suc-mul n up in
        record { most_reads = omega (arith, le, a, d, e); most_writes = omega (arith, b, f) }))

    follow_so : (n : ℕ) → Following n
    unfolding N.follow
    follow_so zero chain t s few = counts_done (record { most_reads = omega arith; most_writes = omega arith })
    follow_so (suc n) chain t s few = counts_then _ (look_so chain first t up s few) (λ r w z o h. by_went n (follow_so n) r w z o h)

  -- The whole command

  module _ (d : Device F P H) (path : ℕ) (chain : ChainState) where
    on_tracks_so : (s : Store F P H) (n up r w : ℕ) → CommandTransfers n up r w → (o : Option Turn) →
        Counts (λ r w z (a : Option Stepped). CommandTransfers n up r w) r w (on_tracks c d path chain s o)
    on_tracks_so s n up r w h (Some turn) = counts_done h
    on_tracks_so s n up r w h None = counts_done h

    none_done : (n up : ℕ) → CommandTransfers n up 0 0
    none_done n up = record { most_reads = omega arith; most_writes = omega arith }

    answered_so : (n up : ℕ) (next : ChainState) (p : Progress) →
        Counts (λ r w z (a : Option Stepped). CommandTransfers n up r w) 0 0 (answered_by c d path next p)
    answered_so n up next (progresses.Ended e) = counts_done (none_done n up)
    answered_so n up next (progresses.Need q) = counts_done (none_done n up)
    answered_so n up next (progresses.Write q e) = counts_done (none_done n up)
    answered_so n up next (progresses.Local act) = counts_done (none_done n up)

    at_so : (o : Option ℕ) →
        Counts (λ r w z (a : Option Stepped). CommandTransfers (tracks_of d.store) (sides_up d.store) r w) 0 0 (command_at c d path chain o)
    at_so (Some t) =
        counts_then (on_tracks c d path chain) (follow_so t (sides_up d.store) (tracks_of d.store) chain t d.store (omega arith))
        (λ r w z o h. on_tracks_so z (tracks_of d.store) (sides_up d.store) r w h o)
    at_so None = counts_try (λ ok. counts_if ok
        (λ _. answered_so (tracks_of d.store) (sides_up d.store) (stepped chain None).chain (stepped chain None).progress)
        (λ _. counts_done (none_done (tracks_of d.store) (sides_up d.store))))

  pub command_so : (d : Device F P H) (o : Option OpenEntry) (k : Option ChainState) →
      Counts (λ r w z (a : Option Stepped). CommandTransfers (tracks_of d.store) (sides_up d.store) r w) 0 0 (command_by c d o k)
  command_so d (Some o) (Some chain) =
      counts_if (has_loss o.acts) (λ _. counts_done (none_done d o.path chain (tracks_of d.store) (sides_up d.store)))
      (λ _. at_so d o.path chain (need_of chain))
  command_so d (Some o) None = counts_done (record { most_reads = omega arith; most_writes = omega arith })
  command_so d None k = counts_done (record { most_reads = omega arith; most_writes = omega arith })

-- A hit reads nothing

abbrev is_over : Option Went → Type 0
is_over (Some (On chain q)) = ⊥
is_over (Some (Over turn)) = Unit {0}
is_over None = Unit {0}

module _ (chain : ChainState) (first t : ℕ) (f : Frame) (modified : f.modified ≡ true) (ends : AsksNoMore chain f.image) where
  abbrev Hit : ℕ → ℕ → DeviceStore → Option Went → Type 0
  Hit r w z o = (r ≡ 0) × is_over o

  write_so : (next : ChainState) (r w : ℕ) → r ≡ 0 → (z : DeviceStore) (o : Option Took) → Counts Hit r w (had_by (came_of_write contents next t) z o)
  write_so next r w e z (Some took) = counts_done (e, tt)
  write_so next r w e z None = counts_done (e, tt)

  progress_none : (s : DeviceStore) (next : ChainState) (p : Progress) → (stepped chain (Some f.image)).progress ≡ p →
      Counts Hit 0 0 (went_by contents (usage_of chain) first t s f.image next p)
  progress_none s next (progresses.Ended e) is = counts_done (refl, tt)
  progress_none s next (progresses.Need q) is = absurd (ends q is)
  progress_none s next (progresses.Write q e) is =
      counts_then _ (write_writes contents (usage_of chain) first t f.image e s)
      (λ r w z o h. write_so next r w h.reads z o)
  progress_none s next (progresses.Local act) is = counts_done (refl, tt)

  went_none : (s : DeviceStore) → Counts Hit 0 0 (went_on contents chain first t s f.image)
  went_none s = counts_try (λ ok. counts_if ok
      (λ _. progress_none s (stepped chain (Some f.image)).chain (stepped chain (Some f.image)).progress refl) (λ _. counts_done (refl, tt)))

  hit_none : (s : DeviceStore) (m : Bool) → m ≡ true →
      Counts Hit 0 0 (and_then (if m then hit contents s t f else clean_image contents s (usage_of chain) t f) (had_by (looked contents chain first t)))
  hit_none s true e = went_none s
  hit_none s false e = absurd (cc)

  framed_none : (s : DeviceStore) (o : Option Frame) → o ≡ Some f →
      Counts Hit 0 0 (and_then (image_by contents s (usage_of chain) t o) (had_by (looked contents chain first t)))
  framed_none s None e = absurd (cc)
  framed_none s (Some g) e =
      let same : f ≡ g = cc in
      rw (← same) (hit_none s f.modified modified)

  image_none : (s : DeviceStore) → frame_at s t ≡ Some f →
      Counts Hit 0 0 (and_then (image contents s (usage_of chain) t) (had_by (looked contents chain first t)))
  unfolding I.image
  image_none s is = framed_none s (frame_at s t) is

  look_none : (s : DeviceStore) → frame_at s t ≡ Some f → Counts Hit 0 0 (look contents chain first t s)
  unfolding N.look
  look_none s is = counts_if (is_lost s t) (λ _. counts_done (refl, tt)) (λ _. image_none s is)

  over_none : (n r w : ℕ) (z : DeviceStore) (o : Option Went) → Hit r w z o →
      Counts (λ r w z (a : Option Turn). r ≡ 0) r w (had_by (goes_on contents (follow contents n first)) z o)
  over_none n r w z None h = counts_done h.0
  over_none n r w z (Some (Over turn)) h = counts_done h.0
  over_none n r w z (Some (On next q)) h = absurd h.1

  follow_none : (n : ℕ) (s : DeviceStore) → frame_at s t ≡ Some f → Counts (λ r w z (a : Option Turn). r ≡ 0) 0 0 (follow contents n first chain t s)
  unfolding N.follow
  follow_none zero s is = counts_done refl
  follow_none (suc n) s is = counts_then _ (look_none s is) (λ r w z o h. over_none n r w z o h)

-- of a command at a track with a modified frame
pub hit_so : (d : WholeDevice) (o : OpenEntry) (chain : ChainState) (t : ℕ) (f : Frame) → need_of chain ≡ Some t → frame_at d.store t ≡ Some f →
    f.modified ≡ true → AsksNoMore chain f.image → Counts (λ r w z (a : Option Stepped). r ≡ 0) 0 0 (command_by contents d (Some o) (Some chain))
hit_so d o chain t f needs is modified ends = counts_if (has_loss o.acts) (λ _. counts_done refl) (λ _. by_need (need_of chain) needs)
  where
    by_turn : (s : DeviceStore) (r w : ℕ) → r ≡ 0 → (a : Option Turn) →
        Counts (λ r w z (a : Option Stepped). r ≡ 0) r w (on_tracks contents d o.path chain s a)
    by_turn s r w e (Some turn) = counts_done e
    by_turn s r w e None = counts_done e

    by_need : (need : Option ℕ) → need ≡ Some t → Counts (λ r w z (a : Option Stepped). r ≡ 0) 0 0 (command_at contents d o.path chain need)
    by_need None e = absurd (cc)
    by_need (Some q) e =
        let same : t ≡ q = cc in
        rw (← same) (counts_then _ (follow_none chain t t f modified ends (tracks_of d.store) d.store is)
        (λ r w z a h. by_turn z r w h a))

-- Notices leave a modified frame

abbrev KeepsFrame : ℕ → Frame → DeviceStore → Type 0
KeepsFrame t f z = frame_at z t ≡ Some f

dropped_keeps : (t : ℕ) (f : Frame) → f.modified ≡ true → (s : DeviceStore) → frame_at s t ≡ Some f → (q : ℕ) → is_clean contents (frame_at s q) ≡ true →
    frame_at (with_frame s q None) t ≡ Some f
dropped_keeps t f modified s is q clean = get_or-set_other s.frames q t None None apart ∙ is
  where
    apart : t ≢ q
    apart e =
        absurd (let here : is_clean contents (Some f) ≡ true = ap (is_clean contents) (sym is ∙ ap (λ (n : ℕ). frame_at s n) e) ∙ clean in
        let both : not f.modified ≡ true = here in
        let off : not f.modified ≡ false = ap not modified in cc)

heard_keeps : (t : ℕ) (f : Frame) → f.modified ≡ true → (n : ℕ) (s : DeviceStore) (note : Option ℕ) → frame_at s t ≡ Some f →
    ((z : DeviceStore) → frame_at z t ≡ Some f → Always (hear contents n z) (λ y _. KeepsFrame t f y)) →
    Always (heard contents (hear contents n) s note) (λ y _. KeepsFrame t f y)
heard_keeps t f modified n s None is more = always_done is
heard_keeps t f modified n s (Some q) is more = by_clean (is_clean contents (frame_at s q)) refl
  where
    by_clean : (b : Bool) → is_clean contents (frame_at s q) ≡ b → Always (hear contents n (if b then with_frame s q None else s)) (λ y _. KeepsFrame t f y)
    by_clean true e = more (with_frame s q None) (dropped_keeps t f modified s is q e)
    by_clean false e = more s is

pub hear_keeps : (t : ℕ) (f : Frame) → f.modified ≡ true → (n : ℕ) (s : DeviceStore) → frame_at s t ≡ Some f →
    Always (hear contents n s) (λ y _. KeepsFrame t f y)
unfolding O.hear
hear_keeps t f modified zero s is = always_done is
hear_keeps t f modified (suc n) s is = always_ask (λ note. heard_keeps t f modified n s note is (hear_keeps t f modified n))
