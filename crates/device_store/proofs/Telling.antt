-- What is owed to the port, and how many tracks wait.
use Rattle.std.proofs.Common.{◌≡◌, ◌∙◌, ◌+◌, ◌<◌, ◌≤◌, ℕ, zero, suc, Bool, true, false, List, [], ◌∷◌, length, Option, Some, None, refl, sym, ap, arith, inl, inr}
use Rattle.std.specs.Prelude.{◌&&◌, ◌||◌, not, is_some, if◌then◌else◌, slice_index_or, slice_set}
use Rattle.std.proofs.lemmas.Bool.{cases_lt, false≢true}
use Rattle.std.proofs.lemmas.List.{get_or_past}
use Rattle.track_image.specs.Image.{Image}
use Rattle.track_table.specs.Tracks as tracks
use Rattle.track_table.specs.Tracks.{count_below}
use Rattle.track_cache.specs.declared.frames.Frame.{Frame}
use Rattle.track_cache.specs.Frames.{is_modified_frame}
use Rattle.device_outside.specs.Interaction.{Interaction, Done, and_then}
use Rattle.device_defs.specs.declared.owed.Owed.{Owed}
use Rattle.device_defs.specs.Contents.{Contents, contents}
use Rattle.device_defs.specs.Owed as owed
use Rattle.device_defs.specs.Owed.{all_told, is_modified, track_told, waits, waits_by}
use Rattle.device_defs.specs.Store.{Store, no_debt, owed_at, frame_at, patch_at, is_lost, is_loose}
use Rattle.event_notes.specs.Debts.{is_paid}
use Rattle.device_store.specs.Looks.{StoreOf}

words_of : (p m k l : Bool) → ((((false && not p) || ((m && not p) && not k)) && not l)) ≡ (not l && (m && not p && not k))
words_of true true true true = refl
words_of true true true false = refl
words_of true true false true = refl
words_of true true false false = refl
words_of true false true true = refl
words_of true false true false = refl
words_of true false false true = refl
words_of true false false false = refl
words_of false true true true = refl
words_of false true true false = refl
words_of false true false true = refl
words_of false true false false = refl
words_of false false true true = refl
words_of false false true false = refl
words_of false false false true = refl
words_of false false false false = refl

bare_words : (p l : Bool) → (((p && true) || false) && not l) ≡ (not l && p)
bare_words true true = refl
bare_words true false = refl
bare_words false true = refl
bare_words false false = refl

framed_words : (p m k l : Bool) → (((p && false) || ((m && not p) && not k)) && not l) ≡ (not l && (m && not p && not k))
framed_words true m k l = words_of true m k l
framed_words false m k l = words_of false m k l

-- the tracks that wait, as words say it
pub waits_by_words : (s : StoreOf) (t : ℕ) (f : Option Frame) →
    (((is_some (patch_at s t) && not (is_some f)) || ((is_modified_frame f && not (is_some (patch_at s t))) && not (is_loose s t))) && not (is_lost s t))
    ≡ (not (is_lost s t) && waits_by contents s t f)
waits_by_words s t None = bare_words (is_some (patch_at s t)) (is_lost s t)
waits_by_words s t (Some f) = framed_words (is_some (patch_at s t)) f.modified (is_loose s t) (is_lost s t)

not_false : (b c : Bool) → c ≡ false → (b && c) ≡ false
not_false true c is = is
not_false false c is = refl

by_none : (s : StoreOf) (t : ℕ) (f : Option Frame) → f ≡ None → patch_at s t ≡ None → waits_by contents s t f ≡ false
by_none s t None is none = ap is_some none
by_none s t (Some f) is none = absurd cc

-- a track of no place doesn't wait
pub none_beyond : (s : StoreOf) (n t : ℕ) → length s.frames ≡ n → length s.patches ≡ n → n ≤ t → waits contents s t ≡ false
unfolding owed.waits
none_beyond s n t frames patches le =
    not_false (not (is_lost s t)) (waits_by contents s t (frame_at s t))
    (by_none s t (frame_at s t) (get_or_past s.frames t None (omega (arith, frames, le))) (get_or_past s.patches t None (omega (arith, patches, le))))

pub same_count : (n : ℕ) (f g : ℕ → Bool) → ((t : ℕ) → f t ≡ g t) → count_below n f ≡ count_below n g
unfolding tracks.count_below
same_count zero f g same = refl
same_count (suc n) f g same = rw (same n) (ap (λ (m : ℕ). m + (if g n then 1 else 0)) (same_count n f g same))

-- those beyond count for nothing
pub count_up_to : (m n : ℕ) (f : ℕ → Bool) → n ≤ m → ((t : ℕ) → n ≤ t → f t ≡ false) → count_below m f ≡ count_below n f
unfolding tracks.count_below
count_up_to zero n f le none = let same : 0 ≡ n = omega (arith, le) in ap (λ (x : ℕ). count_below x f) same
count_up_to (suc m) n f le none = elim (cases_lt m n) [
  | inl less ↦ let same : suc m ≡ n = omega (arith, le, less) in ap (λ (x : ℕ). count_below x f) same
  | inr more ↦ rw (none m more) (let before = count_up_to m n f more none in omega (arith, before))
]

pub not_true : (b : Bool) → not b ≡ true → b ≡ false
not_true true is = absurd cc
not_true false is = refl

pub not_false_true : (b : Bool) → not b ≡ false → b ≡ true
not_false_true true is = refl
not_false_true false is = absurd cc

pub modified_is : (f : Option Frame) → is_modified_frame f ≡ is_modified contents f
modified_is None = refl
modified_is (Some f) = refl

module _ {F P H R : Type 0} (c : Contents F P H R) where
  pub told_first : (s : Store F P H) (t : ℕ) → owed_at s t ≡ no_debt → track_told c t s ≡ Done s tt
  told_first s t none = rw none refl

  -- nobody is told anything where nothing is owed
  pub nothing_told : (n : ℕ) (s : Store F P H) → ((t : ℕ) → owed_at s t ≡ no_debt) → all_told c n s ≡ Done s tt
  unfolding owed.all_told
  nothing_told zero s none = refl
  nothing_told (suc n) s none =
      ap (λ (i : Interaction R Image (Store F P H) (Unit {0})). and_then i (λ z _. track_told c n z)) (nothing_told n s none) ∙ told_first s n (none n)

  -- one track more
  pub told_more : (n m : ℕ) (s : Store F P H) → m ≡ n + 1 → all_told c m s ≡ and_then (all_told c n s) (λ z _. track_told c n z)
  unfolding owed.all_told
  told_more n zero s is = absurd (omega (arith, is))
  told_more n (suc m) s is =
      let same : m ≡ n = omega (arith, is) in
      ap (λ (k : ℕ). and_then (all_told c k s) (λ z _. track_told c k z)) same

  pub told_none : (s : Store F P H) → all_told c 0 s ≡ Done s tt
  unfolding owed.all_told
  told_none s = refl

none_by : (s : StoreOf) (t : ℕ) (f : Option Frame) → is_some (patch_at s t) ≡ false → is_modified_frame f ≡ false → waits_by contents s t f ≡ false
none_by s t None bare clean = bare
none_by s t (Some f) bare clean = ap (λ (m : Bool). m && not (is_some (patch_at s t)) && not (is_loose s t)) clean

-- a track without a patch and without a modified frame doesn't wait
pub none_waits : (s : StoreOf) (t : ℕ) → is_some (patch_at s t) ≡ false → is_modified_frame (frame_at s t) ≡ false → waits contents s t ≡ false
unfolding owed.waits
none_waits s t bare clean = not_false (not (is_lost s t)) (waits_by contents s t (frame_at s t)) (none_by s t (frame_at s t) bare clean)

-- what is paid of a track stays so where another is paid
pub stays_paid : (l : List Owed) (t q : ℕ) → slice_index_or l q no_debt ≡ no_debt → slice_index_or (slice_set l t no_debt) q no_debt ≡ no_debt
stays_paid [] t q e = e
stays_paid (o ∷ os) zero zero e = refl
stays_paid (o ∷ os) zero (suc q) e = e
stays_paid (o ∷ os) (suc t) zero e = e
stays_paid (o ∷ os) (suc t) (suc q) e = stays_paid os t q e

-- something is owed of tracks alone that have a place
pub owed_here : (l : List Owed) (q : ℕ) → not (is_paid (slice_index_or l q no_debt)) ≡ true → q < length l
owed_here l q is = elim (cases_lt q (length l)) [
  | inl below ↦ below
  | inr past ↦ absurd (false≢true (ap (λ (o : Owed). not (is_paid o)) (sym (get_or_past l q no_debt past)) ∙ is))
]
