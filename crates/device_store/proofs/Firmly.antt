-- A loose track has a modified frame, whatever changes.
use Rattle.std.proofs.Common.{◌≡◌, ◌<◌, ◌∙◌, ℕ, inl, inr, Bool, true, false, List, length, refl, sym, ap}
use Rattle.std.specs.Prelude.{Option, Some, None, is_some, slice_set}
use Rattle.std.proofs.lemmas.Bool.{cases_eq, false≢true}
use Rattle.std.proofs.lemmas.List.{get_or-set_same, get_or-set_other}
use Rattle.event_notes.specs.Loose.{is_loose_in}
use Rattle.track_cache.specs.declared.frames.Frame.{Frame}
use Rattle.track_cache.specs.Frames.{is_modified, is_modified_frame}

abbrev pub Holds : List Bool → List (Option Frame) → Type 0
Holds loose frames = (t : ℕ) → is_loose_in loose t ≡ true → is_modified frames t ≡ true

pub less_loose : (loose : List Bool) (frames : List (Option Frame)) (t : ℕ) → Holds loose frames → t < length loose → Holds (slice_set loose t false) frames
less_loose loose frames t holds lt q is = elim (cases_eq q t) [
  | inl same ↦ absurd (false≢true (sym (ap (is_loose_in (slice_set loose t false)) same ∙ get_or-set_same loose t false false lt) ∙ is))
  | inr differs ↦ holds q (sym (get_or-set_other loose t q false false differs) ∙ is)
]

pub modified_there : (f : Option Frame) → is_modified_frame f ≡ true → is_some f ≡ true
modified_there None e = absurd cc
modified_there (Some f) e = refl

-- a track without a frame isn't loose
pub unframed_firm : (loose : List Bool) (frames : List (Option Frame)) (t : ℕ) (b : Bool) → Holds loose frames → is_loose_in loose t ≡ b
    → is_modified frames t ≡ false → b ≡ false
unframed_firm loose frames t true holds is none = sym (holds t is) ∙ none
unframed_firm loose frames t false holds is none = refl
