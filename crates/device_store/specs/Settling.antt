-- Which tracks the loss of all frames passes over.
use Rattle.std.specs.Prelude.{◌≡◌, ◌<◌, ◌≤◌, ◌&&◌, ◌||◌, not, true, ℕ, Bool, Option, Some, None, is_some}
use Rattle.device_defs.specs.Store.{frame_at, has_level, is_lost}
use Rattle.device_store.specs.Looks.{StoreOf}

-- a track that a loss doesn't settle: the volume is lent, or the track is lost, or level on some side
abbrev pub is_settled : StoreOf → ℕ → Bool
is_settled s t = is_some s.lent || is_lost s t || has_level s t

-- such a track without a frame
abbrev pub stands_bare : StoreOf → ℕ → Bool
stands_bare s t = not (is_some (frame_at s t)) && is_settled s t

-- of the first n tracks, one from another on before which all pass, or that all pass
abbrev pub NextOf : ℕ → (ℕ → Bool) → ℕ → Option ℕ → Type 0
NextOf n passes from None = (q : ℕ) → from ≤ q → q < n → passes q ≡ true
NextOf n passes from (Some t) = (from ≤ t) × (t < n) × ((q : ℕ) → from ≤ q → q < t → passes q ≡ true)
