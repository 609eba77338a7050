-- The old tracks of a device that a keeper holds, and how it goes on by what it is told.
use Rattle.std.specs.Prelude.{
  ◌≡◌,
  ℕ,
  ◌==◌,
  ◌&&◌,
  nat_le,
  not,
  Bool,
  true,
  false,
  List,
  [],
  ◌∷◌,
  replicate,
  slice_set,
  Option,
  Some,
  None,
  if◌then◌else◌,
}
use Rattle.track_image.specs.Image.{Image}
use Rattle.track_table.specs.Table.{has_entry}
use Rattle.device_outside.specs.Keeper.{Message, BeforeEdit, Firm, Hearing}

-- the device, the least of its tracks that isn't given yet, and the old image of each track that was written since
pub record OldView : Type 0 where
  pub device : ℕ
  pub next : ℕ
  pub images : List (Option Image)

-- at the beginning, of a device with so many tracks
abbrev pub nothing_kept : ℕ → ℕ → OldView
nothing_kept d tracks = record { device = d; next = 0; images = replicate tracks None }

-- a track that isn't given yet, and of which nothing is kept
abbrev pub is_wanted : OldView → ℕ → ℕ → Bool
is_wanted k d t = (d == k.device) && (nat_le k.next t && not (has_entry k.images t))

abbrev pub with_image : OldView → ℕ → Option Image → OldView
with_image k t i = record k { images = slice_set k.images t i }

-- it is told this
abbrev pub heard : OldView → Message Image → OldView
heard k (BeforeEdit d t i) = if is_wanted k d t then with_image k t (Some i) else k
heard k (Firm d t i) = k

-- and these, one after another
abbrev pub heard_all : OldView → List (Message Image) → OldView
heard_all k [] = k
heard_all k (m ∷ ms) = heard_all (heard k m) ms

-- whether memory was had for the image of a wanted track
abbrev pub HearsEdit : OldView → ℕ → ℕ → Image → Bool → OldView → Type 0
HearsEdit k d t i true new = new ≡ heard k (BeforeEdit d t i)
HearsEdit k d t i false new = (is_wanted k d t ≡ true) × (new ≡ k)

abbrev pub hears_old : Hearing Image OldView
hears_old k (BeforeEdit d t i) r new = HearsEdit k d t i r new
hears_old k (Firm d t i) r new = new ≡ k

-- it may be told of every track
abbrev pub takes_all : OldView → ℕ → ℕ → Image → Type 0
takes_all k d t i = Unit {0}
