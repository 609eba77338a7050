-- What a keeper is told: a track before a command's edit of it, and each track that an effect made firm. I is what stands for an image.
use Rattle.std.specs.Prelude.{ℕ, Bool, true}

-- the first number is the device's, the second the track's
pub data Message (I : Type 0) : Type 0 where
  BeforeEdit : ℕ → ℕ → I → Message I
  Firm : ℕ → ℕ → I → Message I

-- before an edit a keeper may lack memory
abbrev pub ReplyTo : {I : Type 0} → Message I → Type 0
ReplyTo (BeforeEdit d t i) = Bool
ReplyTo (Firm d t i) = Unit {0}

-- the reply where memory is had
abbrev pub reply : {I : Type 0} → (m : Message I) → ReplyTo m
reply (BeforeEdit d t i) = true
reply (Firm d t i) = tt

-- how a keeper K moves: before, message and reply, after
abbrev pub Hearing : Type 0 → Type 0 → Type 1
Hearing I K = K → (m : Message I) → ReplyTo m → K → Type 0

-- it heard this, and still may be called with all that it might be called with
pub record Heard {I K : Type 0} (hears : Hearing I K) (may : K → ℕ → ℕ → I → Type 0) (old : K) (m : Message I) (r : ReplyTo m) (new : K) : Type 0 where
  pub moves : hears old m r new
  pub still : (d t : ℕ) (i : I) → may old d t i → may new d t i
