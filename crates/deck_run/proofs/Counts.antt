-- Where the outside is told, what an interaction counts goes on by the reads and the writes that it made.
use Rattle.std.proofs.Common.{◌≡◌, ◌+◌, ◌∙◌, ℕ, suc, Bool, true, false, None, Some, if◌then◌else◌, arith, sym, ap, subst}
use Rattle.ckd_types.specs.declared.paths.Side.{Side}
use Rattle.ckd_types.specs.declared.paths.Side.TheVariants as sides
use Rattle.track_image.specs.Image.{Image}
use Rattle.device_outside.specs.Interaction.{Interaction}
use Rattle.device_outside.specs.Keeper.{reply}
use Rattle.device_outside.specs.Pool.{Call, answer, after}
use Rattle.device_outside.specs.Told as T
use Rattle.device_outside.specs.Told.{Told, hold, calls_of, told_read, read_fails, told_write, write_fails}
use Rattle.device_outside.specs.Volume.{counted}
use Rattle.device_laws.proofs.Based.{Base, Based, read_base, write_base, based_done, based_try, based_ask, based_read, based_write, based_tell}
use Rattle.deck_run.specs.Counting.{more_calls}

one_more : (r n : ℕ) → counted (more_calls r n) ≡ more_calls (r + 1) n
one_more r n = let e : suc r ≡ r + 1 = omega arith in ap (λ (k : ℕ). more_calls k n) e

module _ (n rs ws : ℕ) where
  -- a device of this number, which counted so much before
  pub record IsCountedTo (t : Told) (b : Base) : Type 0 where
    pub device : b.device ≡ n
    pub reads : b.counts.reads ≡ more_calls t.reads rs
    pub writes : b.counts.writes ≡ more_calls t.writes ws

  one_read : (t : Told) (b : Base) (side : Side) (ok : Bool) → IsCountedTo t b → IsCountedTo (told_read t side) (read_base b ok)
  one_read t b sides.A ok k = record { device = k.device; reads = ap counted k.reads ∙ one_more t.reads rs; writes = k.writes }
  one_read t b sides.B ok k = record { device = k.device; reads = ap counted k.reads ∙ one_more t.reads rs; writes = k.writes }

  one_write : (t : Told) (b : Base) (side : Side) (ok : Bool) → IsCountedTo t b → IsCountedTo (told_write t side) (write_base b ok)
  one_write t b sides.A ok k = record { device = k.device; reads = k.reads; writes = ap counted k.writes ∙ one_more t.writes ws }
  one_write t b sides.B ok k = record { device = k.device; reads = k.reads; writes = ap counted k.writes ∙ one_more t.writes ws }

  pub held_counts : {R S A : Type 0} {base : S → Base} {may : Call → Type 0} {b : Base} {i : Interaction R Image S A} (x : R) → Based base may b i →
      (t : Told) → IsCountedTo t b → IsCountedTo (hold x i t).told (base (hold x i t).state)
  unfolding T.hold
  held_counts x (based_done e) t k = subst (λ (b : Base). IsCountedTo t b) (sym e) k
  held_counts x (based_try y) t k = held_counts x (y true) t k
  held_counts x (based_ask {call = call} m y) t k =
      let a = answer t.pool call in held_counts x (y a) (record t { pool = after t.pool call a }) (record { device = k.device; reads = k.reads; writes = k.writes })
  held_counts {b = b} x (based_read {side = side} y) t k =
      let got = if read_fails (calls_of t side) then None else Some x in
      held_counts x (y got) (told_read t side) (one_read t b side _ k)
  held_counts {b = b} x (based_write {side = side} y) t k =
      let ok = if write_fails (calls_of t side) then false else true in
      held_counts x (y ok) (told_write t side) (one_write t b side ok k)
  held_counts x (based_tell {m = m} y) t k = held_counts x (y (reply m)) t k
