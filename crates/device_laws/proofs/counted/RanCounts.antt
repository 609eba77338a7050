-- What a device counts along the runs of two interactions one behind the other, and along one that calls no volume.
use Rattle.std.proofs.Common.{◌≡◌, ◌+◌, ℕ, zero, suc, Bool, sym, ap, subst, ◌∙◌, arith}
use Rattle.track_image.specs.Image.{Image}
use Rattle.device_outside.specs.Interaction.{Interaction, Try, and_then}
use Rattle.device_outside.specs.Keeper.{Hearing}
use Rattle.device_outside.specs.Outside.{Outside, Ran, done, tried, asked, read, wrote, told}
use Rattle.device_outside.specs.Pool.{Call}
use Rattle.device_defs.specs.declared.counts.Counts.{Counts}
use Rattle.device_laws.proofs.Based.{Base, Based, based_done, based_try, based_ask, based_read, based_write, based_tell}
use Rattle.device_laws.proofs.QuietParts.{Quiet, quiet_done, quiet_try, quiet_ask, quiet_tell}
use Rattle.device_laws.specs.Moved.{counted_by, Moved, Counted}

-- Numbers

more_counted : (m n c : ℕ) → counted_by n (counted_by m c) ≡ counted_by (m + n) c
more_counted zero n c = let same : n ≡ 0 + n = omega arith in ap (λ (k : ℕ). counted_by k c) same
more_counted (suc m) n c =
    let same : suc (m + n) ≡ suc m + n = omega arith in more_counted m n _ ∙ ap (λ (k : ℕ). counted_by k c) same

pub none_counted : {old new : Counts} → new ≡ old → Counted 0 0 old new
none_counted e = record { read_count = ap (λ (c : Counts). c.reads) e; write_count = ap (λ (c : Counts). c.writes) e }

pub counted_then : {r w m n : ℕ} {old between new : Counts} → Counted r w old between → Counted m n between new → Counted (r + m) (w + n) old new
counted_then {r = r} {w = w} {m = m} {n = n} {old = old} x y = record {
  read_count = y.read_count ∙ ap (counted_by m) x.read_count ∙ more_counted r m old.reads;
  write_count = y.write_count ∙ ap (counted_by n) x.write_count ∙ more_counted w n old.writes;
}

pub counted_as : {r w m n : ℕ} {old new : Counts} → Counted r w old new → r ≡ m → w ≡ n → Counted m n old new
counted_as {old = old} x e f = record {
  read_count = x.read_count ∙ ap (λ (k : ℕ). counted_by k old.reads) e;
  write_count = x.write_count ∙ ap (λ (k : ℕ). counted_by k old.writes) f;
}

pub counted_from : {r w : ℕ} {x old new : Counts} → x ≡ old → Counted r w old new → Counted r w x new
counted_from {r = r} {w = w} {new = new} e h = subst (λ (c : Counts). Counted r w c new) (sym e) h

pub counted_to : {r w : ℕ} {old new y : Counts} → Counted r w old new → y ≡ new → Counted r w old y
counted_to {r = r} {w = w} {old = old} h e = subst (Counted r w old) (sym e) h

pub moved_counted : {q : ℕ → ℕ → Type 0} {old new : Counts} (r w : ℕ) (m : Moved q old new) → m.reads ≡ r → m.writes ≡ w → Counted r w old new
moved_counted {old = old} r w m e f = record {
  read_count = m.read_count ∙ ap (λ (k : ℕ). counted_by k old.reads) e;
  write_count = m.write_count ∙ ap (λ (k : ℕ). counted_by k old.writes) f;
}

-- Runs

pub try_based : {R S X : Type 0} {base : S → Base} {may : Call → Type 0} {b : Base} {k : Bool → Interaction R Image S X} → Based base may b (Try k) →
    (ok : Bool) → Based base may b (k ok)
try_based (based_try x) ok = x ok

module _ {R K : Type 0} {had : Bool → Type 0} {hears : Hearing Image K} where
  -- the second one is based on what the first one left
  pub based_rest : {S T X Y : Type 0} {base : S → Base} {other : T → Base} {may : Call → Type 0} {b : Base} {i : Interaction R Image S X}
      (f : S → X → Interaction R Image T Y) {u z : Outside R K} {s : S} {a : X} → Based base may b i → Based other may b (and_then i f) →
      Ran had hears i u s a z → Based other may (base s) (f s a)
  based_rest {other = other} {may = may} f (based_done {s = s} {a = a} e) y done = subst (λ (x : Base). Based other may x (f s a)) (sym e) y
  based_rest f (based_try x) (based_try y) (tried ok m r) = based_rest f (x ok) (y ok) r
  based_rest f (based_ask m x) (based_ask n y) (asked {a = a} says r) = based_rest f (x a) (y a) r
  based_rest f (based_read x) (based_read y) (read {got = got} seen of r) = based_rest f (x got) (y got) r
  based_rest f (based_write x) (based_write y) (wrote {ok = ok} seen of r) = based_rest f (x ok) (y ok) r
  based_rest f (based_tell x) (based_tell y) (told q heard had r) = based_rest f (x q) (y q) r

  -- behind one that calls no volume
  pub based_past : {S T X Y : Type 0} {other : T → Base} {may : Call → Type 0} {b : Base} {i : Interaction R Image S X}
      (f : S → X → Interaction R Image T Y) {u z : Outside R K} {s : S} {a : X} → Quiet i → Based other may b (and_then i f) → Ran had hears i u s a z →
      Based other may b (f s a)
  based_past f quiet_done y done = y
  based_past f (quiet_try x) (based_try y) (tried ok m r) = based_past f (x ok) (y ok) r
  based_past f (quiet_ask x) (based_ask n y) (asked {a = a} says r) = based_past f (x a) (y a) r
  based_past f (quiet_tell x) (based_tell y) (told q heard had r) = based_past f (x q) (y q) r

  pub quiet_base : {S X : Type 0} {base : S → Base} {may : Call → Type 0} {b : Base} {i : Interaction R Image S X} {u z : Outside R K} {s : S} {a : X} →
      Quiet i → Based base may b i → Ran had hears i u s a z → base s ≡ b
  quiet_base quiet_done (based_done e) done = e
  quiet_base (quiet_try x) (based_try y) (tried ok m r) = quiet_base (x ok) (y ok) r
  quiet_base (quiet_ask x) (based_ask n y) (asked {a = a} says r) = quiet_base (x a) (y a) r
  quiet_base (quiet_tell x) (based_tell y) (told q heard had r) = quiet_base (x q) (y q) r
