-- Invariants of what a store has beside its frames, its patches, its half write and what its sides have of each track: few moves change that.
use Rattle.std.proofs.Common.{◌≡◌, ◌≤◌, ◌*◌, ℕ, suc, Bool, true, false, List, [], ◌∷◌, ◌++◌, Option, Some, is_some, ◌⊎◌, inl, inr, refl, sym, ap, subst}
use Rattle.std.specs.Prelude.{length, nat_lt, not, if◌then◌else◌, slice_set, slice_index_or, replicate}
use Rattle.ckd_types.specs.declared.geometry.Geometry.{Geometry}
use Rattle.ckd_types.specs.declared.paths.Side.{Side}
use Rattle.ckd_types.specs.declared.paths.Side.TheVariants as sides
use Rattle.loss_model.specs.declared.Loss.{Loss}
use Rattle.loss_model.specs.declared.Loss.TheVariants as losses
use Rattle.plain_defs.specs.declared.journal.Act.{Act}
use Rattle.plain_defs.specs.declared.journal.Act.TheVariants.{CfwLost, Loosen, Harden}
use Rattle.track_table.specs.Tracks.{least}
use Rattle.device_outside.specs.Volume.{counted, counted_if}
use Rattle.device_defs.specs.declared.counts.Counts.{Counts}
use Rattle.device_defs.specs.Contents.{Contents}
use Rattle.device_defs.specs.Effects.{hardened}
use Rattle.device_defs.specs.Events.{one_loss_more}
use Rattle.device_defs.specs.Image.{read_counted}
use Rattle.device_defs.specs.Losses.{down, stale_everywhere}
use Rattle.device_defs.specs.Store.{Store, is_loose, with_stale}
use Rattle.device_defs.specs.Writing.{write_counted}
use Rattle.device_laws.proofs.walks.Within.{Policy}
use Rattle.device_laws.proofs.walks.Moves.{Kind, Shut, Losing, Empties, IsKept, IsEnded, Moves, moves_keep, Ends, ends_keep}

pub record Shell : Type 0 where
  pub device : ℕ
  pub geometry : Geometry
  pub cylinders : ℕ
  pub lent : Option ℕ
  pub paired : Bool
  pub up_a : Bool
  pub up_b : Bool
  pub counts : Counts
  pub acts : List Act
  pub loose : List Bool
  pub lost : List Bool
  pub queued : ℕ

abbrev pub shell_of : {F P H : Type 0} → Store F P H → Shell
shell_of s = record {
  device = s.device;
  geometry = s.geometry;
  cylinders = s.cylinders;
  lent = s.lent;
  paired = s.paired;
  up_a = s.a.up;
  up_b = s.b.up;
  counts = s.counts;
  acts = s.acts;
  loose = s.loose;
  lost = s.lost;
  queued = length s.queue;
}

-- Its changes

abbrev pub shell_read : Shell → Bool → Shell
shell_read x ok = record x { counts = record x.counts { reads = counted x.counts.reads; failed = counted_if (not ok) x.counts.failed } }

abbrev pub shell_wrote : Shell → Bool → Shell
shell_wrote x ok = record x { counts = record x.counts { writes = counted x.counts.writes; failed = counted_if (not ok) x.counts.failed } }

abbrev a_behind : Side → Bool → Bool
a_behind sides.A up = false
a_behind sides.B up = up

abbrev b_behind : Side → Bool → Bool
b_behind sides.A up = up
b_behind sides.B up = false

abbrev pub shell_fallen : Side → Shell → Shell
shell_fallen side x = record x { up_a = a_behind side x.up_a; up_b = b_behind side x.up_b }

abbrev pub shell_acted : Shell → Act → Shell
shell_acted x act = record x { acts = x.acts ++ act ∷ [] }

abbrev pub shell_back : Shell → Shell
shell_back x = record x { loose = replicate (x.cylinders * 15) false }

abbrev pub shell_loose : Shell → Bool
shell_loose x = is_some (least (x.cylinders * 15) (λ t. slice_index_or x.loose t false))

pub record IsOfShell {K : Type 0} (w : Policy K) (kind : Kind) (q : K → Shell → Type 0) : Type 0 where
  pub reads : (m n : K) (x : Shell) (ok : Bool) → w.read m ok ≡ Some n → q m x → q n (shell_read x ok)
  pub writes : (m n : K) (x : Shell) (ok : Bool) → w.wrote m ok ≡ Some n → q m x → q n (shell_wrote x ok)
  pub falls_reading : (m n : K) (x : Shell) (side : Side) → x.paired ≡ true → w.read m false ≡ Some n → q m x → q n (shell_fallen side (shell_read x false))
  pub falls_writing : (m n : K) (x : Shell) (side : Side) → x.paired ≡ true → w.wrote m false ≡ Some n → q m x → q n (shell_fallen side (shell_wrote x false))
  pub falls : (n : K) (x : Shell) (side : Side) → kind ≡ Losing (losses.Side side) → q n x → q n (shell_fallen side x)
  pub hardens : (n : K) (x : Shell) (t : ℕ) → (kind ≡ Shut) ⊎ (is_some x.lent ≡ false) → q n x →
      q n (record (shell_acted x (Harden t)) { loose = slice_set x.loose t false })
  pub loosens : (n : K) (x : Shell) (t : ℕ) → kind ≡ Shut → q n x → q n (record (shell_acted x (Loosen t)) { loose = slice_set x.loose t true })
  pub loses : (n : K) (x : Shell) (t : ℕ) → is_some x.lent ≡ false → q n x → q n (record x { lost = slice_set x.lost t true })
  pub goes_back : (n : K) (x : Shell) → Empties kind → shell_loose x ≡ true → q n x → q n (shell_back x)
  pub loses_loose : (n : K) (x : Shell) → kind ≡ Losing losses.Cache → shell_loose x ≡ true → q n x → q n (shell_acted (shell_back x) CfwLost)
  pub queues : (n : K) (x : Shell) → nat_lt x.queued 64 ≡ true → q n x → q n (record x { queued = suc x.queued })
  pub dequeues : (n : K) (x : Shell) (l : ℕ) → l ≤ x.queued → q n x → q n (record x { queued = l })
  pub notes : (n : K) (x : Shell) (loss : Loss) → kind ≡ Losing loss → q n x →
      q n (record x { counts = record x.counts { losses = one_loss_more x.counts.losses loss } })

one_longer : (l : List ℕ) (t : ℕ) → suc (length l) ≡ length (l ++ t ∷ [])
one_longer [] t = refl
one_longer (x ∷ xs) t = ap suc (one_longer xs t)

-- A change by a test, or of a side

module _ {F P H : Type 0} (q : Shell → Type 0) where
  by_test : (b : Bool) (x y : Store F P H) → q (shell_of x) → q (shell_of y) → q (shell_of (if b then x else y))
  by_test true x y e f = e
  by_test false x y e f = f

  by_fall : (z : Store F P H) (side : Side) → q (shell_fallen side (shell_of z)) → q (shell_of (down z side))
  by_fall z sides.A e = e
  by_fall z sides.B e = e

  by_side : (z : Store F P H) (side : Side) (t : ℕ) → q (shell_of z) → q (shell_of (with_stale z side t false))
  by_side z sides.A t e = e
  by_side z sides.B t e = e

shell_ended : {K F P H R : Type 0} (w : Policy K) (kind : Kind) (c : Contents F P H R) (q : K → Shell → Type 0) →
    IsEnded w kind c (λ n z. q n (shell_of z)) (λ n z. q n (shell_of z))
shell_ended w kind c q = record {
  weaker = λ n z e. e;
  opens = λ n z t i origin is may firm e. e;
  opens_cleaned = λ n z t i origin is may firm e. e;
  pays = λ n z t o e. e;
}

module _ {K F P H R : Type 0} {w : Policy K} {kind : Kind} (c : Contents F P H R) {q : K → Shell → Type 0} where
  pub shell_kept : IsOfShell w kind q → IsKept w kind c (λ n z. q n (shell_of z))
  shell_kept f = record {
    reads = λ m n z ok is e. f.reads m n (shell_of z) ok is e;
    writes = λ m n z ok is e. f.writes m n (shell_of z) ok is e;
    falls_reading = λ m n z side pair is e. by_fall (q n) (read_counted z false) side (f.falls_reading m n (shell_of z) side pair is e);
    falls_writing = λ m n z side pair is e. by_fall (q n) (write_counted z false) side (f.falls_writing m n (shell_of z) side pair is e);
    falls = λ n z side lost e. by_fall (q n) z side (f.falls n (shell_of z) side lost e);
    takes = λ n z t is up e. by_test (q n) z.b.up _ _ e e;
    levels = λ n z side t e. by_side (q n) z side t e;
    spoils = λ n z t is alone why e. e;
    stales = λ n z t half away e. by_test (q n) z.paired _ _ e e;
    firms = λ n z t is loose why e. let g = f.hardens n (shell_of z) t (inl is) e in by_test (q n) z.paired _ _ g g;
    firms_taken = λ m n z t is loose up wrote e.
        let y = stale_everywhere (hardened z t) t in
        let g = f.hardens m (shell_of z) t (inl is) e in
        let v = f.writes m n (shell_of y) true wrote (by_test (q m) z.paired _ _ g g) in
        by_test (q n) y.b.up _ _ v v;
    marks = λ n z t g bare is clean e. e;
    hardens = λ n z t bare loose e. f.hardens n (shell_of z) t (inr bare.lent) e;
    loses = λ n z t bare none half e. f.loses n (shell_of z) t bare.lent e;
    drops = λ n z t clean e. e;
    fills = λ n z t i patched is plain e. e;
    frames = λ n z t o bare why e. e;
    renews = λ n z t i g bare is e. e;
    unframes = λ n z t may e. e;
    patches = λ n z t e. e;
    unpatches = λ n z t slot e. e;
    queues = λ n z t room e.
        subst (λ (l : ℕ). q n (record (shell_of z) { queued = l })) (one_longer z.queue t) (f.queues n (shell_of z) room e);
    dequeues = λ n z ts less e. f.dequeues n (shell_of z) (length ts) less e;
    edits = λ n z t edit e. e;
    goes_fast = λ n z t i edit slot there e. e;
    goes_provisionally = λ n z t i edit is e. by_test (q n) (is_loose z t) _ _ e (f.loosens n (shell_of z) t is e);
    goes_back = λ n z may some e. f.goes_back n (shell_of z) may some e;
    loses_loose = λ n z lossy some e. f.loses_loose n (shell_of z) lossy some e;
    closes = λ n z why e. e;
    cuts = λ n z h bypass edit is e. e;
    notes = λ n z loss lossy e. f.notes n (shell_of z) loss lossy e;
    pays = λ n z t o e. e;
  }

  pub moves_shell : {k n : K} {s z : Store F P H} → IsOfShell w kind q → q k (shell_of s) → Moves w kind c k s n z → q n (shell_of z)
  moves_shell f e m = moves_keep {q = λ n z. q n (shell_of z)} (shell_kept f) e m

  pub ends_shell : {k n : K} {s z : Store F P H} → IsOfShell w kind q → q k (shell_of s) → Ends w kind c k s n z → q n (shell_of z)
  ends_shell f e m = ends_keep {q = λ n z. q n (shell_of z)} {g = λ n z. q n (shell_of z)} (shell_kept f) (shell_ended w kind c q) e m

-- Each move leaves the number of the device, so a frame of a track that may be wanted of it may be wanted along the way

device_stays : {K : Type 0} (w : Policy K) (kind : Kind) (d : ℕ) → IsOfShell w kind (λ n x. x.device ≡ d)
device_stays w kind d = record {
  reads = λ m n x ok is e. e;
  writes = λ m n x ok is e. e;
  falls_reading = λ m n x side pair is e. e;
  falls_writing = λ m n x side pair is e. e;
  falls = λ n x side lost e. e;
  hardens = λ n x t why e. e;
  loosens = λ n x t is e. e;
  loses = λ n x t here e. e;
  goes_back = λ n x may some e. e;
  loses_loose = λ n x lossy some e. e;
  queues = λ n x room e. e;
  dequeues = λ n x l less e. e;
  notes = λ n x loss lossy e. e;
}

module _ {K F P H R : Type 0} {w : Policy K} {kind : Kind} {c : Contents F P H R} {k : K} {s : Store F P H} where
  pub still_wants : {n : K} {z : Store F P H} (t : ℕ) → w.wants s.device t → Moves w kind c k s n z → w.wants z.device t
  still_wants t on m = subst (λ (d : ℕ). w.wants d t) (sym (moves_shell c {q = λ n x. x.device ≡ s.device} (device_stays w kind s.device) refl m)) on
