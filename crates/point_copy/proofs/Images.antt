-- The images that a copy gives are the old ones, one of each track.
use Rattle.std.proofs.Common.{
  ◌≡◌,
  ◌∙◌,
  ◌≤◌,
  ◌<◌,
  ◌+◌,
  ℕ,
  zero,
  suc,
  Bool,
  true,
  false,
  List,
  [],
  ◌∷◌,
  ◌++◌,
  length,
  map,
  Option,
  Some,
  None,
  refl,
  sym,
  ap,
  subst,
  arith,
}
use Rattle.std.specs.List.{range_with_len}
use Rattle.std.specs.Prelude.{nat_le, if◌then◌else◌}
use Rattle.std.proofs.lemmas.Bool.{leb-true, leb-false}
use Rattle.std.proofs.lemmas.List.{length-set, length-replicate}
use Rattle.std.proofs.lemmas.List.FromFn.{map-range_with_len_more}
use Rattle.track_image.specs.Image.{Image}
use Rattle.track_table.specs.Table.{entry_at}
use Rattle.device_defs.specs.Peek as peeks
use Rattle.device_defs.specs.Peek.{Peeked}
use Rattle.subsystem_defs.specs.Lines.{Asked}
use Rattle.subsystem_defs.specs.Looks.{looked}
use Rattle.subsystem_defs.specs.Subsystem.{Subsystem, mounted_in}
use Rattle.keeper_laws.specs.Messages.{event_messages}
use Rattle.line_drive.specs.Driven.{Occurred, Comes, Replaces, Unpairs, Step, Goes, Ends, driven, onward}
use Rattle.point_copy.proofs.Along.{Holds, driven_keeps, goes_holds}
use Rattle.point_copy.specs.declared.given.Early.{Early}
use Rattle.point_copy.specs.declared.given.Given.{Given}
use Rattle.point_copy.specs.declared.given.Given.TheVariants as gives
use Rattle.point_copy.specs.Keeping.{OldView}
use Rattle.point_copy.specs.Copying.{
  CopyState,
  Giving,
  IsOldGiven,
  KeepsOld,
  begun,
  copy_did,
  given_by,
  next_given,
  passed_by,
  still_given,
  track_given,
  tracks_at,
}
use Rattle.point_copy.specs.CopyRun as R
use Rattle.point_copy.specs.CopyRun.{Copying, copied, copy_course, copy_look, copying_from, gave, looks_on, most_looks}
use Rattle.point_copy.proofs.Copies.{did_keeps, next_is_old}
use Rattle.point_copy.proofs.Keeping.{IsAlike, all_alike, same_alike}

-- so many tracks, of which those before the next one were given
pub record IsCopied (n : ℕ) (old : ℕ → Image) (c : Copying) : Type 0 where
  pub keeps : KeepsOld c.state old
  pub size : length c.state.kept.images ≡ n
  pub most : c.state.kept.next ≤ n
  pub images : c.images ≡ map old (range_with_len 0 c.state.kept.next)

-- Events

pub did_alike : (c : CopyState) (o : Occurred) → IsAlike c.kept (copy_did c o).kept
did_alike c (Comes e) = all_alike c.kept (event_messages c.run e)
did_alike c (Replaces d side) = same_alike c.kept
did_alike c (Unpairs a) = same_alike c.kept

did_copied : (n : ℕ) (old : ℕ → Image) (c : Copying) (o : Occurred) → IsCopied n old c → IsCopied n old (record c { state = copy_did c.state o })
did_copied n old c o is =
    let alike = did_alike c.state o in
    record {
      keeps = did_keeps c.state o old is.keeps;
      size = alike.size ∙ is.size;
      most = omega (arith, is.most, alike.next);
      images = is.images ∙ ap (λ (k : ℕ). map old (range_with_len 0 k)) (sym alike.next);
    }

-- Looks

-- how a look goes on, by what it gave
abbrev Moves : ℕ → OldView → OldView → Given → Type 0
Moves n k l (gives.Track t i) = (k.next < n) × (l.next ≡ k.next + 1) × (length l.images ≡ length k.images)
Moves n k l gives.Finished = (n ≤ k.next) × (l ≡ k)
Moves n k l _ = Unit {0}

look_moves : (n : ℕ) (k : OldView) (p : Peeked) → k.next < n → Moves n k (passed_by p k) (given_by k.next p)
look_moves n k (peeks.Track i) lt = (lt, refl, refl)
look_moves n k peeks.Lost lt = tt
look_moves n k (peeks.Fault side) lt = tt
look_moves n k (peeks.BadBytes side) lt = tt

track_moves : (n : ℕ) (c : CopyState) (o : Option Image) → c.kept.next < n → Moves n c.kept (track_given c o).behind.kept (track_given c o).given
track_moves n c (Some i) lt = (lt, refl, length-set c.kept.images c.kept.next None)
track_moves n c None lt = look_moves n c.kept (looked c.run c.kept.device c.kept.next).found lt

still_moves : (n : ℕ) (c : CopyState) (o : Option ℕ) → c.kept.next < n → Moves n c.kept (still_given c o).behind.kept (still_given c o).given
still_moves n c (Some of) lt = tt
still_moves n c None lt = track_moves n c (entry_at c.kept.images c.kept.next) lt

abbrev pub given_if : Bool → CopyState → Giving
given_if over c = if over then record { given = gives.Finished; behind = c } else still_given c c.gone

moves_by : (n : ℕ) (c : CopyState) (over : Bool) → nat_le n c.kept.next ≡ over → Moves n c.kept (given_if over c).behind.kept (given_if over c).given
moves_by n c true is = (leb-true n c.kept.next is, refl)
moves_by n c false is = still_moves n c c.gone (leb-false n c.kept.next is)

next_moves : (n : ℕ) (c : CopyState) (old : ℕ → Image) → KeepsOld c old → length c.kept.images ≡ n →
    Moves n c.kept (next_given c).behind.kept (next_given c).given
next_moves n c old keeps size =
    moves_by n c (nat_le (tracks_at (mounted_in c.run.mounted c.kept.device)) c.kept.next)
    (ap (λ (q : ℕ). nat_le q c.kept.next) (sym size ∙ keeps.size ∙ sym (ap tracks_at keeps.there)))

abbrev GoesAs : Step Copying Early → Copying → Type 0
GoesAs s z = s ≡ Goes z

goes_same : (x y : Copying) → GoesAs (Goes x) y → x ≡ y
goes_same x y e = cc

-- a look that goes on: one more image is given, or all were
record GoesTo (n : ℕ) (old : ℕ → Image) (c z : Copying) : Type 0 where
  is : IsCopied n old z
  on : (k : ℕ) → n ≤ c.state.kept.next + suc k → n ≤ z.state.kept.next + k

gave_on : (n : ℕ) (old : ℕ → Image) (c : Copying) (b : CopyState) (g : Given) (z : Copying) → IsCopied n old c → KeepsOld b old →
    IsOldGiven c.state.kept old g → Moves n c.state.kept b.kept g → gave c.images b g ≡ Goes z → GoesTo n old c z
gave_on n old c b (gives.Track t i) z is keeps so moves e =
    let same : record { state = b; images = c.images ++ i ∷ [] } ≡ z = goes_same _ z e in
    let next : t ≡ c.state.kept.next = so.0 in
    let image : i ≡ old c.state.kept.next = so.1 ∙ ap old next in
    subst (GoesTo n old c) same (record {
      is = record {
        keeps = keeps;
        size = moves.2 ∙ is.size;
        most = omega (arith, moves.0, moves.1);
        images = ap (λ (l : List Image). l ++ i ∷ []) is.images
            ∙ ap (λ (x : Image). map old (range_with_len 0 c.state.kept.next) ++ x ∷ []) image
            ∙ sym (map-range_with_len_more old 0 c.state.kept.next c.state.kept.next (omega arith))
            ∙ ap (λ (k : ℕ). map old (range_with_len 0 k)) (sym moves.1);
      };
      on = λ k le. omega (arith, le, moves.1);
    })
gave_on n old c b gives.Finished z is keeps so moves e =
    let same : record { state = b; images = c.images } ≡ z = goes_same _ z e in
    subst (GoesTo n old c) same (record {
      is = record {
        keeps = keeps;
        size = ap (λ (k : OldView). length k.images) moves.1 ∙ is.size;
        most = subst (λ (k : OldView). k.next ≤ n) (sym moves.1) is.most;
        images = is.images ∙ ap (λ (k : OldView). map old (range_with_len 0 k.next)) (sym moves.1);
      };
      on = λ k le. let at : b.kept.next ≡ c.state.kept.next = ap (λ (q : OldView). q.next) moves.1 in omega (arith, moves.0, at);
    })
gave_on n old c b (gives.Lost t) z is keeps so moves e = absurd (cc)
gave_on n old c b (gives.Fault side) z is keeps so moves e = absurd (cc)
gave_on n old c b (gives.BadBytes side) z is keeps so moves e = absurd (cc)
gave_on n old c b (gives.Gone of) z is keeps so moves e = absurd (cc)

look_goes : (n : ℕ) (old : ℕ → Image) (c z : Copying) → IsCopied n old c → copy_look c ≡ Goes z → GoesTo n old c z
look_goes n old c z is e =
    let so = next_is_old c.state old is.keeps in
    gave_on n old c (next_given c.state).behind (next_given c.state).given z is so.keeps so.track (next_moves n c.state old is.keeps is.size) e

look_copied : (n : ℕ) (old : ℕ → Image) (c : Copying) → IsCopied n old c → Holds (IsCopied n old) (copy_look c)
look_copied n old c is = λ z e. (look_goes n old c z is e).is

-- The looks at the end find all given

record IsOver (n : ℕ) (old : ℕ → Image) (c : Copying) : Type 0 where
  is : IsCopied n old c
  over : c.state.kept.next ≡ n

on_over : (n : ℕ) (old : ℕ → Image) (k : ℕ) (c : Copying) (s : Step Copying Early) → copy_look c ≡ s → IsCopied n old c →
    n ≤ c.state.kept.next + suc k →
    ((d : Copying) → IsCopied n old d → n ≤ d.state.kept.next + k → Holds (IsOver n old) (looks_on k d)) →
    Holds (IsOver n old) (onward s (looks_on k))
on_over n old k c (Goes d) e is le rest = let on = look_goes n old c d is e in rest d on.is (on.on k le)
on_over n old k c (Ends why) e is le rest = λ z f. absurd (cc)

looks_over : (n : ℕ) (old : ℕ → Image) (k : ℕ) (c : Copying) → IsCopied n old c → n ≤ c.state.kept.next + k → Holds (IsOver n old) (looks_on k c)
unfolding R.looks_on
looks_over n old zero c is le = goes_holds (IsOver n old) c (record { is = is; over = omega (arith, le, is.most) })
looks_over n old (suc k) c is le = on_over n old k c (copy_look c) refl is le (λ d at less. looks_over n old k d at less)

-- The whole

-- a copy that is made of a device with so many tracks has the old image of each
pub copies_are_old : (run : Subsystem) (d n : ℕ) (lines : List Asked) (old : ℕ → Image) (z : Copying) → KeepsOld (begun run d) old →
    tracks_at (mounted_in run.mounted d) ≡ n → n ≤ most_looks → copied run d lines ≡ Goes z → z.images ≡ map old (range_with_len 0 n)
copies_are_old run d n lines old z keeps tracks few e =
    let first : IsCopied n old (copying_from run d) = record {
      keeps = keeps;
      size = length-replicate (tracks_at (mounted_in run.mounted d)) None ∙ tracks;
      most = omega arith;
      images = refl;
    } in
    let all = driven_keeps copy_course (IsCopied n old) (λ c o is. did_copied n old c o is) (λ c is. look_copied n old c is) lines (copying_from run d) first in
    let over = end_by n old (driven copy_course lines (copying_from run d)) all few z e in
    over.is.images ∙ ap (λ (k : ℕ). map old (range_with_len 0 k)) over.over
  where
    end_by : (n : ℕ) (old : ℕ → Image) (s : Step Copying Early) → Holds (IsCopied n old) s → n ≤ most_looks → (z : Copying) →
        onward s (looks_on most_looks) ≡ Goes z → IsOver n old z
    end_by n old (Goes c) all few z e = looks_over n old most_looks c (all c refl) (omega (arith, few)) z e
    end_by n old (Ends why) all few z e = absurd (cc)
