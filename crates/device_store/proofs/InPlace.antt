-- A write of a framed track: a choice that goes through leaves the pool, and an edit in place leaves a modified frame.
use Rattle.std.proofs.Common.{[], ◌≡◌, ◌∙◌, ◌<◌, ◌==◌, inl, inr, length, ℕ, Bool, true, false, List, ◌∷◌, Option, Some, None, cond, refl, sym, ap, subst}
use Rattle.std.specs.Prelude.{is_some, nat_lt, slice_set, if◌then◌else◌}
use Rattle.std.proofs.lemmas.Bool.{eq-eqb}
use Rattle.std.proofs.lemmas.List.{get_or-set_same, get_or-set_other}
use Rattle.std.specs.Map.{lookup, set_value}
use Rattle.track_cache.specs.declared.frames.Frame.{Frame}
use Rattle.track_cache.specs.Frames.{edited_frame, is_modified, is_modified_frame}
use Rattle.track_image.specs.Image.{edited_image}
use Rattle.ckd_types.specs.declared.record.Edit.{Edit}
use Rattle.device_defs.specs.Contents.{contents}
use Rattle.device_defs.specs.Losses.{framed_image}
use Rattle.device_defs.specs.Store.{frame_at}
use Rattle.device_store.specs.Looks.{frame_in, StoreOf}
use Rattle.device_outside.specs.declared.port.SlotGrant.TheVariants as grants
use Rattle.device_outside.specs.Lists as lists
use Rattle.device_outside.specs.Lists.{is_in, less_one, with_number}
use Rattle.device_outside.specs.Outside.{PortView, Answered, ByPool}
use Rattle.device_outside.specs.Pool as pools
use Rattle.device_outside.specs.Pool.{Pool, FreeSlot, SetModified, WantSlot, is_listed, is_of, after, answer}
use Rattle.event_notes.specs.Loose.{is_loose_in}
use Rattle.device_store.proofs.Loosely.{same_or_not}

-- The pool doesn't list the frame

module _ (test : ℕ × ℕ → Bool) where
  unset_step : (b : Bool) (e : (ℕ × ℕ) × Bool) (es : List ((ℕ × ℕ) × Bool)) (m : Bool) → (is_some (lookup test es) ≡ false → set_value test es m ≡ es) →
      is_some (cond b (Some e.1) (lookup test es)) ≡ false → cond b ((e.0, m) ∷ es) (e ∷ set_value test es m) ≡ e ∷ es
  unset_step true e es m rest none = absurd cc
  unset_step false e es m rest none = ap (λ l. e ∷ l) (rest none)

  unset : (es : List ((ℕ × ℕ) × Bool)) (m : Bool) → is_some (lookup test es) ≡ false → set_value test es m ≡ es
  unset [] m none = refl
  unset (e ∷ es) m none = unset_step (test e.0) e es m (unset es m) none

same_pool : (p : Pool) (d t : ℕ) → is_listed p.frames d t ≡ false → after p (SetModified d t) false ≡ p
unfolding pools.after
same_pool p d t none = ap (λ fs. record p { frames = fs }) (unset (is_of d t) p.frames true none)

not_listed : (p : Pool) (d t : ℕ) → false ≡ answer p (SetModified d t) → is_listed p.frames d t ≡ false
unfolding pools.answer
not_listed p d t is = sym is

pool_by : (old new : Option Pool) (d t : ℕ) → ByPool old (SetModified d t) false new → old ≡ new
pool_by None new d t says = sym says
pool_by (Some p) new d t says = ap Some (sym (same_pool p d t (not_listed p d t says.0.same))) ∙ sym says.1

abbrev view : Option Pool → ℕ → PortView
view pool denials = record { pool = pool; denials = denials }

view_by : (a b : Option Pool) (m n : ℕ) → a ≡ b → m ≡ n → view a m ≡ view b n
view_by a b m n same is = rw (same, is) refl

-- nothing changed
pub unlisted_same : (p q : PortView) (d t : ℕ) → Answered p (SetModified d t) false q → p ≡ q
unlisted_same p q d t says = view_by p.pool q.pool p.denials q.denials (pool_by p.pool q.pool d t says.by_pool) (sym says.denials)

-- a slot that wasn't in use is given back

back_step : (k y : ℕ) (ys : List ℕ) (less same : Bool) → (k == y) ≡ same → (is_in k ys ≡ false → less_one k (with_number k ys) ≡ ys) →
    (if same then true else is_in k ys) ≡ false → less_one k (if less then y ∷ with_number k ys else k ∷ y ∷ ys) ≡ y ∷ ys
unfolding lists.less_one
back_step k y ys less true is rest none = absurd cc
back_step k y ys true false is rest none = rw is (ap (λ l. y ∷ l) (rest none))
back_step k y ys false false is rest none = rw (eq-eqb k k refl) refl

pub given_back : (k : ℕ) (ys : List ℕ) → is_in k ys ≡ false → less_one k (with_number k ys) ≡ ys
unfolding lists.less_one lists.with_number lists.is_in
given_back k [] none = rw (eq-eqb k k refl) refl
given_back k (y ∷ ys) none = back_step k y ys (nat_lt y k) (k == y) refl (given_back k ys) none

pool_back : (p : Pool) (k d t : ℕ) → is_in k p.used ≡ false → is_listed p.frames d t ≡ false →
    after (after (after p WantSlot (grants.Given k)) (SetModified d t) false) (FreeSlot k) tt ≡ p
unfolding pools.after
pool_back p k d t none bare =
    ap (λ fs. record p { frames = fs; used = less_one k (with_number k p.used) }) (unset (is_of d t) p.frames true bare)
    ∙ ap (λ us. record p { used = us }) (given_back k p.used none)

bare_still : (p : Pool) (k d t : ℕ) → false ≡ answer (after p WantSlot (grants.Given k)) (SetModified d t) → is_listed p.frames d t ≡ false
unfolding pools.answer pools.after
bare_still p k d t is = sym is

back_by : (o q r s : Option Pool) (k d t : ℕ) → ByPool o WantSlot (grants.Given k) q → ByPool q (SetModified d t) false r → ByPool r (FreeSlot k) tt s → o ≡ s
back_by None q r s k d t want set free = by_none q r want set free where
  by_none : (q r : Option Pool) → q ≡ None → ByPool q (SetModified d t) false r → ByPool r (FreeSlot k) tt s → None ≡ s
  by_none None None is set free = sym free
  by_none None (Some r) is set free = absurd cc
  by_none (Some q) r is set free = absurd cc
back_by (Some p) q r s k d t want set free =
    let set : ByPool (Some (after p WantSlot (grants.Given k))) (SetModified d t) false r = subst (λ x. ByPool x (SetModified d t) false r) want.1 set in
    let free : ByPool (Some (after (after p WantSlot (grants.Given k)) (SetModified d t) false)) (FreeSlot k) tt s =
    subst (λ x. ByPool x (FreeSlot k) tt s) set.1 free in
    ap Some (sym (pool_back p k d t want.0.free (bare_still p k d t set.0.same))) ∙ sym free.1

pub slot_back : (p q r s : PortView) (k d t : ℕ) → Answered p WantSlot (grants.Given k) q → Answered q (SetModified d t) false r
    → Answered r (FreeSlot k) tt s → p ≡ s
slot_back p q r s k d t want set free =
    view_by p.pool s.pool p.denials s.denials (back_by p.pool q.pool r.pool s.pool k d t want.by_pool set.by_pool free.by_pool)
    (sym (free.denials ∙ set.denials ∙ want.denials))

none_denied : (p : Pool) → after p WantSlot grants.Denied ≡ p
unfolding pools.after
none_denied p = refl

none_down : (p : Pool) → after p WantSlot grants.Down ≡ p
unfolding pools.after
none_down p = refl

denied_by : (o q : Option Pool) → ByPool o WantSlot grants.Denied q → o ≡ q
denied_by None q is = sym is
denied_by (Some p) q is = ap Some (sym (none_denied p)) ∙ sym is.1

down_by : (o q : Option Pool) → ByPool o WantSlot grants.Down q → o ≡ q
down_by None q is = sym is
down_by (Some p) q is = ap Some (sym (none_down p)) ∙ sym is.1

pub slot_denied : (p q : PortView) → Answered p WantSlot grants.Denied q → p ≡ q
slot_denied p q says = view_by p.pool q.pool p.denials q.denials (denied_by p.pool q.pool says.by_pool) (sym says.denials)

pub slot_down : (p q : PortView) → Answered p WantSlot grants.Down q → p ≡ q
slot_down p q says = view_by p.pool q.pool p.denials q.denials (down_by p.pool q.pool says.by_pool) (sym says.denials)

-- The edit of the frame

-- where the frame of a track becomes another that is modified
pub still_modified : (frames : List (Option Frame)) (loose : ℕ → Bool) (t : ℕ) (f : Option Frame) → is_modified_frame f ≡ true → t < length frames →
    ((q : ℕ) → loose q ≡ true → is_modified frames q ≡ true) → (q : ℕ) → loose q ≡ true → is_modified (slice_set frames t f) q ≡ true
still_modified frames loose t f marked there all q is = elim (same_or_not q t) [
  | inl same ↦ rw same (ap is_modified_frame (get_or-set_same frames t f None there) ∙ marked)
  | inr differ ↦ ap is_modified_frame (get_or-set_other frames t q f None differ) ∙ all q is
]

-- and the track becomes loose
pub loosened_modified : (frames : List (Option Frame)) (loose : List Bool) (t : ℕ) (f : Option Frame) → is_modified_frame f ≡ true → t < length frames →
    ((q : ℕ) → is_loose_in loose q ≡ true → is_modified frames q ≡ true) → (q : ℕ) → is_loose_in (slice_set loose t true) q ≡ true →
    is_modified (slice_set frames t f) q ≡ true
loosened_modified frames loose t f marked there all q is = elim (same_or_not q t) [
  | inl same ↦ rw same (ap is_modified_frame (get_or-set_same frames t f None there) ∙ marked)
  | inr differ ↦ ap is_modified_frame (get_or-set_other frames t q f None differ) ∙ all q (sym (get_or-set_other loose t q true false differ) ∙ is)
]

module _ (s z : StoreOf) (t : ℕ) (e : Edit) where
  edit_is : (f : Option Frame) → is_some f ≡ true → edited_frame e f ≡ Some (record { image = edited_image e (framed_image contents s t f); modified = true })
  edit_is None there = absurd cc
  edit_is (Some f) there = refl

  -- the track has its frame still
  pub edited_there : frame_at z t ≡ edited_frame e (frame_at s t) → is_some (frame_at s t) ≡ true → is_some (frame_at z t) ≡ true
  edited_there now there = ap (λ f. is_some f) (now ∙ edit_is (frame_at s t) there)

  image_is : (f : Option Frame) → is_some f ≡ true → framed_image contents z t (edited_frame e f) ≡ edited_image e (framed_image contents s t f)
  image_is None there = absurd cc
  image_is (Some f) there = refl

  -- with the edited image in it
  pub edited_is : frame_at z t ≡ edited_frame e (frame_at s t) → is_some (frame_at s t) ≡ true → frame_in z t ≡ edited_image e (frame_in s t)
  edited_is now there = ap (λ f. framed_image contents z t f) now ∙ image_is (frame_at s t) there

-- the frames with an edit of one of them
pub edited_frames : (s : StoreOf) (t : ℕ) (e : Edit) (frames : List (Option Frame)) → frames ≡ slice_set s.frames t (edited_frame e (frame_at s t)) →
    is_some (frame_at s t) ≡ true → frames ≡ slice_set s.frames t (Some (record { image = edited_image e (frame_in s t); modified = true }))
edited_frames s t e frames is there = is ∙ ap (λ f. slice_set s.frames t f) (edit_is s s t e (frame_at s t) there)
