-- A sweep over all tracks that settles each and tells the keeper of it at once does what one does that settles all first.
use Rattle.std.proofs.Common.{◌≡◌, ◌≢◌, ◌∙◌, ◌+◌, ◌<◌, ℕ, zero, suc, Bool, true, false, List, [], ◌∷◌, Option, Some, None, refl, ap, sym, arith}
use Rattle.std.proofs.Math.Path.{fun_ext}
use Rattle.std.specs.Prelude.{◌==◌, is_some, slice_index_or, slice_set, if◌then◌else◌}
use Rattle.std.proofs.lemmas.List.{get_or-set_other}
use Rattle.track_image.specs.Image.{Image}
use Rattle.device_outside.specs.Interaction.{Interaction, Done, Try, Ask, Read, Write, Tell, and_then}
use Rattle.device_outside.specs.Keeper.{Firm, ReplyTo}
use Rattle.device_outside.specs.Pool.{AnswerTo}
use Rattle.device_defs.specs.declared.owed.Owed.{Owed}
use Rattle.device_defs.specs.Contents.{Contents}
use Rattle.device_defs.specs.Effects.{hardened}
use Rattle.device_defs.specs.Losses as losses
use Rattle.device_defs.specs.Losses.{over, settled, settled_but, by_frame, kept_by_frame, hardened_by_loss, gives_up, slot_in, without_patch, stale_everywhere}
use Rattle.device_defs.specs.Losses.{patch_lost, framed_image, firm_told, all_firm_told}
use Rattle.device_defs.specs.Store.{Store, no_debt, frame_at, patch_at, owed_at, is_lost, is_loose, has_level, half_is, with_frame, with_owed}
use Rattle.device_store.proofs.Losing.{over_more}

set_comm : {X : Type 0} (l : List X) (i j : ℕ) (a b : X) → i ≢ j → slice_set (slice_set l i a) j b ≡ slice_set (slice_set l j b) i a
set_comm [] i j a b ne = refl
set_comm (x ∷ xs) zero zero a b ne = absurd (ne refl)
set_comm (x ∷ xs) zero (suc j) a b ne = refl
set_comm (x ∷ xs) (suc i) zero a b ne = refl
set_comm (x ∷ xs) (suc i) (suc j) a b ne = ap (λ ys. x ∷ ys) (set_comm xs i j a b (λ e. ne (ap suc e)))

-- the same in another order of brackets
pub anew : {R I S T U A B C : Type 0} (i : Interaction R I S A) (f : S → A → Interaction R I T B) (g : T → B → Interaction R I U C) →
    and_then (and_then i f) g ≡ and_then i (λ s a. and_then (f s a) g)
anew (Done s a) f g = refl
anew {R} {I} {S} {T} {U} {A} {B} {C} (Try k) f g = ap (λ (j : Bool → Interaction R I U C). Try j) (fun_ext (λ ok. anew (k ok) f g))
anew {R} {I} {S} {T} {U} {A} {B} {C} (Ask call k) f g = ap (λ (j : AnswerTo call → Interaction R I U C). Ask call j) (fun_ext (λ a. anew (k a) f g))
anew {R} {I} {S} {T} {U} {A} {B} {C} (Read side t k) f g =
    ap (λ (j : Option R → Interaction R I U C). Read side t j) (fun_ext (λ a. anew (k a) f g))
anew {R} {I} {S} {T} {U} {A} {B} {C} (Write side t r k) f g =
    ap (λ (j : Bool → Interaction R I U C). Write side t r j) (fun_ext (λ a. anew (k a) f g))
anew {R} {I} {S} {T} {U} {A} {B} {C} (Tell m k) f g = ap (λ (j : ReplyTo m → Interaction R I U C). Tell m j) (fun_ext (λ a. anew (k a) f g))

-- Behind a change of a store, y became x, another track t is owed the same, has the same image, and with o owed of it the change is the same
pub record At {F P H R : Type 0} (c : Contents F P H R) (t : ℕ) (o : Owed) (y x z : Store F P H) : Type 0 where
  pub device : x.device ≡ y.device
  pub owed : owed_at x t ≡ owed_at y t
  pub image : framed_image c x t (frame_at x t) ≡ framed_image c y t (frame_at y t)
  pub comm : z ≡ with_owed x t o

module _ (t q : ℕ) (o : Owed) (ne : t ≢ q) (l : List Owed) where
  owed_comm : (r : Owed → Owed) →
      slice_set (slice_set l t o) q (r (slice_index_or (slice_set l t o) q no_debt)) ≡ slice_set (slice_set l q (r (slice_index_or l q no_debt))) t o
  owed_comm r =
      ap (λ (x : Owed). slice_set (slice_set l t o) q (r x)) (get_or-set_other l t q o no_debt (λ e. ne (sym e)))
      ∙ set_comm l t q o (r (slice_index_or l q no_debt)) ne

module _ {F P H R : Type 0} (c : Contents F P H R) (t q : ℕ) (o : Owed) (ne : t ≢ q) where
  at_if : {y x z v u : Store F P H} (b : Bool) → At c t o y x z → At c t o y v u → At c t o y (if b then x else v) (if b then z else u)
  at_if true p r = p
  at_if false p r = r

  module _ (y : Store F P H) where
    at_same : At c t o y y (with_owed y t o)
    at_same = record { device = refl; owed = refl; image = refl; comm = refl }

    at_hardened : At c t o y (hardened_by_loss y q) (hardened_by_loss (with_owed y t o) q)
    at_hardened = record {
      device = refl;
      owed = get_or-set_other y.owed q t _ no_debt ne;
      image = refl;
      comm = ap (λ (l : List Owed). record (hardened y q) { owed = l }) (owed_comm t q o ne y.owed (λ r. record r { firm = true }));
    }

    at_kept : (f : F) → At c t o y (kept_by_frame c y q f) (kept_by_frame c (with_owed y t o) q f)
    at_kept f = at_if (c.modified f) at_same (record {
      device = refl;
      owed = get_or-set_other y.owed q t _ no_debt ne;
      image = ap (λ (x : Option F). framed_image c y t x) (get_or-set_other y.frames q t (Some (c.marked f true)) None ne);
      comm = ap (λ (l : List Owed). record (with_frame y q (Some (c.marked f true))) { owed = l })
          (owed_comm t q o ne y.owed (λ r. record r { modified = true }));
    })

    at_given_up : (lost : List Bool) (slot : Option ℕ) →
        At c t o y (gives_up (record y { lost = lost }) q slot) (gives_up (record (with_owed y t o) { lost = lost }) q slot)
    at_given_up lost None = record { device = refl; owed = refl; image = refl; comm = refl }
    at_given_up lost (Some slot) = record {
      device = refl;
      owed = get_or-set_other y.owed q t _ no_debt ne;
      image = refl;
      comm = ap (λ (l : List Owed). record y { lost = lost; patches = slice_set y.patches q None; owed = l })
          (owed_comm t q o ne y.owed (λ r. record r { freed = Some slot }));
    }

    at_by_frame : (x : Option F) → At c t o y (by_frame c y q x) (by_frame c (with_owed y t o) q x)
    at_by_frame (Some f) = at_if (is_loose y q) at_hardened (at_kept f)
    at_by_frame None = at_if (half_is y.half q) at_same (at_given_up (slice_set y.lost q true) (slot_in c (patch_at y q)))

    pub at_settled : At c t o y (settled c y q) (settled c (with_owed y t o) q)
    unfolding losses.settled
    at_settled =
        at_if (is_some y.lent) at_same (at_if (is_lost y q) at_same (at_if (has_level y q) at_same (at_by_frame (frame_at y q))))

    pub at_settled_but : (w : Option ℕ) → At c t o y (settled_but c w q y) (settled_but c w q (with_owed y t o))
    at_settled_but None = at_settled
    at_settled_but (Some p) = at_if (q == p) at_same at_settled

    at_stale : At c t o y (stale_everywhere y q) (stale_everywhere (with_owed y t o) q)
    at_stale = at_if y.paired (record { device = refl; owed = refl; image = refl; comm = refl })
        (record { device = refl; owed = refl; image = refl; comm = refl })

  at_then : {y x z v u w : Store F P H} → At c t o y x z → At c t o x v u → w ≡ u → At c t o y v w
  at_then p r e = record {
    device = r.device ∙ p.device;
    owed = r.owed ∙ p.owed;
    image = r.image ∙ p.image;
    comm = e ∙ r.comm;
  }

  pub at_patch_lost : (y : Store F P H) → At c t o y (patch_lost c q y) (patch_lost c q (with_owed y t o))
  at_patch_lost y =
      let gone = at_given_up y y.lost (slot_in c (patch_at y q)) in
      let stale = at_then gone (at_stale (without_patch c y q)) (ap (λ (x : Store F P H). stale_everywhere x q) gone.comm) in
      at_if (is_some (patch_at y q)) (at_if (half_is y.half q) gone
      (at_then stale (at_settled (stale_everywhere (without_patch c y q) q)) (ap (λ (x : Store F P H). settled c x q) stale.comm))) (at_same y)

module _ {F P H R : Type 0} (c : Contents F P H R) where
  abbrev pub Keeps : ℕ → (Store F P H → Store F P H) → Type 0
  Keeps t f = (y : Store F P H) (o : Owed) → At c t o y (f y) (f (with_owed y t o))

  abbrev told_by : ℕ → Bool → ℕ → Image → Store F P H → Store F P H → Interaction R Image (Store F P H) (Unit {0})
  told_by t b d i y z = if b then Tell (Firm d t i) (λ _. Done z tt) else Done y tt

  by_told : (t : ℕ) (f : Store F P H → Store F P H) (b : Bool) (d : ℕ) (i : Image) (y z : Store F P H) →
      told_by t b d i (f y) (f z) ≡ and_then (told_by t b d i y z) (λ x _. Done (f x) tt)
  by_told t f true d i y z = refl
  by_told t f false d i y z = refl

  -- a change elsewhere may as well come behind
  firm_over : (t : ℕ) (f : Store F P H → Store F P H) → Keeps t f → (y : Store F P H) →
      firm_told c t (f y) ≡ and_then (firm_told c t y) (λ x _. Done (f x) tt)
  firm_over t f keeps y =
      let o = record (owed_at y t) { firm = false } in
      let a = keeps y o in
      let i = framed_image c (f y) t (frame_at (f y) t) in
      ap (λ (r : Owed). told_by t r.firm (f y).device i (f y) (with_owed (f y) t (record r { firm = false }))) a.owed
      ∙ ap (λ (d : ℕ). told_by t (owed_at y t).firm d i (f y) (with_owed (f y) t o)) a.device
      ∙ ap (λ (x : Image). told_by t (owed_at y t).firm y.device x (f y) (with_owed (f y) t o)) a.image
      ∙ ap (λ (x : Store F P H). told_by t (owed_at y t).firm y.device (framed_image c y t (frame_at y t)) (f y) x) (sym a.comm)
      ∙ by_told t f (owed_at y t).firm y.device (framed_image c y t (frame_at y t)) y (with_owed y t o)

  all_over : (n : ℕ) (f : Store F P H → Store F P H) → ((t : ℕ) → t < n → Keeps t f) → (y : Store F P H) →
      all_firm_told c n (f y) ≡ and_then (all_firm_told c n y) (λ x _. Done (f x) tt)
  unfolding losses.all_firm_told
  all_over zero f keeps y = refl
  all_over (suc n) f keeps y =
      ap (λ (i : Interaction R Image (Store F P H) (Unit {0})). and_then i (λ z _. firm_told c n z)) (all_over n f (λ t lt. keeps t (omega (arith, lt))) y)
      ∙ anew (all_firm_told c n y) (λ x _. Done (f x) tt) (λ z _. firm_told c n z)
      ∙ ap (λ (k : Store F P H → Unit {0} → Interaction R Image (Store F P H) (Unit {0})). and_then (all_firm_told c n y) k)
      (fun_ext (λ x. fun_ext (λ u. firm_over n f (keeps n (omega arith)) x)))
      ∙ sym (anew (all_firm_told c n y) (λ z _. firm_told c n z) (λ x _. Done (f x) tt))

  one_told : (n m : ℕ) (z : Store F P H) → m ≡ n + 1 → all_firm_told c m z ≡ and_then (all_firm_told c n z) (λ x _. firm_told c n x)
  unfolding losses.all_firm_told
  one_told n zero z is = absurd (omega (arith, is))
  one_told n (suc m) z is =
      let same : m ≡ n = omega (arith, is) in ap (λ (k : ℕ). and_then (all_firm_told c k z) (λ x _. firm_told c k x)) same

  -- one track more
  pub sweep_more : (f : ℕ → Store F P H → Store F P H) → ((q t : ℕ) → t ≢ q → Keeps t (f q)) → (n : ℕ) (s : Store F P H) →
      all_firm_told c (n + 1) (over (n + 1) f s) ≡ and_then (all_firm_told c n (over n f s)) (λ x _. firm_told c n (f n x))
  sweep_more f keeps n s =
      ap (λ (z : Store F P H). all_firm_told c (n + 1) z) (over_more f n s)
      ∙ one_told n (n + 1) (f n (over n f s)) refl
      ∙ ap (λ (i : Interaction R Image (Store F P H) (Unit {0})). and_then i (λ z _. firm_told c n z))
      (all_over n (f n) (λ t lt. keeps n t (λ e. omega (arith, lt, e))) (over n f s))
      ∙ anew (all_firm_told c n (over n f s)) (λ x _. Done (f n x) tt) (λ z _. firm_told c n z)

  pub sweep_none : (f : ℕ → Store F P H → Store F P H) (s : Store F P H) → all_firm_told c 0 (over 0 f s) ≡ Done s tt
  unfolding losses.all_firm_told losses.over
  sweep_none f s = refl

  -- nobody is told where no track became firm
  pub none_firm : (n : ℕ) (s : Store F P H) → ((t : ℕ) → (owed_at s t).firm ≡ false) → all_firm_told c n s ≡ Done s tt
  unfolding losses.all_firm_told
  none_firm zero s none = refl
  none_firm (suc n) s none =
      ap (λ (i : Interaction R Image (Store F P H) (Unit {0})). and_then i (λ z _. firm_told c n z)) (none_firm n s none)
      ∙ ap (λ (b : Bool). told_by n b s.device (framed_image c s n (frame_at s n)) s (with_owed s n (record (owed_at s n) { firm = false }))) (none n)
