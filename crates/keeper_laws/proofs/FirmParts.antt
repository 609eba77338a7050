-- What keeps the firm volume as it was told, by itself or with a Firm message.
use Rattle.std.proofs.Common.{◌≡◌, ℕ, zero, suc, Bool, false, List, Option, Some, None, length, get_or, refl, sym, ap, subst, set, arith, inr, ◌∙◌}
use Rattle.std.proofs.lemmas.List.{length-set}
use Rattle.ckd_types.specs.declared.record.Track.{Track}
use Rattle.ckd_types.specs.Volume.{track_in}
use Rattle.track_image.specs.Image.{Image}
use Rattle.device_outside.specs.Interaction.{Interaction, Done}
use Rattle.device_defs.specs.declared.owed.Owed.{Owed}
use Rattle.device_defs.specs.Contents.{by_plain}
use Rattle.device_defs.specs.Effects.{hardened}
use Rattle.device_defs.specs.Image.{Imaged}
use Rattle.device_defs.specs.Losses as L
use Rattle.device_defs.specs.Losses.{settled, stale_everywhere, all_firm_told, side_lost}
use Rattle.device_defs.specs.Marks.{MarksStore}
use Rattle.device_defs.specs.Owed.{noted_end}
use Rattle.device_defs.specs.Store.{HalfWrite, no_debt, tracks_of, frame_at, is_loose, owed_at, with_owed}
use Rattle.device_laws.proofs.PlainStores.{Core, core_of, put_false}
use Rattle.device_laws.proofs.PlainWalks.{settled_holds}
use Rattle.device_laws.proofs.PoolWalks.{ended_asks}
use Rattle.keeper_laws.proofs.FirmStores.{Like, like_everywhere, framed_track, owed_put, On, on_like, on_hardened, calm_settled, Owes, Free, free_more, free_freed, owes_none, owes_side, owes_freed, none_owed}
use Rattle.keeper_laws.proofs.FirmWalk.{IsSaying, ImagedSo}
use Rattle.keeper_laws.proofs.Firms.{Firms, firms_done, firms_told, firms_then, firms_weaker, firms_if, asks_firms}

-- a track that isn't loose is at hand
pub at_firm : {k : ℕ} {p : Type 0} {h : Option (HalfWrite (Unit {0}))} {b v : List Track} (q : ℕ) (s : MarksStore) → is_loose s q ≡ false →
    On k p h None b v s → On k p h (Some q) b v s
at_firm q s e x = (x.0, λ here. let i = x.1 here in (i.0, i.1, i.2, e, i.4, i.5))

pub at_none : {k : ℕ} {p : Type 0} {h : Option (HalfWrite (Unit {0}))} {b v : List Track} (o : Option ℕ) (s : MarksStore) →
    On k p h o b v s → On k p h None b v s
at_none o s x = (x.0, λ here. let i = x.1 here in (i.0, i.1, i.2, tt, i.4, i.5))

module _ (k : ℕ) (p : Type 0) (h : Option (HalfWrite (Unit {0}))) (o : Option ℕ) (b : List Track) where
  abbrev Is : List Track → MarksStore → Type 0
  Is v s = On k p h o b v s

  -- it stays so, as it is told
  abbrev pub Goes : {X : Type 0} → List Track → Interaction Bool Image MarksStore X → Type 0
  Goes v i = Firms k (λ u z _. On k p h o b u z) v i

  -- The end of an event

  pub settled_debt : {v : List Track} (z : MarksStore) (q : ℕ) → Is v z → Is v (with_owed z q no_debt)
  settled_debt z q x = (
    x.0,
    λ here. let i = x.1 here in (
      i.0,
      (λ t. owed_put z.owed q t no_debt refl (i.1 t)),
      i.2,
      i.3,
      length-set z.owed q no_debt ∙ i.4,
      i.5,
    ),
  )

  pub ended_goes : {v : List Track} (before : ℕ) (s : MarksStore) → Is v s → Goes v (noted_end by_plain before s)
  ended_goes {v = v} before s x = asks_firms (ended_asks by_plain (Is v) (λ z q y. settled_debt z q y) before s x)

  -- A failed call

  abbrev Telling : ℕ → ℕ → List Track → MarksStore → Type 0
  Telling m n v s = Owes k p h o b m v s × (p → Free k p h o b m n s)

  one_told : (v : List Track) (m n : ℕ) (s : MarksStore) → Telling m n v s → Firms k (λ u z (_ : Unit {0}). Telling m (suc n) u z) v (L.firm_told by_plain n s)
  one_told v m n s x =
      firms_if (owed_at s n).firm
      (λ owed. firms_told x.0.0
      (subst (λ (t : Track). Firms k (λ u z (_ : Unit {0}). Telling m (suc n) u z) (set v n t)
      (Done (with_owed s n (record (owed_at s n) { firm = false })) tt))
      (sym (framed_track s n (frame_at s n)))
      (firms_done (owes_freed k p h o b m v s n owed x.0, λ here. free_freed k p h o b m n s (x.1 here)))))
      (λ free. firms_done (x.0, λ here. free_more k p h o b m n s free (x.1 here)))

  told_goes : (v : List Track) (m n : ℕ) (s : MarksStore) → Owes k p h o b m v s →
      Firms k (λ u z (_ : Unit {0}). Telling m n u z) v (all_firm_told by_plain n s)
  unfolding L.all_firm_told
  told_goes v m zero s x = firms_done (x, λ here. λ t lt. absurd (omega (arith, lt)))
  told_goes v m (suc n) s x = firms_then (λ z _. L.firm_told by_plain n z) (told_goes v m n s x) (λ u z _ y. one_told u m n z y)

  pub all_told_goes : (v : List Track) (n : ℕ) (s : MarksStore) → Owes k p h o b n v s → Goes v (all_firm_told by_plain n s)
  all_told_goes v n s x = firms_weaker (told_goes v n n s x) (λ u z _ y. none_owed k p h o b n u z y.0 y.1)

-- a track that isn't loose is settled as it is
here_settled : (k : ℕ) (p : Type 0) (h : Option (HalfWrite (Unit {0}))) (b : List Track) (q : ℕ) {v : List Track} (s : MarksStore) →
    On k p h (Some q) b v s → On k p h (Some q) b v (settled by_plain s q)
here_settled k p h b q s x = (
  settled_holds (λ c. c.device ≡ k) (λ c t e is. e) s q x.0,
  λ here. (calm_settled k p h (Some q) b s q (inr (x.1 here).3) x).1 here,
)

like_by : (s z : MarksStore) → core_of z ≡ core_of s → z.owed ≡ s.owed → Like s z
like_by s z e owed = (
  ap (λ (c : Core). c.device) e,
  ap (λ (c : Core). c.firm) e,
  ap (λ (c : Core). c.plain) e,
  ap (λ (c : Core). c.loose) e,
  ap (λ (c : Core). c.half) e,
  ap (λ (c : Core). c.cylinders) e,
  ap (λ (l : List Owed). length l) owed,
  λ u. ap (λ (l : List Owed). (get_or l u no_debt).firm) owed,
)

abbrev pub PlainIn : Type 0 → List Track → ℕ → Image → Type 0
PlainIn p b q i = p → i.track ≡ track_in b q

pub said : (k : ℕ) (p : Type 0) (b : List Track) →
    IsSaying (Unit {0}) (λ (d : ℕ). d ≡ k) (λ (u : List Track) t x. set u t x) (PlainIn p b) (λ h o v s. On k p h o b v s)
said k p b = record {
  owned = λ h o v s x. x.0;
  same = λ h o v s z e owed x. on_like k p h o b s z (like_by s z e owed) x;
  firm = λ h q v s off x. at_firm q s off x;
  hardens = λ h q v s is x.
      on_like k p h (Some q) b (hardened s q) (stale_everywhere (hardened s q) q) (like_everywhere (hardened s q) q)
      (at_firm q (hardened s q) (put_false s.loose q) (on_hardened k p h None b s q x));
  settles = λ h q v s x. here_settled k p h b q s x;
  fails = λ h o v s side writing x.
      all_told_goes k p h o b v (tracks_of s) (side_lost by_plain s side writing)
      (owes_side k p h o b (tracks_of s) v s side writing refl (owes_none k p h o b (tracks_of s) v s refl x));
  pictures = λ h o v s q x here. ap (λ (l : List Track). track_in l q) (x.1 here).5;
}

-- an image that is the plain one
abbrev pub Imaging : (k : ℕ) (p : Type 0) (h : Option (HalfWrite (Unit {0}))) (o : Option ℕ) (b : List Track) → ℕ → List Track → MarksStore →
    Option Imaged → Type 0
Imaging k p h o b q u z a = ImagedSo (PlainIn p b) (On k p h o b) q u z a
