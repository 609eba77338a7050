-- No part of an event brings a side up, and notices leave the sides.
use Rattle.std.proofs.Common.{
  ◌≡◌,
  ◌≤◌,
  ◌==◌,
  ◌+◌,
  ◌++◌,
  ℕ,
  zero,
  suc,
  Bool,
  true,
  false,
  [],
  ◌∷◌,
  length,
  Option,
  Some,
  None,
  is_some,
  refl,
  sym,
  ap,
  subst,
  ◌∙◌,
  arith,
}
use Rattle.std.specs.Prelude.{if◌then◌else◌, ◌&&◌, not, nat_le, nat_lt}
use Rattle.ckd_types.specs.declared.paths.Side.{Side}
use Rattle.ckd_types.specs.declared.paths.Side.TheVariants.{A, B}
use Rattle.track_image.specs.Image.{Image}
use Rattle.device_outside.specs.Interaction.{Interaction}
use Rattle.device_defs.specs.declared.usage.Usage.{Usage}
use Rattle.device_defs.specs.Contents.{Contents}
use Rattle.device_defs.specs.Image.{ahead, is_sequential, queued}
use Rattle.device_defs.specs.Losses as L
use Rattle.device_defs.specs.Losses.{
  over,
  down,
  slot_in,
  gives_up,
  by_frame,
  settled,
  settled_but,
  side_lost,
  firm_told,
  all_firm_told,
  call_failed,
}
use Rattle.device_defs.specs.Owed.{hear}
use Rattle.device_defs.specs.Store.{SideMarks, Store, tracks_of, has_level, takes_b, frame_at, patch_at, is_lost, is_loose, half_is, owed_at, with_lost}
use Rattle.device_defs.specs.Transfers.{both}
use Rattle.device_laws.proofs.Always.{Always, always_done, always_tell, always_then, always_weaker}
use Rattle.device_laws.proofs.PoolWalks.{asks_always, hear_asks}
use Rattle.device_laws.specs.Moved.{sides_up, sides_writing}

-- a side that takes what is written is up
writing_by : (x y held : Bool) → both x (y && not held) ≤ both x y
writing_by true true true = omega arith
writing_by true true false = omega arith
writing_by true false held = omega arith
writing_by false true true = omega arith
writing_by false true false = omega arith
writing_by false false held = omega arith

none_less : (x y : Bool) → both false y ≤ both x y
none_less true true = omega arith
none_less true false = omega arith
none_less false true = omega arith
none_less false false = omega arith

last_less : (x y : Bool) → both x false ≤ both x y
last_less true true = omega arith
last_less true false = omega arith
last_less false true = omega arith
last_less false false = omega arith

module _ {F P H : Type 0} where
  pub writing_up : (s : Store F P H) → sides_writing s ≤ sides_up s
  writing_up s = writing_by s.a.up s.b.up s.held

  -- its sides are these
  record AreSides (x y : SideMarks) (z : Store F P H) : Type 0 where
    a : z.a ≡ x
    b : z.b ≡ y

  sides_if : (x y : SideMarks) (c : Bool) {s z : Store F P H} → AreSides x y s → AreSides x y z → AreSides x y (if c then s else z)
  sides_if x y true f g = f
  sides_if x y false f g = g

  gives_up_so : (s : Store F P H) (t : ℕ) (o : Option ℕ) → AreSides s.a s.b (gives_up s t o)
  gives_up_so s t None = record { a = refl; b = refl }
  gives_up_so s t (Some slot) = record { a = refl; b = refl }

  -- at most as many sides are up as before
  pub record Fewer (s z : Store F P H) : Type 0 where
    pub is : sides_up z ≤ sides_up s

  fewer_by : (s z : Store F P H) (x y : SideMarks) → AreSides x y z → both x.up y.up ≤ sides_up s → Fewer s z
  fewer_by s z x y e le = record {
    is = subst (λ (c : SideMarks). both c.up z.b.up ≤ sides_up s) (sym e.a) (subst (λ (c : SideMarks). both x.up c.up ≤ sides_up s) (sym e.b) le);
  }

  pub fewer_then : (s y z : Store F P H) → Fewer s y → Fewer y z → Fewer s z
  fewer_then s y z f g = let e = f.is in let k = g.is in record { is = omega (arith, e, k) }

  -- tracks that are queued
  queue_if : (n : ℕ) (c : Bool) (s z : Store F P H) → sides_up s ≡ n → sides_up z ≡ n → sides_up (if c then s else z) ≡ n
  queue_if n true s z e f = e
  queue_if n false s z e f = f

  queued_up : (o : Option ℕ) (s : Store F P H) (t : ℕ) → sides_up (queued o s t) ≡ sides_up s
  queued_up None s t = refl
  queued_up (Some last) s t =
      let more = record s { queue = s.queue ++ t ∷ [] } in
      let room = nat_lt (length s.queue) 64 in
      queue_if (sides_up s) (nat_le t last) (if room then more else s) s (queue_if (sides_up s) room more s refl refl) refl

  pub ahead_up : (u : Usage) (s : Store F P H) (t : ℕ) → sides_up (ahead u s t) ≡ sides_up s
  ahead_up u s t =
      let one = queued u.last s (t + 1) in
      queue_if (sides_up s) (is_sequential u.mode) (queued u.last one (t + 2)) s (queued_up u.last one (t + 2) ∙ queued_up u.last s (t + 1)) refl

  -- what notices leave
  pub record Same (s z : Store F P H) : Type 0 where
    pub a : z.a ≡ s.a
    pub b : z.b ≡ s.b
    pub held : z.held ≡ s.held
    pub half : z.half ≡ s.half
    pub cylinders : z.cylinders ≡ s.cylinders

  pub same_up : (s z : Store F P H) → Same s z → sides_up z ≡ sides_up s
  same_up s z e = ap (λ (x : _). both x.up z.b.up) e.a ∙ ap (λ (x : _). both s.a.up x.up) e.b

  pub same_takes : (s z : Store F P H) → Same s z → takes_b z ≡ takes_b s
  same_takes s z e = ap (λ (x : _). x.up && not z.held) e.b ∙ ap (λ (x : Bool). s.b.up && not x) e.held

  pub same_writing : (s z : Store F P H) → Same s z → sides_writing z ≡ sides_writing s
  same_writing s z e = ap (λ (x : _). both x.up (takes_b z)) e.a ∙ ap (λ (x : Bool). both s.a.up x) (same_takes s z e)

module _ {F P H R : Type 0} (c : Contents F P H R) where
  frame_so : (s : Store F P H) (t : ℕ) (o : Option F) → AreSides s.a s.b (by_frame c s t o)
  frame_so s t (Some f) =
      sides_if s.a s.b (is_loose s t) (record { a = refl; b = refl })
      (sides_if s.a s.b (c.modified f) (record { a = refl; b = refl }) (record { a = refl; b = refl }))
  frame_so s t None =
      sides_if s.a s.b (half_is s.half t) (record { a = refl; b = refl })
      (gives_up_so (with_lost s t) t (slot_in c (patch_at (with_lost s t) t)))

  settled_so : (s : Store F P H) (t : ℕ) → AreSides s.a s.b (settled c s t)
  unfolding L.settled
  settled_so s t =
      sides_if s.a s.b (is_some s.lent) (record { a = refl; b = refl })
      (sides_if s.a s.b (is_lost s t) (record { a = refl; b = refl })
      (sides_if s.a s.b (has_level s t) (record { a = refl; b = refl }) (frame_so s t (frame_at s t))))

  settled_but_so : (writing : Option ℕ) (q : ℕ) (s : Store F P H) → AreSides s.a s.b (settled_but c writing q s)
  settled_but_so None q s = settled_so s q
  settled_but_so (Some t) q s = sides_if s.a s.b (q == t) (record { a = refl; b = refl }) (settled_so s q)

  over_so : (n : ℕ) (writing : Option ℕ) (s : Store F P H) → AreSides s.a s.b (over n (settled_but c writing) s)
  unfolding L.over
  over_so zero writing s = record { a = refl; b = refl }
  over_so (suc n) writing s =
      let before = over_so n writing s in
      let here = settled_but_so writing n (over n (settled_but c writing) s) in
      record { a = here.a ∙ before.a; b = here.b ∙ before.b }

  lost_fewer : (s : Store F P H) (side : Side) (writing : Option ℕ) → Fewer s (side_lost c s side writing)
  unfolding L.side_lost
  lost_fewer s A writing = fewer_by s _ (down s A).a s.b (over_so (tracks_of s) writing (down s A)) (none_less s.a.up s.b.up)
  lost_fewer s B writing = fewer_by s _ s.a (down s B).b (over_so (tracks_of s) writing (down s B)) (last_less s.a.up s.b.up)

  firm_if : {A : Type 0} {p : Store F P H → A → Type 0} (b : Bool) {i j : Interaction R Image (Store F P H) A} → Always i p → Always j p →
      Always (if b then i else j) p
  firm_if true f g = f
  firm_if false f g = g

  firm_same : (t : ℕ) (s : Store F P H) → Always (firm_told c t s) (λ z _. AreSides s.a s.b z)
  firm_same t s =
      firm_if (owed_at s t).firm (always_tell (λ _. always_done (record { a = refl; b = refl }))) (always_done (record { a = refl; b = refl }))

  all_firm_same : (n : ℕ) (s : Store F P H) → Always (all_firm_told c n s) (λ z _. AreSides s.a s.b z)
  unfolding L.all_firm_told
  all_firm_same zero s = always_done (record { a = refl; b = refl })
  all_firm_same (suc n) s =
      always_then (all_firm_same n s) (λ z _ e. always_weaker (firm_same n z) (λ y _ f. record { a = f.a ∙ e.a; b = f.b ∙ e.b }))

  pub failed_fewer : (s : Store F P H) (side : Side) (writing : Option ℕ) → Always (call_failed c s side writing) (λ z _. Fewer s z)
  failed_fewer s side writing =
      let gone = side_lost c s side writing in
      firm_if s.paired
      (always_weaker (all_firm_same (tracks_of s) gone)
      (λ z _ e. fewer_then s gone z (lost_fewer s side writing) (fewer_by gone z gone.a gone.b e (omega arith))))
      (always_done (record { is = omega arith }))

  -- a call of side A that fails leaves side B
  lost_leaves : (s : Store F P H) (writing : Option ℕ) → (side_lost c s A writing).b ≡ s.b
  unfolding L.side_lost
  lost_leaves s writing = (over_so (tracks_of s) writing (down s A)).b

  pub failed_leaves : (s : Store F P H) (writing : Option ℕ) → Always (call_failed c s A writing) (λ z _. z.b ≡ s.b)
  failed_leaves s writing =
      firm_if s.paired (always_weaker (all_firm_same (tracks_of s) (side_lost c s A writing)) (λ z _ e. e.b ∙ lost_leaves s writing)) (always_done refl)

  -- Notices

  pub hear_same : (n : ℕ) (s : Store F P H) → Always (hear c n s) (λ y _. Same s y)
  hear_same n s =
      asks_always (hear_asks c (Same s) (λ z t clean e. record { a = e.a; b = e.b; held = e.held; half = e.half; cylinders = e.cylinders }) n s
      (record { a = refl; b = refl; held = refl; half = refl; cylinders = refl }))
