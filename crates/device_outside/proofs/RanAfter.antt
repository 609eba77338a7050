-- What surely holds after an interaction holds after each run of it with volumes that tell what they hold.
use Rattle.std.proofs.Common.{◌≡◌, ℕ, Bool, true, false, List, Option, Some, None, set, get_or, ap, sym, subst, ◌∙◌}
use Rattle.std.proofs.lemmas.List.{get_or_default}
use Rattle.ckd_types.specs.declared.paths.Side.{Side}
use Rattle.ckd_types.specs.declared.paths.Side.TheVariants as sides
use Rattle.device_outside.specs.Pool.{Pool, Call, AnswerTo}
use Rattle.device_outside.specs.Slots.{MayAsk, MayAnswer, held_after, SlotsTold}
use Rattle.device_outside.specs.Volume.{VolumeView, Delivers, Stores}
use Rattle.device_outside.specs.Keeper.{Hearing}
use Rattle.device_outside.specs.Interaction.{Interaction, Done, Try, Ask, Read, Write, Tell}
use Rattle.device_outside.specs.Outside.{ByPool, Outside, view_of, with_view, Ran, done, tried, asked, read, wrote, told}
use Rattle.device_outside.specs.After as W
use Rattle.device_outside.specs.After.{After, Holdings, holds_of, with_held, with_slots, Tells, Has, Holds}
use Rattle.device_outside.proofs.SharedSlots.{shared_after, free_of_own}

side_tells : {R K : Type 0} {others : List ℕ} (w : Outside R K) (h : Holdings R) (side : Side) {v : VolumeView R} →
    Has others w h → view_of w side ≡ Some v → v.contents ≡ Some (holds_of h side)
side_tells w h sides.A t e = rw e at t.a
side_tells w h sides.B t e = rw e at t.b

has_same : {R K : Type 0} {others : List ℕ} (w : Outside R K) (h : Holdings R) (side : Side) (u : VolumeView R) →
    Has others w h → u.contents ≡ Some (holds_of h side) → Has others (with_view w side u) h
has_same w h sides.A u t e = record { a = e; b = t.b; slots = t.slots }
has_same w h sides.B u t e = record { a = t.a; b = e; slots = t.slots }

has_written : {R K : Type 0} {others : List ℕ} (w : Outside R K) (h : Holdings R) (side : Side) (u : VolumeView R)
    (t : ℕ) (r : R) → Has others w h → u.contents ≡ Some (set (holds_of h side) t r) →
    Has others (with_view w side u) (with_held h side t r)
has_written w h sides.A u t r x e = record { a = e; b = x.b; slots = x.slots }
has_written w h sides.B u t r x e = record { a = x.a; b = e; slots = x.slots }

-- what the pool tells of slots behind a call
record Told (others : List ℕ) (slots : Option (List ℕ)) (c : Call) (a : AnswerTo c) (new : Option Pool) : Type 0 where
  may : MayAnswer slots c a
  told : SlotsTold new (held_after slots c a) others

slots_told : (others : List ℕ) (old new : Option Pool) (slots : Option (List ℕ)) (c : Call) (a : AnswerTo c) →
    MayAsk slots c → SlotsTold old slots others → ByPool old c a new → Told others slots c a new
slots_told others old new None c a o s b = record { may = tt; told = tt }
slots_told others None new (Some mine) c a o s b = absurd s
slots_told others (Some p) new (Some mine) c a o s b = record {
  may = free_of_own p c a mine others s b.0.free;
  told = subst (λ (v : Option Pool). SlotsTold v (held_after (Some mine) c a) others) (sym b.1) (shared_after p c a mine others o b.0.free s);
}

after_got : {R I S A : Type 0} (z : R) (k : Option R → Interaction R I S A) (h : Holdings R) (side : Side) (n : ℕ)
    (q : S → A → Holdings R → Type 0) (g : Option R) → Delivers (Some (holds_of h side)) n g →
    After z (k None) h q → After z (k (Some (get_or (holds_of h side) n z))) h q → After z (k g) h q
after_got z k h side n q None d x y = x
after_got z k h side n q (Some r) d x y = subst (λ (v : _). After z (k (Some v)) h q) (get_or_default (holds_of h side) n z r d.0 ∙ sym d.1) y

-- what a write leaves, by whether it failed
record Wrote {R I S A : Type 0} (z : R) (k : Bool → Interaction R I S A) (h : Holdings R) (side : Side) (n : ℕ)
    (q : S → A → Holdings R → Type 0) (ok : Bool) (new : Option (List R)) : Type 0 where
  left : R
  holds : new ≡ Some (set (holds_of h side) n left)
  next : After z (k ok) (with_held h side n left) q

after_put : {R I S A : Type 0} (z : R) (k : Bool → Interaction R I S A) (h : Holdings R) (side : Side) (n : ℕ)
    (b : R) (q : S → A → Holdings R → Type 0) (ok : Bool) (new : Option (List R)) →
    Stores (Some (holds_of h side)) n b ok new → After z (k true) (with_held h side n b) q →
    ((x : R) → After z (k false) (with_held h side n x) q) → Wrote z k h side n q ok new
after_put z k h side n b q true new e x y = record { left = b; holds = e; next = x }
after_put z k h side n b q false new e x y = record { left = e.0; holds = e.1; next = y e.0 }

after_tried : {R I S A : Type 0} (z : R) (k : Bool → Interaction R I S A) (h : Holdings R) (q : S → A → Holdings R →
    Type 0) (ok : Bool) → After z (k true) h q × After z (k false) h q → After z (k ok) h q
after_tried z k h q true x = x.0
after_tried z k h q false x = x.1

module _ {R I K S A : Type 0} {had : Bool → Type 0} {hears : Hearing I K} (others : List ℕ) (z : R) where
  pub ran_after : (i : Interaction R I S A) (q : S → A → Holdings R →
      Type 0) (h : Holdings R) {u w : Outside R K} {s : S} {a : A} → Has others u h → Ran had hears i u s a w →
      After z i h q → Holds others q s a w
  unfolding W.After
  ran_after (Done s a) q h t done x = record { holdings = h; has = t; is = x }
  ran_after (Try k) q h t (tried ok m r) x = ran_after (k ok) q h t r (after_tried z k h q ok x)
  ran_after (Ask call k) q h {u = w} t (asked {a = a} {p = p} says r) x =
      let f = slots_told others w.port.pool p.pool h.slots call a x.0 t.slots says.by_pool in
      ran_after (k a) q (with_slots h call a) (record { a = t.a; b = t.b; slots = f.told }) r (x.1 a f.may)
  ran_after (Read side n k) q h {u = w} t (read {got = got} {v = v} {u = u} e gives r) x =
      let c = side_tells w h side t e in
      ran_after (k got) q h (has_same w h side u t (ap (λ (y : VolumeView _). y.contents) gives.after ∙ c)) r
      (after_got z k h side n q got (rw c at gives.delivers) x.0 x.1)
  ran_after (Write side n b k) q h {u = w} t (wrote {ok = ok} {v = v} {u = u} e takes r) x =
      let c = side_tells w h side t e in
      let p = after_put z k h side n b q ok u.contents (rw c at takes.stores) x.0 x.1 in
      ran_after (k ok) q (with_held h side n p.left) (has_written w h side u n p.left t p.holds) r p.next
  ran_after (Tell m k) q h t (told y heard n r) x = ran_after (k y) q h (record { a = t.a; b = t.b; slots = t.slots }) r (x y)
