-- What holds behind the run of a device's event over a port that tells no pool, where memory is had and its volumes tell what they hold: the step over
-- marks can come to the device beside it.
use Rattle.std.proofs.Common.{◌≡◌, ℕ, Bool, true, false, List, Option, Some, None, set, get_or, refl, ap, sym, subst, ◌∙◌}
use Rattle.std.proofs.lemmas.List.{get_or_default}
use Rattle.ckd_types.specs.declared.paths.Side.{Side}
use Rattle.ckd_types.specs.declared.paths.Side.TheVariants as sides
use Rattle.device_outside.specs.Both.{Both, both_done, both_try, both_ask, both_free, both_read, both_write, both_tell}
use Rattle.device_outside.specs.Pool.{Call, FreeSlot, AnswerTo, unnumbered}
use Rattle.device_outside.specs.Slots.{MayAnswer, held_after}
use Rattle.device_outside.specs.Volume.{VolumeView, Delivers, Stores}
use Rattle.device_outside.specs.Keeper.{Hearing, Message, BeforeEdit, Firm, ReplyTo, reply}
use Rattle.device_outside.specs.Interaction.{Interaction}
use Rattle.device_outside.specs.Outside.{Outside, view_of, with_view, Had, Ran, done, tried, asked, read, wrote, told}
use Rattle.device_outside.specs.After.{Holdings, holds_of, with_held, with_slots}
use Rattle.subsystem_laws.specs.Standing.{Untold}
use Rattle.device_laws.proofs.Always as V
use Rattle.device_laws.proofs.Always.{Behind}
use Rattle.subsystem_laws.specs.Came as C
use Rattle.subsystem_laws.specs.Came.{Came, delivered}

side_tells : {R K : Type 0} (w : Outside R K) (h : Holdings R) (side : Side) {v : VolumeView R} → Untold w h → view_of w side ≡ Some v →
    v.contents ≡ Some (holds_of h side)
side_tells w h sides.A t e = rw e at t.a
side_tells w h sides.B t e = rw e at t.b

has_same : {R K : Type 0} (w : Outside R K) (h : Holdings R) (side : Side) (u : VolumeView R) → Untold w h → u.contents ≡ Some (holds_of h side) →
    Untold (with_view w side u) h
has_same w h sides.A u t e = record { a = e; b = t.b; slots = t.slots }
has_same w h sides.B u t e = record { a = t.a; b = e; slots = t.slots }

has_written : {R K : Type 0} (w : Outside R K) (h : Holdings R) (side : Side) (u : VolumeView R) (t : ℕ) (r : R) → Untold w h →
    u.contents ≡ Some (set (holds_of h side) t r) → Untold (with_view w side u) (with_held h side t r)
has_written w h sides.A u t r x e = record { a = e; b = x.b; slots = x.slots }
has_written w h sides.B u t r x e = record { a = x.a; b = e; slots = x.slots }

asked_still : {R K : Type 0} (w : Outside R K) (h : Holdings R) (p : _) (call : Call) (a : AnswerTo call) → Untold w h →
    Untold (record w { port = p }) (with_slots h call a)
asked_still w h p call a t = record { a = t.a; b = t.b; slots = ap (λ (o : Option (List ℕ)). held_after o call a) t.slots }

may_answer : (slots : Option (List ℕ)) (call : Call) (a : AnswerTo call) → slots ≡ None → MayAnswer slots call a
may_answer slots call a is = subst (λ (o : Option (List ℕ)). MayAnswer o call a) (sym is) tt

-- the other one's end, which it can come to
pub record Twinned {R K I S A T B : Type 0} (q : S → A → T → B → Holdings R → Type 0) (j : Interaction Bool I T B) (s : S) (a : A) (w : Outside R K) : Type 0
  where
    pub state : T
    pub answer : B
    pub holdings : Holdings R
    pub untold : Untold w holdings
    pub is : q s a state answer holdings
    pub came : Came j state answer

module _ {R I S A T B : Type 0} (z : R) (q : S → A → T → B → Holdings R → Type 0) where
  -- behind a read
  record GoesOn (k : Option R → Interaction R I S A) (l : Option Bool → Interaction Bool I T B) (h : Holdings R) (got : Option R) : Type 0 where
    ok : Bool
    both : Both z true q (k got) (l (delivered ok)) h

  after_got : (k : Option R → Interaction R I S A) (l : Option Bool → Interaction Bool I T B) (h : Holdings R) (side : Side) (n : ℕ) (got : Option R) →
      Delivers (Some (holds_of h side)) n got → Both z true q (k None) (l None) h →
      Both z true q (k (Some (get_or (holds_of h side) n z))) (l (Some true)) h → GoesOn k l h got
  after_got k l h side n None d x y = record { ok = false; both = x }
  after_got k l h side n (Some r) d x y = record {
    ok = true;
    both = subst (λ (v : R). Both z true q (k (Some v)) (l (Some true)) h) (get_or_default (holds_of h side) n z r d.0 ∙ sym d.1) y;
  }

  -- behind a write
  record Wrote (k : Bool → Interaction R I S A) (l : Bool → Interaction Bool I T B) (h : Holdings R) (side : Side) (n : ℕ) (ok : Bool) (new : Option (List R)) :
      Type 0 where
    left : R
    holds : new ≡ Some (set (holds_of h side) n left)
    both : Both z true q (k ok) (l ok) (with_held h side n left)

  after_put : (k : Bool → Interaction R I S A) (l : Bool → Interaction Bool I T B) (h : Holdings R) (side : Side) (n : ℕ) (b : R) (ok : Bool)
      (new : Option (List R)) → Stores (Some (holds_of h side)) n b ok new → Both z true q (k true) (l true) (with_held h side n b) →
      ((x : R) → Both z true q (k false) (l false) (with_held h side n x)) → Wrote k l h side n ok new
  after_put k l h side n b true new e x y = record { left = b; holds = e; both = x }
  after_put k l h side n b false new e x y = record { left = e.0; holds = e.1; both = y e.0 }

  module _ {K : Type 0} {hears : Hearing I K} (heard : (k : K) (m : Message I) (r : ReplyTo m) (l : K) → hears k m r l → r ≡ reply m) where
    -- what one of its answers comes to
    by_one : {i j : Interaction Bool I T B} {s : S} {a : A} {w : Outside R K} → ((y : T) (b : B) → Came i y b → Came j y b) →
        Twinned q i s a w → Twinned q j s a w
    by_one f o = record { state = o.state; answer = o.answer; holdings = o.holdings; untold = o.untold; is = o.is; came = f o.state o.answer o.came }

    pub twinned : {i : Interaction R I S A} {j : Interaction Bool I T B} (h : Holdings R) {u w : Outside R K} {s : S} {a : A} → Both z true q i j h →
        Untold u h → Ran (λ ok. ok ≡ true) hears i u s a w → Twinned q j s a w
    unfolding C.Came
    twinned h (both_done x) t done = record { state = _; answer = _; holdings = h; untold = t; is = x; came = (refl, refl) }
    twinned h (both_try x y) t (tried true m r) = by_one (λ y b c. c) (twinned h x t r)
    twinned h (both_try x y) t (tried false m r) = absurd (cc)
    twinned h {u = u} (both_ask {call = call} e x) t (asked {a = a} {p = port} says r) =
        by_one (λ y b c. (unnumbered call a, c))
        (twinned (with_slots h call a) (x a (may_answer h.slots call a t.slots)) (asked_still u h port call a t) r)
    twinned h {u = u} (both_free {slot = slot} o x) t (asked {a = a} {p = port} says r) =
        by_one (λ y b c. (tt, c)) (twinned (with_slots h (FreeSlot slot) tt) x (asked_still u h port (FreeSlot slot) tt t) r)
    twinned h {u = u} (both_read {side = side} {t = n} {k = k} {l = l} x y) t (read {got = got} {v = v} {u = new} seen gives r) =
        let c = side_tells u h side t seen in
        let on = after_got k l h side n got (rw c at gives.delivers) x y in
        by_one (λ y b c. (on.ok, c)) (twinned h on.both (has_same u h side new t (ap (λ (y : VolumeView _). y.contents) gives.after ∙ c)) r)
    twinned h {u = u} (both_write {side = side} {t = n} {r = b} {k = k} {l = l} x y) t (wrote {ok = ok} {v = v} {u = new} seen takes r) =
        let c = side_tells u h side t seen in
        let put = after_put k l h side n b ok new.contents (rw c at takes.stores) x y in
        by_one (λ y b c. (ok, c)) (twinned (with_held h side n put.left) put.both (has_written u h side new n put.left t put.holds) r)
    twinned h {u = u} (both_tell {m = m} {l = l} x) t (told {l = keeper} y hears had r) =
        by_one (λ z b c. subst (λ (r : ReplyTo m). Came (l r) z b) (heard u.keeper m y keeper hears) c)
        (twinned h (x y) (record { a = t.a; b = t.b; slots = t.slots }) r)

-- Whether memory was had or not: the other one's end, and what always holds behind it

pub record Along {R K S A T B : Type 0} (p : T → B → Type 0) (q : S → A → T → B → Holdings R → Type 0) (s : S) (a : A) (w : Outside R K) : Type 0 where
  pub state : T
  pub answer : B
  pub holdings : Holdings R
  pub untold : Untold w holdings
  pub is : q s a state answer holdings
  pub so : p state answer

module _ {R I S A T B : Type 0} (z : R) (q : S → A → T → B → Holdings R → Type 0) (p : T → B → Type 0) where
  pub along : {K : Type 0} {had : Bool → Type 0} {hears : Hearing I K} {i : Interaction R I S A} {j : Interaction Bool I T B} (h : Holdings R)
      {u w : Outside R K} {s : S} {a : A} → Both z true q i j h → Behind j p → Untold u h → Ran had hears i u s a w → Along p q s a w
  unfolding V.Behind
  along h (both_done x) b t done = record { state = _; answer = _; holdings = h; untold = t; is = x; so = b }
  along h (both_try x y) b t (tried true m r) = along h x (b true) t r
  along h (both_try x y) b t (tried false m r) = along h y (b false) t r
  along h {u = u} (both_ask {call = call} e x) b t (asked {a = a} {p = port} says r) =
      along (with_slots h call a) (x a (may_answer h.slots call a t.slots)) (b (unnumbered call a)) (asked_still u h port call a t) r
  along h {u = u} (both_free {slot = slot} o x) b t (asked {a = a} {p = port} says r) =
      along (with_slots h (FreeSlot slot) tt) x (b tt) (asked_still u h port (FreeSlot slot) tt t) r
  along h {u = u} (both_read {side = side} {t = n} {k = k} {l = l} x y) b t (read {got = got} {v = v} {u = new} seen gives r) =
      let c = side_tells u h side t seen in
      let on = after_got z q k l h side n got (rw c at gives.delivers) x y in
      along h on.both (b (delivered on.ok)) (has_same u h side new t (ap (λ (y : VolumeView _). y.contents) gives.after ∙ c)) r
  along h {u = u} (both_write {side = side} {t = n} {r = bytes} {k = k} {l = l} x y) b t (wrote {ok = ok} {v = v} {u = new} seen takes r) =
      let c = side_tells u h side t seen in
      let put = after_put z q k l h side n bytes ok new.contents (rw c at takes.stores) x y in
      along (with_held h side n put.left) put.both (b ok) (has_written u h side new n put.left t put.holds) r
  along h {u = u} (both_tell {m = m} {l = l} x) b t (told {l = keeper} y hears had r) =
      along h (x y) (b y) (record { a = t.a; b = t.b; slots = t.slots }) r

-- Where memory was had, each reply is the one where memory is had, whatever the keeper makes of what it hears

reply_by : {I : Type 0} (m : Message I) (r : ReplyTo m) → Had (λ ok. ok ≡ true) m r → r ≡ reply m
reply_by (BeforeEdit d t i) ok h = h
reply_by (Firm d t i) r h = refl

pub replied : {R I K S A : Type 0} {hears : Hearing I K} {i : Interaction R I S A} {u w : Outside R K} {s : S} {a : A} →
    Ran (λ ok. ok ≡ true) hears i u s a w → Ran (λ ok. ok ≡ true) (λ _ m r _. r ≡ reply m) i u s a w
replied done = done
replied (tried ok x h) = tried ok x (replied h)
replied (asked a h) = asked a (replied h)
replied (read is a h) = read is a (replied h)
replied (wrote is a h) = wrote is a (replied h)
replied (told {m = m} r a x h) = told r (reply_by m r x) x (replied h)
