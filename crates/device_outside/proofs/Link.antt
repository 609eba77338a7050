-- A run with told pool, contents and failing calls, and memory had, is the other interaction's own run.
use Rattle.std.proofs.Common.{◌≡◌, ℕ, Bool, true, false, cond, List, Option, Some, None, is_some, set, get_or, refl, sym, ap, subst, ◌∙◌}
use Rattle.std.proofs.lemmas.List.{get_or_default}
use Rattle.ckd_types.specs.declared.paths.Side.{Side}
use Rattle.ckd_types.specs.declared.paths.Side.TheVariants as sides
use Rattle.device_outside.specs.Lists.{is_in}
use Rattle.device_outside.specs.Pool.{Pool, Call, FreeSlot, AnswerTo, answer, after, unnumbered}
use Rattle.device_outside.specs.Slots.{MayAsk, MayAnswer, Owns, gives_back, held_after, slots_after, SlotsTold}
use Rattle.device_outside.specs.Volume.{Plan, Planned, Delivers, Stores, VolumeView, ReadOf, WriteOf, counted}
use Rattle.device_outside.specs.Keeper.{Message, BeforeEdit, Firm, ReplyTo, reply, Hearing}
use Rattle.device_outside.specs.Interaction.{Interaction, Read, Write}
use Rattle.device_outside.specs.Outside.{ByPool, Outside, view_of, with_view, Had, Ran, done, tried, asked, read, wrote, told}
use Rattle.device_outside.specs.Told as H
use Rattle.device_outside.specs.Hears as E
use Rattle.device_outside.specs.Hears.{messages, HeardAll, heard_none, heard_next}
use Rattle.device_outside.specs.Told.{Calls, Told, calls_of, told_read, told_write, read_fails, write_fails, RunOutcome, hold}
use Rattle.device_outside.specs.After.{Holdings, holds_of, with_held, with_slots}
use Rattle.device_outside.specs.Both.{Both, both_done, both_try, both_ask, both_free, both_read, both_write, both_tell, SideIs, PoolTold, TellsAll, Linked}
use Rattle.device_outside.proofs.SharedSlots.{shared_after, free_of_own, counted_answer, counted_after, counted_free, owns_others}

side_is : {R K : Type 0} {others : List ℕ} (w : Outside R K) (h : Holdings R) (t : Told)
    (side : Side) {v : VolumeView R} → TellsAll others w h t → view_of w side ≡ Some v →
    SideIs v (holds_of h side) (calls_of t side)
side_is w h t sides.A i e = rw e at i.a
side_is w h t sides.B i e = rw e at i.b

read_side : {R : Type 0} {l : List R} {c : Calls} (n : ℕ) (got : Option R) {v u : VolumeView R} → SideIs v l c →
    ReadOf v n got u → SideIs u l (record c { reads = counted c.reads })
read_side n got i g = record {
  contents = ap (λ (y : VolumeView _). y.contents) g.after ∙ i.contents;
  reads = ap (λ (y : VolumeView _). y.reads) g.after ∙ ap counted i.reads;
  writes = ap (λ (y : VolumeView _). y.writes) g.after ∙ i.writes;
  plan = ap (λ (y : VolumeView _). y.plan) g.after ∙ i.plan;
}

read_told : {R K : Type 0} {others : List ℕ} (w : Outside R K) (h : Holdings R) (t : Told) (side : Side) (n : ℕ)
    (got : Option R) {v u : VolumeView R} → TellsAll others w h t → SideIs v (holds_of h side) (calls_of t side) →
    ReadOf v n got u → TellsAll others (with_view w side u) h (told_read t side)
read_told w h t sides.A n got i v g = record { pool = i.pool; mine = i.mine; slots = i.slots; shared = i.shared; a = read_side n got v g; b = i.b }
read_told w h t sides.B n got i v g = record { pool = i.pool; mine = i.mine; slots = i.slots; shared = i.shared; a = i.a; b = read_side n got v g }

write_side : {R : Type 0} {l k : List R} {c : Calls} (n : ℕ) (r : R) (ok : Bool) {v u : VolumeView R} →
    SideIs v l c → WriteOf v n r ok u → u.contents ≡ Some k → SideIs u k (record c { writes = counted c.writes })
write_side n r ok i g e = record {
  contents = e;
  reads = ap (λ (y : VolumeView _). y.reads) g.after ∙ i.reads;
  writes = ap (λ (y : VolumeView _). y.writes) g.after ∙ ap counted i.writes;
  plan = ap (λ (y : VolumeView _). y.plan) g.after ∙ i.plan;
}

write_told : {R K : Type 0} {others : List ℕ} (w : Outside R K) (h : Holdings R) (t : Told) (side : Side) (n : ℕ)
    (r x : R) (ok : Bool) {v u : VolumeView R} → TellsAll others w h t →
    SideIs v (holds_of h side) (calls_of t side) → WriteOf v n r ok u →
    u.contents ≡ Some (set (holds_of h side) n x) → TellsAll others (with_view w side u) (with_held h side n x)
    (told_write t side)
write_told w h t sides.A n r x ok i v g c = record { pool = i.pool; mine = i.mine; slots = i.slots; shared = i.shared; a = write_side n r ok v g c; b = i.b }
write_told w h t sides.B n r x ok i v g c = record { pool = i.pool; mine = i.mine; slots = i.slots; shared = i.shared; a = i.a; b = write_side n r ok v g c }

-- a told pool behind a call: what the other is answered, and where its pool goes
record Said (others mine : List ℕ) (c : Call) (a : AnswerTo c) (t : Pool) (d : Call) (b : AnswerTo d) (new : Option Pool) : Type 0 where
  free : MayAnswer (Some mine) c a
  answer : b ≡ answer t d
  pool : PoolTold new (after t d b)
  shared : SlotsTold new (Some (slots_after mine c a)) others

said : (others mine : List ℕ) (old new : Option Pool) (t : Pool) (c : Call) (a : AnswerTo c) →
    gives_back c ≡ false → PoolTold old t → SlotsTold old (Some mine) others → ByPool old c a new →
    Said others mine c a t c (unnumbered c a) new
said others mine None new t c a e p s b = absurd p
said others mine (Some o) new t c a e p s b = record {
  free = free_of_own o c a mine others s b.0.free;
  answer = b.0.same ∙ sym (counted_answer o c) ∙ ap (λ (v : Pool). answer v c) (sym p);
  pool = subst (λ (v : Option Pool). PoolTold v (after t c (unnumbered c a))) (sym b.1)
      (ap (λ (v : Pool). after v c (unnumbered c a)) p ∙ counted_after o c a e);
  shared = subst (λ (v : Option Pool). SlotsTold v (Some (slots_after mine c a)) others) (sym b.1)
      (shared_after o c a mine others (owns_others mine c e) b.0.free s);
}

freed : (others mine : List ℕ) (old new : Option Pool) (t : Pool) (k : ℕ) (a : AnswerTo (FreeSlot k)) →
    Owns mine (FreeSlot k) → PoolTold old t → SlotsTold old (Some mine) others → ByPool old (FreeSlot k) a new →
    Said others mine (FreeSlot k) a t (FreeSlot 0) tt new
freed others mine None new t k a e p s b = absurd p
freed others mine (Some o) new t k a e p s b = record {
  free = tt;
  answer = refl;
  pool = subst (λ (v : Option Pool). PoolTold v (after t (FreeSlot 0) tt)) (sym b.1)
      (ap (λ (v : Pool). after v (FreeSlot 0) tt) p ∙ counted_free o k (s.own k e));
  shared = subst (λ (v : Option Pool). SlotsTold v (Some (slots_after mine (FreeSlot k) a)) others) (sym b.1)
      (shared_after o (FreeSlot k) a mine others e b.0.free s);
}

planned : (o : Option Plan) (p : Plan) (of : Plan → List ℕ) (m n : ℕ) (ok : Bool) → o ≡ Some p → m ≡ n →
    Planned o of (counted m) ok → ok ≡ cond (is_in (counted n) (of p)) false true
planned o p of m n ok e f g = let h : ok ≡ cond (is_in (counted m) (of p)) false true =
    rw e at g in h ∙ ap (λ (v : ℕ). cond (is_in (counted v) (of p)) false true) f

read_both : {R O I S A T B : Type 0} (z : R) (g : O) (q : S → A → T → B → Holdings R → Type 0) (k : Option R →
    Interaction R I S A) (l : Option O → Interaction O I T B) (h : Holdings R) (side : Side) (n : ℕ)
    (got : Option R) (b : Bool) → is_some got ≡ cond b false true → Delivers (Some (holds_of h side)) n got →
    Both z g q (k None) (l None) h → Both z g q (k (Some (get_or (holds_of h side) n z))) (l (Some g)) h →
    Both z g q (k got) (l (cond b None (Some g))) h
read_both z g q k l h side n None true p d x y = x
read_both z g q k l h side n None false p d x y = absurd (cc)
read_both z g q k l h side n (Some r) true p d x y = absurd (cc)
read_both z g q k l h side n (Some r) false p d x y = subst (λ v. Both z g q (k (Some v)) (l (Some g)) h)
    (get_or_default (holds_of h side) n z r d.0 ∙ sym d.1) y

record Put {R O I S A T B : Type 0} (z : R) (g : O) (q : S → A → T → B → Holdings R →
    Type 0) (k : Interaction R I S A) (l : Interaction O I T B) (h : Holdings R) (side : Side) (n : ℕ)
    (new : Option (List R)) : Type 0 where
  left : R
  holds : new ≡ Some (set (holds_of h side) n left)
  next : Both z g q k l (with_held h side n left)

write_both : {R O I S A T B : Type 0} (z : R) (g : O) (q : S → A → T → B → Holdings R → Type 0) (k : Bool →
    Interaction R I S A) (l : Bool → Interaction O I T B) (h : Holdings R) (side : Side) (n : ℕ) (r : R)
    (ok b : Bool) (new : Option (List R)) → ok ≡ cond b false true → Stores (Some (holds_of h side)) n r ok new →
    Both z g q (k true) (l true) (with_held h side n r) → ((x : R) →
    Both z g q (k false) (l false) (with_held h side n x)) → Put z g q (k ok) (l (cond b false true)) h side n new
write_both z g q k l h side n r true true new p d x y = absurd (cc)
write_both z g q k l h side n r true false new p d x y = record { left = r; holds = d; next = x }
write_both z g q k l h side n r false true new p d x y = record { left = d.0; holds = d.1; next = y d.0 }
write_both z g q k l h side n r false false new p d x y = absurd (cc)

try_both : {R O I S A T B : Type 0} (z : R) (g : O) (q : S → A → T → B → Holdings R → Type 0) (k : Bool →
    Interaction R I S A) (l : Bool → Interaction O I T B) (h : Holdings R) (ok : Bool) → ok ≡ true →
    Both z g q (k true) (l true) h → Both z g q (k ok) (l true) h
try_both z g q k l h ok e x = subst (λ (v : Bool). Both z g q (k v) (l true) h) (sym e) x

-- where memory is had, a keeper's reply is known
had_reply : {I : Type 0} {had : Bool → Type 0} (m : Message I) (r : ReplyTo m) → ((ok : Bool) → had ok → ok ≡ true) → Had had m r → r ≡ reply m
had_reply (BeforeEdit d t i) r f x = f r x
had_reply (Firm d t i) r f x = refl

pub with_slots_told : {R : Type 0} (h : Holdings R) (mine : List ℕ) (c : Call) (a : AnswerTo c) →
    h.slots ≡ Some mine → held_after h.slots c a ≡ Some (slots_after mine c a)
with_slots_told h mine c a e = ap (λ (v : Option (List ℕ)). held_after v c a) e

module _ {R O I K S A T B : Type 0} {had : Bool → Type 0} {hears : Hearing I K} (others : List ℕ)
    (memory : (ok : Bool) → had ok → ok ≡ true) (z : R) (g : O) (q : S → A → T → B → Holdings R → Type 0) where
  pub linked : {i : Interaction R I S A} {j : Interaction O I T B} (h : Holdings R)
      (t : Told) {u w : Outside R K} {s : S} {a : A} → Both z g q i j h → Ran had hears i u s a w →
      TellsAll others u h t → Linked others g q j t s a w
  unfolding H.hold
  linked h t (both_done x) done i = record { state = _; answer = _; holdings = h; told = t; ran = refl; is = x; tells = i }
  linked h t (both_try {k = k} {l = l} x y) (tried ok m r) i =
      let o = linked h t (try_both z g q k l h ok (memory ok m) x) r i in
      record { state = o.state; answer = o.answer; holdings = o.holdings; told = o.told; ran = o.ran; is = o.is; tells = o.tells }
  linked h t {u = w} (both_ask {call = call} {l = l} e x) (asked {a = a} {p = p} says r) i =
      let f = said others i.mine w.port.pool p.pool t.pool call a e i.pool i.shared says.by_pool in
      let b = unnumbered call a in
      let o = linked (with_slots h call a) (record t { pool = after t.pool call b })
      (x a (subst (λ (v : Option (List ℕ)). MayAnswer v call a) (sym i.slots) f.free)) r
      (record {
        pool = f.pool;
        mine = slots_after i.mine call a;
        slots =
            with_slots_told h i.mine call a i.slots;
        shared = f.shared;
        a = i.a;
        b = i.b;
      }) in
      record {
        state = o.state;
        answer = o.answer;
        holdings = o.holdings;
        told = o.told;
        ran =
            ap (λ (v : AnswerTo call). hold g (l v) (record t { pool = after t.pool call v }))
            (sym f.answer) ∙ o.ran;
        is = o.is;
        tells = o.tells;
      }
  linked h t {u = w} (both_free {slot = k} {l = l} e x) (asked {a = a} {p = p} says r) i =
      let f = freed others i.mine w.port.pool p.pool t.pool k a (subst
      (λ (v : Option (List ℕ)). MayAsk v (FreeSlot k)) i.slots e) i.pool i.shared says.by_pool in
      let o = linked (with_slots h (FreeSlot k) tt) (record t { pool = after t.pool (FreeSlot 0) tt }) x r
      (record {
        pool = f.pool;
        mine = slots_after i.mine (FreeSlot k) a;
        slots =
            with_slots_told h i.mine (FreeSlot k) a i.slots;
        shared = f.shared;
        a = i.a;
        b = i.b;
      }) in
      record { state = o.state; answer = o.answer; holdings = o.holdings; told = o.told; ran = o.ran; is = o.is; tells = o.tells }
  linked h t {u = w} (both_read {side = side} {t = n} {k = k} {l = l} x y) (read {got = got} {v = v} {u = u} e gives r) i =
      let f = side_is w h t side i e in
      let d : Delivers (Some (holds_of h side)) n got = rw f.contents at gives.delivers in
      let p : is_some got ≡ cond (read_fails (calls_of t side)) false true =
      planned v.plan (calls_of t side).plan (λ (y : Plan). y.reads) v.reads (calls_of t side).reads
      (is_some got) f.plan f.reads gives.planned in
      let o = linked h (told_read t side) (read_both z g q k l h side n got
      (read_fails (calls_of t side)) p d x y) r (read_told w h t side n got i f gives) in
      record { state = o.state; answer = o.answer; holdings = o.holdings; told = o.told; ran = o.ran; is = o.is; tells = o.tells }
  linked h t {u = w} (both_write {side = side} {t = n} {r = b} {k = k} {l = l} x y) (wrote {ok = ok} {v = v} {u = u} e takes r) i =
      let f = side_is w h t side i e in
      let d : Stores (Some (holds_of h side)) n b ok u.contents = rw f.contents at takes.stores in
      let p : ok ≡ cond (write_fails (calls_of t side)) false true =
      planned v.plan (calls_of t side).plan (λ (y : Plan). y.writes) v.writes
      (calls_of t side).writes ok f.plan f.writes takes.planned in
      let m = write_both z g q k l h side n b ok (write_fails (calls_of t side)) u.contents p d x y in
      let o = linked (with_held h side n m.left) (told_write t side) m.next r (write_told w h t side n b m.left ok i f takes m.holds) in
      record { state = o.state; answer = o.answer; holdings = o.holdings; told = o.told; ran = o.ran; is = o.is; tells = o.tells }
  linked h t (both_tell {m = m} {k = k} {l = l} x) (told y heard n r) i =
      let e = had_reply m y memory n in
      let o = linked h t (subst (λ (v : ReplyTo m). Both z g q (k y) (l v) h) e (x y)) r
      (record { pool = i.pool; mine = i.mine; slots = i.slots; shared = i.shared; a = i.a; b = i.b }) in
      record { state = o.state; answer = o.answer; holdings = o.holdings; told = o.told; ran = o.ran; is = o.is; tells = o.tells }

-- What the keeper hears are the messages of the other one's run, in order

keeper_stays : {R K : Type 0} (w : Outside R K) (side : Side) (v : VolumeView R) → (with_view w side v).keeper ≡ w.keeper
keeper_stays w sides.A v = refl
keeper_stays w sides.B v = refl

module _ {R O I K S A T B : Type 0} {had : Bool → Type 0} {hears : Hearing I K} (others : List ℕ)
    (memory : (ok : Bool) → had ok → ok ≡ true) (z : R) (g : O) (q : S → A → T → B → Holdings R → Type 0) where
  pub linked_hears : {i : Interaction R I S A} {j : Interaction O I T B} (h : Holdings R)
      (t : Told) {u w : Outside R K} {s : S} {a : A} → Both z g q i j h → Ran had hears i u s a w →
      TellsAll others u h t → HeardAll hears u.keeper (messages g j t) w.keeper
  unfolding E.messages
  linked_hears h t (both_done x) done i = heard_none
  linked_hears h t (both_try {k = k} {l = l} x y) (tried ok m r) i = linked_hears h t (try_both z g q k l h ok (memory ok m) x) r i
  linked_hears h t {u = w} {w = last} (both_ask {call = call} {l = l} e x) (asked {a = a} {p = p} says r) i =
      let f = said others i.mine w.port.pool p.pool t.pool call a e i.pool i.shared says.by_pool in
      let b = unnumbered call a in
      subst (λ (v : AnswerTo call). HeardAll hears w.keeper (messages g (l v) (record t { pool = after t.pool call v })) last.keeper) f.answer
      (linked_hears (with_slots h call a) (record t { pool = after t.pool call b })
      (x a (subst (λ (v : Option (List ℕ)). MayAnswer v call a) (sym i.slots) f.free)) r
      (record {
        pool = f.pool;
        mine = slots_after i.mine call a;
        slots =
            with_slots_told h i.mine call a i.slots;
        shared = f.shared;
        a = i.a;
        b = i.b;
      }))
  linked_hears h t {u = w} (both_free {slot = k} {l = l} e x) (asked {a = a} {p = p} says r) i =
      let f = freed others i.mine w.port.pool p.pool t.pool k a (subst
      (λ (v : Option (List ℕ)). MayAsk v (FreeSlot k)) i.slots e) i.pool i.shared says.by_pool in
      linked_hears (with_slots h (FreeSlot k) tt) (record t { pool = after t.pool (FreeSlot 0) tt }) x r
      (record {
        pool = f.pool;
        mine = slots_after i.mine (FreeSlot k) a;
        slots =
            with_slots_told h i.mine (FreeSlot k) a i.slots;
        shared = f.shared;
        a = i.a;
        b = i.b;
      })
  linked_hears h t {u = w} {w = last} (both_read {side = side} {t = n} {k = k} {l = l} x y) (read {got = got} {v = v} {u = u} e gives r) i =
      let f = side_is w h t side i e in
      let d : Delivers (Some (holds_of h side)) n got = rw f.contents at gives.delivers in
      let p : is_some got ≡ cond (read_fails (calls_of t side)) false true =
      planned v.plan (calls_of t side).plan (λ (y : Plan). y.reads) v.reads (calls_of t side).reads
      (is_some got) f.plan f.reads gives.planned in
      subst (λ (c : K). HeardAll hears c (messages g (Read side n l) t) last.keeper) (keeper_stays w side u)
      (linked_hears h (told_read t side) (read_both z g q k l h side n got
      (read_fails (calls_of t side)) p d x y) r (read_told w h t side n got i f gives))
  linked_hears h t {u = w} {w = last} (both_write {side = side} {t = n} {r = b} {k = k} {l = l} x y) (wrote {ok = ok} {v = v} {u = u} e takes r) i =
      let f = side_is w h t side i e in
      let d : Stores (Some (holds_of h side)) n b ok u.contents = rw f.contents at takes.stores in
      let p : ok ≡ cond (write_fails (calls_of t side)) false true =
      planned v.plan (calls_of t side).plan (λ (y : Plan). y.writes) v.writes
      (calls_of t side).writes ok f.plan f.writes takes.planned in
      let m = write_both z g q k l h side n b ok (write_fails (calls_of t side)) u.contents p d x y in
      subst (λ (c : K). HeardAll hears c (messages g (Write side n g l) t) last.keeper) (keeper_stays w side u)
      (linked_hears (with_held h side n m.left) (told_write t side) m.next r (write_told w h t side n b m.left ok i f takes m.holds))
  linked_hears h t {u = w} (both_tell {m = m} {k = k} {l = l} x) (told {l = kept} y heard n r) i =
      let e = had_reply m y memory n in
      heard_next (subst (λ (v : ReplyTo m). hears w.keeper m v kept) e heard)
      (linked_hears h t (subst (λ (v : ReplyTo m). Both z g q (k y) (l v) h) e (x y)) r
      (record { pool = i.pool; mine = i.mine; slots = i.slots; shared = i.shared; a = i.a; b = i.b }))
