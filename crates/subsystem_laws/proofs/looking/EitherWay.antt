-- A look leaves the same device whether memory is had or not: what it lacks memory for changes nothing but its answer.
use Rattle.std.proofs.Common.{◌≡◌, zero, suc, ℕ, Bool, true, false, Option, Some, None, is_some, refl, subst}
use Rattle.std.specs.Prelude.{◌==◌, ◌&&◌, if◌then◌else◌}
use Rattle.ckd_types.specs.declared.paths.Side.{Side}
use Rattle.ckd_types.specs.declared.paths.Side.TheVariants as sides
use Rattle.track_image.specs.Image.{Image}
use Rattle.device_outside.specs.Interaction.{Interaction, Done, Try, Ask, Read, Tell, and_then}
use Rattle.device_outside.specs.Keeper.{Firm, Hearing}
use Rattle.device_outside.specs.Outside.{Outside, Ran, done, tried, asked, read, told}
use Rattle.device_outside.specs.Pool.{AnswerTo, Call}
use Rattle.device_defs.specs.Contents.{Contents}
use Rattle.device_defs.specs.Device.{Device, event_ended}
use Rattle.device_defs.specs.Image as G
use Rattle.device_defs.specs.Image.{Got, Imaged, delivered, first_read, image, image_by, image_of, level_bytes, miss, missed, read_b, read_counted, second_read}
use Rattle.device_defs.specs.Losses as L
use Rattle.device_defs.specs.Losses.{all_firm_told, call_failed, firm_told, side_lost}
use Rattle.device_defs.specs.Memory.{had_by}
use Rattle.device_defs.specs.Owed as O
use Rattle.device_defs.specs.Owed.{
  all_told,
  dropped_told,
  freed_told,
  is_modified,
  is_owed,
  modified_told,
  noted_begin,
  noted_end,
  settles_debt,
  track_told,
  waiting_count,
}
use Rattle.device_defs.specs.Peek as Y
use Rattle.device_defs.specs.Peek.{Peeked, is_in_half, peek, peek_half, peek_image, peek_track, peek_usage, peeked}
use Rattle.device_defs.specs.Store.{HalfWrite, Store, frame_at, is_lost, level_at, owed_at, tracks_of, with_frame}

-- whatever the first leaves, the second leaves where memory is had, with an answer that the first answer allows
pub data Covered {R I S A : Type 0} (q : A → A → Type 0) : Interaction R I S A → Interaction R I S A → Type 0 where
  covered_done : {s : S} {a b : A} → q a b → Covered q (Done s a) (Done s b)
  covered_try : {k l : Bool → Interaction R I S A} → ((ok : Bool) → Covered q (k ok) (l true)) → Covered q (Try k) (Try l)
  covered_ask : {call : Call} {k l : AnswerTo call → Interaction R I S A} → ((a : AnswerTo call) → Covered q (k a) (l a)) →
      Covered q (Ask call k) (Ask call l)
  covered_read : {side : Side} {t : ℕ} {k l : Option R → Interaction R I S A} → ((got : Option R) → Covered q (k got) (l got)) →
      Covered q (Read side t k) (Read side t l)
  covered_firm : {d t : ℕ} {i : I} {k l : Unit {0} → Interaction R I S A} → ((r : Unit {0}) → Covered q (k r) (l r)) →
      Covered q (Tell (Firm d t i) k) (Tell (Firm d t i) l)

abbrev Same : {A : Type 0} → A → A → Type 0
Same a b = a ≡ b

abbrev Any : {A : Type 0} → A → A → Type 0
Any a b = Unit {0}

covered_then : {R I S T A B : Type 0} {q : A → A → Type 0} {p : B → B → Type 0} {i j : Interaction R I S A} {f g : S → A → Interaction R I T B} →
    Covered q i j → ((s : S) (a b : A) → q a b → Covered p (f s a) (g s b)) → Covered p (and_then i f) (and_then j g)
covered_then (covered_done x) more = more _ _ _ x
covered_then (covered_try x) more = covered_try (λ ok. covered_then (x ok) more)
covered_then (covered_ask x) more = covered_ask (λ a. covered_then (x a) more)
covered_then (covered_read x) more = covered_read (λ got. covered_then (x got) more)
covered_then (covered_firm x) more = covered_firm (λ r. covered_then (x r) more)

covered_if : {R I S A : Type 0} {q : A → A → Type 0} (b : Bool) {i j k l : Interaction R I S A} → Covered q i j → Covered q k l →
    Covered q (if b then i else k) (if b then j else l)
covered_if true x y = x
covered_if false x y = y

ends_covered : {R I S A : Type 0} (s : S) (a b : A) (ok : Bool) → Covered {R = R} {I = I} Any (if ok then Done s a else Done s b) (Done s a)
ends_covered s a b true = covered_done tt
ends_covered s a b false = covered_done tt

pub covered_ran : {R I K S A : Type 0} {q : A → A → Type 0} {had : Bool → Type 0} {hears : Hearing I K} {i j : Interaction R I S A} {u z : Outside R K}
    {s : S} {a : A} → Covered q i j → Ran had hears i u s a z → (b : A) × Ran (λ ok. ok ≡ true) hears j u s b z
covered_ran (covered_done {b = b} x) done = (b, done)
covered_ran (covered_try x) (tried ok h r) = let o = covered_ran (x ok) r in (o.0, tried true refl o.1)
covered_ran (covered_ask x) (asked {a = a} h r) = let o = covered_ran (x a) r in (o.0, asked h o.1)
covered_ran (covered_read x) (read {got = got} is h r) = let o = covered_ran (x got) r in (o.0, read is h o.1)
covered_ran (covered_firm x) (told t heard h r) = let o = covered_ran (x t) r in (o.0, told t heard tt o.1)

module _ {F P H R : Type 0} (c : Contents F P H R) where
  abbrev Itself : {A : Type 0} → Interaction R Image (Store F P H) A → Type 0
  Itself i = Covered Same i i

  abbrev EitherWay : {A : Type 0} → Interaction R Image (Store F P H) A → Type 0
  EitherWay i = Covered Any i i

  -- A side that failed

  firm_itself : (t : ℕ) (z : Store F P H) → Itself (firm_told c t z)
  firm_itself t z = covered_if (owed_at z t).firm (covered_firm (λ r. covered_done refl)) (covered_done refl)

  all_firm_itself : (n : ℕ) (z : Store F P H) → Itself (all_firm_told c n z)
  unfolding L.all_firm_told
  all_firm_itself zero z = covered_done refl
  all_firm_itself (suc n) z = covered_then (all_firm_itself n z) (λ y a b e. firm_itself n y)

  failed_itself : (z : Store F P H) (side : Side) → Itself (call_failed c z side None)
  failed_itself z side = covered_if z.paired (all_firm_itself (tracks_of z) (side_lost c z side None)) (covered_done refl)

  -- The bytes of a track

  second_itself : (fault : Option Side) (z : Store F P H) (got : Option R) → Itself (second_read c fault z got)
  second_itself fault z (Some r) = covered_done refl
  second_itself fault z None = covered_then (failed_itself z sides.B) (λ y a b e. covered_done refl)

  b_itself : (z : Store F P H) (t : ℕ) (fault : Option Side) → Itself (read_b c z t fault)
  b_itself z t fault =
      covered_if (level_at z.b t) (covered_read (λ got. second_itself fault (read_counted z (is_some got)) got)) (covered_done refl)

  first_itself : (t : ℕ) (z : Store F P H) (got : Option R) → Itself (first_read c t z got)
  first_itself t z (Some r) = covered_done refl
  first_itself t z None = covered_then (failed_itself z sides.A) (λ y a b e. b_itself y t (Some sides.A))

  bytes_itself : (z : Store F P H) (t : ℕ) → Itself (level_bytes c z t)
  unfolding G.level_bytes
  bytes_itself z t =
      covered_if (level_at z.a t) (covered_read (λ got. first_itself t (read_counted z (is_some got)) got)) (b_itself z t None)

  -- Its image, which nothing is loaded for

  delivered_covered : (t : ℕ) (side : Side) (z : Store F P H) (o : Option Image) (ok : Bool) →
      Covered Any (if ok then delivered c peek_usage t side z o else Done z None) (delivered c peek_usage t side z o)
  delivered_covered t side z None ok = ends_covered z _ None ok
  delivered_covered t side z (Some i) ok = ends_covered z _ None ok

  missed_covered : (t : ℕ) (z : Store F P H) (g : Got R) (o : Option R) → EitherWay (missed c peek_usage t z g o)
  missed_covered t z g None = covered_done tt
  missed_covered t z g (Some r) = covered_try (λ ok. delivered_covered t g.side z (image_of c z t r) ok)

  miss_covered : (z : Store F P H) (t : ℕ) → EitherWay (miss c z peek_usage t)
  miss_covered z t =
      covered_then (bytes_itself z t)
      (λ y g h e. subst (λ (x : Got R). Covered Any (missed c peek_usage t y g g.bytes) (missed c peek_usage t y x x.bytes)) e (missed_covered t y g g.bytes))

  frame_covered : (z : Store F P H) (t : ℕ) (o : Option F) → EitherWay (image_by c z peek_usage t o)
  frame_covered z t None = miss_covered z t
  frame_covered z t (Some f) =
      covered_if (c.modified f) (covered_done tt)
      (covered_ask (λ listed. covered_if listed (covered_done tt) (miss_covered (with_frame z t None) t)))

  image_covered : (z : Store F P H) (t : ℕ) → EitherWay (image c z peek_usage t)
  unfolding G.image
  image_covered z t = frame_covered z t (frame_at z t)

  -- The look

  found_covered : (z : Store F P H) (a b : Option Imaged) →
      Covered {R = R} {I = Image} Any (had_by (λ y i. Done y (Some (peeked i))) z a) (had_by (λ y i. Done y (Some (peeked i))) z b)
  found_covered z None None = covered_done tt
  found_covered z None (Some j) = covered_done tt
  found_covered z (Some i) None = covered_done tt
  found_covered z (Some i) (Some j) = covered_done tt

  peeked_covered : (z : Store F P H) (t : ℕ) → EitherWay (peek_image c z t)
  peeked_covered z t = covered_then (image_covered z t) (λ y a b _. found_covered y a b)

  half_covered : (z : Store F P H) (t : ℕ) (h : Option (HalfWrite H)) → EitherWay (peek_half c z t h)
  half_covered z t None = peeked_covered z t
  half_covered z t (Some h) = covered_if (is_in_half c z t h) (covered_try (λ ok. ends_covered z _ None ok)) (peeked_covered z t)

  track_covered : (z : Store F P H) (t : ℕ) → EitherWay (peek_track c z t)
  track_covered z t = covered_if (is_lost z t) (covered_done tt) (half_covered z t z.half)

  -- The end of the event

  freed_itself : (z : Store F P H) (o : Option ℕ) → Itself (freed_told c z o)
  freed_itself z None = covered_done refl
  freed_itself z (Some slot) = covered_ask (λ _. covered_done refl)

  modified_itself : (t : ℕ) (z : Store F P H) → Itself (modified_told c t z)
  modified_itself t z =
      covered_if ((owed_at z t).modified && is_modified c (frame_at z t)) (covered_ask (λ _. covered_done refl)) (covered_done refl)

  dropped_itself : (t : ℕ) (z : Store F P H) → Itself (dropped_told c t z)
  dropped_itself t z = covered_if (owed_at z t).dropped (covered_ask (λ _. covered_done refl)) (covered_done refl)

  debt_itself : (t : ℕ) (z : Store F P H) → Itself (settles_debt c t z)
  debt_itself t z =
      covered_then (modified_itself t z)
      (λ y _ _ _. covered_then (dropped_itself t y)
      (λ x _ _ _. covered_then (freed_itself x (owed_at x t).freed) (λ v _ _ _. covered_done refl)))

  told_itself : (t : ℕ) (z : Store F P H) → Itself (track_told c t z)
  told_itself t z = covered_if (is_owed c (owed_at z t)) (debt_itself t z) (covered_done refl)

  all_told_itself : (n : ℕ) (z : Store F P H) → Itself (all_told c n z)
  unfolding O.all_told
  all_told_itself zero z = covered_done refl
  all_told_itself (suc n) z = covered_then (all_told_itself n z) (λ y _ _ _. told_itself n y)

  end_itself : (before : ℕ) (z : Store F P H) → Itself (noted_end c before z)
  end_itself before z =
      covered_then (all_told_itself (tracks_of z) z)
      (λ y _ _ _. covered_if (waiting_count c y == before) (covered_done refl) (covered_ask (λ _. covered_done refl)))

  ended_covered : {X : Type 0} (old d : Device F P H) (a b : X) → Covered Any (event_ended c old d a) (event_ended c old d b)
  ended_covered old d a b = covered_then (end_itself (waiting_count c old.store) d.store) (λ z _ _ _. covered_done tt)

  look_covered : (d : Device F P H) (t : ℕ) → Covered Any (peek c d t) (peek c d t)
  unfolding Y.peek
  look_covered d t =
      covered_then {q = Any} (covered_then (track_covered (noted_begin d.store) t) (λ z a b _. covered_done tt)) (λ y a b _. ended_covered d y a b)

  -- so it is the run of one where memory is had
  pub look_had : {K : Type 0} {had : Bool → Type 0} {hears : Hearing Image K} {u z : Outside R K} (d : Device F P H) (t : ℕ) {e : Device F P H}
      {a : Option Peeked} → Ran had hears (peek c d t) u e a z → (b : Option Peeked) × Ran (λ ok. ok ≡ true) hears (peek c d t) u e b z
  look_had d t r = covered_ran (look_covered d t) r
