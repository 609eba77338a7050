-- Parts of an event that move nothing, and the transfers of those that do.
use Rattle.std.proofs.Common.{◌≡◌, ◌+◌, ℕ, zero, suc, Bool, true, false, Option, Some, None, refl, ap, ◌∙◌, arith}
use Rattle.std.specs.Prelude.{if◌then◌else◌}
use Rattle.ckd_types.specs.declared.paths.Side.{Side}
use Rattle.ckd_types.specs.declared.paths.Side.TheVariants.{A, B}
use Rattle.ckd_types.specs.declared.record.Edit.{Edit}
use Rattle.loss_model.specs.declared.Loss.{Loss}
use Rattle.track_image.specs.Image.{Image}
use Rattle.device_outside.specs.Interaction.{Interaction, Done, Try, Ask, Read, Write, Tell, and_then}
use Rattle.device_outside.specs.Keeper.{ReplyTo}
use Rattle.device_outside.specs.Pool.{Call, AnswerTo}
use Rattle.device_defs.specs.declared.answers.Choice.{Choice}
use Rattle.device_defs.specs.declared.answers.Choice.TheVariants.{Provisional, Fast, Through}
use Rattle.device_defs.specs.declared.usage.Usage.{Usage}
use Rattle.device_defs.specs.Contents.{Contents}
use Rattle.device_defs.specs.Cutting.{origin_cut, half_cut}
use Rattle.device_defs.specs.Editing.{write_by}
use Rattle.device_defs.specs.Events.{with_loss, lost_by, losing}
use Rattle.device_defs.specs.Losses as L
use Rattle.device_defs.specs.Losses.{firm_told, all_firm_told, side_lost, call_failed}
use Rattle.device_defs.specs.Owed.{hear, noted_end}
use Rattle.device_defs.specs.Second as D
use Rattle.device_defs.specs.Second.{half_image_of, half_closed, finished, second_done, second_by, second_part}
use Rattle.device_defs.specs.Store.{Origin, OfCommand, OfCut, OfBackground, HalfWrite, Store, tracks_of, takes_b, has_level}
use Rattle.device_defs.specs.Transfers as M
use Rattle.device_defs.specs.Transfers.{Moves, SecondPart, InCache, Loss as LossPart, both, Within, Makes}
use Rattle.device_defs.specs.Writing as V
use Rattle.device_defs.specs.Writing.{write_side, write_counted, tried_b, write_second, write_done}
use Rattle.device_laws.proofs.PoolWalks.{AsksPool, asks_done, asks_ask, hear_asks, ended_asks, asks_try, done_asks}

-- It moves nothing
pub data Quiet {R I S A : Type 0} : Interaction R I S A → Type 0 where
  quiet_done : {s : S} {a : A} → Quiet (Done s a)
  quiet_try : {k : Bool → Interaction R I S A} → ((ok : Bool) → Quiet (k ok)) → Quiet (Try k)
  quiet_ask : {call : _} {k : AnswerTo call → Interaction R I S A} → ((a : AnswerTo call) → Quiet (k a)) → Quiet (Ask call k)
  quiet_tell : {m : _} {k : ReplyTo m → Interaction R I S A} → ((r : ReplyTo m) → Quiet (k r)) → Quiet (Tell m k)

pub quiet_then : {R I S A T B : Type 0} {i : Interaction R I S A} (f : S → A → Interaction R I T B) → Quiet i → ((s : S) (a : A) → Quiet (f s a)) →
    Quiet (and_then i f)
quiet_then f (quiet_done {s} {a}) w = w s a
quiet_then f (quiet_try x) w = quiet_try (λ ok. quiet_then f (x ok) w)
quiet_then f (quiet_ask x) w = quiet_ask (λ a. quiet_then f (x a) w)
quiet_then f (quiet_tell x) w = quiet_tell (λ r. quiet_then f (x r) w)

pub quiet_if : {R I S A : Type 0} (b : Bool) {i j : Interaction R I S A} → Quiet i → Quiet j → Quiet (if b then i else j)
quiet_if true x y = x
quiet_if false x y = y

pub quiet_moves : {R I S A : Type 0} (q : ℕ → ℕ → Type 0) (r w : ℕ) (i : Interaction R I S A) → Quiet i → q r w → Moves q r w i
unfolding M.Moves
quiet_moves q r w (Done s a) quiet_done x = x
quiet_moves q r w (Try k) (quiet_try f) x = λ ok. quiet_moves q r w (k ok) (f ok) x
quiet_moves q r w (Ask call k) (quiet_ask f) x = λ a. quiet_moves q r w (k a) (f a) x
quiet_moves q r w (Tell m k) (quiet_tell f) x = λ a. quiet_moves q r w (k a) (f a) x
quiet_moves q r w (Read side t k) f x = elim f [ ]
quiet_moves q r w (Write side t b k) f x = elim f [ ]

pub asks_quiet : {R I S A : Type 0} {may : Call → Type 0} {q : S → A → Type 0} {i : Interaction R I S A} → AsksPool may q i → Quiet i
asks_quiet (asks_done x) = quiet_done
asks_quiet (asks_try x) = quiet_try (λ ok. asks_quiet (x ok))
asks_quiet (asks_ask m x) = quiet_ask (λ a. asks_quiet (x a))

-- one, and then another that moves nothing
pub then_quiet : {R I S A T B : Type 0} (q : ℕ → ℕ → Type 0) (r w : ℕ) (i : Interaction R I S A) (f : S → A → Interaction R I T B) → Moves q r w i →
    ((s : S) (a : A) → Quiet (f s a)) → Moves q r w (and_then i f)
unfolding M.Moves
then_quiet q r w (Done s a) f x g = quiet_moves q r w (f s a) (g s a) x
then_quiet q r w (Try k) f x g = λ ok. then_quiet q r w (k ok) f (x ok) g
then_quiet q r w (Ask call k) f x g = λ a. then_quiet q r w (k a) f (x a) g
then_quiet q r w (Read side t k) f x g = λ got. then_quiet q (r + 1) w (k got) f (x got) g
then_quiet q r w (Write side t b k) f x g = λ ok. then_quiet q r (w + 1) (k ok) f (x ok) g
then_quiet q r w (Tell m k) f x g = λ a. then_quiet q r w (k a) f (x a) g

-- an edit that goes to a frame
abbrev pub IsInCache : Choice → Type 0
IsInCache Provisional = Unit {0}
IsInCache (Fast slot) = Unit {0}
IsInCache Through = ⊥

module _ {F P H R : Type 0} (c : Contents F P H R) where
  abbrev Talks : {A : Type 0} → Interaction R Image (Store F P H) A → Type 0
  Talks i = Quiet i

  -- Notices, and what is told

  pub hear_quiet : (n : ℕ) (s : Store F P H) → Talks (hear c n s)
  hear_quiet n s = asks_quiet (hear_asks c (λ z. Unit {0}) (λ z t clean f. f) n s tt)

  pub ended_quiet : (before : ℕ) (s : Store F P H) → Talks (noted_end c before s)
  ended_quiet before s = asks_quiet (ended_asks c (λ z. Unit {0}) (λ z t f. f) before s tt)

  -- Losses, failed calls and cuts

  firm_quiet : (n : ℕ) (s : Store F P H) → Talks (all_firm_told c n s)
  unfolding L.all_firm_told
  firm_quiet zero s = quiet_done
  firm_quiet (suc n) s = quiet_then (λ z _. firm_told c n z) (firm_quiet n s) (λ z _. quiet_if _ (quiet_tell (λ _. quiet_done)) quiet_done)

  pub failed_quiet : (s : Store F P H) (side : Side) (writing : Option ℕ) → Talks (call_failed c s side writing)
  failed_quiet s side writing = quiet_if s.paired (firm_quiet (tracks_of s) (side_lost c s side writing)) quiet_done

  pub losing_quiet : (s : Store F P H) (loss : Loss) → Talks (losing c s loss)
  losing_quiet s loss = firm_quiet (tracks_of s) (lost_by c (with_loss s loss) loss)

  cut_by : (s : Store F P H) (h : HalfWrite H) (origin : Origin) → Talks (origin_cut c s h origin)
  cut_by s h (OfCommand bypass e) = quiet_tell (λ _. quiet_done)
  cut_by s h (OfCut bypass) = quiet_done
  cut_by s h OfBackground = quiet_done

  pub cut_quiet : (s : Store F P H) (o : Option (HalfWrite H)) → Talks (half_cut c s o)
  cut_quiet s (Some h) = cut_by s h h.origin
  cut_quiet s None = quiet_done

  -- A write that is done, and one in the cache

  pub done_quiet : (s : Store F P H) (t : ℕ) (i : Image) (bypass : Bool) → Talks (write_done c s t i bypass)
  done_quiet s t i bypass = asks_quiet (done_asks c (λ z. Unit {0}) (λ z q o f. f) (λ z q f. f) s t i bypass tt)

  whole_quiet : (s : Store F P H) (t : ℕ) (i : Image) (bypass : Bool) → Talks (finished c s t i bypass)
  whole_quiet s t i bypass = quiet_then (λ z _. Done z true) (done_quiet s t i bypass) (λ z _. quiet_done)

  pub cache_quiet : (u : Usage) (first t : ℕ) (i : Image) (e : Edit) (s : Store F P H) (choice : Choice) → IsInCache choice →
      Talks (write_by c u first t i e s choice)
  cache_quiet u first t i e s Provisional is = quiet_done
  cache_quiet u first t i e s (Fast slot) is = quiet_tell (λ _. quiet_done)
  cache_quiet u first t i e s Through is = absurd is

  -- Writes of the volumes

  module _ (s : Store F P H) (t : ℕ) (r : R) where
    within_second : (b : Bool) → takes_b s ≡ b → (w : ℕ) → both b false ≡ w → Within s SecondPart 0 w
    within_second b e w is =
        let same : both (takes_b s) false ≡ w = ap (λ (x : Bool). both x false) e ∙ is in
        record { least_reads = omega arith; most_reads = omega arith; least_writes = omega (arith, same); most_writes = omega (arith, same) }

    second_write : (b : Bool) → takes_b s ≡ b → Moves (Within s SecondPart) 0 0 (if b then write_side c s B t r (tried_b c t) else Done s (tt {0}))
    unfolding M.Moves
    second_write true e = λ ok. quiet_moves (Within s SecondPart) 0 1 (tried_b c t (write_counted s ok) ok) (tried_quiet (write_counted s ok) ok)
        (within_second true e 1 refl)
      where
        tried_quiet : (z : Store F P H) (ok : Bool) → Quiet (tried_b c t z ok)
        tried_quiet z true = quiet_done
        tried_quiet z false = failed_quiet z B (Some t)
    second_write false e = within_second false e 0 refl

    write_second_moves : Moves (Within s SecondPart) 0 0 (write_second c s t r)
    unfolding V.write_second
    write_second_moves = second_write (takes_b s) refl

  done_by_origin : (s : Store F P H) (t : ℕ) (i : Image) (origin : Origin) → Talks (second_done c s t i origin)
  done_by_origin s t i (OfCommand bypass e) = quiet_tell (λ _. whole_quiet _ t i bypass)
  done_by_origin s t i (OfCut bypass) = whole_quiet s t i bypass
  done_by_origin s t i OfBackground = whole_quiet s t i false

  -- and the second part
  pub second_moves : (s : Store F P H) (h : HalfWrite H) → Makes s SecondPart (second_part c s h)
  unfolding D.second_part
  second_moves s h =
      let i = half_image_of c s h in
      record {
        moves = then_quiet (Within s SecondPart) 0 0 (write_second c s h.track (c.bytes i)) (λ z _. second_by c h.track i h.origin z)
            (write_second_moves s h.track (c.bytes i))
            (λ z _. quiet_if (has_level z h.track) (done_by_origin (half_closed z) h.track i h.origin) quiet_done);
      }

  -- What moves nothing makes the transfers of a loss

  pub quiet_makes : {A : Type 0} (s : Store F P H) (i : Interaction R Image (Store F P H) A) → Quiet i → Makes s LossPart i
  quiet_makes s i x = record {
    moves = quiet_moves (Within s LossPart) 0 0 i x
        (record { least_reads = omega arith; most_reads = omega arith; least_writes = omega arith; most_writes = omega arith });
  }

  pub cache_makes : {A : Type 0} (s : Store F P H) (i : Interaction R Image (Store F P H) A) → Quiet i → Makes s InCache i
  cache_makes s i x = record {
    moves = quiet_moves (Within s InCache) 0 0 i x
        (record { least_reads = omega arith; most_reads = omega arith; least_writes = omega arith; most_writes = omega arith });
  }
