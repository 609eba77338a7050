-- What a device keeps of a write that is half done.
use Rattle.std.proofs.Common.{◌≡◌, ℕ, true, false, Option, Some, None, refl, sym, ap, subst}
use Rattle.std.specs.Prelude.{IfSome, IsSome, is_some, option_map}
use Rattle.ckd_chain.specs.declared.mark.Stage.{Stage}
use Rattle.ckd_chain.specs.declared.mark.Stage.TheVariants as stages
use Rattle.ckd_chain.specs.Facts.{MayBeWritten}
use Rattle.ckd_chain.specs.State.{ChainState}
use Rattle.ckd_types.specs.declared.channel.CommandEnd.{CommandEnd}
use Rattle.device_defs.specs.declared.answers.Came.{Came}
use Rattle.device_defs.specs.declared.answers.Came.TheVariants.{Ends, Checks, HalfOpen}
use Rattle.device_defs.specs.declared.answers.SecondEnd.TheVariants as seconds
use Rattle.device_defs.specs.declared.answers.Stepped.TheVariants as answers
use Rattle.device_defs.specs.Contents.{contents}
use Rattle.device_defs.specs.Cutting.{counts_one_by}
use Rattle.device_defs.specs.Events.{second_told}
use Rattle.device_defs.specs.Outcomes.{told_step}
use Rattle.device_store.specs.declared.half.HalfWrite.{HalfWrite}
use Rattle.device_store.specs.State.{half_of}
use Rattle.device_core.specs.declared.history.Running.{Running}
use Rattle.device_core.specs.declared.history.Stepped.{Stepped}
use Rattle.device_core.specs.declared.history.Stepped.TheVariants as steps
use Rattle.device_core.specs.Halves.{IsWaiting, is_half_step}
use Rattle.device_core.specs.Kept.{chain_of}
use Rattle.device_core.specs.State.{step_seen}
use Rattle.device_core.specs.TrackWalk.{may_be_written, is_half, IsHeld, Left}
use Rattle.device_core.specs.Words.{HasEndRoom, IsAtWord}
use Rattle.device_core.proofs.Stepping.{ready_at}

abbrev pub count_of : Option HalfWrite → ℕ
count_of x = counts_one_by (option_map half_of x)

-- Whether a half write is of a command

pub none_counts : (x : Option HalfWrite) → x ≡ None → count_of x ≡ 1 → ⊥
none_counts None is one = absurd (cc)
none_counts (Some h) is one = absurd (cc)

pub counts_some : (x : Option HalfWrite) → count_of x ≡ 1 → is_some x ≡ true
counts_some None one = absurd (cc)
counts_some (Some h) one = refl

pub none_by : {A : Type 0} (x : Option A) → is_some x ≡ false → x ≡ None
none_by None is = refl
none_by (Some a) is = absurd (cc)

pub none_mapped : {A B : Type 0} (f : A → B) (x : Option A) → option_map f x ≡ None → x ≡ None
none_mapped f None is = refl
none_mapped f (Some a) is = absurd (cc)

-- A program that waits

pub is_written : (o : Option Stage) → MayBeWritten o → may_be_written o ≡ true
is_written (Some stages.Over) is = refl
is_written (Some (stages.Asks act)) is = is
is_written (Some (stages.Looks look)) is = absurd (is)
is_written None is = absurd (is)

pub waits_same : (x y : Option Running) → option_map chain_of x ≡ option_map chain_of y →
    (IfSome y (λ r. HasEndRoom r.ends) → IfSome x (λ r. HasEndRoom r.ends)) → IsWaiting y → IsWaiting x
waits_same None None same ends w = absurd (let r = w.runs in cc)
waits_same None (Some r) same ends w = absurd (cc)
waits_same (Some q) None same ends w = absurd (cc)
waits_same (Some q) (Some r) same ends w =
    let c : q.chain ≡ r.chain = cc in record { runs = refl; held = subst (λ (z : ChainState). IsHeld z) (sym c) w.held; ends = ends w.ends }

waits_by : (x : Option Running) (n : ℕ) (came : Came) → is_half came ≡ true → IsSome x → IfSome x (λ r. HasEndRoom r.ends) →
    IfSome x (λ r. Left n r.chain came) → IsWaiting x
waits_by None n came half is ends left = absurd (cc)
waits_by (Some r) n (Ends e) half is ends left = absurd (cc)
waits_by (Some r) n (Checks e) half is ends left = absurd (cc)
waits_by (Some r) n (HalfOpen t) half is ends left = record { runs = refl; held = left.goes; ends = ends }

pub half_waits : (x : Option Running) (n : ℕ) (came : Came) → is_half came ≡ true → IsSome x → IfSome x (λ r. HasEndRoom r.ends) →
    IfSome x (λ r. Left n r.chain came) → IsWaiting x
half_waits x n came half is ends left = waits_by x n came half is ends left

pub word_held : (x : Option Running) (n t : ℕ) → IfSome x (λ r. Left n r.chain (HalfOpen t)) → IfSome x (λ r. IsAtWord n r.chain)
word_held None n t left = tt
word_held (Some r) n t left = record {
  ready = ready_at r.chain left.goes.begun left.goes.running left.goes.back;
  cylinders_are = left.cylinders_are;
}

-- How an end is told

ended_by : (o : Option CommandEnd) (e : CommandEnd) → option_map answers.Ended o ≡ Some (answers.Ended e) →
    option_map seconds.Ended o ≡ Some (seconds.Ended e)
ended_by None e is = absurd (cc)
ended_by (Some x) e is = let same : x ≡ e = cc in ap (λ (y : CommandEnd). Some (seconds.Ended y)) same

pub told_second : (last : Option CommandEnd) (s : Stepped) (came : Came) (t : ℕ) → step_seen last s ≡ Some (told_step came) → is_half_step s ≡ is_half came →
    is_half came ≡ false → option_map seconds.Ended last ≡ Some (second_told contents t came)
told_second last steps.Ended (Ends e) t is same whole = ended_by last e is
told_second last steps.Ended (Checks e) t is same whole = ended_by last e is
told_second last s (HalfOpen q) t is same whole = absurd (cc)
told_second last (steps.Half q) (Ends e) t is same whole = absurd (cc)
told_second last (steps.Half q) (Checks e) t is same whole = absurd (cc)
