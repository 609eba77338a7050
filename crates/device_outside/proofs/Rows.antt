-- A few runs, computed from the definitions alone.
use Rattle.std.proofs.Common.{◌≡◌, ℕ, Bool, true, false, List, [], ◌∷◌, Option, Some, None, is_some, ◌==◌, cond, refl, ap, arith}
use Rattle.ckd_types.specs.declared.paths.Side.TheVariants.{A, B}
use Rattle.device_outside.specs.declared.port.SlotGrant.TheVariants.{Given, Denied, Down}
use Rattle.device_outside.specs.Lists.{is_in, with_number, less_one, less_all}
use Rattle.device_outside.specs.Pool.{
  Pool,
  Call,
  NextNotice,
  Touch,
  WantFrame,
  SetModified,
  WantSlot,
  FreeSlot,
  TellWaiting,
  unnumbered,
  answer,
  after,
  new_pool,
  cache_failed,
  store_failed,
  store_repaired,
  power_lost,
}
use Rattle.device_outside.specs.Volume.{VolumeView, counted}
use Rattle.device_outside.specs.Keeper.{Hearing}
use Rattle.device_outside.specs.Interaction.{Interaction, Done, Try, Ask, Read}
use Rattle.device_outside.specs.Outside.{no_pool, Outside, Ran, done, asked, read}
use Rattle.device_outside.specs.Told.{Calls, Told, hold}
use Rattle.device_outside.specs.After.{Holdings, with_slots}
use Rattle.device_outside.specs.Both.{Both, both_done, both_ask, both_free}

-- the pool behind some calls
calls : Pool → List Call → Pool
calls p [] = p
calls p (c ∷ cs) = calls (after p c (answer p c)) cs

-- a pool of one frame: the second track gets it, and the first is noted
one_frame : Pool
one_frame = calls (new_pool 1 2) (WantFrame 3 7 ∷ WantFrame 5 8 ∷ [])

second_has_it : one_frame.frames ≡ ((5, 8), false) ∷ []
unfolding one_frame calls answer after
second_has_it = refl

first_is_noted : answer one_frame (NextNotice 3) ≡ Some 7
unfolding one_frame calls answer after
first_is_noted = refl

noted_once : answer (calls one_frame (NextNotice 3 ∷ [])) (NextNotice 3) ≡ None
unfolding one_frame calls answer after
noted_once = refl

-- all frames modified: denied
all_modified : answer (calls one_frame (SetModified 5 8 ∷ [])) (WantFrame 3 7) ≡ false
unfolding one_frame calls answer after
all_modified = refl

-- of three frames the least recent clean one goes, and a mark stays with its frame
three : Pool
three = calls (new_pool 3 0) (WantFrame 1 1 ∷ WantFrame 1 2 ∷ WantFrame 1 3 ∷ SetModified 1 1 ∷ Touch 1 2 ∷ Touch 1 1 ∷ WantFrame 2 9 ∷ [])

least_recent_clean_goes : three.frames ≡ ((2, 9), false) ∷ ((1, 1), true) ∷ ((1, 2), false) ∷ []
unfolding three calls answer after
least_recent_clean_goes = refl

no_slots : answer three WantSlot ≡ Denied
unfolding three calls answer after
no_slots = refl

-- a slot given back; given back twice it is one
one_of_two_is_given_back : (calls (new_pool 0 3) (WantSlot ∷ WantSlot ∷ FreeSlot 0 ∷ [])).used ≡ 0 ∷ []
unfolding calls answer after with_number less_one
one_of_two_is_given_back = refl

twice_is_once : (after (after (record (new_pool 0 3) { used = 2 ∷ 4 ∷ [] }) (FreeSlot 4) tt) (FreeSlot 4) tt).used ≡ 2 ∷ []
unfolding after less_one
twice_is_once = refl

store_is_down : answer (store_failed (new_pool 0 3)) WantSlot ≡ Down
unfolding answer
store_is_down = refl

-- a repair waits while a track waits
repair_waits : (store_repaired (calls (store_failed (new_pool 0 3)) (TellWaiting 4 1 ∷ []))).store_up ≡ false
unfolding calls answer after
repair_waits = refl

repair_is_done : (store_repaired (calls (store_failed (new_pool 0 3)) (TellWaiting 4 1 ∷ TellWaiting 4 0 ∷ []))).store_up ≡ true
unfolding calls answer after
repair_is_done = refl

cache_is_down : answer (cache_failed three) (WantFrame 1 1) ≡ false
unfolding three calls answer after
cache_is_down = refl

power_takes_notes : answer (power_lost one_frame) (NextNotice 3) ≡ None
unfolding one_frame calls answer after
power_takes_notes = refl

-- what a load of track 7 may be: a look for its a read of A or else of B, a frame
data Loaded : Type 0 where
  Hit : Loaded
  Read_A : Bool → Loaded
  Read_B : Bool → Loaded
  NoBytes : Loaded
  NoMemory : Loaded

load : Interaction ℕ ℕ (Unit {0}) Loaded
load = Ask (Touch 3 7) (λ hit. elim hit [
  | true ↦ Done tt Hit
  | false ↦ Read A 7 (λ got. elim got [
    | Some r ↦ Try (λ ok. elim ok [ true ↦ Ask (WantFrame 3 7) (λ given. Done tt (Read_A given)) | false ↦ Done tt NoMemory ])
    | None ↦ Read B 7 (λ other. elim other [
      | Some r ↦ Try (λ ok. elim ok [ true ↦ Ask (WantFrame 3 7) (λ given. Done tt (Read_B given)) | false ↦ Done tt NoMemory ])
      | None ↦ Done tt NoBytes
    ])
  ])
])

-- the side's first reads and writes that are listed fail
plan : List ℕ → Calls
plan reads = record { reads = 0; writes = 0; plan = record { reads = reads; writes = [] } }

told_by : Pool → List ℕ → List ℕ → Told
told_by pool a b = record { pool = pool; a = plan a; b = plan b; reads = 0; writes = 0 }

loaded_from_a : (hold 5 load (told_by (new_pool 1 0) [] [])).answer ≡ Read_A true
unfolding load plan told_by hold answer after is_in counted
loaded_from_a = refl

loaded_from_b : (hold 5 load (told_by (new_pool 1 0) (1 ∷ []) (2 ∷ []))).answer ≡ Read_B true
unfolding load plan told_by hold answer after is_in counted
loaded_from_b = refl

two_reads : (hold 5 load (told_by (new_pool 1 0) (1 ∷ []) (2 ∷ []))).told.reads ≡ 2
unfolding load plan told_by hold answer after is_in counted
two_reads = refl

both_fail : (hold 5 load (told_by (new_pool 1 0) (1 ∷ []) (1 ∷ []))).answer ≡ NoBytes
unfolding load plan told_by hold answer after is_in counted
both_fail = refl

a_hit : (hold 5 load (told_by (calls (new_pool 1 0) (WantFrame 3 7 ∷ [])) [] [])).answer ≡ Hit
unfolding load plan told_by hold calls answer after is_in counted
a_hit = refl

-- a port that tells nothing may answer anything
untold : Outside ℕ (Unit {0})
untold = record { port = no_pool 0; a = None; b = None; keeper = tt }

deaf : Hearing ℕ (Unit {0})
deaf k m r l = Unit {0}

anything : (hit : Bool) → Ran {S = ℕ} (λ ok. ok ≡ true) deaf (Ask (Touch 3 7) (λ a. Done 4 a)) untold 4 hit untold
unfolding untold
anything hit = asked (record { by_pool = refl; denials = refl }) done

-- a volume that tells nothing may hand over anything, and its counts are told
silent : ℕ → VolumeView ℕ
silent reads = record { contents = None; tracks = 15; delivered = None; reads = reads; writes = 0; faults = 0; plan = None; allowance = None }

handed_over : (r : ℕ) → Ran {S = ℕ} (λ ok. ok ≡ true) deaf (Read A 7 (λ got. Done 4 got))
    (record untold { a = Some (silent 0) }) 4 (Some r) (record untold {
      a =
          Some (record (silent 1) { delivered = Some r });
    })
unfolding untold silent counted
handed_over r = read refl (record { delivers = tt; planned = tt; spent = tt; after = refl }) done

-- a slot asked for and given back: the one has its number, the other counts
numbered : Interaction ℕ ℕ (Unit {0}) (Option ℕ)
numbered = Ask WantSlot (λ s. elim s [ Given k ↦ Ask (FreeSlot k) (λ _. Done tt (Some k)) | Denied ↦ Done tt None | Down ↦ Done tt None ])

by_count : Interaction Bool ℕ (Unit {0}) Bool
by_count = Ask WantSlot (λ s. elim s [ Given k ↦ Ask (FreeSlot 0) (λ _. Done tt true) | Denied ↦ Done tt false | Down ↦ Done tt false ])

-- where the pool tells, the number that comes is new, and none is left in use
none_left : Unit {0} → Option ℕ → Unit {0} → Bool → Holdings ℕ → Type 0
none_left s a m b h = (b ≡ is_some a) × (h.slots ≡ Some [])

is_itself : (k : ℕ) → (k == k) ≡ true
is_itself k = grind arith

number_and_count : Both 0 true none_left numbered by_count (record { a = []; b = []; slots = Some [] })
unfolding numbered by_count none_left is_in less_all
number_and_count = both_ask refl (λ s new. elim s as (λ s. Both {I = ℕ} 0 true none_left
    (elim s [ Given k ↦ Ask (FreeSlot k) (λ _. Done tt (Some k)) | Denied ↦ Done tt None | Down ↦ Done tt None ])
    (elim (unnumbered WantSlot s) [
      | Given k ↦ Ask (FreeSlot 0) (λ _. Done tt true)
      | Denied ↦ Done tt false
      | Down ↦
          Done tt false
    ]) (with_slots (record { a = []; b = []; slots = Some [] }) WantSlot s)) [
      | Given k ↦ both_free (ap (λ (b : Bool). cond b true false) (is_itself k)) (both_done (refl, ap (λ (b : Bool). Some (cond b [] (k ∷ []))) (is_itself k)))
      | Denied ↦ both_done (refl, refl)
      | Down ↦ both_done (refl, refl)
    ])
