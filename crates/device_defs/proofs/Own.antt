-- Runs by a device's own events, over the bytes of its volumes and the images of its frames.
use Rattle.std.proofs.Common.{◌+◌, ◌≡◌, ℕ, Bool, false, List, [], ◌∷◌, ◌++◌, Option, Some, None, map, if◌then◌else◌}
use Rattle.std.specs.Prelude.{replicate, slice_index_or, slice_set, not}
use Rattle.ckd_types.specs.declared.geometry.Geometry.TheVariants.{D3390}
use Rattle.ckd_types.specs.declared.paths.Side.{Side}
use Rattle.ckd_types.specs.declared.paths.Side.TheVariants.{A, B}
use Rattle.loss_model.specs.declared.Loss.TheVariants as losses
use Rattle.plain_defs.specs.History.{no_history}
use Rattle.plain_defs.specs.PlainState.{fresh_paths}
use Rattle.track_cache.specs.declared.frames.Frame.{Frame}
use Rattle.nv_store.specs.declared.patches.Stored.{Stored}
use Rattle.track_image.specs.Image.{Image}
use Rattle.track_table.specs.Tracks.{least}
use Rattle.device_outside.specs.declared.port.SlotGrant.TheVariants.{Given}
use Rattle.device_outside.specs.Disk.{empty_contents}
use Rattle.device_outside.specs.Interaction.{Interaction, Done, Try, Ask, Read, Write, Tell}
use Rattle.device_outside.specs.Keeper.{Message, BeforeEdit, Firm, ReplyTo}
use Rattle.device_outside.specs.Lists.{is_in}
use Rattle.device_outside.specs.Pool.{
  Pool,
  Call,
  WantSlot,
  AnswerTo,
  answer,
  after,
  cache_failed,
  store_failed,
  cache_repaired,
  store_repaired,
  power_lost,
}
use Rattle.device_outside.specs.Told.{Told, calls_of, read_fails, write_fails, told_read, told_write}
use Rattle.device_defs.specs.declared.answers.Did.{Did}
use Rattle.device_defs.specs.declared.answers.SecondEnd.{SecondEnd}
use Rattle.device_defs.specs.declared.answers.StartFault.{StartFault}
use Rattle.device_defs.specs.declared.answers.Stepped.{Stepped}
use Rattle.device_defs.specs.Command.{command}
use Rattle.device_defs.specs.Contents.{contents}
use Rattle.device_defs.specs.Cutting.{reset, power}
use Rattle.device_defs.specs.Device.{Device}
use Rattle.device_defs.specs.Events.{second, background, lose}
use Rattle.device_defs.specs.Marks.{no_counts, marks_of}
use Rattle.device_defs.specs.Orders.{join, split, replace, hold_side as hold_b, resume, restore, lend}
use Rattle.device_defs.specs.Peek.{Peeked, peek}
use Rattle.device_defs.specs.Start.{start_fault, start, next_ordinal}
use Rattle.device_defs.specs.Store.{Store, new_side, no_side, no_debt}
use Rattle.device_defs.proofs.Stand.{
  Event,
  FailCache,
  FailSide,
  FailStore,
  Join,
  Lend,
  Line,
  Look,
  Marks,
  Note,
  Power,
  Refused,
  RepairCache,
  RepairStore,
  Replace,
  Reset,
  Restore,
  Resume,
  Run,
  Second,
  Split,
  Stand,
  Start,
  Started,
  Step,
  Suspend,
  Work,
  back_line,
  body_of,
  from_zero,
  look_line,
  marks_line,
  new_calls,
  repair_line,
  second_line,
  shows_of,
  step_line,
  works,
}

-- what a keeper heard: a track, with the data of its record 0
pub data Heard : Type 0 where
  Before : ℕ → List ℕ → Heard
  IsFirm : ℕ → List ℕ → Heard

abbrev pub heard_of : Message Image → Heard
heard_of (BeforeEdit d t i) = Before t (body_of i.track.records)
heard_of (Firm d t i) = IsFirm t (body_of i.track.records)

-- the pool and the calls that fail, what each side holds, what the keeper heard, and where memory is lacking: how often it was asked for,
-- and which of these times it isn't had
pub record World : Type 0 where
  pub told : Told
  pub a : List (List ℕ)
  pub b : List (List ℕ)
  pub heard : List Heard
  pub tries : ℕ
  pub lacks : List ℕ

abbrev pub held_by : World → Side → List (List ℕ)
held_by w A = w.a
held_by w B = w.b

abbrev pub holding : World → Side → List (List ℕ) → World
holding w A v = record w { a = v }
holding w B v = record w { b = v }

-- a slot that is given has a number that isn't in use
abbrev pub numbered : Pool → (c : Call) → AnswerTo c → AnswerTo c
numbered p WantSlot (Given k) = Given (least_free (least 64 (λ n. not (is_in n p.used))))
  where
    least_free : Option ℕ → ℕ
    least_free (Some n) = n
    least_free None = 0
numbered p c a = a

pub record Played (S A : Type 0) : Type 0 where
  pub state : S
  pub answer : A
  pub world : World

abbrev pub has_memory : World → Bool
has_memory w = not (is_in (w.tries + 1) w.lacks)

abbrev pub asked : World → World
asked w = record w { tries = w.tries + 1 }

-- a keeper may lack memory before an edit
abbrev pub replied : World → (m : Message Image) → ReplyTo m
replied w (BeforeEdit d t i) = has_memory w
replied w (Firm d t i) = tt

abbrev pub heard_by : World → Message Image → World
heard_by w (BeforeEdit d t i) = record (asked w) { heard = w.heard ++ heard_of (BeforeEdit d t i) ∷ [] }
heard_by w (Firm d t i) = record w { heard = w.heard ++ heard_of (Firm d t i) ∷ [] }

-- a write that fails leaves no bytes
unfoldable pub play : {S A : Type 0} → Interaction (List ℕ) Image S A → World → Played S A
play (Done s a) w = record { state = s; answer = a; world = w }
play (Try k) w = play (k (has_memory w)) (asked w)
play (Ask call k) w =
    let a = numbered w.told.pool call (answer w.told.pool call) in
    play (k a) (record w { told = record w.told { pool = after w.told.pool call a } })
play (Read side t k) w =
    play (k (if read_fails (calls_of w.told side) then None else Some (slice_index_or (held_by w side) t [])))
    (record w { told = told_read w.told side })
play (Write side t r k) w =
    let fails = write_fails (calls_of w.told side) in
    play (k (not fails)) (holding (record w { told = told_write w.told side }) side (slice_set (held_by w side) t (if fails then [] else r)))
play (Tell m k) w = play (k (replied w m)) (heard_by w m)

abbrev pub OwnDevice : Type 0
OwnDevice = Device Frame Stored Image

abbrev pub own_store : Store Frame Stored Image
own_store = record {
  device = 0;
  geometry = D3390;
  cylinders = 1;
  number = 0;
  paired = false;
  lent = None;
  held = false;
  a = new_side 15 false;
  b = no_side 15;
  frames = replicate 15 None;
  patches = replicate 15 None;
  lost = replicate 15 false;
  loose = replicate 15 false;
  queue = [];
  half = None;
  plain = [];
  firm = [];
  acts = [];
  owed = replicate 15 no_debt;
  counts = no_counts;
}

pub record Own : Type 0 where
  pub device : OwnDevice
  pub world : World
  pub lines : List Line

-- a new device, with what is planned for that of a stand
abbrev pub own_of : Stand → Own
own_of s = record {
  device = record { store = own_store; paths = fresh_paths; plans = s.device.plans; history = no_history; chain = None };
  world = record {
    told = record {
      pool = record s.told.pool { frames = []; used = [] };
      a = record s.told.a { reads = 0; writes = 0 };
      b = record s.told.b { reads = 0; writes = 0 };
      reads = 0;
      writes = 0;
    };
    a = empty_contents 15;
    b = empty_contents 15;
    heard = [];
    tries = 0;
    lacks = [];
  };
  lines = [];
}

abbrev pub quietly : World → World
quietly w = record w { told = from_zero w.told }

abbrev pub after_step : Own → Played OwnDevice (Option Stepped) → Own
after_step s o = record { device = o.state; world = o.world; lines = s.lines ++ step_line o.answer o.world.told ∷ [] }

abbrev pub after_second : Own → Played OwnDevice SecondEnd → Own
after_second s o = record { device = o.state; world = o.world; lines = s.lines ++ second_line o.answer o.world.told ∷ [] }

abbrev pub after_back : Own → Played OwnDevice (Option Did) → Own
after_back s o = record { device = o.state; world = o.world; lines = s.lines ++ back_line o.answer o.world.told ∷ [] }

abbrev pub after_look : Own → Played OwnDevice (Option Peeked) → Own
after_look s o = record { device = o.state; world = o.world; lines = s.lines ++ look_line o.answer o.world.told ∷ [] }

abbrev pub after_loss : Own → Played OwnDevice (Unit {0}) → Own
after_loss s o = record s { device = o.state; world = o.world }

abbrev pub with_pool : World → Pool → World
with_pool w p = record w { told = record (from_zero w.told) { pool = p } }

abbrev pub starts_by : Own → ℕ → Option StartFault → Own
starts_by s path (Some f) = record s { lines = s.lines ++ Refused f ∷ [] }
starts_by s path None = record s { device = start s.device path; lines = s.lines ++ Started (next_ordinal s.device path) ∷ [] }

-- a replaced volume is empty, and has no failing calls
abbrev pub replaced : World → Side → World
replaced w A = record w { a = empty_contents 15; told = record w.told { a = new_calls [] [] } }
replaced w B = record w { b = empty_contents 15; told = record w.told { b = new_calls [] [] } }

abbrev pub repaired_with : Own → Pool → Own
repaired_with s p =
    record s { world = record s.world { told = record s.world.told { pool = p } }; lines = s.lines ++ repair_line s.world.told.pool ∷ [] }

abbrev pub happens : Own → Event → Own
happens s (Start path) = starts_by s path (start_fault s.device path)
happens s Step = after_step s (play (command contents s.device) (quietly s.world))
happens s Second = after_second s (play (second contents s.device) (quietly s.world))
happens s Work = after_back s (play (background contents s.device) (quietly s.world))
happens s (Reset path) = after_loss s (play (reset contents s.device path) (quietly s.world))
happens s FailCache = after_loss s (play (lose contents s.device losses.Cache) (with_pool s.world (cache_failed s.world.told.pool)))
happens s FailStore = after_loss s (play (lose contents s.device losses.Store) (with_pool s.world (store_failed s.world.told.pool)))
happens s (FailSide side) = after_loss s (play (lose contents s.device (losses.Side side)) (quietly s.world))
happens s RepairCache = repaired_with s (cache_repaired s.world.told.pool)
happens s RepairStore = repaired_with s (store_repaired s.world.told.pool)
happens s Power = after_loss s (play (power contents s.device) (with_pool s.world (power_lost s.world.told.pool)))
happens s (Join reads writes) =
    record s { device = join s.device; world = record s.world { told = record s.world.told { b = new_calls reads writes } } }
happens s (Replace side) = record s { device = replace s.device side; world = replaced s.world side }
happens s Suspend = record s { device = hold_b s.device }
happens s Resume = record s { device = resume s.device }
happens s Split = record s { device = split s.device }
happens s (Lend to) = after_loss s (play (lend contents s.device to) (quietly s.world))
happens s Restore = record s { device = restore s.device; world = replaced s.world A }
happens s (Look t) = after_look s (play (peek contents s.device t) (quietly s.world))
happens s Marks =
    record s { lines = s.lines ++ marks_line (marks_of [] [] s.device.store) s.world.told.pool ∷ [] }
happens s (Note tracks) =
    record s { world = record s.world { told = record s.world.told { pool = record s.world.told.pool { notes = tracks ∷ replicate 15 [] } } } }

unfoldable pub all_do : Own → List Event → Own
all_do s [] = s
all_do s (e ∷ es) = all_do (happens s e) es

-- where the run is of a level pair, the new device becomes one first
abbrev pub prepared : Own → Bool → List ℕ → List ℕ → Own
prepared s paired reads writes =
    if paired then record (all_do s (Join reads writes ∷ works 15)) { lines = [] } else s

abbrev pub own_ran : Run → List Line
own_ran r =
    (all_do (prepared (own_of r.on) r.on.device.store.paired r.on.told.b.plan.reads r.on.told.b.plan.writes) r.events).lines

-- what the keeper heard in a run
abbrev pub heard_in : Run → List Heard
heard_in r =
    (all_do (prepared (own_of r.on) r.on.device.store.paired r.on.told.b.plan.reads r.on.told.b.plan.writes) r.events).world.heard

abbrev pub OwnShow : List Run → Type 0
OwnShow runs = map own_ran runs ≡ map shows_of runs

-- some events of a new device where memory is lacking once: what they show
abbrev pub lacking_at : ℕ → Stand → List Event → List Line
lacking_at n s events = let o = own_of s in (all_do (record o { world = record o.world { lacks = n ∷ [] } }) events).lines
