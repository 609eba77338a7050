-- How many reads and writes the parts of an event make, by every answer that there is: the ranges that are said are those that they make,
-- and one read or write more or fewer is refused.
use Rattle.std.proofs.Common.{◌≡◌, ℕ, zero, suc, ◌+◌, ◌==◌, ◌&&◌, Bool, true, false, List, [], ◌∷◌, ◌++◌, Some, None, refl, min}
use Rattle.std.proofs.Common.{max, nat_le, filter, le-leb, map, add-zero, zero-add, arith, subst, subst₂, sym, true≢false, ◌∙◌}
use Rattle.ckd_types.specs.declared.parameters.Mode.TheVariants.{Normal, Sequential}
use Rattle.ckd_types.specs.declared.paths.Side.TheVariants.{A, B}
use Rattle.ckd_types.specs.declared.record.Edit.{Edit}
use Rattle.ckd_types.specs.declared.record.Edit.TheVariants.{Update}
use Rattle.ckd_types.specs.Commands.{command_of}
use Rattle.loss_model.specs.declared.Loss.TheVariants as losses
use Rattle.track_image.specs.Image.{Image}
use Rattle.track_table.specs.Tracks.{least, count_below}
use Rattle.device_outside.specs.declared.port.SlotGrant.TheVariants.{Given, Denied, Down}
use Rattle.device_outside.specs.Interaction.{Interaction, Done, Try, Ask, Read, Write, Tell}
use Rattle.device_outside.specs.Keeper.{Message, BeforeEdit, Firm, ReplyTo}
use Rattle.device_outside.specs.Lists.{is_in, with_number, less_one}
use Rattle.device_outside.specs.Pool.{
  Call,
  NextNotice,
  Touch,
  WantFrame,
  SetModified,
  SetClean,
  DropFrame,
  WantSlot,
  FreeSlot,
  TellWaiting,
  AnswerTo,
  answer,
  after,
}
use Rattle.device_outside.specs.Told.{hold}
use Rattle.device_outside.specs.Volume.{counted}
use Rattle.device_defs.specs.declared.answers.Choice.TheVariants.{Fast, Provisional}
use Rattle.device_defs.specs.declared.usage.Usage.{Usage}
use Rattle.device_defs.specs.Background.{copies_to, copy_by, destage_first, recover, stage, work}
use Rattle.device_defs.specs.Choosing.{choose}
use Rattle.device_defs.specs.Command.{look, follow, command}
use Rattle.device_defs.specs.Contents.{by_plain}
use Rattle.device_defs.specs.Cutting.{reset, power}
use Rattle.device_defs.specs.Editing.{through, write, write_by}
use Rattle.device_defs.specs.Events.{losing, second, background, lose}
use Rattle.device_defs.specs.Image.{hit, level_bytes, image}
use Rattle.device_defs.specs.Losses.{over, settled, side_lost, cache_lost, store_lost, all_firm_told}
use Rattle.device_defs.specs.Marks.{MarksDevice, MarksStore}
use Rattle.device_defs.specs.Orders.{lend}
use Rattle.device_defs.specs.Owed.{waits, hear, all_told}
use Rattle.device_defs.specs.Peek.{peek_track}
use Rattle.device_defs.specs.Second.{second_part}
use Rattle.device_defs.specs.Start.{start_fault, start}
use Rattle.device_defs.specs.Store.{HalfWrite, OfBackground, plain_at, with_stale}
use Rattle.device_defs.specs.Transfers.{
  BothParts,
  Copy,
  FirstPart,
  FramedTrack,
  Hit,
  InCache,
  Loss,
  Makes,
  Miss,
  Moves,
  Part,
  Range,
  SecondPart,
  Staging,
  UnframedTrack,
  Within,
  reads_of,
  writes_of,
}
use Rattle.device_defs.specs.Writing.{write_first, write_second, write_done}
use Rattle.device_defs.proofs.Stand.{
  Event,
  FailCache,
  FailSide,
  Stand,
  Work,
  all_happen,
  copies,
  go,
  new_data,
  pair,
  read_zero,
  stand,
  steps_of,
  works,
  write_zero,
}

-- Every outcome of an interaction: its reads and its writes

pub record Moved : Type 0 where
  pub reads : ℕ
  pub writes : ℕ

-- each answer, but for numbers: of slots one stands for all, and a note is none
abbrev answers_of : (c : Call) → List (AnswerTo c)
answers_of (NextNotice d) = None ∷ []
answers_of (Touch d t) = true ∷ false ∷ []
answers_of (WantFrame d t) = true ∷ false ∷ []
answers_of (SetModified d t) = true ∷ false ∷ []
answers_of (SetClean d t) = tt ∷ []
answers_of (DropFrame d t) = tt ∷ []
answers_of WantSlot = Given 0 ∷ Denied ∷ Down ∷ []
answers_of (FreeSlot k) = tt ∷ []
answers_of (TellWaiting d n) = tt ∷ []

abbrev replies_of : (m : Message Image) → List (ReplyTo m)
replies_of (BeforeEdit d t i) = true ∷ false ∷ []
replies_of (Firm d t i) = tt ∷ []

unfoldable each_of : {X Y : Type 0} → (X → List Y) → List X → List Y
each_of f [] = []
each_of f (x ∷ xs) = f x ++ each_of f xs

unfoldable outcomes : {S A : Type 0} → Interaction Bool Image S A → ℕ → ℕ → List Moved
outcomes (Done s a) reads writes = record { reads = reads; writes = writes } ∷ []
outcomes (Try k) reads writes = outcomes (k true) reads writes ++ outcomes (k false) reads writes
outcomes (Ask call k) reads writes = each_of (λ a. outcomes (k a) reads writes) (answers_of call)
outcomes (Read side t k) reads writes =
    outcomes (k None) (reads + 1) writes ++ (outcomes (k (Some true)) (reads + 1) writes ++ outcomes (k (Some false)) (reads + 1) writes)
outcomes (Write side t r k) reads writes = outcomes (k true) reads (writes + 1) ++ outcomes (k false) reads (writes + 1)
outcomes (Tell m k) reads writes = each_of (λ r. outcomes (k r) reads writes) (replies_of m)

-- Their range

pub record Spread : Type 0 where
  pub reads : Range
  pub writes : Range

abbrev wider : Range → ℕ → Range
wider r n = record { least = min r.least n; most = max r.most n }

abbrev with_moved : Spread → Moved → Spread
with_moved x m = record { reads = wider x.reads m.reads; writes = wider x.writes m.writes }

abbrev of_moved : Moved → Spread
of_moved m = record { reads = record { least = m.reads; most = m.reads }; writes = record { least = m.writes; most = m.writes } }

unfoldable spread_on : Spread → List Moved → Spread
spread_on x [] = x
spread_on x (m ∷ ms) = spread_on (with_moved x m) ms

abbrev spread_of : List Moved → Spread
spread_of [] = of_moved (record { reads = 0; writes = 0 })
spread_of (m ∷ ms) = spread_on (of_moved m) ms

abbrev made : {S A : Type 0} → Interaction Bool Image S A → Spread
made i = spread_of (outcomes i 0 0)

abbrev is_same_range : Range → Range → Bool
is_same_range x y = (x.least == y.least) && (x.most == y.most)

-- an interaction makes all numbers of transfers that are said of a part, from the least to the most, and no others
abbrev makes : {S A : Type 0} → Interaction Bool Image S A → MarksStore → Part → Bool
makes i s part = is_same_range (made i).reads (reads_of s part) && is_same_range (made i).writes (writes_of s part)

unfoldable all_so : List Bool → Bool
all_so [] = true
all_so (b ∷ bs) = b && all_so bs

-- Stores

abbrev behind : Stand → List Event → MarksStore
behind s events = (all_happen s events).device.store

abbrev usage : Usage
usage = record { mode = Normal; inhibit = false; last = None; provisional = false }

abbrev ahead_usage : Usage
ahead_usage = record usage { mode = Sequential; last = Some 14 }

abbrev loose_usage : Usage
loose_usage = record usage { provisional = true }

-- one volume and a pair, without any frame
abbrev volume : MarksStore
volume = behind (stand 4 2 [] [] []) []

abbrev both_sides : MarksStore
both_sides = behind (pair [] [] []) []

-- with a fast write of track 0
abbrev fast_volume : MarksStore
fast_volume = behind (stand 4 2 [] [] (write_zero 0xc0 0 ∷ [])) (go 3)

abbrev fast_pair : MarksStore
fast_pair = behind (pair [] [] (write_zero 0xc0 0 ∷ [])) (go 3)

-- and its patch alone
abbrev patched_pair : MarksStore
patched_pair = behind (pair [] [] (write_zero 0xc0 0 ∷ [])) (go 3 ++ FailCache ∷ [])

-- with a clean frame
abbrev clean_volume : MarksStore
clean_volume = behind (stand 4 2 [] [] (read_zero 0xc0 0 ∷ [])) (go 3)

-- side A is lost
abbrev side_b : MarksStore
side_b = behind (pair [] [] []) (FailSide A ∷ [])

-- a half write, and one behind the loss of side B
abbrev half_pair : MarksStore
half_pair = behind (pair [] [] (write_zero 0xc0 0 ∷ [])) (go 3 ++ Work ∷ [])

abbrev half_alone : MarksStore
half_alone = behind (pair [] [] (write_zero 0xc0 0 ∷ [])) (go 3 ++ Work ∷ FailSide B ∷ [])

-- track 3 is stale on side B
abbrev stale_pair : MarksStore
stale_pair = with_stale both_sides B 3 true

abbrev the_half : HalfWrite (Unit {0})
the_half = record { track = 0; origin = OfBackground; image = tt }

abbrev an_edit : Edit
an_edit = Update 0 [] new_data

abbrev an_image : Image
an_image = plain_at volume 0

abbrev lost_volume : MarksStore
lost_volume = behind (stand 4 2 [] [] []) (FailSide A ∷ [])

abbrev running_device : MarksDevice
running_device = (all_happen (stand 4 2 [] [] (read_zero 0xc0 0 ∷ [])) (go 2)).device

-- What the parts make is what is said of them: the least and the most

-- a modified frame, a clean one that the pool lists, and a lost track
hits :
    all_so (makes (image by_plain fast_volume usage 0) fast_volume Hit
    ∷ makes (hit by_plain clean_volume 0 false) clean_volume Hit
    ∷ makes (peek_track by_plain lost_volume 0) lost_volume Hit ∷ []) ≡ true
unfolding all_so each_of outcomes spread_on all_happen steps_of works hold answer after is_in with_number less_one counted least count_below
    command_of over settled side_lost cache_lost store_lost all_firm_told waits hear all_told level_bytes image
    choose write_first write_second write_done through write second_part work look follow command second background
    lose start_fault start reset power copies lend
hits = refl

-- of one volume one read; of a pair one, or two where the first fails; in sequential mode too
misses :
    all_so (makes (image by_plain volume usage 0) volume (Miss 0)
    ∷ makes (image by_plain both_sides usage 0) both_sides (Miss 0)
    ∷ makes (image by_plain side_b usage 0) side_b (Miss 0)
    ∷ makes (image by_plain both_sides ahead_usage 0) both_sides (Miss 0) ∷ []) ≡ true
unfolding all_so each_of outcomes spread_on all_happen steps_of works hold answer after is_in with_number less_one counted least count_below
    command_of over settled side_lost cache_lost store_lost all_firm_told waits hear all_told level_bytes image
    choose write_first write_second write_done through write second_part work look follow command second background
    lose start_fault start reset power copies lend
misses = refl

-- fast and provisional writes
cache_writes :
    all_so (makes (write_by by_plain usage 0 0 an_image an_edit fast_pair (Fast None)) fast_pair InCache
    ∷ makes (write_by by_plain loose_usage 0 0 an_image an_edit fast_pair Provisional) fast_pair InCache ∷ []) ≡ true
unfolding all_so each_of outcomes spread_on all_happen steps_of works hold answer after is_in with_number less_one counted least count_below
    command_of over settled side_lost cache_lost store_lost all_firm_told waits hear all_told level_bytes image
    choose write_first write_second write_done through write second_part work look follow command second background
    lose start_fault start reset power copies lend
cache_writes = refl

-- the first part: one write, and side B in the same event only where A fails
first_parts :
    all_so (makes (write_first by_plain volume 0 true) volume FirstPart
    ∷ makes (write_first by_plain both_sides 0 true) both_sides FirstPart
    ∷ makes (write_first by_plain side_b 0 true) side_b FirstPart ∷ []) ≡ true
unfolding all_so each_of outcomes spread_on all_happen steps_of works hold answer after is_in with_number less_one counted least count_below
    command_of over settled side_lost cache_lost store_lost all_firm_told waits hear all_told level_bytes image
    choose write_first write_second write_done through write second_part work look follow command second background
    lose start_fault start reset power copies lend
first_parts = refl

-- the second part: one write, or none where the side that is left is lost
second_parts :
    all_so (makes (second_part by_plain half_pair the_half) half_pair SecondPart
    ∷ makes (second_part by_plain half_alone the_half) half_alone SecondPart ∷ []) ≡ true
unfolding all_so each_of outcomes spread_on all_happen steps_of works hold answer after is_in with_number less_one counted least count_below
    command_of over settled side_lost cache_lost store_lost all_firm_told waits hear all_told level_bytes image
    choose write_first write_second write_done through write second_part work look follow command second background
    lose start_fault start reset power copies lend
second_parts = refl

-- both parts in one event: each side that takes writes, whichever fails
parts_at_once :
    all_so (makes (through by_plain volume 0 an_image an_edit false false) volume BothParts
    ∷ makes (through by_plain both_sides 0 an_image an_edit false false) both_sides BothParts
    ∷ makes (through by_plain side_b 0 an_image an_edit false false) side_b BothParts ∷ []) ≡ true
unfolding all_so each_of outcomes spread_on all_happen steps_of works hold answer after is_in with_number less_one counted least count_below
    command_of over settled side_lost cache_lost store_lost all_firm_told waits hear all_told level_bytes image
    choose write_first write_second write_done through write second_part work look follow command second background
    lose start_fault start reset power copies lend
parts_at_once = refl

-- recovery and destaging of a track with a frame, where memory may lack
framed_tracks :
    all_so (makes (recover by_plain fast_volume 0 (Some true)) fast_volume FramedTrack
    ∷ makes (recover by_plain fast_pair 0 (Some true)) fast_pair FramedTrack
    ∷ makes (destage_first by_plain fast_pair (Some 0)) fast_pair FramedTrack ∷ []) ≡ true
unfolding all_so each_of outcomes spread_on all_happen steps_of works hold answer after is_in with_number less_one counted least count_below
    command_of over settled side_lost cache_lost store_lost all_firm_told waits hear all_told level_bytes image
    choose write_first write_second write_done through write second_part work look follow command second background
    lose start_fault start reset power copies lend
framed_tracks = refl

-- and without one
unframed_tracks :
    all_so (makes (recover by_plain volume 0 None) volume (UnframedTrack 0)
    ∷ makes (recover by_plain patched_pair 0 None) patched_pair (UnframedTrack 0) ∷ []) ≡ true
unfolding all_so each_of outcomes spread_on all_happen steps_of works hold answer after is_in with_number less_one counted least count_below
    command_of over settled side_lost cache_lost store_lost all_firm_told waits hear all_told level_bytes image
    choose write_first write_second write_done through write second_part work look follow command second background
    lose start_fault start reset power copies lend
unframed_tracks = refl

copies_made :
    all_so (makes (copy_by by_plain stale_pair 3 (copies_to stale_pair 3)) stale_pair Copy ∷ []) ≡ true
unfolding all_so each_of outcomes spread_on all_happen steps_of works hold answer after is_in with_number less_one counted least count_below
    command_of over settled side_lost cache_lost store_lost all_firm_told waits hear all_told level_bytes image
    choose write_first write_second write_done through write second_part work look follow command second background
    lose start_fault start reset power copies lend
copies_made = refl

stagings :
    all_so (makes (stage by_plain volume 0) volume (Staging 0)
    ∷ makes (stage by_plain both_sides 0) both_sides (Staging 0) ∷ []) ≡ true
unfolding all_so each_of outcomes spread_on all_happen steps_of works hold answer after is_in with_number less_one counted least count_below
    command_of over settled side_lost cache_lost store_lost all_firm_told waits hear all_told level_bytes image
    choose write_first write_second write_done through write second_part work look follow command second background
    lose start_fault start reset power copies lend
stagings = refl

-- losses, resets, the loss of power and lending move nothing
losses_made :
    all_so (makes (losing by_plain fast_pair losses.Cache) fast_pair Loss
    ∷ makes (losing by_plain fast_pair losses.Store) fast_pair Loss
    ∷ makes (losing by_plain fast_pair (losses.Side A)) fast_pair Loss
    ∷ makes (reset by_plain running_device 1) volume Loss
    ∷ makes (power by_plain running_device) volume Loss
    ∷ makes (lend by_plain running_device 1) volume Loss ∷ []) ≡ true
unfolding all_so each_of outcomes spread_on all_happen steps_of works hold answer after is_in with_number less_one counted least count_below
    command_of over settled side_lost cache_lost store_lost all_firm_told waits hear all_told level_bytes image
    choose write_first write_second write_done through write second_part work look follow command second background
    lose start_fault start reset power copies lend
losses_made = refl

-- What is refused

-- so many reads, and then so many writes, whatever is answered
unfoldable calls : ℕ → ℕ → Interaction Bool Image (Unit {0}) (Unit {0})
calls zero zero = Done tt tt
calls zero (suc writes) = Write A 0 true (λ ok. calls zero writes)
calls (suc reads) writes = Read A 0 (λ got. calls reads writes)

moved_by : (q : ℕ → ℕ → Type 0) (m n reads writes : ℕ) → Moves q m n (calls reads writes) → q (m + reads) (n + writes)
unfolding Moves calls
moved_by q m n zero zero moves = subst₂ q (sym (add-zero m)) (sym (add-zero n)) moves
moved_by q m n zero (suc writes) moves =
    let more : n + 1 + writes ≡ n + suc writes = grind arith in
    subst (λ k. q (m + 0) k) more (moved_by q m (n + 1) zero writes (moves true))
moved_by q m n (suc reads) writes moves =
    let more : m + 1 + reads ≡ m + suc reads = grind arith in
    subst (λ k. q k (n + writes)) more (moved_by q (m + 1) n reads writes (moves None))

abbrev is_in_range : Range → ℕ → Bool
is_in_range r n = nat_le r.least n && nat_le n r.most

abbrev is_within : MarksStore → Part → ℕ → ℕ → Bool
is_within s part reads writes = is_in_range (reads_of s part) reads && is_in_range (writes_of s part) writes

within_is : (s : MarksStore) (part : Part) (reads writes : ℕ) → Within s part reads writes → is_within s part reads writes ≡ true
within_is s part reads writes w =
    rw (le-leb _ _ w.least_reads, le-leb _ _ w.most_reads, le-leb _ _ w.least_writes, le-leb _ _ w.most_writes) refl

-- an interaction with another number of reads or writes makes no such part
other_numbers_are_refused : (s : MarksStore) (part : Part) (reads writes : ℕ) → is_within s part reads writes ≡ false →
    Makes s part (calls reads writes) → ⊥
other_numbers_are_refused s part reads writes fails makes =
    let within : Within s part reads writes = subst₂ (Within s part) (zero-add reads) (zero-add writes) (moved_by _ 0 0 reads writes makes.moves) in
    true≢false (sym (within_is s part reads writes within) ∙ fails)

abbrev some_numbers : List (ℕ × ℕ)
some_numbers =
    (0, 0) ∷ (0, 1) ∷ (0, 2) ∷ (0, 3) ∷ (1, 0) ∷ (1, 1) ∷ (1, 2) ∷ (1, 3) ∷ (2, 0) ∷ (2, 1) ∷ (2, 2) ∷ (2, 3) ∷ (3, 0) ∷ (3, 1) ∷ (3, 2) ∷ (3, 3) ∷ []

-- which of these numbers of reads and writes each part may have
abbrev admitted : MarksStore → Part → List (ℕ × ℕ)
admitted s part = filter (λ (n : ℕ × ℕ). is_within s part n.0 n.1) some_numbers

of_one_volume :
    map (admitted volume) (Hit ∷ Miss 0 ∷ InCache ∷ FirstPart ∷ SecondPart ∷ BothParts ∷ Loss ∷ [])
    ≡ ((0, 0) ∷ []) ∷ ((1, 0) ∷ []) ∷ ((0, 0) ∷ []) ∷ ((0, 1) ∷ []) ∷ ((0, 0) ∷ []) ∷ ((0, 1) ∷ []) ∷ ((0, 0) ∷ []) ∷ []
unfolding all_so each_of outcomes spread_on all_happen steps_of works hold answer after is_in with_number less_one counted least count_below
    command_of over settled side_lost cache_lost store_lost all_firm_told waits hear all_told level_bytes image
    choose write_first write_second write_done through write second_part work look follow command second background
    lose start_fault start reset power copies lend
of_one_volume = refl

of_a_pair :
    map (admitted both_sides) (Hit ∷ Miss 0 ∷ InCache ∷ FirstPart ∷ SecondPart ∷ BothParts ∷ Copy ∷ Staging 0 ∷ Loss ∷ [])
    ≡ ((0, 0) ∷ []) ∷ ((1, 0) ∷ (2, 0) ∷ []) ∷ ((0, 0) ∷ []) ∷ ((0, 1) ∷ (0, 2) ∷ []) ∷ ((0, 1) ∷ []) ∷ ((0, 2) ∷ [])
    ∷ ((1, 0) ∷ (1, 1) ∷ []) ∷ ((0, 0) ∷ (1, 0) ∷ (2, 0) ∷ []) ∷ ((0, 0) ∷ []) ∷ []
unfolding all_so each_of outcomes spread_on all_happen steps_of works hold answer after is_in with_number less_one counted least count_below
    command_of over settled side_lost cache_lost store_lost all_firm_told waits hear all_told level_bytes image
    choose write_first write_second write_done through write second_part work look follow command second background
    lose start_fault start reset power copies lend
of_a_pair = refl

of_saved_tracks :
    map (admitted both_sides) (FramedTrack ∷ UnframedTrack 0 ∷ []) ++ map (admitted volume) (FramedTrack ∷ UnframedTrack 0 ∷ [])
    ≡ ((0, 0) ∷ (0, 1) ∷ (0, 2) ∷ []) ∷ ((1, 0) ∷ (1, 1) ∷ (1, 2) ∷ (2, 0) ∷ (2, 1) ∷ (2, 2) ∷ [])
    ∷ ((0, 0) ∷ (0, 1) ∷ []) ∷ ((1, 0) ∷ (1, 1) ∷ []) ∷ []
unfolding all_so each_of outcomes spread_on all_happen steps_of works hold answer after is_in with_number less_one counted least count_below
    command_of over settled side_lost cache_lost store_lost all_firm_told waits hear all_told level_bytes image
    choose write_first write_second write_done through write second_part work look follow command second background
    lose start_fault start reset power copies lend
of_saved_tracks = refl
