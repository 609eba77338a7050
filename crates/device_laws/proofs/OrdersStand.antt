-- What a command is to do is on its device; so a running chain is on it, also where a command begins.
use Rattle.std.proofs.Common.{
  ◌≡◌,
  ◌<◌,
  ◌≤◌,
  ◌+◌,
  ◌*◌,
  ◌/◌,
  ◌%◌,
  ◌&&◌,
  ◌||◌,
  ◌==◌,
  ℕ,
  Bool,
  true,
  false,
  List,
  length,
  Option,
  Some,
  None,
  Result,
  Ok,
  Err,
  refl,
  subst,
  arith,
}
use Rattle.std.specs.Prelude.{if◌then◌else◌, nat_lt, nat_le, not, slice_index}
use Rattle.std.specs.Int.RustNames.{bit_and}
use Rattle.std.proofs.lemmas.Bool.Decides.{nat_tests}
use Rattle.ckd_types.specs.declared.channel.Ccw.{Ccw}
use Rattle.ckd_types.specs.declared.command.Command.{Command}
use Rattle.ckd_types.specs.declared.command.Command.TheVariants as commands
use Rattle.ckd_types.specs.declared.command.Control.{Control}
use Rattle.ckd_types.specs.declared.command.Control.TheVariants as controls
use Rattle.ckd_types.specs.declared.geometry.Cchh.{Cchh}
use Rattle.ckd_types.specs.declared.parameters.Domain.{Domain}
use Rattle.ckd_types.specs.declared.parameters.Extent.{Extent}
use Rattle.ckd_types.specs.declared.parameters.Mode.{Mode}
use Rattle.ckd_types.specs.declared.parameters.Operation.{Operation}
use Rattle.ckd_types.specs.declared.parameters.ParamFault.{ParamFault}
use Rattle.ckd_types.specs.declared.parameters.ParamFault.TheVariants.{Short, BadMask, BadCount, BadAux, BadRange}
use Rattle.ckd_types.specs.declared.sense.Sense.{Sense}
use Rattle.ckd_types.specs.Commands.{command_of, required_count}
use Rattle.ckd_types.specs.Fixed.{Fixed}
use Rattle.ckd_types.specs.Geometry.{track_at}
use Rattle.ckd_types.specs.Mask.{is_mask}
use Rattle.ckd_types.specs.Parameters.{
  given,
  number_at,
  cchh_at,
  seek_to,
  head_to,
  attributes_mode,
  ranged_extent,
  moded_extent,
  extent_of,
  is_bad_count,
  operation_of,
  sought_domain,
  operated_domain,
  domain_of,
}
use Rattle.ckd_types.specs.Sense.{reject_sense}
use Rattle.ckd_rules.specs.declared.opening.Opening.{Opening}
use Rattle.ckd_rules.specs.declared.opening.Opening.TheVariants as openings
use Rattle.ckd_rules.specs.declared.order.CommandOrder.{CommandOrder}
use Rattle.ckd_rules.specs.declared.order.CommandOrder.TheVariants.{Nothing, Seeks, Recalibrates, SetsSector, SetsMask, Defines, Locates}
use Rattle.ckd_rules.specs.declared.stance.Stance.{Stance}
use Rattle.ckd_rules.specs.Checks.{
  is_in_sequence,
  seeks,
  has_own_number,
  defines,
  locates,
  control_order,
  decoded_order,
  masked_order,
  permitted_order,
  order_by,
  order_of,
}
use Rattle.ckd_rules.specs.Facts.{HasRoom, Stands, IsSought, IsOrder, Opens}
use Rattle.ckd_rules.specs.Opening.{begun, opening_with}
use Rattle.ckd_rules.specs.Stance.{first_stance}
use Rattle.ckd_rules.proofs.Openings.{opens}
use Rattle.track_image.specs.Image.{Image}
use Rattle.ckd_chain.specs.declared.mark.Stage.{Stage}
use Rattle.ckd_chain.specs.declared.mark.Stage.TheVariants as stages
use Rattle.ckd_chain.specs.declared.progress.Progress.TheVariants.{Need}
use Rattle.ckd_chain.specs.Facts.{IsChain}
use Rattle.ckd_chain.specs.State.{ChainState}
use Rattle.ckd_chain.specs.Steps as S
use Rattle.ckd_chain.specs.Steps.{begun_chain, chain_opened, track_needed, stage_of, stepped, word_of}
use Rattle.device_laws.specs.Standing.{IsWithin}
use Rattle.device_laws.proofs.Bools.{some_is}
use Rattle.device_laws.proofs.ChainTracks.{within_stays, whole_cylinders}

-- Answers behind a test

unless : {X Y : Type 0} (b : Bool) (x : Y) (r : Result X Y) (y : X) → (if b then Err x else r) ≡ Ok y → (b ≡ false) × (r ≡ Ok y)
unless true x r y e = absurd (cc)
unless false x r y e = (refl, e)

ok_is : {X Y : Type 0} (x y : X) (r : Result X Y) → r ≡ Ok y → Ok x ≡ r → x ≡ y
ok_is x y r e f = cc

ok_if : {X Y : Type 0} (b : Bool) (x y : X) (z : Y) → (if b then Ok x else Err z) ≡ Ok y → x ≡ y
ok_if true x y z e = cc
ok_if false x y z e = absurd (cc)

some_if : {X : Type 0} (b : Bool) (x y : X) → (if b then Some x else None) ≡ Some y → x ≡ y
some_if true x y e = cc
some_if false x y e = absurd (cc)

-- Places

placed_on : (n head cylinder t : ℕ) (a b : Bool) → nat_lt head 15 ≡ a → nat_lt cylinder n ≡ b →
    (if a && b then Some (cylinder * 15 + head) else None) ≡ Some t → t < n * 15
placed_on n head cylinder t true true e f is =
    let same : cylinder * 15 + head ≡ t = some_is (cylinder * 15 + head) t is in
    let below : head < 15 = grind (arith, nat_tests) in
    let inside : cylinder < n = grind (arith, nat_tests) in
    omega arith
placed_on n head cylinder t true false e f is = absurd (cc)
placed_on n head cylinder t false b e f is = absurd (cc)

track_on : (n : ℕ) (p : Cchh) (t : ℕ) → track_at n p ≡ Some t → t < n * 15
track_on n p t is = placed_on n p.hh p.cc t (nat_lt p.hh 15) (nat_lt p.cc n) refl refl is

sought_if : (n : ℕ) (p : Cchh) (b : Bool) (t : ℕ) → (if b then track_at n p else None) ≡ Some t → t < n * 15
sought_if n p true t is = track_on n p t is
sought_if n p false t is = absurd (cc)

head_on : (n track head t : ℕ) (a b : Bool) → track < n * 15 → nat_lt head 15 ≡ b →
    (if a && b then Some (track / 15 * 15 + head) else None) ≡ Some t → t < n * 15
head_on n track head t true true on e is =
    let same : track / 15 * 15 + head ≡ t = some_is (track / 15 * 15 + head) t is in
    let below : head < 15 = grind (arith, nat_tests) in
    omega arith
head_on n track head t true false on e is = absurd (cc)
head_on n track head t false b on e is = absurd (cc)

-- Extents and domains

ranged_last : (n mask : ℕ) (mode : Mode) (inhibit : Bool) (number first last : Option ℕ) (e : Extent) → ((t : ℕ) → last ≡ Some t → t < n) →
    ranged_extent mask mode inhibit number first last ≡ Ok e → e.last < n
ranged_last n mask mode inhibit number (Some first) (Some last) e below is =
    rw (← (ok_if (nat_le first last) (record { mask = mask; mode = mode; inhibit_fast = inhibit; number = number; first = first; last = last }) e BadRange is))
    (below last refl)
ranged_last n mask mode inhibit number (Some first) None e below is = absurd (cc)
ranged_last n mask mode inhibit number None last e below is = absurd (cc)

moded_last : (n : ℕ) (bytes : List ℕ) (mode : Option Mode) (e : Extent) → moded_extent n bytes mode ≡ Ok e → e.last < n * 15
moded_last n bytes (Some mode) e is =
    ranged_last (n * 15) _ mode _ _ _ (track_at n (cchh_at bytes 12)) e (λ t f. track_on n (cchh_at bytes 12) t f) is
moded_last n bytes None e is = absurd (cc)

extent_last : (n : ℕ) (bytes : List ℕ) (e : Extent) → extent_of n bytes ≡ Ok e → e.last < n * 15
extent_last n bytes e is =
    let m : Result Extent ParamFault = moded_extent n bytes (attributes_mode (slice_index bytes 1)) in
    let b = not (is_mask (slice_index bytes 0)) in
    moded_last n bytes (attributes_mode (slice_index bytes 1)) e
    (unless b BadMask m e (unless (nat_lt (length bytes) 16) Short (if b then Err BadMask else m) e is).1).1

sought_on : (n : ℕ) (bytes : List ℕ) (operation : Operation) (o : Option ℕ) (d : Domain) → ((t : ℕ) → o ≡ Some t → t < n) →
    is_bad_count operation (slice_index bytes 3) ≡ false → sought_domain bytes operation o ≡ Ok d → IsSought n d
sought_on n bytes operation (Some seek) d below good is =
    subst (IsSought n) (ok_is _ d (sought_domain bytes operation (Some seek)) is refl) (record { seek = below seek refl; count = good })
sought_on n bytes operation None d below good is = absurd (cc)

operated_on : (n : ℕ) (bytes : List ℕ) (o : Option Operation) (d : Domain) → operated_domain n bytes o ≡ Ok d → IsSought (n * 15) d
operated_on n bytes (Some operation) d is =
    let m : Result Domain ParamFault = sought_domain bytes operation (track_at n (cchh_at bytes 4)) in
    let b = not (bit_and (slice_index bytes 1) 0x7f == 0) || not (slice_index bytes 2 == 0) in
    let counted = unless (is_bad_count operation (slice_index bytes 3)) BadCount (if b then Err BadAux else m) d is in
    sought_on (n * 15) bytes operation (track_at n (cchh_at bytes 4)) d (λ t f. track_on n (cchh_at bytes 4) t f) counted.0
    (unless b BadAux m d counted.1).1
operated_on n bytes None d is = absurd (cc)

domain_on : (n : ℕ) (bytes : List ℕ) (d : Domain) → domain_of n bytes ≡ Ok d → IsSought (n * 15) d
domain_on n bytes d is =
    let o = operation_of (bit_and (slice_index bytes 0) 0x3f) in
    operated_on n bytes o d (unless (nat_lt (length bytes) 16) Short (operated_domain n bytes o) d is).1

-- Orders

seeks_on : (n : ℕ) (x : Option ℕ) (o : CommandOrder) → ((t : ℕ) → x ≡ Some t → t < n) → seeks x ≡ Some o → IsOrder n o
seeks_on n (Some t) o below is = subst (IsOrder n) (some_is (Seeks t) o is) (below t refl)
seeks_on n None o below is = absurd (cc)

defines_on : (own : ℕ) (r : Result Extent ParamFault) (n : ℕ) (o : CommandOrder) → ((e : Extent) → r ≡ Ok e → e.last < n) → defines own r ≡ Some o →
    IsOrder n o
defines_on own (Ok e) n o last is = subst (IsOrder n) (some_if (has_own_number own e.number) (Defines e) o is) (last e refl)
defines_on own (Err fault) n o last is = absurd (cc)

locates_on : (r : Result Domain ParamFault) (n : ℕ) (o : CommandOrder) → ((d : Domain) → r ≡ Ok d → IsSought n d) → locates r ≡ Some o → IsOrder n o
locates_on (Ok d) n o sought is = subst (IsOrder n) (some_is (Locates d) o is) (sought d refl)
locates_on (Err fault) n o sought is = absurd (cc)

module _ (f : Fixed) (s : Stance) (on : s.track < f.cylinders * 15) where
  abbrev n : ℕ
  n = f.cylinders * 15

  control_on : (bytes : List ℕ) (c : Control) (o : CommandOrder) → control_order f s bytes c ≡ Some o → IsOrder n o
  control_on bytes controls.NoOperation o is = subst (IsOrder n) (some_is Nothing o is) tt
  control_on bytes controls.Seek o is =
      seeks_on n (seek_to f.cylinders bytes) o (λ t e. sought_if f.cylinders (cchh_at bytes 2) (number_at bytes 0 == 0) t e) is
  control_on bytes controls.SeekCylinder o is =
      seeks_on n (seek_to f.cylinders bytes) o (λ t e. sought_if f.cylinders (cchh_at bytes 2) (number_at bytes 0 == 0) t e) is
  control_on bytes controls.SeekHead o is =
      seeks_on n (head_to s.track bytes) o (λ t e. head_on f.cylinders s.track (number_at bytes 4) t _ _ on refl e) is
  control_on bytes controls.Recalibrate o is = subst (IsOrder n) (some_is Recalibrates o is) tt
  control_on bytes controls.SetSector o is = subst (IsOrder n) (some_is SetsSector o is) tt
  control_on bytes controls.SetFileMask o is = subst (IsOrder n) (some_if _ (SetsMask (slice_index bytes 0)) o is) tt
  control_on bytes controls.DefineExtent o is =
      defines_on f.number (extent_of f.cylinders bytes) n o (λ e g. extent_last f.cylinders bytes e g) is
  control_on bytes controls.LocateRecord o is = locates_on (domain_of f.cylinders bytes) n o (λ d g. domain_on f.cylinders bytes d g) is

  decoded_on : (c : Ccw) (k : Command) (o : CommandOrder) → decoded_order f s c k ≡ Some o → IsOrder n o
  decoded_on c (commands.Control k) o is = control_on (given 16 c) k o is
  decoded_on c (commands.Search x) o is = subst (IsOrder n) (some_is _ o is) tt
  decoded_on c (commands.Read r) o is = subst (IsOrder n) (some_is _ o is) tt
  decoded_on c (commands.Write w) o is = subst (IsOrder n) (some_is _ o is) tt
  decoded_on c (commands.Device d) o is = subst (IsOrder n) (some_is _ o is) tt

  masked_is : (order o : CommandOrder) (x : Option Sense) → masked_order s order x ≡ Ok o → order ≡ o
  masked_is order o (Some sense) is = absurd (cc)
  masked_is order o None is = ok_if _ order o _ is

  permitted_on : (k : Command) (x : Option CommandOrder) (o : CommandOrder) → ((y : CommandOrder) → x ≡ Some y → IsOrder n y) → permitted_order s k x ≡ Ok o → IsOrder n o
  permitted_on k (Some order) o good is = subst (IsOrder n) (masked_is order o _ is) (good order refl)
  permitted_on k None o good is = absurd (cc)

  by_command : (c : Ccw) (k : Option Command) (o : CommandOrder) → order_by f s c k ≡ Ok o → IsOrder n o
  by_command c (Some k) o is =
      let r : Result CommandOrder Sense = permitted_order s k (decoded_order f s c k) in
      let short = nat_lt c.count (required_count k) in
      permitted_on k (decoded_order f s c k) o (λ y e. decoded_on c k y e)
      (unless short (reject_sense 3) r o
      (unless (not (is_in_sequence s s.domain k)) (reject_sense 2) (if short then Err (reject_sense 3) else r) o is).1).1
  by_command c None o is = absurd (cc)

  -- an order that isn't refused goes to a track of the device
  pub order_stands : (c : Ccw) (o : CommandOrder) → order_of f s c ≡ Ok o → IsOrder n o
  order_stands c o is = by_command c (command_of c.command) o is

-- Chains

stands_by : (n : ℕ) (old new : Stance) (how : Opening) → Opens n old new how → Stands n new
stands_by n old new (openings.Over e) o = o.stands
stands_by n old new (openings.Looks look) o = o.0.stands
stands_by n old new (openings.Asks act) o = o.stands

module _ (n : ℕ) (s : Stance) (on : Stands n s) (some : 0 < n) (whole : n % 15 ≡ 0) where
  opened_stands : (c : Ccw) (r : Result CommandOrder Sense) → ((o : CommandOrder) → r ≡ Ok o → IsOrder n o) → Stands n (opening_with s c r).stance
  opened_stands c (Ok order) good =
      stands_by n s (begun s c order).stance (begun s c order).opening
      (opens n s c order (begun s c order).stance (begun s c order).opening on some whole (good order refl) refl refl)
  opened_stands c (Err sense) good = record { track = on.track; extent = on.extent; left = on.left; passes = on.passes }

need_below : (n : ℕ) (u : ChainState) (stage : Stage) (t : ℕ) → u.at.stance.track < n → track_needed u stage ≡ Some t → t < n
need_below n u (stages.Looks look) t on is = let same : u.at.stance.track ≡ t = cc in omega arith
need_below n u stages.Over t on is = absurd (cc)
need_below n u (stages.Asks act) t on is = absurd (cc)

module _ (chain : ChainState) (is : IsChain chain) where
  stood : (o : Option Stage) → Stands (chain.fixed.cylinders * 15) (S.opened_by chain o).at.stance
  stood None =
      let some = is.some in
      opened_stands (chain.fixed.cylinders * 15) chain.at.stance is.stands (omega arith) (whole_cylinders chain.fixed.cylinders) (word_of chain)
      (order_of chain.fixed chain.at.stance (word_of chain))
      (λ o e. order_stands chain.fixed chain.at.stance is.stands.track (word_of chain) o e)
  stood (Some stage) = is.stands

  -- a running chain that keeps to what chains keep to is on its device, also where its command hasn't begun
  pub chain_stands : IsWithin (chain.fixed.cylinders * 15) chain
  chain_stands =
      let on = stood chain.stage in
      record {
        needs = λ t e. need_below (chain.fixed.cylinders * 15) (chain_opened chain) (stage_of chain) t on.track e;
        used = is.stands.extent;
        extent = on.extent;
      }

-- so it is where it is begun
pub chain_begins : (ccws : List Ccw) (f : Fixed) → 1 ≤ f.cylinders → f.cylinders ≤ 4369 → length ccws ≤ 256 → IsChain (begun_chain ccws f)
chain_begins ccws f some most words = record {
  some = some;
  most = most;
  words = words;
  stands = first;
  word = omega arith;
  before = record { stands = first; running = record { word = omega arith; room = room } };
  hand = record { held = refl; room = room };
}
  where
    first : Stands (f.cylinders * 15) first_stance
    first = record { track = omega arith; extent = tt; left = λ e. absurd (cc); passes = omega arith }

    room : HasRoom first_stance
    room = record { commands = omega arith; moved = omega arith }

-- and a command goes on to tracks of the device alone
pub chain_stays : (n : ℕ) (chain : ChainState) (i : Image) (q : ℕ) → IsWithin (n * 15) chain → (stepped chain (Some i)).progress ≡ Need q →
    IsWithin (n * 15) (stepped chain (Some i)).chain × (q < n * 15)
chain_stays n chain i q within is = (within_stays (n * 15) (whole_cylinders n)).goes chain i q within is
