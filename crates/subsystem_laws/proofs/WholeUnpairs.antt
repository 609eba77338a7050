-- A pair is taken apart: side B leaves, and the device that was lent gets an empty volume.
use Rattle.std.proofs.Common.{
  ◌≡◌,
  ◌<◌,
  ◌≤◌,
  ◌==◌,
  ◌+◌,
  ◌++◌,
  ℕ,
  zero,
  suc,
  Bool,
  true,
  false,
  List,
  [],
  ◌∷◌,
  Option,
  Some,
  None,
  is_some,
  refl,
  sym,
  ap,
  subst,
  ◌∙◌,
  arith,
  ◌⊎◌,
  inl,
  inr,
  eqb-true,
}
use Rattle.std.proofs.lemmas.Bool.{cases_eq}
use Rattle.std.specs.Prelude.{if◌then◌else◌, not, option_map}
use Rattle.ckd_types.specs.declared.paths.Side.TheVariants.{A}
use Rattle.ckd_types.specs.declared.record.Track.{Track}
use Rattle.ckd_types.specs.Volume.{empty_volume}
use Rattle.track_table.specs.Tracks as T
use Rattle.track_table.specs.Tracks.{count_below}
use Rattle.track_image.specs.Image.{Image}
use Rattle.device_outside.specs.Both.{SideIs}
use Rattle.device_outside.specs.Disk.{empty_contents}
use Rattle.device_outside.specs.Pool.{Pool}
use Rattle.device_outside.specs.Told.{Calls}
use Rattle.device_outside.specs.Volume.{VolumeView}
use Rattle.device_defs.specs.Marks.{MarksDevice, half_mark}
use Rattle.device_defs.specs.Orders.{split, restore}
use Rattle.device_defs.specs.Store.{HalfWrite, tracks_of, stale_at}
use Rattle.device_laws.specs.Agrees.{Held}
use Rattle.device_laws.specs.InOrder.{IsInOrder}
use Rattle.device_laws.specs.Lent.{IsLent, Stands, in_order, is_away}
use Rattle.device_laws.specs.Whole.{WholeDevice, marks_device, holding}
use Rattle.device_laws.proofs.OrdersInOrder.{split_order, split_same}
use Rattle.device_laws.proofs.Restoring.{restore_order, restore_same}
use Rattle.subsystem_defs.specs.declared.end.EventEnd.TheVariants.{Done}
use Rattle.subsystem_defs.specs.declared.end.OrderFault.{OrderFault}
use Rattle.subsystem_defs.specs.declared.end.OrderFault.TheVariants.{Unpaired, Down, Half}
use Rattle.subsystem_defs.specs.Happening as H
use Rattle.subsystem_defs.specs.Happening.{is_lent_to, restored_in, unpaired_by, unpaired_at, unpaired}
use Rattle.subsystem_defs.specs.Refusals as R
use Rattle.subsystem_defs.specs.Refusals.{unpair_fault}
use Rattle.subsystem_defs.specs.Subsystem.{Mounted, mounted_in, put_in}
use Rattle.subsystem_laws.specs.WholeComes.{subsystem_of, IsWhatCame}
use Rattle.subsystem_laws.specs.WholeStood.{Stood, stood_in, put_at, lent_in, restored_at, IsMounted, is_mounted, AreMountedBy, one_more, AreMounted}
use Rattle.subsystem_laws.proofs.WholeFinding.{Found, none_found, both_found, find}
use Rattle.subsystem_defs.proofs.Unrefused.{first_none, where_none, is_not}

some_is : {X : Type 0} (x y : X) → Some x ≡ Some y → x ≡ y
some_is x y e = cc

-- When a pair may be taken apart

pub record MayPart (d : WholeDevice) : Type 0 where
  pub paired : d.store.paired ≡ true
  pub none : d.store.half ≡ None
  pub up : d.store.a.up ≡ true
  pub level : (q : ℕ) → q < tracks_of d.store → stale_at d.store.a q ≡ false

pub not_some : {X : Type 0} (o : Option X) → is_some o ≡ false → o ≡ None
not_some None e = refl
not_some (Some x) e = absurd (cc)

pub count_none : (n : ℕ) → R.not_level_by n ≡ None → n ≡ 0
count_none n e = eqb-true n 0 (is_not (n == 0) (where_none (not (n == 0)) _ e))

pub none_counted : (n : ℕ) (p : ℕ → Bool) → count_below n p ≡ 0 → (q : ℕ) → q < n → p q ≡ false
unfolding T.count_below
none_counted zero p e q lt = absurd (omega arith)
none_counted (suc n) p e q lt = by_place (p n) refl e (cases_eq q n) (λ f below. none_counted n p f q below)
  where
    by_place : (b : Bool) → p n ≡ b → count_below n p + (if b then 1 else 0) ≡ 0 → ((q ≡ n) ⊎ (q ≡ n → ⊥)) →
        (count_below n p ≡ 0 → q < n → p q ≡ false) → p q ≡ false
    by_place true is e at later = absurd (omega arith)
    by_place false is e (inl at) later = ap p at ∙ is
    by_place false is e (inr off) later = later (omega arith) (omega (arith, off))

pub may_part : (d : WholeDevice) → unpair_fault d ≡ None → MayPart d
unfolding R.unpair_fault
may_part d e =
    let a = first_none (R.where_so (not d.store.paired) Unpaired) _ e in
    let b = first_none (R.active_by d.history.running) _ a.1 in
    let c = first_none (R.where_so (is_some d.store.half) Half) _ b.1 in
    let f = first_none (R.where_so (not d.store.a.up) Down) _ c.1 in
    let g = first_none (R.not_level_by (R.stale_count d.store)) _ f.1 in
    record {
      paired = is_not d.store.paired (where_none (not d.store.paired) Unpaired a.0);
      none = not_some d.store.half (where_none (is_some d.store.half) Half c.0);
      up = is_not d.store.a.up (where_none (not d.store.a.up) Down f.0);
      level = none_counted (tracks_of d.store) (stale_at d.store.a) (count_none (R.stale_count d.store) g.0);
    }

some_marked : (o : Option (HalfWrite Image)) → is_some (option_map half_mark o) ≡ is_some o
some_marked None = refl
some_marked (Some hw) = refl

fault_both : (v w : List Track) (d : WholeDevice) → unpair_fault (marks_device v w d) ≡ unpair_fault d
unfolding R.unpair_fault
fault_both v w d =
    ap (λ (b : Bool). R.first_cause (R.where_so (not d.store.paired) Unpaired ∷ R.active_by d.history.running ∷ R.where_so b Half
    ∷ R.where_so (not d.store.a.up) Down ∷ R.not_level_by (R.stale_count d.store) ∷ [])) (some_marked d.store.half)

paired_in_order : {v w : List Track} {d : WholeDevice} {h : Held} → Stands v w d h → d.store.paired ≡ true → IsInOrder v w d.store h
paired_in_order (in_order i) e = i
paired_in_order (is_away i) e = absurd (let single = i.store.single in cc)

-- The device that was lent

lent_some : (o : Option ℕ) (n : ℕ) → is_lent_to o n ≡ true → is_some o ≡ true
lent_some None n e = absurd (cc)
lent_some (Some to) n e = refl

lent_away : {v w : List Track} {d : WholeDevice} {h : Held} → Stands v w d h → is_some d.store.lent ≡ true → IsLent v w d h
lent_away (in_order i) e = absurd (let free = i.free in cc)
lent_away (is_away i) e = i

-- it has a volume of empty tracks then
abbrev pub GetsVolume : List Stood → ℕ → VolumeView (List ℕ) → Calls → Type 0
GetsVolume xs n volume calls =
    (y : Stood) → lent_in xs n ≡ Some y → (y.device.store.cylinders ≤ 4369) × SideIs volume (empty_contents (tracks_of y.device.store)) calls

restored : (mine : List ℕ) (x : Stood) (m : Mounted) (volume : VolumeView (List ℕ)) (calls : Calls) → IsMounted mine x m → is_some x.device.store.lent ≡ true →
    x.device.store.cylinders ≤ 4369 → SideIs volume (empty_contents (tracks_of x.device.store)) calls →
    IsMounted mine (record x { device = restore x.device; a = Some volume }) (record m { device = restore m.device; a = calls })
restored mine x m volume calls (is_mounted d v w h on_a on_b a b now slots told_a told_b) lent most told =
    let i = lent_away now lent in
    let u = empty_volume d.store.cylinders in
    let k : Held = holding h A (empty_contents (tracks_of d.store)) in
    subst (λ (n : MarksDevice). IsMounted mine (record { device = restore d; a = Some volume; b = on_b }) (record { device = n; a = calls; b = b }))
    (restore_same v w d h i.store most)
    (is_mounted (restore d) u u k (Some volume) on_b calls b (in_order (restore_order v w d h i.store most)) slots told told_b)

same_lent : {mine : List ℕ} {x : Stood} {m : Mounted} → IsMounted mine x m → m.device.store.lent ≡ x.device.store.lent
same_lent (is_mounted d v w h on_a on_b a b now slots told_a told_b) = refl

pub restored_so : (used taken : List ℕ) (xs : List Stood) (ms : List Mounted) (n : ℕ) (volume : VolumeView (List ℕ)) (calls : Calls) →
    AreMountedBy used taken xs ms → GetsVolume xs n volume calls → AreMountedBy used taken (restored_at xs n volume) (restored_in ms n calls)
restored_so used taken [] [] n volume calls all gets = all
restored_so used taken [] (m ∷ ms) n volume calls all gets = elim all [ ]
restored_so used taken (x ∷ xs) [] n volume calls all gets = elim all [ ]
restored_so used taken (x ∷ xs) (m ∷ ms) n volume calls (one_more mine is apart rest) gets =
    by_lent (is_lent_to x.device.store.lent n) (is_lent_to m.device.store.lent n) refl (ap (λ (o : Option ℕ). is_lent_to o n) (same_lent is))
    (λ e. restored_so used (mine ++ taken) xs ms n volume calls rest (λ y f. gets y (ap (λ (b : Bool). if b then Some x else lent_in xs n) e ∙ f)))
  where
    by_lent : (b c : Bool) → is_lent_to x.device.store.lent n ≡ b → c ≡ b →
        (is_lent_to x.device.store.lent n ≡ false → AreMountedBy used (mine ++ taken) (restored_at xs n volume) (restored_in ms n calls)) →
        AreMountedBy used taken (if b then record x { device = restore x.device; a = Some volume } ∷ xs else x ∷ restored_at xs n volume)
        (if c then record m { device = restore m.device; a = calls } ∷ ms else m ∷ restored_in ms n calls)
    by_lent true true e f later =
        let get = gets x (ap (λ (b : Bool). if b then Some x else lent_in xs n) e) in
        one_more mine (restored mine x m volume calls is (lent_some x.device.store.lent n e) get.0 get.1) apart rest
    by_lent true false e f later = absurd (cc)
    by_lent false true e f later = absurd (cc)
    by_lent false false e f later = one_more mine is apart (later e)

-- Both

module _ (p : Pool) (xs : List Stood) (ms : List Mounted) (n : ℕ) (calls : Calls) (volume : VolumeView (List ℕ)) where
  abbrev parted : Stood → Stood
  parted x = record { device = split x.device; a = x.a; b = None }

  split_mounted : (mine : List ℕ) (x : Stood) (m : Mounted) → IsMounted mine x m → MayPart x.device →
      IsMounted mine (parted x) (record m { device = split m.device })
  split_mounted mine x m (is_mounted d v w h on_a on_b a b now slots told_a told_b) may =
      let i = paired_in_order now may.paired in
      subst (λ (k : MarksDevice). IsMounted mine (parted (record { device = d; a = on_a; b = on_b })) (record { device = k; a = a; b = b }))
      (split_same v w d h)
      (is_mounted (split d) v w h on_a None a b (in_order (split_order v w d h i may.none may.up may.level)) slots told_a tt)

  fault_of : (mine : List ℕ) (x : Stood) (m : Mounted) → IsMounted mine x m → unpair_fault m.device ≡ unpair_fault x.device
  fault_of mine x m (is_mounted d v w h on_a on_b a b now slots told_a told_b) = fault_both v w d

  by_found : (x : Stood) → Found p.used [] xs ms n → stood_in xs n ≡ Some x → unpair_fault x.device ≡ None →
      GetsVolume (put_at xs n (parted x)) n volume calls →
      IsWhatCame (unpaired_at (subsystem_of p ms) n calls (mounted_in ms n)) Done p (restored_at (put_at xs n (parted x)) n volume)
  by_found x (none_found s t) at free gets = absurd (cc)
  by_found x (both_found u m mine others s t there shared number put) at free gets =
      let same = some_is u x (sym s ∙ at) in
      let is = subst (λ (y : Stood). IsMounted mine y m) same there in
      let z = record m { device = split m.device } in
      let between : AreMounted p (put_at xs n (parted x)) (put_in ms n z) =
      put p.used mine (parted x) z (split_mounted mine x m is (may_part x.device free)) shared in
      subst (λ (o : Option Mounted). IsWhatCame (unpaired_at (subsystem_of p ms) n calls o) Done p (restored_at (put_at xs n (parted x)) n volume)) (sym t)
      (subst (λ (f : Option OrderFault). IsWhatCame (unpaired_by (subsystem_of p ms) n calls m f) Done p (restored_at (put_at xs n (parted x)) n volume))
      (sym (fault_of mine x m is ∙ free))
      (record { ended = refl; left = refl; mounted = restored_so p.used [] (put_at xs n (parted x)) (put_in ms n z) n volume calls between gets }))

pub unpaired_so : (p : Pool) (xs : List Stood) (ms : List Mounted) (n : ℕ) (calls : Calls) (volume : VolumeView (List ℕ)) (x : Stood) → AreMounted p xs ms →
    stood_in xs n ≡ Some x → unpair_fault x.device ≡ None →
    ((y : Stood) → lent_in (put_at xs n (record { device = split x.device; a = x.a; b = None })) n ≡ Some y →
    (y.device.store.cylinders ≤ 4369) × SideIs volume (empty_contents (tracks_of y.device.store)) calls) →
    IsWhatCame (unpaired (subsystem_of p ms) n calls) Done p
    (restored_at (put_at xs n (record { device = split x.device; a = x.a; b = None })) n volume)
unfolding H.unpaired
unpaired_so p xs ms n calls volume x all at free gets = by_found p xs ms n calls volume x (find p.used [] xs ms n all) at free gets
