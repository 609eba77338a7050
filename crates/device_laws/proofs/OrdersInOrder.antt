-- Orders that give a side another volume, or take one away, leave a device in order.
use Rattle.std.proofs.Common.{None, ◌≡◌, ◌<◌, ℕ, List, [], true, false, not, length, refl, sym, ap, ◌∙◌, Bool, get_or}
use Rattle.std.proofs.lemmas.List.{get_or-replicate}
use Rattle.ckd_types.specs.declared.paths.Side.{Side}
use Rattle.ckd_types.specs.declared.paths.Side.TheVariants.{A, B}
use Rattle.ckd_types.specs.declared.record.Track.{Track}
use Rattle.device_outside.specs.After.{holds_of}
use Rattle.device_defs.specs.Contents.{contents}
use Rattle.device_defs.specs.Orders.{join, split, replace}
use Rattle.device_defs.specs.Sound.{DeviceStore}
use Rattle.device_defs.specs.Store.{tracks_of, side_of, level_at, stale_at, new_side, SideMarks, no_side}
use Rattle.device_laws.specs.Agrees.{Held, slot_at}
use Rattle.device_laws.specs.InOrder.{IsInOrder}
use Rattle.device_laws.specs.Whole.{WholeDevice, marks_device, holding}
use Rattle.device_laws.proofs.ContentChanges.{same_slots}
use Rattle.device_laws.proofs.FailedCall.{IsWell}
use Rattle.device_laws.proofs.OrderMarks.{join_keeps_good, replace_keeps_good, split_keeps_good}
use Rattle.device_laws.proofs.TrackContents as T
use Rattle.device_laws.proofs.TrackContents.{contents_at, right_fewer}
use Rattle.device_laws.proofs.TrackMarks.{device_is_faithful}
use Rattle.device_laws.proofs.TwinAsks.{Ordered}
use Rattle.device_laws.proofs.TwinLaws.{in_order, is_in_order}
use Rattle.device_defs.specs.Between.{HasSizes}

not_level : (n q : ℕ) → q < n → level_at (new_side n true) q ≡ true → true ≡ false
not_level n q lt e = sym e ∙ ap not (get_or-replicate n q true false lt)

module _ (v w : List Track) (d : WholeDevice) (h : Held) where
  abbrev s : DeviceStore
  s = d.store

  -- a side that has a track has of it what it had
  abbrev Less : SideMarks → SideMarks → List (List ℕ) → List (List ℕ) → Type 0
  Less old new was is = (q : ℕ) → q < tracks_of s → level_at new q ≡ true → (level_at old q ≡ true) × (get_or is q [] ≡ get_or was q [])

  less_same : (x : SideMarks) (l : List (List ℕ)) → Less x x l l
  less_same x l q lt e = (e, refl)

  less_none : (x : SideMarks) (was is : List (List ℕ)) → Less x (new_side (tracks_of s) true) was is
  less_none x was is q lt e = absurd (let f = not_level (tracks_of s) q lt e in cc)

  -- with other sides
  resided : (paired held : Bool) (x y : SideMarks) (k : Held) → HasSizes (record s { paired = paired; held = held; a = x; b = y }) → k.slots ≡ h.slots →
      (x.up ≡ true → length k.a ≡ tracks_of s) → (y.up ≡ true → length k.b ≡ tracks_of s) → Less s.a x h.a k.a → Less s.b y h.b k.b → Ordered v w s h →
      Ordered v w (record s { paired = paired; held = held; a = x; b = y }) k
  unfolding T.contents_at
  resided paired held x y k sizes same long_a long_b a b o =
      let g = o.sure.ground in
      let z = record s { paired = paired; held = held; a = x; b = y } in
      record {
        sure = record {
          ground = record {
            sizes = sizes;
            plain = g.plain;
            firm = g.firm;
            same = g.same;
            apart = g.apart;
            patches = g.patches;
            long = λ side. elim side as (λ i. (side_of z i).up ≡ true → length (holds_of k i) ≡ tracks_of s) [ A ↦ long_a | B ↦ long_b ];
            slots = rw same
                (same_slots s z h.slots (λ kept q. elim kept as (λ c. slot_at z c q ≡ slot_at s c q) [ true ↦ refl | false ↦ refl ]) g.slots);
          };
          right = λ q lt ne.
              right_fewer s.geometry q s.half (contents_at s h q) (contents_at z k q) _ _
              (record { lost = λ i. i; frame = λ i f. f; patch = refl; a = a q lt; b = b q lt }) (o.sure.right q lt ne);
        };
        told = o.told;
      }

  replaced_a : (l : List (List ℕ)) → length l ≡ tracks_of s → IsWell contents (replace d A).store → Ordered v w s h →
      Ordered v w (replace d A).store (record h { a = l })
  replaced_a l long well o =
      resided s.paired s.held (new_side (tracks_of s) true) s.b (record h { a = l }) well.sizes refl (λ e. long) (o.sure.ground.long B)
      (less_none s.a h.a l) (less_same s.b h.b) o

  replaced_b : (l : List (List ℕ)) → length l ≡ tracks_of s → IsWell contents (replace d B).store → Ordered v w s h →
      Ordered v w (replace d B).store (record h { b = l })
  replaced_b l long well o =
      resided s.paired s.held s.a (new_side (tracks_of s) true) (record h { b = l }) well.sizes refl (o.sure.ground.long A) (λ e. long)
      (less_same s.a h.a) (less_none s.b h.b l) o

  joined : (l : List (List ℕ)) → length l ≡ tracks_of s → IsWell contents (join d).store → Ordered v w s h → Ordered v w (join d).store (record h { b = l })
  joined l long well o =
      resided true s.held s.a (new_side (tracks_of s) true) (record h { b = l }) well.sizes refl (o.sure.ground.long A) (λ e. long)
      (less_same s.a h.a) (less_none s.b h.b l) o

  split_off : IsWell contents (split d).store → Ordered v w s h → Ordered v w (split d).store h
  split_off well o =
      resided false false s.a (no_side (tracks_of s)) h well.sizes refl (o.sure.ground.long A) (λ e. absurd (cc)) (less_same s.a h.a)
      (λ q lt e. absurd (cc)) o

  ordered : IsInOrder v w s h → Ordered v w s h
  ordered i = let o = in_order v w s h i in record { sure = o.sure; told = o.told }

  -- an empty volume, or another one, in place of a failed side's
  pub replace_order : (side : Side) (l : List (List ℕ)) → IsInOrder v w s h → (side_of s side).up ≡ false → (side ≡ B → s.paired ≡ true) →
      length l ≡ tracks_of s → IsInOrder v w (replace d side).store (holding h side l)
  replace_order A l i down has long =
      let f = replace_keeps_good contents device_is_faithful d A (in_order v w s h i).well down has in
      is_in_order v w (replace d A).store (holding h A l) (replaced_a l long f.well (ordered i)) f.well
  replace_order B l i down has long =
      let f = replace_keeps_good contents device_is_faithful d B (in_order v w s h i).well down has in
      is_in_order v w (replace d B).store (holding h B l) (replaced_b l long f.well (ordered i)) f.well

  -- another device's volume becomes side B
  pub join_order : (l : List (List ℕ)) → IsInOrder v w s h → s.paired ≡ false → length l ≡ tracks_of s → IsInOrder v w (join d).store (holding h B l)
  join_order l i single long =
      let f = join_keeps_good contents device_is_faithful d (in_order v w s h i).well single in
      is_in_order v w (join d).store (holding h B l) (joined l long f.well (ordered i)) f.well

  -- side B leaves, where each track is level on side A
  pub split_order : IsInOrder v w s h → s.half ≡ None → s.a.up ≡ true → ((q : ℕ) → q < tracks_of s → stale_at s.a q ≡ false) → IsInOrder v w (split d).store h
  split_order i none up level =
      let f = split_keeps_good contents device_is_faithful d (in_order v w s h i).well none up level in
      is_in_order v w (split d).store h (split_off f.well (ordered i)) f.well

  -- over marks they do the same
  pub replace_same : (side : Side) → marks_device v w (replace d side) ≡ replace (marks_device v w d) side
  replace_same A = refl
  replace_same B = refl

  pub join_same : marks_device v w (join d) ≡ join (marks_device v w d)
  join_same = refl

  pub split_same : marks_device v w (split d) ≡ split (marks_device v w d)
  split_same = refl
