-- What a loss of the cache, of the store or of a side makes of a device: acts of cache fast write, and nothing else that an audit knows.
use Rattle.std.proofs.Common.{◌≡◌, ◌<◌, ◌≤◌, ◌++◌, ◌*◌, ℕ, zero, suc, Bool, true, false, List, [], ◌∷◌, length, Option, None, is_some, get_or, refl, sym, ap, subst, ◌∙◌, arith, inl, inr}
use Rattle.std.specs.Prelude.{◌⊎◌, if◌then◌else◌}
use Rattle.std.proofs.lemmas.Bool.{cases_lt, cond_both, eqb-false, true≢false}
use Rattle.std.proofs.lemmas.List.{get_or-set_other, get_or-set_same, get_or_past, length-set}
use Rattle.ckd_types.specs.declared.paths.Side.{Side}
use Rattle.loss_model.specs.declared.Loss.{Loss}
use Rattle.loss_model.specs.declared.Loss.TheVariants as losses
use Rattle.plain_defs.specs.declared.journal.Act.{Act}
use Rattle.plain_defs.specs.declared.journal.Act.TheVariants.{Harden, CfwLost}
use Rattle.plain_defs.specs.History.{plain_of}
use Rattle.plain_defs.specs.Legal.{AreActs}
use Rattle.plain_defs.specs.Loose.{next_number}
use Rattle.plain_defs.specs.PlainState.{PlainState}
use Rattle.track_image.specs.Image.{Image}
use Rattle.track_table.specs.Tracks.{least}
use Rattle.track_table.proofs.Places.{empty_places}
use Rattle.device_outside.specs.Interaction.{Interaction, Done, and_then}
use Rattle.device_defs.specs.Contents.{by_plain}
use Rattle.device_defs.specs.Device.{all_acted, event, event_begun, with_store}
use Rattle.device_defs.specs.Effects.{act_noted, gone_back, loose_lost}
use Rattle.device_defs.specs.Events as V
use Rattle.device_defs.specs.Events.{lose, losing, with_loss}
use Rattle.device_defs.specs.Losses as L
use Rattle.device_defs.specs.Losses.{
  all_firm_told,
  by_frame,
  cache_lost,
  gives_up,
  hardened_by_loss,
  kept_by_frame,
  lost_now,
  over,
  owes_modified,
  patch_lost,
  settled,
  side_lost,
  slot_in,
  stale_everywhere,
  store_lost,
  without_frame,
  without_patch,
}
use Rattle.device_defs.specs.Marks.{MarksDevice, MarksStore}
use Rattle.device_defs.specs.Owed.{noted_begin, hear, waiting_count}
use Rattle.device_defs.specs.Store.{has_loose, is_loose, patch_at, tracks_of, with_lost}
use Rattle.device_laws.proofs.CacheLost.{none_below}
use Rattle.device_laws.proofs.Had.{Had, had_done, had_if, had_tell, had_then, had_weaker}
use Rattle.device_laws.proofs.PlainEvents.{had_both}
use Rattle.device_laws.proofs.PlainLosses.{Walked, losing_goes, walks_first}
use Rattle.device_laws.proofs.PlainStores.{Core, core_of, hardened_core, loose_at}
use Rattle.device_laws.proofs.PlainTurns.{Follows}
use Rattle.device_laws.proofs.PlainWalks.{ended_same, framed_same, over_holds, settled_holds, side_holds, told_holds}
use Rattle.device_laws.proofs.PoolWalks.{asks_had, hear_asks}
use Rattle.audit_laws.specs.Standing.{half_by}
use Rattle.audit_laws.specs.Steps.{NoLoss}
use Rattle.audit_laws.proofs.own.ResetDevices.{HasParts}

-- the acts stand in its store
pub record IsLoss (empty : PlainState) (x y : MarksDevice) : Type 0 where
  pub parts : HasParts x y (half_by x.store.half)
  pub history : y.history ≡ all_acted x.history y.store.acts
  pub are : AreActs (plain_of x.plans empty x.history) None y.store.acts

-- Stores beside stores

-- the notes that are taken first
hear_keeps : (n : ℕ) (s : MarksStore) → Had (hear by_plain n s) (λ y (_ : Unit {0}). (core_of y ≡ core_of s)
    × ((q : ℕ) → is_some (patch_at y q) ≡ is_some (patch_at s q)))
hear_keeps n s =
    asks_had (hear_asks by_plain (λ z. (core_of z ≡ core_of s) × ((q : ℕ) → is_some (patch_at z q) ≡ is_some (patch_at s q)))
    (λ z t clean e. (framed_same z t None ∙ e.0, e.1)) n s (refl, λ q. refl))

told_core : (k : ℕ) (s : MarksStore) → Had (all_firm_told by_plain k s) (λ z (_ : Unit {0}). core_of z ≡ core_of s)
unfolding L.all_firm_told
told_core zero s = had_done refl
told_core (suc k) s = search (arith, told_core k s, had_then, core_of, had_if, had_tell, had_done)

-- an event that takes its notes first
module _ (d : MarksDevice) (body : MarksDevice → Interaction Bool Image MarksDevice (Unit {0})) (q : MarksDevice → Type 0) where
  event_makes : ((y : MarksDevice) (z : MarksStore) → core_of z ≡ core_of y.store → q y → q (record y { store = z })) →
      ((s : MarksStore) → core_of s ≡ core_of (noted_begin d.store) → ((t : ℕ) → is_some (patch_at s t) ≡ is_some (patch_at d.store t)) →
      Had (body (record (event_begun d) { store = s })) (λ y (_ : Unit {0}). q y)) → Had (event by_plain d body) (λ y (_ : Unit {0}). q y)
  event_makes same h =
      had_then {p = λ y _. q y}
      (had_then (hear_keeps 960 (noted_begin d.store)) (λ s _ e. h s e.0 e.1))
      (λ y a g. had_then (ended_same (waiting_count by_plain d.store) y.store) (λ z _ e. had_done (same y z e g)))

module _ (num : ℕ) (empty : PlainState) (d : MarksDevice) (f : Follows num empty d) where
  abbrev p : PlainState
  p = plain_of d.plans empty d.history

  loss_same : (y : MarksDevice) (z : MarksStore) → core_of z ≡ core_of y.store → IsLoss empty d y → IsLoss empty d (record y { store = z })
  loss_same y z e g = search arith

  loss_of : (s z : MarksStore) →
      Walked (plain_of d.plans empty d.history) d.store.geometry d.store.cylinders (core_of d.store) (core_of z) →
      IsLoss empty d (with_store (record (event_begun d) { store = s }) z)
  loss_of s z w = search arith

  first_walked : (s : MarksStore) → core_of s ≡ core_of (noted_begin d.store) →
      Walked (plain_of d.plans empty d.history) d.store.geometry d.store.cylinders (core_of d.store) (core_of s)
  first_walked s e = search (arith, walks_first, core_of)

  -- with what else a loss leaves of the store
  lose_makes : (loss : Loss) (r : MarksStore → Type 0) → ((s z : MarksStore) → core_of z ≡ core_of s → r s → r z) →
      ((s : MarksStore) → core_of s ≡ core_of (noted_begin d.store) → ((t : ℕ) → is_some (patch_at s t) ≡ is_some (patch_at d.store t)) →
      Had (losing by_plain s loss) (λ z (_ : Unit {0}). r z)) → Had (lose by_plain d loss) (λ y (_ : Unit {0}). IsLoss empty d y × r y.store)
  unfolding V.lose
  lose_makes loss r same h =
      event_makes d (λ z. and_then (losing by_plain z.store loss) (λ s _. Done (with_store z s) tt)) (λ y. IsLoss empty d y × r y.store)
      (λ y z e g. (loss_same y z e g.0, same y.store z e g.1))
      (λ s e k. had_then
      (had_both (losing_goes (plain_of d.plans empty d.history) d.store.geometry d.store.cylinders (core_of d.store) s loss (first_walked s e)) (h s e k))
      (λ z _ g. had_done (loss_of s z g.0, g.1)))

-- A side: tracks become firm

no_loss_more : (acts : List Act) (t : ℕ) → NoLoss acts → NoLoss (acts ++ Harden t ∷ [])
no_loss_more [] t n = (refl, tt)
no_loss_more (act ∷ acts) t n = (n.0, no_loss_more acts t n.1)

abbrev HardensOnly : Core → Type 0
HardensOnly c = NoLoss c.acts

none_yet : (acts : List Act) → acts ≡ [] → NoLoss acts
none_yet acts e = subst NoLoss (sym e) tt

-- The cache: data of cache fast write go, where there are some

abbrev pub lost_acts : Bool → List Act
lost_acts b = if b then CfwLost ∷ [] else []

abbrev pub number_behind : Bool → ℕ → ℕ
number_behind b n = if b then next_number n else n

abbrev NoneLoose : List Act → ℕ → Core → Type 0
NoneLoose acts n c = ((q : ℕ) → loose_at c q ≡ false) × ((c.acts ≡ acts) × (c.number ≡ n))

none_hard : (acts : List Act) (n : ℕ) (c : Core) (t : ℕ) → NoneLoose acts n c → loose_at c t ≡ true → NoneLoose acts n (hardened_core c t)
none_hard acts n c t w is = absurd (true≢false (sym is ∙ w.0 t))

pub unframed_core : (z : MarksStore) (t : ℕ) → core_of (without_frame z t) ≡ core_of z
unframed_core z t = grind (arith, cond_both, is_some, core_of, framed_same)

module _ (s : MarksStore) (many : length s.loose ≡ tracks_of s) where
  pub none_at : (o : Option ℕ) → least (tracks_of s) (is_loose s) ≡ o → is_some o ≡ false → (q : ℕ) → is_loose s q ≡ false
  none_at o is none q = by_place (cases_lt q (tracks_of s)) where
    by_place : (q < tracks_of s) ⊎ (tracks_of s ≤ q) → is_loose s q ≡ false
    by_place (inl lt) = none_below (tracks_of s) (is_loose s) (ap (λ (k : Option ℕ). is_some k) is ∙ none) q lt
    by_place (inr le) = get_or_past s.loose q false (omega (arith, le, many))

  gone_by : s.acts ≡ [] → (o : Option ℕ) → least (tracks_of s) (is_loose s) ≡ o →
      NoneLoose (lost_acts (is_some o)) (number_behind (is_some o) s.number) (core_of (record (if is_some o then act_noted (gone_back s) CfwLost else s) { queue = [] }))
  gone_by none o is = grind (arith, empty_places, none_at)

  cache_makes : s.acts ≡ [] →
      NoneLoose (lost_acts (has_loose s)) (number_behind (has_loose s) s.number) (core_of (cache_lost by_plain s))
  unfolding L.cache_lost
  cache_makes none =
      let b = has_loose s in
      let acts = lost_acts (has_loose s) in
      let n = number_behind (has_loose s) s.number in
      over_holds (NoneLoose acts n) (none_hard acts n) (tracks_of s) (λ t z. settled by_plain (without_frame z t) t)
      (λ t z w. settled_holds (NoneLoose acts n) (none_hard acts n) (without_frame z t) t (subst (NoneLoose acts n) (sym (unframed_core z t)) w))
      (record (loose_lost s) { queue = [] }) (gone_by none (least (tracks_of s) (is_loose s)) refl)

abbrev loose_of : Core → Bool
loose_of c = is_some (least (c.cylinders * 15) (λ t. get_or c.loose t false))

-- The store: a track with a patch isn't loose, so none becomes firm

-- no act came, as many are loose, and no more have a patch
record Fewer (s z : MarksStore) : Type 0 where
  acts : z.acts ≡ s.acts
  loose : (q : ℕ) → is_loose z q ≡ is_loose s q
  patches : (q : ℕ) → is_some (patch_at z q) ≡ true → is_some (patch_at s q) ≡ true

fewer_on : (s z y : MarksStore) → Fewer s z → Fewer z y → Fewer s y
fewer_on s z y f g = search arith

slot_fewer : (s : MarksStore) (t : ℕ) (o : Option ℕ) → Fewer s (gives_up s t o)
slot_fewer s t o = search (arith, get_or-set_same, length-set, get_or_past, get_or-set_other, eqb-false)

patch_fewer : (s : MarksStore) (t : ℕ) → Fewer s (without_patch by_plain s t)
patch_fewer s t = slot_fewer s t (slot_in by_plain (patch_at s t))

lost_fewer : (s : MarksStore) (t : ℕ) → Fewer s (lost_now by_plain s t)
lost_fewer s t = let z = with_lost s t in fewer_on s z (lost_now by_plain s t) (search arith) (patch_fewer z t)

settled_fewer : (s : MarksStore) (t : ℕ) → is_loose s t ≡ false → Fewer s (settled by_plain s t)
unfolding L.settled
settled_fewer s t firm = grind (arith, cond_both, is_some, lost_fewer)

-- whatever has a patch isn't loose
abbrev pub PatchedAreFirm : MarksStore → Type 0
PatchedAreFirm s = (q : ℕ) → is_some (patch_at s q) ≡ true → is_loose s q ≡ false

record NoAct (s : MarksStore) : Type 0 where
  none : s.acts ≡ []
  firm : PatchedAreFirm s

one_patch : (t : ℕ) (s : MarksStore) → NoAct s → NoAct (patch_lost by_plain t s)
one_patch t s a = grind (arith, cond_both, patch_fewer, fewer_on, settled_fewer)

all_patches : (k : ℕ) (s : MarksStore) → NoAct s → NoAct (over k (patch_lost by_plain) s)
unfolding L.over
all_patches zero s a = a
all_patches (suc k) s a = one_patch k (over k (patch_lost by_plain) s) (all_patches k s a)

store_makes : (s : MarksStore) → NoAct s → NoAct (store_lost by_plain s)
unfolding L.store_lost
store_makes s a = all_patches (tracks_of s) s a

-- The events

module _ (num : ℕ) (empty : PlainState) (d : MarksDevice) (f : Follows num empty d) where
  loose_many : (s : MarksStore) → core_of s ≡ core_of (noted_begin d.store) → length s.loose ≡ tracks_of s
  loose_many s e = grind arith

  pub side_acts : (side : Side) → Had (lose by_plain d (losses.Side side)) (λ y (_ : Unit {0}). IsLoss empty d y × NoLoss y.store.acts)
  side_acts side =
      lose_makes num empty d f (losses.Side side) (λ z. NoLoss z.acts) (λ s z e n. subst HardensOnly (sym e) n)
      (λ s e k.
      let counted = with_loss s (losses.Side side) in
      let hard = λ (c : Core) (t : ℕ) (n : HardensOnly c) (is : loose_at c t ≡ true). no_loss_more c.acts t n in
      told_holds HardensOnly hard (tracks_of s) (side_lost by_plain counted side None)
      (side_holds HardensOnly hard counted side None (none_yet s.acts (ap (λ (c : Core). c.acts) e))))

  pub cache_acts : Had (lose by_plain d losses.Cache) (λ y (_ : Unit {0}). IsLoss empty d y
      × ((y.store.acts ≡ lost_acts (has_loose d.store)) × (y.store.number ≡ number_behind (has_loose d.store) d.store.number)))
  cache_acts =
      lose_makes num empty d f losses.Cache (λ z. (z.acts ≡ lost_acts (has_loose d.store)) × (z.number ≡ number_behind (has_loose d.store) d.store.number))
      (λ s z e g. (ap (λ (c : Core). c.acts) e ∙ g.0, ap (λ (c : Core). c.number) e ∙ g.1))
      (λ s e k. let b = has_loose d.store in let counted = with_loss s losses.Cache in let acts = lost_acts (has_loose d.store) in let n = number_behind
      (has_loose d.store) d.store.number in let same : has_loose s ≡ has_loose d.store = ap loose_of e in let made = cache_makes counted (loose_many s e) (ap
      (λ (c : Core). c.acts) e) in had_weaker (told_holds (NoneLoose acts n) (none_hard acts n) (tracks_of s) (cache_lost by_plain counted) (
        made.0,
        (
          made.1.0 ∙ ap lost_acts same,
          made.1.1 ∙ (ap (λ (x : Bool). number_behind x s.number) same ∙ ap (λ (c : Core). number_behind
              (has_loose d.store) c.number) e),
        ),
      )) (λ z a w. w.1))

  pub store_acts : PatchedAreFirm d.store → Had (lose by_plain d losses.Store) (λ y (_ : Unit {0}). IsLoss empty d y × (y.store.acts ≡ []))
  store_acts firm =
      lose_makes num empty d f losses.Store (λ z. z.acts ≡ []) (λ s z e none. ap (λ (c : Core). c.acts) e ∙ none)
      (λ s e k. let counted = with_loss s losses.Store in let made = store_makes counted (search (arith, get_or)) in had_weaker (told_core (tracks_of s)
      (store_lost by_plain counted)) (λ z _ same. ap (λ (c : Core). c.acts) same ∙ made.none))
