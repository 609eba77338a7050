-- A device that forgets keeps of its paths what it has to, and stands as it stood, with more put away.
use Rattle.std.proofs.Common.{◌≡◌, ℕ, ◌+◌, ◌-◌, ◌&&◌, ◌≤◌, ◌<◌, min, set, take, drop, get_or, Bool, true, false, List, [], ◌∷◌, ◌++◌, length, map, Option, None, refl, sym, ap, subst, ◌∙◌, arith}
use Rattle.std.specs.Prelude.{IfSome, count_by, if◌then◌else◌}
use Rattle.std.proofs.lemmas.List.{get_or-drop, get_or-map, get_or-set_same, length-drop, length-map, set-set, take_more}
use Rattle.ckd_types.specs.declared.channel.Ccw.{Ccw}
use Rattle.ckd_types.specs.declared.record.Track.{Track}
use Rattle.plain_defs.specs.declared.journal.Item.{Item}
use Rattle.plain_defs.specs.History.{History, OpenEntry, has_used, is_path_of}
use Rattle.plain_defs.specs.Journal.{Plans}
use Rattle.plain_defs.specs.Legal.{is_of_path, is_started}
use Rattle.plain_defs.specs.PlainState.{PlainState}
use Rattle.device_outside.specs.declared.volume.Volume.{Ghosts}
use Rattle.device_outside.specs.Outside.{Outside}
use Rattle.device_defs.specs.Start.{started_count}
use Rattle.device_laws.specs.SoundOn.{begun_as}
use Rattle.past_laws.specs.Forgotten.{forgotten, put_away, stubs_of}
use Rattle.past_laws.specs.PutAway.{PutAway}
use Rattle.past_laws.specs.WithPast.{with_past}
use Rattle.past_laws.proofs.Forgetting.{forgotten_whole}
use Rattle.past_laws.proofs.StubsTell.{count_told, power_told, some_started, used_told}
use Rattle.plain_defs.specs.Legal.{IsLegal}
use Rattle.subsystem_laws.proofs.turning.Sound.{beside_plain}
use Rattle.device_core.specs.declared.device.Device.{Device}
use Rattle.device_core.specs.declared.history.KeptPath.{KeptPath}
use Rattle.device_core.specs.Forgetting.{any_started, one_kept}
use Rattle.device_core.specs.Kept.{KeepsAll, fresh_path, needed, of_path, used_count, waiting_from}
use Rattle.device_core.specs.Promises.{ForgetsNothing, StandsPlain, told_by, whole_of}
use Rattle.device_core.specs.State.{DefinedDevice, device_of}
use Rattle.device_core.specs.WholePast.{SoWithPast}
use Rattle.device_core.proofs.Acting.{used_most}
use Rattle.device_core.proofs.Promising.{same_told}
use Rattle.device_core.proofs.WholePasts.{forget_on}

-- ---- what is kept of its paths

pub waiting_same : (ks : List KeptPath) (n : ℕ) → waiting_from n (map one_kept ks) ≡ waiting_from n ks
waiting_same [] n = refl
waiting_same (k ∷ ks) n = rw (waiting_same ks (n + 1)) refl

used_same : (ks : List KeptPath) → used_count (map one_kept ks) ≡ used_count ks
used_same [] = refl
used_same (k ∷ ks) = rw (used_same ks) refl

of_one : (kept : List KeptPath) (i : ℕ) → length kept ≡ 4 → 1 ≤ i → i ≤ 4 → of_path (map one_kept kept) i ≡ one_kept (of_path kept i)
of_one kept i four least most = get_or-map one_kept kept (i - 1) fresh_path fresh_path (omega (arith, four, least, most))

one_at_most : (b : Bool) → (if b then 1 else 0) ≤ 1
one_at_most true = omega arith
one_at_most false = omega arith

pub forget_keeps : (h new : History) (kept : List KeptPath) (powered : Bool) (spare left : ℕ) → KeepsAll h kept powered spare → h.running ≡ None → 5 ≤ left →
    new.items ≡ stubs_of h → new.running ≡ None → KeepsAll new (map one_kept kept) (powered && any_started kept) left
forget_keeps h new kept powered spare left k idle room items still = record {
  four = length-map kept one_kept ∙ k.four;
  paths = λ i least most. record {
    started_is =
        ap (λ (x : KeptPath). x.started) (of_one kept i k.four least most) ∙ ap (λ (n : ℕ). min n 1) (k.paths i least most).started_is
        ∙ sym (count i least most);
    used_is = ap (λ (x : KeptPath). x.used) (of_one kept i k.four least most) ∙ (k.paths i least most).used_is ∙ sym (used i least most);
  };
  powered_is = rw (still, items, is_powered, any) (sym (power_told h idle));
  ends = subst (λ (r : Option OpenEntry). IfSome r (λ (o : OpenEntry). length o.ends ≤ 65534)) (sym still) tt;
  room =
      subst (λ (r : Option OpenEntry). needed r (map one_kept kept) (powered && any_started kept) ≤ left) (sym still)
      (omega (arith, used_same kept, used_most kept, k.four, one_at_most (powered && any_started kept), room));
} where
  none : (i : ℕ) → is_path_of new.running i ≡ false
  none i = ap (λ (r : Option OpenEntry). is_path_of r i) still

  count : (i : ℕ) → 1 ≤ i → i ≤ 4 → started_count new i ≡ min (started_count h i) 1
  count i least most =
      ap (λ (b : Bool). count_by (is_of_path i) new.items + (if b then 1 else 0)) (none i)
      ∙ ap (λ (xs : List Item). count_by (is_of_path i) xs + 0) items ∙ omega (arith, count_told h idle i least most)

  used : (i : ℕ) → 1 ≤ i → i ≤ 4 → has_used new i ≡ has_used h i
  used i least most = rw (none i, items) (used_told h idle i least most)

  is_powered : powered ≡ is_started false h.items
  is_powered = k.powered_is ∙ rw idle refl

  any : any_started kept ≡ some_started h idle
  any = rw (
    (k.paths 1 (omega arith) (omega arith)).started_is,
    (k.paths 2 (omega arith) (omega arith)).started_is,
    (k.paths 3 (omega arith) (omega arith)).started_is,
    (k.paths 4 (omega arith) (omega arith)).started_is,
  ) refl

-- ---- the programs that are left

-- one more of those from a place on
pub program_more : (plans : Plans) (k first i : ℕ) (programs : List (List Ccw)) (ccws : List Ccw) → k < length plans → first ≤ i → i < length programs →
    ccws ≡ get_or programs i [] →
    set (set plans k (take (i - first) (drop first programs))) k (get_or (set plans k (take (i - first) (drop first programs))) k [] ++ ccws ∷ [])
    ≡ set plans k (take (i + 1 - first) (drop first programs))
program_more plans k first i programs ccws there from inside is =
    let sofar = take (i - first) (drop first programs) in
    let behind : first + (i - first) ≡ i = omega (arith, from) in
    let long : i - first < length (drop first programs) = omega (arith, length-drop first programs, inside, from) in
    let next : get_or (drop first programs) (i - first) [] ≡ ccws =
    get_or-drop first programs (i - first) [] ∙ ap (λ (n : ℕ). get_or programs n []) behind ∙ sym is in
    let more : take (i - first + 1) (drop first programs) ≡ sofar ++ ccws ∷ [] =
    take_more (drop first programs) (i - first) [] long ∙ ap (λ (p : List Ccw). sofar ++ p ∷ []) next in
    let place : i - first + 1 ≡ i + 1 - first = omega (arith, from) in
    set-set plans k sofar (get_or (set plans k sofar) k [] ++ ccws ∷ [])
    ∙ ap (λ (ps : List (List Ccw)). set plans k (ps ++ ccws ∷ [])) (get_or-set_same plans k sofar [] there)
    ∙ ap (set plans k) (sym more ∙ ap (λ (n : ℕ). take n (drop first programs)) place)

-- ---- what was promised of it

module _ {V : Type 0} {G : Ghosts V} (d e : Device V G) (idle : (device_of d).history.running ≡ None) (is : device_of e ≡ forgotten (device_of d))
    (store : e.store ≡ d.store) where
  over : {So : DefinedDevice → Outside (List ℕ) (Unit {0}) → Type 0} {past : PutAway} → SoWithPast So past (forgotten (device_of d)) (told_by d) →
      SoWithPast So past (device_of e) (told_by e)
  over {So = So} {past = past} s =
      subst (λ (x : DefinedDevice). SoWithPast So past x (told_by e)) (sym is)
      (subst (λ (w : Outside (List ℕ) (Unit {0})). SoWithPast So past (forgotten (device_of d)) w) (sym (same_told d e store)) s)

  abbrev begun : PutAway → List Track → PlainState
  begun past first = begun_as (λ (_ : ℕ). first) (whole_of past d)

  legal : (past : PutAway) (first : List Track) → StandsPlain past first d → IsLegal (whole_of past d).plans (begun past first) (whole_of past d).history.items
  legal past first s = (beside_plain (whole_of past d) (told_by d) s.is).legal

  pub forgets_nothing : ForgetsNothing d e
  forgets_nothing = record {
    whole = λ past first s.
        ap (with_past (put_away past (device_of d))) is ∙ forgotten_whole past (device_of d) s.away idle (begun past first) (legal past first s);
    plain = λ past first s. over (forget_on s (begun past first) idle (legal past first s));
    stands = λ past first s. over (forget_on s (begun past first) idle (beside_plain (whole_of past d) (told_by d) s.is.beside).legal);
    lent = λ past first s. over (forget_on s (begun past first) idle s.is.follows.stands.plain.legal);
  }
