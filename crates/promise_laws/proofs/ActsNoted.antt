-- Which acts of cache fast write an event notes of the tracks of its device.
use Rattle.std.proofs.Common.{
  ◌≡◌,
  ◌<◌,
  ℕ,
  zero,
  suc,
  Bool,
  true,
  false,
  List,
  [],
  ◌∷◌,
  ◌++◌,
  length,
  Option,
  Some,
  None,
  is_some,
  ◌==◌,
  set,
  get_or,
  refl,
  sym,
  ap,
  subst,
  ◌∙◌,
  inl,
  inr,
}
use Rattle.std.specs.Prelude.{◌⊎◌, ◌≤◌, ◌&&◌, if◌then◌else◌}
use Rattle.std.specs.List.{list_all}
use Rattle.std.proofs.Common.{arith}
use Rattle.std.proofs.lemmas.Bool.{cases_lt, cond_both, eqb-true, eqb-false}
use Rattle.std.proofs.lemmas.List.{get_or-set_same, get_or-set_other, get_or_past, length-set}
use Rattle.ckd_types.specs.declared.paths.Side.TheVariants as sides
use Rattle.ckd_chain.specs.State.{ChainState}
use Rattle.loss_model.specs.declared.Loss.TheVariants as losses
use Rattle.plain_defs.specs.declared.journal.Act.{Act}
use Rattle.plain_defs.specs.declared.journal.Act.TheVariants.{Loosen, Harden, CfwLost}
use Rattle.device_defs.specs.Background.{work}
use Rattle.device_defs.specs.Command.{follow}
use Rattle.device_defs.specs.Contents.{by_plain}
use Rattle.device_defs.specs.Effects.{gone_back, loose_lost}
use Rattle.device_defs.specs.Events.{with_loss, losing}
use Rattle.device_defs.specs.Losses as L
use Rattle.device_defs.specs.Losses.{
  over,
  down,
  settled,
  without_frame,
  without_patch,
  by_frame,
  lost_now,
  slot_in,
  stale_everywhere,
  all_firm_told,
  cache_lost,
  store_lost,
}
use Rattle.device_defs.specs.Marks.{MarksStore}
use Rattle.device_defs.specs.Store.{tracks_of, has_level, has_loose, frame_at, patch_at, is_lost, is_loose, half_is, owed_at, with_stale, with_frame, with_lost, with_owed}
use Rattle.device_laws.proofs.FailedCall.{IsWell}
use Rattle.device_laws.proofs.Had.{Had, had_done, had_tell, had_if, had_then, had_weaker}
use Rattle.device_laws.proofs.PlainEvents.{had_always}
use Rattle.device_laws.proofs.PlainStores.{Core}
use Rattle.device_laws.proofs.PlainWalks.{patch_same}
use Rattle.device_laws.proofs.TrackMarks as M
use Rattle.device_laws.proofs.TrackMarks.{marks, is_good, track_at}
use Rattle.device_laws.proofs.walks.Within.{always, within_always, within_weaker}
use Rattle.device_laws.proofs.walks.Moves.{Shut, stays}
use Rattle.device_laws.proofs.walks.Shells.{IsOfShell, ends_shell}
use Rattle.device_laws.proofs.walks.Events.{reaches_any, follow_comes}
use Rattle.device_laws.proofs.walks.Writes.{work_comes}

-- Kinds of acts

abbrev pub takes_none : Act → Bool
takes_none (Loosen t) = true
takes_none (Harden t) = true
takes_none CfwLost = false

-- One act more

and_more : (a b c : Bool) → (a && b) ≡ true → (b ≡ true → c ≡ true) → (a && c) ≡ true
and_more true b c e f = f e
and_more false b c e f = e

more_so : (ok : Act → Bool) (acts : List Act) (act : Act) → list_all ok acts ≡ true → ok act ≡ true → list_all ok (acts ++ act ∷ []) ≡ true
more_so ok [] act all one = ap (λ (b : Bool). b && true) one
more_so ok (x ∷ acts) act all one =
    and_more (ok x) (list_all ok acts) (list_all ok (acts ++ act ∷ [])) all (λ rest. more_so ok acts act rest one)

-- A command, and work in the background, take no data

none_taken : IsOfShell always Shut (λ n x. list_all takes_none x.acts ≡ true)
none_taken = record {
  reads = λ m n x ok is f. f;
  writes = λ m n x ok is f. f;
  falls_reading = λ m n x side pair is f. f;
  falls_writing = λ m n x side pair is f. f;
  falls = λ n x side lost f. f;
  hardens = λ n x t why f. more_so takes_none x.acts (Harden t) f refl;
  loosens = λ n x t is f. more_so takes_none x.acts (Loosen t) f refl;
  loses = λ n x t here f. f;
  goes_back = λ n x may some f. f;
  loses_loose = λ n x lossy some f. absurd (cc);
  queues = λ n x room f. f;
  dequeues = λ n x l less f. f;
  notes = λ n x loss lossy f. f;
}

pub follow_acts : (n first : ℕ) (chain : ChainState) (t : ℕ) (s : MarksStore) → list_all takes_none s.acts ≡ true →
    Had (follow by_plain n first chain t s) (λ z _. list_all takes_none z.acts ≡ true)
follow_acts n first chain t s f =
    had_always (within_always (within_weaker (follow_comes {w = always} {kind = Shut} {c = by_plain} {k = tt} {s = s} refl (reaches_any (λ q. tt))
    n first tt chain t s tt stays)
    (λ m z a moves. ends_shell by_plain none_taken f moves)))

pub work_acts : (s : MarksStore) → list_all takes_none s.acts ≡ true → Had (work by_plain s) (λ z _. list_all takes_none z.acts ≡ true)
work_acts s f =
    had_always (within_always (within_weaker (work_comes {w = always} {kind = Shut} {c = by_plain} {k = tt} {s = s} refl s (λ t ts is. tt) stays)
    (λ m z a moves. ends_shell by_plain none_taken f moves)))

-- The loss of the cache

pub told_acts : (n : ℕ) (s : MarksStore) → Had (all_firm_told by_plain n s) (λ z (_ : Unit {0}). z.acts ≡ s.acts)
unfolding L.all_firm_told
told_acts zero s = had_done refl
told_acts (suc n) s = had_then (told_acts n s) (λ z _ e. had_if (owed_at z n).firm (λ _. had_tell (had_done e)) (λ _. had_done e))

pub over_acts : (n : ℕ) (f : ℕ → MarksStore → MarksStore) → ((t : ℕ) (z : MarksStore) → (f t z).acts ≡ z.acts) → (s : MarksStore) → (over n f s).acts ≡ s.acts
unfolding L.over
over_acts zero f h s = refl
over_acts (suc n) f h s = h n (over n f s) ∙ over_acts n f h s

none_put : (l : List (Option Bool)) (t : ℕ) → get_or (set l t None) t None ≡ None
none_put l t = by_place (cases_lt t (length l)) where
  by_place : (t < length l) ⊎ (length l ≤ t) → get_or (set l t None) t None ≡ None
  by_place (inl lt) = get_or-set_same l t None None lt
  by_place (inr le) = let a = length-set l t None in get_or_past (set l t None) t None (omega (arith, le, a))

no_some : (o : Option Bool) → is_some o ≡ false → o ≡ None
no_some (Some b) e = absurd (cc)
no_some None e = refl

unframed : (t : ℕ) (z : MarksStore) → ((without_frame z t).acts ≡ z.acts) × (frame_at (without_frame z t) t ≡ None)
unframed t z =
    cond_both (is_some (frame_at z t)) (with_owed (with_frame z t None) t (record (owed_at z t) { dropped = true })) z
    (λ (y : MarksStore). (y.acts ≡ z.acts) × (frame_at y t ≡ None)) (λ _. (refl, none_put z.frames t)) (λ none. (refl, no_some (frame_at z t) none))

pub patch_acts : (z : MarksStore) (t : ℕ) (o : Option ℕ) → (L.gives_up z t o).acts ≡ z.acts
patch_acts z t o = ap (λ (c : Core). c.acts) (patch_same z t o)

frameless : (z : MarksStore) (t : ℕ) (o : Option Bool) → o ≡ None → (by_frame by_plain z t o).acts ≡ z.acts
frameless z t (Some f) is = absurd (cc)
frameless z t None is =
    cond_both (half_is z.half t) z (lost_now by_plain z t) (λ (y : MarksStore). y.acts ≡ z.acts) (λ _. refl)
    (λ _. patch_acts (with_lost z t) t (slot_in by_plain (patch_at z t)))

-- what a track that is settled leaves, by what its frame leaves
pub settled_by : (z : MarksStore) (t : ℕ) (q : MarksStore → Type 0) → q z → q (by_frame by_plain z t (frame_at z t)) → q (settled by_plain z t)
unfolding L.settled
settled_by z t q same framed =
    cond_both (is_some z.lent) z (if is_lost z t then z else if has_level z t then z else by_frame by_plain z t (frame_at z t)) q (λ _. same)
    (λ _. cond_both (is_lost z t) z (if has_level z t then z else by_frame by_plain z t (frame_at z t)) q (λ _. same)
    (λ _. cond_both (has_level z t) z (by_frame by_plain z t (frame_at z t)) q (λ _. same) (λ _. framed)))

swept : (t : ℕ) (z : MarksStore) → (settled by_plain (without_frame z t) t).acts ≡ z.acts
swept t z =
    let y = without_frame z t in
    let u = unframed t z in
    settled_by y t (λ x. x.acts ≡ y.acts) refl (frameless y t (frame_at y t) u.1) ∙ u.0

lost_so : (s : MarksStore) (b : Bool) → (if b then record (gone_back s) { acts = s.acts ++ CfwLost ∷ [] } else s).acts
    ≡ (if b then s.acts ++ CfwLost ∷ [] else s.acts)
lost_so s true = refl
lost_so s false = refl

cache_lost_acts : (s : MarksStore) → (cache_lost by_plain s).acts ≡ (if has_loose s then s.acts ++ CfwLost ∷ [] else s.acts)
unfolding L.cache_lost
cache_lost_acts s =
    over_acts (tracks_of s) (λ t z. settled by_plain (without_frame z t) t) swept (record (loose_lost s) { queue = [] }) ∙ lost_so s (has_loose s)

pub cache_acts : (s : MarksStore) →
    Had (losing by_plain s losses.Cache) (λ z (_ : Unit {0}). z.acts ≡ (if has_loose s then s.acts ++ CfwLost ∷ [] else s.acts))
cache_acts s =
    had_weaker (told_acts (tracks_of s) (cache_lost by_plain (with_loss s losses.Cache)))
    (λ z _ e. e ∙ cache_lost_acts (with_loss s losses.Cache))

-- The loss of the store: where the data of no patched track are loose it notes nothing

-- its loose tracks stay, and patches go at most
record Keeps (s z : MarksStore) : Type 0 where
  acts : z.acts ≡ s.acts
  loose : z.loose ≡ s.loose
  patches : (q : ℕ) → is_some (patch_at z q) ≡ true → is_some (patch_at s q) ≡ true

keeps_own : (s : MarksStore) → Keeps s s
keeps_own s = record { acts = refl; loose = refl; patches = λ q some. some }

keeps_on : (s y z : MarksStore) → Keeps s y → Keeps y z → Keeps s z
keeps_on s y z f g = record { acts = g.acts ∙ f.acts; loose = g.loose ∙ f.loose; patches = λ q some. f.patches q (g.patches q some) }

none_unit : (l : List (Option (Unit {0}))) (t : ℕ) → get_or (set l t None) t None ≡ None
none_unit l t = by_place (cases_lt t (length l)) where
  by_place : (t < length l) ⊎ (length l ≤ t) → get_or (set l t None) t None ≡ None
  by_place (inl lt) = get_or-set_same l t None None lt
  by_place (inr le) = let a = length-set l t None in get_or_past (set l t None) t None (omega (arith, le, a))

left_patch : (l : List (Option (Unit {0}))) (t q : ℕ) (b : Bool) → (q == t) ≡ b → is_some (get_or (set l t None) q None) ≡ true →
    is_some (get_or l q None) ≡ true
left_patch l t q true is some =
    absurd (let none : is_some (get_or (set l t None) q None) ≡ false =
    subst (λ (k : ℕ). is_some (get_or (set l t None) k None) ≡ false) (sym (eqb-true q t is)) (ap (λ (o : Option (Unit {0})). is_some o) (none_unit l t)) in
    let both : true ≡ false = sym some ∙ none in cc)
left_patch l t q false other some =
    ap (λ (o : Option (Unit {0})). is_some o) (sym (get_or-set_other l t q None None (eqb-false q t other))) ∙ some

gives : (z : MarksStore) (t : ℕ) (o : Option ℕ) → Keeps z (L.gives_up z t o)
gives z t None = keeps_own z
gives z t (Some slot) = record { acts = refl; loose = refl; patches = λ q some. left_patch z.patches t q (q == t) refl some }

spoils : (z : MarksStore) (t : ℕ) → Keeps z (stale_everywhere z t)
spoils z t =
    cond_both z.paired (with_stale (with_stale z sides.A t true) sides.B t true) (with_stale z sides.A t true) (Keeps z)
    (λ _. record { acts = refl; loose = refl; patches = λ q some. some }) (λ _. record { acts = refl; loose = refl; patches = λ q some. some })

frame_keeps : (z : MarksStore) (t : ℕ) (o : Option Bool) → is_loose z t ≡ false → Keeps z (by_frame by_plain z t o)
frame_keeps z t (Some f) firm =
    subst (λ (b : Bool). Keeps z (if b then L.hardened_by_loss z t else L.kept_by_frame by_plain z t f)) (sym firm)
    (cond_both f z (L.owes_modified (with_frame z t (Some true)) t) (Keeps z) (λ _. keeps_own z)
    (λ _. record { acts = refl; loose = refl; patches = λ q some. some }))
frame_keeps z t None firm =
    cond_both (half_is z.half t) z (lost_now by_plain z t) (Keeps z) (λ _. keeps_own z)
    (λ _. keeps_on z (with_lost z t) (lost_now by_plain z t) (record { acts = refl; loose = refl; patches = λ q some. some })
    (gives (with_lost z t) t (slot_in by_plain (patch_at z t))))

patch_keeps : (t : ℕ) (z : MarksStore) → (is_some (patch_at z t) ≡ true → is_loose z t ≡ false) → Keeps z (L.patch_lost by_plain t z)
patch_keeps t z firm =
    let x = without_patch by_plain z t in
    let y = stale_everywhere x t in
    let f = gives z t (slot_in by_plain (patch_at z t)) in
    let g = keeps_on z x y f (spoils x t) in
    cond_both (is_some (patch_at z t)) (if half_is z.half t then x else settled by_plain y t) z (Keeps z)
    (λ patched. cond_both (half_is z.half t) x (settled by_plain y t) (Keeps z) (λ _. f)
    (λ _. settled_by y t (Keeps z) g
    (keeps_on z y (by_frame by_plain y t (frame_at y t)) g
    (frame_keeps y t (frame_at y t) (ap (λ (l : List Bool). get_or l t false) g.loose ∙ firm patched)))))
    (λ _. keeps_own z)

-- no patched track is loose
abbrev pub ArePatchedFirm : MarksStore → Type 0
ArePatchedFirm s = (q : ℕ) → is_some (patch_at s q) ≡ true → is_loose s q ≡ false

store_keeps : (n : ℕ) (s : MarksStore) → ArePatchedFirm s → Keeps s (over n (L.patch_lost by_plain) s)
unfolding L.over
store_keeps zero s firm = keeps_own s
store_keeps (suc n) s firm =
    let y = over n (L.patch_lost by_plain) s in
    let f = store_keeps n s firm in
    keeps_on s y (L.patch_lost by_plain n y) f
    (patch_keeps n y (λ patched. ap (λ (l : List Bool). get_or l n false) f.loose ∙ firm n (f.patches n patched)))

store_lost_acts : (s : MarksStore) → ArePatchedFirm s → (store_lost by_plain s).acts ≡ s.acts
unfolding L.store_lost
store_lost_acts s firm = (store_keeps (tracks_of s) s firm).acts

pub store_acts : (s : MarksStore) → ArePatchedFirm s → Had (losing by_plain s losses.Store) (λ z (_ : Unit {0}). z.acts ≡ s.acts)
store_acts s firm =
    had_weaker (told_acts (tracks_of s) (store_lost by_plain (with_loss s losses.Store)))
    (λ z _ e. e ∙ store_lost_acts (with_loss s losses.Store) firm)

-- so it is where marks are good

firm_patch : (frame : Option Bool) (lost loose half level : Bool) → is_good (marks frame true lost loose half level) ≡ true → loose ≡ false
firm_patch frame lost false half level good = refl
firm_patch None true true half level good = absurd (cc)
firm_patch (Some m) true true half level good = absurd (cc)
firm_patch frame false true true level good = absurd (cc)
firm_patch None false true false true good = absurd (cc)
firm_patch None false true false false good = absurd (cc)
firm_patch (Some true) false true false level good = absurd (cc)
firm_patch (Some false) false true false true good = absurd (cc)
firm_patch (Some false) false true false false good = absurd (cc)

good_patch : (s : MarksStore) (q : ℕ) → is_good (track_at by_plain s q) ≡ true → is_some (patch_at s q) ≡ true → is_loose s q ≡ false
unfolding M.track_at
good_patch s q good patched =
    firm_patch (M.frame_mark by_plain (frame_at s q)) (is_lost s q) (is_loose s q) (half_is s.half q) (has_level s q)
    (subst (λ (b : Bool). is_good (marks (M.frame_mark by_plain (frame_at s q)) b (is_lost s q) (is_loose s q) (half_is s.half q) (has_level s q)) ≡ true)
    patched good)

pub well_patches : (s : MarksStore) → IsWell by_plain s → ArePatchedFirm s
well_patches s w q patched = by_place (cases_lt q (tracks_of s)) where
  many : length s.patches ≡ tracks_of s
  many = cc (w.sizes.are)

  by_place : (q < tracks_of s) ⊎ (tracks_of s ≤ q) → is_loose s q ≡ false
  by_place (inl lt) = good_patch s q (w.good q lt) patched
  by_place (inr le) =
      let sizes = many in
      absurd (let none : is_some (patch_at s q) ≡ false = ap (λ (o : Option (Unit {0})). is_some o) (get_or_past s.patches q None (omega (arith, le, sizes))) in
      let both : true ≡ false = sym patched ∙ none in cc)
