-- What a look comes to, where the pool, the volumes and their failing calls are told and memory is had, is what it finds in a run.
use Rattle.std.proofs.Common.{◌≡◌, ◌<◌, ◌==◌, ◌&&◌, ℕ, Bool, true, false, List, [], Option, Some, None, refl, sym, ap, subst, ◌∙◌}
use Rattle.std.specs.Prelude.{option_map}
use Rattle.ckd_types.specs.declared.record.Track.{Track}
use Rattle.track_image.specs.Image.{Image}
use Rattle.device_outside.specs.Keeper.{Hearing}
use Rattle.device_outside.specs.Pool.{Pool}
use Rattle.device_defs.specs.Contents.{contents, by_plain}
use Rattle.device_defs.specs.Marks.{half_mark}
use Rattle.device_defs.specs.Peek.{Peeked, peek}
use Rattle.device_defs.specs.Store.{Origin, OfCommand, OfCut, OfBackground, HalfWrite, tracks_of}
use Rattle.device_laws.specs.Agrees.{Held}
use Rattle.device_laws.specs.Lent.{Stands, in_order, is_away}
use Rattle.device_laws.specs.Whole.{WholeDevice, marks_device, WholeTwins, Leaves}
use Rattle.device_laws.proofs.Lent.{LeavesLent}
use Rattle.device_laws.proofs.TwinWalks.{both_weaker}
use Rattle.subsystem_defs.specs.Happening.{Talk, held_with, mounted_behind}
use Rattle.subsystem_defs.specs.Looks as L
use Rattle.subsystem_defs.specs.Looks.{told_found, looked_at, looked}
use Rattle.subsystem_defs.specs.Subsystem.{Mounted, mounted_in, put_in}
use Rattle.subsystem_laws.specs.WholeComes.{OwnTalk, subsystem_of, Changes, Asked}
use Rattle.subsystem_laws.specs.WholeStood.{Stood, is_mounted, AreMounted}
use Rattle.subsystem_laws.proofs.WholeFinding.{Found, none_found, both_found, find}
use Rattle.subsystem_laws.proofs.WholeTalks.{AreTwins, stands, mounts, held_so}
use Rattle.subsystem_laws.specs.Looking.{is_written, is_writing, is_written_at, IsLooked}
use Rattle.subsystem_laws.proofs.looking.LentPeek.{peek_lent}
use Rattle.subsystem_laws.proofs.looking.TwinLook.{ByBackground}
use Rattle.subsystem_laws.proofs.looking.TwinPeek.{peek_whole}

-- Half writes

both_so : (x y : Bool) → (x && y) ≡ false → x ≡ true → y ≡ false
both_so true y e f = e
both_so false y e f = absurd (cc)

or_none : (x y : Bool) → y ≡ false → (x && y) ≡ false
or_none true y e = e
or_none false y e = refl

-- one that is open on no track isn't open on this one
pub unwritten : {H : Type 0} (half : Option (HalfWrite H)) (t : ℕ) → is_writing half ≡ false → is_written_at half t ≡ false
unwritten None t e = refl
unwritten (Some h) t e = or_none (h.track == t) (is_written h.origin) e

background_so : (origin : Origin) → is_written origin ≡ false → origin ≡ OfBackground
background_so (OfCommand bypass e) f = absurd (cc)
background_so (OfCut bypass) f = absurd (cc)
background_so OfBackground f = refl

some_is : {X : Type 0} {x y : X} → Some x ≡ Some y → x ≡ y
some_is e = cc

pub by_background : (half : Option (HalfWrite Image)) (t : ℕ) → is_written_at half t ≡ false → ByBackground half t
by_background None t e i is own = absurd (cc)
by_background (Some h) t e i is own =
    let same : h ≡ i = some_is is in
    background_so i.origin
    (both_so (i.track == t) (is_written i.origin) (subst (λ (k : HalfWrite Image). ((k.track == t) && is_written k.origin) ≡ false) same e) own)

pub marked_same : (half : Option (HalfWrite Image)) (t : ℕ) → is_written_at (option_map half_mark half) t ≡ is_written_at half t
marked_same None t = refl
marked_same (Some h) t = refl

-- A device as it stands

module _ (v w : List Track) (d : WholeDevice) (h : Held) (t : ℕ) where
  abbrev talk : OwnTalk (Option Peeked)
  talk = peek contents d t

  abbrev other : Talk (Option Peeked)
  other = peek by_plain (marks_device v w d) t

  in_order_so : WholeTwins (Leaves (λ v2. v2 ≡ v)) talk other h → AreTwins h talk other
  in_order_so x = record {
    twins = both_weaker talk other h
        (λ s a m b k e. record {
          plain = e.plain;
          firm = e.firm;
          marks = e.marks;
          is = record { stands = in_order e.is.order; same = e.is.same };
        }) x;
  }

  away_so : WholeTwins LeavesLent talk other h → AreTwins h talk other
  away_so x = record {
    twins = both_weaker talk other h
        (λ s a m b k e. record {
          plain = e.plain;
          firm = e.firm;
          marks = e.marks;
          is = record { stands = is_away e.is.lent; same = e.is.same };
        }) x;
  }

  pub peek_twins : t < tracks_of d.store → is_written_at d.store.half t ≡ false → Stands v w d h → AreTwins h talk other
  peek_twins lt may (in_order i) = in_order_so (peek_whole v w d h t lt (by_background d.store.half t may) i)
  peek_twins lt may (is_away i) = away_so (peek_lent v w d h t i)

-- All devices

module _ {K : Type 0} (hears : Hearing Image K) (p q : Pool) (xs ys : List Stood) (ms : List Mounted) (n t : ℕ) (m : Mounted) (f : Peeked)
    (there : mounted_in ms n ≡ Some m) (may : is_written_at m.device.store.half t ≡ false) (lt : t < tracks_of m.device.store)
    (came : Changes n (λ x y. Asked hears (peek contents x.device t) (Some f) p x y q) xs ys) where
  by_found : Found p.used [] xs ms n → IsLooked (looked (subsystem_of p ms) n t) f q ys
  unfolding L.looked
  by_found (none_found s e) = absurd (let no : None ≡ Some m = sym e ∙ there in cc)
  by_found (both_found x k mine others s e (is_mounted d v w h on_a on_b a b is slots told_a told_b) shared number put) =
      let same : mounts v w d a b ≡ m = some_is (sym e ∙ there) in
      let here : came.before ≡ stands d on_a on_b = some_is (sym came.stood ∙ s) in
      let free : is_written_at d.store.half t ≡ false =
      sym (marked_same d.store.half t) ∙ ap (λ (u : Mounted). is_written_at u.device.store.half t) same ∙ may in
      let below : t < tracks_of d.store = subst (λ (u : Mounted). t < tracks_of u.device.store) (sym same) lt in
      let o = held_with (subsystem_of p ms).pool (mounts v w d a b) (peek by_plain (marks_device v w d) t) in
      let so = held_so hears p q d v w h mine others on_a on_b a b slots shared told_a told_b (peek contents d t) (peek by_plain (marks_device v w d) t)
      (Some f) came.behind (peek_twins v w d h t below free is)
      (subst (λ (u : Stood). Asked hears (peek contents u.device t) (Some f) p u came.behind q) here came.is_so) in
      subst (λ (u : Option Mounted). IsLooked (looked_at (subsystem_of p ms) n t u) f q ys) (sym e)
      (record {
        found = ap told_found so.answered;
        left = so.left;
        mounted = subst (λ (l : List Stood). AreMounted q l (put_in ms n (mounted_behind o))) (sym came.stands)
            (put q.used so.mine came.behind (mounted_behind o) so.mounted so.shared);
      })

pub look_so : {K : Type 0} (hears : Hearing Image K) (p q : Pool) (xs ys : List Stood) (ms : List Mounted) (n t : ℕ) (m : Mounted) (f : Peeked) →
    AreMounted p xs ms → mounted_in ms n ≡ Some m → is_written_at m.device.store.half t ≡ false → t < tracks_of m.device.store →
    Changes n (λ x y. Asked hears (peek contents x.device t) (Some f) p x y q) xs ys → IsLooked (looked (subsystem_of p ms) n t) f q ys
look_so hears p q xs ys ms n t m f all there may lt came = by_found hears p q xs ys ms n t m f there may lt came (find p.used [] xs ms n all)
