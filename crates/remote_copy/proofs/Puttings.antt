-- How a sender goes on over the firm writes that it is told.
use Rattle.std.proofs.Common.{◌≡◌, ◌≤◌, ◌<◌, ◌∙◌, ◌==◌, ◌&&◌, inl, inr, ℕ, Bool, true, false, List, [], ◌∷◌, ◌++◌, length, length-set, Option, Some, None, option_map, Result, Ok, Err, refl, sym, ap, subst, arith}
use Rattle.std.specs.Prelude.{if◌then◌else◌, slice_set}
use Rattle.ckd_types.specs.declared.geometry.Geometry.{Geometry}
use Rattle.ckd_types.specs.declared.record.Track.{Track}
use Rattle.ckd_outside.specs.declared.faults.Failed.{Failed}
use Rattle.track_image.specs.Image.{Image}
use Rattle.device_store.specs.Images.{IsImageOf}
use Rattle.device_outside.specs.Hears.{HeardAll, heard_none, heard_next}
use Rattle.device_outside.specs.Keeper.{Message, BeforeEdit, Firm, Heard, ReplyTo, reply}
use Rattle.keeper_laws.specs.Firmness.{told_firm}
use Rattle.remote_copy.specs.Linking.{IsPut, with_put}
use Rattle.firm_laws.specs.FirmWrites.{FirmWrite, firms_in}
use Rattle.remote_copy.specs.Sending.{IsSent, SenderView, Sends, SendsIf, hears_sent, is_put, put_all, takes_sent}

-- it is told of one
abbrev pub GoesOn : SenderView → FirmWrite → SenderView → Type 0
GoesOn s w z = SendsIf (is_put s.state w.0) s w.0 w.1 z

-- of these, one after another
pub data SendsAll : SenderView → List FirmWrite → SenderView → Type 0 where
  sends_none : {s : SenderView} → SendsAll s [] s
  sends_next : {s l z : SenderView} {w : FirmWrite} {ws : List FirmWrite} → GoesOn s w l → SendsAll l ws z → SendsAll s (w ∷ ws) z

pub sends_more : {s z y : SenderView} {ws us : List FirmWrite} → SendsAll s ws z → SendsAll z us y → SendsAll s (ws ++ us) y
sends_more sends_none more = more
sends_more (sends_next h rest) more = sends_next h (sends_more rest more)

-- What it keeps

abbrev pub far_size : Option (List Track) → Option ℕ
far_size far = option_map (λ (f : List Track). length f) far

pub record Stays (s z : SenderView) : Type 0 where
  pub device : z.device ≡ s.device
  pub geometry : z.link.geometry ≡ s.link.geometry
  pub tracks : z.link.tracks ≡ s.link.tracks
  pub faults : s.link.faults ≤ z.link.faults
  pub size : far_size z.link.far ≡ far_size s.link.far

stays_same : (s : SenderView) → Stays s s
stays_same s = record { device = refl; geometry = refl; tracks = refl; faults = omega arith; size = refl }

put_size : (t : ℕ) (x : Track) (far : Option (List Track)) → far_size (with_put t x far) ≡ far_size far
put_size t x None = refl
put_size t x (Some f) = ap Some (length-set f t x)

pub size_by : {T E : Type 0} (r : Result T E) (t : ℕ) (x : Track) (old new : Option (List Track)) → IsPut r t x old new → far_size new ≡ far_size old
size_by (Ok y) t x old new put = ap far_size put ∙ put_size t x old
size_by (Err e) t x old new (inl kept) = ap far_size kept
size_by (Err e) t x old new (inr put) = ap far_size put ∙ put_size t x old

sent_stays : (s z : SenderView) (t : ℕ) (x : Track) → Sends s t x z → Stays s z
sent_stays s z t x h = record {
  device = h.is.device;
  geometry = h.is.put.geometry;
  tracks = h.is.put.tracks;
  faults = h.is.put.cause.later;
  size = size_by h.result t x s.link.far z.link.far h.is.put.far;
}

pub one_stays : (b : Bool) (s z : SenderView) (t : ℕ) (x : Track) → SendsIf b s t x z → Stays s z
one_stays true s z t x h = sent_stays s z t x h
one_stays false s z t x same = subst (λ (k : SenderView). Stays s k) (sym same) (stays_same s)

pub stays : {s z : SenderView} {ws : List FirmWrite} → SendsAll s ws z → Stays s z
stays (sends_none {s = s}) = stays_same s
stays (sends_next {s = s} {l = l} {z = z} {w = w} {ws = ws} h rest) =
    let one = one_stays (is_put s.state w.0) s l w.0 w.1 h in
    let all = stays rest in
    let first : s.link.faults ≤ l.link.faults = one.faults in
    let later : l.link.faults ≤ z.link.faults = all.faults in
    record {
      device = all.device ∙ one.device;
      geometry = all.geometry ∙ one.geometry;
      tracks = all.tracks ∙ one.tracks;
      faults = omega arith;
      size = all.size ∙ one.size;
    }

-- What it may be told stays

takes_still : (s z : SenderView) → z.device ≡ s.device → z.link.geometry ≡ s.link.geometry → z.link.tracks ≡ s.link.tracks → (d t : ℕ) (i : Image) →
    takes_sent s d t i → takes_sent z d t i
takes_still s z device geometry tracks d t i takes mine =
    let far = takes (mine ∙ device) in
    record {
      below = subst (λ (n : ℕ). t < n) (sym tracks) far.below;
      of = subst (λ (g : Geometry). IsImageOf g t i) (sym geometry) far.of;
    }

-- the firm track was put
pub firm_is_heard : (s z : SenderView) (d t : ℕ) (i : Image) (r : Result (Unit {0}) Failed) → ((d == s.device) && is_put s.state t) ≡ true →
    IsSent s t i.track r z → Heard hears_sent takes_sent s (Firm d t i) tt z
firm_is_heard s z d t i r here h = record {
  moves = subst (λ (b : Bool). SendsIf b s t i.track z) (sym here) (record { result = r; is = h });
  still = takes_still s z h.device h.put.geometry h.put.tracks;
}

-- or it isn't put
pub firm_is_passed : (s : SenderView) (d t : ℕ) (i : Image) → ((d == s.device) && is_put s.state t) ≡ false →
    Heard hears_sent takes_sent s (Firm d t i) tt s
firm_is_passed s d t i off = record {
  moves = subst (λ (b : Bool). SendsIf b s t i.track s) (sym off) refl;
  still = λ e u j takes. takes;
}

-- Messages

by_device : (s l z : SenderView) (t : ℕ) (i : Image) (ms : List (Message Image)) (mine : Bool) → SendsIf (mine && is_put s.state t) s t i.track l →
    SendsAll l (firms_in l.device ms) z → SendsAll s (if mine then (t, i.track) ∷ firms_in s.device ms else firms_in s.device ms) z
by_device s l z t i ms true moves rest =
    sends_next moves (subst (λ (n : ℕ). SendsAll l (firms_in n ms) z) (one_stays (is_put s.state t) s l t i.track moves).device rest)
by_device s l z t i ms false same rest = subst (λ (k : SenderView). SendsAll k (firms_in k.device ms) z) same rest

told_more : (s l z : SenderView) (m : Message Image) (ms : List (Message Image)) → hears_sent s m (reply m) l → SendsAll l (firms_in l.device ms) z →
    SendsAll s (firms_in s.device (m ∷ ms)) z
told_more s l z (BeforeEdit d t i) ms moves rest = subst (λ (k : SenderView). SendsAll k (firms_in k.device ms) z) moves.1 rest
told_more s l z (Firm d t i) ms moves rest = by_device s l z t i ms (d == s.device) moves rest

pub heard_sends : {s z : SenderView} {ms : List (Message Image)} → HeardAll (Heard hears_sent takes_sent) s ms z → SendsAll s (firms_in s.device ms) z
heard_sends heard_none = sends_none
heard_sends (heard_next {k = s} {l = l} {n = z} {m = m} {ms = ms} h rest) = told_more s l z m ms h.moves (heard_sends rest)

-- whatever is replied
one_put : (s z : SenderView) (t : ℕ) (x : Track) (mine : Bool) → SendsIf (mine && is_put s.state t) s t x z → (ws : List FirmWrite) × SendsAll s ws z
one_put s z t x true moves = ((t, x) ∷ [], sends_next moves sends_none)
one_put s z t x false same = ([], subst (λ (k : SenderView). SendsAll s [] k) (sym same) sends_none)

pub heard_send : (s z : SenderView) (m : Message Image) (r : ReplyTo m) → hears_sent s m r z → (ws : List FirmWrite) × SendsAll s ws z
heard_send s z (BeforeEdit d t i) r moves = ([], subst (λ (k : SenderView). SendsAll s [] k) (sym moves.1) sends_none)
heard_send s z (Firm d t i) r moves = one_put s z t i.track (d == s.device) moves

-- Lists of firm writes

if_told : (n : ℕ) (t : ℕ) (x : Track) (ms : List (Message Image)) (v : List Track) (mine : Bool) →
    ((u : List Track) → told_firm n ms u ≡ put_all (firms_in n ms) u) →
    told_firm n ms (if mine then slice_set v t x else v) ≡ put_all (if mine then (t, x) ∷ firms_in n ms else firms_in n ms) v
if_told n t x ms v true rest = rest (slice_set v t x)
if_told n t x ms v false rest = rest v

pub told_is_put : (n : ℕ) (ms : List (Message Image)) (v : List Track) → told_firm n ms v ≡ put_all (firms_in n ms) v
told_is_put n [] v = refl
told_is_put n (BeforeEdit d t i ∷ ms) v = told_is_put n ms v
told_is_put n (Firm d t i ∷ ms) v = if_told n t i.track ms v (d == n) (λ u. told_is_put n ms u)

pub put_all_more : (ws us : List FirmWrite) (v : List Track) → put_all (ws ++ us) v ≡ put_all us (put_all ws v)
put_all_more [] us v = refl
put_all_more (w ∷ ws) us v = put_all_more ws us (slice_set v w.0 w.1)

pub length_put_all : (ws : List FirmWrite) (v : List Track) → length (put_all ws v) ≡ length v
length_put_all [] v = refl
length_put_all (w ∷ ws) v = length_put_all ws (slice_set v w.0 w.1) ∙ length-set v w.0 w.1
