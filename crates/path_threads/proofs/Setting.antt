-- Devices come into their turns, and leave them.
use Rattle.std.proofs.Common.{◌≡◌, ◌<◌, ℕ, map, List, [], ◌∷◌, ◌++◌, length, Some, Result, Ok, Err, refl, sym, ap, subst, ◌∙◌, arith, append_assoc, append-nil}
use Rattle.std.specs.Prelude.{All, IfOk, slice_index_or}
use Rattle.std.specs.List.{AllZip, insert, remove}
use Rattle.std.proofs.lemmas.List.Elements.{All-head, All-tail}
use Rattle.device_outside.specs.declared.volume.Volume.{Ghosts}
use Rattle.device_turn.specs.Rule.{KeptBy}
use Rattle.device_turn.specs.declared.holder.Holder as holders
use Rattle.device_turn.specs.declared.seat.TurnSeat.{TurnSeat}
use Rattle.device_turn.specs.declared.seating.Setting.{Setting}
use Rattle.device_turn.proofs.Zips.{zip_snoc}
use Rattle.device_defs.specs.declared.counts.Losses.{Losses}
use Rattle.device_core.specs.declared.device.Device.{Device}
use Rattle.path_workers.specs.declared.promise.Promise.{Promise}
use Rattle.path_workers.specs.Keeping.{IsReady, IsWithin, KeepsPromise, KeepsWithin}
use Rattle.path_workers.proofs.Ready.{ready_keeps}
use Rattle.path_threads.specs.Places.{Allows, HaveCome, HaveLeft, HavePlaces, IsPlaceOf, IsPromised, IsPromisedFor, KeepPromises}
use Rattle.path_threads.specs.declared.places.Place.{Place}
use Rattle.path_threads.specs.declared.orders.Order.{Order}
use Rattle.path_threads.specs.Allowed.{allowed_of}

abbrev pub SeatOf : {V : Type 0} {G : Ghosts V} → holders.Ghosts (Device V G) (Promise V G) → Type 0
SeatOf {V} {G} N = TurnSeat (Device V G) (Promise V G) N

-- of each path
pub of_four : (f : ℕ → ℕ) (w x y z : ℕ) → w ≡ f 1 → x ≡ f 2 → y ≡ f 3 → z ≡ f 4 → w ∷ x ∷ y ∷ z ∷ [] ≡ map f (1 ∷ 2 ∷ 3 ∷ 4 ∷ [])
of_four f w x y z one two three four =
    ap (λ (k : ℕ). k ∷ x ∷ y ∷ z ∷ []) one ∙ ap (λ (k : ℕ). f 1 ∷ k ∷ y ∷ z ∷ []) two ∙ ap (λ (k : ℕ). f 1 ∷ f 2 ∷ k ∷ z ∷ []) three
    ∙ ap (λ (k : ℕ). f 1 ∷ f 2 ∷ f 3 ∷ k ∷ []) four

module _ {V : Type 0} {G : Ghosts V} where
  -- a device that is ready keeps what is promised of it
  pub promise_kept : (d : Device V G) (p : Promise V G) → p.made.value ≡ d → IsWithin d.store.counts.losses p.most → IsReady d → KeepsPromise p d
  promise_kept d p made within ready =
      subst (λ (x : Device V G). KeepsWithin p.most x d) (sym made) (ready_keeps d ready p.most within)

  -- the devices that stand in turns have their places
  pub none_placed : (ds : List (Device V G)) (places : List Place) → places ≡ [] → HavePlaces ds places ds
  none_placed ds places none =
      record { come = []; all = refl; placed = subst (λ (p : List Place). AllZip (IsPlaceOf {V = V} {G = G}) [] p) (sym none) tt }

  pub one_placed : (ds : List (Device V G)) (places new : List Place) (rest less : List (Device V G)) (d : Device V G) (p : Place) → HavePlaces ds places rest →
      0 < length rest → d ≡ slice_index_or rest 0 d → less ≡ remove rest 0 → IsPlaceOf d p → new ≡ places ++ p ∷ [] → HavePlaces ds new less
  one_placed ds places new [] less d p have some is rest_is place new_is = absurd (omega (arith, some))
  one_placed ds places new (x ∷ rest) less d p have some is rest_is place new_is = record {
    come = have.come ++ x ∷ [];
    all = have.all ∙ sym (append_assoc have.come (x ∷ []) rest) ∙ ap (λ (r : List (Device V G)). (have.come ++ x ∷ []) ++ r) (sym rest_is);
    placed = subst (λ (q : List Place). AllZip IsPlaceOf (have.come ++ x ∷ []) q) (sym new_is)
        (zip_snoc IsPlaceOf have.come places x p have.placed (subst (λ (y : Device V G). IsPlaceOf y p) is place));
  }

  pub all_placed : (ds : List (Device V G)) (places : List Place) (rest : List (Device V G)) → HavePlaces ds places rest → length rest ≡ 0 →
      AllZip IsPlaceOf ds places
  all_placed ds places [] have none =
      subst (λ (d : List (Device V G)). AllZip IsPlaceOf d places) (sym (have.all ∙ append-nil have.come)) have.placed
  all_placed ds places (x ∷ rest) have none = absurd (omega (arith, none))

module _ {V : Type 0} {G : Ghosts V} {N : holders.Ghosts (Device V G) (Promise V G)} where
  pub promised_of : {E : Type 0} (most : Losses) (d : Device V G) (p : Promise V G) (r : Result (Setting (Device V G) (Promise V G) N) E) → p.made.value ≡ d →
      p.most ≡ most → IfOk r (λ s. s.operator.seat.me.0.pledge ≡ Some p) → IfOk r (λ s. IsPromised most d s.operator)
  promised_of most d p (Ok s) made is pledge = record { promise = p; pledge = pledge; made = made; allows = is }
  promised_of most d p (Err e) made is pledge = tt

  pub promised_allows : (most : Losses) (d : Device V G) (s : SeatOf N) (place : Place) → place.most ≡ most → place.number ≡ d.store.number →
      IsPromised most d s → Allows place s
  promised_allows most d s place is number p = record {
    promise = p.promise;
    pledge = p.pledge;
    most = p.allows ∙ sym is;
    number = ap (λ (x : Device V G). x.store.number) p.made ∙ sym number;
  }

  pub promised_for : {M : Type 0} (es : List (Order M)) (most : Losses) (d : Device V G) (s : SeatOf N) → most ≡ allowed_of es d → IsPromised most d s → IsPromisedFor es d s
  promised_for es most d s is p = subst (λ (m : Losses). IsPromised m d s) is p

  pub none_allowed : (places : List Place) (seats : List (SeatOf N)) → places ≡ [] → seats ≡ [] → AllZip Allows places seats
  none_allowed [] [] no_places no_seats = tt
  none_allowed [] (s ∷ seats) no_places no_seats = absurd (cc)
  none_allowed (p ∷ places) seats no_places no_seats = absurd (cc)

  pub none_come : {M : Type 0} (es : List (Order M)) (ds : List (Device V G)) (seats : List (SeatOf N)) → seats ≡ [] → All IsReady ds → HaveCome es ds seats ds
  none_come es ds seats none ready =
      record { come = []; all = refl; promised = subst (λ (s : List (SeatOf N)). AllZip (IsPromisedFor es) [] s) (sym none) tt; ready = ready }

  pub first_ready : {M : Type 0} (es : List (Order M)) (ds : List (Device V G)) (seats : List (SeatOf N)) (rest : List (Device V G)) (d : Device V G) → HaveCome es ds seats rest → 0 < length rest →
      d ≡ slice_index_or rest 0 d → IsReady d
  first_ready es ds seats [] d come some is = absurd (omega (arith, some))
  first_ready es ds seats (x ∷ rest) d come some is = subst IsReady (sym is) (All-head IsReady x rest come.ready)

  pub one_come : {M : Type 0} (es : List (Order M)) (ds : List (Device V G)) (seats new : List (SeatOf N)) (rest less : List (Device V G)) (d : Device V G) (s : SeatOf N) → HaveCome es ds seats rest →
      0 < length rest → d ≡ slice_index_or rest 0 d → less ≡ remove rest 0 → IsPromisedFor es d s → new ≡ seats ++ s ∷ [] → HaveCome es ds new less
  one_come es ds seats new [] less d s come some is rest_is promised new_is = absurd (omega (arith, some))
  one_come es ds seats new (x ∷ rest) less d s come some is rest_is promised new_is =
      record {
        come = come.come ++ x ∷ [];
        all = come.all ∙ sym (append_assoc come.come (x ∷ []) rest) ∙ ap (λ (r : List (Device V G)). (come.come ++ x ∷ []) ++ r) (sym rest_is);
        promised = subst (λ (q : List (SeatOf N)). AllZip (IsPromisedFor es) (come.come ++ x ∷ []) q) (sym new_is)
            (zip_snoc (IsPromisedFor es) come.come seats x s come.promised (subst (λ (y : Device V G). IsPromisedFor es y s) is promised));
        ready = subst (λ (r : List (Device V G)). All IsReady r) (sym rest_is) (All-tail IsReady x rest come.ready);
      }

  pub all_come : {M : Type 0} (es : List (Order M)) (ds : List (Device V G)) (seats : List (SeatOf N)) (rest : List (Device V G)) → HaveCome es ds seats rest → length rest ≡ 0 → AllZip (IsPromisedFor es) ds seats
  all_come es ds seats [] come none =
      subst (λ (d : List (Device V G)). AllZip (IsPromisedFor es) d seats) (sym (come.all ∙ append-nil come.come)) come.promised
  all_come es ds seats (x ∷ rest) come none = absurd (omega (arith, none))

  nothing_left : (most : Device V G → Losses) (left : List (SeatOf N)) (behind : List (Device V G)) → left ≡ [] → behind ≡ [] → KeepPromises most left behind
  nothing_left most left behind no_seats none [] h =
      subst (λ (b : List (Device V G)). AllZip (λ d e. KeepsWithin (most d) d e) [] b) (sym none) tt
  nothing_left most [] behind no_seats none (d ∷ ds) h = absurd h
  nothing_left most (s ∷ left) behind no_seats none (d ∷ ds) h = absurd (cc)

  pub none_left : (most : Device V G → Losses) (seats : List (SeatOf N)) (behind : List (Device V G)) → behind ≡ [] → HaveLeft most seats seats behind
  none_left most seats behind none = record { left = []; all = sym (append-nil seats); kept = nothing_left most [] behind refl none }

  -- what was promised is kept
  promised_kept : (most : Device V G → Losses) (d e : Device V G) (s : SeatOf N) → IsPromised (most d) d s → KeptBy KeepsPromise s.seat.me.0.pledge e → KeepsWithin (most d) d e
  promised_kept most d e s p kept =
      let by : KeepsPromise p.promise e = subst (λ (q : _). KeptBy KeepsPromise q e) p.pledge kept in
      subst (λ (l : Losses). KeepsWithin l d e) p.allows
      (subst (λ (x : Device V G). KeepsWithin p.promise.most x e) p.made by)

  pub one_left : (most : Device V G → Losses) (seats rest less : List (SeatOf N)) (s : SeatOf N) (behind new : List (Device V G)) (e : Device V G) → HaveLeft most seats rest behind →
      rest ≡ less ++ s ∷ [] → KeptBy KeepsPromise s.seat.me.0.pledge e → new ≡ insert behind 0 e → HaveLeft most seats less new
  one_left most seats rest less s behind new e left is kept new_is = record {
    left = s ∷ left.left;
    all = left.all ∙ ap (λ (r : List (SeatOf N)). r ++ left.left) is ∙ append_assoc less (s ∷ []) left.left;
    kept = subst (λ (b : List (Device V G)). KeepPromises most (s ∷ left.left) b) (sym (new_is ∙ in_front behind)) more;
  } where
    in_front : (es : List (Device V G)) → insert es 0 e ≡ e ∷ es
    in_front [] = refl
    in_front (x ∷ es) = refl

    more : KeepPromises most (s ∷ left.left) (e ∷ behind)
    more [] h = absurd h
    more (d ∷ ds) h = (promised_kept most d e s h.0 kept, left.kept ds h.1)

  pub all_left : (most : Device V G → Losses) (seats rest : List (SeatOf N)) (behind : List (Device V G)) → HaveLeft most seats rest behind → rest ≡ [] → KeepPromises most seats behind
  all_left most seats rest behind left none =
      subst (λ (q : List (SeatOf N)). KeepPromises most q behind) (sym (left.all ∙ ap (λ (r : List (SeatOf N)). r ++ left.left) none)) left.kept
