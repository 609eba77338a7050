-- One walk of what begins and ends an event, of failed calls and losses, of the image of a track and of a look at one, into moves.
use Rattle.std.proofs.Common.{List, get_or, ◌⊎◌, inl, inr, [], ◌≡◌, ◌+◌, zero, suc, ℕ, Bool, true, false, Option, Some, None, is_some, refl, sym, ap, subst, ◌∙◌, arith}
use Rattle.std.specs.Prelude.{if◌then◌else◌, ◌||◌, ◌==◌, not, length, nat_le, nat_lt}
use Rattle.ckd_types.specs.declared.parameters.Mode.{Mode}
use Rattle.ckd_types.specs.declared.paths.Side.{Side}
use Rattle.ckd_types.specs.declared.paths.Side.TheVariants as sides
use Rattle.ckd_types.specs.Parameters.{is_bypass}
use Rattle.loss_model.specs.declared.Loss.{Loss}
use Rattle.loss_model.specs.declared.Loss.TheVariants as losses
use Rattle.track_image.specs.Image.{Image}
use Rattle.device_outside.specs.Interaction.{Interaction, Done}
use Rattle.device_defs.specs.declared.usage.Usage.{Usage}
use Rattle.device_defs.specs.Contents.{Contents}
use Rattle.device_defs.specs.Cutting.{origin_cut, half_cut, half_ended, half_lost, loose_gone, powerless}
use Rattle.device_defs.specs.Effects.{loose_lost}
use Rattle.device_defs.specs.Events.{with_loss, lost_by, losing}
use Rattle.device_defs.specs.Image as I
use Rattle.device_defs.specs.Image.{
  Got,
  Imaged,
  Has,
  is_sequential,
  queued,
  ahead,
  read_counted,
  second_read,
  read_b,
  first_read,
  level_bytes,
  image_of,
  filled,
  loads,
  granted,
  loaded,
  delivered,
  missed,
  miss,
  clean_image,
  image_by,
  image,
}
use Rattle.device_defs.specs.Losses as L
use Rattle.device_defs.specs.Losses.{
  slot_in,
  gives_up,
  without_frame,
  without_patch,
  by_frame,
  settled,
  settled_but,
  over,
  down,
  stale_everywhere,
  side_lost,
  cache_lost,
  patch_lost,
  store_lost,
  firm_told,
  all_firm_told,
  call_failed,
}
use Rattle.device_defs.specs.Memory.{had_by}
use Rattle.device_defs.specs.Owed.{is_modified, is_clean, hear, all_told}
use Rattle.device_defs.specs.Peek.{peek_usage, peeked, peek_image, is_in_half, peek_half, peek_track}
use Rattle.device_defs.specs.Store.{
  Origin,
  OfCommand,
  OfCut,
  OfBackground,
  HalfWrite,
  Store,
  tracks_of,
  level_at,
  has_level,
  has_loose,
  frame_at,
  patch_at,
  is_lost,
  is_loose,
  half_is,
  owed_at,
  with_frame,
  with_lost,
}
use Rattle.device_defs.specs.Writing.{write_counted}
use Rattle.device_laws.proofs.Bools.{not_true}
use Rattle.device_laws.proofs.HeldPlaces.{none_at}
use Rattle.device_laws.proofs.PoolWalks.{hear_asks, told_asks}
use Rattle.device_laws.proofs.walks.Within.{
  Policy,
  MayFail,
  read_fails,
  write_fails,
  Inner,
  Within,
  within_done,
  within_ask,
  within_read,
  within_tell,
  within_then,
  within_weaker,
  within_if,
  within_tried,
  asks_within,
}
use Rattle.device_laws.proofs.walks.Moves.{
  Kind,
  Losing,
  Empties,
  Stales,
  IsBare,
  IsPlain,
  half_emptied,
  Moves,
  Goes,
  reads,
  writes,
  falls_reading,
  falls_writing,
  falls,
  stales,
  marks,
  hardens,
  loses,
  drops,
  fills,
  unframes,
  unpatches,
  queues,
  dequeues,
  goes_back,
  loses_loose,
  closes,
  cuts,
  notes,
  pays,
}
use Rattle.device_laws.proofs.walks.Shells.{still_wants}

module _ {F P H : Type 0} where
  half_same : (z : Store F P H) (t : ℕ) (o : Option ℕ) → (gives_up z t o).half ≡ z.half
  half_same z t None = refl
  half_same z t (Some slot) = refl

module _ {K F P H R : Type 0} (w : Policy K) (kind : Kind) (c : Contents F P H R) (k : K) (s : Store F P H) where
  -- behind a call: where that failed, also with a side of a pair down
  abbrev pub After : K → Bool → Store F P H → Type 0
  After n true z = Moves w kind c k s n z
  After n false z = MayFail w × Moves w kind c k s n z × ((side : Side) → z.paired ≡ true → Moves w kind c k s n (down z side))

  -- from x behind a read: the frames are the same, or a call failed
  abbrev Gets : K → Store F P H → Interaction R Image (Store F P H) (Got R) → Type 0
  Gets n x i = Within w (Inner w) (λ m z (g : Got R). Moves w kind c k s m z × ((z.frames ≡ x.frames) ⊎ MayFail w)) n i

module _ {K F P H R : Type 0} (w : Policy K) (c : Contents F P H R) where
  plain_if : (t : ℕ) (b : Bool) (x y : Store F P H) → IsPlain w c x t → IsPlain w c y t → IsPlain w c (if b then x else y) t
  plain_if t true x y e f = e
  plain_if t false x y e f = f

  queued_plain : (last : Option ℕ) (z : Store F P H) (q t : ℕ) → IsPlain w c z t → IsPlain w c (queued last z q) t
  queued_plain None z q t e = e
  queued_plain (Some last) z q t e = plain_if t (nat_le q last) _ z (plain_if t (nat_lt (length z.queue) 64) _ z e e) e

  ahead_plain : (u : Usage) (z : Store F P H) (q t : ℕ) → IsPlain w c z t → IsPlain w c (ahead u z q) t
  ahead_plain u z q t e =
      plain_if t (is_sequential u.mode) _ z (queued_plain u.last (queued u.last z (q + 1)) (q + 2) t (queued_plain u.last z (q + 1) t e)) e

  pub plain_on : (z y : Store F P H) (t : ℕ) → IsPlain w c z t → (y.frames ≡ z.frames) ⊎ MayFail w → IsPlain w c y t
  plain_on z y t (inl plain) (inl same) = inl (ap (λ (l : List (Option F)). is_modified c (get_or l t None)) same ∙ plain)
  plain_on z y t (inr why) same = inr why
  plain_on z y t (inl plain) (inr why) = inr why

module _ {F P H R : Type 0} (c : Contents F P H R) where
  pub none_plain : (o : Option F) (b : Bool) → (is_some o || b) ≡ false → is_modified c o ≡ false
  none_plain None b e = refl
  none_plain (Some f) b e = absurd (cc)

  pub clean_plain : (o : Option F) → is_clean c o ≡ true → is_modified c o ≡ false
  clean_plain None e = refl
  clean_plain (Some f) e = not_true (c.modified f) e

module _ {K F P H R : Type 0} {w : Policy K} {kind : Kind} {c : Contents F P H R} {k : K} {s : Store F P H} where
  -- Changes that ask nothing

  pub moves_if : {n : K} (b : Bool) (x y : Store F P H) → (b ≡ true → Moves w kind c k s n x) → (b ≡ false → Moves w kind c k s n y) →
      Moves w kind c k s n (if b then x else y)
  moves_if true x y f g = f refl
  moves_if false x y f g = g refl

  pub over_moves : {n : K} (f : ℕ → Store F P H → Store F P H) → ((q : ℕ) (y : Store F P H) → Moves w kind c k s n y → Moves w kind c k s n (f q y)) →
      (j : ℕ) (z : Store F P H) →
      Moves w kind c k s n z → Moves w kind c k s n (over j f z)
  unfolding L.over
  over_moves f h zero z m = m
  over_moves f h (suc j) z m = h j (over j f z) (over_moves f h j z m)

  freed_moves : {n : K} (z : Store F P H) (t : ℕ) (o : Option ℕ) → Moves w kind c k s n z → Moves w kind c k s n (gives_up z t o)
  freed_moves z t None m = m
  freed_moves z t (Some slot) m = unpatches m t slot

  pub unpatched_moves : {n : K} (z : Store F P H) (t : ℕ) → Moves w kind c k s n z → Moves w kind c k s n (without_patch c z t)
  unpatched_moves z t m = freed_moves z t (slot_in c (patch_at z t)) m

  pub unframed_moves : {n : K} → Empties kind → (z : Store F P H) (t : ℕ) → Moves w kind c k s n z → Moves w kind c k s n (without_frame z t)
  unframed_moves may z t m = moves_if (is_some (frame_at z t)) _ z (λ _. unframes m t may) (λ _. m)

  frame_moves : {n : K} (z : Store F P H) (t : ℕ) (o : Option F) → frame_at z t ≡ o → IsBare z t → Moves w kind c k s n z →
      Moves w kind c k s n (by_frame c z t o)
  frame_moves z t (Some f) is bare m =
      moves_if (is_loose z t) _ _ (λ loose. hardens m t bare loose) (λ _. moves_if (c.modified f) z _ (λ _. m) (λ clean. marks m t f bare is clean))
  frame_moves z t None is bare m =
      moves_if (half_is z.half t) z _ (λ _. m) (λ other. unpatched_moves (with_lost z t) t (loses m t bare is other))

  pub settled_moves : {n : K} (z : Store F P H) (t : ℕ) → Moves w kind c k s n z → Moves w kind c k s n (settled c z t)
  unfolding L.settled
  settled_moves z t m =
      moves_if (is_some z.lent) z _ (λ _. m)
      (λ lent. moves_if (is_lost z t) z _ (λ _. m)
      (λ there. moves_if (has_level z t) z _ (λ _. m)
      (λ none. frame_moves z t (frame_at z t) refl (record { lent = lent; there = there; none = none }) m)))

  but_moves : {n : K} (writing : Option ℕ) (q : ℕ) (z : Store F P H) → Moves w kind c k s n z → Moves w kind c k s n (settled_but c writing q z)
  but_moves None q z m = settled_moves z q m
  but_moves (Some t) q z m = moves_if (q == t) z _ (λ _. m) (λ _. settled_moves z q m)

  pub side_moves : {n : K} (z : Store F P H) (side : Side) (writing : Option ℕ) → Moves w kind c k s n (down z side) →
      Moves w kind c k s n (side_lost c z side writing)
  unfolding L.side_lost
  side_moves z side writing m = over_moves (settled_but c writing) (but_moves writing) (tracks_of z) (down z side) m

  pub swept_moves : {n : K} → Empties kind → (t : ℕ) (z : Store F P H) → Moves w kind c k s n z → Moves w kind c k s n (settled c (without_frame z t) t)
  swept_moves may t z m = settled_moves (without_frame z t) t (unframed_moves may z t m)

  cache_moves : {n : K} (z : Store F P H) → kind ≡ Losing losses.Cache → Moves w kind c k s n z → Moves w kind c k s n (cache_lost c z)
  unfolding L.cache_lost
  cache_moves z lossy m =
      over_moves (λ t y. settled c (without_frame y t) t) (swept_moves (subst (λ (x : Kind). Empties x) (sym lossy) tt)) (tracks_of z)
      (record (loose_lost z) { queue = [] })
      (dequeues (moves_if (has_loose z) _ z (λ some. loses_loose m lossy some) (λ _. m)) [] (omega arith))

  patch_moves : {n : K} → Stales kind → (t : ℕ) (z : Store F P H) → Moves w kind c k s n z → Moves w kind c k s n (patch_lost c t z)
  patch_moves away t z m =
      let gone = unpatched_moves z t m in
      moves_if (is_some (patch_at z t)) _ z
      (λ _. moves_if (half_is z.half t) _ _ (λ _. gone)
      (λ other. settled_moves (stale_everywhere (without_patch c z t) t) t
      (stales gone t (ap (λ (h : Option (HalfWrite H)). half_is h t) (half_same z t (slot_in c (patch_at z t))) ∙ other) away)))
      (λ _. m)

  pub store_moves : {n : K} (z : Store F P H) → Stales kind → Moves w kind c k s n z → Moves w kind c k s n (store_lost c z)
  unfolding L.store_lost
  store_moves z away m = over_moves (patch_lost c) (patch_moves away) (tracks_of z) z m

  lost_moves : {n : K} (z : Store F P H) (loss : Loss) → kind ≡ Losing loss → Moves w kind c k s n z → Moves w kind c k s n (lost_by c z loss)
  lost_moves z losses.Cache lossy m = cache_moves z lossy m
  lost_moves z losses.Store lossy m = store_moves z (subst (λ (x : Kind). Stales x) (sym lossy) tt) m
  lost_moves z (losses.Side side) lossy m = side_moves z side None (falls m side lossy)

  half_lost_moves : {n : K} → Empties kind → (z : Store F P H) (o : Option (HalfWrite H)) → Moves w kind c k s n z → Moves w kind c k s n (half_lost c z o)
  half_lost_moves may z None m = m
  half_lost_moves {n = n} may z (Some h) m = by_origin h.origin
    where
      by_origin : (origin : Origin) → Moves w kind c k s n (half_ended c z h origin)
      by_origin (OfCommand bypass e) = unpatched_moves (record z { half = None }) h.track (closes m (half_emptied may))
      by_origin (OfCut bypass) = unpatched_moves (record z { half = None }) h.track (closes m (half_emptied may))
      by_origin OfBackground = closes m (half_emptied may)

  pub powerless_moves : {n : K} → Empties kind → (z : Store F P H) → Moves w kind c k s n z → Moves w kind c k s n (powerless c z)
  powerless_moves may z m =
      over_moves (λ t y. settled c (without_frame y t) t) (swept_moves may) (tracks_of z) (record (half_lost c (loose_gone c z) z.half) { queue = [] })
      (dequeues (half_lost_moves may (loose_gone c z) z.half (moves_if (has_loose z) _ z (λ some. goes_back m may some) (λ _. m))) [] (omega arith))

  -- Notices, and what is told

  -- the queue stays
  pub heard_goes : {n : K} (j : ℕ) (z : Store F P H) → Moves w kind c k s n z →
      Within w (Inner w) (λ m y _. Moves w kind c k s m y × (y.queue ≡ z.queue)) n (hear c j z)
  heard_goes j z m =
      asks_within (hear_asks c (λ y. Moves w kind c k s _ y × (y.queue ≡ z.queue)) (λ y t clean x. (drops x.0 t clean, x.1)) j z (m, refl))

  pub hear_goes : {n : K} (j : ℕ) (z : Store F P H) → Moves w kind c k s n z → Goes w kind c k s n (hear c j z)
  hear_goes j z m = within_weaker (heard_goes j z m) (λ n y a x. x.0)

  pub all_told_goes : {n : K} (j : ℕ) (z : Store F P H) → Moves w kind c k s n z → Goes w kind c k s n (all_told c j z)
  all_told_goes j z m = asks_within (told_asks c (λ y. Moves w kind c k s _ y) (λ y t x. pays x t _) j z m)

  pub firm_told_goes : {n : K} (j : ℕ) (z : Store F P H) → Moves w kind c k s n z → Goes w kind c k s n (all_firm_told c j z)
  unfolding L.all_firm_told
  firm_told_goes zero z m = within_done m
  firm_told_goes (suc j) z m =
      within_then (λ y _. firm_told c j y) (firm_told_goes j z m)
      (λ n y _ g. within_if (owed_at y j).firm (λ _. within_tell (λ r _. within_done (pays g j _))) (λ _. within_done g))

  pub losing_goes : {n : K} (z : Store F P H) (loss : Loss) → kind ≡ Losing loss → Moves w kind c k s n z → Goes w kind c k s n (losing c z loss)
  losing_goes z loss lossy m =
      let y = lost_by c (with_loss z loss) loss in firm_told_goes (tracks_of z) y (lost_moves (with_loss z loss) loss lossy (notes m loss lossy))

  cut_goes : {n : K} (z : Store F P H) (o : Option (HalfWrite H)) → z.half ≡ o → Moves w kind c k s n z → Goes w kind c k s n (half_cut c z o)
  cut_goes z None is m = within_done m
  cut_goes {n = n} z (Some h) is m = by_origin h.origin
    where
      by_origin : (origin : Origin) → Goes w kind c k s n (origin_cut c z h origin)
      by_origin (OfCommand bypass e) = within_tell (λ r _. within_done (cuts m h bypass e is))
      by_origin (OfCut bypass) = within_done m
      by_origin OfBackground = within_done m

  pub half_cut_goes : {n : K} (z : Store F P H) → Moves w kind c k s n z → Goes w kind c k s n (half_cut c z z.half)
  half_cut_goes z m = cut_goes z z.half refl m

  -- Failed calls

  pub read_after : {m n : K} (z : Store F P H) (ok : Bool) → w.read m ok ≡ Some n → Moves w kind c k s m z → After w kind c k s n ok (read_counted z ok)
  read_after z true is x = reads x true is
  read_after {m = m} {n = n} z false is x = (read_fails m n is, reads x false is, λ side pair. falls_reading x side pair is)

  pub write_after : {m n : K} (z : Store F P H) (ok : Bool) → w.wrote m ok ≡ Some n → Moves w kind c k s m z → After w kind c k s n ok (write_counted z ok)
  write_after z true is x = writes x true is
  write_after {m = m} {n = n} z false is x = (write_fails m n is, writes x false is, λ side pair. falls_writing x side pair is)

  pub failed_goes : {n : K} (z : Store F P H) (side : Side) (writing : Option ℕ) → After w kind c k s n false z →
      Goes w kind c k s n (call_failed c z side writing)
  failed_goes z side writing f =
      within_if z.paired (λ pair. firm_told_goes (tracks_of z) (side_lost c z side writing) (side_moves z side writing (f.2 side pair)))
      (λ _. within_done f.1)

  -- The image of a track

  second_read_goes : {n : K} (fault : Option Side) (z : Store F P H) (got : Option R) → After w kind c k s n (is_some got) z →
      Gets w kind c k s n z (second_read c fault z got)
  second_read_goes fault z (Some r) f = within_done (f, inl refl)
  second_read_goes fault z None f = within_then (λ y _. Done y _) (failed_goes z sides.B None f) (λ n y _ g. within_done (g, inr f.0))

  read_b_goes : {n : K} (z : Store F P H) (t : ℕ) (fault : Option Side) → Moves w kind c k s n z → Gets w kind c k s n z (read_b c z t fault)
  read_b_goes z t fault m =
      within_if (level_at z.b t)
      (λ _. within_read (λ got n is. second_read_goes fault (read_counted z (is_some got)) got (read_after z (is_some got) is m)))
      (λ _. within_done (m, inl refl))

  first_read_goes : {n : K} (t : ℕ) (z : Store F P H) (got : Option R) → After w kind c k s n (is_some got) z →
      Gets w kind c k s n z (first_read c t z got)
  first_read_goes t z (Some r) f = within_done (f, inl refl)
  first_read_goes t z None f =
      within_then (λ y _. read_b c y t (Some sides.A)) (failed_goes z sides.A None f)
      (λ n y _ g. within_weaker (read_b_goes y t (Some sides.A) g) (λ n v _ h. (h.0, inr f.0)))

  pub level_goes : {n : K} (z : Store F P H) (t : ℕ) → Moves w kind c k s n z → Gets w kind c k s n z (level_bytes c z t)
  unfolding I.level_bytes
  level_goes z t m =
      within_if (level_at z.a t)
      (λ _. within_read (λ got n is. first_read_goes t (read_counted z (is_some got)) got (read_after z (is_some got) is m)))
      (λ _. read_b_goes z t None m)

  pub filled_goes : {n : K} (z : Store F P H) (t : ℕ) (i : Image) → IsPlain w c z t → Moves w kind c k s n z → Goes w kind c k s n (filled c z t i)
  filled_goes z t i plain m =
      within_if (is_some (patch_at z t)) (λ is. within_ask tt (λ _. within_done (fills m t i true is plain))) (λ is. within_done (fills m t i false is plain))

  queued_moves : {n : K} (last : Option ℕ) (z : Store F P H) (t : ℕ) → Moves w kind c k s n z → Moves w kind c k s n (queued last z t)
  queued_moves None z t m = m
  queued_moves (Some last) z t m =
      moves_if (nat_le t last) _ z (λ _. moves_if (nat_lt (length z.queue) 64) _ z (λ room. queues m t room) (λ _. m)) (λ _. m)

  ahead_moves : {n : K} (u : Usage) (z : Store F P H) (t : ℕ) → Moves w kind c k s n z → Moves w kind c k s n (ahead u z t)
  ahead_moves u z t m =
      moves_if (is_sequential u.mode) _ z (λ _. queued_moves u.last (queued u.last z (t + 1)) (t + 2) (queued_moves u.last z (t + 1) m)) (λ _. m)

  granted_goes : {n : K} (z : Store F P H) (t : ℕ) (i : Image) (given : Bool) → IsPlain w c z t → Moves w kind c k s n z →
      Goes w kind c k s n (granted c z t i given)
  granted_goes z t i given plain m =
      within_if given (λ _. within_then (λ y _. Done y (Some (Has i))) (filled_goes z t i plain m) (λ n y _ g. within_done g)) (λ _. within_done m)

  loaded_goes : {n : K} (z : Store F P H) (t : ℕ) (i : Image) (mode : Mode) → w.wants s.device t → IsPlain w c z t → Moves w kind c k s n z →
      Goes w kind c k s n (loaded c z t i mode)
  loaded_goes z t i mode on plain m =
      within_if (loads mode) (λ _. within_tried z _ m (within_ask (still_wants t on m) (λ given. granted_goes z t i given plain m))) (λ _. within_done m)

  delivered_goes : {n : K} (u : Usage) (t : ℕ) (side : Side) (z : Store F P H) (o : Option Image) → w.wants s.device t → IsPlain w c z t →
      Moves w kind c k s n z → Goes w kind c k s n (delivered c u t side z o)
  delivered_goes u t side z None on plain m = within_done m
  delivered_goes u t side z (Some i) on plain m = loaded_goes (ahead u z t) t i u.mode on (ahead_plain w c u z t t plain) (ahead_moves u z t m)

  pub missed_goes : {n : K} (u : Usage) (t : ℕ) (z : Store F P H) (g : Got R) (o : Option R) → w.wants s.device t → IsPlain w c z t →
      Moves w kind c k s n z → Goes w kind c k s n (missed c u t z g o)
  missed_goes u t z g None on plain m = within_done m
  missed_goes u t z g (Some r) on plain m = within_tried z _ m (delivered_goes u t g.side z (image_of c z t r) on plain m)

  miss_goes : {n : K} (z : Store F P H) (u : Usage) (t : ℕ) → w.wants s.device t → IsPlain w c z t → Moves w kind c k s n z →
      Goes w kind c k s n (miss c z u t)
  miss_goes z u t on plain m =
      within_then (λ y g. missed c u t y g g.bytes) (level_goes z t m) (λ n y g x. missed_goes u t y g g.bytes on (plain_on w c z y t plain x.1) x.0)

  clean_goes : {n : K} (z : Store F P H) (u : Usage) (t : ℕ) (f : F) → w.wants s.device t → is_clean c (frame_at z t) ≡ true →
      Moves w kind c k s n z → Goes w kind c k s n (clean_image c z u t f)
  clean_goes z u t f on clean m =
      within_if (is_bypass u.mode) (λ _. miss_goes z u t on (inl (clean_plain c (frame_at z t) clean)) m)
      (λ _. within_ask tt (λ listed. within_if listed (λ _. within_done m) (λ _. miss_goes (with_frame z t None) u t on
      (inl (ap (λ (o : Option F). is_modified c o) (none_at z.frames t))) (drops m t clean))))

  by_frame_goes : {n : K} (z : Store F P H) (u : Usage) (t : ℕ) (o : Option F) → frame_at z t ≡ o → w.wants s.device t →
      Moves w kind c k s n z → Goes w kind c k s n (image_by c z u t o)
  by_frame_goes z u t None is on m = miss_goes z u t on (inl (ap (λ (o : Option F). is_modified c o) is)) m
  by_frame_goes z u t (Some f) is on m =
      within_if (c.modified f) (λ _. within_done m) (λ plain. clean_goes z u t f on (ap (is_clean c) is ∙ ap not plain) m)

  pub image_goes : {n : K} (z : Store F P H) (u : Usage) (t : ℕ) → w.wants s.device t → Moves w kind c k s n z → Goes w kind c k s n (image c z u t)
  unfolding I.image
  image_goes z u t on m = by_frame_goes z u t (frame_at z t) refl on m

  -- A look past the channel

  found_goes : {n : K} (z : Store F P H) (o : Option Imaged) → Moves w kind c k s n z →
      Goes w kind c k s n (had_by (λ y i. Done y (Some (peeked i))) z o)
  found_goes z None m = within_done m
  found_goes z (Some i) m = within_done m

  peeked_goes : {n : K} (z : Store F P H) (t : ℕ) → w.wants s.device t → Moves w kind c k s n z → Goes w kind c k s n (peek_image c z t)
  peeked_goes z t on m = within_then (had_by (λ y i. Done y (Some (peeked i)))) (image_goes z peek_usage t on m) (λ n y o g. found_goes y o g)

  in_half_goes : {n : K} (z : Store F P H) (t : ℕ) (o : Option (HalfWrite H)) → w.wants s.device t → Moves w kind c k s n z → Goes w kind c k s n (peek_half c z t o)
  in_half_goes z t (Some h) on m = within_if (is_in_half c z t h) (λ _. within_tried z _ m (within_done m)) (λ _. peeked_goes z t on m)
  in_half_goes z t None on m = peeked_goes z t on m

  pub track_goes : {n : K} (z : Store F P H) (t : ℕ) → w.wants s.device t → Moves w kind c k s n z → Goes w kind c k s n (peek_track c z t)
  track_goes z t on m = within_if (is_lost z t) (λ _. within_done m) (λ _. in_half_goes z t z.half on m)
