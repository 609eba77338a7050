-- The writes of a track to the sides that take it, by what came of them; and those of a command's write.
use Rattle.std.proofs.Common.{◌≡◌, ◌≤◌, ℕ, Bool, true, false, Option, Some, None, is_some, refl, sym, ◌∙◌, arith, ap}
use Rattle.std.specs.Prelude.{if◌then◌else◌, ◌&&◌, not}
use Rattle.ckd_types.specs.declared.paths.Side.{Side}
use Rattle.ckd_types.specs.declared.paths.Side.TheVariants.{A, B}
use Rattle.track_image.specs.Image.{Image}
use Rattle.device_outside.specs.declared.port.SlotGrant.{SlotGrant}
use Rattle.device_outside.specs.declared.port.SlotGrant.TheVariants as grants
use Rattle.device_outside.specs.Interaction.{Done, Tell, and_then}
use Rattle.device_outside.specs.Keeper.{Firm}
use Rattle.device_defs.specs.declared.answers.Choice.{Choice}
use Rattle.device_defs.specs.declared.answers.Did.{Did}
use Rattle.device_defs.specs.declared.answers.Did.TheVariants.{Nothing, Half, Fault}
use Rattle.device_defs.specs.declared.answers.Took.{Took}
use Rattle.device_defs.specs.declared.answers.Took.TheVariants.{Whole, Opened, Unwritten}
use Rattle.device_defs.specs.declared.usage.Usage.{Usage}
use Rattle.device_defs.specs.Background.{saved_by, saving, saved}
use Rattle.device_defs.specs.Choosing as G
use Rattle.device_defs.specs.Choosing.{choose, fast_or_through, fast_by, slot_by, may_be_fast}
use Rattle.device_defs.specs.Contents.{Contents}
use Rattle.device_defs.specs.Effects.{hardened}
use Rattle.device_defs.specs.Losses.{stale_everywhere, settled, framed_image}
use Rattle.device_defs.specs.Owed.{is_clean}
use Rattle.device_defs.specs.Store.{Origin, OfBackground, Store, takes_b, frame_at, patch_at, is_loose}
use Rattle.device_defs.specs.Transfers.{both, one_or_both, Makes, FirstPart}
use Rattle.device_defs.specs.Writing as V
use Rattle.device_defs.specs.Writing.{
  Wrote,
  wrote,
  write_side,
  write_counted,
  alone_b,
  failed_a,
  first_a,
  taken_a,
  write_first,
  tried_b,
  firm_first,
  write_done,
  write_opened,
  unwritten,
}
use Rattle.device_laws.proofs.Always.{Always, always_done, always_tell}
use Rattle.device_laws.proofs.QuietParts.{Quiet, quiet_done, quiet_ask, quiet_tell, quiet_if, failed_quiet, done_quiet}
use Rattle.device_laws.specs.Moved.{sides_up, sides_writing}
use Rattle.device_laws.proofs.counted.Counting.{
  Counts,
  counts_done,
  counts_try,
  counts_ask,
  counts_write,
  counts_then,
  counts_first,
  counts_past,
  counts_if,
  moves_of,
  counts_weaker,
}

two_up : (x y held : Bool) → x ≡ true → (y && not held) ≡ true → 2 ≤ both x y
two_up true true held e f = omega arith
two_up true false held e f = absurd (cc)
two_up false y held e f = absurd (cc)

-- A track that is saved, where n sides take what is written, and this was done if all of it was
pub data SavedBy (n : ℕ) (d : Did) : Option Side → ℕ → Option Did → Type 0 where
  no_room : {fault : Option Side} → SavedBy n d fault 0 None
  was_fault : {side : Side} {w : ℕ} → SavedBy n d (Some side) w (Some (Fault side))
  now_fault : {side : Side} {w : ℕ} → 1 ≤ w → SavedBy n d None w (Some (Fault side))
  saved_whole : SavedBy n d None 1 (Some d)
  saved_half : {t : ℕ} → SavedBy n d None 1 (Some (Half t))
  saved_none : n ≡ 0 → SavedBy n d None 0 (Some Nothing)

pub record Saved (n : ℕ) (d : Did) (fault : Option Side) (r w : ℕ) (o : Option Did) : Type 0 where
  pub reads : r ≡ 0
  pub most : w ≤ n
  pub by : SavedBy n d fault w o

-- it reads nothing, and writes at most once to each side that is up
pub record Written (up r w : ℕ) : Type 0 where
  pub reads : r ≡ 0
  pub writes : w ≤ up

module _ {F P H : Type 0} where
  -- what came of a first part
  pub data WroteSo (s : Store F P H) : ℕ → ℕ → Store F P H → Wrote → Type 0 where
    wrote_whole : {z : Store F P H} → WroteSo s 0 1 z (wrote Whole None)
    wrote_opened : {z : Store F P H} → 2 ≤ sides_up s → WroteSo s 0 1 z (wrote Opened None)
    wrote_none : {z : Store F P H} → sides_writing s ≡ 0 → WroteSo s 0 0 z (wrote Unwritten None)
    wrote_late : {w : ℕ} {z : Store F P H} {side : Side} → 1 ≤ w → WroteSo s 0 w z (wrote Whole (Some side))
    wrote_lost : {w : ℕ} {z : Store F P H} {side : Side} → 1 ≤ w → WroteSo s 0 w z (wrote Unwritten (Some side))

  -- each of the n sides that take it was tried; but for side B where it was opened
  abbrev pub FirstBy : ℕ → ℕ → Store F P H → Took → Type 0
  FirstBy n w z Whole = w ≡ n
  FirstBy n w z Opened = (w ≡ 1) × (2 ≡ n) × (takes_b z ≡ true)
  FirstBy n w z Unwritten = w ≡ n

  pub record FirstWrites (s : Store F P H) (r w : ℕ) (z : Store F P H) (x : Wrote) : Type 0 where
    pub reads : r ≡ 0
    pub by : FirstBy (sides_writing s) w z x.took
    pub so : WroteSo s r w z x

  first_most : (n w : ℕ) (z : Store F P H) (took : Took) → FirstBy n w z took → w ≤ n
  first_most n w z Whole h = omega (arith, h)
  first_most n w z Opened h = let a = h.0 in let b = h.1 in omega (arith, a, b)
  first_most n w z Unwritten h = omega (arith, h)

  takes_if : (x b : Bool) (s z : Store F P H) → takes_b s ≡ x → takes_b z ≡ x → takes_b (if b then s else z) ≡ x
  takes_if x true s z e f = e
  takes_if x false s z e f = f

  -- the same sides take what is written
  pub record Writes (n up : ℕ) (z : Store F P H) : Type 0 where
    pub is : sides_writing z ≡ n
    pub sides : sides_up z ≡ up

  writes_if : (n up : ℕ) (b : Bool) {s z : Store F P H} → Writes n up s → Writes n up z → Writes n up (if b then s else z)
  writes_if n up true f g = f
  writes_if n up false f g = g

module _ {F P H R : Type 0} (c : Contents F P H R) where
  module _ (s : Store F P H) (t : ℕ) (r : R) where
    abbrev First : ℕ → ℕ → Store F P H → Wrote → Type 0
    First m w z x = FirstWrites s m w z x

    of_sides : (a b : Bool) → s.a.up ≡ a → takes_b s ≡ b → both a b ≡ sides_writing s
    of_sides a b e f = ap (λ (k : Bool). both k b) (sym e) ∙ ap (both s.a.up) (sym f)

    -- the last side is tried, behind a failed call or alone
    last_at : (w : ℕ) → w ≡ sides_writing s → 1 ≤ w → (fault : Option Side) (first : Side) →
        ((z : Store F P H) → WroteSo s 0 w z (wrote Whole fault)) → (ok : Bool) (z : Store F P H) → Counts First 0 w (alone_b c t fault first z ok)
    last_at w e le fault first so true z = counts_done (record { reads = refl; by = e; so = so _ })
    last_at w e le fault first so false z =
        counts_past (λ y _. Done (unwritten c y t) (wrote Unwritten (Some first))) (failed_quiet c z B (Some t))
        (λ y _. counts_done (record { reads = refl; by = e; so = wrote_lost le }))

    failed_at : s.a.up ≡ true → (b : Bool) → takes_b s ≡ b → (z : Store F P H) → Counts First 0 1 (failed_a c t r b z)
    failed_at up true takes z =
        counts_write (λ ok. last_at 2 (of_sides true true up takes) (omega arith) (Some A) A (λ y. wrote_late (omega arith)) ok (write_counted z ok))
    failed_at up false takes z = counts_done (record { reads = refl; by = of_sides true false up takes; so = wrote_lost (omega arith) })

    taken_at : s.a.up ≡ true → (b : Bool) → takes_b s ≡ b → Counts {R = R} {I = Image} First 0 1
        (Done (taken_a (write_counted s true) t) (wrote (if b then Opened else Whole) None))
    taken_at up true takes = counts_done (record {
      reads = refl;
      by = (refl, of_sides true true up takes, takes_if (takes_b s) s.b.up _ _ refl refl ∙ takes);
      so = wrote_opened (two_up s.a.up s.b.up s.held up takes);
    })
    taken_at up false takes = counts_done (record { reads = refl; by = of_sides true false up takes; so = wrote_whole })

    first_tried : s.a.up ≡ true → (ok : Bool) → Counts First 0 1 (first_a c t r (write_counted s ok) ok)
    first_tried up true = taken_at up (takes_b s) refl
    first_tried up false =
        counts_past (λ z _. failed_a c t r (takes_b s) z) (failed_quiet c (write_counted s false) A (Some t)) (λ z _. failed_at up (takes_b s) refl z)

    by_sides : (a b : Bool) → s.a.up ≡ a → takes_b s ≡ b → Counts First 0 0
        (if a then write_side c s A t r (first_a c t r)
        else if b then write_side c s B t r (alone_b c t None B) else Done (settled c s t) (wrote Unwritten None))
    by_sides true b e f = counts_write (λ ok. first_tried e ok)
    by_sides false true e f =
        counts_write (λ ok. last_at 1 (of_sides false true e f) (omega arith) None B (λ y. wrote_whole) ok (write_counted s ok))
    by_sides false false e f =
        counts_done (record { reads = refl; by = of_sides false false e f; so = wrote_none (sym (of_sides false false e f)) })

    pub first_writes : Counts First 0 0 (write_first c s t r)
    unfolding V.write_first
    first_writes = by_sides s.a.up (takes_b s) refl refl

  least_both : (a b : Bool) → (one_or_both a b).least ≤ both a b
  least_both true b = both_one b
    where
      both_one : (b : Bool) → 1 ≤ both true b
      both_one true = omega arith
      both_one false = omega arith
  least_both false true = omega arith
  least_both false false = omega arith

  least_one : (a b : Bool) → (one_or_both a b).least ≤ 1
  least_one true b = omega arith
  least_one false true = omega arith
  least_one false false = omega arith

  first_least : (s z : Store F P H) (w : ℕ) (took : Took) → FirstBy (sides_writing s) w z took → (one_or_both s.a.up (takes_b s)).least ≤ w
  first_least s z w Whole h = let least = least_both s.a.up (takes_b s) in omega (arith, h, least)
  first_least s z w Opened h = let least = least_one s.a.up (takes_b s) in let one = h.0 in omega (arith, one, least)
  first_least s z w Unwritten h = let least = least_both s.a.up (takes_b s) in omega (arith, h, least)

  pub first_moves : (s : Store F P H) (t : ℕ) (r : R) → Makes s FirstPart (write_first c s t r)
  first_moves s t r = record {
    moves = moves_of (counts_weaker (first_writes s t r) (λ m w z x h. rw h.reads (record {
      least_reads = omega arith;
      most_reads = omega arith;
      least_writes = first_least s z w x.took h.by;
      most_writes = first_most (sides_writing s) w z x.took h.by;
    })));
  }

  -- before it a loose track becomes firm

  stale_writes : (s : Store F P H) (t : ℕ) → Writes (sides_writing s) (sides_up s) (stale_everywhere s t)
  stale_writes s t = writes_if (sides_writing s) (sides_up s) s.paired (record { is = refl; sides = refl }) (record { is = refl; sides = refl })

  firm_by : (s : Store F P H) (t : ℕ) (b : Bool) → Always {R = R} {I = Image} (if b then Tell (Firm s.device t (framed_image c s t (frame_at s t)))
      (λ _. Done (stale_everywhere (hardened s t) t) true) else Done s false) (λ z _. Writes (sides_writing s) (sides_up s) z)
  firm_by s t true = always_tell (λ _. always_done (let e = stale_writes (hardened s t) t in record { is = e.is; sides = e.sides }))
  firm_by s t false = always_done (record { is = refl; sides = refl })

  pub firm_writes : (s : Store F P H) (t : ℕ) → Always (firm_first c s t) (λ z _. Writes (sides_writing s) (sides_up s) z)
  firm_writes s t = firm_by s t (is_loose s t)

  pub firm_quiet : (s : Store F P H) (t : ℕ) → Quiet (firm_first c s t)
  firm_quiet s t = quiet_if (is_loose s t) (quiet_tell (λ _. quiet_done)) quiet_done

  pub opened_quiet : (s : Store F P H) (t : ℕ) (i : Image) (origin : Origin) (was_loose : Bool) → Quiet (write_opened c s t i origin was_loose)
  opened_quiet s t i origin true = quiet_ask (λ _. quiet_done)
  opened_quiet s t i origin false = quiet_done

  -- A track that is saved

  module _ (n t : ℕ) (i : Image) (d : Did) where
    abbrev Ends : Option Side → ℕ → ℕ → Store F P H → Did → Type 0
    Ends fault r w z x = Saved n d fault r w (Some x)

    whole_past : (fault : Option Side) (w : ℕ) (z : Store F P H) (x : Did) → Saved n d fault 0 w (Some x) →
        Counts (Ends fault) 0 w (and_then (write_done c z t i false) (λ y _. Done y x))
    whole_past fault w z x h = counts_past (λ y _. Done y x) (done_quiet c z t i false) (λ y _. counts_done h)

    half_past : (fault : Option Side) (w : ℕ) (was_loose : Bool) (z : Store F P H) (x : Did) → Saved n d fault 0 w (Some x) →
        Counts (Ends fault) 0 w (and_then (write_opened c z t i OfBackground was_loose) (λ y _. Done y x))
    half_past fault w was_loose z x h = counts_past (λ y _. Done y x) (opened_quiet z t i OfBackground was_loose) (λ y _. counts_done h)

    part_so : (fault : Option Side) (was_loose : Bool) (s : Store F P H) → sides_writing s ≡ n → {m w : ℕ} {z : Store F P H} {x : Wrote} → w ≤ n →
        WroteSo s m w z x → Counts (Ends fault) m w (saved_by c t i d fault was_loose x.fault z x.took)
    part_so (Some side) was_loose s same {w = w} {z = z} le wrote_whole =
        whole_past (Some side) 1 z (Fault side) (record { reads = refl; most = le; by = was_fault })
    part_so (Some side) was_loose s same {z = z} le (wrote_opened two) =
        half_past (Some side) 1 was_loose z (Fault side) (record { reads = refl; most = le; by = was_fault })
    part_so (Some side) was_loose s same le (wrote_none none) = counts_done (record { reads = refl; most = le; by = was_fault })
    part_so (Some side) was_loose s same {w = w} {z = z} le (wrote_late one) =
        whole_past (Some side) w z (Fault side) (record { reads = refl; most = le; by = was_fault })
    part_so (Some side) was_loose s same le (wrote_lost one) = counts_done (record { reads = refl; most = le; by = was_fault })
    part_so None was_loose s same {z = z} le wrote_whole = whole_past None 1 z d (record { reads = refl; most = le; by = saved_whole })
    part_so None was_loose s same {z = z} le (wrote_opened two) =
        half_past None 1 was_loose z (Half t) (record { reads = refl; most = le; by = saved_half })
    part_so None was_loose s same le (wrote_none none) = counts_done (record { reads = refl; most = le; by = saved_none (sym same ∙ none) })
    part_so None was_loose s same {w = w} {z = z} le (wrote_late {side = side} one) =
        whole_past None w z (Fault side) (record { reads = refl; most = le; by = now_fault one })
    part_so None was_loose s same le (wrote_lost one) = counts_done (record { reads = refl; most = le; by = now_fault one })

    saving_so : (s : Store F P H) → sides_writing s ≡ n → (fault : Option Side) → Counts (Ends fault) 0 0 (saving c s t i d fault)
    saving_so s same fault =
        counts_first _ (firm_quiet s t)
        (firm_writes s t).holds
        (λ z was_loose e.
        counts_then _ (first_writes z t (c.bytes i))
        (λ m w y x h. part_so fault was_loose z (e.is ∙ same) (let le = first_most (sides_writing z) w y x.took h.by in let k = e.is in omega (arith, le, k, same)) h.so))

    pub saved_counts : (s : Store F P H) → sides_writing s ≡ n → (fault : Option Side) →
        Counts (λ r w z o. Saved n d fault r w o) 0 0 (saved c s t i d fault)
    saved_counts s same fault = counts_try (λ ok. counts_if ok
        (λ _. counts_then (λ z e. Done z (Some e)) (saving_so s same fault) (λ r w z e h. counts_done h))
        (λ _. counts_done (record { reads = refl; most = omega arith; by = no_room })))

  -- A command's write

  pub record Chosen (s : Store F P H) (r w : ℕ) (z : Store F P H) : Type 0 where
    pub reads : r ≡ 0
    pub writes : w ≡ 0
    pub same : z ≡ s

  module _ (s : Store F P H) (u : Usage) (t : ℕ) where
    abbrev By : ℕ → ℕ → Store F P H → Choice → Type 0
    By r w z x = Chosen s r w z

    chosen : (x : Choice) → Counts {R = R} {I = Image} By 0 0 (Done s x)
    chosen x = counts_done (record { reads = refl; writes = refl; same = refl })

    slot_so : (grant : SlotGrant) → Counts By 0 0 (slot_by c s t grant)
    slot_so (grants.Given slot) = counts_ask (λ listed. counts_if listed (λ _. chosen _) (λ _. counts_ask (λ _. chosen _)))
    slot_so grants.Denied = chosen _
    slot_so grants.Down = chosen _

    fast_so : (patched : Bool) → Counts By 0 0 (fast_by c s t patched)
    fast_so true = counts_ask (λ listed. chosen _)
    fast_so false = counts_ask (λ grant. slot_so grant)

    through_so : Counts By 0 0 (fast_or_through c s u t)
    through_so = counts_if (may_be_fast c s u t) (λ _. fast_so (is_some (patch_at s t))) (λ _. chosen _)

    pub choice_so : Counts By 0 0 (choose c s u t)
    unfolding G.choose
    choice_so =
        counts_if (is_loose s t) (λ _. counts_if u.provisional (λ _. counts_ask (λ listed. chosen _)) (λ _. chosen _))
        (λ _. counts_if (u.provisional && is_clean c (frame_at s t))
        (λ _. counts_ask (λ listed. counts_if listed (λ _. chosen _) (λ _. through_so))) (λ _. through_so))

  pub tried_quiet : (t : ℕ) (s : Store F P H) (ok : Bool) → Quiet (tried_b c t s ok)
  tried_quiet t s true = quiet_done
  tried_quiet t s false = failed_quiet c s B (Some t)
