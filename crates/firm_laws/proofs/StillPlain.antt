-- Behind a look, and behind the orders for which a volume is handed in, devices beside the plain device of their history are still so.
use Rattle.std.proofs.Common.{◌≡◌, ℕ, Bool, true, Option, Some, None, refl, sym, ap, subst, ◌∙◌}
use Rattle.std.specs.Prelude.{IfSome}
use Rattle.ckd_types.specs.declared.paths.Side.{Side}
use Rattle.ckd_types.specs.Parameters.{is_bypass}
use Rattle.plain_defs.specs.PlainState.{PlainState}
use Rattle.plain_defs.specs.History.{plain_of}
use Rattle.track_image.specs.Image.{Image}
use Rattle.device_outside.specs.Interaction.{Done}
use Rattle.device_outside.specs.Told.{Calls}
use Rattle.device_defs.specs.declared.usage.Usage.{Usage}
use Rattle.device_defs.specs.Contents.{by_plain}
use Rattle.device_defs.specs.Image as I
use Rattle.device_defs.specs.Image.{Imaged, image, image_by, miss, ahead}
use Rattle.device_defs.specs.Marks.{MarksDevice, MarksStore}
use Rattle.device_defs.specs.Memory.{had_by}
use Rattle.device_defs.specs.Owed.{noted_begin, waiting_count}
use Rattle.device_defs.specs.Peek as P
use Rattle.device_defs.specs.Peek.{Peeked, peek_usage, peeked, peek_image, is_in_half, peek_half, peek_track, peek}
use Rattle.device_defs.specs.Store.{HalfWrite, frame_at, is_lost, with_frame}
use Rattle.device_laws.proofs.Had.{Had, had_done, had_try, had_ask, had_if, had_then, held}
use Rattle.device_laws.proofs.PlainCommand.{follows_store}
use Rattle.device_laws.proofs.PlainLosses.{Walked, walked_hardened, walked_follow, walks_first}
use Rattle.device_laws.proofs.PlainStores.{Core, core_of, loose_at, hardened_core}
use Rattle.device_laws.proofs.PlainTurns.{Follows}
use Rattle.device_laws.proofs.PlainWalks.{framed_same, bytes_hold, ended_same}
use Rattle.device_laws.proofs.PoolWalks.{asks_had, missed_asks}
use Rattle.device_laws.proofs.WholeImage.{ahead_only}
use Rattle.subsystem_defs.specs.Decks.{Firsts}
use Rattle.subsystem_defs.specs.Happening as H
use Rattle.subsystem_defs.specs.Happening.{told_to, held_with, mounted_behind, replaced, unpaired}
use Rattle.subsystem_defs.specs.Looks as L
use Rattle.subsystem_defs.specs.Looks.{looked_at, looked}
use Rattle.subsystem_defs.specs.Subsystem.{Mounted, Subsystem, mounted_in}
use Rattle.subsystem_laws.specs.Served.{IsServedEvent}
use Rattle.subsystem_laws.proofs.PlainRuns.{PlainlyFrom, PlainlyOn, ArePlainOn, follows_on, plain_kept_from}
use Rattle.subsystem_laws.proofs.Walks.{mounted_so, put_so, replaced_so, unpaired_so}

-- Whatever a loose track that becomes firm leaves, a look leaves

module _ (Q : Core → Type 0) (hard : (c : Core) (t : ℕ) → Q c → loose_at c t ≡ true → Q (hardened_core c t)) (q : ℕ) where
  abbrev Holds : MarksStore → Type 0
  Holds s = Q (core_of s)

  framed_holds : (z : MarksStore) (t : ℕ) (f : Option Bool) → Holds z → Holds (with_frame z t f)
  framed_holds z t f w = subst Q (sym (framed_same z t f)) w

  ahead_holds : (u : Usage) (z : MarksStore) (t : ℕ) → Holds z → Holds (ahead u z t)
  ahead_holds u z t w = subst Q (sym (ap core_of (ahead_only u z t))) w

  miss_holds : (s : MarksStore) (u : Usage) → Holds s → Had (miss by_plain s u q) (λ z (_ : Option Imaged). Holds z)
  miss_holds s u w =
      had_then (bytes_hold Q hard s q w)
      (λ z g x. asks_had (missed_asks by_plain Holds (λ y t i patched is k. framed_holds y t (Some patched) k) (λ v y t k. ahead_holds v y t k) u q z g
      g.bytes x))

  frame_holds : (s : MarksStore) (u : Usage) (f : Option Bool) → Holds s → Had (image_by by_plain s u q f) (λ z (_ : Option Imaged). Holds z)
  frame_holds s u None w = miss_holds s u w
  frame_holds s u (Some f) w =
      had_if f (λ _. had_done w)
      (λ _. had_if (is_bypass u.mode) (λ _. miss_holds s u w)
      (λ _. had_ask (λ listed. had_if listed (λ _. had_done w) (λ _. miss_holds (with_frame s q None) u (framed_holds s q None w)))))

  image_holds : (s : MarksStore) (u : Usage) → Holds s → Had (image by_plain s u q) (λ z (_ : Option Imaged). Holds z)
  unfolding I.image
  image_holds s u w = frame_holds s u (frame_at s q) w

  found_holds : (z : MarksStore) (i : Option Imaged) → Holds z →
      Had {R = Bool} {I = Image} (had_by (λ y k. Done y (Some (peeked k))) z i) (λ y (_ : Option Peeked). Holds y)
  found_holds z None w = had_done w
  found_holds z (Some i) w = had_done w

  peeked_holds : (s : MarksStore) → Holds s → Had (peek_image by_plain s q) (λ z (_ : Option Peeked). Holds z)
  peeked_holds s w = had_then (image_holds s peek_usage w) (λ z i x. found_holds z i x)

  half_holds : (s : MarksStore) (h : Option (HalfWrite (Unit {0}))) → Holds s → Had (peek_half by_plain s q h) (λ z (_ : Option Peeked). Holds z)
  half_holds s None w = peeked_holds s w
  half_holds s (Some h) w = had_if (is_in_half by_plain s q h) (λ _. had_try (had_done w)) (λ _. peeked_holds s w)

  track_holds : (s : MarksStore) → Holds s → Had (peek_track by_plain s q) (λ z (_ : Option Peeked). Holds z)
  track_holds s w = had_if (is_lost s q) (λ _. had_done w) (λ _. half_holds s s.half w)

peek_follows : (num : ℕ) (empty : PlainState) (d : MarksDevice) → Follows num empty d → (q : ℕ) →
    Had (peek by_plain d q) (λ y (_ : Option Peeked). Follows num empty y)
unfolding P.peek
peek_follows num empty d f q =
    let p = plain_of d.plans empty d.history in
    let g = d.store.geometry in
    let n = d.store.cylinders in
    had_then
    (had_then (track_holds (Walked p g n (core_of d.store)) (walked_hardened p g n (core_of d.store)) q (noted_begin d.store)
    (record {
      plain = d.store.plain;
      walks = walks_first num empty d f (noted_begin d.store) refl;
      stays = record { loose = λ t firm. firm; plain = λ t firm. refl };
    }))
    (λ z found w. had_done (walked_follow num empty d f z w)))
    (λ y a x. had_then (ended_same (waiting_count by_plain d.store) y.store) (λ z _ e. had_done (follows_store num empty y x z e)))

module _ (firsts : Firsts) (s : Subsystem) (p : ArePlainOn firsts s.mounted) where
  pub plain_there : (n : ℕ) (m : Mounted) → mounted_in s.mounted n ≡ Some m → PlainlyFrom firsts m.device
  plain_there n m there =
      subst (λ (o : Option Mounted). IfSome o (λ (y : Mounted). PlainlyFrom firsts y.device)) there (mounted_so (PlainlyFrom firsts) s.mounted n p)

  looked_plain : (k q : ℕ) (o : Option Mounted) → mounted_in s.mounted k ≡ o → ArePlainOn firsts (looked_at s k q o).behind.mounted
  looked_plain k q None is = p
  looked_plain k q (Some m) is =
      let x : PlainlyFrom firsts m.device = plain_there k m is in
      let y = mounted_behind (held_with s.pool m (peek by_plain m.device q)) in
      let f : Follows x.number x.empty y.device = held true (peek_follows x.number x.empty m.device x.follows q) (told_to s.pool m) in
      put_so (PlainlyFrom firsts) s.mounted k y p
      (subst (λ (j : ℕ). PlainlyOn (firsts j) y.device) (x.follows.number ∙ sym f.number) (follows_on m.device y.device x f))

  pub look_plain : (k q : ℕ) → ArePlainOn firsts (looked s k q).behind.mounted
  unfolding L.looked
  look_plain k q = looked_plain k q (mounted_in s.mounted k) refl

  pub replaced_plain : (k : ℕ) (side : Side) (volume : Calls) → ArePlainOn firsts (replaced s k side volume).behind.mounted
  unfolding H.replaced
  replaced_plain k side volume =
      replaced_so (PlainlyFrom firsts) IsServedEvent (plain_kept_from firsts) s k side volume p (mounted_in s.mounted k)
      (mounted_so (PlainlyFrom firsts) s.mounted k p)

  pub unpaired_plain : (k : ℕ) (volume : Calls) → ArePlainOn firsts (unpaired s k volume).behind.mounted
  unfolding H.unpaired
  unpaired_plain k volume =
      unpaired_so (PlainlyFrom firsts) IsServedEvent (plain_kept_from firsts) s k volume p (mounted_in s.mounted k)
      (mounted_so (PlainlyFrom firsts) s.mounted k p)
