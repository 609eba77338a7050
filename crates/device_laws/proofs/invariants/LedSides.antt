-- Side B is held only of a pair whose side A is up, and that has the track of an open half write: so it is behind each event, whatever calls fail.
use Rattle.std.proofs.Common.{◌≡◌, ◌≢◌, ℕ, Bool, true, false, Option, Some, None, set, option_map, refl, sym, ap, subst, ◌∙◌}
use Rattle.std.proofs.lemmas.Bool.{cases_eq, eqb-false}
use Rattle.std.proofs.lemmas.List.{get_or-set_other}
use Rattle.std.specs.Prelude.{if◌then◌else◌}
use Rattle.ckd_types.specs.declared.paths.Side.{Side}
use Rattle.ckd_types.specs.declared.paths.Side.TheVariants as sides
use Rattle.ckd_types.specs.declared.record.Edit.{Edit}
use Rattle.loss_model.specs.declared.Loss.{Loss}
use Rattle.loss_model.specs.declared.Loss.TheVariants as losses
use Rattle.track_image.specs.Image.{Image}
use Rattle.device_outside.specs.Interaction.{Interaction, Done}
use Rattle.device_defs.specs.Command.{command}
use Rattle.device_defs.specs.Contents.{Contents}
use Rattle.device_defs.specs.Cutting.{reset, power}
use Rattle.device_defs.specs.Device.{Device, event_ended}
use Rattle.device_defs.specs.Effects.{loosened, hardened, with_loose_edit}
use Rattle.device_defs.specs.Events.{second, background, lose}
use Rattle.device_defs.specs.Image.{read_counted}
use Rattle.device_defs.specs.Losses.{over, down, stale_everywhere, side_lost, without_frame}
use Rattle.device_defs.specs.Orders as K
use Rattle.device_defs.specs.Orders.{lent_to, given_up, lend}
use Rattle.device_defs.specs.Owed.{noted_begin, waiting_count}
use Rattle.device_defs.specs.Peek.{peek}
use Rattle.device_defs.specs.Store.{HalfWrite, SideMarks, Store, tracks_of, stale_at, half_is, is_loose, with_stale, with_frame}
use Rattle.device_defs.specs.Writing.{write_counted}
use Rattle.device_laws.proofs.Always.{Always, always_done, always_then}
use Rattle.device_laws.proofs.PoolWalks.{asks_always, ended_asks}
use Rattle.device_laws.proofs.Unlost.{clear_at}
use Rattle.device_laws.proofs.walks.Within.{always, within_always, within_weaker}
use Rattle.device_laws.proofs.walks.Moves.{Kind, Shut, Half, Emptied, Losing, stays, IsKept, moves_keep, IsEnded, ends_keep}
use Rattle.device_laws.proofs.walks.Reads.{over_moves, unpatched_moves, unframed_moves, side_moves}
use Rattle.device_laws.proofs.walks.Events.{reaches_any, command_leads, second_leads, background_leads, lose_leads, peek_leads, power_leads, reset_leads}

-- what is said of a store
pub record SideState : Type 0 where
  pub a : SideMarks
  pub held : Bool
  pub paired : Bool
  pub half : Option ℕ  -- the track of an open half write

abbrev pub state_of : {F P H : Type 0} → Store F P H → SideState
state_of s = record { a = s.a; held = s.held; paired = s.paired; half = option_map (λ h. h.track) s.half }

abbrev fallen_a : SideState → SideState
fallen_a x = record x { a = record x.a { up = false }; held = false }

abbrev fallen_b : SideState → SideState
fallen_b x = record x { held = false }

abbrev marked_a : SideState → ℕ → Bool → SideState
marked_a x t b = record x { a = record x.a { stale = set x.a.stale t b } }

-- side B is held only of a pair whose side A is up
abbrev pub IsLed : SideState → Type 0
IsLed x = x.held ≡ true → (x.a.up ≡ true) × (x.paired ≡ true)

-- and that has the track of an open half write
pub record IsSteered (x : SideState) : Type 0 where
  pub led : IsLed x
  pub half : (t : ℕ) → x.half ≡ Some t → x.a.up ≡ true → stale_at x.a t ≡ false

-- no half write is open
pub record IsShut (x : SideState) : Type 0 where
  pub led : IsLed x
  pub none : x.half ≡ None

shut_steered : {x : SideState} → IsShut x → IsSteered x
shut_steered {x} f = record { led = f.led; half = λ t e. absurd (let none : None ≡ Some t = sym f.none ∙ e in cc) }

-- an open half write, of a track that side A took
opened_side : (x : SideState) (t : ℕ) → IsLed x → stale_at x.a t ≡ false → IsSteered (record x { half = Some t })
opened_side x t led level = record {
  led = led;
  half = λ q e up. let same : t ≡ q = cc in subst (λ (p : ℕ). stale_at x.a p ≡ false) same level;
}

-- what moves of the sides leave
record StaysSo (kind : Kind) (q : SideState → Type 0) : Type 0 where
  a : (x : SideState) → q x → q (fallen_a x)
  b : (x : SideState) → q x → q (fallen_b x)
  levels : (x : SideState) (t : ℕ) → q x → q (marked_a x t false)
  stales : (x : SideState) (t : ℕ) → ((p : ℕ) → x.half ≡ Some p → p ≢ t) → q x → q (marked_a x t true)
  firms : (x : SideState) (t : ℕ) → kind ≡ Shut → q x → q (marked_a x t true)
  closes : (x : SideState) → q x → q (record x { half = None })

module _ {F P H R : Type 0} (c : Contents F P H R) where
  not_it : (h : Option (HalfWrite H)) (t p : ℕ) → half_is h t ≡ false → option_map (λ (k : HalfWrite H). k.track) h ≡ Some p → p ≢ t
  not_it None t p other e = absurd (cc)
  not_it (Some h) t p other e = λ is. let at : h.track ≡ p = cc in eqb-false h.track t other (at ∙ is)

  module _ (kind : Kind) (q : SideState → Type 0) (so : StaysSo kind q) where
    abbrev So : Store F P H → Type 0
    So z = q (state_of z)

    fall : (z : Store F P H) (side : Side) → So z → So (down z side)
    fall z sides.A f = so.a (state_of z) f
    fall z sides.B f = so.b (state_of z) f

    level : (z : Store F P H) (side : Side) (t : ℕ) → So z → So (with_stale z side t false)
    level z sides.A t f = so.levels (state_of z) t f
    level z sides.B t f = f

    marked : (z : Store F P H) (t : ℕ) (x b : Bool) → q (marked_a (state_of z) t x) →
        So (if b then with_stale (with_stale z sides.A t x) sides.B t true else with_stale z sides.A t x)
    marked z t x true f = f
    marked z t x false f = f

    provisional : (z : Store F P H) (t : ℕ) (i : Image) (e : Edit) (b : Bool) → So z →
        So (with_loose_edit (with_frame (if b then z else loosened z t) t (Some (c.frame i true))) t e)
    provisional z t i e true f = f
    provisional z t i e false f = f

    sides_kept : IsKept always kind c (λ n z. q (state_of z))
    sides_kept = record {
      reads = λ m n z ok is f. f;
      writes = λ m n z ok is f. f;
      falls_reading = λ m n z side pair is f. fall (read_counted z false) side f;
      falls_writing = λ m n z side pair is f. fall (write_counted z false) side f;
      falls = λ n z side lost f. fall z side f;
      takes = λ n z t is up f. marked z t false z.b.up (so.levels (state_of z) t f);
      levels = λ n z side t f. level z side t f;
      spoils = λ n z t is alone why f. so.firms (state_of z) t is f;
      stales = λ n z t other away f. marked z t true z.paired (so.stales (state_of z) t (λ p e. not_it z.half t p other e) f);
      firms = λ n z t is loose why f. marked (hardened z t) t true z.paired (so.firms (state_of z) t is f);
      firms_taken = λ m n z t is loose up wrote f. let y = stale_everywhere (hardened z t) t in
          marked (write_counted y true) t false y.b.up (so.levels (state_of y) t (marked (hardened z t) t true z.paired (so.firms (state_of z) t is f)));
      marks = λ n z t g bare is clean f. f;
      hardens = λ n z t bare loose f. f;
      loses = λ n z t bare none half f. f;
      drops = λ n z t clean f. f;
      fills = λ n z t i patched is level f. f;
      frames = λ n z t o bare why f. f;
      renews = λ n z t i g bare is f. f;
      unframes = λ n z t may f. f;
      patches = λ n z t f. f;
      unpatches = λ n z t slot f. f;
      queues = λ n z t room f. f;
      dequeues = λ n z ts less f. f;
      edits = λ n z t e f. f;
      goes_fast = λ n z t i e slot there f. f;
      goes_provisionally = λ n z t i e is f. provisional z t i e (is_loose z t) f;
      goes_back = λ n z may some f. f;
      loses_loose = λ n z lossy some f. f;
      closes = λ n z why f. so.closes (state_of z) f;
      cuts = λ n z h bypass e is f.
          subst (λ (o : Option ℕ). q (record (state_of z) { half = o })) (ap (option_map (λ (k : HalfWrite H). k.track)) is) f;
      notes = λ n z loss lossy f. f;
      pays = λ n z t o f. f;
    }

  shut_so : StaysSo Shut IsShut
  shut_so = record {
    a = λ x f. record { led = λ e. absurd (cc); none = f.none };
    b = λ x f. record { led = λ e. absurd (cc); none = f.none };
    levels = λ x t f. record { led = f.led; none = f.none };
    stales = λ x t other f. record { led = f.led; none = f.none };
    firms = λ x t is f. record { led = f.led; none = f.none };
    closes = λ x f. record { led = f.led; none = refl };
  }

  steered_so : (kind : Kind) → (kind ≡ Shut → ⊥) → StaysSo kind IsSteered
  steered_so kind other = record {
    a = λ x f. record { led = λ e. absurd (cc); half = λ t e up. absurd (cc) };
    b = λ x f. record { led = λ e. absurd (cc); half = f.half };
    levels = λ x t f. record { led = f.led; half = λ p e up. clear_at x.a.stale t p (cases_eq p t) (λ ne. f.half p e up) };
    stales = λ x t apart f. record { led = f.led; half = λ p e up. get_or-set_other x.a.stale t p true false (apart p e) ∙ f.half p e up };
    firms = λ x t is f. absurd (other is);
    closes = λ x f. record { led = f.led; half = λ t e. absurd (cc) };
  }

  -- a volume that is alone
  abbrev IsAlone : SideState → Type 0
  IsAlone x = IsLed x × (x.paired ≡ false)

  alone_so : StaysSo Emptied IsAlone
  alone_so = record {
    a = λ x f. (λ e. absurd (cc), f.1);
    b = λ x f. (λ e. absurd (cc), f.1);
    levels = λ x t f. f;
    stales = λ x t other f. f;
    firms = λ x t is f. absurd (cc);
    closes = λ x f. f;
  }

  -- side A stays down
  down_so : StaysSo Shut (λ x. x.a.up ≡ false)
  down_so = record {
    a = λ x f. refl;
    b = λ x f. f;
    levels = λ x t f. f;
    stales = λ x t other f. f;
    firms = λ x t is f. f;
    closes = λ x f. f;
  }

  pub lost_side_is_down : (s : Store F P H) (writing : Option ℕ) → (side_lost c s sides.A writing).a.up ≡ false
  lost_side_is_down s writing =
      moves_keep {k = tt} {s = down s sides.A} (sides_kept Shut (λ x. x.a.up ≡ false) down_so) refl (side_moves s sides.A writing stays)

  shut_kept : IsKept always Shut c (λ n z. IsShut (state_of z))
  shut_kept = sides_kept Shut IsShut shut_so

  half_kept : IsKept always Half c (λ n z. IsSteered (state_of z))
  half_kept = sides_kept Half IsSteered (steered_so Half (λ e. absurd (cc)))

  losing_kept : (loss : Loss) → IsKept always (Losing loss) c (λ n z. IsSteered (state_of z))
  losing_kept loss = sides_kept (Losing loss) IsSteered (steered_so (Losing loss) (λ e. absurd (cc)))

  shut_ended : IsEnded always Shut c (λ n z. IsShut (state_of z)) (λ n z. IsSteered (state_of z))
  shut_ended = record {
    weaker = λ n z f. shut_steered f;
    opens = λ n z t i origin is may firm f. opened_side (state_of z) t f.led may.2;
    opens_cleaned = λ n z t i origin is may firm f. opened_side (state_of z) t f.led may.2;
    pays = λ n z t o f. f;
  }

  steered_ended : (kind : Kind) → IsEnded always kind c (λ n z. IsSteered (state_of z)) (λ n z. IsSteered (state_of z))
  steered_ended kind = record {
    weaker = λ n z f. f;
    opens = λ n z t i origin is may firm f. opened_side (state_of z) t f.led may.2;
    opens_cleaned = λ n z t i origin is may firm f. opened_side (state_of z) t f.led may.2;
    pays = λ n z t o f. f;
  }

  -- Behind each event

  abbrev pub IsSide : Store F P H → Type 0
  IsSide s = IsSteered (state_of s)

  abbrev Steers : {A : Type 0} → Interaction R Image (Device F P H) A → Type 0
  Steers i = Always i (λ e _. IsSide e.store)

  no_half : (s : Store F P H) → s.half ≡ None → IsSide s → IsShut (state_of s)
  no_half s none f = record { led = f.led; none = ap (option_map (λ (h : HalfWrite H). h.track)) none }

  pub command_steers : (d : Device F P H) → d.store.half ≡ None → IsSide d.store → Steers (command c d)
  command_steers d none f =
      within_always (command_leads always c tt d (reaches_any (λ t. tt)) (λ chain t is e. tt) (λ n e. IsSide e.store) f
      (λ n e m. ends_keep shut_kept shut_ended (no_half d.store none f) m))

  pub background_steers : (d : Device F P H) → d.store.half ≡ None → IsSide d.store → Steers (background c d)
  background_steers d none f =
      within_always (within_weaker (background_leads always c tt d (λ t ts is. tt)) (λ n e a m. ends_keep shut_kept shut_ended (no_half d.store none f) m))

  pub second_steers : (d : Device F P H) → IsSide d.store → Steers (second c d)
  second_steers d f = within_always (within_weaker (second_leads always c tt d Half (λ e. absurd (cc))) (λ n e a m. ends_keep half_kept (steered_ended Half) f m))

  pub peek_steers : (d : Device F P H) (t : ℕ) → IsSide d.store → Steers (peek c d t)
  peek_steers d t f = within_always (within_weaker (peek_leads always c tt d Half t tt) (λ n e a m. ends_keep half_kept (steered_ended Half) f m))

  pub lose_steers : (d : Device F P H) (loss : Loss) → IsSide d.store → Steers (lose c d loss)
  lose_steers d loss f = within_always (within_weaker (lose_leads always c tt d loss) (λ n e a m. ends_keep (losing_kept loss) (steered_ended (Losing loss)) f m))

  pub power_steers : (d : Device F P H) → IsSide d.store → Steers (power c d)
  power_steers d f = within_always (within_weaker (power_leads always c tt d) (λ n e a m. ends_keep (losing_kept losses.Cache) (steered_ended (Losing losses.Cache)) f m))

  pub reset_steers : (d : Device F P H) (path : ℕ) → IsSide d.store → Steers (reset c d path)
  reset_steers d path f = within_always (within_weaker (reset_leads always Half c tt d path) (λ n e a m. moves_keep half_kept f m))

  -- a volume that is alone is lent
  pub lend_steers : (d : Device F P H) (to : ℕ) → d.store.paired ≡ false → IsSide d.store → Steers (lend c d to)
  unfolding K.lend
  lend_steers d to alone f =
      always_then {f = event_ended c d} {p = λ y _. IsSide y.store} (always_done (lent (over (tracks_of d.store) (given_up c) (noted_begin d.store)) left))
      (λ y a g. always_then {f = λ z _. Done (record y { store = z }) a}
      (asks_always (ended_asks c IsSide (λ z t x. x) (waiting_count c d.store) y.store g)) (λ z _ x. always_done x))
    where
      left : IsAlone (state_of (over (tracks_of d.store) (given_up c) (noted_begin d.store)))
      left =
          moves_keep {k = tt} {s = noted_begin d.store} (sides_kept Emptied IsAlone alone_so) (f.led, alone)
          (over_moves (given_up c) (λ t z m. unpatched_moves (without_frame z t) t (unframed_moves tt z t m)) (tracks_of d.store) (noted_begin d.store) stays)

      lent : (z : Store F P H) → IsAlone (state_of z) → IsSide (lent_to z to)
      lent z g = record {
        led = λ held. let was = g.0 held in absurd (let both : true ≡ false = sym was.1 ∙ g.1 in cc);
        half = λ t is up. absurd (cc);
      }
