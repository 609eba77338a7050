-- A mirror that begins as the run of a deck does.
use Rattle.std.proofs.Common.{◌≡◌, ◌∙◌, ◌==◌, ℕ, Bool, true, false, List, [], ◌∷◌, map, Option, Some, None, refl, sym, ap, subst}
use Rattle.std.specs.Prelude.{IfSome, option_map, if◌then◌else◌}
use Rattle.ckd_types.specs.declared.record.Track.{Track}
use Rattle.ckd_types.specs.Volume.{empty_volume}
use Rattle.plain_defs.specs.History.{History, no_history}
use Rattle.deck_text.specs.declared.line.DeviceLine.{DeviceLine}
use Rattle.deck_text.specs.DeckLines.{DeckLines}
use Rattle.device_outside.specs.declared.volume.Volume.{Ghosts}
use Rattle.device_core.specs.declared.device.Device.{Device}
use Rattle.device_core.specs.State.{device_of}
use Rattle.subsystem_core.specs.declared.subsystem.Subsystem.{Subsystem}
use Rattle.subsystem_core.specs.Devices.{device_at}
use Rattle.subsystem_defs.specs.Decks.{opened, opened_device}
use Rattle.subsystem_defs.specs.Subsystem.{Mounted, mounted_in}
use Rattle.deck_run.specs.Standing.{StandsAs, all_stood}
use Rattle.deck_run.proofs.Telling.{all_known, known_at}
use Rattle.remote_copy.specs.declared.link.Link as links
use Rattle.remote_copy.specs.declared.mirror.Mirror.{Mirror}
use Rattle.remote_copy.specs.Linking.{PutCalls}
use Rattle.remote_copy.specs.Mirroring.{IsMirror, mirror_begun}
use Rattle.copy_tool.specs.MirrorStanding.{failing, firm_at, mirror_from}
use Rattle.copy_tool.proofs.Made.{some_same}

-- A device of a deck that has just been opened

pub record IsOpened (m : Mounted) : Type 0 where
  pub lent : m.device.store.lent ≡ None
  pub history : m.device.history ≡ no_history
  pub firm : m.device.store.firm ≡ empty_volume m.device.store.cylinders

opened_if : (deck : DeckLines) (x : DeviceLine) (b : Bool) (o : Option Mounted) (m : Mounted) → (o ≡ Some m → IsOpened m) →
    (if b then Some (opened_device deck x) else o) ≡ Some m → IsOpened m
opened_if deck x true o m rest at = subst IsOpened (some_same at) (record { lent = refl; history = refl; firm = refl })
opened_if deck x false o m rest at = rest at

pub opened_in : (deck : DeckLines) (ds : List DeviceLine) (d : ℕ) (m : Mounted) → mounted_in (map (opened_device deck) ds) d ≡ Some m → IsOpened m
opened_in deck [] d m at = absurd (cc)
opened_in deck (x ∷ ds) d m at =
    opened_if deck x (x.number == d) (mounted_in (map (opened_device deck) ds) d) m (λ so. opened_in deck ds d m so) at

pub if_there : {X : Type 0} (p : X → Type 0) (o : Option X) (x : X) → o ≡ Some x → p x → IfSome o p
if_there p o x at so = subst (λ q. IfSome q p) (sym at) so

module _ {V : Type 0} {G : Ghosts V} where
  -- nothing has happened yet
  pub record IsNew (deck : DeckLines) (d : ℕ) (x : Device V G) : Type 0 where
    pub mounted : Mounted
    pub there : mounted_in (opened deck).mounted d ≡ Some mounted
    pub home : (device_of x).store.lent ≡ None
    pub items : (device_of x).history.items ≡ []
    pub running : (device_of x).history.running ≡ None
    pub cylinders : mounted.device.store.cylinders ≡ (device_of x).store.cylinders
    pub firm : mounted.device.store.firm ≡ empty_volume (device_of x).store.cylinders

  pub is_new : (sub : Subsystem V G) (deck : DeckLines) (d : ℕ) (x : Device V G) → StandsAs sub (opened deck) →
      device_at sub.devices.items d ≡ Some x → IsNew deck d x
  is_new sub deck d x stands at =
      let k = known_at sub.devices.items (opened deck).mounted d x (all_known (all_stood sub.devices.items) (opened deck).mounted stands.mounted) at in
      let o = opened_in deck deck.devices d k.mounted k.there in
      record {
        mounted = k.mounted;
        there = k.there;
        home = sym k.is.lent ∙ o.lent;
        items = ap (λ (h : History). h.items) (sym k.is.history ∙ o.history);
        running = ap (λ (h : History). h.running) (sym k.is.history ∙ o.history);
        cylinders = k.is.cylinders;
        firm = o.firm ∙ ap empty_volume k.is.cylinders;
      }

module _ {V L : Type 0} {G : Ghosts V} {H : links.Ghosts L} where
  pub begun_so : (x : Mirror V L G H) (deck : DeckLines) (d n : ℕ) (m : Mounted) (calls : Option PutCalls) →
      mounted_in (opened deck).mounted d ≡ Some m → calls ≡ Some (failing n) → IsMirror x (mirror_begun (opened deck) d m.device.store.firm calls) →
      IsMirror x (mirror_from deck d n)
  begun_so x deck d n m calls there is begun =
      subst (λ (s : List Track). IsMirror x (mirror_begun (opened deck) d s (Some (failing n)))) (sym (ap firm_at there))
      (subst (λ (k : Option PutCalls). IsMirror x (mirror_begun (opened deck) d m.device.store.firm k)) is begun)
