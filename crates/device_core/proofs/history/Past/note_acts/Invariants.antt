use Rattle.std.proofs.Common.{◌≡◌, ◌+◌, ◌-◌, ℕ, drop, length}
use Rattle.std.specs.Prelude.{IfSome, option_map}
use Rattle.device_defs.specs.Device.{all_acted}
use Rattle.device_core.specs.Kept.{chain_of, history_of, ActRoom, Keeps}
use Rattle.device_core.specs.Words.{HasEndRoom}
use Rattle.device_core.proofs.history.Past.note_acts.Given as goal

abbrev pub invariant-loop-act : goal.invariant-loop-act
invariant-loop-act l = record {
  history : all_acted (history_of l.self) (drop l.act-index l.acts) ≡ all_acted (history_of l.initial.self) l.initial.acts;
  chain : option_map chain_of l.self.running ≡ option_map chain_of l.initial.self.running;
  ends : IfSome l.initial.self.running (λ r. HasEndRoom r.ends) → IfSome l.self.running (λ r. HasEndRoom r.ends);
  keeps : Keeps l.self;
  room : (n : ℕ) → ActRoom (n + length l.initial.acts) l.initial.self → ActRoom (n + (length l.initial.acts - l.act-index)) l.self;
}
