use Rattle.std.proofs.Common.{◌≡◌, drop, length}
use Rattle.image_runner.proofs.Devices.{is_of}
use Rattle.image_runner.proofs.top.has_device.Given as goal

-- none of the devices so far has the number
abbrev pub invariant-loop-i : goal.invariant-loop-i
invariant-loop-i l = record {
  rest : is_of l.d l.deck.devices ≡ is_of l.d (drop l.i l.deck.devices);
  count : l.i-end ≡ length l.deck.devices;
}
