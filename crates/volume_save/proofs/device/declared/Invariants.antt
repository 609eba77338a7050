use Rattle.std.proofs.Common.{◌≡◌, drop, length}
use Rattle.volume_save.proofs.Devices.{is_of}
use Rattle.volume_save.proofs.device.declared.Given as goal

-- none of the devices so far has the number
abbrev pub invariant-loop-i : goal.invariant-loop-i
invariant-loop-i l = record {
  rest : is_of l.n l.deck.devices ≡ is_of l.n (drop l.i l.deck.devices);
  count : l.i-end ≡ length l.deck.devices;
}
