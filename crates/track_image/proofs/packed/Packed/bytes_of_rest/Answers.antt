use Rattle.std.proofs.Common.{◌-◌, length, take, drop, ap, ◌∙◌, arith}
use Rattle.std.specs.List.{flat_map}
use Rattle.std.proofs.lemmas.List.{length-append, take_at}
use Rattle.ckd_types.specs.Track.{record_bytes, end_mark}
use Rattle.track_image.proofs.packed.Packed.bytes_of_rest.Goals as goal

pub returns-clause-value : goal.returns-clause-value
returns-clause-value c =
    let records = flat_map record_bytes (drop c.args.i c.args.self.now.records) in
    let long = ap length c.bytes_behind-behind.ensures.value ∙ length-append records end_mark in
    c.split_at.ensures.front ∙ ap (take (length c.bytes_behind-behind.result.now - 8))
    c.bytes_behind-behind.ensures.value ∙ take_at records end_mark (length c.bytes_behind-behind.result.now - 8)
    (omega (arith, long))
