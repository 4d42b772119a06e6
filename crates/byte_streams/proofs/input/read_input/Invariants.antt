use Rattle.std.proofs.Common.{◌≡◌, ◌≤◌, length}
use Rattle.std.specs.Io.KnownBytes.{Consumes}
use Rattle.byte_streams.proofs.input.read_input.Given as goal

abbrev pub invariant-loop : goal.invariant-loop
invariant-loop g l =
    (l.counter ≤ length l.input.items) × (length l.input.items ≤ 268435456)
    × Consumes (g.S.Source.stream l.initial.source).bytes (g.S.Source.stream l.source).bytes l.input.items
    × ((g.S.Source.stream l.source).failures ≡ (g.S.Source.stream l.initial.source).failures)
