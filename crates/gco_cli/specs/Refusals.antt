-- How a run comes to be refused.
use Rattle.std.specs.Prelude.{◌≡◌, ◌<◌, ℕ, List, length, string_bytes}
use Rattle.command_line.specs.Task.{IsNoTaskFor}
use Rattle.command_line.specs.declared.task.NoTask.TheVariants.{Refused}
use Rattle.gco_cli.specs.Run.{IsDue, LeavesSource, IsFaultOf}
use Rattle.program_tasks.specs.Refusals.{Refuses}
use Rattle.byte_streams.specs.Streams.{Stream}
use Rattle.program_texts.specs.declared.refusal.Refusal.{Refusal}
use Rattle.program_texts.specs.declared.refusal.Refusal.TheVariants.{Fault, Words}

-- the run of these words is refused for this, with this done to the source and the sink
abbrev pub IsRefusalFor : List (List ℕ) → Stream → Stream → Stream → Stream → Refusal → Type 0
IsRefusalFor words source source_new sink sink_new (Fault fault) =
    Refuses (IsDue words source) (IsFaultOf words source) sink sink_new fault
    × LeavesSource source source_new fault
IsRefusalFor words source source_new sink sink_new (Words text) =
    IsNoTaskFor words (Refused text) × (source_new ≡ source) × (sink_new ≡ sink)
    × (0 < length (string_bytes text))
