-- What was written of a due text.
use Rattle.std.specs.Prelude.{◌≡◌, ℕ, List}
use Rattle.byte_streams.specs.Streams.{Stream, Stops, Takes}
use Rattle.byte_streams.specs.declared.sink.WriteFailed.{WriteFailed}
use Rattle.program_texts.specs.declared.fault.Fault.{Fault}
use Rattle.program_texts.specs.declared.fault.Fault.TheVariants.{Write}

-- the due text was written whole, and this is to be said beside it
abbrev pub Writes : (List ℕ → List ℕ → Type 0) → Stream → Stream → List ℕ → Type 0
Writes Due old new said = (text : List ℕ) × Due text said × Takes old new text

-- the sink failed within the text, as the fault says
abbrev pub IsCutIn : List ℕ → Stream → Stream → Fault → Type 0
IsCutIn text old new fault =
    (failed : WriteFailed) × (fault ≡ Write failed) × Stops old new text failed.count

-- the sink failed within the due text, as the fault says
abbrev pub IsCut : (List ℕ → List ℕ → Type 0) → Stream → Stream → Fault → Type 0
IsCut Due old new fault =
    (text : List ℕ) × (said : List ℕ) × Due text said × IsCutIn text old new fault
