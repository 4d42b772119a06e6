-- Parts of a piece of work that threads draw, and their answers.
use denote.Param.Members.{Shared}
use Rattle.std.specs.Prelude.{◌≡◌, ◌<◌, ℕ, List, Option, Result, Some, length, slice_index_or}
use Rattle.std.specs.List.{All}
use Rattle.std.specs.Global.{Vec}
use Rattle.std.specs.declared.alloc.AllocError.{AllocError}
use Rattle.part_threads.specs.declared.drawing.DrawnPart.{DrawnPart}

-- what doing a part answers: its bytes, or that memory ran out
abbrev pub PartBytes : Type 0
PartBytes = Result (Vec ℕ) AllocError

-- this holds of each part that was done and its answer
abbrev pub OfDrawnParts : (ℕ → PartBytes → Type 0) → List DrawnPart → Type 0
OfDrawnParts P parts = All (λ drawn. P drawn.part drawn.answer) parts

-- this holds of each place that has an answer and that answer
abbrev pub OfPlaces : (ℕ → PartBytes → Type 0) → List (Option PartBytes) → Type 0
OfPlaces P places = (i : ℕ) (d : _) (answer : _) → i < length places
    → slice_index_or places i d ≡ Some answer → P i answer

-- some call of a closure answers this
abbrev pub IsAnswerOf : {F R : Type 0} → Shared F (ℕ × Unit {0}) R → F → R → Type 0
IsAnswerOf closure f answer = (i : ℕ) × closure.post f (i, tt) answer
