-- Answers at the places of their parts.
use Rattle.std.proofs.Common.{◌≡◌, ◌≢◌, ◌<◌, ℕ, List, Option, Some, length, slice_index_or, arith}
use Rattle.std.proofs.lemmas.Grind.{common_steps}
use Rattle.part_threads.specs.declared.drawing.DrawnPart.{DrawnPart}
use Rattle.part_threads.specs.Drawing.{PartBytes, OfPlaces}

-- what holds of the places' answers and of a further part's answer holds once that is at its place
pub place_answer : (P : ℕ → PartBytes → Type 0) (old new : List (Option PartBytes)) (drawn : DrawnPart) → length new ≡ length old
    → ((i : ℕ) (d : _) → i < length old → i ≡ drawn.part → slice_index_or new i d ≡ Some drawn.answer)
    → ((i : ℕ) (d : _) → i < length old → i ≢ drawn.part → slice_index_or new i d ≡ slice_index_or old i d)
    → OfPlaces P old → P drawn.part drawn.answer → OfPlaces P new
place_answer P old new drawn long there others laid own = λ i d answer l is. grind (arith, common_steps)
