-- A pause is told of the labels and the bookmark that it was made of.
use Rattle.std.proofs.Common.{◌≡◌, ◌∙◌, ◌+◌, ℕ, List, ap, sym, subst}
use Rattle.label_field.specs.LabelFields.{LabelField}
use Rattle.label_energies.specs.declared.cycles.Moves.{Moves}
use Rattle.label_energies.specs.Energies.{Instance}
use Rattle.label_energies.specs.Chains.{moves_of}
use Rattle.run_steps.specs.declared.bookmark.Bookmark.{Bookmark}
use Rattle.moves.specs.declared.stretch.Pause.{Pause}
use Rattle.run_steps.specs.declared.bookmark.Mark.{Mark}
use Rattle.run_steps.specs.Bookmarks.{WasLeftAt, moves_to}
use Rattle.run_steps.specs.Courses.{IsBegun}
use Rattle.moves.specs.Runs.{MayMake}
use Rattle.moves.specs.Stretches.{IsPauseOf, TellsParts}

pub pause_told : (m : Instance) (kind : Moves) (cycles : ℕ) (start : List ℕ) (mark : Mark) (most : ℕ) (field : LabelField) (bookmark : Bookmark)
    (pause : Pause)
    → pause.labelling ≡ field → pause.bookmark ≡ bookmark
    → WasLeftAt m kind start field.at bookmark.mark bookmark.stamps.items bookmark.made.items
    → IsBegun m (moves_of kind m.labels) cycles bookmark.mark.cycles start field.at
    → moves_to (moves_of kind m.labels) bookmark.mark ≡ moves_to (moves_of kind m.labels) mark + most → MayMake m kind
    → TellsParts m field.at pause.«data» pause.smooth pause.label → IsPauseOf m kind cycles start mark most pause
pause_told m kind cycles start mark most field bookmark pause same kept left begun further may parts =
    let L : LabelField → Type 0 = λ f. WasLeftAt m kind start f.at bookmark.mark bookmark.stamps.items bookmark.made.items in
    let K : Bookmark → Type 0 = λ b. WasLeftAt m kind start pause.labelling.at b.mark b.stamps.items b.made.items in
    let B : LabelField → Type 0 = λ f. IsBegun m (moves_of kind m.labels) cycles bookmark.mark.cycles start f.at in
    let C : Bookmark → Type 0 = λ b. IsBegun m (moves_of kind m.labels) cycles b.mark.cycles start pause.labelling.at in
    let P : LabelField → Type 0 = λ f. TellsParts m f.at pause.«data» pause.smooth pause.label in record {
      left = subst K (sym kept) (subst L (sym same) left);
      begun = subst C (sym kept) (subst B (sym same) begun);
      further = ap (λ (b : Bookmark). moves_to (moves_of kind m.labels) b.mark) kept ∙ further;
      may = may;
      parts = subst P (sym same) parts;
    }
