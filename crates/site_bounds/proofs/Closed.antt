-- Sites that were decided stay so.
use Rattle.std.proofs.Common.{◌≡◌, ℕ, Bool, sym, ap, ◌∙◌, inl, inr}
use Rattle.std.proofs.lemmas.Bool.{cases_eq}
use Rattle.move_energy.specs.Choices.{choice_at}
use Rattle.site_bounds.specs.declared.bounds.Bounds.{Bounds}
use Rattle.site_bounds.specs.Working.{StayDecided, IsMarked, IsAnswered}

-- where the choices are the same
pub same_closed : (old new : Bounds) → new.choices ≡ old.choices → StayDecided old new
same_closed old new same u was opened = was (ap (λ (v : _). choice_at v.items u) (sym same) ∙ opened)

pub both_closed : (old mid new : Bounds) → StayDecided old mid → StayDecided mid new → StayDecided old new
both_closed old mid new one two u was = two u (one u was)

-- where one more is decided
pub marked_closed : (site : ℕ) (value : Bool) (old new : Bounds) → IsMarked site value old new → StayDecided old new
marked_closed site value old new marked u was opened = elim (cases_eq u site) [
  | inl same ↦ marked.closed (ap (choice_at new.choices.items) (sym same) ∙ opened)
  | inr other ↦ was (sym (marked.others u other) ∙ opened)
]

pub answered_closed : (site : ℕ) (beside : Bool) (old new : Bounds) → IsAnswered site beside old new → StayDecided old new
answered_closed site beside old new (inl calls) = same_closed old new calls.1
answered_closed site beside old new (inr marks) = marked_closed site marks.0 old new marks.1
