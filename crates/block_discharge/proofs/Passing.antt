-- Where each active node is set aside, and each of those is idle, each node is.
use Rattle.std.proofs.Common.{◌⊎◌, ℕ, inl, inr, arith}
use Rattle.std.proofs.lemmas.Bool.{cases_lt}
use Rattle.block_net.specs.Views.{CellsView, count, excess_in, label_in}
use Rattle.block_discharge.specs.Active.{IsActiveInBlock}
use Rattle.block_discharge.specs.Seen.{WaysView}
use Rattle.block_discharge.specs.Works.{IsIdle}
use Rattle.block_discharge.proofs.Runs.{idle_inactive}

cases_active : (b : CellsView) (v : ℕ) → IsActiveInBlock b v ⊎ (¬ IsActiveInBlock b v)
cases_active b v = elim (cases_lt v (count b)) [
  | inr out ↦ inr (λ active. omega (arith, active.node, out))
  | inl node ↦ elim (cases_lt 0 (excess_in b v)) [
    | inr none ↦ inr (λ active. omega (arith, active.excess, none))
    | inl some ↦ elim (cases_lt (label_in b v) b.top) [
      | inr high ↦ inr (λ active. omega (arith, active.below, high))
      | inl below ↦ inl (record { node = node; excess = some; below = below })
    ]
  ]
]

pub active_idle : (b : CellsView) (s : WaysView) → ((v : ℕ) → IsActiveInBlock b v → IsIdle b s v) → (v : ℕ) → IsIdle b s v
active_idle b s each v = elim (cases_active b v) [
  | inl on ↦ each v on
  | inr off ↦ idle_inactive b s v off
]
