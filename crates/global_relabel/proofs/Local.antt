-- Labels that are exact node by node are exact.
use Rattle.std.proofs.Common.{◌≡◌, ℕ, zero, suc, ◌<◌, ◌≤◌, List, slice_index, inl, inr, refl, arith}
use Rattle.flow_network.specs.Cut.{nodes, IsNet}
use Rattle.flow_network.specs.Progress.{top}
use Rattle.block_events.specs.Directions.{far}
use Rattle.block_events.specs.States.{State}
use Rattle.block_events.specs.Reach.{ReachesSinkIn, IsExact, AreExact}
use Rattle.block_events.proofs.Ends.{far_in}
use Rattle.global_relabel.specs.Local.{AreLocallyExact}

module _ (s : State) (labels : List ℕ) (net : IsNet s.net) (local : AreLocallyExact s labels) where
  abbrev label : ℕ → ℕ
  label v = slice_index labels v

  -- a label is at most the length of each path
  least : (d v : ℕ) → v < nodes s.net → ReachesSinkIn s d v → label v ≤ d
  least zero v l path = absurd path
  least (suc zero) v l path = (local.each v l).sink path.1
  least (suc (suc d)) v l (x, lx, at, some, path) =
      let rest = least (suc d) (far s.net x) (far_in s.net x net lx) path in
      omega (arith, rest, (local.each v l).steps (label (far s.net x)) (x, lx, at, some, refl))

  -- from a node with the top label no path leads to the sink: each label on it is the top one
  none : (d v : ℕ) → v < nodes s.net → label v ≡ top s.net → ReachesSinkIn s d v → ⊥
  none zero v l is path = path
  none (suc zero) v l is path = omega (arith, is, (local.each v l).sink path.1)
  none (suc (suc d)) v l is (x, lx, at, some, path) =
      let lf = far_in s.net x net lx in
      let high = (local.each v l).steps (label (far s.net x)) (x, lx, at, some, refl) in
      elim (local.each (far s.net x) lf).range [
        | inl low ↦ omega (arith, is, high, low)
        | inr same ↦ none (suc d) (far s.net x) lf same path
      ]

  -- a label that is not the top one is the length of a path
  path_of : (d v : ℕ) → v < nodes s.net → label v ≡ d → d ≤ nodes s.net → ReachesSinkIn s d v
  path_of zero v l is low = elim ((local.each v l).reason (omega (arith, is, low))) [
    | inl one ↦ absurd (omega (arith, is, one.0))
    | inr more ↦ absurd (omega (arith, is, more.2))
  ]
  path_of (suc zero) v l is low = elim ((local.each v l).reason (omega (arith, is, low))) [
    | inl one ↦ (l, one.1)
    | inr more ↦
        let step = more.1 in
        absurd (path_of zero (far s.net step.0) (far_in s.net step.0 net step.1) (omega (arith, step.4, more.2, is)) (omega arith))
  ]
  path_of (suc (suc d)) v l is low = elim ((local.each v l).reason (omega (arith, is, low))) [
    | inl one ↦ absurd (omega (arith, is, one.0))
    | inr more ↦
        let step = more.1 in
        let rest = path_of (suc d) (far s.net step.0) (far_in s.net step.0 net step.1) (omega (arith, step.4, more.2, is)) (omega (arith, low)) in
        (step.0, step.1, step.2, step.3, rest)
  ]

  exact_at : (v : ℕ) → v < nodes s.net → IsExact s v (label v)
  exact_at v l = elim (local.each v l).range [
    | inl low ↦ inl (low, path_of (label v) v l refl low, λ d path. least d v l path)
    | inr same ↦ inr (same, λ path. none path.0 v l same path.1)
  ]

  pub are_exact : AreExact s labels
  are_exact = record { len = local.len; exact = exact_at }
