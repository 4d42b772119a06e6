use Rattle.std.proofs.Common.{◌≡◌, ℕ, ◌+◌, ◌<◌, List, [], ◌∷◌, ◌++◌, inl, inr, length, slice_index, All, Contains, refl, sym, ◌∙◌, ap, subst, arith}
use Rattle.std.proofs.lemmas.Bool.{cases_lt}
use Rattle.std.proofs.lemmas.List.Elements.{All-push, Contains-append_left, Contains-push}
use Rattle.std.proofs.lemmas.Result.{IfOk-from_err}
use Rattle.plain_cut.proofs.work.queue_again.Goals as goal
use Rattle.plain_cut.proofs.work.queue_again.Goals.{then-excess-v-gt0+then-labels-v+in_ok-push_back, else-excess-v-gt0, else-excess-v-gt0-via-then-excess-v-gt0+else-labels-v, else-excess-v-gt0-via-else-excess-v-gt0}

-- of the first so many nodes of a list exactly those that have excess and a label below the limit
-- are queued
abbrev Queued : ℕ → List ℕ → ℕ → ℕ → List ℕ → List ℕ → List ℕ → Type 0
Queued n found i limit excess labels xs =
    All (λ v. v < n) xs
    × ((k : ℕ) → k < i → 0 < slice_index excess (slice_index found k) → slice_index labels (slice_index found k) < limit → Contains xs (slice_index found k))
    × All (λ v. slice_index labels v < limit) xs

one_queued : (n : ℕ) (found : List ℕ) (i limit v : ℕ) (excess labels xs : List ℕ) → v ≡ slice_index found i → v < n → slice_index labels v < limit → Queued n found i limit excess labels xs
    → Queued n found (i + 1) limit excess labels (xs ++ v ∷ [])
one_queued n found i limit v excess labels xs is inside near q = (
  All-push (λ v. v < n) xs v q.0 inside,
  λ k before some low. elim (cases_lt k i) [
    | inl lower ↦ Contains-append_left xs (v ∷ []) (slice_index found k) (q.1 k lower some low)
    | inr after ↦
        let same : v ≡ slice_index found k = is ∙ ap (slice_index found) (omega (arith, before, after)) in
        let P : ℕ → Type 0 = λ x. Contains (xs ++ v ∷ []) x in
        subst P same (Contains-push xs v)
  ],
  All-push (λ v. slice_index labels v < limit) xs v q.2 near,
)

none_queued : (n : ℕ) (found : List ℕ) (i limit v : ℕ) (excess labels xs : List ℕ) → v ≡ slice_index found i → (0 < slice_index excess v → slice_index labels v < limit → ⊥)
    → Queued n found i limit excess labels xs → Queued n found (i + 1) limit excess labels xs
none_queued n found i limit v excess labels xs is idle q = (
  q.0,
  λ k before some low. elim (cases_lt k i) [
    | inl lower ↦ q.1 k lower some low
    | inr after ↦
        let same : slice_index found k ≡ v = ap (slice_index found) (omega (arith, before, after)) ∙ sym is in
        let E : ℕ → Type 0 = λ x. 0 < slice_index excess x in
        let L : ℕ → Type 0 = λ x. slice_index labels x < limit in
        absurd (idle (subst E same some) (subst L same low))
  ],
  q.2,
)

pub nodes-init : goal.nodes-init
nodes-init c =
    let none = ap (length {A = ℕ}) c.clear.ensures.items in
    record {
      nodes = λ k d inside. absurd (omega (arith, inside, none));
      all = λ k before. absurd (omega (arith, before));
      aside = λ k d inside. absurd (omega (arith, inside, none));
    }

pub nodes-preserved : goal.nodes-preserved
nodes-preserved c =
    let i = c.nodes.place in
    let found = c.args.found.now in
    let limit = c.args.limit in
    let excess = c.args.excess.now in
    let labels = c.args.labels.now in
    let v = slice_index found i in
    let inside : v < length excess = c.requires.inside i c.nodes-test.true in
    let old : Queued (length excess) found i limit excess labels c.nodes.queue.items = (c.nodes.invariant.nodes, c.nodes.invariant.all, c.nodes.invariant.aside) in
    let made : Queued (length excess) found (i + 1) limit excess labels c.if-excess-v-gt0.queue.items = elim c.if-excess-v-gt0.branch [
      | then-excess-v-gt0+then-labels-v+in_ok-push_back w ↦
          rw (w.queue-is, w.in_ok-push_back.ensures.items) (one_queued (length excess) found i limit v excess labels c.nodes.queue.items refl inside (omega (arith, w.if-labels-v.true)) old)
      | else-excess-v-gt0 w ↦
          rw w.queue-is
          (none_queued (length excess) found i limit v excess labels c.nodes.queue.items refl
          (λ some low. elim w.else-excess-v-gt0.branch [
            | else-excess-v-gt0-via-then-excess-v-gt0+else-labels-v w' ↦ absurd (omega (arith, w'.if-labels-v.false, low))
            | else-excess-v-gt0-via-else-excess-v-gt0 w' ↦ absurd (omega (arith, w'.if-excess-v-gt0.false, some))
          ]) old)
    ] in
    record { nodes = made.0; all = made.1; aside = made.2 }

pub returns-in_err-push_back : goal.returns-in_err-push_back
returns-in_err-push_back c =
    let e = c.from_residual.ensures.0 in
    record { nodes = IfOk-from_err _ _ e; all = IfOk-from_err _ _ e; aside = IfOk-from_err _ _ e }

pub returns : goal.returns
returns c = record {
  nodes = c.nodes.invariant.nodes;
  all = λ v among some low.
      let k = among.0 in
      let E : ℕ → Type 0 = λ x. 0 < slice_index c.args.excess.now x in
      let L : ℕ → Type 0 = λ x. slice_index c.args.labels.now x < c.args.limit in
      subst (λ (x : ℕ). Contains c.nodes.queue.items x) among.2
      (c.nodes.invariant.all k (omega (arith, among.1, c.nodes-test.false)) (subst E (sym among.2) some) (subst L (sym among.2) low));
  aside = c.nodes.invariant.aside;
}
