-- What the nodes of label 0 keep while others push and get new labels.
use Rattle.std.proofs.Common.{◌≡◌, ◌≢◌, ℕ, zero, suc, ◌+◌, ◌-◌, ◌<◌, ◌⊎◌, inl, inr, Bool, true, false, List, length, map, nat_lt, set, slice_index, refl, sym, ◌∙◌, ap, arith, get_or-set_same, get_or-set_other}
use Rattle.std.proofs.lemmas.Bool.{cases_eq}
use Rattle.std.proofs.lemmas.Bool.Decides.{nat_tests}
use Rattle.std.proofs.lemmas.List.{get_or-map}
use Rattle.flow_network.specs.Cut.{Network, nodes, set_of, IsNet}
use Rattle.flow_network.specs.Preflow.{Flow, flow_by, arc_at, IsResidual, ReachesIn, Reaches, IsReach}
use Rattle.flow_network.specs.Progress.{top}
use Rattle.flow_network.proofs.Push.{moved}
use Rattle.sink_distances.specs.Distances.{AreDistancesButZeros, is_below_top}
use Rattle.sink_distances.proofs.Laws.{residual_nodes, exact-le-nodes, exact_leads}
use Rattle.plain_cut.specs.State.{LeadsByZeros, CountAsSink}

-- ---- directions of which one end has the label 0

-- arcs of which one end has the label 0 carry what they did
abbrev pub CarryAtZerosAsBefore : Network → List ℕ → List ℕ → List ℕ → Type 0
CarryAtZerosAsBefore net labels old new =
    (k : ℕ) → k < length net.arcs
    → (slice_index labels (arc_at net k).from ≡ 0) ⊎ (slice_index labels (arc_at net k).to ≡ 0)
    → slice_index new k ≡ slice_index old k

residual_kept : (net : Network) (old new : Flow) (labels : List ℕ) → CarryAtZerosAsBefore net labels old.arcs new.arcs
    → (v w : ℕ) → (slice_index labels v ≡ 0) ⊎ (slice_index labels w ≡ 0) → IsResidual net old v w → IsResidual net new v w
residual_kept net old new labels same v w (inl none) (k, l, inl (from, to, room)) =
    (k, l, inl (from, to, omega (arith, room, same k l (inl (ap (slice_index labels) from ∙ none)))))
residual_kept net old new labels same v w (inr none) (k, l, inl (from, to, room)) =
    (k, l, inl (from, to, omega (arith, room, same k l (inr (ap (slice_index labels) to ∙ none)))))
residual_kept net old new labels same v w (inl none) (k, l, inr (to, from, some)) =
    (k, l, inr (to, from, omega (arith, some, same k l (inr (ap (slice_index labels) to ∙ none)))))
residual_kept net old new labels same v w (inr none) (k, l, inr (to, from, some)) =
    (k, l, inr (to, from, omega (arith, some, same k l (inl (ap (slice_index labels) from ∙ none)))))

-- what nodes of label 0 give the sink is as before
abbrev pub GiveAtZerosAsBefore : Network → List ℕ → List ℕ → List ℕ → Type 0
GiveAtZerosAsBefore net labels old new = (v : ℕ) → v < nodes net → slice_index labels v ≡ 0 → slice_index new v ≡ slice_index old v

leads_kept : (net : Network) (old new : Flow) (labels : List ℕ) → CarryAtZerosAsBefore net labels old.arcs new.arcs
    → GiveAtZerosAsBefore net labels old.sinks new.sinks → (d v : ℕ) → slice_index labels v ≡ 0
    → LeadsByZeros net old labels d v → LeadsByZeros net new labels d v
leads_kept net old new labels same given zero v none path = path
leads_kept net old new labels same given (suc zero) v none (l, room) = (l, omega (arith, room, given v l none))
leads_kept net old new labels same given (suc (suc d)) v none (w, step, there, path) =
    (w, residual_kept net old new labels same v w (inl none) step, there, leads_kept net old new labels same given (suc d) w there path)

-- what changes at other nodes alone leaves the nodes of label 0 the sink's
pub zeros_kept : (net : Network) (old new : Flow) (kept kept' labels : List ℕ) → CountAsSink net old kept labels
    → CarryAtZerosAsBefore net labels old.arcs new.arcs → GiveAtZerosAsBefore net labels old.sinks new.sinks
    → GiveAtZerosAsBefore net labels kept kept' → CountAsSink net new kept' labels
zeros_kept net old new kept kept' labels z same given still = record {
  spent = λ v l none. still v l none ∙ z.spent v l none;
  unreached = λ v w step none. z.unreached v w (residual_kept net new old labels (λ k l at. sym (same k l at)) v w (inr none) step) none;
  leads = λ v l none.
      let path = z.leads v l none in
      (path.0, leads_kept net old new labels same given path.0 v none path.1);
}

-- ---- a push

-- a node with excess has another label, and so has each node to which a residual direction leads
-- from it
pub push_ends : (net : Network) (flow : Flow) (kept labels : List ℕ) (u w : ℕ) → CountAsSink net flow kept labels → u < nodes net
    → 0 < slice_index kept u → IsResidual net flow u w → (slice_index labels u ≢ 0) × (slice_index labels w ≢ 0)
push_ends net flow kept labels u w z l some step =
    let here : slice_index labels u ≢ 0 = λ none. omega (arith, some, z.spent u l none) in
    (here, λ none. here (z.unreached u w step none))

carry_kept : (net : Network) (labels arcs : List ℕ) (k y : ℕ) → slice_index labels (arc_at net k).from ≢ 0 → slice_index labels (arc_at net k).to ≢ 0
    → CarryAtZerosAsBefore net labels arcs (set arcs k y)
carry_kept net labels arcs k y from to j l choice = elim (cases_eq j k) [
  | inl same ↦ elim choice [
    | inl none ↦ absurd (from (ap (λ i. slice_index labels (arc_at net i).from) (sym same) ∙ none))
    | inr none ↦ absurd (to (ap (λ i. slice_index labels (arc_at net i).to) (sym same) ∙ none))
  ]
  | inr other ↦ get_or-set_other arcs k j y 0 other
]

other_at_zero : (labels : List ℕ) (u v : ℕ) → slice_index labels u ≢ 0 → slice_index labels v ≡ 0 → v ≢ u
other_at_zero labels u v some none same = some (ap (slice_index labels) (sym same) ∙ none)

excess_kept : (net : Network) (labels kept : List ℕ) (u w z : ℕ) → slice_index labels u ≢ 0 → slice_index labels w ≢ 0
    → GiveAtZerosAsBefore net labels kept (moved kept u w z)
excess_kept net labels kept u w z first second v l none =
    get_or-set_other (set kept u (slice_index kept u - z)) w v (slice_index kept w + z) 0 (other_at_zero labels w v second none)
    ∙ get_or-set_other kept u v (slice_index kept u - z) 0 (other_at_zero labels u v first none)

pub push_zeros : (net : Network) (flow : Flow) (kept labels : List ℕ) (k y u w z : ℕ) → CountAsSink net flow kept labels
    → slice_index labels (arc_at net k).from ≢ 0 → slice_index labels (arc_at net k).to ≢ 0 → slice_index labels u ≢ 0 → slice_index labels w ≢ 0
    → CountAsSink net (flow_by (set flow.arcs k y) flow.sinks) (moved kept u w z) labels
push_zeros net flow kept labels k y u w z h from to first second =
    zeros_kept net flow (flow_by (set flow.arcs k y) flow.sinks) kept (moved kept u w z) labels h (carry_kept net labels flow.arcs k y from to)
    (λ v l none. refl) (excess_kept net labels kept u w z first second)

pub give_zeros : (net : Network) (flow : Flow) (kept labels : List ℕ) (u y x : ℕ) → CountAsSink net flow kept labels → u < nodes net → 0 < slice_index kept u
    → CountAsSink net (flow_by flow.arcs (set flow.sinks u y)) (set kept u x) labels
give_zeros net flow kept labels u y x h l some =
    let here : slice_index labels u ≢ 0 = λ none. omega (arith, some, h.spent u l none) in
    zeros_kept net flow (flow_by flow.arcs (set flow.sinks u y)) kept (set kept u x) labels h (λ k lk at. refl)
    (λ v lv none. get_or-set_other flow.sinks u v y 0 (other_at_zero labels u v here none))
    (λ v lv none. get_or-set_other kept u v x 0 (other_at_zero labels u v here none))

-- ---- new labels

leads_relabelled : (net : Network) (flow : Flow) (old new : List ℕ) → IsNet net → ((v : ℕ) → v < nodes net → slice_index old v ≡ 0 → slice_index new v ≡ 0)
    → (d v : ℕ) → LeadsByZeros net flow old d v → LeadsByZeros net flow new d v
leads_relabelled net flow old new h stay zero v path = path
leads_relabelled net flow old new h stay (suc zero) v path = path
leads_relabelled net flow old new h stay (suc (suc d)) v (w, step, there, path) =
    (w, step, stay w (residual_nodes net flow v w h step).1 there, leads_relabelled net flow old new h stay (suc d) w path)

-- labels that are 0 where they were
pub zeros_relabelled : (net : Network) (flow : Flow) (kept old new : List ℕ) → IsNet net → CountAsSink net flow kept old
    → ((v : ℕ) → v < nodes net → slice_index old v ≡ 0 → slice_index new v ≡ 0) → ((v : ℕ) → v < nodes net → slice_index new v ≡ 0 → slice_index old v ≡ 0)
    → CountAsSink net flow kept new
zeros_relabelled net flow kept old new h z stay were = record {
  spent = λ v l none. z.spent v l (were v l none);
  unreached = λ v w step none.
      let ends = residual_nodes net flow v w h step in
      stay v ends.0 (z.unreached v w step (were w ends.1 none));
  leads = λ v l none.
      let path = z.leads v l (were v l none) in
      (path.0, leads_relabelled net flow old new h stay path.0 v path.1);
}

pub relabel_zeros : (net : Network) (flow : Flow) (kept labels : List ℕ) (u j : ℕ) → IsNet net → CountAsSink net flow kept labels
    → u < nodes net → u < length labels → 0 < slice_index kept u → 0 < j → CountAsSink net flow kept (set labels u j)
relabel_zeros net flow kept labels u j h z l long some up =
    let here : slice_index labels u ≢ 0 = λ none. omega (arith, some, z.spent u l none) in
    zeros_relabelled net flow kept labels (set labels u j) h z
    (λ v lv none. get_or-set_other labels u v j 0 (other_at_zero labels u v here none) ∙ none)
    (λ v lv none. elim (cases_eq v u) [
      | inl same ↦ absurd (omega (arith, ap (slice_index (set labels u j)) same, get_or-set_same labels u j 0 long, up, none))
      | inr other ↦ sym (get_or-set_other labels u v j 0 other) ∙ none
    ])

-- where no label is 0, none counts as the sink
pub no_zeros : (net : Network) (flow : Flow) (kept labels : List ℕ) → IsNet net → ((v : ℕ) → v < nodes net → slice_index labels v ≢ 0)
    → CountAsSink net flow kept labels
no_zeros net flow kept labels h some = record {
  spent = λ v l none. absurd (some v l none);
  unreached = λ v w step none. absurd (some w (residual_nodes net flow v w h step).1 none);
  leads = λ v l none. absurd (some v l none);
}

-- ---- where the other labels are exact

leads_reaches : (net : Network) (flow : Flow) (labels : List ℕ) (d v : ℕ) → LeadsByZeros net flow labels d v → ReachesIn net flow d v
leads_reaches net flow labels zero v path = path
leads_reaches net flow labels (suc zero) v path = path
leads_reaches net flow labels (suc (suc d)) v (w, step, there, path) = (w, step, leads_reaches net flow labels (suc d) w path)

-- a node whose label is below the top reaches the sink
pub below_reaches : (net : Network) (flow : Flow) (kept labels : List ℕ) → CountAsSink net flow kept labels → AreDistancesButZeros net flow labels
    → (v : ℕ) → v < nodes net → slice_index labels v < top net → Reaches net flow v
below_reaches net flow kept labels z exact v l low = elim (cases_eq (slice_index labels v) 0) [
  | inl none ↦
      let path = z.leads v l none in
      (path.0, leads_reaches net flow labels path.0 v path.1)
  | inr some ↦ (slice_index labels v, exact_leads net flow v (slice_index labels v) (exact.exact v l some) low)
]

-- a node that reaches the sink has a label below the top
pub reaches_below : (net : Network) (flow : Flow) (labels : List ℕ) → AreDistancesButZeros net flow labels
    → (v : ℕ) → v < nodes net → Reaches net flow v → slice_index labels v < top net
reaches_below net flow labels exact v l reach = elim (cases_eq (slice_index labels v) 0) [
  | inl none ↦ omega (arith, none)
  | inr some ↦ omega (arith, exact-le-nodes net flow v (slice_index labels v) (exact.exact v l some) reach)
]

-- the bits that tell which labels are below the top tell which nodes reach the sink
pub zeros_reach : (net : Network) (flow : Flow) (kept labels : List ℕ) (bits : List Bool) → CountAsSink net flow kept labels → AreDistancesButZeros net flow labels
    → bits ≡ map (λ (label : ℕ). nat_lt label (top net)) labels → IsReach net flow (set_of bits)
zeros_reach net flow kept labels bits z exact same =
    let at : (v : ℕ) → v < nodes net → set_of bits v ≡ is_below_top net labels v = λ v l.
    ap (λ (xs : List Bool). set_of xs v) same ∙ get_or-map (λ (label : ℕ). nat_lt label (top net)) labels v 0 false (omega (arith, l, exact.len)) in
    record {
      sound = λ v l inside.
          let low : is_below_top net labels v ≡ true = sym (at v l) ∙ inside in
          let less : slice_index labels v < top net = grind (arith, nat_tests) in
          below_reaches net flow kept labels z exact v l less;
      complete = λ v l reach.
          let less = reaches_below net flow labels exact v l reach in
          let low : is_below_top net labels v ≡ true = grind (arith, nat_tests) in
          at v l ∙ low;
    }
