-- Labels that do not fall, and are not above the top, leave no more to do.
use Rattle.std.proofs.Common.{◌≡◌, ℕ, zero, suc, ◌+◌, ◌-◌, ◌*◌, ◌<◌, ◌≤◌, List, slice_index, ap, arith}
use Rattle.sums.specs.Sums.{sum_below}
use Rattle.flow_network.specs.Cut.{Network, nodes, IsNet, total_capacity}
use Rattle.flow_network.specs.Preflow.{Flow}
use Rattle.flow_network.specs.Labels.{IsLabelling}
use Rattle.flow_network.specs.Progress.{top, IsLabelledPreflow, work_left}
use Rattle.flow_network.proofs.Moves.{kept-le-total}
use Rattle.plain_cut.specs.declared.work.Work.{Work}
use Rattle.plain_cut.specs.State.{work_flow, IsWork, IsRaised}
use Rattle.plain_cut.proofs.Zeros.{zeros_relabelled}

sum_times : (x y k : ℕ) → (x + y) * k ≡ x * k + y * k
sum_times x y k = grind arith

-- a label that rises by j takes as much from what is left to rise as it adds to the height, or more
rise_pays : (e g d j k : ℕ) → e < k → g * k + e * (d + j + 1) ≤ (g + j) * k + e * (d + 1)
rise_pays e g d j k h =
    let step : e * j ≤ k * j = grind arith in
    grind arith

one_pays : (t k e a b : ℕ) → a ≤ b → b ≤ t → e < k → (t - b) * k + e * (b + 1) ≤ (t - a) * k + e * (a + 1)
one_pays t k e a b up fits small =
    let pays = rise_pays e (t - b) a (b - a) k small in
    let gap : (t - b) + (b - a) ≡ t - a = omega arith in
    let sum : a + (b - a) + 1 ≡ b + 1 = omega arith in
    omega (arith, pays, ap (λ q. q * k) gap, ap (λ q. e * q) sum)

all_pay : (n t k : ℕ) (e a b : ℕ → ℕ) → ((v : ℕ) → v < n → (a v ≤ b v) × (b v ≤ t) × (e v < k))
    → sum_below n (λ v. t - b v) * k + sum_below n (λ v. e v * (b v + 1)) ≤ sum_below n (λ v. t - a v) * k + sum_below n (λ v. e v * (a v + 1))
all_pay zero t k e a b h = omega arith
all_pay (suc n) t k e a b h =
    let here = h n (omega arith) in
    omega (
      arith,
      all_pay n t k e a b (λ v l. h v (omega arith)),
      one_pays t k (e n) (a n) (b n) here.0 here.1 here.2,
      sum_times (sum_below n (λ v. t - b v)) (t - b n) k,
      sum_times (sum_below n (λ v. t - a v)) (t - a n) k,
    )

-- the work that is left does not grow
pub raise_lowers : (net : Network) (flow : Flow) (kept labels new : List ℕ) → IsNet net → IsLabelledPreflow net flow kept labels
    → ((v : ℕ) → v < nodes net → slice_index labels v ≤ slice_index new v) → ((v : ℕ) → v < nodes net → slice_index new v ≤ top net)
    → work_left net kept new ≤ work_left net kept labels
raise_lowers net flow kept labels new h s up fits =
    all_pay (nodes net) (top net) (total_capacity net + 1) (slice_index kept) (slice_index labels) (slice_index new)
    (λ v l. (up v l, fits v l, omega (arith, kept-le-total net flow kept labels h s v l)))

-- what is sound stays so
pub raise_sound : (net : Network) (flow : Flow) (kept labels new : List ℕ) → IsLabelledPreflow net flow kept labels
    → IsLabelling net flow new → ((v : ℕ) → v < nodes net → slice_index new v ≤ top net) → IsLabelledPreflow net flow kept new
raise_sound net flow kept labels new s fits low = record {
  preflow = s.preflow;
  kept_len = s.kept_len;
  told = s.told;
  labelling = fits;
  below_top = low;
}

-- ---- over the work

-- labels that fit the flow, did not fall, and are 0 where they were
pub raise_fit : (net : Network) (old new : Work) → IsNet net → IsWork net old
    → new.rows ≡ old.rows → new.rooms.items ≡ old.rooms.items
    → new.excess.items ≡ old.excess.items → new.queue.items ≡ old.queue.items
    → IsLabelling net (work_flow net old) new.labels.items
    → ((v : ℕ) → v < nodes net → slice_index old.labels.items v ≤ slice_index new.labels.items v)
    → ((v : ℕ) → v < nodes net → slice_index new.labels.items v ≤ top net)
    → ((v : ℕ) → v < nodes net → slice_index old.labels.items v ≡ 0 → slice_index new.labels.items v ≡ 0) → IsRaised net old new
raise_fit net old new h s ea es ee eq fits up low stay = record {
  work = record {
    zeros = rw (ea, es, ee) (zeros_relabelled net (work_flow net old) old.excess.items old.labels.items new.labels.items h s.zeros stay
        (λ v l none. omega (arith, none, up v l)));
    sound = rw (ea, es, ee) (raise_sound net (work_flow net old) old.excess.items old.labels.items new.labels.items s.sound fits low);
    shown = rw ea s.shown;
    rooms = rw es s.rooms;
    queue = rw eq s.queue;
  };
  fall = rw ee (raise_lowers net (work_flow net old) old.excess.items old.labels.items new.labels.items h s.sound up low);
  labels = up;
  excess = ee;
  queue = eq;
}
