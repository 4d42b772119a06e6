use Rattle.std.proofs.Common.{arith, ◌≡◌, ◌≤◌, ◌<◌, ◌+◌, ◌∙◌, ap, ℕ, Bool, true, false, not, ◌&&◌, ◌+ℤ◌, pos, neg_ℤ, [], ◌∷◌, ◌++◌, All, length, vec_len, unsigned_abs}
use Rattle.std.specs.List.{list_all, sum_by}
use Rattle.std.proofs.lemmas.Int.{ints}
use Rattle.std.proofs.lemmas.List.Sums.{sum_by_push}
use Rattle.std.proofs.lemmas.List.Elements.{All-weaker, All-cons}
use Rattle.sums.specs.Sums.{count_if}
use Rattle.flow_network.specs.Cut.{IsArc}
use Rattle.compile_cut.specs.declared.quadratic.Quadratic.{Quadratic}
use Rattle.compile_cut.specs.Weights.{weights_value, weights_size, arcs_value, arcs_size}
use Rattle.compile_cut.specs.Quadratics.{quadratic_value}
use Rattle.compile_cut.proofs.WeightLemmas.{weights_value-push, weights_value-same, arcs_value-same}
use Rattle.compile_cut.proofs.TiedLemmas.{paid, paid_once, paid_never, any_not, all-same, IsTiedAt, tied_lower, tied_reached, false_or_true, into_none, into_some, unless_pays, unless_saves, minus_cast, plus_cast, tied_constant, tied_size}
use Rattle.compile_cut.proofs.quadratic.Quadratic.add_unless_all.Goals as goal

arc_weaker : (n m : ℕ) (arc : Rattle.flow_network.specs.declared.arc.Arc.Arc) → n ≤ m → IsArc n arc → IsArc m arc
arc_weaker n m arc l h = record { from = omega (arith, h.from); to = omega (arith, h.to) }

pub returns-clause-tied : goal.returns-clause-tied
returns-clause-tied c =
    let old = c.args.self.now in
    let ws = old.weights.items in
    let nodes = c.args.nodes.now in
    let cost = c.args.cost in
    let small : cost ≤ 1000000000 = omega (arith, c.requires.cost) in
    let items : c.push.new.self.items ≡ ws ++ neg_ℤ (pos cost) ∷ [] = rw (minus_cast cost small) at c.in_ok-push.ensures.items in
    let pushed : weights_size c.push.new.self.items ≡ weights_size ws + cost =
    ap weights_size items ∙ sum_by_push unsigned_abs ws (neg_ℤ (pos cost)) ∙ (let e : unsigned_abs (neg_ℤ (pos cost)) ≡ cost = omega (arith, ints) in ap (λ u. weights_size ws + u) e) in
    let big : unsigned_abs old.constant ≤ 1000000000000000000 = omega (arith, c.requires.form.bounded.constant) in
    let len : vec_len c.push.new.self ≡ vec_len old.weights + 1 = c.in_ok-push.ensures.len in
    rw (plus_cast old.constant cost big small) (record {
      nodes = len;
      bounded = λ k terms room b. record {
        constant = tied_constant old.constant cost (length nodes + 1) cost k terms b.constant (omega arith) (omega arith) room;
        size = tied_size (weights_size ws) (arcs_size old.arcs.items) (weights_size c.push.new.self.items) (arcs_size c.add_arcs_to.new.arcs.items) (length nodes) cost k terms b.size pushed c.in_ok-add_arcs_to.ensures.size room;
        arcs = rw len (
            let n = vec_len old.weights + 1 in
            let own : c.len-hidden.result < n = omega (arith, c.len-hidden.ensures) in
            c.in_ok-add_arcs_to.ensures.nodes n (All-cons (λ v. v < n) c.len-hidden.result nodes own
            (All-weaker (λ v. v < vec_len old.weights) (λ v. v < n) (λ v l. omega (arith, l)) nodes c.requires.nodes))
            (All-weaker (IsArc (vec_len old.weights)) (IsArc n) (λ arc. arc_weaker (vec_len old.weights) n arc (omega arith)) old.arcs.items b.arcs)
            );
        above = c.in_ok-add_arcs_to.ensures.above b.above;
      };
    })

pub returns-clause-value : goal.returns-clause-value
returns-clause-value c =
    let old = c.args.self.now in
    let ws = old.weights.items in
    let nodes = c.args.nodes.now in
    let cost = c.args.cost in
    let full = old.weights.ok.0 in
    let small : cost ≤ 1000000000 = omega (arith, c.requires.cost) in
    let big : unsigned_abs old.constant ≤ 1000000000000000000 = omega (arith, c.requires.form.bounded.constant) in
    let items : c.push.new.self.items ≡ ws ++ neg_ℤ (pos cost) ∷ [] = rw (minus_cast cost small) at c.in_ok-push.ensures.items in
    let place : c.len-hidden.result ≡ length ws = c.len-hidden.ensures ∙ full in
    let new : Quadratic = record { constant = old.constant +ℤ pos cost; weights = c.push.new.self; arcs = c.add_arcs_to.new.arcs } in
    let weights = λ (x : ℕ → Bool). ap (λ us. weights_value us x) items ∙ weights_value-push ws (neg_ℤ (pos cost)) x in
    let below : All (λ node. node < length ws) nodes = rw full at c.requires.nodes in
    let s = λ (x : ℕ → Bool). paid (λ v. not (x v)) nodes cost in
    let some = λ (x : ℕ → Bool). not (list_all x nodes) in
    let tied : IsTiedAt (length ws) (quadratic_value old) (quadratic_value new) cost some s false true = record {
      either = false_or_true;
      at_pays = λ x is. unless_pays old.constant (weights_value ws x) (weights_value c.push.new.self.items x) (arcs_value old.arcs.items x) (arcs_value c.add_arcs_to.new.arcs.items x)
          (sum_by (λ node. count_if (x (length ws) && not (x node)) cost) nodes) cost (x (length ws)) (weights x) (rw place at (c.in_ok-add_arcs_to.ensures.value x)) is (into_none x (length ws) nodes cost is);
      at_saves = λ x is. unless_saves old.constant (weights_value ws x) (weights_value c.push.new.self.items x) (arcs_value old.arcs.items x) (arcs_value c.add_arcs_to.new.arcs.items x)
          (sum_by (λ node. count_if (x (length ws) && not (x node)) cost) nodes) (s x) cost (x (length ws)) (weights x) (rw place at (c.in_ok-add_arcs_to.ensures.value x)) is (into_some x (length ws) nodes cost is);
      once = λ x. omega (arith, paid_once (λ v. not (x v)) nodes cost, ap (λ (b : Bool). count_if b cost) (any_not x nodes));
      never = λ x none. paid_never (λ v. not (x v)) nodes cost (any_not x nodes ∙ none);
      old_same = λ x y shown. omega (arith, ints, weights_value-same ws x y shown, arcs_value-same (length ws) old.arcs.items x y shown (rw full at c.requires.form.bounded.arcs));
      some_same = λ x y shown. ap not (all-same (length ws) x y nodes below shown);
    } in
    rw (plus_cast old.constant cost big small) (record {
      lower = λ x. tied_lower (length ws) (quadratic_value old) (quadratic_value new) cost some s false true tied x;
      reached = λ x. rw full (tied_reached (length ws) (quadratic_value old) (quadratic_value new) cost some s false true tied x);
    })
