use Rattle.std.proofs.Common.{arith, ◌≡◌, ◌≤◌, ◌<◌, ◌+◌, ◌∙◌, ap, vec_len, unsigned_abs, ℕ, Bool, true, false, not, ◌&&◌, pos, [], ◌∷◌, ◌++◌, All, length}
use Rattle.std.specs.List.{list_any, sum_by}
use Rattle.std.proofs.lemmas.Int.{ints}
use Rattle.std.proofs.lemmas.List.Sums.{sum_by_push}
use Rattle.std.proofs.lemmas.List.Elements.{All-weaker, All-cons}
use Rattle.sums.specs.Sums.{count_if}
use Rattle.flow_network.specs.Cut.{IsArc}
use Rattle.compile_cut.specs.declared.quadratic.Quadratic.{Quadratic}
use Rattle.compile_cut.specs.Weights.{weights_value, weights_size, arcs_value, arcs_size}
use Rattle.compile_cut.specs.Quadratics.{quadratic_value}
use Rattle.compile_cut.proofs.WeightLemmas.{weights_value-push, weights_value-same, arcs_value-same}
use Rattle.compile_cut.proofs.TiedLemmas.{paid, paid_once, paid_never, any-same, IsTiedAt, tied_lower, tied_reached, true_or_false, out_none, out_some, any_pays, any_saves, cast_is, tied_size}
use Rattle.compile_cut.proofs.quadratic.Quadratic.add_if_any.Goals as goal

arc_weaker : (n m : ℕ) (arc : Rattle.flow_network.specs.declared.arc.Arc.Arc) → n ≤ m → IsArc n arc → IsArc m arc
arc_weaker n m arc l h = record { from = omega (arith, h.from); to = omega (arith, h.to) }

pub returns-clause-tied : goal.returns-clause-tied
returns-clause-tied c =
    let old = c.args.self.now in
    let ws = old.weights.items in
    let nodes = c.args.nodes.now in
    let cost = c.args.cost in
    let items : c.push.new.self.items ≡ ws ++ pos cost ∷ [] = rw (cast_is cost (omega (arith, c.requires.cost))) at c.in_ok-push.ensures.items in
    let pushed : weights_size c.push.new.self.items ≡ weights_size ws + cost = ap weights_size items ∙ sum_by_push unsigned_abs ws (pos cost) in
    let len : vec_len c.push.new.self ≡ vec_len old.weights + 1 = c.in_ok-push.ensures.len in
    record {
      nodes = len;
      bounded = λ k terms room b. record {
        constant = omega (arith, b.constant);
        size = tied_size (weights_size ws) (arcs_size old.arcs.items) (weights_size c.push.new.self.items) (arcs_size c.add_arcs_from.new.arcs.items) (length nodes) cost k terms b.size pushed c.in_ok-add_arcs_from.ensures.size room;
        arcs = rw len (
            let n = vec_len old.weights + 1 in
            let own : c.len-hidden.result < n = omega (arith, c.len-hidden.ensures) in
            c.in_ok-add_arcs_from.ensures.nodes n (All-cons (λ v. v < n) c.len-hidden.result nodes own
            (All-weaker (λ v. v < vec_len old.weights) (λ v. v < n) (λ v l. omega (arith, l)) nodes c.requires.nodes))
            (All-weaker (IsArc (vec_len old.weights)) (IsArc n) (λ arc. arc_weaker (vec_len old.weights) n arc (omega arith)) old.arcs.items b.arcs)
            );
        above = c.in_ok-add_arcs_from.ensures.above b.above;
      };
    }

pub returns-clause-value : goal.returns-clause-value
returns-clause-value c =
    let old = c.args.self.now in
    let ws = old.weights.items in
    let nodes = c.args.nodes.now in
    let cost = c.args.cost in
    let full = old.weights.ok.0 in
    let items : c.push.new.self.items ≡ ws ++ pos cost ∷ [] = rw (cast_is cost (omega (arith, c.requires.cost))) at c.in_ok-push.ensures.items in
    let place : c.len-hidden.result ≡ length ws = c.len-hidden.ensures ∙ full in
    let new : Quadratic = record { constant = old.constant; weights = c.push.new.self; arcs = c.add_arcs_from.new.arcs } in
    let weights = λ (x : ℕ → Bool). ap (λ us. weights_value us x) items ∙ weights_value-push ws (pos cost) x in
    let below : All (λ node. node < length ws) nodes = rw full at c.requires.nodes in
    let tied : IsTiedAt (length ws) (quadratic_value old) (quadratic_value new) cost (λ x. list_any x nodes) (λ x. paid x nodes cost) true false = record {
      either = true_or_false;
      at_pays = λ x is. any_pays old.constant (weights_value ws x) (weights_value c.push.new.self.items x) (arcs_value old.arcs.items x) (arcs_value c.add_arcs_from.new.arcs.items x)
          (sum_by (λ node. count_if (x node && not (x (length ws))) cost) nodes) cost (x (length ws)) (weights x) (rw place at (c.in_ok-add_arcs_from.ensures.value x)) is (out_none x (length ws) nodes cost is);
      at_saves = λ x is. any_saves old.constant (weights_value ws x) (weights_value c.push.new.self.items x) (arcs_value old.arcs.items x) (arcs_value c.add_arcs_from.new.arcs.items x)
          (sum_by (λ node. count_if (x node && not (x (length ws))) cost) nodes) (paid x nodes cost) cost (x (length ws)) (weights x) (rw place at (c.in_ok-add_arcs_from.ensures.value x)) is (out_some x (length ws) nodes cost is);
      once = λ x. paid_once x nodes cost;
      never = λ x none. paid_never x nodes cost none;
      old_same = λ x y shown. omega (arith, ints, weights_value-same ws x y shown, arcs_value-same (length ws) old.arcs.items x y shown (rw full at c.requires.form.bounded.arcs));
      some_same = λ x y shown. any-same (length ws) x y nodes below shown;
    } in
    record {
      lower = λ x. tied_lower (length ws) (quadratic_value old) (quadratic_value new) cost (λ x. list_any x nodes) (λ x. paid x nodes cost) true false tied x;
      reached = λ x. rw full (tied_reached (length ws) (quadratic_value old) (quadratic_value new) cost (λ x. list_any x nodes) (λ x. paid x nodes cost) true false tied x);
    }
