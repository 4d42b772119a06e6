use Rattle.std.proofs.Common.{arith, ◌≡◌, ◌≤◌, ◌<◌, ◌+◌, ◌∙◌, ap, ℕ, Bool, ◌+ℤ◌, [], ◌∷◌, ◌++◌, All, length, vec_len, unsigned_abs}
use Rattle.std.proofs.lemmas.Int.{ints}
use Rattle.std.proofs.lemmas.List.Sums.{sum_by_push}
use Rattle.std.proofs.lemmas.List.Elements.{All-weaker, All-cons}
use Rattle.sums.proofs.IntegerSumLemmas.{abs-add}
use Rattle.flow_network.specs.declared.arc.Arc.{Arc}
use Rattle.flow_network.specs.Cut.{IsArc}
use Rattle.compile_cut.specs.declared.quadratic.Quadratic.{Quadratic}
use Rattle.compile_cut.specs.Shown.{Shows}
use Rattle.compile_cut.specs.Weights.{weights_value, weights_size, arcs_value}
use Rattle.compile_cut.specs.Quadratics.{quadratic_value}
use Rattle.compile_cut.specs.Three.{part_value}
use Rattle.compile_cut.proofs.PartLemmas.{constant_is, passed_is}
use Rattle.compile_cut.proofs.WeightLemmas.{both_below, weights_value-push, weights_value-same, arcs_value-same, three_more, reaches}
use Rattle.compile_cut.proofs.quadratic.Quadratic.add_three.Goals as goal

pub add_three_weights-requires-clause-room : goal.add_three_weights-requires-clause-room
add_three_weights-requires-clause-room c =
    let p = c.split_three-part.result in
    let s = c.split_three-part.ensures.small in
    let ws = c.args.self.now.weights.items in
    let items : c.push.new.self.items ≡ ws ++ p.hidden ∷ [] = rw (passed_is p.hidden (omega (arith, s.hidden))) at c.in_ok-push.ensures.items in
    rw items (omega (arith, sum_by_push unsigned_abs ws p.hidden, s.hidden, c.requires.form.bounded.size))

arc_weaker : (n m : ℕ) (arc : Arc) → n ≤ m → IsArc n arc → IsArc m arc
arc_weaker n m arc l h = record { from = omega (arith, h.from); to = omega (arith, h.to) }

pub returns : goal.returns
returns c =
    let p = c.split_three-part.result in
    let s = c.split_three-part.ensures.small in
    let least = c.split_three-part.ensures.value in
    let ws = c.args.self.now.weights.items in
    let q = c.args.self.now.constant in
    let nodes = c.args.nodes in
    let full = c.args.self.now.weights.ok.0 in
    let hid = passed_is p.hidden (omega (arith, s.hidden)) in
    let items : c.push.new.self.items ≡ ws ++ p.hidden ∷ [] = rw hid at c.in_ok-push.ensures.items in
    let pushed : weights_size c.push.new.self.items ≡ weights_size ws + unsigned_abs p.hidden = ap weights_size items ∙ sum_by_push unsigned_abs ws p.hidden in
    let more = rw hid at c.in_ok-add_hidden_arcs.ensures.size in
    let old : unsigned_abs q ≤ 1000000000000000000 = omega (arith, c.requires.form.bounded.constant) in
    let new : unsigned_abs p.constant ≤ 1000000000000000000 = omega (arith, s.constant) in
    let len : vec_len c.add_three_weights.new.weights ≡ vec_len c.args.self.now.weights + 1 = c.add_three_weights.ensures.len ∙ c.in_ok-push.ensures.len in
    let n = vec_len c.args.self.now.weights + 1 in
    let h : c.len-hidden.result < n = omega (arith, c.len-hidden.ensures) in
    let first : nodes.first < n = omega (arith, c.requires.nodes.first) in
    let second : nodes.second < n = omega (arith, c.requires.nodes.second) in
    let third : nodes.third < n = omega (arith, c.requires.nodes.third) in
    let ends : All (λ end. end < n) (nodes.first ∷ nodes.second ∷ nodes.third ∷ []) =
    All-cons (λ end. end < n) nodes.first (nodes.second ∷ nodes.third ∷ []) first (both_below n nodes.second nodes.third second third) in
    let all_ends = All-cons (λ end. end < n) c.len-hidden.result (nodes.first ∷ nodes.second ∷ nodes.third ∷ []) h ends in
    let place : c.len-hidden.result ≡ length ws = c.len-hidden.ensures ∙ full in
    let after : Quadratic = record { constant = q +ℤ p.constant; weights = c.add_three_weights.new.weights; arcs = c.add_hidden_arcs.new.arcs } in
    let is : (x : ℕ → Bool) → quadratic_value after x ≡ quadratic_value c.args.self.now x +ℤ part_value p (x (length ws)) (x nodes.first) (x nodes.second) (x nodes.third) =
    λ x.
    let hidden = ap (λ us. weights_value us x) items ∙ weights_value-push ws p.hidden x in
    let arcs = rw (hid, place) at (c.in_ok-add_hidden_arcs.ensures.value x) in
    three_more q (weights_value ws x) (weights_value c.push.new.self.items x) (weights_value c.add_three_weights.new.weights.items x)
    (arcs_value c.args.self.now.arcs.items x) (arcs_value c.add_three_arcs.new.arcs.items x) (arcs_value c.add_hidden_arcs.new.arcs.items x)
    p (x (length ws)) (x nodes.first) (x nodes.second) (x nodes.third) hidden (omega (arith, ints, c.add_three_weights.ensures.value x)) (omega (arith, c.in_ok-add_three_arcs.ensures.value x)) arcs in
    let same : (x y : ℕ → Bool) → Shows (length ws) x y → quadratic_value c.args.self.now y ≡ quadratic_value c.args.self.now x =
    λ x y shown. omega (arith, ints, weights_value-same ws x y shown, arcs_value-same (length ws) c.args.self.now.arcs.items x y shown (rw full at c.requires.form.bounded.arcs)) in
    rw (constant_is q p.constant old new)
    (record {
      nodes = len;
      bounded = λ k b.
          let arcs = All-weaker (IsArc (vec_len c.args.self.now.weights)) (IsArc n) (λ arc. arc_weaker (vec_len c.args.self.now.weights) n arc (omega arith)) c.args.self.now.arcs.items b.arcs in
          record {
            constant = omega (arith, abs-add q p.constant, b.constant, s.constant);
            size = omega (arith, b.size, pushed, more, c.add_three_weights.ensures.size, c.in_ok-add_three_arcs.ensures.size, s.arcs, s.hidden);
            arcs = rw len (c.in_ok-add_hidden_arcs.ensures.nodes n all_ends (c.in_ok-add_three_arcs.ensures.nodes n ends arcs));
            above = c.in_ok-add_hidden_arcs.ensures.above (c.in_ok-add_three_arcs.ensures.above b.above);
          };
      lower = λ x. omega (arith, ints, is x, least.lower (x (length ws)) (x nodes.first) (x nodes.second) (x nodes.third));
      reached = λ x. rw full
          (reaches (length ws) (quadratic_value c.args.self.now) (quadratic_value after) c.args.table.now p nodes.first nodes.second nodes.third
          (rw full at c.requires.nodes.first) (rw full at c.requires.nodes.second) (rw full at c.requires.nodes.third) least is same x);
    })
