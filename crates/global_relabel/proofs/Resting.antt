-- What exact labels tell of the end of the work.
use Rattle.std.proofs.Common.{◌≡◌, ℕ, zero, suc, ◌+◌, ◌<◌, ◌≤◌, List, length, slice_index, refl, ◌∙◌, ap, subst, inl, inr, arith}
use Rattle.std.proofs.lemmas.Bool.{cases_lt}
use Rattle.flow_network.specs.Cut.{nodes}
use Rattle.flow_network.specs.Progress.{top}
use Rattle.block_events.specs.declared.event.Event.TheVariants.{RaiseAll}
use Rattle.block_events.specs.declared.lane.Lane.{Lane}
use Rattle.block_events.specs.States.{State, excess_of}
use Rattle.block_events.specs.Directions.{far}
use Rattle.block_events.specs.Reach.{ReachesSinkIn, ReachesSink, AreExact}
use Rattle.block_events.specs.Events.{IsQuiet, Happens, after_raise_all}
use Rattle.block_events.specs.Soundness.{IsFinished}
use Rattle.block_events.proofs.Raising.{told_is}
use Rattle.block_net.specs.Views.{count, excess_in}
use Rattle.block_net.specs.Whole.{Whole, LiesAt, block_at, node_block, place}
use Rattle.block_split.specs.declared.parts.Parts.{Parts}
use Rattle.block_split.specs.Split.{whole_of}
use Rattle.net_in_blocks.specs.Views.{blocks_in}
use Rattle.block_state.specs.Parts.{IsIn}
use Rattle.net_in_blocks.proofs.Steps.{excess_read}
use Rattle.global_relabel.specs.Rest.{IsAtRest}

-- a path is one after the labels have changed, too
path_raised : (s : State) (labels : List ℕ) (d v : ℕ) → ReachesSinkIn s d v → ReachesSinkIn (after_raise_all s labels) d v
path_raised s labels zero v path = absurd path
path_raised s labels (suc zero) v path = path
path_raised s labels (suc (suc d)) v (x, is, near, some, rest) =
    (x, is, near, omega (arith, some, ap (λ (lane : Lane). lane.residual) (told_is s labels x is)), path_raised s labels (suc d) (far s.net x) rest)

-- a state is not finished after the labels became exact, where it was not before
pub unfinished_raised : (s t : State) → IsQuiet s → Happens s RaiseAll t → ¬ IsFinished s → ¬ IsFinished t
unfinished_raised s t quiet happens unfinished = λ done.
    let labels = happens.effect.0 in
    let after : IsFinished (after_raise_all s labels) = subst IsFinished happens.effect.2 done in
    unfinished (record {
      quiet = quiet;
      ended = λ v l some path. after.ended v l some (path.0, path_raised s labels path.0 v path.1);
    })

-- ---- what the blocks tell

module _ (s : State) (p : Parts) (labels : List ℕ) (is : IsIn s p) (exact : AreExact s labels) where
  abbrev w : Whole
  w = whole_of s.net p

  abbrev first : ℕ → ℕ
  first b = slice_index p.firsts.items b

  -- a node with a label below the top one reaches the sink, and no other does
  low_leads : (v : ℕ) → v < nodes s.net → slice_index labels v < top s.net → ReachesSink s v
  low_leads v l low = elim (exact.exact v l) [
    | inl near ↦ (slice_index labels v, near.1)
    | inr far ↦ absurd (omega (arith, far.0, low))
  ]

  high_ends : (v : ℕ) → v < nodes s.net → top s.net ≤ slice_index labels v → ¬ ReachesSink s v
  high_ends v l high = elim (exact.exact v l) [
    | inl near ↦ absurd (omega (arith, near.0, high))
    | inr far ↦ far.1
  ]

  -- the node at a place of a block
  module _ (b q : ℕ) (lb : b < length p.blocks.items) (lq : q < count (block_at w b)) where
    there : (v : ℕ) × LiesAt w b q v
    there = is.laid.filled.nodes b q lb lq

    number : first b + q ≡ there.0
    number =
        let lies = there.1 in
        omega (arith, ap first lies.node_block, lies.place, is.laid.placed.firsts there.0 lies.node)

    pub place_below : first b + q < length labels
    place_below = omega (arith, number, there.1.node, exact.len)

    excess_there : excess_in (block_at w b) q ≡ excess_of s there.0
    excess_there =
        let lies = there.1 in
        excess_read w (blocks_in w) b (block_at w b) there.0 q (record { laid = is.laid; view = refl; block = lb; is = refl })
        (record { node = lies.node; node_block = lies.node_block; place = lies.place; block = lb })
        ∙ ap (λ (t : State). excess_of t there.0) is.shown

    rests : IsFinished s → 0 < excess_in (block_at w b) q → (block_at w b).top ≤ slice_index labels (first b + q)
    rests done some =
        let v = there.0 in
        let l = there.1.node in
        elim (cases_lt (slice_index labels v) (top s.net)) [
          | inl low ↦ absurd (done.ended v l (omega (arith, some, excess_there)) (low_leads v l low))
          | inr high ↦ omega (arith, high, is.laid.placed.tops b lb, ap (slice_index labels) number)
        ]

  pub rest_of_finished : IsFinished s → (b : ℕ) → b < length p.blocks.items → IsAtRest (block_at w b) (first b) labels
  rest_of_finished done b lb = λ q lq some. rests b q lb lq done some

  pub finished_of_rest : IsQuiet s → ((b : ℕ) → b < length p.blocks.items → IsAtRest (block_at w b) (first b) labels) → IsFinished s
  finished_of_rest quiet all = record {
    quiet = quiet;
    ended = λ v l some.
        let b = node_block w v in
        let lb = is.laid.placed.node_blocks v l in
        let q = place w v in
        let lq = is.laid.placed.places v l in
        let number : first b + q ≡ v = omega (arith, is.laid.placed.firsts v l) in
        let here : excess_in (block_at w b) q ≡ excess_of s v =
        excess_read w (blocks_in w) b (block_at w b) v q (record { laid = is.laid; view = refl; block = lb; is = refl })
        (record { node = l; node_block = refl; place = refl; block = lb })
        ∙ ap (λ (t : State). excess_of t v) is.shown in
        let high = all b lb q lq (omega (arith, some, here)) in
        high_ends v l (omega (arith, high, is.laid.placed.tops b lb, ap (slice_index labels) number));
  }
