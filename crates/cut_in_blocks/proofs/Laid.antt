-- Each block of a net that is laid stands in its place, and blocks that were filled one by one are
-- filled together.
use Rattle.std.proofs.Common.{◌≡◌, ℕ, ◌*◌, ◌/◌, ◌-◌, ◌<◌, List, length, slice_index, sym, ◌∙◌, ap, subst, arith}
use Rattle.std.proofs.lemmas.List.{set-get_or, length-set}
use Rattle.flow_network.specs.Cut.{nodes}
use Rattle.block_events.specs.Directions.{near}
use Rattle.block_events.specs.States as core
use Rattle.block_net.specs.Views.{CellsView, count}
use Rattle.block_net.specs.Whole.{Whole, no_block, block_at, put_block, node_block, IsFilled}
use Rattle.net_in_blocks.specs.Views.{IsLaid}
use Rattle.net_in_blocks.proofs.Writing.{block_same}
use Rattle.cut_in_blocks.specs.Seats.{IsSeated}

-- a block in its own stead changes nothing
pub put_own : (w : Whole) (b : ℕ) → put_block w b (block_at w b) ≡ w
put_own w b = ap (λ (q : List CellsView). record w { blocks = q }) (set-get_or w.blocks b no_block)

pub seated : (w : Whole) (b : ℕ) → IsLaid w → b < length w.blocks → IsSeated w b (block_at w b)
seated w b laid l = record {
  laid = subst IsLaid (sym (put_own w b)) laid;
  block = l;
  labels = laid.filled.labels b l;
  nodes = λ p lp. let found = laid.filled.nodes b p l lp in (found.0, record { node = found.1.node; node_block = found.1.node_block; place = found.1.place; block = l });
  borders = λ j lj. let found = laid.filled.borders b j l lj in (found.0, record { direction = found.2.direction; outer = found.2.outer; node_block = found.1; slot = found.2.slot; block = l });
}

-- ---- other blocks, each filled where it stands alone among the old ones

module _ (w : Whole) (blocks : List CellsView) (len : length blocks ≡ length w.blocks) where
  abbrev with_blocks : Whole
  with_blocks = record w { blocks = blocks }

  abbrev alone : ℕ → Whole
  alone b = put_block w b (block_at with_blocks b)

  long : (b : ℕ) → length blocks ≡ length (alone b).blocks
  long b = len ∙ sym (length-set w.blocks b (block_at with_blocks b))

  node_block_same : (b v : ℕ) → node_block with_blocks v ≡ node_block (alone b) v
  node_block_same b v = ap (λ k. (v * k) / nodes w.net) (long b)

  block_is : (b : ℕ) → b < length blocks → block_at (alone b) b ≡ block_at with_blocks b
  block_is b l = block_same w b (block_at with_blocks b) (omega (arith, l, len))

  pub filled_together : ((b : ℕ) → b < length blocks → IsFilled (alone b)) → IsFilled with_blocks
  filled_together each = record {
    labels = λ b l. subst (λ (q : CellsView). length q.labels ≡ count q) (block_is b l) ((each b l).labels b (omega (arith, l, long b)));
    nodes = λ b p l lp.
        let found = (each b l).nodes b p (omega (arith, l, long b)) (subst (λ (q : CellsView). p < count q) (sym (block_is b l)) lp) in (
          found.0,
          record {
            node = found.1.node;
            node_block = node_block_same b found.0 ∙ found.1.node_block;
            place = ap (λ h. found.0 - slice_index w.firsts h) (node_block_same b found.0) ∙ found.1.place;
          },
        );
    borders = λ b j l lj.
        let found = (each b l).borders b j (omega (arith, l, long b)) (subst (λ (q : CellsView). j < length q.borders) (sym (block_is b l)) lj) in (
          found.0,
          node_block_same b (near w.net found.0) ∙ found.1,
          record {
            direction = found.2.direction;
            near = found.2.near;
            outer = ap (λ k. core.is_border w.net k found.0) (long b) ∙ found.2.outer;
            slot = found.2.slot;
          },
        );
  }
