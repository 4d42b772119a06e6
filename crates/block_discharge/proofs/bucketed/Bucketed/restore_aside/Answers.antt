use Rattle.std.proofs.Common.{◌∙◌, ℕ, ap}
use Rattle.node_buckets.specs.Standing.{with_node_in_row, bucket_of}
use Rattle.block_discharge.proofs.Placing.{put_stands}
use Rattle.block_discharge.proofs.bucketed.Bucketed.restore_aside.Goals as goal

pub aside-preserved : goal.aside-preserved
aside-preserved c =
    let s = c.aside.self-inside.buckets in
    record {
      same = c.aside.invariant.same;
      stands = put_stands c.aside.self-inside.cells s c.put.new.self c.in-Some.v c.aside.invariant.stands c.in-Some.ensures.0 c.in-Some.ensures.1
          (c.put.ensures ∙ ap (λ (d : ℕ). with_node_in_row s c.in-Some.v (bucket_of s d)) c.label.ensures.value);
    }
