-- What goes on within a block, or leaves it, or comes, keeps what its lists keep.
use Rattle.std.proofs.Common.{◌≡◌, ℕ, ◌+◌, ◌-◌, ◌<◌, ◌≤◌, List, length, set, get_or, slice_index, sum, Bool, true, false, cond, max, Some, All, sym, ◌∙◌, ap, subst, arith}
use Rattle.std.proofs.lemmas.List.{length-set}
use Rattle.std.proofs.lemmas.List.Sums.{sum_by-set}
use Rattle.std.proofs.lemmas.List.Elements.{All-set, All-get_or}
use Rattle.std.specs.Option.{is_some}
use Rattle.block_net.specs.declared.lanes.InnerLane.{InnerLane}
use Rattle.block_net.specs.declared.lanes.Border.{Border}
use Rattle.block_net.specs.Views.{CellsView, IsBlock, IsLane, IsBorder, count, excess_in, label_in, lane_in, border_in, no_row, no_border, out_of, spare, cells_after_push, cells_after_send, cells_after_accept}

-- an amount that goes from one number to another leaves the sum
sum_moved : (xs : List ℕ) (v w a : ℕ) → v < length xs → w < length xs → a ≤ slice_index xs v
    → sum (set (set xs v (slice_index xs v - a)) w (slice_index (set xs v (slice_index xs v - a)) w + a)) ≡ sum xs
sum_moved xs v w a lv lw le =
    let ys = set xs v (slice_index xs v - a) in
    let one = sum_by-set (λ (x : ℕ). x) xs v (slice_index xs v - a) 0 lv in
    let two = sum_by-set (λ (x : ℕ). x) ys w (slice_index ys w + a) 0 (omega (arith, lw, length-set xs v (slice_index xs v - a))) in
    omega (arith, one, two, le)

known_fits : (out : Bool) (known d top : ℕ) → known ≤ top → d ≤ top → cond out known (max known d) ≤ top
known_fits true known d top h l = h
known_fits false known d top h l = omega arith

pub push_keeps : (b : CellsView) (v j a : ℕ) → IsBlock b → v < count b → j < length b.lanes → a ≤ excess_in b v → a ≤ (lane_in b j).residual
    → IsBlock (cells_after_push b v j a)
push_keeps b v j a k lv lj le lr =
    let lane = lane_in b j in
    let w = lane.far in
    let o = lane.opposite in
    let is = All-get_or (IsLane (length b.excess) (length b.lanes)) b.lanes j no_row lj k.lanes in
    let less = set b.excess v (excess_in b v - a) in
    let e1 : length (set less w (slice_index less w + a)) ≡ length b.excess = length-set less w (slice_index less w + a) ∙ length-set b.excess v (excess_in b v - a) in
    let row : InnerLane = record lane { residual = lane.residual - a } in
    let taken = set b.lanes j row in
    let old : InnerLane = get_or taken o no_row in
    let row' : InnerLane = record old { residual = old.residual + a } in
    let e2' : length taken ≡ length b.lanes = length-set b.lanes j row in
    let e2 : length (set taken o row') ≡ length b.lanes = length-set taken o row' ∙ e2' in
    let all1 = All-set (IsLane (length b.excess) (length b.lanes)) b.lanes j row (record { far = is.far; opposite = is.opposite }) k.lanes in
    let is' = All-get_or (IsLane (length b.excess) (length b.lanes)) taken o no_row (omega (arith, is.opposite, e2')) all1 in
    let all2 = All-set (IsLane (length b.excess) (length b.lanes)) taken o row' (record { far = is'.far; opposite = is'.opposite }) all1 in
    let s1 = sum_by-set (λ (x : InnerLane). x.residual) b.lanes j row no_row lj in
    let s2 = sum_by-set (λ (x : InnerLane). x.residual) taken o row' no_row (omega (arith, is.opposite, e2')) in
    record {
      top = k.top;
      above = k.above;
      small = omega (arith, e1, k.small);
      labels_len = k.labels_len ∙ sym e1;
      rooms_len = k.rooms_len ∙ sym e1;
      starts_len = k.starts_len ∙ ap (λ n. n + 1) (sym e1);
      border_starts_len = k.border_starts_len ∙ ap (λ n. n + 1) (sym e1);
      within = λ u l. omega (arith, k.within u (omega (arith, l, e1)), e2);
      border_within = λ u l. k.border_within u (omega (arith, l, e1));
      labels = k.labels;
      lanes =
          let all3 = subst (λ (n : ℕ). All (IsLane n (length b.lanes)) (set taken o row')) (sym e1) all2 in
          subst (λ (n : ℕ). All (IsLane (length (set less w (slice_index less w + a))) n) (set taken o row')) (sym e2) all3;
      borders = rw e1 k.borders;
      residuals = omega (arith, s1, s2, lr, k.residuals);
      total = omega (arith, sum_moved b.excess v w a lv is.far le, k.total);
    }

pub accept_keeps : (b : CellsView) (j a d : ℕ) → IsBlock b → j < length b.borders → (border_in b j).residual + out_of (border_in b j).flight + a ≤ (border_in b j).capacity → d ≤ b.top
    → IsBlock (cells_after_accept b j a d)
accept_keeps b j a d k lj fits ld =
    let x = border_in b j in
    let is = All-get_or (IsBorder (length b.excess) b.top) b.borders j no_border lj k.borders in
    let known = cond (is_some x.flight) x.known (max x.known d) in
    let row : Border = record x { residual = x.residual + a; known = known } in
    let e1 = length-set b.excess x.near (excess_in b x.near + a) in
    let e2 = length-set b.borders j row in
    let all = All-set (IsBorder (length b.excess) b.top) b.borders j row
    (record { near = is.near; fits = omega (arith, fits); known = known_fits (is_some x.flight) x.known d b.top is.known ld; small = is.small }) k.borders in
    let s1 = sum_by-set (λ (n : ℕ). n) b.excess x.near (excess_in b x.near + a) 0 is.near in
    let s2 = sum_by-set spare b.borders j row no_border lj in
    record {
      top = k.top;
      above = k.above;
      small = omega (arith, e1, k.small);
      labels_len = k.labels_len ∙ sym e1;
      rooms_len = k.rooms_len ∙ sym e1;
      starts_len = k.starts_len ∙ ap (λ n. n + 1) (sym e1);
      border_starts_len = k.border_starts_len ∙ ap (λ n. n + 1) (sym e1);
      within = λ u l. k.within u (omega (arith, l, e1));
      border_within = λ u l. omega (arith, k.border_within u (omega (arith, l, e1)), e2);
      labels = k.labels;
      lanes = subst (λ (n : ℕ). All (IsLane n (length b.lanes)) b.lanes) (sym e1) k.lanes;
      borders = subst (λ (n : ℕ). All (IsBorder n b.top) (set b.borders j row)) (sym e1) all;
      residuals = k.residuals;
      total = omega (arith, s1, s2, fits, k.total);
    }

pub send_keeps : (b : CellsView) (v j a : ℕ) → IsBlock b → v < count b → j < length b.borders → a ≤ excess_in b v → a ≤ (border_in b j).residual
    → IsBlock (cells_after_send b v j a)
send_keeps b v j a k lv lj le lr =
    let x = border_in b j in
    let is = All-get_or (IsBorder (length b.excess) b.top) b.borders j no_border lj k.borders in
    let row : Border = record x { residual = x.residual - a; flight = Some (record { amount = a; label = label_in b v }) } in
    let e1 = length-set b.excess v (excess_in b v - a) in
    let e2 = length-set b.borders j row in
    let whole : x.residual ≤ x.capacity = omega (arith, is.fits) in
    let all = All-set (IsBorder (length b.excess) b.top) b.borders j row (record { near = is.near; fits = omega (arith, lr, whole); known = is.known; small = is.small }) k.borders in
    let s1 = sum_by-set (λ (n : ℕ). n) b.excess v (excess_in b v - a) 0 lv in
    let s2 = sum_by-set spare b.borders j row no_border lj in
    record {
      top = k.top;
      above = k.above;
      small = omega (arith, e1, k.small);
      labels_len = k.labels_len ∙ sym e1;
      rooms_len = k.rooms_len ∙ sym e1;
      starts_len = k.starts_len ∙ ap (λ n. n + 1) (sym e1);
      border_starts_len = k.border_starts_len ∙ ap (λ n. n + 1) (sym e1);
      within = λ u l. k.within u (omega (arith, l, e1));
      border_within = λ u l. omega (arith, k.border_within u (omega (arith, l, e1)), e2);
      labels = k.labels;
      lanes = subst (λ (n : ℕ). All (IsLane n (length b.lanes)) b.lanes) (sym e1) k.lanes;
      borders = subst (λ (n : ℕ). All (IsBorder n b.top) (set b.borders j row)) (sym e1) all;
      residuals = k.residuals;
      total = omega (arith, s1, s2, le, lr, whole, k.total);
    }
