use Rattle.std.proofs.Common.{◌≡◌, ◌*◌, ◌<◌, All, length, vec_len, vec_capacity}
use Rattle.dual_bound.proofs.ascent.sites_of.Given as goal

abbrev pub invariant-loop-index : goal.invariant-loop-index
invariant-loop-index l = record {
  len : vec_len l.sites ≡ 2 * l.index;
  room : vec_capacity l.sites ≡ 2 * length l.pairs.list;
  within : All (λ site. site < l.pairs.sites) l.sites.items;
}
