use Rattle.std.proofs.Common.{◌≡◌, ◌+◌, map, take, vec_len, vec_capacity}
use Rattle.pseudo_bool.specs.declared.term.Term.TheVariants.{Two}
use Rattle.pseudo_bool.specs.Rows.{AddsRows}
use Rattle.pseudo_bool.proofs.row.push_beside.Given as goal

abbrev pub invariant-loop-name : goal.invariant-loop-name
invariant-loop-name l = record {
  added : AddsRows l.initial.rows.items l.rows.items (map (λ name. Two name l.variable l.beside) (take l.name-index l.names));
  len : vec_len l.rows ≡ vec_len l.initial.rows + l.name-index;
  room : vec_capacity l.rows ≡ vec_capacity l.initial.rows;
}
