use Rattle.std.proofs.Common.{◌≡◌, ◌∙◌, ℕ, pos, arith, w64, FitsSigned, to_z, of_z}
use Rattle.std.proofs.lemmas.Int.{to_z-of_z}
use Rattle.cost_store.proofs.Filled.{column_push}
use Rattle.cost_store.proofs.data.DataCost.column_of.Goals as goal

pub loop-site-preserved : goal.loop-site-preserved
loop-site-preserved g c =
    let fits : FitsSigned w64 c.cost.result = record { sfits = c.cost.type_inv } in
    record {
      len = omega (arith, c.push_reserved.ensures.len, c.loop-site.invariant.len);
      room = c.push_reserved.ensures.capacity ∙ c.loop-site.invariant.room;
      each = λ cost answers. column_push (λ (a : ℕ). pos (cost a c.args.label)) c.loop-site.site c.loop-site.column.items c.push_reserved.new.self.items
          (to_z w64 (of_z w64 c.cost.result)) c.push_reserved.ensures.items (omega (arith, c.loop-site.invariant.len, c.loop-site.column.ok.0))
          (to_z-of_z w64 c.cost.result fits ∙ c.cost.ensures.entry cost answers) (c.loop-site.invariant.each cost answers);
    }

pub returns : goal.returns
returns g c = λ cost answers.
    let end : c.loop-site.site ≡ c.args.self.now.sites = omega arith in
    record {
      size = omega (arith, c.loop-site.invariant.len, c.loop-site.column.ok.0, end);
      each = λ a la. c.loop-site.invariant.each cost answers a (omega (arith, end, la));
    }
