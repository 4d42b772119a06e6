use Rattle.std.proofs.Common.{◌≡◌, ℕ, ℤ, pos, ◌<◌, ◌-◌, ◌*◌, ◌/◌, ◌%◌, ◌^◌, ◌∙◌, ap, arith, subst, IfOk}
use Rattle.std.specs.List.{AllZip, range_with_len}
use Rattle.std.specs.Global.{Vec}
use Rattle.rayon.specs.Numbers.{nat_range}
use Rattle.rayon.proofs.ListFacts.{IfOk-then}
use Rattle.rayon.proofs.ToStd.{nat_range-All}
use Rattle.cost_store.specs.Limits.{data_limit}
use Rattle.cost_store.specs.Promises.{Keeps}
use Rattle.cost_store.specs.Posed.{IsTableFor}
use Rattle.cost_store.proofs.Filled.{allzip_weaken, filled_by, filled_table}
use Rattle.cost_store.proofs.data.DataCost.fill.Goals as goal

pub collect-made-requires-clause-ready : goal.collect-made-requires-clause-ready
collect-made-requires-clause-ready g c κs =
    let ends = c.into_par_iter.ensures in
    let self = c.args.self.now in
    let inside = nat_range-All (λ i. Keeps (goal.F-pre g self.f) (goal.F-post g self.f) self.sites self.labels data_limit × (i < self.sites * self.labels) × (self.sites < 2 ^ 32)) 0 (self.sites * self.labels)
    (λ i low high. (c.requires.keeps, high, omega arith)) in
    rw (c.map.ensures.base, c.map.ensures.f, ends.0, ends.1) (λ o k d lt. (inside k d lt, λ y p. tt))

pub returns-in-Ok : goal.returns-in-Ok
returns-in-Ok g c =
    let ends = c.into_par_iter.ensures in
    let self = c.args.self.now in
    let n = self.sites * self.labels in
    let whole : n - 0 ≡ n = omega arith in
    let told = λ (v : Vec ℤ). IsTableFor g.F.Fn self v.items in
    subst (λ r. IfOk r told) c.in-Ok.is (IfOk-then c.collect-made.result _ told c.collect-made.ensures (λ v h cost answers.
    let f : ℕ → ℤ = λ (i : ℕ). pos (cost (i / self.labels) (i % self.labels)) in
    let chain = rw (c.map.ensures.base, c.map.ensures.f) at h.1 in
    let places = chain.1 ∙ (λ i. nat_range (ends.0 i) (ends.1 i)) ∙ ap (range_with_len 0) whole in
    let each : AllZip (λ (x : ℕ) (y : ℤ). y ≡ f x) chain.0 h.0 = allzip_weaken _ _ (λ x y p. p cost answers) chain.0 h.0 chain.2 in
    filled_table self.sites self.labels cost v.items (h.2 ∙ filled_by f n chain.0 h.0 places each)))
