use Rattle.std.proofs.Common.{refl, ◌≡◌, ◌∙◌, ℕ, sym, ap, subst, inl, inr, arith}
use Rattle.std.proofs.lemmas.Bool.{cases_eq}
use Rattle.label_energies.specs.Energies.{labelling}
use Rattle.move_energy.specs.Choices.{choice_at}
use Rattle.site_bounds.specs.Decisions.{Passes}
use Rattle.move_energy.specs.MoveValues.{move_value}
use Rattle.site_bounds.specs.Parts.{IsSwept}
use Rattle.site_bounds.proofs.Joining.{passes_still}
use Rattle.site_bounds.proofs.sweeps.sweep_up.Goals as goal

pub loop-site-init : goal.loop-site-init
loop-site-init c = record {
  swept = record {
    count = refl;
    outside = λ p off. refl;
    kept = λ p closed. refl;
    passed = λ m move told was. was;
    tried = λ m move p b told was from to test now. absurd (omega (arith, from, to));
  };
}

pub loop-site-preserved : goal.loop-site-preserved
loop-site-preserved c =
    let a = c.args in
    let i = c.loop-site.invariant.swept in
    let e = c.try_site.ensures in
    record {
      swept = record {
        count = e.count ∙ i.count;
        outside = λ p off. elim off [
          | inl before ↦ e.others p (λ same. absurd (omega (arith, same, before, c.loop-site.auto.site))) ∙ i.outside p (inl before)
          | inr after ↦ e.others p (λ same. absurd (omega (arith, same, after))) ∙ i.outside p (inr (omega (arith, after)))
        ];
        kept = λ p closed. e.kept p (λ opened. closed (sym (i.kept p closed) ∙ opened)) ∙ i.kept p closed;
        passed = λ m move told was. e.passed m move told (i.passed m move told was);
        tried = λ m move p b told was from to test now. elim (cases_eq p c.loop-site.site) [
          | inl same ↦
              let is = i.passed m move told was in
              let P : ℕ → Type 0 = λ u. Passes (move_value m move (labelling a.form.now.at.now)) is.decisions u b in
              let still = passes_still m move (labelling a.form.now.at.now) p b a.known.now c.loop-site.known
              told.instance told.allowed i.kept was is test in
              absurd (e.tried m move b told is (subst P same still) (sym (ap (choice_at c.try_site.new.known) same) ∙ now))
          | inr other ↦ absurd ((i.tried m move p b told was from (omega (arith, to, other)) test) (sym (e.others p other) ∙ now))
        ];
      };
    }

pub returns : goal.returns
returns c =
    let a = c.args in
    let last : c.loop-site.site ≡ a.to = omega (arith, c.loop-site-test.false, c.loop-site.auto.site-end, c.requires.range.0) in
    let S : ℕ → Type 0 = λ to. IsSwept a.form.now a.from to a.known.now c.loop-site.known in
    subst S last c.loop-site.invariant.swept
