use Rattle.std.proofs.Common.{◌∙◌, List, ap, sym, refl, subst, arith}
use Rattle.move_energy.specs.declared.choice.Choice.{Choice}
use Rattle.move_energy.specs.Choices.{open_count, IsNumbering}
use Rattle.move_energy.proofs.Opened.{opened_count, opened_few, opened_has, listed_more, listed_all}
use Rattle.move_energy.proofs.variables.Variables.number_listed.Goals as goal

pub overflow_cast-index : goal.overflow_cast-index
overflow_cast-index c =
    let few = opened_few c.args.self.now.choices.items c.args.opened.now c.requires.listed in
    omega (arith, few, c.requires.sites, c.loop-index-test.true)

pub index_mut-requires : goal.index_mut-requires
index_mut-requires c =
    let has = opened_has c.args.self.now.choices.items c.args.opened.now c.loop-index.index c.requires.listed c.loop-index-test.true in
    omega (arith, has.0, c.loop-index.invariant.numbered.count, c.loop-index.self.of_sites.ok.0)

pub loop-index-preserved : goal.loop-index-preserved
loop-index-preserved c = record {
  kept = c.loop-index.invariant.kept;
  numbered = listed_more c.args.self.now.choices.items c.args.opened.now c.loop-index.self.of_sites.items _ c.loop-index.index _ c.requires.listed
      c.loop-index-test.true refl refl c.loop-index.invariant.numbered;
}

pub overflow_cast-result : goal.overflow_cast-result
overflow_cast-result c =
    let few = opened_few c.args.self.now.choices.items c.args.opened.now c.requires.listed in
    omega (arith, few, c.requires.sites)

pub returns-clause-count : goal.returns-clause-count
returns-clause-count c =
    opened_count c.args.self.now.choices.items c.args.opened.now c.requires.listed ∙ ap open_count (sym c.loop-index.invariant.kept)

pub returns-clause-numbering : goal.returns-clause-numbering
returns-clause-numbering c =
    let P : List Choice → Type 0 = λ xs. IsNumbering xs c.loop-index.self.of_sites.items in
    subst P (sym c.loop-index.invariant.kept)
    (listed_all c.args.self.now.choices.items c.args.opened.now c.loop-index.self.of_sites.items c.loop-index.index c.requires.listed
    (omega (arith, c.loop-index-test.false)) c.loop-index.invariant.numbered)
