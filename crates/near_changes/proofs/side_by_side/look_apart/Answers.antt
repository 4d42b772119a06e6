use Rattle.std.proofs.Common.{◌≡◌, ◌+◌, ◌<◌, ℕ, List, All, length, sym, subst, arith}
use Rattle.std.specs.Prelude.{slice_index}
use Rattle.label_energies.specs.Energies.{labelling}
use Rattle.move_energy.specs.declared.choice.Choice.{Choice}
use Rattle.move_energy.specs.declared.choice.Choice.TheVariants.{Zero}
use Rattle.move_energy.specs.Choices.{choice_at}
use Rattle.std.proofs.lemmas.List.Elements.{All-filter}
use Rattle.near_changes.specs.SideBySide.{AreZerosOf, AreZeroCodes, is_of}
use Rattle.near_changes.proofs.Codes.{if_ok_map}
use Rattle.near_changes.proofs.side_by_side.look_apart.Goals as goal

pub begin_part-requires-clause-inside : goal.begin_part-requires-clause-inside
begin_part-requires-clause-inside c =
    let P : ℕ → Type 0 = λ p. p < c.args.form.now.pairs.now.sites in
    subst (λ (xs : List ℕ). All P xs) (sym c.in_ok-own_fresh.ensures) (All-filter (is_of c.args.own) P c.args.fresh.now c.requires.inside)

pub returns : goal.returns
returns c = record {
  zeros = λ m move told is zeros.
      let f = labelling c.args.form.now.at.now in
      let from = c.args.seen.from in
      let begun : AreZerosOf m move f (choice_at c.in_ok-part.part.variables.choices.items) = λ s best p l zero.
      zeros s best p l ((c.in_ok-part.ensures.zeros.each p (omega (arith, l, c.requires.sites, told.sites_are))).0 zero) in
      let done : AreZerosOf m move f (choice_at c.make_part_stages.new.part.variables.choices.items) =
      c.in_ok-make_part_stages.ensures.zeros m move told is begun in
      let known : AreZerosOf m move f (choice_at c.deref.result.now) =
      subst (λ (cs : List Choice). AreZerosOf m move f (choice_at cs)) (sym c.deref.ensures.value) done in
      if_ok_map
      (λ codes. (k : ℕ) → k < length codes.items → slice_index codes.items k ≡ 1 → choice_at c.deref.result.now (from + k) ≡ Zero)
      (λ codes. AreZeroCodes m move f from codes.items) c.codes_within.result
      (λ codes each s best k l one below. known s best (from + k) below (each k l one)) c.codes_within.ensures;
}
