use Rattle.std.proofs.Common.{List, true, sym, subst}
use Rattle.label_field.specs.declared.pair.Pair.{Pair}
use Rattle.label_field.specs.PairLists.{IsPairList}
use Rattle.label_field.proofs.Numbers.{numbered_list}
use Rattle.label_field.proofs.pairs.Pairs.number.Goals as goal

pub invariant_of-self : goal.invariant_of-self
invariant_of-self c =
    let P : List Pair → Type 0 = λ list. IsPairList (record { sites = c.self.inside.sites; list = list; numbered = true }) in
    subst P (sym c.number_all.ensures) (numbered_list _ _ _ c.self.invariant)
