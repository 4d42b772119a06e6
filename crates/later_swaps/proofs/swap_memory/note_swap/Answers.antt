use Rattle.std.proofs.Common.{◌≡◌, ◌==◌, ◌↔◌, ℕ, Bool, true, not, List, length, arith, refl, sym, ap, subst}
use Rattle.std.specs.Prelude.{slice_set}
use Rattle.std.specs.List.{Contains}
use Rattle.label_energies.specs.Energies.{labelling}
use Rattle.near_changes.specs.Changes.{IsNotedMove}
use Rattle.later_swaps.proofs.Swaps.{swap_stays, swap_goes, swap_past, listed_as, unlisted_same}
use Rattle.later_swaps.proofs.swap_memory.note_swap.Goals as goal

pub returns-then-are_settled : goal.returns-then-are_settled
returns-then-are_settled c = λ m size settles stamped.
    let a = c.args.alpha in
    let b = c.args.beta in
    let f = labelling c.args.before.now in
    let g = labelling c.args.after.now in
    let took : ℕ → Bool = λ p. not (f p == g p) in
    let noted = c.note_sites.ensures took (λ within p l.
    subst (λ (xs : List ℕ). (took p ≡ true) ↔ Contains xs p) (sym c.deref.ensures.value)
    (listed_as took (length c.args.before.now) p c.in-Ok.sites.items c.in-Ok.ensures (let sites = stamped.sites (omega (arith, within)) in omega (arith, l, sites, size)))) in
    swap_stays m a b f g took c.args.swaps.now c.note_sites.new.self c.requires.labels.1 (subst (λ (k : ℕ). IsNotedMove k took c.args.swaps.now c.note_sites.new.self) c.place_of-place.ensures noted)
    (settles (λ p l. c.are_settled.ensures c.if-are_settled.true p (omega (arith, l, size, c.requires.sizes.0)))) (λ p l h. unlisted_same c.args.before.now c.args.after.now p h) stamped

pub returns-then-place-len : goal.returns-then-place-len
returns-then-place-len c = λ m size settles stamped.
    let a = c.args.alpha in
    let b = c.args.beta in
    let f = labelling c.args.before.now in
    let g = labelling c.args.after.now in
    let mid = c.note_sites.new.self in
    let took : ℕ → Bool = λ p. not (f p == g p) in
    let noted = c.note_sites.ensures took (λ within p l.
    subst (λ (xs : List ℕ). (took p ≡ true) ↔ Contains xs p) (sym c.deref.ensures.value)
    (listed_as took (length c.args.before.now) p c.in-Ok.sites.items c.in-Ok.ensures (let sites = stamped.sites (omega (arith, within)) in omega (arith, l, sites, size)))) in
    swap_goes m a b f g took c.args.swaps.now mid _ c.requires.labels.1 (subst (λ (k : ℕ). IsNotedMove k took c.args.swaps.now mid) c.place_of-place.ensures noted)
    (omega (arith, c.if-place-len.true, c.len.ensures, c.place_of-place.ensures)) refl refl (ap (λ (k : ℕ). slice_set mid.made.items k 0) c.place_of-place.ensures)
    (λ p l h. unlisted_same c.args.before.now c.args.after.now p h) stamped

pub returns : goal.returns
returns c = λ m size settles stamped.
    let a = c.args.alpha in
    let b = c.args.beta in
    let f = labelling c.args.before.now in
    let g = labelling c.args.after.now in
    let took : ℕ → Bool = λ p. not (f p == g p) in
    let noted = c.note_sites.ensures took (λ within p l.
    subst (λ (xs : List ℕ). (took p ≡ true) ↔ Contains xs p) (sym c.deref.ensures.value)
    (listed_as took (length c.args.before.now) p c.in-Ok.sites.items c.in-Ok.ensures (let sites = stamped.sites (omega (arith, within)) in omega (arith, l, sites, size)))) in
    swap_past m a b f g took c.args.swaps.now c.note_sites.new.self (subst (λ (k : ℕ). IsNotedMove k took c.args.swaps.now c.note_sites.new.self) c.place_of-place.ensures noted)
    (omega (arith, c.if-place-len.false, c.len.ensures, c.place_of-place.ensures))
