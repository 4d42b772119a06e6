-- What is read of a move at some of its sites.
use Rattle.std.proofs.Common.{◌≡◌, ◌==◌, ℕ, ◌+◌, ◌<◌, Bool, true, false, cond, List, All, ℤ, pos, ◌-ℤ◌, length, take, get_or, refl, sym, ap, ◌∙◌, subst, inl, inr, add-one, arith}
use Rattle.std.proofs.lemmas.Int.{ints}
use Rattle.std.proofs.lemmas.Bool.{cases_eq, eq-eqb, ne_eqb}
use Rattle.std.proofs.lemmas.List.Elements.{All-push, All-weaker, All-contains}
use Rattle.std.proofs.Math.Seq.{take-suc}
use Rattle.label_energies.specs.declared.change.Move.{Move}
use Rattle.label_energies.specs.Energies.{Instance, labelling}
use Rattle.label_energies.specs.Moves.{label_after}
use Rattle.move_energy.specs.MoveValues.{data_rise}
use Rattle.move_energy.specs.declared.by_site.Neighbours.{Neighbours}
use Rattle.site_forms.specs.Fields.{own_at}
use Rattle.form_lists.specs.declared.lists.FormLists.{FormLists}
use Rattle.form_lists.specs.Lists.{with_costs_at, AreRisesNear, CoversChanges, IsReadNear, IsReadOf}

rise_by_asked : (m : Instance) (move : Move) (f : ℕ → ℕ) (a b : ℕ → Bool) (u : ℕ) → a u ≡ b u
    → data_rise (with_costs_at a m) move f u ≡ data_rise (with_costs_at b m) move f u
rise_by_asked m move f a b u same =
    ap (λ q. pos (cond q (m.data_cost u (label_after move (f u) true)) 0) -ℤ pos (cond q (m.data_cost u (label_after move (f u) false)) 0)) same

-- the sites that were asked, and one more
abbrev one_more : ℕ → (ℕ → Bool) → ℕ → Bool
one_more site asked p = cond (p == site) true (asked p)

more_here : (site : ℕ) (asked : ℕ → Bool) → one_more site asked site ≡ true
more_here site asked = ap (λ q. cond q true (asked site)) (eq-eqb site site refl)

more_there : (site p : ℕ) (asked : ℕ → Bool) → (p ≡ site → ⊥) → one_more site asked p ≡ asked p
more_there site p asked other = ap (λ q. cond q true (asked p)) (ne_eqb p site other)

more_covers : (site p : ℕ) (asked : ℕ → Bool) → asked p ≡ true → one_more site asked p ≡ true
more_covers site p asked was = elim (cases_eq p site) [
  | inl same ↦ (let S : ℕ → Type 0 = λ q. one_more site asked q ≡ true in subst S (sym same) (more_here site asked))
  | inr other ↦ more_there site p asked other ∙ was
]

-- one more site was read
pub read_one : (m : Instance) (move : Move) (at : List ℕ) (own new : List ℤ) (sites : List ℕ) (place site : ℕ) → place < length sites → get_or sites place 0 ≡ site
    → own_at new site ≡ data_rise m move (labelling at) site
    → ((u : ℕ) → (u ≡ site → ⊥) → own_at new u ≡ own_at own u)
    → AreRisesNear m move at own (take place sites) → AreRisesNear m move at new (take (place + 1) sites)
read_one m move at own new sites place site l is here there was =
    let more = one_more site was.asked in
    let C : ℕ → Type 0 = λ p. more p ≡ true in
    let W : ℕ → Type 0 = λ p. was.asked p ≡ true in
    let L : List ℕ → Type 0 = λ ps. All C ps in
    let N : ℕ → Type 0 = λ n. All C (take n sites) in
    let f = labelling at in
    record {
      asked = more;
      covers = subst N (sym (add-one place)) (subst L (sym (take-suc sites place 0 l))
          (All-push C (take place sites) (get_or sites place 0) (All-weaker W C (λ p asked. more_covers site p was.asked asked) (take place sites) was.covers)
          (subst C (sym is) (more_here site was.asked))));
      rises = λ u below. elim (cases_eq u site) [
        | inl same ↦
            let R : ℕ → Type 0 = λ v. own_at new v ≡ data_rise (with_costs_at more m) move f v in
            subst R (sym same) (here ∙ sym (rise_by_asked m move f more (λ _. true) site (more_here site was.asked)))
        | inr other ↦
            there u other ∙ (was.rises u below ∙ sym (rise_by_asked m move f more was.asked u (more_there site u was.asked other)))
      ];
    }

-- ---- where each site that the move can change was read

zero_of : (z : ℤ) → z -ℤ z ≡ pos 0
zero_of z = omega (arith, ints)

no_rise : (m : Instance) (move : Move) (f : ℕ → ℕ) (u : ℕ) → label_after move (f u) true ≡ label_after move (f u) false → data_rise m move f u ≡ pos 0
no_rise m move f u same =
    ap (λ label. pos (m.data_cost u label) -ℤ pos (m.data_cost u (label_after move (f u) false))) same ∙ zero_of (pos (m.data_cost u (label_after move (f u) false)))

near_rise : (m : Instance) (move : Move) (at : List ℕ) (asked : ℕ → Bool) (sites : List ℕ) (u : ℕ) → u < length at → CoversChanges move at sites → All (λ p. asked p ≡ true) sites
    → data_rise (with_costs_at asked m) move (labelling at) u ≡ data_rise m move (labelling at) u
near_rise m move at asked sites u l covers all =
    let f = labelling at in
    elim (cases_eq (label_after move (f u) true) (label_after move (f u) false)) [
      | inl same ↦ no_rise (with_costs_at asked m) move f u same ∙ sym (no_rise m move f u same)
      | inr other ↦ rise_by_asked m move f asked (λ _. true) u (All-contains (λ p. asked p ≡ true) sites u all (covers.each u l other))
    ]

pub all_read : (m : Instance) (move : Move) (ends : Neighbours) (at : List ℕ) (lists : FormLists) (sites : List ℕ) → CoversChanges move at sites → IsReadNear m move ends at lists sites
    → IsReadOf m move ends at lists
all_read m move ends at lists sites covers near = record {
  pairs = (let read = near.read.pairs in record { sites = read.sites; labels = read.labels; after = read.after; costs = read.costs; rises = read.rises });
  own_are = λ u l. near.read.own_are u l ∙ near_rise m move at near.asked sites u l covers near.covers;
}
