use Rattle.std.proofs.Common.{◌≡◌, ◌<◌, ◌+◌, ℕ, List, true, length, refl, sym, subst, inl, inr, arith}
use Rattle.label_energies.specs.Energies.{labelling}
use Rattle.move_energy.specs.BySite.{IsListing}
use Rattle.site_bounds.specs.Swapped.{has_either}
use Rattle.site_bounds.proofs.Links.{either_on, either_next, either_is}
use Rattle.site_bounds.proofs.Skipping.{listed_more}
use Rattle.site_bounds.proofs.label_sites.list_either.Goals as goal
use Rattle.site_bounds.proofs.label_sites.list_either.Goals.{then-site-first, else-site-first}

pub loop-site-init : goal.loop-site-init
loop-site-init c =
    let a = c.args in
    let n = length a.at.now in
    let f = labelling a.at.now in
    let links = c.requires.linked.links in
    let L : List ℕ → Type 0 = λ list. IsListing (has_either a.one a.other f) 0 list in
    let begun = either_on a.one a.other n 0 _ _ c.min-site.result f _ c.min-site.ensures (links.first a.one (omega (arith, c.ranges.one.fits)) refl) (links.first a.other (omega (arith, c.ranges.other.fits)) refl)
    (subst L (sym c.clear.ensures.items) refl) in
    record { first = begun.0; second = begun.1; least = begun.2; listed = begun.3 }

pub loop-site-preserved : goal.loop-site-preserved
loop-site-preserved c =
    let a = c.args in
    let n = length a.at.now in
    let f = labelling a.at.now in
    let chosen = has_either a.one a.other f in
    let i = c.loop-site.invariant in
    let site = c.loop-site.site in
    let inside : site < n = c.loop-site-test.true in
    let after = c.requires.linked.links.next site (omega arith) inside refl in
    let more : chosen site ≡ true → IsListing chosen (site + 1) c.push.new.self.items = λ is. listed_more chosen site true _ _ (sym is) c.in_ok-push.ensures.items i.listed in
    elim c.if-site-first.branch [
      | then-site-first w ↦
          let on = either_next a.one a.other n site _ _ _ _ _ f c.requires.apart inside w.if-site-first.true i.first i.second after w.first-is w.second-is in
          let next = either_on a.one a.other n (site + 1) _ _ _ f _ c.min-site-in-loop-site.ensures on.0 on.1 (more (either_is a.one a.other (f site) (inl on.2))) in
          record { first = next.0; second = next.1; least = next.2; listed = next.3 }
      | else-site-first w ↦
          let here : site ≡ c.loop-site.second = elim i.least [
            | inl first ↦ absurd (w.if-site-first.false first)
            | inr second ↦ second
          ] in
          let on = either_next a.other a.one n site _ _ _ _ _ f (λ same. c.requires.apart (sym same)) inside here i.second i.first after w.second-is w.first-is in
          let next = either_on a.one a.other n (site + 1) _ _ _ f _ c.min-site-in-loop-site.ensures on.1 on.0 (more (either_is a.one a.other (f site) (inr on.2))) in
          record { first = next.0; second = next.1; least = next.2; listed = next.3 }
    ]
