use Rattle.std.proofs.Common.{◌≡◌, ◌≢◌, ◌<◌, ◌∙◌, ℕ, Bool, true, false, not, All, List, length, get_or, refl, sym, ap, subst}
use Rattle.std.specs.Cmp.Lexicographic.{same_text}
use Rattle.label_energies.specs.Energies.{labelling}
use Rattle.move_energy.specs.BySite.{IsListing}
use Rattle.site_bounds.specs.Linked.{AreOthersLinked, is_either_label}
use Rattle.site_bounds.specs.Swapped.{has_either}
use Rattle.site_bounds.proofs.Opening.{listed_within}
use Rattle.form_lists.proofs.Clearing.{written_whole}
use Rattle.site_bounds.proofs.Links.{own_linked}
use Rattle.site_bounds.proofs.label_sites.LabelSites.link_own.Goals as goal

not_false : (b : Bool) → not b ≡ false → true ≡ b
not_false true is = refl
not_false false is = absurd (cc is)

pub take_labels-among-requires-clause-sites : goal.take_labels-among-requires-clause-sites
take_labels-among-requires-clause-sites c =
    let s = c.args.self.now in
    let size : length s.at.items ≡ length c.args.at.now = ap length (sym c.deref_mut.ensures.value) ∙ c.deref_mut.ensures.len ∙ sym c.len.ensures ∙ c.if-len-at.false in
    let W : List ℕ → ℕ → Type 0 = λ sites k. All (λ p. p < k) sites in
    subst (λ (X : Type 0). X) (λ i. W (sym c.deref.ensures.value i) (size i)) (listed_within (has_either s.alpha s.beta (labelling s.at.items)) _ s.own.items c.requires.linked.listed)

-- what stands where the last swap's sites were taken over, and no other label differs
taken : (c : goal.After-deref-2) → IsListing (has_either c.args.self.now.alpha c.args.self.now.beta (labelling c.args.at.now)) (length c.args.at.now) c.args.self.now.own.items
    × AreOthersLinked (is_either_label c.args.self.now.alpha c.args.self.now.beta) (length c.args.at.now) (labelling c.args.at.now) c.args.self.now.firsts.items c.args.self.now.nexts.items
taken c =
    let s = c.args.self.now in
    let size : length s.at.items ≡ length c.args.at.now = ap length (sym c.deref_mut.ensures.value) ∙ c.deref_mut.ensures.len ∙ sym c.len.ensures ∙ c.if-len-at.false in
    let same : c.as_slice.result.now ≡ c.args.at.now = same_text _ _ (not_false _ (sym c.ne.ensures ∙ c.if-ne.false)) in
    let own : List ℕ = s.own.items in
    own_linked s.alpha s.beta s.at.items c.args.at.now s.firsts.items s.nexts.items own size c.requires.linked
    (λ p off.
    ap (λ (xs : List ℕ). get_or xs p 0) (sym same ∙ c.as_slice.ensures.value ∙ written_whole s.at.len c.take_labels-among.new.kept _ (sym (c.take_labels-among.auto.kept ∙ c.deref_mut.ensures.len)))
    ∙ c.take_labels-among.ensures.others p (subst (λ sites. (k : ℕ) → k < length sites → get_or sites k 0 ≢ p) (sym c.deref.ensures.value) off)
    ∙ ap (λ (xs : List ℕ). get_or xs p 0) c.deref_mut.ensures.value)
    (subst (λ sites. (k : ℕ) → k < length sites → has_either s.alpha s.beta (labelling c.args.at.now) (get_or sites k 0) ≡ true) c.deref.ensures.value (c.if-not-among.ensures.either refl))

pub link_either-requires-clause-listed : goal.link_either-requires-clause-listed
link_either-requires-clause-listed c =
    let a = c.args in
    subst (λ sites. IsListing (has_either a.self.now.alpha a.self.now.beta (labelling a.at.now)) (length a.at.now) sites) (sym c.deref-2.ensures.value) (taken c).0

pub link_either-requires-clause-others : goal.link_either-requires-clause-others
link_either-requires-clause-others c =
    let a = c.args in
    let O : List ℕ → List ℕ → Type 0 = λ firsts nexts. AreOthersLinked (is_either_label a.self.now.alpha a.self.now.beta) (length a.at.now) (labelling a.at.now) firsts nexts in
    subst (λ (X : Type 0). X) (λ i. O (sym c.deref_mut-2.ensures.value i) (sym c.deref_mut-3.ensures.value i)) (taken c).1
