use Rattle.std.proofs.Common.{append-nil, ◌≡◌, ◌∙◌, ◌<◌, ◌⊎◌, ◌++◌, ◌∷◌, [], ℕ, List, All, length, ap, sym, subst, inl, inr, arith, below_more}
use Rattle.std.specs.Prelude.{slice_index}
use Rattle.std.specs.List.{Contains}
use Rattle.std.proofs.lemmas.List.{get_or_default}
use Rattle.move_energy.specs.declared.choice.Choice.TheVariants.{Open, Zero}
use Rattle.std.proofs.lemmas.List.Elements.{All-push, All-get_or, All-from_get_or}
use Rattle.near_changes.specs.Working.{WasLookedAt}
use Rattle.near_changes.proofs.Opens.{listed_more, listed_here}
use Rattle.near_changes.proofs.opening.list_new.Goals as goal
use Rattle.near_changes.proofs.opening.list_new.Goals.{then-is_new+in_ok-push, else-is_new}

pub loop-index-preserved : goal.loop-index-preserved
loop-index-preserved c =
    let a = c.args in
    let invariant = c.loop-index.invariant in
    let list = c.loop-index.list.items in
    let site = slice_index a.sites.now c.loop-index.index in
    let P : ℕ → Type 0 = λ p. p < length a.choices.now in
    let A : List ℕ → Type 0 = λ xs. All P xs in
    let here : site < length a.choices.now = All-get_or P a.sites.now c.loop-index.index 0 c.loop-index-test.true c.requires in
    elim c.if-is_new.branch [
      | then-is_new+in_ok-push w ↦
          let is : c.if-is_new.list.items ≡ list ++ site ∷ [] = ap (λ (v : _). v.items) w.list-is ∙ w.in_ok-push.ensures.items in
          record {
            inside = subst A (sym is) (All-push P list site invariant.inside here);
            listed = listed_more a.choices.now a.sites.now c.loop-index.index list _ (site ∷ []) is invariant.listed (inr (listed_here list site _ is));
          }
      | else-is_new w ↦
          let is : c.if-is_new.list.items ≡ list = ap (λ (v : _). v.items) w.list-is in
          record {
            inside = subst A (sym is) invariant.inside;
            listed = listed_more a.choices.now a.sites.now c.loop-index.index list _ [] (is ∙ sym (append-nil list)) invariant.listed (inl (λ one. (let yes = c.is_new.ensures.1 (get_or_default a.choices.now site Open Zero here ∙ one) in let no = w.if-is_new.false in cc (yes, no))));
          }
    ]

pub returns-clause-listed : goal.returns-clause-listed
returns-clause-listed c =
    let a = c.args in
    All-from_get_or (λ p. WasLookedAt a.choices.now p ⊎ Contains c.loop-index.list.items p) a.sites.now 0
    (λ k l. c.loop-index.invariant.listed k (omega (arith, l, c.loop-index-test.false)))
