-- What was seen stays seen, and what is seen all around is closed.
use Rattle.std.proofs.Common.{◌≡◌, ℕ, ◌<◌, Bool, true, false, cond, List, [], ◌∷◌, ◌++◌, length, get_or, All, Result, Ok, Err, OnOk, refl, sym, ap, ◌∙◌, subst, inl, inr, arith}
use Rattle.std.proofs.lemmas.List.{length-append, get_or_append_left}
use Rattle.std.proofs.lemmas.List.Elements.{All-push, All-contains}
use Rattle.move_energy.specs.declared.by_site.Neighbours.{Neighbours}
use Rattle.label_field.specs.declared.pair.Pair.{Pair}
use Rattle.label_field.specs.PairLists.{PairList, IsPair}
use Rattle.label_energies.specs.Energies.{labelling}
use Rattle.move_energy.specs.BySite.{AreBySite, pair_in, pair_of}
use Rattle.move_energy.specs.declared.choice.Choice.{Choice}
use Rattle.move_energy.specs.declared.choice.Choice.TheVariants.{Open, Zero}
use Rattle.move_energy.specs.Choices.{bit_of, choice_at, open_rank, value_of, IsNumbering}
use Rattle.near_changes.specs.declared.stage.Stage.{Stage}
use Rattle.near_changes.specs.Fresh.{IsApart}
use Rattle.near_changes.specs.Looking.{is_marked, AreTaking, IsClosedIn}
use Rattle.near_changes.specs.Working.{IsMarkedToo, IsListedToo, AreSiteMarks, AreShown, IsWider, IsSiteSeen, IsSeenAcross, AreSeenAround}
use Rattle.near_changes.proofs.Marks.{marks_more, too_stays}
use Rattle.near_changes.proofs.Around.{pair_met, of_all, of_one}

pub on_ok_two : {T E : Type 0} (r : Result T E) (P Q R : Type 0) → (P → Q → R) → OnOk r P → OnOk r Q → OnOk r R
on_ok_two (Ok v) P Q R f p q = f p q
on_ok_two (Err e) P Q R f p q = tt

-- ---- wider

pub wider_same : (stage : Stage) → IsWider stage stage
wider_same stage = record { taken = λ p held. held; more = omega arith; same = λ k l. refl; front = omega arith }

pub wider_then : (first now new : Stage) → IsWider first now → IsWider now new → IsWider first new
wider_then first now new one two = record {
  taken = λ p held. two.taken p (one.taken p held);
  more = omega (arith, one.more, two.more);
  same = λ k l. two.same k (omega (arith, l, one.more)) ∙ one.same k l;
  front = omega (arith, one.front, two.front);
}

pub seen_wider : (choices : List Choice) (bits : List Bool) (site : ℕ) (old new : Stage) → IsWider old new → IsSiteSeen choices bits site old → IsSiteSeen choices bits site new
seen_wider choices bits site old new wider seen none held = wider.taken site (seen (omega (arith, none, wider.front)) held)

pub across_wider : (choices : List Choice) (bits : List Bool) (site : ℕ) (pair : Pair) (old new : Stage) → IsWider old new
    → IsSeenAcross choices bits site pair old → IsSeenAcross choices bits site pair new
across_wider choices bits site pair old new wider across = (
  (λ here. seen_wider choices bits pair.second old new wider (across.0 here)),
  (λ here. seen_wider choices bits pair.first old new wider (across.1 here)),
)

pub around_wider : (pairs : PairList) (ends : Neighbours) (choices : List Choice) (bits : List Bool) (site : ℕ) (old new : Stage) → IsWider old new
    → AreSeenAround pairs ends choices bits site old → AreSeenAround pairs ends choices bits site new
around_wider pairs ends choices bits site old new wider around k l = across_wider choices bits site (pair_of ends site k) old new wider (around k l)

-- ---- one site

pub value_open : (choices : List Choice) (numbers : List ℕ) (bits : List Bool) (site : ℕ) → IsNumbering choices numbers → site < length choices → choice_at choices site ≡ Open
    → value_of choices bits site ≡ get_or bits (labelling numbers site) false
value_open choices numbers bits site numbering l opened =
    ap (λ (c : Choice). bit_of c (get_or bits (open_rank choices site) false)) opened ∙ ap (λ k. get_or bits k false) (sym (numbering.each site l opened))

pub value_zero : (choices : List Choice) (bits : List Bool) (site : ℕ) → choice_at choices site ≡ Zero → value_of choices bits site ≡ false
value_zero choices bits site is = ap (λ (c : Choice). bit_of c (get_or bits (open_rank choices site) false)) is

-- a site is taken
pub shown_taken : (choices : List Choice) (bits : List Bool) (site : ℕ) (old new : Stage) → site < length choices → choice_at choices site ≡ Open
    → value_of choices bits site ≡ true → IsMarkedToo site old.taken.items new.taken.items → IsListedToo site old.taken.items old.taking.items new.taking.items
    → new.front.items ≡ old.front.items → AreShown choices bits old → AreShown choices bits new
shown_taken choices bits site old new l opened one too listed front shown =
    let P : List ℕ → Type 0 = λ xs. All (λ p. p < length choices) xs in
    record {
      marks = marks_more (length choices) site old.taken.items new.taken.items old.taking.items new.taking.items l too listed shown.marks;
      shown = λ p k held. elim ((too.each p).0 held) [
        | inl was ↦ shown.shown p k was
        | inr same ↦ (ap (choice_at choices) same ∙ opened, ap (value_of choices bits) same ∙ one)
      ];
      front = subst P (sym front) shown.front;
    }

pub wider_taken : (site : ℕ) (old new : Stage) → IsMarkedToo site old.taken.items new.taken.items → IsListedToo site old.taken.items old.taking.items new.taking.items
    → new.front.items ≡ old.front.items → IsWider old new
wider_taken site old new too listed front = record {
  taken = too_stays site old.taken.items new.taken.items too;
  more = (let e = ap (λ (xs : List ℕ). length xs) listed in omega (arith, e, length-append old.taking.items (cond (is_marked old.taken.items site) [] (site ∷ []))));
  same = λ k l. ap (λ (xs : List ℕ). get_or xs k 0) listed ∙ get_or_append_left old.taking.items (cond (is_marked old.taken.items site) [] (site ∷ [])) 0 k l;
  front = (let e = ap (λ (xs : List ℕ). length xs) front in omega (arith, e));
}

-- a site waits to be opened
pub shown_waits : (choices : List Choice) (bits : List Bool) (site : ℕ) (old new : Stage) → site < length choices → new.taken.items ≡ old.taken.items → new.taking.items ≡ old.taking.items
    → new.front.items ≡ old.front.items ++ site ∷ [] → AreShown choices bits old → AreShown choices bits new
shown_waits choices bits site old new l taken taking front shown =
    let P : List ℕ → Type 0 = λ xs. All (λ p. p < length choices) xs in
    let Q : List Bool → List ℕ → Type 0 = λ flags xs. AreSiteMarks (length choices) flags xs in
    let R : List ℕ → Type 0 = λ xs. Q old.taken.items xs in
    let S : List Bool → Type 0 = λ flags. Q flags new.taking.items in
    record {
      marks = subst S (sym taken) (subst R (sym taking) shown.marks);
      shown = λ p k held. shown.shown p k (sym (ap (λ (xs : List Bool). is_marked xs p) taken) ∙ held);
      front = subst P (sym front) (All-push (λ p. p < length choices) old.front.items site shown.front l);
    }

pub wider_waits : (site : ℕ) (old new : Stage) → new.taken.items ≡ old.taken.items → new.taking.items ≡ old.taking.items
    → new.front.items ≡ old.front.items ++ site ∷ [] → IsWider old new
wider_waits site old new taken taking front = record {
  taken = λ p held. ap (λ (xs : List Bool). is_marked xs p) taken ∙ held;
  more = (let e = ap (λ (xs : List ℕ). length xs) taking in omega (arith, e));
  same = λ k l. ap (λ (xs : List ℕ). get_or xs k 0) taking;
  front = (let e = ap (λ (xs : List ℕ). length xs) front in omega (arith, e, length-append old.front.items (site ∷ [])));
}

pub seen_waits : (choices : List Choice) (bits : List Bool) (site : ℕ) (old new : Stage) → new.front.items ≡ old.front.items ++ site ∷ [] → IsSiteSeen choices bits site new
seen_waits choices bits site old new front none held =
    (let e = ap (λ (xs : List ℕ). length xs) front in absurd (omega (arith, e, none, length-append old.front.items (site ∷ []))))

-- ---- closed

apart_across : (pairs : PairList) (ends : Neighbours) (choices : List Choice) (bits : List Bool) (stage : Stage) (a : ℕ) (f : ℕ → ℕ) (i : ℕ) → AreBySite pairs ends
    → All (IsPair pairs.sites) pairs.list → AreSiteMarks pairs.sites stage.taken.items stage.taking.items → All (λ p. AreSeenAround pairs ends choices bits p stage) stage.taking.items
    → length stage.front.items ≡ 0 → i < length pairs.list → IsApart a f (value_of choices bits) (is_marked stage.taken.items) (pair_in pairs.list i)
apart_across pairs ends choices bits stage a f i by_site are marks around none l =
    let pair = pair_in pairs.list i in
    let is = of_one (IsPair pairs.sites) pairs.list i are l in
    let seen : (p : ℕ) → is_marked stage.taken.items p ≡ true → p < pairs.sites → AreSeenAround pairs ends choices bits p stage =
    λ p held inside. All-contains (λ q. AreSeenAround pairs ends choices bits q stage) stage.taking.items p around ((marks.listed p inside).0 held) in (
      (λ held one could.
          let met = pair_met pairs ends pair.first i by_site is.first l (inl refl) in
          let P : Pair → Type 0 = λ q. IsSeenAcross choices bits pair.first q stage in
          (subst P met.2 (seen pair.first held is.first met.0 met.1)).0 refl none one),
      (λ held one could.
          let met = pair_met pairs ends pair.second i by_site is.second l (inr refl) in
          let P : Pair → Type 0 = λ q. IsSeenAcross choices bits pair.second q stage in
          (subst P met.2 (seen pair.second held is.second met.0 met.1)).1 refl none one),
    )

pub closes : (pairs : PairList) (ends : Neighbours) (choices : List Choice) (bits : List Bool) (stage : Stage) → AreBySite pairs ends → All (IsPair pairs.sites) pairs.list
    → length choices ≡ pairs.sites → AreShown choices bits stage
    → ((p : ℕ) → p < pairs.sites → is_marked stage.fresh.items p ≡ true → IsSiteSeen choices bits p stage)
    → All (λ p. AreSeenAround pairs ends choices bits p stage) stage.taking.items → length stage.front.items ≡ 0
    → IsClosedIn pairs (value_of choices bits) (choice_at choices) (is_marked stage.taken.items) (is_marked stage.fresh.items)
closes pairs ends choices bits stage by_site are count shown fresh around none =
    let P : ℕ → Type 0 = λ n. AreSiteMarks n stage.taken.items stage.taking.items in
    let marks : AreSiteMarks pairs.sites stage.taken.items stage.taking.items = subst P count shown.marks in
    record {
      within = λ p l held. (shown.shown p (omega (arith, l, count)) held).1;
      apart = λ a f. of_all (IsApart a f (value_of choices bits) (is_marked stage.taken.items)) pairs.list
          (λ i l. apart_across pairs ends choices bits stage a f i by_site are marks around none l);
      holds_fresh = λ p l held one. fresh p l held none one;
      left_open = λ p l held. (shown.shown p (omega (arith, l, count)) held).0;
    }

pub takes : (n : ℕ) (choices : List Choice) (bits : List Bool) (stage : Stage) → length choices ≡ n → AreShown choices bits stage → AreTaking n stage
takes n choices bits stage count shown =
    let P : ℕ → Type 0 = λ k. AreTaking k stage in
    subst P count (record { count = shown.marks.count; listed = shown.marks.listed; inside = shown.marks.inside; front = shown.front })
