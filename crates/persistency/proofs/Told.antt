-- What a strip tells, written site after site.
use Rattle.std.proofs.Common.{◌≡◌, ◌==◌, ◌||◌, ℕ, zero, suc, ◌+◌, ◌<◌, ◌≤◌, Bool, true, false, cond, List, length, get_or, ℤ, refl, sym, ap, ◌∙◌, inl, inr, subst, add-one, arith}
use Rattle.std.specs.Prelude.{slice_index_or, slice_set}
use Rattle.std.specs.List.{Contains}
use Rattle.std.proofs.lemmas.Bool.{cases_eq}
use Rattle.std.proofs.lemmas.List.{length-set, get_or_default, get_or-set_same, get_or-set_other}
use Rattle.std.proofs.lemmas.List.Elements.{Contains-get_or}
use Rattle.std.proofs.lemmas.Grind.{get_or_default_zero}
use Rattle.move_energy.specs.declared.choice.Choice.{Choice}
use Rattle.move_energy.specs.declared.choice.Choice.TheVariants.{Open, Zero, One}
use Rattle.move_energy.specs.Choices.{choice_at}
use Rattle.move_energy.specs.Assignments.{IsSubmodular, IsOver}
use Rattle.move_energy.proofs.SiteSums.{test_true, test_false}
use Rattle.persistency.specs.Agreeing.{Agree, ChooseMore, or_else, choices_or}
use Rattle.persistency.specs.Strips.{Strip, IsStripBounded, choice_of_bounds, told_by}
use Rattle.persistency.specs.Telling.{IsStripListed}
use Rattle.persistency.proofs.Agreeing.{each_agreed}
use Rattle.persistency.proofs.Strips.{strip_adds}

-- is the site among the first k of the list?
abbrev pub is_among : List ℕ → ℕ → ℕ → Bool
is_among sites zero p = false
is_among sites (suc k) p = is_among sites k p || (get_or sites k 0 == p)

or_first : (a b : Bool) → a ≡ true → (a || b) ≡ true
or_first true b h = refl
or_first false b h = absurd (cc (h))

or_second : (a b : Bool) → b ≡ true → (a || b) ≡ true
or_second true b h = refl
or_second false b h = h

or_none : (a b : Bool) → b ≡ false → (a || b) ≡ a
or_none true b h = refl
or_none false b h = h

among_at : (sites : List ℕ) (k i p : ℕ) → i < k → get_or sites i 0 ≡ p → is_among sites k p ≡ true
among_at sites zero i p l is = absurd (omega (arith, l))
among_at sites (suc k) i p l is = elim (cases_eq i k) [
  | inl same ↦ or_second (is_among sites k p) (get_or sites k 0 == p) (test_true (get_or sites k 0) p (ap (λ j. get_or sites j 0) (sym same) ∙ is))
  | inr other ↦ or_first (is_among sites k p) (get_or sites k 0 == p) (among_at sites k i p (omega (arith, l, other)) is)
]

not_both : (b : Bool) → b ≡ true → b ≡ false → ⊥
not_both b h k = (let e = sym h ∙ k in cc (e))

among_is : (sites : List ℕ) (k p : ℕ) → is_among sites k p ≡ true → (i : ℕ) × (i < k) × (get_or sites i 0 ≡ p)
among_is sites zero p h = absurd (cc (h))
among_is sites (suc k) p h = elim (cases_eq (get_or sites k 0) p) [
  | inl here ↦ (k, omega arith, here)
  | inr other ↦
      let before = among_is sites k p (sym (or_none (is_among sites k p) (get_or sites k 0 == p) (test_false (get_or sites k 0) p other)) ∙ h) in
      (before.0, (let l = before.1 in omega (arith, l)), before.2)
]

same_bool : (a b : Bool) → (a ≡ true → b ≡ true) → (b ≡ true → a ≡ true) → a ≡ b
same_bool true b f g = sym (f refl)
same_bool false true f g = g refl
same_bool false false f g = refl

-- within a list the value past its end is not asked
default_is : (sites : List ℕ) (i p : ℕ) → i < length sites → get_or sites i 0 ≡ get_or sites i p
default_is sites i p l = sym (get_or_default_zero sites i p l)

-- all of them
among_all : (sites : List ℕ) (below above : List Bool) (strip : Strip) (p : ℕ) → IsStripListed sites below above strip → is_among sites (length sites) p ≡ strip.set p
among_all sites below above strip p listed =
    same_bool (is_among sites (length sites) p) (strip.set p)
    (λ among. (let at = among_is sites (length sites) p among in
    let P : ℕ → Type 0 = λ q. Contains sites q in
    (listed.set p).1 (subst P at.2 (Contains-get_or sites at.0 0 at.1))))
    (λ of. (let at = (listed.set p).0 of in
    among_at sites (length sites) at.0 p at.1 (default_is sites at.0 p at.1 ∙ at.2)))

-- ---- one site after another

-- the first k sites have what their bounds tell
pub record AreTold (sites : List ℕ) (below above : List Bool) (old : List Choice) (k : ℕ) (now : List Choice) : Type 0 where
  pub count : length now ≡ length old
  pub each : (strip : Strip) → IsStripListed sites below above strip → (p : ℕ) → p < length old
      → choice_at now p ≡ or_else (choice_at old p) (cond (is_among sites k p) (choice_of_bounds (strip.lower p) (strip.upper p)) Open)

else_open : (c : Choice) → c ≡ or_else c Open
else_open Open = refl
else_open Zero = refl
else_open One = refl

pub told_first : (sites : List ℕ) (below above : List Bool) (old : List Choice) → AreTold sites below above old 0 old
told_first sites below above old = record { count = refl; each = λ strip listed p l. else_open (choice_at old p) }

twice : (c t : Choice) (seen here : Bool) → here ≡ true → or_else (or_else c (cond seen t Open)) t ≡ or_else c (cond (seen || here) t Open)
twice Open Open true here h = refl
twice Open Zero true here h = refl
twice Open One true here h = refl
twice Open t false true h = refl
twice Open t false false h = absurd (cc (h))
twice Zero t seen here h = refl
twice One t seen here h = refl

pub told_more : (sites : List ℕ) (below above : List Bool) (old now new : List Choice) (k site : ℕ) (mark said : Choice) → k < length sites → site < length old
    → site ≡ get_or sites k 0 → mark ≡ or_else (get_or now site Open) said → said ≡ choice_of_bounds (slice_index_or below k false) (slice_index_or above k false)
    → new ≡ slice_set now site mark → AreTold sites below above old k now → AreTold sites below above old (k + 1) new
told_more sites below above old now new k site mark said l inside is marks says sets before = rw add-one (record {
  count = ap length sets ∙ length-set now site mark ∙ before.count;
  each = λ strip listed p small. elim (cases_eq p site) [
    | inl here ↦
        let lower : strip.lower p ≡ slice_index_or below k false = ap strip.lower (here ∙ is) ∙ listed.lower k l in
        let upper : strip.upper p ≡ slice_index_or above k false = ap strip.upper (here ∙ is) ∙ listed.upper k l in
        let told_is : choice_of_bounds (slice_index_or below k false) (slice_index_or above k false) ≡ choice_of_bounds (strip.lower p) (strip.upper p) =
        (λ j. choice_of_bounds (sym lower j) (sym upper j)) in
        ap (λ xs. choice_at xs p) sets ∙ ap (choice_at (slice_set now site mark)) here
        ∙ get_or-set_same now site mark Zero (omega (arith, inside, before.count)) ∙ marks
        ∙ ap (λ c. or_else c said) (get_or_default now site Open Zero (omega (arith, inside, before.count)))
        ∙ (λ j. or_else (choice_at now (sym here j)) ((says ∙ told_is) j))
        ∙ ap (λ c. or_else c (choice_of_bounds (strip.lower p) (strip.upper p))) (before.each strip listed p small)
        ∙ twice (choice_at old p) (choice_of_bounds (strip.lower p) (strip.upper p)) (is_among sites k p) (get_or sites k 0 == p) (test_true (get_or sites k 0) p (sym is ∙ sym here))
    | inr other ↦
        ap (λ xs. choice_at xs p) sets ∙ get_or-set_other now site p mark Zero other ∙ before.each strip listed p small
        ∙ ap (λ b. or_else (choice_at old p) (cond b (choice_of_bounds (strip.lower p) (strip.upper p)) Open))
        (sym (or_none (is_among sites k p) (get_or sites k 0 == p) (test_false (get_or sites k 0) p (λ same. other (sym same ∙ sym is)))))
  ];
})

pub told_all : (sites : List ℕ) (below above : List Bool) (old new : List Choice) (k : ℕ) → k ≡ length sites → AreTold sites below above old k new
    → (strip : Strip) → IsStripListed sites below above strip → (p : ℕ) → p < length old → choice_at new p ≡ choices_or (choice_at old) (told_by strip) p
told_all sites below above old new k whole done strip listed p l =
    done.each strip listed p l
    ∙ ap (λ b. or_else (choice_at old p) (cond b (choice_of_bounds (strip.lower p) (strip.upper p)) Open)) (ap (λ j. is_among sites j p) whole ∙ among_all sites below above strip p listed)

-- what is told agrees
pub told_agree : (n : ℕ) (E : (ℕ → Bool) → ℤ) (start : ℕ → Choice) (strip : Strip) (old new : List Choice) → n ≤ length old
    → ((p : ℕ) → p < length old → choice_at new p ≡ choices_or (choice_at old) (told_by strip) p)
    → IsSubmodular E → IsOver n E → IsStripBounded n E start strip → Agree n E start → Agree n E (choice_at old) → ChooseMore n start (choice_at old)
    → Agree n E (choice_at new) × ChooseMore n start (choice_at new)
told_agree n E start strip old new few same falls over bounded first agree more =
    let adds = strip_adds n E start (choice_at old) strip falls over first agree more bounded in (
      each_agreed n E (choice_at new) (λ p l. inr (choices_or (choice_at old) (told_by strip), adds.0, sym (same p (omega (arith, l, few))))),
      λ p l opened. adds.1 p l (sym (same p (omega (arith, l, few))) ∙ opened),
    )
