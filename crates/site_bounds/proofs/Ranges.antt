-- Bounds that are written, their range, and the sites that wait.
use Rattle.std.proofs.Common.{◌≡◌, ◌≢◌, ℕ, suc, ◌+◌, ◌*◌, ◌<◌, ◌≤◌, Bool, true, false, List, [], ◌∷◌, length, All, Contains, ℤ, pos, ◌+ℤ◌, ◌≤ℤ◌, ◌<ℤ◌, unsigned_abs, w64, to_z, of_z, refl, sym, ap, ◌∙◌, inl, inr, subst, arith}
use Rattle.std.specs.Prelude.{slice_set}
use Rattle.std.proofs.lemmas.Bool.{cases_eq}
use Rattle.std.proofs.lemmas.List.{get_or-set_same, get_or-set_other, length-set}
use Rattle.sums.specs.Sums.{sum_below, count_if}
use Rattle.sums.proofs.SumLemmas.{sum_below-change, sum_below-same, sum_below-le}
use Rattle.sums.proofs.IntegerSumLemmas.{abs-add}
use Rattle.compile_cut.specs.Weights.{weights_size}
use Rattle.move_energy.specs.declared.choice.Choice.{Choice}
use Rattle.move_energy.specs.declared.choice.Choice.TheVariants.{Open, Zero, One}
use Rattle.move_energy.specs.Choices.{choice_at, is_open}
use Rattle.site_bounds.specs.declared.bounds.Bounds.{Bounds}
use Rattle.move_energy.specs.Weights.{open_weights}
use Rattle.move_energy.proofs.SiteSums.{sum_passed}
use Rattle.move_energy.proofs.Weighed.{open_size as open_weights_size}
use Rattle.site_bounds.specs.Working.{bound_at, budget_of, CanDecide, HasBounds, IsBoundKnown, IsSummed, IsWithinRange, RaisesBounds, AddsBounds, AreWaiting, AreWaitingBut, Shifts, least_shift, greatest_shift, CallsUp, IsMarked, IsLooking, greatest_total}

-- ---- written bounds

set_bound : (old new : List ℤ) (site : ℕ) (z : ℤ) → new ≡ slice_set old site z → site < length old → bound_at new site ≡ z
set_bound old new site z is l = ap (λ (xs : List ℤ). bound_at xs site) is ∙ get_or-set_same old site z (pos 0) l

other_bound : (old new : List ℤ) (site u : ℕ) (z : ℤ) → new ≡ slice_set old site z → u ≢ site → bound_at new u ≡ bound_at old u
other_bound old new site u z is off = ap (λ (xs : List ℤ). bound_at xs u) is ∙ get_or-set_other old site u z (pos 0) off

pub raised_shifts : (site : ℕ) (value : Bool) (surplus a b : ℤ) (old new : Bounds) → site < length old.least.items → site < length old.greatest.items
    → new.least.items ≡ slice_set old.least.items site (bound_at old.least.items site +ℤ a) → new.greatest.items ≡ slice_set old.greatest.items site (bound_at old.greatest.items site +ℤ b)
    → a ≡ least_shift value surplus → b ≡ greatest_shift value surplus → Shifts site value surplus old new
raised_shifts site value surplus a b old new l k least greatest a_is b_is = record {
  least = set_bound old.least.items new.least.items site _ least l ∙ ap (λ z. bound_at old.least.items site +ℤ z) a_is;
  greatest = set_bound old.greatest.items new.greatest.items site _ greatest k ∙ ap (λ z. bound_at old.greatest.items site +ℤ z) b_is;
  others = λ u off. (other_bound old.least.items new.least.items site u _ least off, other_bound old.greatest.items new.greatest.items site u _ greatest off);
}

-- where the choices are the same, and as many sites were summed, the same bounds are known
pub known_same : (old new : Bounds) → new.choices ≡ old.choices → new.summed ≡ old.summed → (u : ℕ) → IsBoundKnown new u → IsBoundKnown old u
known_same old new cs ss u known = (omega (arith, ss, known.0), ap (λ (v : _). choice_at v.items u) (sym cs) ∙ known.1)

pub range_wider : (a b : ℕ) (x : Bounds) → a ≤ b → IsWithinRange a x → IsWithinRange b x
range_wider a b x l h u known = (omega (arith, l, (h u known).0), omega (arith, l, (h u known).1))

abs_more : (new old z : ℤ) (most k : ℕ) → new ≡ old +ℤ z → unsigned_abs old ≤ most → unsigned_abs z ≤ k → unsigned_abs new ≤ most + k
abs_more new old z most k is h l = (let e = ap unsigned_abs is in let a = abs-add old z in omega (arith, e, a, h, l))

abs_same : (new old : ℤ) (most k : ℕ) → new ≡ old → unsigned_abs old ≤ most → unsigned_abs new ≤ most + k
abs_same new old most k is h = (let e = ap unsigned_abs is in omega (arith, e, h))

-- written at one place, no bound grows by more than what was added
pub raised_range : (site : ℕ) (a b : ℤ) (k : ℕ) (old new : Bounds) → RaisesBounds site a b old new → HasBounds site old → IsBoundKnown old site → unsigned_abs a ≤ k → unsigned_abs b ≤ k
    → (most : ℕ) → IsWithinRange most old → IsWithinRange (most + k) new
raised_range site a b k old new raises has own small_a small_b most within u now = elim (cases_eq u site) [
  | inl same ↦ (
    abs_more _ _ a most k (ap (bound_at new.least.items) same ∙ set_bound old.least.items new.least.items site _ raises.least has.0) ((within site own).0) small_a,
    abs_more _ _ b most k (ap (bound_at new.greatest.items) same ∙ set_bound old.greatest.items new.greatest.items site _ raises.greatest has.1) ((within site own).1) small_b,
  )
  | inr other ↦
      let was = within u (known_same old new raises.same.0 raises.same.2 u now) in (
        abs_same _ _ most k (other_bound old.least.items new.least.items site u _ raises.least other) was.0,
        abs_same _ _ most k (other_bound old.greatest.items new.greatest.items site u _ raises.greatest other) was.1,
      )
]

-- ---- all greatest ones together

-- an open site's number, or nothing
abbrev open_size : List Choice → List ℤ → ℕ → ℕ
open_size choices numbers u = count_if (is_open (choice_at choices u)) (unsigned_abs (bound_at numbers u))

total_sum : (b : Bounds) → greatest_total b ≡ sum_below b.summed (open_size b.choices.items b.greatest.items)
total_sum b = open_weights_size b.choices.items b.greatest.items b.summed

counted_most : (b : Bool) (x y k : ℕ) → x ≤ y + k → count_if b x ≤ count_if b y + k
counted_most true x y k l = l
counted_most false x y k l = omega arith

-- one number grew
pub raised_total : (site k : ℕ) (a b : ℤ) (old new : Bounds) → RaisesBounds site a b old new → HasBounds site old → IsBoundKnown old site → unsigned_abs b ≤ k
    → greatest_total new ≤ greatest_total old + k
raised_total site k a b old new raises has own small =
    let f = open_size old.choices.items old.greatest.items in
    let g = open_size new.choices.items new.greatest.items in
    let open_as = λ (u : ℕ). ap (λ (v : _). is_open (choice_at v.items u)) raises.same.0 in
    let change = sum_below-change old.summed site f g own.0
    (λ u l other. sym (λ i. count_if (open_as u i) (unsigned_abs (other_bound old.greatest.items new.greatest.items site u _ raises.greatest other i)))) in
    let here = set_bound old.greatest.items new.greatest.items site _ raises.greatest has.1 in
    let grown : unsigned_abs (bound_at new.greatest.items site) ≤ unsigned_abs (bound_at old.greatest.items site) + k =
    (let e = ap unsigned_abs here in let s = abs-add (bound_at old.greatest.items site) b in omega (arith, e, s, small)) in
    let own_size : g site ≤ f site + k =
    (let most = counted_most (is_open (choice_at old.choices.items site)) _ _ k grown in
    let e : g site ≡ count_if (is_open (choice_at old.choices.items site)) (unsigned_abs (bound_at new.greatest.items site)) =
    ap (λ c. count_if c (unsigned_abs (bound_at new.greatest.items site))) (open_as site) in
    omega (arith, e, most)) in
    let all = ap (λ n. sum_below n g) raises.same.2 in
    omega (arith, change, own_size, all, total_sum old, total_sum new)

-- ---- bounds that are added

added_within : (old new : List ℤ) (z : ℤ) (k u most : ℕ) → k < length old → new ≡ slice_set old k z → unsigned_abs z ≤ most → (u ≢ k → unsigned_abs (bound_at old u) ≤ most)
    → unsigned_abs (bound_at new u) ≤ most
added_within old new z k u most l is small before = elim (cases_eq u k) [
  | inl same ↦ (let e = ap unsigned_abs (ap (bound_at new) same ∙ set_bound old new k z is l) in omega (arith, e, small))
  | inr other ↦ (let e = ap unsigned_abs (other_bound old new k u z is other) in omega (arith, e, before other))
]

-- the bounds of a site are added
pub record AreAdded (k : ℕ) (low high : ℤ) (old new : Bounds) : Type 0 where
  pub inside : (k < length old.least.items) × (k < length old.greatest.items)
  pub least : new.least.items ≡ slice_set old.least.items k low
  pub greatest : new.greatest.items ≡ slice_set old.greatest.items k high
  pub choices : new.choices ≡ old.choices
  pub waiting : new.waiting ≡ old.waiting
  pub summed : new.summed ≡ k + 1

pub added_of : (k : ℕ) (low high : ℤ) (old new : Bounds) → k < length old.least.items → k < length old.greatest.items → AddsBounds k low high old new → AreAdded k low high old new
added_of k low high old new one two adds = record {
  inside = (one, two);
  least = adds.least;
  greatest = adds.greatest;
  choices = adds.choices;
  waiting = adds.waiting;
  summed = adds.summed;
}

counted_within : (b : Bool) (x most : ℕ) → x ≤ most → count_if b x ≤ most
counted_within true x most l = l
counted_within false x most l = omega arith

-- with one more
pub added_total : (k most : ℕ) (least greatest : ℤ) (old new : Bounds) → AreAdded k least greatest old new → old.summed ≡ k → unsigned_abs greatest ≤ most
    → greatest_total new ≤ greatest_total old + most
added_total k most least greatest old new added at_end small =
    let f = open_size old.choices.items old.greatest.items in
    let g = open_size new.choices.items new.greatest.items in
    let same = sum_below-same k g f
    (λ u l. λ i. count_if (ap (λ (v : _). is_open (choice_at v.items u)) added.choices i)
    (unsigned_abs (other_bound old.greatest.items new.greatest.items k u greatest added.greatest (λ is. omega (arith, l, is)) i))) in
    let here = ap unsigned_abs (set_bound old.greatest.items new.greatest.items k greatest added.greatest added.inside.1) in
    let own : g k ≤ most = counted_within (is_open (choice_at new.choices.items k)) (unsigned_abs (bound_at new.greatest.items k)) most (omega (arith, here, small)) in
    let next : new.summed ≡ suc k = omega (arith, added.summed) in
    let all = ap (λ n. sum_below n g) next in
    let was = ap (λ n. sum_below n f) at_end in
    omega (arith, all, was, same, own, total_sum old, total_sum new)

pub total_same : (a b : Bounds) → b.choices ≡ a.choices → b.greatest ≡ a.greatest → b.summed ≡ a.summed → greatest_total b ≡ greatest_total a
total_same a b cs gs ss = λ i. weights_size (open_weights ((cs i).items) ((gs i).items) (ss i))

pub counted_less : (new old : Choice) (z : ℕ) → (new ≡ Open → old ≡ Open) → count_if (is_open new) z ≤ count_if (is_open old) z
counted_less Zero old z stays = omega arith
counted_less One old z stays = omega arith
counted_less Open old z stays = (let e = ap (λ (c : Choice). count_if (is_open c) z) (stays refl) in omega (arith, e))

-- where no site is open that was not
pub total_less : (old new : Bounds) → ((u : ℕ) → choice_at new.choices.items u ≡ Open → choice_at old.choices.items u ≡ Open) → new.greatest ≡ old.greatest → new.summed ≡ old.summed
    → greatest_total new ≤ greatest_total old
total_less old new stays gs ss =
    let numbers = ap (λ (v : _). v.items) gs in
    let less = sum_below-le old.summed (open_size new.choices.items old.greatest.items) (open_size old.choices.items old.greatest.items)
    (λ u l. counted_less (choice_at new.choices.items u) (choice_at old.choices.items u) (unsigned_abs (bound_at old.greatest.items u)) (stays u)) in
    let all : sum_below new.summed (open_size new.choices.items new.greatest.items) ≡ sum_below old.summed (open_size new.choices.items old.greatest.items) =
    λ i. sum_below (ss i) (open_size new.choices.items (numbers i)) in
    omega (arith, all, less, total_sum old, total_sum new)

-- a site was decided
pub marked_opened : (site : ℕ) (value : Bool) (old new : Bounds) → IsMarked site value old new → (u : ℕ) → choice_at new.choices.items u ≡ Open → choice_at old.choices.items u ≡ Open
marked_opened site value old new marked u now = elim (cases_eq u site) [
  | inl same ↦ absurd (marked.closed (ap (choice_at new.choices.items) (sym same) ∙ now))
  | inr other ↦ sym (marked.others u other) ∙ now
]

pub marked_total : (site : ℕ) (value : Bool) (old new : Bounds) → IsMarked site value old new → greatest_total new ≤ greatest_total old
marked_total site value old new marked = total_less old new (marked_opened site value old new marked) marked.greatest marked.summed

pub marked_range : (site most : ℕ) (value : Bool) (old new : Bounds) → IsMarked site value old new → IsWithinRange most old → IsWithinRange most new
marked_range site most value old new marked within u now =
    let was = within u (omega (arith, now.0, marked.summed), marked_opened site value old new marked u now.1) in
    let a = ap (λ (v : _). unsigned_abs (bound_at v.items u)) marked.least in
    let b = ap (λ (v : _). unsigned_abs (bound_at v.items u)) marked.greatest in
    (omega (arith, a, was.0), omega (arith, b, was.1))

-- there are none
pub empty_list : {A : Type 0} (xs : List A) → length xs ≡ 0 → xs ≡ []
empty_list [] none = refl
empty_list (x ∷ xs) none = absurd (omega (arith, none))

pub total_none : (b : Bounds) → b.summed ≡ 0 → greatest_total b ≡ 0
total_none b none = ap (λ n. weights_size (open_weights b.choices.items b.greatest.items n)) none

pub empty_range : (most : ℕ) (b : Bounds) → b.summed ≡ 0 → IsWithinRange most b
empty_range most b none u known = absurd (omega (arith, none, known.0))

pub added_range : (k most : ℕ) (least greatest : ℤ) (old new : Bounds) → AreAdded k least greatest old new → old.summed ≡ k → unsigned_abs least ≤ most → unsigned_abs greatest ≤ most
    → IsWithinRange most old → IsWithinRange most new
added_range k most least greatest old new added at_end small large within u now =
    let was = λ (other : u ≢ k). within u (omega (arith, now.0, added.summed, other, at_end), ap (λ (v : _). choice_at v.items u) (sym added.choices) ∙ now.1) in (
      added_within old.least.items new.least.items least k u most added.inside.0 added.least small (λ other. (was other).0),
      added_within old.greatest.items new.greatest.items greatest k u most added.inside.1 added.greatest large (λ other. (was other).1),
    )

set_len : (old new : List ℤ) (k : ℕ) (z : ℤ) → new ≡ slice_set old k z → length new ≡ length old
set_len old new k z is = ap (λ (xs : List ℤ). length xs) is ∙ length-set old k z

pub added_summed : (n k : ℕ) (least greatest : ℤ) (old new : Bounds) → AreAdded k least greatest old new → IsSummed n old → IsSummed n new
added_summed n k least greatest old new added was =
    record {
      sized = record {
        choices = ap (λ (v : _). length v.items) added.choices ∙ was.sized.choices;
        least = set_len old.least.items new.least.items k least added.least ∙ was.sized.least;
        greatest = set_len old.greatest.items new.greatest.items k greatest added.greatest ∙ was.sized.greatest;
      };
      within = omega (arith, added.summed, added.inside.0, was.sized.least);
    }

pub least_before : (k u : ℕ) (least greatest : ℤ) (old new : Bounds) → AreAdded k least greatest old new → u < k
    → (bound_at new.least.items u ≡ bound_at old.least.items u) × (bound_at new.greatest.items u ≡ bound_at old.greatest.items u)
least_before k u least greatest old new added l =
    let off : u ≢ k = λ same. omega (arith, l, same) in (
      other_bound old.least.items new.least.items k u least added.least off,
      other_bound old.greatest.items new.greatest.items k u greatest added.greatest off,
    )

pub least_at : (k : ℕ) (least greatest : ℤ) (old new : Bounds) → AreAdded k least greatest old new
    → (bound_at new.least.items k ≡ least) × (bound_at new.greatest.items k ≡ greatest)
least_at k least greatest old new added = (
  set_bound old.least.items new.least.items k least added.least added.inside.0,
  set_bound old.greatest.items new.greatest.items k greatest added.greatest added.inside.1,
)

-- ---- sites that wait

pub tells_same : (old new : Bounds) (u : ℕ) → bound_at new.least.items u ≡ bound_at old.least.items u → bound_at new.greatest.items u ≡ bound_at old.greatest.items u
    → CanDecide new u → CanDecide old u
tells_same old new u least greatest (inl tells) = (let P : ℤ → Type 0 = λ z. pos 0 ≤ℤ z in inl (subst P least tells))
tells_same old new u least greatest (inr tells) = (let P : ℤ → Type 0 = λ z. z <ℤ pos 0 in inr (subst P greatest tells))

pub below_not : (u n : ℕ) → u < n → u ≢ n
below_not u n l same = omega (arith, l, same)

-- the bounds of one site were shifted
pub shifted_waits : (n site : ℕ) (value : Bool) (surplus : ℤ) (old new : Bounds) → new.choices ≡ old.choices → new.waiting ≡ old.waiting → Shifts site value surplus old new
    → AreWaiting n old → AreWaitingBut n site new
shifted_waits n site value surplus old new cs ws shifts waiting =
    let P : List ℕ → Type 0 = λ xs. All (λ u. u < n) xs in
    let items = ap (λ (v : _). v.items) ws in
    record {
      sites = subst P (sym items) waiting.sites;
      each = λ u l off opened tells.
          let C : List ℕ → Type 0 = λ xs. Contains xs u in
          subst C (sym items) (waiting.each u l (below_not u n l) (ap (λ (v : _). choice_at v.items u) (sym cs) ∙ opened)
          (tells_same old new u ((shifts.others u off).0) ((shifts.others u off).1) tells));
    }

-- the bounds of the next site were added
pub added_waits : (k : ℕ) (least greatest : ℤ) (old new : Bounds) → AreAdded k least greatest old new → AreWaiting k old → AreWaitingBut (k + 1) k new
added_waits k least greatest old new added waiting =
    let items = ap (λ (v : _). v.items) added.waiting in
    let P : List ℕ → Type 0 = λ xs. All (λ u. u < k + 1) xs in
    record {
      sites = subst P (sym items) (λ i d l. (let h = waiting.sites i d l in omega (arith, h)));
      each = λ u l off opened tells.
          let C : List ℕ → Type 0 = λ xs. Contains xs u in
          let before : u < k = omega (arith, l, off) in
          let same = least_before k u least greatest old new added before in
          subst C (sym items) (waiting.each u before off (ap (λ (v : _). choice_at v.items u) (sym added.choices) ∙ opened) (tells_same old new u same.0 same.1 tells));
    }

-- and it is decided
pub closed_waits : (k : ℕ) (b : Bounds) → choice_at b.choices.items k ≢ Open → AreWaitingBut (k + 1) k b → AreWaiting (k + 1) b
closed_waits k b closed but = record {
  sites = but.sites;
  each = λ u l off opened tells. elim (cases_eq u k) [
    | inl same ↦ absurd (closed (sym (ap (choice_at b.choices.items) same) ∙ opened))
    | inr other ↦ but.each u l other opened tells
  ];
}

-- and that site waited already
pub still_waits : (n site : ℕ) (value : Bool) (surplus : ℤ) (old new : Bounds) → new.choices ≡ old.choices → new.waiting ≡ old.waiting → Shifts site value surplus old new
    → CanDecide old site → AreWaiting n old → AreWaiting n new
still_waits n site value surplus old new cs ws shifts did waiting =
    let but = shifted_waits n site value surplus old new cs ws shifts waiting in
    record {
      sites = but.sites;
      each = λ u l off opened tells. elim (cases_eq u site) [
        | inl same ↦
            let D : ℕ → Type 0 = λ v. CanDecide old v in
            let C : List ℕ → Type 0 = λ xs. Contains xs u in
            subst C (sym (ap (λ (v : _). v.items) ws)) (waiting.each u l off (ap (λ (v : _). choice_at v.items u) (sym cs) ∙ opened) (subst D (sym same) did))
        | inr other ↦ but.each u l other opened tells
      ];
    }

-- a site was called up
pub called_waits : (n site : ℕ) (old new : Bounds) → site < n → new.choices ≡ old.choices → new.least ≡ old.least → new.greatest ≡ old.greatest → CallsUp site old new
    → AreWaitingBut n site old → AreWaiting n new
called_waits n site old new inside cs ls gs calls but = record {
  sites = calls.sites n inside but.sites;
  each = λ u l off opened tells.
      let did = tells_same old new u (ap (λ (v : _). bound_at v.items u) ls) (ap (λ (v : _). bound_at v.items u) gs) tells in
      elim (cases_eq u site) [
        | inl same ↦
            let D : ℕ → Type 0 = λ v. CanDecide old v in
            let C : ℕ → Type 0 = λ v. Contains new.waiting.items v in
            subst C (sym same) (calls.called (subst D same did))
        | inr other ↦ calls.kept u (but.each u l other (ap (λ (v : _). choice_at v.items u) (sym cs) ∙ opened) did)
      ];
}

-- a site was decided
pub decided_waits : (n site : ℕ) (value : Bool) (old new : Bounds) → IsMarked site value old new → AreWaitingBut n site old → AreWaiting n new
decided_waits n site value old new marked but =
    let items = ap (λ (v : _). v.items) marked.waiting in
    let P : List ℕ → Type 0 = λ xs. All (λ u. u < n) xs in
    record {
      sites = subst P (sym items) but.sites;
      each = λ u l off opened tells. elim (cases_eq u site) [
        | inl same ↦ absurd (marked.closed (ap (choice_at new.choices.items) (sym same) ∙ opened))
        | inr other ↦
            let C : List ℕ → Type 0 = λ xs. Contains xs u in
            subst C (sym items) (but.each u l other (sym (marked.others u other) ∙ opened)
            (tells_same old new u (ap (λ (v : _). bound_at v.items u) marked.least) (ap (λ (v : _). bound_at v.items u) marked.greatest) tells))
      ];
    }

-- ---- one site is shifted, and perhaps called up

pub range_same : (a b : Bounds) (most : ℕ) → b.choices ≡ a.choices → b.summed ≡ a.summed → b.least ≡ a.least → b.greatest ≡ a.greatest → IsWithinRange most a → IsWithinRange most b
range_same a b most cs ss ls gs within u now =
    let was = within u (known_same a b cs ss u now) in
    let p = ap (λ (v : _). unsigned_abs (bound_at v.items u)) ls in
    let q = ap (λ (v : _). unsigned_abs (bound_at v.items u)) gs in
    (omega (arith, p, was.0), omega (arith, q, was.1))

pub summed_same : (n : ℕ) (a b : Bounds) → b.choices ≡ a.choices → b.least ≡ a.least → b.greatest ≡ a.greatest → b.summed ≡ a.summed → IsSummed n a → IsSummed n b
summed_same n a b cs ls gs ss was = record {
  sized = record {
    choices = ap (λ (v : _). length v.items) cs ∙ was.sized.choices;
    least = ap (λ (v : _). length v.items) ls ∙ was.sized.least;
    greatest = ap (λ (v : _). length v.items) gs ∙ was.sized.greatest;
  };
  within = omega (arith, ss, was.within);
}

pub marked_summed : (n site : ℕ) (value : Bool) (old new : Bounds) → IsMarked site value old new → IsSummed n old → IsSummed n new
marked_summed n site value old new marked was = record {
  sized = record {
    choices = marked.count ∙ was.sized.choices;
    least = ap (λ (v : _). length v.items) marked.least ∙ was.sized.least;
    greatest = ap (λ (v : _). length v.items) marked.greatest ∙ was.sized.greatest;
  };
  within = omega (arith, marked.summed, was.within);
}

pub looked_summed : (n k : ℕ) (old new : Bounds) → IsLooking k old new → IsSummed n old → IsSummed n new
looked_summed n k old new looking was = record {
  sized = record {
    choices = ap (λ (v : _). length v.items) looking.choices ∙ was.sized.choices;
    least = looking.least_len ∙ was.sized.least;
    greatest = looking.greatest_len ∙ was.sized.greatest;
  };
  within = omega (arith, looking.summed, was.within);
}

pub looking_of : (old mid new : Bounds) → mid.choices ≡ old.choices → mid.summed ≡ old.summed → length mid.least.items ≡ length old.least.items → length mid.greatest.items ≡ length old.greatest.items
    → ((most : ℕ) → IsWithinRange most old → IsWithinRange (most + 20000000) mid) → greatest_total mid ≤ greatest_total old + 20000000 → new.choices ≡ mid.choices → new.least ≡ mid.least → new.greatest ≡ mid.greatest
    → new.summed ≡ mid.summed → length new.waiting.items ≤ length old.waiting.items + 1 → IsLooking 1 old new
looking_of old mid new mc ms ml mg range total nc nl ng ns few = record {
  choices = nc ∙ mc;
  least_len = ap (λ (v : _). length v.items) nl ∙ ml;
  greatest_len = ap (λ (v : _). length v.items) ng ∙ mg;
  summed = ns ∙ ms;
  waiting = few;
  range = λ most within. range_wider (most + 20000000) (most + 20000000 * 1) new (omega arith) (range_same mid new (most + 20000000) nc ns nl ng (range most within));
  total = omega (arith, total, total_same mid new nc ng ns);
}

pub looking_none : (b : Bounds) → IsLooking 1 b b
looking_none b = record {
  choices = refl;
  least_len = refl;
  greatest_len = refl;
  summed = refl;
  waiting = omega arith;
  range = λ most within. range_wider most (most + 20000000 * 1) b (omega arith) within;
  total = omega arith;
}

pub shifts_same : (site : ℕ) (value : Bool) (surplus : ℤ) (old mid new : Bounds) → new.least ≡ mid.least → new.greatest ≡ mid.greatest → Shifts site value surplus old mid
    → Shifts site value surplus old new
shifts_same site value surplus old mid new ls gs shifts = record {
  least = ap (λ (v : _). bound_at v.items site) ls ∙ shifts.least;
  greatest = ap (λ (v : _). bound_at v.items site) gs ∙ shifts.greatest;
  others = λ u other. (ap (λ (v : _). bound_at v.items u) ls ∙ (shifts.others u other).0, ap (λ (v : _). bound_at v.items u) gs ∙ (shifts.others u other).1);
}

-- the bounds of a site that was summed have room
pub sum_room : (z : ℤ) (k n : ℕ) → unsigned_abs z ≤ 10000000 + 10000000 * k → k ≤ 8388608 → n ≤ 8388608 → unsigned_abs (to_z w64 (of_z w64 z)) ≤ budget_of n
sum_room z k n within few left = (let e = ap unsigned_abs (sum_passed z k within few) in omega (arith, e, within, few, left))
