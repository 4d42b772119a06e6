-- From the form of a strip to what it tells.
use Rattle.std.proofs.Common.{◌≡◌, ◌==◌, ◌&&◌, ◌||◌, ◌<◌, ℕ, Bool, true, false, not, cond, List, length, get_or, pos, ◌+ℤ◌, vec_len, refl, sym, ap, ◌∙◌, inl, inr, subst, arith}
use Rattle.std.specs.Prelude.{slice_index, slice_index_or}
use Rattle.std.specs.List.{sum_by, Contains}
use Rattle.std.proofs.lemmas.Bool.{cases_lt}
use Rattle.std.proofs.lemmas.List.{get_or_past}
use Rattle.std.proofs.lemmas.List.Elements.{Contains-get_or}
use Rattle.std.proofs.lemmas.Grind.{get_or_default_zero}
use Rattle.sums.specs.Sums.{count_if}
use Rattle.label_field.specs.declared.pair.Pair.{Pair}
use Rattle.label_energies.specs.declared.change.Move.{Move}
use Rattle.label_energies.specs.Energies.{Instance, IsInstance}
use Rattle.label_energies.specs.Moves.{IsAllowed}
use Rattle.pseudo_bool.specs.Energies.{assignment, entry}
use Rattle.compile_cut.specs.declared.quadratic.Quadratic.{Quadratic}
use Rattle.compile_cut.specs.Quadratics.{quadratic_value}
use Rattle.move_energy.specs.declared.choice.Choice.{Choice}
use Rattle.move_energy.specs.declared.choice.Choice.TheVariants.{Open, Zero, One}
use Rattle.move_energy.specs.Choices.{choice_at, is_open, open_at, open_rank, AreOpenSites, StandsFor}
use Rattle.move_energy.specs.Weights.{pair_surplus}
use Rattle.move_energy.proofs.Numbers.{rank_below}
use Rattle.move_energy.proofs.Opened.{opened_has, opened_place, opened_count, true_open, open_true}
use Rattle.site_bounds.specs.Decisions.{IsSmallestLeast}
use Rattle.move_energy.specs.MoveValues.{move_value}
use Rattle.persistency.specs.Fixing.{fixed_value}
use Rattle.persistency.specs.Agreeing.{or_else}
use Rattle.persistency.specs.Strips.{Strip, others_at, IsStripBounded}
use Rattle.persistency.specs.Borders.{range_of, is_inside, is_beyond, border_at}
use Rattle.persistency.specs.Forms.{bits_by_site, IsOneToOne}
use Rattle.persistency.specs.Telling.{IsStripListed}
use Rattle.persistency.proofs.Forms.{form_least, form_smallest, reweighed_form}
use Rattle.strip_nets.specs.Views.{strip_view}
use Rattle.strip_nets.specs.Sides.{IsLessBorder, AreBounds}
use Rattle.strip_nets.proofs.Views.{first_of, view_length, view_at, open_is, open_inside}
use Rattle.plain_cut.specs.declared.both.BothSides.{BothSides}
use Rattle.strip_nets.specs.declared.material.StripSites.{StripSites}
use Rattle.strip_nets.specs.Building.{IsStripForm}
use Rattle.strip_nets.proofs.Lessening.{less_exists}

-- ---- a strip is the set of its open sites

-- an open site of the strip is open
pub open_now : (known : List Choice) (from to p : ℕ) → open_at (strip_view known from to) p ≡ true → choice_at known p ≡ Open
open_now known from to p opened = true_open (choice_at known p) (open_inside known from to p opened).1

pub inside_length : (view : List Choice) (p : ℕ) → open_at view p ≡ true → p < length view
inside_length view p opened = elim (cases_lt p (length view)) [
  | inl l ↦ l
  | inr past ↦ absurd (let e = sym opened ∙ ap is_open (get_or_past view p Zero (omega (arith, past))) in cc (e))
]

-- with the open sites beyond it at 0 they are what the strip sees
others_seen : (b : Bool) (c : Choice) → cond (is_open (cond b c (or_else c Zero))) c (or_else c Zero) ≡ cond b c (or_else c Zero)
others_seen true Open = refl
others_seen true Zero = refl
others_seen true One = refl
others_seen false Open = refl
others_seen false Zero = refl
others_seen false One = refl

pub seen_same : (known : List Choice) (from to : ℕ) → choice_at (strip_view known from to) ≡ others_at Zero (open_at (strip_view known from to)) (choice_at known)
seen_same known from to = λ j p. (
    view_at known from to p ∙ sym (others_seen (range_of from to p) (choice_at known p))
    ∙ ap (λ (b : Bool). cond b (choice_at known p) (or_else (choice_at known p) Zero)) (sym (open_is known from to p))) j

beyond_by : (b : Bool) (c : Choice) → (is_open c && not b) ≡ (is_open c && not (is_open (cond b c (or_else c Zero))))
beyond_by true Open = refl
beyond_by true Zero = refl
beyond_by true One = refl
beyond_by false Open = refl
beyond_by false Zero = refl
beyond_by false One = refl

-- beyond the range lies what lies beyond its open sites
beyond_same : (known : List Choice) (from to p : ℕ) → is_beyond (choice_at known) (range_of from to) p ≡ is_beyond (choice_at known) (open_at (strip_view known from to)) p
beyond_same known from to p =
    beyond_by (range_of from to p) (choice_at known p) ∙ ap (λ (b : Bool). is_open (choice_at known p) && not b) (sym (open_is known from to p))

pub border_same : (m : Instance) (move : Move) (f : ℕ → ℕ) (known : List Choice) (from to p : ℕ)
    → border_at m move f (choice_at known) (range_of from to) p ≡ border_at m move f (choice_at known) (open_at (strip_view known from to)) p
border_same m move f known from to p j =
    sum_by
    (λ (pair : Pair). count_if
    (((pair.first == p) && beyond_same known from to pair.second j) || ((pair.second == p) && beyond_same known from to pair.first j))
    (pair_surplus m move f pair))
    m.pairs

-- ---- its sites and its variables

and_second : (a b : Bool) → (a && b) ≡ true → b ≡ true
and_second true b h = h
and_second false b h = absurd (cc (h))

and_both : (a b : Bool) → a ≡ true → b ≡ true → (a && b) ≡ true
and_both true b h k = k
and_both false b h k = absurd (cc (h))

pub one_to_one : (known : List Choice) (from to n : ℕ) (opened : List ℕ) (r : ℕ) → length known ≡ n → AreOpenSites (strip_view known from to) opened
    → r ≡ length opened → IsOneToOne n (is_inside (choice_at known) (open_at (strip_view known from to))) r (open_rank (strip_view known from to)) (slice_index opened)
one_to_one known from to n opened r sites listed count =
    let view = strip_view known from to in
    let size = view_length known from to in
    record {
      there = λ p l inside.
          let opened_is = true_open (choice_at view p) (and_second (is_open (choice_at known p)) (open_at view p) inside) in
          let within : p < length view = omega (arith, l, sites, size) in
          (omega (arith, rank_below view p (length view) within opened_is, count, opened_count view opened listed), opened_place view opened p listed within opened_is);
      back = λ k l.
          let has = opened_has view opened k listed (omega (arith, l, count)) in
          let site = slice_index opened k in
          let is_so : open_at view site ≡ true = open_true (choice_at view site) has.1 in (
            omega (arith, has.0, sites, size),
            and_both (is_open (choice_at known site)) (open_at view site) (open_inside known from to site is_so).1 is_so,
            has.2,
          );
    }

-- ---- what its two cuts show

-- what the bits of both cuts tell of its sites
abbrev pub strip_of : List Choice → ℕ → ℕ → List Bool → List Bool → Strip
strip_of known from to lower upper = record {
  set = open_at (strip_view known from to);
  lower = bits_by_site (choice_at (strip_view known from to)) (open_rank (strip_view known from to)) (assignment lower);
  upper = bits_by_site (others_at One (open_at (strip_view known from to)) (choice_at known)) (open_rank (strip_view known from to)) (assignment upper);
}

first_bit : (c : Choice) (x y : Bool) → c ≡ Open → x ≡ y → (is_open c && x) ≡ y
first_bit c x y h k = ap (λ (d : Choice). is_open d && x) h ∙ k

default_is : (sites : List ℕ) (i p : ℕ) → i < length sites → get_or sites i 0 ≡ get_or sites i p
default_is sites i p l = sym (get_or_default_zero sites i p l)

pub strip_listed : (known : List Choice) (from to : ℕ) (opened : List ℕ) (lower upper : List Bool) → AreOpenSites (strip_view known from to) opened
    → IsStripListed opened lower upper (strip_of known from to lower upper)
strip_listed known from to opened lower upper listed =
    let view = strip_view known from to in
    record {
      set = λ p. (
        (λ opened_is.
            let l = inside_length view p opened_is in
            let was = true_open (choice_at view p) opened_is in
            let at = opened_place view opened p listed l was in
            let P : ℕ → Type 0 = λ q. Contains opened q in
            subst P at (Contains-get_or opened (open_rank view p) 0 (omega (arith, rank_below view p (length view) l was, opened_count view opened listed)))),
        (λ of.
            let has = opened_has view opened of.0 listed of.1 in
            ap (open_at view) (sym (of.2) ∙ sym (default_is opened of.0 p of.1)) ∙ open_true (choice_at view (get_or opened of.0 0)) has.1),
      );
      lower = λ i l.
          let has = opened_has view opened i listed l in
          first_bit (choice_at view (slice_index opened i)) (assignment lower (open_rank view (slice_index opened i))) (slice_index_or lower i false) has.1
          (ap (assignment lower) has.2);
      upper = λ i l.
          let has = opened_has view opened i listed l in
          let site = slice_index opened i in
          let is_so : open_at view site ≡ true = open_true (choice_at view site) has.1 in
          first_bit (others_at One (open_at view) (choice_at known) site) (assignment upper (open_rank view site)) (slice_index_or upper i false)
          (first_of (open_at view site) (choice_at known site) (or_else (choice_at known site) One) is_so ∙ open_now known from to site is_so)
          (ap (assignment upper) has.2);
    }

pub strip_bounded : (m : Instance) (move : Move) (f : ℕ → ℕ) (known : List Choice) (from to : ℕ) (opened borders : List ℕ) (q less : Quadratic) (lower upper : List Bool)
    → IsInstance m → IsAllowed m move f → length known ≡ m.sites → AreOpenSites (strip_view known from to) opened
    → StandsFor m move f (choice_at (strip_view known from to)) q (open_rank (strip_view known from to)) → vec_len q.weights ≡ length opened
    → ((k : ℕ) → k < length opened → slice_index borders k ≡ border_at m move f (choice_at known) (range_of from to) (slice_index opened k))
    → IsSmallestLeast (vec_len q.weights) (quadratic_value q) (assignment lower)
    → IsLessBorder borders q less → IsSmallestLeast (vec_len q.weights) (quadratic_value less) (assignment upper)
    → IsStripBounded m.sites (move_value m move f) (choice_at known) (strip_of known from to lower upper)
strip_bounded m move f known from to opened borders q less lower upper pairs allowed sites listed stands count border low lower_by up =
    let E = move_value m move f in
    let view = strip_view known from to in
    let set = open_at view in
    let same = seen_same known from to in
    let L : (ℕ → Choice) → Type 0 = λ choice. IsSmallestLeast m.sites (fixed_value E choice) (bits_by_site (choice_at view) (open_rank view) (assignment lower)) in
    let S : (ℕ → Choice) → Type 0 = λ choice. StandsFor m move f choice q (open_rank view) in
    let one = one_to_one known from to m.sites opened (vec_len q.weights) sites listed count in
    let entries : (k : ℕ) → k < vec_len q.weights → entry less.weights.items k +ℤ pos (border_at m move f (choice_at known) set (slice_index opened k)) ≡ entry q.weights.items k =
    λ k l. ap (λ (b : ℕ). entry less.weights.items k +ℤ pos b)
    (sym (border k (omega (arith, l, count)) ∙ border_same m move f known from to (slice_index opened k)))
    ∙ lower_by.weights k l in
    let above = reweighed_form m move f (choice_at known) set q less (open_rank view) (slice_index opened) pairs allowed (subst S same stands) one lower_by.again entries in
    record {
      lower = subst L same (form_smallest m move f (choice_at view) q (open_rank view) (assignment lower) pairs stands low);
      upper = form_least m move f (others_at One set (choice_at known)) less (open_rank view) (assignment upper) pairs above up.least;
    }

-- ---- the two cuts of a strip

pub sides_bound : (m : Instance) (move : Move) (f : ℕ → ℕ) (known : List Choice) (sites : StripSites) (form : Quadratic) (borders : List ℕ) (sides : BothSides) → IsInstance m → IsAllowed m move f
    → length known ≡ m.sites → AreOpenSites (strip_view known sites.from sites.to) sites.opened.now → length borders ≡ vec_len form.weights → vec_len form.weights ≡ length sites.opened.now
    → IsStripForm m move f known sites form borders
    → IsSmallestLeast (vec_len form.weights) (quadratic_value form) (assignment sides.lower.items)
    → ((less : Quadratic) → IsLessBorder borders form less → IsSmallestLeast (vec_len form.weights) (quadratic_value less) (assignment sides.upper.items))
    → AreBounds m move f known sites.opened.now sides
sides_bound m move f known sites form borders sides pairs allowed size listed count nodes built lower upper =
    let less = less_exists borders form count in (
      strip_of known sites.from sites.to sides.lower.items sides.upper.items,
      strip_listed known sites.from sites.to sites.opened.now sides.lower.items sides.upper.items listed,
      strip_bounded m move f known sites.from sites.to sites.opened.now borders form less.0 sides.lower.items sides.upper.items pairs allowed size listed built.stands nodes built.each
          lower less.1 (upper less.0 less.1),
    )
