-- What is remembered of the swaps of a run survives each that is noted.
use Rattle.std.proofs.Common.{◌≡◌, ◌≢◌, ◌⊎◌, ◌↔◌, ◌==◌, ℕ, ◌+◌, ◌*◌, ◌<◌, ◌≤◌, ◌≤ℤ◌, ℤ, pos, Bool, true, false, cond, not, List, [], length, refl, sym, ap, ◌∙◌, inl, inr, subst, arith}
use Rattle.std.specs.Prelude.{slice_index, slice_set}
use Rattle.std.specs.List.{Contains}
use Rattle.std.proofs.lemmas.Bool.{cases_eq}
use Rattle.std.proofs.lemmas.Bool.Decides.{nat_tests}
use Rattle.std.proofs.lemmas.List.{get_or-set_same, get_or-set_other, length-set}
use Rattle.std.proofs.lemmas.List.Elements.{Contains-get_or, at_from_Contains}
use Rattle.label_energies.specs.declared.change.Move.{Move}
use Rattle.label_energies.specs.declared.change.Move.TheVariants.{Swap}
use Rattle.label_energies.specs.Energies.{Instance, IsInstance, AreLabelsFree, labelling}
use Rattle.label_energies.specs.Moves.{IsReached, MayBecome, label_after, labelling_made}
use Rattle.label_energies.proofs.Energy.{plain-same, free-plain}
use Rattle.label_energies.proofs.Reaching.{swap_one, cases_one, neither}
use Rattle.move_energy.specs.declared.choice.Choice.{Choice}
use Rattle.move_energy.specs.declared.choice.Choice.TheVariants.{Open, Zero}
use Rattle.move_energy.specs.BySite.{IsListing, rising_sites}
use Rattle.move_energy.specs.Choices.{AreAllOpen, Changes as Changes_label, choice_at}
use Rattle.move_energy.specs.MoveValues.{move_value}
use Rattle.move_energy.proofs.Listings.{listing_place, listing_has, chosen_below}
use Rattle.move_energy.proofs.Rising.{move_over}
use Rattle.near_changes.specs.declared.changes.Changes.{Changes}
use Rattle.near_changes.specs.Looking.{changed_since}
use Rattle.near_changes.specs.Changes.{made_of, changed_after, IsNoted, IsNotedMove}
use Rattle.near_swaps.specs.Looking.{HaveZerosOther, AreTurnsListed, values_in}
use Rattle.near_swaps.specs.Swaps.{kept_values, IsSettled, WasSwapped}
use Rattle.near_swaps.proofs.Settled.{least_along}
use Rattle.one_move.specs.Building.{made_value, moves_site, site_values, HasChanges}
use Rattle.later_swaps.specs.Swaps.{place_of_swap, AreSwapsStamped}
use Rattle.site_bounds.specs.Decisions.{IsSmallestLeast}

pub none_swapped : (m : Instance) (f : ℕ → ℕ) (swaps : Changes) → swaps.made.items ≡ [] → AreSwapsStamped m f swaps
none_swapped m f swaps none =
    let zero_at : (k : ℕ) → made_of swaps k ≡ 0 = λ k. ap (λ (xs : List ℕ). slice_index xs k) none in
    record {
      sites = λ some. (let e = ap (λ (xs : List ℕ). length xs) none in absurd (omega (arith, some, e)));
      made = λ k. omega (arith, zero_at k);
      known = λ a b l some. absurd (omega (arith, some, zero_at (place_of_swap a b)));
    }

pub new_swapped : (m : Instance) (f : ℕ → ℕ) (swaps : Changes) → length swaps.stamps.items ≡ m.sites → ((k : ℕ) → made_of swaps k ≡ 0) → AreSwapsStamped m f swaps
new_swapped m f swaps size none = record {
  sites = λ some. size;
  made = λ k. omega (arith, none k);
  known = λ a b l some. absurd (omega (arith, some, none (place_of_swap a b)));
}

not_since : (stamps : List ℕ) (since p : ℕ) → changed_since stamps since p ≡ false → slice_index stamps p ≤ since
not_since stamps since p is = grind (arith, nat_tests)

since_not : (stamps : List ℕ) (since p : ℕ) → slice_index stamps p ≤ since → changed_since stamps since p ≡ false
since_not stamps since p is = grind (arith, nat_tests)

taken_stamp : (b : Bool) (new old since : ℕ) → cond b new old ≤ since → since < new → (b ≡ false) × (old ≤ since)
taken_stamp true new old since is less = absurd (omega (arith, is, less))
taken_stamp false new old since is less = (refl, is)

-- of another swap
kept_swap : (m : Instance) (f g : ℕ → ℕ) (a b k n : ℕ) (took : ℕ → Bool) (old new : Changes) → IsNoted n took old new
    → length old.stamps.items ≡ m.sites → made_of old k ≤ old.count → made_of new k ≡ made_of old k
    → ((p : ℕ) → p < m.sites → took p ≡ false → g p ≡ f p) → WasSwapped m a b (changed_after old k) f → WasSwapped m a b (changed_after new k) g
kept_swap m f g a b k n took old new noted size most same kept was = record {
  old = was.old;
  settled = was.settled;
  marked = λ p l still.
      let low : slice_index new.stamps.items p ≤ made_of old k = (let h = not_since new.stamps.items (made_of new k) p still in omega (arith, h, same)) in
      let at = noted.stamps p (omega (arith, l, size)) in
      let apart = taken_stamp (took p) new.count (slice_index old.stamps.items p) (made_of old k) (omega (arith, at, low)) (omega (arith, most, noted.count)) in
      kept p l apart.0 ∙ was.marked p l (since_not old.stamps.items (made_of old k) p apart.1);
}

same_pair : (a b c d : ℕ) → b < 256 → d < 256 → a * 256 + b ≡ c * 256 + d → (a ≡ c) × (b ≡ d)
same_pair a b c d l k same = (omega (arith, l, k, same), omega (arith, l, k, same))

own_swap : (m : Instance) (a b c d : ℕ) (changed : ℕ → Bool) (g : ℕ → ℕ) → (a ≡ c) × (b ≡ d) → IsSettled m c d g → WasSwapped m a b changed g
own_swap m a b c d changed g same settled = record {
  old = g;
  settled = subst (λ (x : ℕ). IsSettled m x b g) (sym same.0) (subst (λ (y : ℕ). IsSettled m c y g) (sym same.1) settled);
  marked = λ p l still. refl;
}

-- a swap that is noted, and then forgotten again if its labels are not settled
noted_swapped : (m : Instance) (a b : ℕ) (f g : ℕ → ℕ) (took : ℕ → Bool) (old mid new : Changes) → b < 256
    → IsNoted (place_of_swap a b) took old mid → new.stamps ≡ mid.stamps → new.count ≡ mid.count
    → ((k : ℕ) → k ≢ place_of_swap a b → made_of new k ≡ made_of mid k)
    → (made_of new (place_of_swap a b) ≡ 0) ⊎ ((made_of new (place_of_swap a b) ≡ made_of mid (place_of_swap a b)) × IsSettled m a b g)
    → ((p : ℕ) → p < m.sites → took p ≡ false → g p ≡ f p) → AreSwapsStamped m f old → AreSwapsStamped m g new
noted_swapped m a b f g took old mid new below noted stamps count others own kept stamped =
    let n = place_of_swap a b in
    let own_mid : made_of mid n ≡ mid.count = ap (λ (xs : List ℕ). slice_index xs n) noted.made ∙ get_or-set_same old.made.items n mid.count 0 noted.within in
    let other_mid : (k : ℕ) → k ≢ n → made_of mid k ≡ made_of old k =
    λ k apart. ap (λ (xs : List ℕ). slice_index xs k) noted.made ∙ get_or-set_other old.made.items n k mid.count 0 apart in
    let size = stamped.sites (let w = noted.within in omega (arith, w)) in
    record {
      sites = λ some. ap (λ (v : _). length v.items) stamps ∙ noted.sites ∙ size;
      made = λ k. elim (cases_eq k n) [
        | inl same ↦ elim own [
          | inl zero_now ↦ omega (arith, zero_now, ap (made_of new) same)
          | inr stays ↦ omega (arith, stays.0, own_mid, count, ap (made_of new) same)
        ]
        | inr apart ↦ omega (arith, others k apart, other_mid k apart, stamped.made k, noted.count, count)
      ];
      known = λ c d l some. elim (cases_eq (place_of_swap c d) n) [
        | inl same ↦ elim own [
          | inl zero_now ↦ absurd (omega (arith, some, zero_now, ap (made_of new) same))
          | inr stays ↦ own_swap m c d a b (changed_after new (place_of_swap c d)) g (same_pair c d a b l below same) stays.1
        ]
        | inr apart ↦
            let k = place_of_swap c d in
            let was = kept_swap m f g c d k n took old mid noted size (stamped.made k) (other_mid k apart) kept
            (stamped.known c d l (omega (arith, some, others k apart, other_mid k apart))) in
            let A : ℕ → Type 0 = λ since. WasSwapped m c d (changed_since mid.stamps.items since) g in
            let S : List ℕ → Type 0 = λ xs. WasSwapped m c d (changed_since xs (made_of new k)) g in
            subst S (sym (ap (λ (v : _). v.items) stamps)) (subst A (sym (others k apart)) was)
      ];
    }

pub swap_stays : (m : Instance) (a b : ℕ) (f g : ℕ → ℕ) (took : ℕ → Bool) (old mid : Changes) → b < 256 → IsNotedMove (place_of_swap a b) took old mid
    → IsSettled m a b g → ((p : ℕ) → p < m.sites → took p ≡ false → g p ≡ f p) → AreSwapsStamped m f old → AreSwapsStamped m g mid
swap_stays m a b f g took old mid below (inl noted) settled kept stamped =
    noted_swapped m a b f g took old mid mid below noted refl refl (λ k apart. refl) (inr (refl, settled)) kept stamped
swap_stays m a b f g took old mid below (inr forgotten) settled kept stamped = none_swapped m g mid forgotten.none

pub swap_goes : (m : Instance) (a b : ℕ) (f g : ℕ → ℕ) (took : ℕ → Bool) (old mid new : Changes) → b < 256 → IsNotedMove (place_of_swap a b) took old mid
    → place_of_swap a b < length mid.made.items → new.stamps ≡ mid.stamps → new.count ≡ mid.count
    → new.made.items ≡ slice_set mid.made.items (place_of_swap a b) 0
    → ((p : ℕ) → p < m.sites → took p ≡ false → g p ≡ f p) → AreSwapsStamped m f old → AreSwapsStamped m g new
swap_goes m a b f g took old mid new below (inl noted) within stamps count made kept stamped =
    let n = place_of_swap a b in
    noted_swapped m a b f g took old mid new below noted stamps count
    (λ k apart. ap (λ (xs : List ℕ). slice_index xs k) made ∙ get_or-set_other mid.made.items n k 0 0 apart)
    (inl (ap (λ (xs : List ℕ). slice_index xs n) made ∙ get_or-set_same mid.made.items n 0 0 within)) kept stamped
swap_goes m a b f g took old mid new below (inr forgotten) within stamps count made kept stamped =
    absurd (let e = ap (λ (xs : List ℕ). length xs) forgotten.none in omega (arith, within, e))

-- ---- what the sites of a list are

pub listed_as : (chosen : ℕ → Bool) (n p : ℕ) (sites : List ℕ) → IsListing chosen n sites → p < n → (chosen p ≡ true) ↔ Contains sites p
listed_as chosen n p sites listed l = (
  (λ one. (let found = listing_place chosen n p l one in
      subst (λ (xs : List ℕ). Contains xs p) (sym listed) (subst (λ (q : ℕ). Contains (rising_sites chosen n) q) found.1 (Contains-get_or (rising_sites chosen n) (chosen_below chosen p) 0 found.0)))),
  (λ has. (let at = at_from_Contains (rising_sites chosen n) p (subst (λ (xs : List ℕ). Contains xs p) listed has) in ap chosen (sym (at.2 0)) ∙ (listing_has chosen n at.0 at.1).1)),
)

differ_not : (x y : ℕ) → not (x == y) ≡ false → y ≡ x
differ_not x y h = grind (arith, nat_tests)

pub unlisted_same : (f g : List ℕ) (p : ℕ) → not (labelling f p == labelling g p) ≡ false → labelling g p ≡ labelling f p
unlisted_same f g p h = differ_not (labelling f p) (labelling g p) h

equal_not : (x y : ℕ) → x ≡ y → not (x == y) ≡ false
equal_not x y same = grind (arith, nat_tests, same)

pub same_unlisted : (f g : List ℕ) (p : ℕ) → g ≡ f → not (labelling f p == labelling g p) ≡ false
same_unlisted f g p same = equal_not (labelling f p) (labelling g p) (ap (λ (xs : List ℕ). labelling xs p) (sym same))

-- ---- a swap can be made again from where it led

after_again : (a b old new : ℕ) (bit : Bool) → MayBecome (Swap a b) old new → label_after (Swap a b) old bit ≡ label_after (Swap a b) new bit
after_again a b old new bit may = elim (cases_one a b old) [
  | inl one ↦ swap_one a b old bit one ∙ sym (swap_one a b new bit (may.0 one))
  | inr other ↦ ap (λ k. label_after (Swap a b) k bit) (sym (may.1 (neither a b old other.0 other.1)))
]

made_is_move : (m : Instance) (a b : ℕ) (f g : ℕ → ℕ) (x : ℕ → Bool) → IsInstance m → AreLabelsFree m → IsReached (Swap a b) m.sites f g
    → made_value m (Swap a b) f x ≡ move_value m (Swap a b) g x
made_is_move m a b f g x pairs free reached =
    ap pos (free-plain m (labelling_made (Swap a b) f x) free
    ∙ plain-same m (labelling_made (Swap a b) f x) (labelling_made (Swap a b) g x) pairs (λ p l. after_again a b (f p) (g p) (x p) (reached p l)))

le_both : (a b c d : ℤ) → a ≡ c → b ≡ d → a ≤ℤ b → c ≤ℤ d
le_both a b c d h k l = subst (λ (x : ℤ). x ≤ℤ d) h (subst (λ (y : ℤ). a ≤ℤ y) k l)

least_again : (n : ℕ) (E F : (ℕ → Bool) → ℤ) (x : ℕ → Bool) → ((y : ℕ → Bool) → E y ≡ F y) → IsSmallestLeast n E x → IsSmallestLeast n F x
least_again n E F x same best = record {
  least = λ y. le_both _ _ _ _ (same x) (same y) (best.least y);
  smallest = λ y level k l one. best.smallest y (same y ∙ level ∙ sym (same x)) k l one;
}

pub settled_after : (m : Instance) (a b : ℕ) (f g : ℕ → ℕ) (x : ℕ → Bool) → IsInstance m → AreLabelsFree m → IsReached (Swap a b) m.sites f g
    → IsSmallestLeast m.sites (made_value m (Swap a b) f) x → ((p : ℕ) → p < m.sites → x p ≡ kept_values b g p) → IsSettled m a b g
settled_after m a b f g x pairs free reached best keeps =
    least_along m.sites (move_value m (Swap a b) g) x (kept_values b g) (move_over m (Swap a b) g pairs)
    (least_again m.sites (made_value m (Swap a b) f) (move_value m (Swap a b) g) x (λ y. made_is_move m a b f g y pairs free reached) best)
    (λ p l. sym (keeps p l))

-- and without label costs the values of a swap are what sites and pairs cost
pub made_least : (m : Instance) (move : Move) (f : ℕ → ℕ) (x : ℕ → Bool) → AreLabelsFree m → IsSmallestLeast m.sites (move_value m move f) x
    → IsSmallestLeast m.sites (made_value m move f) x
made_least m move f x free best =
    least_again m.sites (move_value m move f) (made_value m move f) x (λ y. ap pos (sym (free-plain m (labelling_made move f y) free))) best

-- ---- the sites that a swap cannot change

label_turns : (a b old : ℕ) → a ≢ b → old ≡ b → Changes_label (Swap a b) old
label_turns a b old apart is same = apart (sym (sym (swap_one a b old true (inr is)) ∙ same ∙ swap_one a b old false (inr is)))

is_false : (x : Bool) → (x ≡ true → ⊥) → x ≡ false
is_false true h = absurd (h refl)
is_false false h = refl

is_label : (k b : ℕ) → (k == b) ≡ true → k ≡ b
is_label k b h = grind (arith, nat_tests)

zero_or_open : (c : Choice) → c ≡ Zero → c ≡ Open → ⊥
zero_or_open c h k = (let e = sym h ∙ k in cc (e))

pub zeros_other : (a b : ℕ) (f : List ℕ) (choices : List Choice) → a ≢ b → AreAllOpen (Swap a b) f choices → HaveZerosOther b f choices
zeros_other a b f choices apart opened p l zero_now =
    is_false (kept_values b (labelling f) p) (λ one. zero_or_open (choice_at choices p) zero_now ((opened.opened p l).1 (label_turns a b (labelling f p) apart (is_label (labelling f p) b one))))

-- where the numbers have no place for the swap
pub swap_past : (m : Instance) (a b : ℕ) (f g : ℕ → ℕ) (took : ℕ → Bool) (old mid : Changes) → IsNotedMove (place_of_swap a b) took old mid
    → length mid.made.items ≤ place_of_swap a b → AreSwapsStamped m g mid
swap_past m a b f g took old mid (inl noted) past =
    absurd (let e = ap (λ (xs : List ℕ). length xs) noted.made ∙ length-set old.made.items (place_of_swap a b) mid.count in omega (arith, noted.within, past, e))
swap_past m a b f g took old mid (inr forgotten) past = none_swapped m g mid forgotten.none

kept_label : (a b old : ℕ) → label_after (Swap a b) old (old == b) ≡ old
kept_label a b old = grind (arith, nat_tests)

moved_not : (x y : ℕ) → x ≡ y → not (x == y) ≡ true → ⊥
moved_not x y same moved = grind (arith, nat_tests, same, moved)

-- a site whose label the values change has not the value that keeps it
pub moves_turn : (a b : ℕ) (f : ℕ → ℕ) (choices : List Choice) (p : ℕ) → moves_site (Swap a b) f choices p ≡ true → site_values choices p ≢ kept_values b f p
moves_turn a b f choices p moved same =
    moved_not (labelling_made (Swap a b) f (site_values choices) p) (f p) (ap (label_after (Swap a b) (f p)) same ∙ kept_label a b (f p)) moved

pub changes_of : (a b : ℕ) (f : List ℕ) (choices : List Choice) (sites : List ℕ) → AreTurnsListed b f (values_in choices) sites → HasChanges (Swap a b) f choices sites
changes_of a b f choices sites turns = record {
  chosen = turns.chosen;
  listed = turns.listed;
  each = λ p l moved. turns.each p l (moves_turn a b (labelling f) choices p moved);
}
