-- Which labels some site has, by the nodes of the sites.
use Rattle.std.proofs.Common.{◌≡◌, ◌≢◌, ◌==◌, ◌&&◌, ◌||◌, ℕ, zero, suc, ◌<◌, ◌≤◌, Bool, true, false, not, cond, List, [], ◌∷◌, ◌++◌, length, refl, sym, ap, ◌∙◌, inl, inr, arith}
use Rattle.std.specs.List.{All, list_all, list_any}
use Rattle.std.proofs.lemmas.Bool.{cases_eq}
use Rattle.std.proofs.lemmas.Bool.Decides.{nat_tests}
use Rattle.std.proofs.lemmas.List.{length-append}
use Rattle.std.proofs.lemmas.List.Folds.{list_all-append, list_any-append}
use Rattle.std.proofs.lemmas.List.Elements.{All-nil, All-cons, All-append}
use Rattle.label_energies.specs.declared.change.Move.TheVariants.{Expand}
use Rattle.label_energies.specs.Energies.{labelling, is_used}
use Rattle.label_energies.proofs.Energy.{used-same, used_somewhere, somewhere_used, equal_is}
use Rattle.move_energy.specs.declared.choice.Choice.{Choice}
use Rattle.move_energy.specs.declared.choice.Choice.TheVariants.{Open}
use Rattle.move_energy.proofs.Values.{bit_same}
use Rattle.move_energy.specs.Choices.{bit_of, choice_at, open_rank, open_count, made_by, AreAllOpen}
use Rattle.move_energy.proofs.Numbers.{rank_below}
use Rattle.label_cost_terms.specs.LabelCosts.{nodes_of, uses}

-- the label that a site gets
abbrev pub made_at : ℕ → (ℕ → ℕ) → List Choice → (ℕ → Bool) → ℕ → ℕ
made_at alpha f choices x p = made_by (Expand alpha) f (choice_at choices) (open_rank choices) x p

not_equal : (a b : ℕ) → a ≢ b → (a == b) ≡ false
not_equal a b h = grind (arith, nat_tests)

open_made : (c : Choice) (b : Bool) (alpha old : ℕ) → c ≡ Open → cond (bit_of c b) alpha old ≡ cond b alpha old
open_made c b alpha old is = ap (λ (d : Choice). cond (bit_of d b) alpha old) is

-- another label, at a site that has it: the site keeps it where its node is 0
keeps_bit : (b : Bool) (alpha old label : ℕ) → label ≢ alpha → old ≡ label → (cond b alpha old == label) ≡ not b
keeps_bit true alpha old label other is = not_equal alpha label (λ same. other (sym same))
keeps_bit false alpha old label other is = equal_is old label is

-- and at a site that has it not: the site does not get it
never_bit : (b : Bool) (alpha old label : ℕ) → label ≢ alpha → old ≢ label → (cond b alpha old == label) ≡ false
never_bit true alpha old label other off = not_equal alpha label (λ same. other (sym same))
never_bit false alpha old label other off = not_equal old label off

-- the label of the expansion, at a site that has it not: the site gets it where its node is 1
takes_bit : (b : Bool) (alpha old : ℕ) → old ≢ alpha → (cond b alpha old == alpha) ≡ b
takes_bit true alpha old off = equal_is alpha alpha refl
takes_bit false alpha old off = not_equal old alpha off

-- and at a site that has it: the site keeps it
stays_bit : (b : Bool) (alpha old : ℕ) → old ≡ alpha → cond b alpha old ≡ alpha
stays_bit true alpha old is = refl
stays_bit false alpha old is = is

not_and : (a b : Bool) → not (a && b) ≡ (not a || not b)
not_and true b = refl
not_and false b = refl

only_all : (b : Bool) → (b && true) ≡ b
only_all true = refl
only_all false = refl

only_any : (b : Bool) → (b || false) ≡ b
only_any true = refl
only_any false = refl

-- one more site: not all its nodes are 1
chosen_all : (x : ℕ → Bool) (nodes : List ℕ) (v : ℕ) (chosen : Bool) → not (list_all x (nodes ++ cond chosen (v ∷ []) [])) ≡ (not (list_all x nodes) || cond chosen (not (x v)) false)
chosen_all x nodes v true =
    ap not (list_all-append x nodes (v ∷ [])) ∙ not_and (list_all x nodes) (list_all x (v ∷ [])) ∙ ap (λ b. not (list_all x nodes) || not b) (only_all (x v))
chosen_all x nodes v false = ap not (list_all-append x nodes []) ∙ not_and (list_all x nodes) true

-- one of its nodes is 1
chosen_any : (x : ℕ → Bool) (nodes : List ℕ) (v : ℕ) → list_any x (nodes ++ v ∷ []) ≡ (list_any x nodes || x v)
chosen_any x nodes v = list_any-append x nodes (v ∷ []) ∙ ap (λ b. list_any x nodes || b) (only_any (x v))

other_site : (alpha : ℕ) (f : ℕ → ℕ) (choices : List Choice) (label : ℕ) (x : ℕ → Bool) (p : ℕ) → label ≢ alpha → (f p ≡ label → choice_at choices p ≡ Open)
    → cond (f p == label) (not (x (open_rank choices p))) false ≡ (made_at alpha f choices x p == label)
other_site alpha f choices label x p other opened = elim (cases_eq (f p) label) [
  | inl is ↦
      ap (λ b. cond b (not (x (open_rank choices p))) false) (equal_is (f p) label is)
      ∙ sym (ap (λ v. v == label) (open_made (choice_at choices p) (x (open_rank choices p)) alpha (f p) (opened is)) ∙ keeps_bit (x (open_rank choices p)) alpha (f p) label other is)
  | inr off ↦
      ap (λ b. cond b (not (x (open_rank choices p))) false) (not_equal (f p) label off)
      ∙ sym (never_bit (bit_of (choice_at choices p) (x (open_rank choices p))) alpha (f p) label other off)
]

-- another label is used unless all nodes of its sites are 1
pub other_used : (alpha : ℕ) (f : ℕ → ℕ) (choices : List Choice) (label : ℕ) (x : ℕ → Bool) (n : ℕ) → label ≢ alpha
    → ((p : ℕ) → p < n → f p ≡ label → choice_at choices p ≡ Open)
    → not (list_all x (nodes_of (λ p. f p == label) choices n)) ≡ is_used n (made_at alpha f choices x) label
other_used alpha f choices label x zero other opened = refl
other_used alpha f choices label x (suc n) other opened =
    chosen_all x (nodes_of (λ p. f p == label) choices n) (open_rank choices n) (f n == label)
    ∙ ap (λ b. b || cond (f n == label) (not (x (open_rank choices n))) false) (other_used alpha f choices label x n other (λ p l. opened p (omega (arith, l))))
    ∙ ap (λ b. is_used n (made_at alpha f choices x) label || b) (other_site alpha f choices label x n other (opened n (omega arith)))

-- and where no site has it, it is not used
pub never_used : (alpha : ℕ) (f : ℕ → ℕ) (choices : List Choice) (label : ℕ) (x : ℕ → Bool) (n : ℕ) → label ≢ alpha → ((p : ℕ) → p < n → f p ≢ label)
    → is_used n (made_at alpha f choices x) label ≡ false
never_used alpha f choices label x zero other off = refl
never_used alpha f choices label x (suc n) other off =
    ap (λ b. b || (made_at alpha f choices x n == label)) (never_used alpha f choices label x n other (λ p l. off p (omega (arith, l))))
    ∙ never_bit (bit_of (choice_at choices n) (x (open_rank choices n))) alpha (f n) label other (off n (omega arith))

own_site : (alpha : ℕ) (f : ℕ → ℕ) (choices : List Choice) (x : ℕ → Bool) (p : ℕ) → f p ≢ alpha → choice_at choices p ≡ Open
    → x (open_rank choices p) ≡ (made_at alpha f choices x p == alpha)
own_site alpha f choices x p off opened =
    sym (ap (λ v. v == alpha) (open_made (choice_at choices p) (x (open_rank choices p)) alpha (f p) opened) ∙ takes_bit (x (open_rank choices p)) alpha (f p) off)

-- the label of the expansion, if no site has it, is used if any node is 1
pub own_used : (alpha : ℕ) (f : ℕ → ℕ) (choices : List Choice) (x : ℕ → Bool) (n : ℕ) → ((p : ℕ) → p < n → f p ≢ alpha) → ((p : ℕ) → p < n → choice_at choices p ≡ Open)
    → list_any x (nodes_of (λ p. true) choices n) ≡ is_used n (made_at alpha f choices x) alpha
own_used alpha f choices x zero off opened = refl
own_used alpha f choices x (suc n) off opened =
    chosen_any x (nodes_of (λ p. true) choices n) (open_rank choices n)
    ∙ ap (λ b. b || x (open_rank choices n)) (own_used alpha f choices x n (λ p l. off p (omega (arith, l))) (λ p l. opened p (omega (arith, l))))
    ∙ ap (λ b. is_used n (made_at alpha f choices x) alpha || b) (own_site alpha f choices x n (off n (omega arith)) (opened n (omega arith)))

-- and if some site has it, it is used
pub used_already : (alpha : ℕ) (f : ℕ → ℕ) (choices : List Choice) (x : ℕ → Bool) (n : ℕ) → is_used n f alpha ≡ true → is_used n (made_at alpha f choices x) alpha ≡ true
used_already alpha f choices x n used =
    let there = used_somewhere n f alpha used in
    somewhere_used n (made_at alpha f choices x) alpha there.0 there.1 (stays_bit (bit_of (choice_at choices there.0) (x (open_rank choices there.0))) alpha (f there.0) there.2)

pub used_nowhere : (n : ℕ) (f : ℕ → ℕ) (label p : ℕ) → is_used n f label ≡ false → p < n → f p ≢ label
used_nowhere n f label p none l is = absurd (cc (sym none ∙ somewhere_used n f label p l is))

-- ---- the nodes of sites

all_one : (n v : ℕ) (chosen : Bool) → (chosen ≡ true → v < n) → All (λ (node : ℕ). node < n) (cond chosen (v ∷ []) [])
all_one n v true h = All-cons (λ (node : ℕ). node < n) v [] (h refl) (All-nil (λ (node : ℕ). node < n))
all_one n v false h = All-nil (λ (node : ℕ). node < n)

pub nodes_below : (chosen : ℕ → Bool) (choices : List Choice) (n : ℕ) → n ≤ length choices → ((p : ℕ) → p < n → chosen p ≡ true → choice_at choices p ≡ Open)
    → All (λ (node : ℕ). node < open_count choices) (nodes_of chosen choices n)
nodes_below chosen choices zero l opened = All-nil (λ (node : ℕ). node < open_count choices)
nodes_below chosen choices (suc n) l opened =
    All-append (λ (node : ℕ). node < open_count choices) (nodes_of chosen choices n) (cond (chosen n) (open_rank choices n ∷ []) [])
    (nodes_below chosen choices n (omega (arith, l)) (λ p k. opened p (omega (arith, k))))
    (all_one (open_count choices) (open_rank choices n) (chosen n) (λ is. rank_below choices n (length choices) (omega (arith, l)) (opened n (omega arith) is)))

one_most : (v : ℕ) (chosen : Bool) → length (cond chosen (v ∷ []) []) ≤ 1
one_most v true = omega arith
one_most v false = omega arith

pub nodes_most : (chosen : ℕ → Bool) (choices : List Choice) (n : ℕ) → length (nodes_of chosen choices n) ≤ n
nodes_most chosen choices zero = omega arith
nodes_most chosen choices (suc n) =
    omega (arith, length-append (nodes_of chosen choices n) (cond (chosen n) (open_rank choices n ∷ []) []), nodes_most chosen choices n, one_most (open_rank choices n) (chosen n))

-- the sites that an expansion can change are open
pub open_where : (alpha : ℕ) (f : List ℕ) (choices : List Choice) (p : ℕ) → AreAllOpen (Expand alpha) f choices → p < length f → labelling f p ≢ alpha → choice_at choices p ≡ Open
open_where alpha f choices p opened l off = (opened.opened p l).1 (λ same. off (sym same))

-- ---- the use of a label depends on the nodes of the open sites alone

made_same : (alpha : ℕ) (f : ℕ → ℕ) (choices : List Choice) (x y : ℕ → Bool) (m p : ℕ) → p < length choices → open_count choices ≤ m
    → ((i : ℕ) → i < m → y i ≡ x i) → made_at alpha f choices y p ≡ made_at alpha f choices x p
made_same alpha f choices x y m p l few same =
    ap (λ b. cond b alpha (f p)) (bit_same (choice_at choices p) (y (open_rank choices p)) (x (open_rank choices p))
    (λ opened. same (open_rank choices p) (omega (arith, few, rank_below choices p (length choices) l opened))))

pub uses_same : (alpha : ℕ) (f : List ℕ) (choices : List Choice) (label : ℕ) (x y : ℕ → Bool) (m : ℕ) → length choices ≡ length f → open_count choices ≤ m
    → ((i : ℕ) → i < m → y i ≡ x i) → uses alpha f choices label y ≡ uses alpha f choices label x
uses_same alpha f choices label x y m size few same =
    used-same (length f) (made_at alpha (labelling f) choices y) (made_at alpha (labelling f) choices x) label
    (λ p l. made_same alpha (labelling f) choices x y m p (omega (arith, l, size)) few same)
