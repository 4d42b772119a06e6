-- Pairs that get other weights, one after the other.
use Rattle.std.proofs.Common.{◌≡◌, ◌∙◌, ℕ, suc, zero, ◌+◌, ◌≤◌, List, [], ◌∷◌, ◌++◌, map, take, drop, length, slice_get, slice_set, Some, IfSome, ap, subst, sym, add-one}
use Rattle.std.proofs.lemmas.List.{take_all, drop_all, append-nil}
use Rattle.label_field.specs.declared.pair.Pair.{Pair}
use Rattle.label_field.specs.PairLists.{PairList}
use Rattle.vision.specs.Problems.{with_weight}

one_more : (f : Pair → Pair) (list : List Pair) (i : ℕ) (x : Pair) → slice_get (map f (take i list) ++ drop i list) i ≡ Some x
    → slice_set (map f (take i list) ++ drop i list) i (f x) ≡ map f (take (suc i) list) ++ drop (suc i) list
one_more f [] zero x e = absurd (cc)
one_more f [] (suc i) x e = absurd (cc)
one_more f (y ∷ ys) zero x e = cc
one_more f (y ∷ ys) (suc i) x e = ap (λ zs. f y ∷ zs) (one_more f ys i x e)

pub weighed_more : (f : Pair → Pair) (list now : List Pair) (i : ℕ) (x : Pair) → now ≡ map f (take i list) ++ drop i list → slice_get now i ≡ Some x
    → slice_set now i (f x) ≡ map f (take (i + 1) list) ++ drop (i + 1) list
weighed_more f list now i x is here =
    let P : List Pair → Type 0 = λ xs. slice_get xs i ≡ Some x in
    ap (λ xs. slice_set xs i (f x)) is ∙ one_more f list i x (subst P is here) ∙ ap (λ n. map f (take n list) ++ drop n list) (sym (add-one i))

pub weighed_all : (f : Pair → Pair) (list : List Pair) (n : ℕ) → length list ≤ n → map f (take n list) ++ drop n list ≡ map f list
weighed_all f list n all = rw (take_all n list all, drop_all n list all) (append-nil (map f list))

abbrev pub listed : PairList → List Pair → PairList
listed pairs list = record { sites = pairs.sites; list = list; numbered = pairs.numbered }

-- the pair at the next place gets its weight
pub weighed_step : (weight : Pair → ℕ) (pairs now new : PairList) (i : ℕ) (x : Pair) (w : ℕ)
    → now ≡ listed pairs (map (with_weight weight) (take i pairs.list) ++ drop i pairs.list) → slice_get now.list i ≡ Some x
    → IfSome (slice_get now.list i) (λ pair. new ≡ record now { list = slice_set now.list i (record pair { weight = w }) }) → w ≡ weight x
    → new ≡ listed pairs (map (with_weight weight) (take (i + 1) pairs.list) ++ drop (i + 1) pairs.list)
weighed_step weight pairs now new i x w is here set w_is =
    let P : List Pair → PairList = λ xs. listed now xs in
    let done : new ≡ listed now (slice_set now.list i (record x { weight = w })) = rw here at set in
    let W : ℕ → PairList = λ n. listed now (slice_set now.list i (record x { weight = n })) in
    let all : List Pair = map (with_weight weight) (take (i + 1) pairs.list) ++ drop (i + 1) pairs.list in
    let lists : slice_set now.list i (with_weight weight x) ≡ all =
    weighed_more (with_weight weight) pairs.list now.list i x (ap (λ (q : PairList). q.list) is) here in
    done ∙ ap W w_is ∙ ap P lists ∙ ap (λ (q : PairList). listed q all) is
