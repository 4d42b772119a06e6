-- What labels cost beside one another, as it is asked.
use Rattle.std.proofs.Common.{◌≡◌, ℕ, ◌+◌, ◌-◌, ◌*◌, ◌<◌, ◌≤◌, Bool, false, cond, List, [], ◌++◌, length, get_or, take, replicate, slice_index, refl, sym, ap, Result, Ok, Err, OnOk, ◌∙◌, inl, inr, arith}
use Rattle.std.specs.Prelude.{is_ok, slice_set, slice_index_or}
use Rattle.std.proofs.lemmas.Bool.{cases_eq, cases_lt}
use Rattle.std.proofs.lemmas.List.{get_or-set_same, get_or-set_other, get_or_past, length-take, length-replicate, length-append, get_or_append_left, get_or-append_right, get_or-replicate, get_or-take}
use Rattle.std.specs.declared.alloc.AllocError.{AllocError}
use Rattle.label_energies.specs.Energies.{Instance}
use Rattle.cost_store.specs.declared.problem.Problem.{Problem}
use Rattle.cost_store.specs.Posed.{Closure}
use Rattle.form_lists.specs.declared.lists.FormLists.{FormLists}
use Rattle.site_forms.specs.Fields.{AreSymmetric}
use Rattle.form_lists.specs.Lists.{AreCostsSmall, GetsCostOf, KnowsCosts, HasNoCosts}

-- one cost is written
apart_places : (a b one other : ℕ) → b < 256 → other < 256 → a * 256 + b ≡ one * 256 + other → (a ≡ one) × (b ≡ other)
apart_places a b one other l h same = (omega (arith, l, h, same), omega (arith, l, h, same))

pub written_cost : (m : Instance) (one other place cost : ℕ) (old : List ℕ) → other < 256 → place ≡ one * 256 + other → place < length old
    → ((weight : ℕ) → weight * cost ≡ m.smooth_cost weight one other)
    → GetsCostOf m one other old (slice_set old place cost)
written_cost m one other place cost old h at inside is = record {
  cost = λ w. ap (λ k. w * slice_index (slice_set old place cost) k) (sym at) ∙ ap (λ c. w * c) (get_or-set_same old place cost 0 inside) ∙ is w;
  kept = λ a b l had. elim (cases_eq (a * 256 + b) place) [
    | inl same ↦
        let both = apart_places a b one other l h (same ∙ at) in
        λ w. ap (λ k. w * slice_index (slice_set old place cost) k) same ∙ ap (λ c. w * c) (get_or-set_same old place cost 0 inside)
        ∙ is w ∙ (λ i. m.smooth_cost w (sym both.0 i) (sym both.1 i))
    | inr off ↦ λ w. ap (λ c. w * c) (get_or-set_other old place (a * 256 + b) cost 0 off) ∙ had w
  ];
}

pub written_small : (place cost : ℕ) (old : List ℕ) → place < length old → cost ≤ 10000 → AreCostsSmall old → AreCostsSmall (slice_set old place cost)
written_small place cost old inside small each k = elim (cases_eq k place) [
  | inl same ↦ (let e = ap (slice_index (slice_set old place cost)) same ∙ get_or-set_same old place cost 0 inside in omega (arith, e, small))
  | inr off ↦ (let e = get_or-set_other old place k cost 0 off in let s = each k in omega (arith, e, s))
]

-- ---- what holds where nothing was refused

pub on_ok_always : {P : Type 0} (r : Result Unit AllocError) → P → OnOk r P
on_ok_always {P} (Ok done) is = is
on_ok_always {P} (Err e) is = tt

pub on_ok_three : {P Q R S : Type 0} (r : Result Unit AllocError) → OnOk r P → OnOk r Q → OnOk r R → (P → Q → R → S) → OnOk r S
on_ok_three {P} {Q} {R} {S} (Ok done) one two three all = all one two three
on_ok_three {P} {Q} {R} {S} (Err e) one two three all = tt

-- ---- room for more labels

filled : {X : Type 0} (xs : List X) (n len k : ℕ) (d : X) → len ≡ length xs → k < n → get_or (take n xs ++ replicate (n - len) d) k d ≡ get_or xs k d
filled {X} xs n len k d size l = elim (cases_lt k len) [
  | inl inside ↦
      let cut : k < length (take n xs) = omega (arith, length-take n xs, inside, size, l) in
      get_or_append_left (take n xs) (replicate (n - len) d) d k cut ∙ get_or-take n xs k d l
  | inr past ↦
      let whole : length (take n xs) ≡ len = omega (arith, length-take n xs, past, size, l) in
      get_or-append_right (take n xs) (replicate (n - len) d) len k d whole past ∙ get_or-replicate (n - len) (k - len) d d (omega (arith, l, past)) ∙ sym (get_or_past xs k d (omega (arith, past, size)))
]

pub grown_same : {X : Type 0} (xs ys : List X) (n len k : ℕ) (d : X) (r : Result Unit AllocError) → len ≡ length xs
    → ys ≡ cond (is_ok r) (take n xs ++ replicate (n - len) d) xs → k < n → get_or ys k d ≡ get_or xs k d
grown_same {X} xs ys n len k d (Ok done) size is l = ap (λ (zs : List X). get_or zs k d) is ∙ filled xs n len k d size l
grown_same {X} xs ys n len k d (Err e) size is l = ap (λ (zs : List X). get_or zs k d) is

pub grown_len : {X : Type 0} (ys : List X) (n len new : ℕ) (r : Result Unit AllocError) → new ≡ length ys → new ≡ cond (is_ok r) n len → OnOk r (length ys ≡ n)
grown_len {X} ys n len new (Ok done) size is = sym size ∙ is
grown_len {X} ys n len new (Err e) size is = tt

pub len_enough : {X : Type 0} (ys : List X) (n len new : ℕ) (r : Result Unit AllocError) → new ≡ length ys → new ≡ cond (is_ok r) n len → OnOk r (n ≤ length ys)
len_enough {X} ys n len new (Ok done) size is = omega (arith, size, is)
len_enough {X} ys n len new (Err e) size is = tt

-- a list that grows, at all places
pub grown_all : (xs ys : List ℕ) (n len k : ℕ) (r : Result Unit AllocError) → len ≡ length xs → len ≤ n
    → ys ≡ cond (is_ok r) (take n xs ++ replicate (n - len) 0) xs → slice_index ys k ≡ slice_index xs k
grown_all xs ys n len k (Err e) size more is = ap (λ (zs : List ℕ). slice_index zs k) is
grown_all xs ys n len k (Ok done) size more is = elim (cases_lt k n) [
  | inl inside ↦ ap (λ (zs : List ℕ). slice_index zs k) is ∙ filled xs n len k 0 size inside
  | inr past ↦
      let all : length (take n xs ++ replicate (n - len) 0) ≤ k = omega (arith, length-append (take n xs) (replicate (n - len) 0), length-take n xs, length-replicate {A = ℕ} (n - len) 0, size, past) in
      ap (λ (zs : List ℕ). slice_index zs k) is ∙ get_or_past (take n xs ++ replicate (n - len) 0) k 0 all ∙ sym (get_or_past xs k 0 (omega (arith, size, more, past)))
]

pub same_small : (xs ys : List ℕ) → ((k : ℕ) → slice_index ys k ≡ slice_index xs k) → AreCostsSmall xs → AreCostsSmall ys
same_small xs ys same each k = (let e = same k in let s = each k in omega (arith, e, s))

pub same_mirrored : (xs ys : List ℕ) → ((k : ℕ) → slice_index ys k ≡ slice_index xs k) → AreSymmetric xs → AreSymmetric ys
same_mirrored xs ys same each one other l h =
    same (one * 256 + other) ∙ each one other l h ∙ sym (same (other * 256 + one))

-- a list that begins with 0 everywhere
pub none_everywhere : (n k : ℕ) (old xs : List ℕ) (len : ℕ) (r : Result Unit AllocError) → old ≡ [] → len ≡ length old → xs ≡ cond (is_ok r) (take n old ++ replicate (n - len) 0) old → slice_index xs k ≡ 0
none_everywhere n k old xs len (Ok done) none size is = elim (cases_lt k n) [
  | inl inside ↦ ap (λ (zs : List ℕ). slice_index zs k) is ∙ filled old n len k 0 size inside ∙ ap (λ (zs : List ℕ). slice_index zs k) none
  | inr past ↦
      let all : length (take n old ++ replicate (n - len) 0) ≤ k = omega (arith, length-append (take n old) (replicate (n - len) 0), length-take n old, length-replicate {A = ℕ} (n - len) 0, size, past) in
      ap (λ (zs : List ℕ). slice_index zs k) is ∙ get_or_past (take n old ++ replicate (n - len) 0) k 0 all
]
none_everywhere n k old xs len (Err e) none size is = ap (λ (zs : List ℕ). slice_index zs k) is ∙ ap (λ (zs : List ℕ). slice_index zs k) none

-- ---- where nothing was asked

none_here : (k : ℕ) → slice_index [] k ≡ 0
none_here k = refl

never_asked : (k : ℕ) → slice_index_or {A = Bool} [] k false ≡ false
never_asked k = refl

pub none_known : {F V : Type 0} (f : Closure F) (v : Closure V) (problem : Problem F V) (lists : FormLists) → HasNoCosts lists → KnowsCosts f v problem lists
none_known {F} {V} f v problem lists none = record {
  mirrored = λ same one other l h.
      ap (λ (xs : List ℕ). slice_index xs (one * 256 + other)) none.1 ∙ sym (ap (λ (xs : List ℕ). slice_index xs (other * 256 + one)) none.1);
  small = λ place. (let e = ap (λ (xs : List ℕ). slice_index xs place) none.1 ∙ none_here place in omega (arith, e));
  costs = λ m meant one other l h a b. absurd (let e = ap (λ (xs : List Bool). slice_index_or xs one false) none.0 ∙ never_asked one in cc (e, a));
}
