use Rattle.std.proofs.Common.{◌≡◌, ℕ, ◌+◌, ◌<◌, ◌≤◌, List, [], ◌∷◌, ◌++◌, get_or, length, take, sym, ap, ◌∙◌, subst, arith, All}
use Rattle.std.proofs.lemmas.List.{get_or-take, length-take-le, take_all, take_more}
use Rattle.std.proofs.lemmas.List.Elements.{All-nil, All-push}
use Rattle.pgm_image.specs.Raster.{IsFirstAbove}
use Rattle.pgm_image.proofs.raster.single_bytes.Goals as goal

-- as many as were taken
taken : (i : ℕ) (xs now : List ℕ) → i < length xs → now ≡ take i xs → length now ≡ i
taken i xs now inside so_far = ap length so_far ∙ length-take-le i xs (omega arith)

one_more : (m i x : ℕ) (xs now new : List ℕ) → i < length xs → x ≡ get_or xs i 0 → x ≤ m → now ≡ take i xs → All (λ y. y ≤ m) now → new ≡ now ++ x ∷ []
    → (new ≡ take (i + 1) xs) × All (λ y. y ≤ m) new
one_more m i x xs now new inside is small so_far all pushed =
    let A : List ℕ → Type 0 = λ ys. All (λ y. y ≤ m) ys in
    (pushed ∙ (λ k. so_far k ++ is k ∷ []) ∙ sym (take_more xs i 0 inside), subst A (sym pushed) (All-push (λ y. y ≤ m) now x all small))

first_above : (m i n : ℕ) (xs now : List ℕ) → i < length xs → now ≡ take i xs → All (λ y. y ≤ m) now → n ≡ length now → m < get_or xs i 0 → IsFirstAbove m xs n
first_above m i n xs now inside so_far all told above =
    let F : ℕ → Type 0 = λ k. IsFirstAbove m xs k in
    let A : List ℕ → Type 0 = λ ys. All (λ y. y ≤ m) ys in
    let here = taken i xs now inside so_far in
    let taken_all = subst A so_far all in
    subst F (sym (told ∙ here)) (record {
      within = inside;
      above = above;
      before = λ k before. (let same = get_or-take i xs k 0 before in let le = taken_all k 0 (omega (arith, length-take-le i xs (omega arith), before)) in omega (arith, same, le));
    })

pub loop-byte-init : goal.loop-byte-init
loop-byte-init c =
    let A : List ℕ → Type 0 = λ ys. All (λ y. y ≤ c.args.maxval) ys in
    (c.in-Ok.ensures.items, subst A (sym c.in-Ok.ensures.items) (All-nil (λ y. y ≤ c.args.maxval)), omega (arith, c.in-Ok.ensures.capacity))

pub push_reserved-requires : goal.push_reserved-requires
push_reserved-requires c =
    let long = taken c.loop-byte.byte-index c.args.raster.now c.loop-byte.samples.items c.loop-byte-test.true c.loop-byte.invariant.0 in
    omega (arith, long, c.loop-byte.samples.ok.0, c.loop-byte.invariant.2)

pub loop-byte-preserved : goal.loop-byte-preserved
loop-byte-preserved c =
    let S : ℕ → Type 0 = λ y. y ≤ c.args.maxval in
    let x_is = c.from-in-loop-byte.ensures in
    let more = one_more c.args.maxval c.loop-byte.byte-index c.from-in-loop-byte.result c.args.raster.now c.loop-byte.samples.items c.push_reserved.new.self.items
    c.loop-byte-test.true x_is (subst S (c.from.ensures ∙ sym x_is) c.if-from-maxval.false) c.loop-byte.invariant.0 c.loop-byte.invariant.1 c.push_reserved.ensures.items in
    (more.0, more.1, omega (arith, c.push_reserved.ensures.capacity, c.loop-byte.invariant.2))

pub returns-then-from-maxval : goal.returns-then-from-maxval
returns-then-from-maxval c =
    first_above c.args.maxval c.loop-byte.byte-index c.len.result c.args.raster.now c.loop-byte.samples.items c.loop-byte-test.true
    c.loop-byte.invariant.0 c.loop-byte.invariant.1 (omega (arith, c.len.ensures, c.loop-byte.samples.ok.0)) (omega (arith, c.from.ensures, c.if-from-maxval.true))

pub returns : goal.returns
returns c =
    let A : List ℕ → Type 0 = λ ys. All (λ y. y ≤ c.args.maxval) ys in
    let all = c.loop-byte.invariant.0 ∙ take_all c.loop-byte.byte-index c.args.raster.now c.loop-byte-test.false in
    (all, subst A all c.loop-byte.invariant.1)
