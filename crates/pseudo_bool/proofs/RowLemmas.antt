use Rattle.std.proofs.Common.{◌≡◌, ℕ, ◌+◌, ◌*◌, ◌<◌, ◌≤◌, Bool, List, length, get_or, take, ℤ, ◌+ℤ◌, unsigned_abs, All, arith, ap, ◌∙◌, w64, FitsSigned, [], ◌∷◌, ◌++◌, refl}
use Rattle.std.proofs.Math.ListN.{get_or-append}
use Rattle.std.proofs.Math.Seq.{get_or-append_seam}
use Rattle.std.proofs.lemmas.Int.{ints}
use Rattle.std.proofs.lemmas.List.{get_or-map, length-map, take_all, length-append, map-append}
use Rattle.std.proofs.lemmas.List.Elements.{All-head, All-tail, All-push, All-weaker}
use Rattle.sums.specs.IntegerSums.{int_sum_by}
use Rattle.sums.proofs.IntegerSumLemmas.{int_sum_by_more, int_sum_by-map, within_fits, abs-add}
use Rattle.pseudo_bool.specs.declared.term.Term.{Term}
use Rattle.pseudo_bool.specs.declared.term.Term.TheVariants.{One}
use Rattle.pseudo_bool.specs.declared.row.Row.{Row}
use Rattle.pseudo_bool.specs.declared.row.Row.TheVariants.{One as RowOne, Two as RowTwo, Three as RowThree}
use Rattle.pseudo_bool.specs.declared.row.Triple.{Triple}
use Rattle.pseudo_bool.specs.Energies.{Energy, IsTerm, IsEnergy, term_value, value_at}
use Rattle.pseudo_bool.specs.Rows.{triple_term, triple_at, term_of, terms_of, IsKept, AreKept}

-- ---- rows that are read

-- the row at a place keeps a term of the energy
pub row_is_term : (n : ℕ) (ts : List Triple) (rows : List Row) (i : ℕ) → i < length rows → All (IsTerm n) (terms_of ts rows)
    → IsTerm n (term_of ts (get_or rows i (RowOne [] [])))
row_is_term n ts rows i l h =
    let here = h i (One 0 []) (rw (length-map rows (term_of ts)) l) in
    rw (get_or-map (term_of ts) rows i (RowOne [] []) (One 0 []) l) at here

-- the same of a row that was read
pub read_is_term : (n : ℕ) (ts : List Triple) (rows : List Row) (i : ℕ) (row : Row) → i < length rows → row ≡ get_or rows i row
    → All (IsTerm n) (terms_of ts rows) → IsTerm n (term_of ts row)
read_is_term n ts rows i row l is h =
    let there = h i (term_of ts row) (rw (length-map rows (term_of ts)) l) in
    rw is (rw (get_or-map (term_of ts) rows i row (term_of ts row) l) at there)

-- and the triple that it names is there
pub read_is_kept : (n : ℕ) (rows : List Row) (i : ℕ) (row : Row) → i < length rows → row ≡ get_or rows i row → All (IsKept n) rows → IsKept n row
read_is_kept n rows i row l is h = rw is (h i row l)

-- ---- rows that are added

term_of-more : (ts : List Triple) (t : Triple) (row : Row) → IsKept (length ts) row → term_of (ts ++ t ∷ []) row ≡ term_of ts row
term_of-more ts t (RowOne first table) h = refl
term_of-more ts t (RowTwo first second table) h = refl
term_of-more ts t (RowThree place) h = ap triple_term (get_or-append ts (t ∷ []) (record { first = 0; second = 0; third = 0; table = [] }) place h)

terms_of-more : (ts : List Triple) (t : Triple) (rows : List Row) → All (IsKept (length ts)) rows → terms_of (ts ++ t ∷ []) rows ≡ terms_of ts rows
terms_of-more ts t [] h = refl
terms_of-more ts t (row ∷ rows) h =
    let one = term_of-more ts t row (All-head (IsKept (length ts)) row rows h) in
    let more = terms_of-more ts t rows (All-tail (IsKept (length ts)) row rows h) in
    ap (λ u. u ∷ terms_of (ts ++ t ∷ []) rows) one ∙ ap (λ us. term_of ts row ∷ us) more

pub triple_added : (ts : List Triple) (t : Triple) (rows : List Row) → AreKept ts rows
    → terms_of (ts ++ t ∷ []) (rows ++ RowThree (length ts) ∷ []) ≡ terms_of ts rows ++ triple_term t ∷ []
triple_added ts t rows h =
    let seam = get_or-append_seam ts t [] (record { first = 0; second = 0; third = 0; table = [] }) in
    map-append (term_of (ts ++ t ∷ [])) rows (RowThree (length ts) ∷ [])
    ∙ ap (λ us. us ++ triple_term (triple_at (ts ++ t ∷ []) (length ts)) ∷ []) (terms_of-more ts t rows h.each)
    ∙ ap (λ u. terms_of ts rows ++ triple_term u ∷ []) seam

pub kept_more : (n m : ℕ) (row : Row) → n ≤ m → IsKept n row → IsKept m row
kept_more n m (RowOne first table) l h = h
kept_more n m (RowTwo first second table) l h = h
kept_more n m (RowThree place) l h = omega arith

pub triple_kept : (ts : List Triple) (t : Triple) (rows : List Row) → AreKept ts rows → AreKept (ts ++ t ∷ []) (rows ++ RowThree (length ts) ∷ [])
triple_kept ts t rows h =
    let more : length (ts ++ t ∷ []) ≡ length ts + 1 = length-append ts (t ∷ []) in
    record {
      each = All-push (IsKept (length (ts ++ t ∷ []))) rows (RowThree (length ts))
          (All-weaker (IsKept (length ts)) (IsKept (length (ts ++ t ∷ []))) (λ row k. kept_more (length ts) (length (ts ++ t ∷ [])) row (omega arith) k) rows h.each)
          (omega arith);
      count = omega (arith, more, length-append rows (RowThree (length ts) ∷ []), h.count);
    }

-- a row that names no triple
pub plain_row : (ts : List Triple) (row : Row) → IsKept 0 row → term_of ts row ≡ term_of [] row
plain_row ts (RowOne first table) h = refl
plain_row ts (RowTwo first second table) h = refl
plain_row ts (RowThree place) h = absurd (omega arith)

pub row_added : (ts : List Triple) (rows : List Row) (row : Row) → IsKept 0 row → terms_of ts (rows ++ row ∷ []) ≡ terms_of ts rows ++ term_of [] row ∷ []
row_added ts rows row h =
    map-append (term_of ts) rows (row ∷ []) ∙ ap (λ u. terms_of ts rows ++ u ∷ []) (plain_row ts row h)

pub row_kept : (ts : List Triple) (rows : List Row) (row : Row) → IsKept 0 row → AreKept ts rows → AreKept ts (rows ++ row ∷ [])
row_kept ts rows row k h =
    record {
      each = All-push (IsKept (length ts)) rows row h.each (kept_more 0 (length ts) row (omega arith) k);
      count = omega (arith, length-append rows (row ∷ []), h.count);
    }

-- an energy with a term added
pub term_added : (e : Energy) (t : Term) → IsEnergy e → IsTerm e.variables t → length e.terms < 8388608
    → IsEnergy (record e { terms = e.terms ++ t ∷ [] })
term_added e t h is l =
    record {
      constant = h.constant;
      variables = h.variables;
      count = omega (arith, length-append e.terms (t ∷ []));
      terms = All-push (IsTerm e.variables) e.terms t h.terms is;
    }

-- ---- the sum over the terms

pub record IsStep (start total value : ℤ) (f : Row → ℤ) (rows : List Row) (i : ℕ) : Type 0 where
  pub fits : FitsSigned w64 (total +ℤ value)
  pub sum : total +ℤ value ≡ start +ℤ int_sum_by f (take (i + 1) rows)
  pub small : unsigned_abs (total +ℤ value) ≤ 1000000000000000 + 1000000000 * (i + 1)

pub sum_step : (start total value : ℤ) (f : Row → ℤ) (rows : List Row) (i : ℕ)
    → i < length rows → length rows ≤ 8388608
    → total ≡ start +ℤ int_sum_by f (take i rows) → unsigned_abs total ≤ 1000000000000000 + 1000000000 * i
    → value ≡ f (get_or rows i (RowOne [] [])) → unsigned_abs value ≤ 1000000000
    → IsStep start total value f rows i
sum_step start total value f rows i l count sum small is within =
    let next : unsigned_abs (total +ℤ value) ≤ 1000000000000000 + 1000000000 * (i + 1) = omega (arith, abs-add total value) in
    record {
      fits = within_fits 10000000000000000 (total +ℤ value) (omega arith) (omega arith);
      sum = omega (arith, ints, int_sum_by_more f rows i (RowOne [] []) l);
      small = next;
    }

-- the sum over all rows is that over all terms
pub whole_sum : (e : Energy) (x : ℕ → Bool) (ts : List Triple) (rows : List Row) (start total : ℤ) (i : ℕ)
    → start ≡ e.constant → terms_of ts rows ≡ e.terms → length rows ≤ i
    → total ≡ start +ℤ int_sum_by (λ row. term_value x (term_of ts row)) (take i rows)
    → total ≡ value_at e x
whole_sum e x ts rows start total i constant terms l sum =
    let all = rw (take_all i rows l) at sum in
    omega (arith, ints, all, constant, int_sum_by-map (term_value x) (term_of ts) rows, ap (int_sum_by (term_value x)) terms)
