-- Terms that were to be added to an energy, and the first of them that is refused.
use Rattle.std.proofs.Common.{◌≡◌, ◌<◌, ℕ, zero, suc, ℤ, pos, inr, List, [], ◌∷◌, ◌++◌, length, map, take, drop, get_or, refl, sym, ap, ◌∙◌, subst, append_assoc, arith}
use Rattle.pseudo_bool.specs.Energies.{Energy, IsValue}
use Rattle.pseudo_bool.specs.declared.term.Term.{Term}
use Rattle.gco_arrays.specs.TermRefusals.{AreTermsRefused, IsTermTold, IsTermsRefusal}
use Rattle.gco_arrays.specs.declared.refusal.Refusal.{Refusal}

pub map_split : {T U : Type 0} (f : T → U) (items : List T) (i : ℕ) (d : T) → i < length items
    → map f items ≡ map f (take i items) ++ f (get_or items i d) ∷ map f (drop (suc i) items)
map_split f [] i d h = absurd (omega (arith, h))
map_split f (x ∷ items) zero d h = refl
map_split f (x ∷ items) (suc i) d h = ap (λ rest. f x ∷ rest) (map_split f items i d (omega (arith, h)))

-- in a loop over the items of which the terms are made
pub loop_refused : {T : Type 0} (f : T → Term) (e reached : Energy) (items : List T) (i : ℕ) (d : T) (refusal : Refusal)
    → i < length items → reached ≡ record e { terms = e.terms ++ map f (take i items) } → d ≡ get_or items i d
    → IsTermTold reached (f d) refusal → AreTermsRefused e (map f items) refusal
loop_refused {T} f e reached items i d refusal inside is item told =
    let I : T → Type 0 = λ x. IsTermTold reached (f x) refusal in
    let own = subst I item told in record {
      before = map f (take i items);
      term = f (get_or items i d);
      after = map f (drop (suc i) items);
      terms_are = map_split f items i d inside;
      told = (let P : Energy → Type 0 = λ x. IsTermTold x (f (get_or items i d)) refusal in subst P is own);
    }

-- further terms behind those of which one is refused
pub refused_before : (e : Energy) (terms more : List Term) (refusal : Refusal) → AreTermsRefused e terms refusal
    → AreTermsRefused e (terms ++ more) refusal
refused_before e terms more refusal is = record {
  before = is.before;
  term = is.term;
  after = is.after ++ more;
  terms_are = ap (λ xs. xs ++ more) is.terms_are ∙ append_assoc is.before (is.term ∷ is.after) more;
  told = is.told;
}

-- terms that were added before
pub refused_after : (e : Energy) (first terms : List Term) (refusal : Refusal)
    → AreTermsRefused (record e { terms = e.terms ++ first }) terms refusal → AreTermsRefused e (first ++ terms) refusal
refused_after e first terms refusal is = record {
  before = first ++ is.before;
  term = is.term;
  after = is.after;
  terms_are = ap (λ xs. first ++ xs) is.terms_are ∙ sym (append_assoc first is.before (is.term ∷ is.after));
  told = (let P : List Term → Type 0 = λ xs. IsTermTold (record e { terms = xs }) is.term refusal in subst P (append_assoc e.terms first is.before) is.told);
}

-- the energy of a call, with its constant, then with its terms of one variable, then with those of
-- two
with_constant : (e0 e1 : Energy) (variables : ℕ) (constant : ℤ) → e0 ≡ record { constant = pos 0; variables = variables; terms = [] }
    → e1 ≡ record e0 { constant = constant } → e1 ≡ record { constant = constant; variables = variables; terms = [] }
with_constant e0 e1 variables constant is0 is1 = is1 ∙ ap (λ (e : Energy). record e { constant = constant }) is0

with_more : (e1 e2 : Energy) (variables : ℕ) (constant : ℤ) (before xs : List Term)
    → e1 ≡ record { constant = constant; variables = variables; terms = before } → e2 ≡ record e1 { terms = e1.terms ++ xs }
    → e2 ≡ record { constant = constant; variables = variables; terms = before ++ xs }
with_more e1 e2 variables constant before xs is1 is2 = is2 ∙ ap (λ (e : Energy). record e { terms = e.terms ++ xs }) is1

-- a term of one variable is refused
pub told_ones : (e0 e1 : Energy) (variables : ℕ) (constant : ℤ) (xs ys zs : List Term) (refusal : Refusal)
    → e0 ≡ record { constant = pos 0; variables = variables; terms = [] } → e1 ≡ record e0 { constant = constant }
    → IsValue constant → AreTermsRefused e1 xs refusal
    → IsTermsRefusal (record { constant = constant; variables = variables; terms = xs ++ ys ++ zs }) refusal
told_ones e0 e1 variables constant xs ys zs refusal is0 is1 value refused =
    let e : Energy = record { constant = constant; variables = variables; terms = [] } in
    let P : Energy → Type 0 = λ x. AreTermsRefused x xs refusal in
    inr (value, refused_before e (xs ++ ys) zs refusal (refused_before e xs ys refusal (subst P (with_constant e0 e1 variables constant is0 is1) refused)))

-- one of two
pub told_twos : (e0 e1 e2 : Energy) (variables : ℕ) (constant : ℤ) (xs ys zs : List Term) (refusal : Refusal)
    → e0 ≡ record { constant = pos 0; variables = variables; terms = [] } → e1 ≡ record e0 { constant = constant }
    → e2 ≡ record e1 { terms = e1.terms ++ xs }
    → IsValue constant → AreTermsRefused e2 ys refusal
    → IsTermsRefusal (record { constant = constant; variables = variables; terms = xs ++ ys ++ zs }) refusal
told_twos e0 e1 e2 variables constant xs ys zs refusal is0 is1 is2 value refused =
    let e : Energy = record { constant = constant; variables = variables; terms = [] } in
    let P : Energy → Type 0 = λ x. AreTermsRefused x ys refusal in
    let was = with_more e1 e2 variables constant [] xs (with_constant e0 e1 variables constant is0 is1) is2 in
    inr (value, refused_before e (xs ++ ys) zs refusal (refused_after e xs ys refusal (subst P was refused)))

-- one of three
pub told_threes : (e0 e1 e2 e3 : Energy) (variables : ℕ) (constant : ℤ) (xs ys zs : List Term) (refusal : Refusal)
    → e0 ≡ record { constant = pos 0; variables = variables; terms = [] } → e1 ≡ record e0 { constant = constant }
    → e2 ≡ record e1 { terms = e1.terms ++ xs } → e3 ≡ record e2 { terms = e2.terms ++ ys }
    → IsValue constant → AreTermsRefused e3 zs refusal
    → IsTermsRefusal (record { constant = constant; variables = variables; terms = xs ++ ys ++ zs }) refusal
told_threes e0 e1 e2 e3 variables constant xs ys zs refusal is0 is1 is2 is3 value refused =
    let e : Energy = record { constant = constant; variables = variables; terms = [] } in
    let P : Energy → Type 0 = λ x. AreTermsRefused x zs refusal in
    let was = with_more e2 e3 variables constant xs ys (with_more e1 e2 variables constant [] xs (with_constant e0 e1 variables constant is0 is1) is2) is3 in
    inr (value, refused_after e (xs ++ ys) zs refusal (subst P was refused))
