use Rattle.std.proofs.Common.{List, ℕ, length-drop, inl, inr, refl, subst, arith}
use Rattle.std.proofs.lemmas.List.{take_rest}
use Rattle.pgm_image.specs.Front.{Front, RefusesFront}
use Rattle.std.proofs.lemmas.Result.{err_from_is_err_and}
use Rattle.vision.proofs.Places.{place_within}
use Rattle.vision.proofs.inputs.read_two.Goals as goal

pub refusal_from-requires : goal.refusal_from-requires
refusal_from-requires c =
    let R : List ℕ → Type 0 = λ bytes. RefusesFront bytes c.in-Err.error in
    let within = place_within _ c.in-Err.error (subst R (take_rest c.args.input.now c.past_spaces-at.result) c.in-Err.ensures.refused) in
    let size = length-drop c.past_spaces-at.result c.args.input.now in
    omega (arith, within, size, c.past_spaces-at.ensures.within)

pub returns-in_err-first-clause-refused : goal.returns-in_err-first-clause-refused
returns-in_err-first-clause-refused c =
    let p = err_from_is_err_and c.from_residual.result c.from_residual.ensures.1 in
    rw (p.1, p.2) (inl (c.in_err-first.field-0.0, inl c.in_err-first.ensures.refused, refl))

pub returns-in-Err-clause-refused : goal.returns-in-Err-clause-refused
returns-in-Err-clause-refused c =
    let R : List ℕ → Type 0 = λ bytes. RefusesFront bytes c.in-Err.error in
    inl (
      c.refusal_from.result,
      inr (record {
        first = c.in_ok-first.first;
        at = c.past_spaces-at.result;
        own = c.in-Err.error;
        begins = record { used = c.in_ok-first.used; front = c.in_ok-first.ensures.image; past = c.past_spaces-at.ensures };
        refuses = subst R (take_rest c.args.input.now c.past_spaces-at.result) c.in-Err.ensures.refused;
        e_is = c.refusal_from.ensures;
      }),
      c.from.ensures,
    )

pub returns-then-not-same_sizes-clause-refused : goal.returns-then-not-same_sizes-clause-refused
returns-then-not-same_sizes-clause-refused c =
    let F : List ℕ → Type 0 = λ bytes. Front bytes c.in-Ok.found.0 c.in-Ok.found.1 in
    inr (
      (
        c.in_ok-first.first,
        c.in-Ok.found.0,
        (
          c.past_spaces-at.result,
          record { used = c.in_ok-first.used; front = c.in_ok-first.ensures.image; past = c.past_spaces-at.ensures },
          (c.in-Ok.found.1, subst F (take_rest c.args.input.now c.past_spaces-at.result) c.in-Ok.ensures.image),
        ),
        λ same. absurd (cc (c.same_sizes.ensures.1 same, c.if-not-same_sizes.true)),
      ),
      refl,
    )

pub returns-clause-held : goal.returns-clause-held
returns-clause-held c =
    let F : List ℕ → Type 0 = λ bytes. Front bytes c.in-Ok.found.0 c.in-Ok.found.1 in (
      (
        c.past_spaces-at.result,
        record { used = c.in_ok-first.used; front = c.in_ok-first.ensures.image; past = c.past_spaces-at.ensures },
        (c.in-Ok.found.1, subst F (take_rest c.args.input.now c.past_spaces-at.result) c.in-Ok.ensures.image),
      ),
      (omega arith, omega arith),
    )
