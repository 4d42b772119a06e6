-- Where a later piece of a text was cut short.
use Rattle.std.proofs.Common.{◌≡◌, ℕ, true, suc, ◌+◌, ◌-◌, List, [], ◌∷◌, ◌++◌, length, take, sym, ap, ◌∙◌, arith, length-append, subst}
use Rattle.std.proofs.lemmas.List.{take-append-le}
use Rattle.std.specs.Io.KnownBytes.{Appends}
use Rattle.std.proofs.KnownBytes.{Appends-trans}
use Rattle.byte_streams.specs.Streams.{Stops, Stream, Takes, failures_after}

take_over : (xs ys : List ℕ) (k n : ℕ) → n ≡ length xs + k → take n (xs ++ ys) ≡ xs ++ take k ys
take_over [] ys k n e = let f : n ≡ k = omega arith in ap (λ j. take j ys) f
take_over (x ∷ xs) ys k n e =
    let f : n ≡ suc (n - 1) = omega arith in
    ap (λ j. take j (x ∷ (xs ++ ys))) f ∙ ap (λ zs. x ∷ zs) (take_over xs ys k (n - 1) (omega arith))

-- one piece after another is taken
pub takes_both : (a b c : Stream) (front part : List ℕ) → Takes a b front → Takes b c part → Takes a c (front ++ part)
takes_both a b c front part first second = (Appends-trans a.bytes b.bytes c.bytes front part first.0 second.0, second.1 ∙ first.1)

-- the pieces before were taken whole
pub stops_later : (a b c : Stream) (front part rest text : List ℕ) (taken count : ℕ) → Takes a b front → taken ≡ length front
    → Stops b c part count → text ≡ front ++ (part ++ rest) → Stops a c text (taken + count)
stops_later a b c front part rest text taken count first at stops whole =
    let size : length text ≡ length front + (length part + length rest) = ap length whole ∙ length-append front (part ++ rest) ∙ ap (λ n. length front + n) (length-append part rest) in
    let short = stops.0 in
    let cut : take (taken + count) text ≡ front ++ take count part =
    ap (λ ys. take (taken + count) ys) whole ∙ take_over front (part ++ rest) count (taken + count) (omega arith)
    ∙ ap (λ ys. front ++ ys) (take-append-le count part rest (omega arith)) in (
      omega arith,
      subst (λ ys. Appends a.bytes c.bytes ys) (sym cut) (Appends-trans a.bytes b.bytes c.bytes front (take count part) first.0 stops.1),
      stops.2 ∙ ap (failures_after true) first.1,
    )
