-- A form of the terms as a net.
use Rattle.std.proofs.Common.{◌≡◌, ℕ, Bool, ℤ, pos, ◌+ℤ◌, refl, arith}
use Rattle.std.proofs.lemmas.Int.{ints}
use Rattle.pseudo_bool.specs.Energies.{Energy, IsEnergy}
use Rattle.flow_network.specs.Cut.{Network, capacity_of}
use Rattle.compile_cut.specs.declared.quadratic.Quadratic.{Quadratic}
use Rattle.compile_cut.specs.Shown.{ShowsValues}
use Rattle.compile_cut.specs.Quadratics.{quadratic_value, SaysValues}
use Rattle.compile_cut.proofs.TermLemmas.{terms_value-same}

pub shows_values : (e : Energy) (q : Quadratic) (net : Network) (k : ℤ) → IsEnergy e → SaysValues e q
    → ((x : ℕ → Bool) → pos (capacity_of net x) +ℤ k ≡ quadratic_value q x) → ShowsValues net k e
shows_values e q net k limits says is x =
    let best = says.reached x in (
      capacity_of net best.0,
      record {
        side = best.0;
        shows = best.1;
        reached = refl;
        lowest = λ other shown.
            let same = terms_value-same e.variables e.terms x other limits.terms shown in
            omega (arith, ints, is other, is best.0, best.2, says.lower other, same);
      },
      omega (arith, ints, is best.0, best.2),
    )
