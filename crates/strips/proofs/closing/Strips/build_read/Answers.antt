use Rattle.std.proofs.Common.{◌∙◌, ℤ, List, length, refl, ap, arith}
use Rattle.compile_cut.specs.Weights.{weights_size}
use Rattle.strip_nets.proofs.Looking.{whole_listed}
use Rattle.strips.proofs.closing.Strips.build_read.Goals as goal

pub read_weights-requires-clause-opened : goal.read_weights-requires-clause-opened
read_weights-requires-clause-opened c =
    let a = c.args in
    whole_listed a.known.now a.opened.now (length a.form.now.at.now) (omega (arith, c.requires.count)) c.requires.opened

pub write_open-requires-clause-can : goal.write_open-requires-clause-can
write_open-requires-clause-can c =
    let count = c.requires.count ∙ c.requires.over.sites in
    record { over = c.requires.over; starts = count; count = count; goes_on = λ p l shuts. refl }

pub write_open-requires-clause-count : goal.write_open-requires-clause-count
write_open-requires-clause-count c = ap (λ (ws : List ℤ). length ws) c.deref.ensures.value ∙ c.in_ok-read_weights.ensures.count

pub write_open-requires-clause-size : goal.write_open-requires-clause-size
write_open-requires-clause-size c = omega (arith, ap (λ (ws : List ℤ). weights_size ws) c.deref.ensures.value, c.in_ok-read_weights.ensures.size)

pub returns-clause-stands : goal.returns-clause-stands
returns-clause-stands c = λ m move read. c.write_open.ensures.stands m move read (c.deref.ensures.value ∙ c.in_ok-read_weights.ensures.weights m move read read.instance)
