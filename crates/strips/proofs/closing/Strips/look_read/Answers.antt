use Rattle.std.proofs.Common.{◌∙◌, ℤ, List, length, refl, ap, arith}
use Rattle.label_energies.specs.Energies.{labelling}
use Rattle.compile_cut.specs.Weights.{weights_size}
use Rattle.move_energy.proofs.Opened.{opened_count}
use Rattle.strip_nets.proofs.Looking.{whole_listed}
use Rattle.strips.proofs.Zeros.{stage_zeros}
use Rattle.strips.proofs.closing.Strips.look_read.Goals as goal

pub read_weights-requires-clause-opened : goal.read_weights-requires-clause-opened
read_weights-requires-clause-opened c =
    let a = c.args in
    whole_listed a.known.now a.opened.now (length a.form.now.at.now) (omega (arith, c.requires.count)) c.requires.opened

pub cut_open-requires-clause-can : goal.cut_open-requires-clause-can
cut_open-requires-clause-can c =
    let count = c.requires.count ∙ c.requires.over.sites in
    record { over = c.requires.over; starts = count; count = count; goes_on = λ p l shuts. refl }

pub cut_open-requires-clause-count : goal.cut_open-requires-clause-count
cut_open-requires-clause-count c = ap (λ (ws : List ℤ). length ws) c.deref.ensures.value ∙ c.in_ok-read_weights.ensures.count

pub cut_open-requires-clause-size : goal.cut_open-requires-clause-size
cut_open-requires-clause-size c = omega (arith, ap (λ (ws : List ℤ). weights_size ws) c.deref.ensures.value, c.in_ok-read_weights.ensures.size)

pub returns-clause-count : goal.returns-clause-count
returns-clause-count c = c.in_ok-bits.ensures.count ∙ opened_count c.args.known.now c.args.opened.now c.requires.opened

pub returns-clause-least : goal.returns-clause-least
returns-clause-least c = λ m move read is. c.in_ok-bits.ensures.least m move read (c.deref.ensures.value ∙ c.in_ok-read_weights.ensures.weights m move read read.instance)

pub returns-clause-zeros : goal.returns-clause-zeros
returns-clause-zeros c = λ m move read is zeros.
    let a = c.args in
    let stage = c.in_ok-bits.ensures.least m move read (c.deref.ensures.value ∙ c.in_ok-read_weights.ensures.weights m move read read.instance) in
    stage_zeros m move (labelling a.form.now.at.now) a.known.now c.in_ok-bits.bits.items is read.allowed stage zeros
