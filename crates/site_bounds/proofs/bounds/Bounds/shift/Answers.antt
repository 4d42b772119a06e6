use Rattle.std.proofs.Common.{◌+◌, ◌≤◌, ℤ, ap, subst, refl, length, arith}
use Rattle.std.proofs.lemmas.Result.{on_ok_weaker}
use Rattle.site_bounds.specs.Working.{Shifts}
use Rattle.move_energy.proofs.RiseNumbers.{passed_on}
use Rattle.site_bounds.proofs.Ranges.{looking_of, shifts_same, shifted_waits, still_waits, called_waits}
use Rattle.site_bounds.proofs.bounds.Bounds.shift.Goals as goal

pub returns-then-waits-clause-looking : goal.returns-then-waits-clause-looking
returns-then-waits-clause-looking c =
    let t = c.shift_bounds.ensures in
    let few : length c.shift_bounds.new.self.waiting.items ≤ length c.args.self.now.waiting.items + 1 = (let e = ap (λ (v : _). length v.items) t.same.1 in omega (arith, e)) in
    looking_of c.args.self.now c.shift_bounds.new.self c.shift_bounds.new.self t.same.0 t.same.2 t.sized.0 t.sized.1 t.range t.total refl refl refl refl few

pub returns-then-waits-clause-shifts : goal.returns-then-waits-clause-shifts
returns-then-waits-clause-shifts c =
    let P : ℤ → Type 0 = λ z. Shifts c.args.site c.args.value z c.args.self.now c.shift_bounds.new.self in
    subst P (passed_on c.args.surplus c.requires.surplus) c.shift_bounds.ensures.shifts

pub returns-then-waits-clause-waiting : goal.returns-then-waits-clause-waiting
returns-then-waits-clause-waiting c = λ n inside waiting.
    still_waits n c.args.site c.args.value _ c.args.self.now c.shift_bounds.new.self c.shift_bounds.ensures.same.0 c.shift_bounds.ensures.same.1 c.shift_bounds.ensures.shifts
    (c.can_decide-waits.ensures.0 c.if-waits.true) waiting

pub call_up-requires : goal.call_up-requires
call_up-requires c = (
  omega (arith, c.shift_bounds.ensures.sized.0, c.requires.site.0),
  omega (arith, c.shift_bounds.ensures.sized.1, c.requires.site.1),
)

pub returns-clause-looking : goal.returns-clause-looking
returns-clause-looking c =
    let t = c.shift_bounds.ensures in
    let s = c.call_up.ensures.same in
    on_ok_weaker c.call_up.result (λ calls.
    looking_of c.args.self.now c.shift_bounds.new.self c.call_up.new.self t.same.0 t.same.2 t.sized.0 t.sized.1 t.range t.total s.0 s.1 s.2 s.3
    (let e = ap (λ (v : _). length v.items) t.same.1 in omega (arith, e, calls.more))) c.call_up.ensures.calls

pub returns-clause-shifts : goal.returns-clause-shifts
returns-clause-shifts c =
    let P : ℤ → Type 0 = λ z. Shifts c.args.site c.args.value z c.args.self.now c.shift_bounds.new.self in
    let shifts = subst P (passed_on c.args.surplus c.requires.surplus) c.shift_bounds.ensures.shifts in
    on_ok_weaker c.call_up.result (λ calls.
    shifts_same c.args.site c.args.value c.args.surplus c.args.self.now c.shift_bounds.new.self c.call_up.new.self c.call_up.ensures.same.1 c.call_up.ensures.same.2 shifts) c.call_up.ensures.calls

pub returns-clause-waiting : goal.returns-clause-waiting
returns-clause-waiting c =
    let s = c.call_up.ensures.same in
    on_ok_weaker c.call_up.result (λ calls n inside waiting.
    called_waits n c.args.site c.shift_bounds.new.self c.call_up.new.self inside s.0 s.1 s.2 calls
    (shifted_waits n c.args.site c.args.value _ c.args.self.now c.shift_bounds.new.self c.shift_bounds.ensures.same.0 c.shift_bounds.ensures.same.1 c.shift_bounds.ensures.shifts waiting)) c.call_up.ensures.calls
