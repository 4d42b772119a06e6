use Rattle.std.proofs.Common.{◌≡◌, ◌≤◌, List, ℕ, min, length, sym, subst, arith}
use Rattle.std.proofs.Math.Nat.{min-le_left, min-le_right}
use Rattle.move_energy.specs.BySite.{IsListing}
use Rattle.move_energy.specs.Choices.{open_at}
use Rattle.near_changes.proofs.Opens.{none_before, none_behind, lesser_ends}
use Rattle.near_changes.proofs.opening.list_open.Goals as goal

pub loop-from-init : goal.loop-from-init
loop-from-init c =
    let a = c.args in
    let from = c.min-from.result in
    let first : from ≤ c.min-end.result = omega (arith, c.min-from.ensures, min-le_left c.min-end.result a.window.from) in
    let before : from ≤ a.window.from = omega (arith, c.min-from.ensures, min-le_right c.min-end.result a.window.from) in
    let L : List ℕ → Type 0 = λ xs. IsListing (open_at a.choices.now) from xs in
    record { within = first; listed = subst L (sym c.clear.ensures.items) (none_before a.window a.choices.now from c.requires.within before) }

pub returns : goal.returns
returns c =
    let a = c.args in
    let n = length a.choices.now in
    let end = c.min-end.result in
    let at_end : c.loop-from.from ≡ end = omega (arith, c.loop-from.invariant.within, c.loop-from-test.false) in
    let within : end ≤ n = omega (arith, c.min-end.ensures, min-le_left n a.window.to) in
    let L : ℕ → Type 0 = λ k. IsListing (open_at a.choices.now) k c.loop-from.opened.items in
    none_behind a.window a.choices.now end c.loop-from.opened.items c.requires.within within (lesser_ends n a.window.to end c.min-end.ensures) (subst L at_end c.loop-from.invariant.listed)
