use Rattle.std.proofs.Common.{◌≡◌, ◌++◌, ◌∙◌, ℕ, List, sym, ap, subst}
use Rattle.std.specs.Prelude.{filter}
use Rattle.move_energy.specs.Choices.{open_at, AreOpenSites}
use Rattle.strips.specs.Telling.{IsAsTold}
use Rattle.strip_nets.specs.Views.{strip_view}
use Rattle.strips.proofs.Ranges.{told_opened}
use Rattle.strips.proofs.closing.Strips.tell.Goals as goal

pub returns-in_err-tell_strip-clause-told : goal.returns-in_err-tell_strip-clause-told
returns-in_err-tell_strip-clause-told c =
    let T : List ℕ → Type 0 = λ xs. IsAsTold c.args.known.now.items c.tell_strip.new.known.items xs c.args.sides.now in
    subst T c.deref.ensures.value c.tell_strip.ensures.told

pub returns-clause-told : goal.returns-clause-told
returns-clause-told c =
    let T : List ℕ → Type 0 = λ xs. IsAsTold c.args.known.now.items c.tell_strip.new.known.items xs c.args.sides.now in
    subst T c.deref.ensures.value c.tell_strip.ensures.told

pub returns-clause-opened : goal.returns-clause-opened
returns-clause-opened c = λ from to listed.
    let a = c.args in
    let known = a.known.now.items in
    let new = c.tell_strip.new.known.items in
    let sides = a.sides.now in
    let mine = a.self.now.opened.items in
    let T : List ℕ → Type 0 = λ xs. IsAsTold known new xs sides in
    let left : c.tell_strip.new.left.items ≡ filter (open_at new) mine =
    c.in_ok-tell_strip.ensures.left ∙ ap (λ (xs : List ℕ). xs ++ filter (open_at new) c.deref.result.now) c.clear.ensures.items
    ∙ ap (filter (open_at new)) c.deref.ensures.value in
    let O : List ℕ → Type 0 = λ xs. AreOpenSites (strip_view new from to) xs in
    subst O (sym (ap (λ (v : _). v.items) c.swap.ensures.x_after ∙ left))
    (told_opened known new from to mine sides.lower.items sides.upper.items
    record { count = c.tell_strip.ensures.count; each = subst T c.deref.ensures.value c.tell_strip.ensures.told } listed)
