use Rattle.std.proofs.Common.{◌≡◌, ◌∙◌, ℕ, List, cond, length, refl, sym, ap, inl, inr, arith}
use Rattle.std.specs.Prelude.{slice_index}
use Rattle.std.specs.Vec.{with_items}
use Rattle.std.proofs.lemmas.Bool.{cases_Bool}
use Rattle.std.proofs.lemmas.List.{with_items_is}
use Rattle.near_changes.proofs.changes.Changes.note_sites.Goals as goal

pub returns-then-begin : goal.returns-then-begin
returns-then-begin c = λ took listed.
    let old = c.args.self.now.stamps.items in
    let now = c.deref_mut.result.now in
    let new = c.stamp_sites.new.stamps in
    let begun = c.if-begin.ensures.begun refl in
    let same : now ≡ old = c.deref_mut.ensures.value ∙ c.if-begin.ensures.same in
    let long = ap (λ (xs : List ℕ). length xs) same in
    let size : length new ≡ length old = c.stamp_sites.auto.stamps ∙ long in
    let written : (with_items c.begin.new.self.stamps new).items ≡ new =
    with_items_is c.begin.new.self.stamps new (c.stamp_sites.auto.stamps ∙ c.deref_mut.ensures.len) in
    inl (record {
      within = begun.0;
      count = begun.1;
      made = begun.2;
      sites = ap (λ (xs : List ℕ). length xs) written ∙ size;
      stamps = λ p l. ap (λ (xs : List ℕ). slice_index xs p) written ∙ elim (cases_Bool (took p)) [
        | inl one ↦
            c.stamp_sites.ensures.listed p (omega (arith, l, long)) ((listed begun.0 p l).0 one)
            ∙ sym (ap (λ b. cond b c.begin.new.self.count (slice_index old p)) one)
        | inr none ↦
            c.stamp_sites.ensures.others p (λ has. (let yes = (listed begun.0 p l).1 has in cc (yes, none)))
            ∙ ap (λ (xs : List ℕ). slice_index xs p) same
            ∙ sym (ap (λ b. cond b c.begin.new.self.count (slice_index old p)) none)
      ];
    })
