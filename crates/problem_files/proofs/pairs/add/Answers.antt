use Rattle.std.proofs.Common.{◌≡◌, ◌∙◌, pos, sym, w64, refl}
use Rattle.std.proofs.lemmas.Int.{to_z-of_z}
use Rattle.problem_files.proofs.PairLemmas.{taken, refused, first_unknown, second_unknown}
use Rattle.problem_files.proofs.pairs.add.Goals as goal

pub returns-in-Ok-clause-ok : goal.returns-in-Ok-clause-ok
returns-in-Ok-clause-ok c =
    let first_is : c.args.first ≡ pos c.in-Some.first = sym (to_z-of_z w64 c.args.first c.ranges.first) ∙ c.in-Some.ensures.some in
    let second_is : c.args.second ≡ pos c.in-Some-site_of.second = sym (to_z-of_z w64 c.args.second c.ranges.second) ∙ c.in-Some-site_of.ensures.some in
    let weight_is = to_z-of_z w64 c.args.weight c.ranges.weight in
    rw (first_is, second_is) (taken _ _ _ _ _ _ (rw weight_is at c.in-Ok.ensures.accepted) (rw weight_is at c.in-Ok.ensures.added))

pub returns-in-Err-clause-refused : goal.returns-in-Err-clause-refused
returns-in-Err-clause-refused c =
    let first_is : c.args.first ≡ pos c.in-Some.first = sym (to_z-of_z w64 c.args.first c.ranges.first) ∙ c.in-Some.ensures.some in
    let second_is : c.args.second ≡ pos c.in-Some-site_of.second = sym (to_z-of_z w64 c.args.second c.ranges.second) ∙ c.in-Some-site_of.ensures.some in
    let weight_is = to_z-of_z w64 c.args.weight c.ranges.weight in
    λ memory. rw (c.refusal_of.ensures, first_is, second_is)
    (refused _ _ _ _ _ _ c.requires.room (rw weight_is at c.in-Err.ensures.refused) (rw c.refusal_of.ensures at memory))

pub returns-in_default-clause-refused : goal.returns-in_default-clause-refused
returns-in_default-clause-refused c =
    let first_is = to_z-of_z w64 c.args.first c.ranges.first in
    λ memory. first_unknown _ _ _ _ _ (rw first_is at c.in_default.ensures.none refl c.args.pairs.now.sites c.requires.sites)

pub returns-in_default-site_of-clause-refused : goal.returns-in_default-site_of-clause-refused
returns-in_default-site_of-clause-refused c =
    let second_is = to_z-of_z w64 c.args.second c.ranges.second in
    λ memory. second_unknown _ _ _ _ _ (rw second_is at c.in_default-site_of.ensures.none refl c.args.pairs.now.sites c.requires.sites)
