use Rattle.std.proofs.Common.{◌∷◌, [], sym, subst, All}
use Rattle.std.proofs.lemmas.List.Elements.{All-append, All-cons, All-nil}
use Rattle.std.proofs.lemmas.Result.{IfOk-at_ok}
use Rattle.part_threads.specs.Drawing.{IsAnswerOf}
use Rattle.part_threads.proofs.by_threads.+hands.Goals as goal

pub returns : goal.returns
returns g t c =
    let hand = c.join-hand.result.0 in
    let P = IsAnswerOf g.D.Fn c.args.draw.now in
    let others = IfOk-at_ok (λ v. All P v.items) c.in_ok-hands.was c.join-hand.ensures.second in
    subst (λ hands. All P hands) (sym c.in_ok-push-2.ensures.items) (All-append P c.in_ok-hands.hands.items (hand ∷ []) others (All-cons P hand [] c.join-hand.ensures.first (All-nil P)))
