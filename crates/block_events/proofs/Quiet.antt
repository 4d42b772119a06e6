-- Where no message is on the way, the ways are empty lists.
use Rattle.std.proofs.Common.{◌≡◌, ◌<◌, List, [], get_or, replicate, sym, ◌∙◌, arith}
use Rattle.std.proofs.lemmas.List.{length-replicate, get_or-replicate, get_or_default, same_lists}
use Rattle.block_events.specs.declared.message.Message.{Message}
use Rattle.block_events.specs.States.{State}
use Rattle.block_events.specs.Events.{IsQuiet}
use Rattle.block_events.specs.Soundness.{IsSound}
use Rattle.block_events.specs.RoundLaws.{no_messages}

pub quiet_empty : (s : State) → IsSound s → IsQuiet s → s.ways ≡ no_messages s.blocks
quiet_empty s sound quiet =
    let n = s.blocks in
    let sq = sound.sized.ways in
    let row : List (List Message) = replicate n [] in
    same_lists s.ways (no_messages n) (sq.rows ∙ sym (length-replicate n row)) (λ b d l.
    let lb : b < n = omega (arith, l, sq.rows) in
    let one = same_lists (get_or s.ways b []) row (sq.columns b lb ∙ sym (length-replicate {A = List Message} n [])) (λ c e lc.
    let lc' : c < n = omega (arith, lc, sq.columns b lb) in
    get_or_default (get_or s.ways b []) c e [] lc ∙ (quiet b c lb lc' ∙ sym (get_or-replicate {A = List Message} n c [] e lc'))) in
    get_or_default s.ways b d [] l ∙ (one ∙ sym (get_or-replicate n b row d lb)))
