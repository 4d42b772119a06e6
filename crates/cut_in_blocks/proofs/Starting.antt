-- A block that has put and taken nothing shows what all blocks show.
use Rattle.std.proofs.Common.{◌≡◌, ℕ, ◌<◌, Bool, true, false, cond, eqb, List, [], length, get_or, replicate, refl, sym, ◌∙◌, ap, subst}
use Rattle.std.proofs.lemmas.List.{length-replicate, get_or-replicate, set-get_or}
use Rattle.block_events.specs.declared.event.Event.{Event}
use Rattle.block_events.specs.declared.message.Message.{Message}
use Rattle.block_events.specs.States.{State}
use Rattle.block_events.specs.Events.{IsQuiet}
use Rattle.block_events.specs.Workers.{MayStart}
use Rattle.block_events.specs.RoundLaws.{no_messages}
use Rattle.block_net.specs.Whole.{Whole, table, no_block, block_at, put_block}
use Rattle.block_net.proofs.Tables.{table_is}
use Rattle.block_events.specs.Effects.{state_of}
use Rattle.net_in_blocks.specs.Views.{IsLaid, blocks_in}
use Rattle.block_discharge.specs.Seen.{WaysView}
use Rattle.block_discharge.specs.Steps.{Step, IsSure}
use Rattle.cut_in_blocks.specs.TurnEvents.{HasRoom}
use Rattle.cut_in_blocks.specs.Seats.{log_at, logs_of, shown_by}
use Rattle.cut_in_blocks.proofs.Laid.{seated}
use Rattle.cut_in_blocks.proofs.Starts.{start_is_step}
use Rattle.cut_in_blocks.specs.Rounds.{fresh, quiet_state}

-- no message at all
abbrev none : ℕ → List Message
none c = []

nothing : (s t : Bool) (xs : List Message) → xs ≡ [] → cond s xs (cond t xs []) ≡ []
nothing true t xs e = e
nothing false true xs e = e
nothing false false xs e = refl

pub no_logs : (n b : ℕ) → logs_of n b none none ≡ no_messages n
no_logs n b =
    let row : List (List Message) = replicate n [] in
    table_is n (λ i. table n (log_at b none none i)) (no_messages n) (length-replicate n row) (λ i d li.
    get_or-replicate n i row d li
    ∙ sym (table_is n (log_at b none none i) row (length-replicate {A = List Message} n []) (λ j e lj.
    get_or-replicate {A = List Message} n j [] e lj ∙ sym (nothing (eqb i b) (eqb j b) [] refl))))

pub put_same : (w : Whole) (b : ℕ) → put_block w b (block_at w b) ≡ w
put_same w b = ap (λ q. record w { blocks = q }) (set-get_or w.blocks b no_block)

pub shows_all : (w : Whole) (b got : ℕ) → shown_by w b (fresh (block_at w b)) got ≡ quiet_state w got
shows_all w b got =
    ap (λ (q : Whole). state_of (blocks_in q) (logs_of (length w.blocks) b none none) got) (put_same w b)
    ∙ ap (λ l. state_of (blocks_in w) l got) (no_logs (length w.blocks) b)

pub is_quiet : (w : Whole) (got : ℕ) → IsQuiet (quiet_state w got)
is_quiet w got b c lb lc =
    let n = length w.blocks in
    let row : List (List Message) = replicate n [] in
    ap (λ (r : List (List Message)). get_or r c []) (get_or-replicate n b row [] lb) ∙ get_or-replicate {A = List Message} n c [] [] lc

pub start_is_sure : (w : Whole) (b got : ℕ) (s : WaysView) (e : Event) → IsLaid w → b < length w.blocks → HasRoom (block_at w b) s → MayStart b (quiet_state w got) e
    → (step : Step) × IsSure (block_at w b) s step
start_is_sure w b got s e laid lb room may =
    start_is_step w b got (fresh (block_at w b)) s e (seated w b laid lb) room (subst (λ (q : State). MayStart b q e) (sym (shows_all w b got)) may)
