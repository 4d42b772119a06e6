-- Where nothing was done nothing was sure.
use Rattle.std.proofs.Common.{◌≡◌, ℕ, ◌<◌, List, length, slice_index, sym, ◌∙◌, subst}
use Rattle.std.proofs.lemmas.List.{get_or_read}
use Rattle.block_events.specs.declared.message.Message.{Message}
use Rattle.block_events.specs.declared.message.Message.TheVariants.{Parcel, Accepted, Refused}
use Rattle.block_net.specs.Views.{CellsView, border_in}
use Rattle.block_discharge.specs.Seen.{WaysView}
use Rattle.block_discharge.specs.Steps.{Step, Push, Give, Relabel, Send, Accept, Refuse, Settle, IsFrom, MayAcceptAt, MayRefuseAt, MaySettleAt, IsSure}
use Rattle.block_discharge.specs.Works.{IsIdle, IsIdleFrom}
use Rattle.block_discharge.specs.Turns.{IsKnown}

from_known : (b : CellsView) (s : WaysView) (others : List ℕ) (c j : ℕ) → IsKnown b others
    → ((k : ℕ) → k < length others → IsIdleFrom b s (slice_index others k)) → IsFrom b c j → IsIdleFrom b s c
from_known b s others c j known each is =
    let at = known j is.place in
    let here : c ≡ slice_index others at.0 = sym is.to ∙ get_or_read others at.0 (border_in b j).to at.1 (sym at.2) 0 in
    subst (λ (u : ℕ). IsIdleFrom b s u) (sym here) (each at.0 at.1)

accept_from : (b : CellsView) (c j : ℕ) (m : Message) → MayAcceptAt b c j m → IsFrom b c j
accept_from b c j (Parcel x a d) may = may.0
accept_from b c j (Accepted x a) may = absurd may
accept_from b c j (Refused x a d told) may = absurd may

refuse_from : (b : CellsView) (c j : ℕ) (m : Message) → MayRefuseAt b c j m → IsFrom b c j
refuse_from b c j (Parcel x a d) may = may.0
refuse_from b c j (Accepted x a) may = absurd may
refuse_from b c j (Refused x a d told) may = absurd may

settle_from : (b : CellsView) (c j : ℕ) (m : Message) → MaySettleAt b c j m → IsFrom b c j
settle_from b c j (Parcel x a d) may = absurd may
settle_from b c j (Accepted x a) may = may.0
settle_from b c j (Refused x a d told) may = may.0

pub none_sure : (b : CellsView) (s : WaysView) (others : List ℕ) → IsKnown b others
    → ((k : ℕ) → k < length others → IsIdleFrom b s (slice_index others k)) → ((v : ℕ) → IsIdle b s v) → (e : Step) → ¬ IsSure b s e
none_sure b s others known each idle (Push v j) on = (idle v).pushes j on
none_sure b s others known each idle (Give v) on = (idle v).gift on
none_sure b s others known each idle (Relabel v) on = (idle v).rise on
none_sure b s others known each idle (Send v j) on = (idle v).sends j on
none_sure b s others known each idle (Accept c l) on = (from_known b s others c l.place known each (accept_from b c l.place l.message on.0)).accepts l on
none_sure b s others known each idle (Refuse c l) on = (from_known b s others c l.place known each (refuse_from b c l.place l.message on.0)).refuses l on
none_sure b s others known each idle (Settle c l) on = (from_known b s others c l.place known each (settle_from b c l.place l.message on.0)).settles l on
