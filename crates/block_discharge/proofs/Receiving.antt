-- One message taken in code is one event of the block.
use Rattle.std.proofs.Common.{◌≡◌, ℕ, ◌+◌, max, cond, None, refl, sym, ◌∙◌, ap, subst}
use Rattle.std.specs.Option.{is_some}
use mathlib.Core.Path.{fun_ext}
use Rattle.std.proofs.lemmas.List.{length-set}
use Rattle.block_events.specs.declared.direction.Direction.{Direction}
use Rattle.block_events.specs.declared.message.Message.{Message}
use Rattle.block_events.specs.declared.message.Message.TheVariants.{Parcel, Accepted, Refused}
use Rattle.block_events.specs.Directions.{opposite}
use Rattle.block_net.specs.declared.lanes.Border.{Border}
use Rattle.block_net.specs.Views.{CellsView, label_in, border_in, cells_after_accept, cells_after_delivery, cells_after_return}
use Rattle.block_discharge.specs.declared.letter.Letter.{Letter}
use Rattle.block_discharge.specs.Seen.{WaysView, IsLook, IsPut, IsTake, add_to}
use Rattle.block_discharge.specs.Steps.{Accept, Refuse, Settle, MayAcceptAt, MayRefuseAt, MaySettleAt}
use Rattle.block_discharge.specs.Calls.{Performs}
use Rattle.block_discharge.specs.Works.{IsAlike, DoesEvents}
use Rattle.block_discharge.proofs.Runs.{does_one, alike_same, look_sent, look_taken}
use Rattle.block_discharge.proofs.Doing.{to_kept}

abbrev pub parcel_letter : Direction → ℕ → ℕ → ℕ → Letter
parcel_letter x a d j = record { message = Parcel x a d; place = j }

pub done_accept : (b b' : CellsView) (s t u w : WaysView) (c : ℕ) (x : Direction) (a d j : ℕ) (m : Message) → MayAcceptAt b c j (Parcel x a d) → b' ≡ cells_after_accept b j a d
    → m ≡ Accepted (opposite (border_in b j).direction) a → IsLook s t → IsPut c m t u → IsTake c (Parcel x a d) u w
    → Performs b s (Accept c (parcel_letter x a d j)) b' w
done_accept b b' s t u w c x a d j m may made is look put take =
    let answer : m ≡ Accepted x a = is ∙ ap (λ (q : Direction). Accepted q a) may.1 in
    let sent_is : w.sent ≡ add_to s.sent c (Accepted x a) = fun_ext take.sent ∙ (fun_ext put.sent ∙ rw (look_sent s t look, answer) refl) in
    let taken_is : w.taken ≡ add_to s.taken c (Parcel x a d) = fun_ext take.taken ∙ rw (fun_ext put.taken, look_taken s t look) refl in
    record { enabled = may; effect = rw (made, sent_is, taken_is) refl }

pub does_accept : (b b' : CellsView) (s t u w : WaysView) (c : ℕ) (x : Direction) (a d j : ℕ) (m : Message) → MayAcceptAt b c j (Parcel x a d) → b' ≡ cells_after_accept b j a d
    → m ≡ Accepted (opposite (border_in b j).direction) a → IsLook s t → IsPut c m t u → IsTake c (Parcel x a d) u w → DoesEvents b s 1 b' w
does_accept b b' s t u w c x a d j m may made is look put take =
    let y = border_in b j in
    let row : Border = record y { residual = y.residual + a; known = cond (is_some y.flight) y.known (max y.known d) } in
    let alike : IsAlike b (cells_after_accept b j a d) = record {
      top = refl;
      count = length-set b.excess y.near _;
      starts = refl;
      lanes = refl;
      border_starts = refl;
      borders = length-set b.borders j row;
      tos = to_kept b.borders j row refl;
    } in
    let done = done_accept b b' s t u w c x a d j m may made is look put take in
    does_one b b' s w (Accept c (parcel_letter x a d j)) done.enabled done.effect (subst (IsAlike b) (sym made) alike)

pub done_refuse : (b : CellsView) (s t u w : WaysView) (c : ℕ) (x : Direction) (a d j : ℕ) (m : Message) → MayRefuseAt b c j (Parcel x a d)
    → m ≡ Refused (opposite (border_in b j).direction) a d (label_in b (border_in b j).near) → IsLook s t → IsPut c m t u → IsTake c (Parcel x a d) u w
    → Performs b s (Refuse c (parcel_letter x a d j)) b w
done_refuse b s t u w c x a d j m may is look put take =
    let told = label_in b (border_in b j).near in
    let answer : m ≡ Refused x a d told = is ∙ ap (λ (q : Direction). Refused q a d told) may.1 in
    let sent_is : w.sent ≡ add_to s.sent c (Refused x a d told) = fun_ext take.sent ∙ (fun_ext put.sent ∙ rw (look_sent s t look, answer) refl) in
    let taken_is : w.taken ≡ add_to s.taken c (Parcel x a d) = fun_ext take.taken ∙ rw (fun_ext put.taken, look_taken s t look) refl in
    record { enabled = may; effect = rw (sent_is, taken_is) refl }

pub does_refuse : (b : CellsView) (s t u w : WaysView) (c : ℕ) (x : Direction) (a d j : ℕ) (m : Message) → MayRefuseAt b c j (Parcel x a d)
    → m ≡ Refused (opposite (border_in b j).direction) a d (label_in b (border_in b j).near) → IsLook s t → IsPut c m t u → IsTake c (Parcel x a d) u w → DoesEvents b s 1 b w
does_refuse b s t u w c x a d j m may is look put take =
    let done = done_refuse b s t u w c x a d j m may is look put take in
    does_one b b s w (Refuse c (parcel_letter x a d j)) done.enabled done.effect (alike_same b)

abbrev pub accepted_letter : Direction → ℕ → ℕ → Letter
accepted_letter x a j = record { message = Accepted x a; place = j }

pub done_delivery : (b b' : CellsView) (s w : WaysView) (c : ℕ) (x : Direction) (a j : ℕ) → MaySettleAt b c j (Accepted x a) → b' ≡ cells_after_delivery b j → IsTake c (Accepted x a) s w
    → Performs b s (Settle c (accepted_letter x a j)) b' w
done_delivery b b' s w c x a j may made take = record { enabled = may; effect = rw (made, fun_ext take.sent, fun_ext take.taken) refl }

pub does_delivery : (b b' : CellsView) (s w : WaysView) (c : ℕ) (x : Direction) (a j : ℕ) → MaySettleAt b c j (Accepted x a) → b' ≡ cells_after_delivery b j → IsTake c (Accepted x a) s w → DoesEvents b s 1 b' w
does_delivery b b' s w c x a j may made take =
    let row : Border = record (border_in b j) { flight = None } in
    let alike : IsAlike b (cells_after_delivery b j) = record {
      top = refl;
      count = refl;
      starts = refl;
      lanes = refl;
      border_starts = refl;
      borders = length-set b.borders j row;
      tos = to_kept b.borders j row refl;
    } in
    let done = done_delivery b b' s w c x a j may made take in
    does_one b b' s w (Settle c (accepted_letter x a j)) done.enabled done.effect (subst (IsAlike b) (sym made) alike)

abbrev pub refused_letter : Direction → ℕ → ℕ → ℕ → ℕ → Letter
refused_letter x a d told j = record { message = Refused x a d told; place = j }

pub done_return : (b b' : CellsView) (s w : WaysView) (c : ℕ) (x : Direction) (a d told j : ℕ) → MaySettleAt b c j (Refused x a d told) → b' ≡ cells_after_return b j a told → IsTake c (Refused x a d told) s w
    → Performs b s (Settle c (refused_letter x a d told j)) b' w
done_return b b' s w c x a d told j may made take = record { enabled = may; effect = rw (made, fun_ext take.sent, fun_ext take.taken) refl }

pub does_return : (b b' : CellsView) (s w : WaysView) (c : ℕ) (x : Direction) (a d told j : ℕ) → MaySettleAt b c j (Refused x a d told) → b' ≡ cells_after_return b j a told → IsTake c (Refused x a d told) s w
    → DoesEvents b s 1 b' w
does_return b b' s w c x a d told j may made take =
    let y = border_in b j in
    let row : Border = record y { residual = y.residual + a; known = told; flight = None } in
    let alike : IsAlike b (cells_after_return b j a told) = record {
      top = refl;
      count = length-set b.excess y.near _;
      starts = refl;
      lanes = refl;
      border_starts = refl;
      borders = length-set b.borders j row;
      tos = to_kept b.borders j row refl;
    } in
    let done = done_return b b' s w c x a d told j may made take in
    does_one b b' s w (Settle c (refused_letter x a d told j)) done.enabled done.effect (subst (IsAlike b) (sym made) alike)
