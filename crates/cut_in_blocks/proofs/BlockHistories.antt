-- Steps, one after another, are a history.
use Rattle.std.proofs.Common.{ℕ, List, [], ◌∷◌, length, refl, sym, ap, subst, arith}
use Rattle.block_net.specs.Whole.{Whole}
use Rattle.block_discharge.specs.Steps.{Step, Push, Give, Relabel, Send, Accept, Refuse, Settle, TurnView, IsStepEnabled, turn_after, IsRunOfSteps, DoesMany}
use Rattle.cut_in_blocks.specs.Seats.{IsSeated, shown_by}
use Rattle.cut_in_blocks.specs.TurnEvents.{IsLed}
use Rattle.cut_in_blocks.proofs.Seated.{Goes}
use Rattle.cut_in_blocks.proofs.Acts.{push_goes, give_goes, rise_goes, send_goes}
use Rattle.cut_in_blocks.proofs.TakeSteps.{accept_goes, refuse_goes, settle_goes}

step_goes : (w : Whole) (b : ℕ) (h : TurnView) (got : ℕ) (e : Step) → IsSeated w b h.block → IsStepEnabled h.block e → Goes w b h (turn_after h e) got
step_goes w b h got (Push p j) seat on = push_goes w b h p j got seat on
step_goes w b h got (Give p) seat on = give_goes w b h p got seat on
step_goes w b h got (Relabel p) seat on = rise_goes w b h p got seat on
step_goes w b h got (Send p j) seat on = send_goes w b h p j got seat on
step_goes w b h got (Accept c l) seat on = accept_goes w b h c l.place got l.message seat on
step_goes w b h got (Refuse c l) seat on = refuse_goes w b h c l.place got l.message seat on
step_goes w b h got (Settle c l) seat on = settle_goes w b h c l.place got l.message seat on

run_led : (w : Whole) (b got : ℕ) (es : List Step) (h g : TurnView) → IsSeated w b h.block → IsRunOfSteps h es g → IsLed w b got (length es) h g
run_led w b got [] h g seat run = record {
  events = [];
  number = refl;
  got' = got;
  history = ap (λ (q : TurnView). shown_by w b q got) run;
  seated = subst (λ (q : TurnView). IsSeated w b q.block) (sym run) seat;
}
run_led w b got (e ∷ es) h g seat run =
    let step = step_goes w b h got e seat run.0 in
    let rest = run_led w b step.got' es (turn_after h e) g step.seated run.1 in
    record {
      events = step.event ∷ rest.events;
      number = omega (arith, rest.number);
      got' = rest.got';
      history = (shown_by w b (turn_after h e) step.got', step.does, rest.history);
      seated = rest.seated;
    }

pub turn_is_history : (w : Whole) (b got n : ℕ) (old new : TurnView) → IsSeated w b old.block → DoesMany old n new → IsLed w b got n old new
turn_is_history w b got n old new seat many = subst (λ (k : ℕ). IsLed w b got k old new) many.2 (run_led w b got many.0 old new seat many.1)
