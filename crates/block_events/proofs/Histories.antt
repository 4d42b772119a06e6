-- A block's history keeps what the block can see alone.
use Rattle.std.proofs.Common.{◌≡◌, ℕ, List, [], ◌∷◌, ◌++◌, refl, sym, subst, arith}
use Rattle.block_events.specs.declared.message.Message.{Message}
use Rattle.block_events.specs.declared.message.Message.TheVariants.{Parcel, Accepted, Refused}
use Rattle.block_events.specs.declared.event.Event.{Event}
use Rattle.block_events.specs.declared.event.Event.TheVariants.{PushInner, PushSink, Relabel, Send, Accept, Refuse, Settle, RaiseAll}
use Rattle.block_events.specs.States.{State, far_block}
use Rattle.block_events.specs.Events.{MayAccept, MayRefuse, after_accept, after_refuse, after_settle, IsQuiet}
use Rattle.block_events.specs.Soundness.{IsSound}
use Rattle.block_events.proofs.Raising.{quiet_ways}
use Rattle.block_events.specs.Workers.{MayTake, FitsFlight, taken_with, DoesOwn, IsHistory}
use Rattle.block_events.proofs.Fit.{IsFit, sound_fit, pushed_fit, given_fit, relabelled_fit, fit_allowed, sent_fit, accepted_fit, refused_fit, taken_fit, returned_fit}
use Rattle.block_events.proofs.Logs.{IsLogged, begun, pushed_logged, given_logged, relabelled_logged, sent_logged, accepted_logged, refused_logged, taken_logged, returned_logged}

-- what a history keeps
pub record IsOwn (b : ℕ) (old s : State) : Type 0 where
  pub net : s.net ≡ old.net
  pub blocks : s.blocks ≡ old.blocks
  pub fit : IsFit s
  pub log : IsLogged b old s

accept_own : (b c : ℕ) (old s : State) (m : Message) → IsOwn b old s → MayTake s b c m → MayAccept s (m ∷ []) → IsOwn b old (after_accept s c b (taken_with s b c m))
accept_own b c old s (Parcel x a d) own me may = record {
  net = own.net;
  blocks = own.blocks;
  fit = accepted_fit s c b x a d _ own.fit me.addressed.direction me.addressed.border may;
  log = accepted_logged b c old s x a d own.fit own.log me.addressed me.fair.0 me.fair.1 may;
}
accept_own b c old s (Accepted x a) own me may = absurd may
accept_own b c old s (Refused x a d told) own me may = absurd may

refuse_own : (b c : ℕ) (old s : State) (m : Message) → IsOwn b old s → MayTake s b c m → MayRefuse s (m ∷ []) → IsOwn b old (after_refuse s c b (taken_with s b c m))
refuse_own b c old s (Parcel x a d) own me may = record {
  net = own.net;
  blocks = own.blocks;
  fit = refused_fit s c b x a d _ own.fit;
  log = refused_logged b c old s x a d own.fit own.log me.addressed me.fair.0 me.fair.1 may;
}
refuse_own b c old s (Accepted x a) own me may = absurd may
refuse_own b c old s (Refused x a d told) own me may = absurd may

settle_own : (b c : ℕ) (old s : State) (m : Message) → IsOwn b old s → MayTake s b c m → FitsFlight s m → IsOwn b old (after_settle s c b (taken_with s b c m))
settle_own b c old s (Parcel x a d) own me fits = absurd fits
settle_own b c old s (Accepted x a) own me fits = record {
  net = own.net;
  blocks = own.blocks;
  fit = taken_fit s c b x a _ own.fit me.addressed.direction;
  log = taken_logged b c old s x a fits.0 own.fit own.log me.addressed me.fair fits.1;
}
settle_own b c old s (Refused x a d told) own me fits = record {
  net = own.net;
  blocks = own.blocks;
  fit = returned_fit s c b x a d told _ own.fit me.addressed.direction fits.0 me.fair.2;
  log = returned_logged b c old s x a d told own.fit own.log me.addressed me.fair.0 me.fair.1 me.fair.2 fits.0;
}

effect_own : (b : ℕ) (old s : State) (e : Event) (t : State) → IsOwn b old s → DoesOwn b s e t → IsOwn b old t
effect_own b old s (PushInner x) t own does =
    let on = does.1 in
    subst (λ (u : State). IsOwn b old u) (sym does.2) (record {
      net = own.net;
      blocks = own.blocks;
      fit = pushed_fit s x _ own.fit on.0 on.1 (omega arith) (omega arith) (omega (arith, on.4));
      log = pushed_logged b old s x _ own.fit own.log on.0 on.1 (omega arith);
    })
effect_own b old s (PushSink v) t own does =
    let on = does.1 in
    subst (λ (u : State). IsOwn b old u) (sym does.2) (record {
      net = own.net;
      blocks = own.blocks;
      fit = given_fit s v _ own.fit on.0.node (omega arith) (omega arith);
      log = given_logged b old s v _ own.fit own.log on.0.node (omega arith) does.0;
    })
effect_own b old s (Relabel v) t own does =
    let on = does.1 in
    subst (λ (u : State). IsOwn b old u) (sym does.2) (record {
      net = own.net;
      blocks = own.blocks;
      fit = relabelled_fit s v _ own.fit (fit_allowed s v own.fit on.0.node on.1);
      log = relabelled_logged b old s v _ own.fit own.log on.0.node on.1;
    })
effect_own b old s (Send x) t own does =
    let on = does.1 in
    subst (λ (u : State). IsOwn b old u) (sym does.2) (record {
      net = own.net;
      blocks = own.blocks;
      fit = sent_fit s x _ own.fit on.0 on.1 (omega arith) (omega arith) on.4;
      log = sent_logged b (far_block s.net s.blocks x) old s x _ own.fit own.log (record { direction = on.0; border = on.1; near = does.0; far = refl }) (omega (arith, on.2.excess, on.3)) (omega arith) on.4 on.5;
    })
effect_own b old s (Accept c to) t own does = subst (λ (u : State). IsOwn b old u) (sym does.5) (accept_own b c old s does.1 own does.2 does.3)
effect_own b old s (Refuse c to) t own does = subst (λ (u : State). IsOwn b old u) (sym does.4) (refuse_own b c old s does.1 own does.2 does.3)
effect_own b old s (Settle c to) t own does = subst (λ (u : State). IsOwn b old u) (sym does.4) (settle_own b c old s does.1 own does.2 does.3)
effect_own b old s RaiseAll t own does = absurd does.0

history_own : (b : ℕ) (old : State) (h : List Event) (s t : State) → IsOwn b old s → IsHistory b s h t → IsOwn b old t
history_own b old [] s t own led = subst (λ (u : State). IsOwn b old u) (sym led) own
history_own b old (e ∷ h) s t own led = history_own b old h led.0 t (effect_own b old s e led.0 own led.1) led.2

-- what a block keeps by its own history, from a sound and quiet state
pub own_history : (b : ℕ) (old t : State) (h : List Event) → IsSound old → IsQuiet old → IsHistory b old h t → IsOwn b old t
own_history b old t h sound quiet led =
    history_own b old h old t (record {
      net = refl;
      blocks = refl;
      fit = sound_fit old sound;
      log = begun b old sound (quiet_ways old sound.sized.ways quiet) quiet;
    }) led

-- a history goes on with another
pub goes_on : (b : ℕ) (s t u : State) (h k : List Event) → IsHistory b s h t → IsHistory b t k u → IsHistory b s (h ++ k) u
goes_on b s t u [] k first then' = subst (λ (q : State). IsHistory b q k u) first then'
goes_on b s t u (e ∷ h) k first then' = (first.0, first.1, goes_on b first.0 t u h k first.2 then')
