-- What raising the labels of the blocks leaves is the effect of raising all labels.
use Rattle.std.proofs.Common.{◌≡◌, ℕ, zero, suc, List, inl, inr, refl, sym, ap, subst}
use Rattle.block_events.specs.declared.message.Message.{Message}
use Rattle.block_events.specs.declared.event.Event.TheVariants.{RaiseAll}
use Rattle.block_events.specs.Reach.{ReachesSinkIn, IsExact, AreExact}
use Rattle.block_events.specs.States as core
use Rattle.block_events.specs.Events.{IsQuiet, Happens, after_raise_all}
use Rattle.block_events.proofs.Kept.{kept}
use Rattle.block_events.specs.Effects.{BlocksView, state_of}
use Rattle.block_state.specs.AllWays.{IsHeld}
use Rattle.block_events.specs.Effects.{blocks_with_known_labels}
use Rattle.net_in_blocks.specs.Raising.{bare}

module _ (b : BlocksView) (ways : List (List (List Message))) (got : ℕ) where
  to_state : (d v : ℕ) → ReachesSinkIn (bare b) d v → ReachesSinkIn (state_of b ways got) d v
  to_state zero v path = absurd path
  to_state (suc zero) v path = path
  to_state (suc (suc d)) v path = (path.0, path.1, path.2, path.3, to_state (suc d) _ path.4)

  from_state : (d v : ℕ) → ReachesSinkIn (state_of b ways got) d v → ReachesSinkIn (bare b) d v
  from_state zero v path = absurd path
  from_state (suc zero) v path = path
  from_state (suc (suc d)) v path = (path.0, path.1, path.2, path.3, from_state (suc d) _ path.4)

  exact_state : (v label : ℕ) → IsExact (bare b) v label → IsExact (state_of b ways got) v label
  exact_state v label (inl near) = inl (near.0, to_state label v near.1, λ d path. near.2 d (from_state d v path))
  exact_state v label (inr far) = inr (far.0, λ leads. far.1 (leads.0, from_state leads.0 v leads.1))

  pub told_happens : (b' : BlocksView) (labels : List ℕ) → IsQuiet (state_of b ways got) → AreExact (state_of b ways got) labels → b' ≡ blocks_with_known_labels (record b { labels = labels })
      → Happens (state_of b ways got) RaiseAll (state_of b' ways got)
  told_happens b' labels quiet exact is =
      record { enabled = quiet; effect = (labels, exact, ap (λ (v : BlocksView). state_of v ways got) is) }

  pub raise_happens : (b' : BlocksView) → IsQuiet (state_of b ways got) → (labels : List ℕ) × AreExact (bare b) labels × (b' ≡ blocks_with_known_labels (record b { labels = labels }))
      → Happens (state_of b ways got) RaiseAll (state_of b' ways got)
  raise_happens b' quiet made =
      told_happens b' made.0 quiet (record { len = made.1.len; exact = λ v l. exact_state v _ (made.1.exact v l) }) made.2

pub held_raised : {rooms : List (List ℕ)} {s : core.State} (t : core.State) → IsHeld rooms s → Happens s RaiseAll t → IsHeld rooms t
held_raised {rooms} {s} t held happens =
    let effect = happens.effect in
    let u = after_raise_all s effect.0 in
    let done : Happens s RaiseAll u = record { enabled = happens.enabled; effect = (effect.0, effect.1, refl) } in
    let all : IsHeld rooms u = record { sound = kept s u RaiseAll held.sound done; few = held.few; arcs = held.arcs; room = held.room } in
    subst (IsHeld rooms) (sym effect.2) all
