-- Lists of events, one after another.
use Rattle.std.proofs.Common.{◌≡◌, ℕ, ◌+◌, ◌-◌, ◌<◌, List, [], ◌∷◌, ◌++◌, false, Option, Some, None, refl, sym, ◌∙◌, ap, subst, arith}
use mathlib.Core.Path.{fun_ext}
use Rattle.std.proofs.lemmas.List.{length-append}
use Rattle.block_events.specs.declared.message.Message.{Message}
use Rattle.block_discharge.specs.declared.letter.Letter.{Letter}
use Rattle.block_net.specs.Views.{CellsView}
use Rattle.block_discharge.specs.Seen.{WaysView, IsLook}
use Rattle.block_discharge.specs.Steps.{Step, Push, Give, Relabel, Send, TurnView, turn_view, IsStepEnabled, turn_after, IsRunOfSteps, DoesMany, IsSure}
use Rattle.block_discharge.specs.Active.{IsActiveInBlock}
use Rattle.block_discharge.specs.Works.{IsAlike, DoesEvents, IsIdle, IsStuckInBlock, IsIdleFrom}

pub run_append : (es fs : List Step) (h g k : TurnView) → IsRunOfSteps h es g → IsRunOfSteps g fs k → IsRunOfSteps h (es ++ fs) k
run_append [] fs h g k first second = subst (λ (x : TurnView). IsRunOfSteps x fs k) first second
run_append (e ∷ es) fs h g k first second = (first.0, run_append es fs (turn_after h e) g k first.1 second)

pub many_more : (h g k : TurnView) (m n : ℕ) → DoesMany h m g → DoesMany g n k → DoesMany h (m + n) k
many_more h g k m n first second =
    (first.0 ++ second.0, run_append first.0 second.0 h g k first.1 second.1, omega (arith, length-append first.0 second.0, first.2, second.2))

pub look_same : (s : WaysView) → IsLook s s
look_same s = record { sent = λ c. refl; taken = λ c. refl; room = λ c h. h; front = λ c m h. h }

pub look_more : (a b c : WaysView) → IsLook a b → IsLook b c → IsLook a c
look_more a b c h k = record {
  sent = λ c. k.sent c ∙ h.sent c;
  taken = λ c. k.taken c ∙ h.taken c;
  room = λ x e. k.room x (h.room x e);
  front = λ x m e. k.front x m (h.front x m e);
}

pub alike_same : (b : CellsView) → IsAlike b b
alike_same b = record { top = refl; count = refl; starts = refl; lanes = refl; border_starts = refl; borders = refl; tos = λ j. refl }

pub alike_more : (a b c : CellsView) → IsAlike a b → IsAlike b c → IsAlike a c
alike_more a b c h k = record {
  top = k.top ∙ h.top;
  count = k.count ∙ h.count;
  starts = k.starts ∙ h.starts;
  lanes = k.lanes ∙ h.lanes;
  border_starts = k.border_starts ∙ h.border_starts;
  borders = k.borders ∙ h.borders;
  tos = λ j. k.tos j ∙ h.tos j;
}

pub look_sent : (s t : WaysView) → IsLook s t → t.sent ≡ s.sent
look_sent s t look = fun_ext look.sent

pub look_taken : (s t : WaysView) → IsLook s t → t.taken ≡ s.taken
look_taken s t look = fun_ext look.taken

pub held_look : (b : CellsView) (s t : WaysView) → IsLook s t → turn_view b t ≡ turn_view b s
held_look b s t look =
    ap (λ (f : ℕ → List Message). record { block = b; sent = f; taken = t.taken }) (look_sent s t look)
    ∙ ap (λ (f : ℕ → List Message). record { block = b; sent = s.sent; taken = f }) (look_taken s t look)

-- looks alone
pub does_look : (b : CellsView) (s t : WaysView) → IsLook s t → DoesEvents b s 0 b t
does_look b s t look = record {
  run = ([], held_look b s t look, refl);
  alike = alike_same b;
  still = λ e. (refl, look);
}

pub does_none : (b : CellsView) (s : WaysView) → DoesEvents b s 0 b s
does_none b s = does_look b s s (look_same s)

-- one event
pub does_one : (b b' : CellsView) (s s' : WaysView) (e : Step) → IsStepEnabled b e → turn_view b' s' ≡ turn_after (turn_view b s) e → IsAlike b b' → DoesEvents b s 1 b' s'
does_one b b' s s' e on is alike = record {
  run = (e ∷ [], (on, is), refl);
  alike = alike;
  still = λ h. absurd (omega arith);
}

pub does_more : (a b c : CellsView) (s t u : WaysView) (m n : ℕ) → DoesEvents a s m b t → DoesEvents b t n c u → DoesEvents a s (m + n) c u
does_more a b c s t u m n h k = record {
  run = many_more (turn_view a s) (turn_view b t) (turn_view c u) m n h.run k.run;
  alike = alike_more a b c h.alike k.alike;
  still = λ e.
      let first = h.still (omega (arith, e)) in
      let second = k.still (omega (arith, e)) in
      (second.0 ∙ first.0, look_more s t u first.1 second.1);
}

pub does_as : (a b : CellsView) (s t : WaysView) (m n : ℕ) → m ≡ n → DoesEvents a s m b t → DoesEvents a s n b t
does_as a b s t m n e h = subst (λ (k : ℕ). DoesEvents a s k b t) e h

-- nothing seen
abbrev pub no_seen : WaysView
no_seen = record { sent = λ c. []; taken = λ c. []; room = λ c. false; front = λ c. None }

-- a node that is not active has no sure event
pub idle_inactive : (b : CellsView) (s : WaysView) (v : ℕ) → ¬ IsActiveInBlock b v → IsIdle b s v
idle_inactive b s v off = record {
  pushes = λ j on. off on.0;
  gift = λ on. off on.0;
  rise = λ on. off on.0;
  sends = λ j on. off on.0.0;
}

-- what is idle after a look was idle before it
pub idle_look : (b : CellsView) (s t : WaysView) (v : ℕ) → IsLook s t → IsIdle b t v → IsIdle b s v
idle_look b s t v look idle = record {
  pushes = idle.pushes;
  gift = idle.gift;
  rise = idle.rise;
  sends = λ j on. idle.sends j (on.0, look.room _ on.1);
}

-- the three ways in which a node passes on what it has
pub push_does : (a b c d : CellsView) (s t : WaysView) (k l m : ℕ) → ((u : WaysView) → DoesEvents a u k b u) → ((u : WaysView) → DoesEvents b u l c u) → DoesEvents c s m d t → DoesEvents a s (k + l + m) d t
push_does a b c d s t k l m first second third = does_more a c d s s t (k + l) m (does_more a b c s s s k l (first s) (second s)) third

pub push_stuck : (a b c d : CellsView) (s t : WaysView) (k l m v limit : ℕ) → ((u : WaysView) → DoesEvents a u k b u) → ((u : WaysView) → DoesEvents b u l c u) → DoesEvents c s m d t
    → (k ≡ 0 → 0 < limit → ¬ IsStepEnabled a (Give v))
    → (l ≡ 0 → 0 < limit - k → (j : ℕ) → ¬ IsStepEnabled b (Push v j))
    → (m ≡ 0 → 0 < limit - k - l → (j : ℕ) → ¬ IsSure c s (Send v j))
    → k + l + m ≡ 0 → 0 < limit → IsStuckInBlock a s v
push_stuck a b c d s t k l m v limit first second third gift pushes sends none some =
    let k0 : k ≡ 0 = omega arith in
    let l0 : l ≡ 0 = omega arith in
    let m0 : m ≡ 0 = omega arith in
    let b_is = ((first s).still k0).0 in
    let c_is = ((second s).still l0).0 ∙ b_is in
    record {
      pushes = λ j. subst (λ (x : CellsView). ¬ IsStepEnabled x (Push v j)) b_is (pushes l0 (omega arith) j);
      gift = gift k0 some;
      sends = λ j. subst (λ (x : CellsView). ¬ IsSure x s (Send v j)) c_is (sends m0 (omega arith) j);
    }

-- the two parts of a visit
pub visit_idle : (a b c : CellsView) (s t : WaysView) (m n v limit : ℕ) → DoesEvents a s m b t → (m ≡ 0 → 0 < limit → IsStuckInBlock a s v)
    → (n ≡ 0 → 0 < limit - m → ¬ IsStepEnabled b (Relabel v)) → m + n ≡ 0 → 0 < limit → IsIdle a s v
visit_idle a b c s t m n v limit first stuck rise none some =
    let m0 : m ≡ 0 = omega arith in
    let n0 : n ≡ 0 = omega arith in
    let held = stuck m0 some in
    record {
      pushes = held.pushes;
      gift = held.gift;
      rise = subst (λ (x : CellsView). ¬ IsStepEnabled x (Relabel v)) (first.still m0).0 (rise n0 (omega arith));
      sends = held.sends;
    }

pub idle_from_look : (b : CellsView) (s t : WaysView) (c : ℕ) → IsLook s t → IsIdleFrom b t c → IsIdleFrom b s c
idle_from_look b s t c look idle = record {
  accepts = λ m on. idle.accepts m (on.0, look.front _ _ on.1, look.room _ on.2);
  refuses = λ m on. idle.refuses m (on.0, look.front _ _ on.1, look.room _ on.2);
  settles = λ m on. idle.settles m (on.0, look.front _ _ on.1);
}

some_none : (m : Letter) → ¬ (◌≡◌ {A = Option Letter} None (Some m))
some_none m e = cc

pub idle_from_none : (b : CellsView) (s t : WaysView) (c : ℕ) → IsLook s t → t.front c ≡ None → IsIdleFrom b s c
idle_from_none b s t c look none = record {
  accepts = λ m on. some_none m (sym none ∙ look.front _ _ on.1);
  refuses = λ m on. some_none m (sym none ∙ look.front _ _ on.1);
  settles = λ m on. some_none m (sym none ∙ look.front _ _ on.1);
}
