use Rattle.std.proofs.Common.{◌≡◌, ◌≢◌, ℕ, ◌+◌, ◌<◌, ◌≤◌, zero, suc, Bool, true, false, List, [], ◌∷◌, ◌++◌, length, refl, sym, ap, ◌∙◌, inl, inr, subst, arith}
use Rattle.std.specs.List.{All}
use Rattle.std.proofs.lemmas.Bool.{cases_lt}
use Rattle.std.proofs.lemmas.List.Elements.{All-nil, All-cons, All-get_or}
use Rattle.std.proofs.lemmas.List.{length-map}
use Rattle.std.proofs.lemmas.List.FromFn.{get_or-map-range_with_len, length-range_with_len}
use Rattle.label_energies.specs.declared.change.Move.{Move}
use Rattle.label_energies.specs.declared.change.Move.TheVariants.{Expand}
use Rattle.label_energies.specs.Energies.{Instance, energy, labelling}
use Rattle.label_energies.specs.Moves.{IsAllowed, IsBest, IsReached}
use Rattle.label_energies.specs.Chains.{expansions, MovesLead, IsChain, IsBeginning, Cycles}
use Rattle.label_energies.proofs.Best.{best-le, best_is_one}

pub leads-append : (m : Instance) (before after : List Move) (f g h : List ℕ) → MovesLead m before f g → MovesLead m after g h → MovesLead m (before ++ after) f h
leads-append m [] after f g h first then = let P : List ℕ → Type 0 = λ x. MovesLead m after x h in subst P first then
leads-append m (move ∷ before) after f g h first then = (first.0, first.1, first.2, leads-append m before after first.1 g h first.3 then)

-- one more move
pub leads_more : (m : Instance) (before : List Move) (move : Move) (f g h : List ℕ) → MovesLead m before f g → IsAllowed m move (labelling g) → IsBest m move g h
    → MovesLead m (before ++ move ∷ []) f h
leads_more m before move f g h first allowed best = leads-append m before (move ∷ []) f g h first (allowed, h, best, refl)

-- the energy never rises
pub leads-le : (m : Instance) (moves : List Move) (f g : List ℕ) → MovesLead m moves f g → energy m (labelling g) ≤ energy m (labelling f)
leads-le m [] f g leads = let same = ap (λ (x : List ℕ). energy m (labelling x)) leads in omega (arith, same)
leads-le m (move ∷ moves) f g leads = omega (arith, best-le m move f leads.1 leads.2, leads-le m moves leads.1 g leads.3)

pub chain-le : (m : Instance) (moves : List Move) (allowed : ℕ) (f g : List ℕ) (done : ℕ) (settled : Bool)
    → IsChain m moves allowed f g done settled → energy m (labelling g) ≤ energy m (labelling f)
chain-le m moves zero f g done settled chain = let same = ap (λ (x : List ℕ). energy m (labelling x)) chain.0 in omega (arith, same)
chain-le m moves (suc allowed) f g done settled chain = elim (chain.2) [
  | inl last ↦ (let same = ap (λ (x : List ℕ). energy m (labelling x)) last.1 in omega (arith, same))
  | inr more ↦ (let rest = chain-le m moves allowed chain.0 g more.1.0 settled more.1.2 in let first = leads-le m moves f chain.0 chain.1 in omega (arith, rest, first))
]

-- also in a run that was refused
pub beginning-le : (m : Instance) (moves : List Move) (allowed : ℕ) (f g : List ℕ) (next : Move)
    → IsBeginning m moves allowed f g next → energy m (labelling g) ≤ energy m (labelling f)
beginning-le m moves zero f g next begins = absurd begins
beginning-le m moves (suc allowed) f g next (inl here) = leads-le m here.0 f g here.3
beginning-le m moves (suc allowed) f g next (inr more) =
    omega (arith, leads-le m moves f more.0 more.1, beginning-le m moves allowed more.0 g next more.3)

-- moves that do not lower the energy: each is best where it stands, and nothing changes
pub leads_nowhere : (m : Instance) (moves : List Move) (f g : List ℕ) → MovesLead m moves f g → energy m (labelling f) ≤ energy m (labelling g)
    → All (λ move. IsBest m move f f) moves
leads_nowhere m [] f g leads not_lower = All-nil (λ move. IsBest m move f f)
leads_nowhere m (move ∷ moves) f g leads not_lower =
    let rest = leads-le m moves leads.1 g leads.3 in
    let same = leads.2.kept (omega (arith, rest, not_lower)) in
    let best : IsBest m move f f = let P : List ℕ → Type 0 = λ x. IsBest m move f x in subst P same leads.2 in
    let onward : MovesLead m moves f g = let P : List ℕ → Type 0 = λ x. MovesLead m moves x g in subst P same leads.3 in
    All-cons (λ mv. IsBest m mv f f) move moves best (leads_nowhere m moves f g onward not_lower)

-- moves that do not lower the energy end where they began
pub leads_kept : (m : Instance) (moves : List Move) (f g : List ℕ) → MovesLead m moves f g → energy m (labelling f) ≤ energy m (labelling g) → g ≡ f
leads_kept m [] f g leads not_lower = leads
leads_kept m (move ∷ moves) f g leads not_lower =
    let rest = leads-le m moves leads.1 g leads.3 in
    let same = leads.2.kept (omega (arith, rest, not_lower)) in
    let P : List ℕ → Type 0 = λ x. MovesLead m moves x g in
    leads_kept m moves f g (subst P same leads.3) not_lower

-- moves that lead back to where they began: on the way nothing changed
pub leads_back : (m : Instance) (before after : List Move) (f g : List ℕ) → MovesLead m before f g → MovesLead m after g f → g ≡ f
leads_back m before after f g there back = leads_kept m before f g there (leads-le m after g f back)

-- a settled run ends where each move of a cycle is best
pub settled_best : (m : Instance) (moves : List Move) (allowed : ℕ) (f g : List ℕ) (done : ℕ)
    → IsChain m moves allowed f g done true → All (λ move. IsBest m move g g) moves
settled_best m moves zero f g done chain = absurd (cc (chain.2))
settled_best m moves (suc allowed) f g done chain = elim (chain.2) [
  | inl last ↦
      let here = leads_nowhere m moves f chain.0 chain.1 (let same = ap (λ (x : List ℕ). energy m (labelling x)) last.0 in omega (arith, same)) in
      let P : List ℕ → Type 0 = λ x. All (λ move. IsBest m move x x) moves in subst P (sym last.1) here
  | inr more ↦ settled_best m moves allowed chain.0 g more.1.0 more.1.2
]

-- a settled run of expansions: no expansion is lower
pub settled_is_local : (m : Instance) (allowed : ℕ) (f g : List ℕ) (done : ℕ) → IsChain m (expansions m.labels) allowed f g done true
    → (a : ℕ) → a < m.labels → (h : ℕ → ℕ) → IsReached (Expand a) m.sites (labelling g) h → energy m (labelling g) ≤ energy m h
settled_is_local m allowed f g done chain a l h reached =
    let all = settled_best m (expansions m.labels) allowed f g done chain in
    let here = get_or-map-range_with_len Expand 0 m.labels a a (Expand 0) l (omega arith) in
    let len : a < length (expansions m.labels) = simp (length-map, length-range_with_len) (omega arith) in
    let best = All-get_or (λ move. IsBest m move g g) (expansions m.labels) a (Expand 0) len all in
    let P : Move → Type 0 = λ move. IsBest m move g g in
    (subst P here best).lowest h reached

-- there is one chain
pub leads_are_one : (m : Instance) (moves : List Move) (f g h : List ℕ) → length f ≡ m.sites → MovesLead m moves f g → MovesLead m moves f h → g ≡ h
leads_are_one m [] f g h len first second = first ∙ sym second
leads_are_one m (move ∷ moves) f g h len first second =
    let same = best_is_one m move f second.1 first.1 len second.2 first.2 in
    let P : List ℕ → Type 0 = λ x. MovesLead m moves x h in
    leads_are_one m moves first.1 g h (omega (arith, len, first.2.sites)) first.3 (subst P same second.3)

-- one more cycle
pub cycles_more : (m : Instance) (moves : List Move) (n : ℕ) (f g h : List ℕ) → Cycles m moves n f g → MovesLead m moves g h → h ≢ g → Cycles m moves (suc n) f h
cycles_more m moves zero f g h so_far leads other =
    let P : List ℕ → Type 0 = λ x. MovesLead m moves x h × (h ≢ x) in
    let moved = subst P so_far (leads, other) in
    (h, moved.0, moved.1, refl)
cycles_more m moves (suc n) f g h so_far leads other = (so_far.0, so_far.1, so_far.2, cycles_more m moves n so_far.0 g h so_far.3 leads other)

-- a cycle that changes nothing ends the run
pub chain_settles : (m : Instance) (moves : List Move) (allowed n : ℕ) (f g : List ℕ) → n < allowed → Cycles m moves n f g → MovesLead m moves g g
    → IsChain m moves allowed f g (n + 1) true
chain_settles m moves zero n f g room so_far last = absurd (omega arith)
chain_settles m moves (suc allowed) zero f g room so_far last =
    let P : List ℕ → Type 0 = λ x. MovesLead m moves x x in
    (f, subst P so_far last, inl (refl, so_far, refl, refl))
chain_settles m moves (suc allowed) (suc n) f g room so_far last =
    (so_far.0, so_far.1, inr (so_far.2, (n + 1, omega arith, chain_settles m moves allowed n so_far.0 g (omega arith) so_far.3 last)))

-- the allowed cycles are used up
pub chain_runs_out : (m : Instance) (moves : List Move) (allowed : ℕ) (f g : List ℕ) → Cycles m moves allowed f g → IsChain m moves allowed f g allowed false
chain_runs_out m moves zero f g so_far = (so_far, refl, refl)
chain_runs_out m moves (suc allowed) f g so_far =
    (so_far.0, so_far.1, inr (so_far.2, (allowed, omega arith, chain_runs_out m moves allowed so_far.0 g so_far.3)))

-- a cycle was refused at some move
pub chain_breaks : (m : Instance) (moves : List Move) (allowed n : ℕ) (f g h : List ℕ) (before after : List Move) (next : Move) → n < allowed → Cycles m moves n f g
    → moves ≡ before ++ next ∷ after → MovesLead m before g h → IsBeginning m moves allowed f h next
chain_breaks m moves zero n f g h before after next room so_far split leads = absurd (omega arith)
chain_breaks m moves (suc allowed) zero f g h before after next room so_far split leads =
    let P : List ℕ → Type 0 = λ x. MovesLead m before x h in
    inl (before, after, split, subst P so_far leads)
chain_breaks m moves (suc allowed) (suc n) f g h before after next room so_far split leads =
    inr (so_far.0, so_far.1, so_far.2, chain_breaks m moves allowed n so_far.0 g h before after next (omega arith) so_far.3 split leads)

-- a best labelling that differs is lower
pub best-lower : (m : Instance) (move : Move) (f g : List ℕ) → IsBest m move f g → g ≢ f → energy m (labelling g) < energy m (labelling f)
best-lower m move f g best other = elim (cases_lt (energy m (labelling g)) (energy m (labelling f))) [
  | inl lower ↦ lower
  | inr not_lower ↦ absurd (other (best.kept not_lower))
]
