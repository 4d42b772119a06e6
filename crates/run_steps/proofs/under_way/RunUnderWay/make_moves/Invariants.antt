use Rattle.std.proofs.Common.{◌≡◌, ◌+◌, ℕ, List, None}
use Rattle.cost_store.specs.Posed.{AreOfOneSize, IsMeant}
use Rattle.label_energies.specs.declared.cycles.Moves.{Moves}
use Rattle.label_energies.specs.Energies.{Instance}
use Rattle.label_energies.specs.Chains.{moves_of}
use Rattle.run_steps.specs.Bookmarks.{IsRunOver, IsRunIn, LeadMoves, LeadAtMost}
use Rattle.run_steps.specs.UnderWay.{ended_of, moves_made_by}
use Rattle.run_steps.proofs.under_way.RunUnderWay.make_moves.Given as goal

abbrev pub invariant-loop-made : goal.invariant-loop-made
invariant-loop-made g l = record {
  over : IsRunOver g.F.Fn g.V.Fn l.problem l.labelling l.self;
  run : (m : Instance) → IsMeant g.F.Fn g.V.Fn l.problem m → (kind : Moves) (cycles : ℕ) (start : List ℕ)
      → IsRunIn m kind cycles start l.fn.labelling.at l.fn.self → IsRunIn m kind cycles start l.labelling.at l.self;
  made : ended_of l.self ≡ None → moves_made_by l.self ≡ moves_made_by l.fn.self + l._made;
  moved : (m : Instance) → IsMeant g.F.Fn g.V.Fn l.problem m → (kind : Moves) (cycles : ℕ) (start : List ℕ)
      → IsRunIn m kind cycles start l.fn.labelling.at l.fn.self → LeadMoves m (moves_of kind m.labels) (moves_made_by l.fn.self) start l.fn.labelling.at
      → LeadAtMost m (moves_of kind m.labels) (moves_made_by l.fn.self) l._made start l.labelling.at;
  sizes : AreOfOneSize l.fn.labelling l.labelling;
}
