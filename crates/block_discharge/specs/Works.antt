-- What a part of a turn does to the block and its ways.
use Rattle.std.specs.Prelude.{◌≡◌, ℕ, ◌<◌, length}
use Rattle.block_net.specs.Views.{CellsView, border_in, count}
use Rattle.block_discharge.specs.declared.letter.Letter.{Letter}
use Rattle.block_discharge.specs.Seen.{WaysView, IsLook}
use Rattle.block_discharge.specs.Standing.{BucketedView, IsAside}
use Rattle.block_discharge.specs.Steps.{turn_view, DoesMany, IsSure, Push, Give, Relabel, Send}
use Rattle.block_discharge.specs.Steps.{Accept}
use Rattle.block_discharge.specs.Steps.{Refuse, Settle}

-- what no event changes
pub record IsAlike (a b : CellsView) : Type 0 where
  pub top : b.top ≡ a.top
  pub count : length b.excess ≡ length a.excess
  pub starts : b.starts ≡ a.starts
  pub lanes : length b.lanes ≡ length a.lanes
  pub border_starts : b.border_starts ≡ a.border_starts
  pub borders : length b.borders ≡ length a.borders
  pub tos : (j : ℕ) → (border_in b j).to ≡ (border_in a j).to

-- a list of n events leads from one block and what it saw to another; none changes nothing
pub record DoesEvents (b : CellsView) (s : WaysView) (n : ℕ) (b' : CellsView)
    (s' : WaysView) : Type 0 where
  pub run : DoesMany (turn_view b s) n (turn_view b' s')
  pub alike : IsAlike b b'
  pub still : n ≡ 0 → (b' ≡ b) × IsLook s s'

-- ---- where nothing is to be done

-- no event of node v is sure, of those that take no message
pub record IsIdle (b : CellsView) (s : WaysView) (v : ℕ) : Type 0 where
  pub pushes : (j : ℕ) → ¬ IsSure b s (Push v j)
  pub gift : ¬ IsSure b s (Give v)
  pub rise : ¬ IsSure b s (Relabel v)
  pub sends : (j : ℕ) → ¬ IsSure b s (Send v j)

-- no event of any node is sure, of those that take no message, if no node is set aside
abbrev pub AreIdle : BucketedView → WaysView → Type 0
AreIdle b s = ((v : ℕ) → v < count b.block → ¬ IsAside b v) → (v : ℕ) → IsIdle b.block s v

-- no event of node v is sure by which it passes on what it has
pub record IsStuckInBlock (b : CellsView) (s : WaysView) (v : ℕ) : Type 0 where
  pub pushes : (j : ℕ) → ¬ IsSure b s (Push v j)
  pub gift : ¬ IsSure b s (Give v)
  pub sends : (j : ℕ) → ¬ IsSure b s (Send v j)

-- no message from block c is sure to be taken
pub record IsIdleFrom (b : CellsView) (s : WaysView) (c : ℕ) : Type 0 where
  pub accepts : (l : Letter) → ¬ IsSure b s (Accept c l)
  pub refuses : (l : Letter) → ¬ IsSure b s (Refuse c l)
  pub settles : (l : Letter) → ¬ IsSure b s (Settle c l)
