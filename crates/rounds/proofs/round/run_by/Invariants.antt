use Rattle.rounds.proofs.round.run_by.Given as goal

abbrev pub ghosts-round_with-B-Ledger : goal.ghosts-round_with-B-Ledger
ghosts-round_with-B-Ledger g a = record { name = a.blanks.budget.name; parts = a.blanks.budget.parts }

abbrev pub ghosts-round_with-D-Ledger : goal.ghosts-round_with-D-Ledger
ghosts-round_with-D-Ledger g a = record { name = a.blanks.drawn.name; parts = a.blanks.drawn.parts }
