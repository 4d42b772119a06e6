-- The command is one whose matches and faults clap gives exactly.
use Rattle.std.proofs.Common.{◌≡◌, true, refl, inl, inr, List, subst}
use Rattle.clap.specs.Words.{App, HasKind, Text, fault_of, is_simple, is_simple_and_free, kind_of}
use Rattle.clap.specs.declared.error.Error.{Error}
use Rattle.clap.specs.declared.error.ErrorKind.{ErrorKind}
use Rattle.clap.specs.declared.error.ErrorKind.TheVariants as kind
use Rattle.clap.proofs.OnLiterals.{clap_on_literals}
use Rattle.command_line.specs.App.{energy_app, gco_app, label_app, restore_app, segment_app, stereo_app}
use Rattle.command_line.specs.Task.{IsHelpKind, IsNoTaskFor, IsNoTaskOf}
use Rattle.command_line.specs.declared.task.NoTask.{NoTask}
use Rattle.command_line.specs.declared.task.NoTask.TheVariants.{OutOfMemory, Help, Refused, BadOption}

pub gco_is_simple : is_simple gco_app ≡ true
unfolding clap_on_literals gco_app energy_app label_app restore_app stereo_app segment_app
gco_is_simple = refl

pub gco_is_free : is_simple_and_free gco_app ≡ true
unfolding clap_on_literals gco_app energy_app label_app restore_app stereo_app segment_app
gco_is_free = refl

no_memory : (k : ErrorKind) → IsHelpKind k → k ≡ kind.OutOfMemory → ⊥
no_memory k help is = elim help [ inl e ↦ (cc) | inr e ↦ (cc) ]

-- an error that is not of memory is one of those that the words have
pub refused_by : (a : App) → a ≡ gco_app → (words : List Text) (e : Error) (n : NoTask) → IsNoTaskOf e n → HasKind (fault_of a words) e
    → IsNoTaskFor words n
refused_by a same words e OutOfMemory is has = tt
refused_by a same words e (Help text) is has =
    let kinds = subst (λ (b : App). HasKind (fault_of b words) e) same has in
    (kind_of e, is, elim kinds [ inl memory ↦ absurd (no_memory (kind_of e) is memory) | inr among ↦ among ])
refused_by a same words e (Refused text) is has =
    let kinds = subst (λ (b : App). HasKind (fault_of b words) e) same has in
    inl (kind_of e, is.1, elim kinds [ inl memory ↦ absurd (is.0 memory) | inr among ↦ among ])
refused_by a same words e (BadOption option) is has = absurd is
