-- Why a subcommand does not give what it is asked for.
use Rattle.std.proofs.Common.{◌≡◌, List, Option, Some, Result, IfErr, IsSomeAnd, subst, sym}
use Rattle.clap.specs.Words.{Row, Text}
use Rattle.run_options.specs.declared.options.RestoreOptions.{RestoreOptions}
use Rattle.run_options.specs.declared.options.StereoOptions.{StereoOptions}
use Rattle.command_line.specs.Options.{IsFirstBad, IsRestore, IsShared, IsStereo, restore_shared, stereo_shared}
use Rattle.command_line.specs.Task.{HasNo, IsBadOptionOf, IsRequestOf, IsTaskOf}
use Rattle.command_line.specs.declared.task.OptionName.{OptionName}
use Rattle.command_line.specs.declared.task.Request.{Request}
use Rattle.command_line.specs.declared.values.Unmet.{Unmet}
use Rattle.command_line.specs.declared.values.Unmet.TheVariants.{BadOption, NoTask}

-- where there are none of the options that `restore` and `stereo` share there are none of `restore`
pub no_restore : (rows : List Row) (u : Unmet) → HasNo (IsShared rows) (IsFirstBad rows) u → HasNo (IsRestore rows) (IsFirstBad rows) u
no_restore rows (BadOption option) h = h
no_restore rows NoTask h = (λ (o : RestoreOptions) is. h.0 (restore_shared o) is.shared, h.1)

-- and none of `stereo`
pub no_stereo : (rows : List Row) (u : Unmet) → HasNo (IsShared rows) (IsFirstBad rows) u → HasNo (IsStereo rows) (IsFirstBad rows) u
no_stereo rows (BadOption option) h = h
no_stereo rows NoTask h = (λ (o : StereoOptions) is. h.0 (stereo_shared o) is.shared, h.1)

-- where there is no task there is nothing that is asked for
pub no_request : (name : Text) (rows : List Row) (u : Unmet) → HasNo (IsTaskOf name rows) (IsBadOptionOf name rows) u
    → HasNo (IsRequestOf name rows) (IsBadOptionOf name rows) u
no_request name rows (BadOption option) h = h
no_request name rows NoTask h = (λ (r : Request) is. h.0 r.task is.0, h.1)

-- the words have what their subcommand has
pub not_met : (o : Option (Text × List Row)) (name : Text) (rows : List Row) (r : Result Request Unmet) → o ≡ Some (name, rows)
    → IfErr r (HasNo (IsRequestOf name rows) (IsBadOptionOf name rows))
    → IfErr r (HasNo (λ (request : Request). IsSomeAnd o (λ p. IsRequestOf p.0 p.1 request)) (λ (option : OptionName). IsSomeAnd o (λ p. IsBadOptionOf p.0 p.1 option)))
not_met o name rows r is h =
    let P : Option (Text × List Row) → Type 0 =
    λ q. IfErr r (HasNo (λ (request : Request). IsSomeAnd q (λ p. IsRequestOf p.0 p.1 request)) (λ (option : OptionName). IsSomeAnd q (λ p. IsBadOptionOf p.0 p.1 option))) in
    subst P (sym is) h
