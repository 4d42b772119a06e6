-- What the words of a command line ask for.
use Rattle.std.specs.Prelude.{◌≡◌, ◌≢◌, ◌⊎◌, ◌<◌, ⊤, [], List, length, IfSome, IsSomeAnd, codes}
use Rattle.std.specs.Prelude.{string_bytes}
use Rattle.clap.specs.Words.{IsAmong, Row, Text, fault_of, kind_of, subcommand_of}
use Rattle.clap.specs.declared.error.Error.{Error}
use Rattle.clap.specs.declared.error.ErrorKind.{ErrorKind}
use Rattle.clap.specs.declared.error.ErrorKind.TheVariants as kind
use Rattle.run_options.specs.Ranges.{AreRestoreOptions, AreSegmentOptions, AreStereoOptions}
use Rattle.command_line.specs.App.{gco_app}
use Rattle.command_line.specs.Options.{HasFlag, HasWorkers, IsFirstBad, IsOnlyBad, IsRestore}
use Rattle.command_line.specs.Options.{IsSegment, IsStereo}
use Rattle.command_line.specs.declared.task.NoTask.{NoTask}
use Rattle.command_line.specs.declared.task.NoTask.TheVariants.{OutOfMemory, Help, Refused}
use Rattle.command_line.specs.declared.task.NoTask.TheVariants.{BadOption}
use Rattle.command_line.specs.declared.task.OptionName.{OptionName}
use Rattle.worker_options.specs.Ranges.{AreInRange}
use Rattle.command_line.specs.declared.task.Request.{Request}
use Rattle.command_line.specs.declared.task.Task.{Task}
use Rattle.command_line.specs.declared.task.Task.TheVariants.{Energy, Label, Picture}
use Rattle.command_line.specs.declared.task.PictureOptions.{PictureOptions}
use Rattle.command_line.specs.declared.task.PictureOptions.TheVariants.{Restore, Stereo, Segment}
use Rattle.command_line.specs.declared.values.Unmet.{Unmet}
use Rattle.command_line.specs.declared.values.Unmet.TheVariants as unmet

-- the words are a command line, by the rules of clap
abbrev pub AreWordsAccepted : List Text → Type 0
AreWordsAccepted words = fault_of gco_app words ≡ []

-- the image command of a subcommand and its options, by its name and its matches
abbrev pub IsPictureOf : Text → List Row → PictureOptions → Type 0
IsPictureOf name rows (Restore o) = (name ≡ codes "restore") × IsRestore rows o
IsPictureOf name rows (Stereo o) = (name ≡ codes "stereo") × IsStereo rows o
IsPictureOf name rows (Segment o) = (name ≡ codes "segment") × IsSegment rows o

-- the task of a subcommand
abbrev pub IsTaskOf : Text → List Row → Task → Type 0
IsTaskOf name rows Energy = name ≡ codes "energy"
IsTaskOf name rows (Label bound) = (name ≡ codes "label") × HasFlag rows (codes "bound") bound
IsTaskOf name rows (Picture o) = IsPictureOf name rows o

-- what a subcommand asks for: its task, and the workers that are to do it
abbrev pub IsRequestOf : Text → List Row → Request → Type 0
IsRequestOf name rows request = IsTaskOf name rows request.task × HasWorkers rows request.workers

-- this option of a subcommand is the first whose value is no name that it takes
abbrev pub IsBadOptionOf : Text → List Row → OptionName → Type 0
IsBadOptionOf name rows option =
    (((name ≡ codes "restore") ⊎ (name ≡ codes "stereo")) × IsFirstBad rows option)
    ⊎ ((name ≡ codes "segment") × IsOnlyBad rows option)

-- the words are a command line that names a subcommand, and it asks for this
abbrev pub Asks : List Text → Request → Type 0
Asks words request = AreWordsAccepted words
    × IsSomeAnd (subcommand_of gco_app words) (λ p. IsRequestOf p.0 p.1 request)

-- the words are a command line, and this option of its subcommand is the first bad one
abbrev pub NamesBadOption : List Text → OptionName → Type 0
NamesBadOption words option =
    AreWordsAccepted words
    × IsSomeAnd (subcommand_of gco_app words) (λ p. IsBadOptionOf p.0 p.1 option)

-- the options of an image command are in their ranges
abbrev pub FitsPicture : PictureOptions → Type 0
FitsPicture (Restore o) = AreRestoreOptions o
FitsPicture (Stereo o) = AreStereoOptions o
FitsPicture (Segment o) = AreSegmentOptions o

-- and those of the task
abbrev pub FitsTask : Task → Type 0
FitsTask Energy = ⊤
FitsTask (Label bound) = ⊤
FitsTask (Picture o) = FitsPicture o

-- and those of the workers
abbrev pub FitsRequest : Request → Type 0
FitsRequest request = FitsTask request.task × IfSome request.workers AreInRange

-- what clap tells is help that was asked for
abbrev pub IsHelpKind : ErrorKind → Type 0
IsHelpKind k = (k ≡ kind.DisplayHelp) ⊎ (k ≡ kind.DisplayVersion)

-- the words ask for help, by an option or by the word `help`
abbrev pub AsksForHelp : List Text → Type 0
AsksForHelp words = (k : ErrorKind) × IsHelpKind k × IsAmong k (fault_of gco_app words)

-- The words are no command line, for a cause that is not help; or they are one that has no task and
-- no bad option. Of the word `help` both are said by clap: help, and that it is no subcommand.
abbrev pub AreRefused : List Text → Type 0
AreRefused words = ((k : ErrorKind) × (¬ IsHelpKind k) × IsAmong k (fault_of gco_app words))
    ⊎ (AreWordsAccepted words × ((request : Request) → ¬ Asks words request)
    × ((option : OptionName) → ¬ NamesBadOption words option))

-- why these words give no task: memory may always be refused
abbrev pub IsNoTaskFor : List Text → NoTask → Type 0
IsNoTaskFor words OutOfMemory = ⊤
IsNoTaskFor words (Help text) = AsksForHelp words
IsNoTaskFor words (Refused text) = AreRefused words
IsNoTaskFor words (BadOption option) = NamesBadOption words option

-- what is told of the words is not empty
abbrev pub HasText : NoTask → Type 0
HasText OutOfMemory = ⊤
HasText (Help text) = 0 < length (string_bytes text)
HasText (Refused text) = 0 < length (string_bytes text)
HasText (BadOption option) = ⊤

-- what becomes of an error of the parse
abbrev pub IsNoTaskOf : Error → NoTask → Type 0
IsNoTaskOf e OutOfMemory = ⊤
IsNoTaskOf e (Help text) = IsHelpKind (kind_of e)
IsNoTaskOf e (Refused text) = (kind_of e ≢ kind.OutOfMemory) × (¬ IsHelpKind (kind_of e))
IsNoTaskOf e (BadOption option) = ⊥

-- why a subcommand does not give what it is asked for: a bad option, or none such and nothing to
-- give
abbrev pub HasNo : {X : Type 0} → (X → Type 0) → (OptionName → Type 0) → Unmet → Type 0
HasNo {X} gives bad (unmet.BadOption option) = bad option
HasNo {X} gives bad unmet.NoTask = ((x : X) → ¬ gives x) × ((option : OptionName) → ¬ bad option)
