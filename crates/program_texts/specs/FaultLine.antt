-- The line that says why a run was refused.
use Rattle.std.specs.Prelude.{ℕ, Bool, true, false, List, [], ◌++◌, Option, Some, None, codes}
use Rattle.std.specs.Prelude.{decimal}
use Rattle.regular.specs.declared.fixed.Fixed.{Fixed}
use Rattle.problem_files.specs.EnergyFieldName.{field_name}
use Rattle.problem_files.specs.LabelFieldNames.{field_name as label_field_name}
use Rattle.pgm_image.specs.declared.error.PgmError.{PgmError}
use Rattle.pgm_image.specs.declared.error.PgmError.TheVariants as image
use Rattle.problem_files.specs.declared.energy_fault.EnergyFault.{EnergyFault}
use Rattle.problem_files.specs.declared.energy_fault.EnergyFault.TheVariants as energy
use Rattle.problem_files.specs.declared.label_fault.LabelFault.{LabelFault}
use Rattle.problem_files.specs.declared.label_fault.LabelFault.TheVariants as label
use Rattle.problem_files.specs.declared.label_fault.LabelKey.{LabelKey}
use Rattle.problem_files.specs.declared.label_fault.LabelKey.TheVariants.{LabelCosts}
use Rattle.command_line.specs.declared.task.OptionName.{OptionName}
use Rattle.command_line.specs.declared.task.OptionName.TheVariants as option
use Rattle.program_texts.specs.declared.fault.Fault.{Fault}
use Rattle.program_texts.specs.declared.fault.Fault.TheVariants.{OutOfMemory, Image, Write}
use Rattle.program_texts.specs.declared.fault.Fault.TheVariants.{EnergyFile}
use Rattle.program_texts.specs.declared.fault.Fault.TheVariants.{LabelFile, TermNotRegular, Workers}
use Rattle.program_texts.specs.declared.fault.Fault.TheVariants.{BadOptions, PairNotRegular}
use Rattle.program_texts.specs.declared.fault.Fault.TheVariants.{SizesDiffer}
use Rattle.program_texts.specs.declared.fault.Fault.TheVariants.{BadSeed, LabelCostInSwap}
use Rattle.program_texts.specs.declared.fault.Fault.TheVariants.{BadOption}
use Rattle.program_texts.specs.declared.fault.Fault.TheVariants.{TooManyLevels, ReadFailed}
use Rattle.program_texts.specs.declared.fault.Fault.TheVariants.{InputTooLong}

-- a yes-no value as a digit
abbrev pub bit_text : Bool → List ℕ
bit_text false = codes "0"
bit_text true = codes "1"

-- which projection of a term failed, where it was one of a term of three
abbrev pub fixed_words : Option Fixed → List ℕ
fixed_words None = []
fixed_words (Some fixed) =
    codes " fixed " ++ decimal fixed.position ++ codes " at " ++ bit_text fixed.value

-- a cost out of its range: a label goes by its number, another cost by its place in the list of its
-- field
abbrev pub cost_words : LabelKey → ℕ → List ℕ
cost_words LabelCosts label = codes "label " ++ decimal label
cost_words key place = label_field_name key ++ codes " " ++ decimal place

-- the second label of a move, where it has one
abbrev pub beta_words : Option ℕ → List ℕ
beta_words None = []
beta_words (Some beta) = codes " beta " ++ decimal beta

-- a pair that is not regular in a move of one label or of two
abbrev pub move_words : ℕ → ℕ → Option ℕ → List ℕ
move_words pair alpha beta =
    codes "24 pair " ++ decimal pair ++ codes " alpha " ++ decimal alpha ++ beta_words beta

-- the option whose value is no name that it takes
abbrev pub option_words : OptionName → List ℕ
option_words option.Smooth = codes "29 smooth"
option_words option.Neighbours = codes "29 neighbours"
option_words option.Moves = codes "29 moves"

-- why no image stands where one is to begin
abbrev pub image_words : PgmError → List ℕ
image_words image.OutOfMemory = codes "0"
image_words image.NotPgm = codes "1"
image_words (image.BadHeader at) = codes "2 at " ++ decimal at
image_words image.ZeroSize = codes "3"
image_words image.TooLarge = codes "4"
image_words image.BadMaxval = codes "5"
image_words image.Truncated = codes "6"
image_words (image.SampleAboveMax index) = codes "7 sample " ++ decimal index
image_words (image.BadSample at) = codes "8 at " ++ decimal at

-- why a file names no energy
abbrev pub energy_file_words : EnergyFault → List ℕ
energy_file_words energy.OutOfMemory = codes "0"
energy_file_words (energy.NoSuchVariable term) = codes "16 term " ++ decimal term
energy_file_words (energy.SameVariable term) = codes "17 term " ++ decimal term
energy_file_words (energy.ValueRange term) = codes "18 term " ++ decimal term
energy_file_words energy.ConstantRange = codes "18 constant"
energy_file_words energy.TooManyTerms = codes "19"
energy_file_words energy.BadToml = codes "28"
energy_file_words (energy.BadField key) = codes "29 " ++ field_name key
energy_file_words (energy.BadElement key place) =
    codes "29 " ++ field_name key ++ codes " " ++ decimal place

-- why a file names no problem of labels
abbrev pub label_file_words : LabelFault → List ℕ
label_file_words label.OutOfMemory = codes "0"
label_file_words (label.NoSuchSite pair) = codes "10 pair " ++ decimal pair
label_file_words (label.NoSuchLabel site) = codes "11 site " ++ decimal site
label_file_words (label.SamePair pair) = codes "12 pair " ++ decimal pair
label_file_words label.TooManyPairs = codes "13"
label_file_words (label.WeightRange pair) = codes "14 pair " ++ decimal pair
label_file_words (label.CostRange key place) = codes "15 " ++ cost_words key place
label_file_words label.BadToml = codes "28"
label_file_words (label.BadField key) = codes "29 " ++ label_field_name key
label_file_words (label.BadElement key place) =
    codes "29 " ++ label_field_name key ++ codes " " ++ decimal place

-- what stands between `refused ` and the end of the line
abbrev pub fault_words : Fault → List ℕ
fault_words OutOfMemory = codes "0"
fault_words (Image reason) = image_words reason
fault_words (Write failed) = codes "9 after " ++ decimal failed.count
fault_words (LabelFile reason) = label_file_words reason
fault_words (EnergyFile reason) = energy_file_words reason
fault_words (TermNotRegular failing) =
    codes "20 term " ++ decimal failing.term ++ fixed_words failing.fixed
fault_words Workers = codes "22"
fault_words BadOptions = codes "23"
fault_words (PairNotRegular pair alpha beta) = move_words pair alpha beta
fault_words SizesDiffer = codes "25"
fault_words (BadSeed index) = codes "26 sample " ++ decimal index
fault_words LabelCostInSwap = codes "27"
fault_words (BadOption option) = option_words option
fault_words TooManyLevels = codes "30"
fault_words ReadFailed = codes "31"
fault_words InputTooLong = codes "32"

abbrev pub fault_line : Fault → List ℕ
fault_line fault = codes "refused " ++ fault_words fault ++ codes "\n"
