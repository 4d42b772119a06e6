-- What the libraries of moves and of pictures refuse, as the program tells it: memory as memory,
-- whoever asked for it.
use Rattle.std.specs.Prelude.{◌≡◌}
use Rattle.one_move.specs.declared.error.MoveError.{MoveError}
use Rattle.one_move.specs.declared.error.MoveError.TheVariants as move
use Rattle.vision.specs.declared.error.VisionError.{VisionError}
use Rattle.vision.specs.declared.error.VisionError.TheVariants as vision
use Rattle.program_texts.specs.declared.fault.Fault.{Fault}
use Rattle.program_texts.specs.declared.fault.Fault.TheVariants.{OutOfMemory, Image, Write, Workers}
use Rattle.program_texts.specs.declared.fault.Fault.TheVariants.{BadOptions, PairNotRegular}
use Rattle.program_texts.specs.declared.fault.Fault.TheVariants.{SizesDiffer, BadSeed}
use Rattle.program_texts.specs.declared.fault.Fault.TheVariants.{LabelCostInSwap, TooManyLevels}

-- the fault tells why a run was refused: never for a label, nor for want of a bound
abbrev pub TellsMove : MoveError → Fault → Type 0
TellsMove move.OutOfMemory fault = fault ≡ OutOfMemory
TellsMove move.LabelCostInSwap fault = fault ≡ LabelCostInSwap
TellsMove (move.PairNotRegular pair alpha beta) fault = fault ≡ PairNotRegular pair alpha beta
TellsMove move.Workers fault = fault ≡ Workers
TellsMove move.BadOptions fault = fault ≡ BadOptions
TellsMove move.NoSuchLabel fault = ⊥
TellsMove move.NoBound fault = ⊥

-- why an image command was refused
abbrev pub picture_fault : VisionError → Fault
picture_fault vision.OutOfMemory = OutOfMemory
picture_fault (vision.Image reason) = Image reason
picture_fault vision.SizesDiffer = SizesDiffer
picture_fault (vision.BadSeed index) = BadSeed index
picture_fault vision.TooManyLevels = TooManyLevels
picture_fault (vision.PairNotRegular pair alpha beta) = PairNotRegular pair alpha beta
picture_fault vision.LabelCostInSwap = LabelCostInSwap
picture_fault vision.Workers = Workers
picture_fault vision.BadOptions = BadOptions
picture_fault (vision.Write failed) = Write failed
