pub use Rattle.pseudo_bool.specs.Energies
pub use Rattle.pseudo_bool.specs.Hidden
pub use Rattle.pseudo_bool.specs.Limits as EnergyLimits
pub use Rattle.pseudo_bool.specs.Refusals as EnergyRefusals
pub use Rattle.pseudo_bool.specs.Rows as EnergyRows
pub use Rattle.regular.specs.Regularity
pub use Rattle.compile_cut.specs.Shown
pub use Rattle.flow_network.specs.Answer
pub use Rattle.flow_network.specs.Cut
pub use Rattle.flow_network.specs.Limits as NetLimits
pub use Rattle.flow_network.specs.Preflow
pub use Rattle.label_field.specs.Grids
pub use Rattle.label_field.specs.LabelFields
pub use Rattle.label_field.specs.Limits as LabelLimits
pub use Rattle.label_field.specs.PairLists
pub use Rattle.label_energies.specs.Chains
pub use Rattle.label_energies.specs.Energies as Labellings
pub use Rattle.label_energies.specs.Laws as LabellingLaws
pub use Rattle.label_energies.specs.Moves
pub use Rattle.cost_store.specs.LabelCosts
pub use Rattle.cost_store.specs.Limits as CostLimits
pub use Rattle.cost_store.specs.Metrics
pub use Rattle.cost_store.specs.Posed
pub use Rattle.cost_store.specs.Promises
pub use Rattle.one_move.specs.Moved
pub use Rattle.one_move.specs.Refusals as MoveRefusals
pub use Rattle.moves.specs.Bookmarks
pub use Rattle.moves.specs.Bounds
pub use Rattle.moves.specs.Courses
pub use Rattle.moves.specs.Instances
pub use Rattle.moves.specs.Laws
pub use Rattle.moves.specs.Prices
pub use Rattle.moves.specs.Problems
pub use Rattle.moves.specs.Refusals
pub use Rattle.moves.specs.Runs
pub use Rattle.moves.specs.UnderWay
pub use Rattle.worker_options.specs.Limits as WorkerLimits
pub use Rattle.worker_options.specs.Ranges as WorkerRanges
pub use Rattle.rounds.specs.Refusals as RoundRefusals
pub use Rattle.rounds.specs.SolveErrors
pub use Rattle.byte_streams.specs.Streams
pub use Rattle.byte_streams.specs.Sink
pub use Rattle.pgm_image.specs.Front
pub use Rattle.pgm_image.specs.Grammar
pub use Rattle.pgm_image.specs.Picture
pub use Rattle.pgm_image.specs.Raster
pub use Rattle.pgm_image.specs.Reading
pub use Rattle.pgm_image.specs.Words
pub use Rattle.pgm_image.specs.Written
pub use Rattle.run_options.specs.Limits as RunLimits
pub use Rattle.run_options.specs.Names as RunNames
pub use Rattle.run_options.specs.Ranges as RunRanges
pub use Rattle.run_options.specs.Shapes
pub use Rattle.vision.specs.Faults as PictureFaults
pub use Rattle.vision.specs.Inputs as PictureInputs
pub use Rattle.vision.specs.Jobs as PictureJobs
pub use Rattle.vision.specs.Problems as PictureProblems
