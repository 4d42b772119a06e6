pub use Rattle.pseudo_bool.specs.Energies
pub use Rattle.compile_cut.specs.Shown
