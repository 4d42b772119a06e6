pub mod FormCosts
