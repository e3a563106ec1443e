-- For `Checked::seal`: when the module of an arena is well formed and valid.
use Rattle.module_arena.specs.Lists.{Lists}
use Rattle.module_arena.specs.Valid.{IsValid}
use Rattle.module_arena.specs.View.{module_of}
use Rattle.module_arena.specs.WellFormed.{IsWellFormed}

-- the module of these lists is well formed and valid
pub record IsSound (a : Lists) : Type 0 where
  pub well_formed : IsWellFormed (module_of a)
  pub valid : IsValid (module_of a)
