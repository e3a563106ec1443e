-- For `one_module_stays`: the entries that linking a module alone leaves as they are.
use Rattle.std.specs.Prelude.{◌≡◌, ◌≢◌, true, false, Some}
use Rattle.module_arena.specs.Module.{ZeroInitializer}
use Rattle.linkage_rules.specs.Globals.{Global, linkage_of, is_written, initialiser_of}
use Rattle.linkage_rules.specs.Linkages.{is_available_externally, is_appending}

-- no available_externally definition, and no appending `zeroinitializer`
pub record Stays (g : Global) : Type 0 where
  pub written : is_written g ≡ true → is_available_externally (linkage_of g) ≡ false
  pub list : is_appending (linkage_of g) ≡ true → initialiser_of g ≢ Some ZeroInitializer
