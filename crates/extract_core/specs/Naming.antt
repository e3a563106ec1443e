-- Says how the code of `extract` reads: that what kept definitions name is there, once all entries are declared.
use Rattle.std.specs.Prelude.{◌≡◌, ℕ, slice_get, Some, IsSome}
use Rattle.module_arena.specs.declared.entry.Alias as the_alias
use Rattle.module_arena.specs.declared.entry.GlobalId.{GlobalId}
use Rattle.module_arena.specs.Lists.{Lists}
use Rattle.module_arena.specs.Module.{Variable, Function}
use Rattle.module_arena.specs.View.{module_of}
use Rattle.entry_copy.specs.Tables.{Tables, new_global}
use Rattle.extract_core.specs.declared.fates.fates.Fate.{Fate}
use Rattle.extract_core.specs.declared.fates.fates.Fate.TheVariants.{Kept}
use Rattle.extract_core.specs.declared.fates.fates.Fates.{Fates}
use Rattle.extract_core.specs.Defining.Naming.{NamesOfVariable, NamesOfFunction}

-- what the alias is of has a new id, where the alias is kept
abbrev pub NamesOfAlias : Tables → Fate → the_alias.Alias → Type 0
NamesOfAlias t fate x = fate ≡ Kept → (g : GlobalId) × (x.target ≡ Some g) × IsSome (new_global t g)

-- What is kept names entries that have new ids.
pub record NamesAreThere (a : Lists) (fates : Fates) (t : Tables) : Type 0 where
  pub variables : (id : ℕ) (v : Variable) (fate : Fate)
      → slice_get (module_of a).variables id ≡ Some v
      → slice_get fates.variables id ≡ Some fate
      → NamesOfVariable a t fate v
  pub functions : (id : ℕ) (f : Function) (fate : Fate)
      → slice_get (module_of a).functions id ≡ Some f
      → slice_get fates.functions id ≡ Some fate
      → NamesOfFunction a t fate f
  pub targets : (id : ℕ) (x : the_alias.Alias) (fate : Fate) → slice_get a.aliases id ≡ Some x → slice_get fates.aliases id ≡ Some fate → NamesOfAlias t fate x
