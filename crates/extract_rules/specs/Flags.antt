-- For `choose`, `named_by_kept` and `all_fates`: what is told of each entry, by kind and in the order of the module.
use Rattle.std.specs.Prelude.{◌≡◌, length, map}
use Rattle.module_arena.specs.Lists.{Lists}
use Rattle.module_arena.specs.Module.{Module}
use Rattle.extract_rules.specs.declared.flags.EntryFlags.{EntryFlags}
use Rattle.extract_rules.specs.declared.selection.Selection.{Selection}
use Rattle.extract_rules.specs.Selected.{is_among, keeps_variable, keeps_function, keeps_alias}
use Rattle.extract_rules.specs.Extracted.{kept_names}

-- the entries that are kept
pub record AreKept (m : Module) (s : Selection) (flags : EntryFlags) : Type 0 where
  pub variables : flags.variables ≡ map (keeps_variable m s) m.variables
  pub functions : flags.functions ≡ map (keeps_function m s) m.functions
  pub aliases : flags.aliases ≡ map (keeps_alias m s) m.aliases

-- the entries whose names are in a kept definition
pub record AreNamed (m : Module) (s : Selection) (flags : EntryFlags) : Type 0 where
  pub variables : flags.variables ≡ map (λ v. is_among (kept_names m s) v.name) m.variables
  pub functions : flags.functions ≡ map (λ f. is_among (kept_names m s) f.name) m.functions
  pub aliases : flags.aliases ≡ map (λ a. is_among (kept_names m s) a.name) m.aliases

-- there is a flag for each entry that may have an initialiser or a body
pub record HaveSizes (a : Lists) (flags : EntryFlags) : Type 0 where
  pub variables : length flags.variables ≡ length a.variables
  pub functions : length flags.functions ≡ length a.functions
