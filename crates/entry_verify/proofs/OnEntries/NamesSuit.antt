-- When the name of a function suits.
use Rattle.std.proofs.Common.{◌≡◌, true, false, not, ◌||◌, Option, sym, ap, ◌∙◌}
use Rattle.std.specs.Option.{option_map_or}
use Rattle.module_arena.specs.EntryRules.{is_llvm_name, function_name_suits}
use Rattle.module_arena.specs.HostRows.{host_row, is_declared_as}
use Rattle.module_arena.specs.Module.{Bytes, Function}
use Rattle.module_arena.specs.declared.host.HostRow.{HostRow}

pub other_name : (f : Function) (n : Bytes) → n ≡ f.name → is_llvm_name n ≡ false → true ≡ function_name_suits f
other_name f n e other = sym (ap (λ b. not b || option_map_or (λ (r : HostRow). is_declared_as r f) (host_row f.name) false) (ap is_llvm_name (sym e) ∙ other))

pub name_of_row : (f : Function) (n : Bytes) (row : Option HostRow) → n ≡ f.name → is_llvm_name n ≡ true → host_row n ≡ row
    → option_map_or (λ (r : HostRow). is_declared_as r f) row false ≡ function_name_suits f
name_of_row f n row e llvm at =
    sym (λ j. not ((ap is_llvm_name (sym e) ∙ llvm) j) || option_map_or (λ (r : HostRow). is_declared_as r f) ((ap host_row (sym e) ∙ at) j) false)
