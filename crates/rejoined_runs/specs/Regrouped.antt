-- For `two_goes_link_as_one`: what the symbols, names and types of some parts are where the first
-- of these parts
-- were linked to one, which the others follow.
use Rattle.std.specs.Prelude.{ℕ, suc, ◌-◌, List, ◌∷◌, length, nat_lt, if◌then◌else◌}
use Rattle.module_arena.specs.Module.{Bytes, Module}
use Rattle.linkage_rules.specs.Entries.{Entry}
use Rattle.linkage_rules.specs.declared.symbol.Symbol.{Symbol}
use Rattle.linkage_rules.specs.declared.symbol.Symbol.TheVariants.{Shared, Local}
use Rattle.link_rules.specs.Carried.{moved}
use Rattle.link_rules.specs.Linked.{link_result}
use Rattle.link_rules.specs.Rename.{new_name_of, new_global}
use Rattle.link_rules.specs.Structs.{new_struct}

-- the first parts as one, and then the others
abbrev pub regrouped : List Module → List Module → List Module
regrouped a b = link_result a ∷ b

-- the part that a part is then, where the first `count` are one
abbrev pub part_after : ℕ → ℕ → ℕ
part_after count i = if nat_lt i count then 0 else suc (i - count)

-- what a symbol is then: a local one of the first parts has its new name
abbrev pub symbol_after : List Module → Symbol → Symbol
symbol_after a (Shared name) = Shared name
symbol_after a (Local i name) =
    if nat_lt i (length a) then Local 0 (new_name_of a (Local i name)) else Local
    (suc (i - length a)) name

-- what the definition of a symbol is then
abbrev pub entry_after : List Module → Symbol → Entry → Entry
entry_after a s e =
    if nat_lt e.part (length a) then moved a s e else record {
      part =
          suc (e.part - length a);
      global = e.global;
    }

-- what a name of part i is then
abbrev pub global_after : List Module → ℕ → Bytes → Bytes
global_after a i name = if nat_lt i (length a) then new_global a i name else name

-- and a struct of part i
abbrev pub struct_after : List Module → ℕ → Bytes → Bytes
struct_after a i name = if nat_lt i (length a) then new_struct a i name else name
