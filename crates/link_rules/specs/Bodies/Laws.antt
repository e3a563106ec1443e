-- For `structs_keep_bodies`: what the structs of the parts hold in the linked module.
use Rattle.std.specs.Prelude.{◌≡◌, ℕ, List}
use Rattle.std.specs.List.{AllByRecursion}
use Rattle.type_table.specs.Tree.{body_of}
use Rattle.module_arena.specs.Module.{Bytes, Module}
use Rattle.module_arena.specs.Renamed.{renamed_body}
use Rattle.module_arena.specs.WellFormed.{IsWellFormed}
use Rattle.linkage_rules.specs.Entries.{structs_at}
use Rattle.link_rules.specs.Known.{IsStruct}
use Rattle.link_rules.specs.Linked.{link_result}
use Rattle.link_rules.specs.Structs.{new_struct}

-- the body of a struct of part i is, under the new names, that of the linked module's struct which has its new name
abbrev pub StructsKeepBodies : Type 0
StructsKeepBodies = (parts : List Module) → AllByRecursion IsWellFormed parts → (i : ℕ) (name : Bytes) → IsStruct parts i name
    → renamed_body (new_struct parts i) (body_of (structs_at parts i) name) ≡ body_of (link_result parts).structs (new_struct parts i name)
