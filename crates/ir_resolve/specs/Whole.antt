-- Says how the code reads: a module that gets the entries of a text.
use Rattle.std.specs.Prelude.{List, [], filter_map}
use Rattle.ir_syntax.specs.Tree.{ItemTree}
use Rattle.module_arena.specs.Module.{Module}
use Rattle.name_rules.specs.ModuleOf.{variable_in, alias_in, function_in, module_of_items}
use Rattle.item_build.specs.Declaring.{with_entries}

-- the texts and the structs of items, and no entries
abbrev pub without_entries : List ItemTree → Module
without_entries items = with_entries (module_of_items items) [] [] []

-- the module with the entries of the items
abbrev pub with_items : Module → List ItemTree → Module
with_items m items = with_entries m (filter_map variable_in items) (filter_map alias_in items) (filter_map function_in items)
