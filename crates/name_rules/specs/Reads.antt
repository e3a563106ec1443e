-- For `resolve` and `one_module`: the module that a text stands for.
use Rattle.std.specs.Prelude.{◌≡◌, ℕ, List, None}
use Rattle.ir_syntax.specs.Tree.{ItemTree}
use Rattle.ir_syntax.specs.Answers.{HasItems}
use Rattle.module_arena.specs.Module.{Module}
use Rattle.name_rules.specs.ModuleOf.{module_of_items}
use Rattle.name_rules.specs.Breaks.{first_break}

-- the items are those of a module, which is this one
pub record Resolves (items : List ItemTree) (m : Module) : Type 0 where
  pub unbroken : first_break items ≡ None
  pub joined : m ≡ module_of_items items

-- the text has tokens, these are items, and these are those of the module
pub record Reads (text : List ℕ) (m : Module) : Type 0 where
  pub items : List ItemTree
  pub has_items : HasItems text items
  pub resolves : Resolves items m
