-- Says how the code reads: the functions of a module in canonical text, as the arena has them.
use Rattle.std.specs.Prelude.{codes, map}
use Rattle.type_table.specs.Types.{trees, tree}
use Rattle.module_arena.specs.declared.entry.Function.{Function}
use Rattle.module_arena.specs.declared.entry.Parameter as the_parameter
use Rattle.module_arena.specs.Lists.{Lists, function_blocks}
use Rattle.module_arena.specs.Module as m
use Rattle.module_arena.specs.View.{constants_of, function_view}
use Rattle.canonical.specs.Canonical.{body_of_blocks}
use Rattle.canonical.specs.Operations.{dotted}
use Rattle.canonical.specs.Phrase.{Phrase, word, ◌␣◌, ◌⌢◌, in_parentheses, listed}
use Rattle.canonical.specs.Types.{type_phrase}
use Rattle.ir_printer.specs.Listed.{head_of, parameter_list}
use Rattle.ir_printer.specs.Blocks.{block_of}

module _ (a : Lists) (f : Function) where
  -- the function
  abbrev pub function_of : m.Function
  function_of = function_view (trees a.table) (constants_of a) f

  -- as a declaration
  abbrev pub declared_phrase : Phrase
  declared_phrase =
      word (codes "declare")
      ␣ head_of a.table f
      ⌢ in_parentheses (listed (dotted (map (λ (p : the_parameter.Parameter). type_phrase (tree a.table p.ty)) f.parameters) f.variadic))

  -- as a definition of its own blocks
  abbrev pub defined_phrase : Phrase
  defined_phrase =
      word (codes "define")
      ␣ head_of a.table f
      ⌢ in_parentheses (listed (parameter_list a.table f.parameters))
      ␣ body_of_blocks (map (block_of a f) (function_blocks f))
