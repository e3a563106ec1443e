-- Says how the code reads: the entries of a module in canonical text, line by line, as the arena has them.
use Rattle.std.specs.Prelude.{List, ◌++◌, codes, map}
use Rattle.ir_lexer.specs.Pieces.{Line}
use Rattle.type_table.specs.Types.{trees}
use Rattle.module_arena.specs.declared.entry.Alias as the_alias
use Rattle.module_arena.specs.declared.entry.Function as the_function
use Rattle.module_arena.specs.declared.entry.Variable as the_variable
use Rattle.module_arena.specs.Lists.{Lists, name_at}
use Rattle.module_arena.specs.View.{constants_of, variable_view, alias_view}
use Rattle.canonical.specs.Canonical.{text_phrases, variable_phrase, alias_phrase, function_phrase}
use Rattle.canonical.specs.Phrase.{Phrase, each, word}
use Rattle.ir_printer.specs.Listed.{target}
use Rattle.ir_printer.specs.Functions.{function_of}

module _ (a : Lists) where
  -- the texts
  abbrev pub text_lines : Phrase
  text_lines =
      each Line
      (text_phrases (word (codes "source_filename")) a.source
      ++ (text_phrases (target (codes "datalayout")) a.layout ++ text_phrases (target (codes "triple")) a.triple))

  -- the variables
  abbrev pub variable_lines : List the_variable.Variable → Phrase
  variable_lines variables = each Line (map variable_phrase (map (variable_view (trees a.table) (constants_of a)) variables))

  -- the aliases
  abbrev pub alias_lines : List the_alias.Alias → Phrase
  alias_lines aliases = each Line (map alias_phrase (map (alias_view (trees a.table) (name_at a)) aliases))

  -- the functions
  abbrev pub function_lines : List the_function.Function → Phrase
  function_lines functions = each Line (map function_phrase (map (function_of a) functions))
