use Rattle.std.proofs.Common.{codes, ◌++◌, map, ap}
use Rattle.ir_lexer.specs.Pieces.{Line}
use Rattle.type_table.specs.Types.{Types, structs, trees}
use Rattle.module_arena.specs.Lists.{name_at}
use Rattle.module_arena.specs.View.{module_of, constants_of, variable_view, alias_view}
use Rattle.canonical.specs.Canonical.{text_phrases, struct_phrase, variable_phrase, alias_phrase, function_phrase}
use Rattle.canonical.specs.Phrase.{each, word}
use Rattle.ir_printer.proofs.OnPhrases.Printing.{prints_same}
use Rattle.ir_printer.specs.Listed.{target}
use Rattle.ir_printer.specs.Functions.{function_of}
use Rattle.ir_printer.proofs.Followed.{lines_then, three_before}
use Rattle.ir_printer.proofs.module.put_module.Goals as goal

pub returns : goal.returns
unfolding module_of
returns g c =
    let a = c.args.arena.now in
    let source = text_phrases (word (codes "source_filename")) a.source in
    let layout = text_phrases (target (codes "datalayout")) a.layout in
    let triple = text_phrases (target (codes "triple")) a.triple in
    let ss = map struct_phrase (structs a.table) in
    let vs = map variable_phrase (map (variable_view (trees a.table) (constants_of a)) a.variables) in
    let xs = map alias_phrase (map (alias_view (trees a.table) (name_at a)) a.aliases) in
    let fs = map function_phrase (map (function_of a) a.functions) in
    prints_same (ap (λ ps. each Line ps Line) (three_before source layout triple (ss ++ (vs ++ (xs ++ fs)))))
    (lines_then (source ++ (layout ++ triple)) (ss ++ (vs ++ (xs ++ fs))) Line (c.put_texts.ensures Line)
    (lines_then ss (vs ++ (xs ++ fs)) Line (prints_same (ap (λ (t : Types). each Line (map struct_phrase (structs t)) Line) c.types.ensures) (c.put_structs.ensures Line))
    (lines_then vs (xs ++ fs) Line (c.put_variables.ensures Line)
    (lines_then xs fs Line (c.put_aliases.ensures Line) (c.put_functions.ensures Line)))))
