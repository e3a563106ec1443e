-- A module that is well formed and valid can be written, and its text is read back.
use Rattle.std.specs.Prelude.{◌&&◌, bytes_eq, ◌++◌}
use Rattle.std.specs.List.{list_all}
use Rattle.std.proofs.lemmas.Bool.{and_parts}
use Rattle.ir_tables.specs.Table.{is_distinct}
use Rattle.module_arena.specs.Functions.{variable_names, alias_names, function_names}
use Rattle.module_arena.specs.Names.{is_name}
use Rattle.module_arena.specs.WellFormed.{struct_names, global_names, is_good_text}
use Rattle.canonical.proofs.OnLaw.WholeTexts.{pieces_are_its_tokens, items_are_read}
use Rattle.canonical.proofs.OnModules.Modules.{module_back}
use Rattle.canonical.specs.Reads.Laws.{IsWritten, HasItsTokens, HasItsItems, IsOfItsItems, IsUnbroken, IsReadBack, IsTheirOwn}
use Rattle.canonical.proofs.OnReads.Good.{all_front, all_rest}
use Rattle.canonical.proofs.OnReads.GoodModule.{the_variables, the_functions}
use Rattle.canonical.proofs.OnReads.Valid.{valid_variables, valid_functions}
use Rattle.canonical.proofs.OnReads.NameTexts.{text_of}
use Rattle.canonical.proofs.OnReads.TypeTexts.{all_structs_text}
use Rattle.canonical.proofs.OnReads.BodyTexts.{variables_text, functions_text, aliases_text}
use Rattle.canonical.proofs.OnReads.Exact.{stands_for_itself}
use Rattle.canonical.proofs.OnReads.Asks.{asks_for_nothing}
use Rattle.canonical.proofs.OnReads.ReadBack.{unbroken, read_back, their_own}

pub is_written : IsWritten
is_written m sound =
    let w = sound.well_formed in
    let s = and_parts (list_all is_name (struct_names m)) (is_distinct bytes_eq (struct_names m)) w.struct_names in
    let g = and_parts (list_all is_name (global_names m)) (is_distinct bytes_eq (global_names m)) w.global_names in
    let a = and_parts (is_good_text m.source) (is_good_text m.layout && is_good_text m.triple) w.texts in
    let b = and_parts (is_good_text m.layout) (is_good_text m.triple) a.1 in
    record {
      source = text_of m.source a.0;
      layout = text_of m.layout b.0;
      triple = text_of m.triple b.1;
      structs = all_structs_text m s.0 g.0 s.1 w.structs;
      variables = variables_text m s.0 g.0 m.variables (all_front is_name (variable_names m) (alias_names m ++ function_names m) g.0) (the_variables m w) (valid_variables m sound.valid);
      aliases = aliases_text m s.0 g.0 m.aliases (all_front is_name (alias_names m) (function_names m) (all_rest is_name (variable_names m) (alias_names m ++ function_names m) g.0)) w.aliases;
      functions = functions_text m s.0 g.0 m.functions (all_rest is_name (alias_names m) (function_names m) (all_rest is_name (variable_names m) (alias_names m ++ function_names m) g.0)) (the_functions m w) (valid_functions m sound.valid);
    }

-- canonical text has the tokens of its pieces
pub canon_has_its_tokens : HasItsTokens
canon_has_its_tokens m sound = pieces_are_its_tokens m (is_written m sound)

-- and the items of its module
pub canon_has_its_items : HasItsItems
canon_has_its_items m sound = items_are_read m (is_written m sound)

-- the module of these items is it
pub canon_is_of_its_items : IsOfItsItems
canon_is_of_its_items m sound = module_back m (stands_for_itself m sound)

-- the items of canonical text break no rule
pub canon_is_unbroken : IsUnbroken
canon_is_unbroken = unbroken stands_for_itself asks_for_nothing

-- canonical text is read as its module, and as nothing else
pub canon_is_read_back : IsReadBack
canon_is_read_back = read_back is_written stands_for_itself asks_for_nothing

-- no two modules have one canonical text
pub canon_is_their_own : IsTheirOwn
canon_is_their_own = their_own is_written stands_for_itself asks_for_nothing
