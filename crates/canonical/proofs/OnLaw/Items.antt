-- The items of canonical text are read back.
use Rattle.std.proofs.Common.{List, [], ◌∷◌, ◌++◌, map, Option, Some, None, codes, refl}
use Rattle.ir_lexer.specs.Ahead.{Located}
use Rattle.ir_lexer.specs.Pieces.{Line}
use Rattle.ir_terminals.specs.PhraseRows.Row.{Row, pair, keep_first, keep_second, alt, mapped}
use Rattle.ir_terminals.specs.Role.{class}
use Rattle.ir_terminals.specs.Tokens.{word, quoted_row}
use Rattle.ir_terminals.specs.declared.terminal.Terminal.TheVariants as terminals
use Rattle.ir_terminals.specs.declared.limits.Limits.{Limits}
use Rattle.ir_terminals.specs.declared.values.PlacedText.{PlacedText}
use Rattle.ir_syntax.specs.Tree.{ItemTree, SourceFilename, DataLayout, TargetTriple}
use Rattle.ir_syntax.specs.Items.{source_row, target_row, attributes_row, metadata_item_row, item_core, item_row, item_shape, items_row}
use Rattle.ir_syntax.specs.Variables.{struct_row}
use Rattle.ir_syntax.specs.Aliases.{global_row}
use Rattle.ir_syntax.specs.Functions.{declaration_row, definition_row}
use Rattle.type_table.specs.Tree.{TreeBody}
use Rattle.module_arena.specs.Module.{Bytes, Variable, Alias, Function, Block, Module}
use Rattle.canonical.specs.Phrase as phrase
use Rattle.canonical.specs.Phrase.{Phrase, mark, ◌␣◌, each}
use Rattle.canonical.specs.Names as names
use Rattle.canonical.specs.Canonical.{text_phrases, struct_phrase, variable_phrase, alias_phrase, function_phrase_by, function_phrase, item_phrases}
use Rattle.canonical.specs.Items.Unplaced.{nowhere, unplaced}
use Rattle.canonical.specs.Items.Items.{text_item, struct_item, variable_item, alias_item, function_item_by, function_item, canon_items}
use Rattle.canonical.proofs.OnLaw.Printed.{IsPrinted}
use Rattle.canonical.specs.Law.Written.{AreBytes}
use Rattle.canonical.specs.Law.Texts.{IsText, IsBodyText, IsFunctionText, AreStructTexts, AreVariableTexts, AreAliasTexts, AreFunctionTexts, IsWritable}
use Rattle.canonical.proofs.OnLaw.Joined.{spaced}
use Rattle.canonical.proofs.OnLaw.Rows.{printed_labelled, printed_mapped, printed_pair, printed_second, printed_before, printed_left, printed_right}
use Rattle.canonical.proofs.OnLaw.Lists.{EachPrinted, each_printed_append, printed_each}
use Rattle.canonical.proofs.OnLaw.Words.{printed_equals, printed_source_filename, printed_target, printed_datalayout, printed_triple}
use Rattle.canonical.proofs.OnLaw.Labels.{printed_text}
use Rattle.canonical.proofs.OnLaw.Variables.{printed_struct, printed_variable}
use Rattle.canonical.proofs.OnLaw.Aliases.{printed_alias}
use Rattle.canonical.proofs.OnLaw.Functions.{printed_declaration, printed_definition}

module _ (limits : Limits) where
  abbrev from_attributes : Row Located ItemTree
  from_attributes = alt class attributes_row metadata_item_row

  abbrev from_definition : Row Located ItemTree
  from_definition = alt class (definition_row limits) from_attributes

  abbrev from_declaration : Row Located ItemTree
  from_declaration = alt class (declaration_row limits) from_definition

  abbrev from_global : Row Located ItemTree
  from_global = alt class (global_row limits) from_declaration

  abbrev from_struct : Row Located ItemTree
  from_struct = alt class (struct_row limits) from_global

  abbrev to_target : Row Located ItemTree
  to_target = keep_second (word terminals.Target) target_row

  abbrev from_target : Row Located ItemTree
  from_target = alt class to_target from_struct

  module _ {x : ItemTree} {p : Phrase} where
    source : IsPrinted source_row unplaced x p → IsPrinted (item_row limits) unplaced x p
    unfolding item_core
    source h = printed_labelled item_shape (printed_left from_target h)

    target : IsPrinted to_target unplaced x p → IsPrinted (item_row limits) unplaced x p
    unfolding item_core
    target h = printed_labelled item_shape (printed_right source_row (printed_left from_struct h))

    struct : IsPrinted (struct_row limits) unplaced x p → IsPrinted (item_row limits) unplaced x p
    unfolding item_core
    struct h = printed_labelled item_shape (printed_right source_row (printed_right to_target (printed_left from_global h)))

    global : IsPrinted (global_row limits) unplaced x p → IsPrinted (item_row limits) unplaced x p
    unfolding item_core
    global h = printed_labelled item_shape (printed_right source_row (printed_right to_target (printed_right (struct_row limits) (printed_left from_declaration h))))

    declaration : IsPrinted (declaration_row limits) unplaced x p → IsPrinted (item_row limits) unplaced x p
    unfolding item_core
    declaration h = printed_labelled item_shape (printed_right source_row (printed_right to_target (printed_right (struct_row limits) (printed_right (global_row limits) (printed_left from_definition h)))))

    definition : IsPrinted (definition_row limits) unplaced x p → IsPrinted (item_row limits) unplaced x p
    unfolding item_core
    definition h = printed_labelled item_shape (printed_right source_row (printed_right to_target (printed_right (struct_row limits) (printed_right (global_row limits) (printed_right (declaration_row limits) (printed_left from_attributes h))))))

  abbrev ArePrinted : List ItemTree → List Phrase → Type 0
  ArePrinted xs ps = EachPrinted (item_row limits) unplaced xs ps

  of_source : (bytes : Bytes) → AreBytes bytes → IsPrinted (item_row limits) unplaced (SourceFilename nowhere (record { text = bytes; place = nowhere })) (phrase.word (codes "source_filename") ␣ mark (codes "=") ␣ names.text bytes)
  of_source bytes h =
      source (printed_mapped (λ v. SourceFilename v.0 v.1) unplaced (λ v. SourceFilename v.0 v.1) (λ v. refl)
      (printed_pair spaced (printed_before spaced printed_source_filename printed_equals) (printed_text bytes h)))

  of_layout : (bytes : Bytes) → AreBytes bytes → IsPrinted (item_row limits) unplaced (DataLayout nowhere (record { text = bytes; place = nowhere })) ((phrase.word (codes "target") ␣ phrase.word (codes "datalayout")) ␣ mark (codes "=") ␣ names.text bytes)
  of_layout bytes h =
      target (printed_second spaced printed_target (printed_left (mapped (λ v. TargetTriple v.0 v.1) (pair (keep_first (word terminals.Triple) (word terminals.Equals)) quoted_row))
      (printed_mapped (λ v. DataLayout v.0 v.1) unplaced (λ v. DataLayout v.0 v.1) (λ v. refl)
      (printed_pair spaced (printed_before spaced printed_datalayout printed_equals) (printed_text bytes h)))))

  of_triple : (bytes : Bytes) → AreBytes bytes → IsPrinted (item_row limits) unplaced (TargetTriple nowhere (record { text = bytes; place = nowhere })) ((phrase.word (codes "target") ␣ phrase.word (codes "triple")) ␣ mark (codes "=") ␣ names.text bytes)
  of_triple bytes h =
      target (printed_second spaced printed_target (printed_right (mapped (λ v. DataLayout v.0 v.1) (pair (keep_first (word terminals.DataLayout) (word terminals.Equals)) quoted_row))
      (printed_mapped (λ v. TargetTriple v.0 v.1) unplaced (λ v. TargetTriple v.0 v.1) (λ v. refl)
      (printed_pair spaced (printed_before spaced printed_triple printed_equals) (printed_text bytes h)))))

  texts : (of_text : PlacedText → ItemTree) (words : Phrase) (bytes : Option Bytes) → ((bytes : Bytes) → AreBytes bytes → IsPrinted (item_row limits) unplaced (of_text (record { text = bytes; place = nowhere })) (words ␣ mark (codes "=") ␣ names.text bytes)) → IsText bytes → ArePrinted (text_item of_text bytes) (text_phrases words bytes)
  texts of_text words None h t = tt
  texts of_text words (Some bytes) h t = (h bytes t, tt)

  structs : (ss : List (Bytes × TreeBody)) → AreStructTexts limits.nesting ss → ArePrinted (map struct_item ss) (map struct_phrase ss)
  structs [] h = tt
  structs (s ∷ ss) h = (struct (printed_struct limits s h.0 h.1), structs ss h.2)

  variables : (vs : List Variable) → AreVariableTexts limits.nesting vs → ArePrinted (map variable_item vs) (map variable_phrase vs)
  variables [] h = tt
  variables (v ∷ vs) h = (global (printed_variable limits v h.0), variables vs h.1)

  aliases : (as_ : List Alias) → AreAliasTexts limits.nesting as_ → ArePrinted (map alias_item as_) (map alias_phrase as_)
  aliases [] h = tt
  aliases (a ∷ as_) h = (global (printed_alias limits a h.0), aliases as_ h.1)

  function_by : (f : Function) (body : Option (List Block)) → IsFunctionText limits.nesting f → IsBodyText limits.nesting f.variadic body → IsPrinted (item_row limits) unplaced (function_item_by f body) (function_phrase_by f body)
  function_by f None h b = declaration (printed_declaration limits f h.0 h.1 h.2)
  function_by f (Some blocks) h b = definition (printed_definition limits f blocks h.0 h.1 h.2 b.1 b.2)

  functions : (fs : List Function) → AreFunctionTexts limits.nesting fs → ArePrinted (map function_item fs) (map function_phrase fs)
  functions [] h = tt
  functions (f ∷ fs) h = (function_by f f.body h.0 h.0.3, functions fs h.1)

  appended : (xs ys : List ItemTree) (ps qs : List Phrase) → ArePrinted xs ps → ArePrinted ys qs → ArePrinted (xs ++ ys) (ps ++ qs)
  appended xs ys ps qs h k = each_printed_append (item_row limits) unplaced xs ys ps qs h k

  items : (m : Module) → IsWritable limits.nesting m → ArePrinted (canon_items m) (item_phrases m)
  items m h =
      appended (text_item (SourceFilename nowhere) m.source) _ (text_phrases (phrase.word (codes "source_filename")) m.source) _ (texts (SourceFilename nowhere) (phrase.word (codes "source_filename")) m.source of_source h.source)
      (appended (text_item (DataLayout nowhere) m.layout) _ (text_phrases (phrase.word (codes "target") ␣ phrase.word (codes "datalayout")) m.layout) _ (texts (DataLayout nowhere) (phrase.word (codes "target") ␣ phrase.word (codes "datalayout")) m.layout of_layout h.layout)
      (appended (text_item (TargetTriple nowhere) m.triple) _ (text_phrases (phrase.word (codes "target") ␣ phrase.word (codes "triple")) m.triple) _ (texts (TargetTriple nowhere) (phrase.word (codes "target") ␣ phrase.word (codes "triple")) m.triple of_triple h.triple)
      (appended (map struct_item m.structs) _ (map struct_phrase m.structs) _ (structs m.structs h.structs)
      (appended (map variable_item m.variables) _ (map variable_phrase m.variables) _ (variables m.variables h.variables)
      (appended (map alias_item m.aliases) _ (map alias_phrase m.aliases) _ (aliases m.aliases h.aliases) (functions m.functions h.functions))))))

  -- the items of a module
  pub printed_items : (m : Module) → IsWritable limits.nesting m → IsPrinted (items_row limits) (map unplaced) (canon_items m) (each Line (item_phrases m))
  printed_items m h = printed_each (item_row limits) unplaced Line (canon_items m) (item_phrases m) tt (items m h)
