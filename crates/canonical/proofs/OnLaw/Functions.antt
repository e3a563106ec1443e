-- Functions are printed.
use Rattle.std.proofs.Common.{◌≡◌, List, [], ◌∷◌, ◌++◌, map, Bool, true, false, cond, Some, None, codes, refl, ap}
use Rattle.ir_lexer.specs.Class.{byte_class}
use Rattle.ir_lexer.specs.declared.token.TokenKind.TheVariants as kind
use Rattle.ir_tables.specs.Linkage.{linkage_word}
use Rattle.ir_tables.specs.declared.linkage.Linkage.{Linkage}
use Rattle.ir_tables.specs.declared.linkage.Linkage.TheVariants as linkages
use Rattle.ir_terminals.specs.PhraseRows.Row.{PhraseShape, alt, mapped, nothing, fail, loop}
use Rattle.ir_terminals.specs.Role.{class, terminal}
use Rattle.ir_terminals.specs.Terminal.{code, linkage_class}
use Rattle.ir_terminals.specs.Tokens.{local_row, linkage_row}
use Rattle.ir_terminals.specs.Values.{linkage_of}
use Rattle.ir_terminals.specs.Words.{word_terminal, words_by_role}
use Rattle.ir_terminals.specs.declared.terminal.Terminal.TheVariants as terminals
use Rattle.ir_terminals.specs.declared.limits.Limits.{Limits}
use Rattle.ir_phrases.specs.Constants.Tree.{TypeTree}
use Rattle.ir_phrases.specs.Instructions.Tree.{BlockTree}
use Rattle.ir_phrases.specs.Instructions.Dropped.{comma_shape, attachment_row}
use Rattle.ir_syntax.specs.Tree.{ParameterTree, Declaration, Definition}
use Rattle.ir_syntax.specs.Heads.{optional_linkage_row, global_word_shape, global_word_row, global_words_row}
use Rattle.ir_syntax.specs.Functions.{parameter_core, parameter_row, parameter_shape, dots_row, ParametersTree, parameter_step, more_parameters_shape, some_parameters_row, parameter_list_row, parameters_core, parameters_row, parameters_shape, head_core, head_row, head_shape, attachment_shape, metadata_row, parameter_types, declared_core, declared_row, declared_shape, declaration_row, body_core, body_row, body_shape, defined_core, defined_row, definition_row}
use Rattle.type_table.specs.Tree.{Tree}
use Rattle.module_arena.specs.Module.{Block, Parameter, Function}
use Rattle.canonical.specs.Phrase as phrase
use Rattle.canonical.specs.Phrase.{Phrase, none, mark, comma, ◌␣◌, listed, more, in_parentheses}
use Rattle.canonical.specs.Types.{type_phrase}
use Rattle.canonical.specs.Operations.{dotted}
use Rattle.canonical.specs.Canonical.{linkage_phrase, head_phrase, parameter_phrase, body_of_blocks, function_phrase_by}
use Rattle.canonical.specs.Items.Unplaced.{unplaced_type, unplaced_local, unplaced_block, unplaced_parameter, unplaced_head, unplaced}
use Rattle.canonical.specs.Items.Parts.{type_tree, block_tree}
use Rattle.canonical.specs.Items.Items.{written_linkage, head_tree, parameter_tree, function_item_by}
use Rattle.canonical.proofs.OnLaw.Printed.{IsPrinted, Starts}
use Rattle.module_arena.specs.Forms.{is_not_empty}
use Rattle.canonical.specs.Law.Written.{IsNameText, IsLocalText, IsTypeText}
use Rattle.canonical.specs.Law.Texts.{AreParameterTexts, AreBlockTexts}
use Rattle.canonical.proofs.OnLaw.Joined.{spaced, tight, left_none, right_none}
use Rattle.canonical.proofs.OnLaw.Rows.{printed_as, printed_one, printed_labelled, printed_mapped, printed_chain, printed_pair, printed_second, printed_before, printed_left, printed_right, printed_nothing, printed_some, printed_none}
use Rattle.canonical.proofs.OnLaw.Lists.{EachPrinted, joins_more}
use Rattle.canonical.proofs.OnLaw.Loops.{nothing_of, parts_by, loop_none, loop_more, printed_growing, printed_grown, printed_otherwise, printed_part, no_parameter_attributes, no_function_attributes, no_convention}
use Rattle.canonical.proofs.OnLaw.Words.{word_token, printed_comma, printed_open_parenthesis, printed_close_parenthesis, printed_declare, printed_define}
use Rattle.canonical.proofs.OnLaw.Tokens.{printed_local, printed_global}
use Rattle.canonical.proofs.OnLaw.Types.{printed_type, opened_parenthesis}
use Rattle.canonical.proofs.OnLaw.Constants.{starts_close_parenthesis}
use Rattle.canonical.proofs.OnLaw.Calls.{starts_parentheses, dots_token}
use Rattle.canonical.proofs.OnLaw.Blocks.{printed_blocks}

pub printed_linkage : (l : Linkage) → IsPrinted linkage_row (λ m. m) l (phrase.word (linkage_word l))
unfolding byte_class terminal word_terminal words_by_role
printed_linkage linkages.External = printed_one (linkage_class ∷ []) linkage_of (λ m. m) linkages.External kind.Word (linkage_word linkages.External) (word_token (linkage_word linkages.External) refl) refl (λ place. (linkages.External, refl, refl))
printed_linkage linkages.Private = printed_one (linkage_class ∷ []) linkage_of (λ m. m) linkages.Private kind.Word (linkage_word linkages.Private) (word_token (linkage_word linkages.Private) refl) refl (λ place. (linkages.Private, refl, refl))
printed_linkage linkages.Internal = printed_one (linkage_class ∷ []) linkage_of (λ m. m) linkages.Internal kind.Word (linkage_word linkages.Internal) (word_token (linkage_word linkages.Internal) refl) refl (λ place. (linkages.Internal, refl, refl))
printed_linkage linkages.AvailableExternally = printed_one (linkage_class ∷ []) linkage_of (λ m. m) linkages.AvailableExternally kind.Word (linkage_word linkages.AvailableExternally) (word_token (linkage_word linkages.AvailableExternally) refl) refl (λ place. (linkages.AvailableExternally, refl, refl))
printed_linkage linkages.Linkonce = printed_one (linkage_class ∷ []) linkage_of (λ m. m) linkages.Linkonce kind.Word (linkage_word linkages.Linkonce) (word_token (linkage_word linkages.Linkonce) refl) refl (λ place. (linkages.Linkonce, refl, refl))
printed_linkage linkages.LinkonceOdr = printed_one (linkage_class ∷ []) linkage_of (λ m. m) linkages.LinkonceOdr kind.Word (linkage_word linkages.LinkonceOdr) (word_token (linkage_word linkages.LinkonceOdr) refl) refl (λ place. (linkages.LinkonceOdr, refl, refl))
printed_linkage linkages.Weak = printed_one (linkage_class ∷ []) linkage_of (λ m. m) linkages.Weak kind.Word (linkage_word linkages.Weak) (word_token (linkage_word linkages.Weak) refl) refl (λ place. (linkages.Weak, refl, refl))
printed_linkage linkages.WeakOdr = printed_one (linkage_class ∷ []) linkage_of (λ m. m) linkages.WeakOdr kind.Word (linkage_word linkages.WeakOdr) (word_token (linkage_word linkages.WeakOdr) refl) refl (λ place. (linkages.WeakOdr, refl, refl))
printed_linkage linkages.Common = printed_one (linkage_class ∷ []) linkage_of (λ m. m) linkages.Common kind.Word (linkage_word linkages.Common) (word_token (linkage_word linkages.Common) refl) refl (λ place. (linkages.Common, refl, refl))
printed_linkage linkages.Appending = printed_one (linkage_class ∷ []) linkage_of (λ m. m) linkages.Appending kind.Word (linkage_word linkages.Appending) (word_token (linkage_word linkages.Appending) refl) refl (λ place. (linkages.Appending, refl, refl))
printed_linkage linkages.ExternWeak = printed_one (linkage_class ∷ []) linkage_of (λ m. m) linkages.ExternWeak kind.Word (linkage_word linkages.ExternWeak) (word_token (linkage_word linkages.ExternWeak) refl) refl (λ place. (linkages.ExternWeak, refl, refl))

pub linkage_there : (l : Linkage) → IsPrinted optional_linkage_row (λ m. m) (Some l) (phrase.word (linkage_word l))
linkage_there l = printed_left (nothing None) (printed_mapped Some (λ m. m) Some (λ a. refl) (printed_linkage l))

pub linkage_not_there : IsPrinted optional_linkage_row (λ m. m) None none
linkage_not_there = printed_right (mapped Some linkage_row) (printed_nothing (λ m. m) None)

-- a linkage where it is written
pub printed_written : (l : Linkage) → IsPrinted optional_linkage_row (λ m. m) (written_linkage l) (linkage_phrase l)
printed_written linkages.External = linkage_not_there
printed_written linkages.Private = linkage_there linkages.Private
printed_written linkages.Internal = linkage_there linkages.Internal
printed_written linkages.AvailableExternally = linkage_there linkages.AvailableExternally
printed_written linkages.Linkonce = linkage_there linkages.Linkonce
printed_written linkages.LinkonceOdr = linkage_there linkages.LinkonceOdr
printed_written linkages.Weak = linkage_there linkages.Weak
printed_written linkages.WeakOdr = linkage_there linkages.WeakOdr
printed_written linkages.Common = linkage_there linkages.Common
printed_written linkages.Appending = linkage_there linkages.Appending
printed_written linkages.ExternWeak = linkage_there linkages.ExternWeak

pub no_global_words : IsPrinted global_words_row nothing_of tt none
no_global_words = loop_none global_word_shape (λ u. global_word_row) tt nothing_of

pub no_metadata : IsPrinted metadata_row nothing_of tt none
no_metadata = loop_none attachment_shape (λ u. attachment_row) tt nothing_of

printed_dots : IsPrinted (dots_row true) (λ b. b) true (mark (codes "..."))
unfolding terminal
printed_dots = printed_one (code terminals.Dots ∷ []) (λ t. cond true (Some true) None) (λ b. b) true kind.Punctuation (codes "...") dots_token refl (λ place. (true, refl, refl))

starts_body : (f : Function) (bs : List Block) → Starts (in_parentheses (listed (map parameter_phrase f.parameters)) ␣ body_of_blocks bs)
unfolding byte_class
starts_body f bs = record { starts = λ b rest. refl }

module _ (limits : Limits) where
  named_parameter : (p : Parameter) → IsTypeText p.ty limits.nesting → IsLocalText p.name → IsPrinted (parameter_row limits) unplaced_parameter (parameter_tree p) (parameter_phrase p)
  unfolding parameter_core
  named_parameter p t h =
      printed_labelled parameter_shape (printed_pair spaced (printed_type limits p.ty limits.nesting t) (printed_second left_none no_parameter_attributes (printed_some (printed_local p.name h))))

  typed_parameter : (t : Tree) → IsTypeText t limits.nesting → IsPrinted (parameter_row limits) unplaced_parameter (type_tree t, None) (type_phrase t)
  unfolding parameter_core
  typed_parameter t h =
      printed_labelled parameter_shape (printed_pair right_none (printed_type limits t limits.nesting h) (printed_second left_none no_parameter_attributes (printed_none local_row unplaced_local)))

  named_parameters : (ps : List Parameter) → AreParameterTexts limits.nesting ps → EachPrinted (parameter_row limits) unplaced_parameter (map parameter_tree ps) (map parameter_phrase ps)
  named_parameters [] h = tt
  named_parameters (p ∷ ps) h = (named_parameter p h.0 h.1, named_parameters ps h.2)

  typed_parameters : (ps : List Parameter) → AreParameterTexts limits.nesting ps → EachPrinted (parameter_row limits) unplaced_parameter (map (λ p. (type_tree p.ty, None)) ps) (map (λ p. type_phrase p.ty) ps)
  typed_parameters [] h = tt
  typed_parameters (p ∷ ps) h = (typed_parameter p.ty h.0, typed_parameters ps h.2)

  abbrev loop_shape : PhraseShape
  loop_shape = record { first = comma_shape.first; more = parameter_shape.more; empty = false }

  grows : (dots : Bool) (s : ParametersTree) (x : ParameterTree) (p : Phrase) → s.1 ≡ false → IsPrinted (parameter_row limits) unplaced_parameter x p → IsPrinted {X = List ParameterTree × Bool} (parameter_step dots limits s) (parts_by unplaced_parameter) (map unplaced_parameter s.0 ++ x ∷ [], false) (comma ␣ p)
  grows dots s x p f h =
      printed_otherwise s.1 (fail comma_shape) f (printed_second spaced printed_comma (printed_right (mapped (λ d. (s.0, d)) (dots_row dots)) (printed_part s unplaced_parameter x p h)))

  dots_end : (s : ParametersTree) → s.1 ≡ false → IsPrinted {X = List ParameterTree × Bool} (loop class loop_shape (parameter_step true limits) s) (parts_by unplaced_parameter) (map unplaced_parameter s.0, true) (more (mark (codes "...") ∷ []))
  dots_end s f =
      loop_more loop_shape (parameter_step true limits) (joins_more (comma ␣ mark (codes "...")) [])
      (printed_otherwise s.1 (fail comma_shape) f (printed_second spaced printed_comma (printed_left (mapped (λ p. (s.0 ++ p ∷ [], false)) (parameter_row limits))
      (printed_mapped (λ d. (s.0, d)) (parts_by unplaced_parameter) (λ d. (map unplaced_parameter s.0, d)) (λ a. refl) printed_dots))))
      (λ m is. printed_as is (loop_none loop_shape (parameter_step true limits) m (parts_by unplaced_parameter)))

  -- parameters with no `...`
  plain_list : (dots : Bool) (xs : List ParameterTree) (ps : List Phrase) → EachPrinted (parameter_row limits) unplaced_parameter xs ps → IsPrinted {X = List ParameterTree × Bool} (parameter_list_row dots limits) (parts_by unplaced_parameter) (xs, false) (listed ps)
  plain_list dots [] [] h =
      printed_right (mapped (λ d. ([], d)) (dots_row dots)) (printed_right (some_parameters_row dots limits) (printed_nothing (parts_by unplaced_parameter) ([], false)))
  plain_list dots (x ∷ xs) (p ∷ ps) h =
      printed_right (mapped (λ d. ([], d)) (dots_row dots)) (printed_left (nothing ([], false))
      (printed_chain more_parameters_shape (joins_more p ps) h.0
      (λ t is. printed_as (ap (λ y. (y ∷ xs, false)) is) (printed_labelled more_parameters_shape (printed_grown loop_shape (parameter_step dots limits) (parameter_row limits) unplaced_parameter (grows dots) xs ps h.1 (t ∷ [], false) refl)))))
  plain_list dots [] (p ∷ ps) h = absurd h
  plain_list dots (x ∷ xs) [] h = absurd h

  -- parameters and `...`
  dotted_list : (xs : List ParameterTree) (ps : List Phrase) → EachPrinted (parameter_row limits) unplaced_parameter xs ps → IsPrinted {X = List ParameterTree × Bool} (parameter_list_row true limits) (parts_by unplaced_parameter) (xs, true) (listed (dotted ps true))
  dotted_list [] [] h =
      printed_left (alt class (some_parameters_row true limits) (nothing ([], false))) (printed_mapped (λ d. ([], d)) (parts_by unplaced_parameter) (λ d. ([], d)) (λ a. refl) printed_dots)
  dotted_list (x ∷ xs) (p ∷ ps) h =
      printed_right (mapped (λ d. ([], d)) (dots_row true)) (printed_left (nothing ([], false))
      (printed_chain more_parameters_shape (joins_more p (ps ++ mark (codes "...") ∷ [])) h.0
      (λ t is. printed_as (ap (λ y. (y ∷ xs, true)) is) (printed_labelled more_parameters_shape
      (printed_growing loop_shape (parameter_step true limits) (parameter_row limits) unplaced_parameter (grows true) xs ps (mark (codes "...") ∷ []) true h.1 (λ m f. dots_end m f) (t ∷ [], false) refl)))))
  dotted_list [] (p ∷ ps) h = absurd h
  dotted_list (x ∷ xs) [] h = absurd h

  declared_list : (xs : List ParameterTree) (ps : List Phrase) (variadic : Bool) → EachPrinted (parameter_row limits) unplaced_parameter xs ps → IsPrinted {X = List ParameterTree × Bool} (parameter_list_row true limits) (parts_by unplaced_parameter) (xs, variadic) (listed (dotted ps variadic))
  declared_list xs ps true h = dotted_list xs ps h
  declared_list xs ps false h = plain_list true xs ps h

  parameters : (dots : Bool) {y : List ParameterTree × Bool} {p : Phrase} → IsPrinted {X = List ParameterTree × Bool} (parameter_list_row dots limits) (parts_by unplaced_parameter) y p → IsPrinted {X = List ParameterTree × Bool} (parameters_row dots limits) (parts_by unplaced_parameter) y (in_parentheses p)
  unfolding parameters_core
  parameters dots h = printed_labelled parameters_shape (printed_second opened_parenthesis printed_open_parenthesis (printed_before (tight starts_close_parenthesis) h printed_close_parenthesis))

  head : (f : Function) → IsNameText f.name → IsTypeText f.returns limits.nesting → IsPrinted (head_row limits) unplaced_head (head_tree f) (head_phrase f)
  unfolding head_core
  head f n t =
      printed_labelled head_shape (printed_mapped (λ v. record { linkage = v.0; returns = v.1.0; name = v.1.1 }) unplaced_head (λ v. record { linkage = v.0; returns = v.1.0; name = v.1.1 }) (λ v. refl)
      (printed_pair spaced (printed_written f.linkage)
      (printed_second left_none no_global_words (printed_second left_none no_convention (printed_second left_none no_parameter_attributes
      (printed_pair spaced (printed_type limits f.returns limits.nesting t) (printed_global f.name n)))))))

  unplaced_types : (all : List ParameterTree) → map unplaced_type (parameter_types all) ≡ map (λ p. p.0) (map unplaced_parameter all)
  unplaced_types [] = refl
  unplaced_types (p ∷ all) = ap (λ ts. unplaced_type p.0 ∷ ts) (unplaced_types all)

  types_alone : (ps : List Parameter) → map (λ (p : ParameterTree). p.0) (map (λ (p : Parameter). (type_tree p.ty, None)) ps) ≡ map (λ p. type_tree p.ty) ps
  types_alone [] = refl
  types_alone (p ∷ ps) = ap (λ ts. type_tree p.ty ∷ ts) (types_alone ps)

  declared : (f : Function) → AreParameterTexts limits.nesting f.parameters → IsPrinted {X = List TypeTree × Bool} (declared_row limits) (λ w. (map unplaced_type w.0, w.1)) (map (λ p. type_tree p.ty) f.parameters, f.variadic) (in_parentheses (listed (dotted (map (λ p. type_phrase p.ty) f.parameters) f.variadic)))
  unfolding declared_core
  declared f h =
      printed_labelled declared_shape (printed_as (ap (λ ts. (ts, f.variadic)) (types_alone f.parameters))
      (printed_mapped (λ s. (parameter_types s.0, s.1)) (λ w. (map unplaced_type w.0, w.1)) (λ (y : List ParameterTree × Bool). (map (λ p. p.0) y.0, y.1)) (λ s. ap (λ ts. (ts, s.1)) (unplaced_types s.0))
      (printed_before right_none (parameters true (declared_list (map (λ p. (type_tree p.ty, None)) f.parameters) (map (λ p. type_phrase p.ty) f.parameters) f.variadic (typed_parameters f.parameters h))) no_function_attributes)))

  body : (bs : List Block) → is_not_empty bs ≡ true → AreBlockTexts limits.nesting bs → IsPrinted (body_row limits) (map unplaced_block) (map block_tree bs) (body_of_blocks bs)
  unfolding body_core
  body bs some h = printed_labelled body_shape (printed_second left_none no_function_attributes (printed_second left_none no_metadata (printed_blocks limits bs some h)))

  defined : (f : Function) (bs : List Block) → AreParameterTexts limits.nesting f.parameters → is_not_empty bs ≡ true → AreBlockTexts limits.nesting bs → IsPrinted {X = (List ParameterTree × Bool) × List BlockTree} (defined_row limits) (λ w. (parts_by unplaced_parameter w.0, map unplaced_block w.1)) ((map parameter_tree f.parameters, false), map block_tree bs) (in_parentheses (listed (map parameter_phrase f.parameters)) ␣ body_of_blocks bs)
  unfolding defined_core
  defined f bs h some k =
      printed_labelled parameters_shape (printed_pair spaced (parameters limits.with_left_out (plain_list limits.with_left_out (map parameter_tree f.parameters) (map parameter_phrase f.parameters) (named_parameters f.parameters h))) (body bs some k))

  pub printed_declaration : (f : Function) → IsNameText f.name → IsTypeText f.returns limits.nesting → AreParameterTexts limits.nesting f.parameters → IsPrinted (declaration_row limits) unplaced (function_item_by f None) (function_phrase_by f None)
  printed_declaration f n t h =
      printed_mapped (λ v. Declaration v.0 v.1.0 v.1.1.0 v.1.1.1) unplaced (λ v. Declaration v.0 v.1.0 v.1.1.0 v.1.1.1) (λ v. refl)
      (printed_pair spaced printed_declare (printed_second left_none no_metadata
      (printed_pair (tight (starts_parentheses (listed (dotted (map (λ p. type_phrase p.ty) f.parameters) f.variadic)))) (head f n t) (declared f h))))

  pub printed_definition : (f : Function) (bs : List Block) → IsNameText f.name → IsTypeText f.returns limits.nesting → AreParameterTexts limits.nesting f.parameters → is_not_empty bs ≡ true → AreBlockTexts limits.nesting bs → IsPrinted (definition_row limits) unplaced (function_item_by f (Some bs)) (function_phrase_by f (Some bs))
  printed_definition f bs n t h some k =
      printed_mapped (λ v. Definition v.0 v.1.0 v.1.1.0.0 v.1.1.1) unplaced (λ v. Definition v.0 v.1.0 v.1.1.0.0 v.1.1.1) (λ v. refl)
      (printed_pair spaced printed_define
      (printed_pair (tight (starts_body f bs)) (head f n t) (defined f bs h some k)))
