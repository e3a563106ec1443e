-- Variables and structs are printed.
use Rattle.std.proofs.Common.{◌≡◌, ℕ, suc, map, Bool, true, false, Option, Some, None, option_map, codes, refl, sym, ap, subst, append_assoc}
use Rattle.ir_lexer.specs.Ahead.{Located}
use Rattle.ir_tables.specs.declared.linkage.Linkage.{Linkage}
use Rattle.ir_tables.specs.declared.linkage.Linkage.TheVariants as linkages
use Rattle.ir_terminals.specs.PhraseRows.Row.{Row, labelled, keep_second, pair, alt, mapped}
use Rattle.ir_terminals.specs.Role.{class}
use Rattle.ir_terminals.specs.Tokens.{word}
use Rattle.ir_terminals.specs.declared.terminal.Terminal.TheVariants as terminals
use Rattle.ir_terminals.specs.declared.limits.Limits.{Limits}
use Rattle.ir_terminals.specs.declared.values.Integer.{Integer}
use Rattle.ir_phrases.specs.Constants.Tree.{TypeTree, ConstantTree}
use Rattle.ir_phrases.specs.Constants.Types.{list_shape, type_at, type_row, fields_core, fields_row}
use Rattle.ir_phrases.specs.Instructions.Dropped.{comma_shape, attachment_row, section_row}
use Rattle.ir_syntax.specs.Tree.{OpaqueBody, PlainBody, PackedBody, Struct}
use Rattle.ir_syntax.specs.Variables.{opaque_row, plain_body_row, packed_body_row, body_row, struct_row, constant_word_row, initialiser_shape, initialiser_core, initialiser_row, tail_shape, tail_step, tails_row, variable_of, variable_rest_shape, variable_rest_core, variable_rest_row, variable_shape, variable_core}
use Rattle.ir_syntax.specs.Heads.{optional_linkage_row, GlobalHead, global_head_shape, global_head_core, global_head_row}
use Rattle.ir_syntax.specs.Aliases.{alias_row, global_behind_shape, global_behind_core, global_behind_row, global_row}
use Rattle.type_table.specs.Tree.{Tree, Trees, TreeBody, opaque_body, fields}
use Rattle.module_arena.specs.Module.{Bytes, Constant}
use Rattle.module_arena.specs.Module as arena
use Rattle.canonical.specs.Phrase as phrase
use Rattle.canonical.specs.Phrase.{Phrase, none, mark, comma, ◌␣◌, ◌⌢◌, listed}
use Rattle.canonical.specs.Names as names
use Rattle.canonical.specs.Types.{type_phrase, type_phrases}
use Rattle.canonical.specs.Constants.{constant_phrase}
use Rattle.canonical.specs.Operations.{aligned}
use Rattle.canonical.specs.Canonical as canonical
use Rattle.canonical.specs.Canonical.{body_phrase, struct_phrase, global_or_constant, initialised, variable_phrase}
use Rattle.canonical.specs.Items.Unplaced.{unplaced_type, unplaced_constant, unplaced_integer, unplaced_name, unplaced_body, unplaced}
use Rattle.canonical.specs.Items.Parts.{natural, name_tree, type_tree, type_list, constant_tree}
use Rattle.canonical.specs.Items.Items as items
use Rattle.canonical.specs.Items.Items.{body_tree, struct_item, variable_item}
use Rattle.canonical.proofs.OnLaw.Printed.{IsPrinted, Joins}
use Rattle.canonical.specs.Law.Written.{Inside, IsNameText, IsTypeText, AreTypeTexts, IsConstantText, IsAlignmentText}
use Rattle.canonical.specs.Law.Texts.{is_declared_as, is_defined_as, IsInitialiserText, IsVariableText, IsBodyOfStruct}
use Rattle.canonical.proofs.OnLaw.Joined.{spaced, tight, left_none, right_none}
use Rattle.canonical.proofs.OnLaw.Rows.{printed_as, printed_like, printed_labelled, printed_mapped, printed_chain, printed_pair, printed_second, printed_before, printed_left, printed_right, printed_nothing}
use Rattle.canonical.proofs.OnLaw.Lists.{EachPrinted}
use Rattle.canonical.proofs.OnLaw.Loops.{loop_none, loop_more}
use Rattle.canonical.proofs.OnLaw.Words.{printed_comma, printed_equals, printed_align, printed_opaque, printed_type, printed_global, printed_constant, printed_close_brace, printed_less}
use Rattle.canonical.proofs.OnLaw.Tokens as tokens
use Rattle.canonical.proofs.OnLaw.Types as types
use Rattle.canonical.proofs.OnLaw.Types.{inside_bracket, opened_less, printed_braced_second, packed_end, printed_types_in}
use Rattle.canonical.proofs.OnLaw.Constants as constants
use Rattle.canonical.proofs.OnLaw.Constants.{starts_comma}
use Rattle.canonical.proofs.OnLaw.Functions.{linkage_there, printed_written, no_global_words}

abbrev IsPrintedFields : Limits → Trees → ℕ → Type 0
IsPrintedFields limits ts d = IsPrinted (labelled list_shape (fields_core limits d)) (map unplaced_type) (type_list ts) (listed (type_phrases ts))

fields_inside : (limits : Limits) (ts : Trees) (d : ℕ) → EachPrinted (type_at limits d) unplaced_type (type_list ts) (type_phrases ts) → IsPrintedFields limits ts (suc d)
unfolding fields_core
fields_inside limits ts d h = printed_labelled list_shape (types.printed_types (type_at limits d) (type_list ts) (type_phrases ts) h)

printed_fields : (limits : Limits) (ts : Trees) → Inside limits.nesting (AreTypeTexts ts) → IsPrintedFields limits ts limits.nesting
printed_fields limits ts h =
    inside_bracket (AreTypeTexts ts) (λ d. EachPrinted (type_at limits d) unplaced_type (type_list ts) (type_phrases ts)) (IsPrintedFields limits ts) limits.nesting h (λ k g. printed_types_in limits ts k g) (λ k g. fields_inside limits ts k g)

printed_body : (limits : Limits) (b : TreeBody) → IsBodyOfStruct limits.nesting b → IsPrinted (body_row limits) unplaced_body (body_tree b) (body_phrase b)
printed_body limits opaque_body h =
    printed_left (alt class (plain_body_row limits) (packed_body_row limits)) (printed_mapped (λ p. OpaqueBody) unplaced_body (λ p. OpaqueBody) (λ v. refl) printed_opaque)
printed_body limits (fields false ts) h =
    printed_right opaque_row (printed_left (packed_body_row limits)
    (printed_mapped PlainBody unplaced_body PlainBody (λ v. refl)
    (printed_braced_second (fields_row limits) (map unplaced_type) (type_list ts) (type_phrases ts) (word terminals.CloseBrace) (mark (codes "}")) (printed_fields limits ts h) printed_close_brace)))
printed_body limits (fields true ts) h =
    printed_right opaque_row (printed_right (plain_body_row limits)
    (printed_mapped PackedBody unplaced_body PackedBody (λ v. refl)
    (printed_second opened_less printed_less
    (printed_braced_second (fields_row limits) (map unplaced_type) (type_list ts) (type_phrases ts) (keep_second (word terminals.CloseBrace) (word terminals.Greater)) (mark (codes "}") ⌢ mark (codes ">")) (printed_fields limits ts h) packed_end))))

pub printed_struct : (limits : Limits) (s : Bytes × TreeBody) → IsNameText s.0 → IsBodyOfStruct limits.nesting s.1 → IsPrinted (struct_row limits) unplaced (struct_item s) (struct_phrase s)
printed_struct limits s n h =
    printed_mapped (λ v. Struct v.0 v.1) unplaced (λ v. Struct v.0 v.1) (λ v. refl)
    (printed_pair spaced (printed_before spaced (tokens.printed_named_local limits s.0 n) (printed_second spaced printed_equals printed_type)) (printed_body limits s.1 h))

printed_constant_word : (b : Bool) → IsPrinted constant_word_row (λ c. c) b (global_or_constant b)
printed_constant_word false = printed_left (mapped (λ p. true) (word terminals.Constant)) (printed_mapped (λ p. false) (λ c. c) (λ p. false) (λ v. refl) printed_global)
printed_constant_word true = printed_right (mapped (λ p. false) (word terminals.Global)) (printed_mapped (λ p. true) (λ c. c) (λ p. true) (λ v. refl) printed_constant)

abbrev pub unplaced_global_head : GlobalHead → GlobalHead
unplaced_global_head h = (unplaced_name h.0, h.1)

-- GLOBAL = LINKAGE?
pub printed_global_head : (name : Bytes) (written : Option Linkage) (l : Phrase) → IsNameText name → IsPrinted optional_linkage_row (λ m. m) written l → IsPrinted {X = GlobalHead} global_head_row unplaced_global_head (name_tree name, written) (names.global name ␣ mark (codes "=") ␣ l)
unfolding global_head_core
printed_global_head name written l n h =
    printed_labelled global_head_shape
    (printed_pair spaced (printed_before spaced (tokens.printed_global name n) printed_equals) (printed_before right_none h no_global_words))

printed_variable_linkage : (l : Linkage) (c : Option Constant) → IsPrinted optional_linkage_row (λ m. m) (items.variable_linkage c l) (canonical.variable_linkage c l)
printed_variable_linkage l (Some c) = printed_written l
printed_variable_linkage l None = linkage_there l

-- no initialiser, and one
no_initialiser : (limits : Limits) (l : Linkage) → is_declared_as l ≡ true → IsPrinted (initialiser_row limits (Some l)) (option_map unplaced_constant) None none
unfolding initialiser_core
no_initialiser limits linkages.External h = printed_labelled initialiser_shape (printed_nothing (option_map unplaced_constant) None)
no_initialiser limits linkages.ExternWeak h = printed_labelled initialiser_shape (printed_nothing (option_map unplaced_constant) None)
no_initialiser limits _ h = absurd cc

an_initialiser : (limits : Limits) (l : Linkage) (ty : Tree) (c : Constant) → is_defined_as l ≡ true → IsConstantText limits.nesting ty c limits.nesting → IsPrinted (initialiser_row limits (items.written_linkage l)) (option_map unplaced_constant) (Some (constant_tree ty c)) (constant_phrase ty c)
unfolding initialiser_core
an_initialiser limits linkages.External ty c d h = printed_labelled initialiser_shape (printed_mapped Some (option_map unplaced_constant) Some (λ v. refl) (constants.printed_constant limits ty c limits.nesting h))
an_initialiser limits linkages.Private ty c d h = printed_labelled initialiser_shape (printed_mapped Some (option_map unplaced_constant) Some (λ v. refl) (constants.printed_constant limits ty c limits.nesting h))
an_initialiser limits linkages.Internal ty c d h = printed_labelled initialiser_shape (printed_mapped Some (option_map unplaced_constant) Some (λ v. refl) (constants.printed_constant limits ty c limits.nesting h))
an_initialiser limits linkages.AvailableExternally ty c d h = printed_labelled initialiser_shape (printed_mapped Some (option_map unplaced_constant) Some (λ v. refl) (constants.printed_constant limits ty c limits.nesting h))
an_initialiser limits linkages.Linkonce ty c d h = printed_labelled initialiser_shape (printed_mapped Some (option_map unplaced_constant) Some (λ v. refl) (constants.printed_constant limits ty c limits.nesting h))
an_initialiser limits linkages.LinkonceOdr ty c d h = printed_labelled initialiser_shape (printed_mapped Some (option_map unplaced_constant) Some (λ v. refl) (constants.printed_constant limits ty c limits.nesting h))
an_initialiser limits linkages.Weak ty c d h = printed_labelled initialiser_shape (printed_mapped Some (option_map unplaced_constant) Some (λ v. refl) (constants.printed_constant limits ty c limits.nesting h))
an_initialiser limits linkages.WeakOdr ty c d h = printed_labelled initialiser_shape (printed_mapped Some (option_map unplaced_constant) Some (λ v. refl) (constants.printed_constant limits ty c limits.nesting h))
an_initialiser limits linkages.Common ty c d h = printed_labelled initialiser_shape (printed_mapped Some (option_map unplaced_constant) Some (λ v. refl) (constants.printed_constant limits ty c limits.nesting h))
an_initialiser limits linkages.Appending ty c d h = printed_labelled initialiser_shape (printed_mapped Some (option_map unplaced_constant) Some (λ v. refl) (constants.printed_constant limits ty c limits.nesting h))
an_initialiser limits linkages.ExternWeak ty c d h = absurd cc

no_tail : IsPrinted tails_row (option_map unplaced_integer) None none
no_tail = loop_none comma_shape tail_step None (option_map unplaced_integer)

a_tail : (n : ℕ) → IsAlignmentText (Some n) → IsPrinted tails_row (option_map unplaced_integer) (Some (natural n)) (comma ␣ phrase.word (codes "align") ␣ names.natural n)
a_tail n h =
    loop_more comma_shape tail_step right_none
    (printed_second spaced printed_comma (printed_labelled tail_shape (printed_left (alt class (mapped (λ u. None) section_row) (mapped (λ u. None) attachment_row))
    (printed_mapped Some (option_map unplaced_integer) Some (λ v. refl) (printed_second spaced printed_align (tokens.printed_natural n h))))))
    (λ m is. printed_as is (loop_none comma_shape tail_step m (option_map unplaced_integer)))

abbrev unplaced_rest : Option ConstantTree × Option Integer → Option ConstantTree × Option Integer
unplaced_rest w = (option_map unplaced_constant w.0, option_map unplaced_integer w.1)

module _ (limits : Limits) (v : arena.Variable) where
  abbrev alignment_of : ℕ → Phrase
  alignment_of n = comma ␣ phrase.word (codes "align") ␣ names.natural n

  abbrev parts_of : Option Constant → Option ℕ → TypeTree × (Option ConstantTree × Option Integer)
  parts_of c n = (type_tree v.ty, (option_map (constant_tree v.ty) c, option_map natural n))

  abbrev unplaced_parts : TypeTree × (Option ConstantTree × Option Integer) → TypeTree × (Option ConstantTree × Option Integer)
  unplaced_parts w = (unplaced_type w.0, unplaced_rest w.1)

  abbrev parts_row : Option Constant → Row Located (TypeTree × (Option ConstantTree × Option Integer))
  parts_row c = pair (type_row limits) (variable_rest_row limits (items.variable_linkage c v.linkage))

  -- the type, and what goes on behind it
  joined : (c : Option Constant) (n : Option ℕ) {behind whole : Phrase} → IsTypeText v.ty limits.nesting → Joins (type_phrase v.ty) behind whole → IsPrinted {X = Option ConstantTree × Option Integer} (variable_rest_row limits (items.variable_linkage c v.linkage)) unplaced_rest (option_map (constant_tree v.ty) c, option_map natural n) behind → IsPrinted (parts_row c) unplaced_parts (parts_of c n) whole
  joined c n t j h = printed_pair j (types.printed_type limits v.ty limits.nesting t) h

  parts_by : (c : Option Constant) (n : Option ℕ) → IsTypeText v.ty limits.nesting → IsInitialiserText limits.nesting v.linkage v.ty c → IsAlignmentText n → IsPrinted (parts_row c) unplaced_parts (parts_of c n) (aligned (initialised v.ty c) n)
  unfolding variable_rest_core
  parts_by None None t h k =
      joined None None t right_none (printed_labelled variable_rest_shape (printed_pair left_none (no_initialiser limits v.linkage h) no_tail))
  parts_by None (Some n) t h k =
      joined None (Some n) t (tight (starts_comma (phrase.word (codes "align") ␣ names.natural n))) (printed_labelled variable_rest_shape (printed_pair left_none (no_initialiser limits v.linkage h) (a_tail n k)))
  parts_by (Some c) None t h k =
      joined (Some c) None t spaced (printed_labelled variable_rest_shape (printed_pair right_none (an_initialiser limits v.linkage v.ty c h.0 h.1) no_tail))
  parts_by (Some c) (Some n) t h k =
      printed_like (aligned (initialised v.ty (Some c)) (Some n)) (λ b. simp append_assoc)
      (joined (Some c) (Some n) t spaced (printed_labelled variable_rest_shape (printed_pair (tight (starts_comma (phrase.word (codes "align") ␣ names.natural n))) (an_initialiser limits v.linkage v.ty c h.0 h.1) (a_tail n k))))

  abbrev head_tree : GlobalHead
  head_tree = (name_tree v.name, items.variable_linkage v.initialiser v.linkage)

  abbrev rest_tree : Bool × (TypeTree × (Option ConstantTree × Option Integer))
  rest_tree = (v.constant, parts_of v.initialiser v.alignment)

  abbrev rest_phrase : Phrase
  rest_phrase = global_or_constant v.constant ␣ aligned (initialised v.ty v.initialiser) v.alignment

  -- behind the head, wherever that stands
  behind_head : (h : GlobalHead) → unplaced_global_head h ≡ head_tree → IsPrinted (parts_row v.initialiser) unplaced_parts (parts_of v.initialiser v.alignment) (aligned (initialised v.ty v.initialiser) v.alignment) → IsPrinted (global_behind_row limits h) unplaced (variable_of (unplaced_global_head h) rest_tree) rest_phrase
  unfolding global_behind_core variable_core
  behind_head h is k =
      printed_labelled global_behind_shape (printed_right (alias_row limits h) (printed_labelled variable_shape
      (printed_mapped (variable_of h) unplaced (variable_of (unplaced_global_head h)) (λ w. refl)
      (printed_pair spaced (printed_constant_word v.constant)
      (subst (λ l. IsPrinted (pair (type_row limits) (variable_rest_row limits l)) unplaced_parts (parts_of v.initialiser v.alignment) (aligned (initialised v.ty v.initialiser) v.alignment)) (sym (ap (λ (x : GlobalHead). x.1) is)) k)))))

  pub printed_variable : IsVariableText limits.nesting v → IsPrinted (global_row limits) unplaced (variable_item v) (variable_phrase v)
  printed_variable h =
      printed_chain global_behind_shape spaced
      (printed_global_head v.name (items.variable_linkage v.initialiser v.linkage) (canonical.variable_linkage v.initialiser v.linkage) h.0 (printed_variable_linkage v.linkage v.initialiser))
      (λ g is. printed_as (ap (λ (x : GlobalHead). variable_of x rest_tree) is) (behind_head g is (parts_by v.initialiser v.alignment h.1 h.2 h.3)))
