-- What the items of a text ask for stands at their tokens, in order.
use Rattle.std.proofs.Common.{◌≡◌, List, [], ◌∷◌, ◌++◌, Bool, true, false, Option, Some, None, refl, sym, ap, subst, flat_map, filter_map, append_assoc}
use Rattle.ir_base.specs.declared.place.Place.{Place}
use Rattle.ir_lexer.specs.Ahead.{Located}
use Rattle.ir_tables.specs.declared.linkage.Linkage.{Linkage}
use Rattle.ir_tables.specs.declared.linkage.Linkage.TheVariants as linkage
use Rattle.ir_terminals.specs.PhraseRows.Row.{keep_first, keep_second}
use Rattle.ir_terminals.specs.declared.limits.Limits.{Limits}
use Rattle.ir_terminals.specs.declared.terminal.Terminal.{Terminal}
use Rattle.ir_terminals.specs.declared.terminal.Terminal.TheVariants as terminal
use Rattle.ir_terminals.specs.declared.values.Integer.{Integer}
use Rattle.ir_terminals.specs.declared.values.PlacedName.{PlacedName}
use Rattle.ir_terminals.specs.Position.{text_tokens}
use Rattle.ir_terminals.specs.Role.{class}
use Rattle.ir_terminals.specs.Terminal.{code}
use Rattle.ir_terminals.specs.Tokens.{word, global_name_row, named_local_row, quoted_row}
use Rattle.ir_terminals.specs.Values.{place_of_token, name_of_global, named_local_of}
use Rattle.ir_phrases.specs.Constants.Tree.{TypeTree, ConstantTree, types}
use Rattle.ir_phrases.specs.Instructions.Tree.{SignatureTree, BlockTree}
use Rattle.ir_phrases.specs.Instructions.Dropped.{comma_shape, attachment_row, section_row, convention_row, parameter_attributes_row, function_attributes_row}
use Rattle.ir_syntax.specs.Tree.{BodyTree, PlainBody, PackedBody, AliasTypeTree, HeadTree, ItemTree}
use Rattle.ir_syntax.specs.Heads.{GlobalHead, optional_linkage_row, global_words_row, global_head_shape, global_head_core}
use Rattle.ir_syntax.specs.Variables.{body_row, struct_row, constant_word_row, initialiser_shape, initialiser_core, tail_row, tail_step, tails_row, variable_rest_shape, variable_rest_core, variable_shape, variable_core}
use Rattle.ir_syntax.specs.Aliases.{alias_type_of, alias_type_shape, alias_type_core, target_core as alias_target_core, alias_shape, alias_core, global_behind_shape, global_behind_core, global_row}
use Rattle.ir_syntax.specs.Functions.{ParametersTree, parameters_shape, head_shape, head_core, metadata_row, declared_shape, declared_core, declaration_row, body_shape, body_core, defined_core, definition_row}
use Rattle.ir_syntax.specs.Items.{source_row, target_row, attributes_row, metadata_item_row, item_shape, item_core, items_row, language}
use Rattle.name_rules.specs.Breaks.{struct_name, global_name, source_place, layout_place, triple_place, known_in, initialiser_demands, alias_type_demands, head_demands, item_demands, demands_behind}
use Rattle.name_rules.specs.declared.fault.ResolveFault.TheVariants as faults
use Rattle.name_rules.specs.Demand.{Demand, ask, is_first, is_new, is_large, nests, is_small, place_of_name}
use Rattle.name_rules.specs.FunctionDemands.{none_called, called_after, alignment_demands, definition_demands}
use Rattle.name_rules.specs.Locals.{announced, locals_from}
use Rattle.name_rules.specs.ModuleOf.{first_of}
use Rattle.name_rules.specs.TypeDemands.{Known, struct_measured, have_past, body_types, ends, type_demands, types_demands, is_global}
use Rattle.name_rules.specs.Written.{type_in}
use Rattle.name_rules.specs.Places.Places.{InOrder}
use Rattle.name_rules.specs.Places.Laws.{DemandsInOrder}
use Rattle.name_rules.proofs.OnPlaces.Orders.{followed, preceded, joined, at_first}
use Rattle.name_rules.proofs.OnPlaces.Draws.{Draws, Drawn, Spans, draws_any, draws_nothing, draws_one, draws_mapped, draws_so, draws_second, draws_before, pair_asked, draws_both, draws_pair, draws_left, draws_right, draws_alt, Follows, draws_many_by, all_asked, draws_labelled, spans_draws, draws_spans, spans_labelled, spans_chain, spans_loop, spans_any, spans_mapped, spans_alt}
use Rattle.name_rules.proofs.OnPlaces.Tokens.{global_place, struct_place}
use Rattle.name_rules.proofs.OnPlaces.Types.{types_flat, draws_type, draws_fields}
use Rattle.name_rules.proofs.OnPlaces.Constants.{constant_asked, global_asked, draws_global, draws_constant}
use Rattle.name_rules.proofs.OnPlaces.Calls.{signature_asked, draws_signature}
use Rattle.name_rules.proofs.OnPlaces.Operations.{draws_index}
use Rattle.name_rules.proofs.OnPlaces.Blocks.{first_stands, blocks_asked, draws_blocks}
use Rattle.name_rules.proofs.OnPlaces.Parameters.{types_flat as parameters_flat, draws_defined, draws_declared}

-- an item behind others
abbrev item_asked : Known × List ItemTree → ItemTree → List Demand
item_asked x i = item_demands x.0 x.1 i

-- ---- names and places that may be there once

abbrev new_asked : List PlacedName → PlacedName → List Demand
new_asked names name = is_new names name

draws_new : Draws global_name_row new_asked
draws_new =
    draws_one class (code terminal.GlobalName ∷ []) name_of_global new_asked (λ t n e names. first_stands t n.place (place_of_name names n.name) (global_place t n e))

abbrev once_asked : Option Place → Place → List Demand
once_asked earlier place = is_first place earlier

draws_once : (w : Terminal) → Draws (word w) once_asked
draws_once w = draws_one class (code w ∷ []) place_of_token once_asked (λ t p e earlier. first_stands t p earlier (once p t.place e))
  where
    once : (a b : Place) → Some b ≡ Some a → a ≡ b
    once a b e = cc

-- ---- structs

-- what a struct asks for at its name: whether a type in it is past a limit is the last of the context
abbrev Naming : Type 0
Naming = List PlacedName × (Known × Bool)

abbrev limits_asked : Known → Bool → PlacedName → List Demand
limits_asked known past name = nests name.place (struct_measured known name.name) ∷ ends known name ∷ is_small name.place (is_large (struct_measured known name.name)) past ∷ []

abbrev naming_asked : Naming → PlacedName → List Demand
naming_asked x name = is_new x.0 name ++ limits_asked x.1.0 x.1.1 name

limits_stand : (t : Located) (name : PlacedName) (known : Known) (past : Bool) → name.place ≡ t.place → InOrder (t ∷ []) (limits_asked known past name)
limits_stand t name known past e =
    let at = ap Some e in
    let small = is_small name.place (is_large (struct_measured known name.name)) past in
    at_first t [] (nests name.place (struct_measured known name.name)) (ends known name ∷ small ∷ []) at
    (at_first t [] (ends known name) (small ∷ []) at (at_first t [] small [] at tt))

naming_stands : (t : Located) (name : PlacedName) (earlier : Option Place) (known : Known) (past : Bool) → name.place ≡ t.place → InOrder (t ∷ []) (is_first name.place earlier ++ limits_asked known past name)
naming_stands t name None known past e = limits_stand t name known past e
naming_stands t name (Some earlier) known past e = at_first t [] (ask false (faults.Duplicate name.place earlier)) (limits_asked known past name) (ap Some e) (limits_stand t name known past e)

draws_naming : (limits : Limits) → Draws (named_local_row limits) naming_asked
draws_naming limits =
    draws_one class (code terminal.Local ∷ []) (named_local_of limits.with_left_out) naming_asked
    (λ t n e x. naming_stands t n (place_of_name x.0 n.name) x.1.0 x.1.1 (struct_place limits.with_left_out t n e))

abbrev body_asked : Known → BodyTree → List Demand
body_asked known body = types_demands known (body_types known body)

module _ (limits : Limits) where
  draws_body : Draws (body_row limits) body_asked
  draws_body =
      draws_alt class (draws_mapped _ body_asked (draws_any (Unit {0}) (word terminal.Opaque)) (λ us p d known. tt))
      (draws_alt class
      (draws_mapped PlainBody body_asked (draws_second (word terminal.OpenBrace) (draws_before (word terminal.CloseBrace) (draws_fields limits))) listed)
      (draws_mapped PackedBody body_asked
      (draws_second (word terminal.Less)
      (draws_second (word terminal.OpenBrace) (draws_before (keep_second (word terminal.CloseBrace) (word terminal.Greater)) (draws_fields limits))))
      listed))
    where
      listed : (us : List Located) (ts : List TypeTree) → Drawn (all_asked type_demands) us ts → (known : Known) → InOrder us (types_demands known (types ts))
      listed us ts d known = subst (InOrder us) (sym (types_flat known ts)) (d known)

  draws_struct : Draws (struct_row limits) item_asked
  draws_struct =
      draws_mapped _ item_asked (draws_pair (draws_before (keep_second (word terminal.Equals) (word terminal.«Type»)) (draws_naming limits)) draws_body)
      (λ us v d x.
      let names = filter_map struct_name x.1 in
      let past = have_past x.0 (body_types x.0 v.1) in
      subst (InOrder us) (append_assoc (is_new names v.0) (limits_asked x.0 past v.0) (body_asked x.0 v.1)) (d ((names, (x.0, past)), x.0)))

  -- ---- variables and aliases

  abbrev initialiser_asked : Known × TypeTree → Option ConstantTree → List Demand
  initialiser_asked x o = initialiser_demands x.0 x.1 o

  some_initialiser : (us : List Located) (c : ConstantTree) → Drawn constant_asked us c → Drawn initialiser_asked us (Some c)
  some_initialiser us c d x = d (x.0, type_in x.1)

  draws_initialiser_core : (written : Option Linkage) → Draws (initialiser_core limits written) initialiser_asked
  unfolding initialiser_core
  draws_initialiser_core None = draws_mapped Some initialiser_asked (draws_constant limits) some_initialiser
  draws_initialiser_core (Some linkage.External) = draws_nothing None initialiser_asked (λ x. refl)
  draws_initialiser_core (Some linkage.ExternWeak) = draws_nothing None initialiser_asked (λ x. refl)
  draws_initialiser_core (Some _) = draws_mapped Some initialiser_asked (draws_constant limits) some_initialiser

  -- an alignment, at any of these tokens
  abbrev Aligned : List Located → Option Integer → Type 0
  Aligned us a = InOrder us (alignment_demands a)

  tail_kept : (us : List Located) (a : Option Integer) → Aligned us a → Spans (tail_row a) (λ vs b. Aligned (us ++ vs) b)
  tail_kept us None h =
      spans_alt class
      (spans_mapped Some (λ vs b. Aligned (us ++ vs) b) (spans_draws _ (draws_second (word terminal.Align) draws_index)) (λ vs i d. preceded us vs (alignment_demands (Some i)) (d tt)))
      (spans_alt class
      (spans_mapped _ (λ vs b. Aligned (us ++ vs) b) (spans_any section_row) (λ vs u x. tt))
      (spans_mapped _ (λ vs b. Aligned (us ++ vs) b) (spans_any attachment_row) (λ vs u x. tt)))
  tail_kept us (Some i) h =
      spans_alt class
      (spans_mapped _ (λ vs b. Aligned (us ++ vs) b) (spans_any section_row) (λ vs u x. followed us vs (alignment_demands (Some i)) h))
      (spans_mapped _ (λ vs b. Aligned (us ++ vs) b) (spans_any attachment_row) (λ vs u x. followed us vs (alignment_demands (Some i)) h))

  step_kept : (us : List Located) (a : Option Integer) → Aligned us a → Spans (tail_step a) (λ vs b. Aligned (us ++ vs) b)
  step_kept us a h = record {
    value = λ ts b w.
        subst (λ all. Aligned (us ++ all) b) (sym w.3)
        (subst (λ all. Aligned all b) (append_assoc us w.0 w.1)
        ((tail_kept (us ++ w.0) a (followed us w.0 (alignment_demands a) h)).value w.1 b w.5));
  }

  abbrev aligned_asked : Unit {0} → Option Integer → List Demand
  aligned_asked x a = alignment_demands a

  draws_tails : Draws tails_row aligned_asked
  draws_tails = record { value = λ us a w x. (spans_loop class comma_shape Aligned step_kept [] None tt).value us a w }

  abbrev rest_asked : Known × TypeTree → Option ConstantTree × Option Integer → List Demand
  rest_asked x v = initialiser_demands x.0 x.1 v.0 ++ alignment_demands v.1

  draws_rest_core : (written : Option Linkage) → Draws (variable_rest_core limits written) rest_asked
  unfolding variable_rest_core
  draws_rest_core written =
      draws_so rest_asked (draws_pair (draws_labelled initialiser_shape (draws_initialiser_core written)) draws_tails) (λ us v d x. d (x, tt))

  -- behind the name
  abbrev Named : List Located → GlobalHead → Type 0
  Named us h = Drawn new_asked us h.0

  abbrev content_asked : Known → TypeTree × (Option ConstantTree × Option Integer) → List Demand
  content_asked known v = type_demands known v.0 ++ rest_asked (known, v.0) v.1

  spans_variable_core : (us : List Located) (h : GlobalHead) → Named us h → Spans (variable_core limits h) (λ vs i. Drawn item_asked (us ++ vs) i)
  unfolding variable_core
  spans_variable_core us h named =
      spans_mapped _ (λ vs i. Drawn item_asked (us ++ vs) i)
      (spans_draws (λ known v. content_asked known v.1)
      (draws_right constant_word_row
      (draws_so content_asked (draws_pair (draws_type limits) (draws_labelled variable_rest_shape (draws_rest_core h.1))) (λ vs v d known. d (known, (known, v.0))))))
      (λ vs v d x. joined us vs (is_new (filter_map global_name x.1) h.0) (content_asked x.0 v.1) (named (filter_map global_name x.1)) (d x.0))

  abbrev alias_type_asked : Known → AliasTypeTree → List Demand
  alias_type_asked known ty = alias_type_demands known ty

  alias_type_drawn : (us vs : List Located) (t : TypeTree) (s : Option SignatureTree) → Drawn type_demands us t → Drawn signature_asked vs s → Drawn alias_type_asked (us ++ vs) (alias_type_of t s)
  alias_type_drawn us vs t None d e known = followed us vs (type_demands known t) (d known)
  alias_type_drawn us vs t (Some s) d e known = joined us vs (type_demands known t) (flat_map (type_demands known) s.0) (d known) (e (known, []))

  draws_alias_type_core : Draws (alias_type_core limits) alias_type_asked
  unfolding alias_type_core
  draws_alias_type_core = draws_both alias_type_of alias_type_asked (draws_type limits) (draws_signature limits) alias_type_drawn

  draws_alias_target_core : Draws alias_target_core global_asked
  unfolding alias_target_core
  draws_alias_target_core = draws_second (word terminal.Comma) (draws_second (word terminal.Ptr) draws_global)

  spans_alias_core : (us : List Located) (h : GlobalHead) → Named us h → Spans (alias_core limits h) (λ vs i. Drawn item_asked (us ++ vs) i)
  unfolding alias_core
  spans_alias_core us h named =
      spans_mapped _ (λ vs i. Drawn item_asked (us ++ vs) i)
      (spans_draws (pair_asked alias_type_asked global_asked)
      (draws_second (word terminal.«Alias») (draws_pair (draws_labelled alias_type_shape draws_alias_type_core) (draws_labelled comma_shape draws_alias_target_core))))
      (λ vs v d x.
      joined us vs (is_new (filter_map global_name x.1) h.0) (alias_type_demands x.0 v.0 ++ is_global x.0 v.1 ∷ []) (named (filter_map global_name x.1)) (d (x.0, x.0)))

  spans_behind_core : (us : List Located) (h : GlobalHead) → Named us h → Spans (global_behind_core limits h) (λ vs i. Drawn item_asked (us ++ vs) i)
  unfolding global_behind_core
  spans_behind_core us h named = spans_alt class (spans_labelled alias_shape (spans_alias_core us h named)) (spans_labelled variable_shape (spans_variable_core us h named))

  draws_global_head_core : Draws global_head_core (λ names h. is_new names h.0)
  unfolding global_head_core
  draws_global_head_core = draws_left (keep_first optional_linkage_row global_words_row) (draws_before (word terminal.Equals) draws_new)

  draws_global_item : Draws (global_row limits) item_asked
  draws_global_item =
      draws_spans item_asked
      (spans_chain global_behind_shape (Drawn item_asked) (spans_labelled global_head_shape (spans_draws (λ names h. is_new names h.0) draws_global_head_core))
      (λ us h named. spans_labelled global_behind_shape (spans_behind_core us h named)))

  -- ---- functions

  abbrev head_asked : Known × List PlacedName → HeadTree → List Demand
  head_asked x head = head_demands x.0 x.1 head

  draws_head_core : Draws (head_core limits) head_asked
  unfolding head_core
  draws_head_core =
      draws_mapped _ head_asked
      (draws_right optional_linkage_row
      (draws_second global_words_row (draws_second convention_row (draws_second parameter_attributes_row (draws_pair (draws_type limits) draws_new)))))
      (λ us v d x. d x)

  abbrev declared_asked : Known → List TypeTree × Bool → List Demand
  declared_asked known s = flat_map (type_demands known) s.0

  draws_declared_core : Draws (declared_core limits) declared_asked
  unfolding declared_core
  draws_declared_core =
      draws_mapped _ declared_asked (draws_before function_attributes_row (draws_declared true limits)) (λ us s d known. subst (InOrder us) (sym (parameters_flat known s.0)) (d known))

  draws_declaration : Draws (declaration_row limits) item_asked
  draws_declaration =
      draws_mapped _ item_asked
      (draws_right (word terminal.Declare)
      (draws_second metadata_row (draws_pair (draws_labelled head_shape draws_head_core) (draws_labelled declared_shape draws_declared_core))))
      (λ us v d x. d ((x.0, filter_map global_name x.1), x.0))

  draws_body_core : Draws (body_core limits) blocks_asked
  unfolding body_core
  draws_body_core = draws_second function_attributes_row (draws_second metadata_row (draws_blocks limits))

  abbrev defined_asked : Known → ParametersTree × List BlockTree → List Demand
  defined_asked known v = definition_demands known v.0.0 v.1

  draws_defined_core : Draws (defined_core limits) defined_asked
  unfolding defined_core
  draws_defined_core =
      draws_so defined_asked (draws_pair (draws_defined limits.with_left_out limits) (draws_labelled body_shape draws_body_core))
      (λ us v d known.
      let all = locals_from 0 (announced v.0.0 v.1) in
      d (((known, all), none_called), ((known, all), called_after none_called (announced v.0.0 []))))

  draws_definition : Draws (definition_row limits) item_asked
  draws_definition =
      draws_mapped _ item_asked
      (draws_right (word terminal.Define) (draws_pair (draws_labelled head_shape draws_head_core) (draws_labelled parameters_shape draws_defined_core)))
      (λ us v d x. d ((x.0, filter_map global_name x.1), x.0))

  -- ---- all items

  draws_source : Draws source_row item_asked
  draws_source = draws_mapped _ item_asked (draws_left quoted_row (draws_before (word terminal.Equals) (draws_once terminal.SourceFilename))) (λ us v d x. d (first_of (filter_map source_place x.1)))

  draws_target : Draws target_row item_asked
  draws_target =
      draws_alt class
      (draws_mapped _ item_asked (draws_left quoted_row (draws_before (word terminal.Equals) (draws_once terminal.DataLayout))) (λ us v d x. d (first_of (filter_map layout_place x.1))))
      (draws_mapped _ item_asked (draws_left quoted_row (draws_before (word terminal.Equals) (draws_once terminal.Triple))) (λ us v d x. d (first_of (filter_map triple_place x.1))))

  draws_attributes : Draws attributes_row item_asked
  draws_attributes = record { value = λ us i w x. subst (λ j. InOrder us (item_demands x.0 x.1 j)) (sym w.2) tt }

  draws_metadata : Draws metadata_item_row item_asked
  draws_metadata = record { value = λ us i w x. subst (λ j. InOrder us (item_demands x.0 x.1 j)) (sym w.2) tt }

  draws_item_core : Draws (item_core limits) item_asked
  unfolding item_core
  draws_item_core =
      draws_alt class draws_source
      (draws_alt class (draws_second (word terminal.Target) draws_target)
      (draws_alt class draws_struct
      (draws_alt class draws_global_item
      (draws_alt class draws_declaration
      (draws_alt class draws_definition
      (draws_alt class draws_attributes draws_metadata))))))

  abbrev items_asked : Known × List ItemTree → List ItemTree → List Demand
  items_asked x items = demands_behind x.0 x.1 items

  follow_items : Follows item_asked items_asked
  follow_items = record {
    first = λ x i. x;
    next = λ x i. (x.0, x.1 ++ i ∷ []);
    none = λ x. refl;
    some = λ x i more. refl;
  }

  draws_items : Draws (items_row limits) items_asked
  draws_items = draws_many_by class items_asked follow_items (draws_labelled item_shape draws_item_core)

-- all that the items of a text ask for
pub in_order : DemandsInOrder
in_order text items h = (draws_items language).value (text_tokens text) items h.are_items (known_in items, [])
