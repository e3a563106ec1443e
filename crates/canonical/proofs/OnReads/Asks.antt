-- What the canonical items of a well-formed module ask for holds.
use Rattle.std.specs.Prelude.{◌≡◌, true, ◌&&◌, bytes_eq, List, [], ◌∷◌, ◌++◌, map, flat_map, Option, Some, None, option_map}
use Rattle.std.specs.List.{list_all}
use Rattle.std.specs.Option.{option_to_list}
use Rattle.std.proofs.Common.{sym, subst}
use Rattle.std.proofs.lemmas.Bool.{and_parts}
use Rattle.ir_tables.specs.Table.{is_distinct}
use Rattle.ir_syntax.specs.Tree.{SourceFilename, DataLayout, TargetTriple}
use Rattle.type_table.specs.Tree.{Tree, named, Structs}
use Rattle.module_arena.specs.Module.{Bytes, Constant, Block, Parameter, Variable, AliasType, PlainType, FunctionType, Alias, Function, Module}
use Rattle.module_arena.specs.Same.{same_local}
use Rattle.module_arena.specs.Functions.{body, blocks}
use Rattle.module_arena.specs.Names.{block_results, is_name, is_numbered_from}
use Rattle.module_arena.specs.WellFormed.{struct_names, global_names, is_good_type, is_good_body, are_good_structs, is_good_constant, types_of_alias, is_good_alias, has_entry}
use Rattle.canonical.specs.Items.Unplaced.{nowhere}
use Rattle.canonical.specs.Items.Parts.{type_tree, constant_tree}
use Rattle.canonical.specs.Items.Items.{text_item, struct_item, variable_item, alias_type_tree, alias_item, function_item_by, function_item, canon_items}
use Rattle.canonical.proofs.OnModules.Modules.{struct_all}
use Rattle.name_rules.specs.Demand.{first_refusal}
use Rattle.name_rules.specs.Measured.{struct_measures}
use Rattle.name_rules.specs.TypeDemands.{Known, type_demands}
use Rattle.name_rules.specs.Breaks.{known_in, initialiser_demands, alias_type_demands, demands_behind, demands}
use Rattle.canonical.specs.Reads.Laws.{IsGoodModule}
use Rattle.canonical.proofs.OnReads.Asked.{Held, held_none, held_more, held_both}
use Rattle.canonical.proofs.OnReads.Good.{first_of_all, others_of_all}
use Rattle.canonical.proofs.OnReads.GoodBodies.{AreGoodBlocks}
use Rattle.canonical.proofs.OnReads.GoodModule.{AreGoodVariables, AreGoodFunctions, the_variables, the_functions}
use Rattle.canonical.proofs.OnReads.TypesHold.{entry_there, known, type_holds, struct_holds, constant_at_holds}
use Rattle.canonical.proofs.OnReads.OperationsHold.{alignment_holds, parts_of}
use Rattle.canonical.proofs.OnReads.FunctionsHold.{names_in, definition_holds}
use Rattle.canonical.proofs.OnReads.ItemsHold.{own_demands, AllOwn, own_both, items_hold, globals_are, once}

-- what the canonical items of a good module ask for holds
abbrev pub AsksForNothing : Type 0
AsksForNothing = (m : Module) → IsGoodModule m → first_refusal (demands (canon_items m)) ≡ None

module _ (m : Module) (good : are_good_structs m.structs ≡ true) where
  abbrev k : Known
  k = known m good

  source_own : (t : Option Bytes) → AllOwn k (text_item (SourceFilename nowhere) t)
  source_own None = tt
  source_own (Some t) = (held_none, tt)

  layout_own : (t : Option Bytes) → AllOwn k (text_item (DataLayout nowhere) t)
  layout_own None = tt
  layout_own (Some t) = (held_none, tt)

  triple_own : (t : Option Bytes) → AllOwn k (text_item (TargetTriple nowhere) t)
  triple_own None = tt
  triple_own (Some t) = (held_none, tt)

  structs_own : (ss : Structs) → list_all (λ s. is_good_body m.structs s.1 && is_good_type m.structs (named s.0)) ss ≡ true → AllOwn k (map struct_item ss)
  structs_own [] e = tt
  structs_own (s ∷ ss) e =
      let a = and_parts (is_good_body m.structs s.1 && is_good_type m.structs (named s.0)) (list_all (λ s. is_good_body m.structs s.1 && is_good_type m.structs (named s.0)) ss) e in
      let b = and_parts (is_good_body m.structs s.1) (is_good_type m.structs (named s.0)) a.0 in
      (struct_holds m good s.0 s.1 b.0 b.1, structs_own ss a.1)

  initialiser_own : (ty : Tree) (c : Option Constant) → list_all (is_good_constant m) (map (λ c. (ty, c)) (option_to_list c)) ≡ true → Held (initialiser_demands k (type_tree ty) (option_map (constant_tree ty) c))
  initialiser_own ty None e = held_none
  initialiser_own ty (Some c) e = constant_at_holds m good ty c (parts_of m good ty c (first_of_all (is_good_constant m) (ty, c) [] e))

  variables_own : (vs : List Variable) → AreGoodVariables m vs → AllOwn k (map variable_item vs)
  variables_own [] g = tt
  variables_own (v ∷ vs) g = (held_both (type_holds m good v.ty g.0.ty) (held_both (initialiser_own v.ty v.initialiser g.0.initialiser) (alignment_holds v.alignment g.0.alignment)), variables_own vs g.1)

  types_own : (ts : List Tree) → list_all (is_good_type m.structs) ts ≡ true → Held (flat_map (type_demands k) (map type_tree ts))
  types_own [] e = held_none
  types_own (t ∷ ts) e = held_both (type_holds m good t (first_of_all (is_good_type m.structs) t ts e)) (types_own ts (others_of_all (is_good_type m.structs) t ts e))

  alias_type_own : (t : AliasType) → list_all (is_good_type m.structs) (types_of_alias t) ≡ true → Held (alias_type_demands k (alias_type_tree t))
  alias_type_own (PlainType ty) e = type_holds m good ty (first_of_all (is_good_type m.structs) ty [] e)
  alias_type_own (FunctionType s) e =
      held_both (type_holds m good s.returns (first_of_all (is_good_type m.structs) s.returns s.parameters e)) (types_own s.parameters (others_of_all (is_good_type m.structs) s.returns s.parameters e))

  aliases_own : (as_ : List Alias) → list_all (is_good_alias m) as_ ≡ true → AllOwn k (map alias_item as_)
  aliases_own [] e = tt
  aliases_own (a ∷ as_) e =
      let p = and_parts (list_all (is_good_type m.structs) (types_of_alias a.ty)) (has_entry m a.target) (first_of_all (is_good_alias m) a as_ e) in
      (held_both (alias_type_own a.ty p.0) (held_more (entry_there (global_names m) a.target p.1) held_none), aliases_own as_ (others_of_all (is_good_alias m) a as_ e))

  declared_own : (ps : List Parameter) → list_all (λ p. is_good_type m.structs p.ty) ps ≡ true → Held (flat_map (type_demands k) (map (λ p. type_tree p.ty) ps))
  declared_own [] e = held_none
  declared_own (p ∷ ps) e = held_both (type_holds m good p.ty (first_of_all (λ p. is_good_type m.structs p.ty) p ps e)) (declared_own ps (others_of_all (λ p. is_good_type m.structs p.ty) p ps e))

  function_own : (f : Function) (o : Option (List Block)) → is_good_type m.structs f.returns ≡ true → list_all (λ p. is_good_type m.structs p.ty) f.parameters ≡ true
      → AreGoodBlocks m (map (λ p. p.name) f.parameters ++ flat_map block_results (body o)) (map (λ b. b.name) (body o)) (body o)
      → is_numbered_from 0 (names_in f.parameters (body o)) ≡ true → is_distinct same_local (names_in f.parameters (body o)) ≡ true → Held (own_demands k (function_item_by f o))
  function_own f None r ts bs ordered apart = held_both (type_holds m good f.returns r) (declared_own f.parameters ts)
  function_own f (Some blocks) r ts bs ordered apart = held_both (type_holds m good f.returns r) (definition_holds m good f.parameters blocks ts bs ordered apart)

  functions_own : (fs : List Function) → AreGoodFunctions m fs → AllOwn k (map function_item fs)
  functions_own [] g = tt
  functions_own (f ∷ fs) g = (function_own f f.body g.0.returns g.0.types g.0.bodies g.0.ordered g.0.apart, functions_own fs g.1)

pub asks_for_nothing : AsksForNothing
asks_for_nothing m sound =
    let w = sound.well_formed in
    let good = w.structs in
    let here : known_in (canon_items m) ≡ known m good = λ i. record {
      structs = struct_all m i;
      measures = struct_measures (struct_all m i);
      globals = globals_are m i;
    } in
    let structs_apart = (and_parts (list_all is_name (struct_names m)) (is_distinct bytes_eq (struct_names m)) w.struct_names).1 in
    let globals_apart = (and_parts (list_all is_name (global_names m)) (is_distinct bytes_eq (global_names m)) w.global_names).1 in
    let own : AllOwn (known m good) (canon_items m) =
    own_both (known m good) (text_item (SourceFilename nowhere) m.source) _ (source_own m good m.source)
    (own_both (known m good) (text_item (DataLayout nowhere) m.layout) _ (layout_own m good m.layout)
    (own_both (known m good) (text_item (TargetTriple nowhere) m.triple) _ (triple_own m good m.triple)
    (own_both (known m good) (map struct_item m.structs) _ (structs_own m good m.structs good)
    (own_both (known m good) (map variable_item m.variables) _ (variables_own m good m.variables (the_variables m w))
    (own_both (known m good) (map alias_item m.aliases) (map function_item m.functions) (aliases_own m good m.aliases w.aliases) (functions_own m good m.functions (the_functions m w))))))) in
    (subst (λ kn. Held (demands_behind kn [] (canon_items m))) (sym here) (items_hold (known m good) (canon_items m) (once m structs_apart globals_apart) own)).none
