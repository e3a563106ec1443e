-- A well-formed and valid module fits.
use Rattle.std.proofs.Common.{◌≡◌, ℕ, true, ◌&&◌, List, [], ◌∷◌, ◌++◌, length, map, flat_map, filter_map, Option, Some, None}
use Rattle.std.specs.Prelude.{nat_lt, nat_le}
use Rattle.std.specs.List.{list_all, AllByRecursion}
use Rattle.std.specs.Option.{option_to_list}
use Rattle.std.proofs.lemmas.Bool.{and_parts, leb-true}
use Rattle.bit_stream.specs.Writer.{begun}
use Rattle.bit_tree.specs.Written.{tree_of}
use Rattle.type_table.specs.Tree.{Tree}
use Rattle.module_arena.specs.Module.{Bytes, LocalName, Named, Numbered, Block, Alias, Function, Module}
use Rattle.module_arena.specs.Functions.{blocks, body, variable_names, alias_names, function_names}
use Rattle.module_arena.specs.Names.{is_name, is_local_name, local_names, parameter_names, block_results, has_good_names}
use Rattle.module_arena.specs.Valid.{IsValid, module_demands, variable_demands, alias_demands, function_demands}
use Rattle.module_arena.specs.WellFormed.{IsWellFormed, is_good_text, is_good_function, is_good_type, is_good_constant, known_of_variable, known_of_block, struct_names, global_names, alias_count}
use Rattle.module_arena.proofs.Parts.{front_holds, rest_holds}
use Rattle.record_table.specs.Fields.{name_in}
use Rattle.record_table.specs.Listed.{IsName, AreBytes}
use Rattle.record_table.specs.FittingLines.{IfSome}
use Rattle.record_table.specs.StringTable.{has_text}
use Rattle.record_table.specs.Mentions.{in_struct, in_variable, in_function, in_alias_type, mentioned}
use Rattle.record_table.specs.Records.{StandFor}
use Rattle.record_table.specs.Spelling.{names_of_body, texts_of_body, texts_of, texts_in, written_module}
use Rattle.record_law.specs.Types.ReadTypes.{TypesAreRead}
use Rattle.record_law.specs.FittingModules.{at_types, TailFits, behind_types, ModuleFits}
use Rattle.record_law.proofs.Joined.{stands}
use Rattle.record_law.proofs.OnTypes.Tests.{all_front, all_rest, each_passes, front_of, rest_of, both_of}
use Rattle.record_law.proofs.OnTypes.TextsHeld.{held}
use Rattle.record_law.proofs.OnTypes.TypesInOrder.{has, written_there}
use Rattle.record_law.proofs.OnTypes.TypesFit.{name_again, has_each, types_back}
use Rattle.record_law.proofs.OnFits.BodiesFit.{functions_fit}
use Rattle.record_law.proofs.OnFits.EntriesFit.{variables_fit, records_fit, aliases_fit, all_variables, all_functions, all_aliases}

-- ---- texts are bytes
abbrev AreTexts : List Bytes → Type 0
AreTexts texts = AllByRecursion AreBytes texts

of_name_bytes : (bs : Bytes) → list_all (λ c. nat_lt 0 c && nat_lt c 256) bs ≡ true → AreBytes bs
of_name_bytes [] h = tt
of_name_bytes (b ∷ bs) h =
    let p = and_parts (nat_lt 0 b && nat_lt b 256) (list_all (λ c. nat_lt 0 c && nat_lt c 256) bs) h in
    ((and_parts (nat_lt 0 b) (nat_lt b 256) p.0).1, of_name_bytes bs p.1)

of_name : (name : Bytes) → is_name name ≡ true → AreBytes name
of_name [] h = tt
of_name (b ∷ bs) h = of_name_bytes (b ∷ bs) h

of_names : (names : List Bytes) → list_all is_name names ≡ true → AreTexts names
of_names [] h = tt
of_names (n ∷ ns) h = let p = and_parts (is_name n) (list_all is_name ns) h in (of_name n p.0, of_names ns p.1)

of_text : (text : Option Bytes) → is_good_text text ≡ true → AreTexts (option_to_list text)
of_text None h = tt
of_text (Some text) h = (each_passes (λ b. nat_lt b 256) text h, tt)

of_locals : (names : List LocalName) → list_all is_local_name names ≡ true → AreTexts (filter_map name_in names)
of_locals [] h = tt
of_locals (Named n ∷ ns) h = let p = and_parts (is_name n) (list_all is_local_name ns) h in (of_name n p.0, of_locals ns p.1)
of_locals (Numbered n ∷ ns) h = of_locals ns h

of_blocks : (f : Function) (o : Option (List Block)) → list_all is_local_name (parameter_names f ++ flat_map (λ (b : Block). b.name ∷ block_results b) (body o)) ≡ true
    → AreTexts (flat_map (λ (bs : List Block). filter_map name_in (names_of_body f bs)) (option_to_list o))
of_blocks f None h = tt
of_blocks f (Some bs) h = both_of AreBytes (filter_map name_in (names_of_body f bs)) [] (of_locals (names_of_body f bs) h) tt

module _ (m : Module) where
  of_bodies : (fs : List Function) → list_all (is_good_function m) fs ≡ true → AreTexts (flat_map texts_of_body fs)
  of_bodies [] h = tt
  of_bodies (f ∷ fs) h =
      let p = and_parts (is_good_function m f) (list_all (is_good_function m) fs) h in
      let q = and_parts _ _ (and_parts _ _ (and_parts (is_good_type m.structs f.returns) _ p.0).1).1 in
      let named = (and_parts (has_good_names f) _ q.1).0 in
      let locals = (and_parts (list_all is_local_name (local_names f)) _ named).0 in
      both_of AreBytes (texts_of_body f) (flat_map texts_of_body fs) (of_blocks f f.body locals) (of_bodies fs p.1)

  -- the texts up to a kind of them
  abbrev sources : List Bytes
  sources = option_to_list m.source

  abbrev to_layout : List Bytes
  to_layout = sources ++ option_to_list m.layout

  abbrev to_triple : List Bytes
  to_triple = to_layout ++ option_to_list m.triple

  abbrev to_structs : List Bytes
  to_structs = to_triple ++ map (λ s. s.0) m.structs

  abbrev to_variables : List Bytes
  to_variables = to_structs ++ map (λ v. v.name) m.variables

  abbrev to_functions : List Bytes
  to_functions = to_variables ++ map (λ f. f.name) m.functions

  abbrev to_aliases : List Bytes
  to_aliases = to_functions ++ map (λ a. a.name) m.aliases

  of_all : IsWellFormed m → AreTexts (texts_of m)
  of_all well =
      let texts = and_parts (is_good_text m.source) (is_good_text m.layout && is_good_text m.triple) well.texts in
      let others = and_parts (is_good_text m.layout) (is_good_text m.triple) texts.1 in
      let globals = (and_parts (list_all is_name (global_names m)) _ well.global_names).0 in
      let behind = all_rest is_name (variable_names m) (alias_names m ++ function_names m) globals in
      let ss = (and_parts (list_all is_name (struct_names m)) _ well.struct_names).0 in
      both_of AreBytes to_aliases (flat_map texts_of_body m.functions)
      (both_of AreBytes to_functions (alias_names m)
      (both_of AreBytes to_variables (function_names m)
      (both_of AreBytes to_structs (variable_names m)
      (both_of AreBytes to_triple (struct_names m)
      (both_of AreBytes to_layout (option_to_list m.triple) (both_of AreBytes sources (option_to_list m.layout) (of_text m.source texts.0) (of_text m.layout others.0)) (of_text m.triple others.1))
      (of_names (struct_names m) ss))
      (of_names (variable_names m) (all_front is_name (variable_names m) (alias_names m ++ function_names m) globals)))
      (of_names (function_names m) (all_rest is_name (alias_names m) (function_names m) behind)))
      (of_names (alias_names m) (all_front is_name (alias_names m) (function_names m) behind)))
      (of_bodies m.functions well.functions)

  -- ---- texts are held
  abbrev Held : Bytes → Type 0
  Held text = (texts_in m).holds text ≡ true

  each_held : (texts : List Bytes) → AllByRecursion (λ x. has_text (texts_of m) x ≡ true) texts → AllByRecursion Held texts
  each_held [] there = tt
  each_held (t ∷ texts) there = (held m t there.0, each_held texts there.1)

  all_held : AllByRecursion Held (texts_of m)
  all_held = each_held (texts_of m) (has_each (texts_of m))

  held_aliases : AllByRecursion Held to_aliases
  held_aliases = front_of Held to_aliases (flat_map texts_of_body m.functions) all_held

  held_functions : AllByRecursion Held to_functions
  held_functions = front_of Held to_functions (map (λ a. a.name) m.aliases) held_aliases

  held_variables : AllByRecursion Held to_variables
  held_variables = front_of Held to_variables (map (λ f. f.name) m.functions) held_functions

  held_structs : AllByRecursion Held to_structs
  held_structs = front_of Held to_structs (map (λ v. v.name) m.variables) held_variables

  held_triple : AllByRecursion Held to_triple
  held_triple = front_of Held to_triple (map (λ s. s.0) m.structs) held_structs

  text_held : (o : Option Bytes) → AllByRecursion Held (option_to_list o) → IfSome Held o
  text_held None held = tt
  text_held (Some t) held = held.0

  names_held : {A : Type 0} (name_of : A → Bytes) (xs : List A) → AllByRecursion Held (map name_of xs) → list_all is_name (map name_of xs) ≡ true → AllByRecursion (λ x. IsName (texts_in m) (name_of x)) xs
  names_held name_of [] held good = tt
  names_held name_of (x ∷ xs) held good =
      let p = and_parts (is_name (name_of x)) (list_all is_name (map name_of xs)) good in
      ((held.0, name_again (name_of x) p.0), names_held name_of xs held.1 p.1)

  -- ---- the whole
  module _ (well : IsWellFormed m) (valid : IsValid m) where
    good_globals : list_all is_name (global_names m) ≡ true
    good_globals = (and_parts (list_all is_name (global_names m)) _ well.global_names).0

    good_behind : list_all is_name (alias_names m ++ function_names m) ≡ true
    good_behind = all_rest is_name (variable_names m) (alias_names m ++ function_names m) good_globals

    variables_named : AllByRecursion (λ v. IsName (texts_in m) v.name) m.variables
    variables_named = names_held (λ v. v.name) m.variables (rest_of Held to_structs (map (λ v. v.name) m.variables) held_variables) (all_front is_name (variable_names m) (alias_names m ++ function_names m) good_globals)

    functions_named : AllByRecursion (λ f. IsName (texts_in m) f.name) m.functions
    functions_named = names_held (λ f. f.name) m.functions (rest_of Held to_variables (map (λ f. f.name) m.functions) held_functions) (all_rest is_name (alias_names m) (function_names m) good_behind)

    aliases_named : AllByRecursion (λ a. IsName (texts_in m) a.name) m.aliases
    aliases_named = names_held (λ a. a.name) m.aliases (rest_of Held to_functions (map (λ a. a.name) m.aliases) held_aliases) (all_front is_name (alias_names m) (function_names m) good_behind)

    tail_fits : (at : ℕ) → TailFits (behind_types m at) m.variables m.functions m.aliases at
    tail_fits at =
        let later = rest_holds (module_demands m) _ valid in
        let of_variables = front_holds (flat_map (variable_demands m) m.variables) (flat_map (alias_demands m) m.aliases ++ flat_map (function_demands m) m.functions) later in
        let behind = rest_holds (flat_map (variable_demands m) m.variables) (flat_map (alias_demands m) m.aliases ++ flat_map (function_demands m) m.functions) later in
        let of_aliases = front_holds (flat_map (alias_demands m) m.aliases) (flat_map (function_demands m) m.functions) behind in
        let of_functions = rest_holds (flat_map (alias_demands m) m.aliases) (flat_map (function_demands m) m.functions) behind in
        let in_variables = flat_map known_of_variable m.variables in
        let in_functions = flat_map (λ (f : Function). flat_map known_of_block (blocks f)) m.functions in
        let P = λ (t : Tree). has (mentioned m) t ≡ true in
        let a = flat_map in_struct m.structs in
        let b = flat_map in_variable m.variables in
        let c = flat_map in_function m.functions in
        let d = flat_map (λ (x : Alias). in_alias_type x.ty) m.aliases in
        let to_c = front_of P (a ++ b ++ c) d (written_there m) in
        let to_b = front_of P (a ++ b) c to_c in
        let apart = (and_parts (list_all is_name (global_names m)) _ well.global_names).1 in
        let few = and_parts (nat_le (length m.structs) 262144) (nat_le (length m.variables) 262144 && (nat_le (length m.functions) 262144 && nat_le (alias_count m) 262144)) well.few in
        let fewer = and_parts (nat_le (length m.variables) 262144) (nat_le (length m.functions) 262144 && nat_le (alias_count m) 262144) few.1 in
        let fewest = and_parts (nat_le (length m.functions) 262144) (nat_le (alias_count m) 262144) fewer.1 in
        record {
          variables_fit = all_variables m at (variables_fit m m.variables variables_named of_variables (all_front (is_good_constant m) in_variables in_functions well.constants) (rest_of P a b to_b)) (leb-true (length m.variables) 262144 fewer.0) apart;
          functions_fit = all_functions m at (records_fit m m.functions functions_named (rest_of P (a ++ b) c to_c)) (leb-true (length m.functions) 262144 fewest.0) apart;
          aliases_fit = all_aliases m at (aliases_fit m m.aliases aliases_named of_aliases (rest_of P (a ++ b ++ c) d (written_there m))) (leb-true (alias_count m) 262144 fewest.1) apart;
          bodies_fit = functions_fit m (texts_in m) m.functions well.functions of_functions (all_rest (is_good_constant m) in_variables in_functions well.constants) (rest_of P (a ++ b) c to_c)
              (rest_of Held to_aliases (flat_map texts_of_body m.functions) all_held);
        }

    pub module_fits : ModuleFits m
    module_fits =
        let types : TypesAreRead m (at_types m) = types_back m well (at_types m) in
        record {
          texts_are_bytes = of_all well;
          source_is_held = text_held m.source (front_of Held sources (option_to_list m.layout) (front_of Held to_layout (option_to_list m.triple) held_triple));
          layout_is_held = text_held m.layout (rest_of Held sources (option_to_list m.layout) (front_of Held to_layout (option_to_list m.triple) held_triple));
          triple_is_held = text_held m.triple (rest_of Held to_layout (option_to_list m.triple) held_triple);
          variables_are_named = variables_named;
          functions_are_named = functions_named;
          aliases_are_named = aliases_named;
          types_are_read = types;
          tail_fits = tail_fits types.all.at;
        }

    pub tree_stands : StandFor (tree_of begun (written_module m)) m
    tree_stands = stands m module_fits
