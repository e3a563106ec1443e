-- What the variables of a valid module need, and where they lie in a run of the module alone.
use Rattle.std.proofs.Common.{◌≡◌, ℕ, ◌*◌, List, [], ◌∷◌, map, filter, Bool, true, false, not, ◌||◌, cond, Option, Some, None, refl, sym, ap, ◌∙◌, arith, true≢false, zero-add}
use Rattle.std.specs.Prelude.{slice_get, unwrap_or, filter_map, if◌then◌else◌, ⊤}
use Rattle.std.specs.List.{AllByRecursion, cons_option}
use Rattle.std.specs.Option.{option_map, option_map_or}
use Rattle.std.proofs.lemmas.Bool.{cond-true}
use Rattle.type_table.specs.Layout.{size, align}
use Rattle.type_table.specs.Shape.{Shape, array_of}
use Rattle.type_table.specs.Shape as shapes
use Rattle.type_table.specs.Tree.{Tree, Structs, int, ptr, void, array, struct, named}
use Rattle.type_table.specs.Types.{tree}
use Rattle.module_arena.specs.declared.entry.Variable as the_variable
use Rattle.module_arena.specs.EntryRules as rules
use Rattle.module_arena.specs.Lists.{Lists}
use Rattle.module_arena.specs.Module.{Constant, Variable, Module}
use Rattle.module_arena.specs.Valid.{IsValid}
use Rattle.module_arena.specs.View.{module_of}
use Rattle.module_arena.specs.WellFormed.{IsWellFormed}
use Rattle.module_arena.proofs.Parts.{valid_variable}
use Rattle.linkage_rules.specs.declared.symbol.Symbol.{Symbol}
use Rattle.linkage_rules.specs.Entries.{Entry, entries, symbol_of}
use Rattle.linkage_rules.specs.Globals.{OfVariable, linkage_of, type_of, stated, element_of, length_of}
use Rattle.linkage_rules.specs.Linkages.{is_appending, is_common}
use Rattle.linkage_rules.specs.Lists.{greatest}
use Rattle.linkage_rules.specs.Addresses.{Room, room, rooms, joined_length, greatest_stated, alignment_in, align_in, size_by, alignment_by}
use Rattle.linkage_rules.specs.Winner.{definitions, is_definition, size_in}
use Rattle.linkage_rules.proofs.ValidParts.{same_appending}
use Rattle.run_names.specs.Spots.{is_defined, size_of, align_of}
use Rattle.run_names.proofs.Apart.{own_entries, own_home}
use Rattle.run_names.proofs.Listed.{all_from_places}
use Rattle.run_names.proofs.OneModule.{entry, module_apart, variable_in, variable_symbols_are}
use Rattle.run_names.proofs.Meant.{aliases_defined}
use Rattle.run_names.proofs.Arena.{variable_seen, variables_are, variable_there, structs_are, variable_defined}

-- ---- the room of one definition

greatest_one : (o : Option ℕ) (d : ℕ) → unwrap_or (greatest (cons_option o [])) d ≡ unwrap_or o d
greatest_one None d = refl
greatest_one (Some n) d = refl

module _ (parts : List Module) (e : Entry) where
  one_alignment : alignment_by parts e (e ∷ []) ≡ alignment_in parts e
  one_alignment = go (is_appending (linkage_of e.global)) (is_common (linkage_of e.global))
    where
      go : (b c : Bool)
          → (if b then unwrap_or (greatest_stated (e ∷ [])) (align_in parts e.part (type_of e.global)) else (if c then unwrap_or (greatest (map (alignment_in parts) (cond c (e ∷ []) []))) (alignment_in parts e) else alignment_in parts e))
          ≡ alignment_in parts e
      go true c = greatest_one (stated e.global) (align_in parts e.part (type_of e.global))
      go false true = refl
      go false false = refl

  -- what is appended is an array
  abbrev IsArray : Tree → Type 0
  IsArray (array n t) = ⊤
  IsArray (int w) = ⊥
  IsArray ptr = ⊥
  IsArray void = ⊥
  IsArray (struct packed ts) = ⊥
  IsArray (named name) = ⊥

  elements_size : (t : Tree) → IsArray t → length_of t * size_in parts e.part (element_of t) ≡ size_in parts e.part t
  elements_size (array n t) h = go (shapes.shape _ t)
    where
      go : (o : Option Shape) → n * option_map_or size o 0 ≡ option_map_or size (option_map (array_of n) o) 0
      go None = omega arith
      go (Some s) = refl
  elements_size (int w) h = absurd h
  elements_size ptr h = absurd h
  elements_size void h = absurd h
  elements_size (struct packed ts) h = absurd h
  elements_size (named name) h = absurd h

  one_length : joined_length (e ∷ []) ≡ length_of (type_of e.global)
  one_length = zero-add (length_of (type_of e.global))

  one_size : (is_appending (linkage_of e.global) ≡ true → IsArray (type_of e.global)) → size_by parts e (e ∷ []) ≡ size_in parts e.part (type_of e.global)
  one_size h = go (is_appending (linkage_of e.global)) h
    where
      go : (b : Bool) → (b ≡ true → IsArray (type_of e.global)) → (if b then joined_length (e ∷ []) * size_in parts e.part (element_of (type_of e.global)) else size_in parts e.part (type_of e.global)) ≡ size_in parts e.part (type_of e.global)
      go true h = ap (λ n. n * size_in parts e.part (element_of (type_of e.global))) one_length ∙ elements_size (type_of e.global) (h refl)
      go false h = refl

list_is_array : (parts : List Module) (e : Entry) (t : Tree) (i : Option Constant) → rules.is_list_variable t i ≡ true → IsArray parts e t
list_is_array parts e (array n t) i h = tt
list_is_array parts e (int w) i h = true≢false (sym h)
list_is_array parts e ptr i h = true≢false (sym h)
list_is_array parts e void i h = true≢false (sym h)
list_is_array parts e (struct packed ts) i h = true≢false (sym h)
list_is_array parts e (named name) i h = true≢false (sym h)

pub or_other : (b c : Bool) → (not b || c) ≡ true → b ≡ true → c ≡ true
or_other true c h e = h
or_other false c h e = absurd (true≢false (sym e))

-- ---- the rooms of all

module _ (a : Lists) (well_formed : IsWellFormed (module_of a)) (valid : IsValid (module_of a)) where
  abbrev m : Module
  m = module_of a

  abbrev parts : List Module
  parts = m ∷ []

  abbrev pub entry_of : the_variable.Variable → Entry
  entry_of v = entry (OfVariable (variable_seen a v))

  abbrev pub room_of : the_variable.Variable → Room
  room_of v = record { size = size_of a v; alignment = align_of a v }

  -- a variable and what it needs
  abbrev pub row_of : the_variable.Variable → Symbol × Room
  row_of v = (symbol_of (entry_of v), room_of v)

  module _ (n : ℕ) (v : the_variable.Variable) (at : slice_get a.variables n ≡ Some v) where
    place : slice_get (entries parts) n ≡ Some (entry_of v)
    place = variable_in m n (variable_seen a v) (variable_there a n v at)

    appends : is_appending v.linkage ≡ true → IsArray parts (entry_of v) (tree a.table v.ty)
    appends h =
        list_is_array parts (entry_of v) (tree a.table v.ty) (variable_seen a v).initialiser
        (or_other (rules.is_appending v.linkage) (rules.is_list_variable (tree a.table v.ty) (variable_seen a v).initialiser) (valid_variable m n (variable_seen a v) valid (variable_there a n v at)).1.1.0 (sym (same_appending v.linkage) ∙ h))

    size_is : size_in parts 0 (tree a.table v.ty) ≡ size_of a v
    size_is = ap (λ (ss : Structs). option_map_or size (shapes.shape ss (tree a.table v.ty)) 0) (structs_are a)

    alignment_is : alignment_in parts (entry_of v) ≡ align_of a v
    alignment_is = ap (λ (ss : Structs). unwrap_or v.alignment (option_map_or align (shapes.shape ss (tree a.table v.ty)) 1)) (structs_are a)

    own_definitions : is_definition (entry_of v) ≡ true → definitions parts (symbol_of (entry_of v)) ≡ entry_of v ∷ []
    own_definitions h = ap (filter is_definition) (own_entries parts (module_apart m well_formed) n (entry_of v) place) ∙ cond-true (is_definition (entry_of v)) (entry_of v ∷ []) [] h

    pub room_is : room parts (symbol_of (entry_of v)) ≡ (if is_defined v then Some (room_of v) else None)
    room_is =
        ap (option_map {U = Room} (λ (e : Entry). record { size = size_by parts e (definitions parts (symbol_of (entry_of v))); alignment = alignment_by parts e (definitions parts (symbol_of (entry_of v))) }))
        (own_home parts (module_apart m well_formed) n (entry_of v) place)
        ∙ go (is_definition (entry_of v)) refl ∙ ap (λ b. if b then Some (room_of v) else None) (variable_defined a v)
      where
        go : (b : Bool) → is_definition (entry_of v) ≡ b
            → option_map {U = Room} (λ (e : Entry). record { size = size_by parts e (definitions parts (symbol_of (entry_of v))); alignment = alignment_by parts e (definitions parts (symbol_of (entry_of v))) })
            (if b then Some (entry_of v) else None) ≡ (if b then Some (room_of v) else None)
        go true h =
            let sizes = ap (size_by parts (entry_of v)) (own_definitions h) ∙ one_size parts (entry_of v) appends ∙ size_is in
            let alignments = ap (alignment_by parts (entry_of v)) (own_definitions h) ∙ one_alignment parts (entry_of v) ∙ alignment_is in
            (λ j. Some (record { size = sizes j; alignment = alignments j }))
        go false h = refl

  rows : (vs : List the_variable.Variable) → AllByRecursion (λ v. room parts (symbol_of (entry_of v)) ≡ (if is_defined v then Some (room_of v) else None)) vs
      → filter_map (λ s. option_map {U = Symbol × Room} (λ r. (s, r)) (room parts s)) (map symbol_of (map entry (map OfVariable (map (variable_seen a) vs)))) ≡ map row_of (filter is_defined vs)
  rows [] h = refl
  rows (v ∷ vs) h =
      ap (λ o. cons_option (option_map {U = Symbol × Room} (λ r. (symbol_of (entry_of v), r)) o) (filter_map (λ s. option_map {U = Symbol × Room} (λ r. (s, r)) (room parts s)) (map symbol_of (map entry (map OfVariable (map (variable_seen a) vs)))))) h.0
      ∙ go (is_defined v) (rows vs h.1)
    where
      go : (b : Bool) → filter_map (λ s. option_map {U = Symbol × Room} (λ r. (s, r)) (room parts s)) (map symbol_of (map entry (map OfVariable (map (variable_seen a) vs)))) ≡ map row_of (filter is_defined vs)
          → cons_option (option_map {U = Symbol × Room} (λ r. (symbol_of (entry_of v), r)) (if b then Some (room_of v) else None)) (filter_map (λ s. option_map {U = Symbol × Room} (λ r. (s, r)) (room parts s)) (map symbol_of (map entry (map OfVariable (map (variable_seen a) vs)))))
          ≡ map row_of (cond b (v ∷ filter is_defined vs) (filter is_defined vs))
      go true e = ap (λ l. row_of v ∷ l) e
      go false e = e

  -- the variables that lie in memory are those that are defined, in order
  pub rooms_are : rooms parts ≡ map row_of (filter is_defined a.variables)
  rooms_are =
      ap (filter_map (λ s. option_map {U = Symbol × Room} (λ r. (s, r)) (room parts s)))
      (variable_symbols_are m well_formed (aliases_defined m well_formed valid) ∙ ap (λ vs. map symbol_of (map entry (map OfVariable vs))) (variables_are a))
      ∙ rows a.variables (all_from_places _ a.variables (λ k v at. room_is k v at))
