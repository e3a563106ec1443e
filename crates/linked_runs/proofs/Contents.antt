-- Variables hold the same at first in the result.
use Rattle.std.proofs.Common.{◌≡◌, ℕ, ◌+◌, Bool, true, false, cond, List, [], ◌∷◌, ◌++◌, map, Option, Some, None, refl, sym, ap, ap₂, ◌∙◌, option_map, option_to_list, flat_map, filter_map, zip, append-nil}
use Rattle.std.specs.Prelude.{if◌then◌else◌}
use Rattle.std.specs.List.{AllByRecursion, cons_option}
use Rattle.std.specs.Option.{option_map_or}
use Rattle.std.proofs.lemmas.Bool.{cond-false}
use Rattle.type_table.specs.Layout.{size}
use Rattle.type_table.specs.Tree.{Tree, array}
use Rattle.module_arena.specs.Module.{Bytes, Constant, Integer, Truth, Null, Undef, Poison, ZeroInitializer, Address, ByteString, Aggregate, ElementAddress, Cast, Binary, Square, Constants, no_constants, more_constants, Variable, Module}
use Rattle.linkage_rules.specs.Contents.Contents.{ContentPiece, pieces_of_constants, elements_of, elements_in, whole, pieces_by, pieces}
use Rattle.linkage_rules.specs.Entries.{Entry, same_symbol, symbol_of, entries}
use Rattle.linkage_rules.specs.declared.symbol.Symbol.{Symbol}
use Rattle.linkage_rules.specs.Globals.{Global, OfVariable, OfFunction, OfAlias, linkage_of, element_of}
use Rattle.linkage_rules.specs.Linkages.{is_appending}
use Rattle.linkage_rules.specs.Addresses.{joined_length}
use Rattle.linkage_rules.specs.Winner.{definitions, is_definition, home}
use Rattle.linkage_rules.proofs.Gathered.{all_joined}
use Rattle.link_rules.proofs.Symbols.{home_is, all_filter}
use Rattle.link_rules.specs.Linked.{linked_constant, linked_pieces, joined_alignment}
use Rattle.link_rules.specs.Rename.{new_global, new_name_of}
use Rattle.link_rules.specs.Structs.{new_struct, linked_type}
use Rattle.run_rules.specs.Constant.{shape_of, constant_value}
use Rattle.run_rules.specs.Leaves.{slots_at}
use Rattle.run_rules.specs.Look.{names_in}
use Rattle.run_rules.specs.Plan.{contents_from, contents_of, Constructor, constructor_of}
use Rattle.run_rules.proofs.OnLaws.SameConstants.{ConstantIn, ConstantsIn, same_constant}
use Rattle.link_rules.specs.Carried.{merged, IsSymbol, carry, moved}
use Rattle.link_rules.specs.Known.{KnownTree, KnownName}
use Rattle.linked_runs.proofs.Known.{InitialiserIn, IsKnown, AppendsLists, Fit}
use Rattle.link_rules.specs.Merges.{Merges}
use Rattle.linked_runs.proofs.SameNames.{agree}

pub all_flat : {A B : Type 0} (P : B → Type 0) (f : A → List B) (xs : List A) → AllByRecursion (λ x. AllByRecursion P (f x)) xs → AllByRecursion P (flat_map f xs)
all_flat P f [] a = tt
all_flat P f (x ∷ xs) a = all_joined P (f x) (flat_map f xs) a.0 (all_flat P f xs a.1)

-- the constructors that pieces of these parts are
abbrev pub constructors_in : List Module → List ContentPiece → List Constructor
constructors_in ms ps = filter_map (λ (p : ContentPiece). constructor_of (constant_value (names_in ms p.part) p.ty p.value)) ps

-- PIECES

-- what a piece of a variable is in the result
abbrev pub moved_piece : List Module → ContentPiece → ContentPiece
moved_piece parts p = record { part = 0; ty = linked_type parts p.part p.ty; value = linked_constant parts p.part p.value }

module _ (parts : List Module) where
  -- a piece's type and names are known
  abbrev pub KnownPiece : ContentPiece → Type 0
  KnownPiece p = KnownTree parts p.part p.ty × ConstantIn (KnownTree parts p.part) (KnownName parts p.part) p.ty p.value

  constants_known : (i : ℕ) (cs : Constants) → ConstantsIn (KnownTree parts i) (KnownName parts i) cs → AllByRecursion KnownPiece (pieces_of_constants i cs)
  constants_known i no_constants k = tt
  constants_known i (more_constants t c cs) k = ((k.0, k.1), constants_known i cs k.2)

  elements_known : (i : ℕ) (t : Tree) (c : Constant) → ConstantIn (KnownTree parts i) (KnownName parts i) t c → AllByRecursion KnownPiece (elements_of i c)
  elements_known i t (Aggregate b cs) k = constants_known i cs k
  elements_known i t (Integer n) k = tt
  elements_known i t (Truth b) k = tt
  elements_known i t Null k = tt
  elements_known i t Undef k = tt
  elements_known i t Poison k = tt
  elements_known i t ZeroInitializer k = tt
  elements_known i t (Address name) k = tt
  elements_known i t (ByteString bytes) k = tt
  elements_known i t (ElementAddress flags source operands) k = tt
  elements_known i t (Cast opcode from value to) k = tt
  elements_known i t (Binary opcode flags left_type left right_type right) k = tt

  pub entry_elements_known : (i : ℕ) (g : Global) → IsKnown parts i g → AllByRecursion KnownPiece (elements_in (record { part = i; global = g }))
  entry_elements_known i (OfVariable v) k = go v.initialiser k.1
    where
      go : (o : Option Constant) → InitialiserIn parts i v.ty o → AllByRecursion (KnownPiece) (option_map_or (elements_of i) o [])
      go None h = tt
      go (Some c) h = elements_known i v.ty c h
  entry_elements_known i (OfFunction f) k = tt
  entry_elements_known i (OfAlias a) k = tt

  pub whole_known : (i : ℕ) (g : Global) → IsKnown parts i g → AllByRecursion KnownPiece (whole (record { part = i; global = g }))
  whole_known i (OfVariable v) k = go v.initialiser k
    where
      go : (o : Option Constant) → KnownTree parts i v.ty × InitialiserIn parts i v.ty o → AllByRecursion (KnownPiece) (option_map_or {U = List ContentPiece} (λ c. record { part = i; ty = v.ty; value = c } ∷ []) o [])
      go None h = tt
      go (Some c) h = ((h.0, h.1), tt)
  whole_known i (OfFunction f) k = tt
  whole_known i (OfAlias a) k = tt

  all_elements_known : (es : List Entry) → AllByRecursion (λ e. IsKnown parts e.part e.global) es → AllByRecursion KnownPiece (flat_map elements_in es)
  all_elements_known [] a = tt
  all_elements_known (e ∷ es) a = all_joined KnownPiece (elements_in e) (flat_map elements_in es) (entry_elements_known e.part e.global a.0) (all_elements_known es a.1)

  pub definitions_known : Fit parts → (s : Symbol) → AllByRecursion (λ e. IsKnown parts e.part e.global) (definitions parts s)
  definitions_known fit s = all_filter _ is_definition _ (all_filter _ (λ e. same_symbol s (symbol_of e)) (entries parts) fit.known)

  pub pieces_known : Fit parts → (s : Symbol) → AllByRecursion KnownPiece (pieces parts s)
  pieces_known fit s = by_home (home parts s) refl
    where
      by_home : (o : Option Entry) → home parts s ≡ o → AllByRecursion (KnownPiece) (option_map_or (λ e. pieces_by e (definitions parts s)) o [])
      by_home None h = tt
      by_home (Some e) h = go (is_appending (linkage_of e.global)) (all_elements_known (definitions parts s) (definitions_known fit s)) (whole_known e.part e.global (home_is parts (λ d. IsKnown parts d.part d.global) s e fit.known h).0.0)
        where
          go : (b : Bool) → AllByRecursion (KnownPiece) (flat_map elements_in (definitions parts s)) → AllByRecursion (KnownPiece) (whole e) → AllByRecursion (KnownPiece) (if b then flat_map elements_in (definitions parts s) else whole e)
          go true x y = x
          go false x y = y

  -- PIECES OF THE RESULT

  pub pieces_linked : (ps : List ContentPiece) → pieces_of_constants 0 (linked_pieces parts ps) ≡ map (moved_piece parts) ps
  pieces_linked [] = refl
  pieces_linked (p ∷ ps) = ap (λ l. moved_piece parts p ∷ l) (pieces_linked ps)

  module _ (m : Bytes) (i : ℕ) (v : Variable) (es : List Entry) where
    -- a variable of the result, appended or not
    abbrev after : Bool → Entry
    after b = record {
      part = 0;
      global = OfVariable (record {
        name = m;
        linkage = v.linkage;
        constant = v.constant;
        ty = if b then array (joined_length es) (linked_type parts i (element_of v.ty)) else linked_type parts i v.ty;
        alignment = joined_alignment parts (record { part = i; global = OfVariable v }) es;
        initialiser = if b then Some (Aggregate Square (linked_pieces parts (flat_map elements_in es))) else option_map (linked_constant parts i) v.initialiser;
      });
    }

    variable_pieces : (b : Bool) → (if b then flat_map elements_in (after b ∷ []) else whole (after b)) ≡ map (moved_piece parts) (if b then flat_map elements_in es else whole (record { part = i; global = OfVariable v }))
    variable_pieces true = append-nil (pieces_of_constants 0 (linked_pieces parts (flat_map elements_in es))) ∙ pieces_linked (flat_map elements_in es)
    variable_pieces false = go v.initialiser
      where
        go : (o : Option Constant) → option_map_or {U = List ContentPiece} (λ c. record { part = 0; ty = linked_type parts i v.ty; value = c } ∷ []) (option_map (linked_constant parts i) o) [] ≡ map (moved_piece parts) (option_map_or (λ c. record { part = i; ty = v.ty; value = c } ∷ []) o [])
        go None = refl
        go (Some c) = refl

  entry_pieces : (s : Symbol) (i : ℕ) (g : Global) (es : List Entry) → es ≡ definitions parts s → AppendsLists i g
      → pieces_by (moved parts s (record { part = i; global = g })) (moved parts s (record { part = i; global = g }) ∷ []) ≡ map (moved_piece parts) (pieces_by (record { part = i; global = g }) (definitions parts s))
  entry_pieces s i (OfVariable v) es h lists = variable_pieces (new_name_of parts s) i v (definitions parts s) (is_appending v.linkage)
  entry_pieces s i (OfFunction f) es h lists =
      (λ k. cond {A = List ContentPiece} (lists k) [] []) ∙ sym (ap (map (moved_piece parts)) (cond-false (is_appending f.linkage) (flat_map elements_in (definitions parts s)) [] lists))
  entry_pieces s i (OfAlias a) es h lists =
      (λ k. cond {A = List ContentPiece} (lists k) [] []) ∙ sym (ap (map (moved_piece parts)) (cond-false (is_appending a.linkage) (flat_map elements_in (definitions parts s)) [] lists))

module _ (parts : List Module) (fit : Fit parts) (merges : Merges parts) where
  pub pieces_same : (s : Symbol) → IsSymbol parts s → pieces (merged parts) (carry parts s) ≡ map (moved_piece parts) (pieces parts s)
  pieces_same s here = (λ k. option_map_or (λ e. pieces_by e (merges.defined_once s here k)) (merges.homes s here k) []) ∙ by_home (home parts s) refl
    where
      by_home : (o : Option Entry) → home parts s ≡ o
          → option_map_or (λ e. pieces_by e (option_to_list (option_map (moved parts s) o))) (option_map (moved parts s) o) [] ≡ map (moved_piece parts) (option_map_or (λ e. pieces_by e (definitions parts s)) o [])
      by_home None h = refl
      by_home (Some e) h = entry_pieces parts s e.part e.global (definitions parts s) refl (home_is parts (λ d. AppendsLists d.part d.global) s e fit.appended h).0.0

  -- a piece has the same leaves
  value_same : (p : ContentPiece) → KnownPiece parts p → constant_value (names_in (merged parts) 0) (linked_type parts p.part p.ty) (linked_constant parts p.part p.value) ≡ constant_value (names_in parts p.part) p.ty p.value
  value_same p known =
      same_constant (names_in parts p.part) (names_in (merged parts) 0) (new_struct parts p.part) (new_global parts p.part) (KnownTree parts p.part) (KnownName parts p.part) (agree parts fit merges p.part) p.ty p.value known.1

  contents_moved : (ps : List ContentPiece) → AllByRecursion (KnownPiece parts) ps → (at : ℕ) → contents_from (merged parts) at (map (moved_piece parts) ps) ≡ contents_from parts at ps
  contents_moved [] known at = refl
  contents_moved (p ∷ ps) known at =
      (λ k. zip (slots_at (shapes k) at) (value_same p known.0 k) ++ contents_from (merged parts) (at + size (shapes k)) (map (moved_piece parts) ps))
      ∙ ap (λ l. zip (slots_at (shape_of (names_in parts p.part) p.ty) at) (constant_value (names_in parts p.part) p.ty p.value) ++ l) (contents_moved ps known.1 (at + size (shape_of (names_in parts p.part) p.ty)))
    where
      shapes : shape_of (names_in (merged parts) 0) (linked_type parts p.part p.ty) ≡ shape_of (names_in parts p.part) p.ty
      shapes = (agree parts fit merges p.part).same_shape p.ty known.0.0

  pub contents_same : (s : Symbol) → IsSymbol parts s → contents_of (merged parts) (carry parts s) ≡ contents_of parts s
  contents_same s here = ap (contents_from (merged parts) 0) (pieces_same s here) ∙ contents_moved (pieces parts s) (pieces_known parts fit s) 0

  pub constructors_moved : (ps : List ContentPiece) → AllByRecursion (KnownPiece parts) ps → constructors_in (merged parts) (map (moved_piece parts) ps) ≡ constructors_in parts ps
  constructors_moved [] known = refl
  constructors_moved (p ∷ ps) known = ap₂ (λ v l. cons_option (constructor_of v) l) (value_same p known.0) (constructors_moved ps known.1)
