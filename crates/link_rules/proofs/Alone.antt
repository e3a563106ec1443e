-- A single module that writes nothing which linking would write anew is its own linked module.
use Rattle.std.proofs.Common.{◌≡◌, ℕ, suc, ◌+◌, Bool, true, false, List, [], ◌∷◌, ◌++◌, map, Option, Some, None, refl, sym, ap, ap₂, ◌∙◌, append-nil, bytes_eq, arith}
use Rattle.std.specs.Prelude.{is_some, if◌then◌else◌}
use Rattle.std.specs.Option.{option_map_or}
use Rattle.std.specs.List.{AllByRecursion, cons_option}
use Rattle.std.proofs.lemmas.Bool.{cond-true, cond-false}
use Rattle.type_table.specs.Tree.{Tree, array}
use Rattle.module_arena.specs.Module.{Constant, Aggregate, Square, Constants, no_constants, more_constants, Block, Parameter, Variable, Module}
use Rattle.module_arena.specs.Renamed.{renamed_tree, renamed_alias_type, renamed_constant, renamed_block, own}
use Rattle.module_arena.proofs.Renamed.{map_stays, option_stays, tree_stays, alias_type_stays, constant_stays, block_stays}
use Rattle.linkage_rules.specs.Globals.{Global, OfVariable, OfFunction, OfAlias, name_of, linkage_of, is_written, globals, element_of, length_of}
use Rattle.linkage_rules.specs.Linkages.{is_common, is_appending}
use Rattle.linkage_rules.specs.Entries.{Entry}
use Rattle.linkage_rules.specs.Contents.Contents.{pieces_of_constants, elements_of}
use Rattle.link_rules.specs.Rename.{new_global}
use Rattle.link_rules.specs.Structs.{new_struct, linked_type}
use Rattle.link_rules.specs.Linked.{linked_constant, linked_block, linked_pieces, joined_alignment, linked_parameter, linked_definition, declared_parameters, linked_declaration}
use Rattle.link_rules.proofs.Apart.{Apart}
use Rattle.link_rules.proofs.Agreed.{AreDistinct}
use Rattle.link_rules.proofs.Unchanged.{NumberedFrom, IsList, HasNumbers, IsUnchanged}
use Rattle.linkage_rules.specs.Lists.{greatest}

-- a module of which linking writes nothing anew
pub record StaysAlone (m : Module) : Type 0 where
  pub distinct : AreDistinct m
  pub distinct_structs : Apart bytes_eq (map (λ s. s.0) m.structs)
  pub stay : AllByRecursion IsUnchanged (globals m)

-- the greatest of one is that one
greatest_alone : (o : Option ℕ) → greatest (cons_option o []) ≡ o
greatest_alone None = refl
greatest_alone (Some n) = refl

-- UNDER OWN NAMES

module _ (parts : List Module) (structs_own : new_struct parts 0 ≡ own) (globals_own : new_global parts 0 ≡ own) where
  pub type_own : (t : Tree) → linked_type parts 0 t ≡ t
  type_own t = ap (λ f. renamed_tree f t) structs_own ∙ tree_stays t

  constant_own : (c : Constant) → linked_constant parts 0 c ≡ c
  constant_own c = ap₂ (λ f g. renamed_constant f g c) structs_own globals_own ∙ constant_stays c

  block_own : (b : Block) → linked_block parts 0 b ≡ b
  block_own b = ap₂ (λ f g. renamed_block f g b) structs_own globals_own ∙ block_stays b

  parameter_own : (p : Parameter) → linked_parameter parts 0 p ≡ p
  parameter_own p = let t = type_own p.ty in λ i. record { ty = t i; name = p.name }

  declared_own : (n : ℕ) (ps : List Parameter) → NumberedFrom n ps → declared_parameters parts 0 n ps ≡ ps
  declared_own n [] h = refl
  declared_own n (p ∷ ps) h =
      let t = type_own p.ty in let rest = declared_own (suc n) ps h.1 in let name = sym h.0 in
      λ i. record { ty = t i; name = name i } ∷ rest i

  pieces_own : (cs : Constants) → linked_pieces parts (pieces_of_constants 0 cs) ≡ cs
  pieces_own no_constants = refl
  pieces_own (more_constants t c cs) =
      let ty = type_own t in let constant = constant_own c in let rest = pieces_own cs in
      λ i. more_constants (ty i) (constant i) (rest i)

  abbrev pub entry : Global → Entry
  entry g = record { part = 0; global = g }

  alignment_own : (v : Variable) (a c : Bool) → is_appending v.linkage ≡ a → is_common v.linkage ≡ c → joined_alignment parts (entry (OfVariable v)) (entry (OfVariable v) ∷ []) ≡ v.alignment
  alignment_own v true c a e = rw a (greatest_alone v.alignment)
  alignment_own v false false a e = rw a (rw e refl)
  alignment_own v false true a e = rw a (rw e refl)

  variable_own : (v : Variable) (a : Bool) → is_appending v.linkage ≡ a → (a ≡ true → IsList (OfVariable v)) → linked_definition parts v.name (entry (OfVariable v)) (entry (OfVariable v) ∷ []) (OfVariable v) ≡ OfVariable v
  variable_own v false a list =
      let align = alignment_own v false (is_common v.linkage) a refl in
      let ty = cond-false (is_appending v.linkage) _ _ a ∙ type_own v.ty in
      let init = cond-false (is_appending v.linkage) _ _ a ∙ option_stays (linked_constant parts 0) constant_own v.initialiser in
      λ i. OfVariable (record { name = v.name; linkage = v.linkage; constant = v.constant; ty = ty i; alignment = align i; initialiser = init i })
  variable_own v true a list =
      let is = list refl in
      let align = alignment_own v true (is_common v.linkage) a refl in
      let counted : 0 + is.0 ≡ is.0 = omega arith in
      let ty : (if is_appending v.linkage then array (0 + length_of v.ty) (linked_type parts 0 (element_of v.ty)) else linked_type parts 0 v.ty) ≡ v.ty =
      cond-true (is_appending v.linkage) _ _ a ∙ ap (λ t. array (0 + length_of t) (linked_type parts 0 (element_of t))) is.3 ∙ ap₂ array counted (type_own is.1) ∙ sym is.3 in
      let init = cond-true (is_appending v.linkage) _ _ a
      ∙ ap (λ o. Some (Aggregate Square (linked_pieces parts (option_map_or (elements_of 0) o [] ++ [])))) is.4
      ∙ ap (λ ps. Some (Aggregate Square (linked_pieces parts ps))) (append-nil (pieces_of_constants 0 is.2))
      ∙ ap (λ cs. Some (Aggregate Square cs)) (pieces_own is.2) ∙ sym is.4 in
      λ i. OfVariable (record { name = v.name; linkage = v.linkage; constant = v.constant; ty = ty i; alignment = align i; initialiser = init i })

  pub definition_own : (g : Global) → IsUnchanged g → linked_definition parts (name_of g) (entry g) (entry g ∷ []) g ≡ g
  definition_own (OfVariable v) s = variable_own v (is_appending v.linkage) refl s.list
  definition_own (OfFunction f) s =
      let returns = type_own f.returns in let parameters = map_stays (linked_parameter parts 0) parameter_own f.parameters in
      let body = option_stays (map (linked_block parts 0)) (map_stays (linked_block parts 0) block_own) f.body in
      λ i. OfFunction (record { name = f.name; linkage = f.linkage; returns = returns i; parameters = parameters i; variadic = f.variadic; body = body i })
  definition_own (OfAlias a) s =
      let ty = ap (λ f. renamed_alias_type f a.ty) structs_own ∙ alias_type_stays a.ty in let target = ap (λ f. f a.target) globals_own in
      λ i. OfAlias (record { name = a.name; linkage = a.linkage; ty = ty i; target = target i })

  nothing_written : {A : Type 0} (o : Option A) → is_some o ≡ false → None ≡ o
  nothing_written None h = refl
  nothing_written (Some x) h = cc

  pub declaration_own : (g : Global) → is_written g ≡ false → HasNumbers g → linked_declaration (linkage_of g) parts (name_of g) 0 g ≡ g
  declaration_own (OfVariable v) w n =
      let ty = type_own v.ty in let init = nothing_written v.initialiser w in
      λ i. OfVariable (record { name = v.name; linkage = v.linkage; constant = v.constant; ty = ty i; alignment = v.alignment; initialiser = init i })
  declaration_own (OfFunction f) w n =
      let returns = type_own f.returns in let parameters = declared_own 0 f.parameters n in let body = nothing_written f.body w in
      λ i. OfFunction (record { name = f.name; linkage = f.linkage; returns = returns i; parameters = parameters i; variadic = f.variadic; body = body i })
  declaration_own (OfAlias a) w n = cc
