-- Each entry of the linked module is as well formed as those that it is made of.
use Rattle.std.proofs.Common.{◌≡◌, ℕ, suc, ◌^◌, true, ◌⊎◌, inl, inr, List, [], ◌∷◌, map, Option, Some, None, refl, sym, ap, ◌∙◌, subst, option_map, option_to_list, flat_map, nat_eq, nat_lt, eqb-true}
use Rattle.std.specs.List.{list_any, list_all}
use Rattle.std.proofs.lemmas.Bool.{and_from, and_parts, or_cases}
use Rattle.ir_tables.specs.declared.linkage.Linkage.{Linkage}
use Rattle.module_arena.specs.Module.LocalName.{Numbered}
use Rattle.type_table.specs.Tree.{Tree}
use Rattle.module_arena.specs.Module.{Bytes, Constant, Parameter, Variable, AliasType, PlainType, FunctionType, Alias, Function, Module}
use Rattle.module_arena.specs.Renamed.{renamed_tree, renamed_alias_type, renamed_constant}
use Rattle.module_arena.specs.Functions.{blocks}
use Rattle.module_arena.specs.EntryRules.{alignments, alignment_suits}
use Rattle.module_arena.specs.Forms.{is_small_alignment}
use Rattle.module_arena.specs.WellFormed.{is_good_type, types_of_alias, known_of_block, known_of_variable, is_good_variable, is_good_alias, is_good_function, IsWellFormed}
use Rattle.module_arena.specs.Constants.{Typed}
use Rattle.linkage_rules.specs.Globals.{Global, OfVariable, OfFunction, OfAlias}
use Rattle.linkage_rules.specs.Entries.{part_at}
use Rattle.link_rules.specs.Rename.{new_global}
use Rattle.link_rules.specs.Structs.{new_struct, linked_type}
use Rattle.link_rules.specs.Linked.{declared_parameters, link_result}
use Rattle.link_rules.specs.Valid.Laws.{AreLinkable}
use Rattle.link_rules.proofs.OnValid.Constants.{renamed_typed}
use Rattle.link_rules.proofs.OnValid.Known.{AllGood, good_variable, variable_constants, good_function, body_constants, test_at}
use Rattle.link_rules.proofs.OnValid.Good.{Renames, good_type_kept, good_types_kept, constants_good, function_good, body_constants_good}
use Rattle.link_rules.proofs.OnValid.Entries.{renamed_variable, renamed_function, renamed_alias, function_is}
use Rattle.link_rules.proofs.OnValid.PartEntries.{HasAt}
use Rattle.link_rules.proofs.OnValid.Callees.{part_renames}
use Rattle.link_rules.proofs.OnValid.Numbers.{numbers, declared_names}

-- what is asked of an entry that it be well formed
abbrev pub EntryGood : Module → Global → Type 0
EntryGood m (OfVariable v) = (is_good_variable m v ≡ true) × AllGood m (known_of_variable v)
EntryGood m (OfFunction f) = (is_good_function m f ≡ true) × AllGood m (flat_map known_of_block (blocks f))
EntryGood m (OfAlias a) = is_good_alias m a ≡ true

pub entry_good : (m : Module) (g : Global) → IsWellFormed m → HasAt m g → EntryGood m g
entry_good m (OfVariable v) good at = (good_variable m good at.0 v at.1, variable_constants m good at.0 v at.1)
entry_good m (OfFunction f) good at = (good_function m good at.0 f at.1, body_constants m good at.0 f at.1)
entry_good m (OfAlias a) good at = test_at (is_good_alias m) m.aliases at.0 a at.1 good.aliases

-- an alignment is small
small_among : (n : ℕ) (ns : List ℕ) → list_all (λ k. nat_lt k (2 ^ 32)) ns ≡ true → list_any (nat_eq n) ns ≡ true → nat_lt n (2 ^ 32) ≡ true
small_among n [] h k = cc
small_among n (m ∷ ns) h k = go (or_cases (nat_eq n m) _ k) (small_among n ns (and_parts (nat_lt m (2 ^ 32)) _ h).1)
  where
    go : (nat_eq n m ≡ true) ⊎ (list_any (nat_eq n) ns ≡ true) → (list_any (nat_eq n) ns ≡ true → nat_lt n (2 ^ 32) ≡ true) → nat_lt n (2 ^ 32) ≡ true
    go (inl e) more = subst (λ j. nat_lt j (2 ^ 32) ≡ true) (sym (eqb-true n m e)) (and_parts (nat_lt m (2 ^ 32)) _ h).0
    go (inr e) more = more e

pub small : (o : Option ℕ) → alignment_suits o ≡ true → is_small_alignment o ≡ true
small None h = refl
small (Some n) h = small_among n alignments refl h

module _ (m n : Module) (names globals : Bytes → Bytes) (renames : Renames m n names globals) where
  constant_of_variable : (t : Tree) (o : Option Constant) → map {B = Typed} (λ c. (renamed_tree names t, c)) (option_to_list (option_map (renamed_constant names globals) o)) ≡ map (renamed_typed names globals) (map (λ c. (t, c)) (option_to_list o))
  constant_of_variable t None = refl
  constant_of_variable t (Some c) = refl

  pub variable_good : (name : Bytes) (alignment : Option ℕ) (v : Variable) → alignment_suits alignment ≡ true → EntryGood m (OfVariable v) → EntryGood n (OfVariable (renamed_variable names globals name alignment v))
  variable_good name alignment v aligned h = (
    and_from _ _ (good_type_kept m n names globals renames v.ty (and_parts (is_good_type m.structs v.ty) _ h.0).0) (small alignment aligned),
    subst (AllGood n) (sym (constant_of_variable v.ty v.initialiser)) (constants_good m n names globals renames (known_of_variable v) h.1),
  )

  pub defined_good : (name : Bytes) (f : Function) → EntryGood m (OfFunction f) → EntryGood n (OfFunction (renamed_function names globals name f))
  defined_good name f h = (
    function_good m n names globals renames f (renamed_function names globals name f) (function_is names globals name f) h.0,
    body_constants_good m n names globals renames f (renamed_function names globals name f) (function_is names globals name f) h.1,
  )

  alias_types : (t : AliasType) → types_of_alias (renamed_alias_type names t) ≡ map (renamed_tree names) (types_of_alias t)
  alias_types (PlainType t) = refl
  alias_types (FunctionType s) = refl

  pub alias_good : (name : Bytes) (a : Alias) → EntryGood m (OfAlias a) → EntryGood n (OfAlias (renamed_alias names globals name a))
  alias_good name a h =
      let both = and_parts (list_all (is_good_type m.structs) (types_of_alias a.ty)) _ h in
      and_from _ _ (ap (list_all (is_good_type n.structs)) (alias_types a.ty) ∙ good_types_kept m n names globals renames (types_of_alias a.ty) both.0) (renames.entries a.target both.1)

module _ (parts : List Module) (fine : AreLinkable parts) (i : ℕ) where
  abbrev part : Module
  part = part_at parts i

  declared_numbers : (k : ℕ) (ps : List Parameter) → map (λ (p : Parameter). p.name) (declared_parameters parts i k ps) ≡ numbers k ps
  declared_numbers k [] = refl
  declared_numbers k (p ∷ ps) = ap (λ l. Numbered k ∷ l) (declared_numbers (suc k) ps)

  declared_types_good : (k : ℕ) (ps : List Parameter) → list_all (λ (p : Parameter). is_good_type part.structs p.ty) ps ≡ true → list_all (λ (p : Parameter). is_good_type (link_result parts).structs p.ty) (declared_parameters parts i k ps) ≡ true
  declared_types_good k [] h = refl
  declared_types_good k (p ∷ ps) h =
      let both = and_parts (is_good_type part.structs p.ty) _ h in
      and_from _ _ (good_type_kept part (link_result parts) (new_struct parts i) (new_global parts i) (part_renames parts fine i) p.ty both.0) (declared_types_good (suc k) ps both.1)

  -- a declaration made of a variable, and of a function
  pub declared_variable_good : (linkage : Linkage) (name : Bytes) (v : Variable) → EntryGood part (OfVariable v) → EntryGood (link_result parts) (OfVariable (record { name = name; linkage = linkage; constant = v.constant; ty = linked_type parts i v.ty; alignment = v.alignment; initialiser = None }))
  declared_variable_good linkage name v h =
      let both = and_parts (is_good_type part.structs v.ty) _ h.0 in
      (and_from _ _ (good_type_kept part (link_result parts) (new_struct parts i) (new_global parts i) (part_renames parts fine i) v.ty both.0) both.1, tt)

  pub declared_function_good : (linkage : Linkage) (name : Bytes) (f : Function) → EntryGood part (OfFunction f) → EntryGood (link_result parts) (OfFunction (record { name = name; linkage = linkage; returns = linked_type parts i f.returns; parameters = declared_parameters parts i 0 f.parameters; variadic = f.variadic; body = None }))
  declared_function_good linkage name f h =
      let g : Function = record { name = name; linkage = linkage; returns = linked_type parts i f.returns; parameters = declared_parameters parts i 0 f.parameters; variadic = f.variadic; body = None } in
      let one = and_parts (is_good_type part.structs f.returns) _ h.0 in
      let two = and_parts (list_all (λ (p : Parameter). is_good_type part.structs p.ty) f.parameters) _ one.1 in (
        and_from _ _ (good_type_kept part (link_result parts) (new_struct parts i) (new_global parts i) (part_renames parts fine i) f.returns one.0)
            (and_from _ _ (declared_types_good 0 f.parameters two.0) (and_from _ _ refl (and_from _ _ (declared_names g f.parameters refl (declared_numbers 0 f.parameters)) refl))),
        tt,
      )
