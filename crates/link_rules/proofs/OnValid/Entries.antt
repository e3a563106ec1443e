-- What variables, functions and aliases are asked for holds of them under new names, and of declarations made of them.
use Rattle.std.proofs.Common.{◌≡◌, ℕ, Bool, true, false, not, ◌&&◌, ◌||◌, List, [], ◌∷◌, map, Option, Some, None, refl, ap, ap₂, ◌∙◌, subst, option_map, option_to_list}
use Rattle.std.specs.Prelude.{slice_get}
use Rattle.std.specs.Option.{option_map_or}
use Rattle.std.specs.List.{list_all, AllByRecursion}
use Rattle.std.proofs.lemmas.Bool.{and_from, and_parts, or_left, not_from_false}
use Rattle.module_arena.specs.Module.{Bytes, Constant, Parameter, Variable, AliasType, PlainType, FunctionType, Alias, Function, Module}
use Rattle.module_arena.specs.Module.Constant.{Integer, Truth, Null, Undef, Poison, ZeroInitializer, Address, ByteString, Aggregate, ElementAddress, Cast, Binary}
use Rattle.module_arena.specs.Renamed.{renamed_tree, renamed_alias_type, renamed_parameter, renamed_constant, renamed_block}
use Rattle.module_arena.specs.TypeTests.{lies_in_memory, is_passable}
use Rattle.module_arena.specs.Constants.{fits}
use Rattle.module_arena.specs.Functions.{blocks}
use Rattle.module_arena.specs.EntryRules.{linkage_suits, is_common, is_appending, is_zero, is_llvm_name, variable_name_suits, takes_no_intrinsic, variable_type_suits, function_types_suit, alias_types_suit, is_lasting, target_suits, alignment_suits}
use Rattle.module_arena.specs.WellFormed.{is_good_type, is_good_alias, types_of_alias, IsWellFormed}
use Rattle.module_arena.specs.Valid.{AllHold, variable_demands, alias_demands, function_demands}
use Rattle.module_arena.proofs.HostTypesAgree.{is_none-map}
use Rattle.link_rules.proofs.Moved.{kept_some}
use Rattle.link_rules.proofs.OnValid.Types.{KnownTree, void_free_same, memory_same, passable_same}
use Rattle.link_rules.proofs.OnValid.Constants.{KnownConstant, fits_kept, constant_types_kept}
use Rattle.link_rules.proofs.OnValid.Operations.{IsRenamed}
use Rattle.link_rules.proofs.OnValid.Instructions.{no_intrinsic_kept, return_suits_same, all_passable_same}
use Rattle.link_rules.proofs.OnValid.Demands.{body_holds}
use Rattle.link_rules.proofs.OnValid.Known.{AllGood, constant_known, good_parts, constant_kept, blocks_kept, body_constants, function_known, variable_constants, all_types_known, test_at}
use Rattle.link_rules.proofs.OnValid.Good.{Renames}

-- ENTRIES UNDER NEW NAMES

module _ (names globals : Bytes → Bytes) where
  abbrev pub renamed_variable : Bytes → Option ℕ → Variable → Variable
  renamed_variable name alignment v = record {
    name = name;
    linkage = v.linkage;
    constant = v.constant;
    ty = renamed_tree names v.ty;
    alignment = alignment;
    initialiser = option_map (renamed_constant names globals) v.initialiser;
  }

  abbrev pub renamed_function : Bytes → Function → Function
  renamed_function name f = record {
    name = name;
    linkage = f.linkage;
    returns = renamed_tree names f.returns;
    parameters = map (renamed_parameter names) f.parameters;
    variadic = f.variadic;
    body = option_map (map (renamed_block names globals)) f.body;
  }

  abbrev pub renamed_alias : Bytes → Alias → Alias
  renamed_alias name a = record { name = name; linkage = a.linkage; ty = renamed_alias_type names a.ty; target = globals a.target }

  pub function_is : (name : Bytes) (f : Function) → IsRenamed names globals f (renamed_function name f)
  function_is name f = record { returns = refl; parameters = refl; variadic = refl; body = refl }

  zero_same : (c : Option Constant) → is_zero (option_map (renamed_constant names globals) c) ≡ is_zero c
  zero_same None = refl
  zero_same (Some (Integer n)) = refl
  zero_same (Some (Truth truth)) = refl
  zero_same (Some Null) = refl
  zero_same (Some Undef) = refl
  zero_same (Some Poison) = refl
  zero_same (Some ZeroInitializer) = refl
  zero_same (Some (Address name)) = refl
  zero_same (Some (ByteString bytes)) = refl
  zero_same (Some (Aggregate b elements)) = refl
  zero_same (Some (ElementAddress flags source operands)) = refl
  zero_same (Some (Cast opcode from value to)) = refl
  zero_same (Some (Binary opcode flags a left b right)) = refl

-- a test that a name passes which does not begin `llvm.`
pub other_name : (b c : Bool) → b ≡ false → (not b || c) ≡ true
other_name b c h = or_left (not b) c (not_from_false b h)

module _ (m n : Module) (names globals : Bytes → Bytes) (renames : Renames m n names globals) (good : IsWellFormed m) where
  -- VARIABLES

  module _ (k : ℕ) (v : Variable) (at : slice_get m.variables k ≡ Some v) where
    initialiser_known : (c : Constant) → v.initialiser ≡ Some c → (KnownTree m.structs v.ty × KnownConstant m.structs c) × AllGood m ((v.ty, c) ∷ [])
    initialiser_known c e =
        let a = subst (λ (o : Option Constant). AllGood m (map (λ c. (v.ty, c)) (option_to_list o))) e (variable_constants m good k v at) in
        (constant_known m v.ty c (good_parts m v.ty c a.0), a)

    pub no_intrinsic : (o : Option Constant) → v.initialiser ≡ o → option_map_or (takes_no_intrinsic m v.ty) o true ≡ true → option_map_or (takes_no_intrinsic n (renamed_tree names v.ty)) (option_map (renamed_constant names globals) o) true ≡ true
    no_intrinsic None e h = refl
    no_intrinsic (Some c) e h = no_intrinsic_kept m n names globals v.ty c (constant_kept m n globals renames.callees v.ty c (initialiser_known c e).1.0) h

    pub types : (o : Option Constant) → v.initialiser ≡ o → variable_type_suits m.structs v.ty o ≡ true → variable_type_suits n.structs (renamed_tree names v.ty) (option_map (renamed_constant names globals) o) ≡ true
    types None e h = void_free_same names v.ty ∙ h
    types (Some c) e h =
        let known = (initialiser_known c e).0 in
        let both = and_parts (lies_in_memory m.structs v.ty) _ h in
        and_from _ _ (memory_same m.structs n.structs names renames.structs v.ty known.0 ∙ both.0) (constant_types_kept m.structs n.structs names globals renames.structs v.ty c known.0 known.1 both.1)

    pub initialiser_fits_kept : (o : Option Constant) → v.initialiser ≡ o → option_map_or (fits m.structs v.ty) o true ≡ true → option_map_or (fits n.structs (renamed_tree names v.ty)) (option_map (renamed_constant names globals) o) true ≡ true
    initialiser_fits_kept None e h = refl
    initialiser_fits_kept (Some c) e h =
        let known = (initialiser_known c e).0 in
        fits_kept m.structs n.structs names globals renames.structs c v.ty known.0 known.1 h

    -- a variable that is not appending, under a name that does not begin `llvm.`
    pub variable_holds : (name : Bytes) (alignment : Option ℕ) → is_appending v.linkage ≡ false → is_llvm_name name ≡ false → alignment_suits alignment ≡ true → AllHold (variable_demands m v) → AllHold (variable_demands n (renamed_variable names globals name alignment v))
    variable_holds name alignment plain unlike aligned h = (
      ap (λ b. linkage_suits b v.linkage) (kept_some (renamed_constant names globals) v.initialiser) ∙ h.0,
      (
        ap (λ b. not (is_common v.linkage) || (not v.constant && b)) (zero_same names globals v.initialiser) ∙ h.1.0,
        (
          or_left (not (is_appending v.linkage)) _ (not_from_false (is_appending v.linkage) plain),
          (
            and_from _ _ (other_name (is_llvm_name name) _ unlike) (no_intrinsic v.initialiser refl (and_parts (variable_name_suits m v) _ h.1.1.1.0).1),
            (
              types v.initialiser refl h.1.1.1.1.0,
              (
                aligned,
                (initialiser_fits_kept v.initialiser refl h.1.1.1.1.1.1.0, tt),
              ),
            ),
          ),
        ),
      ),
    )

  -- FUNCTIONS

  module _ (k : ℕ) (f : Function) (at : slice_get m.functions k ≡ Some f) where
    parameters_passable : (ps : List Parameter) → AllByRecursion (λ p. KnownTree m.structs p.ty) ps → list_all (λ (p : Parameter). is_passable n.structs p.ty) (map (renamed_parameter names) ps) ≡ list_all (λ (p : Parameter). is_passable m.structs p.ty) ps
    parameters_passable [] known = refl
    parameters_passable (p ∷ ps) known = ap₂ (λ a b. a && b) (passable_same m.structs n.structs names renames.structs p.ty known.0) (parameters_passable ps known.1)

    pub function_types_same : (name : Bytes) → function_types_suit n.structs (renamed_function names globals name f) ≡ function_types_suit m.structs f
    function_types_same name =
        let known = function_known m good k f at in
        λ i. parameters_passable f.parameters known.parameters i
        && (return_suits_same m.structs n.structs names globals renames.structs f.returns known.returns i && (not f.variadic || is_none-map (map (renamed_block names globals)) f.body i))

    -- a function under a name that does not begin `llvm.`
    pub function_holds : (name : Bytes) → is_llvm_name name ≡ false → AllHold (function_demands m f) → AllHold (function_demands n (renamed_function names globals name f))
    function_holds name unlike h = (
      ap (λ b. linkage_suits b f.linkage) (kept_some (map (renamed_block names globals)) f.body) ∙ h.0,
      (
        h.1.0,
        (
          h.1.1.0,
          (
            other_name (is_llvm_name name) _ unlike,
            (
              function_types_same name ∙ h.1.1.1.1.0,
              body_holds m n names globals renames.structs f (renamed_function names globals name f) (function_is names globals name f) (function_known m good k f at)
                  (blocks_kept m n globals renames.callees (blocks f) (body_constants m good k f at)) h.1.1.1.1.1,
            ),
          ),
        ),
      ),
    )

  -- ALIASES

  alias_types_same : (t : AliasType) → AllByRecursion (KnownTree m.structs) (types_of_alias t) → alias_types_suit n.structs (renamed_alias_type names t) ≡ alias_types_suit m.structs t
  alias_types_same (PlainType t) known = void_free_same names t
  alias_types_same (FunctionType s) known =
      ap₂ (λ a b. a && b) (all_passable_same m.structs n.structs names globals renames.structs s.parameters known.1) (return_suits_same m.structs n.structs names globals renames.structs s.returns known.0)

  flip : (b : Bool) → not b ≡ true → b ≡ false
  flip false h = refl
  flip true h = cc

  module _ (k : ℕ) (a : Alias) (at : slice_get m.aliases k ≡ Some a) where
    good_alias : is_good_alias m a ≡ true
    good_alias = test_at (is_good_alias m) m.aliases k a at good.aliases

    alias_types_known : AllByRecursion (KnownTree m.structs) (types_of_alias a.ty)
    alias_types_known = all_types_known m.structs (types_of_alias a.ty) (and_parts (list_all (is_good_type m.structs) (types_of_alias a.ty)) _ good_alias).0

    -- an alias under a name that does not begin `llvm.`, where what it is of is such a definition still
    pub alias_holds : (name : Bytes) → is_llvm_name name ≡ false → target_suits n (renamed_alias_type names a.ty) (globals a.target) ≡ true → AllHold (alias_demands m a) → AllHold (alias_demands n (renamed_alias names globals name a))
    alias_holds name unlike target h = (
      h.0,
      (
        h.1.0,
        (
          h.1.1.0,
          (
            and_from _ _ (not_from_false (is_llvm_name name) unlike)
                (not_from_false _ (renames.callees a.target (and_parts (list_all (is_good_type m.structs) (types_of_alias a.ty)) _ good_alias).1 (flip _ (and_parts (not (is_llvm_name a.name)) _ h.1.1.1.0).1))),
            (
              alias_types_same a.ty alias_types_known ∙ h.1.1.1.1.0,
              (and_from _ _ (and_parts (is_lasting a.linkage) _ h.1.1.1.1.1.0).0 target, tt),
            ),
          ),
        ),
      ),
    )
