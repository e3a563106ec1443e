-- Variables that are kept or declared, and aliases that are kept, are what they are asked for.
use Rattle.std.proofs.Common.{◌≡◌, ℕ, Bool, true, false, not, ◌&&◌, ◌||◌, ◌⊎◌, inl, inr, List, [], ◌∷◌, Option, Some, None, refl, sym, ap, ◌∙◌, subst, is_some, bytes_eq, codes, option_and_then, option_map, if◌then◌else◌}
use Rattle.std.specs.Option.{option_map_or}
use Rattle.std.specs.List.{list_any}
use Rattle.std.proofs.lemmas.Bool.{and_from, and_parts, or_left, or_right, or_cases, not_from_false, not-true}
use Rattle.std.proofs.lemmas.Option.{same_Some}
use Rattle.ir_tables.specs.declared.linkage.Linkage.{Linkage}
use Rattle.ir_tables.specs.declared.linkage.Linkage.TheVariants.{External, Private, Internal, Common, Appending, ExternWeak, AvailableExternally, Linkonce, LinkonceOdr, Weak, WeakOdr}
use Rattle.type_table.specs.Tree.{Tree, int, ptr, void, array, struct, named}
use Rattle.type_table.specs.Shape.{Shape, array_of, shape}
use Rattle.type_table.specs.Layout.{has_layout, layout}
use Rattle.module_arena.specs.Module.{Constant, Aggregate, Square, no_constants, Variable, AliasType, PlainType, FunctionType, Alias, Function, Module}
use Rattle.module_arena.specs.TypeTests.{is_free_of_void, is_free_of_names, lies_in_memory}
use Rattle.module_arena.specs.Constants.{fits}
use Rattle.module_arena.specs.EntryRules.{linkage_suits, constant_types_suit, is_common, is_appending, is_zero, is_list_variable, is_list_of, is_llvm_name, is_constructor_list, is_used_list, is_array_of, constructor_type, lists_constructors, variable_name_suits, takes_no_intrinsic, variable_type_suits, alias_types_suit, is_lasting, target_suits}
use Rattle.module_arena.specs.Valid.{AllHold, variable_demands, alias_demands}
use Rattle.extract_rules.specs.Extracted.{kept_linkage, declared_linkage, without_elements, declared_variable, alias_as_variable}
use Rattle.extract_rules.proofs.OnValid.Plain.{memory_free}
use Rattle.extract_rules.proofs.OnValid.Plain.{variable_plain, alias_plain}
use Rattle.extract_rules.proofs.OnValid.Bodies.{NoMore, with_entries, takes_none}
use Rattle.extract_rules.proofs.OnValid.Functions.{SuitsDeclared, declared_suits, kept_suits, kept_common, kept_appending, kept_lasting}

module _ (m : Module) (vs : List Variable) (as_ : List Alias) (fs : List Function) where
  abbrev n : Module
  n = with_entries m vs as_ fs

  -- the functions that it lists are functions
  abbrev pub KeepsList : Variable → Type 0
  KeepsList v = lists_constructors m v.initialiser ≡ true → lists_constructors n v.initialiser ≡ true

  module _ (none : NoMore m n) where
    no_intrinsic : (t : Tree) (o : Option Constant) → option_map_or (takes_no_intrinsic m t) o true ≡ true → option_map_or (takes_no_intrinsic n t) o true ≡ true
    no_intrinsic t None h = refl
    no_intrinsic t (Some c) h = takes_none m n none t c h

    name_kept : (v : Variable) → KeepsList v → variable_name_suits m v ≡ true → variable_name_suits n (record v { linkage = kept_linkage v.linkage }) ≡ true
    name_kept v keeps h = go (or_cases (not (is_llvm_name v.name)) _ h)
      where
        w : Variable
        w = record v { linkage = kept_linkage v.linkage }

        constructors : is_constructor_list m v ≡ true → is_constructor_list n w ≡ true
        constructors h =
            let one = and_parts (list_any (bytes_eq v.name) (codes "llvm.global_ctors" ∷ codes "llvm.global_dtors" ∷ [])) _ h in
            let two = and_parts (is_appending v.linkage) _ one.1 in
            let three = and_parts (is_array_of constructor_type v.ty) _ two.1 in
            and_from _ _ one.0 (and_from _ _ (kept_appending v.linkage ∙ two.0) (and_from _ _ three.0 (keeps three.1)))

        used : is_used_list v ≡ true → is_used_list w ≡ true
        used h =
            let one = and_parts (list_any (bytes_eq v.name) (codes "llvm.used" ∷ codes "llvm.compiler.used" ∷ [])) _ h in
            let two = and_parts (is_appending v.linkage) _ one.1 in
            and_from _ _ one.0 (and_from _ _ (kept_appending v.linkage ∙ two.0) two.1)

        lists : (is_constructor_list m v ≡ true) ⊎ (is_used_list v ≡ true) → (is_constructor_list n w || is_used_list w) ≡ true
        lists (inl c) = or_left _ _ (constructors c)
        lists (inr u) = or_right (is_constructor_list n w) _ (used u)

        go : (not (is_llvm_name v.name) ≡ true) ⊎ ((is_constructor_list m v || is_used_list v) ≡ true) → variable_name_suits n w ≡ true
        go (inl p) = or_left _ _ p
        go (inr l) = or_right (not (is_llvm_name v.name)) _ (lists (or_cases (is_constructor_list m v) _ l))

    pub variable_kept : (v : Variable) → KeepsList v → AllHold (variable_demands m v) → AllHold (variable_demands n (record v { linkage = kept_linkage v.linkage }))
    variable_kept v keeps h =
        let both = and_parts (variable_name_suits m v) _ h.1.1.1.0 in (
          kept_suits (is_some v.initialiser) v.linkage h.0,
          (
            ap (λ b. not b || (not v.constant && is_zero v.initialiser)) (kept_common v.linkage) ∙ h.1.0,
            (
              ap (λ b. not b || is_list_variable v.ty v.initialiser) (kept_appending v.linkage) ∙ h.1.1.0,
              (
                and_from _ _ (name_kept v keeps both.0) (no_intrinsic v.ty v.initialiser both.1),
                h.1.1.1.1,
              ),
            ),
          ),
        )

  -- DECLARATIONS

  void_free : (t : Tree) (o : Option Constant) → variable_type_suits m.structs t o ≡ true → is_free_of_void t ≡ true
  void_free t None h = h
  void_free t (Some c) h = memory_free m.structs t (and_parts (lies_in_memory m.structs t) _ h).0

  plain_declared : (v : Variable) → (linkage : Linkage) → SuitsDeclared linkage → is_llvm_name v.name ≡ false → AllHold (variable_demands m v) → AllHold (variable_demands n (record v { linkage = linkage; initialiser = None }))
  plain_declared v linkage suits plain h = (
    suits.0,
    (
      or_left _ _ suits.1,
      (
        or_left _ _ suits.2,
        (
          and_from _ _ (or_left _ _ (not_from_false _ plain)) refl,
          (void_free v.ty v.initialiser h.1.1.1.1.0, (h.1.1.1.1.1.0, (refl, tt))),
        ),
      ),
    ),
  )

  pub alias_variable : (a : Alias) (w : Variable) → alias_as_variable m a.name a.target a.ty ≡ Some w → AllHold (alias_demands m a) → AllHold (variable_demands n w)
  alias_variable a w e h = by_type a.ty h.1.1.1.1.0 e
    where
      by_type : (t : AliasType) → alias_types_suit m.structs t ≡ true → alias_as_variable m a.name a.target t ≡ Some w → AllHold (variable_demands n w)
      by_type (FunctionType signature) suits e = cc
      by_type (PlainType t) suits e =
          subst (λ (x : Variable). AllHold (variable_demands n x)) (same_Some _ w e)
          (refl, (refl, (refl, (and_from _ _ (or_left _ _ (not_from_false _ (alias_plain m a h))) refl, (suits, (refl, (refl, tt)))))))

  -- an array of no elements lies in memory as one of some does
  laid_empty : (k : ℕ) (o : Option Shape) → is_some (option_and_then layout (option_map (array_of k) o)) ≡ true → is_some (option_and_then layout (option_map (array_of 0) o)) ≡ true
  laid_empty k None h = h
  laid_empty k (Some s) h = go (has_layout s) _ _ h
    where
      go : {A : Type 0} (b : Bool) (x y : A) → is_some (if b then Some x else None) ≡ true → is_some (if b then Some y else None) ≡ true
      go true x y h = refl
      go false x y h = h

  appending_declared : (v : Variable) → v.linkage ≡ Appending → AllHold (variable_demands m v) → AllHold (variable_demands n (declared_variable Appending v))
  appending_declared v appends h = by_type v.ty v.initialiser refl refl (suits (is_appending v.linkage) (ap is_appending appends) h.1.1.0)
    where
      w : Variable
      w = declared_variable Appending v

      suits : (b : Bool) → b ≡ true → (not b || is_list_variable v.ty v.initialiser) ≡ true → is_list_variable v.ty v.initialiser ≡ true
      suits true e h = h
      suits false e h = cc

      by_type : (t : Tree) (o : Option Constant) → v.ty ≡ t → v.initialiser ≡ o → is_list_variable t o ≡ true → AllHold (variable_demands n w)
      by_type (int width) o e i s = cc
      by_type ptr o e i s = cc
      by_type void o e i s = cc
      by_type (struct packed ts) o e i s = cc
      by_type (named name) o e i s = cc
      by_type (array k t) o e i s = (
        ap (linkage_suits true) appends,
        (
          ap (λ l. not (is_common l) || (not v.constant && false)) appends,
          (
            or_right (not (is_appending v.linkage)) (is_list_variable w.ty w.initialiser) (ap (λ u. is_list_variable (without_elements u) w.initialiser) e ∙ and_from (is_free_of_names t) true (and_parts (is_free_of_names t) (is_list_of k o) s).0 refl),
            (
              and_from (variable_name_suits n w) (takes_no_intrinsic n w.ty (Aggregate Square no_constants)) name_suits (ap (λ u. takes_no_intrinsic n (without_elements u) (Aggregate Square no_constants)) e),
              (
                and_from (lies_in_memory m.structs w.ty) (constant_types_suit m.structs w.ty (Aggregate Square no_constants)) (ap (λ u. lies_in_memory m.structs (without_elements u)) e ∙ laid_empty k (shape m.structs t) (sym (ap (lies_in_memory m.structs) e) ∙ laid o i (and_parts (is_free_of_names t) (is_list_of k o) s).1)) (ap (λ u. constant_types_suit m.structs (without_elements u) (Aggregate Square no_constants)) e),
                (
                  h.1.1.1.1.1.0,
                  (ap (λ u. fits m.structs (without_elements u) (Aggregate Square no_constants)) e, tt),
                ),
              ),
            ),
          ),
        ),
      )
        where
          laid : (o : Option Constant) → v.initialiser ≡ o → is_list_of k o ≡ true → lies_in_memory m.structs v.ty ≡ true
          laid None i l = cc
          laid (Some c) i l = (and_parts (lies_in_memory m.structs v.ty) _ (subst (λ o. variable_type_suits m.structs v.ty o ≡ true) i h.1.1.1.1.0)).0

          constructors : is_constructor_list m v ≡ true → is_constructor_list n w ≡ true
          constructors h =
              let one = and_parts (list_any (bytes_eq v.name) (codes "llvm.global_ctors" ∷ codes "llvm.global_dtors" ∷ [])) _ h in
              let two = and_parts (is_appending v.linkage) _ one.1 in
              let three = and_parts (is_array_of constructor_type v.ty) _ two.1 in
              and_from _ _ one.0 (and_from _ _ two.0 (and_from _ _ (ap (λ u. is_array_of constructor_type (without_elements u)) e ∙ (sym (ap (is_array_of constructor_type) e) ∙ three.0)) refl))

          used : is_used_list v ≡ true → is_used_list w ≡ true
          used h =
              let one = and_parts (list_any (bytes_eq v.name) (codes "llvm.used" ∷ codes "llvm.compiler.used" ∷ [])) _ h in
              let two = and_parts (is_appending v.linkage) _ one.1 in
              and_from _ _ one.0 (and_from _ _ two.0 (ap (λ u. is_array_of ptr (without_elements u)) e ∙ (sym (ap (is_array_of ptr) e) ∙ two.1)))

          lists : (is_constructor_list m v ≡ true) ⊎ (is_used_list v ≡ true) → (is_constructor_list n w || is_used_list w) ≡ true
          lists (inl c) = or_left _ _ (constructors c)
          lists (inr u) = or_right (is_constructor_list n w) _ (used u)

          either : (not (is_llvm_name v.name) ≡ true) ⊎ ((is_constructor_list m v || is_used_list v) ≡ true) → variable_name_suits n w ≡ true
          either (inl p) = or_left _ _ p
          either (inr l) = or_right (not (is_llvm_name v.name)) _ (lists (or_cases (is_constructor_list m v) _ l))

          name_suits : variable_name_suits n w ≡ true
          name_suits = either (or_cases (not (is_llvm_name v.name)) _ (and_parts (variable_name_suits m v) _ h.1.1.1.0).0)

  pub variable_declared : (v : Variable) → AllHold (variable_demands m v) → AllHold (variable_demands n (declared_variable v.linkage v))
  variable_declared v h = go v.linkage refl
    where
      plain : (l : Linkage) → v.linkage ≡ l → is_appending l ≡ false → AllHold (variable_demands n (record v { linkage = declared_linkage l; initialiser = None }))
      plain l e a = plain_declared v (declared_linkage l) (declared_suits l) (variable_plain m v h (ap is_appending e ∙ a)) h

      go : (l : Linkage) → v.linkage ≡ l → AllHold (variable_demands n (declared_variable l v))
      go Appending e = appending_declared v e h
      go External e = plain External e refl
      go Private e = plain Private e refl
      go Internal e = plain Internal e refl
      go Common e = plain Common e refl
      go ExternWeak e = plain ExternWeak e refl
      go AvailableExternally e = plain AvailableExternally e refl
      go Linkonce e = plain Linkonce e refl
      go LinkonceOdr e = plain LinkonceOdr e refl
      go Weak e = plain Weak e refl
      go WeakOdr e = plain WeakOdr e refl

  -- ALIASES

  pub alias_kept : NoMore m n → (a : Alias) → target_suits n a.ty a.target ≡ true → AllHold (alias_demands m a) → AllHold (alias_demands n (record a { linkage = kept_linkage a.linkage }))
  alias_kept none a target h =
      let names = and_parts (not (is_llvm_name a.name)) _ h.1.1.1.0 in (
        kept_suits true a.linkage h.0,
        (
          ap not (kept_common a.linkage) ∙ h.1.0,
          (
            ap not (kept_appending a.linkage) ∙ h.1.1.0,
            (
              and_from _ _ names.0 (not_from_false _ (none a.target (not-true _ names.1))),
              (
                h.1.1.1.1.0,
                (and_from _ _ (kept_lasting a.linkage (and_parts (is_lasting a.linkage) _ h.1.1.1.1.1.0).0) target, tt),
              ),
            ),
          ),
        ),
      )
