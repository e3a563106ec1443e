-- Variables that are kept or declared are well formed.
use Rattle.std.proofs.Common.{◌≡◌, ℕ, ◌+◌, ◌*◌, ◌^◌, arith, true, not, filter_map, Option, Some, None, refl, ap, subst, nat_le, option_map}
use Rattle.std.specs.List.{list_all}
use Rattle.std.proofs.lemmas.Bool.{and_from, and_parts, or_right}
use Rattle.std.proofs.lemmas.Option.{same_Some}
use Rattle.ir_tables.specs.declared.linkage.Linkage.{Linkage}
use Rattle.ir_tables.specs.declared.linkage.Linkage.TheVariants.{External, Private, Internal, Common, Appending, ExternWeak, AvailableExternally, Linkonce, LinkonceOdr, Weak, WeakOdr}
use Rattle.type_table.specs.Layout.{has_layout, size}
use Rattle.type_table.specs.Shape.{Shape, array_of, shape, nesting, parts}
use Rattle.type_table.specs.Tree.{Tree, int, ptr, void, array, struct, named, Structs}
use Rattle.module_arena.specs.Module.{Variable, AliasType, PlainType, FunctionType, Alias, Module}
use Rattle.module_arena.specs.Valid.{IsValid}
use Rattle.module_arena.specs.WellFormed.{IsWellFormed, is_within_limits, is_good_type, is_good_variable, is_good_alias, types_of_alias}
use Rattle.extract_rules.proofs.OnValid.Lists.{all_tests, all_tested, all_of_append}
use Rattle.extract_rules.specs.declared.selection.Selection.{Selection}
use Rattle.extract_rules.specs.Selected.{is_among, keeps_variable}
use Rattle.extract_rules.specs.Extracted.{kept_names, kept_linkage, without_elements, declared_variable, extracted_variable, alias_as_variable, declared_aliases, Extracted}
use Rattle.extract_rules.proofs.OnValid.Kept.{all_filtered, either}
use Rattle.extract_rules.proofs.OnValid.Gathered.{made_all}

limits_empty : (k : ℕ) (o : Option Shape) → is_within_limits (option_map (array_of k) o) ≡ true → is_within_limits (option_map (array_of 0) o) ≡ true
limits_empty k None h = h
limits_empty k (Some s) h =
    let one = and_parts (nat_le (nesting s + 1) 64) _ h in
    let two = and_parts (nat_le (1 + parts s) (2 ^ 20)) _ one.1 in
    let no_size : 0 * size s ≡ 0 = omega arith in
    and_from _ _ one.0 (and_from _ _ two.0 (and_from _ _ refl (or_right (not (has_layout s)) _ (ap (λ x. nat_le x (2 ^ 40)) no_size))))

pub without_good : (structs : Structs) (t : Tree) → is_good_type structs t ≡ true → is_good_type structs (without_elements t) ≡ true
without_good structs (int width) h = h
without_good structs ptr h = h
without_good structs void h = h
without_good structs (struct packed ts) h = h
without_good structs (named name) h = h
without_good structs (array k t) h =
    let both = and_parts (is_good_type structs t) _ h in
    and_from _ _ both.0 (limits_empty k (shape structs t) both.1)

module _ (m : Module) (s : Selection) (good : IsWellFormed m) (valid : IsValid m) where
  abbrev n : Module
  n = Extracted m s

  declared_good : (l : Linkage) (v : Variable) → is_good_variable m v ≡ true → is_good_variable n (declared_variable l v) ≡ true
  declared_good Appending v h =
      let both = and_parts (is_good_type m.structs v.ty) _ h in
      and_from _ _ (without_good m.structs v.ty both.0) both.1
  declared_good External v h = h
  declared_good Private v h = h
  declared_good Internal v h = h
  declared_good Common v h = h
  declared_good ExternWeak v h = h
  declared_good AvailableExternally v h = h
  declared_good Linkonce v h = h
  declared_good LinkonceOdr v h = h
  declared_good Weak v h = h
  declared_good WeakOdr v h = h

  alias_variable_good : (a : Alias) → is_good_alias m a ≡ true → (w : Variable) → alias_as_variable m a.name a.target a.ty ≡ Some w → is_good_variable n w ≡ true
  alias_variable_good a h w e = by_type a.ty (and_parts (list_all (is_good_type m.structs) (types_of_alias a.ty)) _ h).0 e
    where
      by_type : (t : AliasType) → list_all (is_good_type m.structs) (types_of_alias t) ≡ true → alias_as_variable m a.name a.target t ≡ Some w → is_good_variable n w ≡ true
      by_type (FunctionType signature) k e = cc
      by_type (PlainType t) k e = subst (λ (x : Variable). is_good_variable n x ≡ true) (same_Some _ w e) (and_from _ _ (and_parts (is_good_type m.structs t) _ k).0 refl)

  pub variables_good : list_all (is_good_variable n) n.variables ≡ true
  variables_good =
      all_tested (is_good_variable n) n.variables
      (all_of_append (λ v. is_good_variable n v ≡ true) (filter_map (extracted_variable m s) m.variables) (filter_map (λ (a : Alias). alias_as_variable m a.name a.target a.ty) (declared_aliases m s))
      (made_all (λ v. is_good_variable m v ≡ true) (extracted_variable m s) (λ v. is_good_variable n v ≡ true)
      (λ v h y e. either (λ (w : Variable). is_good_variable n w ≡ true) (keeps_variable m s v) (is_among (kept_names m s) v.name) (record v { linkage = kept_linkage v.linkage }) (declared_variable v.linkage v) y e (λ k. h) (λ k c. declared_good v.linkage v h))
      m.variables (all_tests (is_good_variable m) m.variables good.variables))
      (made_all (λ a. is_good_alias m a ≡ true) (λ (a : Alias). alias_as_variable m a.name a.target a.ty) (λ v. is_good_variable n v ≡ true) alias_variable_good (declared_aliases m s)
      (all_filtered (λ a. is_good_alias m a ≡ true) _ m.aliases (all_tests (is_good_alias m) m.aliases good.aliases))))
