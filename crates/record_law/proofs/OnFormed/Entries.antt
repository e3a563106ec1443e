-- Variables, functions and aliases that are read where no rule is broken are good ones.
use Rattle.std.proofs.Common.{◌≡◌, ℕ, zero, suc, Bool, true, false, List, [], ◌∷◌, length, map, flat_map, zip, Option, Some, None, bytes_eq, refl, sym, ap, subst, ◌∙◌, ◌⊎◌, inl, inr, append-nil}
use Rattle.std.specs.Option.{option_to_list}
use Rattle.std.specs.List.{list_all, AllByRecursion}
use Rattle.std.proofs.lemmas.Bool.{and_parts, and_from}
use Rattle.ir_tables.specs.Table.{is_distinct}
use Rattle.ir_tables.specs.Linkage.{linkage_code, linkage_of_code}
use Rattle.ir_tables.specs.declared.linkage.Linkage.{Linkage}
use Rattle.ir_tables.specs.declared.linkage.Linkage.TheVariants.{External}
use Rattle.type_table.specs.Tree.{Tree}
use Rattle.module_arena.specs.Forms.{is_not_empty, is_small_alignment}
use Rattle.module_arena.specs.Functions.{blocks}
use Rattle.module_arena.specs.Module.{Bytes, LocalName, Constant, Parameter, Variable, Alias, Function, Module}
use Rattle.module_arena.specs.Names as arena
use Rattle.module_arena.specs.Same.{same_local}
use Rattle.module_arena.specs.WellFormed.{has_entry, is_good_alias, is_good_constant, is_good_function, is_good_type, is_good_variable, known_of_block, known_of_variable, types_of_alias}
use Rattle.record_table.specs.Bodies.{Begun, after_all, numbers_from, with_names}
use Rattle.record_table.specs.Fields.{Numbering, Texts, linkage, target, ty}
use Rattle.record_table.specs.Layout.{◌&◌, counted}
use Rattle.record_table.specs.Fields as fields
use Rattle.record_table.specs.Constants.{constant}
use Rattle.record_table.specs.Records.{alias, alias_type_of, function, parameters_of, types_of, variable, with_body}
use Rattle.record_law.proofs.OnFormed.Tests.{all_pass, each_passes}
use Rattle.record_law.proofs.OnFormed.Texts.{HoldsTexts, name_read}
use Rattle.record_law.proofs.OnFormed.Unbroken.{Any, IsRead, OfEither, OfSome, behind_read, both_read, coded_read, counted_read, either_read, indexed_read, mapped_read, option_read}
use Rattle.record_law.proofs.OnFormed.Good.{IsGoodBody, IsOf}
use Rattle.record_law.proofs.OnFormed.Constants.{constant_read, ty_read}
use Rattle.record_law.proofs.OnFormed.Fields.{alignment_read, truth_read}
use Rattle.record_law.proofs.OnFormed.LocalNames.{more_names, names_tested, names_zipped, no_names, numbers_alone, numbers_called, numbers_new}

pub linkage_read : IsRead Any linkage.read
linkage_read = coded_read Any linkage_code linkage_of_code External (λ n x e. tt)

numbers_many : (own count : ℕ) → length (numbers_from own count) ≡ count
unfolding numbers_from
numbers_many own zero = refl
numbers_many own (suc count) = ap suc (numbers_many (suc own) count)

-- ---- variables

-- a variable as a module may have it
pub record IsVariable (m : Module) (v : Variable) : Type 0 where
  pub named : arena.is_name v.name ≡ true
  pub good : is_good_variable m v ≡ true
  pub constants_good : list_all (is_good_constant m) (known_of_variable v) ≡ true

-- an alias
pub record IsAlias (m : Module) (a : Alias) : Type 0 where
  pub named : arena.is_name a.name ≡ true
  pub good : is_good_alias m a ≡ true

-- a function, and whether its body is due
pub record IsFunction (m : Module) (f : Bool × Function) : Type 0 where
  pub named : arena.is_name f.1.name ≡ true
  pub good : is_good_function m f.1 ≡ true
  pub constants_good : list_all (is_good_constant m) (flat_map known_of_block (blocks f.1)) ≡ true

-- the types of parameters
parameters_typed : (m : Module) (ts : List Tree) (ns : List LocalName) → AllByRecursion (λ t. is_good_type m.structs t ≡ true) ts → list_all (λ (p : Parameter). is_good_type m.structs p.ty) (parameters_of (zip ts ns)) ≡ true
parameters_typed m [] ns h = refl
parameters_typed m (t ∷ ts) [] h = refl
parameters_typed m (t ∷ ts) (n ∷ ns) h = and_from (is_good_type m.structs t) _ h.0 (parameters_typed m ts ns h.1)

-- ---- functions

numbers_tested : (count : ℕ) → (list_all arena.is_local_name (numbers_from 0 count) ≡ true) × ((is_distinct same_local (numbers_from 0 count) ≡ true) × (arena.is_numbered_from 0 (numbers_from 0 count) ≡ true))
numbers_tested count =
    let numbers = numbers_from 0 count in
    names_tested (after_all 0 numbers) (with_names [] numbers) numbers (more_names 0 [] [] numbers (no_names 0 refl) (numbers_called 0 count) (numbers_new [] 0 count))

-- a declaration has good names
declared_names : (name : Bytes) (l : Linkage) (returns : Tree) (ts : List Tree) (variadic : Bool)
    → arena.has_good_names (record { name = name; linkage = l; returns = returns; parameters = parameters_of (zip ts (numbers_from 0 (length ts))); variadic = variadic; body = None }) ≡ true
declared_names name l returns ts variadic =
    let count = length ts in
    let numbers = numbers_from 0 count in
    let f : Function = record { name = name; linkage = l; returns = returns; parameters = parameters_of (zip ts numbers); variadic = variadic; body = None } in
    let named : arena.parameter_names f ≡ numbers = names_zipped ts numbers (sym (numbers_many 0 count)) in
    let all : numbers ≡ arena.local_names f = sym (append-nil (arena.parameter_names f) ∙ named) in
    let tested = numbers_tested count in
    and_from (list_all arena.is_local_name (arena.local_names f)) _ (subst (λ (ns : List LocalName). list_all arena.is_local_name ns ≡ true) all tested.0)
    (and_from (is_distinct same_local (arena.local_names f)) _ (subst (λ (ns : List LocalName). is_distinct same_local ns ≡ true) all tested.1.0)
    (and_from (arena.is_numbered_from 0 (arena.local_names f)) _ (subst (λ (ns : List LocalName). arena.is_numbered_from 0 ns ≡ true) all tested.1.1)
    (and_from (list_all arena.is_number (arena.parameter_names f)) _ (subst (λ (ns : List LocalName). list_all arena.is_number ns ≡ true) (sym named) (numbers_alone 0 count)) refl)))

types_each : (m : Module) (ps : List Parameter) → list_all (λ (p : Parameter). is_good_type m.structs p.ty) ps ≡ true → AllByRecursion (λ t. is_good_type m.structs t ≡ true) (map (λ p. p.ty) ps)
types_each m [] h = tt
types_each m (p ∷ ps) h = let q = and_parts (is_good_type m.structs p.ty) _ h in (q.0, types_each m ps q.1)

-- a function with a body that was read
pub body_given : (m : Module) (f : Function) (b : Begun) → IsFunction m (true, f) → IsGoodBody m (length f.parameters) b → IsFunction m (false, with_body b f)
body_given m f b h is =
    let p = and_parts (is_good_type m.structs f.returns) _ h.good in
    let q = and_parts (list_all (λ p. is_good_type m.structs p.ty) f.parameters) _ p.1 in
    record {
      named = h.named;
      good = and_from (is_good_type m.structs f.returns) _ p.0
          (and_from (list_all (λ p. is_good_type m.structs p.ty) (parameters_of (zip (types_of f) b.parameters))) _ (parameters_typed m (types_of f) b.parameters (types_each m f.parameters q.0))
          (and_from (is_not_empty b.blocks) _ is.some (and_from (arena.has_good_names (with_body b f)) _ (is.names f refl) is.blocks_good)));
      constants_good = is.constants_good;
    }

module _ (texts : Texts) (holds : HoldsTexts texts) (m : Module) (k : Numbering) (of : IsOf m k) where
  initial_good : (t : Tree) (o : Option Constant) → is_good_type m.structs t ≡ true → OfSome (λ c. is_good_type m.structs t ≡ true → is_good_constant m (t, c) ≡ true) o
      → list_all (is_good_constant m) (map (λ c. (t, c)) (option_to_list o)) ≡ true
  initial_good t None g h = refl
  initial_good t (Some c) g h = and_from (is_good_constant m (t, c)) true (h g) refl

  pub variable_read : IsRead (IsVariable m) (variable texts k).read
  variable_read = mapped_read
      (both_read (name_read texts holds) (both_read linkage_read (both_read truth_read
      (behind_read (ty_read m k of) (λ t. both_read alignment_read (option_read (λ c. is_good_type m.structs t ≡ true → is_good_constant m (t, c) ≡ true) (constant k t) (constant_read m k of t)))))))
      (IsVariable m)
      (λ (n, (l, (c, (t, (a, i))))). record { name = n; linkage = l; constant = c; ty = t; alignment = a; initialiser = i })
      (λ x h. record {
        named = h.0;
        good = and_from (is_good_type m.structs x.1.1.1.0) (is_small_alignment x.1.1.1.1.0) h.1.1.1.0 h.1.1.1.1.0;
        constants_good = initial_good x.1.1.1.0 x.1.1.1.1.1 h.1.1.1.0 h.1.1.1.1.1;
      })

  pub function_read : IsRead (IsFunction m) (function texts k).read
  function_read = mapped_read
      (both_read (name_read texts holds) (both_read linkage_read (both_read truth_read (both_read (ty_read m k of) (both_read truth_read (counted_read (ty_read m k of)))))))
      (IsFunction m)
      (λ (n, (l, (d, (t, (v, ts))))). (d, record { name = n; linkage = l; returns = t; parameters = parameters_of (zip ts (numbers_from 0 (length ts))); variadic = v; body = None }))
      (λ x h. record {
        named = h.0;
        good = and_from (is_good_type m.structs x.1.1.1.0) _ h.1.1.1.0
            (and_from (list_all (λ p. is_good_type m.structs p.ty) (parameters_of (zip x.1.1.1.1.1 (numbers_from 0 (length x.1.1.1.1.1))))) _
            (parameters_typed m x.1.1.1.1.1 (numbers_from 0 (length x.1.1.1.1.1)) h.1.1.1.1.1)
            (and_from true _ refl (and_from _ true (declared_names x.0 x.1.0 x.1.1.1.0 x.1.1.1.1.1 x.1.1.1.1.0) refl)));
        constants_good = refl;
      })

  -- ---- aliases

  alias_typed : (x : Tree ⊎ (Tree × (Bool × List Tree)))
      → OfEither (λ t. is_good_type m.structs t ≡ true) (λ y. (is_good_type m.structs y.0 ≡ true) × (Any y.1.0 × AllByRecursion (λ t. is_good_type m.structs t ≡ true) y.1.1)) x
      → list_all (is_good_type m.structs) (types_of_alias (alias_type_of x)) ≡ true
  alias_typed (inl t) h = and_from (is_good_type m.structs t) true h refl
  alias_typed (inr (t, (v, ts))) h = and_from (is_good_type m.structs t) _ h.0 (all_pass (is_good_type m.structs) ts h.1.1)

  pub alias_read : list_all (has_entry m) k.targets ≡ true → IsRead (IsAlias m) (alias texts k).read
  alias_read targets = mapped_read
      (both_read (name_read texts holds) (both_read linkage_read (both_read
      (either_read (λ t. is_good_type m.structs t ≡ true) (λ y. (is_good_type m.structs y.0 ≡ true) × (Any y.1.0 × AllByRecursion (λ t. is_good_type m.structs t ≡ true) y.1.1))
      (ty k) (ty k & fields.truth & counted (ty k)) (ty_read m k of) (both_read (ty_read m k of) (both_read truth_read (counted_read (ty_read m k of)))))
      (indexed_read (λ g. has_entry m g ≡ true) bytes_eq k.targets [] (each_passes (has_entry m) k.targets targets)))))
      (IsAlias m)
      (λ (n, (l, (t, g))). record { name = n; linkage = l; ty = alias_type_of t; target = g })
      (λ x h. record { named = h.0; good = and_from (list_all (is_good_type m.structs) (types_of_alias (alias_type_of x.1.1.0))) _ (alias_typed x.1.1.0 h.1.1.0) h.1.1.1 })
