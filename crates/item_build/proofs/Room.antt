-- There may be one entry more where there may be as many as the items have.
use Rattle.std.proofs.Common.{◌≡◌, ℕ, zero, suc, ◌+◌, ◌<◌, ◌≤◌, Bool, true, false, cond, ltb, List, ◌∷◌, ◌++◌, length, Option, Some, None, refl, sym, ap, ◌∙◌, arith}
use Rattle.std.specs.Prelude.{filter_map, option_to_list}
use Rattle.std.proofs.lemmas.Bool.Decides.{Decides-ltb}
use Rattle.std.proofs.lemmas.List.{length-map}
use Rattle.ir_syntax.specs.Tree.{ItemTree, SourceFilename, DataLayout, TargetTriple, Struct, Variable, Alias, Declaration, Definition, Attributes, Metadata}
use Rattle.type_table.specs.Types.{trees}
use Rattle.module_arena.specs.declared.fault.CountKind.{CountKind}
use Rattle.module_arena.specs.declared.fault.CountKind.TheVariants as kind
use Rattle.module_arena.specs.Known.{Counts, counts, counted_aliases}
use Rattle.module_arena.specs.Lists.{Lists, name_at}
use Rattle.module_arena.specs.Module.{Module}
use Rattle.module_arena.specs.View.{module_of, variable_view, alias_view, function_view, constants_of}
use Rattle.name_rules.specs.ModuleOf.{variable_in, alias_in, function_in}
use Rattle.item_build.specs.Types.Declarations.{AreFew, without_initialiser, without_target}
use Rattle.item_build.specs.Types.Parameters.{without_body}
use Rattle.item_build.specs.Declaring.{with_declared, HasRoom, counts_in}
use Rattle.item_build.proofs.Walked.{length_parted}

-- the counts, one by one
pub record AreSmall (n : Counts) : Type 0 where
  pub variables : n.variables ≤ 262144
  pub functions : n.functions ≤ 262144
  pub aliases : counted_aliases n.aliases n.variables n.functions ≤ 262144

if_none : {A : Type 0} (b : Bool) (a : A) (o : Option A) → cond b (Some a) o ≡ None → (b ≡ false) × (o ≡ None)
if_none true a o e = absurd cc
if_none false a o e = (refl, e)

not_more : (n : ℕ) → ltb 262144 n ≡ false → n ≤ 262144
not_more n e = by (ltb 262144 n) refl
  where
    le : (262144 < n → ⊥) → n ≤ 262144
    le unlike = omega (arith, unlike)

    by : (b : Bool) → ltb 262144 n ≡ b → n ≤ 262144
    by true is = absurd cc
    by false is = le (λ lt. let yes = (Decides-ltb 262144 n).1 lt in absurd cc)

no_more : (n : ℕ) → n ≤ 262144 → ltb 262144 n ≡ false
no_more n le = by (ltb 262144 n) refl
  where
    by : (b : Bool) → ltb 262144 n ≡ b → ltb 262144 n ≡ false
    by false is = is
    by true is = absurd (omega (arith, le, (Decides-ltb 262144 n).0 is))

pub are_small : (n : Counts) → AreFew n → AreSmall n
are_small n few =
    let aliases = counted_aliases n.aliases n.variables n.functions in
    let third : Option (CountKind × ℕ) = cond (ltb 262144 aliases) (Some (kind.Aliases, aliases)) None in
    let second : Option (CountKind × ℕ) = cond (ltb 262144 n.functions) (Some (kind.Functions, n.functions)) third in
    let one = if_none (ltb 262144 n.variables) (kind.Variables, n.variables) second few in
    let two = if_none (ltb 262144 n.functions) (kind.Functions, n.functions) third one.1 in
    let three = if_none (ltb 262144 aliases) (kind.Aliases, aliases) None two.1 in
    record { variables = not_more n.variables one.0; functions = not_more n.functions two.0; aliases = not_more aliases three.0 }

pub are_few : (n : Counts) → AreSmall n → AreFew n
are_few n small =
    let aliases = counted_aliases n.aliases n.variables n.functions in
    λ j. cond (no_more n.variables small.variables j) (Some (kind.Variables, n.variables))
    (cond (no_more n.functions small.functions j) (Some (kind.Functions, n.functions))
    (cond (no_more aliases small.aliases j) (Some (kind.Aliases, aliases)) None))

counted_fewer : (a b v w f g : ℕ) → a ≤ b → v ≤ w → f ≤ g → counted_aliases a v f ≤ counted_aliases b w g
counted_fewer zero b v w f g ab vw fg = omega arith
counted_fewer (suc a) zero v w f g ab vw fg = absurd (omega (arith, ab))
counted_fewer (suc a) (suc b) v w f g ab vw fg = omega (arith, ab, vw, fg)

pub fewer_still : (n more : Counts) → n.variables ≤ more.variables → n.aliases ≤ more.aliases → n.functions ≤ more.functions → AreFew more → AreFew n
fewer_still n more vs xs fs few =
    let small = are_small more few in
    let aliases = counted_fewer n.aliases more.aliases n.variables more.variables n.functions more.functions xs vs fs in
    are_few n (record {
      variables = omega (arith, small.variables, vs);
      functions = omega (arith, small.functions, fs);
      aliases = omega (arith, small.aliases, aliases);
    })

-- how many aliases there are at most
pub aliases_small : (n : Counts) → AreSmall n → n.aliases ≤ 262144
aliases_small n small = by n.aliases small.aliases
  where
    by : (x : ℕ) → counted_aliases x n.variables n.functions ≤ 262144 → x ≤ 262144
    by zero le = omega arith
    by (suc x) le = omega (arith, le)

-- ---- the lengths of the lists are those of the module

pub variables_counted : (a : Lists) → length (module_of a).variables ≡ length a.variables
unfolding module_of
variables_counted a = length-map a.variables (variable_view (trees a.table) (constants_of a))

pub aliases_counted : (a : Lists) → length (module_of a).aliases ≡ length a.aliases
unfolding module_of
aliases_counted a = length-map a.aliases (alias_view (trees a.table) (name_at a))

pub functions_counted : (a : Lists) → length (module_of a).functions ≡ length a.functions
unfolding module_of
functions_counted a = length-map a.functions (function_view (trees a.table) (constants_of a))

module _ (a : Lists) (start : Module) (first : List ItemTree) (same : module_of a ≡ with_declared start first) where
  vs : length a.variables ≡ length (filter_map variable_in first)
  vs = sym (variables_counted a) ∙ ap (λ (w : Module). length w.variables) same ∙ length-map (filter_map variable_in first) without_initialiser

  xs : length a.aliases ≡ length (filter_map alias_in first)
  xs = sym (aliases_counted a) ∙ ap (λ (w : Module). length w.aliases) same ∙ length-map (filter_map alias_in first) without_target

  fs : length a.functions ≡ length (filter_map function_in first)
  fs = sym (functions_counted a) ∙ ap (λ (w : Module). length w.functions) same ∙ length-map (filter_map function_in first) without_body

  pub room_for : (x : ItemTree) (rest : List ItemTree) → AreFew (counts_in (first ++ x ∷ rest)) → HasRoom a x
  room_for x rest few = by x (length_parted variable_in first x rest) (length_parted alias_in first x rest) (length_parted function_in first x rest) few
    where
      by : (x : ItemTree)
          → length (filter_map variable_in (first ++ x ∷ rest)) ≡ length (filter_map variable_in first) + (length (option_to_list (variable_in x)) + length (filter_map variable_in rest))
          → length (filter_map alias_in (first ++ x ∷ rest)) ≡ length (filter_map alias_in first) + (length (option_to_list (alias_in x)) + length (filter_map alias_in rest))
          → length (filter_map function_in (first ++ x ∷ rest)) ≡ length (filter_map function_in first) + (length (option_to_list (function_in x)) + length (filter_map function_in rest))
          → AreFew (counts_in (first ++ x ∷ rest)) → HasRoom a x
      by (Variable v) ev ex ef few = fewer_still (record (counts a) { variables = length a.variables + 1 }) (counts_in (first ++ Variable v ∷ rest)) (omega (arith, vs, ev)) (omega (arith, xs, ex)) (omega (arith, fs, ef)) few
      by (Alias w) ev ex ef few = fewer_still (record (counts a) { aliases = length a.aliases + 1 }) (counts_in (first ++ Alias w ∷ rest)) (omega (arith, vs, ev)) (omega (arith, xs, ex)) (omega (arith, fs, ef)) few
      by (Declaration place head parameters variadic) ev ex ef few =
          fewer_still (record (counts a) { functions = length a.functions + 1 }) (counts_in (first ++ Declaration place head parameters variadic ∷ rest)) (omega (arith, vs, ev)) (omega (arith, xs, ex)) (omega (arith, fs, ef)) few
      by (Definition place head parameters blocks) ev ex ef few =
          fewer_still (record (counts a) { functions = length a.functions + 1 }) (counts_in (first ++ Definition place head parameters blocks ∷ rest)) (omega (arith, vs, ev)) (omega (arith, xs, ex)) (omega (arith, fs, ef)) few
      by (SourceFilename place text) ev ex ef few = tt
      by (DataLayout place text) ev ex ef few = tt
      by (TargetTriple place text) ev ex ef few = tt
      by (Struct name body) ev ex ef few = tt
      by (Attributes place) ev ex ef few = tt
      by (Metadata place) ev ex ef few = tt
