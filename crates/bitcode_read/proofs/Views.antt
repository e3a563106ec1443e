-- Entries seen with more types are what they were.
use Rattle.std.proofs.Common.{◌≡◌, ◌<◌, ℕ, List, [], ◌∷◌, ◌++◌, length, map, All, Option, refl, ap, ◌∙◌, arith}
use Rattle.std.proofs.lemmas.List.{get_or_append_left, length_push}
use Rattle.std.proofs.lemmas.List.Elements.{All-head, All-tail}
use Rattle.type_table.specs.declared.ir_type.IrType.TheVariants as type
use Rattle.type_table.specs.Tree.{Tree, void}
use Rattle.type_table.specs.Types.{Types, names, tree_of, trees, with_type}
use Rattle.type_table.proofs.Added.{length-trees, trees-with}
use Rattle.module_arena.specs.declared.entry.Alias as the_alias
use Rattle.module_arena.specs.declared.entry.AliasType as the_alias_type
use Rattle.module_arena.specs.declared.entry.AliasType.TheVariants as alias_type
use Rattle.module_arena.specs.declared.entry.GlobalId.{GlobalId}
use Rattle.module_arena.specs.declared.entry.Variable as the_variable
use Rattle.module_arena.specs.Known.{Counts, KnowsAlias, KnowsVariable, alias_types}
use Rattle.module_arena.specs.Module as m
use Rattle.module_arena.specs.Module.{Bytes, Constant}
use Rattle.module_arena.specs.View.{alias_type_view, alias_view, type_at, variable_view}
use Rattle.bitcode_read.specs.Holding.Holding.{initialised_by, targeted_by}

-- the types of a table stay where others are added
pub types_agree : (t : Types) (id : ℕ) → id < length t.types → type_at (trees (with_type (with_type t type.Ptr) (type.Int 1))) id ≡ type_at (trees t) id
types_agree t id lt =
    let one = with_type t type.Ptr in
    let long = length-trees t in
    let one_long = length-trees one in
    let more : length (trees one) ≡ length (trees t ++ tree_of (names t) (trees t) type.Ptr ∷ []) = ap length (trees-with t type.Ptr) in
    let push = length_push (trees t) (tree_of (names t) (trees t) type.Ptr) in
    ap (λ (ts : List Tree). type_at ts id) (trees-with one (type.Int 1))
    ∙ (get_or_append_left (trees one) (tree_of (names one) (trees one) (type.Int 1) ∷ []) void id (omega (arith, lt, long, more, push))
    ∙ (ap (λ (ts : List Tree). type_at ts id) (trees-with t type.Ptr) ∙ get_or_append_left (trees t) (tree_of (names t) (trees t) type.Ptr ∷ []) void id (omega (arith, lt, long))))

module _ (ts us : List Tree) (n : ℕ) (agree : (id : ℕ) → id < n → type_at ts id ≡ type_at us id) where
  pub variables_agree : (cs : List Constant) (constants : ℕ) (vs : List the_variable.Variable) (os : List (Option ℕ)) → All (KnowsVariable n constants) vs → map (variable_view ts cs) (initialised_by vs os) ≡ map (variable_view us cs) (initialised_by vs os)
  variables_agree cs constants vs [] known = all vs known
    where
      all : (vs : List the_variable.Variable) → All (KnowsVariable n constants) vs → map (variable_view ts cs) vs ≡ map (variable_view us cs) vs
      all [] known = refl
      all (v ∷ vs) known = λ j. record (variable_view us cs v) { ty = agree v.ty (All-head (KnowsVariable n constants) v vs known).ty_known j } ∷ all vs (All-tail (KnowsVariable n constants) v vs known) j
  variables_agree cs constants [] (o ∷ os) known = refl
  variables_agree cs constants (v ∷ vs) (o ∷ os) known =
      λ j. record (variable_view us cs (record v { initialiser = o })) { ty = agree v.ty (All-head (KnowsVariable n constants) v vs known).ty_known j }
      ∷ variables_agree cs constants vs os (All-tail (KnowsVariable n constants) v vs known) j

  listed_agree : (ids : List ℕ) → All (λ ty. ty < n) ids → map (type_at ts) ids ≡ map (type_at us) ids
  listed_agree [] known = refl
  listed_agree (id ∷ ids) known = λ j. agree id (All-head (λ ty. ty < n) id ids known) j ∷ listed_agree ids (All-tail (λ ty. ty < n) id ids known) j

  alias_type_agree : (t : the_alias_type.AliasType) → All (λ ty. ty < n) (alias_types t) → alias_type_view ts t ≡ alias_type_view us t
  alias_type_agree (alias_type.Plain ty) known = ap (λ (x : Tree). m.AliasType.PlainType x) (agree ty (All-head (λ ty. ty < n) ty [] known))
  alias_type_agree (alias_type.Function returns parameters variadic) known =
      λ j. m.AliasType.FunctionType (record { returns = agree returns (All-head (λ ty. ty < n) returns parameters known) j; parameters = listed_agree parameters (All-tail (λ ty. ty < n) returns parameters known) j; variadic = variadic })

  pub aliases_agree : (named : GlobalId → Bytes) (c : Counts) (xs : List the_alias.Alias) (os : List (Option GlobalId)) → All (KnowsAlias n c) xs → map (alias_view ts named) (targeted_by xs os) ≡ map (alias_view us named) (targeted_by xs os)
  aliases_agree named c xs [] known = all xs known
    where
      all : (xs : List the_alias.Alias) → All (KnowsAlias n c) xs → map (alias_view ts named) xs ≡ map (alias_view us named) xs
      all [] known = refl
      all (x ∷ xs) known = λ j. record (alias_view us named x) { ty = alias_type_agree x.ty (All-head (KnowsAlias n c) x xs known).types_known j } ∷ all xs (All-tail (KnowsAlias n c) x xs known) j
  aliases_agree named c [] (o ∷ os) known = refl
  aliases_agree named c (x ∷ xs) (o ∷ os) known =
      λ j. record (alias_view us named (record x { target = o })) { ty = alias_type_agree x.ty (All-head (KnowsAlias n c) x xs known).types_known j }
      ∷ aliases_agree named c xs os (All-tail (KnowsAlias n c) x xs known) j
