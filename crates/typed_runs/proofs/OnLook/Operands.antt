-- A local operand has leaves of the type that its place writes.
use Rattle.std.proofs.Common.{◌≡◌, ℕ, ◌+◌, List, [], ◌∷◌, ◌++◌, map, flat_map, refl, sym, ap, ◌∙◌, subst, Bool, true, false, Option, Some, None, option_to_list, is_some, true≢false, cond, unwrap_or, if◌then◌else◌}
use Rattle.std.specs.Prelude.{find, ⊤}
use Rattle.std.specs.List.{AllZip, AllByRecursion}
use Rattle.std.specs.Option.{option_map_or}
use Rattle.std.proofs.lemmas.Option.{same_Some}
use Rattle.run_rules.proofs.OnPlaces.Options.{none_some}
use Rattle.type_table.specs.Layout.{leaves}
use Rattle.type_table.specs.Shape.{shape}
use Rattle.type_table.specs.Tree.{Tree, Structs}
use Rattle.module_arena.specs.Functions.{Definition, body, blocks, parameter_definition, result_definitions, definitions, definition_type, local_type}
use Rattle.module_arena.specs.Module.{LocalName, Operation, Instruction, Block, Parameter, Function}
use Rattle.module_arena.specs.Module.Value.{Local}
use Rattle.module_arena.specs.Operations.{result_type}
use Rattle.module_arena.specs.Same.{same_local, same_type}
use Rattle.module_arena.specs.TypeTests.{is_void, is_type, part_at}
use Rattle.module_arena.specs.ValueRules.{value_has_type}
use Rattle.module_arena.proofs.SameValues.{type_is}
use Rattle.run_rules.specs.Action.{Action}
use Rattle.run_rules.specs.Constant.{Names, shape_of}
use Rattle.run_rules.specs.Leaves.{part}
use Rattle.run_rules.specs.Scope.{Placed, Typed, placed_from, parameters_of, result_shape, result_of, results_of, blocks_of, locals_of, scope_of, leaves_at, value_in}
use Rattle.typed_runs.specs.Actions.{Typing, AreOrigins}
use Rattle.typed_runs.specs.Kinds.{kinds_of}
use Rattle.typed_runs.specs.Look.Typings.{frame_kinds}
use Rattle.typed_runs.proofs.OnLook.Locals.{local_had}

-- the part of a shape has the shape of the part
abbrev pub PartsHaveShapes : Names → Type 0
PartsHaveShapes names = (t u : Tree) (indices : List ℕ) → is_some (shape names.structs t) ≡ true → part_at names.structs t indices ≡ Some u → part (shape_of names t) indices ≡ shape_of names u

-- what a part is taken of has a shape
abbrev pub HasShapes : Structs → Operation → Type 0
HasShapes structs (Operation.ExtractValue aggregate indices) = is_some (shape structs aggregate.ty) ≡ true
HasShapes structs _ = ⊤

abbrev pub AllHaveShapes : Structs → List Block → Type 0
AllHaveShapes structs bs = AllByRecursion (λ (b : Block). AllByRecursion (λ (i : Instruction). HasShapes structs i.operation) b.instructions) bs

module _ (names : Names) (parted : PartsHaveShapes names) where
  -- a result has the shape of its type
  result_shaped : (o : Operation) (t : Tree) → HasShapes names.structs o → result_type names.structs o ≡ Some t → result_shape names o ≡ shape_of names t
  result_shaped (Operation.BinaryOperation opcode flags left right) t has e = ap (shape_of names) (same_Some left.ty t e)
  result_shaped (Operation.Compare flags predicate left right) t has e = ap (shape_of names) (same_Some _ t e)
  result_shaped (Operation.Convert opcode flags value to) t has e = ap (shape_of names) (same_Some to t e)
  result_shaped (Operation.Select condition first second) t has e = ap (shape_of names) (same_Some first.ty t e)
  result_shaped (Operation.Freeze value) t has e = ap (shape_of names) (same_Some value.ty t e)
  result_shaped (Operation.Phi ty incoming) t has e = ap (shape_of names) (same_Some ty t e)
  result_shaped (Operation.Load flags ty address alignment) t has e = ap (shape_of names) (same_Some ty t e)
  result_shaped (Operation.Store flags value address alignment) t has e = none_some t e
  result_shaped (Operation.Alloca ty count alignment) t has e = ap (shape_of names) (same_Some _ t e)
  result_shaped (Operation.GetElementPtr flags source base indices) t has e = ap (shape_of names) (same_Some _ t e)
  result_shaped (Operation.Call signature callee arguments) t has e = go (is_void signature.returns) e
    where
      go : (b : Bool) → (if b then None else Some signature.returns) ≡ Some t → shape_of names signature.returns ≡ shape_of names t
      go true k = none_some t k
      go false k = ap (shape_of names) (same_Some signature.returns t k)
  result_shaped (Operation.ExtractValue aggregate indices) t has e = parted aggregate.ty t indices has e
  result_shaped (Operation.InsertValue aggregate new indices) t has e = ap (shape_of names) (same_Some aggregate.ty t e)

  -- a definition and the parameter or result that it is
  abbrev IsSame : Definition → Typed → Type 0
  IsSame d x = (d.0 ≡ x.0) × ((t : Tree) → d.1 ≡ Some t → x.1 ≡ shape_of names t)

  zip_both : (ds es : List Definition) (xs ys : List Typed) → AllZip IsSame ds xs → AllZip IsSame es ys → AllZip IsSame (ds ++ es) (xs ++ ys)
  zip_both [] es [] ys h k = k
  zip_both [] es (x ∷ xs) ys h k = absurd h
  zip_both (d ∷ ds) es [] ys h k = absurd h
  zip_both (d ∷ ds) es (x ∷ xs) ys h k = (h.0, zip_both ds es xs ys h.1 k)

  parameters_same : (ps : List Parameter) → AllZip IsSame (map parameter_definition ps) (map (λ (p : Parameter). (p.name, shape_of names p.ty)) ps)
  parameters_same [] = tt
  parameters_same (p ∷ ps) = ((refl, λ t e. ap (shape_of names) (same_Some p.ty t e)), parameters_same ps)

  result_same : (o : Option LocalName) (operation : Operation) → HasShapes names.structs operation
      → AllZip IsSame (map (λ name. (name, result_type names.structs operation)) (option_to_list o)) (option_map_or {U = List Typed} (λ name. (name, result_shape names operation) ∷ []) o [])
  result_same None operation has = tt
  result_same (Some name) operation has = ((refl, λ t e. result_shaped operation t has e), tt)

  instructions_same : (is : List Instruction) → AllByRecursion (λ (i : Instruction). HasShapes names.structs i.operation) is → AllZip IsSame (flat_map (result_definitions names.structs) is) (flat_map (result_of names) is)
  instructions_same [] has = tt
  instructions_same (i ∷ is) has =
      zip_both (result_definitions names.structs i) (flat_map (result_definitions names.structs) is) (result_of names i) (flat_map (result_of names) is) (result_same i.result i.operation has.0) (instructions_same is has.1)

  blocks_same : (bs : List Block) → AllHaveShapes names.structs bs → AllZip IsSame (flat_map (λ block. flat_map (result_definitions names.structs) block.instructions) bs) (flat_map (results_of names) bs)
  blocks_same [] has = tt
  blocks_same (b ∷ bs) has =
      zip_both (flat_map (result_definitions names.structs) b.instructions) (flat_map (λ block. flat_map (result_definitions names.structs) block.instructions) bs) (results_of names b) (flat_map (results_of names) bs)
      (instructions_same b.instructions has.0) (blocks_same bs has.1)

  same_blocks : (o : Option (List Block)) → body o ≡ unwrap_or o []
  same_blocks None = refl
  same_blocks (Some bs) = refl

  locals_same : (f : Function) → AllHaveShapes names.structs (blocks f) → AllZip IsSame (definitions names.structs f) (locals_of names f)
  locals_same f has =
      zip_both (map parameter_definition f.parameters) (flat_map (λ block. flat_map (result_definitions names.structs) block.instructions) (blocks f)) (parameters_of names f) (flat_map (results_of names) (blocks_of f))
      (parameters_same f.parameters)
      (subst (λ bs. AllZip IsSame (flat_map (λ block. flat_map (result_definitions names.structs) block.instructions) (blocks f)) (flat_map (results_of names) bs)) (same_blocks f.body) (blocks_same (blocks f) has))

  -- what is found of the one is found of the other
  found_same : (name : LocalName) (ds : List Definition) (xs : List Typed) (place : ℕ) (t : Tree) → AllZip IsSame ds xs → definition_type (find (λ d. same_local d.0 name) ds) ≡ Some t
      → (l : Placed) × (find (λ l. same_local l.name name) (placed_from place xs) ≡ Some l) × (l.shape ≡ shape_of names t)
  found_same name [] [] place t h e = none_some t e
  found_same name [] (x ∷ xs) place t h e = absurd h
  found_same name (d ∷ ds) [] place t h e = absurd h
  found_same name (d ∷ ds) (x ∷ xs) place t h e = go (same_local d.0 name) refl e (λ k. found_same name ds xs (place + leaves x.1) t h.1 k)
    where
      mine : Placed
      mine = record { name = x.0; shape = x.1; place = place }

      others : List Placed
      others = placed_from (place + leaves x.1) xs

      go : (b : Bool) → same_local d.0 name ≡ b → definition_type (cond b (Some d) (find (λ (d : Definition). same_local d.0 name) ds)) ≡ Some t
          → (definition_type (find (λ (d : Definition). same_local d.0 name) ds) ≡ Some t → (l : Placed) × (find (λ (l : Placed). same_local l.name name) others ≡ Some l) × (l.shape ≡ shape_of names t))
          → (l : Placed) × (cond (same_local x.0 name) (Some mine) (find (λ (l : Placed). same_local l.name name) others) ≡ Some l) × (l.shape ≡ shape_of names t)
      go true p k more =
          (mine, ap (λ b. cond b (Some mine) (find (λ (l : Placed). same_local l.name name) others)) (sym (ap (λ n. same_local n name) h.0.0) ∙ p), h.0.1 t k)
      go false p k more =
          let r = more k in
          (r.0, ap (λ b. cond b (Some mine) (find (λ (l : Placed). same_local l.name name) others)) (sym (ap (λ n. same_local n name) h.0.0) ∙ p) ∙ r.1, r.2)

  typed_as : (t : Tree) (o : Option Tree) → is_type (same_type t) o ≡ true → o ≡ Some t
  typed_as t None h = absurd (true≢false (sym h))
  typed_as t (Some u) h = ap (λ (x : Tree). Some x) (sym (type_is t u h))

  -- a local operand
  pub local_operand : (t : Typing) (look : ℕ → ℕ → ℕ → Action) (function : ℕ) (f : Function) (ty : Tree) (name : LocalName) → AllHaveShapes names.structs (blocks f) → t.kinds function ≡ frame_kinds names f → value_has_type names.structs f ty (Local name) ≡ true
      → AreOrigins t look function (kinds_of (shape_of names ty)) (value_in (scope_of names f) ty (Local name))
  local_operand t look function f ty name has e h =
      let r = found_same name (definitions names.structs f) (locals_of names f) 0 ty (locals_same f has) (typed_as ty (local_type names.structs f name) h) in
      subst (λ (o : Option Placed). AreOrigins t look function (kinds_of (shape_of names ty)) (option_map_or leaves_at o [])) (sym r.1)
      (subst (λ s. AreOrigins t look function (kinds_of s) (leaves_at r.0)) r.2 (local_had t look function names f name r.0 e r.1))
