-- Where the leaves of an operand are had from.
use Rattle.std.proofs.Common.{◌≡◌, ℕ, List, [], ◌∷◌, map, true}
use Rattle.std.specs.List.{AllZip}
use Rattle.ir_eval.specs.declared.value.Scalar.{Scalar}
use Rattle.ir_memory.specs.declared.leaf.Leaf.{Leaf}
use Rattle.ir_memory.specs.declared.leaf.Leaf.TheVariants as leaf
use Rattle.type_table.specs.Tree.{Tree, int, ptr}
use Rattle.module_arena.specs.Constants.{constants_in}
use Rattle.module_arena.specs.Functions.{blocks}
use Rattle.module_arena.specs.Module.{Bytes, Value, Function}
use Rattle.module_arena.specs.ValueRules.{value_has_type, value_fits}
use Rattle.run_rules.specs.Action.{Origin, Action}
use Rattle.run_rules.specs.Constant.{Names, shape_of, constant_value}
use Rattle.run_rules.specs.Scope.{scope_of, value_in, one_origin, scalar_of}
use Rattle.typed_runs.specs.Actions.{Typing, IsOrigin, AreOrigins}
use Rattle.typed_runs.specs.Kinds.{IsOf, kinds_of}
use Rattle.typed_runs.specs.Look.Typings.{frame_kinds}
use Rattle.typed_runs.proofs.OnLook.Constants.{AreSound, constant_typed}
use Rattle.typed_runs.proofs.OnLook.Opened.{parts_have_shapes}
use Rattle.typed_runs.proofs.OnLook.Operands.{AllHaveShapes, local_operand}

module _ (t : Typing) (look : ℕ → ℕ → ℕ → Action) (function : ℕ) where
  known_origins : (ks : List Leaf) (vs : List Scalar) → AllZip (IsOf t.fixed) ks vs → AreOrigins t look function ks (map Origin.Known vs)
  known_origins [] [] h = tt
  known_origins [] (v ∷ vs) h = absurd h
  known_origins (k ∷ ks) [] h = absurd h
  known_origins (k ∷ ks) (v ∷ vs) h = (h.0, known_origins ks vs h.1)

  -- the one of a scalar
  pub one_origin_typed : (k : Leaf) (os : List Origin) → AreOrigins t look function (k ∷ []) os → IsOrigin t look function k (one_origin os)
  one_origin_typed k [] h = absurd h
  one_origin_typed k (o ∷ os) h = h.0

  module _ (names : Names) (f : Function) (kinds : t.kinds function ≡ frame_kinds names f) (shapes : AllHaveShapes names.structs (blocks f)) (addresses : (name : Bytes) → IsOf t.fixed leaf.Ptr (names.address name)) where
    -- the constants in a value are sound
    abbrev pub IsSoundValue : Tree → Value → Type 0
    IsSoundValue ty (Value.Local name) = Unit {0}
    IsSoundValue ty (Value.Known c) = AreSound names (constants_in ty c)

    pub value_typed : (ty : Tree) (v : Value) → value_has_type names.structs f ty v ≡ true → value_fits names.structs ty v ≡ true → IsSoundValue ty v → AreOrigins t look function (kinds_of (shape_of names ty)) (value_in (scope_of names f) ty v)
    value_typed ty (Value.Local name) has fit sound = local_operand names (parts_have_shapes names) t look function f ty name shapes kinds has
    value_typed ty (Value.Known c) has fit sound = known_origins (kinds_of (shape_of names ty)) (constant_value names ty c) (constant_typed names t.fixed addresses ty c fit sound)

    -- the one leaf of an integer or a pointer
    pub integer_typed : (w : ℕ) (v : Value) → value_has_type names.structs f (int w) v ≡ true → value_fits names.structs (int w) v ≡ true → IsSoundValue (int w) v → IsOrigin t look function (leaf.Int w) (scalar_of (scope_of names f) (int w) v)
    integer_typed w v has fit sound = one_origin_typed (leaf.Int w) (value_in (scope_of names f) (int w) v) (value_typed (int w) v has fit sound)

    pub pointer_typed : (v : Value) → value_has_type names.structs f ptr v ≡ true → value_fits names.structs ptr v ≡ true → IsSoundValue ptr v → IsOrigin t look function leaf.Ptr (scalar_of (scope_of names f) ptr v)
    pointer_typed v has fit sound = one_origin_typed leaf.Ptr (value_in (scope_of names f) ptr v) (value_typed ptr v has fit sound)
