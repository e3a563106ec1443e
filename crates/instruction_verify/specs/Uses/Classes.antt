-- For `constant_classes`: which constants have one number.
use Rattle.std.specs.Prelude.{◌≡◌, ℕ, ◌<◌, ◌==◌, ⊤, List, length, slice_index_or}
use Rattle.module_arena.specs.declared.instruction.Value.{Value}
use Rattle.module_arena.specs.declared.instruction.Value.TheVariants as value
use Rattle.module_arena.specs.Module.{Constant}
use Rattle.module_arena.specs.Same.{same_constant}
use Rattle.module_arena.specs.View.{constant_at}

-- two constants have one number exactly where they are the same
abbrev pub AreClasses : List Constant → List ℕ → Type 0
AreClasses constants classes = (i j : ℕ) → i < length classes → j < length classes
    → (slice_index_or classes i 0 == slice_index_or classes j 0) ≡ same_constant (constant_at constants i) (constant_at constants j)

-- a value that is a constant has a number
abbrev pub HasClass : ℕ → Value → Type 0
HasClass count (value.Local id) = ⊤
HasClass count (value.Known id) = id < count
