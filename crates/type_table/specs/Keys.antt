-- For `==` and `hash` of types and bodies: when two are equal, and what a hasher is fed.
use Rattle.std.specs.Prelude.{◌≡◌, ℕ, Bool, true, false, ◌==◌, ◌&&◌, List, ◌++◌, nat_eq, refl}
use Rattle.std.proofs.Common.{ap, sym, ◌∙◌, true≢false}
use Rattle.std.specs.Bool.{Decides, beq}
use Rattle.std.specs.Cmp.{IsEquivalence, decided, unsigned_Decides, booleans_Decides, first_so, second_so}
use Rattle.std.specs.Cmp.Lexicographic.{pointwise, bytes_decides}
use Rattle.std.specs.Hash as fed
use Rattle.type_table.specs.declared.ir_type.IrType.{IrType}
use Rattle.type_table.specs.declared.ir_type.IrType.TheVariants.{Int, Ptr, Void, Array, Struct, Named}
use Rattle.type_table.specs.declared.ir_type.StructBody.{StructBody}
use Rattle.type_table.specs.declared.ir_type.StructBody.TheVariants.{Opaque, Plain, Packed}

-- whether two lists of ids are equal
abbrev pub ids_eq : List ℕ → List ℕ → Bool
ids_eq ids others = pointwise nat_eq ids others

-- whether two types are equal, by the ids of their parts
abbrev pub type_eq : IrType → IrType → Bool
type_eq (Int w) (Int other) = w == other
type_eq Ptr Ptr = true
type_eq Void Void = true
type_eq (Array n part) (Array m other) = (n == m) && (part == other)
type_eq (Struct packed parts) (Struct tight others) = beq packed tight && ids_eq parts others
type_eq (Named id) (Named other) = id == other
type_eq _ _ = false

-- whether two bodies are equal, by the ids of their fields
abbrev pub body_eq : StructBody → StructBody → Bool
body_eq Opaque Opaque = true
body_eq (Plain parts) (Plain others) = ids_eq parts others
body_eq (Packed parts) (Packed others) = ids_eq parts others
body_eq _ _ = false

-- which variant it is, and then its parts
abbrev pub type_writes : IrType → fed.HashWrites
type_writes (Int w) = fed.u8 0 ++ fed.u8 w
type_writes Ptr = fed.u8 1
type_writes Void = fed.u8 2
type_writes (Array n part) = fed.u8 3 ++ fed.u64 n ++ fed.u64 part
type_writes (Struct packed parts) = fed.u8 4 ++ fed.bool packed ++ fed.slice fed.u64 parts
type_writes (Named id) = fed.u8 5 ++ fed.u32 id

-- the same for a body
abbrev pub body_writes : StructBody → fed.HashWrites
body_writes Opaque = fed.u8 0
body_writes (Plain parts) = fed.u8 1 ++ fed.slice fed.u64 parts
body_writes (Packed parts) = fed.u8 2 ++ fed.slice fed.u64 parts

-- a number is equal to itself
number_same : (n : ℕ) → (n == n) ≡ true
number_same n = (unsigned_Decides n n).1 refl

-- a type is equal to itself
type_same : (a : IrType) → type_eq a a ≡ true
type_same (Int w) = number_same w
type_same Ptr = refl
type_same Void = refl
type_same (Array n part) = λ j. number_same n j && number_same part j
type_same (Struct packed parts) = λ j. (booleans_Decides packed packed).1 refl j && (bytes_decides parts parts).1 refl j
type_same (Named id) = number_same id

-- types that test equal are equal
type_so : (a b : IrType) → type_eq a b ≡ true → a ≡ b
type_so (Int w) (Int other) e = ap Int ((unsigned_Decides w other).0 e)
type_so Ptr Ptr e = refl
type_so Void Void e = refl
type_so (Array n part) (Array m other) e =
    λ j. Array ((unsigned_Decides n m).0 (first_so (n == m) (part == other) e) j) ((unsigned_Decides part other).0 (second_so (n == m) (part == other) e) j)
type_so (Struct packed parts) (Struct tight others) e =
    λ j. Struct
    ((booleans_Decides packed tight).0 (first_so (beq packed tight) (ids_eq parts others) e) j)
    ((bytes_decides parts others).0 (second_so (beq packed tight) (ids_eq parts others) e) j)
type_so (Named id) (Named other) e = ap Named ((unsigned_Decides id other).0 e)
type_so _ _ e = absurd (true≢false (sym e))

-- the test is true exactly where the types are equal
pub types_decide : (a b : IrType) → Decides (type_eq a b) (a ≡ b)
types_decide a b = (type_so a b, λ p. ap (type_eq a) (sym p) ∙ type_same a)

-- a body is equal to itself
body_same : (a : StructBody) → body_eq a a ≡ true
body_same Opaque = refl
body_same (Plain parts) = (bytes_decides parts parts).1 refl
body_same (Packed parts) = (bytes_decides parts parts).1 refl

-- bodies that test equal are equal
body_so : (a b : StructBody) → body_eq a b ≡ true → a ≡ b
body_so Opaque Opaque e = refl
body_so (Plain parts) (Plain others) e = ap Plain ((bytes_decides parts others).0 e)
body_so (Packed parts) (Packed others) e = ap Packed ((bytes_decides parts others).0 e)
body_so _ _ e = absurd (true≢false (sym e))

-- the same for bodies
pub bodies_decide : (a b : StructBody) → Decides (body_eq a b) (a ≡ b)
bodies_decide a b = (body_so a b, λ p. ap (body_eq a) (sym p) ∙ body_same a)

-- so `==` of types is an equivalence
pub types_equivalent : IsEquivalence type_eq
types_equivalent = decided type_eq types_decide

-- and `==` of bodies
pub bodies_equivalent : IsEquivalence body_eq
bodies_equivalent = decided body_eq bodies_decide
