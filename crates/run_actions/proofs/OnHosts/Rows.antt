-- What the rows of the host table look at and do, by the places of the arguments.
use Rattle.std.proofs.Common.{◌≡◌, ℕ, ◌%◌, ◌^◌, ◌<◌, ◌≤◌, List, [], ◌∷◌, length, refl, sym, ap, subst, arith, Bool, true, false, lit≤, inl, inr}
use Rattle.std.specs.Prelude.{◌⊎◌}
use Rattle.std.specs.List.{AllZip, list_any}
use Rattle.ir_eval.specs.declared.value.Scalar.{Scalar}
use Rattle.ir_eval.specs.declared.value.Scalar.TheVariants.{Int, Ptr}
use Rattle.ir_memory.specs.declared.leaf.Leaf.TheVariants as leaf
use Rattle.ir_memory.specs.Memory.{Blocks, copied, filled}
use Rattle.module_arena.specs.declared.host.HostRow.{HostRow}
use Rattle.module_arena.specs.declared.host.HostRow.TheVariants.{Memcpy, Memmove, Memset, MemcpyI64, MemmoveI64, MemsetI64, MemcpyI32, MemmoveI32, MemsetI32}
use Rattle.run_rules.specs.Answer.{changes}
use Rattle.run_rules.specs.Host.{done, is_poison, operand_at}
use Rattle.typed_runs.specs.Kinds.{IsOf}
use Rattle.run_actions.specs.Hosts.Taken.{AreCopied, AreFilled, AreTaken, given, number_of}
use Rattle.run_actions.proofs.OnHosts.ByKinds.{taken_by}

module _ (m : Blocks) where
  abbrev count : ℕ
  count = length m.list

  -- none of the arguments is poison
  abbrev IsFull : List Scalar → Type 0
  IsFull vs = list_any is_poison vs ≡ false

  -- ---- one argument

  -- a number
  pub one_number : (row : HostRow) (width : ℕ) (vs : List Scalar) → AllZip (IsOf count) (leaf.Int width ∷ []) vs → IsFull vs → done row (Int (number_of (operand_at vs 0)) ∷ []) m ≡ done row vs m
  one_number row width vs is full = taken_by count (leaf.Int width ∷ []) (λ us. done row (Int (number_of (operand_at us 0)) ∷ []) m ≡ done row us m) (λ n small. refl) vs is full

  -- ---- copies

  word_fits : (n : ℕ) → n < 2 ^ 32 → n < 2 ^ 64
  word_fits n small = let more : 2 ^ 32 ≤ 2 ^ 64 = lit≤ tt in omega (arith, small, more)

  -- a copy by these arguments
  pub record IsCopy (row : HostRow) (may_overlap : Bool) (vs : List Scalar) : Type 0 where
    pub arguments : AreCopied m.list vs
    pub does : changes (given row vs) (copied (operand_at vs 0) (operand_at vs 1) (number_of (operand_at vs 2)) may_overlap m) ≡ done row vs m

  abbrev Copies : HostRow → Bool → Type 0
  Copies row may_overlap = (vs : List Scalar) → IsFull vs → AreTaken row count vs → IsCopy row may_overlap vs

  memcpy : Copies Memcpy false
  memcpy vs full is = taken_by count (leaf.Ptr ∷ leaf.Ptr ∷ leaf.Int 64 ∷ []) (IsCopy Memcpy false) (λ p k q l n small. record { arguments = (k, l, small); does = refl }) vs is full

  memmove : Copies Memmove true
  memmove vs full is = taken_by count (leaf.Ptr ∷ leaf.Ptr ∷ leaf.Int 64 ∷ []) (IsCopy Memmove true) (λ p k q l n small. record { arguments = (k, l, small); does = refl }) vs is full

  memcpy_i64 : Copies MemcpyI64 false
  memcpy_i64 vs full is =
      taken_by count (leaf.Ptr ∷ leaf.Ptr ∷ leaf.Int 64 ∷ leaf.Int 1 ∷ []) (IsCopy MemcpyI64 false) (λ p k q l n small v bit. record { arguments = (k, l, small); does = refl }) vs is full

  memmove_i64 : Copies MemmoveI64 true
  memmove_i64 vs full is =
      taken_by count (leaf.Ptr ∷ leaf.Ptr ∷ leaf.Int 64 ∷ leaf.Int 1 ∷ []) (IsCopy MemmoveI64 true) (λ p k q l n small v bit. record { arguments = (k, l, small); does = refl }) vs is full

  memcpy_i32 : Copies MemcpyI32 false
  memcpy_i32 vs full is =
      taken_by count (leaf.Ptr ∷ leaf.Ptr ∷ leaf.Int 32 ∷ leaf.Int 1 ∷ []) (IsCopy MemcpyI32 false) (λ p k q l n small v bit. record { arguments = (k, l, word_fits n small); does = refl }) vs is full

  memmove_i32 : Copies MemmoveI32 true
  memmove_i32 vs full is =
      taken_by count (leaf.Ptr ∷ leaf.Ptr ∷ leaf.Int 32 ∷ leaf.Int 1 ∷ []) (IsCopy MemmoveI32 true) (λ p k q l n small v bit. record { arguments = (k, l, word_fits n small); does = refl }) vs is full

  -- the row is that one
  copy_at : (row other : HostRow) (may_overlap : Bool) → row ≡ other → Copies other may_overlap → Copies row may_overlap
  copy_at row other may_overlap e h = subst (λ r. Copies r may_overlap) (sym e) h

  pub copies_apart : (row : HostRow) → ((row ≡ Memcpy) ⊎ ((row ≡ MemcpyI64) ⊎ (row ≡ MemcpyI32))) → Copies row false
  copies_apart row (inl e) = copy_at row Memcpy false e memcpy
  copies_apart row (inr (inl e)) = copy_at row MemcpyI64 false e memcpy_i64
  copies_apart row (inr (inr e)) = copy_at row MemcpyI32 false e memcpy_i32

  pub copies_over : (row : HostRow) → ((row ≡ Memmove) ⊎ ((row ≡ MemmoveI64) ⊎ (row ≡ MemmoveI32))) → Copies row true
  copies_over row (inl e) = copy_at row Memmove true e memmove
  copies_over row (inr (inl e)) = copy_at row MemmoveI64 true e memmove_i64
  copies_over row (inr (inr e)) = copy_at row MemmoveI32 true e memmove_i32

  -- ---- fills

  -- a fill by these arguments
  pub record IsFill (row : HostRow) (vs : List Scalar) : Type 0 where
    pub arguments : AreFilled m.list vs
    pub does : changes (given row vs) (filled (operand_at vs 0) (number_of (operand_at vs 1) % 256) (number_of (operand_at vs 2)) m) ≡ done row vs m

  abbrev Fills : HostRow → Type 0
  Fills row = (vs : List Scalar) → IsFull vs → AreTaken row count vs → IsFill row vs

  low_byte : (b : ℕ) → b < 2 ^ 8 → b % 256 ≡ b
  low_byte b small = omega (arith, small)

  memset : Fills Memset
  memset vs full is = taken_by count (leaf.Ptr ∷ leaf.Int 32 ∷ leaf.Int 64 ∷ []) (IsFill Memset) (λ p k b wide n small. record { arguments = (k, small); does = refl }) vs is full

  memset_i64 : Fills MemsetI64
  memset_i64 vs full is =
      taken_by count (leaf.Ptr ∷ leaf.Int 8 ∷ leaf.Int 64 ∷ leaf.Int 1 ∷ []) (IsFill MemsetI64)
      (λ p k b narrow n small v bit. record { arguments = (k, small); does = ap (λ x. changes [] (filled (Ptr p) x n m)) (low_byte b narrow) }) vs is full

  memset_i32 : Fills MemsetI32
  memset_i32 vs full is =
      taken_by count (leaf.Ptr ∷ leaf.Int 8 ∷ leaf.Int 32 ∷ leaf.Int 1 ∷ []) (IsFill MemsetI32)
      (λ p k b narrow n small v bit. record { arguments = (k, word_fits n small); does = ap (λ x. changes [] (filled (Ptr p) x n m)) (low_byte b narrow) }) vs is full

  pub fills : (row : HostRow) → ((row ≡ Memset) ⊎ ((row ≡ MemsetI64) ⊎ (row ≡ MemsetI32))) → Fills row
  fills row (inl e) = subst Fills (sym e) memset
  fills row (inr (inl e)) = subst Fills (sym e) memset_i64
  fills row (inr (inr e)) = subst Fills (sym e) memset_i32
