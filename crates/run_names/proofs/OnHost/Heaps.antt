-- What `malloc` and `free` come to.
use Rattle.std.proofs.Common.{◌≡◌, ℕ, ◌+◌, ◌<◌, [], ◌∷◌, true, false, Option, sym, ap, ap₂, ◌∙◌, arith}
use Rattle.std.specs.Prelude.{if◌then◌else◌}
use Rattle.std.proofs.lemmas.Bool.{eq-eqb, ne_eqb, leb-true}
use Rattle.ir_eval.specs.declared.value.Pointer.{Pointer}
use Rattle.ir_eval.specs.declared.value.Scalar.TheVariants.{Ptr}
use Rattle.ir_intrinsics.specs.declared.outcome.Outcome.{Outcome}
use Rattle.ir_memory.specs.declared.kind.BlockKind.TheVariants.{Heap}
use Rattle.ir_memory.specs.Memory.{Blocks, added, ended, live_bytes, byte_limit}
use Rattle.run_rules.specs.declared.end.End.TheVariants as ends
use Rattle.run_rules.specs.Access.{has_room, next_block}
use Rattle.run_rules.specs.Answer.{Gives, Halts, changes}
use Rattle.run_rules.specs.Host.{allocates, frees}
use Rattle.run_names.specs.Host.Answers.{leaves_of}

-- the block that was added is the one that is to be given
pub allocated : (size : ℕ) (m n : Blocks) (p : Pointer) (result : Option Outcome) → has_room size m ≡ true → p ≡ next_block 16 m → n ≡ added size 16 Heap m → leaves_of result ≡ Ptr p ∷ []
    → allocates size m ≡ Gives (leaves_of result) n []
allocated size m n p result room at is leaves =
    ap (λ b. if b then Gives (Ptr (next_block 16 m) ∷ []) (added size 16 Heap m) [] else Halts ends.MemoryLimit) room
    ∙ ap₂ (λ l o. Gives l o []) (ap (λ q. Ptr q ∷ []) (sym at) ∙ sym leaves) (sym is)

pub no_room : (size : ℕ) (m : Blocks) → has_room size m ≡ false → allocates size m ≡ Halts ends.MemoryLimit
no_room size m full = ap (λ b. if b then Gives (Ptr (next_block 16 m) ∷ []) (added size 16 Heap m) [] else Halts ends.MemoryLimit) full

-- where room is, the limit is not passed
pub within_limit : (size : ℕ) (m : Blocks) → has_room size m ≡ true → byte_limit < live_bytes m.list + size → ⊥
within_limit size m room more = let le = leb-true (live_bytes m.list + size) byte_limit room in omega (arith, le, more)

pub small : (size : ℕ) (m : Blocks) → has_room size m ≡ true → size < 268435457
small size m room = let le = leb-true (live_bytes m.list + size) byte_limit room in omega (arith, le)

pub freed_null : (p : Pointer) (m : Blocks) → p.address ≡ 0 → frees p m ≡ Gives [] m []
freed_null p m e = ap (λ b. if b then Gives [] m [] else changes [] (ended (Ptr p) Heap m)) (eq-eqb p.address 0 e)

pub freed : (p : Pointer) (m : Blocks) → (p.address ≡ 0 → ⊥) → frees p m ≡ changes [] (ended (Ptr p) Heap m)
freed p m e = ap (λ b. if b then Gives [] m [] else changes [] (ended (Ptr p) Heap m)) (ne_eqb p.address 0 e)
