-- Strings that lie in memory as they are.
use Rattle.std.proofs.Common.{◌≡◌, ℕ, zero, suc, ◌+◌, ◌^◌, ◌<◌, List, [], ◌∷◌, length, take, true, Ok, not, cond, sym, ap, ◌∙◌, arith}
use Rattle.std.specs.List.{prefix_len}
use Rattle.std.proofs.Math.Dec.{eqb-suc-zero}
use Rattle.std.proofs.Math.Nat.{mod-eq_of_lt}
use Rattle.ir_eval.specs.declared.value.Pointer.{Pointer}
use Rattle.ir_memory.specs.Memory.{Blocks}
use Rattle.ir_memory.specs.Plain.{LoadsBytes}
use Rattle.run_rules.specs.Access.{and_then, behind, in_front, string_from, string_within}
use Rattle.run_names.specs.Values.Strings.{is_inside}

-- the pointer to another address of the block
abbrev moved : Pointer → ℕ → Pointer
moved p address = record p { address = address }

-- one byte more stands before the first zero
one_more : (k : ℕ) (bytes : List ℕ) → prefix_len is_inside (suc k ∷ bytes) ≡ suc (prefix_len is_inside bytes)
one_more k bytes =
    let test : is_inside (suc k) ≡ true = ap not (eqb-suc-zero k) in
    let more : 1 + prefix_len is_inside bytes ≡ suc (prefix_len is_inside bytes) = omega arith in
    ap (λ t. cond t (1 + prefix_len is_inside bytes) 0) test ∙ more

-- bytes of which one is zero are a string and more
pub whole_string : (m : Blocks) (p : Pointer) (bytes : List ℕ) (room : ℕ) → LoadsBytes m p bytes → p.address + length bytes < 2 ^ 64
    → prefix_len is_inside bytes < length bytes → prefix_len is_inside bytes < room → string_within m room p ≡ Ok (take (prefix_len is_inside bytes) bytes)
unfolding string_within
whole_string m p [] room h small some few = absurd (omega (arith, some))
whole_string m p (byte ∷ bytes) zero h small some few = absurd (omega (arith, few))
whole_string m p (zero ∷ bytes) (suc room) h small some few = ap (λ r. and_then r (λ byte. string_from byte (string_within m room (behind p 1)))) h.0
whole_string m p (suc k ∷ bytes) (suc room) h small some few =
    let step = one_more k bytes in
    let within : p.address + 1 < 2 ^ 64 = omega (arith, small) in
    let next : behind p 1 ≡ moved p (p.address + 1) = ap (moved p) (mod-eq_of_lt within) in
    ap (λ r. and_then r (λ byte. string_from byte (string_within m room (behind p 1)))) h.0
    ∙ ap (in_front (Ok (suc k)))
    (ap (string_within m room) next ∙ whole_string m (moved p (p.address + 1)) bytes room h.1 (omega (arith, small)) (omega (arith, some, step)) (omega (arith, few, step)))
    ∙ ap (λ n. Ok (take n (suc k ∷ bytes))) (sym step)
