-- One turn of each loop that passes over operands.
use Rattle.std.proofs.Common.{◌≡◌, ℕ, zero, suc, ◌+◌, ◌-◌, ◌<◌, Bool, List, [], length, drop, get_or, Option, Ok, Err, refl, arith}
use Rattle.std.proofs.lemmas.List.{drop_more}
use Rattle.bit_stream.specs.Bits.Cursor.{Cursor}
use Rattle.bit_stream.specs.declared.bits.fault.BitFault.{BitFault}
use Rattle.bit_stream.specs.declared.abbreviation.ValueSpelling.{ValueSpelling}
use Rattle.bit_dump.specs.Walk.Passing.{pass_operand, pass_elements, pass_each}

pub elements_none : (b : Bool) (s : ValueSpelling) (k : ℕ) (first : Option ℕ) (c : Cursor) → k ≡ 0 → pass_elements b s k first c ≡ Ok (first, c)
unfolding pass_elements
elements_none b s k first c h = rw h refl

pub elements_err : (b : Bool) (s : ValueSpelling) (k : ℕ) (first : Option ℕ) (c : Cursor) (e : BitFault) → 0 < k → pass_operand b first s c ≡ Err e → pass_elements b s k first c ≡ Err e
unfolding pass_elements
elements_err b s zero first c e h found = absurd (omega arith)
elements_err b s (suc n) first c e h found = rw found refl

pub elements_more : (b : Bool) (s : ValueSpelling) (k : ℕ) (first more : Option ℕ) (c d : Cursor) → 0 < k → pass_operand b first s c ≡ Ok (more, d) → pass_elements b s k first c ≡ pass_elements b s (k - 1) more d
unfolding pass_elements
elements_more b s zero first more c d h found = absurd (omega arith)
elements_more b s (suc n) first more c d h found = let less : suc n - 1 ≡ n = omega arith in rw (found, less) refl

pub each_none : (b : Bool) (ss : List ValueSpelling) (first : Option ℕ) (c : Cursor) → ss ≡ [] → pass_each b ss first c ≡ Ok (first, c)
unfolding pass_each
each_none b ss first c h = rw h refl

pub each_err : (b : Bool) (ss : List ValueSpelling) (i : ℕ) (s : ValueSpelling) (first : Option ℕ) (c : Cursor) (e : BitFault) → i < length ss → pass_operand b first (get_or ss i s) c ≡ Err e → pass_each b (drop i ss) first c ≡ Err e
unfolding pass_each
each_err b ss i s first c e h found = rw (drop_more ss i s h, found) refl

pub each_more : (b : Bool) (ss : List ValueSpelling) (i : ℕ) (s : ValueSpelling) (first more : Option ℕ) (c d : Cursor) → i < length ss → pass_operand b first (get_or ss i s) c ≡ Ok (more, d) → pass_each b (drop i ss) first c ≡ pass_each b (drop (i + 1) ss) more d
unfolding pass_each
each_more b ss i s first more c d h found = rw (drop_more ss i s h, found) refl
