-- Codes as they are read, and codes that no table has.
use Rattle.std.proofs.Common.{◌≡◌, ◌≤◌, ℕ, true, false, not, ◌||◌, Option, Some, None, nat_lt, slice_index_or, refl, sym, ap, subst, ◌∙◌, arith}
use Rattle.std.proofs.lemmas.Bool.{ne_eqb, and_from, and_parts, both_ways, lt-ltb}
use Rattle.std.specs.List.{list_all}
use Rattle.ir_tables.specs.declared.opcode.Opcode.{Opcode}
use Rattle.ir_tables.specs.Flag.{flags}
use Rattle.ir_tables.specs.Flags.{has_flag}
use Rattle.module_arena.specs.Forms.{are_flags_of, may_have}
use Rattle.ir_tables.specs.Linkage.{linkage_of_code}
use Rattle.ir_tables.specs.Predicate.{predicate_of_code}
use Rattle.record_table.specs.Walk.{next, break, ask}
use Rattle.record_table.specs.Layout.{number, coded}
use Rattle.record_table.specs.Fields.{alignment, coded_alignments}
use Rattle.record_read.specs.Reader.{Reader, Reads}

-- a number that is a code
pub coded_some : {A : Type 0} (code : A → ℕ) (of_code : ℕ → Option A) (other x : A) (old mid : Reader) (n : ℕ) → Reads number old mid n → of_code n ≡ Some x → Reads (coded code of_code other) old mid x
coded_some code of_code other x old mid n h is =
    let at : of_code (next old.walk).0 ≡ Some x = ap of_code (sym h.value) ∙ is in
    record { value = rw at refl; reader = rw at h.reader }

-- a number that is none
pub coded_none : {A : Type 0} (code : A → ℕ) (of_code : ℕ → Option A) (other : A) (old mid after : Reader) (n : ℕ) → Reads number old mid n → of_code n ≡ None → after ≡ record mid { walk = break 3 mid.walk }
    → Reads (coded code of_code other) old after other
coded_none code of_code other old mid after n h is broken =
    let at : of_code (next old.walk).0 ≡ None = ap of_code (sym h.value) ∙ is in
    record { value = rw at refl; reader = rw at (broken ∙ ap (λ (r : Reader). record r { walk = break 3 r.walk }) h.reader) }

-- an alignment by its code
pub aligned : (old mid after : Reader) (n : ℕ) (x : Option ℕ) → Reads number old mid n → after ≡ record mid { walk = ask 7 (nat_lt n 18) mid.walk } → x ≡ slice_index_or coded_alignments n None → Reads alignment old after x
aligned old mid after n x h asked is = record {
  value = is ∙ ap (λ k. slice_index_or coded_alignments k None) h.value;
  reader = asked ∙ (ap (λ (r : Reader). record r { walk = ask 7 (nat_lt n 18) r.walk }) h.reader ∙ ap (λ k. record old { walk = ask 7 (nat_lt k 18) (next old.walk).1 }) h.value);
}

-- flags by their code

pub flags_fit : (o : Opcode) (n set : ℕ) → n ≤ 511 → set ≡ n → list_all (λ f. not (has_flag set f) || may_have o f) flags ≡ true → (are_flags_of o n ≡ true) × (set ≡ n)
flags_fit o n set small same h = (and_from (nat_lt n 512) (list_all (λ f. not (has_flag n f) || may_have o f) flags) (lt-ltb n 512 (omega arith)) (subst (λ k. list_all (λ f. not (has_flag k f) || may_have o f) flags ≡ true) same h), same)

pub flags_unfit : (o : Opcode) (n set : ℕ) → set ≡ n → list_all (λ f. not (has_flag set f) || may_have o f) flags ≡ false → are_flags_of o n ≡ true → ⊥
flags_unfit o n set same h fit =
    both_ways _ (subst (λ k. list_all (λ f. not (has_flag k f) || may_have o f) flags ≡ false) same h) (and_parts (nat_lt n 512) (list_all (λ f. not (has_flag n f) || may_have o f) flags) fit).1

-- numbers of more than 16 bits
pub no_linkage : (n : ℕ) → 65536 ≤ n → linkage_of_code n ≡ None
unfolding linkage_of_code
no_linkage n large = rw (ne_eqb 0 n (λ h. omega (arith, h)), ne_eqb 1 n (λ h. omega (arith, h)), ne_eqb 2 n (λ h. omega (arith, h)), ne_eqb 3 n (λ h. omega (arith, h)), ne_eqb 4 n (λ h. omega (arith, h)), ne_eqb 5 n (λ h. omega (arith, h)), ne_eqb 6 n (λ h. omega (arith, h)), ne_eqb 7 n (λ h. omega (arith, h)), ne_eqb 8 n (λ h. omega (arith, h)), ne_eqb 9 n (λ h. omega (arith, h)), ne_eqb 10 n (λ h. omega (arith, h))) refl

pub no_predicate : (n : ℕ) → 65536 ≤ n → predicate_of_code n ≡ None
unfolding predicate_of_code
no_predicate n large = rw (ne_eqb 1 n (λ h. omega (arith, h)), ne_eqb 2 n (λ h. omega (arith, h)), ne_eqb 3 n (λ h. omega (arith, h)), ne_eqb 4 n (λ h. omega (arith, h)), ne_eqb 5 n (λ h. omega (arith, h)), ne_eqb 6 n (λ h. omega (arith, h)), ne_eqb 7 n (λ h. omega (arith, h)), ne_eqb 8 n (λ h. omega (arith, h)), ne_eqb 9 n (λ h. omega (arith, h)), ne_eqb 10 n (λ h. omega (arith, h))) refl
