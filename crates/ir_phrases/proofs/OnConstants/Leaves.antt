-- Types and constants of one token are read by rows of their own.
use Rattle.std.proofs.Common.{◌≡◌, ◌==◌, inl, inr, ℕ, true, false, List, [], ◌∷◌, cond, refl}
use Rattle.std.proofs.lemmas.Bool.{eqb-true, cases_Bool}
use Rattle.ir_lexer.specs.Ahead.{Located}
use Rattle.ir_terminals.specs.PhraseRows.Row.{among, begins}
use Rattle.ir_terminals.specs.declared.limits.Limits.{Limits}
use Rattle.ir_terminals.specs.declared.terminal.Terminal.TheVariants as terminal
use Rattle.ir_terminals.specs.Role.{class}
use Rattle.ir_terminals.specs.Terminal.{code, integer_type_class}
use Rattle.ir_phrases.specs.Constants.Types.{int_row, ptr_row, void_row, named_row, nest_row, value_type_core, type_core, type_at}
use Rattle.ir_phrases.specs.Constants.Constants.{integer_constant_row, constant_core, constant_row}

-- what is of one class is of no other
one_class : (k j i : ℕ) → (j == i) ≡ false → among k (j ∷ []) ≡ true → among k (i ∷ []) ≡ false
one_class k j i other h = elim (cases_Bool (k == j)) [
  | inl e ↦ (let same = eqb-true k j e in rw same (rw other refl))
  | inr e ↦ absurd (let no = rw e at h in cc)
]

pub integer_type_first : (limits : Limits) (d : ℕ) (ts : List Located) → begins class (integer_type_class ∷ []) ts ≡ true → (type_at limits d).run ts ≡ int_row.run ts
unfolding type_core value_type_core
integer_type_first limits d [] h = absurd cc
integer_type_first limits d (t ∷ ts) h =
    let other = one_class (class t) integer_type_class (code terminal.Void) refl h in
    λ j. cond (other j) (void_row.run (t ∷ ts)) (cond (h j) (int_row.run (t ∷ ts)) (cond (among (class t) (code terminal.Ptr ∷ [])) (ptr_row.run (t ∷ ts)) (cond (among (class t) (code terminal.Local ∷ [])) ((named_row limits).run (t ∷ ts)) ((nest_row limits d).run (t ∷ ts)))))

pub ptr_first : (limits : Limits) (d : ℕ) (ts : List Located) → begins class (code terminal.Ptr ∷ []) ts ≡ true → (type_at limits d).run ts ≡ ptr_row.run ts
unfolding type_core value_type_core
ptr_first limits d [] h = absurd cc
ptr_first limits d (t ∷ ts) h =
    let void = one_class (class t) (code terminal.Ptr) (code terminal.Void) refl h in
    let int = one_class (class t) (code terminal.Ptr) integer_type_class refl h in
    λ j. cond (void j) (void_row.run (t ∷ ts)) (cond (int j) (int_row.run (t ∷ ts)) (cond (h j) (ptr_row.run (t ∷ ts)) (cond (among (class t) (code terminal.Local ∷ [])) ((named_row limits).run (t ∷ ts)) ((nest_row limits d).run (t ∷ ts)))))

-- and so are the constants that are integers
pub integer_first : (limits : Limits) (ts : List Located) → begins class (code terminal.Integer ∷ []) ts ≡ true → (constant_row limits).run ts ≡ integer_constant_row.run ts
unfolding constant_core
integer_first limits ts h = rw h refl
