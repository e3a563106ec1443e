-- What a line of a body spells is read back.
use Rattle.std.proofs.Common.{◌≡◌, ℕ, suc, List, ◌∷◌, ◌++◌, None, refl, sym, ap, ◌∙◌}
use Rattle.type_table.specs.Tree.{Tree, void}
use Rattle.module_arena.specs.Module.{Value, Local, Known, Operation, Constant, Integer, Truth, Null, Undef, Poison, ZeroInitializer, Address, ByteString, Aggregate, ElementAddress, Cast, Binary}
use Rattle.record_table.specs.Walk.{going, next}
use Rattle.record_table.specs.Layout.{Layout}
use Rattle.record_table.specs.Fields.{Texts, Numbering, ty, label, alignment}
use Rattle.module_arena.specs.Same.{same_type}
use Rattle.record_table.specs.Constants.{value, value_by, read_nested, spell_constant}
use Rattle.record_table.specs.Lines.{giving, giving_by, result_name}
use Rattle.record_table.specs.Listed.{IsType, IsLabel, IsAlignment}
use Rattle.record_table.specs.FittingConstants.{Fits, ValueFits}
use Rattle.record_table.specs.Lays.{Lays}
use Rattle.record_table.proofs.Layouts.{lays_indexed, lays_both, lays_mapped}
use Rattle.record_table.proofs.ConstantsBack.{constant_back, Back}

module _ (texts : Texts) (k : Numbering) (lays_label : (own : ℕ) → Lays (IsLabel texts own) (label texts own)) where
  -- a value that is a constant
  known_is : (t : Tree) (code : ℕ) (rest : List ℕ) → (value k t).read (going (suc code ∷ rest) None) ≡ (Known (read_nested k 64 t (going (suc code ∷ rest) None)).0, (read_nested k 64 t (going (suc code ∷ rest) None)).1)
  unfolding next value_by read_nested
  known_is t code rest = refl

  begins : (c : Constant) (t : Tree) → (code : ℕ) × (rest : List ℕ) × (spell_constant k t c ≡ suc code ∷ rest)
  begins (Integer n) t = (_, _, refl)
  begins (Truth b) t = (_, _, refl)
  begins Null t = (_, _, refl)
  begins Undef t = (_, _, refl)
  begins Poison t = (_, _, refl)
  begins ZeroInitializer t = (_, _, refl)
  begins (Address g) t = (_, _, refl)
  begins (ByteString bytes) t = (_, _, refl)
  begins (Aggregate round cs) t = (_, _, refl)
  begins (ElementAddress f source cs) t = (_, _, refl)
  begins (Cast o from c to) t = (_, _, refl)
  begins (Binary o f s a u b) t = (_, _, refl)

  known_from : (t : Tree) (c : Constant) (rest operands : List ℕ) (code : ℕ) (others : List ℕ) → operands ≡ suc code ∷ others → read_nested k 64 t (going (operands ++ rest) None) ≡ (c, going rest None)
      → (value k t).read (going (operands ++ rest) None) ≡ (Known c, going rest None)
  known_from t c rest operands code others e back =
      let there : read_nested k 64 t (going (suc code ∷ (others ++ rest)) None) ≡ (c, going rest None) = ap (λ x. read_nested k 64 t (going (x ++ rest) None)) (sym e) ∙ back in
      ap (λ x. (value k t).read (going (x ++ rest) None)) e ∙ known_is t code (others ++ rest) ∙ ap (λ x. (Known x.0, x.1)) there

  known_back : (t : Tree) (c : Constant) (rest : List ℕ) → Fits k c 64 t → (value k t).read (going (spell_constant k t c ++ rest) None) ≡ (Known c, going rest None)
  unfolding Back
  known_back t c rest fit = let front = begins c t in known_from t c rest (spell_constant k t c) front.0 front.1 front.2 (constant_back k c 64 t fit rest)

  value_back : (t : Tree) (v : Value) (rest : List ℕ) → ValueFits k t v → (value k t).read (going ((value k t).spell v ++ rest) None) ≡ (v, going rest None)
  unfolding next value_by
  value_back t (Local name) rest fit = rw (fit.inside, fit.found) refl
  value_back t (Known c) rest fit = known_back t c rest fit

  pub lays_value : (t : Tree) → Lays (ValueFits k t) (value k t)
  lays_value t = record { back = value_back t }

  pub lays_ty : Lays (IsType k) (ty k)
  lays_ty = lays_indexed same_type k.types void

  pub lays_alignment : Lays IsAlignment alignment
  unfolding next
  lays_alignment = record { back = λ a rest fit. rw (fit.inside, fit.found) refl }

  pub lays_giving : {A : Type 0} {good : A → Type 0} {l : Layout A} (own : ℕ) (to : A → Operation) (from : Operation → A) → Lays good l
      → Lays (λ i. (IsLabel texts own (result_name i) × good (from i.operation)) × (giving (result_name i) (to (from i.operation)) ≡ i)) (giving_by texts own to from l)
  lays_giving own to from lays = lays_mapped (λ x. giving x.0 (to x.1)) (λ i. (result_name i, from i.operation)) (lays_both (lays_label own) lays)
