-- What the parts of a body spell.
use Rattle.std.proofs.Common.{◌≡◌, ℕ, ◌<◌, List, [], ◌∷◌, ◌++◌, length, refl, sym, ap, ◌∙◌, arith}
use Rattle.std.proofs.lemmas.List.{length-map}
use Rattle.ir_tables.specs.Opcode.{opcode_code}
use Rattle.type_table.specs.Tree.{Tree}
use Rattle.module_arena.specs.declared.entry.Block as the_block
use Rattle.module_arena.specs.declared.entry.Function.{Function}
use Rattle.module_arena.specs.declared.instruction.Value.{Value}
use Rattle.module_arena.specs.declared.instruction.Value.TheVariants as value
use Rattle.module_arena.specs.Lists.{Lists, value_names, function_blocks}
use Rattle.module_arena.specs.Module as m
use Rattle.module_arena.specs.View.{local_view}
use Rattle.record_table.specs.Fields.{block, ty}
use Rattle.record_table.specs.Constants as constants
use Rattle.record_write.specs.Operands.Numbered.{indices, inside, values_in, labels_in, value_of, label_of, constant_of}
use Rattle.record_write.specs.Operands.Wide.{IsBody, HasValueAt}
use Rattle.record_write.proofs.OnOperands.Places.{local_place}

module _ (a : Lists) (f : Function) where
  abbrev type_spelled : Tree → List ℕ
  type_spelled t = (ty (indices a)).spell t

  -- a constant is spelled in a body as outside
  mutual
    pub same_spelled : (t : Tree) (c : m.Constant) → constants.spell_constant (indices a) t c ≡ constants.spell_constant (inside a f) t c
    same_spelled t (m.Integer n) = refl
    same_spelled t (m.Truth b) = refl
    same_spelled t m.Null = refl
    same_spelled t m.Undef = refl
    same_spelled t m.Poison = refl
    same_spelled t m.ZeroInitializer = refl
    same_spelled t (m.Address g) = refl
    same_spelled t (m.ByteString bytes) = refl
    same_spelled t (m.Aggregate round cs) = ap (λ (l : List ℕ). 7 ∷ constants.count_constants cs ∷ l) (same_parts cs)
    same_spelled t (m.ElementAddress flags source cs) = ap (λ (l : List ℕ). 9 ∷ flags ∷ type_spelled source ++ l) (same_operands cs)
    same_spelled t (m.Cast o from c to) = ap (λ (l : List ℕ). 10 ∷ opcode_code o ∷ type_spelled from ++ l) (same_spelled from c)
    same_spelled t (m.Binary o flags s x u y) =
        ap (λ (l : List ℕ). 11 ∷ opcode_code o ∷ flags ∷ l ++ constants.spell_constant (indices a) u y) (same_spelled s x)
        ∙ ap (λ (l : List ℕ). 11 ∷ opcode_code o ∷ flags ∷ constants.spell_constant (inside a f) s x ++ l) (same_spelled u y)

    same_parts : (cs : m.Constants) → constants.spell_parts (indices a) cs ≡ constants.spell_parts (inside a f) cs
    same_parts m.no_constants = refl
    same_parts (m.more_constants t c cs) =
        ap (λ (l : List ℕ). l ++ constants.spell_parts (indices a) cs) (same_spelled t c) ∙ ap (λ (l : List ℕ). constants.spell_constant (inside a f) t c ++ l) (same_parts cs)

    same_operands : (cs : m.Constants) → constants.spell_operands (indices a) cs ≡ constants.spell_operands (inside a f) cs
    same_operands m.no_constants = refl
    same_operands (m.more_constants t c cs) =
        ap (λ (l : List ℕ). l ++ constants.count_constants cs ∷ constants.spell_typed (indices a) cs) (same_spelled t c)
        ∙ ap (λ (l : List ℕ). constants.spell_constant (inside a f) t c ++ constants.count_constants cs ∷ l) (same_typed cs)

    same_typed : (cs : m.Constants) → constants.spell_typed (indices a) cs ≡ constants.spell_typed (inside a f) cs
    same_typed m.no_constants = refl
    same_typed (m.more_constants t c cs) =
        ap (λ (l : List ℕ). type_spelled t ++ l ++ constants.spell_typed (indices a) cs) (same_spelled t c)
        ∙ ap (λ (l : List ℕ). type_spelled t ++ constants.spell_constant (inside a f) t c ++ l) (same_typed cs)

  -- a local of the function stands at its number
  local_at : (t : Tree) (id : ℕ) → IsBody a f → id < length (value_names f) → 0 ∷ id ∷ [] ≡ (constants.value (inside a f) t).spell (value_of a f (value.Local id))
  local_at t id body lt =
      let many = length-map (value_names f) local_view in
      ap (λ (n : ℕ). 0 ∷ n ∷ []) (sym (local_place (values_in a f) id body.values (omega (arith, many, lt))))

  pub local_spelled : (t : Tree) (v : Value) (id : ℕ) → v ≡ value.Local id → IsBody a f → HasValueAt a f t v → 0 ∷ id ∷ [] ≡ (constants.value (inside a f) t).spell (value_of a f v)
  local_spelled t v id is body has = rw is (local_at t id body (rw is at has))

  pub known_spelled : (t : Tree) (v : Value) (id : ℕ) → v ≡ value.Known id → constants.spell_constant (indices a) t (constant_of a id) ≡ (constants.value (inside a f) t).spell (value_of a f v)
  known_spelled t v id is = rw is (same_spelled t (constant_of a id))

  -- a block stands at its number
  pub block_spelled : (id : ℕ) → IsBody a f → id < length (function_blocks f) → id ∷ [] ≡ (block (inside a f)).spell (label_of a f id)
  block_spelled id body lt =
      let many = length-map (function_blocks f) (λ (b : the_block.Block). local_view b.name) in
      ap (λ (n : ℕ). n ∷ []) (sym (local_place (labels_in a f) id body.blocks (omega (arith, many, lt))))
